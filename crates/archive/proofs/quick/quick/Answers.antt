-- `archive::quick::quick` meets its contract: in each turn a stretch (`after_stretch`) and a designation (`told_found`) lead on, under the sets that
-- they leave, and the two parts of the row are those of the sets.
use Rattle.element.proofs.Names.{ℕ, ◌+◌, ◌≤◌, arith, ◌≡◌, refl, ap, sym, ◌∙◌, List, form_of, GL, GR, put, Sets}
use Rattle.octet_stretches.specs.Stretched.{Stretched}
use Rattle.octet_stretches.proofs.Laws.{fits}
use Rattle.octet_table.specs.Table.{left_of, right_of, row_of}
use Rattle.octet_table.proofs.Rule.{left_most, right_most}
use Rattle.archive_laws.specs.Passes.{Reaches, row_at}
use Rattle.archive_laws.proofs.Passes.{designation_some, reaches_none, reaches_units, reaches_told}
use Rattle.archive.proofs.Found.{told_found}
use Rattle.archive.proofs.quick.quick.Goals as goal

-- the two parts of the row, as one number
row_parts : (a : Sets) (high low : ℕ) → high ≡ left_of (form_of a.gl) → low ≡ right_of (form_of a.gr) → (high + low ≡ row_of a) × (high + low ≤ 1280)
row_parts a high low e f =
    let l = left_most (form_of a.gl) in
    let r = right_most (form_of a.gr) in (rw (e, f) refl, omega (arith, e, f, l, r))

-- after the stretch of a turn
after_stretch : {t s : List ℕ} {at i j n u high low : ℕ} {a b : Sets}
    → Reaches t s at a i b n × (high ≡ left_of (form_of b.gl)) × (low ≡ right_of (form_of b.gr))
    → Stretched (row_at (high + low) t) s i j u → Reaches t s at a j b (n + u)
after_stretch inv u =
    let row = row_parts _ _ _ inv.1 inv.2 in
    reaches_units _ _ _ _ _ _ _ _ _ _ inv.0 row.0 row.1 u

pub loop-place-init : goal.loop-place-init
loop-place-init c = (
  reaches_none _ _ _ _ c.requires,
  c.left_of-high.ensures ∙ ap left_of c.form_of.ensures,
  c.right_of-low.ensures ∙ ap right_of c.form_of-2.ensures,
)

pub overflow_add-high : goal.overflow_add-high
overflow_add-high c = let inv = c.loop-place.invariant in omega (arith, (row_parts _ _ _ inv.1 inv.2).1)

pub stretch_in-u-requires : goal.stretch_in-u-requires
stretch_in-u-requires c = let inv = c.loop-place.invariant in omega (arith, (row_parts _ _ _ inv.1 inv.2).1)

pub overflow_add-place : goal.overflow_add-place
overflow_add-place c = omega (arith, (after_stretch c.loop-place.invariant c.stretch_in-u.ensures).within)

pub overflow_add-units : goal.overflow_add-units
overflow_add-units c = let p = after_stretch c.loop-place.invariant c.stretch_in-u.ensures in omega (arith, p.since, p.within)

pub escape_at-requires : goal.escape_at-requires
escape_at-requires c = (after_stretch c.loop-place.invariant c.stretch_in-u.ensures).within

pub returns-in_default : goal.returns-in_default
returns-in_default c = after_stretch c.loop-place.invariant c.stretch_in-u.ensures

pub overflow_add-place-then-escape_at-6 : goal.overflow_add-place-then-escape_at-6
overflow_add-place-then-escape_at-6 c =
    let told = told_found _ _ _ _ (c.escape_at.ensures c.if-escape_at.true) c.told.ensures c.in-Some.is in
    omega (arith, (designation_some _ _ _ told.0 told.1.0).1)

pub loop-place-smaller-in-GL : goal.loop-place-smaller-in-GL
loop-place-smaller-in-GL c =
    let told = told_found _ _ _ _ (c.escape_at.ensures c.if-escape_at.true) c.told.ensures c.in-Some.is in
    let some = designation_some _ _ _ told.0 told.1.0 in omega (arith, some.0, some.1)

pub loop-place-preserved-in-GL : goal.loop-place-preserved-in-GL
unfolding put
loop-place-preserved-in-GL c =
    let inv = c.loop-place.invariant in
    let told = told_found _ _ _ _ (c.escape_at.ensures c.if-escape_at.true) c.told.ensures c.in-Some.is in (
      reaches_told _ _ _ _ _ _ _ (after_stretch inv c.stretch_in-u.ensures) _ told.0 told.1.0 GL c.in-GL.is,
      c.left_of-high-in-GL.ensures ∙ ap left_of (c.form_after.ensures ∙ sym told.1.1),
      inv.2,
    )

pub loop-place-smaller-in-GR : goal.loop-place-smaller-in-GR
loop-place-smaller-in-GR c =
    let told = told_found _ _ _ _ (c.escape_at.ensures c.if-escape_at.true) c.told.ensures c.in-Some.is in
    let some = designation_some _ _ _ told.0 told.1.0 in omega (arith, some.0, some.1)

pub loop-place-preserved-in-GR : goal.loop-place-preserved-in-GR
unfolding put
loop-place-preserved-in-GR c =
    let inv = c.loop-place.invariant in
    let told = told_found _ _ _ _ (c.escape_at.ensures c.if-escape_at.true) c.told.ensures c.in-Some.is in (
      reaches_told _ _ _ _ _ _ _ (after_stretch inv c.stretch_in-u.ensures) _ told.0 told.1.0 GR c.in-GR.is,
      inv.1,
      c.right_of-low-in-GR.ensures ∙ ap right_of (c.form_after-in-GR.ensures ∙ sym told.1.1),
    )

pub returns-then-u-eq0 : goal.returns-then-u-eq0
returns-then-u-eq0 c = after_stretch c.loop-place.invariant c.stretch_in-u.ensures

pub loop-place-smaller : goal.loop-place-smaller
loop-place-smaller c = omega (arith, c.if-u-eq0.false, (fits c.stretch_in-u.ensures).0)

pub loop-place-preserved : goal.loop-place-preserved
loop-place-preserved c = let inv = c.loop-place.invariant in (after_stretch inv c.stretch_in-u.ensures, inv.1, inv.2)

pub returns-after-loop-place : goal.returns-after-loop-place
returns-after-loop-place c = c.loop-place.invariant.0
