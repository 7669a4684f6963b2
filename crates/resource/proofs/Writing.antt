-- The form of a string from a place on is that of its next octet and that of the rest: so the octets counted and those to come are always those of
-- the whole form (`count_next`), and the output with the rest stored is always the output with the whole form stored (`StoredUpTo`).
use Prim.Native.Nat.{ℕ, ◌+◌, ◌-◌, ◌≤◌, ◌<◌}
use native.Mathlib.Omega.{arith}
use mathlib.Core.Path.{◌≡◌, refl, ap, ap₂, sym, ◌∙◌}
use mathlib.Core.List.{List, [], ◌∷◌, ◌++◌, append_assoc}
use lib.Dec.{eqb}
use lib.ListN.{length, get_or, length-append}
use lib.Seq.{sets, length-sets, sets-eq, drop-drop}
use borrow.Rule.Slice.PartMut.{put_mid}
use Rattle.base.specs.Choice.{pick, from}
use Rattle.base.specs.Limit as limit
use Rattle.base.specs.Output.{stored_in}
use Rattle.base.proofs.Ladder.{from_octet, from_end}
use Rattle.base.proofs.Stores.{sets_append, stored_sets}
use Rattle.resource_form.specs.Form.{backslash, newline, nul, letter_n, digit_0, octet_form, resource_form}
use Rattle.resource_form.proofs.Theorems.{form_length}

module _ (s : List ℕ) where
  -- the form from a place on
  split : (i : ℕ) → i < length s → resource_form (from i s) ≡ octet_form (get_or s i 0) ++ resource_form (from (i + 1) s)
  unfolding resource_form
  split i h = ap resource_form (from_octet s i h)

  split_length : (i : ℕ) → i < length s
      → length (resource_form (from i s)) ≡ length (octet_form (get_or s i 0)) + length (resource_form (from (i + 1) s))
  split_length i h = ap length (split i h) ∙ length-append (octet_form (get_or s i 0)) (resource_form (from (i + 1) s))

  -- no octets are left
  none_left : (i : ℕ) → length s ≤ i → resource_form (from i s) ≡ []
  unfolding resource_form
  none_left i h = ap resource_form (from_end s i h)

  from_first : resource_form (from 0 s) ≡ resource_form s
  unfolding from
  from_first = refl

  -- the octets counted before a place
  pub record Counted (i n : ℕ) : Type 0 where
    pub all : n + length (resource_form (from i s)) ≡ length (resource_form s)

  pub count_first : Counted 0 0
  count_first = record { all = omega (arith, ap length from_first) }

  pub count_next : (i n k : ℕ) → i < length s → Counted i n → k ≡ length (octet_form (get_or s i 0)) → Counted (i + 1) (n + k)
  count_next i n k h c e = record { all = omega (arith, c.all, split_length i h) }

  pub count_last : (i n : ℕ) → length s ≤ i → Counted i n → n ≡ length (resource_form s)
  count_last i n h c = omega (arith, c.all, ap length (none_left i h))

  -- they are few
  pub count_few : (i n : ℕ) → length s ≤ limit.octets → Counted i n → n ≤ limit.form
  count_few i n short c = omega (arith, c.all, (form_length s).1)

  -- the output as it is at a place of the string and of the output
  pub record StoredUpTo (old : List ℕ) (i at : ℕ) (out : List ℕ) : Type 0 where
    pub left : at + length (resource_form (from i s)) ≡ length (resource_form s)
    pub stored : sets out at (resource_form (from i s)) ≡ sets old 0 (resource_form s)
    pub same : length out ≡ length old

  pub stored_up_to_first : (old : List ℕ) → StoredUpTo old 0 0 old
  stored_up_to_first old = record { left = omega (arith, ap length from_first); stored = ap (sets old 0) from_first; same = refl }

  -- the next octet's form has room
  pub stored_up_to_room : (old : List ℕ) (i at : ℕ) (out : List ℕ) → length (resource_form s) ≤ length old → i < length s → StoredUpTo old i at out
      → at + length (octet_form (get_or s i 0)) ≤ length out
  stored_up_to_room old i at out room h a = omega (arith, a.left, a.same, split_length i h)

  pub stored_up_to_next : (old : List ℕ) (i at : ℕ) (out : List ℕ) (r : ℕ) (next : List ℕ) → i < length s → StoredUpTo old i at out
      → r ≡ at + length (octet_form (get_or s i 0)) → next ≡ sets out at (octet_form (get_or s i 0)) → StoredUpTo old (i + 1) r next
  stored_up_to_next old i at out r next h a e f =
      let w = octet_form (get_or s i 0) in
      let rest = resource_form (from (i + 1) s) in
      record {
        left = omega (arith, a.left, split_length i h);
        stored =
            ap₂ (λ (l : List ℕ) (p : ℕ). sets l p rest) f e
            ∙ sets_append w rest out at ∙ ap (sets out at) (sym (split i h)) ∙ a.stored;
        same = ap length f ∙ length-sets out at w ∙ a.same;
      }

  pub stored_up_to_last : (old : List ℕ) (i at : ℕ) (out : List ℕ) → length (resource_form s) ≤ length old → length s ≤ i
      → StoredUpTo old i at out
      → out ≡ stored_in (resource_form s) old
  stored_up_to_last old i at out room h a =
      stored_sets (resource_form s) old out room (ap (sets out at) (sym (none_left i h)) ∙ a.stored)

-- one octet's form, test by test
pub form_as : (b : ℕ) (w : List ℕ)
    → w ≡ pick (eqb b backslash) (backslash ∷ backslash ∷ [])
    (pick (eqb b newline) (backslash ∷ letter_n ∷ []) (pick (eqb b nul) (backslash ∷ digit_0 ∷ digit_0 ∷ digit_0 ∷ []) (b ∷ [])))
    → w ≡ octet_form b
unfolding octet_form
form_as b w e = e

-- octets copied into the part of a list from a place on
pub part_sets : (text l part : List ℕ) (at n : ℕ) → n ≡ length text → at + length text ≤ length l → part ≡ text
    → put_mid at (at + n - at) l part ≡ sets l at text
part_sets text l part at n e h f =
    let k : at + n - at ≡ length text = omega arith in
    rw (k, f, drop-drop (length text) at l, sets-eq text l at h, append_assoc)

-- octets stored that are an octet's form
pub put_as : (b at r : ℕ) (l m w : List ℕ) → w ≡ octet_form b → (r ≡ at + length w) × (m ≡ sets l at w)
    → (r ≡ at + length (octet_form b)) × (m ≡ sets l at (octet_form b))
put_as b at r l m w e h = rw (← e) h

-- there is room for the form of an octet
pub room_as : (b at n : ℕ) (w : List ℕ) → w ≡ octet_form b → at + length (octet_form b) ≤ n → at + length w ≤ n
room_as b at n w e h = rw e h
