-- Where a unit's set stands when X11R5 writes it (rule X4). What is designated may stand where it is put, and then the unit may be shown (`home`), so a unit
-- and what follows it read as units (`written`). A designation stands before a unit only where its need is not met (`only_needed`), as antt computes for each
-- kind of unit; and sets 12 to 14 are never put to GR (`narrow_after`), as it computes for the fifteen sets.
use Rattle.element.proofs.Names.{ℕ, ◌≤◌, arith, ◌≡◌, refl, sym, ap, ◌∙◌, Bool, true, false, cond, ◌||◌, not, List, [], ◌∷◌, ◌++◌, Option, none}
use Rattle.element.proofs.Names.{some, ⊎_elim, length, length-append, eqb, eqb-true, ne_eqb, test, cond_by, off, clash, Side, GL, GR, allowed, may_use}
use Rattle.element.proofs.Names.{form_of, form_94x94, row_of, Standing, on, get, put, Sets}
use mathlib.Core.List.{append_assoc}
use borrow.Author.Tests.{not-true}
use Rattle.base.proofs.Bools.{or_cases, implies, implies_elim}
use Rattle.charset.proofs.Laws.{row_past, by_rows}
use Rattle.grammar.specs.Units.{TextUnit, char, space, control, Control, tab, newline, ltr, rtl, revert, ext, wide, octets, designation, good}
use Rattle.grammar.specs.Grammar.{Shows, Reads, designate, show, Legal}
use Rattle.grammar.proofs.Agrees.{put_legal}
use Rattle.grammar.proofs.Sound.{lead_size}
use Rattle.shortest.specs.Writing.{Need, free, either, stands, met, used, after, designated}
use Rattle.shortest.proofs.Bounds.{good_side}
use Rattle.shortest.proofs.Needs.{put_stands}
use Rattle.shortest.proofs.Sets.{space_sets}
use Rattle.state.specs.State.{put'}
use Rattle.x11r5.specs.Writing.{unsupported_unit, home_of, home_need, home_choice, home_after, home_octets}

-- ---- the need of a unit

-- what a unit needs: nothing, or one of two, of which the first may be designated and with either of which it may be shown
data Home (u : TextUnit) : Need → Type 0 where
  anywhere : ((s : Sets) → Shows u GL s) → Home u free
  at_home : {a b : Standing} → allowed a.side a.set ≡ true
      → ((s : Sets) → met (either a b) s ≡ true → Shows u (used (either a b) s) s) → Home u (either a b)

home_allowed : (c k : ℕ) → good (char c k) ≡ true → allowed (home_of c).side c ≡ true
home_allowed c k g = go (allowed GL c) refl (good_side c k g)
  where
    go : (x : Bool) → allowed GL c ≡ x → (x || allowed GR c) ≡ true → allowed (cond x GL GR) c ≡ true
    go true e h = e
    go false e h = h

-- of a character the two are one
char_shows : (c : ℕ) (d : Side) (s : Sets) → met (either (on d c) (on d c)) s ≡ true → get (used (either (on d c) (on d c)) s) s ≡ c
unfolding met used stands
char_shows c d s e = test (eqb (get d s) c) (λ q. rw q (eqb-true _ c q)) (λ q. off (rw q at e))

home : (u : TextUnit) → good u ≡ true → Home u (home_need u)
unfolding home_need allowed may_use met stands used wide form_of
home (char c k) g = at_home (home_allowed c k g) (char_shows c (home_of c).side)
home space g =
    at_home {a = on GL 0} {b = on GL 2} refl (λ s e. ⊎_elim (λ q. rw (eqb-true s.gl 0 q)) (λ q. rw (eqb-true s.gl 2 q)) (or_cases _ _ e))
home (control x) g = anywhere (λ s. tt)
home (ext e xs) g = anywhere (λ s. tt)

-- ---- a unit, and what follows it

module _ (u : TextUnit) (g : good u ≡ true) (us : List TextUnit) (f : Sets → List ℕ) (s : Sets) (l : Legal s)
    (k : (next : Sets) → Legal next → Reads next (f next) us) where
  abbrev Written : Need → Option Standing → Type 0
  Written n o = Reads s ((designated o ++ octets (used n (after o s)) u) ++ f (after o s)) (u ∷ us)

  put_met : (a b : Standing) → met (either a b) (put a s) ≡ true
  unfolding met
  put_met a b = rw (put_stands a s)

  written_by : {n : Need} → Home u n → Written n (home_choice n s)
  unfolding home_choice used
  written_by (anywhere h) = show u GL g (h s) (k s l)
  written_by (at_home {a} {b} e h) =
      cond_by (Written (either a b)) (met (either a b) s) (λ q. show u _ g (h s q) (k s l))
      (λ q. rw (append_assoc (designation a) (octets (used (either a b) (put a s)) u) (f (put a s)))
      (designate a e (show u _ g (h (put a s) (put_met a b)) (k (put a s) (put_legal a s e l)))))

  -- the octets of a unit before those of units read as all of them
  pub written : Reads s (home_octets u s ++ f (home_after u s)) (u ∷ us)
  written = written_by (home u g)

-- ---- a designation only where it is needed

-- none where the need is met, and where one stands it was not
pub none_met : (u : TextUnit) (s : Sets) → met (home_need u) s ≡ true → home_choice (home_need u) s ≡ none
unfolding home_choice
none_met u s e = go (home_need u) e
  where
    go : (n : Need) → met n s ≡ true → home_choice n s ≡ none
    go free e = refl
    go (either a b) e = rw e

pub only_needed : (u : TextUnit) (s : Sets) (p : Standing) → home_choice (home_need u) s ≡ some p → met (home_need u) s ≡ false
only_needed u s p e = test (met (home_need u) s) (λ q. clash (cc (none_met u s q))) (λ q. q)

module _ (c k : ℕ) (s : Sets) where
  -- a character whose set stands at its home
  pub char_stands : stands (home_of c) s ≡ true → home_octets (char c k) s ≡ octets (home_of c).side (char c k)
  unfolding home_choice home_need met used
  char_stands e = rw e (rw e)

  -- and one whose set does not
  pub char_designates : stands (home_of c) s ≡ false
      → home_octets (char c k) s ≡ designation (home_of c) ++ octets (home_of c).side (char c k)
  unfolding home_choice home_need met used
  char_designates e = rw (e, put_stands (home_of c) s)

module _ (s : Sets) where
  -- a space under a set of one octet
  pub space_plain : Legal s → wide s.gl ≡ false → home_octets space s ≡ 0x20 ∷ []
  unfolding home_choice home_need met stands octets
  space_plain l w = rw (space_sets s.gl l.left w)

  -- and under one of two octets, which is neither set 0 nor set 2
  other : (c : ℕ) → wide c ≡ false → wide s.gl ≡ true → eqb s.gl c ≡ false
  other c n w = ne_eqb s.gl c (λ e. off (sym n ∙ ap wide (sym e) ∙ w))

  pub space_designates : wide s.gl ≡ true → home_octets space s ≡ designation (on GL 0) ++ (0x20 ∷ [])
  unfolding home_choice home_need met stands octets wide form_of
  space_designates w = rw (other 0 refl w, other 2 refl w)

  -- tabs and newlines
  pub control_plain : (x : Control) → home_octets (control x) s ≡ octets GL (control x)
  unfolding home_choice home_need used
  control_plain x = refl

-- ---- the sets in force, and how many octets

-- a set that may not stand in GL is of one octet
right_narrow : (c : ℕ) → allowed GL c ≡ false → wide c ≡ false
unfolding allowed may_use wide form_of
right_narrow c a =
    not-true (wide c)
    (implies_elim (not (allowed GL c)) (not (wide c))
    (by_rows (λ n. implies (not (allowed GL n)) (not (wide n))) refl (λ n h. rw (row_past n h)) c)
    (rw a))

-- no set of two octets is put to GR
pub narrow_after : (u : TextUnit) (s : Sets) → wide s.gr ≡ false → wide (home_after u s).gr ≡ false
unfolding home_need home_choice put
narrow_after (char c k) s w =
    cond_by (λ (o : Option Standing). wide (after o s).gr ≡ false) (met (either (home_of c) (home_of c)) s) (λ _. w) (λ _. go (allowed GL c) refl)
  where
    go : (x : Bool) → allowed GL c ≡ x → wide (put' (cond x GL GR) c s).gr ≡ false
    go true e = w
    go false e = right_narrow c e
narrow_after space s w =
    cond_by (λ (o : Option Standing). wide (after o s).gr ≡ false) (met (either (on GL 0) (on GL 2)) s) (λ _. w) (λ _. w)
narrow_after (control x) s w = w
narrow_after (ext e xs) s w = w

designation_most : (p : Standing) → length (designation p) ≤ 4
unfolding designation
designation_most p =
    rw (lead_size (form_of p.set) p.side (row_of p.set).last (eqb (form_of p.set) form_94x94) refl)
    (cond_by (λ (n : ℕ). n ≤ 4) (eqb (form_of p.set) form_94x94) (λ _. omega arith) (λ _. omega arith))

unit_most : (u : TextUnit) (d : Side) → unsupported_unit u ≡ false → length (octets d u) ≤ 2
unfolding octets
unit_most (char c k) d n = test (wide c) (λ e. rw e (omega arith)) (λ e. rw e (omega arith))
unit_most space d n = omega arith
unit_most (control tab) d n = omega arith
unit_most (control newline) d n = omega arith
unit_most (control ltr) d n = off (sym n)
unit_most (control rtl) d n = off (sym n)
unit_most (control revert) d n = off (sym n)
unit_most (ext e xs) d n = off (sym n)

-- a unit has at most two octets, and a designation four
pub octets_most : (u : TextUnit) (s : Sets) → unsupported_unit u ≡ false → length (home_octets u s) ≤ 6
octets_most u s n = go (home_choice (home_need u) s)
  where
    go : (o : Option Standing) → length (designated o ++ octets (used (home_need u) (after o s)) u) ≤ 6
    go none = omega (arith, unit_most u (used (home_need u) s) n)
    go (some p) =
        let d = used (home_need u) (put p s) in
        omega (arith, unit_most u d n, designation_most p, length-append (designation p) (octets d u))
