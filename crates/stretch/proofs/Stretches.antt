-- A stretch's octets are as many elements as it has units (`stretch_ahead`): each of the three kinds of stretch is the law of its width.
use Rattle.element.proofs.Names.{ℕ, ◌*◌, ◌<◌, ◌≤◌, arith, ◌≡◌, refl, sym, subst, Bool, true, false, List, ◌∷◌, eqb, ltb, length, pick, pick_by, from}
use Rattle.element.proofs.Names.{on_lt, on_ge, from_end, from_length, form_94x94, form_of, Side, GL, GR, get, State}
use Rattle.element.specs.Element.{element_of}
use Rattle.element.proofs.Starts.{wide_in}
use Rattle.stretch.specs.Characters.{lead_of, one_at, two_at, singles_of, pairs_of, settled_of, stretch, twos_of, by_forms_of, stretch_at}
use Rattle.stretch.specs.declared.characters.Stretch.{Stretch}
use Rattle.stretch.proofs.Law.{One, Ahead, leads, lead_fits}
use Rattle.stretch.proofs.Starts.{number, blank_octet, one_octet, two_octets}

-- ---- the choice of a stretch, by what the code has found

module _ (left right : ℕ) (t : List ℕ) where
  pub chosen_left : (a : Stretch) → a ≡ twos_of left 0 t → 0 < a.units → a ≡ by_forms_of left right t
  unfolding by_forms_of
  chosen_left a e h = rw (← e) (on_lt 0 a.units _ _ _ h refl)

  pub chosen_right : (a b : Stretch) → a ≡ twos_of left 0 t → a.units ≤ 0 → b ≡ twos_of right 1 t → 0 < b.units → b ≡ by_forms_of left right t
  unfolding by_forms_of
  chosen_right a b e h f k = rw (← e, ← f) (on_ge 0 a.units _ _ _ h (on_lt 0 b.units _ _ _ k refl))

  pub chosen_ones : (a b : Stretch) (n : ℕ) → a ≡ twos_of left 0 t → a.units ≤ 0 → b ≡ twos_of right 1 t → b.units ≤ 0
      → n ≡ singles_of left right t → stretch n n ≡ by_forms_of left right t
  unfolding by_forms_of
  chosen_ones a b n e h f k g = rw (← e, ← f, ← g) (on_ge 0 a.units _ _ _ h (on_ge 0 b.units _ _ _ k refl))

-- no stretch starts at the end of a string
none : (q a b : Bool) → stretch 0 0
    ≡ pick q (pick (ltb 0 (pick a (stretch (2 * 0) 0) (stretch 0 0)).units) (pick a (stretch (2 * 0) 0) (stretch 0 0))
    (pick (ltb 0 (pick b (stretch (2 * 0) 0) (stretch 0 0)).units) (pick b (stretch (2 * 0) 0) (stretch 0 0)) (stretch 0 0))) (stretch 0 0)
unfolding pick
none false a b = refl
none true true true = refl
none true true false = refl
none true false true = refl
none true false false = refl

pub stretch_end : (s : List ℕ) (at : ℕ) (st : State) → length s ≤ at → stretch 0 0 ≡ stretch_at (from at s) st
unfolding stretch_at by_forms_of lead_of
stretch_end s at st h =
    rw (from_end s at h) (none (settled_of st.directions) (eqb (form_of st.sets.gl) form_94x94) (eqb (form_of st.sets.gr) form_94x94))

-- ---- a stretch is elements

module _ (s : List ℕ) (at : ℕ) (st : State) where
  -- of a stretch with octets, as many elements as it has units
  data Passes : Stretch → Type 0 where
    passes : {r : Stretch} → (0 < r.octets → Ahead s at r.octets r.units st) → Passes r

  nothing : Passes (stretch 0 0)
  nothing = passes {r = stretch 0 0} (λ h. absurd (omega arith))

  -- units of one octet, by what starts where their test passes
  singles : at ≤ length s → (left right : ℕ) → ((b : ℕ) (t : List ℕ) → one_at left right (b ∷ t) ≡ true → One 1 st (element_of (b ∷ t) st))
      → Passes (stretch (singles_of left right (from at s)) (singles_of left right (from at s)))
  singles inside left right one =
      let n : ℕ = singles_of left right (from at s) in
      let f : 1 * n ≤ length (from at s) = lead_fits (one_at left right) 0 st one (from at s) in
      passes {r = stretch n n} (λ h. leads _ 0 st one s at n n refl (omega arith) (omega arith) (omega (arith, f, from_length s at)))

  module _ (inside : at ≤ length s) (settled : settled_of st.directions ≡ true) where
    -- characters of two octets on a side, which are elements of the state
    twos : (d : Side) → Passes (twos_of (form_of (get d st.sets)) (number d) (from at s))
    twos d =
        pick_by Passes (wide_in d st.sets)
        (λ w.
        let n : ℕ = pairs_of (number d) (from at s) in
        let one = two_octets st settled d w in
        let f : 2 * n ≤ length (from at s) = lead_fits (two_at (number d)) 1 st one (from at s) in
        passes {r = stretch (2 * n) n} (λ h. leads _ 1 st one s at n (2 * n) refl refl (omega arith) (omega (arith, f, from_length s at))))
        (λ _. nothing)

    forms : Passes (by_forms_of (form_of st.sets.gl) (form_of st.sets.gr) (from at s))
    unfolding by_forms_of
    forms = pick_by Passes _ (λ _. twos GL) (λ _. pick_by Passes _ (λ _. twos GR) (λ _. singles inside _ _ (one_octet st settled)))

  stretches : at ≤ length s → Passes (stretch_at (from at s) st)
  unfolding stretch_at
  stretches inside = pick_by Passes (settled_of st.directions) (λ settled. forms inside settled) (λ _. singles inside _ _ (blank_octet st))

  pub stretch_ahead : (r : Stretch) → r ≡ stretch_at (from at s) st → at ≤ length s → 0 < r.octets → Ahead s at r.octets r.units st
  stretch_ahead r e inside h = given (subst Passes (sym e) (stretches inside)) h
    where
      given : {x : Stretch} → Passes x → 0 < x.octets → Ahead s at x.octets x.units st
      given (passes f) = f
