-- A turn of the loops over a span, as rules of the ladder: what the octets at a place make of the end, and the end of the string.
use Rattle.element.proofs.Names.{ℕ, ◌+◌, ◌-◌, ◌≤◌, ◌<◌, arith, ◌≡◌, refl, ap, sym, ◌∙◌, List, [], ◌∷◌, ltb, length, get_or, pick, from, ladder}
use Rattle.element.proofs.Names.{from_octet, from_end, from_length}
use Rattle.stretch.proofs.Loops.{two_octets}
use Rattle.run_ends.specs.Ends.{ones_to, twos_to}

pub twos_short : (first last at : ℕ) (t : List ℕ) → length t ≤ 1 → twos_to first last at t ≡ at
unfolding twos_to
twos_short first last at [] h = refl
twos_short first last at (b ∷ []) h = refl
twos_short first last at (b ∷ d ∷ t) h = absurd (omega arith)

module _ (s : List ℕ) (first last i r : ℕ) where
  pub on_one : i < length s
      → r ≡ pick (ltb (get_or s i 0) first) i (pick (ltb last (get_or s i 0)) i (ones_to first last (i + 1) (from (i + 1) s)))
      → r ≡ ones_to first last i (from i s)
  unfolding ones_to
  on_one h e = e ∙ ap (ones_to first last i) (sym (from_octet s i h))

  pub on_past : length s ≤ i → r ≡ i → r ≡ ones_to first last i (from i s)
  unfolding ones_to
  on_past h e = e ∙ ap (ones_to first last i) (sym (from_end s i h))

  pub on_two : 1 < length s - i
      → r ≡ pick (ltb (get_or s i 0) first) i (pick (ltb last (get_or s i 0)) i
      (pick (ltb (get_or s (i + 1) 0) first) i (pick (ltb last (get_or s (i + 1) 0)) i (twos_to first last (i + 2) (from (i + 2) s)))))
      → r ≡ twos_to first last i (from i s)
  unfolding twos_to
  on_two h e = e ∙ ap (twos_to first last i) (sym (two_octets s i h))

  pub on_short : length s - i ≤ 1 → r ≡ i → r ≡ twos_to first last i (from i s)
  on_short h e = e ∙ sym (twos_short first last i (from i s) (rw (from_length s i) h))

pub ruleset spanned = (on_one, on_past, on_two, on_short, ladder)
