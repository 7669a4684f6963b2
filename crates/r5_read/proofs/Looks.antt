-- What a look at a string tells, on plain values: the octets before the first 00 are those before its place; where nothing before it stops the quick look,
-- X11R5 has all their elements; and what the look refuses is refused with the string's own answer.
use Rattle.element.proofs.Names.{ℕ, zero, suc, ◌+◌, ◌≤◌, ◌<◌, arith, ◌≡◌, refl, ap, sym, ◌∙◌, List, [], ◌∷◌, length, length-take, get_or, take}
use Rattle.element.proofs.Names.{eqb, eqb-true, eqb-false, ltb, false}
use Rattle.std.specs.Prelude.{Ok, Err}
use Rattle.element.proofs.Names.{ltb-true, ltb-false, ne_eqb, pick, test, refused_at, Answer, List·getD-eq-default}
use Prim.Native.Nat.{min}
use lib.Seq.{get_or-take}
use Rattle.base.specs.Refusal as refusal
use Rattle.base.specs.Limit as limit
use Rattle.grammar.specs.Reading.{elements_of}
use Rattle.x11r5.specs.Reading.{before_null, supported_of, unended_check_of}
use Rattle.x11r5.proofs.Clean.{Plain, plain}
use Rattle.x11r5.proofs.Elements.{same_elements}
use Rattle.x11r5.proofs.Reading.{by_null, never_ended}
use Rattle.r5_read.specs.Stops.{is_of, stop_by, FirstStop, FirstNull}
use Rattle.r5_read.specs.Look.{Left, Refused, Looked}

-- ---- octets

-- an octet at which the look does not stop
pub record Goes (b next : ℕ) : Type 0 where
  pub no_null : b ≡ 0x00 → ⊥
  pub no_mark : b ≡ 0x9B → ⊥
  pub no_segment : b ≡ 0x1B → next ≡ 0x25 → ⊥

goes : (b next : ℕ) → stop_by b next ≡ 0 → Goes b next
unfolding stop_by is_of pick
goes b next e =
    record {
      no_null = λ h. omega (arith, rw h at e);
      no_mark = λ h. omega (arith, rw h at e);
      no_segment = λ h k. omega (arith, rw (h, k) at e);
    }

-- the octets before the first 00, by its place
before_at : (s : List ℕ) (i : ℕ) → i ≤ length s → ((j : ℕ) → j < i → get_or s j 0 ≡ 0 → ⊥) → (i < length s → get_or s i 0 ≡ 0)
    → before_null s ≡ take i s
unfolding before_null pick
before_at [] zero h none null = refl
before_at [] (suc i) h none null = refl
before_at (b ∷ t) zero h none null = rw (null (omega arith))
before_at (b ∷ t) (suc i) h none null =
    let other : eqb b 0 ≡ false = ne_eqb b 0 (none 0 (omega arith)) in
    rw other (ap (λ (u : List ℕ). b ∷ u) (before_at t i (omega arith) (λ j l. none (suc j) (omega arith)) (λ l. null (omega arith))))

-- the octets before a 00 that are accepted have elements that X11R5 has
accepted_same : (t : List ℕ) → (unended_check_of t).number ≡ refusal.accepted → supported_of t ≡ elements_of t
unfolding unended_check_of pick
accepted_same t e =
    test (ltb limit.octets (length t)) (λ long. absurd (omega (arith, rw long at e)))
    (λ short. same_elements t 0 (elements_of t) (λ u. omega (arith, u, rw short at e)))

-- ---- the place of the first 00

pub null_inside : (s : List ℕ) (at end : ℕ) → FirstNull s at end → (end ≡ length s → ⊥) → end < length s
null_inside s at end n other = omega (arith, n.within, other)

module _ (s : List ℕ) (at end : ℕ) (f : FirstStop s at) (n : FirstNull s at end) where
  -- none before it: none before the place at which the quick look stopped, and none from there on
  no_null_before : (j : ℕ) → j < end → get_or s j 0 ≡ 0 → ⊥
  no_null_before j l =
      test (ltb j at) (λ e. (goes _ _ (f.free.each j (omega arith) (ltb-true j at e))).no_null) (λ e. n.each j (ltb-false j at e) l)

  pub before_is : before_null s ≡ take end s
  before_is = before_at s end n.within no_null_before n.null

  before_length : length (before_null s) ≡ end
  before_length = rw before_is (length-take end s) ∙ least end (length s) n.within
    where
      least : (a b : ℕ) → a ≤ b → min a b ≡ a
      least a b h = omega arith

  -- no 00 ends the string
  pub look_endless : end ≡ length s → (a : Answer) → a ≡ refused_at refusal.not_ended end → Refused s a
  look_endless e a is =
      record {
        refuses = λ z. absurd (omega (arith, z, ap (λ (x : Answer). x.number) is));
        same = is ∙ ap (refused_at refusal.not_ended) e ∙ sym (never_ended s (omega (arith, before_length)));
      }

  module _ (inside : end < length s) where
    ended : length (before_null s) < length s
    ended = omega (arith, before_length)

    -- an octet of those before the 00, and past them
    octet-before : (i : ℕ) → i < end → get_or (take end s) i 0 ≡ get_or s i 0
    octet-before i h = get_or-take end s i 0 h

    octet-past : (i : ℕ) → end ≤ i → get_or (take end s) i 0 ≡ 0
    octet-past i h = List·getD-eq-default (take end s) 0 (omega (arith, ap length (sym before_is), before_length))

    -- nothing stopped the quick look before the 00
    pub look_clean : end ≤ at → Left s end
    look_clean e =
        record {
          within = inside;
          octets = sym before_is;
          same = rw before_is (plain (take end s) clean-octets);
        }
      where
        here : (i : ℕ) → i < end → Goes (get_or s i 0) (get_or s (i + 1) 0)
        here i h = goes _ _ (f.free.each i (omega arith) (omega (arith, e)))

        clean-octets : Plain (take end s)
        clean-octets =
            record {
              no_mark = λ i. test (ltb i end) (λ q k. (here i (ltb-true i end q)).no_mark (sym (octet-before i (ltb-true i end q)) ∙ k))
                  (λ q k. omega (arith, k, octet-past i (ltb-false i end q)));
              no_segment = λ i. test (ltb (i + 1) end)
                  (λ q k m. let h : i + 1 < end = ltb-true (i + 1) end q in
                  (here i (omega arith)).no_segment (sym (octet-before i (omega arith)) ∙ k) (sym (octet-before (i + 1) h) ∙ m))
                  (λ q k m. omega (arith, m, octet-past (i + 1) (ltb-false (i + 1) end q)));
            }

    -- else the string is checked
    module _ (a : Answer) (is : a ≡ unended_check_of (take end s)) where
      checked : a ≡ unended_check_of (before_null s)
      checked = is ∙ ap unended_check_of (sym before_is)

      pub look_refused : (a.number ≡ refusal.accepted → ⊥) → Refused s a
      look_refused n = record { refuses = n; same = checked ∙ sym (by_null s ended) }

      pub look_accepted : a.number ≡ refusal.accepted → Left s end
      look_accepted z =
          record {
            within = inside;
            octets = sym before_is;
            same = accepted_same (before_null s) (sym (ap (λ (x : Answer). x.number) checked) ∙ z);
          }

    -- refused with the check's answer, or left
    pub look_checked : (a : Answer) → a ≡ unended_check_of (take end s) → Looked s (pick (eqb a.number refusal.accepted) (Ok end) (Err a))
    unfolding pick
    look_checked a is =
        test (eqb a.number refusal.accepted) (λ e. rw e (look_accepted a is (eqb-true _ _ e))) (λ e. rw e (look_refused a is (eqb-false _ _ e)))
