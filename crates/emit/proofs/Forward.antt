-- One turn of the writing by number: what is designated, the unit's octets on a side, and the writing of the rest.
use Rattle.element.proofs.Names.{◌≡◌, refl, sym, ap, ap₂, ◌∙◌, subst, Bool, true, List, [], ◌∷◌, ◌++◌, Option, ℕ, suc, ◌+◌, ◌-◌, ◌*◌, ◌/◌, ◌%◌}
use Rattle.element.proofs.Names.{◌≤◌, ◌<◌, arith, ltb, eqb, ltb-true, ltb-false, lt-ltb, length, get_or, length-append, test, pick, Side, Standing, fresh}
use Rattle.element.proofs.Names.{Sets}
use mathlib.Core.List.{append_assoc, append-nil}
use Rattle.grammar.specs.Units.{TextUnit, octets}
use Rattle.shortest.specs.Writing.{Need, choose, after, met, need, cost, used, designated, writing}
use Rattle.shortest.proofs.Needs.{chosen_met}
use Rattle.rows.specs.Rows.{tag_at, high_octet, low_octet, start_from, unit_from, units_in}
use Rattle.numbers.specs.Numbers.{places_in_gl, numbered, class_of, need_of_class, chosen_by, after_choice, change, side_at, second_slot}
use Rattle.plan.specs.Plan.{rest_from}
use Rattle.numbers.proofs.Numbers.{Choice, choice_at, chosen_base, chosen_single, chosen_free, used_side}
use Rattle.plan.proofs.Units.{need_tagged}
use Rattle.plan.proofs.Rest.{class_below, fresh_number}
use Rattle.unit_octets.specs.Octets.{Written, Stored, side_of}
use Rattle.emit.specs.Emit.{Ready}
use Rattle.emit.proofs.Chosen.{its_place}
use Rattle.emit.proofs.Row.{side_free}
use Rattle.unit_octets.proofs.Storing.{written_both, written_none, written_length, written_as, stored_written}

-- one turn of the writing
turn : (u : TextUnit) (us : List TextUnit) (s t : Sets) (p : Option Standing) (d : Side) → choose (need u) (cost us) s ≡ p
    → after (choose (need u) (cost us) s) s ≡ t
    → octets (used (need u) t) u ≡ octets d u → writing (u ∷ us) s ≡ designated p ++ (octets d u ++ writing us t)
unfolding writing
turn u us s t p d ep et ed =
    ap₂ (λ (a : Option Standing) (b : Sets). designated a ++ (octets (used (need u) b) u ++ writing us b)) ep et
    ∙ ap (λ (x : List ℕ). designated p ++ (x ++ writing us t)) ed

class_character : (t : ℕ) → t < 15 → class_of t ≡ t
unfolding class_of pick
class_character t h = rw (lt-ltb t 16 (omega arith))

-- what row i keeps of the costs after the first designation, and after the second
abbrev first_kept : List ℕ → ℕ → ℕ → ℕ
first_kept w i k = get_or w (72 * i + k % 16) 0

abbrev second_kept : List ℕ → ℕ → ℕ → ℕ → ℕ
second_kept w i x k = get_or w (72 * i + second_slot x k) 0

module _ (o w : List ℕ) (n i k : ℕ) (h : i < n) (hk : k < 80) where
  abbrev x : ℕ
  x = class_of (tag_at w i)

  abbrev unit : TextUnit
  unit = unit_from o w (72 * i)

  abbrev rest : List TextUnit
  rest = units_in o w (suc i) (n - suc i)

  abbrev next : ℕ
  next = after_choice x k (λ m. rest_from o w n (suc i) (numbered m))

  its_choice : Choice (need_of_class x) (cost rest) x k next (rest_from o w n (suc i) (numbered next))
  its_choice = choice_at (cost rest) (λ m. cost rest (numbered m)) (λ j l. refl) x k hk (class_below (tag_at w i))

  its_need : need unit ≡ need_of_class x
  its_need = need_tagged o (tag_at w i) (high_octet w (72 * i)) (low_octet w (72 * i)) (start_from w (72 * i))

  next_met : met (need_of_class x) (numbered next) ≡ true
  next_met = rw its_choice.state (chosen_met (need_of_class x) (cost rest) (numbered k))

  its_side : octets (used (need unit) (numbered next)) unit ≡ octets (side_at (tag_at w i) next) unit
  its_side =
      test (ltb (tag_at w i) 15)
      (λ e. let l = ltb-true (tag_at w i) 15 e in
      let c = class_character (tag_at w i) l in
      ap (λ (d : Side). octets d unit)
      (ap (λ (q : Need). used q (numbered next)) (its_need ∙ ap need_of_class c)
      ∙ used_side (tag_at w i) next l its_choice.below (subst (λ (y : ℕ). met (need_of_class y) (numbered next) ≡ true) c next_met)))
      (λ e. side_free o w (72 * i) _ _ (ltb-false (tag_at w i) 15 e))

  write_step : writing (units_in o w i (n - i)) (numbered k)
      ≡ designated (change k next) ++ (octets (side_at (tag_at w i) next) unit ++ writing rest (numbered next))
  unfolding units_in
  write_step =
      let e : n - i ≡ suc (n - suc i) = omega arith in
      let c : choose (need unit) (cost rest) (numbered k) ≡ choose (need_of_class x) (cost rest) (numbered k) = ap
      (λ (q : Need). choose q (cost rest) (numbered k)) its_need in
      ap (λ (m : ℕ). writing (units_in o w i m) (numbered k)) e
      ∙ turn unit rest (numbered k) (numbered next) (change k next) (side_at (tag_at w i) next)
      (c ∙ sym its_choice.changed) (ap (λ (q : Option Standing). after q (numbered k)) c ∙ sym its_choice.state) its_side

  -- the number chosen by what the row keeps is that one
  by_row : Ready o w n → (y : ℕ) → y ≡ x → chosen_by y k (first_kept w i k) (second_kept w i y k) ≡ next
  by_row r y e =
      rw e
      (test (ltb x 12) (λ q. chosen_single x k _ _ _ _ (ltb-true x 12 q))
      (λ q. test (ltb x 16)
      (λ u. let c = r i h (ltb-false x 12 q, ltb-true x 16 u) in chosen_base x k c.base _ _ _ _ (c.first_cost k hk) (c.second_cost k hk))
      (λ u. let l = ltb-false x 16 u in
      let z : x ≡ 16 = omega (arith, class_below (tag_at w i)) in
      rw z (chosen_free k _ _ _ _))))

-- ---- the loop

abbrev whole : List ℕ → List ℕ → ℕ → List ℕ
whole o w n = writing (units_in o w 0 n) fresh.sets

-- i units are written, and number k stands
pub record Going (o w before : List ℕ) (n i k at : ℕ) (after : List ℕ) : Type 0 where
  pub done : List ℕ
  pub put : Written before 0 done at after
  pub rest : done ++ writing (units_in o w i (n - i)) (numbered k) ≡ whole o w n
  pub state : k < 80

pub going_none : (o w before : List ℕ) (n : ℕ) → Going o w before n 0 1 0 before
going_none o w before n =
    record {
      done = [];
      put = written_none before 0;
      rest = ap₂ (λ (m : ℕ) (s : Sets). writing (units_in o w 0 m) s) (let e : n - 0 ≡ n = omega arith in e) fresh_number;
      state = omega arith;
    }

module _ {o w before : List ℕ} {n i k at : ℕ} {after : List ℕ} (g : Going o w before n i k at after) (r : Ready o w n) (h : i < n) {x j : ℕ}
    (ex : x ≡ class_of (tag_at w i))
    (ej : j ≡ chosen_by x k (first_kept w i k) (second_kept w i x k)) where
  planned : j ≡ next o w n i k h g.state
  planned = ej ∙ by_row o w n i k h g.state r x ex

  abbrev changed : List ℕ
  changed = designated (change k j)

  abbrev unit' : List ℕ
  unit' = octets (side_at (tag_at w i) j) (unit_from o w (72 * i))

  abbrev rest' : List ℕ
  rest' = writing (units_in o w (suc i) (n - suc i)) (numbered j)

  step : writing (units_in o w i (n - i)) (numbered k) ≡ changed ++ (unit' ++ rest')
  step = rw planned (write_step o w n i k h g.state)

  j_below : j < 80
  j_below = rw planned (its_choice o w n i k h g.state).below

  lengths : at + (length changed + length unit') ≤ length (whole o w n)
  lengths =
      omega (
        arith,
        g.put.next,
        ap length g.rest,
        length-append g.done (writing (units_in o w i (n - i)) (numbered k)),
        ap length step,
        length-append changed (unit' ++ rest'),
        length-append unit' rest',
      )

  module _ {l : ℕ} (el : l ≡ get_or places_in_gl x 0) (fits : length (whole o w n) ≤ length before) {a : ℕ} {mid : List ℕ}
      (s : Stored after at (designated (change k j)) a mid) where
    changed-put : Written after at (designated (change k j)) a mid
    changed-put = stored_written (omega (arith, lengths, written_length g.put)) s

    abbrev pub shown_now : List ℕ
    shown_now = octets (side_of (eqb (j / 16) l)) (unit_from o w (72 * i))

    shown-same : shown_now ≡ unit'
    unfolding side_at
    shown-same =
        test (ltb (tag_at w i) 15)
        (λ e. let t = ltb-true (tag_at w i) 15 e in
        let c : l ≡ get_or places_in_gl (tag_at w i) 0 = el ∙ ap (λ (y : ℕ). get_or places_in_gl y 0) (ex ∙ class_character (tag_at w i) t) in
        ap (λ (b : Bool). octets (side_of b) (unit_from o w (72 * i)))
        (ap (λ (y : ℕ). eqb (j / 16) y) c ∙ its_place (tag_at w i) (j / 16) t (omega (arith, j_below))))
        (λ e. side_free o w (72 * i) _ _ (ltb-false (tag_at w i) 15 e))

    pub room_unit : a + length shown_now ≤ length mid
    room_unit =
        omega (arith, lengths, written_length g.put, changed-put.next, written_length changed-put, ap length shown-same)

    pub going_more : {b : ℕ} {last : List ℕ} → Written mid a shown_now b last → Going o w before n (i + 1) j b last
    going_more q =
        record {
          done = g.done ++ (changed ++ unit');
          put = written_both g.put (written_both changed-put (written_as (sym shown-same) q));
          rest =
              let e : i + 1 ≡ suc i = omega arith in
              rw e
              (append_assoc g.done (changed ++ unit') rest'
              ∙ ap (λ (y : List ℕ). g.done ++ y) (append_assoc changed unit' rest' ∙ sym step) ∙ g.rest);
          state = j_below;
        }

pub going_end : {o w before : List ℕ} {n i k at : ℕ} {after : List ℕ} → Going o w before n i k at after → i ≤ n → n ≤ i
    → Written before 0 (whole o w n) at after
unfolding units_in writing
going_end {o} {w} {n = n} {i} {k} g h h' =
    let e : n - i ≡ 0 = omega arith in
    written_as (sym g.rest ∙ ap (λ (m : ℕ). g.done ++ writing (units_in o w i m) (numbered k)) e ∙ append-nil g.done) g.put
