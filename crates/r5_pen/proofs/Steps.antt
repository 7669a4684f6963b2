-- What the stores of one record leave.
use Rattle.element.proofs.Names.{ℕ, ◌≤◌, ◌<◌, ◌≡◌, ap, ◌∙◌, Bool, true, false, List, [], ◌∷◌, length, eqb, leb, le-leb, lt-leb}
use Rattle.element.proofs.Names.{on, on_true, on_false, UnitRecord}
use Rattle.base.specs.Kind as kind
use Rattle.grammar.specs.Units.{designation}
use Rattle.unit_octets.specs.Octets.{Stored, side_of}
use Rattle.unit_octets.proofs.Storing.{stored_length}
use Rattle.r5_units.specs.Unit.{text_set, text_code, text_octets, control_octet, is_left, naming, stored_to, stored_over}
use Rattle.r5_pen.specs.Pen.{stayed_at, moved_to, stands_in, place_after, stored_text, output_text, stored_by, output_by}
use Rattle.r5_pen.specs.declared.Pen.{Pen}

-- ---- stores

-- the place and the output that a store leaves
stored_to_lem : {l m : List ℕ} {at r : ℕ} {xs : List ℕ} → Stored l at xs r m → r ≡ stored_to at xs (length l)
unfolding stored_to
stored_to_lem s = s.next

stored_over_lem : {l m : List ℕ} {at r : ℕ} {xs : List ℕ} → Stored l at xs r m → m ≡ stored_over l at xs
unfolding stored_over
stored_over_lem s = s.now

module _ (p : Pen) (c k index : ℕ) {l last : List ℕ} {b : ℕ} {q : Pen} where
  -- its set stands
  pub text_stands : stands_in c p ≡ true → Stored l p.at (text_octets c k (eqb p.gl c)) b last → q ≡ stayed_at p b index
      → (q ≡ stored_text p c k index (length l)) × (last ≡ output_text p c k l)
  unfolding stored_text output_text
  text_stands e s is = (
    on_true (stands_in c p) q _ _ e (is ∙ ap (λ (x : ℕ). stayed_at p x index) (stored_to_lem s)),
    on_true (stands_in c p) last _ _ e (stored_over_lem s),
  )

  -- its set is designated
  pub text_designated : {left : Bool} {a : ℕ} {mid : List ℕ} → stands_in c p ≡ false → left ≡ is_left c
      → Stored l p.at (designation (on (side_of left) c)) a mid → Stored mid a (text_octets c k left) b last → q ≡ moved_to p left c b index
      → (q ≡ stored_text p c k index (length l)) × (last ≡ output_text p c k l)
  unfolding stored_text output_text
  text_designated {left} {a} {mid} e el first second is =
      let x : a ≡ place_after p c (length l) = stored_to_lem first ∙ ap (λ (y : Bool). stored_to p.at (designation (on (side_of y) c)) (length l)) el in
      let y : mid ≡ stored_over l p.at (naming c) = stored_over_lem first ∙ ap (λ (y : Bool). stored_over l p.at (designation (on (side_of y) c))) el in
      let z : b ≡ stored_to (place_after p c (length l)) (text_octets c k (is_left c)) (length l)
      = stored_to_lem second ∙ ap (λ (y : ℕ). stored_to a (text_octets c k left) y) (stored_length first)
      ∙ ap (λ (y : ℕ). stored_to y (text_octets c k left) (length l)) x
      ∙ ap (λ (y : Bool). stored_to (place_after p c (length l)) (text_octets c k y) (length l)) el in (
        on_false (stands_in c p) q _ _ e (is ∙ ap (λ (y : Bool). moved_to p y c b index) el ∙ ap (λ (y : ℕ). moved_to p (is_left c) c y index) z),
        on_false (stands_in c p) last _ _ e
            (stored_over_lem second ∙ ap (λ (w : List ℕ). stored_over w a (text_octets c k left)) y
            ∙ ap (λ (w : ℕ). stored_over (stored_over l p.at (naming c)) w (text_octets c k left)) x
            ∙ ap (λ (w : Bool). stored_over (stored_over l p.at (naming c)) (place_after p c (length l)) (text_octets c k w)) el),
      )

module _ (p : Pen) (r : UnitRecord) (index : ℕ) (l : List ℕ) {last : List ℕ} {q : Pen} where
  pub stores_text : {c k : ℕ} → r.kind ≤ kind.space → c ≡ text_set r p.gl → k ≡ text_code r
      → (q ≡ stored_text p c k index (length l)) × (last ≡ output_text p c k l) → (q ≡ stored_by p r index (length l)) × (last ≡ output_by p r l)
  unfolding stored_by output_by
  stores_text {c} {k} h ec ek s =
      let e = le-leb r.kind kind.space h in (
        on_true (leb r.kind kind.space) q _ _ e
            (s.0 ∙ ap (λ (y : ℕ). stored_text p y k index (length l)) ec ∙ ap (λ (y : ℕ). stored_text p (text_set r p.gl) y index (length l)) ek),
        on_true (leb r.kind kind.space) last _ _ e
            (s.1 ∙ ap (λ (y : ℕ). output_text p y k l) ec ∙ ap (λ (y : ℕ). output_text p (text_set r p.gl) y l) ek),
      )

  pub stores_control : {x b : ℕ} → kind.space < r.kind → x ≡ control_octet r.kind → Stored l p.at (x ∷ []) b last → q ≡ stayed_at p b index
      → (q ≡ stored_by p r index (length l)) × (last ≡ output_by p r l)
  unfolding stored_by output_by
  stores_control {x} {b} h ex s is =
      let e = lt-leb r.kind kind.space h in (
        on_false (leb r.kind kind.space) q _ _ e
            (is ∙ ap (λ (y : ℕ). stayed_at p y index) (stored_to_lem s ∙ ap (λ (y : ℕ). stored_to p.at (y ∷ []) (length l)) ex)),
        on_false (leb r.kind kind.space) last _ _ e (stored_over_lem s ∙ ap (λ (y : ℕ). stored_over l p.at (y ∷ [])) ex),
      )
