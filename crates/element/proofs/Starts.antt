-- What an octet starts says where the octet lies and what the form on its side is (`starts`), and the other way round: an octet of a side that
-- the set there uses starts a character of it (`starts_one`, `starts_two`). Each goes down the tests of `start_of`, so no one else does.
use Rattle.element.proofs.Names.{ℕ, ◌%◌, ◌≤◌, ◌<◌, arith, ◌≡◌, refl, sym, ◌∙◌, Bool, true, false, eqb, ltb, eqb-true, ltb-false, le-leb}
use Rattle.element.proofs.Names.{ne_eqb, pick, pick_by, pick_last, test, tested, on_true, on_false, on_eq, on_ne, on_lt, on_ge, form_96, form_94x94}
use Rattle.element.proofs.Names.{form_of, Side, GL, GR, get, Sets}
use Rattle.text.specs.Text.{graphic_of}
use Rattle.element.specs.Start.{Start, used_in, character_start, left_start, start_of, start_in}
use Rattle.element.specs.Start as start

-- the octets of a side that may start a character
abbrev pub On : Side → ℕ → Type 0
On GL b = (0x21 ≤ b) × (b < 0x7F)
On GR b = 0xA0 ≤ b

pub above : (d : Side) {b : ℕ} → On d b → 0x20 < b
above GL (h, k) = h
above GR h = omega arith

abbrev pub wide_in : Side → Sets → Bool
wide_in d s = eqb (form_of (get d s)) form_94x94

-- where an octet of a class lies, and the form of the set on its side
pub data Starts (s : Sets) (b : ℕ) : Start → Type 0 where
  escape : b ≡ 0x1B → Starts s b start.escape
  mark : b ≡ 0x9B → Starts s b start.mark
  tab : b ≡ 0x09 → Starts s b start.tab
  newline : b ≡ 0x0A → Starts s b start.newline
  space : b ≡ 0x20 → wide_in GL s ≡ false → Starts s b start.space
  one : (d : Side) → On d b → used_in (form_of (get d s)) b ≡ true → wide_in d s ≡ false → Starts s b (start.one d)
  two : (d : Side) → On d b → graphic_of (b % 128) ≡ true → wide_in d s ≡ true → Starts s b (start.two d)
  unused : Starts s b start.unused

-- ---- octets that sets use

pub graphic_low : (c : ℕ) → graphic_of c ≡ true → (0x21 ≤ c) × (c ≤ 0x7E)
unfolding graphic_of
graphic_low c e =
    let h = pick_last (ltb c 0x21) _ e in
    omega tested

pub graphic : (c : ℕ) → 0x21 ≤ c → c ≤ 0x7E → graphic_of c ≡ true
unfolding graphic_of
graphic c h k = sym (on_ge c 0x21 _ _ _ h (sym (le-leb c 0x7E k)))

module _ (form b : ℕ) where
  pub used_graphic : (form ≡ form_96 → ⊥) → used_in form b ≡ true → graphic_of (b % 128) ≡ true
  unfolding used_in pick
  used_graphic n u = rw (ne_eqb form form_96 n) at u

  pub graphic_used : graphic_of (b % 128) ≡ true → used_in form b ≡ true
  unfolding used_in
  graphic_used g = test (eqb form form_96) (λ e. sym (on_true _ _ _ _ e refl)) (λ e. sym (on_false _ _ _ _ e (sym g)))

  pub all_used : form ≡ form_96 → used_in form b ≡ true
  unfolding used_in
  all_used e = sym (on_eq form form_96 _ _ _ e refl)

-- ---- what an octet starts

module _ (s : Sets) (b : ℕ) where
  by : {x y : Start} (q : Bool) → (q ≡ true → Starts s b x) → (q ≡ false → Starts s b y) → Starts s b (pick q x y)
  by = pick_by (Starts s b)

  character : (d : Side) → On d b → Starts s b (character_start d (form_of (get d s)) b)
  unfolding character_start
  character d h =
      by _
      (λ u. by _
      (λ w. let z : form_of (get d s) ≡ form_94x94 = eqb-true _ _ w in two d h (used_graphic (form_of (get d s)) b (λ q. omega arith) u) w)
      (one d h u))
      (λ _. unused)

  pub starts : Starts s b (start_in s b)
  unfolding start_of left_start
  starts =
      by _ (λ e. escape (eqb-true _ _ e))
      (λ _. by _ (λ e. mark (eqb-true _ _ e))
      (λ _. by _ (λ e. tab (eqb-true _ _ e))
      (λ _. by _ (λ e. newline (eqb-true _ _ e))
      (λ _. by _ (λ _. unused)
      (λ l. by _
      (λ m. by _ (λ e. by _ (λ _. unused) (space (eqb-true _ _ e)))
      (λ e. by _ (λ _. unused) (λ f. character GL (omega tested))))
      (λ _. by _ (λ _. unused) (λ r. character GR (ltb-false b 0xA0 r))))))))

  -- an octet of a side
  on_side_lem : (d : Side) → On d b → character_start d (form_of (get d s)) b ≡ start_in s b
  unfolding start_of left_start
  on_side_lem GL (h, k) =
      on_ne b 0x1B _ _ _ (λ q. omega arith)
      (on_ne b 0x9B _ _ _ (λ q. omega arith)
      (on_ne b 0x09 _ _ _ (λ q. omega arith)
      (on_ne b 0x0A _ _ _ (λ q. omega arith)
      (on_ge b 0x20 _ _ _ (omega arith)
      (on_lt b 0x80 _ _ _ (omega arith) (on_ne b 0x20 _ _ _ (λ q. omega arith) (on_ne b 0x7F _ _ _ (λ q. omega arith) refl)))))))
  on_side_lem GR h =
      on_ne b 0x1B _ _ _ (λ q. omega arith)
      (on_ne b 0x9B _ _ _ (λ q. omega arith)
      (on_ne b 0x09 _ _ _ (λ q. omega arith)
      (on_ne b 0x0A _ _ _ (λ q. omega arith)
      (on_ge b 0x20 _ _ _ (omega arith) (on_ge b 0x80 _ _ _ (omega arith) (on_ge b 0xA0 _ _ _ h refl))))))

  pub starts_one : (d : Side) → On d b → used_in (form_of (get d s)) b ≡ true → wide_in d s ≡ false → start.one d ≡ start_in s b
  unfolding character_start
  starts_one d h u w = on_true _ _ _ _ u (on_false _ _ _ _ w refl) ∙ on_side_lem d h

  pub starts_two : (d : Side) → On d b → graphic_of (b % 128) ≡ true → wide_in d s ≡ true → start.two d ≡ start_in s b
  unfolding character_start
  starts_two d h g w = on_true _ _ _ _ (graphic_used (form_of (get d s)) b g) (on_true _ _ _ _ w refl) ∙ on_side_lem d h
