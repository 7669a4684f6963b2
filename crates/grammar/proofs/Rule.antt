-- The direction rule by steps is that over counts of marks and text (`Lawful`): the directions after a list of units keep what the counts of marks and
-- of text say (`Like`), and a unit may follow exactly where its step goes on (`After`).
use Rattle.element.proofs.Names.{ℕ, ◌+◌, ◌≤◌, ◌<◌, arith, ◌≡◌, refl, Bool, true, false, true≢false, List, [], ◌∷◌, ◌↔◌, inl, inr, ⊎_elim}
use Rattle.element.proofs.Names.{eqb, ltb, pick, directions, undirected, written_of, deeper_of, begun_of, reverted_of, step_of, off, pick_by, test, tested}
use Rattle.element.proofs.Names.{Directions, Step, Goes, Stops}
use Rattle.base.specs.Limit as limit
use Rattle.grammar.specs.Units.{TextUnit, char, space, control, tab, newline, ltr, rtl, revert, ext, counts}
use Rattle.grammar.specs.Grammar.{TextMay, BeginMay, May, begins, reverts, add_if, Lawful}
use Rattle.grammar.specs.Reading.{direct}

-- no unit stops, step by step
abbrev pub passes : Step → (Directions → Bool) → Bool
passes (Goes d) f = f d
passes (Stops n) f = false

unfoldable pub directed : List TextUnit → Directions → Bool
directed [] d = true
directed (u ∷ us) d = passes (direct d u) (λ next. directed us next)

-- the directions after b marks that begin, r that revert, and t units of text
record Like (d : Directions) (b r t : ℕ) : Type 0 where
  open_now : d.depth + r ≡ b
  marks : d.marked ≡ true → 1 ≤ b + r
  no_marks : d.marked ≡ false → b + r ≡ 0
  texts : d.texted ≡ true → 1 ≤ t
  no_texts : d.texted ≡ false → t ≡ 0

-- a step goes on where O holds, and stops where it does not
data After (O : Type 0) (b r t : ℕ) : Step → Type 0 where
  goes : {d : Directions} → O → Like d b r t → After O b r t (Goes d)
  stops : {n : ℕ} → (O → ⊥) → After O b r t (Stops n)

by : {O : Type 0} {b r t : ℕ} {x y : Step} (q : Bool) → (q ≡ true → After O b r t x) → (q ≡ false → After O b r t y)
    → After O b r t (pick q x y)
by {O} {b} {r} {t} q f g = pick_by (After O b r t) q f g

both : {P Q : Type 0} {b r t : ℕ} {x : Step} → P → After Q b r t x → After (P × Q) b r t x
both p (goes o l) = goes (p, o) l
both p (stops n) = stops (λ o. n o.1)

module _ (d : Directions) (b r t : ℕ) (l : Like d b r t) where
  after_text : Like (directions d.depth d.levels d.marked true) b r (t + 1)
  after_text =
      record { open_now = l.open_now; marks = l.marks; no_marks = l.no_marks; texts = λ _. omega arith; no_texts = λ e. absurd (true≢false e) }

  after_mark : {n v b' r' : ℕ} → n + r' ≡ b' → 1 ≤ b' + r' → Like (directions n v true d.texted) b' r' t
  after_mark e h = record { open_now = e; marks = λ _. h; no_marks = λ x. absurd (true≢false x); texts = l.texts; no_texts = l.no_texts }

  written : After (TextMay b r) b r (t + 1) (written_of d)
  unfolding written_of
  written =
      by d.marked
      (λ m. by (eqb d.depth 0)
      (λ e. stops (⊎_elim (λ z. omega (arith, l.marks m)) (λ z. omega (tested, l.open_now))))
      (λ e. goes (inr (omega (tested, l.open_now))) after_text))
      (λ m. goes (inl (l.no_marks m)) after_text)

  deeper : (way : ℕ) → After (b < r + limit.depth) (b + 1) r t (deeper_of way d)
  unfolding deeper_of
  deeper way =
      by (ltb d.depth limit.depth)
      (λ e. goes (omega (tested, l.open_now)) (after_mark (omega (arith, l.open_now)) (omega arith))) (λ e. stops (λ o. omega (tested, l.open_now)))

  begun : (way : ℕ) → After (BeginMay b r t) (b + 1) r t (begun_of way d)
  unfolding begun_of
  begun way =
      by d.marked (λ m. both (inr (l.marks m)) (deeper way))
      (λ m. by d.texted
      (λ x. stops (λ o. ⊎_elim (λ z. omega (arith, l.texts x)) (λ z. omega (arith, l.no_marks m)) o.0))
      (λ x. both (inl (l.no_texts x)) (deeper way)))

  reverted : After (r < b) b (r + 1) t (reverted_of d)
  unfolding reverted_of
  reverted =
      by (eqb d.depth 0)
      (λ e. stops (λ o. omega (tested, l.open_now)))
      (λ e. goes (omega (tested, l.open_now)) (after_mark (omega (tested, l.open_now)) (omega arith)))

abbrev Same : List TextUnit → Directions → ℕ → ℕ → ℕ → Type 0
Same us d b r t = (directed us d ≡ true) ↔ Lawful us b r t

follow : {O : Type 0} {b r t : ℕ} {x : Step} (us : List TextUnit) → After O b r t x → ((d : Directions) → Like d b r t → Same us d b r t)
    → (passes x (λ next. directed us next) ≡ true) ↔ (O × Lawful us b r t)
follow us (goes {d} o l) k = (λ e. (o, (k d l).0 e), λ p. (k d l).1 p.1)
follow us (stops n) k = (off, λ p. absurd (n p.0))

-- the same step, said by another condition
likewise : {O P : Type 0} {b r t : ℕ} {x : Step} → (O → P) → (P → O) → After O b r t x → After P b r t x
likewise f g (goes o l) = goes (f o) l
likewise f g (stops n) = stops (λ o. n (g o))

module _ (d : Directions) (b r t : ℕ) (l : Like d b r t) where
  step : (u : TextUnit) → After (May u b r t) (add_if (begins u) b) (add_if (reverts u) r) (add_if (counts u) t) (direct d u)
  unfolding step_of pick
  step (char c k) = likewise (λ o. search off) (λ m. m.text refl) (written d b r t l)
  step space = likewise (λ o. search off) (λ m. m.text refl) (written d b r t l)
  step (control tab) = goes (search off) l
  step (control newline) = goes (search off) l
  step (control ltr) = likewise (λ o. search off) (λ m. m.begin refl) (begun d b r t l 0)
  step (control rtl) = likewise (λ o. search off) (λ m. m.begin refl) (begun d b r t l 1)
  step (control revert) = likewise (λ o. search off) (λ m. m.revert refl) (reverted d b r t l)
  step (ext c xs) =
      test (counts (ext c xs))
      (λ e. rw e (likewise (λ o. record { text = λ _. o; begin = off; revert = off }) (λ m. m.text e) (written d b r t l)))
      (λ e. rw e (goes (record { text = λ z. off (rw e at z); begin = off; revert = off }) l))

same : (us : List TextUnit) (d : Directions) (b r t : ℕ) → Like d b r t → Same us d b r t
unfolding directed Lawful
same [] d b r t l = (λ _. tt, λ _. refl)
same (u ∷ us) d b r t l = follow us (step d b r t l u) (λ e m. same us e _ _ _ m)

-- the direction rule from the start of a string
pub direction_rule : (us : List TextUnit) → (directed us undirected ≡ true) ↔ Lawful us 0 0 0
direction_rule us =
    same us _ 0 0 0
    (record { open_now = omega arith; marks = off; no_marks = λ _. omega arith; texts = off; no_texts = λ _. refl })
