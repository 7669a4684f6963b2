-- The strings among which the writer chooses, and the one that it gives, said with no costs (rules W2 to W4). That it is the string that
-- `writing` computes is proved in proofs/Choice.antt.
use Rattle.std.specs.Prelude.{ℕ, ◌≤◌, ◌≡◌, true, false, List, [], ◌∷◌, ◌++◌, ◌⊎◌, length}
use Rattle.std.proofs.Math.Option.{Option, none, some}
use Rattle.charset.specs.declared.Side.{Side, TheVariants.GL, TheVariants.GR}
use Rattle.charset.specs.Charsets.{allowed}
use Rattle.state.specs.State.{Standing, get}
use Rattle.state.specs.declared.Sets.{Sets}
use Rattle.grammar.specs.Units.{TextUnit, char, space, control, ext, octets, good}
use Rattle.grammar.specs.Grammar.{Shows}
use Rattle.shortest.specs.Writing.{stands, after, designated}

-- a set on a side that has what a unit needs: of a character its set, where that may stand, and of a space set 0 or 2 in GL (rule W2)
abbrev pub Serves : TextUnit → Standing → Type 0
Serves (char c k) p = (p.set ≡ c) × (allowed p.side p.set ≡ true)
Serves space p = (p.side ≡ GL) × ((p.set ≡ 0) ⊎ (p.set ≡ 2))
Serves (control x) p = ⊥
Serves (ext e xs) p = ⊥

-- what may stand directly before a unit: nothing, or a designation that serves it where nothing that serves it stands yet (rule W2)
abbrev pub MayPrecede : TextUnit → Sets → Option Standing → Type 0
MayPrecede u s none = Unit {0}
MayPrecede u s (some p) = Serves u p × ((q : Standing) → Serves u q → stands q s ≡ false)

-- a character whose set stands in GL is written there, also where it stands in GR too (rule W3)
abbrev pub LeftFirst : TextUnit → Side → Sets → Type 0
LeftFirst (char c k) d s = get GL s ≡ c → d ≡ GL
LeftFirst space d s = Unit {0}
LeftFirst (control x) d s = Unit {0}
LeftFirst (ext e xs) d s = Unit {0}

-- such a string of units from sets in force, with what it designates before each unit
pub data Lazy : Sets → List TextUnit → List (Option Standing) → List ℕ → Type 0 where
  nil : {s : Sets} → Lazy s [] [] []
  next : {s : Sets} {us : List TextUnit} {os : List (Option Standing)} {t : List ℕ} (u : TextUnit) (o : Option Standing) (d : Side)
      → good u ≡ true → MayPrecede u s o → Shows u d (after o s) → LeftFirst u d (after o s) → Lazy (after o s) us os t
      → Lazy s (u ∷ us) (o ∷ os) (designated o ++ (octets d u ++ t))

-- which of two designations before a unit is preferred (rule W4)
abbrev pub Preferred : TextUnit → Standing → Standing → Type 0
Preferred (char c k) a b = (a.side ≡ GL) × (b.side ≡ GR)
Preferred space a b = (a.set ≡ 0) × (b.set ≡ 2)
Preferred (control x) a b = ⊥
Preferred (ext e xs) a b = ⊥

-- the first difference of two lists of designations: what the first designates there is preferred to what the second does (rule W4)
pub data Before : List TextUnit → List (Option Standing) → List (Option Standing) → Type 0 where
  here : {us : List TextUnit} {os ps : List (Option Standing)} (u : TextUnit) (a b : Standing) → Preferred u a b
      → Before (u ∷ us) (some a ∷ os) (some b ∷ ps)
  later : {us : List TextUnit} {os ps : List (Option Standing)} (u : TextUnit) (o : Option Standing) → Before us os ps
      → Before (u ∷ us) (o ∷ os) (o ∷ ps)

-- the choice: a shortest such string, and preferred to every other of its length (rule W4)
pub record Chosen (us : List TextUnit) (s : Sets) (os : List (Option Standing)) (t : List ℕ) : Type 0 where
  pub lazy : Lazy s us os t
  pub shortest : (ps : List (Option Standing)) (w : List ℕ) → Lazy s us ps w → length t ≤ length w
  pub first : (ps : List (Option Standing)) (w : List ℕ) → Lazy s us ps w → length w ≡ length t → (ps ≡ os) ⊎ Before us os ps
