-- Which octets are a Compound Text string, and of which reading: said with no reader.
use Rattle.std.specs.Prelude.{ℕ, ◌+◌, ◌≤◌, ◌<◌, ◌≡◌, Bool, true, false, cond, ◌||◌, List, [], ◌∷◌, ◌++◌, ◌⊎◌, eqb, length}
use Rattle.base.specs.Kind as kind
use Rattle.base.specs.Limit as limit
use Rattle.charset.specs.declared.Side.{Side, TheVariants.GL, TheVariants.GR}
use Rattle.charset.specs.Charsets.{allowed}
use Rattle.state.specs.State.{Standing, get, put, fresh}
use Rattle.state.specs.declared.Sets.{Sets}
use Rattle.grammar.specs.Units.{TextUnit, char, space, control, ext, kind_of, counts, wide, octets, designation, good}

-- each set stands on a side it may use
pub record Legal (s : Sets) : Type 0 where
  pub left : allowed GL s.gl ≡ true
  pub right : allowed GR s.gr ≡ true

-- a unit may be shown on a side: a character where its set stands, a space where a one-octet set stands in GL
abbrev pub Shows : TextUnit → Side → Sets → Type 0
Shows (char c k) d s = get d s ≡ c
Shows space d s = wide s.gl ≡ false
Shows (control x) d s = Unit {0}
Shows (ext e xs) d s = Unit {0}

-- octets that read as units from sets in force: designations anywhere, and each unit where it may be shown
pub data Reads : Sets → List ℕ → List TextUnit → Type 0 where
  done : {s : Sets} → Reads s [] []
  designate : {s : Sets} {t : List ℕ} {us : List TextUnit} (p : Standing) → allowed p.side p.set ≡ true
      → Reads (put p s) t us → Reads s (designation p ++ t) us
  show : {s : Sets} {t : List ℕ} {us : List TextUnit} (u : TextUnit) (d : Side) → good u ≡ true → Shows u d s
      → Reads s t us → Reads s (octets d u ++ t) (u ∷ us)

-- ---- the direction rule, by what came before a unit: b marks that begin, r that revert, and t units of text

-- text: no mark came before, or a direction is open (rule E7)
abbrev pub TextMay : ℕ → ℕ → Type 0
TextMay b r = (b + r ≡ 0) ⊎ (r < b)

-- a mark that begins: no text came before, or a mark did (rule E6), and fewer than the limit are open (rule E8)
abbrev pub BeginMay : ℕ → ℕ → ℕ → Type 0
BeginMay b r t = ((t ≡ 0) ⊎ (1 ≤ b + r)) × (b < r + limit.depth)

-- a revert: a direction is open (rule E5)
abbrev pub RevertMay : ℕ → ℕ → Type 0
RevertMay b r = r < b

-- a mark that begins a direction, and one that reverts
abbrev pub begins : TextUnit → Bool
begins u = eqb (kind_of u) kind.left_to_right || eqb (kind_of u) kind.right_to_left

abbrev pub reverts : TextUnit → Bool
reverts u = eqb (kind_of u) kind.revert

-- what each unit may follow; tabs, newlines and a segment that is no text may follow anything
pub record May (u : TextUnit) (b r t : ℕ) : Type 0 where
  pub text : counts u ≡ true → TextMay b r
  pub begin : begins u ≡ true → BeginMay b r t
  pub revert : reverts u ≡ true → RevertMay b r

-- n, and one more where q holds
abbrev pub add_if : Bool → ℕ → ℕ
add_if q n = cond q (n + 1) n

unfoldable pub Lawful : List TextUnit → ℕ → ℕ → ℕ → Type 0
Lawful [] b r t = Unit {0}
Lawful (u ∷ us) b r t = May u b r t × Lawful us (add_if (begins u) b) (add_if (reverts u) r) (add_if (counts u) t)

-- the string is accepted and reads as the units; at its end directions may be open (rule E10)
pub record Accepted (s : List ℕ) (us : List TextUnit) : Type 0 where
  pub reads : Reads fresh.sets s us
  pub rule : Lawful us 0 0 0
  pub short : length s ≤ limit.octets
