-- The fields of a unit that mean something (rule U1).
use Rattle.std.specs.Prelude.{ℕ, ◌<◌}
use Rattle.base.specs.Kind as kind
use Rattle.state.specs.declared.elements.Part.{Part}

-- a kind, set and code that a unit may have, with 0 for what the kind does not use
pub data Meant : ℕ → ℕ → ℕ → Type 0 where
  with_set : {set code : ℕ} → Meant kind.character set code
  with_none : {k : ℕ} → k < kind.segment → Meant k 0 0
  with_code : {code : ℕ} → Meant kind.segment 0 code

abbrev pub MeantPart : Part → Type 0
MeantPart p = Meant p.kind p.set p.code
