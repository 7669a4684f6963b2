-- Demand 3 over unit records: what is asked of an answer and of the output after it.
use Rattle.std.specs.Prelude.{ℕ, ◌≤◌, ◌≡◌, List, length}
use Rattle.std.proofs.Math.Option.{some}
use Rattle.base.specs.declared.Answer.{Answer}
use Rattle.base.specs.declared.Unit.{Unit as UnitRecord}
use Rattle.grammar.specs.Units.{TextUnit}
use Rattle.grammar.specs.Reading.{ReadAs}
use Rattle.grammar.specs.Records.{list_reading}
use Rattle.shortest.specs.Records.{work_room}
use Rattle.shortest.specs.Demand.{Demand3}

-- of every list whose reading some accepted string has (so it has at most 65,535 units), with the work room of rule N4,
-- and of any output
unfoldable pub Demand3For : List UnitRecord → List ℕ → ℕ → List ℕ → Answer → List ℕ → Type 0
Demand3For rs o work out a after =
    (us : List TextUnit) (t₀ : List ℕ) → list_reading o rs ≡ some us → ReadAs t₀ us → work_room (length rs) ≤ work → Demand3 us out a after
