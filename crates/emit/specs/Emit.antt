-- Writing the units of the rows by their plan: the answer and the output, and what the steps of it give.
use Rattle.std.specs.Prelude.{ℕ, ◌<◌, List, eqb, ltb, length}
use Rattle.base.specs.Answers.{refused_at}
use Rattle.base.specs.Choice.{pick}
use Rattle.base.specs.Limit as limit
use Rattle.base.specs.Refusal as refusal
use Rattle.base.specs.declared.Answer.{Answer}
use Rattle.rows.specs.Rows.{tag_at, units_in}
use Rattle.shortest.specs.Demand.{write_answer, output_after}
use Rattle.shortest.specs.Records.{work_room}
use Rattle.numbers.specs.Numbers.{class_of}
use Rattle.table.specs.Table.{TwoStandings}
use Rattle.plan.specs.Plan.{CostsKept}

-- ---- the whole

-- the answer for n rows of the room w and an output of m octets: 1 for more rows than a list may have, 12, and then as for the units that
-- they hold
unfoldable pub rows_answer : List ℕ → List ℕ → ℕ → ℕ → Answer
rows_answer o w n m =
    pick (ltb limit.units n) (refused_at refusal.too_long 0)
    (pick (ltb (length w) (work_room n)) (refused_at refusal.no_work_room 0) (write_answer (units_in o w 0 n) m))

-- the output after
unfoldable pub rows_output : List ℕ → List ℕ → ℕ → List ℕ → List ℕ
rows_output o w n out = pick (eqb (rows_answer o w n (length out)).number refusal.accepted) (output_after (units_in o w 0 n) out) out

-- ---- its steps

-- each row whose unit has two designations to choose from keeps what its choice compares
abbrev pub Ready : List ℕ → List ℕ → ℕ → Type 0
Ready o w n = (i : ℕ) → i < n → TwoStandings (class_of (tag_at w i)) → CostsKept o w n i w
