-- Demand 3 over unit records: the answer and the output that `writer_answer` and `writer_output` say meet it, since a list that some
-- accepted string reads as has no offending unit, and the rest is demand 3 over its units.
use Rattle.element.proofs.Names.{ℕ, ◌≡◌, sym, subst, cond, List, length, eqb, le-ltb, UnitRecord, test}
use Rattle.base.specs.Limit as limit
use Rattle.base.specs.Refusal as refusal
use Rattle.grammar.specs.Units.{TextUnit}
use Rattle.shortest.specs.Demand.{write_answer, output_after, Demand3}
use Rattle.shortest.specs.Records.{work_room, writer_answer, writer_output}
use Rattle.shortest.specs.Demand3.{Demand3For}
use Rattle.shortest.proofs.Shortest.{demand3}
use Rattle.shortest.proofs.Offence.{no_offence}
use Rattle.shortest.proofs.Records.{read_list}

output_once : (us : List TextUnit) (out : List ℕ)
    → cond (eqb (write_answer us (length out)).number refusal.accepted) (output_after us out) out ≡ output_after us out
unfolding output_after
output_once us out = test (eqb (write_answer us (length out)).number refusal.accepted) (λ e. rw e) (λ e. rw e)

pub writer_demand3 : (rs : List UnitRecord) (o : List ℕ) (work : ℕ) (out : List ℕ)
    → Demand3For rs o work out (writer_answer rs o work (length out)) (writer_output rs o work out)
unfolding Demand3For writer_answer writer_output
writer_demand3 rs o work out us t₀ e r w =
    let f = read_list o rs us t₀ e r in
    let l = le-ltb limit.units (length rs) f.short in
    let m = le-ltb work (work_room (length rs)) w in
    let c = (no_offence o rs).1 f.none in
    rw (l, c, m, e) (subst (Demand3 us out (write_answer us (length out))) (sym (output_once us out)) (demand3 us t₀ out r))
