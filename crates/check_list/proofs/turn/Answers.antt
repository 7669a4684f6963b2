-- `check_list::turn` meets its contract, by what came before and by what the record is refused for.
use Rattle.element.proofs.Names.{sym, ◌∙◌}
use Rattle.check_list.proofs.Turns.{stowable, turn_goes, turn_stops, turn_faulty}
use Rattle.check_list.proofs.turn.Goals as goal

pub returns-in-Err : goal.returns-in-Err
returns-in-Err c = turn_faulty _ _ _ _ _ _ c.in-Err.is

pub put-requires : goal.put-requires
put-requires c = stowable _ _ _ _ (sym c.in-Ok-judge.ensures)

pub returns-in-Ok-judge : goal.returns-in-Ok-judge
returns-in-Ok-judge c = let args = c.args in
    let t = turn_goes args.segments.now args.unit args.i args.progress args.work.now _ _ c.in-Ok.is (sym c.in-Ok-judge.ensures) in
    (t.0, c.put.ensures ∙ t.1)

pub returns-in-Err-judge : goal.returns-in-Err-judge
returns-in-Err-judge c = rw c.at.ensures (turn_stops _ _ _ _ _ _ _ c.in-Ok.is (sym c.in-Err-judge.ensures))
