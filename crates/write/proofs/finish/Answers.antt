-- `write::finish` meets its contract, by the length of the list and by how far it is checked.
use Rattle.element.proofs.Names.{refl, ◌∙◌}
use Rattle.write.proofs.Finishes.{finish_long, finish_fine, finish_faulty}
use Rattle.write.proofs.finish.Goals as goal

pub returns-then-n-gt-UNITS : goal.returns-then-n-gt-UNITS
returns-then-n-gt-UNITS c = let args = c.args in
    let f = finish_long args.progress args.n args.segments.now args.work.now args.out.now c.if-n-gt-UNITS.true in
    (c.at.ensures ∙ f.0, f.1, refl)

pub returns-in-Ok : goal.returns-in-Ok
returns-in-Ok c = let args = c.args in
    let few = c.if-n-gt-UNITS.false in
    let fine = c.in-Ok.is in
    let written = c.write_rows.ensures in
    let f = finish_fine args.progress args.n args.segments.now args.work.now args.out.now _ few fine in
    (written.0 ∙ f.0, written.1 ∙ f.1, written.2)

pub returns-in-Err : goal.returns-in-Err
returns-in-Err c = let args = c.args in
    let few = c.if-n-gt-UNITS.false in
    let faulty = c.in-Err.is in
    let f = finish_faulty args.progress args.n args.segments.now args.work.now args.out.now _ few faulty in
    (c.refused.ensures ∙ f.0, f.1, refl)
