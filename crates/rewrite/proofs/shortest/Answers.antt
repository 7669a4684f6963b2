-- `rewrite::shortest` meets its contract, by what it calls and the laws of `Whole`.
use Rattle.rewrite.proofs.Whole.{accepts, counts, refused_answer, refused_output, accepted_answer, accepted_output}
use Rattle.element.proofs.Names.{arith, refl, ◌∙◌}
use Rattle.grammar.specs.Reading.{Octets}
use Rattle.rewrite.proofs.shortest.Goals as goal

pub stow-requires : goal.stow-requires
stow-requires c = let answer = c.answer-a.ensures in
    (accepts _ _ answer c.if-a-ne-ACCEPTED.false, counts _ _ answer c.if-a-ne-ACCEPTED.false)

pub returns : goal.returns
returns c = let octets : Octets c.args.s.now = λ i. omega (arith, c.type_inv.s i) in
    let answer = c.answer-a.ensures in
    let taken = c.if-a-ne-ACCEPTED.false in
    let stowed = c.stow.ensures in
    let wrote = c.finish.ensures in
    let begun = c.begin.ensures in (
      accepted_answer _ _ answer octets taken _ _ c.args.out.now stowed _ (rw begun at wrote.0),
      accepted_output _ _ answer octets taken _ _ c.args.out.now stowed _ (rw begun at wrote.1),
      wrote.2 ∙ stowed.same,
    )

pub returns-then-a-ne-ACCEPTED : goal.returns-then-a-ne-ACCEPTED
returns-then-a-ne-ACCEPTED c = let answer = c.answer-a.ensures in
    (refused_answer _ _ answer _ _ c.if-a-ne-ACCEPTED.true, refused_output _ _ answer _ _ c.if-a-ne-ACCEPTED.true, refl)
