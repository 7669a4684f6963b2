-- `rewrite::stow` meets its contract. The invariant is `Head`, each turn is `head_next`, there is always a next unit (`head_more`), and no record
-- offends (`fine_at`).
use Rattle.element.proofs.Names.{arith, refl, suc, ◌≡◌}
use Rattle.grammar.specs.Reading.{Octets}
use Rattle.read.proofs.Filled.{short}
use Rattle.rewrite.proofs.Unoffending.{fine_at}
use Rattle.rewrite.proofs.Turns.{head_first, head_more, head_next, never_given}
use Rattle.rewrite.proofs.stow.Goals as goal

pub loop-i-init : goal.loop-i-init
loop-i-init c = head_first _ _

pub shape_of-work-in_default : goal.shape_of-work-in_default
shape_of-work-in_default c = c.loop-i.invariant.stowed.same

pub returns-in_default : goal.returns-in_default
returns-in_default c = let loop = c.loop-i in
    let all = c.requires.1 in
    absurd
    (head_more _ (short _ c.requires.0) _ _ _ _ _ loop.invariant (omega arith) _ c.next_unit.ensures (never_given c.next_unit.result c.in_default.not-Ok))

pub loop-i-preserved : goal.loop-i-preserved
loop-i-preserved c = let loop = c.loop-i in
    let octets : Octets c.args.s.now = λ i. omega (arith, c.type_inv.s i) in
    let all = c.requires.1 in
    head_next _ (short _ c.requires.0) _ _ _ _ _ loop.invariant (omega arith) _ _ _ _ _ c.in-Ok.ensures
    refl
    (fine_at _ octets c.requires.0 (suc loop.i) (omega arith)) c.put.ensures

pub shape_of-work : goal.shape_of-work
shape_of-work c = c.loop-i.invariant.stowed.same

pub returns : goal.returns
returns c = let few = c.loop-i.invariant.few in
    let all = c.requires.1 in
    let e : c.loop-i.i ≡ c.args.n = omega arith in
    rw e at c.loop-i.invariant.stowed
