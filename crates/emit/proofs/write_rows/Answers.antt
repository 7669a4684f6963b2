-- `emit::write_rows` meets its contract, answer by answer.
use Rattle.emit.proofs.Whole.{wrote_many, wrote_no_work, wrote_long, wrote_room, ready_all, wrote_all}
use Rattle.emit.proofs.write_rows.Goals as goal

pub returns-then-n-gt-UNITS : goal.returns-then-n-gt-UNITS
returns-then-n-gt-UNITS c = wrote_many _ _ _ _ c.if-n-gt-UNITS.true c.at.ensures

pub returns-then-work-n : goal.returns-then-work-n
returns-then-work-n c = wrote_no_work _ _ _ _ c.if-n-gt-UNITS.false c.if-work-n.true c.at-then-work-n.ensures

pub returns-then-count-gt-OCTETS : goal.returns-then-count-gt-OCTETS
returns-then-count-gt-OCTETS c =
    wrote_long _ _ _ _ c.if-n-gt-UNITS.false c.if-work-n.false _ _ c.plan-count.ensures c.if-count-gt-OCTETS.true c.at-then-count-gt-OCTETS.ensures

pub returns-then-out-count : goal.returns-then-out-count
returns-then-out-count c = rw c.no_room.ensures
    (wrote_room _ _ _ _ c.if-n-gt-UNITS.false c.if-work-n.false _ _ c.plan-count.ensures c.if-count-gt-OCTETS.false c.if-out-count.true)

pub emit-requires : goal.emit-requires
emit-requires c = let out = c.args.out.now in
    ready_all _ _ _ out c.if-n-gt-UNITS.false c.if-work-n.false _ _ c.plan-count.ensures c.if-count-gt-OCTETS.false
    c.if-out-count.false

pub returns : goal.returns
returns c = wrote_all _ _ _ _ c.if-n-gt-UNITS.false c.if-work-n.false _ _ c.plan-count.ensures c.if-count-gt-OCTETS.false c.if-out-count.false _ _
    c.emit.ensures c.accepted.ensures
