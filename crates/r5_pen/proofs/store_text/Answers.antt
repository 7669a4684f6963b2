-- `r5_pen::store_text` meets its contract: its stores are those of the definition.
use Rattle.element.proofs.Names.{sym, ◌∙◌}
use Rattle.r5_pen.proofs.Steps.{text_stands, text_designated}
use Rattle.r5_pen.proofs.store_text.Goals as goal

pub returns-then-stands : goal.returns-then-stands
returns-then-stands c = let args = c.args in
    text_stands args.pen args.set args.code args.index (sym c.stands.ensures ∙ c.if-stands.true)
    c.put-at.ensures c.stayed.ensures

pub returns : goal.returns
returns c = let args = c.args in
    text_designated args.pen args.set args.code args.index (sym c.stands.ensures ∙ c.if-stands.false)
    c.may_use-left.ensures c.put_designation-a.ensures c.put-b.ensures c.moved.ensures
