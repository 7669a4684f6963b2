-- `r5_pen::store` meets its contract, by the kind.
use Rattle.r5_pen.proofs.Steps.{stores_text, stores_control}
use Rattle.r5_pen.proofs.store.Goals as goal

pub returns-then-unit-le-SPACE : goal.returns-then-unit-le-SPACE
returns-then-unit-le-SPACE c = let args = c.args in
    stores_text args.pen args.unit args.index args.out.now c.if-unit-le-SPACE.true c.text_set-set.ensures c.text_code-code.ensures
    c.store_text.ensures

pub returns : goal.returns
returns c = let args = c.args in
    stores_control args.pen args.unit args.index args.out.now c.if-unit-le-SPACE.false c.control.ensures
    c.put-at.ensures c.stayed.ensures
