-- `table::keep` meets its contract, by the class.
use Rattle.element.proofs.Names.{arith}
use Rattle.table.proofs.Keeping.{kept_none, kept_character, kept_space}
use Rattle.table.proofs.keep.Goals as goal

pub returns-then-x-lt-DOUBLE : goal.returns-then-x-lt-DOUBLE
returns-then-x-lt-DOUBLE c = kept_none (λ t. omega arith)

pub returns-then-x-lt-SPACE : goal.returns-then-x-lt-SPACE
returns-then-x-lt-SPACE c = let cur = c.args.cur.now in
    kept_character _ cur _ _ _ _ (omega arith) c.if-x-lt-DOUBLE.false c.if-x-lt-SPACE.true c.keep_row.ensures
    c.keep_column.ensures

pub returns-then-x-eq-SPACE : goal.returns-then-x-eq-SPACE
returns-then-x-eq-SPACE c = let cur = c.args.cur.now in
    kept_space _ cur _ _ _ _ (omega arith) c.if-x-eq-SPACE.true c.keep_row-then-x-eq-SPACE.ensures c.keep_row-then-x-eq-SPACE-2.ensures

pub returns-else-x-eq-SPACE : goal.returns-else-x-eq-SPACE
returns-else-x-eq-SPACE c = kept_none (λ t. omega arith)
