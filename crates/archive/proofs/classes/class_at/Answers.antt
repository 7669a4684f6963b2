-- `archive::classes::class_at` meets its contract, by the table's rule at the entry.
use Rattle.element.proofs.Names.{ℕ, ◌+◌, ◌<◌, arith, ◌∙◌, ap, get_or}
use Rattle.octet_table.specs.Table.{rule_of}
use Rattle.octet_table.proofs.Rule.{table_at, table_length}
use Rattle.archive.proofs.classes.class_at.Goals as goal

pub bounds-t-row : goal.bounds-t-row
bounds-t-row c = omega (arith, table_length _ c.requires.0, c.requires.1, c.from.ensures, c.type_inv.s c.args.at)

pub returns : goal.returns
returns c =
    let octet : get_or c.args.s.now c.args.at 0 < 256 = omega (arith, c.type_inv.s c.args.at) in
    record {
      inside = c.requires.2;
      octet = octet;
      is = table_at _ c.requires.0 _ (omega (arith, c.requires.1, c.from.ensures)) ∙ ap (λ (n : ℕ). rule_of (c.args.row + n)) c.from.ensures;
    }
