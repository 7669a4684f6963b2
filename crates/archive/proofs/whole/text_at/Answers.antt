-- `archive::whole::text_at` meets its contract: the entry of the octet in the row of the sets is its class.
use Rattle.element.proofs.Names.{ℕ, ◌+◌, ◌-◌, arith, ◌≡◌, sym, ◌∙◌, subst}
use Rattle.octet_stretches.specs.Stretched.{Entry}
use Rattle.octet_table.proofs.Rule.{row_low}
use Rattle.archive_laws.specs.Passes.{Classed, row_at}
use Rattle.archive_laws.proofs.Passes.{row_length, classed}
use Rattle.archive.proofs.whole.text_at.Goals as goal

pub overflow_add-row : goal.overflow_add-row
overflow_add-row c = omega (arith, row_low _ _ c.row_of-row.ensures)

pub slice_bounds-class_at-end : goal.slice_bounds-class_at-end
slice_bounds-class_at-end c = omega (arith, row_low _ _ c.row_of-row.ensures)

pub returns : goal.returns
returns c = λ is e. let at_row = c.row_of-row in
    let low = row_low _ _ at_row.ensures in
    let k = c.class_at.result in
    let f : at_row.result + 256 - at_row.result ≡ 256 = omega arith in
    let entry : Entry (row_at at_row.result c.args.t.now) c.args.s.now c.args.at k
    = (rw f at c.class_at.ensures).entry (row_length at_row.result c.args.t.now (omega (arith, low)))
    c.requires in
    record {
      number = k;
      classed = subst (λ (r : ℕ). Classed r c.args.s.now c.args.at k) at_row.ensures (classed _ _ _ is low entry);
      text = sym c.text_class.ensures ∙ e;
    }
