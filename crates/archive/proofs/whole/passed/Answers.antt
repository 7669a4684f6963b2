-- `archive::whole::passed` meets its contract, by what `quick`, `placed` and `blanks` ensure.
use Rattle.element.proofs.Names.{arith, sym, ◌∙◌}
use Rattle.archive_laws.proofs.Passes.{leads_on}
use Rattle.archive_laws.proofs.Turn.{blanks_lead}
use Rattle.archive.proofs.whole.passed.Goals as goal

pub returns-then-settled : goal.returns-then-settled
returns-then-settled c = let r = c.quick.ensures in
    record {
      since = r.since;
      within = r.within;
      leads = λ is. r.leads is _ (sym c.settled.ensures ∙ c.if-settled.true);
    }

pub returns : goal.returns
returns c = let placed = c.placed-d.ensures.0 in
    let blanks = c.blanks-place.ensures in
    record {
      since = omega (arith, placed.since, blanks.since);
      within = blanks.within placed.within;
      leads = λ is. leads_on _ _ _ _ _ _ _ _ (placed.leads _) (blanks_lead _ is _ _ _ _ placed.within blanks);
    }
