-- `check_list::record::stowable` meets its contract.
use Rattle.element.proofs.Names.{ladder}
use Rattle.rows.specs.Stowable.{stowable_of}
use Rattle.check_list.proofs.record.stowable.Statement.{statement}
use Rattle.check_list.proofs.record.stowable.Tie as tie

pub stowable_spec : {M : Type 1} → statement M
unfolding stowable_of
stowable_spec = tie.close (tie.spec (λ c. search ladder depth 9) (λ c. search ladder depth 9) (λ c. search ladder depth 9) (λ c. search ladder depth 9))
