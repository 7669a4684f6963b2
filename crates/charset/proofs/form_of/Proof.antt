-- `charset::form_of` meets its contract: its comparisons are `form_by`, which is the table's.
use Rattle.base.proofs.Ladder.{ladder, after}
use Rattle.charset.specs.Finals.{form_by}
use Rattle.charset.proofs.Lookup.{form_rule}
use Rattle.charset.proofs.form_of.Statement.{statement}
use Rattle.charset.proofs.form_of.Tie as tie

pub form_of_spec : {M : Type 1} → statement M
unfolding form_by
form_of_spec =
    tie.close
    (tie.spec (λ c. after (form_rule _) (search ladder)) (λ c. after (form_rule _) (search ladder)) (λ c. after (form_rule _) (search ladder))
    (λ c. after (form_rule _) (search ladder)))
