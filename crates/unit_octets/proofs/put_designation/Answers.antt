-- `unit_octets::put_designation` meets its contract, for sets of one octet and of two.
use Rattle.unit_octets.proofs.Storing.{stored_as, designation_one, designation_two}
use Rattle.unit_octets.proofs.put_designation.Goals as goal

pub returns-then-octets_of-eq2 : goal.returns-then-octets_of-eq2
returns-then-octets_of-eq2 c =
    stored_as
    (designation_two _ _ c.sign-s.ensures c.final_of-last.ensures c.octets_of.ensures c.if-octets_of-eq2.true)
    c.put.ensures

pub returns-else-octets_of-eq2 : goal.returns-else-octets_of-eq2
returns-else-octets_of-eq2 c =
    stored_as
    (designation_one _ _ c.sign-s.ensures c.final_of-last.ensures c.octets_of.ensures c.if-octets_of-eq2.false)
    c.put-else-octets_of-eq2.ensures
