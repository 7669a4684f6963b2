-- What is stored, with the octets still to come, is the form's reading (`Filling`).
use Prim.Native.Nat.{◌-◌}
use Rattle.resource_form.specs.Form.{form_reading}
use Rattle.resource.specs.Scan.{octets_of}
use Rattle.resource.proofs.Reading.{Filling}
use Rattle.resource.proofs.read.store.Given as goal

abbrev pub invariant-loop-i : goal.invariant-loop-i
invariant-loop-i l = Filling l.form (octets_of (form_reading l.form)) l.initial.out l.octets l.i l.at l.out

abbrev pub decreases-loop-i : goal.decreases-loop-i
decreases-loop-i l = l.octets - l.i
