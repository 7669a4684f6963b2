-- A form looked over, in the terms of its reading: for the functions of this crate among themselves.
use Rattle.std.specs.Prelude.{ℕ, List, [], Result, Ok, Err, length}
use Rattle.resource_form.specs.Form.{FormReading, stands_for, fault_at}
use Rattle.resource.specs.declared.read.Fault.{Fault}

-- how many octets a form stands for, or the place of its first fault
unfoldable pub scan_of : FormReading → Result ℕ Fault
scan_of (stands_for bs) = Ok (length bs)
scan_of (fault_at p) = Err (record { place = p })

-- the octets that a form stands for
unfoldable pub octets_of : FormReading → List ℕ
octets_of (stands_for bs) = bs
octets_of (fault_at p) = []
