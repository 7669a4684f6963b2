-- `archive::quick::quick` meets its contract: in each turn a stretch (`after_stretch`) and a designation (`after_told`) lead on, under the sets that
-- they leave, and the two parts of the row are those of the sets.
use Rattle.element.proofs.Names.{◌-◌, ◌≡◌, length, form_of}
use Rattle.octet_table.specs.Table.{left_of, right_of}
use Rattle.archive_laws.specs.Passes.{Reaches}
use Rattle.archive.proofs.quick.quick.Given as goal

abbrev pub invariant-loop-place : goal.invariant-loop-place
invariant-loop-place l =
    Reaches l.t l.s l.at l.fn.start l.place l.sets l.units × (l.high ≡ left_of (form_of l.sets.gl)) × (l.low ≡ right_of (form_of l.sets.gr))

abbrev pub decreases-loop-place : goal.decreases-loop-place
decreases-loop-place l = length l.s - l.place
