-- What the code answers of a designation, in the laws of designations.
use Rattle.element.proofs.Names.{ℕ, ◌+◌, ◌≤◌, ◌<◌, ◌≡◌, List, length, get_or, from, form_of, no_set, on, put, Side, Sets}
use Rattle.std.proofs.Common.{Some, Ok}
use Rattle.std.specs.Prelude.{Result}
use Rattle.std.specs.declared.option.Option.{Option}
use Rattle.designations.specs.Designation.{if_named, named_or, told_of, form_after, designation_at}
use Rattle.designations.specs.declared.Designation.{Designation}
use Rattle.designations.specs.declared.Unnamed.{Unnamed}
use Rattle.designations.proofs.Found.{some_found, ok_named}
use Rattle.archive_laws.specs.Passes.{Places, EscapeAt}
use Rattle.archive_laws.proofs.Passes.{designation_some, told_at, places_more}

pub designation_found : (s : List ℕ) (i : ℕ) (o : Result Designation Unnamed) (x : Designation) → o ≡ named_or (designation_at (from i s)) → o ≡ Ok x
    → (1 ≤ x.octets) × (i + x.octets ≤ length s)
designation_found s i o x e f = let h = ok_named o _ e x f in designation_some s i x h.0 h.1

module _ (s : List ℕ) (i : ℕ) (o : Option Designation) (x : Designation) where
  pub told_found : EscapeAt s i → o ≡ if_named (told_of (get_or s (i + 1) 0) (get_or s (i + 1 + 1) 0) (get_or s (i + 1 + 1 + 1) 0)) → o ≡ Some x
      → (x ≡ designation_at (from i s)) × ((x.set < no_set) × (form_of x.set ≡ form_after (get_or s (i + 1) 0)))
  told_found h e f =
      let g = some_found o x _ e f in
      let t = told_at s i x h g.0 g.1 in (t.0, (g.1, t.1))

pub places_found : (s : List ℕ) (at : ℕ) (a : Sets) (i : ℕ) (b : Sets) → Places s at a i b → (o : Result Designation Unnamed) (x : Designation)
    → o ≡ named_or (designation_at (from i s)) → o ≡ Ok x → (d : Side) → x.side ≡ d → Places s at a (i + x.octets) (put (on d x.set) b)
places_found s at a i b p o x e f = let h = ok_named o _ e x f in places_more s at a i b p x h.0 h.1
