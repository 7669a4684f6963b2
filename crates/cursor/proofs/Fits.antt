-- What is answered of a designation at a cursor: it stands within the string, and the cursor after it is the one that passes it.
use Rattle.element.proofs.Names.{ℕ, ◌+◌, ◌≤◌, ◌<◌, ◌≡◌, sym, refl, List, length, from, no_set, fresh, designated_of, on_lt, on_ge}
use Rattle.std.proofs.Common.{Ok, Err}
use Rattle.std.specs.Prelude.{Result}
use Rattle.element.specs.Element.{element_of}
use Rattle.element.proofs.Sizes.{silent}
use Rattle.grammar.proofs.Places.{step_passed}
use Rattle.designations.specs.Designation.{named_or, designation_at}
use Rattle.designations.specs.declared.Designation.{Designation}
use Rattle.designations.specs.declared.Unnamed.{Unnamed}
use Rattle.designations.proofs.Designations.{designation_silent}
use Rattle.designations.proofs.Found.{ok_named, err_named}
use Rattle.cursor.specs.Cursor.{cursor, state_in, placed_of, passed_of}
use Rattle.cursor.specs.declared.Cursor.{Cursor}

pub placed_fits : (s : List ℕ) (at : ℕ) (d : Designation) → d ≡ designation_at (from at s) → d.set < no_set → at + d.octets ≤ length s
placed_fits s at d e h =
    (step_passed s at fresh (element_of (from at s) fresh) refl silent (sym (designation_silent (from at s) fresh d e h))).fits

module _ (s : List ℕ) (c : Cursor) (o : Result Designation Unnamed) (is : o ≡ named_or (designation_at (from c.place s))) where
  pub found_fits : (d : Designation) → o ≡ Ok d → c.place + d.octets ≤ length s
  found_fits d i = let h = ok_named o _ is d i in placed_fits s c.place d h.0 h.1

  pub passed_some : (d : Designation) (r : Cursor) → o ≡ Ok d → r ≡ cursor (c.place + d.octets) (designated_of d.side d.set (state_in c))
      → r ≡ passed_of s c
  unfolding passed_of placed_of
  passed_some d r i e = let h = ok_named o _ is d i in rw (← h.0) (on_lt _ _ _ _ _ h.1 e)

  pub passed_none : (u : Unnamed) → o ≡ Err u → c ≡ passed_of s c
  unfolding passed_of placed_of
  passed_none u i = on_ge _ _ _ _ _ ((err_named o _ is u i).1.1) refl
