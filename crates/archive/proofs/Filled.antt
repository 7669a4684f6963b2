-- The list that `archive::read` fills, record by record at a cursor, is the list of its contract (`filled`), and the cursor of each record that is
-- stored is one from which a unit is next (`ready`): the laws of `read` on any way to read the unit at a cursor, for the unit of the elements.
use Rattle.element.proofs.Names.{ℕ, zero, suc, ◌<◌, arith, ◌≡◌, refl, ap, sym, ◌∙◌, List, [], ◌∷◌, ◌++◌, length, take, drop, UnitRecord, State}
use Rattle.units.specs.Next.{next_of}
use Rattle.units.specs.Next.{Outcome}
use Rattle.walks.proofs.Filling.{length_fill}
use Rattle.walks.proofs.Filling.{fill_from, length_fill}
use Rattle.cursor.specs.Cursor.{cursor, first, state_in, element_turn}
use Rattle.cursor.specs.declared.Cursor.{Cursor}
use Rattle.cursor.proofs.Free.{Like, like}
use Rattle.cursor.proofs.Turns.{Alike, alike, next_ahead, by_element}
use Rattle.read.specs.Listing.{read_answer, stored_of, list_after}
use Rattle.read.proofs.Filled.{unit_by, after_by, filled_by, cursor_by, Advances, filled_by_lem, each_by, short_stored}
use Rattle.archive.specs.Turns.{rowed, Ready}

advances : Advances element_turn
advances s short at st to es = by_element s short

-- a cursor from which a unit is next by the elements
ready_by : (s : List ℕ) (c : Cursor) {o given : Outcome} → Alike o given → next_of s c.place (state_in c) ≡ o → Ready s (rowed c)
ready_by s c (alike {u = u} {place = place}) e = record { row = refl; force = refl; unit = u; place = place; after = _; next = e }

ready_at : (s : List ℕ) (at : ℕ) {st to : State} {given : Outcome} → Like st to → Alike (next_of s at to) given → Ready s (rowed (cursor at to))
ready_at s at {st} like a = ready_by s (cursor at st) a refl

-- a list whose first places alone are filled, by the part that they are
fill_front : {X S : Type 0} (unit : S → X) (next : S → S) (n : ℕ) (c : S) (ys : List X)
    → fill_from unit next n c (take n ys) ++ drop n ys ≡ fill_from unit next n c ys
fill_front unit next zero c ys = refl
fill_front unit next (suc n) c [] = refl
fill_front unit next (suc n) c (y ∷ ys) = ap (λ l. unit c ∷ l) (fill_front unit next n (next c) ys)

module _ (s : List ℕ) (ys : List UnitRecord) where
  -- the cursor and the list after so many steps
  abbrev pub cur : ℕ → Cursor
  cur i = cursor_by element_turn s i first

  abbrev pub got : ℕ → List UnitRecord
  got i = filled_by element_turn s i first ys

  abbrev pub n : ℕ
  n = stored_of (read_answer s (length ys))

  pub ready : (i : ℕ) → i < n → Ready s (rowed (cur i))
  ready i h =
      let short = short_stored s ys (omega (arith, h)) in
      each_by element_turn advances s ys (λ c. Ready s (rowed c)) (λ at st to es a l some. ready_at s at l (next_ahead s short a l some)) i h

  pub filled : got n ≡ list_after s ys
  filled = filled_by_lem element_turn advances s ys

  pub length_after : length (list_after s ys) ≡ length ys
  length_after = ap length (sym filled) ∙ length_fill (unit_by element_turn s) (after_by element_turn s) n first ys

  -- the same where no more of the list is lent than is filled
  pub filled_front : filled_by element_turn s n first (take n ys) ++ drop n ys ≡ list_after s ys
  filled_front = fill_front (unit_by element_turn s) (after_by element_turn s) n first ys ∙ filled
