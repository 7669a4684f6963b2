-- The ladder's rules for the octets at a cursor: there is one, or the string ends there.
use Rattle.element.proofs.Names.{ℕ, ◌+◌, ◌<◌, ◌≤◌, ◌≡◌, true, List, [], ◌∷◌, length, get_or, ltb, from, pick_by, ladder, on_true, on_ne, State}
use Rattle.base.specs.Limit as limit
use Rattle.base.proofs.Ladder.{octet, ended}
use Rattle.cursor.specs.Cursor.{state_in, element_turn, after_csi, mark_of, marked_turn, text_octet, set_at, double_of, octet_of, quick_of, advance_at}
use Rattle.cursor.specs.declared.Cursor.{Cursor}
use Rattle.cursor.specs.declared.Turn.{Turn}

module _ (s : List ℕ) (at : ℕ) (st : State) (other r : Turn) where
  pub on_quick : at < length s → r ≡ quick_of at (get_or s at 0 ∷ from (at + 1) s) st other → r ≡ quick_of at (from at s) st other
  on_quick h e = octet (λ (t : List ℕ). quick_of at t st other) s at r h e

  pub on_quick_end : length s ≤ at → r ≡ quick_of at [] st other → r ≡ quick_of at (from at s) st other
  on_quick_end h e = ended (λ (t : List ℕ). quick_of at t st other) s at r h e

  pub on_mark : at < length s → r ≡ mark_of at (get_or s at 0 ∷ from (at + 1) s) st other → r ≡ mark_of at (from at s) st other
  on_mark h e = octet (λ (t : List ℕ). mark_of at t st other) s at r h e

  pub on_mark_end : length s ≤ at → r ≡ mark_of at [] st other → r ≡ mark_of at (from at s) st other
  on_mark_end h e = ended (λ (t : List ℕ). mark_of at t st other) s at r h e

  pub on_csi : at + 1 < length s → r ≡ after_csi at (get_or s (at + 1) 0 ∷ from (at + 1 + 1) s) st other → r ≡ after_csi at (from (at + 1) s) st other
  on_csi h e = octet (λ (t : List ℕ). after_csi at t st other) s (at + 1) r h e

  pub on_csi_end : length s ≤ at + 1 → r ≡ after_csi at [] st other → r ≡ after_csi at (from (at + 1) s) st other
  on_csi_end h e = ended (λ (t : List ℕ). after_csi at t st other) s (at + 1) r h e

-- text of a set that is the one on its side
module _ (at b : ℕ) (t : List ℕ) (set : ℕ) (st : State) (other r : Turn) where
  pub on_text : text_octet b ≡ true → set ≡ set_at b st.sets → r ≡ octet_of at b t set st other → r ≡ quick_of at (b ∷ t) st other
  unfolding quick_of
  on_text h k e = on_true (text_octet b) _ _ _ h (rw (← k) e)

module _ (s : List ℕ) (at b set : ℕ) (st : State) (other r : Turn) where
  pub on_double : at + 1 < length s → r ≡ double_of at b (get_or s (at + 1) 0 ∷ from (at + 1 + 1) s) set st other
      → r ≡ double_of at b (from (at + 1) s) set st other
  on_double h e = octet (λ (t : List ℕ). double_of at b t set st other) s (at + 1) r h e

  pub on_double_end : length s ≤ at + 1 → r ≡ double_of at b [] set st other → r ≡ double_of at b (from (at + 1) s) set st other
  on_double_end h e = ended (λ (t : List ℕ). double_of at b t set st other) s (at + 1) r h e

module _ (s : List ℕ) (at : ℕ) (c : Cursor) (r : Turn) where
  pub on_advance : at < length s → r ≡ advance_at (get_or s at 0 ∷ from (at + 1) s) s c → r ≡ advance_at (from at s) s c
  on_advance h e = octet (λ (t : List ℕ). advance_at t s c) s at r h e

  pub on_advance_end : length s ≤ at → r ≡ advance_at [] s c → r ≡ advance_at (from at s) s c
  on_advance_end h e = ended (λ (t : List ℕ). advance_at t s c) s at r h e

-- what does not start with 9B is left to its element
pub on_unmarked : (s : List ℕ) (c : Cursor) (r : Turn) → c.place < length s → (get_or s c.place 0 ≡ 0x9B → ⊥) → r ≡ element_turn s c
    → r ≡ marked_turn s c
unfolding mark_of marked_turn
on_unmarked s c r h n e =
    pick_by (λ x. r ≡ x) (ltb limit.octets (length s)) (λ _. e)
    (λ _. on_mark s c.place (state_in c) (element_turn s c) r h (on_ne (get_or s c.place 0) 0x9B _ _ _ n e))

pub ruleset marking = (on_mark, on_mark_end, on_csi, on_csi_end, ladder)

pub ruleset reading = (on_quick, on_quick_end, on_double, on_double_end, on_advance, on_advance_end, ladder)
