-- `cursor::text_or_element` meets its contract, test by test: each return is a law on plain values, of the string and the cursor.
use Rattle.element.proofs.Names.{ℕ, ◌+◌, ◌<◌, ◌≤◌, ◌≡◌, true, false, List, length, get_or, from, on_false, on_lt, on_ge, sym, ◌∙◌}
use Rattle.state.specs.State.{sets}
use Rattle.charset.specs.Charsets.{first_double}
use Rattle.cursor.specs.Cursor.{state_in, marked_turn, text_octet, set_at, single, double_of, octet_of, quick_of, text_turn}
use Rattle.cursor.specs.declared.Cursor.{Cursor}
use Rattle.cursor.specs.declared.Turn.{Turn}
use Rattle.cursor.proofs.Rules.{on_quick, on_quick_end, on_text, on_unmarked}
use Rattle.cursor.proofs.text_or_element.Goals as goal

module _ (s : List ℕ) (c : Cursor) (r : Turn) where
  over : length s ≤ c.place → r ≡ marked_turn s c → r ≡ text_turn s c
  unfolding quick_of text_turn
  over h e = on_quick_end s c.place (state_in c) (marked_turn s c) r h e

  module _ (inside : c.place < length s) where
    abbrev b : ℕ
    b = get_or s c.place 0

    module _ (set : ℕ) (is : text_octet b ≡ true) (under : set ≡ set_at b (sets c.gl c.gr)) where
      text : r ≡ octet_of c.place b (from (c.place + 1) s) set (state_in c) (marked_turn s c) → r ≡ text_turn s c
      unfolding text_turn
      text e =
          on_quick s c.place (state_in c) (marked_turn s c) r inside
          (on_text c.place b (from (c.place + 1) s) set (state_in c) (marked_turn s c) r is under e)

      one : set < first_double → r ≡ single c.place b set (state_in c) → r ≡ text_turn s c
      unfolding octet_of
      one h e = text (on_lt _ _ _ _ _ h e)

      two : first_double ≤ set → r ≡ double_of c.place b (from (c.place + 1) s) set (state_in c) (marked_turn s c) → r ≡ text_turn s c
      unfolding octet_of
      two h e = text (on_ge _ _ _ _ _ h e)

    other : text_octet b ≡ false → r ≡ marked_turn s c → r ≡ text_turn s c
    unfolding quick_of text_turn
    other h e = on_quick s c.place (state_in c) (marked_turn s c) r inside (on_false _ _ _ _ h e)

pub returns-then-s-at : goal.returns-then-s-at
returns-then-s-at c = let args = c.args in
    over args.s.now args.c _ c.if-s-at.true c.marked.ensures

pub returns-then-set-lt-FIRST_DOUBLE : goal.returns-then-set-lt-FIRST_DOUBLE
returns-then-set-lt-FIRST_DOUBLE c = let args = c.args in
    one args.s.now args.c _ c.if-s-at.false _ (sym c.text_octet.ensures ∙ c.if-text_octet.true)
    c.set_at-set.ensures c.if-set-lt-FIRST_DOUBLE.true c.single_turn.ensures

pub returns-else-set-lt-FIRST_DOUBLE : goal.returns-else-set-lt-FIRST_DOUBLE
returns-else-set-lt-FIRST_DOUBLE c = let args = c.args in
    two args.s.now args.c _ c.if-s-at.false _ (sym c.text_octet.ensures ∙ c.if-text_octet.true)
    c.set_at-set.ensures c.if-set-lt-FIRST_DOUBLE.false c.or_two.ensures

pub returns-then-b : goal.returns-then-b
returns-then-b c = let args = c.args in
    other args.s.now args.c _ c.if-s-at.false (sym c.text_octet.ensures ∙ c.if-text_octet.false)
    c.marked-then-b.ensures

pub returns-else-b : goal.returns-else-b
returns-else-b c = let inside = c.if-s-at.false in
    let args = c.args in
    other args.s.now args.c _ inside (sym c.text_octet.ensures ∙ c.if-text_octet.false)
    (on_unmarked args.s.now args.c _ inside c.if-b.false c.by_element.ensures)
