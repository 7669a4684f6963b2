-- The runs of some strings, computed from the definitions: start, end, set, octet width, direction, and the answer.
use Rattle.element.proofs.Names.{ℕ, ◌-◌, ◌≡◌, refl, List, [], ◌∷◌, answer, refused_at, pick, may_use, form_of, set_of, written_of, deeper_of, begun_of}
use Rattle.element.proofs.Names.{reverted_of, step_of, next, put}
use Rattle.base.specs.Direction as direction
use Rattle.base.specs.Refusal as refusal
use Rattle.charset.specs.Charsets.{fits_of, find}
use Rattle.control.specs.Escape.{designates_of, designation_of, multi_octet_of, escape_of}
use Rattle.control.specs.Mark.{begin_of, csi_of}
use Rattle.element.specs.Element.{shape_of, stepped_of, directed_of}
use Rattle.element.specs.Start.{used_in, character_start, left_start, start_of, begun_by}
use Rattle.grammar.specs.Reading.{onward, elements, answer_of, check_of}
use Rattle.segment.specs.Segment.{name_octet_of, name_of, text_width_of, whole_of, content_of, body_of, lengths_of, extended_of}
use Rattle.state.specs.Directions.{in_force_of}
use Rattle.text.specs.Text.{graphic_of, second_octet_of}
use Rattle.pieces.specs.Pieces.{side_kind_of, piece_kind_of, piece_of, same_run_of, joined, pieces_from, pieces_of, set_in}
use Rattle.runs.specs.Runs.{runs_in, runs_of, width_of, bounds, shown_of, no_run, nth_run_of, run_at}
use Rattle.runs.specs.declared.Bounds.{Bounds}

-- a string, the number of a run, and what is answered
record Row : Type 0 where
  string : List ℕ
  number : ℕ
  given : Bounds

abbrev row : List ℕ → ℕ → Bounds → Row
row s k g = record { string = s; number = k; given = g }

abbrev run : ℕ → ℕ → ℕ → ℕ → ℕ → ℕ → Bounds
run start end set width way n = bounds start end set width way (answer refusal.accepted n (end - start))

abbrev past : Bounds
past = no_run (refused_at refusal.bad_unit 0)

abbrev rows : List Row
rows =
    -- no run
    row [] 0 past
    -- a designation of the other side breaks a run
    ∷ row (0x41 ∷ 0x1B ∷ 0x2D ∷ 0x42 ∷ 0x41 ∷ []) 0 (run 0 1 0 1 direction.none 5)
    ∷ row (0x41 ∷ 0x1B ∷ 0x2D ∷ 0x42 ∷ 0x41 ∷ []) 1 (run 4 5 0 1 direction.none 5)
    ∷ row (0x41 ∷ 0x1B ∷ 0x2D ∷ 0x42 ∷ 0x41 ∷ []) 2 past
    -- spaces only, under set 2
    ∷ row (0x1B ∷ 0x28 ∷ 0x4A ∷ 0x20 ∷ 0x20 ∷ []) 0 (run 3 5 2 1 direction.none 5)
    -- GL next to GR, and a tab
    ∷ row (0x48 ∷ 0x20 ∷ 0xE9 ∷ 0x09 ∷ 0xE9 ∷ []) 0 (run 0 2 0 1 direction.none 5)
    ∷ row (0x48 ∷ 0x20 ∷ 0xE9 ∷ 0x09 ∷ 0xE9 ∷ []) 1 (run 2 3 3 1 direction.none 5)
    ∷ row (0x48 ∷ 0x20 ∷ 0xE9 ∷ 0x09 ∷ 0xE9 ∷ []) 2 (run 4 5 3 1 direction.none 5)
    -- two octets to a character
    ∷ row (0x1B ∷ 0x24 ∷ 0x29 ∷ 0x42 ∷ 0xB0 ∷ 0xA1 ∷ 0xB0 ∷ 0xA1 ∷ 0x41 ∷ []) 0 (run 4 8 13 2 direction.none 9)
    -- a direction, one inside it, and the first again after a revert
    ∷ row (0x9B ∷ 0x32 ∷ 0x5D ∷ 0x41 ∷ 0x9B ∷ 0x31 ∷ 0x5D ∷ 0x42 ∷ 0x9B ∷ 0x5D ∷ 0x43 ∷ []) 0 (run 3 4 0 1 direction.right_to_left 11)
    ∷ row (0x9B ∷ 0x32 ∷ 0x5D ∷ 0x41 ∷ 0x9B ∷ 0x31 ∷ 0x5D ∷ 0x42 ∷ 0x9B ∷ 0x5D ∷ 0x43 ∷ []) 1 (run 7 8 0 1 direction.left_to_right 11)
    ∷ row (0x9B ∷ 0x32 ∷ 0x5D ∷ 0x41 ∷ 0x9B ∷ 0x31 ∷ 0x5D ∷ 0x42 ∷ 0x9B ∷ 0x5D ∷ 0x43 ∷ []) 2 (run 10 11 0 1 direction.right_to_left 11)
    -- an extended segment breaks a run, and is none
    ∷ row (0x41 ∷ 0x1B ∷ 0x25 ∷ 0x2F ∷ 0x31 ∷ 0x80 ∷ 0x84 ∷ 0x61 ∷ 0x62 ∷ 0x02 ∷ 0xFF ∷ 0x41 ∷ []) 1 (run 11 12 0 1 direction.none 12)
    -- a refused string has none: its refusal comes before 11
    ∷ row (0x41 ∷ 0x9B ∷ 0x31 ∷ 0x5D ∷ []) 0 (no_run (refused_at refusal.direction 1))
    ∷ row (0x41 ∷ 0x9B ∷ 0x31 ∷ 0x5D ∷ []) 7 (no_run (refused_at refusal.direction 1))
    ∷ row (0x41 ∷ 0x1B ∷ 0x29 ∷ 0x42 ∷ []) 0 (no_run (refused_at refusal.not_approved 3))
    ∷ []

abbrev found : List Row → List Bounds
found [] = []
found (r ∷ rs) = run_at r.string r.number ∷ found rs

abbrev expected : List Row → List Bounds
expected [] = []
expected (r ∷ rs) = r.given ∷ expected rs

pub table : found rows ≡ expected rows
unfolding pick may_use form_of fits_of find set_of put next graphic_of second_octet_of name_octet_of name_of text_width_of whole_of content_of body_of
    lengths_of extended_of begin_of csi_of designates_of designation_of multi_octet_of escape_of written_of deeper_of begun_of reverted_of step_of
    in_force_of used_in character_start left_start start_of begun_by shape_of stepped_of directed_of onward elements answer_of check_of side_kind_of
    piece_kind_of piece_of same_run_of joined pieces_from pieces_of set_in runs_in runs_of width_of shown_of nth_run_of run_at
table = refl
