-- The table of checked strings, proved at once: antt computes the definitions; and what each refusal points at, case by case (`pointed_strings`). Of the
-- two that request No. 2 refuses, also that they were accepted before it (`were_accepted`).
use Rattle.element.proofs.Names.{◌≡◌, refl, ◌++◌, answer, pick, may_use, allowed, form_of, set_of, put, written_of, deeper_of, begun_of, reverted_of, step_of}
use Rattle.element.proofs.Names.{next}
use Rattle.base.specs.Refusal as refusal
use Rattle.charset.specs.Charsets.{fits_of, find}
use Rattle.text.specs.Text.{graphic_of, second_octet_of}
use Rattle.segment.specs.Segment.{name_octet_of, name_of, text_width_of, whole_of, content_of, body_of, lengths_of, extended_of}
use Rattle.control.specs.Mark.{begin_of, csi_of}
use Rattle.control.specs.Escape.{intermediates_of, designates_of, designation_of, multi_octet_of, escape_of}
use Rattle.element.specs.Element.{shape_of, stepped_of, directed_of}
use Rattle.element.specs.Start.{used_in, character_start, left_start, start_of, begun_by}
use Rattle.grammar.specs.Units.{unit_of, wide, octets, designation}
use Rattle.grammar.specs.Reading.{onward, elements, answer_of, check_of, unit_at, units_of, reading_of}
use Rattle.grammar.proofs.Before.{directed_before, elements_before, check_before}
use Rattle.shortest.specs.Writing.{stands, price, met, need, least, unit_size, cost, choose, used, writing}
use Rattle.shortest.specs.CheckedStrings.{table, refusals, places, defined, expected, answers_defined, answers_expected, begin_mark}
use Rattle.shortest.specs.CheckedStrings.{revert_mark, segment_with_text}

pub checked_strings : (defined table ≡ expected table) × (answers_defined refusals ≡ answers_expected refusals)
unfolding pick may_use allowed form_of fits_of find set_of put written_of deeper_of begun_of reverted_of step_of next graphic_of second_octet_of
    name_octet_of name_of text_width_of whole_of content_of body_of lengths_of extended_of begin_of csi_of intermediates_of designates_of designation_of
    multi_octet_of escape_of used_in character_start left_start start_of begun_by shape_of stepped_of directed_of
    unit_of wide octets designation onward elements answer_of check_of unit_at units_of reading_of stands price met
    need least unit_size cost choose used writing
checked_strings = (refl, refl)

pub pointed_strings : answers_defined places ≡ answers_expected places
unfolding pick may_use form_of fits_of find set_of put next graphic_of second_octet_of name_octet_of name_of text_width_of whole_of content_of body_of
    lengths_of extended_of begin_of csi_of intermediates_of designates_of designation_of multi_octet_of escape_of written_of step_of used_in
    character_start left_start start_of begun_by shape_of stepped_of directed_of onward elements answer_of check_of
pointed_strings = refl

pub were_accepted : (check_before (segment_with_text ++ begin_mark) ≡ answer refusal.accepted 13 2)
    × (check_before (begin_mark ++ revert_mark ++ segment_with_text) ≡ answer refusal.accepted 15 3)
unfolding pick may_use allowed form_of written_of deeper_of begun_of reverted_of step_of next graphic_of name_octet_of name_of text_width_of whole_of content_of
    body_of lengths_of extended_of begin_of csi_of escape_of start_of begun_by shape_of stepped_of directed_before onward elements_before answer_of check_before
were_accepted = (refl, refl)
