-- The tables of strings and writings, proved at once: antt computes the definitions. And the count that is needed for the empty list.
use Rattle.element.proofs.Names.{◌≡◌, refl, [], pick, may_use, allowed, form_of, set_of, put, written_of, deeper_of, begun_of, reverted_of, step_of, next}
use Rattle.element.proofs.Names.{answer}
use Rattle.element.proofs.Names.{from}
use Rattle.base.specs.Refusal as refusal
use Rattle.charset.specs.Charsets.{fits_of, find}
use Rattle.text.specs.Text.{graphic_of, second_octet_of}
use Rattle.segment.specs.Segment.{lengths_of, extended_of}
use Rattle.control.specs.Mark.{begin_of, csi_of}
use Rattle.control.specs.Escape.{intermediates_of, designates_of, designation_of, multi_octet_of, escape_of}
use Rattle.element.specs.Element.{shape_of, stepped_of, directed_of}
use Rattle.element.specs.Start.{used_in, character_start, left_start, start_of, begun_by}
use Rattle.grammar.specs.Records.{list_reading}
use Rattle.grammar.specs.Units.{wide, octets, designation}
use Rattle.grammar.specs.Reading.{onward, elements, answer_of}
use Rattle.shortest.specs.Writing.{stands, met, used}
use Rattle.x11r5.specs.Examples.{strings, writings, answers_of, answers_told, strings_of, strings_told}
use Rattle.x11r5.specs.Reading.{before_null, mark_by, segment_by, unsupported_at, supported, unended_check_of, null_ended_check_of}
use Rattle.x11r5.specs.Records.{first_refused, null_ended_answer, r5_writer_answer}
use Rattle.x11r5.specs.Writing.{home_need, home_choice, home_writing}

pub checked_strings : answers_of strings ≡ answers_told strings
unfolding pick from may_use form_of fits_of find set_of put written_of deeper_of begun_of reverted_of step_of next graphic_of second_octet_of lengths_of
    extended_of begin_of csi_of intermediates_of designates_of designation_of multi_octet_of escape_of used_in character_start left_start
    start_of begun_by shape_of stepped_of directed_of onward elements answer_of before_null mark_by segment_by unsupported_at supported
    unended_check_of null_ended_check_of
checked_strings = refl

pub checked_writings : strings_of writings ≡ strings_told writings
unfolding may_use allowed form_of put wide octets designation stands met used home_need home_choice home_writing
checked_writings = refl

-- an output of no octets: the 00 is needed
pub empty_list : r5_writer_answer [] [] 0 ≡ answer refusal.no_room 0 1
unfolding r5_writer_answer first_refused list_reading null_ended_answer home_writing
empty_list = refl
