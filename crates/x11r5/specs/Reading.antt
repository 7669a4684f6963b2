-- The reading of a string of X11R5 (rules X1 to X3): the octets before its first 00, whose elements are those of the base reader with the direction
-- marks and the extended segments refused.
use Rattle.std.specs.Prelude.{ℕ, Bool, true, false, List, [], ◌∷◌, eqb, leb, ltb, length, get_or}
use Rattle.base.specs.Answers.{refused_at}
use Rattle.base.specs.Choice.{pick, from}
use Rattle.base.specs.Limit as limit
use Rattle.base.specs.Refusal as refusal
use Rattle.base.specs.declared.Answer.{Answer}
use Rattle.grammar.specs.Reading.{Elements, end_at, stopped_at, silent_at, found_at, elements_of, answer_of}

-- the octets before the first 00; all of them where there is none (rule X1)
unfoldable pub before_null : List ℕ → List ℕ
before_null [] = []
before_null (b ∷ t) = pick (eqb b 0) [] (b ∷ before_null t)

-- whether 9B and these two octets are a direction mark, which is complete: 9B 5D, 9B 31 5D, 9B 32 5D (rule X2)
unfoldable pub mark_by : ℕ → ℕ → Bool
mark_by x y = pick (eqb x 0x5D) true (pick (eqb x 0x31) (eqb y 0x5D) (pick (eqb x 0x32) (eqb y 0x5D) false))

-- whether 1B and these three octets begin an extended segment: 1B 25 2F d, whatever follows the d (rule X2)
unfoldable pub segment_by : ℕ → ℕ → ℕ → Bool
segment_by x y d = pick (eqb x 0x25) (pick (eqb y 0x2F) (pick (ltb d 0x30) false (leb d 0x34)) false) false

-- whether the octets start with what X11R5 does not have; an octet that is missing is taken as 00, with which neither begins or goes on
unfoldable pub unsupported_at : List ℕ → Bool
unsupported_at t =
    pick (eqb (get_or t 0 0) 0x9B) (mark_by (get_or t 1 0) (get_or t 2 0))
    (pick (eqb (get_or t 0 0) 0x1B) (segment_by (get_or t 1 0) (get_or t 2 0) (get_or t 3 0)) false)

-- elements of the octets s up to the first that X11R5 does not have, which is refused at its start: so before the direction rule, and before what
-- is wrong in a segment after its d (rule X2)
unfoldable pub supported : List ℕ → Elements → Elements
supported s (end_at at) = end_at at
supported s (stopped_at at n o) = pick (unsupported_at (from at s)) (stopped_at at refusal.unsupported 0) (stopped_at at n o)
supported s (silent_at at k st es) = silent_at at k st (supported s es)
supported s (found_at at p st es) =
    pick (unsupported_at (from at s)) (stopped_at at refusal.unsupported 0) (found_at at p st (supported s es))

abbrev pub supported_of : List ℕ → Elements
supported_of t = supported t (elements_of t)

-- the answer for the octets before the 00: the limit is asked first, and then their elements (rule X3)
unfoldable pub unended_check_of : List ℕ → Answer
unended_check_of t = pick (ltb limit.octets (length t)) (refused_at refusal.too_long 0) (answer_of 0 (supported_of t))

-- the answer for a string: whether a 00 ends it is asked before all (rules X1, X3)
unfoldable pub null_ended_check_of : List ℕ → Answer
null_ended_check_of s =
    pick (ltb (length (before_null s)) (length s)) (unended_check_of (before_null s)) (refused_at refusal.not_ended (length s))
