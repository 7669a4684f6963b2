-- The answer and the output of the writer, once the units of an accepted string stand in their rows, are those of its shortest form: the
-- string has as many records as it has units, no more than a list may have, and `finished` says the rest.
use Rattle.element.proofs.Names.{ℕ, ◌≤◌, zero-le, arith, ◌≡◌, ap, sym, ◌∙◌, List, length, eq-eqb, ne_eqb, le-leb, pick, Answer}
use Rattle.base.specs.Limit as limit
use Rattle.base.specs.Refusal as refusal
use Rattle.grammar.specs.Reading.{Octets, check_of}
use Rattle.read.proofs.Filled.{short}
use Rattle.check_list.specs.Turn.{begun, looked_at}
use Rattle.units.specs.Records.{records_of}
use Rattle.units.proofs.Records.{records_count, few_records}
use Rattle.grammar.proofs.Places.{from_start}
use Rattle.write.specs.Stowed.{Stowed, finish_answer, finish_output}
use Rattle.write.proofs.Whole.{Finished, finished}
use Rattle.rewrite.specs.Shortest.{shortest_answer, shortest_output}
use Rattle.rewrite.proofs.Unoffending.{fine_end}

module _ (s : List ℕ) (a : Answer) (is : a ≡ check_of s) where
  pub accepts : a.number ≡ refusal.accepted → (check_of s).number ≡ refusal.accepted
  accepts z = rw is at z

  pub counts : a.number ≡ refusal.accepted → a.count ≡ length (records_of s)
  counts z = ap (λ (x : Answer). x.count) is ∙ records_count s (accepts z)

  few : a.number ≡ refusal.accepted → length (records_of s) ≤ limit.units
  unfolding records_of
  few z = omega (arith, few_records s (from_start s) zero-le, short s (accepts z))

  all : a.number ≡ refusal.accepted → looked_at (length (records_of s)) ≡ length (records_of s)
  unfolding looked_at pick
  all z = rw (le-leb (length (records_of s)) limit.units (few z))

  -- a refused string
  pub refused_answer : (work m : ℕ) → (a.number ≡ refusal.accepted → ⊥) → a ≡ shortest_answer s work m
  unfolding shortest_answer pick
  refused_answer work m z = rw (ne_eqb (check_of s).number refusal.accepted (λ e. z (rw is e))) is

  pub refused_output : (work : ℕ) (out : List ℕ) → (a.number ≡ refusal.accepted → ⊥) → out ≡ shortest_output s work out
  unfolding shortest_output pick
  refused_output work out z = rw (ne_eqb (check_of s).number refusal.accepted (λ e. z (rw is e)))

  -- an accepted string, none of whose records offends
  module _ (octets : Octets s) (z : a.number ≡ refusal.accepted) (before after out : List ℕ)
      (stowed : Stowed s (records_of s) a.count before after) where
    done : Finished (records_of s) s (length before) out (finish_answer begun a.count s after (length out)) (finish_output begun a.count s after out)
    unfolding finish_answer finish_output
    done =
        let f = finished (records_of s) s before after out (rw (counts z, sym (all z)) at stowed) in
        rw (counts z) (rw (all z, (fine_end s octets (accepts z)).is) at f)

    pub accepted_answer : (r : Answer) → r ≡ finish_answer begun a.count s after (length out) → r ≡ shortest_answer s (length before) (length out)
    unfolding shortest_answer pick
    accepted_answer r e = rw (eq-eqb (check_of s).number refusal.accepted (accepts z)) (e ∙ done.answers)

    pub accepted_output : (x : List ℕ) → x ≡ finish_output begun a.count s after out → x ≡ shortest_output s (length before) out
    unfolding shortest_output pick
    accepted_output x e = rw (eq-eqb (check_of s).number refusal.accepted (accepts z)) (e ∙ done.output)
