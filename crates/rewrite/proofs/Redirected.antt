-- The units of an accepted string are written as its shortest form whatever direction and depth their records have: a list that differs from the string's
-- own records in these fields alone has their reading, which is the string's (`redirected_reads`), and the writer's answer and output for it are those of
-- the string's shortest form (`redirected_answers`, `redirected_writes`). All of it by `redirected-..` of shortest/proofs/Unused, which hold of any lists.
use Rattle.element.proofs.Names.{ℕ, ◌≡◌, sym, ◌∙◌, List, some, eq-eqb, pick, UnitRecord}
use Rattle.base.specs.Refusal as refusal
use Rattle.grammar.specs.Reading.{check_of, reading_of}
use Rattle.grammar.specs.Records.{list_reading}
use Rattle.shortest.specs.Records.{writer_answer, writer_output}
use Rattle.shortest.specs.Unused.{AllRedirected}
use Rattle.shortest.proofs.Unused.{redirected_reading, redirected_answer, redirected_output}
use Rattle.units.specs.Records.{records_of}
use Rattle.units.proofs.Records.{records_read}
use Rattle.rewrite.specs.Shortest.{shortest_answer, shortest_output}

module _ (s : List ℕ) (accepted : (check_of s).number ≡ refusal.accepted) (qs : List UnitRecord) (a : AllRedirected (records_of s) qs) where
  pub redirected_reads : list_reading s qs ≡ some (reading_of s)
  redirected_reads = sym (redirected_reading s a) ∙ records_read s

  -- for any work room and output
  pub redirected_answers : (work m : ℕ) → writer_answer qs s work m ≡ shortest_answer s work m
  unfolding shortest_answer pick
  redirected_answers work m = rw (eq-eqb (check_of s).number refusal.accepted accepted) (sym (redirected_answer s a work m))

  pub redirected_writes : (work : ℕ) (out : List ℕ) → writer_output qs s work out ≡ shortest_output s work out
  unfolding shortest_output pick
  redirected_writes work out = rw (eq-eqb (check_of s).number refusal.accepted accepted) (sym (redirected_output s a work out))
