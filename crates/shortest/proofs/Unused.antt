-- Records that are alike in the fields that their kind uses stand for the same unit (`same_unit`), so that lists of such records have the
-- same reading, answer and output (`same_reading`, `same_answer`, `same_output`). Records that differ in direction and depth alone are alike, so that
-- whatever a list has there its reading, answer and output are the same (`redirected_reading`, `redirected_answer`, `redirected_output`).
use Rattle.element.proofs.Names.{ℕ, suc, ◌≡◌, refl, sym, ap, ap₂, ◌∙◌, List, Option, none, inl, inr, length, eqb, ltb, eqb-true, UnitRecord, test}
use Rattle.element.proofs.Names.{undirected, Directions, Step, Goes, Stops}
use Rattle.base.specs.Kind as kind
use Rattle.grammar.specs.Units.{TextUnit, unit_of}
use Rattle.grammar.specs.Records.{readable, unit_read, prepend, list_reading}
use Rattle.shortest.specs.Records.{fault, on_step, check_records, writer_answer, writer_output}
use Rattle.shortest.specs.Unused.{Alike, AllAlike, none, more, AllRedirected, none_redirected, one_redirected}

module _ (o : List ℕ) where
  -- by the kind: a segment, a character, one of the others, or none
  pub same_unit : (r q : UnitRecord) → Alike r q → unit_read o r ≡ unit_read o q
  unfolding unit_read readable unit_of
  same_unit r q a =
      let k = sym a.kinds in
      test (eqb r.kind kind.segment)
      (λ t. let e = eqb-true r.kind kind.segment t in rw (e, k ∙ e, a.codes (inr e), a.starts e, a.lengths e))
      (λ n. test (eqb r.kind kind.character)
      (λ t. let e = eqb-true r.kind kind.character t in rw (e, k ∙ e, a.sets e, a.codes (inl e)))
      (λ m. test (ltb r.kind kind.segment) (λ l. rw (k, n, m, l)) (λ l. rw (k, n, l))))

  pub same_reading : {rs qs : List UnitRecord} → AllAlike rs qs → list_reading o rs ≡ list_reading o qs
  unfolding list_reading
  same_reading none = refl
  same_reading (more {r} {q} a rest) = ap₂ prepend (same_unit r q a) (same_reading rest)

  same_check : {rs qs : List UnitRecord} → AllAlike rs qs → (i : ℕ) (d : Directions) → check_records o rs i d ≡ check_records o qs i d
  unfolding check_records
  same_check none i d = refl
  same_check (more {r} {q} {rs} {qs} a rest) i d =
      ap (λ (x : Option TextUnit). on_step (fault x d) i (λ next. check_records o rs (suc i) next)) (same_unit r q a)
      ∙ go (fault (unit_read o q) d) (λ next. same_check rest (suc i) next)
    where
      go : (x : Step) → ((next : Directions) → check_records o rs (suc i) next ≡ check_records o qs (suc i) next)
          → on_step x i (λ next. check_records o rs (suc i) next) ≡ on_step x i (λ next. check_records o qs (suc i) next)
      go (Goes next) k = k next
      go (Stops n) k = refl

  same_length : {rs qs : List UnitRecord} → AllAlike rs qs → length rs ≡ length qs
  same_length none = refl
  same_length (more a rest) = ap suc (same_length rest)

  pub same_answer : {rs qs : List UnitRecord} → AllAlike rs qs → (work m : ℕ) → writer_answer rs o work m ≡ writer_answer qs o work m
  unfolding writer_answer
  same_answer {rs} {qs} a work m = rw (same_length a, same_check a 0 undirected, same_reading a)

  pub same_output : {rs qs : List UnitRecord} → AllAlike rs qs → (work : ℕ) (out : List ℕ) → writer_output rs o work out ≡ writer_output qs o work out
  unfolding writer_output
  same_output {rs} {qs} a work out = rw (same_answer a work (length out), same_reading a)

-- ---- direction and depth

redirected_alike : {rs qs : List UnitRecord} → AllRedirected rs qs → AllAlike rs qs
redirected_alike none_redirected = none
redirected_alike (one_redirected h rest) =
    more (record { kinds = h.kinds; sets = λ _. h.sets; codes = λ _. h.codes; starts = λ _. h.starts; lengths = λ _. h.lengths })
    (redirected_alike rest)

module _ (o : List ℕ) {rs qs : List UnitRecord} (a : AllRedirected rs qs) where
  pub redirected_reading : list_reading o rs ≡ list_reading o qs
  redirected_reading = same_reading o (redirected_alike a)

  pub redirected_answer : (work m : ℕ) → writer_answer rs o work m ≡ writer_answer qs o work m
  redirected_answer = same_answer o (redirected_alike a)

  pub redirected_output : (work : ℕ) (out : List ℕ) → writer_output rs o work out ≡ writer_output qs o work out
  redirected_output = same_output o (redirected_alike a)
