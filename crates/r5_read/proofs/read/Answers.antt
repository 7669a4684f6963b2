-- `r5_read::read` meets its contract: what the base reader answers for the octets that it is given, and the list that it leaves, are those of X11R5
-- (`Whole`).
use Rattle.std.specs.Prelude.{Option, unwrap_or}
use Rattle.element.proofs.Names.{ℕ, ◌≡◌, ap, ◌∙◌, List, length, take, Answer}
use Rattle.read.specs.Listing.{read_answer, list_after}
use Rattle.r5_read.specs.Look.{settled_by}
use Rattle.r5_read.proofs.Whole.{given, given_or, settled_or, read_answer_lem, read_list}
use Rattle.r5_read.proofs.read.Goals as goal

pub returns : goal.returns
returns c =
    let s = c.args.s.now in
    let ys = c.args.units.now in
    let l = c.look_over-looked.result in
    let looked = c.look_over-looked.ensures in
    let lent : take c.unwrap_or.result s ≡ given s l = ap (λ (n : ℕ). take n s) (c.unwrap_or.ensures ∙ given_or s l looked) in
    let read = c.read-answer.ensures in
    let settled = c.unwrap_or-2.ensures ∙ ap (λ (o : Option Answer). unwrap_or o c.read-answer.result) c.err.ensures.value ∙ settled_or l _ in (
      settled ∙ ap (settled_by l) (read.0 ∙ ap (λ (t : List ℕ). read_answer t (length ys)) lent) ∙ read_answer_lem s l looked (length ys),
      read.1 ∙ ap (λ (t : List ℕ). list_after t ys) lent ∙ read_list s l looked ys,
    )
