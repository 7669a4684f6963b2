-- `r5_write::write` meets its contract: what a turn of the pen keeps, and that the answer is the writer's, is shown in Going.antt and Whole.antt.
use Rattle.element.proofs.Names.{arith, ℕ, ◌≡◌, ◌≤◌, ◌<◌, ◌∙◌, refl, ap, List, length, get_or, UnitRecord}
use Rattle.shortest.specs.Offence.{no_record}
use Rattle.check_list.specs.Turn.{looked_at}
use Rattle.write.specs.Stowed.{quick_run}
use Rattle.r5_pen.specs.Pen.{looked_first, begun_at, turn_of, output_of, finish_answer}
use Rattle.r5_pen.specs.declared.Pen.{Pen}
use Rattle.r5_write.proofs.Going.{Going, going_length}
use Rattle.r5_write.proofs.Whole.{first_least, looked_begun, looked, looked_length, looked_most, remaining, looked_turned, ended}
use Rattle.r5_write.proofs.write.Goals as goal

inside : (c : goal.In-loop-i) → c.loop-i.i < length c.args.units.now
inside c = omega (arith, c.looked_at-n.ensures, looked_most (length c.args.units.now))

pub plain_run-run-requires : goal.plain_run-run-requires
plain_run-run-requires c =
    let us = c.args.units.now in
    omega (arith, c.looked_first.ensures, first_least c.looked_at-n.result (length c.args.out.now), c.looked_at-n.ensures, looked_most (length us))

pub loop-i-init : goal.loop-i-init
loop-i-init c =
    let us = c.args.units.now in
    let ys = c.args.out.now in
    let n : c.looked_at-n.result ≡ looked_at (length us) = c.looked_at-n.ensures in
    let first : c.looked_first.result ≡ looked_first (looked_at (length us)) (length ys) = rw n at c.looked_first.ensures in
    let run : c.plain_run-run.result ≡ quick_run us (looked_first (looked_at (length us)) (length ys)) 0 = rw first at c.plain_run-run.ensures in
    let begun : c.begin-pen.result ≡ begun_at (quick_run us (looked_first (looked_at (length us)) (length ys)) 0) (looked_at (length us)) (length ys)
    = rw (n, run) at c.begin-pen.ensures in
    (refl, rw begun (looked_begun us c.args.segments.now ys))

pub offset_bounds-units-i : goal.offset_bounds-units-i
offset_bounds-units-i c = let h = inside c in search arith

pub bounds-units-i : goal.bounds-units-i
bounds-units-i c = inside c

-- what a turn leaves
turned : (us : List UnitRecord) (os ys : List ℕ) (p : Pen) (l : List ℕ) (i n : ℕ) (q : Pen) (m : List ℕ) → n ≡ looked_at (length us) → i ≡ p.index
    → i < n → Going (looked us) os ys p l → q ≡ turn_of p (get_or us i no_record) n os (length l) → m ≡ output_of p (get_or us i no_record) n l
    → Going (looked us) os ys q m × (remaining n q < remaining n p)
turned us os ys p l i n q m en ei h g eq em = rw (eq, em, ei, en) (looked_turned us os ys p l (omega arith) g)

pub loop-i-smaller : goal.loop-i-smaller
loop-i-smaller c =
    let k = c.loop-i.invariant in
    let e = c.turn-pen.ensures in
    (turned c.args.units.now c.args.segments.now c.args.out.now c.loop-i.pen c.loop-i.out c.loop-i.i c.looked_at-n.result c.turn-pen.result
    c.turn-pen.new.out c.looked_at-n.ensures k.0 c.loop-i-test.true k.1 e.0 e.1).1

pub loop-i-preserved : goal.loop-i-preserved
loop-i-preserved c =
    let k = c.loop-i.invariant in
    let e = c.turn-pen.ensures in (
      refl,
      (turned c.args.units.now c.args.segments.now c.args.out.now c.loop-i.pen c.loop-i.out c.loop-i.i c.looked_at-n.result c.turn-pen.result
          c.turn-pen.new.out c.looked_at-n.ensures k.0 c.loop-i-test.true k.1 e.0 e.1).0,
    )

pub returns : goal.returns
returns c =
    let us = c.args.units.now in
    let os = c.args.segments.now in
    let ys = c.args.out.now in
    let p = c.loop-i.pen in
    let l = c.loop-i.out in
    let going = c.loop-i.invariant.1 in
    let over : length (looked us) ≤ p.index = omega (arith, looked_length us, c.looked_at-n.ensures, c.loop-i.invariant.0, c.loop-i-test.false) in
    let f = ended us os ys p l going over in
    let done = c.finish.ensures in
    (done.0 ∙ ap (finish_answer p (length us)) (going_length (looked us) os ys p l going) ∙ f.answers, done.1 ∙ f.output)
