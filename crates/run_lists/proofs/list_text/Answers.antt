-- `run_lists::list_text` meets its contract: each turn shows and stores a run, or passes a designation, and the end stays the same.
use Rattle.element.proofs.Names.{arith, pick}
use Rattle.pieces.specs.Pieces.{set_in}
use Rattle.runs.proofs.Steps.{found_fits}
use Rattle.run_lists.proofs.Lists.{on_first_lem, left_cut, right_cut, text_run, designates}
use Rattle.run_lists.proofs.list_text.Goals as goal

pub loop-k-init : goal.loop-k-init
loop-k-init c = let pre = c.requires in
    record {
      onward = on_first_lem _ _ _;
      settled = pre.1;
      way = pre.2;
      words = record { left_is = c.upper-left.ensures; right_is = c.upper-right.ensures };
    }

pub shape_of-out-then-s-at : goal.shape_of-out-then-s-at
shape_of-out-then-s-at c = c.loop-k.invariant.onward.long

pub returns-then-s-at : goal.returns-then-s-at
returns-then-s-at c = rw c.stand_at.ensures c.loop-k.invariant.onward

pub joined-requires : goal.joined-requires
joined-requires c = let short = c.requires.0 in
    let cut = left_cut c.loop-k.invariant (λ i. omega (arith, c.type_inv.s i))
    c.left_end-end.ensures c.if-at-end.true in
    (omega (arith, short, cut.more, cut.within), omega (arith, short, cut.within), c.loop-k.invariant.words.left_is.1)

pub loop-k-smaller-then-at-end : goal.loop-k-smaller-then-at-end
loop-k-smaller-then-at-end c = let cut = left_cut c.loop-k.invariant (λ i. omega (arith, c.type_inv.s i))
    c.left_end-end.ensures c.if-at-end.true in
    omega (arith, cut.more, cut.within)

pub loop-k-preserved-then-at-end : goal.loop-k-preserved-then-at-end
unfolding set_in pick
loop-k-preserved-then-at-end c = let cut = left_cut c.loop-k.invariant (λ i. omega (arith, c.type_inv.s i))
    c.left_end-end.ensures c.if-at-end.true in
    text_run c.loop-k.invariant c.loop-k-test.true 0 _ _ _ (omega arith) cut
    c.loop-k.invariant.words.left_is.0 c.joined.ensures

pub joined-requires-then-at-end-2 : goal.joined-requires-then-at-end-2
joined-requires-then-at-end-2 c = let short = c.requires.0 in
    let cut = right_cut c.loop-k.invariant (λ i. omega (arith, c.type_inv.s i))
    c.right_end-end.ensures c.if-at-end-2.true in
    (omega (arith, short, cut.more, cut.within), omega (arith, short, cut.within), c.loop-k.invariant.words.right_is.1)

pub loop-k-smaller-then-at-end-2 : goal.loop-k-smaller-then-at-end-2
loop-k-smaller-then-at-end-2 c = let cut = right_cut c.loop-k.invariant (λ i. omega (arith, c.type_inv.s i))
    c.right_end-end.ensures c.if-at-end-2.true in
    omega (arith, cut.more, cut.within)

pub loop-k-preserved-then-at-end-2 : goal.loop-k-preserved-then-at-end-2
unfolding set_in pick
loop-k-preserved-then-at-end-2 c = let cut = right_cut c.loop-k.invariant (λ i. omega (arith, c.type_inv.s i))
    c.right_end-end.ensures c.if-at-end-2.true in
    text_run c.loop-k.invariant c.loop-k-test.true 1 _ _ _ (omega arith) cut
    c.loop-k.invariant.words.right_is.0 c.joined-then-at-end-2.ensures

pub shape_of-out-in_default : goal.shape_of-out-in_default
shape_of-out-in_default c = c.loop-k.invariant.onward.long

pub returns-in_default : goal.returns-in_default
returns-in_default c = rw c.stand_at-in_default.ensures c.loop-k.invariant.onward

pub overflow_add-at : goal.overflow_add-at
overflow_add-at c = omega (arith, (found_fits _ _ _ _ c.designation_at.ensures c.in-Ok.is).1)

pub loop-k-smaller : goal.loop-k-smaller
loop-k-smaller c = let fits = found_fits _ _ _ _ c.designation_at.ensures c.in-Ok.is in
    omega (arith, fits.0, fits.1)

pub loop-k-preserved : goal.loop-k-preserved
loop-k-preserved c = designates c.loop-k.invariant c.loop-k-test.true _ _ _ c.designation_at.ensures
    c.in-Ok.is c.designated-st.ensures
    (record { left_is = c.upper-left-in-loop-k.ensures; right_is = c.upper-right-in-loop-k.ensures })

pub shape_of-out : goal.shape_of-out
shape_of-out c = c.loop-k.invariant.onward.long

pub returns : goal.returns
returns c = rw c.stand_at-2.ensures c.loop-k.invariant.onward
