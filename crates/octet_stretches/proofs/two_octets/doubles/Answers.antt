-- `octet_stretches::two_octets::doubles` meets its contract: from the place on only octets of 21-7E stand, and the first has the entry of two octets in
-- GL, so as many characters of two octets as are whole; and then those that are found octet by octet.
use Rattle.element.proofs.Names.{ℕ, ◌+◌, ◌≤◌, arith, ◌≡◌, List}
use Rattle.octet_blocks.specs.Blocks.{Within}
use Rattle.octet_blocks.proofs.Counted.{blocks_more}
use Rattle.octet_blocks.proofs.Octets.{leading_passed, leading_few}
use Rattle.octet_stretches.proofs.Laws.{fits, doubles_pass, doubles_on}
use Rattle.octet_stretches.proofs.two_octets.doubles.Goals.{After-leading-n, After-pairs-b}
use Rattle.octet_stretches.proofs.two_octets.doubles.Goals as goal
use Rattle.octet_stretches.specs.Stretched.{Stretched}

-- what is found of a word
after_leading : (c : After-leading-n)
    → Within 0x21 0x7E c.args.s.now c.loop-i.i (c.loop-i.i + c.leading-n.result) × (c.leading-n.result ≤ 8)
after_leading c = (
  leading_passed _ _ (λ i. omega (arith, c.type_inv.s i)) c.loop-i.invariant.0.within _ c.leading-n.ensures,
  leading_few _ _ _ c.leading-n.ensures,
)

-- eight octets more
eight : (s : List ℕ) (at i n : ℕ) → Within 0x21 0x7E s at i → Within 0x21 0x7E s i (i + n) × (n ≤ 8) → 8 ≤ n → Within 0x21 0x7E s at (i + 8)
eight s at i n a b h =
    let e : n ≡ 8 = omega (arith, b.1) in
    blocks_more 0x21 0x7E s at i (i + 8) a (rw e at b.0)

-- the words, and what follows them
after_pairs : (c : After-pairs-b)
    → let words = c.pairs_to-a.result in
    Stretched c.args.row.now c.args.s.now c.args.at
    (c.args.at + (words.octets + c.pairs-b.result.octets)) (words.units + c.pairs-b.result.units)
after_pairs c =
    let words = c.pairs_to-a.ensures in
    let inv = c.loop-i.invariant in
    doubles_on c.requires.2 inv.0 words.0 words.1 inv.2 _ _ c.pairs-b.ensures

pub returns-then-n-lt8 : goal.returns-then-n-lt8
returns-then-n-lt8 c = doubles_pass c.requires.2
    (blocks_more _ _ _ _ _ _ c.loop-i.invariant.0 (after_leading (goal.at.returns-then-n-lt8 c).After-leading-n).0) c.pairs_to.ensures.0 c.pairs_to.ensures.1

pub returns-then-end-i : goal.returns-then-end-i
returns-then-end-i c = doubles_pass c.requires.2
    (eight _ _ _ _ c.loop-i.invariant.0 (after_leading (goal.at.returns-then-end-i c).After-leading-n) (omega arith)) c.pairs_to-then-end-i.ensures.0
    c.pairs_to-then-end-i.ensures.1

pub loop-i-preserved : goal.loop-i-preserved
loop-i-preserved c = let inv = c.loop-i.invariant in
    (eight _ _ _ _ inv.0 (after_leading (goal.at.loop-i-preserved c).After-leading-n) (omega arith), c.if-end-i.false, omega (arith, inv.0.since, inv.2))

pub overflow_add-result : goal.overflow_add-result
overflow_add-result c = let p = fits (after_pairs (goal.at.overflow_add-result c).After-pairs-b) in
    let pre = c.requires in omega (arith, p.1 (omega (arith, pre.0, pre.1)))

pub overflow_add-result-2 : goal.overflow_add-result-2
overflow_add-result-2 c = let p = fits (after_pairs (goal.at.overflow_add-result-2 c).After-pairs-b) in
    let pre = c.requires in
    omega (arith, p.0, p.1 (omega (arith, pre.0, pre.1)))

pub returns : goal.returns
returns c = after_pairs (goal.at.returns c).After-pairs-b
