-- `r5_check::unsupported_at` meets its contract, by what `unsupported` says of the octets from the place on.
use Rattle.element.proofs.Names.{ℕ, ◌+◌, ◌-◌, arith, ◌≡◌, ap, ◌∙◌, List, length, take, drop, from}
use Rattle.element.proofs.Steps.{rest}
use Rattle.x11r5.specs.Reading.{unsupported_at}
use Rattle.r5_check.proofs.unsupported_at.Goals as goal

here : (s : List ℕ) (at : ℕ) → take (length s - at) (drop at s) ≡ from at s
unfolding from
here s at =
    let e : at + 0 ≡ at = omega arith in
    rest s at 0 ∙ ap (λ (n : ℕ). from n s) e

pub returns : goal.returns
returns c = c.unsupported.ensures ∙ ap unsupported_at (here c.args.s.now c.args.at)
