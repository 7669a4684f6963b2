-- A flag by its two values: that of `u8::from` is the definition's.
use Rattle.element.proofs.Names.{◌≡◌, refl, Bool, true, false, pick}
use mir.Val.{bool_byte}
use Rattle.positions.specs.Stepping.{flag_of}

pub flag_is : (b : Bool) → bool_byte b ≡ flag_of b
unfolding flag_of pick
flag_is true = refl
flag_is false = refl
