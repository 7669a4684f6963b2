-- The line that the program prints for a refusal (rule P2).
use Rattle.std.specs.Prelude.{ℕ, zero, suc, ◌+◌, ◌/◌, ◌%◌, List, [], ◌∷◌, ◌++◌, ltb}
use Rattle.base.specs.Choice.{pick}

-- the octet of a digit, 30 to 39
abbrev pub digit : ℕ → ℕ
digit d = 0x30 + d

-- the decimal digits of a number that has at most k + 1, the first digit first and no zero before it
unfoldable pub digits : ℕ → ℕ → List ℕ
digits zero n = digit n ∷ []
digits (suc k) n = pick (ltb n 10) (digit n ∷ []) (digits k (n / 10) ++ (digit (n % 10) ∷ []))

-- every number of the machine has at most 20
abbrev pub decimal : ℕ → List ℕ
decimal n = digits 19 n

-- `refused N at P` and a newline
unfoldable pub refusal_line : ℕ → ℕ → List ℕ
refusal_line number place =
    (0x72 ∷ 0x65 ∷ 0x66 ∷ 0x75 ∷ 0x73 ∷ 0x65 ∷ 0x64 ∷ 0x20 ∷ [])
    ++ (decimal number ++ ((0x20 ∷ 0x61 ∷ 0x74 ∷ 0x20 ∷ []) ++ (decimal place ++ (0x0A ∷ []))))
