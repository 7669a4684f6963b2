-- A number's decimal digits, read as a decimal number again, are the number (`decimal_value`), for every number of the machine: by
-- induction on how many digits it may have, since the last digit is the rest of a division by ten.
use Rattle.element.proofs.Names.{ℕ, zero, suc, ◌+◌, ◌-◌, ◌*◌, ◌/◌, ◌%◌, ◌^◌, ◌<◌, arith, Bool, true, false, ◌≡◌, refl, ◌∙◌, List, [], ◌∷◌, ◌++◌, ltb}
use Rattle.element.proofs.Names.{pick}
use Rattle.refusal_line.specs.Line.{digit, digits, decimal}
use Rattle.refusal_line.proofs.Texts.{most}

-- the number that digits stand for, after those that stand for n
abbrev pub value : ℕ → List ℕ → ℕ
value n [] = n
value n (d ∷ ds) = value (10 * n + (d - 0x30)) ds

value_last : (n : ℕ) (ds : List ℕ) (d : ℕ) → value n (ds ++ (d ∷ [])) ≡ 10 * value n ds + (d - 0x30)
value_last n [] d = refl
value_last n (e ∷ ds) d = value_last (10 * n + (e - 0x30)) ds d

digits_value : (k n : ℕ) → n < most k → value 0 (digits k n) ≡ n
unfolding digits pick most
digits_value zero n h = omega arith
digits_value (suc k) n h = go (digits_value k (n / 10) (omega arith)) (ltb n 10) refl
  where
    go : value 0 (digits k (n / 10)) ≡ n / 10 → (b : Bool) → ltb n 10 ≡ b
        → value 0 (pick b (digit n ∷ []) (digits k (n / 10) ++ (digit (n % 10) ∷ []))) ≡ n
    go rest true e = omega arith
    go rest false e =
        let last : 10 * value 0 (digits k (n / 10)) + (digit (n % 10) - 0x30) ≡ n = omega (arith, rest) in
        value_last 0 (digits k (n / 10)) (digit (n % 10)) ∙ last

pub decimal_value : (n : ℕ) → n < 2 ^ 64 → value 0 (decimal n) ≡ n
unfolding most
decimal_value n h = digits_value 19 n (omega arith)
