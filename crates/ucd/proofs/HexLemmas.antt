-- Hexadecimal numbers, digit by digit.
use Rattle.std.proofs.Common.{◌≡◌, ℕ, ◌+◌, ◌*◌, ◌<◌, ◌≤◌, ◌^◌, List, length, get_or, take, true, if◌then◌else◌, arith}
use Rattle.std.specs.List.{list_all}
use Rattle.std.specs.Char.{digit_value, is_ascii_hexdigit}
use Rattle.std.proofs.lemmas.Grind.{common_steps}
use Rattle.ucd.specs.Grammar.{hex_value}

-- the first k bytes are hexadecimal digits, and `number` is their value
pub record HasValue (xs : List ℕ) (k number : ℕ) : Type 0 where
  pub so_far : number ≡ hex_value (take k xs)
  pub digits : list_all is_ascii_hexdigit (take k xs) ≡ true
  pub bound : number < 16 ^ k

-- ---- one more digit
pub value_more : (xs : List ℕ) (k number value : ℕ) → k < length xs
    → number ≡ hex_value (take k xs) → list_all is_ascii_hexdigit (take k xs) ≡ true → number < 16 ^ k
    → value ≡ (if is_ascii_hexdigit (get_or xs k 0) then digit_value (get_or xs k 0) else 16) → value ≤ 15
    → HasValue xs (k + 1) (16 * number + value)
value_more xs k number value lt so_far digits bound is small = grind (arith, common_steps)
