-- The test for numbers in a range agrees with `parse`.
use Rattle.std.proofs.Common.{◌≡◌, ◌<◌, ◌≤◌, ◌^◌, ◌&&◌, arith, ℕ, Bool, true, false, List, [], ◌∷◌, None, Some, refl, nat_lt, nat_le}
use Rattle.std.specs.Char.{digit_value}
use Rattle.std.specs.List.{list_all}
use Rattle.std.specs.Str.Parse.{AllDigits, IsNumeral, without_leading_plus}
use Rattle.std.proofs.lemmas.Bool.{le-leb, leb-true, lt-ltb, ltb-true}
use Rattle.terminal_options.specs.Choices.{is_numeral, number_of, number_up_to}

pass : (text : List ℕ) → AllDigits 10 text → list_all (λ c. nat_lt (digit_value c) 10) text ≡ true
pass [] digits = refl
pass (c ∷ text) digits = rw (lt-ltb (digit_value c) 10 digits.0) (pass text digits.1)

is_passed : (text : List ℕ) → IsNumeral 10 text → is_numeral text ≡ true
is_passed [] numeral = absurd (omega (arith, numeral.0))
is_passed (c ∷ text) numeral = pass (c ∷ text) numeral.1

passed : (text : List ℕ) → list_all (λ c. nat_lt (digit_value c) 10) text ≡ true → AllDigits 10 text
passed [] all = tt
passed (c ∷ text) all = go (nat_lt (digit_value c) 10) refl all (λ rest. passed text rest)
  where
    go : (b : Bool) → nat_lt (digit_value c) 10 ≡ b → b && list_all (λ c. nat_lt (digit_value c) 10) text ≡ true
        → (list_all (λ c. nat_lt (digit_value c) 10) text ≡ true → AllDigits 10 text) → AllDigits 10 (c ∷ text)
    go true is rest others = (ltb-true (digit_value c) 10 is, others rest)
    go false is rest others = cc

numeral_of : (text : List ℕ) → is_numeral text ≡ true → IsNumeral 10 text
numeral_of [] is = cc
numeral_of (c ∷ text) is = (omega arith, passed (c ∷ text) is)

pub is_number : (most : ℕ) (text : List ℕ) → IsNumeral 10 (without_leading_plus text) → 1 ≤ number_of text → number_of text ≤ most → number_up_to most text ≡ Some (number_of text)
is_number most text numeral least high =
    rw (is_passed (without_leading_plus text) numeral) (rw (le-leb (number_of text) most high) (rw (le-leb 1 (number_of text) least) refl))

pub is_no_number : (most : ℕ) (text : List ℕ) → most < 2 ^ 16 → (IsNumeral 10 (without_leading_plus text) × (number_of text < 2 ^ 16) → ⊥) → number_up_to most text ≡ None
is_no_number most text high none = go (is_numeral (without_leading_plus text)) refl
  where
    beyond : (b : Bool) → nat_le (number_of text) most ≡ b → is_numeral (without_leading_plus text) ≡ true → number_up_to most text ≡ None
    beyond true is numeral = absurd (none (numeral_of (without_leading_plus text) numeral, omega (arith, leb-true (number_of text) most is, high)))
    beyond false is numeral = rw numeral (rw is refl)

    go : (b : Bool) → is_numeral (without_leading_plus text) ≡ b → number_up_to most text ≡ None
    go false is = rw is refl
    go true is = beyond (nat_le (number_of text) most) refl is
