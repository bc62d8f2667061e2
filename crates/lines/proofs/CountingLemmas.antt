-- A text has as many characters as lead bytes.
use Rattle.std.proofs.Common.{◌≡◌, ◌∙◌, ℕ, ◌+◌, ◌/◌, ◌%◌, ◌<◌, ◌≤◌, nat_lt, Bool, true, false, cond, List, [], ◌∷◌, length, count_by, encode_utf8_all, sym, ap, inl, inr, refl, arith}
use Rattle.std.specs.Prelude.{IsUtf8}
use Rattle.std.specs.Str.{chars}
use Rattle.std.proofs.lemmas.Bool.{cases_lt, cond-true, cond-false, lt-ltb, le-ltb}
use Rattle.std.proofs.lemmas.Bool.Decides.{nat_tests}
use Rattle.std.proofs.lemmas.List.Sums.{sum_by-append}
use Rattle.std.proofs.lemmas.Str.{encodes-chars}
use Rattle.lines.specs.Counting.{is_lead_byte}
use lib.Utf8.{encode}

-- ---- one byte

low_is_lead : (b : ℕ) → b < 128 → is_lead_byte b ≡ true
low_is_lead b low = grind (arith, nat_tests)

high_is_lead : (b : ℕ) → 192 ≤ b → is_lead_byte b ≡ true
high_is_lead b high = grind (arith, nat_tests)

rest_is_not_lead : (bits : ℕ) → is_lead_byte (128 + bits % 64) ≡ false
rest_is_not_lead bits = grind (arith, nat_tests)

-- ---- one character

module _ (p : ℕ → Bool) where
  count_one : (a : ℕ) → p a ≡ true → count_by p (a ∷ []) ≡ 1
  count_one a first = rw first refl

  count_two : (a b : ℕ) → p a ≡ true → p b ≡ false → count_by p (a ∷ b ∷ []) ≡ 1
  count_two a b first b_no = rw (first, b_no) refl

  count_three : (a b c : ℕ) → p a ≡ true → p b ≡ false → p c ≡ false → count_by p (a ∷ b ∷ c ∷ []) ≡ 1
  count_three a b c first b_no c_no = rw (first, b_no, c_no) refl

  count_four : (a b c d : ℕ) → p a ≡ true → p b ≡ false → p c ≡ false → p d ≡ false → count_by p (a ∷ b ∷ c ∷ d ∷ []) ≡ 1
  count_four a b c d first b_no c_no d_no = rw (first, b_no, c_no, d_no) refl

count_encode : (c : ℕ) → count_by is_lead_byte (encode c) ≡ 1
unfolding encode
count_encode c = elim (cases_lt c 128) [
  | inl low ↦ ap (count_by is_lead_byte) (cond-true (nat_lt c 128) _ _ (lt-ltb c 128 low)) ∙ count_one is_lead_byte c (low_is_lead c low)
  | inr from ↦ ap (count_by is_lead_byte) (cond-false (nat_lt c 128) _ _ (le-ltb c 128 from)) ∙ elim (cases_lt c 2048) [
    | inl low ↦ ap (count_by is_lead_byte) (cond-true (nat_lt c 2048) _ _ (lt-ltb c 2048 low))
        ∙ count_two is_lead_byte (192 + c / 64) (128 + c % 64) (high_is_lead (192 + c / 64) (omega arith)) (rest_is_not_lead c)
    | inr high ↦ ap (count_by is_lead_byte) (cond-false (nat_lt c 2048) _ _ (le-ltb c 2048 high)) ∙ elim (cases_lt c 65536) [
      | inl low ↦ ap (count_by is_lead_byte) (cond-true (nat_lt c 65536) _ _ (lt-ltb c 65536 low))
          ∙ count_three is_lead_byte (224 + c / 4096) (128 + c / 64 % 64) (128 + c % 64) (high_is_lead (224 + c / 4096) (omega arith)) (rest_is_not_lead (c / 64)) (rest_is_not_lead c)
      | inr top ↦ ap (count_by is_lead_byte) (cond-false (nat_lt c 65536) _ _ (le-ltb c 65536 top))
          ∙ count_four is_lead_byte (240 + c / 262144) (128 + c / 4096 % 64) (128 + c / 64 % 64) (128 + c % 64) (high_is_lead (240 + c / 262144) (omega arith))
          (rest_is_not_lead (c / 4096)) (rest_is_not_lead (c / 64)) (rest_is_not_lead c)
    ]
  ]
]

-- ---- a text

count_encodes : (cs : List ℕ) → count_by is_lead_byte (encode_utf8_all cs) ≡ length cs
count_encodes [] = refl
count_encodes (c ∷ cs) =
    sum_by-append (λ b. cond (is_lead_byte b) 1 0) (encode c) (encode_utf8_all cs) ∙ omega (arith, count_encode c, count_encodes cs)

-- a text has as many characters as lead bytes
pub count_chars : (text : List ℕ) → IsUtf8 text → count_by is_lead_byte text ≡ length (chars text)
count_chars text utf8 = ap (count_by is_lead_byte) (sym (encodes-chars text utf8)) ∙ count_encodes (chars text)
