-- Whether it is known where the sequence at the start of a text ends, after each character of the text.
use Rattle.std.proofs.Common.{◌≡◌, ℕ, zero, suc, ◌+◌, ◌-◌, ◌≤◌, ◌==◌, nat_lt, Bool, true, false, ◌&&◌, ◌||◌, not, List, [], ◌∷◌, ◌++◌, length, drop, slice_index, if◌then◌else◌, refl, sym, ap, ap₂, inl, inr, ◌∙◌, arith}
use Rattle.std.specs.List.{prefix_len}
use Rattle.std.proofs.lemmas.Bool.{cases_Bool, cases_lt, cond-true, cond-false, eqb-true, false≢true, le-ltb, lt-ltb}
use Rattle.std.proofs.lemmas.Bool.Decides.{nat_tests}
use Rattle.sequences.specs.Characters.{ends_piece, is_c1_introducer, is_inline}
use Rattle.sequences.specs.Known.{knows_after_escape, knows_long, knows_sequence}
use Rattle.sequences.specs.Progress.{advanced, after_all, after_code, after_intermediate, after_long, is_known}
use Rattle.sequences.specs.Sequences.{csi_end, is_intermediate, is_parameter, opens_string, string_end}
use Rattle.sequences.proofs.PlainLemmas.{inline_remains, not_among}
use Rattle.sequences.specs.declared.known.Progress.{Progress}
use Rattle.sequences.specs.declared.known.Progress.TheVariants.{Start, Escape, Parameters, Intermediates, InString, AfterString, InLong, AfterLong, Known}
use Rattle.sequences.specs.declared.lengths.TheConstants.{LONGEST_STRING}

-- scanning a text and then more text gives the same state as scanning both together
pub after_all-append : (progress : Progress) (text more : List ℕ) → after_all progress (text ++ more) ≡ after_all (after_all progress text) more
after_all-append progress [] more = refl
after_all-append progress (c ∷ text) more = after_all-append (advanced progress c) text more

-- once the end of the sequence is known, the state does not change any more
pub known_stays : (text : List ℕ) → after_all Known text ≡ Known
known_stays [] = refl
known_stays (c ∷ text) = known_stays text

pub when_known : (progress : Progress) → is_known progress ≡ true → progress ≡ Known
when_known Known e = refl
when_known Start e = absurd (false≢true e)
when_known Escape e = absurd (false≢true e)
when_known Parameters e = absurd (false≢true e)
when_known Intermediates e = absurd (false≢true e)
when_known (InString is_osc n) e = absurd (false≢true e)
when_known AfterString e = absurd (false≢true e)
when_known (InLong is_osc) e = absurd (false≢true e)
when_known (AfterLong is_osc) e = absurd (false≢true e)

pub known_all : (progress : Progress) (text : List ℕ) → is_known progress ≡ true → after_all progress text ≡ progress
known_all progress text e = ap (λ p. after_all p text) (when_known progress e) ∙ known_stays text ∙ sym (when_known progress e)

abbrev pub tells : Progress → List ℕ → Bool
tells progress text = is_known (after_all progress text)

tells_true : (b : Bool) (x y : Progress) (text : List ℕ) → b ≡ true → tells (if b then x else y) text ≡ tells x text
tells_true b x y text e = ap (λ p. tells p text) (cond-true b x y e)

tells_false : (b : Bool) (x y : Progress) (text : List ℕ) → b ≡ false → tells (if b then x else y) text ≡ tells y text
tells_false b x y text e = ap (λ p. tells p text) (cond-false b x y e)

known_tells : (text : List ℕ) → tells Known text ≡ true
known_tells text = ap is_known (known_stays text)

some_less : (n : ℕ) → nat_lt 0 (suc n) ≡ true
some_less n = lt-ltb 0 (suc n) (omega arith)

less_suc : (a b : ℕ) → nat_lt a b ≡ nat_lt (suc a) (suc b)
less_suc a b =
    elim (cases_lt a b) [
      | inl less ↦ lt-ltb a b less ∙ sym (lt-ltb (suc a) (suc b) (omega (arith, less)))
      | inr over ↦ le-ltb a b over ∙ sym (le-ltb (suc a) (suc b) (omega (arith, over)))
    ]

zero_add : (n : ℕ) → n ≡ 0 + n
zero_add n = omega arith

suc_add : (a b : ℕ) → suc (a + b) ≡ suc a + b
suc_add a b = omega arith

-- if the first character passes, the prefix is one character longer
one_more_in : (b : Bool) (n : ℕ) → b ≡ true → (if b then 1 + n else 0) ≡ suc n
one_more_in b n e = cond-true b (1 + n) 0 e ∙ suc_is
  where
    suc_is : 1 + n ≡ suc n
    suc_is = omega arith

-- ---- control sequences and escape sequences

intermediates_tell : (text : List ℕ) → tells Intermediates text ≡ nat_lt (prefix_len is_intermediate text) (length text)
intermediates_tell [] = refl
intermediates_tell (c ∷ text) =
    let rest = prefix_len is_intermediate text in
    elim (cases_Bool (is_intermediate c)) [
      | inl y ↦
          tells_true (is_intermediate c) Intermediates Known text y ∙ intermediates_tell text ∙ less_suc rest (length text)
          ∙ sym (ap (λ n. nat_lt n (suc (length text))) (one_more_in (is_intermediate c) rest y))
      | inr n ↦
          tells_false (is_intermediate c) Intermediates Known text n ∙ known_tells text ∙ sym (some_less (length text))
          ∙ sym (ap (λ n. nat_lt n (suc (length text))) (cond-false (is_intermediate c) (1 + rest) 0 n))
    ]

parameters_tell : (text : List ℕ) → tells Parameters text ≡ nat_lt (csi_end text) (length text)
parameters_tell [] = refl
parameters_tell (c ∷ text) =
    let rest = prefix_len is_parameter text in
    let end : ℕ → ℕ = λ n. n + prefix_len is_intermediate (drop n (c ∷ text)) in
    elim (cases_Bool (is_parameter c)) [
      | inl y ↦
          tells_true (is_parameter c) Parameters (after_intermediate c) text y ∙ parameters_tell text ∙ less_suc (csi_end text) (length text)
          ∙ ap (λ n. nat_lt n (suc (length text))) (suc_add rest (prefix_len is_intermediate (drop rest text)))
          ∙ sym (ap (λ n. nat_lt (end n) (suc (length text))) (one_more_in (is_parameter c) rest y))
      | inr n ↦
          tells_false (is_parameter c) Parameters (after_intermediate c) text n ∙ intermediates_tell (c ∷ text)
          ∙ ap (λ n. nat_lt n (suc (length text))) (zero_add (prefix_len is_intermediate (c ∷ text)))
          ∙ sym (ap (λ n. nat_lt (end n) (suc (length text))) (cond-false (is_parameter c) (1 + rest) 0 n))
    ]

-- ---- strings that are too long

backslash : (is_osc : Bool) (c : ℕ) (text : List ℕ) → tells (InLong is_osc) (c ∷ text) ≡ knows_long is_osc (c ∷ text)
    → knows_long is_osc (0x1B ∷ c ∷ text) ≡ (not ((if c == 0x5C then 2 else 0) == 0) || knows_long is_osc (c ∷ text))
    → tells (AfterLong is_osc) (c ∷ text) ≡ knows_long is_osc (0x1B ∷ c ∷ text)
backslash is_osc c text e both =
    let by : Bool → Bool = λ b. not ((if b then 2 else 0) == 0) || knows_long is_osc (c ∷ text) in
    elim (cases_Bool (c == 0x5C)) [
      | inl y ↦ tells_true (c == 0x5C) Known (after_long is_osc c) text y ∙ known_tells text ∙ ap by (sym y) ∙ sym both
      | inr n ↦ tells_false (c == 0x5C) Known (after_long is_osc c) text n ∙ e ∙ ap by (sym n) ∙ sym both
    ]

escape_from : (is_osc : Bool) (text : List ℕ) → tells (InLong is_osc) text ≡ knows_long is_osc text → tells (AfterLong is_osc) text ≡ knows_long is_osc (0x1B ∷ text)
escape_from false [] e = refl
escape_from true [] e = refl
escape_from false (c ∷ text) e = backslash false c text e refl
escape_from true (c ∷ text) e = backslash true c text e refl

long_from : (is_osc ends closes : Bool) (text : List ℕ) → tells (InLong is_osc) text ≡ knows_long is_osc text
    → tells (if ends || closes then Known else InLong is_osc) text ≡ (ends || (not ((if closes then 1 else 0) == 0) || knows_long is_osc text))
long_from is_osc true closes text e = known_tells text
long_from is_osc false true text e = known_tells text
long_from is_osc false false text e = e

long_tells : (is_osc : Bool) (text : List ℕ) → tells (InLong is_osc) text ≡ knows_long is_osc text
long_tells is_osc [] = refl
long_tells is_osc (c ∷ text) =
    let closes = c == 0x9C || (is_osc && c == 0x07) in
    let goes_on : Progress = if ends_piece c || closes then Known else InLong is_osc in
    elim (cases_Bool (c == 0x1B)) [
      | inl y ↦
          tells_true (c == 0x1B) (AfterLong is_osc) goes_on text y ∙ escape_from is_osc text (long_tells is_osc text)
          ∙ ap (λ d. knows_long is_osc (d ∷ text)) (sym (eqb-true c 0x1B y))
      | inr n ↦
          tells_false (c == 0x1B) (AfterLong is_osc) goes_on text n ∙ long_from is_osc (ends_piece c) closes text (long_tells is_osc text)
          ∙ ap (λ (b : Bool). ends_piece c || (not ((if closes then 1 else (if b && slice_index text 0 == 0x5C then 2 else 0)) == 0) || knows_long is_osc text)) (sym n)
    ]

-- a character that a string can contain does not end the string
module _ (c : ℕ) (inside : is_inline c ≡ true) where
  no_escape : (c == 0x1B) ≡ false
  no_escape = not_among c 0x1B (inline_remains c inside) refl

  none_ends : (is_osc : Bool) → (ends_piece c || (c == 0x9C || (is_osc && c == 0x07))) ≡ false
  none_ends false =
      ap₂ (λ (a b : Bool). not (a || b) || (c == 0x9C || false)) (inline_remains c inside) inside ∙ ap (λ (b : Bool). b || false) (not_among c 0x9C (inline_remains c inside) refl)
  none_ends true =
      ap₂ (λ (a b : Bool). not (a || b) || (c == 0x9C || c == 0x07)) (inline_remains c inside) inside
      ∙ ap₂ (λ (a b : Bool). a || b) (not_among c 0x9C (inline_remains c inside) refl) (not_among c 0x07 (inline_remains c inside) refl)

  long_inside : (is_osc : Bool) (text : List ℕ) → knows_long is_osc (c ∷ text) ≡ knows_long is_osc text
  long_inside is_osc text =
      sym (long_tells is_osc (c ∷ text)) ∙ tells_false (c == 0x1B) (AfterLong is_osc) _ text no_escape ∙ tells_false _ Known (InLong is_osc) text (none_ends is_osc)
      ∙ long_tells is_osc text

long_skips : (is_osc : Bool) (text : List ℕ) → knows_long is_osc text ≡ knows_long is_osc (drop (string_end text) text)
long_skips is_osc [] = refl
long_skips is_osc (c ∷ text) =
    elim (cases_Bool (is_inline c)) [
      | inl y ↦
          long_inside c y is_osc text ∙ long_skips is_osc text
          ∙ sym (ap (λ n. knows_long is_osc (drop n (c ∷ text))) (one_more_in (is_inline c) (string_end text) y))
      | inr n ↦ sym (ap (λ n. knows_long is_osc (drop n (c ∷ text))) (cond-false (is_inline c) (1 + string_end text) 0 n))
    ]

-- ---- other strings

closing_tells : (text : List ℕ) → tells AfterString text ≡ nat_lt 0 (length text)
closing_tells [] = refl
closing_tells (c ∷ text) = known_tells text ∙ sym (some_less (length text))

-- `knows_string` for a string with n characters before a text and m more at the start of the text
abbrev short_known : ℕ → List ℕ → Bool
short_known m text = nat_lt (m + (if slice_index text m == 0x1B then 1 else 0)) (length text)

abbrev string_at : Bool → ℕ → ℕ → List ℕ → Bool
string_at is_osc n m text = if nat_lt LONGEST_STRING (n + m) then knows_long is_osc (drop m text) else short_known m text

short_suc : (m : ℕ) (text : List ℕ) → short_known m text ≡ nat_lt (suc m + (if slice_index text m == 0x1B then 1 else 0)) (suc (length text))
short_suc m text =
    let e : ℕ = if slice_index text m == 0x1B then 1 else 0 in
    less_suc (m + e) (length text) ∙ ap (λ k. nat_lt k (suc (length text))) (suc_add m e)

is_few : (n : ℕ) → n ≤ 4096 → nat_lt LONGEST_STRING (n + 0) ≡ false
is_few n few = grind (arith, nat_tests)

is_many : (n m : ℕ) → nat_lt n 4096 ≡ false → nat_lt LONGEST_STRING (n + suc m) ≡ true
is_many n m many = grind (arith, nat_tests)

one_more : (n : ℕ) → nat_lt n 4096 ≡ true → n + 1 ≤ 4096
one_more n few = grind (arith, nat_tests)

string_tells : (is_osc : Bool) (n : ℕ) (text : List ℕ) → n ≤ 4096 → tells (InString is_osc n) text ≡ string_at is_osc n (string_end text) text
string_tells is_osc n [] few = sym (cond-false (nat_lt LONGEST_STRING (n + 0)) _ _ (is_few n few))
string_tells is_osc n (c ∷ text) few =
    let longer : Progress = if nat_lt n LONGEST_STRING then InString is_osc (n + 1) else InLong is_osc in
    let other : Progress = if c == 0x1B then AfterString else Known in
    let m = string_end text in
    elim (cases_Bool (is_inline c)) [
      | inl y ↦ tells_true (is_inline c) longer other text y ∙ inside (λ less. string_tells is_osc (n + 1) text (one_more n less)) ∙ sym (ap (λ k. string_at is_osc n k (c ∷ text)) (one_more_in (is_inline c) m y))
      | inr free ↦ tells_false (is_inline c) longer other text free ∙ after ∙ sym (ap (λ k. string_at is_osc n k (c ∷ text)) (cond-false (is_inline c) (1 + m) 0 free))
    ]
  where
    inside : (nat_lt n LONGEST_STRING ≡ true → tells (InString is_osc (n + 1)) text ≡ string_at is_osc (n + 1) (string_end text) text)
        → tells (if nat_lt n LONGEST_STRING then InString is_osc (n + 1) else InLong is_osc) text ≡ string_at is_osc n (suc (string_end text)) (c ∷ text)
    inside shorter =
        let m = string_end text in
        elim (cases_Bool (nat_lt n LONGEST_STRING)) [
          | inl y ↦
              tells_true (nat_lt n LONGEST_STRING) (InString is_osc (n + 1)) (InLong is_osc) text y ∙ shorter y
              ∙ ap (λ k. if nat_lt LONGEST_STRING k then knows_long is_osc (drop m text) else short_known m text) (add_suc n m)
              ∙ ap (λ b. if nat_lt LONGEST_STRING (n + suc m) then knows_long is_osc (drop m text) else b) (short_suc m text)
          | inr free ↦
              tells_false (nat_lt n LONGEST_STRING) (InString is_osc (n + 1)) (InLong is_osc) text free ∙ long_tells is_osc text ∙ long_skips is_osc text
              ∙ sym (cond-true (nat_lt LONGEST_STRING (n + suc m)) _ _ (is_many n m free))
        ]
      where
        add_suc : (n m : ℕ) → (n + 1) + m ≡ n + suc m
        add_suc n m = omega arith

    after : tells (if c == 0x1B then AfterString else Known) text ≡ string_at is_osc n 0 (c ∷ text)
    after =
        elim (cases_Bool (c == 0x1B)) [
          | inl y ↦ tells_true (c == 0x1B) AfterString Known text y ∙ closing_tells text ∙ less_suc 0 (length text) ∙ ap (λ (b : Bool). nat_lt (0 + (if b then 1 else 0)) (suc (length text))) (sym y)
          | inr free ↦
              tells_false (c == 0x1B) AfterString Known text free ∙ known_tells text ∙ sym (some_less (length text))
              ∙ ap (λ (b : Bool). nat_lt (0 + (if b then 1 else 0)) (suc (length text))) (sym free)
        ]
        ∙ sym (cond-false (nat_lt LONGEST_STRING (n + 0)) (knows_long is_osc (c ∷ text)) (short_known 0 (c ∷ text)) (is_few n few))

-- ---- all sequences

code_tells : (c : ℕ) (text : List ℕ) → tells (after_code c) text ≡ knows_after_escape (c ∷ text)
code_tells c text =
    let other : Progress = after_intermediate c in
    let string : Progress = if opens_string c then InString (c == 0x5D) 0 else other in
    elim (cases_Bool (c == 0x5B)) [
      | inl y ↦ tells_true (c == 0x5B) Parameters string text y ∙ parameters_tell text ∙ sym (cond-true (c == 0x5B) _ _ y)
      | inr n ↦
          tells_false (c == 0x5B) Parameters string text n
          ∙ elim (cases_Bool (opens_string c)) [
            | inl y ↦ tells_true (opens_string c) (InString (c == 0x5D) 0) other text y ∙ string_tells (c == 0x5D) 0 text (omega arith)
                ∙ ap (λ n. if nat_lt LONGEST_STRING n then knows_long (c == 0x5D) (drop (string_end text) text) else short_known (string_end text) text) (sym (zero_add (string_end text)))
                ∙ sym (cond-true (opens_string c) _ _ y)
            | inr free ↦ tells_false (opens_string c) (InString (c == 0x5D) 0) other text free ∙ intermediates_tell (c ∷ text) ∙ sym (cond-false (opens_string c) _ _ free)
          ]
          ∙ sym (cond-false (c == 0x5B) _ _ n)
    ]

escape_tells : (text : List ℕ) → tells Escape text ≡ knows_after_escape text
escape_tells [] = refl
escape_tells (c ∷ text) = code_tells c text

pub start_tells : (text : List ℕ) → tells Start text ≡ knows_sequence text
start_tells [] = refl
start_tells (c ∷ text) =
    let other : Progress = if is_c1_introducer c then after_code (c - 0x40) else Known in
    elim (cases_Bool (c == 0x1B)) [
      | inl y ↦ tells_true (c == 0x1B) Escape other text y ∙ escape_tells text ∙ sym (cond-true (c == 0x1B) _ _ y)
      | inr n ↦
          tells_false (c == 0x1B) Escape other text n
          ∙ elim (cases_Bool (is_c1_introducer c)) [
            | inl y ↦ tells_true (is_c1_introducer c) (after_code (c - 0x40)) Known text y ∙ code_tells (c - 0x40) text ∙ sym (cond-true (is_c1_introducer c) _ _ y)
            | inr free ↦ tells_false (is_c1_introducer c) (after_code (c - 0x40)) Known text free ∙ known_tells text ∙ sym (cond-false (is_c1_introducer c) _ _ free)
          ]
          ∙ sym (cond-false (c == 0x1B) _ _ n)
    ]
