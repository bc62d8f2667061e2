-- W1 to W7 in one pass.
use Rattle.std.proofs.Common.{◌≡◌, ℕ, zero, suc, ◌+◌, Bool, true, false, ◌&&◌, ◌||◌, not, if◌then◌else◌, List, [], ◌∷◌, ◌++◌, map, replicate, refl, sym, ap, ◌∙◌, append_assoc}
use Rattle.std.proofs.lemmas.List.{append-nil, replicate_more}
use Rattle.ucd.specs.declared.bidi_class.BidiClass.{BidiClass}
use Rattle.ucd.specs.declared.bidi_class.BidiClass.TheVariants.{L, R, AL, EN, ES, ET, AN, CS, NSM, ON}
use Rattle.bidi.specs.declared.weak_table.Row.TheVariants.{Nothing, European, Arabic, EuropeanTerminators, EuropeanSeparator, ArabicSeparator, Terminators}
use Rattle.ucd.specs.Classes.{is_strong}
use Rattle.bidi.specs.Neighbours.{each_by, nearest}
use Rattle.ucd.specs.Classes.{is_nonspacing_mark}
use Rattle.bidi.specs.Weak.{is_number, is_left, is_terminator, w1_at, w1, w2_at, w2, w3, w3_type, w4_at, w4, w5_at, w5, w6, w6_type, w7_at, weak}
use Rattle.bidi.specs.Waiting.{carry, mark_type, digit_type, read_types, number_type, types_after}

-- a rule that looks back only at the nearest item that passes a test can carry that item along
pub carry-is : {T : Type 0} (rule : List T → T → List T → T) (by_nearest : T → T → List T → T) (test : T → Bool) (other : T)
    → ((front : List T) (item : T) (after : List T) → rule front item after ≡ by_nearest (nearest test other front) item after)
    → (front items : List T) → each_by rule front items ≡ carry by_nearest test (nearest test other front) items
carry-is rule by_nearest test other same front [] = refl
carry-is rule by_nearest test other same front (item ∷ items) =
    ap (λ x. x ∷ each_by rule (item ∷ front) items) (same front item items)
    ∙ ap (λ xs. by_nearest (nearest test other front) item items ∷ xs) (carry-is rule by_nearest test other same (item ∷ front) items)

-- W4, W5 and W7 as functions of the type that they look back at
abbrev pub separator_type : BidiClass → BidiClass → List BidiClass → BidiClass
separator_type before type after = w4_at (before ∷ []) type after

abbrev pub any : BidiClass → Bool
any type = true

abbrev pub ends_row : BidiClass → Bool
ends_row type = not (is_terminator type)

abbrev pub terminator_type : BidiClass → BidiClass → List BidiClass → BidiClass
terminator_type before type after =
    if is_terminator type then (if is_number before || is_number (nearest ends_row ON after) then EN else ET) else type

abbrev pub left_type : BidiClass → BidiClass → List BidiClass → BidiClass
left_type strong type after = if is_number type && is_left strong then L else type

pub w1-by : (sos : BidiClass) (front : List BidiClass) (type : BidiClass) (after : List BidiClass) → w1_at sos front type after ≡ mark_type (nearest (λ t. not (is_nonspacing_mark t)) sos front) type
w1-by sos front NSM after = refl
w1-by sos front _ after = refl

pub w2-by : (sos : BidiClass) (front : List BidiClass) (type : BidiClass) (after : List BidiClass) → w2_at sos front type after ≡ digit_type (nearest is_strong sos front) type
w2-by sos front EN after = refl
w2-by sos front _ after = refl

pub w4-by : (front : List BidiClass) (type : BidiClass) (after : List BidiClass) → w4_at front type after ≡ separator_type (nearest any ON front) type after
w4-by [] type after = refl
w4-by (EN ∷ front) ES [] = refl
w4-by (EN ∷ front) ES (EN ∷ after) = refl
w4-by (EN ∷ front) ES (_ ∷ after) = refl
w4-by (EN ∷ front) CS [] = refl
w4-by (EN ∷ front) CS (EN ∷ after) = refl
w4-by (EN ∷ front) CS (_ ∷ after) = refl
w4-by (EN ∷ front) _ after = refl
w4-by (AN ∷ front) CS [] = refl
w4-by (AN ∷ front) CS (AN ∷ after) = refl
w4-by (AN ∷ front) CS (_ ∷ after) = refl
w4-by (AN ∷ front) _ after = refl
w4-by (_ ∷ front) type after = refl

pub w5-by : (front : List BidiClass) (type : BidiClass) (after : List BidiClass) → w5_at front type after ≡ terminator_type (nearest ends_row ON front) type after
w5-by front ET after = refl
w5-by front _ after = refl

pub w7-by : (sos : BidiClass) (front : List BidiClass) (type : BidiClass) (after : List BidiClass) → w7_at sos front type after ≡ left_type (nearest is_strong sos front) type after
w7-by sos front EN after = refl
w7-by sos front _ after = refl

-- W4 to W7 on a list, given the earlier types that they look back at
abbrev pub later : BidiClass → BidiClass → BidiClass → List BidiClass → List BidiClass
later before number strong types =
    carry left_type is_strong strong (map w6_type (carry terminator_type ends_row number (carry separator_type any before types)))

pub weak-later : (sos : BidiClass) (types : List BidiClass) → weak sos types ≡ later ON ON sos (read_types sos sos types)
weak-later sos types =
    let first = w1 sos types in
    let second = w2 sos first in
    let marked = carry-is (w1_at sos) (λ b type after. mark_type b type) (λ t. not (is_nonspacing_mark t)) sos (w1-by sos) [] types in
    let read : w3 second ≡ read_types sos sos types =
    ap (map w3_type) (carry-is (w2_at sos) (λ s type after. digit_type s type) is_strong sos (w2-by sos) [] first
    ∙ ap (carry (λ s type after. digit_type s type) is_strong sos) marked) in
    carry-is (w7_at sos) left_type is_strong sos (w7-by sos) [] (w6 (w5 (w4 (w3 second))))
    ∙ ap (λ xs. carry left_type is_strong sos (map w6_type xs)) (
    carry-is w5_at terminator_type ends_row ON w5-by [] (w4 (w3 second))
    ∙ ap (carry terminator_type ends_row ON) (
    carry-is w4_at separator_type any ON w4-by [] (w3 second) ∙ ap (carry separator_type any ON) read))

-- W4 depends only on whether the type before a separator is EN, AN or neither

abbrev joint : BidiClass → Bool
joint EN = true
joint AN = true
joint type = false

apart_first : (before type : BidiClass) (types : List BidiClass) → joint before ≡ false → separator_type before type types ≡ separator_type ON type types
apart_first EN type types e = absurd (cc)
apart_first AN type types e = absurd (cc)
apart_first _ type types e = refl

apart : (before : BidiClass) (types : List BidiClass) → joint before ≡ false → carry separator_type any before types ≡ carry separator_type any ON types
apart before [] e = refl
apart before (type ∷ types) e = ap (λ x. x ∷ carry separator_type any type types) (apart_first before type types e)

-- W5 depends only on whether the type before the terminators is a European number
plain : (number : BidiClass) (types : List BidiClass) → is_number number ≡ false → carry terminator_type ends_row number types ≡ carry terminator_type ends_row ON types
plain number [] e = refl
plain number (ET ∷ types) e =
    let after = is_number (nearest ends_row ON types) in
    ap (λ b. (if b || after then EN else ET) ∷ carry terminator_type ends_row number types) e
    ∙ ap (λ xs. (if after then EN else ET) ∷ xs) (plain number types e)
plain number (_ ∷ types) e = refl

-- W7 depends only on whether the strong type before a number is L
same_left : (strong other : BidiClass) (types : List BidiClass) → is_left strong ≡ is_left other → carry left_type is_strong strong types ≡ carry left_type is_strong other types
same_left strong other [] e = refl
same_left strong other (EN ∷ types) e =
    ap (λ b. (if b then L else EN) ∷ carry left_type is_strong strong types) e
    ∙ ap (λ xs. (if is_left other then L else EN) ∷ xs) (same_left strong other types e)
same_left strong other (L ∷ types) e = refl
same_left strong other (R ∷ types) e = refl
same_left strong other (AL ∷ types) e = refl
same_left strong other (type ∷ types) e = ap (λ xs. type ∷ xs) (same_left strong other types e)

pub left-w3 : (type : BidiClass) → is_left type ≡ is_left (w3_type type)
left-w3 AL = refl
left-w3 _ = refl

later-apart : (before number strong : BidiClass) (types : List BidiClass) → joint before ≡ false → later before number strong types ≡ later ON number strong types
later-apart before number strong types e = ap (λ xs. carry left_type is_strong strong (map w6_type (carry terminator_type ends_row number xs))) (apart before types e)

later-plain : (before number strong : BidiClass) (types : List BidiClass) → is_number number ≡ false → later before number strong types ≡ later before ON strong types
later-plain before number strong types e = ap (λ xs. carry left_type is_strong strong (map w6_type xs)) (plain number (carry separator_type any before types) e)

later-other : (before number strong : BidiClass) (types : List BidiClass) → joint before ≡ false → is_number number ≡ false → later before number strong types ≡ later ON ON strong types
later-other before number strong types e f = later-apart before number strong types e ∙ later-plain ON number strong types f

-- if no European number is before a run of terminators, W4 to W7 change all of them in the same way,
-- depending on what follows
separators-row : (n : ℕ) (types : List BidiClass) → carry separator_type any ON (replicate n ET ++ types) ≡ replicate n ET ++ carry separator_type any ON types
separators-row zero types = refl
separators-row (suc n) types = ap (λ xs. ET ∷ xs) (apart ET (replicate n ET ++ types) refl ∙ separators-row n types)

nearest-row : (n : ℕ) (types : List BidiClass) → nearest ends_row ON (replicate n ET ++ types) ≡ nearest ends_row ON types
nearest-row zero types = refl
nearest-row (suc n) types = nearest-row n types

abbrev has_number : List BidiClass → Bool
has_number types = is_number (nearest ends_row ON (carry separator_type any ON types))

one_first : (after : Bool) (strong : BidiClass) (types : List BidiClass)
    → carry left_type is_strong strong (map w6_type ((if after then EN else ET) ∷ types)) ≡ (if after then number_type (is_left strong) else ON) ∷ carry left_type is_strong strong (map w6_type types)
one_first true strong types = refl
one_first false strong types = refl

one_terminator : (strong : BidiClass) (types : List BidiClass)
    → later ON ON strong (ET ∷ types) ≡ (if has_number types then number_type (is_left strong) else ON) ∷ later ON ON strong types
one_terminator strong types =
    ap (λ xs. carry left_type is_strong strong (map w6_type (terminator_type ON ET xs ∷ carry terminator_type ends_row ON xs))) (apart ET types refl)
    ∙ one_first (has_number types) strong (carry terminator_type ends_row ON (carry separator_type any ON types))

later-row : (n : ℕ) (strong : BidiClass) (types : List BidiClass)
    → later ON ON strong (replicate n ET ++ types) ≡ replicate n (if has_number types then number_type (is_left strong) else ON) ++ later ON ON strong types
later-row zero strong types = refl
later-row (suc n) strong types =
    let value = if has_number types then number_type (is_left strong) else ON in
    let same : has_number (replicate n ET ++ types) ≡ has_number types =
    ap (λ xs. is_number (nearest ends_row ON xs)) (separators-row n types) ∙ ap is_number (nearest-row n (carry separator_type any ON types)) in
    one_terminator strong (replicate n ET ++ types)
    ∙ ap (λ b. (if b then number_type (is_left strong) else ON) ∷ later ON ON strong (replicate n ET ++ types)) same
    ∙ ap (λ xs. value ∷ xs) (later-row n strong types)

-- whatever type is before the list, the pass finds the same types as W4 to W7
record IsWalked (types : List BidiClass) : Type 0 where
  nothing : (strong : BidiClass) → types_after Nothing 0 strong types ≡ later ON ON strong types
  european : (strong : BidiClass) → types_after European 0 strong types ≡ later EN EN strong types
  arabic : (strong : BidiClass) → types_after Arabic 0 strong types ≡ later AN ON strong types
  european_terminators : (strong : BidiClass) → types_after EuropeanTerminators 0 strong types ≡ later ON EN strong types
  sign : (strong : BidiClass) → types_after EuropeanSeparator 1 strong types ≡ later EN EN strong (ES ∷ types)
  comma : (strong : BidiClass) → types_after EuropeanSeparator 1 strong types ≡ later EN EN strong (CS ∷ types)
  arabic_comma : (strong : BidiClass) → types_after ArabicSeparator 1 strong types ≡ later AN ON strong (CS ∷ types)
  terminators : (n : ℕ) (strong : BidiClass) → types_after Terminators n strong types ≡ later ON ON strong (replicate n ET ++ types)

module _ (types : List BidiClass) (walked : IsWalked types) where
  abbrev strong_after : BidiClass → BidiClass → BidiClass
  strong_after strong type = if is_strong type then type else strong

  european-more : (strong : BidiClass) → number_type (is_left strong) ∷ types_after European 0 strong types ≡ number_type (is_left strong) ∷ later EN EN strong types
  european-more strong = ap (λ xs. number_type (is_left strong) ∷ xs) (walked.european strong)

  arabic-more : (strong : BidiClass) → AN ∷ types_after Arabic 0 strong types ≡ AN ∷ later AN AN strong types
  arabic-more strong = ap (λ xs. AN ∷ xs) (walked.arabic strong ∙ sym (later-plain AN AN strong types refl))

  other-more : (before number : BidiClass) (value strong : BidiClass) → joint before ≡ false → is_number number ≡ false
      → value ∷ types_after Nothing 0 strong types ≡ value ∷ later before number strong types
  other-more before number value strong e f = ap (λ xs. value ∷ xs) (walked.nothing strong ∙ sym (later-other before number strong types e f))

  nothing-step : (type strong : BidiClass) → types_after Nothing 0 strong (type ∷ types) ≡ later ON ON strong (type ∷ types)
  nothing-step EN strong = european-more strong
  nothing-step AN strong = arabic-more strong
  nothing-step ET strong = walked.terminators 1 strong
  nothing-step ES strong = other-more ES ES ON strong refl refl
  nothing-step CS strong = other-more CS CS ON strong refl refl
  nothing-step type strong = other-more type type type (strong_after strong type) refl refl

  european-step : (type strong : BidiClass) → types_after European 0 strong (type ∷ types) ≡ later EN EN strong (type ∷ types)
  european-step EN strong = european-more strong
  european-step AN strong = arabic-more strong
  european-step ET strong = ap (λ xs. number_type (is_left strong) ∷ xs) (walked.european_terminators strong ∙ sym (later-apart ET EN strong types refl))
  european-step ES strong = walked.sign strong
  european-step CS strong = walked.comma strong
  european-step type strong = other-more type type type (strong_after strong type) refl refl

  arabic-step : (type strong : BidiClass) → types_after Arabic 0 strong (type ∷ types) ≡ later AN ON strong (type ∷ types)
  arabic-step EN strong = european-more strong
  arabic-step AN strong = arabic-more strong
  arabic-step ET strong = walked.terminators 1 strong
  arabic-step ES strong = other-more ES ES ON strong refl refl
  arabic-step CS strong = walked.arabic_comma strong
  arabic-step type strong = other-more type type type (strong_after strong type) refl refl

  european_terminators-step : (type strong : BidiClass) → types_after EuropeanTerminators 0 strong (type ∷ types) ≡ later ON EN strong (type ∷ types)
  european_terminators-step EN strong = european-more strong
  european_terminators-step AN strong = arabic-more strong
  european_terminators-step ET strong = ap (λ xs. number_type (is_left strong) ∷ xs) (walked.european_terminators strong ∙ sym (later-apart ET EN strong types refl))
  european_terminators-step ES strong = other-more ES ES ON strong refl refl
  european_terminators-step CS strong = other-more CS CS ON strong refl refl
  european_terminators-step type strong = other-more type type type (strong_after strong type) refl refl

  -- after a separator that becomes ON, W4 to W7 continue as if there were no number before it
  lone : (separator type strong : BidiClass) → joint separator ≡ false → is_number separator ≡ false
      → ON ∷ types_after Nothing 0 strong (type ∷ types) ≡ ON ∷ later separator separator strong (type ∷ types)
  lone separator type strong e f = ap (λ xs. ON ∷ xs) (nothing-step type strong ∙ sym (later-other separator separator strong (type ∷ types) e f))

  sign-step : (type strong : BidiClass) → types_after EuropeanSeparator 1 strong (type ∷ types) ≡ later EN EN strong (ES ∷ type ∷ types)
  sign-step EN strong = ap (λ xs. number_type (is_left strong) ∷ xs) (european-more strong)
  sign-step type strong = lone ES type strong refl refl

  comma-step : (type strong : BidiClass) → types_after EuropeanSeparator 1 strong (type ∷ types) ≡ later EN EN strong (CS ∷ type ∷ types)
  comma-step EN strong = ap (λ xs. number_type (is_left strong) ∷ xs) (european-more strong)
  comma-step type strong = lone CS type strong refl refl

  arabic_comma-step : (type strong : BidiClass) → types_after ArabicSeparator 1 strong (type ∷ types) ≡ later AN ON strong (CS ∷ type ∷ types)
  arabic_comma-step AN strong = ap (λ xs. AN ∷ xs) (arabic-more strong)
  arabic_comma-step type strong = lone CS type strong refl refl

  terminators-step : (type : BidiClass) (n : ℕ) (strong : BidiClass) → types_after Terminators n strong (type ∷ types) ≡ later ON ON strong (replicate n ET ++ type ∷ types)
  terminators-step EN n strong =
      ap (λ xs. replicate n (number_type (is_left strong)) ++ xs) (european-more strong) ∙ sym (later-row n strong (EN ∷ types))
  terminators-step ET n strong =
      walked.terminators (n + 1) strong
      ∙ ap (λ xs. later ON ON strong (xs ++ types)) (sym (replicate_more n ET))
      ∙ ap (later ON ON strong) (append_assoc (replicate n ET) (ET ∷ []) types)
  terminators-step type n strong =
      ap (λ xs. replicate n ON ++ xs) (nothing-step type strong) ∙ sym (later-row n strong (type ∷ types))

is_walked : (types : List BidiClass) → IsWalked types
is_walked [] = record {
  nothing = λ strong. refl;
  european = λ strong. refl;
  arabic = λ strong. refl;
  european_terminators = λ strong. refl;
  sign = λ strong. refl;
  comma = λ strong. refl;
  arabic_comma = λ strong. refl;
  terminators = λ n strong. sym (later-row n strong [] ∙ append-nil (replicate n ON));
}
is_walked (type ∷ types) =
    let walked = is_walked types in
    record {
      nothing = nothing-step types walked type;
      european = european-step types walked type;
      arabic = arabic-step types walked type;
      european_terminators = european_terminators-step types walked type;
      sign = sign-step types walked type;
      comma = comma-step types walked type;
      arabic_comma = arabic_comma-step types walked type;
      terminators = terminators-step types walked type;
    }

pub weak-is : (sos : BidiClass) (types : List BidiClass) → types_after Nothing 0 (w3_type sos) (read_types sos sos types) ≡ weak sos types
weak-is sos types =
    let walked = is_walked (read_types sos sos types) in
    walked.nothing (w3_type sos)
    ∙ sym (same_left sos (w3_type sos) (map w6_type (carry terminator_type ends_row ON (carry separator_type any ON (read_types sos sos types)))) (left-w3 sos))
    ∙ sym (weak-later sos types)
