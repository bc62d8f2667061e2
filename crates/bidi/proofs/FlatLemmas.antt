-- If no character of a paragraph raises a level above the paragraph level, 0 or 1, all levels equal the
-- paragraph level.
use Rattle.std.proofs.Common.{◌≡◌, ℕ, zero, suc, ◌+◌, ◌-◌, ◌<◌, Bool, true, false, ◌&&◌, ◌||◌, not, if◌then◌else◌, List, [], ◌∷◌, ◌++◌, length, get_or, drop, map, fold, replicate, slice_index, slice_range, Option, Some, None, refl, sym, ap, subst, ◌∙◌, inl, inr, arith, add-zero, zero-add}
use Rattle.std.specs.List.{range_with_len, All}
use Rattle.std.proofs.lemmas.Bool.{cond-true, cond-false, cases_Bool, cases_lt}
use Rattle.std.proofs.lemmas.List.{get_or_past, length-map, length-replicate, replicate-append-replicate}
use Rattle.std.proofs.lemmas.List.Elements.{All-nil, All-cons, All-head, All-tail, All-map, All-take, All-drop, All-weaker, All-get_or, filter_passes}
use Rattle.std.proofs.lemmas.List.Folds.{list_any_none}
use Rattle.ucd.specs.declared.bidi_class.BidiClass.{BidiClass}
use Rattle.ucd.specs.declared.bidi_class.BidiClass.TheVariants.{L, R, AL, EN, ES, ET, AN, CS, NSM, B, S, WS, ON, LRE, LRO, RLE, RLO, LRI, RLI, FSI, PDI}
use Rattle.ucd.specs.declared.bracket.Bracket.{Bracket}
use Rattle.bidi.specs.Brackets.{brackets, closer_of, is_set_with, is_toward, pair_step, pairs_of, set_pair, set_with, stands, context}
use Rattle.ucd.specs.Classes.{class_at, is_initiator, is_nonspacing_mark, is_removed, is_strong}
use Rattle.bidi.specs.Explicit.{directed, is_first_strong, level_at, open_after, type_at}
use Rattle.bidi.specs.Levels.{levels_by, paragraph_levels, put_back, resolved, sequence_levels}
use Rattle.bidi.specs.Neighbours.{nearest}
use Rattle.bidi.specs.Neutral.{agree, side}
use Rattle.bidi.specs.Plain.{is_flat, is_flat_rtl}
use Rattle.bidi.specs.Rows.{levels_after}
use Rattle.bidi.specs.Sequences.{retained}
use Rattle.bidi.specs.Waiting.{carry, digit_type, mark_type}
use Rattle.bidi.specs.Weak.{is_left, is_number, mark_after, w3_type, w6_type, weak}
use Rattle.bidi.proofs.BracketLemmas.{length-set_with}
use Rattle.bidi.proofs.NeutralLemmas.{levels_after-is}
use Rattle.bidi.proofs.PlainLemmas.{directed-none, level_at-base, map-agree, map-same, resolved-one, type_at-class}
use Rattle.bidi.proofs.WeakLemmas.{any, ends_row, left_type, separator_type, terminator_type, weak-later}

-- whether all types of a list pass a test
abbrev pub Passes : (BidiClass → Bool) → List BidiClass → Type 0
Passes test types = All (λ type. test type ≡ true) types

-- the paragraph level, and the test for a class that raises no level above it, in a left-to-right paragraph or a
-- right-to-left one
abbrev pub base : Bool → ℕ
base true = 0
base false = 1

abbrev pub is_flat_in : Bool → BidiClass → Bool
is_flat_in true = is_flat
is_flat_in false = is_flat_rtl

-- the types that can occur in such a paragraph before W1, after W1, after W3, after W6, and after W7
abbrev is_first : Bool → BidiClass → Bool
is_first left type = is_flat_in left type && not (is_removed type)

abbrev is_marked : Bool → BidiClass → Bool
is_marked left ES = true
is_marked left ET = true
is_marked left CS = true
is_marked left B = true
is_marked left S = true
is_marked left WS = true
is_marked left ON = true
is_marked true L = true
is_marked true EN = true
is_marked false R = true
is_marked false AL = true
is_marked left type = false

abbrev is_turned : Bool → BidiClass → Bool
is_turned left ES = true
is_turned left ET = true
is_turned left CS = true
is_turned left B = true
is_turned left S = true
is_turned left WS = true
is_turned left ON = true
is_turned true L = true
is_turned true EN = true
is_turned false R = true
is_turned left type = false

abbrev is_joined : Bool → BidiClass → Bool
is_joined left B = true
is_joined left S = true
is_joined left WS = true
is_joined left ON = true
is_joined true L = true
is_joined true EN = true
is_joined false R = true
is_joined left type = false

abbrev is_calm : Bool → BidiClass → Bool
is_calm left B = true
is_calm left S = true
is_calm left WS = true
is_calm left ON = true
is_calm true L = true
is_calm false R = true
is_calm left type = false

-- the strong types that W2 and W7 can see before a European number, which only left-to-right paragraphs have
abbrev is_seen : Bool → BidiClass → Bool
is_seen true strong = is_left strong
is_seen false strong = true

-- if a rule maps types that pass one test to types that pass another, `carry` maps a list of types that pass
-- the first test to a list of types that pass the second
carry-passes : (rule : BidiClass → BidiClass → List BidiClass → BidiClass) (test kept passes makes : BidiClass → Bool)
    → ((before type : BidiClass) (after : List BidiClass) → kept before ≡ true → passes type ≡ true → Passes passes after → makes (rule before type after) ≡ true)
    → ((before type : BidiClass) → kept before ≡ true → passes type ≡ true → kept (if test type then type else before) ≡ true)
    → (before : BidiClass) (types : List BidiClass) → kept before ≡ true → Passes passes types → Passes makes (carry rule test before types)
carry-passes rule test kept passes makes step next before [] k p = All-nil (λ t. makes t ≡ true)
carry-passes rule test kept passes makes step next before (type ∷ types) k p =
    let first : passes type ≡ true = All-head (λ t. passes t ≡ true) type types p in
    let others : Passes passes types = All-tail (λ t. passes t ≡ true) type types p in
    All-cons (λ t. makes t ≡ true) (rule before type types) (carry rule test (if test type then type else before) types) (step before type types k first others)
    (carry-passes rule test kept passes makes step next (if test type then type else before) types (next before type k first) others)

pub length-carry : (rule : BidiClass → BidiClass → List BidiClass → BidiClass) (test : BidiClass
    → Bool) (before : BidiClass) (types : List BidiClass) → length (carry rule test before types) ≡ length types
length-carry rule test before [] = refl
length-carry rule test before (type ∷ types) = ap suc (length-carry rule test (if test type then type else before) types)

-- if the type before and the next type pass a test, so does the type that is carried along
kept-next : (test passes : BidiClass → Bool) (before type : BidiClass) → passes before ≡ true → passes type ≡ true → passes (if test type then type else before) ≡ true
kept-next test passes before type k p = elim (test type) as (λ b. passes (if b then type else before) ≡ true) [ true ↦ p | false ↦ k ]

mark-kept : (left : Bool) (type : BidiClass) → is_marked left type ≡ true → is_marked left (mark_after type) ≡ true
mark-kept left LRI e = refl
mark-kept left RLI e = refl
mark-kept left FSI e = refl
mark-kept left PDI e = refl
mark-kept left _ e = e

mark-step : (left : Bool) (before type : BidiClass) (after : List BidiClass) → is_marked left before ≡ true → is_first left type ≡ true → Passes (is_first left) after
    → is_marked left (mark_type before type) ≡ true
mark-step left before NSM after k p a = mark-kept left before k
mark-step true before _ after k p a = p
mark-step false before _ after k p a = p

mark-next : (left : Bool) (before type : BidiClass) → is_marked left before ≡ true → is_first left type ≡ true → is_marked left (if not (is_nonspacing_mark type) then type else before) ≡ true
mark-next left before NSM k p = k
mark-next true before _ k p = p
mark-next false before _ k p = p

digit-left : (strong : BidiClass) → is_left strong ≡ true → is_marked true (digit_type strong EN) ≡ true
digit-left L k = refl
digit-left _ k = absurd (cc)

digit-step : (left : Bool) (strong type : BidiClass) (after : List BidiClass) → is_seen left strong ≡ true → is_marked left type ≡ true → Passes (is_marked left) after
    → is_marked left (digit_type strong type) ≡ true
digit-step true strong EN after k p a = digit-left strong k
digit-step false strong EN after k p a = absurd (cc)
digit-step left strong _ after k p a = p

seen-next : (left : Bool) (strong type : BidiClass) → is_seen left strong ≡ true → is_marked left type ≡ true → is_seen left (if is_strong type then type else strong) ≡ true
seen-next false strong type k p = refl
seen-next true strong L k p = refl
seen-next true strong R k p = absurd (cc)
seen-next true strong AL k p = absurd (cc)
seen-next true strong _ k p = k

w3-step : (left : Bool) (type : BidiClass) → is_marked left type ≡ true → is_turned left (w3_type type) ≡ true
w3-step true AL p = absurd (cc)
w3-step false AL p = refl
w3-step true _ p = p
w3-step false _ p = p

separator-step : (left : Bool) (before type : BidiClass) (after : List BidiClass) → is_turned left before ≡ true → is_turned left type ≡ true → Passes (is_turned left) after
    → is_turned left (separator_type before type after) ≡ true
separator-step true EN ES [] k p a = refl
separator-step true EN ES (EN ∷ after) k p a = refl
separator-step true EN ES (_ ∷ after) k p a = refl
separator-step true EN CS [] k p a = refl
separator-step true EN CS (EN ∷ after) k p a = refl
separator-step true EN CS (_ ∷ after) k p a = refl
separator-step true EN _ after k p a = p
separator-step false EN type after k p a = absurd (cc)
separator-step true AN type after k p a = absurd (cc)
separator-step false AN type after k p a = absurd (cc)
separator-step left _ type after k p a = p

-- in a right-to-left paragraph, the type next to a run of terminators is not a European number
no_number : (type : BidiClass) → is_turned false type ≡ true → is_number type ≡ false
no_number EN p = absurd (cc)
no_number _ p = refl

nearest-turned : (types : List BidiClass) → Passes (is_turned false) types → is_turned false (nearest ends_row ON types) ≡ true
nearest-turned [] p = refl
nearest-turned (type ∷ types) p =
    elim (cases_Bool (ends_row type)) [
      | inl ends ↦ ap (is_turned false) (cond-true (ends_row type) type (nearest ends_row ON types) ends) ∙ All-head (λ t. is_turned false t ≡ true) type types p
      | inr goes_on ↦ ap (is_turned false) (cond-false (ends_row type) type (nearest ends_row ON types) goes_on)
          ∙ nearest-turned types (All-tail (λ t. is_turned false t ≡ true) type types p)
    ]

terminator-is : (one other : Bool) → one ≡ false → other ≡ false → is_turned false (if one || other then EN else ET) ≡ true
terminator-is true other e f = absurd (cc)
terminator-is false true e f = absurd (cc)
terminator-is false false e f = refl

either-turned : (number : Bool) → is_turned true (if number then EN else ET) ≡ true
either-turned true = refl
either-turned false = refl

terminator-step : (left : Bool) (before type : BidiClass) (after : List BidiClass) → is_turned left before ≡ true → is_turned left type ≡ true → Passes (is_turned left) after
    → is_turned left (terminator_type before type after) ≡ true
terminator-step true before ET after k p a = either-turned (is_number before || is_number (nearest ends_row ON after))
terminator-step false before ET after k p a =
    terminator-is (is_number before) (is_number (nearest ends_row ON after)) (no_number before k) (no_number (nearest ends_row ON after) (nearest-turned after a))
terminator-step left before _ after k p a = p

w6-step : (left : Bool) (type : BidiClass) → is_turned left type ≡ true → is_joined left (w6_type type) ≡ true
w6-step left ES p = refl
w6-step left ET p = refl
w6-step left CS p = refl
w6-step true _ p = p
w6-step false _ p = p

number-left : (strong : BidiClass) (after : List BidiClass) → is_left strong ≡ true → is_calm true (left_type strong EN after) ≡ true
number-left L after k = refl
number-left _ after k = absurd (cc)

left-step : (left : Bool) (strong type : BidiClass) (after : List BidiClass) → is_seen left strong ≡ true → is_joined left type ≡ true → Passes (is_joined left) after
    → is_calm left (left_type strong type after) ≡ true
left-step true strong EN after k p a = number-left strong after k
left-step false strong EN after k p a = absurd (cc)
left-step true strong _ after k p a = p
left-step false strong _ after k p a = p

left-next : (left : Bool) (strong type : BidiClass) → is_seen left strong ≡ true → is_joined left type ≡ true → is_seen left (if is_strong type then type else strong) ≡ true
left-next false strong type k p = refl
left-next true strong L k p = refl
left-next true strong R k p = absurd (cc)
left-next true strong AL k p = absurd (cc)
left-next true strong _ k p = k

side-marked : (left : Bool) → is_marked left (side left) ≡ true
side-marked true = refl
side-marked false = refl

side-seen : (left : Bool) → is_seen left (side left) ≡ true
side-seen true = refl
side-seen false = refl

neutral-turned : (left : Bool) → is_turned left ON ≡ true
neutral-turned true = refl
neutral-turned false = refl

-- in such a paragraph, all types after W1 to W7 have the paragraph's direction or are neutral
weak-calm : (left : Bool) (types : List BidiClass) → Passes (is_first left) types → Passes (is_calm left) (weak (side left) types)
weak-calm left types first =
    let sos = side left in
    let mark = λ (b type : BidiClass) (after : List BidiClass). mark_type b type in
    let digit = λ (s type : BidiClass) (after : List BidiClass). digit_type s type in
    let unmarked = carry mark (λ type. not (is_nonspacing_mark type)) sos types in
    let digits = carry digit is_strong sos unmarked in
    let read = map w3_type digits in
    let separated = carry separator_type any ON read in
    let terminated = carry terminator_type ends_row ON separated in
    let one : Passes (is_marked left) unmarked =
    carry-passes mark (λ type. not (is_nonspacing_mark type)) (is_marked left) (is_first left) (is_marked left) (mark-step left) (mark-next left) sos types (side-marked left) first in
    let two : Passes (is_marked left) digits =
    carry-passes digit is_strong (is_seen left) (is_marked left) (is_marked left) (digit-step left) (seen-next left) sos unmarked (side-seen left) one in
    let three : Passes (is_turned left) read =
    All-map (λ t. is_turned left t ≡ true) w3_type digits (All-weaker (λ t. is_marked left t ≡ true) (λ t. is_turned left (w3_type t) ≡ true) (w3-step left) digits two) in
    let four : Passes (is_turned left) separated =
    carry-passes separator_type any (is_turned left) (is_turned left) (is_turned left) (separator-step left) (kept-next any (is_turned left)) ON read (neutral-turned left) three in
    let five : Passes (is_turned left) terminated =
    carry-passes terminator_type ends_row (is_turned left) (is_turned left) (is_turned left) (terminator-step left) (kept-next ends_row (is_turned left)) ON separated (neutral-turned left) four in
    let six : Passes (is_joined left) (map w6_type terminated) =
    All-map (λ t. is_joined left t ≡ true) w6_type terminated (All-weaker (λ t. is_turned left t ≡ true) (λ t. is_joined left (w6_type t) ≡ true) (w6-step left) terminated five) in
    subst (Passes (is_calm left)) (sym (weak-later sos types))
    (carry-passes left_type is_strong (is_seen left) (is_joined left) (is_calm left) (left-step left) (left-next left) sos (map w6_type terminated) (side-seen left) six)

pub length-weak : (sos : BidiClass) (types : List BidiClass) → length (weak sos types) ≡ length types
length-weak sos types =
    let mark = λ (b type : BidiClass) (after : List BidiClass). mark_type b type in
    let digit = λ (s type : BidiClass) (after : List BidiClass). digit_type s type in
    let unmarked = carry mark (λ type. not (is_nonspacing_mark type)) sos types in
    let digits = carry digit is_strong sos unmarked in
    let read = map w3_type digits in
    let separated = carry separator_type any ON read in
    let terminated = carry terminator_type ends_row ON separated in
    ap length (weak-later sos types) ∙ length-carry left_type is_strong sos (map w6_type terminated) ∙ length-map terminated w6_type
    ∙ length-carry terminator_type ends_row ON separated ∙ length-carry separator_type any ON read ∙ length-map digits w3_type
    ∙ length-carry digit is_strong sos unmarked ∙ length-carry mark (λ type. not (is_nonspacing_mark type)) sos types

-- if all types have the paragraph's direction or are neutral, the same holds after N0
neutral-calm : (left : Bool) → is_calm left ON ≡ true
neutral-calm true = refl
neutral-calm false = refl

side-calm : (left : Bool) → is_calm left (side left) ≡ true
side-calm true = refl
side-calm false = refl

calm_at : (left : Bool) (types : List BidiClass) → Passes (is_calm left) types → (k : ℕ) → is_calm left (class_at types k) ≡ true
calm_at left types calm k =
    elim (cases_lt k (length types)) [
      | inl within ↦ All-get_or (λ t. is_calm left t ≡ true) types k ON within calm
      | inr past ↦ ap (is_calm left) (get_or_past types k ON past) ∙ neutral-calm left
    ]

calm-toward : (left : Bool) (type : BidiClass) → is_calm left type ≡ true → is_toward (not left) type ≡ false
calm-toward true L e = refl
calm-toward false R e = refl
calm-toward left B e = refl
calm-toward left S e = refl
calm-toward left WS e = refl
calm-toward left ON e = refl
calm-toward true _ e = absurd (cc)
calm-toward false _ e = absurd (cc)

record IsCalm (left : Bool) (n : ℕ) (types : List BidiClass) : Type 0 where
  calm : Passes (is_calm left) types
  size : length types ≡ n

either-calm : (left whether : Bool) (type : BidiClass) → is_calm left type ≡ true → is_calm left (if whether then side left else type) ≡ true
either-calm left true type e = side-calm left
either-calm left false type e = e

set_with-calm : (left : Bool) (n : ℕ) (marks : List Bool) (types : List BidiClass) (p : ℕ) → IsCalm left n types → IsCalm left n (set_with marks (side left) types p)
set_with-calm left n marks types p now = record {
  calm = All-map (λ t. is_calm left t ≡ true) (λ k. if is_set_with marks p k then side left else class_at types k) (range_with_len 0 (length types))
      (λ i d within. either-calm left (is_set_with marks p (get_or (range_with_len 0 (length types)) i d)) (class_at types (get_or (range_with_len 0 (length types)) i d))
      (calm_at left types now.calm (get_or (range_with_len 0 (length types)) i d)));
  size = length-set_with marks (side left) types p ∙ now.size;
}

pair-calm : (left : Bool) (n : ℕ) (marks : List Bool) (types : List BidiClass) (a b : ℕ) (same other : Bool) (found : BidiClass) → other ≡ false → IsCalm left n types
    → IsCalm left n (set_pair marks types a b (if same then Some (side left) else (if other then Some found else None)))
pair-calm left n marks types a b true other found e now =
    set_with-calm left n marks (set_with marks (side left) types a) b (set_with-calm left n marks types a now)
pair-calm left n marks types a b false true found e now = absurd (cc)
pair-calm left n marks types a b false false found e now = now

-- no strong type of the opposite direction is inside a pair
none-toward : (left : Bool) (types : List BidiClass) (a b : ℕ) → Passes (is_calm left) types → stands (not left) types a b ≡ false
none-toward left types a b calm =
    let part = slice_range types (a + 1) b in
    let inside : Passes (is_calm left) part =
    All-take (λ t. is_calm left t ≡ true) (b - (a + 1)) (drop (a + 1) types) (All-drop (λ t. is_calm left t ≡ true) (a + 1) types calm) in
    list_any_none (is_toward (not left)) part (All-weaker (λ t. is_calm left t ≡ true) (λ t. is_toward (not left) t ≡ false) (calm-toward left) part inside)

step-calm : (left : Bool) (n : ℕ) (marks : List Bool) (types : List BidiClass) (a : ℕ) (closer : Option ℕ) → IsCalm left n types
    → IsCalm left n (pair_step (side left) (side left) marks types a closer)
step-calm left n marks types a None now = now
step-calm true n marks types a (Some b) now =
    pair-calm true n marks types a b (stands true types a b) (stands false types a b) (side (if agree true (is_left (context L types a)) then true else false))
    (none-toward true types a b now.calm) now
step-calm false n marks types a (Some b) now =
    pair-calm false n marks types a b (stands false types a b) (stands true types a b) (side (if agree false (is_left (context R types a)) then false else true))
    (none-toward false types a b now.calm) now

fold-calm : (left : Bool) (n : ℕ) (marks : List Bool) (closer : ℕ → Option ℕ) (places : List ℕ) (types : List BidiClass) → IsCalm left n types
    → IsCalm left n (fold (λ current a. pair_step (side left) (side left) marks current a (closer a)) types places)
fold-calm left n marks closer [] types now = now
fold-calm left n marks closer (a ∷ places) types now =
    fold-calm left n marks closer places (pair_step (side left) (side left) marks types a (closer a)) (step-calm left n marks types a (closer a) now)

-- if all types have the paragraph's direction or are neutral, N1 to I2 result in the paragraph level
abbrev same : Bool → ℕ → List ℕ
same left n = replicate n (base left)

more-same : (left : Bool) (n m : ℕ) → same left ((n + 1) + m) ≡ same left (n + suc m)
more-same left n m = let e : (n + 1) + m ≡ n + suc m = omega arith in ap (same left) e

calm-strong : (level n m : ℕ) (xs : List ℕ) → xs ≡ replicate (0 + m) level → replicate n level ++ level ∷ xs ≡ replicate (n + suc m) level
calm-strong level n m xs rest = ap (λ ys. replicate n level ++ level ∷ ys) (rest ∙ ap (λ k. replicate k level) (zero-add m)) ∙ replicate-append-replicate n (suc m) level

calm-step : (left : Bool) (n : ℕ) (type : BidiClass) (types : List BidiClass) → is_calm left type ≡ true
    → ((m : ℕ) → levels_after (base left) (side left) m (side left) types ≡ same left (m + length types))
    → levels_after (base left) (side left) n (side left) (type ∷ types) ≡ same left (n + suc (length types))
calm-step true n L types e rest = calm-strong 0 n (length types) _ (rest 0)
calm-step false n R types e rest = calm-strong 1 n (length types) _ (rest 0)
calm-step left n B types e rest = rest (n + 1) ∙ more-same left n (length types)
calm-step left n S types e rest = rest (n + 1) ∙ more-same left n (length types)
calm-step left n WS types e rest = rest (n + 1) ∙ more-same left n (length types)
calm-step left n ON types e rest = rest (n + 1) ∙ more-same left n (length types)
calm-step true n _ types e rest = absurd (cc)
calm-step false n _ types e rest = absurd (cc)

-- a run of neutrals at the end has the paragraph level
calm-end : (left : Bool) (n : ℕ) → levels_after (base left) (side left) n (side left) [] ≡ same left (n + 0)
calm-end true n = ap (same true) (sym (add-zero n))
calm-end false n = ap (same false) (sym (add-zero n))

calm_levels : (left : Bool) (n : ℕ) (types : List BidiClass) → Passes (is_calm left) types
    → levels_after (base left) (side left) n (side left) types ≡ same left (n + length types)
calm_levels left n [] calm = calm-end left n
calm_levels left n (type ∷ types) calm =
    calm-step left n type types (All-head (λ t. is_calm left t ≡ true) type types calm) (λ m. calm_levels left m types (All-tail (λ t. is_calm left t ≡ true) type types calm))

sequence_levels-same : (left : Bool) (bracket : ℕ → Option Bracket) (characters : List ℕ) (types : List BidiClass) → Passes (is_first left) types
    → sequence_levels bracket (base left) (side left) (side left) characters types ≡ same left (length types)
sequence_levels-same true bracket characters types first =
    let paired = brackets bracket L L characters types (weak L types) in
    let now : IsCalm true (length types) paired =
    fold-calm true (length types) (map is_nonspacing_mark types) (closer_of (pairs_of bracket characters (weak L types))) (range_with_len 0 (length (weak L types))) (weak L types)
    (record { calm = weak-calm true types first; size = length-weak L types }) in
    sym (levels_after-is 0 L L paired) ∙ calm_levels true 0 paired now.calm ∙ ap (same true) (zero-add (length paired) ∙ now.size)
sequence_levels-same false bracket characters types first =
    let paired = brackets bracket R R characters types (weak R types) in
    let now : IsCalm false (length types) paired =
    fold-calm false (length types) (map is_nonspacing_mark types) (closer_of (pairs_of bracket characters (weak R types))) (range_with_len 0 (length (weak R types))) (weak R types)
    (record { calm = weak-calm false types first; size = length-weak R types }) in
    sym (levels_after-is 1 R R paired) ∙ calm_levels false 0 paired now.calm ∙ ap (same false) (zero-add (length paired) ∙ now.size)

-- if all kept characters have the paragraph level, so do the characters that X9 removed
put_back-same : (level : ℕ) (classes : List BidiClass) (m : ℕ) → put_back level classes (replicate m level) ≡ replicate (length classes) level
put_back-same level [] m = refl
put_back-same level (class ∷ classes) zero = ap (λ xs. level ∷ xs) (put_back-same level classes zero)
put_back-same level (class ∷ classes) (suc m) =
    elim (cases_Bool (is_removed class)) [
      | inl removed ↦ cond-true (is_removed class) (level ∷ put_back level classes (replicate (suc m) level)) (level ∷ put_back level classes (replicate m level)) removed
          ∙ ap (λ xs. level ∷ xs) (put_back-same level classes (suc m))
      | inr stays ↦ cond-false (is_removed class) (level ∷ put_back level classes (replicate (suc m) level)) (level ∷ put_back level classes (replicate m level)) stays
          ∙ ap (λ xs. level ∷ xs) (put_back-same level classes m)
    ]

-- a flat class opens nothing and is not FSI
flat-closed : (left : Bool) (class : BidiClass) → is_flat_in left class ≡ true → open_after [] class ≡ []
flat-closed true LRE e = absurd (cc)
flat-closed true LRO e = absurd (cc)
flat-closed true RLE e = absurd (cc)
flat-closed true RLO e = absurd (cc)
flat-closed true LRI e = absurd (cc)
flat-closed true RLI e = absurd (cc)
flat-closed false LRE e = absurd (cc)
flat-closed false LRO e = absurd (cc)
flat-closed false RLE e = absurd (cc)
flat-closed false RLO e = absurd (cc)
flat-closed false LRI e = absurd (cc)
flat-closed false RLI e = absurd (cc)
flat-closed left class e = refl

flat-directed : (left : Bool) (class : BidiClass) → is_flat_in left class ≡ true → is_first_strong class ≡ false
flat-directed true FSI e = absurd (cc)
flat-directed false FSI e = absurd (cc)
flat-directed left class e = refl

flat-first : (left : Bool) (class : BidiClass) → is_flat_in left class ≡ true → not (is_removed class) ≡ true → is_first left class ≡ true
flat-first left class e f = ap (λ b. b && not (is_removed class)) e ∙ f

first-other : (left : Bool) (class : BidiClass) → is_first left class ≡ true → is_initiator class ≡ false
first-other true LRI e = absurd (cc)
first-other true RLI e = absurd (cc)
first-other true FSI e = absurd (cc)
first-other false LRI e = absurd (cc)
first-other false RLI e = absurd (cc)
first-other false FSI e = absurd (cc)
first-other left class e = refl

neutral-flat : (left : Bool) → is_flat_in left ON ≡ true
neutral-flat true = refl
neutral-flat false = refl

flat_at : (left : Bool) (classes : List BidiClass) → Passes (is_flat_in left) classes → (k : ℕ) → is_flat_in left (class_at classes k) ≡ true
flat_at left classes level k =
    elim (cases_lt k (length classes)) [
      | inl within ↦ All-get_or (λ t. is_flat_in left t ≡ true) classes k ON within level
      | inr past ↦ ap (is_flat_in left) (get_or_past classes k ON past) ∙ neutral-flat left
    ]

-- the kept characters are one sequence
one_sequence : (left : Bool) (bracket : ℕ → Option Bracket) (characters : List ℕ) (types : List BidiClass) (n : ℕ) → length types ≡ n → length characters ≡ n
    → Passes (is_first left) types → resolved bracket (base left) characters types (same left n) types ≡ same left n
one_sequence true bracket characters types n size fits first =
    let all : sequence_levels bracket 0 L L characters types ≡ replicate n 0 = sequence_levels-same true bracket characters types first ∙ ap (same true) size in
    elim (cases_lt 0 n) [
      | inl some ↦
          let inside : n - 1 < length types = omega (arith, size) in
          resolved-one bracket 0 characters types types n some size size fits
          (first-other true (class_at types (n - 1)) (All-get_or (λ t. is_first true t ≡ true) types (n - 1) ON inside first))
          (ap length all ∙ length-replicate n 0) ∙ all
      | inr none ↦
          let empty : n ≡ 0 = omega arith in
          ap (λ m. resolved bracket 0 characters types (replicate m 0) types) empty ∙ ap (same true) (sym empty)
    ]
one_sequence false bracket characters types n size fits first =
    let all : sequence_levels bracket 1 R R characters types ≡ replicate n 1 = sequence_levels-same false bracket characters types first ∙ ap (same false) size in
    elim (cases_lt 0 n) [
      | inl some ↦
          let inside : n - 1 < length types = omega (arith, size) in
          resolved-one bracket 1 characters types types n some size size fits
          (first-other false (class_at types (n - 1)) (All-get_or (λ t. is_first false t ≡ true) types (n - 1) ON inside first))
          (ap length all ∙ length-replicate n 1) ∙ all
      | inr none ↦
          let empty : n ≡ 0 = omega arith in
          ap (λ m. resolved bracket 1 characters types (replicate m 1) types) empty ∙ ap (same false) (sym empty)
    ]

pub same_levels : (left : Bool) (bracket : ℕ → Option Bracket) (text : List ℕ) (classes : List BidiClass) → Passes (is_flat_in left) classes
    → paragraph_levels bracket text classes (base left) ≡ replicate (length classes) (base left)
same_levels left bracket text classes flat =
    let level = base left in
    let closed = All-weaker (λ c. is_flat_in left c ≡ true) (λ c. open_after [] c ≡ []) (flat-closed left) classes flat in
    let directed-is : directed classes ≡ classes =
    directed-none classes (All-weaker (λ c. is_flat_in left c ≡ true) (λ c. is_first_strong c ≡ false) (flat-directed left) classes flat) in
    let places = retained classes in
    let n = length places in
    let characters = map (slice_index text) places in
    let kept = map (class_at classes) places in
    let size : length kept ≡ n = length-map places (class_at classes) in
    let levels : map (level_at level classes) places ≡ replicate n level = map-same (level_at level classes) level (level_at-base classes closed level) places in
    let types : map (type_at level classes) places ≡ kept = map-agree (type_at level classes) (class_at classes) (type_at-class classes closed level) places in
    let first : Passes (is_first left) kept =
    All-map (λ t. is_first left t ≡ true) (class_at classes) places (
    All-weaker (λ k. not (is_removed (class_at classes k)) ≡ true) (λ k. is_first left (class_at classes k) ≡ true)
    (λ k stays. flat-first left (class_at classes k) (flat_at left classes flat k) stays)
    places (filter_passes (λ k. not (is_removed (class_at classes k))) (range_with_len 0 (length classes)))) in
    ap (λ cs. levels_by bracket text cs level) directed-is
    ∙ ap (λ xs. put_back level classes (resolved bracket level characters kept xs (map (type_at level classes) places))) levels
    ∙ ap (λ xs. put_back level classes (resolved bracket level characters kept (replicate n level) xs)) types
    ∙ ap (put_back level classes) (one_sequence left bracket characters kept n size (length-map places (slice_index text)) first)
    ∙ put_back-same level classes n
