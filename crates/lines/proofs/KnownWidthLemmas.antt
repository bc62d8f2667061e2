-- Each character that passes one of the quick tests has one column.
use Rattle.std.proofs.Common.{zero, suc, inl, inr, get_or, length, ◌<◌, ◌≡◌, ℕ, ◌≤◌, nat_le, nat_lt, Bool, true, false, not, ◌&&◌, ◌||◌, List, [], ◌∷◌, Option, Some, None, unwrap_or, if◌then◌else◌, refl, sym, ap, ◌∙◌, arith}
use Rattle.std.specs.List.{list_all}
use Rattle.std.proofs.lemmas.Bool.{and_parts, both_ways, cases_Bool, cases_eq, cases_lt, cond-false, cond-true, le-leb}
use Rattle.std.proofs.lemmas.Bool.Decides.{nat_tests}
use Rattle.ucd_table.specs.Rows.{Range, in_ranges}
use Rattle.ucd_table.proofs.Computing.{tables}
use Rattle.ucd_table.proofs.Facts.{always, Stepped-always}
use Rattle.ucd_table.proofs.Stepped.{Stepped, of_ranges, zip_stepped}
use Rattle.ucd_table.proofs.StepsLemmas.{range_rows, rises_from}
use Rattle.unicode_width.proofs.KindLemmas.{kind_stepped}
use Rattle.unicode_width.specs.Kind.{kind}
use Rattle.unicode_width.specs.Width.{alone, char_width, of_kind}
use Rattle.unicode_width.specs.declared.kind.Kind.{Kind}
use Rattle.unicode_width.specs.declared.kind.Kind.TheVariants as kinds
use Rattle.std.proofs.lemmas.List.Folds.{list_all_at}
use Rattle.lines.specs.CharInfos.{columns_of}
use Rattle.lines.proofs.InfoLemmas.{printable_columns}
use Rattle.lines.specs.Clusters.{lies_in}
use Rattle.lines.specs.KnownWidths.{is_common, is_narrow, is_printable, lies_in_any, narrow_ranges}

abbrev has_one : Kind → Bool
has_one kinds.Narrow = true
has_one kinds.Ambiguous = true
has_one kinds.Alef = true
has_one other = false

-- whether a character is outside the ranges, or has a kind that passes the test
abbrev in_test : (Kind → Bool) → List Range → ℕ → Bool
in_test test ranges c = not (in_ranges ranges c) || test (kind c)

abbrev stepped_test : (test : Kind → Bool) (ranges : List Range) → rises_from 0 (range_rows ranges) ≡ true → Stepped (in_test test ranges)
stepped_test test ranges rise = zip_stepped (λ inside k. not inside || test k) (in_ranges ranges) kind (of_ranges ranges rise) kind_stepped

narrow_rise : rises_from 0 (range_rows narrow_ranges) ≡ true
unfolding rises_from
narrow_rise = refl

narrow_always : always (in_test has_one narrow_ranges) (stepped_test has_one narrow_ranges narrow_rise) ≡ true
unfolding tables kind_stepped
narrow_always = refl

within : (test : Kind → Bool) (ranges : List Range) (rise : rises_from 0 (range_rows ranges) ≡ true)
    → always (in_test test ranges) (stepped_test test ranges rise) ≡ true → (c : ℕ) → c ≤ 0x10FFFF → in_ranges ranges c ≡ true → test (kind c) ≡ true
within test ranges rise all c most inside =
    ap (λ b. not b || test (kind c)) (sym inside) ∙ Stepped-always (in_test test ranges) (stepped_test test ranges rise) all c most

one_column : (c : ℕ) (k : Kind) → has_one k ≡ true → 1 ≡ (of_kind false c k).0
one_column c kinds.Narrow is = refl
one_column c kinds.Ambiguous is = refl
one_column c kinds.Alef is = refl
one_column c k is = cc

columns_by_kind : (c : ℕ) → 0xA0 ≤ c → (of_kind false c (kind c)).0 ≡ columns_of c
unfolding alone char_width
columns_by_kind c least =
    let printed : Option ℕ = if nat_le 32 c then Some 1 else None in
    let others : Option ℕ = if nat_le 160 c then Some (alone false c).0 else None in
    let high : nat_lt c 127 ≡ false = grind (arith, nat_tests, least) in
    sym (ap (λ (o : Option ℕ). unwrap_or o 0) (cond-false (nat_lt c 127) printed others high ∙ cond-true (nat_le 160 c) (Some (alone false c).0) None (le-leb 160 c least)))

either : (a b : Bool) (P : Type 0) → (a ≡ true → P) → (b ≡ true → P) → (a || b) ≡ true → P
either true b P first second is = first refl
either false b P first second is = second is

same_ranges : (ranges : List Range) (c : ℕ) → in_ranges ranges c ≡ lies_in_any ranges c
unfolding in_ranges
same_ranges [] c = refl
same_ranges (range ∷ ranges) c = ap (λ b. lies_in range.0 range.1 c || b) (same_ranges ranges c)

-- the character is at or after the first of the range, and at or before the last
bounds : (first last c : ℕ) → lies_in first last c ≡ true → (first ≤ c) × (c ≤ last)
bounds first last c lies =
    let parts = and_parts (nat_le first c) (nat_le c last) lies in
    (grind (arith, nat_tests, parts.0), grind (arith, nat_tests, parts.1))

-- whether all ranges are between two bounds
abbrev are_between : ℕ → ℕ → List Range → Bool
are_between least most ranges = list_all (λ range. nat_le least range.0 && nat_le range.1 most) ranges

lies_between : (least most : ℕ) (ranges : List Range) (c : ℕ) → are_between least most ranges ≡ true → lies_in_any ranges c ≡ true → (least ≤ c) × (c ≤ most)
lies_between least most [] c all lies = cc
lies_between least most (range ∷ ranges) c all lies =
    let parts = and_parts (nat_le least range.0 && nat_le range.1 most) (are_between least most ranges) all in
    let outer = and_parts (nat_le least range.0) (nat_le range.1 most) parts.0 in
    let low : least ≤ range.0 = grind (arith, nat_tests, outer.0) in
    let high : range.1 ≤ most = grind (arith, nat_tests, outer.1) in
    either (lies_in range.0 range.1 c) (lies_in_any ranges c) ((least ≤ c) × (c ≤ most))
    (λ h. (omega (arith, bounds range.0 range.1 c h, low), omega (arith, bounds range.0 range.1 c h, high)))
    (λ h. lies_between least most ranges c parts.1 h) lies

pub narrow_columns : (c : ℕ) → is_narrow c ≡ true → 1 ≡ columns_of c
narrow_columns c lies =
    let at = lies_between 0xA0 0x10FFFF narrow_ranges c refl lies in
    one_column c (kind c) (within has_one narrow_ranges narrow_rise narrow_always c at.1 (same_ranges narrow_ranges c ∙ lies)) ∙ columns_by_kind c at.0

-- ---- characters tested together

-- Lamed has a separate rule in `unicode_width`, which assigns it one column.
abbrev is_single : Kind → Bool
is_single kinds.Single = true
is_single other = false

abbrev lamed_ranges : List Range
lamed_ranges = (0x5DC, 0x5DC) ∷ []

lamed_rise : rises_from 0 (range_rows lamed_ranges) ≡ true
unfolding rises_from
lamed_rise = refl

lamed_always : always (in_test is_single lamed_ranges) (stepped_test is_single lamed_ranges lamed_rise) ≡ true
unfolding tables kind_stepped
lamed_always = refl

single_column : (k : Kind) → is_single k ≡ true → 1 ≡ (of_kind false 0x5DC k).0
single_column kinds.Single is = refl
single_column k is = cc

lamed_lies : in_ranges lamed_ranges 0x5DC ≡ true
unfolding in_ranges
lamed_lies = refl

lamed_columns : 1 ≡ columns_of 0x5DC
lamed_columns =
    single_column (kind 0x5DC) (within is_single lamed_ranges lamed_rise lamed_always 0x5DC (omega arith) lamed_lies) ∙ columns_by_kind 0x5DC (omega arith)

in_range : (first last c : ℕ) → first ≤ c → c ≤ last → lies_in first last c ≡ true
in_range first last c low high = ap (λ b. b && nat_le c last) (le-leb first c low) ∙ le-leb c last high

or_left : (a b : Bool) → a ≡ true → (a || b) ≡ true
or_left true b is = refl
or_left false b is = absurd (both_ways false refl is)

or_right : (a b : Bool) → b ≡ true → (a || b) ≡ true
or_right true b is = refl
or_right false b is = is

range_among : (ranges : List (ℕ × ℕ)) (k first last c : ℕ) → get_or ranges k (0, 0) ≡ (first, last) → k < length ranges → lies_in first last c ≡ true
    → lies_in_any ranges c ≡ true
range_among [] k first last c at within lies = absurd (omega (arith, within))
range_among (range ∷ ranges) zero first last c at within lies =
    or_left (lies_in range.0 range.1 c) (lies_in_any ranges c) (ap (λ (r : ℕ × ℕ). lies_in r.0 r.1 c) at ∙ lies)
range_among (range ∷ ranges) (suc k) first last c at within lies =
    or_right (lies_in range.0 range.1 c) (lies_in_any ranges c) (range_among ranges k first last c at (omega (arith, within)) lies)

hebrew_columns : (c : ℕ) → lies_in 0x5D0 0x5EA c ≡ true → 1 ≡ columns_of c
hebrew_columns c lies =
    let at = bounds 0x5D0 0x5EA c lies in
    elim (cases_eq c 0x5DC) [
      | inl lamed ↦ lamed_columns ∙ ap columns_of (sym lamed)
      | inr other ↦ elim (cases_lt c 0x5DC) [
        | inl before ↦ narrow_columns c (range_among narrow_ranges 2 0x5D0 0x5DB c refl (omega arith) (in_range 0x5D0 0x5DB c at.0 (omega (arith, before))))
        | inr after ↦ narrow_columns c (range_among narrow_ranges 3 0x5DD 0x5EA c refl (omega arith) (in_range 0x5DD 0x5EA c (omega (arith, after, other)) at.1))
      ]
    ]

-- each character in one of the narrow ranges has width 1
range_columns : (k first last c : ℕ) → get_or narrow_ranges k (0, 0) ≡ (first, last) → k < 5 → lies_in first last c ≡ true → 1 ≡ columns_of c
range_columns k first last c at within lies = narrow_columns c (range_among narrow_ranges k first last c at within lies)

printable_column : (c : ℕ) → is_printable c ≡ true → 1 ≡ columns_of c
printable_column c lies = let at = bounds 0x20 0x7E c lies in printable_columns c at.0 (omega (arith, at.1))

common_column : (c : ℕ) → is_common c ≡ true → 1 ≡ columns_of c
common_column c common =
    let one : Type 0 = 1 ≡ columns_of c in
    let arabic : Bool = lies_in 0x620 0x64A c in
    let hebrew : Bool = lies_in 0x5D0 0x5EA c || arabic in
    let greek : Bool = lies_in 0x370 0x482 c || hebrew in
    either (is_printable c) (lies_in 0xAE 0x2FF c || greek) one (printable_column c)
    (either (lies_in 0xAE 0x2FF c) greek one (range_columns 0 0xAE 0x2FF c refl (omega arith))
    (either (lies_in 0x370 0x482 c) hebrew one (range_columns 1 0x370 0x482 c refl (omega arith))
    (either (lies_in 0x5D0 0x5EA c) arabic one (hebrew_columns c) (range_columns 4 0x620 0x64A c refl (omega arith)))))
    common

each_passes : (p : ℕ → Bool) (xs : List ℕ) (k d : ℕ) → list_all p xs ≡ true → k < length xs → p (get_or xs k d) ≡ true
each_passes p xs k d all within =
    elim (cases_Bool (p (get_or xs k d))) [
      | inl passed ↦ passed
      | inr failed ↦ absurd (both_ways (list_all p xs) (list_all_at p xs k d within failed) all)
    ]

pub all_printable : (text : List ℕ) (k d : ℕ) → list_all is_printable text ≡ true → k < length text → 1 ≡ columns_of (get_or text k d)
all_printable text k d all within = printable_column (get_or text k d) (each_passes is_printable text k d all within)

pub all_common : (text : List ℕ) (k d : ℕ) → list_all is_common text ≡ true → k < length text → 1 ≡ columns_of (get_or text k d)
all_common text k d all within = common_column (get_or text k d) (each_passes is_common text k d all within)
