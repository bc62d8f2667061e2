-- Characters that no grapheme cluster rule joins to one another. In a text of only such characters, a cluster
-- ends after each one.
use Rattle.std.proofs.Common.{if◌then◌else◌, ◌≡◌, ℕ, suc, ◌≤◌, nat_le, Bool, true, false, ◌&&◌, ◌||◌, List, []}
use Rattle.std.proofs.Common.{◌∷◌, length, map, replicate, refl, sym, ap, ap₂, ◌∙◌, arith}
use Rattle.std.specs.List.{list_all}
use Rattle.std.proofs.lemmas.Simd.{splat_is_map}
use Rattle.std.proofs.lemmas.Bool.{and_parts}
use Rattle.std.proofs.lemmas.Bool.Decides.{nat_tests}
use Rattle.ucd_table.specs.Rows.{Row, value_in}
use Rattle.ucd_breaks.specs.GraphemeClusterBreak.{grapheme_cluster_break}
use Rattle.ucd_breaks.specs.GraphemeClusterBreakRows.{grapheme_cluster_break_rows}
use Rattle.ucd_breaks.specs.declared.GraphemeClusterBreak.{GraphemeClusterBreak}
use Rattle.ucd_breaks.specs.declared.GraphemeClusterBreak.TheVariants.{Control, Lf, Other}
use Rattle.ucd_derived.specs.IndicConjunctBreak.{indic_conjunct_break}
use Rattle.ucd_derived.specs.declared.IndicConjunctBreak.{IndicConjunctBreak}
use Rattle.ucd_derived.specs.declared.IndicConjunctBreak.TheVariants as InCb
use Rattle.ucd_derived.specs.IndicConjunctBreakRows.{indic_conjunct_break_rows}
use Rattle.unicode_segmentation.specs.Grapheme.{is_grapheme_break}
use Rattle.lines.proofs.SplitLemmas.{breaks_at}
use Rattle.lines.specs.Clusters.{can_split, cluster_ends, ends_after, is_alone, lies_in, may_end, may_start, no_conjunct}

abbrev stands_apart : GraphemeClusterBreak → Bool
stands_apart Control = true
stands_apart Lf = true
stands_apart Other = true
stands_apart _ = false

-- whether a character with this property value is in no conjunct
abbrev is_unjoined : IndicConjunctBreak → Bool
is_unjoined InCb.None = true
is_unjoined _ = false

abbrev is_apart : ℕ → Bool
is_apart c = stands_apart (grapheme_cluster_break c) && is_unjoined (indic_conjunct_break c)

-- whether the values of all rows of a table that overlap a range of code points pass a test
abbrev rows_pass : {V : Type 0} → (V → Bool) → ℕ → ℕ → List (Row V) → Bool
rows_pass test first last [] = true
rows_pass test first last (r ∷ rows) = (nat_le (suc r.1) first || (nat_le (suc last) r.0 || test r.2)) && rows_pass test first last rows

abbrev are_apart : ℕ → ℕ → Bool
are_apart first last = rows_pass stands_apart first last grapheme_cluster_break_rows && rows_pass is_unjoined first last indic_conjunct_break_rows

is_within : (a b : ℕ) → nat_le a b ≡ true → a ≤ b
is_within a b h = grind (arith, nat_tests)

either : (a b : Bool) (P : Type 0) → (a ≡ true → P) → (b ≡ true → P) → (a || b) ≡ true → P
either true b P first second is = first refl
either false b P first second is = second is

row_passes : {V : Type 0} (test : V → Bool) (first last c from to : ℕ) (v other : V) (b : Bool) → (nat_le from c && nat_le c to) ≡ b
    → first ≤ c → c ≤ last → (nat_le (suc to) first || (nat_le (suc last) from || test v)) ≡ true → test other ≡ true
    → test (if b then v else other) ≡ true
row_passes test first last c from to v other true is low high row rest =
    let parts = and_parts (nat_le from c) (nat_le c to) is in
    let after : from ≤ c = is_within from c parts.0 in
    let before : c ≤ to = is_within c to parts.1 in
    either _ _ (test v ≡ true) (λ (h : nat_le (suc to) first ≡ true). absurd (omega (arith, is_within (suc to) first h, before, low)))
    (either _ _ (test v ≡ true) (λ (h : nat_le (suc last) from ≡ true). absurd (omega (arith, is_within (suc last) from h, after, high))) (λ h. h)) row
row_passes test first last c from to v other false is low high row rest = rest

-- if the default and all rows that overlap a range pass, the values of all code points in the range pass
value_passes : {V : Type 0} (test : V → Bool) (default : V) (rows : List (Row V)) (first last c : ℕ) → test default ≡ true
    → rows_pass test first last rows ≡ true → first ≤ c → c ≤ last → test (value_in default rows c) ≡ true
unfolding value_in
value_passes test default [] first last c one all low high = one
value_passes test default (r ∷ rows) first last c one all low high =
    let parts = and_parts _ (rows_pass test first last rows) all in
    row_passes test first last c r.0 r.1 r.2 (value_in default rows c) (nat_le r.0 c && nat_le c r.1) refl low high parts.0
    (value_passes test default rows first last c one parts.1 low high)

apart_in : (first last c : ℕ) → are_apart first last ≡ true → lies_in first last c ≡ true → is_apart c ≡ true
unfolding grapheme_cluster_break indic_conjunct_break
apart_in first last c all lies =
    let parts = and_parts (nat_le first c) (nat_le c last) lies in
    let low = is_within first c parts.0 in
    let high = is_within c last parts.1 in
    let tables = and_parts (rows_pass stands_apart first last grapheme_cluster_break_rows) _ all in
    ap₂ ◌&&◌ (value_passes stands_apart Other grapheme_cluster_break_rows first last c refl tables.0 low high)
    (value_passes is_unjoined InCb.None indic_conjunct_break_rows first last c refl tables.1 low high)

line_feed : are_apart 9 10 ≡ true
unfolding grapheme_cluster_break_rows indic_conjunct_break_rows
line_feed = refl

latin : are_apart 32 767 ≡ true
unfolding grapheme_cluster_break_rows indic_conjunct_break_rows
latin = refl

greek : are_apart 880 1154 ≡ true
unfolding grapheme_cluster_break_rows indic_conjunct_break_rows
greek = refl

cyrillic : are_apart 1162 1424 ≡ true
unfolding grapheme_cluster_break_rows indic_conjunct_break_rows
cyrillic = refl

hebrew : are_apart 1488 1514 ≡ true
unfolding grapheme_cluster_break_rows indic_conjunct_break_rows
hebrew = refl

arabic : are_apart 1569 1610 ≡ true
unfolding grapheme_cluster_break_rows indic_conjunct_break_rows
arabic = refl

extended_greek : are_apart 7680 8203 ≡ true
unfolding grapheme_cluster_break_rows indic_conjunct_break_rows
extended_greek = refl

punctuation : are_apart 8206 8399 ≡ true
unfolding grapheme_cluster_break_rows indic_conjunct_break_rows
punctuation = refl

wide_punctuation : are_apart 12288 12329 ≡ true
unfolding grapheme_cluster_break_rows indic_conjunct_break_rows
wide_punctuation = refl

hiragana : are_apart 12336 12440 ≡ true
unfolding grapheme_cluster_break_rows indic_conjunct_break_rows
hiragana = refl

ideographs : are_apart 12443 42606 ≡ true
unfolding grapheme_cluster_break_rows indic_conjunct_break_rows
ideographs = refl

wide_forms : are_apart 65280 65437 ≡ true
unfolding grapheme_cluster_break_rows indic_conjunct_break_rows
wide_forms = refl

more_ideographs : are_apart 131072 196607 ≡ true
unfolding grapheme_cluster_break_rows indic_conjunct_break_rows
more_ideographs = refl

alone_is_apart : (c : ℕ) → is_alone c ≡ true → is_apart c ≡ true
alone_is_apart c =
    either _ _ (is_apart c ≡ true) (apart_in 32 767 c latin)
    (either _ _ (is_apart c ≡ true) (apart_in 9 10 c line_feed)
    (either _ _ (is_apart c ≡ true) (apart_in 880 1154 c greek)
    (either _ _ (is_apart c ≡ true) (apart_in 1162 1424 c cyrillic)
    (either _ _ (is_apart c ≡ true) (apart_in 1488 1514 c hebrew)
    (either _ _ (is_apart c ≡ true) (apart_in 1569 1610 c arabic)
    (either _ _ (is_apart c ≡ true) (apart_in 7680 8203 c extended_greek)
    (either _ _ (is_apart c ≡ true) (apart_in 8206 8399 c punctuation)
    (either _ _ (is_apart c ≡ true) (apart_in 12288 12329 c wide_punctuation)
    (either _ _ (is_apart c ≡ true) (apart_in 12336 12440 c hiragana)
    (either _ _ (is_apart c ≡ true) (apart_in 12443 42606 c ideographs)
    (either _ _ (is_apart c ≡ true) (apart_in 65280 65437 c wide_forms)
    (apart_in 131072 196607 c more_ideographs))))))))))))

-- between two characters that satisfy `is_apart`, there is a split point (`may_end`, `may_start`,
-- `no_conjunct`)
ends_one : (g : GraphemeClusterBreak) → stands_apart g ≡ true → may_end g ≡ true
ends_one Control one = refl
ends_one Lf one = refl
ends_one Other one = refl
ends_one g one = cc

starts_one : (g : GraphemeClusterBreak) → stands_apart g ≡ true → may_start g ≡ true
starts_one Control one = refl
starts_one Lf one = refl
starts_one Other one = refl
starts_one g one = cc

no_conjunct_of : (v u : IndicConjunctBreak) → is_unjoined v ≡ true → is_unjoined u ≡ true → no_conjunct v u ≡ true
no_conjunct_of InCb.None InCb.None one other = refl
no_conjunct_of v InCb.None one other = cc
no_conjunct_of v u one other = cc

split_apart : (c d : ℕ) → is_apart c ≡ true → is_apart d ≡ true → can_split c d ≡ true
unfolding can_split
split_apart c d one other =
    let c_parts = and_parts (stands_apart (grapheme_cluster_break c)) _ one in
    let d_parts = and_parts (stands_apart (grapheme_cluster_break d)) _ other in
    ap₂ ◌&&◌ (ap₂ ◌&&◌ (ends_one _ c_parts.0) (starts_one _ d_parts.0)) (no_conjunct_of _ _ c_parts.1 d_parts.1)

ends_apart : (before text : List ℕ) → list_all is_alone text ≡ true → ends_after (is_grapheme_break true) before text ≡ map (λ _. true) text
ends_apart before [] all = refl
ends_apart before (c ∷ []) all = unfold is_grapheme_break in refl
ends_apart before (c ∷ d ∷ text) all =
    let parts = and_parts (is_alone c) (list_all is_alone (d ∷ text)) all in
    let next = and_parts (is_alone d) (list_all is_alone text) parts.1 in
    rw (breaks_at c d before text (split_apart c d (alone_is_apart c parts.0) (alone_is_apart d next.0))) (ap (λ ends. true ∷ ends) (ends_apart (c ∷ before) (d ∷ text) parts.1))

-- if all characters of a text satisfy `is_alone`, a cluster ends after each character
pub ends_alone : (text : List ℕ) → list_all is_alone text ≡ true → replicate (length text) true ≡ cluster_ends text
unfolding cluster_ends
ends_alone text all = splat_is_map text (length text) true refl ∙ sym (ends_apart [] text all)
