-- Which characters are tabs, and that a tab is a cluster.
use Rattle.std.proofs.Common.{◌≡◌, ◌∙◌, ℕ, zero, suc, ◌<◌, ◌==◌, nat_lt, true, false, List, [], ◌∷◌, length, get_or, Some, refl, sym, ap, inl, inr, arith}
use Rattle.std.proofs.lemmas.Bool.{and_parts, and_right, cases_Bool, cond-false, eqb-true, ltb-true}
use Rattle.ucd.specs.Classes.{is_nonspacing_mark}
use Rattle.ucd.specs.Tables.{class_of}
use Rattle.ucd.specs.declared.bidi_class.BidiClass.{BidiClass}
use Rattle.ucd.specs.declared.bidi_class.BidiClass.TheVariants.{NSM}
use Rattle.ucd.specs.declared.tables.Tables.{Tables}
use Rattle.ucd_breaks.specs.GraphemeClusterBreak.{grapheme_cluster_break}
use Rattle.ucd_breaks.specs.GraphemeClusterBreakRows.{grapheme_cluster_break_rows}
use Rattle.ucd_breaks.specs.declared.GraphemeClusterBreak.{GraphemeClusterBreak}
use Rattle.ucd_breaks.specs.declared.GraphemeClusterBreak.TheVariants.{Control, Cr, Lf}
use Rattle.ucd_table.specs.Rows.{value_in}
use Rattle.unicode_segmentation.specs.Grapheme.{break_by_pair, is_grapheme_break}
use Rattle.lines.specs.Clusters.{cluster_ends, ends_after, ends_at}
use Rattle.lines.specs.Tabs.{is_segment_separator, is_tab, tab_width_in}
use Rattle.lines.specs.declared.options.Options.{Options}

nonspacing_mark_no_separator : (class : BidiClass) → is_nonspacing_mark class ≡ true → is_segment_separator class ≡ false
nonspacing_mark_no_separator NSM mark = refl
nonspacing_mark_no_separator class mark = cc

-- a nonspacing mark is not a tab
pub nonspacing_mark_no_tab : (t : Tables) (options : Options) (c : ℕ) → is_nonspacing_mark (class_of t c) ≡ true → is_tab (tab_width_in t options) c ≡ false
nonspacing_mark_no_tab t options c mark =
    elim (cases_Bool (c == 9)) [
      | inl tab ↦
          let nine : is_nonspacing_mark (class_of t 9) ≡ true = ap (λ x. is_nonspacing_mark (class_of t x)) (sym (eqb-true c 9 tab)) ∙ mark in
          let none : tab_width_in t options ≡ 0 = cond-false (is_segment_separator (class_of t 9)) options.tab_width 0 (nonspacing_mark_no_separator (class_of t 9) nine) in
          ap (λ n. is_tab n c) none
      | inr other ↦ and_right (nat_lt 0 (tab_width_in t options)) (c == 9) other
    ]

-- a tab has bidi class S
pub tab_class : (t : Tables) (options : Options) (c : ℕ) → is_tab (tab_width_in t options) c ≡ true → is_segment_separator (class_of t c) ≡ true
tab_class t options c tab =
    let parts = and_parts (nat_lt 0 (tab_width_in t options)) (c == 9) tab in
    let is : c ≡ 9 = eqb-true c 9 parts.1 in
    elim (cases_Bool (is_segment_separator (class_of t 9))) [
      | inl separates ↦ ap (λ x. is_segment_separator (class_of t x)) is ∙ separates
      | inr other ↦
          let none : tab_width_in t options ≡ 0 = cond-false (is_segment_separator (class_of t 9)) options.tab_width 0 other in
          absurd (omega (arith, none, ltb-true 0 (tab_width_in t options) parts.0))
    ]

-- without tab stops, there are no tabs
pub no_tabs : (t : Tables) (options : Options) → options.tab_width ≡ 0 → tab_width_in t options ≡ 0
no_tabs t options off =
    elim (cases_Bool (is_segment_separator (class_of t 9))) [
      | inl is ↦ rw is off
      | inr other ↦ rw other refl
    ]

-- ---- a cluster ends before and after a tab

tab_control : grapheme_cluster_break 9 ≡ Control
unfolding grapheme_cluster_break value_in grapheme_cluster_break_rows
tab_control = refl

-- there is a break before a control character (GB5)
starts_control : (g : GraphemeClusterBreak) → break_by_pair true g Control ≡ Some true
starts_control Control = refl
starts_control Cr = refl
starts_control Lf = refl
starts_control g = refl

-- there is a break after a tab (GB4)
breaks_after : (before text : List ℕ) → is_grapheme_break true (9 ∷ before) text ≡ true
unfolding is_grapheme_break
breaks_after before [] = refl
breaks_after before (next ∷ text) = rw tab_control refl

breaks_before : (c : ℕ) (before text : List ℕ) → is_grapheme_break true (c ∷ before) (9 ∷ text) ≡ true
unfolding is_grapheme_break
breaks_before c before text = rw (tab_control, starts_control (grapheme_cluster_break c)) refl

after_from : (before text : List ℕ) (k : ℕ) → k < length text → get_or text k 0 ≡ 9 → ends_at (ends_after (is_grapheme_break true) before text) k ≡ true
after_from before [] k within tab = absurd (omega (arith, within))
after_from before (c ∷ text) zero within tab = ap (λ d. is_grapheme_break true (d ∷ before) text) tab ∙ breaks_after before text
after_from before (c ∷ text) (suc k) within tab = after_from (c ∷ before) text k (omega (arith, within)) tab

before_from : (before text : List ℕ) (k : ℕ) → suc k < length text → get_or text (suc k) 0 ≡ 9 → ends_at (ends_after (is_grapheme_break true) before text) k ≡ true
before_from before [] k within tab = absurd (omega (arith, within))
before_from before (c ∷ []) k within tab = absurd (omega (arith, within))
before_from before (c ∷ d ∷ text) zero within tab = ap (λ e. is_grapheme_break true (c ∷ before) (e ∷ text)) tab ∙ breaks_before c before text
before_from before (c ∷ d ∷ text) (suc k) within tab = before_from (c ∷ before) (d ∷ text) k (omega (arith, within)) tab

pub ends_after_tab : (text : List ℕ) (k : ℕ) → k < length text → get_or text k 0 ≡ 9 → ends_at (cluster_ends text) k ≡ true
unfolding cluster_ends
ends_after_tab text k within tab = after_from [] text k within tab

pub ends_before_tab : (text : List ℕ) (k : ℕ) → suc k < length text → get_or text (suc k) 0 ≡ 9 → ends_at (cluster_ends text) k ≡ true
unfolding cluster_ends
ends_before_tab text k within tab = before_from [] text k within tab
