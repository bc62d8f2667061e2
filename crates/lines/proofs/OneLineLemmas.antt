-- A paragraph without a mandatory break before its end is one line at every width that its shown part fits.
use Rattle.std.proofs.Common.{◌≡◌, ℕ, ◌+◌, ◌-◌, ◌<◌, ◌≤◌, Bool, true, false, Option, Some, None, List, [], ◌∷◌, length, map, sum, take}
use Rattle.std.proofs.Common.{refl, sym, ap, ap₂, ◌∙◌, subst, arith}
use Rattle.std.specs.List.{slice_get}
use Rattle.std.proofs.lemmas.Bool.{cond-false}
use Rattle.std.proofs.lemmas.List.{length-take-le}
use Rattle.breaks.specs.Marks.{marks_of}
use Rattle.breaks.specs.declared.mark.Mark.{Mark}
use Rattle.breaks.specs.declared.mark.Mark.TheVariants.{Must}
use Rattle.ucd.specs.declared.tables.Tables.{Tables}
use Rattle.lines.specs.CharInfos.{columns_of, infos, infos_of, size_in}
use Rattle.lines.specs.Clusters.{cluster_ends}
use Rattle.lines.specs.Extents.{shown_from}
use Rattle.lines.specs.Filling.{before_tail, columns, line_len, line_starts_of, must_end, place_at, text_len}
use Rattle.lines.specs.ShownParts.{margin_of}
use Rattle.lines.specs.Whole.{IsShownLen, IsWhole}
use Rattle.lines.specs.Widths.{widths_from, widths_of}
use Rattle.lines.specs.declared.char_info.CharInfo.{CharInfo}
use Rattle.lines.specs.declared.fill.Shown.{Shown}
use Rattle.lines.specs.declared.options.Options.{Options}
use Rattle.lines.proofs.ClusterLemmas.{length-cluster_ends}
use Rattle.lines.proofs.SkippedLemmas.{length-infos}
use Rattle.lines.proofs.StayLemmas.{all_left, end_whole, mark_at}
use Rattle.lines.proofs.TabLemmas.{no_tabs}
use Rattle.lines.proofs.WholeLemmas.{one_start, quiet_marks, shown_is, stop_last, tame_infos, whole_range}
use Rattle.lines.proofs.WidthLemmas.{same_columns}

-- without tab stops, the widths are the columns of the characters
plain_widths : (column : ℕ) (text : List ℕ) → widths_from 0 column text (map (size_in 0) text) ≡ map columns_of text
plain_widths column [] = refl
plain_widths column (c ∷ text) = ap (λ (ws : List ℕ). columns_of c ∷ ws) (plain_widths (column + columns_of c) text)

start_of_one : (nobreak : Bool) (width : ℕ) (rest : List CharInfo) → 0 < length rest → ((j : ℕ) → j + 1 < length rest → must_end rest j ≡ false)
    → (place_at rest (length rest - 1)).mark ≡ Must → columns (before_tail rest) ≤ width → line_starts_of nobreak width rest ≡ 0 ∷ []
unfolding line_starts_of
start_of_one true width rest some quiet ends fit = one_start width rest some quiet
start_of_one false width [] some quiet ends fit = absurd (omega (arith, some))
start_of_one false width (p ∷ rest) some quiet ends fit =
    let last : length (p ∷ rest) - 1 ≡ length rest = omega arith in
    let stops = stop_last (p ∷ rest) some quiet ∙ last in
    let found = end_whole width (p ∷ rest) (length rest) (omega arith) (subst (λ (k : ℕ). (place_at (p ∷ rest) k).mark ≡ Must) last ends) fit stops in
    ap (λ (ss : List ℕ). 0 ∷ ss) (all_left false width 1 (line_len false width (p ∷ rest) - 1) rest (omega (arith, found)))

-- a paragraph whose characters before the tail fit is one line, of which these characters are shown
module _ (t : Tables) (options : Options) (text : List ℕ) (len width : ℕ) (hidden : options.show_spaces ≡ false) (tabs : options.tab_width ≡ 0) (some : 0 < length text)
    (many : length (marks_of t options.whole_numbers text) ≡ length text)
    (ends : slice_get (marks_of t options.whole_numbers text) (length text - 1) ≡ Some Must)
    (whole : IsWhole t text) (shown : IsShownLen t text len) (fit : sum (map columns_of (take len text)) ≤ width) where
  abbrev pub n : ℕ
  n = length text

  abbrev pub marks : List Mark
  marks = marks_of t options.whole_numbers text

  abbrev pub all : List CharInfo
  all = infos t 0 text marks (cluster_ends text)

  untabbed : infos_of t options None text ≡ all
  unfolding infos_of
  untabbed = ap (λ (k : ℕ). infos t k text marks (cluster_ends text)) (no_tabs t options tabs)

  size : length all ≡ n
  size = length-infos t 0 text marks (cluster_ends text) (omega (arith, many)) (length-cluster_ends text)

  part_len : length (before_tail all) ≡ len
  part_len =
      ap (λ (ps : List CharInfo). length (before_tail ps)) (sym (whole_range all n (sym size)))
      ∙ sym (shown_is t text marks (cluster_ends text) len size shown)

  text_len_is : text_len all ≡ len
  text_len_is = sym (length-take-le (text_len all) all (omega arith)) ∙ part_len

  columns_are : columns (before_tail all) ≡ sum (map columns_of (take len text))
  unfolding widths_of
  columns_are =
      ap (λ (k : ℕ). columns (take k all)) text_len_is ∙ same_columns t 0 None text marks (cluster_ends text) 0 len many (length-cluster_ends text)
      ∙ ap (λ (ws : List ℕ). sum ws) (plain_widths 0 (take len text))

  pub one_start_of : line_starts_of options.nobreak width (infos_of t options None text) ≡ 0 ∷ []
  one_start_of =
      let last : length all - 1 ≡ n - 1 = omega (arith, size) in
      ap (line_starts_of options.nobreak width) untabbed
      ∙ start_of_one options.nobreak width all (omega (arith, size, some))
      (λ j below. tame_infos t 0 text marks (cluster_ends text) j (quiet_marks t options.whole_numbers text whole) below)
      (ap (λ (k : ℕ). (place_at all k).mark) last ∙ mark_at t 0 text marks (cluster_ends text) (n - 1) Must ends (omega (arith, some)) (length-cluster_ends text))
      (omega (arith, columns_are, fit))

  pub shown_of_one : shown_from (margin_of options width) n (infos_of t options None text) (0 ∷ []) ≡ record { len = len; columns = sum (map columns_of (take len text)) } ∷ []
  shown_of_one =
      ap₂ (λ (margin : Option ℕ) (is : List CharInfo). shown_from margin n is (0 ∷ [])) (cond-false options.show_spaces (Some width) None hidden) untabbed
      ∙ ap (λ (ps : List CharInfo). let part : Shown = record { len = length (before_tail ps); columns = columns (before_tail ps) } in part ∷ []) (whole_range all n (sym size))
      ∙ ap₂ (λ (a b : ℕ). let part : Shown = record { len = a; columns = b } in part ∷ []) part_len columns_are
