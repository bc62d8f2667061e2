-- The columns of a laid-out line are the total width of its shown characters, and so of its runs.
use Rattle.std.proofs.Common.{◌≡◌, ℕ, suc, ◌+◌, ◌-◌, ◌≤◌, Bool, Option, List, [], ◌∷◌, length, map, drop, take, sym, ap, ◌∙◌, arith}
use Rattle.std.specs.Prelude.{option_map, slice_range, sum, sum_by, All}
use Rattle.std.specs.List.{enumerate_from}
use Rattle.std.proofs.lemmas.List.{length-drop, length-map, length-take-le, take-take}
use Rattle.std.proofs.lemmas.List.Elements.{All-cons, All-nil, All-head, All-tail}
use Rattle.bidi.proofs.LengthLemmas.{length-levels_of}
use Rattle.bidi.specs.Levels.{levels_of}
use Rattle.breaks.specs.Marks.{marks_of}
use Rattle.breaks.specs.declared.mark.Mark.{Mark}
use Rattle.breaks.proofs.WalkLemmas.{length-marks}
use Rattle.reorder.specs.Runs.{runs_of}
use Rattle.reorder.specs.Spaces.{line_levels}
use Rattle.reorder.proofs.WholeRunLemmas.{are_runs}
use Rattle.ucd.specs.Tables.{class_of}
use Rattle.ucd.specs.declared.bidi_class.BidiClass.{BidiClass}
use Rattle.ucd.specs.declared.tables.Tables.{Tables}
use Rattle.lines.specs.CharInfos.{infos, infos_of, sized}
use Rattle.lines.specs.Clusters.{cluster_ends}
use Rattle.lines.specs.Columns.{run_columns}
use Rattle.lines.specs.Filling.{columns, line_starts_of}
use Rattle.lines.specs.ShownParts.{margin_of, shown, shown_len}
use Rattle.lines.specs.Layouts.{Rules, base_of, layout_of, lines_of, visuals}
use Rattle.lines.specs.Tabs.{tab_width_in}
use Rattle.lines.specs.Visual.{Line, Visual, line_between, lines_from, visual_of}
use Rattle.lines.specs.Widths.{widths_of}
use Rattle.lines.specs.declared.char_info.CharInfo.{CharInfo}
use Rattle.lines.specs.declared.options.Options.{Options}
use Rattle.lines.proofs.ClusterLemmas.{length-cluster_ends}
use Rattle.lines.proofs.RunColumnLemmas.{runs_add_up}
use Rattle.lines.proofs.ShowLemmas.{length_range}
use Rattle.lines.proofs.ShownPartLemmas.{shown_len-within}
use Rattle.lines.proofs.VisualLemmas.{starts_in, Rise}
use Rattle.lines.proofs.SkippedLemmas.{length-infos}
use Rattle.lines.proofs.WidthLemmas.{length-sized, part_of, same_columns}
use Rattle.lines.proofs.WrittenLemmas.{length-line_levels}

-- the advances of the shown part of a line
abbrev shown_advances : Option (List ℕ) → Line → Option (List ℕ)
shown_advances advances line = option_map (λ a. slice_range a line.start (line.start + length line.levels)) advances

-- whether the line has a level for each shown character, and its columns are the total width of these
-- characters
pub record HasColumns (n : ℕ) (advances : Option (List ℕ)) (text : List ℕ) (line : Line) : Type 0 where
  size : length line.levels ≡ length (slice_range text line.start (line.start + length line.levels))
  total : sum (widths_of n (shown_advances advances line) (slice_range text line.start (line.start + length line.levels))) ≡ line.columns

module _ (t : Tables) (options : Options) (margin : Option ℕ) (base tab_width : ℕ) (advances : Option (List ℕ)) (text levels : List ℕ) (marks : List Mark) (clusters : List Bool)
    (levels_size : length levels ≡ length text) (marks_size : length marks ≡ length text) (clusters_size : length clusters ≡ length text) where
  abbrev all : List CharInfo
  all = sized advances (infos t tab_width text marks clusters)

  all_size : length all ≡ length text
  all_size = length-sized advances (infos t tab_width text marks clusters) ∙ length-infos t tab_width text marks clusters (omega (arith, marks_size)) clusters_size

  -- the line from s to e has a level for each shown character
  pub levels_size_is : (s e : ℕ) → s ≤ e → e ≤ length text
      → length (line_between t options margin base text levels all s e).levels ≡ shown_len margin (slice_range all s e)
  levels_size_is s e forward within =
      let piece : List CharInfo = slice_range all s e in
      let q : ℕ = shown_len margin piece in
      let q_within : q ≤ length piece = shown_len-within margin piece in
      let piece_size : length piece ≡ e - s = length_range all s e forward (omega (arith, all_size, within)) in
      let part_size : length (shown margin piece) ≡ q = length-take-le q piece q_within in
      let line : List ℕ = slice_range text s e in
      let classes : List BidiClass = map (class_of t) line in
      let old : List ℕ = slice_range levels s e in
      let old_size : length old ≡ e - s = length_range levels s e forward (omega (arith, levels_size, within)) in
      let whole : length old ≡ length classes = old_size ∙ sym (length-map line (class_of t) ∙ length_range text s e forward within) in
      length-take-le (length (shown margin piece)) (line_levels base classes old)
      (omega (arith, length-line_levels base classes old whole, old_size, part_size, piece_size, q_within))
      ∙ part_size

  between : (s e : ℕ) → s ≤ e → e ≤ length text → HasColumns tab_width advances text (line_between t options margin base text levels all s e)
  between s e forward within =
      let piece : List CharInfo = slice_range all s e in
      let q : ℕ = shown_len margin piece in
      let piece_size : length piece ≡ e - s = length_range all s e forward (omega (arith, all_size, within)) in
      let size : length (line_between t options margin base text levels all s e).levels ≡ q = levels_size_is s e forward within in
      let n : s + length (line_between t options margin base text levels all s e).levels - s ≡ q = omega (arith, size) in
      let most : q ≤ e - s = omega (arith, piece_size, shown_len-within margin piece) in
      record {
        size = size ∙ sym (ap (λ k. length (take k (drop s text))) n
            ∙ length-take-le q (drop s text) (omega (arith, length-drop s text, most, within, forward)));
        total = ap (λ k. sum (widths_of tab_width (part_of s k advances) (take k (drop s text)))) n
            ∙ sym (ap columns (take-take q (e - s) (drop s all) most) ∙ same_columns t tab_width advances text marks clusters s q marks_size clusters_size);
      }

  each_line : (low : ℕ) (starts : List ℕ) → Rise low (length text) starts → All (HasColumns tab_width advances text) (lines_from t options margin base text levels all starts)
  each_line low [] rise = All-nil (HasColumns tab_width advances text)
  each_line low (s ∷ []) rise =
      All-cons (HasColumns tab_width advances text) (line_between t options margin base text levels all s (length text)) [] (between s (length text) (omega (arith, rise.1)) (omega arith))
      (All-nil (HasColumns tab_width advances text))
  each_line low (s ∷ e ∷ starts) rise =
      All-cons (HasColumns tab_width advances text) (line_between t options margin base text levels all s e) (lines_from t options margin base text levels all (e ∷ starts))
      (between s e (omega (arith, rise.2.0)) (omega (arith, rise.2.1))) (each_line (suc s) (e ∷ starts) rise.2)

-- whether the columns of a visual line's runs add up to the columns of the line
abbrev pub AddUp : Visual → Type 0
AddUp line = sum_by (run_columns line) (runs_of line.levels) ≡ line.columns

module _ (base tab_width : ℕ) (advances : Option (List ℕ)) (text : List ℕ) (lines : List Line) where
  adds_up : (n : ℕ) (line : Line) → HasColumns tab_width advances text line → AddUp (visual_of base tab_width advances text lines n line)
  adds_up n line has =
      runs_add_up (visual_of base tab_width advances text lines n line) has.size (runs_of line.levels) (are_runs line.levels) ∙ has.total

  all_add_up : (k : ℕ) (some : List Line) → All (HasColumns tab_width advances text) some
      → All AddUp (map (λ nth. visual_of base tab_width advances text lines nth.0 nth.1) (enumerate_from k some))
  all_add_up k [] has = All-nil AddUp
  all_add_up k (line ∷ some) has =
      All-cons AddUp (visual_of base tab_width advances text lines k line) (map (λ nth. visual_of base tab_width advances text lines nth.0 nth.1) (enumerate_from (k + 1) some))
      (adds_up k line (All-head (HasColumns tab_width advances text) line some has)) (all_add_up (k + 1) some (All-tail (HasColumns tab_width advances text) line some has))

pub layout_adds_up : (rules : Rules) (width : ℕ) (text : List ℕ) → All AddUp (visuals (layout_of rules width text))
unfolding infos_of
layout_adds_up rules width text =
    let marks : List Mark = marks_of rules.tables rules.options.whole_numbers text in
    all_add_up (base_of rules text) (tab_width_in rules.tables rules.options) rules.advances text (lines_of rules width text) 0 (lines_of rules width text)
    (each_line rules.tables rules.options (margin_of rules.options width) (base_of rules text) (tab_width_in rules.tables rules.options) rules.advances text (levels_of rules.tables text rules.options.base) marks (cluster_ends text)
    (length-levels_of rules.tables text rules.options.base) (length-marks rules.tables rules.options.whole_numbers text) (length-cluster_ends text)
    0 (line_starts_of rules.options.nobreak width (infos_of rules.tables rules.options rules.advances text)) (starts_in rules width text))
