-- Each line of a layout has a level and a position for each shown character, and its position maps are inverse.
use Rattle.std.proofs.Common.{◌≡◌, ℕ, suc, ◌+◌, ◌-◌, ◌<◌, ◌≤◌, ◌==◌, Bool, true, false, Option, List, [], ◌∷◌, length, get_or, map, drop, take, refl, sym, ap, ◌∙◌, arith}
use Rattle.std.specs.Prelude.{slice_range, All, None, option_map}
use Rattle.std.specs.List.{enumerate_from, position_or_len}
use Rattle.std.proofs.lemmas.List.{get_or-drop, get_or-map, get_or-take, length-drop, length-take, length-take-le}
use Rattle.std.proofs.lemmas.List.Elements.{All-cons, All-nil}
use Rattle.std.proofs.lemmas.List.FromFn.{length-map-range_with_len}
use Rattle.bidi.specs.Levels.{levels_of}
use Rattle.bidi.proofs.LengthLemmas.{base_level_of-low}
use Rattle.reorder.specs.Order.{ltov_of, vtol_of}
use Rattle.reorder.specs.Spaces.{line_levels}
use Rattle.reorder.proofs.InverseLemmas.{inverse_maps}
use Rattle.reorder.proofs.OrderLemmas.{length-vtol}
use Rattle.ucd.specs.Classes.{class_at}
use Rattle.ucd.specs.Tables.{class_of}
use Rattle.ucd.specs.declared.bidi_class.BidiClass.{BidiClass}
use Rattle.ucd.specs.declared.bidi_class.BidiClass.TheVariants.{ON}
use Rattle.lines.specs.CharInfos.{infos_of}
use Rattle.lines.specs.Filling.{line_starts_of}
use Rattle.lines.specs.ShownParts.{margin_of, shown, shown_len}
use Rattle.lines.specs.Layouts.{Rules, base_of, layout_of, lines_of, start_of, visuals}
use Rattle.lines.specs.Ordered.{IsOrdered}
use Rattle.lines.specs.Reordering.{classes_by, ends_by, ltov_by, reorders, vtol_by}
use Rattle.lines.specs.Tabs.{is_segment_separator, tab_width_in}
use Rattle.lines.specs.Visual.{Line, Visual, end_of, line_between, lines_from, visual_of}
use Rattle.lines.specs.declared.char_info.CharInfo.{CharInfo}
use Rattle.lines.proofs.AboveLemmas.{Above, above_at, above_drop, above_reset, above_take, levels_above, separator_reset}
use Rattle.lines.proofs.BeginningLemmas.{starts_from}
use Rattle.lines.proofs.VisualLemmas.{starts_in, Rise}

-- whether a visual line shows the characters of a text from a position on, in the order that their levels
-- determine
pub record IsPart (rules : Rules) (text : List ℕ) (line : Visual) : Type 0 where
  pub start : ℕ
  pub classes : List BidiClass
  pub tab_width : line.tab_width ≡ tab_width_in rules.tables rules.options
  pub unmeasured : rules.advances ≡ None → line.advances ≡ None
  pub size : length line.text ≡ length line.levels
  pub within : length line.levels ≤ line.len
  pub ends : List Bool
  pub end_at : (k : ℕ) → k < length line.levels → get_or ends k false ≡ get_or (ends_by rules.options text) (start + k) false
  pub vtol : line.vtol ≡ vtol_by rules.options classes ends line.levels
  pub ltov : line.ltov ≡ ltov_by rules.options classes ends line.levels
  pub inside : start + length line.levels ≤ length text
  pub low : line.base ≤ 1
  pub above : (k : ℕ) → k < length line.levels → line.base ≤ get_or line.levels k 0
  pub reset : (k : ℕ) → k < length line.levels → is_segment_separator (class_at classes k) ≡ true → get_or line.levels k 0 ≡ line.base
  pub chars : (k : ℕ) → k < length line.levels → get_or line.text k 0 ≡ get_or text (start + k) 0
  pub class : (k : ℕ) → k < length line.levels → class_at classes k ≡ class_of rules.tables (get_or line.text k 0)

length-ltov : (reordernsm : Bool) (classes : List BidiClass) (levels : List ℕ) → length (ltov_of reordernsm classes levels) ≡ length levels
unfolding ltov_of
length-ltov reordernsm classes levels =
    length-map-range_with_len (λ k. position_or_len (λ i. i == k) (vtol_of reordernsm classes levels)) 0 (length levels)

part_ordered : (rules : Rules) (text : List ℕ) (line : Visual) → IsPart rules text line → IsOrdered line
part_ordered rules text line is =
    let nsm : Bool = reorders rules.options in
    let classes : List BidiClass = classes_by rules.options is.classes is.ends line.levels in
    record {
      text = is.size;
      vtol = length-vtol nsm classes line.levels line.vtol is.vtol;
      ltov = ap length is.ltov ∙ length-ltov nsm classes line.levels;
      inverse = rw (is.vtol, is.ltov) (inverse_maps nsm classes line.levels);
      within = is.within;
    }

module _ (rules : Rules) (margin : Option ℕ) (base : ℕ) (text levels : List ℕ) (infos : List CharInfo) (lines : List Line)
    (base_low : base ≤ 1) (base_above : Above base levels) where
  abbrev line_of : ℕ → ℕ → Line
  line_of s e = line_between rules.tables rules.options margin base text levels infos s e

  one_line : (n s e : ℕ) → s ≤ e → e ≤ length text → end_of (length text) (map start_of lines) n ≡ e → IsPart rules text (visual_of base (tab_width_in rules.tables rules.options) rules.advances text lines n (line_of s e))
  one_line n s e forward within ends =
      let piece : List CharInfo = slice_range infos s e in
      let line : List ℕ = slice_range text s e in
      let classes : List BidiClass = map (class_of rules.tables) line in
      let found : List ℕ = take (length (shown margin piece)) (line_levels base classes (slice_range levels s e)) in
      let few : length found ≤ e - s =
      omega (
        arith,
        length-take (length (shown margin piece)) (line_levels base classes (slice_range levels s e)),
        length-take (shown_len margin piece) piece,
        length-take (e - s) (drop s infos),
      ) in
      let count : s + length found - s ≡ length found = omega arith in
      let char : (k : ℕ) → k < length found → get_or (slice_range text s (s + length found)) k 0 ≡ get_or (drop s text) k 0 =
      λ k h. get_or-take (s + length found - s) (drop s text) k 0 (omega (arith, h)) in
      record {
        start = s;
        classes = classes;
        tab_width = refl;
        unmeasured = λ none. ap (option_map (λ a. slice_range a s (s + length found))) none;
        ends = slice_range (ends_by rules.options text) s e;
        end_at = λ k h.
            get_or-take (e - s) (drop s (ends_by rules.options text)) k false (omega (arith, h, few))
            ∙ get_or-drop s (ends_by rules.options text) k false;
        size = length-take-le (s + length found - s) (drop s text) (omega (arith, few, within, forward, length-drop s text)) ∙ count;
        within = omega (arith, few, ends);
        vtol = refl;
        ltov = refl;
        inside = omega (arith, few, within, forward);
        low = base_low;
        above = λ k h. above_at base found k (above_take base (length (shown margin piece)) (line_levels base classes (slice_range levels s e))
            (above_reset base classes (slice_range levels s e) (above_take base (e - s) (drop s levels) (above_drop base s levels base_above)))) h;
        reset = λ k h separator.
            get_or-take (length (shown margin piece)) (line_levels base classes (slice_range levels s e)) k 0
            (omega (arith, h, length-take (length (shown margin piece)) (line_levels base classes (slice_range levels s e))))
            ∙ separator_reset base classes (slice_range levels s e) k
            (omega (arith, h, length-take (length (shown margin piece)) (line_levels base classes (slice_range levels s e)))) separator;
        chars = λ k h. char k h ∙ get_or-drop s text k 0;
        class = λ k h.
            get_or-map (class_of rules.tables) line k 0 ON
            (omega (arith, h, few, within, forward, length-drop s text, length-take-le (e - s) (drop s text) (omega (arith, within, forward, length-drop s text))))
            ∙ ap (class_of rules.tables) (get_or-take (e - s) (drop s text) k 0 (omega (arith, h, few)) ∙ sym (char k h));
      }

  abbrev some_lines : ℕ → List ℕ → List Visual
  some_lines k starts = map (λ nth. visual_of base (tab_width_in rules.tables rules.options) rules.advances text lines nth.0 nth.1) (enumerate_from k (lines_from rules.tables rules.options margin base text levels infos starts))

  each_line : (low k : ℕ) (starts : List ℕ) → Rise low (length text) starts
      → ((j : ℕ) → end_of (length text) (map start_of lines) (k + j) ≡ end_of (length text) starts j) → All (IsPart rules text) (some_lines k starts)
  each_line low k [] rise ends = All-nil (IsPart rules text)
  each_line low k (s ∷ []) rise ends =
      let same : k + 0 ≡ k = omega arith in
      let here : end_of (length text) (map start_of lines) k ≡ length text = ap (end_of (length text) (map start_of lines)) (sym same) ∙ ends 0 in
      All-cons (IsPart rules text) (visual_of base (tab_width_in rules.tables rules.options) rules.advances text lines k (line_of s (length text))) []
      (one_line k s (length text) (omega (arith, rise.1)) (omega arith) here) (All-nil (IsPart rules text))
  each_line low k (s ∷ e ∷ starts) rise ends =
      let same : k + 0 ≡ k = omega arith in
      let here : end_of (length text) (map start_of lines) k ≡ e = ap (end_of (length text) (map start_of lines)) (sym same) ∙ ends 0 in
      All-cons (IsPart rules text) (visual_of base (tab_width_in rules.tables rules.options) rules.advances text lines k (line_of s e)) (some_lines (k + 1) (e ∷ starts))
      (one_line k s e (omega (arith, rise.2.0)) (omega (arith, rise.2.1)) here)
      (each_line (suc s) (k + 1) (e ∷ starts) rise.2
      (λ j.
      let next : k + 1 + j ≡ k + suc j = omega arith in
      ap (end_of (length text) (map start_of lines)) next ∙ ends (suc j)))

-- each line of a layout shows a part of the text, in the order that its levels determine
pub are_parts : (rules : Rules) (width : ℕ) (text : List ℕ) → All (IsPart rules text) (visuals (layout_of rules width text))
are_parts rules width text =
    let infos : List CharInfo = infos_of rules.tables rules.options rules.advances text in
    let levels : List ℕ = levels_of rules.tables text rules.options.base in
    let starts : List ℕ = line_starts_of rules.options.nobreak width infos in
    let are : map start_of (lines_of rules width text) ≡ starts = starts_from rules.tables rules.options (margin_of rules.options width) (base_of rules text) text levels infos starts in
    each_line rules (margin_of rules.options width) (base_of rules text) text levels infos (lines_of rules width text) (base_level_of-low (map (class_of rules.tables) text) rules.options.base) (levels_above rules.tables text rules.options.base) 0 0 starts (starts_in rules width text)
    (λ j.
    let same : 0 + j ≡ j = omega arith in
    ap (end_of (length text) (map start_of (lines_of rules width text))) same ∙ ap (λ (ss : List ℕ). end_of (length text) ss j) are)

pub all_ordered : (rules : Rules) (width : ℕ) (text : List ℕ) → All IsOrdered (visuals (layout_of rules width text))
all_ordered rules width text = λ k d within. part_ordered rules text _ (are_parts rules width text k d within)
