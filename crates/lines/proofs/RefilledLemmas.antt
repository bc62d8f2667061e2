-- If the window of an edit meets the old lines, the lines of the new paragraph are the old ones before the window, those
-- of the window, and the old ones after it.
use Rattle.std.proofs.Common.{◌≡◌, ◌∙◌, ℕ, zero, suc, ◌+◌, ◌-◌, ◌<◌, ◌≤◌, Bool, false, true, List, [], ◌∷◌, ◌++◌, length, map, take, drop, get_or, None, Option, Some, if◌then◌else◌, inl, inr, refl, sym, ap, ap₂, subst, arith}
use Rattle.std.specs.Prelude.{option_map, slice_get, slice_index, slice_range}
use Rattle.std.proofs.lemmas.Bool.{cases_eq, cases_lt}
use Rattle.std.proofs.lemmas.List.{append-nil, drop_all, drop-take, get_or-drop, get_or-take, length-drop, length-map, length-take-le, take-map, take-take, take_all}
use Rattle.std.proofs.lemmas.List.Elements.{All-cons, All-nil}
use Rattle.std.proofs.lemmas.Option.{get_or_from_slice_get, none-some, same_Some, slice_get-map, slice_get_cases, slice_get_within}
use Rattle.std.specs.List.{All}
use Rattle.ucd.specs.declared.tables.Tables.{Tables}
use Rattle.breaks.specs.Marks.{marks_of}
use Rattle.breaks.specs.declared.mark.Mark.{Mark}
use Rattle.breaks.specs.declared.mark.Mark.TheVariants.{Never}
use Rattle.lines.specs.Bare.{bare, AreAlike}
use Rattle.lines.specs.CharInfos.{infos_of}
use Rattle.lines.specs.Filling.{is_break, line_starts_of, may_end, nothing, place_at}
use Rattle.lines.specs.Kept.{AreStarts}
use Rattle.lines.specs.Layouts.{AreWithin, layout_of, lines_of, start_of, visuals, with_advances, Layout, Rules}
use Rattle.lines.specs.Matching.{ShareEnds}
use Rattle.lines.specs.Refilling.{StaysFrom}
use Rattle.lines.specs.Reordering.{ends_by}
use Rattle.lines.specs.ShownParts.{margin_of}
use Rattle.lines.specs.Splicing.{lines_at, lines_to, moved, moved_start, AgreeAfter, AgreeBefore, Analysed, Rise}
use Rattle.lines.specs.Visual.{Line, lines_from}
use Rattle.lines.specs.Clusters.{cluster_ends}
use Rattle.lines.specs.Paragraphs.{rules_in}
use Rattle.lines.specs.Spliced.{spliced_lines}
use Rattle.lines.specs.Tabs.{tab_width_in}
use Rattle.lines.specs.Windows.{old_starts, window_infos, window_lines, IsFilled, IsFirstLine, IsRefillable, IsShared, IsWindow, MeetsEnd, MeetsLine, StaysOutside}
use Rattle.lines.specs.declared.char_info.CharInfo.{CharInfo}
use Rattle.lines.specs.declared.options.Options.{Options}
use Rattle.lines.specs.declared.same_kind.Replacement.{Replacement}
use Rattle.lines.specs.declared.splicing.Gap.{Gap}
use Rattle.lines.specs.declared.windows.Edited.{Edited}
use Rattle.lines.specs.declared.windows.Meeting.{Meeting}
use Rattle.lines.specs.declared.windows.Window.{Window}
use Rattle.lines.proofs.BareLemmas.{same_lines}
use Rattle.lines.proofs.BeginningLemmas.{starts_from}
use Rattle.lines.proofs.ClusterLemmas.{length-cluster_ends}
use Rattle.lines.proofs.EditedLemmas.{agree_after, agree_before, mark_at}
use Rattle.lines.proofs.RefillingLemmas.{starts_splice}
use Rattle.lines.proofs.SharedLemmas.{all_shared, fronts_shared, AreSpliced}
use Rattle.lines.proofs.SkippedLemmas.{length-infos}
use Rattle.lines.proofs.SplicingLemmas.{around, drop_lines, dropped, from_is, lines_move, lines_splice, lines_stay, rise_after, rise_low, take_lines, to_append}
use Rattle.lines.proofs.VisualLemmas.{levels_most, starts_rise, Rise as Below}

-- ---- rising numbers

rise_front : (low : ℕ) (xs : List ℕ) (e : ℕ) (back : List ℕ) → Rise low (xs ++ e ∷ back) → Rise low xs
rise_front low [] e back rise = tt
rise_front low (x ∷ xs) e back rise = (rise.0, rise_front (suc x) xs e back rise.1)

rise_cut : (low : ℕ) (xs : List ℕ) (e : ℕ) (back : List ℕ) → Rise low (xs ++ e ∷ back) → Rise low (xs ++ e ∷ [])
rise_cut low [] e back rise = (rise.0, tt)
rise_cut low (x ∷ xs) e back rise = (rise.0, rise_cut (suc x) xs e back rise.1)

rise_lower : (low high : ℕ) (xs : List ℕ) → low ≤ high → Rise high xs → Rise low xs
rise_lower low high [] order rise = tt
rise_lower low high (x ∷ xs) order rise = (omega (arith, order, rise.0), rise.1)

rise_moved : (s low : ℕ) (xs : List ℕ) (e : ℕ) → Rise low (xs ++ e ∷ []) → Rise (s + low) (map (moved_start 0 s) xs ++ (s + e) ∷ [])
rise_moved s low [] e rise = (omega (arith, rise.0), tt)
rise_moved s low (x ∷ xs) e rise =
    let next : s + suc x ≡ suc (s + (x - 0)) = omega arith in
    (omega (arith, rise.0), subst (λ m. Rise m (map (moved_start 0 s) xs ++ (s + e) ∷ [])) next (rise_moved s (suc x) xs e rise.1))

-- numbers that rise and are below n
rises : (low n : ℕ) (xs : List ℕ) → Below low n xs → Rise low xs
rises low n [] below = tt
rises low n (x ∷ xs) below = (below.0, rises (suc x) n xs below.2)

rises_to : (low n : ℕ) (xs : List ℕ) → low ≤ n → Below low n xs → Rise low (xs ++ n ∷ [])
rises_to low n [] order below = (order, tt)
rises_to low n (x ∷ xs) order below = (below.0, rises_to (suc x) n xs (omega (arith, below.1)) below.2)

starts_rise_to : (nobreak : Bool) (width : ℕ) (ps : List CharInfo) → Below 0 (length ps) (line_starts_of nobreak width ps)
unfolding line_starts_of
starts_rise_to nobreak width ps = starts_rise nobreak width 0 0 (length ps) ps (omega arith)

first_start : (nobreak : Bool) (width : ℕ) (ps : List CharInfo) (s : ℕ) → slice_get (line_starts_of nobreak width ps) 0 ≡ Some s → 0 ≡ s
unfolding line_starts_of
first_start nobreak width [] s found = absurd (none-some s (found))
first_start nobreak width (p ∷ ps) s found = same_Some 0 s found

some_start : (nobreak : Bool) (width : ℕ) (ps : List CharInfo) → 0 < length ps → slice_get (line_starts_of nobreak width ps) 0 ≡ Some 0
unfolding line_starts_of
some_start nobreak width [] some = absurd (omega (arith, some))
some_start nobreak width (p ∷ ps) some = refl

below_later : (n : ℕ) (xs : List ℕ) (k j : ℕ) → AreStarts n xs → k < j → j < length xs → get_or xs k 0 < get_or xs j 0
below_later n xs k zero are order within = absurd (omega (arith, order))
below_later n xs k (suc j) are order within =
    let one : j + 1 ≡ suc j = omega arith in
    let next : get_or xs j 0 < get_or xs (suc j) 0 = subst (λ i. get_or xs j 0 < get_or xs i 0) one (are.rising j (omega (arith, within))) in
    elim (cases_eq k j) [
      | inl here ↦ omega (arith, next, ap (λ i. get_or xs i 0) here)
      | inr other ↦ omega (arith, next, below_later n xs k j are (omega (arith, order, other)) (omega (arith, within)))
    ]

-- the line starts before the j-th one, which is t
starts_to : (n : ℕ) (xs : List ℕ) (j t : ℕ) → AreStarts n xs → slice_get xs j ≡ Some t → AreStarts t (take j xs)
starts_to n xs j t are found =
    let inside : j < length xs = slice_get_within xs j t found in
    let size : length (take j xs) ≡ j = length-take-le j xs (omega (arith, inside)) in
    record {
      below = λ k below. omega (arith, get_or-take j xs k 0 (omega (arith, below, size)), below_later n xs k j are (omega (arith, below, size)) inside, get_or_from_slice_get xs j t 0 found);
      rising = λ k below.
          omega (
            arith,
            get_or-take j xs k 0 (omega (arith, below, size)),
            get_or-take j xs (k + 1) 0 (omega (arith, below, size)),
            are.rising k (omega (arith, below, size, inside)),
          );
    }

-- the first j numbers of a list that begins with 0
from_0 : (xs : List ℕ) (j : ℕ) → slice_get xs 0 ≡ Some 0 → 0 < j → take j xs ≡ 0 ∷ take (j - 1) (drop 1 xs)
from_0 [] j first some = absurd (none-some 0 (first))
from_0 (x ∷ xs) zero first some = absurd (omega (arith, some))
from_0 (x ∷ xs) (suc j) first some = let e : j ≡ suc j - 1 = omega arith in ap₂ (λ y n. y ∷ take n xs) (same_Some x 0 first) e

same_map : (s : ℕ) (xs : List ℕ) → map (moved_start 0 s) xs ≡ map (λ l. s + l) xs
same_map s [] = refl
same_map s (x ∷ xs) = let e : s + (x - 0) ≡ s + x = omega arith in ap₂ (λ y (ys : List ℕ). y ∷ ys) e (same_map s xs)

alike_take : (xs ys : List CharInfo) (n : ℕ) → AreAlike xs ys → AreAlike (take n xs) (take n ys)
alike_take xs ys n alike = sym (take-map bare n xs) ∙ ap (take n) alike ∙ take-map bare n ys

-- ---- lines that end at a given position

module _ (tables : Tables) (options : Options) (margin : Option ℕ) (base : ℕ) where
  abbrev to : Analysed → ℕ → List ℕ → List Line
  to of end starts = lines_to tables options margin base of end starts

  -- the lines of a text that changes only after them, and ends with them
  pub lines_splice_end : (old new : Analysed) (n i s : ℕ) (starts between : List ℕ) → AgreeBefore options old new n
      → Rise 0 starts → slice_get starts i ≡ Some s → s ≤ n
      → lines_at tables options margin base new (take i starts ++ s ∷ between) ≡ take i (lines_at tables options margin base old starts) ++ to new (length new.text) (s ∷ between)
  lines_splice_end old new n i s starts between before rise found within =
      let front : to new s (take i starts) ≡ take i (lines_at tables options margin base old starts) =
      lines_stay tables options margin base old new n before 0 (take i starts) s (drop (suc i) starts) (subst (Rise 0) (around starts i s found) rise) within
      ∙ sym (take_lines tables options margin base old (length old.text) starts i s found) ∙ ap (take i) (sym (from_is tables options margin base old starts)) in
      from_is tables options margin base new (take i starts ++ s ∷ between)
      ∙ to_append tables options margin base new (length new.text) (take i starts) s between
      ∙ ap (λ (ls : List Line). ls ++ to new (length new.text) (s ∷ between)) front

  -- The lines of a window from s to v, which start at the given distances from s, are those of its text alone.
  module _ (by_characters : options.reorder_clusters ≡ false) (new : Analysed) (s v : ℕ) (order : s ≤ v) (inside : v ≤ length new.text) where
    abbrev window : Analysed
    window = record { text = slice_range new.text s v; levels = slice_range new.levels s v; infos = slice_range new.infos s v }

    abbrev up_to : Analysed
    up_to = record { text = take v new.text; levels = take v new.levels; infos = take v new.infos }

    no_ends_by : (text : List ℕ) → ends_by options text ≡ []
    no_ends_by text = ap (λ b. if b then cluster_ends text else []) by_characters

    same_ends : (i j : ℕ) (one other : List ℕ) → drop i (ends_by options one) ≡ drop j (ends_by options other)
    same_ends i j one other = ap (drop i) (no_ends_by one) ∙ drop_all i [] (omega arith) ∙ sym (ap (drop j) (no_ends_by other) ∙ drop_all j [] (omega arith))

    cut : {X : Type 0} (xs : List X) → slice_range xs s v ≡ drop s (take v xs)
    cut xs = let all : s + (v - s) ≡ v = omega (arith, order) in sym (ap (λ n. drop s (take n xs)) (sym all) ∙ drop-take s (v - s) xs)

    window_len : length (slice_range new.text s v) ≡ v - s
    window_len = length-take-le (v - s) (drop s new.text) (omega (arith, inside, length-drop s new.text))

    stays : AgreeBefore options up_to new v
    stays =
        let le : v ≤ v = omega arith in
        record {
          text = take-take v v new.text le;
          levels = take-take v v new.levels le;
          infos = take-take v v new.infos le;
          ends = ap (take v) (no_ends_by (take v new.text) ∙ sym (no_ends_by new.text));
        }

    moves : AgreeAfter options window up_to 0 s
    moves = record {
      within = (omega arith, omega (arith, order, length-take-le v new.text inside));
      text = cut new.text;
      levels = cut new.levels;
      infos = cut new.infos;
      ends = same_ends 0 s (slice_range new.text s v) (take v new.text);
    }

    pub window_lines_are : (starts : List ℕ) → Rise 0 (starts ++ (v - s) ∷ []) → to new v (map (moved_start 0 s) starts) ≡ map (moved 0 s) (lines_at tables options margin base window starts)
    window_lines_are starts rise =
        let end : s + (v - s - 0) ≡ v = omega (arith, order) in
        lines_stay tables options margin base up_to new v stays 0 (map (moved_start 0 s) starts) v [] (rise_lower 0 (s + 0) _ (omega arith) (subst (λ e. Rise (s + 0) (map (moved_start 0 s) starts ++ e ∷ [])) (let e : s + (v - s) ≡ v = omega (arith, order) in e) (rise_moved s 0 starts (v - s) rise))) (omega arith)
        ∙ ap (λ e. to up_to e (map (moved_start 0 s) starts)) (sym end)
        ∙ lines_move tables options margin base window up_to 0 s moves 0 (v - s) starts (omega arith) (rise_front 0 starts (v - s) [] rise)
        ∙ ap (map (moved 0 s)) (ap (λ e. to window e starts) (sym window_len) ∙ sym (from_is tables options margin base window starts))

  -- the shown parts of lines that end at x are before x
  to_within : (of : Analysed) (low : ℕ) (front : List ℕ) (x : ℕ) → Rise low (front ++ x ∷ []) → AreWithin x (to of x front)
  to_within of low [] x rise = All-nil (λ (line : Line). line.start + length line.levels ≤ x)
  to_within of low (a ∷ []) x rise =
      All-cons (λ (line : Line). line.start + length line.levels ≤ x) _ [] (omega (arith, levels_most tables options margin base of.text of.levels of.infos a x, rise.1.0)) (All-nil _)
  to_within of low (a ∷ c ∷ front) x rise =
      All-cons (λ (line : Line). line.start + length line.levels ≤ x) _ (to of x (c ∷ front))
      (omega (arith, levels_most tables options margin base of.text of.levels of.infos a c, rise.1.0, rise_low (suc c) front x [] rise.1.1))
      (to_within of (suc a) (c ∷ front) x rise.1)

  -- lines from u on start at u or later
  to_after : (of : Analysed) (u low end : ℕ) (starts : List ℕ) → u ≤ low → Rise low starts → All (λ (line : Line). u ≤ line.start) (to of end starts)
  to_after of u low end [] from rise = All-nil (λ (line : Line). u ≤ line.start)
  to_after of u low end (s ∷ []) from rise = All-cons (λ (line : Line). u ≤ line.start) _ [] (omega (arith, from, rise.0)) (All-nil _)
  to_after of u low end (s ∷ t ∷ starts) from rise =
      All-cons (λ (line : Line). u ≤ line.start) _ (to of end (t ∷ starts)) (omega (arith, from, rise.0)) (to_after of u (suc s) end (t ∷ starts) (omega (arith, from, rise.0)) rise.1)

-- ---- a window of an edit

module _ (e : Edited) (is : IsRefillable e) where
  abbrev tables : Tables
  tables = e.rules.tables.now

  abbrev options : Options
  options = e.rules.options

  abbrev rules : Rules
  rules = rules_in e.rules

  abbrev margin : Option ℕ
  margin = margin_of options e.width

  abbrev laid : Layout
  laid = e.laid.now

  abbrev edit : Replacement
  edit = e.edit

  abbrev n : ℕ
  n = edit.at - 1

  abbrev ps : List CharInfo
  ps = infos_of tables options None laid.text

  abbrev qs : List CharInfo
  qs = infos_of tables options None e.text.now

  abbrev starts_of : List CharInfo → List ℕ
  starts_of infos = line_starts_of options.nobreak e.width infos

  abbrev old : Analysed
  old = record { text = laid.text; levels = laid.levels; infos = ps }

  abbrev new : Analysed
  new = record { text = e.text.now; levels = e.levels.now; infos = qs }

  abbrev all : Analysed → List ℕ → List Line
  all of starts = lines_at tables options margin laid.base of starts

  from_scratch : laid ≡ layout_of rules e.width laid.text
  from_scratch = is.edited.laid ∙ ap (λ advances. layout_of (with_advances rules advances) e.width laid.text) is.unmeasured

  old_lines : laid.lines ≡ all old (starts_of ps)
  old_lines =
      ap (λ (l : Layout). l.lines) from_scratch
      ∙ sym (ap₂ (λ base (levels : List ℕ). lines_from tables options margin base laid.text levels ps (starts_of ps)) (ap (λ (l : Layout). l.base) from_scratch) (ap (λ (l : Layout). l.levels) from_scratch))

  new_lines : all new (starts_of qs) ≡ lines_of rules e.width e.text.now
  new_lines = ap₂ (λ base (levels : List ℕ). lines_from tables options margin base e.text.now levels qs (starts_of qs)) (is.same_base ∙ is.edited.base) is.edited.levels

  pub starts_are : old_starts e ≡ starts_of ps
  starts_are = ap (map start_of) old_lines ∙ starts_from tables options margin laid.base laid.text laid.levels ps (starts_of ps)

  marks_are : laid.marks ≡ marks_of tables options.whole_numbers laid.text
  marks_are = ap (λ (l : Layout). l.marks) from_scratch

  old_marks_len : length (marks_of tables options.whole_numbers laid.text) ≡ length laid.text
  old_marks_len = sym (ap (λ (ms : List Mark). length ms) marks_are) ∙ is.edited.laid_marks

  new_marks_len : length (marks_of tables options.whole_numbers e.text.now) ≡ length e.text.now
  new_marks_len = sym (ap (λ (ms : List Mark). length ms) is.edited.marks) ∙ is.edited.marks_len

  new_infos_len : length qs ≡ length e.text.now
  unfolding infos_of
  new_infos_len =
      length-infos tables (tab_width_in tables options) e.text.now (marks_of tables options.whole_numbers e.text.now) (cluster_ends e.text.now) (omega (arith, new_marks_len))
      (length-cluster_ends e.text.now)

  old_infos_len : length ps ≡ length laid.text
  unfolding infos_of
  old_infos_len =
      length-infos tables (tab_width_in tables options) laid.text (marks_of tables options.whole_numbers laid.text) (cluster_ends laid.text) (omega (arith, old_marks_len))
      (length-cluster_ends laid.text)

  pub first_old : slice_get (old_starts e) 0 ≡ Some 0
  first_old = ap (λ (ss : List ℕ). slice_get ss 0) starts_are ∙ some_start options.nobreak e.width ps (omega (arith, old_infos_len, is.some.0, is.edited.edit.within.0))

  marks_stay : StaysOutside edit (marks_of tables options.whole_numbers laid.text) (marks_of tables options.whole_numbers e.text.now)
  marks_stay =
      subst (λ (ms : List Mark). StaysOutside edit ms (marks_of tables options.whole_numbers e.text.now)) marks_are
      (subst (StaysOutside edit laid.marks) is.edited.marks is.edited.marks_stay)

  before : AgreeBefore options old new n
  before = agree_before tables options is.by_characters laid.text e.text.now edit is.edited.edit laid.levels e.levels.now is.edited.levels_stay marks_stay

  rise : Rise 0 (starts_of ps)
  rise = rises 0 (length ps) (starts_of ps) (starts_rise_to options.nobreak e.width ps)

  -- the line from which filling begins starts before the edited characters
  pub first_low : (line start : ℕ) → slice_get (old_starts e) line ≡ Some start → IsFirstLine (old_starts e) laid.marks n line → start ≤ n
  first_low line start found (inl first) =
      omega (arith, first_start options.nobreak e.width ps start (ap (λ (ss : List ℕ). slice_get ss 0) (sym starts_are) ∙ ap (slice_get (old_starts e)) (sym first) ∙ found))
  first_low line start found (inr break) = omega (arith, get_or_from_slice_get (old_starts e) line start 0 found, break.1.range.0, break.1.range.1)

  module _ (w : Window) (win : IsWindow e w) where
    found_s : slice_get (starts_of ps) w.line ≡ Some w.start
    found_s = ap (λ (ss : List ℕ). slice_get ss w.line) (sym starts_are) ∙ win.line

    -- filling can begin at the start of the window
    begin : (k : ℕ) × StaysFrom ps n w.line w.start k
    begin =
        elim win.first [
          | inl first ↦ (0, inl first)
          | inr break ↦
              let start : slice_index (old_starts e) w.line ≡ w.start = get_or_from_slice_get (old_starts e) w.line w.start 0 win.line in
              let ends : may_end ps break.0 ≡ true =
              ap is_break (mark_at tables options laid.text break.0 old_marks_len) ∙ ap (λ (ms : List Mark). is_break (get_or ms break.0 Never)) (sym marks_are) ∙ break.1.breaks in
              (break.0, inr (omega (arith, start, break.1.range.0), (break.1.range.1, ends)))
        ]

    start_low : w.start ≤ n
    start_low = first_low w.line w.start win.line win.first

    order : w.start < w.end
    order = omega (arith, start_low, win.edit, is.some.1)

    abbrev m : ℕ
    m = w.end - w.start

    abbrev infos_in : List CharInfo
    infos_in = window_infos e w

    infos_in_len : length infos_in ≡ m
    infos_in_len = length-take-le m (drop w.start qs) (omega (arith, win.within, length-drop w.start qs, new_infos_len))

    -- a line may end after the last character of the window
    last_breaks : may_end infos_in (m - 1) ≡ true
    last_breaks =
        let place : w.start + (m - 1) ≡ w.end - 1 = omega (arith, order) in
        ap (λ (p : CharInfo). is_break p.mark) (get_or-take m (drop w.start qs) (m - 1) nothing (omega (arith, order)) ∙ get_or-drop w.start qs (m - 1) nothing ∙ ap (place_at qs) place)
        ∙ ap is_break (mark_at tables options e.text.now (w.end - 1) new_marks_len) ∙ ap (λ (ms : List Mark). is_break (get_or ms (w.end - 1) Never)) (sym is.edited.marks) ∙ win.breaks

    module _ (infos : List CharInfo) (ws : List ℕ) (meet : Meeting) (f : IsFilled e w infos ws meet) where
      abbrev v : ℕ
      v = w.start + meet.len

      abbrev gap : Gap
      gap = record { line = w.line; start = w.start; end_line = meet.old_line; end = meet.old_start }

      window_rises : Rise 0 ws
      window_rises = subst (Rise 0) (sym f.starts_are) (rises 0 (length infos_in) (starts_of infos_in) (starts_rise_to options.nobreak e.width infos_in))

      -- the lines of the window's first characters, with and without cluster ends
      alike_lines : (t : ℕ) → t ≤ m → v ≡ w.start + t → (starts : List ℕ)
          → lines_from tables options margin laid.base (slice_range e.text.now w.start v) (slice_range e.levels.now w.start v) (take t infos) starts
          ≡ all (record { text = slice_range new.text w.start v; levels = slice_range new.levels w.start v; infos = slice_range new.infos w.start v }) starts
      alike_lines t within is_v starts =
          let size : v - w.start ≡ t = omega (arith, is_v) in
          let same : take t infos_in ≡ slice_range qs w.start v = take-take t m (drop w.start qs) within ∙ ap (λ i. take i (drop w.start qs)) (sym size) in
          let alike : AreAlike (take t infos) (slice_range qs w.start v) =
          subst (AreAlike (take t infos)) same (subst (λ (xs : List CharInfo). AreAlike xs (take t infos_in)) (take-take t m infos within) (alike_take (take m infos) infos_in t f.alike)) in
          same_lines tables options margin laid.base (slice_range e.text.now w.start v) (slice_range e.levels.now w.start v) (take t infos) (slice_range qs w.start v) starts alike

      module _ (at_line : MeetsLine e w.start ws meet) where
        line_found : slice_get (starts_of infos_in) meet.lines ≡ Some meet.len
        line_found = ap (λ (ss : List ℕ). slice_get ss meet.lines) (sym f.starts_are) ∙ at_line.line

        old_found : slice_get (starts_of ps) meet.old_line ≡ Some meet.old_start
        old_found = ap (λ (ss : List ℕ). slice_get ss meet.old_line) (sym starts_are) ∙ at_line.old_line

        len_below : meet.len < m
        len_below =
            let j : meet.lines < length ws = slice_get_within ws meet.lines meet.len at_line.line in
            omega (arith, f.ordered.below meet.lines j, get_or_from_slice_get ws meet.lines meet.len 0 at_line.line)

        some_lines : 0 < meet.lines
        some_lines =
            elim (cases_lt 0 meet.lines) [
              | inl some ↦ some
              | inr none ↦
                  let zeroth : meet.lines ≡ 0 = omega (arith, none) in
                  let start = first_start options.nobreak e.width infos_in meet.len (ap (slice_get (starts_of infos_in)) (sym zeroth) ∙ line_found) in
                  absurd (omega (arith, start, at_line.after_edit, start_low))
            ]

        after : AgreeAfter options old new meet.old_start v
        after =
            agree_after tables options is.by_characters laid.text e.text.now edit is.edited.edit laid.levels e.levels.now is.edited.levels_stay marks_stay meet.old_start v at_line.after_edit at_line.same
            (omega (arith, len_below, win.within, order)) at_line.split

        new_starts : starts_of qs
            ≡ take w.line (starts_of ps) ++ (map (λ l. w.start + l) (take meet.lines (starts_of infos_in)) ++ map (λ l. w.start + meet.len + (l - meet.old_start)) (drop meet.old_line (starts_of ps)))
        new_starts =
            (starts_splice options.nobreak e.width ps qs n before.infos).to_start w.line w.start begin.0 m meet.lines meet.len (m - 1) meet.old_line meet.old_start found_s begin.1 line_found
            (omega (arith, len_below)) (omega (arith, len_below)) last_breaks old_found after.infos

        pub meets_at_line : spliced_lines gap meet.len laid.lines (window_lines e w infos ws meet) ≡ lines_of rules e.width e.text.now
        meets_at_line =
            let b : ℕ = meet.old_line in
            let u : ℕ = meet.old_start in
            let first : List ℕ = take meet.lines ws in
            let rest : List ℕ = take (meet.lines - 1) (drop 1 ws) in
            let begins : first ≡ 0 ∷ rest =
            from_0 ws meet.lines (ap (λ (ss : List ℕ). slice_get ss 0) f.starts_are ∙ some_start options.nobreak e.width infos_in (omega (arith, order, infos_in_len))) some_lines in
            let zeroth : w.start + (0 - 0) ≡ w.start = omega arith in
            let between : List ℕ = map (moved_start 0 w.start) rest in
            let moved_first : map (moved_start 0 w.start) first ≡ w.start ∷ between = ap (map (moved_start 0 w.start)) begins ∙ ap (λ x. x ∷ between) zeroth in
            let cut : Rise 0 (first ++ (v - w.start) ∷ []) =
            subst (λ x. Rise 0 (first ++ x ∷ [])) (let same : meet.len ≡ v - w.start = omega arith in same)
            (rise_cut 0 first meet.len (drop (suc meet.lines) ws) (subst (Rise 0) (around ws meet.lines meet.len at_line.line) window_rises)) in
            let inside : v ≤ length e.text.now = omega (arith, len_below, win.within, order) in
            let middle : map (moved 0 w.start) (window_lines e w infos ws meet) ≡ lines_to tables options margin laid.base new v (w.start ∷ between) =
            ap (map (moved 0 w.start)) (alike_lines meet.len (omega (arith, len_below)) refl first)
            ∙ sym (window_lines_are tables options margin laid.base is.by_characters new w.start v (omega arith) inside first cut)
            ∙ ap (lines_to tables options margin laid.base new v) moved_first in
            ap₂ (λ (ls ms : List Line). take w.line ls ++ (ms ++ map (moved u v) (drop b ls))) old_lines middle
            ∙ sym (lines_splice tables options margin laid.base old new n u v w.line w.start b (starts_of ps) between before after rise found_s start_low old_found)
            ∙ ap (λ (ss : List ℕ). all new (take w.line (starts_of ps) ++ (ss ++ map (moved_start u v) (drop b (starts_of ps)))))
            (sym moved_first ∙ ap (λ (ss : List ℕ). map (moved_start 0 w.start) (take meet.lines ss)) f.starts_are ∙ same_map w.start (take meet.lines (starts_of infos_in)))
            ∙ ap (all new) (sym new_starts)
            ∙ new_lines

      module _ (at_end : MeetsEnd e w.start m ws meet) where
        v_is : v ≡ length e.text.now
        v_is = omega (arith, at_end.len, at_end.«end»)

        -- the window is the rest of the paragraph
        rest_is : infos_in ≡ drop w.start qs
        rest_is = take_all m (drop w.start qs) (omega (arith, at_end.«end», length-drop w.start qs, new_infos_len))

        new_starts_to_end : starts_of qs ≡ take w.line (starts_of ps) ++ map (λ l. w.start + l) (starts_of infos_in)
        new_starts_to_end =
            (starts_splice options.nobreak e.width ps qs n before.infos).to_end w.line w.start begin.0 found_s begin.1
            ∙ ap (λ (infos : List CharInfo). take w.line (starts_of ps) ++ map (λ l. w.start + l) (starts_of infos)) (sym rest_is)

        pub meets_at_end : spliced_lines gap meet.len laid.lines (window_lines e w infos ws meet) ≡ lines_of rules e.width e.text.now
        meets_at_end =
            let first : List ℕ = take meet.lines ws in
            let whole : first ≡ ws = take_all meet.lines ws (omega (arith, at_end.all)) in
            let found_0 : slice_get ws 0 ≡ Some 0 = ap (λ (ss : List ℕ). slice_get ss 0) f.starts_are ∙ some_start options.nobreak e.width infos_in (omega (arith, order, infos_in_len)) in
            let rest : List ℕ = take (meet.lines - 1) (drop 1 ws) in
            let begins : first ≡ 0 ∷ rest = from_0 ws meet.lines found_0 (omega (arith, at_end.all, slice_get_within ws 0 0 found_0)) in
            let zeroth : w.start + (0 - 0) ≡ w.start = omega arith in
            let between : List ℕ = map (moved_start 0 w.start) rest in
            let moved_first : map (moved_start 0 w.start) first ≡ w.start ∷ between = ap (map (moved_start 0 w.start)) begins ∙ ap (λ x. x ∷ between) zeroth in
            let below : Below 0 (length infos_in) ws = subst (Below 0 (length infos_in)) (sym f.starts_are) (starts_rise_to options.nobreak e.width infos_in) in
            let size : length infos_in ≡ v - w.start = omega (arith, infos_in_len, at_end.len) in
            let cut : Rise 0 (first ++ (v - w.start) ∷ []) =
            subst (λ (ss : List ℕ). Rise 0 (ss ++ (v - w.start) ∷ [])) (sym whole) (subst (λ x. Rise 0 (ws ++ x ∷ [])) size (rises_to 0 (length infos_in) ws (omega arith) below)) in
            let inside : v ≤ length e.text.now = omega (arith, v_is) in
            let middle : map (moved 0 w.start) (window_lines e w infos ws meet) ≡ lines_to tables options margin laid.base new (length e.text.now) (w.start ∷ between) =
            ap (map (moved 0 w.start)) (alike_lines meet.len (omega (arith, at_end.len)) refl first)
            ∙ sym (window_lines_are tables options margin laid.base is.by_characters new w.start v (omega arith) inside first cut)
            ∙ ap (lines_to tables options margin laid.base new v) moved_first
            ∙ ap (λ x. lines_to tables options margin laid.base new x (w.start ∷ between)) v_is in
            let none : drop meet.old_line laid.lines ≡ [] = drop_all meet.old_line laid.lines (omega (arith, at_end.old_line, length-map laid.lines start_of)) in
            ap (λ (ls : List Line). take w.line laid.lines ++ (map (moved 0 w.start) (window_lines e w infos ws meet) ++ map (moved meet.old_start v) ls)) none
            ∙ ap (λ (ls : List Line). take w.line laid.lines ++ ls) (append-nil (map (moved 0 w.start) (window_lines e w infos ws meet)))
            ∙ ap₂ (λ (ls ms : List Line). take w.line ls ++ ms) old_lines middle
            ∙ sym (lines_splice_end tables options margin laid.base old new n w.line w.start (starts_of ps) between before rise found_s start_low)
            ∙ ap (λ (ss : List ℕ). all new (take w.line (starts_of ps) ++ ss)) (sym moved_first ∙ ap (map (moved_start 0 w.start)) (whole ∙ f.starts_are) ∙ same_map w.start (starts_of infos_in))
            ∙ ap (all new) (sym new_starts_to_end)
            ∙ new_lines

      -- ---- what splicing the stored lines requires

      pub meets_lines : spliced_lines gap meet.len laid.lines (window_lines e w infos ws meet) ≡ lines_of rules e.width e.text.now
      meets_lines =
          elim f.meets [
            | inl at_line ↦ meets_at_line at_line
            | inr at_end ↦ meets_at_end at_end
          ]

      pub gap_order : w.start ≤ meet.old_start
      gap_order =
          elim f.meets [
            | inl at_line ↦ omega (arith, at_line.after_edit, at_line.same, start_low)
            | inr at_end ↦ omega (arith, at_end.old_start, start_low, is.edited.edit.within.0)
          ]

      pub gap_within : meet.old_start ≤ length laid.text
      gap_within =
          elim f.meets [
            | inl at_line ↦ omega (arith, (after at_line).within.0)
            | inr at_end ↦ omega (arith, at_end.old_start)
          ]

      pub new_len : w.start + meet.len + (length laid.text - meet.old_start) ≡ length e.text.now
      new_len =
          elim f.meets [
            | inl at_line ↦
                let agree = after at_line in
                omega (
                  arith,
                  agree.within.0,
                  agree.within.1,
                  length-drop meet.old_start laid.text,
                  length-drop v e.text.now,
                  ap (λ (xs : List ℕ). length xs) agree.text,
                )
            | inr at_end ↦ omega (arith, v_is at_end, at_end.old_start)
          ]

      pub part_starts : AreStarts meet.len (take meet.lines ws)
      part_starts =
          elim f.meets [
            | inl at_line ↦ starts_to m ws meet.lines meet.len f.ordered at_line.line
            | inr at_end ↦
                subst (λ n. AreStarts n (take meet.lines ws)) (sym at_end.len)
                (subst (AreStarts m) (sym (take_all meet.lines ws (omega (arith, at_end.all)))) f.ordered)
          ]

      pub lines_len : meet.len ≤ m
      lines_len =
          elim f.meets [
            | inl at_line ↦ omega (arith, len_below at_line)
            | inr at_end ↦ omega (arith, at_end.len)
          ]

      pub before_gap : AreWithin w.start (take w.line laid.lines)
      before_gap =
          let front : take w.line laid.lines ≡ lines_to tables options margin laid.base old w.start (take w.line (starts_of ps)) =
          ap (take w.line) (old_lines ∙ from_is tables options margin laid.base old (starts_of ps)) ∙ take_lines tables options margin laid.base old (length laid.text) (starts_of ps) w.line w.start found_s in
          subst (AreWithin w.start) (sym front)
          (to_within tables options margin laid.base old 0 (take w.line (starts_of ps)) w.start
          (rise_cut 0 (take w.line (starts_of ps)) w.start (drop (suc w.line) (starts_of ps)) (subst (Rise 0) (around (starts_of ps) w.line w.start found_s) rise)))

      pub after_gap : All (λ (line : Line). meet.old_start ≤ line.start) (drop meet.old_line laid.lines)
      after_gap =
          elim f.meets [
            | inl at_line ↦
                let b : ℕ = meet.old_line in
                let u : ℕ = meet.old_start in
                let back : drop b laid.lines ≡ lines_to tables options margin laid.base old (length laid.text) (drop b (starts_of ps)) =
                ap (drop b) (old_lines ∙ from_is tables options margin laid.base old (starts_of ps)) ∙ drop_lines tables options margin laid.base old (length laid.text) (starts_of ps) b u (old_found at_line) in
                let rest : Rise u (drop b (starts_of ps)) =
                subst (Rise u) (sym (dropped (starts_of ps) b u (old_found at_line))) (rise_after 0 (take b (starts_of ps)) u (drop (suc b) (starts_of ps)) (subst (Rise 0) (around (starts_of ps) b u (old_found at_line)) rise)) in
                subst (All (λ (line : Line). u ≤ line.start)) (sym back) (to_after tables options margin laid.base old u u (length laid.text) (drop b (starts_of ps)) (omega arith) rest)
            | inr at_end ↦
                let none : drop meet.old_line laid.lines ≡ [] = drop_all meet.old_line laid.lines (omega (arith, at_end.old_line, length-map laid.lines start_of)) in
                subst (All (λ (line : Line). meet.old_start ≤ line.start)) (sym none) (All-nil (λ (line : Line). meet.old_start ≤ line.start))
          ]

      -- ---- the lines at both ends

      abbrev window_ls : List Line
      window_ls = window_lines e w infos ws meet

      some_window : 0 < meet.lines
      some_window =
          elim f.meets [
            | inl at_line ↦ some_lines at_line
            | inr at_end ↦
                let found_0 : slice_get ws 0 ≡ Some 0 = ap (λ (ss : List ℕ). slice_get ss 0) f.starts_are ∙ some_start options.nobreak e.width infos_in (omega (arith, order, infos_in_len)) in
                omega (arith, at_end.all, slice_get_within ws 0 0 found_0)
          ]

      first_line_is : (line : Line) × (slice_get (map (moved 0 w.start) window_ls) 0 ≡ Some line) × (line.start ≡ w.start)
      first_line_is =
          let found_0 : slice_get ws 0 ≡ Some 0 = ap (λ (ss : List ℕ). slice_get ss 0) f.starts_are ∙ some_start options.nobreak e.width infos_in (omega (arith, order, infos_in_len)) in
          let begins : take meet.lines ws ≡ 0 ∷ take (meet.lines - 1) (drop 1 ws) = from_0 ws meet.lines found_0 some_window in
          let starts : map start_of window_ls ≡ take meet.lines ws =
          starts_from tables options margin laid.base (slice_range e.text.now w.start (w.start + meet.len)) (slice_range e.levels.now w.start (w.start + meet.len)) (take meet.len infos) (take meet.lines ws) in
          let first_start : slice_get (map start_of window_ls) 0 ≡ Some 0 = ap (λ (ss : List ℕ). slice_get ss 0) (starts ∙ begins) in
          elim (slice_get_cases window_ls 0).1 [
            | inl found ↦
                let line : Line = found.0 in
                let zeroth : line.start ≡ 0 = same_Some line.start 0 (sym (slice_get-map start_of window_ls 0 ∙ ap (option_map start_of) found.2) ∙ first_start) in
                (moved 0 w.start line, slice_get-map (moved 0 w.start) window_ls 0 ∙ ap (option_map (moved 0 w.start)) found.2, omega (arith, zeroth))
            | inr past ↦ absurd (omega (arith, past.0, slice_get_within (map start_of window_ls) 0 0 first_start, length-map window_ls start_of))
          ]

      pub old_line_within : meet.old_line ≤ length laid.lines
      old_line_within =
          let old_size = length-map laid.lines start_of in
          elim f.meets [
            | inl at_line ↦ omega (arith, old_size, slice_get_within (old_starts e) meet.old_line meet.old_start at_line.old_line)
            | inr at_end ↦ omega (arith, old_size, at_end.old_line)
          ]

      abbrev new_layout : Layout
      new_layout = layout_of (with_advances rules None) e.width e.text.now

      spliced_is : AreSpliced laid new_layout w.line w.start meet.old_line meet.old_start v (map (moved 0 w.start) window_ls)
      spliced_is = record {
        lines = sym meets_lines;
        line = omega (arith, slice_get_within (old_starts e) w.line w.start win.line, length-map laid.lines start_of);
        starts = get_or_from_slice_get (old_starts e) w.line w.start 0 win.line;
        first = first_line_is;
        base = is.same_base ∙ is.edited.base;
        tab_width = ap (λ (l : Layout). l.tab_width) from_scratch;
        advances = (is.unmeasured, refl);
        text = sym (take-take w.start n laid.text start_low) ∙ ap (take w.start) before.text ∙ take-take w.start n e.text.now start_low;
        before = before_gap;
      }

      pub shares : IsShared e None (record { front = w.line; back = length laid.lines - meet.old_line })
      shares =
          elim f.meets [
            | inl at_line ↦
                let old_size = length-map laid.lines start_of in
                all_shared laid new_layout w.line w.start meet.old_line meet.old_start v (map (moved 0 w.start) window_ls) spliced_is (record {
                  b_some =
                      elim (cases_lt 0 meet.old_line) [
                        | inl some ↦ some
                        | inr none ↦
                            let zeroth : meet.old_line ≡ 0 = omega (arith, none) in
                            let start : meet.old_start ≡ 0 = same_Some meet.old_start 0 (sym at_line.old_line ∙ ap (slice_get (old_starts e)) zeroth ∙ first_old) in
                            absurd (omega (arith, start, at_line.after_edit, at_line.same))
                      ];
                  within = (omega (arith, old_size, slice_get_within (old_starts e) meet.old_line meet.old_start at_line.old_line), (after at_line).within.0);
                  rest = (after at_line).text;
                  new_size = sym new_len;
                  after = after_gap;
                })
            | inr at_end ↦
                let none : 0 ≡ length laid.lines - meet.old_line = omega (arith, at_end.old_line, length-map laid.lines start_of) in
                subst (λ n. ShareEnds (visuals laid) (visuals new_layout) w.line n) none
                (fronts_shared laid new_layout w.line w.start meet.old_line meet.old_start v (map (moved 0 w.start) window_ls) spliced_is)
          ]
