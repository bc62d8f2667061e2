-- If a paragraph is one line at some width, it is the same line at every width in which the line fits.
use Rattle.std.proofs.Common.{◌≡◌, ◌∙◌, ℕ, zero, suc, ◌+◌, ◌-◌, ◌<◌, ◌≤◌, Bool, true, false, ◌&&◌, ◌||◌, Option, Some}
use Rattle.std.specs.Option.{option_map_or}
use Rattle.std.proofs.Common.{None, not, nat_le, ap₂, unwrap_or, List, [], ◌∷◌, length, get_or, take, drop, refl, sym, ap, subst, inl, inr, arith}
use Rattle.std.specs.List.{slice_get, slice_range}
use Rattle.std.proofs.lemmas.Bool.{and_from, and_parts, cases_Bool, not-true, cond-true, cond-false, le-leb, leb-true, both_ways}
use Rattle.std.proofs.lemmas.List.{take_all}
use Rattle.std.proofs.lemmas.Option.{slice_get-get_or, slice_get_within}
use Rattle.ucd.specs.declared.tables.Tables.{Tables}
use Rattle.ucd.specs.Least.{least}
use Rattle.bidi.specs.Levels.{levels_of}
use Rattle.bidi.proofs.LengthLemmas.{length-levels_of}
use Rattle.bidi.proofs.PairLemmas.{greatest_found, greatest_here}
use Rattle.breaks.specs.Marks.{marks_of}
use Rattle.breaks.proofs.WalkLemmas.{length-marks}
use Rattle.breaks.specs.declared.mark.Mark.{Mark}
use Rattle.breaks.specs.declared.mark.Mark.TheVariants.{Never, May, Must}
use Rattle.lines.specs.Clusters.{cluster_ends}
use Rattle.lines.specs.Filling.{before_tail, by_break, by_cluster, cluster_ends_at, columns, first_end, fits, fits_to, is_break, is_must, line_end}
use Rattle.lines.specs.Filling.{line_len, line_starts_of, may_end, must_end, or_else, place_at, starts, stop}
use Rattle.lines.specs.Layouts.{IsLaidOut, Layout, Rules, base_of, hides_space_within, is_line_within, keeps_lines, layout_of, lines_of}
use Rattle.lines.specs.CharInfos.{advance, info, infos, infos_of, is_space, measured, sized, trailing_with}
use Rattle.lines.specs.Showing.{line_showing}
use Rattle.lines.specs.ShownParts.{is_space_within, margin_of, shown, shown_len}
use Rattle.lines.specs.Tabs.{tab_width_in}
use Rattle.lines.specs.Visual.{Line, line_between, lines_from}
use Rattle.lines.specs.Widths.{sizes_of, width_from}
use Rattle.lines.specs.declared.options.Options.{Options}
use Rattle.lines.specs.declared.char_info.CharInfo.{CharInfo}
use Rattle.lines.specs.declared.char_info.Trailing.{Trailing}
use Rattle.lines.specs.declared.fill.Shown.{Shown}
use Rattle.lines.proofs.ClusterLemmas.{length-cluster_ends}
use Rattle.lines.proofs.FillingLemmas.{columns_after, least_within, stop_from}
use Rattle.lines.proofs.ShownColumnLemmas.{levels_size_is}
use Rattle.lines.proofs.ShownPartLemmas.{same_part, text_narrow}
use Rattle.lines.proofs.SkippedLemmas.{length-infos, some_text}
use Rattle.lines.proofs.WidthLemmas.{advance_info, advance_measured, length-sized}

-- ---- where the first line ends

-- if every number that passes q passes p, the least number that passes p is at most the least one that passes
-- q
least_low : (p q : ℕ → Bool) (low count d : ℕ) → low + count ≡ suc d → ((m : ℕ) → q m ≡ true → p m ≡ true)
    → unwrap_or (least p low count) d ≤ unwrap_or (least q low count) d
least_low p q low zero d e stricter = omega arith
least_low p q low (suc count) d e stricter =
    elim (cases_Bool (p low)) [
      | inl passed ↦
          let found : unwrap_or (least p low (suc count)) d ≡ low = ap (λ o. unwrap_or o d) (cond-true (p low) (Some low) (least p (suc low) count) passed) in
          let above = least_within q low (suc count) (suc d) d low e (omega (arith, e)) (omega arith) (λ m from below. absurd (omega (arith, from, below))) in
          omega (arith, found, above.0)
      | inr failed ↦ elim (cases_Bool (q low)) [
        | inl other ↦ absurd (both_ways (p low) failed (stricter low other))
        | inr fails ↦
            let one : unwrap_or (least p low (suc count)) d ≡ unwrap_or (least p (suc low) count) d =
            ap (λ o. unwrap_or o d) (cond-false (p low) (Some low) (least p (suc low) count) failed) in
            let two : unwrap_or (least q low (suc count)) d ≡ unwrap_or (least q (suc low) count) d =
            ap (λ o. unwrap_or o d) (cond-false (q low) (Some low) (least q (suc low) count) fails) in
            omega (arith, one, two, least_low p q (suc low) count d (omega (arith, e)) stricter)
      ]
    ]

-- at a position where a line must end, it may end
pub must_may : (mark : Mark) (ends : Bool) → is_must mark ≡ true → (is_break mark || ends) ≡ true
must_may Never ends h = cc
must_may May ends h = cc
must_may Must ends h = refl

first_low : (rest : List CharInfo) → 0 < length rest → first_end rest ≤ stop rest
first_low rest some =
    least_low (λ k. may_end rest k || cluster_ends_at rest k) (must_end rest) 0 (length rest) (length rest - 1) (omega (arith, some))
    (λ m h. must_may (place_at rest m).mark (place_at rest m).ends_cluster h)

either_low : (a b : Option ℕ) (first last : ℕ) → ((k : ℕ) → a ≡ Some k → k ≤ last) → ((k : ℕ) → b ≡ Some k → k ≤ last) → first ≤ last
    → unwrap_or (or_else a b) first ≤ last
either_low (Some k) b first last one two three = one k refl
either_low None (Some k) first last one two three = two k refl
either_low None None first last one two three = three

-- a line ends no later than the first position at which it must end
end_low : (width : ℕ) (rest : List CharInfo) → 0 < length rest → line_end width rest ≤ stop rest
end_low width rest some =
    either_low (by_break width rest) (by_cluster width rest) (first_end rest) (stop rest)
    (λ k e. omega (arith, (greatest_found (λ j. may_end rest j && fits_to width rest j) (suc (stop rest)) k e).0))
    (λ k e. omega (arith, (greatest_found (λ j. cluster_ends_at rest j && fits_to width rest j) (suc (stop rest)) k e).0))
    (first_low rest some)

may_at : (mark : Mark) → mark ≡ Must → is_break mark ≡ true
may_at mark e = ap is_break e

-- if all characters fit on one line, and the line must end only after the last of them, it ends there
pub end_whole : (width : ℕ) (rest : List CharInfo) (last : ℕ) → length rest ≡ suc last → (place_at rest last).mark ≡ Must → columns (before_tail rest) ≤ width → stop rest ≡ last
    → line_end width rest ≡ last
end_whole width rest last size ends fit stops =
    let all : take (suc last) rest ≡ rest = take_all (suc last) rest (omega (arith, size)) in
    let fits_whole : fits_to width rest last ≡ true = ap (fits width) all ∙ le-leb (columns (before_tail rest)) width fit in
    let test : (may_end rest last && fits_to width rest last) ≡ true = and_from (may_end rest last) (fits_to width rest last) (may_at (place_at rest last).mark ends) fits_whole in
    let found : by_break width rest ≡ Some last = greatest_here (λ j. may_end rest j && fits_to width rest j) last (suc (stop rest)) (omega (arith, stops)) test in
    ap (λ o. unwrap_or (or_else o (by_cluster width rest)) (first_end rest)) found

-- ---- where lines start

none_left : (nobreak : Bool) (width place left : ℕ) (rest : List CharInfo) → starts nobreak width place left rest ≡ [] → length rest ≤ left
none_left nobreak width place left [] e = omega arith
none_left nobreak width place zero (p ∷ rest) e = cc
none_left nobreak width place (suc left) (p ∷ rest) e = omega (arith, none_left nobreak width (suc place) left rest e)

pub all_left : (nobreak : Bool) (width place left : ℕ) (rest : List CharInfo) → length rest ≤ left → starts nobreak width place left rest ≡ []
all_left nobreak width place zero [] within = refl
all_left nobreak width place (suc left) [] within = refl
all_left nobreak width place zero (p ∷ rest) within = absurd (omega (arith, within))
all_left nobreak width place (suc left) (p ∷ rest) within = all_left nobreak width (suc place) left rest (omega (arith, within))

-- if the first line has all characters at one width, it has all of them at every width in which they fit
whole_again : (nobreak : Bool) (old width : ℕ) (p : CharInfo) (rest : List CharInfo) → (place_at (p ∷ rest) (length rest)).mark ≡ Must → columns (before_tail (p ∷ rest)) ≤ width
    → length rest ≤ line_len nobreak old (p ∷ rest) - 1 → length rest ≤ line_len nobreak width (p ∷ rest) - 1
whole_again true old width p rest ends fit was = was
whole_again false old width p rest ends fit was =
    let within = (stop_from (p ∷ rest) 0 (omega arith) (λ j below. absurd (omega (arith, below)))).1 in
    let stops : stop (p ∷ rest) ≡ length rest = omega (arith, within, was, end_low old (p ∷ rest) (omega arith)) in
    omega (arith, end_whole width (p ∷ rest) (length rest) (omega arith) ends fit stops)

same_starts : (nobreak : Bool) (old width s : ℕ) (rest : List CharInfo) → 0 < length rest → line_starts_of nobreak old rest ≡ s ∷ []
    → (place_at rest (length rest - 1)).mark ≡ Must → columns (before_tail (slice_range rest s (length rest))) ≤ width
    → line_starts_of nobreak width rest ≡ line_starts_of nobreak old rest
unfolding line_starts_of
same_starts nobreak old width s [] some e ends fit = absurd (omega (arith, some))
same_starts nobreak old width s (p ∷ rest) some e ends fit =
    let first : 0 ≡ s = ap (λ xs. get_or xs 0 0) e in
    let none : starts nobreak old 1 (line_len nobreak old (p ∷ rest) - 1) rest ≡ [] = ap (drop 1) e in
    let last : length (p ∷ rest) - 1 ≡ length rest = omega arith in
    let less : length (p ∷ rest) - 0 ≡ length (p ∷ rest) = omega arith in
    let all : slice_range (p ∷ rest) s (length (p ∷ rest)) ≡ p ∷ rest =
    ap (λ n. slice_range (p ∷ rest) n (length (p ∷ rest))) (sym first)
    ∙ ap (λ n. take n (p ∷ rest)) less ∙ take_all (length (p ∷ rest)) (p ∷ rest) (omega arith) in
    let whole = whole_again nobreak old width p rest (subst (λ k. (place_at (p ∷ rest) k).mark ≡ Must) last ends)
    (subst (λ ps. columns (before_tail ps) ≤ width) all fit) (none_left nobreak old 1 (line_len nobreak old (p ∷ rest) - 1) rest none) in
    ap (λ xs. 0 ∷ xs) (all_left nobreak width 1 (line_len nobreak width (p ∷ rest) - 1) rest whole ∙ sym none)

-- ---- the last position

pub mark_at : (t : Tables) (tab_width : ℕ) (text : List ℕ) (marks : List Mark) (clusters : List Bool) (k : ℕ) (mark : Mark) → slice_get marks k ≡ Some mark → k < length text
    → length clusters ≡ length text → (place_at (infos t tab_width text marks clusters) k).mark ≡ mark
mark_at t tab_width [] marks clusters k mark e within c = absurd (omega (arith, within))
mark_at t tab_width (x ∷ text) [] clusters k mark e within c = absurd (omega (arith, slice_get_within {A = Mark} [] k mark e))
mark_at t tab_width (x ∷ text) (m ∷ marks) [] k mark e within c = absurd (omega (arith, c))
mark_at t tab_width (x ∷ text) (m ∷ marks) (ends ∷ clusters) zero mark e within c = ap (λ o. unwrap_or o mark) e
mark_at t tab_width (x ∷ text) (m ∷ marks) (ends ∷ clusters) (suc k) mark e within c = mark_at t tab_width text marks clusters k mark e (omega (arith, within)) (omega (arith, c))

-- ---- the lines

-- the mark after the last character of every non-empty text is `Must`
abbrev pub EndsAtMust : Type 0
EndsAtMust = (tables : Tables) (whole_numbers : Bool) (text : List ℕ) → 0 < length text → slice_get (marks_of tables whole_numbers text) (length text - 1) ≡ Some Must

-- advances change no marks
measured_mark : (advances : List ℕ) (ps : List CharInfo) (k : ℕ) → (place_at (measured advances ps) k).mark ≡ (place_at ps k).mark
measured_mark advances [] k = refl
measured_mark [] (p ∷ ps) zero = refl
measured_mark [] (p ∷ ps) (suc k) = measured_mark [] ps k
measured_mark (size ∷ advances) (p ∷ ps) zero = refl
measured_mark (size ∷ advances) (p ∷ ps) (suc k) = measured_mark advances ps k

sized_mark : (advances : Option (List ℕ)) (ps : List CharInfo) (k : ℕ) → (place_at (sized advances ps) k).mark ≡ (place_at ps k).mark
sized_mark None ps k = refl
sized_mark (Some advances) ps k = measured_mark advances ps k

module _ (tables : Tables) (options : Options) (margin : Option ℕ) (base : ℕ) (text levels : List ℕ) (ps : List CharInfo) (width : ℕ) where
  one_start : (starts : List ℕ) → is_line_within width (lines_from tables options margin base text levels ps starts) ≡ true
      → (s : ℕ) × (starts ≡ s ∷ []) × (columns (shown margin (slice_range ps s (length text))) ≤ width)
  one_start [] h = cc
  one_start (s ∷ []) h = (s, refl, leb-true (columns (shown margin (slice_range ps s (length text)))) width h)
  one_start (s ∷ t ∷ []) h = cc
  one_start (s ∷ t ∷ u ∷ starts) h = cc

first_zero : (nobreak : Bool) (width s : ℕ) (rest : List CharInfo) → line_starts_of nobreak width rest ≡ s ∷ [] → s ≡ 0
unfolding line_starts_of
first_zero nobreak width s [] e = cc
first_zero nobreak width s (p ∷ rest) e = sym (ap (λ xs. get_or xs 0 0) e)

-- whether a `CharInfo` has the role and the width of a character of the given size
abbrev IsInfoOf : Tables → ℕ → ℕ → ℕ → CharInfo → Type 0
IsInfoOf t tab_width c size p =
    (p.trailing ≡ trailing_with t tab_width c) × ((column : ℕ) → advance column p ≡ column + width_from tab_width column c size)

info_at : (t : Tables) (tab_width : ℕ) (advances : Option (List ℕ)) (text : List ℕ) (marks : List Mark) (clusters : List Bool) (k : ℕ)
    → k < length (infos t tab_width text marks clusters)
    → IsInfoOf t tab_width (get_or text k 0) (get_or (sizes_of tab_width advances text) k 0) (place_at (sized advances (infos t tab_width text marks clusters)) k)
info_at t tab_width advances [] marks clusters k within = absurd (omega (arith, within))
info_at t tab_width advances (x ∷ text) [] clusters k within = absurd (omega (arith, within))
info_at t tab_width advances (x ∷ text) (m ∷ marks) [] k within = absurd (omega (arith, within))
info_at t tab_width None (x ∷ text) (m ∷ marks) (ends ∷ clusters) zero within = (refl, λ column. advance_info t tab_width column x m ends)
info_at t tab_width (Some []) (x ∷ text) (m ∷ marks) (ends ∷ clusters) zero within = (refl, λ column. advance_measured t tab_width column x 0 m ends)
info_at t tab_width (Some (size ∷ advances)) (x ∷ text) (m ∷ marks) (ends ∷ clusters) zero within =
    (refl, λ column. advance_measured t tab_width column x size m ends)
info_at t tab_width None (x ∷ text) (m ∷ marks) (ends ∷ clusters) (suc k) within = info_at t tab_width None text marks clusters k (omega (arith, within))
info_at t tab_width (Some []) (x ∷ text) (m ∷ marks) (ends ∷ clusters) (suc k) within = info_at t tab_width (Some []) text marks clusters k (omega (arith, within))
info_at t tab_width (Some (size ∷ advances)) (x ∷ text) (m ∷ marks) (ends ∷ clusters) (suc k) within =
    info_at t tab_width (Some advances) text marks clusters k (omega (arith, within))

-- the `CharInfo` of the first hidden character shows whether this character is a space that fits
hides : (t : Tables) (tab_width : ℕ) (advances : Option (List ℕ)) (width : ℕ) (text : List ℕ) (line : Line) (ps : List CharInfo) (n : ℕ)
    → length line.levels ≡ n → line.columns ≡ columns (take n ps) → n < length ps → n < length text
    → IsInfoOf t tab_width (get_or text n 0) (get_or (sizes_of tab_width advances text) n 0) (place_at ps n)
    → is_space_within width ps n ≡ hides_space_within t tab_width advances width text line
hides t tab_width advances width text line ps n size sum below within info =
    let c : ℕ = get_or text n 0 in
    let sizes : List ℕ = sizes_of tab_width advances text in
    let found : slice_get text (length line.levels) ≡ Some c = ap (slice_get text) size ∙ slice_get-get_or text n 0 within in
    let most : columns (take (suc n) ps) ≡ line.columns + width_from tab_width line.columns c (get_or sizes (length line.levels) 0) =
    columns_after ps n below ∙ ap (λ column. advance column (place_at ps n)) (sym sum) ∙ info.1 line.columns
    ∙ ap (λ k. line.columns + width_from tab_width line.columns c (get_or sizes k 0)) (sym size) in
    ap₂ (λ (kind : Trailing) (m : ℕ). is_space kind && nat_le m width) info.0 most
    ∙ sym (ap (λ (o : Option ℕ). option_map_or (λ d. is_space (trailing_with t tab_width d)
    && nat_le (line.columns + width_from tab_width line.columns d (get_or sizes (length line.levels) 0)) width) o false) found)

-- the same holds for a `CharInfo` that is computed for the first hidden character alone
pub hidden_is : (t : Tables) (tab_width width c size : ℕ) (advances : Option (List ℕ)) (text : List ℕ) (line : Line) (mark : Mark) (b : Bool) → slice_get text (length line.levels) ≡ Some c
    → size ≡ get_or (sizes_of tab_width advances text) (length line.levels) 0
    → b ≡ (is_space (info t tab_width c mark false).trailing && nat_le (advance line.columns (record (info t tab_width c mark false) { columns = size })) width)
    → b ≡ hides_space_within t tab_width advances width text line
hidden_is t tab_width width c size advances text line mark b found size_is is =
    let sizes : List ℕ = sizes_of tab_width advances text in
    is
    ∙ ap (λ m. is_space (trailing_with t tab_width c) && nat_le m width) (advance_measured t tab_width line.columns c size mark false)
    ∙ ap (λ s. is_space (trailing_with t tab_width c) && nat_le (line.columns + width_from tab_width line.columns c s) width) size_is
    ∙ sym (ap (λ (o : Option ℕ). option_map_or (λ d. is_space (trailing_with t tab_width d)
    && nat_le (line.columns + width_from tab_width line.columns d (get_or sizes (length line.levels) 0)) width) o false) found)

lines_stay : EndsAtMust → (rules : Rules) (old width : ℕ) (text : List ℕ) → 0 < length text → keeps_lines rules width (layout_of rules old text) ≡ true
    → lines_of rules width text ≡ lines_of rules old text
unfolding infos_of
lines_stay law rules old width text some h =
    let t : Tables = rules.tables in
    let options : Options = rules.options in
    let tab_width : ℕ = tab_width_in t options in
    let marks : List Mark = marks_of t options.whole_numbers text in
    let plain : List CharInfo = infos t tab_width text marks (cluster_ends text) in
    let ps : List CharInfo = infos_of t options rules.advances text in
    let last = law t options.whole_numbers text some in
    let many : length marks ≡ length text = length-marks t options.whole_numbers text in
    let plain_size : length plain ≡ length text = length-infos t tab_width text marks (cluster_ends text) (omega (arith, many)) (length-cluster_ends text) in
    let size : length ps ≡ length text = length-sized rules.advances plain ∙ plain_size in
    let ends : (place_at ps (length text - 1)).mark ≡ Must = sized_mark rules.advances plain (length text - 1)
    ∙ mark_at t tab_width text marks (cluster_ends text) (length text - 1) Must last (omega (arith, some)) (length-cluster_ends text) in
    let base : ℕ = base_of rules text in
    let levels : List ℕ = levels_of t text options.base in
    let margin : Option ℕ = margin_of options old in
    let shows : Bool = option_map_or (hides_space_within t tab_width rules.advances width text) (slice_get (lines_of rules old text) 0) false in
    let tests = and_parts (is_line_within width (lines_of rules old text)) (not (options.show_spaces && shows)) h in
    let one = one_start t options margin base text levels ps width (line_starts_of options.nobreak old ps) tests.0 in
    let zero_is : one.0 ≡ 0 = first_zero options.nobreak old one.0 ps one.1 in
    let piece : List CharInfo = slice_range ps 0 (length text) in
    let whole : piece ≡ ps = take_all (length text - 0) ps (omega (arith, size)) in
    let fit : columns (shown margin piece) ≤ width = subst (λ s. columns (shown margin (slice_range ps s (length text))) ≤ width) zero_is one.2 in
    let began : line_starts_of options.nobreak old ps ≡ 0 ∷ [] = one.1 ∙ ap (λ s. s ∷ []) zero_is in
    let begins : line_starts_of options.nobreak width ps ≡ 0 ∷ [] =
    same_starts options.nobreak old width 0 ps (omega (arith, size, some)) began
    (subst (λ n. (place_at ps (n - 1)).mark ≡ Must) (sym size) ends)
    (subst (λ n. columns (before_tail (slice_range ps 0 n)) ≤ width) (sym size) (omega (arith, text_narrow margin piece, fit)))
    ∙ began in
    let line : Line = line_between t options margin base text levels ps 0 (length text) in
    let lines : lines_of rules old text ≡ line ∷ [] = ap (lines_from t options margin base text levels ps) began in
    let n : ℕ = shown_len margin piece in
    let n_is : length line.levels ≡ n =
    levels_size_is t options margin base tab_width rules.advances text levels marks (cluster_ends text) (length-levels_of t text options.base) many (length-cluster_ends text)
    0 (length text) (omega arith) (omega arith) in
    let stops : options.show_spaces ≡ true → n < length piece → is_space_within width piece n ≡ false =
    λ on below.
    let inside : n < length ps = omega (arith, below, ap length whole) in
    let info = info_at t tab_width rules.advances text marks (cluster_ends text) n (omega (arith, inside, size, plain_size)) in
    let place : place_at piece n ≡ place_at ps n = ap (λ (xs : List CharInfo). place_at xs n) whole in
    hides t tab_width rules.advances width text line piece n n_is refl below (omega (arith, inside, size))
    (subst (IsInfoOf t tab_width (get_or text n 0) (get_or (sizes_of tab_width rules.advances text) n 0)) (sym place) info)
    ∙ sym (ap (λ (ls : List Line). option_map_or (hides_space_within t tab_width rules.advances width text) (slice_get ls 0) false) lines)
    ∙ sym (ap (λ (b : Bool). b && shows) on)
    ∙ not-true (options.show_spaces && shows) tests.1 in
    let part : ℕ → Shown = λ m. record { len = length (take m piece); columns = columns (take m piece) } in
    ap (lines_from t options (margin_of options width) base text levels ps) begins
    ∙ ap (λ m. line_showing t options base text levels (part m) 0 (length text) ∷ []) (same_part options old width piece fit stops)
    ∙ sym lines

pub lines_kept : EndsAtMust → (rules : Rules) (width : ℕ) (layout : Layout) → keeps_lines rules width layout ≡ true → IsLaidOut rules layout
    → lines_of rules width layout.text ≡ layout.lines
lines_kept law rules width layout passed laid =
    let same : layout ≡ layout_of rules laid.width layout.text = laid.from_scratch in
    lines_stay law rules laid.width width layout.text (some_text rules layout.text laid.paragraph)
    (ap (keeps_lines rules width) (sym same) ∙ passed)
    ∙ sym (ap (λ (l : Layout). l.lines) same)
