-- Which lines of a paragraph stay the same at another width: those with the same place.
use Rattle.std.proofs.Common.{◌≡◌, ℕ, zero, suc, ◌+◌, ◌-◌, ◌<◌, ◌≤◌, ◌==◌, Bool, Option, List, [], ◌∷◌, length, map, drop, take, slice_get, Some, refl, sym, ap, ap₂, subst, ◌∙◌, arith}
use Rattle.std.specs.Prelude.{option_map, slice_index, slice_index_or, slice_range, unwrap_or}
use Rattle.std.proofs.lemmas.List.{length-map, length-take, length-take-le}
use Rattle.ucd.specs.Tables.{class_of}
use Rattle.ucd.specs.declared.tables.Tables.{Tables}
use Rattle.bidi.specs.Levels.{levels_of}
use Rattle.bidi.proofs.LengthLemmas.{length-levels_of}
use Rattle.reorder.specs.Spaces.{line_levels}
use Rattle.lines.specs.CharInfos.{infos_of}
use Rattle.lines.specs.Extents.{extents_in, extents_of, shown_between, shown_from, shown_in, LineExtents}
use Rattle.lines.specs.Filling.{line_starts_of}
use Rattle.lines.specs.Kept.{AreStarts}
use Rattle.lines.specs.Layouts.{base_of, layout_of, lines_of, start_of, visuals, IsLaidOut, Layout, Rules}
use Rattle.lines.specs.Matching.{HaveSamePlace, MatchAtEnd, MatchAtStart}
use Rattle.lines.specs.Showing.{line_showing, lines_shown, nothing_shown}
use Rattle.lines.specs.ShownParts.{margin_of, shown, shown_len}
use Rattle.lines.specs.Tabs.{tab_width_in}
use Rattle.lines.specs.Visual.{Line, Visual, end_of, line_between, lines_from, visual_of}
use Rattle.lines.specs.declared.char_info.CharInfo.{CharInfo}
use Rattle.lines.specs.declared.fill.Shown.{Shown}
use Rattle.lines.specs.declared.options.Options.{Options}
use Rattle.lines.proofs.BeginningLemmas.{starts_from}
use Rattle.lines.proofs.MatchingLemmas.{end_init, end_more, length-visuals, read_as, read_by, start_more}
use Rattle.lines.proofs.PageLemmas.{visual_at}
use Rattle.lines.proofs.ShowLemmas.{end_last, end_next, end_within, length-shown_from, length_range, shown_at}
use Rattle.lines.proofs.VisualLemmas.{starts_in, starts_within, Rise}
use Rattle.lines.proofs.WrittenLemmas.{length-line_levels, shown_lines}

-- ---- the extents of lines that are found

module _ (tables : Tables) (options : Options) (margin : Option ℕ) (base : ℕ) (text levels : List ℕ) (infos : List CharInfo) (levels_size : length levels ≡ length text) where
  -- a line has a level for each shown character
  levels_shown : (s e : ℕ) → s ≤ e → e ≤ length text → length (line_between tables options margin base text levels infos s e).levels ≡ length (shown margin (slice_range infos s e))
  levels_shown s e forward within =
      let piece : List CharInfo = slice_range infos s e in
      let classes = map (class_of tables) (slice_range text s e) in
      let old : List ℕ = slice_range levels s e in
      let old_size : length old ≡ e - s = length_range levels s e forward (omega (arith, levels_size, within)) in
      let whole : length old ≡ length classes = old_size ∙ sym (length-map (slice_range text s e) (class_of tables) ∙ length_range text s e forward within) in
      length-take-le (length (shown margin piece)) (line_levels base classes old)
      (omega (arith, length-line_levels base classes old whole, old_size, length-take (shown_len margin piece) piece, length-take (e - s) (drop s infos)))

  shown_in_lines : (low : ℕ) (starts : List ℕ) → Rise low (length text) starts
      → map shown_in (lines_from tables options margin base text levels infos starts) ≡ shown_from margin (length text) infos starts
  shown_in_lines low [] rise = refl
  shown_in_lines low (s ∷ []) rise =
      ap (λ n. let part : Shown = record { len = n; columns = (shown_between margin infos s (length text)).columns } in part ∷ []) (levels_shown s (length text) (omega (arith, rise.1)) (omega arith))
  shown_in_lines low (s ∷ t ∷ starts) rise =
      ap₂ (λ n parts. let part : Shown = record { len = n; columns = (shown_between margin infos s t).columns } in part ∷ parts)
      (levels_shown s t (omega (arith, rise.2.0)) (omega (arith, rise.2.1))) (shown_in_lines (suc s) (t ∷ starts) rise.2)

  -- the k-th line has the k-th start and the k-th shown part
  line_at : (starts : List ℕ) (parts : List Shown) (k : ℕ) → length parts ≡ length starts → k < length starts
      → slice_get (lines_shown tables options base text levels starts parts) k
      ≡ Some (line_showing tables options base text levels (slice_index_or parts k nothing_shown) (slice_index starts k) (end_of (length text) starts k))
  line_at [] parts k size below = absurd (omega (arith, below))
  line_at (s ∷ starts) [] k size below = absurd (omega (arith, size))
  line_at (s ∷ []) (part ∷ parts) zero size below = refl
  line_at (s ∷ []) (part ∷ parts) (suc k) size below = absurd (omega (arith, below))
  line_at (s ∷ t ∷ starts) (part ∷ parts) zero size below = refl
  line_at (s ∷ t ∷ starts) (part ∷ parts) (suc k) size below = line_at (t ∷ starts) parts k (omega (arith, size)) (omega (arith, below))

first_start : (nobreak : Bool) (width : ℕ) (ps : List CharInfo) → 0 < length (line_starts_of nobreak width ps) → slice_index (line_starts_of nobreak width ps) 0 ≡ 0
unfolding line_starts_of
first_start nobreak width [] some = absurd (omega (arith, some))
first_start nobreak width (p ∷ ps) some = refl

module _ (rules : Rules) (text : List ℕ) where
  abbrev infos : List CharInfo
  infos = infos_of rules.tables rules.options rules.advances text

  abbrev levels : List ℕ
  levels = levels_of rules.tables text rules.options.base

  levels_size : length levels ≡ length text
  levels_size = length-levels_of rules.tables text rules.options.base

  pub extents-lines : (width : ℕ) → extents_in (lines_of rules width text) ≡ extents_of rules width text
  extents-lines width =
      let starts : List ℕ = line_starts_of rules.options.nobreak width infos in
      let margin : Option ℕ = margin_of rules.options width in
      ap₂ (λ (ss : List ℕ) (ps : List Shown). let extents : LineExtents = record { starts = ss; shown = ps } in extents)
      (starts_from rules.tables rules.options margin (base_of rules text) text levels infos starts)
      (shown_in_lines rules.tables rules.options margin (base_of rules text) text levels infos levels_size 0 starts (starts_in rules width text))

  -- the visual line with this place and shown part
  abbrev seen : Bool → ℕ → ℕ → Shown → Visual
  seen first s e part =
      let line = line_showing rules.tables rules.options (base_of rules text) text levels part s e in
      record {
        is_first = first;
        base = base_of rules text;
        tab_width = tab_width_in rules.tables rules.options;
        len = e - s;
        text = slice_range text s (s + length line.levels);
        advances = option_map (λ a. slice_range a s (s + length line.levels)) rules.advances;
        columns = part.columns;
        levels = line.levels;
        ltov = line.ltov;
        vtol = line.vtol;
        chars = line.chars;
      }

  module _ (width : ℕ) where
    abbrev at : LineExtents
    at = extents_of rules width text

    abbrev all : List Visual
    all = visuals (layout_of rules width text)

    count : length all ≡ length at.starts
    count = length-visuals (layout_of rules width text) ∙ sym (length-map (lines_of rules width text) start_of) ∙ ap (λ (e : LineExtents). length e.starts) (extents-lines width)

    are : AreStarts (length text) at.starts
    are = starts_within rules width text

    seen_at : (k : ℕ) → k < length at.starts
        → slice_get all k ≡ Some (seen (k == 0) (slice_index at.starts k) (end_of (length text) at.starts k) (slice_index_or at.shown k nothing_shown))
    seen_at k below =
        let margin : Option ℕ = margin_of rules.options width in
        let lines : List Line = lines_of rules width text in
        sym (visual_at (layout_of rules width text) k)
        ∙ ap (λ (ls : Option Line). option_map (visual_of (base_of rules text) (tab_width_in rules.tables rules.options) rules.advances text lines k) ls)
        (ap (λ (ls : List Line). slice_get ls k) (sym (shown_lines rules.tables rules.options (base_of rules text) text levels margin infos at.starts))
        ∙ line_at rules.tables rules.options margin (base_of rules text) text levels infos levels_size at.starts at.shown k (length-shown_from margin (length text) infos at.starts) below)
        ∙ ap (λ (ss : List ℕ). Some (record (seen (k == 0) (slice_index at.starts k) (end_of (length text) at.starts k) (slice_index_or at.shown k nothing_shown)) { len = end_of (length text) ss k - slice_index at.starts k }))
        (ap (λ (e : LineExtents). e.starts) (extents-lines width))

    -- the number of shown characters is the number of the line's levels
    shown_count : (k : ℕ) → k < length at.starts
        → length (seen (k == 0) (slice_index at.starts k) (end_of (length text) at.starts k) (slice_index_or at.shown k nothing_shown)).levels ≡ (slice_index_or at.shown k nothing_shown).len
    shown_count k below =
        let margin : Option ℕ = margin_of rules.options width in
        let w = end_within (length text) at.starts k are below in
        let part = shown_at margin (length text) infos at.starts k nothing_shown below in
        subst (λ (p : Shown). length (seen (k == 0) (slice_index at.starts k) (end_of (length text) at.starts k) p).levels ≡ p.len) (sym part)
        (levels_shown rules.tables rules.options margin (base_of rules text) text levels infos levels_size (slice_index at.starts k) (end_of (length text) at.starts k) (omega (arith, w.0)) w.1)

    begins : 0 < length at.starts → slice_index at.starts 0 ≡ 0
    begins some = first_start rules.options.nobreak width infos some

  -- ---- the same lines at two widths

  module _ (old new : ℕ) where
    abbrev Same : ℕ → ℕ → Type 0
    Same k m = HaveSamePlace (length text) (at old) (at new) k m

    module _ (k m : ℕ) (in_old : k < length (at old).starts) (in_new : m < length (at new).starts) where
      abbrev s1 : ℕ
      s1 = slice_index (at old).starts k

      abbrev s2 : ℕ
      s2 = slice_index (at new).starts m

      abbrev e1 : ℕ
      e1 = end_of (length text) (at old).starts k

      abbrev e2 : ℕ
      e2 = end_of (length text) (at new).starts m

      abbrev p1 : Shown
      p1 = slice_index_or (at old).shown k nothing_shown

      abbrev p2 : Shown
      p2 = slice_index_or (at new).shown m nothing_shown

      same_at : Same k m → slice_get (all old) k ≡ slice_get (all new) m
      same_at h =
          seen_at old k in_old
          ∙ ap (λ f. Some (seen f s1 e1 p1)) h.is_first
          ∙ ap (λ s. Some (seen (m == 0) s e1 p1)) h.start
          ∙ ap (λ e. Some (seen (m == 0) s2 e p1)) h.end
          ∙ ap (λ p. Some (seen (m == 0) s2 e2 p)) h.shown
          ∙ sym (seen_at new m in_new)

      module _ (same : slice_get (all old) k ≡ slice_get (all new) m) where
        line : seen (k == 0) s1 e1 p1 ≡ seen (m == 0) s2 e2 p2
        line = ap (λ o. unwrap_or o (seen (k == 0) s1 e1 p1)) (sym (seen_at old k in_old) ∙ same ∙ seen_at new m in_new)

        len : e1 - s1 ≡ e2 - s2
        len = ap (λ (v : Visual). v.len) line

        same_shown : p1 ≡ p2
        same_shown =
            ap₂ (λ n c. let p : Shown = record { len = n; columns = c } in p)
            (sym (shown_count old k in_old) ∙ ap (λ (v : Visual). length v.levels) line ∙ shown_count new m in_new) (ap (λ (v : Visual). v.columns) line)

        from_start : s1 ≡ s2 → Same k m
        from_start e =
            let w = end_within (length text) (at old).starts k (are old) in_old in
            let v = end_within (length text) (at new).starts m (are new) in_new in
            record { is_first = ap (λ (v : Visual). v.is_first) line; start = e; end = omega (arith, e, len, w.0, v.0); shown = same_shown }

        from_end : e1 ≡ e2 → Same k m
        from_end e =
            let w = end_within (length text) (at old).starts k (are old) in_old in
            let v = end_within (length text) (at new).starts m (are new) in_new in
            record { is_first = ap (λ (v : Visual). v.is_first) line; start = omega (arith, e, len, w.0, v.0); end = e; shown = same_shown }

    module _ (n : ℕ) (in_old : n ≤ length (at old).starts) (in_new : n ≤ length (at new).starts) where
      module _ (each : (j : ℕ) → j < n → Same j j) where
        first_lines : (k : ℕ) → k ≤ n → take k (all old) ≡ take k (all new)
        first_lines zero within = refl
        first_lines (suc k) within =
            let one : k + 1 ≡ suc k = omega arith in
            subst (λ i. take i (all old) ≡ take i (all new)) one
            (start_more (all old) (all new) k (omega (arith, within, in_old, count old)) (omega (arith, within, in_new, count new)) (first_lines k (omega (arith, within)))
            (same_at k k (omega (arith, within, in_old)) (omega (arith, within, in_new)) (each k (omega (arith, within)))))

        start_here : (k : ℕ) → k ≤ n → k < length (at old).starts → k < length (at new).starts → slice_index (at old).starts k ≡ slice_index (at new).starts k
        start_here zero within o w = begins old (omega (arith, o)) ∙ sym (begins new (omega (arith, w)))
        start_here (suc k) within o w =
            let one : k + 1 ≡ suc k = omega arith in
            subst (λ i. slice_index (at old).starts i ≡ slice_index (at new).starts i) one
            (end_next (length text) (at old).starts k (omega (arith, o)) ∙ (each k (omega (arith, within))).end ∙ sym (end_next (length text) (at new).starts k (omega (arith, w))))

        pub stay_at_start : (n < length (at old).starts → n < length (at new).starts → Same n n → ⊥) → MatchAtStart (all old) (all new) n
        stay_at_start differ = record {
          in_first = omega (arith, in_old, count old);
          in_second = omega (arith, in_new, count new);
          same = first_lines n (omega arith);
          most = λ o w same.
              let in_first : n < length (at old).starts = omega (arith, o, count old) in
              let in_second : n < length (at new).starts = omega (arith, w, count new) in
              differ in_first in_second (from_start n n in_first in_second same (start_here n (omega arith) in_first in_second));
        }

      module _ (each : (j : ℕ) → j < n → Same (length (at old).starts - j - 1) (length (at new).starts - j - 1)) where
        last_lines : (k : ℕ) → k ≤ n → drop (length (all old) - k) (all old) ≡ drop (length (all new) - k) (all new)
        last_lines zero within = end_init (all old) (all new)
        last_lines (suc k) within =
            let one : k + 1 ≡ suc k = omega arith in
            subst (λ i. drop (length (all old) - i) (all old) ≡ drop (length (all new) - i) (all new)) one
            (end_more (all old) (all new) k (omega (arith, within, in_old, count old)) (omega (arith, within, in_new, count new)) (last_lines k (omega (arith, within)))
            (read_as (all old) (all new) (length (at old).starts) (length (at new).starts) k (sym (count old)) (sym (count new))
            (same_at (length (at old).starts - k - 1) (length (at new).starts - k - 1) (omega (arith, within, in_old)) (omega (arith, within, in_new)) (each k (omega (arith, within))))))

        end_here : (k : ℕ) → k ≤ n → k < length (at old).starts → k < length (at new).starts
            → end_of (length text) (at old).starts (length (at old).starts - k - 1) ≡ end_of (length text) (at new).starts (length (at new).starts - k - 1)
        end_here zero within o w =
            sym (end_last (length text) (at old).starts (length (at old).starts - 0 - 1) (omega (arith, o))) ∙ end_last (length text) (at new).starts (length (at new).starts - 0 - 1) (omega (arith, w))
        end_here (suc k) within o w =
            let a : length (at old).starts - suc k - 1 + 1 ≡ length (at old).starts - k - 1 = omega (arith, o) in
            let b : length (at new).starts - suc k - 1 + 1 ≡ length (at new).starts - k - 1 = omega (arith, w) in
            sym (end_next (length text) (at old).starts (length (at old).starts - suc k - 1) (omega (arith, o)))
            ∙ ap (λ i. slice_index (at old).starts i) a ∙ (each k (omega (arith, within))).start ∙ sym (ap (λ i. slice_index (at new).starts i) b)
            ∙ end_next (length text) (at new).starts (length (at new).starts - suc k - 1) (omega (arith, w))

        pub stay_at_end : (n < length (at old).starts → n < length (at new).starts → Same (length (at old).starts - n - 1) (length (at new).starts - n - 1) → ⊥) → MatchAtEnd (all old) (all new) n
        stay_at_end differ = record {
          in_first = omega (arith, in_old, count old);
          in_second = omega (arith, in_new, count new);
          same = last_lines n (omega arith);
          most = λ o w same.
              let in_first : n < length (at old).starts = omega (arith, o, count old) in
              let in_second : n < length (at new).starts = omega (arith, w, count new) in
              differ in_first in_second
              (from_end (length (at old).starts - n - 1) (length (at new).starts - n - 1) (omega (arith, in_first)) (omega (arith, in_second))
              (read_by (all old) (all new) (length (at old).starts) (length (at new).starts) n (sym (count old)) (sym (count new)) same)
              (end_here n (omega arith) in_first in_second));
        }

-- `HaveSamePlace` also holds for equal extents and equal line numbers
moved : {n : ℕ} (a b c d : LineExtents) (k i m j : ℕ) → a ≡ b → c ≡ d → k ≡ i → m ≡ j → HaveSamePlace n a c k m → HaveSamePlace n b d i j
moved {n} a b c d k i m j first second left right same =
    subst (λ e. HaveSamePlace n e d i j) first (subst (λ e. HaveSamePlace n a e i j) second (subst (λ x. HaveSamePlace n a c x j) left (subst (λ x. HaveSamePlace n a c k x) right same)))

-- ---- the lines of a layout that was found at some width, and those at another width
module _ (layout : Layout) (old new : LineExtents) (n : ℕ) (old-is : old ≡ extents_in layout.lines) (in_old : n ≤ length old.starts) (in_new : n ≤ length new.starts) where
  module _ (rules : Rules) (width : ℕ) (laid : IsLaidOut rules layout) (is : new ≡ extents_of rules width layout.text) where
    was : old ≡ extents_of rules laid.width layout.text
    was = old-is ∙ ap (λ (l : Layout). extents_in l.lines) laid.from_scratch ∙ extents-lines rules layout.text laid.width

    old_count : length old.starts ≡ length (extents_of rules laid.width layout.text).starts
    old_count = ap (λ (e : LineExtents). length e.starts) was

    new_count : length new.starts ≡ length (extents_of rules width layout.text).starts
    new_count = ap (λ (e : LineExtents). length e.starts) is

    pub staying_start : ((j : ℕ) → j < n → HaveSamePlace (length layout.text) old new j j)
        → (n < length old.starts → n < length new.starts → HaveSamePlace (length layout.text) old new n n → ⊥)
        → MatchAtStart (visuals layout) (visuals (layout_of rules width layout.text)) n
    staying_start each differ =
        subst (λ vs. MatchAtStart vs (visuals (layout_of rules width layout.text)) n) (ap visuals (sym laid.from_scratch))
        (stay_at_start rules layout.text laid.width width n (omega (arith, in_old, old_count)) (omega (arith, in_new, new_count))
        (λ j below. moved old _ new _ j j j j was is refl refl (each j below))
        (λ o w same. differ (omega (arith, o, old_count)) (omega (arith, w, new_count)) (moved _ old _ new n n n n (sym was) (sym is) refl refl same)))

    pub staying_end : ((j : ℕ) → j < n → HaveSamePlace (length layout.text) old new (length old.starts - j - 1) (length new.starts - j - 1))
        → (n < length old.starts → n < length new.starts → HaveSamePlace (length layout.text) old new (length old.starts - n - 1) (length new.starts - n - 1) → ⊥)
        → MatchAtEnd (visuals layout) (visuals (layout_of rules width layout.text)) n
    staying_end each differ =
        subst (λ vs. MatchAtEnd vs (visuals (layout_of rules width layout.text)) n) (ap visuals (sym laid.from_scratch))
        (stay_at_end rules layout.text laid.width width n (omega (arith, in_old, old_count)) (omega (arith, in_new, new_count))
        (λ j below. moved old _ new _ _ _ _ _ was is (ap (λ m. m - j - 1) old_count) (ap (λ m. m - j - 1) new_count) (each j below))
        (λ o w same. differ (omega (arith, o, old_count)) (omega (arith, w, new_count))
        (moved _ old _ new _ _ _ _ (sym was) (sym is) (ap (λ m. m - n - 1) (sym old_count)) (ap (λ m. m - n - 1) (sym new_count)) same)))
