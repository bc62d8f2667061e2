-- Writing the lines of a paragraph one at a time, given their shown parts, writes the printed bytes of the
-- paragraph.
use Rattle.std.proofs.Common.{◌≡◌, ℕ, zero, suc, ◌+◌, ◌-◌, ◌<◌, ◌≤◌, ◌==◌, ◌++◌, Bool, Option, List, [], ◌∷◌, length, map, take, drop, get_or, Some, refl, sym, ap, ap₂, ◌∙◌, arith}
use Rattle.std.specs.Prelude.{option_map, slice_get, slice_range, None}
use Rattle.std.proofs.lemmas.List.{length-map, length-take-le, take-take, take_all}
use Rattle.std.proofs.Math.Seq.{drop-append_seam, take-append_seam}
use Rattle.ucd.specs.Tables.{class_of}
use Rattle.ucd.specs.declared.bidi_class.BidiClass.{BidiClass}
use Rattle.ucd.specs.declared.tables.Tables.{Tables}
use Rattle.lines.specs.Asked.{visual_part, visual_shown}
use Rattle.lines.specs.Bytes.{line_bytes}
use Rattle.std.specs.List.{concat}
use Rattle.lines.specs.Extents.{shown_between, shown_from, LineExtents}
use Rattle.bidi.specs.Levels.{levels_of}
use Rattle.lines.specs.Filling.{line_starts_of}
use Rattle.lines.specs.Layouts.{Rules, base_of}
use Rattle.lines.specs.Pages.{lines_bytes, paragraph_bytes}
use Rattle.lines.specs.Paragraphs.{IsLineAt}
use Rattle.lines.specs.CharInfos.{infos_of}
use Rattle.reorder.specs.Mirroring.{visual_chars}
use Rattle.lines.specs.Reordering.{ends_by, ltov_by, vtol_by}
use Rattle.lines.specs.ShownParts.{margin_of}
use Rattle.lines.specs.Showing.{line_showing, lines_shown, nothing_shown}
use Rattle.reorder.specs.Spaces.{line_levels}
use Rattle.lines.specs.Tabs.{tab_width_in}
use Rattle.lines.specs.Visual.{Line, Visual, end_of, lines_from, visual_of}
use Rattle.lines.specs.declared.options.Options.{Options}
use Rattle.lines.specs.declared.char_info.CharInfo.{CharInfo}
use Rattle.lines.specs.declared.fill.Shown.{Shown}
use Rattle.lines.specs.declared.paragraph.LineSlice.{LineSlice}
use Rattle.lines.specs.declared.paragraph.Text.{Text}
use Rattle.lines.specs.declared.printing.print.Print.{Print}
use Rattle.lines.proofs.PageLemmas.{length-pieces, piece_at, pieces, pieces_whole}
use Rattle.lines.proofs.ShowLemmas.{length_range, length-shown_from}

-- Taking n items from a list that starts with n new items yields these items. Taking the next n items yields the n new
-- items that follow. If all items of a list are 0, so are the first n.
pub front_is : {X : Type 0} (n : ℕ) (new rest : List X) → length new ≡ n → take n (new ++ rest) ≡ new
front_is n new rest size = ap (λ (m : ℕ). take m (new ++ rest)) (sym size) ∙ take-append_seam new rest

pub back_is : (n : ℕ) (first new rest : List ℕ) → length first ≡ n → length new ≡ n → take n (drop n (first ++ (new ++ rest))) ≡ new
back_is n first new rest size same =
    ap (λ (m : ℕ). take n (drop m (first ++ (new ++ rest)))) (sym size) ∙ ap (take n) (drop-append_seam first (new ++ rest)) ∙ front_is n new rest same

pub front_of_zeros : (n : ℕ) (levels : List ℕ) → ((k : ℕ) → get_or levels k 0 ≡ 0) → (k : ℕ) → get_or (take n levels) k 0 ≡ 0
front_of_zeros zero levels all k = refl
front_of_zeros (suc n) [] all k = refl
front_of_zeros (suc n) (level ∷ levels) all zero = all zero
front_of_zeros (suc n) (level ∷ levels) all (suc k) = front_of_zeros n levels (λ j. all (suc j)) k

pub length-line_levels : (base : ℕ) (classes : List BidiClass) (levels : List ℕ) → length levels ≡ length classes → length (line_levels base classes levels) ≡ length levels
length-line_levels base [] levels same = sym same
length-line_levels base (class ∷ classes) [] same = refl
length-line_levels base (class ∷ classes) (level ∷ levels) same = ap suc (length-line_levels base classes levels (omega (arith, same)))

module _ (tables : Tables) (options : Options) (base : ℕ) where
  -- the visual line of a shown part is made up of the levels, position maps and characters that are computed
  -- for it
  pub is_part : (is_first : Bool) (line : List ℕ) (ends : List Bool) (columns : ℕ) (levels ltov vtol chars : List ℕ) (classes : List BidiClass)
      → classes ≡ map (class_of tables) line → ltov ≡ ltov_by options classes ends levels → vtol ≡ vtol_by options classes ends levels
      → chars ≡ visual_chars tables levels (take (length levels) line) (vtol_by options classes ends levels)
      → record {
        is_first = is_first;
        base = base;
        tab_width = tab_width_in tables options;
        len = length line;
        text = take (length levels) line;
        advances = None;
        columns = columns;
        levels = levels;
        ltov = ltov;
        vtol = vtol;
        chars = chars;
      } ≡ visual_part tables options base is_first line ends columns levels
  is_part is_first line ends columns levels ltov vtol chars classes e t v c = rw (t, v, c, e) refl

  module _ (text old : List ℕ) where
    -- the k-th line has the k-th start and the k-th shown part
    line_at : (starts : List ℕ) (parts : List Shown) (k : ℕ) → length parts ≡ length starts → k < length starts
        → slice_get (lines_shown tables options base text old starts parts) k
        ≡ Some (line_showing tables options base text old (get_or parts k nothing_shown) (get_or starts k 0) (end_of (length text) starts k))
    line_at [] parts k same below = absurd (omega (arith, below))
    line_at (s ∷ starts) [] k same below = absurd (omega (arith, same))
    line_at (s ∷ []) (part ∷ parts) zero same below = refl
    line_at (s ∷ []) (part ∷ parts) (suc k) same below = absurd (omega (arith, below))
    line_at (s ∷ t ∷ starts) (part ∷ parts) zero same below = refl
    line_at (s ∷ t ∷ starts) (part ∷ parts) (suc k) same below = line_at (t ∷ starts) parts k (omega (arith, same)) (omega (arith, below))

    pub length-lines_shown : (starts : List ℕ) (parts : List Shown) → length parts ≡ length starts → length (lines_shown tables options base text old starts parts) ≡ length starts
    length-lines_shown [] parts same = refl
    length-lines_shown (s ∷ []) [] same = absurd (omega (arith, same))
    length-lines_shown (s ∷ t ∷ starts) [] same = absurd (omega (arith, same))
    length-lines_shown (s ∷ []) (part ∷ parts) same = refl
    length-lines_shown (s ∷ t ∷ starts) (part ∷ parts) same = ap suc (length-lines_shown (t ∷ starts) parts (omega (arith, same)))

    -- if the shown parts are computed from the `CharInfo`s, the lines are those of the paragraph
    pub shown_lines : (margin : Option ℕ) (infos : List CharInfo) (starts : List ℕ)
        → lines_shown tables options base text old starts (shown_from margin (length text) infos starts) ≡ lines_from tables options margin base text old infos starts
    shown_lines margin infos [] = refl
    shown_lines margin infos (s ∷ []) = refl
    shown_lines margin infos (s ∷ t ∷ starts) =
        ap (λ (lines : List Line). line_showing tables options base text old (shown_between margin infos s t) s t ∷ lines) (shown_lines margin infos (t ∷ starts))

-- the printed bytes of each line of a text, given the levels before L1 and the extents of its lines
module _ (width : ℕ) (print : Print) (text : Text) (old : List ℕ) (extents : LineExtents) where
  abbrev lines_of : List Line
  lines_of = lines_shown text.rules.tables.now text.rules.options text.base text.characters.now old extents.starts extents.shown

  abbrev pub pieces_of : List (List ℕ)
  pieces_of = pieces width print text.base (tab_width_in text.rules.tables.now text.rules.options) None text.characters.now lines_of

  pub pieces_of_whole : concat pieces_of ≡ lines_bytes width print text.base (tab_width_in text.rules.tables.now text.rules.options) None text.characters.now lines_of
  pieces_of_whole = pieces_whole width print text.base (tab_width_in text.rules.tables.now text.rules.options) None text.characters.now lines_of

  module _ (parts : (margin : Option ℕ) × (infos : List CharInfo) × (extents.shown ≡ shown_from margin (length text.characters.now) infos extents.starts)) where
    same : length extents.shown ≡ length extents.starts
    same = ap length parts.2 ∙ length-shown_from parts.0 (length text.characters.now) parts.1 extents.starts

    count : length pieces_of ≡ length extents.starts
    count =
        length-pieces width print text.base (tab_width_in text.rules.tables.now text.rules.options) None text.characters.now lines_of
        ∙ length-lines_shown text.rules.tables.now text.rules.options text.base text.characters.now old extents.starts extents.shown same

    pub pieces_of_all : (k : ℕ) → length extents.starts ≤ k → concat (take k pieces_of) ≡ concat pieces_of
    pieces_of_all k past = ap concat (take_all k pieces_of (omega (arith, count, past)))

    -- the k-th piece is the printed bytes of line k
    pub piece_is : (k : ℕ) (line : LineSlice) → k < length extents.starts → IsLineAt text extents k line → length old ≡ length text.characters.now
        → (k < length pieces_of) × (line_bytes width print
        (visual_shown line.text.rules.tables.now line.text.rules.options line.text.base (k == 0) line.text.characters.now line.text.ends.now (slice_range old line.start line.end) line.shown)
        ≡ get_or pieces_of k [])
    piece_is k line below at sizes =
        let tables = text.rules.tables.now in
        let options = text.rules.options in
        let base = text.base in
        let all : List ℕ = text.characters.now in
        let s : ℕ = line.start in
        let e : ℕ = line.end in
        let part = line.shown in
        let chars : List ℕ = slice_range all s e in
        let size : length chars ≡ e - s = length_range all s e (omega (arith, at.order)) at.within in
        let classes : List BidiClass = map (class_of tables) chars in
        let old_size : length (slice_range old s e) ≡ e - s = length_range old s e (omega (arith, at.order)) (omega (arith, at.within, sizes)) in
        let after = line_levels base classes (slice_range old s e) in
        let levels : List ℕ = take part.len after in
        let ends : List Bool = slice_range (ends_by options all) s e in
        let vtol : List ℕ = vtol_by options classes ends levels in
        let whole : length (slice_range old s e) ≡ length classes = old_size ∙ sym (length-map chars (class_of tables) ∙ size) in
        let levels_size : length levels ≡ part.len = length-take-le part.len after (omega (arith, length-line_levels base classes (slice_range old s e) whole, old_size, at.shown_within)) in
        let n : s + length levels - s ≡ length levels = omega arith in
        let text_is : take (length levels) chars ≡ slice_range all s (s + length levels) =
        take-take (length levels) (e - s) (drop s all) (omega (arith, levels_size, at.shown_within)) ∙ ap (λ (i : ℕ). take i (drop s all)) (sym n) in
        let view : List ℕ → List ℕ → Visual =
        λ t u. record {
          is_first = k == 0;
          base = base;
          tab_width = tab_width_in tables options;
          len = 0;
          text = t;
          advances = None;
          columns = part.columns;
          levels = levels;
          ltov = ltov_by options classes ends levels;
          vtol = vtol;
          chars = visual_chars tables levels u vtol;
        } in
        let shown = line_showing tables options base all old part s e in
        let got : slice_get lines_of k ≡ Some shown = rw (at.shown, at.start, at.end) (line_at tables options base all old extents.starts extents.shown k same below) in (
          omega (arith, count, below),
          rw (at.rules, at.base, at.characters, at.ends) (ap₂ (λ (t u : List ℕ). line_bytes width print (view t u)) text_is (ap (λ (i : ℕ). take i chars) levels_size)
              ∙ piece_at width print base (tab_width_in tables options) None all lines_of k (visual_of base (tab_width_in tables options) None all lines_of k shown)
              (omega (arith, below, length-lines_shown tables options base all old extents.starts extents.shown same)) (sym (ap (option_map (visual_of base (tab_width_in tables options) None all lines_of k)) got))),
        )

-- if the base level, levels and line starts are those of the paragraph, the printed lines are the paragraph's
-- bytes
pub page_is : (rules : Rules) (width : ℕ) (print : Print) (text : List ℕ) (base : ℕ) (levels starts : List ℕ) → base ≡ base_of rules text
    → levels ≡ levels_of rules.tables text rules.options.base
    → starts ≡ line_starts_of rules.options.nobreak width (infos_of rules.tables rules.options rules.advances text)
    → lines_bytes width print base (tab_width_in rules.tables rules.options) rules.advances text (lines_from rules.tables rules.options (margin_of rules.options width) base text levels (infos_of rules.tables rules.options rules.advances text) starts)
    ≡ paragraph_bytes rules width print text
page_is rules width print text base levels starts b l s =
    let infos : List CharInfo = infos_of rules.tables rules.options rules.advances text in
    let bytes : ℕ → List ℕ → List ℕ → List ℕ = λ b l s. lines_bytes width print b (tab_width_in rules.tables rules.options) rules.advances text (lines_from rules.tables rules.options (margin_of rules.options width) b text l infos s) in
    ap (λ (x : ℕ). bytes x levels starts) b
    ∙ ap (λ (ls : List ℕ). bytes (base_of rules text) ls starts) l
    ∙ ap (bytes (base_of rules text) (levels_of rules.tables text rules.options.base)) s
