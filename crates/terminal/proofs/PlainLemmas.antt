-- Lines and paragraphs in which all characters have the default style.
use Rattle.std.proofs.Common.{◌≡◌, ℕ, zero, suc, ◌+◌, ◌-◌, Bool, true, false, List, [], ◌∷◌, ◌++◌, length, map, drop, get_or, replicate, encode_utf8_all, refl, sym, ap, ap₂, inl, inr, ◌∙◌, arith}
use Rattle.std.specs.Prelude.{◌&&◌, ◌==◌, nat_lt, not, codes, slice_index, Option, None, if◌then◌else◌}
use Rattle.std.specs.Char.{encode_utf8}
use Rattle.std.specs.List.{enumerate_from, flat_map}
use Rattle.std.proofs.lemmas.Bool.{cases_Bool, cond-true, cond-false}
use Rattle.std.proofs.lemmas.List.{append-nil, get_or-drop, length-map}
use Rattle.stream.proofs.EncodingLemmas.{encoded-append}
use Rattle.reorder.specs.Order.{is_odd}
use Rattle.ucd.specs.declared.tables.Tables.{Tables}
use Rattle.lines.specs.Bytes.{cells, direction_line, expanded, line_bytes, ordered_chars, padding, shown_chars, visual_line}
use Rattle.lines.specs.Columns.{width_at}
use Rattle.bidi.specs.Levels.{levels_of}
use Rattle.lines.specs.CharInfos.{infos_of}
use Rattle.lines.specs.Filling.{line_starts_of}
use Rattle.lines.specs.Layouts.{Layout, Rules, base_of, layout_of, lines_of}
use Rattle.lines.specs.Pages.{layout_bytes, paragraph_bytes}
use Rattle.lines.specs.ShownParts.{margin_of}
use Rattle.lines.specs.Tabs.{is_tab}
use Rattle.lines.specs.Visual.{Line, Visual, is_measured, lines_from, visual_of}
use Rattle.lines.specs.declared.char_info.CharInfo.{CharInfo}
use Rattle.lines.specs.declared.options.Options.{Options}
use Rattle.lines.specs.declared.printing.print.Print.{Print}
use Rattle.sequences.specs.Laws.{characters_of}
use Rattle.sequences.specs.Output.{written, written_after}
use Rattle.sequences.specs.Styled.{DEFAULT, Style}
use Rattle.terminal.specs.Lines.{in_style, line_cells, style_on, styled_chars, styled_line, styled_lines}
use Rattle.terminal.specs.Paragraphs.{styled_bytes, styled_layout, styled_nth, styled_paragraph, styles_of}
use Rattle.terminal.specs.Forms.{print_of, rules_in, width_of, with_options}
use Rattle.terminal.specs.Plain.{PrintsLinesAlone}
use Rattle.terminal.specs.Prefixes.{prefix_len, prefixed_bytes, printed_bytes, printed_paragraph}
use Rattle.terminal.specs.declared.form.Form.{Form}
use Rattle.terminal.proofs.SameStyles.{between_same}
use Rattle.terminal.proofs.WrittenLemmas.{written-same}

and_false : (b : Bool) → (b && false) ≡ false
and_false true = refl
and_false false = refl

spaces_encoded : (n : ℕ) → encode_utf8_all (replicate n 32) ≡ replicate n 32
unfolding encode_utf8
spaces_encoded zero = refl
spaces_encoded (suc n) = ap (λ xs. 32 ∷ xs) (spaces_encoded n)

newline_encoded : encode_utf8_all (codes "\n") ≡ codes "\n"
unfolding encode_utf8
newline_encoded = refl

rtl_encoded : encode_utf8_all (codes "RTL\n") ≡ codes "RTL\n"
unfolding encode_utf8
rtl_encoded = refl

ltr_encoded : encode_utf8_all (codes "LTR\n") ≡ codes "LTR\n"
unfolding encode_utf8
ltr_encoded = refl

-- if two texts are their own UTF-8, so is a choice between them
choice_encoded : (b : Bool) (xs ys : List ℕ) → encode_utf8_all xs ≡ xs → encode_utf8_all ys ≡ ys → encode_utf8_all (if b then xs else ys) ≡ (if b then xs else ys)
choice_encoded true xs ys e f = e
choice_encoded false xs ys e f = f

module _ (visual : Visual) (styles : List Style) (plain : (k : ℕ) → style_on styles k ≡ DEFAULT) where
  -- ---- one character
  cells_same : (c k : ℕ) (chars vtol cs : List ℕ) → line_cells visual c k ≡ cs
      → written_after DEFAULT (styled_chars visual styles (c ∷ chars) (k ∷ vtol)) ≡ cs ++ written_after DEFAULT (styled_chars visual styles chars vtol)
  cells_same c k chars vtol cs e =
      let rest : List (ℕ × Style) = styled_chars visual styles chars vtol in
      ap (λ s. written_after DEFAULT (in_style s (line_cells visual c k) ++ rest)) (plain k)
      ∙ written-same DEFAULT (line_cells visual c k) rest ∙ ap (λ xs. xs ++ written_after DEFAULT rest) e

  expanded_same : is_measured visual ≡ false → (chars vtol : List ℕ) → written_after DEFAULT (styled_chars visual styles chars vtol) ≡ expanded visual chars vtol
  expanded_same own [] vtol = between_same DEFAULT
  expanded_same own (c ∷ chars) [] = between_same DEFAULT
  expanded_same own (c ∷ chars) (k ∷ vtol) =
      cells_same c k chars vtol (cells visual c k) (cond-false (is_measured visual) (c ∷ []) (cells visual c k) own)
      ∙ ap (λ xs. cells visual c k ++ xs) (expanded_same own chars vtol)

  alone_same : ((c k : ℕ) → line_cells visual c k ≡ c ∷ []) → (chars vtol : List ℕ) → length chars ≡ length vtol
      → written_after DEFAULT (styled_chars visual styles chars vtol) ≡ chars
  alone_same alone [] vtol same = between_same DEFAULT
  alone_same alone (c ∷ chars) [] same = absurd (omega (arith, same))
  alone_same alone (c ∷ chars) (k ∷ vtol) same =
      cells_same c k chars vtol (c ∷ []) (alone c k) ∙ ap (λ xs. c ∷ xs) (alone_same alone chars vtol (omega (arith, same)))

  measured_alone : is_measured visual ≡ true → (c k : ℕ) → line_cells visual c k ≡ c ∷ []
  measured_alone m c k = cond-true (is_measured visual) (c ∷ []) (cells visual c k) m

  narrow_alone : is_measured visual ≡ false → nat_lt 0 visual.tab_width ≡ false → (c k : ℕ) → line_cells visual c k ≡ c ∷ []
  narrow_alone own narrow c k =
      let x : ℕ = get_or visual.text k 0 in
      let no : is_tab visual.tab_width x ≡ false = ap (λ b. b && x == 9) narrow in
      cond-false (is_measured visual) (c ∷ []) (cells visual c k) own ∙ cond-false (is_tab visual.tab_width x) (replicate (width_at visual k) 32) (c ∷ []) no

  module _ (print : Print) (same : length (ordered_chars print visual) ≡ length visual.vtol) where
    shown_same : written_after DEFAULT (styled_chars visual styles (ordered_chars print visual) visual.vtol) ≡ shown_chars print visual
    shown_same =
        let xs : List ℕ = ordered_chars print visual in
        let ys : List ℕ = expanded visual xs visual.vtol in
        let wide : Bool = nat_lt 0 visual.tab_width in
        elim (cases_Bool (is_measured visual)) [
          | inl m ↦
              let no : (wide && not (is_measured visual)) ≡ false = ap (λ b. wide && not b) m ∙ and_false wide in
              alone_same (measured_alone m) xs visual.vtol same ∙ sym (cond-false (wide && not (is_measured visual)) ys xs no)
          | inr own ↦ elim (cases_Bool wide) [
            | inl w ↦
                let yes : (wide && not (is_measured visual)) ≡ true = ap₂ (λ a b. a && not b) w own in
                expanded_same own xs visual.vtol ∙ sym (cond-true (wide && not (is_measured visual)) ys xs yes)
            | inr n ↦
                let no : (wide && not (is_measured visual)) ≡ false = ap (λ a. a && not (is_measured visual)) n in
                alone_same (narrow_alone own n) xs visual.vtol same ∙ sym (cond-false (wide && not (is_measured visual)) ys xs no)
          ]
        ]

    pub plain_line : (width : ℕ) → encode_utf8_all (styled_line None width print visual styles) ≡ visual_line width print visual
    unfolding written
    plain_line width =
        let pad : List ℕ = padding width print visual in
        let text : List (ℕ × Style) = styled_chars visual styles (ordered_chars print visual) visual.vtol in
        let shown : List ℕ = shown_chars print visual in
        let spaces : List ℕ = replicate (width - visual.columns) 32 in
        let padded : encode_utf8_all pad ≡ pad =
        choice_encoded (is_odd visual.base && (not print.nopad && not (is_measured visual))) spaces [] (spaces_encoded (width - visual.columns)) refl in
        let whole : written_after DEFAULT (in_style DEFAULT pad ++ text) ≡ pad ++ shown = written-same DEFAULT pad text ∙ ap (λ xs. pad ++ xs) shown_same in
        ap (λ xs. encode_utf8_all (xs ++ codes "\n")) whole ∙ encoded-append (pad ++ shown) (codes "\n")
        ∙ ap₂ (λ (xs ys : List ℕ). xs ++ ys) (encoded-append pad shown ∙ ap (λ xs. xs ++ encode_utf8_all shown) padded) newline_encoded

    pub plain_lines : PrintsLinesAlone print → (width : ℕ) → encode_utf8_all (styled_lines None width print visual styles) ≡ line_bytes width print visual
    plain_lines alone width =
        let direction : List ℕ = if print.basedir && visual.is_first then direction_line visual.base else [] in
        let base : encode_utf8_all (direction_line visual.base) ≡ direction_line visual.base =
        choice_encoded (is_odd visual.base) (codes "RTL\n") (codes "LTR\n") rtl_encoded ltr_encoded in
        let all : List ℕ = visual_line width print visual ++ direction in
        encoded-append (styled_line None width print visual styles) direction
        ∙ ap₂ (λ (xs ys : List ℕ). xs ++ ys) (plain_line width)
        (choice_encoded (print.basedir && visual.is_first) (direction_line visual.base) [] base refl)
        ∙ sym (append-nil all) ∙ sym (append-nil (all ++ [])) ∙ sym (append-nil ((all ++ []) ++ []))
        ∙ rw (alone.visual, alone.ltov, alone.vtol, alone.levels) refl

ordered_len : (print : Print) (visual : Visual) → length visual.chars ≡ length visual.vtol → length (ordered_chars print visual) ≡ length visual.vtol
ordered_len print visual same =
    let places : List ℕ = map (slice_index visual.text) visual.vtol in
    elim (cases_Bool print.nomirror) [
      | inl y ↦ ap length (cond-true print.nomirror places visual.chars y) ∙ length-map visual.vtol (slice_index visual.text)
      | inr n ↦ ap length (cond-false print.nomirror places visual.chars n) ∙ same
    ]

-- each line of a paragraph has as many characters as visual positions
AreAligned : List Line → Type 0
AreAligned [] = Unit {0}
AreAligned (line ∷ lines) = (length line.chars ≡ length line.vtol) × AreAligned lines

module _ (tables : Tables) (options : Options) (margin : Option ℕ) (base : ℕ) (text levels : List ℕ) (infos : List CharInfo) where
  aligned_from : (starts : List ℕ) → AreAligned (lines_from tables options margin base text levels infos starts)
  unfolding AreAligned
  aligned_from [] = tt
  aligned_from (s ∷ []) = (length-map _ _, tt)
  aligned_from (s ∷ t ∷ starts) = (length-map _ _, aligned_from (t ∷ starts))

flat_same : (f g : ℕ × Line → List ℕ) (k : ℕ) (lines : List Line) → AreAligned lines
    → ((n : ℕ) (line : Line) → length line.chars ≡ length line.vtol → encode_utf8_all (f (n, line)) ≡ g (n, line))
    → encode_utf8_all (flat_map f (enumerate_from k lines)) ≡ flat_map g (enumerate_from k lines)
unfolding AreAligned
flat_same f g k [] aligned each = refl
flat_same f g k (line ∷ lines) aligned each =
    encoded-append (f (k, line)) (flat_map f (enumerate_from (k + 1) lines))
    ∙ ap₂ (λ (xs ys : List ℕ). xs ++ ys) (each k line aligned.0) (flat_same f g (k + 1) lines aligned.1 each)

-- text in the default style has this style at each position
plain_styles : (text : List ℕ) (k : ℕ) → get_or (styles_of (in_style DEFAULT text)) k DEFAULT ≡ DEFAULT
plain_styles [] k = refl
plain_styles (c ∷ text) zero = refl
plain_styles (c ∷ text) (suc k) = plain_styles text k

pub plain_characters : (text : List ℕ) → characters_of (in_style DEFAULT text) ≡ text
plain_characters [] = refl
plain_characters (c ∷ text) = ap (λ xs. c ∷ xs) (plain_characters text)

plain_layout : (width : ℕ) (print : Print) (layout : Layout) (text : List ℕ) → PrintsLinesAlone print → AreAligned layout.lines
    → encode_utf8_all (styled_layout None width print layout (styles_of (in_style DEFAULT text))) ≡ layout_bytes width print layout
plain_layout width print layout text alone aligned =
    let styles : List Style = styles_of (in_style DEFAULT text) in
    let of : ℕ → Line → Visual = visual_of layout.base layout.tab_width layout.advances layout.text layout.lines in
    flat_same (styled_nth None width print layout styles) (λ nth. line_bytes width print (of nth.0 nth.1)) 0 layout.lines aligned
    (λ n line same.
    plain_lines (of n line) (drop line.start styles) (λ k. get_or-drop line.start styles k DEFAULT ∙ plain_styles text (line.start + k)) print
    (ordered_len print (of n line) same) alone width)

aligned_of : (rules : Rules) (width : ℕ) (text : List ℕ) → AreAligned (lines_of rules width text)
aligned_of rules width text =
    let infos : List CharInfo = infos_of rules.tables rules.options rules.advances text in
    aligned_from rules.tables rules.options (margin_of rules.options width) (base_of rules text) text (levels_of rules.tables text rules.options.base) infos
    (line_starts_of rules.options.nobreak width infos)

pub plain_paragraph : (rules : Rules) (width : ℕ) (print : Print) (text : List ℕ) → PrintsLinesAlone print
    → styled_paragraph rules width print (in_style DEFAULT text) ≡ paragraph_bytes rules width print text
unfolding styled_bytes
plain_paragraph rules width print text alone =
    ap (λ xs. encode_utf8_all (styled_layout None width print (layout_of rules width xs) (styles_of (in_style DEFAULT text)))) (plain_characters text)
    ∙ plain_layout width print (layout_of rules width text) text alone (aligned_of rules width text)

tables_in : (rules : Rules) (form : Form) → (rules_in form rules).tables ≡ rules.tables
tables_in rules form =
    let other : Rules = with_options rules (record rules.options { nobreak = true }) in
    elim (cases_Bool (form.width == 0)) [
      | inl y ↦ ap (λ (r : Rules). r.tables) (cond-true (form.width == 0) other rules y)
      | inr n ↦ ap (λ (r : Rules). r.tables) (cond-false (form.width == 0) other rules n)
    ]

pub without_prefix : (rules : Rules) (form : Form) (shown : List (ℕ × Style)) → prefix_len rules.tables form.prefix (characters_of shown) ≡ 0
    → printed_paragraph rules form shown ≡ styled_paragraph (rules_in form rules) (width_of form) (print_of form) shown
unfolding printed_bytes
without_prefix rules form shown none =
    ap (prefixed_bytes (rules_in form rules) form (characters_of shown) (styles_of shown))
    (ap (λ tables. prefix_len tables form.prefix (characters_of shown)) (tables_in rules form) ∙ none)
