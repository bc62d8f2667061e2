-- Prefixes, and the paragraphs that they split.
use Rattle.std.proofs.Common.{◌≡◌, ◌≢◌, ℕ, zero, suc, ◌+◌, ◌-◌, ◌<◌, ◌≤◌, Bool, true, false, List, [], ◌∷◌, ◌++◌, length, map, take, drop, get_or, Option, None, Some, encode_utf8_all, refl, sym, subst, ap, ap₂, inl, inr, ◌∙◌, arith}
use Rattle.std.specs.Prelude.{◌==◌, nat_lt, option_map, slice_get, slice_range, if◌then◌else◌}
use Rattle.std.specs.Char.{encode_utf8}
use Rattle.std.specs.Option.{is_some, option_map_or}
use Rattle.std.specs.List.{enumerate_from}
use Rattle.std.proofs.lemmas.Bool.{cases_lt, cond-true, cond-false, eq-eqb, le-ltb, lt-ltb, ne_eqb}
use Rattle.std.proofs.lemmas.List.{append-nil, get_or-drop, get_or-take, length-drop, length-map, length-take-le, take_all, take_more}
use Rattle.std.proofs.lemmas.List.FromFn.{length-enumerate_from}
use Rattle.std.proofs.lemmas.Option.{none-some}
use Rattle.regex.specs.Patterns.{Re, find_str, span}
use Rattle.stream.proofs.EncodingLemmas.{encoded-append}
use Rattle.ucd.specs.declared.tables.Tables.{Tables}
use Rattle.bidi.specs.Cuts.{paragraphs}
use Rattle.bidi.specs.Pieces.{ArePieces, IsPiece, ParagraphsArePieces}
use Rattle.lines.specs.CharInfos.{infos_of}
use Rattle.lines.specs.Filling.{line_len, line_starts_of, starts}
use Rattle.lines.specs.Layouts.{AreWithin, IsParagraph, Layout, Rules, base_of, cut_by, layout_of, lines_of, unmeasured, visuals}
use Rattle.lines.specs.ShownParts.{margin_of}
use Rattle.lines.specs.Visual.{Line, Visual, is_measured, lines_from, visual_of}
use Rattle.lines.specs.declared.char_info.CharInfo.{CharInfo}
use Rattle.lines.specs.declared.options.Options.{Options}
use Rattle.bidi.specs.Levels.{levels_of}
use Rattle.lines.proofs.VisualLemmas.{lines_within}
use Rattle.sequences.specs.Styled.{DEFAULT, Style}
use Rattle.terminal.specs.Forms.{print_of, rules_in, width_of, with_options}
use Rattle.terminal.specs.Numbers.{numbered}
use Rattle.terminal.specs.Paragraphs.{styled_bytes}
use Rattle.terminal.specs.Parts.{styles_in}
use Rattle.terminal.specs.Prefixes.{bytes_after, formed_bytes, line_prefix, match_len, narrow_line, or_one, prefix_base, prefix_layout, prefix_line, prefixed_bytes, printed_bytes, repeats, span_len}
use Rattle.terminal.specs.declared.form.Form.{Form}
use Rattle.terminal.specs.declared.numbers.Part.{Part}
use Rattle.terminal.proofs.BlockLemmas.{styles_range}

-- ---- patterns

-- appending the UTF-8 of the character at i yields the UTF-8 of the first i + 1 characters
pub encoded_more : (text : List ℕ) (i c : ℕ) (old new : List ℕ) → i < length text → c ≡ get_or text i c → new ≡ old ++ encode_utf8 c
    → old ≡ encode_utf8_all (take i text) → new ≡ encode_utf8_all (take (i + 1) text)
encoded_more text i c old new within is n o =
    n ∙ ap (λ xs. xs ++ encode_utf8 c) o ∙ ap (λ xs. encode_utf8_all (take i text) ++ xs) (sym (append-nil (encode_utf8 c)))
    ∙ sym (encoded-append (take i text) (c ∷ []))
    ∙ ap encode_utf8_all (sym (take_more text i c within ∙ ap (λ x. take i text ++ x ∷ []) (sym is)))

pub match_is : (pattern now : Re) (text bytes : List ℕ) (found : Option (ℕ × ℕ)) (n : ℕ) → now ≡ pattern → bytes ≡ encode_utf8_all text
    → found ≡ option_map span (find_str now bytes 0) → n ≡ option_map_or (span_len bytes) found 0 → n ≡ match_len pattern text
match_is pattern now text bytes found n p b f e =
    e ∙ ap (λ o. option_map_or (span_len bytes) o 0) f
    ∙ ap (λ (r : Re). option_map_or (span_len bytes) (option_map span (find_str r bytes 0)) 0) p
    ∙ ap (λ xs. option_map_or (span_len xs) (option_map span (find_str pattern xs 0)) 0) b

-- ---- rules

-- the rules of an engine after its options were changed, and after they were restored
module _ (rules : Rules) (own : Options) (is : rules ≡ unmeasured rules.tables own) where
  pub options_are : rules.options ≡ own
  options_are = ap (λ (r : Rules). r.options) is

  pub set_rules : (now : Rules) (options : Options) → now ≡ unmeasured rules.tables options → now ≡ with_options rules options
  set_rules now options n =
      let none : rules.advances ≡ None = ap (λ (r : Rules). r.advances) is in
      n ∙ ap (λ (a : Option (List ℕ)). record { tables = rules.tables; options = options; advances = a }) (sym none)

  pub back_rules : (first now last : Rules) (options : Options) → first ≡ unmeasured rules.tables options → now ≡ first → last ≡ unmeasured now.tables own → last ≡ rules
  back_rules first now last options f n l =
      let same : now.tables ≡ rules.tables = ap (λ (r : Rules). r.tables) (n ∙ f) in
      l ∙ ap (λ t. unmeasured t own) same ∙ sym is

pub paragraph_by : (rules now : Rules) (options : Options) (text : List ℕ) → now ≡ with_options rules options → IsParagraph rules text → IsParagraph now text
paragraph_by rules now options text n p =
    subst (λ (r : Rules). IsParagraph r text) (sym n) (record { whole = p.whole; within = p.within })

-- ---- the line of a prefix

lines_len : (f : ℕ × Line → Visual) (lines : List Line) → length (map f (enumerate_from 0 lines)) ≡ length lines
lines_len f lines = length-map (enumerate_from 0 lines) f ∙ length-enumerate_from 0 lines

not_one : (width : ℕ) (lines : List Visual) → length lines ≢ 1 → None ≡ narrow_line width lines
not_one width [] other = refl
not_one width (line ∷ []) other = absurd (other refl)
not_one width (line ∷ next ∷ lines) other = refl

pub narrow_none : (width : ℕ) (layout : Layout) → length layout.lines ≢ 1 → None ≡ narrow_line width (visuals layout)
narrow_none width layout other = not_one width (visuals layout) (λ e. other (sym (lines_len _ layout.lines) ∙ e))

the_line : (width : ℕ) (lines : List Visual) (line : Visual) → length lines ≡ 1 → Some line ≡ slice_get lines 0
    → narrow_line width lines ≡ (if nat_lt line.columns width then Some line else None)
the_line width [] line one got = absurd (omega (arith, one))
the_line width (first ∷ []) line one got =
    ap (λ o. option_map_or (λ (v : Visual). if nat_lt v.columns width then Some v else None) o None) (sym got)
the_line width (first ∷ next ∷ lines) line one got = absurd (omega (arith, one))

module _ (width : ℕ) (layout : Layout) (line : Visual) (one : length layout.lines ≡ 1) (got : Some line ≡ slice_get (visuals layout) 0) where
  of_line : narrow_line width (visuals layout) ≡ (if nat_lt line.columns width then Some line else None)
  of_line = the_line width (visuals layout) line (lines_len _ layout.lines ∙ one) got

  pub narrow_some : line.columns < width → Some line ≡ narrow_line width (visuals layout)
  narrow_some narrow = sym (of_line ∙ cond-true (nat_lt line.columns width) (Some line) None (lt-ltb line.columns width narrow))

-- the only line of a layout, which is narrower than the width
pub record IsOnly (width : ℕ) (f : ℕ × Line → Visual) (lines : List Line) (visual : Visual) : Type 0 where
  pub line : Line
  pub only : lines ≡ line ∷ []
  pub is : visual ≡ f (0, line)
  pub narrow : visual.columns < width

only_of : (width : ℕ) (f : ℕ × Line → Visual) (lines : List Line) (visual : Visual) → Some visual ≡ narrow_line width (map f (enumerate_from 0 lines))
    → IsOnly width f lines visual
only_of width f [] visual e = absurd (none-some visual (sym e))
only_of width f (line ∷ []) visual e =
    let v : Visual = f (0, line) in
    elim (cases_lt v.columns width) [
      | inl narrow ↦
          let same : Some visual ≡ Some v = e ∙ cond-true (nat_lt v.columns width) (Some v) None (lt-ltb v.columns width narrow) in
          let is : visual ≡ v = ap (λ o. option_map_or (λ (x : Visual). x) o v) same in
          record { line = line; only = refl; is = is; narrow = subst (λ (x : Visual). x.columns < width) (sym is) narrow }
      | inr wide ↦ absurd (none-some visual (sym (e ∙ cond-false (nat_lt v.columns width) (Some v) None (le-ltb v.columns width wide))))
    ]
only_of width f (line ∷ next ∷ lines) visual e = absurd (none-some visual (sym e))

pub narrow_is : (width : ℕ) (layout : Layout) (visual : Visual) → Some visual ≡ narrow_line width (visuals layout)
    → IsOnly width (λ nth. visual_of layout.base layout.tab_width layout.advances layout.text layout.lines nth.0 nth.1) layout.lines visual
narrow_is width layout visual e = only_of width _ layout.lines visual e

-- the first line of a paragraph begins at index 0
first_of : (tables : Tables) (options : Options) (margin : Option ℕ) (base : ℕ) (text levels : List ℕ) (infos : List CharInfo) (more : List ℕ) (line : Line)
    → slice_get (lines_from tables options margin base text levels infos (0 ∷ more)) 0 ≡ Some line → line.start ≡ 0
first_of tables options margin base text levels infos [] line e = sym (ap (λ o. option_map_or (λ (l : Line). l.start) o 0) e)
first_of tables options margin base text levels infos (s ∷ more) line e = sym (ap (λ o. option_map_or (λ (l : Line). l.start) o 0) e)

first_by : (tables : Tables) (options : Options) (margin : Option ℕ) (base : ℕ) (text levels : List ℕ) (infos own : List CharInfo) (width : ℕ) (line : Line)
    → slice_get (lines_from tables options margin base text levels infos (starts options.nobreak width 0 0 own)) 0 ≡ Some line → line.start ≡ 0
first_by tables options margin base text levels infos [] width line e = absurd (none-some line e)
first_by tables options margin base text levels infos (p ∷ own) width line e =
    first_of tables options margin base text levels infos (starts options.nobreak width 1 (line_len options.nobreak width (p ∷ own) - 1) own) line e

pub first_start : (rules : Rules) (width : ℕ) (text : List ℕ) (line : Line) → slice_get (lines_of rules width text) 0 ≡ Some line → line.start ≡ 0
unfolding line_starts_of
first_start rules width text line e =
    let infos : List CharInfo = infos_of rules.tables rules.options rules.advances text in
    first_by rules.tables rules.options (margin_of rules.options width) (base_of rules text) text (levels_of rules.tables text rules.options.base) infos infos width line e

zero_left : (k : ℕ) → 0 + k ≡ k
zero_left k = omega arith

-- the characters of a prefix's line are the first characters of the text
pub prefix_text : (rules : Rules) (width wide : ℕ) (text : List ℕ) (layout : Layout) (visual : Visual) → layout ≡ layout_of rules wide text
    → Some visual ≡ narrow_line width (visuals layout) → visual.text ≡ slice_range text 0 (length visual.levels)
prefix_text rules width wide text layout visual l e =
    let only : IsOnly width (λ nth. visual_of layout.base layout.tab_width layout.advances layout.text layout.lines nth.0 nth.1) layout.lines visual =
    narrow_is width layout visual e in
    let line : Line = only.line in
    let n : ℕ = length line.levels in
    let begins : line.start ≡ 0 =
    first_start rules wide text line (sym (ap (λ (a : Layout). slice_get a.lines 0) l) ∙ ap (λ (xs : List Line). slice_get xs 0) only.only) in
    let own : layout.text ≡ text = ap (λ (a : Layout). a.text) l in
    let count : n ≡ length visual.levels = sym (ap (λ (v : Visual). length v.levels) only.is) in
    ap (λ (v : Visual). v.text) only.is ∙ ap (λ s. slice_range layout.text s (s + n)) begins
    ∙ ap (λ k. slice_range layout.text 0 k) (zero_left n) ∙ ap (λ (xs : List ℕ). slice_range xs 0 n) own ∙ ap (λ k. slice_range text 0 k) count

pub prefix_short : (rules : Rules) (width wide : ℕ) (text : List ℕ) (layout : Layout) (visual : Visual) → layout ≡ layout_of rules wide text
    → Some visual ≡ narrow_line width (visuals layout) → length visual.levels ≤ length text
prefix_short rules width wide text layout visual l e =
    let only : IsOnly width (λ nth. visual_of layout.base layout.tab_width layout.advances layout.text layout.lines nth.0 nth.1) layout.lines visual =
    narrow_is width layout visual e in
    let line : Line = only.line in
    let within : AreWithin (length text) (line ∷ []) =
    subst (λ (xs : List Line). AreWithin (length text) xs) (sym (ap (λ (a : Layout). a.lines) l) ∙ only.only) (lines_within rules wide text) in
    omega (arith, within 0 line (omega arith), ap (λ (v : Visual). length v.levels) only.is)

pub prefix_plain : (width : ℕ) (layout : Layout) (visual : Visual) → layout.advances ≡ None → Some visual ≡ narrow_line width (visuals layout)
    → is_measured visual ≡ false
prefix_plain width layout visual none e =
    let only : IsOnly width (λ nth. visual_of layout.base layout.tab_width layout.advances layout.text layout.lines nth.0 nth.1) layout.lines visual =
    narrow_is width layout visual e in
    let line : Line = only.line in
    ap (λ (v : Visual). is_some v.advances) only.is
    ∙ ap (λ (a : Option (List ℕ)). is_some (option_map (λ xs. slice_range xs line.start (line.start + length line.levels)) a)) none

-- ---- what follows a prefix

pub or_one-some : {A : Type 0} (a : A) (xs : List A) → 0 < length xs → or_one a xs ≡ xs
or_one-some a [] some = absurd (omega (arith, some))
or_one-some a (x ∷ xs) some = refl

pub or_one-none : {A : Type 0} (a : A) (xs : List A) → length xs ≡ 0 → or_one a xs ≡ a ∷ []
or_one-none a [] none = refl
or_one-none a (x ∷ xs) none = absurd (omega (arith, none))

-- the styles of the text after a prefix are the suffix of the part's styles that begins at the end of the
-- prefix
pub after_some : (part own : Part) (start end : ℕ) → length part.numbers.now ≡ end → start < end → own.numbers.now ≡ slice_range part.numbers.now start end
    → own.text.now ≡ part.text.now → styles_in own ≡ or_one DEFAULT (drop start (styles_in part))
after_some part own start end len more n t =
    let styles : List Style = styles_in part in
    let count : length styles ≡ end = length-map part.numbers.now (numbered part.text.now.links.items part.text.now.runs.items) ∙ len in
    let left : length (drop start styles) ≡ end - start = length-drop start styles ∙ ap (λ k. k - start) count in
    styles_range part own start end n t ∙ take_all (end - start) (drop start styles) (omega (arith, left))
    ∙ sym (or_one-some DEFAULT (drop start styles) (omega (arith, left, more)))

pub after_none : (part : Part) (start : ℕ) → length part.numbers.now ≤ start → or_one DEFAULT (drop start (styles_in part)) ≡ DEFAULT ∷ []
after_none part start none =
    let styles : List Style = styles_in part in
    let count : length styles ≡ length part.numbers.now = length-map part.numbers.now (numbered part.text.now.links.items part.text.now.runs.items) in
    or_one-none DEFAULT (drop start styles) (omega (arith, length-drop start styles, count, none))

pub front_of : {A : Type 0} (list own : List A) (n : ℕ) → own ≡ slice_range list 0 n → own ≡ take n list
front_of list own n e =
    let same : n - 0 ≡ n = omega arith in
    e ∙ ap (λ k. take k list) same

pub some_prefix : (rules : Rules) (form : Form) (text : List ℕ) (styles : List Style) (n : ℕ) → 0 < n
    → prefixed_bytes rules form text styles n ≡ bytes_after rules form text styles n (prefix_line rules form text styles n)
some_prefix rules form text styles zero some = absurd (omega (arith, some))
some_prefix rules form text styles (suc n) some = refl

-- the line that the code finds for a prefix is `prefix_line`
pub line_found : (rules now : Rules) (form : Form) (text : List ℕ) (styles : List Style) (n : ℕ) (own rest : List ℕ) (width base : ℕ) (layout : Layout) (found : Option Visual)
    → now ≡ rules → rest ≡ or_one 10 (drop n text) → own ≡ take n text → base ≡ prefix_base form.prefix (base_of rules rest) → layout ≡ prefix_layout now base own → width ≡ width_of form
    → found ≡ narrow_line width (visuals layout) → found ≡ prefix_line rules form text styles n
line_found rules now form text styles n own rest width base layout found r t o b l w f =
    let of : List ℕ → ℕ = λ xs. prefix_base form.prefix (base_of rules xs) in
    let direction : base ≡ of (or_one 10 (drop n text)) = b ∙ ap of t in
    f ∙ ap (λ k. narrow_line k (visuals layout)) w
    ∙ ap (λ (a : Layout). narrow_line (width_of form) (visuals a)) (l ∙ ap (λ (q : Rules). prefix_layout q base own) r
    ∙ ap (λ k. prefix_layout rules k own) direction ∙ ap (prefix_layout rules (of (or_one 10 (drop n text)))) o)

module _ (rules now : Rules) (form : Form) (text : List ℕ) (styles : List Style) (n : ℕ) (some : 0 < n) (same : now ≡ rules) where
  pub split_is : (repeated : Bool) (visual : Visual) (own_styles rest_styles : List Style) (rest page new : List ℕ) → repeated ≡ repeats form.prefix → Some visual ≡ prefix_line rules form text styles n
      → own_styles ≡ take n styles → rest ≡ or_one 10 (drop n text) → rest_styles ≡ or_one DEFAULT (drop n styles)
      → new ≡ page ++ styled_bytes (Some (line_prefix repeated (print_of form) visual own_styles)) now (width_of form - visual.columns) (print_of form) rest rest_styles
      → new ≡ page ++ prefixed_bytes rules form text styles n
  split_is repeated visual own_styles rest_styles rest page new b found o t u e =
      let bytes : Bool → List Style → Rules → List ℕ → List Style → List ℕ =
      λ q own r xs ss. styled_bytes (Some (line_prefix q (print_of form) visual own)) r (width_of form - visual.columns) (print_of form) xs ss in
      e ∙ ap (λ xs. page ++ xs) (ap (λ q. bytes q own_styles now rest rest_styles) b ∙ ap (λ own. bytes (repeats form.prefix) own now rest rest_styles) o
      ∙ ap (λ (r : Rules). bytes (repeats form.prefix) (take n styles) r rest rest_styles) same
      ∙ ap₂ (bytes (repeats form.prefix) (take n styles) rules) t u ∙ ap (bytes_after rules form text styles n) found ∙ sym (some_prefix rules form text styles n some))

  pub whole_is : (page new : List ℕ) → None ≡ prefix_line rules form text styles n
      → new ≡ page ++ styled_bytes None now (width_of form) (print_of form) text styles → new ≡ page ++ prefixed_bytes rules form text styles n
  whole_is page new none e =
      e ∙ ap (λ xs. page ++ xs) (ap (λ (r : Rules). styled_bytes None r (width_of form) (print_of form) text styles) same
      ∙ ap (bytes_after rules form text styles n) none ∙ sym (some_prefix rules form text styles n some))

-- ---- rules for a form

pub rules_wide : (rules : Rules) (form : Form) → 0 < form.width → rules ≡ rules_in form rules
rules_wide rules form some =
    sym (cond-false (form.width == 0) (with_options rules (record rules.options { nobreak = true })) rules (ne_eqb form.width 0 (λ e. omega (arith, some, e))))

pub rules_unlimited : (rules now : Rules) (form : Form) (own : Options) → form.width ≤ 0 → rules ≡ unmeasured rules.tables own
    → now ≡ unmeasured rules.tables (record own { nobreak = true }) → now ≡ rules_in form rules
rules_unlimited rules now form own none is n =
    set_rules rules own is now (record own { nobreak = true }) n
    ∙ ap (λ (o : Options). with_options rules (record o { nobreak = true })) (sym (options_are rules own is))
    ∙ sym (cond-true (form.width == 0) (with_options rules (record rules.options { nobreak = true })) rules (eq-eqb form.width 0 (omega (arith, none))))

pub printed_is : (rules now : Rules) (form : Form) (text : List ℕ) (styles : List Style) (page new : List ℕ) → now ≡ rules_in form rules
    → new ≡ page ++ formed_bytes now form text styles → new ≡ page ++ printed_bytes rules form text styles
unfolding printed_bytes
printed_is rules now form text styles page new n e = e ∙ ap (λ (r : Rules). page ++ formed_bytes r form text styles) n

-- ---- paragraphs

module _ (law : ParagraphsArePieces) (rules : Rules) (text : List ℕ) (paragraph : IsParagraph rules text) where
  whole : IsPiece (cut_by rules) text
  whole = subst (ArePieces (cut_by rules)) paragraph.whole (law.pieces (cut_by rules) text)

  alone : (piece : List ℕ) → IsPiece (cut_by rules) piece → length piece ≤ length text → IsParagraph rules piece
  alone piece is short = record {
    whole = ap (paragraphs (cut_by rules)) (sym (append-nil piece)) ∙ law.only (cut_by rules) (piece ∷ []) is;
    within = omega (arith, short, paragraph.within);
  }

  pub front_is : (n : ℕ) → 0 < n → n ≤ length text → IsParagraph rules (take n text)
  front_is n some within =
      let len : length (take n text) ≡ n = length-take-le n text within in
      alone (take n text) (record {
        filled = omega (arith, len, some);
        uncut = λ k h.
            let below : k + 1 < n = omega (arith, h, len) in
            rw (get_or-take n text k 0 (omega (arith, below)), get_or-take n text (k + 1) 0 below) (whole.uncut k (omega (arith, below, within)));
      }) (omega (arith, len, within))

  pub back_is : (n : ℕ) → n < length text → IsParagraph rules (drop n text)
  back_is n within =
      let len : length (drop n text) ≡ length text - n = length-drop n text in
      alone (drop n text) (record {
        filled = omega (arith, len, within);
        uncut = λ k h.
            let next : n + (k + 1) ≡ (n + k) + 1 = omega arith in
            rw (get_or-drop n text k 0, get_or-drop n text (k + 1) 0, next) (whole.uncut (n + k) (omega (arith, h, len)));
      }) (omega (arith, len))

  -- the text after a prefix, or a newline if there is none, is a paragraph
  pub rest_is : (n : ℕ) → n ≤ length text → IsParagraph rules (or_one 10 (drop n text))
  rest_is n within = elim (cases_lt n (length text)) [
    | inl more ↦ subst (IsParagraph rules) (sym (or_one-some 10 (drop n text) (omega (arith, length-drop n text, more)))) (back_is n more)
    | inr none ↦
        subst (IsParagraph rules) (sym (or_one-none 10 (drop n text) (omega (arith, length-drop n text, none)))) (record { whole = refl; within = omega arith })
  ]

pub own_paragraph : ParagraphsArePieces → (rules now : Rules) (text own : List ℕ) (n : ℕ) → now ≡ rules → own ≡ slice_range text 0 n → 0 < n → n ≤ length text
    → IsParagraph rules text → IsParagraph now own
own_paragraph law rules now text own n r o some within p =
    subst (λ (q : Rules). IsParagraph q own) (sym r) (subst (IsParagraph rules) (sym (front_of text own n o)) (front_is law rules text p n some within))

pub rest_paragraph : ParagraphsArePieces → (rules now : Rules) (text rest : List ℕ) (n : ℕ) → now ≡ rules → rest ≡ or_one 10 (drop n text) → n ≤ length text
    → IsParagraph rules text → IsParagraph now rest
rest_paragraph law rules now text rest n r o within p =
    subst (λ (q : Rules). IsParagraph q rest) (sym r) (subst (IsParagraph rules) (sym o) (rest_is law rules text p n within))
