-- The newline at the end of what is written.
use Rattle.std.proofs.Common.{◌≡◌, ℕ, zero, suc, ◌+◌, ◌-◌, ◌<◌, ◌≤◌, lit<, Bool, true, false, List, [], ◌∷◌, ◌++◌, length, take, drop, encode_utf8_all, Option, Some, None, if◌then◌else◌, refl, sym, subst, ap, ap₂, ◌∙◌, append_assoc, arith}
use Rattle.std.specs.Prelude.{◌&&◌, not, codes, slice_get}
use Rattle.std.specs.Char.{encode_utf8}
use Rattle.std.specs.Option.{option_or}
use Rattle.std.specs.List.{concat, enumerate_from, flat_map, onto_first}
use Rattle.std.proofs.lemmas.List.{append-nil, length-append, length-drop, length-map, length-take, length-take-le, nil_from_length}
use Rattle.std.proofs.Math.Seq.{take-append-add}
use Rattle.std.proofs.lemmas.List.FromFn.{length-enumerate_from}
use Rattle.ucd.specs.declared.tables.Tables.{Tables}
use Rattle.stream.proofs.EncodingLemmas.{encoded-append}
use Rattle.reorder.specs.Order.{is_odd}
use Rattle.bidi.specs.Cuts.{paragraphs}
use Rattle.bidi.specs.Levels.{levels_of}
use Rattle.breaks.specs.Marks.{marks_of}
use Rattle.breaks.proofs.WalkLemmas.{length-marks}
use Rattle.lines.specs.Bytes.{direction_line}
use Rattle.lines.specs.CharInfos.{infos, infos_of}
use Rattle.lines.specs.Clusters.{cluster_ends}
use Rattle.lines.specs.Filling.{line_starts_of}
use Rattle.lines.specs.Layouts.{Rules, base_of, cut_by, layout_of, lines_of}
use Rattle.lines.specs.ShownParts.{margin_of}
use Rattle.lines.specs.Tabs.{tab_width_in}
use Rattle.lines.specs.Visual.{Visual, lines_from}
use Rattle.lines.specs.declared.char_info.CharInfo.{CharInfo}
use Rattle.lines.specs.declared.options.Options.{Options}
use Rattle.lines.specs.declared.printing.print.Print.{Print}
use Rattle.lines.proofs.ClusterLemmas.{length-cluster_ends}
use Rattle.lines.proofs.SkippedLemmas.{length-infos}
use Rattle.lines.proofs.WidthLemmas.{length-sized}
use Rattle.sequences.specs.Laws.{characters_of}
use Rattle.sequences.specs.Output.{written}
use Rattle.sequences.specs.Styled.{Pen, START, Style, shown_text}
use Rattle.terminal.specs.Forms.{rules_in}
use Rattle.terminal.specs.Lines.{LinePrefix, shown_line, styled_line, styled_lines, with_prefix}
use Rattle.terminal.specs.Newlines.{EndsIn, PagesEndInNewlines, ended_page, is_ended, last_of, without_last}
use Rattle.terminal.specs.Paragraphs.{styled_bytes, styles_of, styled_nth}
use Rattle.terminal.specs.Pieces.{first_pieces, in_direction, pieces, printed_pieces}
use Rattle.terminal.specs.Prefixes.{bytes_after, or_one, prefix_len, prefix_line, prefixed_bytes, printed_bytes, printed_paragraph}
use Rattle.terminal.specs.Texts.{block_page, blocks, in_mode, input_text, regrouped, shown_blocks, text_page}
use Rattle.terminal.specs.Whole.{joined}
use Rattle.terminal.specs.declared.form.Escapes.{Escapes}
use Rattle.terminal.specs.declared.form.Escapes.TheVariants.{Keep, Strip, Text}
use Rattle.terminal.specs.declared.form.Form.{Form}
use Rattle.terminal.proofs.BlockLemmas.{mode_characters}
use Rattle.terminal.proofs.WholeLemmas.{onto_concat, shown_whole}

-- ---- lists that end in a newline

ends-append : (c : ℕ) (xs ys : List ℕ) → EndsIn c ys → EndsIn c (xs ++ ys)
ends-append c xs ys e = record { front = xs ++ e.front; is = ap (λ t. xs ++ t) e.is ∙ sym (append_assoc xs e.front (c ∷ [])) }

ends-nil : (c : ℕ) (xs : List ℕ) → EndsIn c xs → EndsIn c (xs ++ [])
ends-nil c xs e = subst (EndsIn c) (sym (append-nil xs)) e

flat_map_ends : {X : Type 0} (c : ℕ) (f : X → List ℕ) (xs : List X) → ((x : X) → EndsIn c (f x)) → 0 < length xs → EndsIn c (flat_map f xs)
flat_map_ends c f [] each some = absurd (omega (arith, some))
flat_map_ends c f (x ∷ []) each some = ends-nil c (f x) (each x)
flat_map_ends c f (x ∷ y ∷ xs) each some = ends-append c (f x) (flat_map f (y ∷ xs)) (flat_map_ends c f (y ∷ xs) each (omega arith))

newline_encoded : encode_utf8_all (10 ∷ []) ≡ 10 ∷ []
unfolding encode_utf8
newline_encoded = refl

encoded_ends : (text : List ℕ) → EndsIn 10 text → EndsIn 10 (encode_utf8_all text)
encoded_ends text e = record {
  front = encode_utf8_all e.front;
  is = ap encode_utf8_all e.is ∙ encoded-append e.front (10 ∷ []) ∙ ap (λ xs. encode_utf8_all e.front ++ xs) newline_encoded;
}

choice_ends : (b : Bool) (xs ys : List ℕ) → EndsIn 10 xs → EndsIn 10 ys → EndsIn 10 (if b then xs else ys)
choice_ends true xs ys x y = x
choice_ends false xs ys x y = y

-- ---- the lines of a paragraph

direction_ends : (base : ℕ) → EndsIn 10 (direction_line base)
direction_ends base =
    choice_ends (is_odd base) (codes "RTL\n") (codes "LTR\n") (record { front = codes "RTL"; is = refl }) (record { front = codes "LTR"; is = refl })

styled_ends : (prefix : Option LinePrefix) (width : ℕ) (print : Print) (visual : Visual) (styles : List Style) → EndsIn 10 (styled_lines prefix width print visual styles)
styled_ends prefix width print visual styles = after_line (print.basedir && visual.is_first)
  where
    line : EndsIn 10 (styled_line prefix width print visual styles)
    line = record { front = written (with_prefix prefix visual (shown_line width print visual styles)); is = refl }

    after_line : (b : Bool) → EndsIn 10 (styled_line prefix width print visual styles ++ (if b then direction_line visual.base else []))
    after_line true = ends-append 10 (styled_line prefix width print visual styles) (direction_line visual.base) (direction_ends visual.base)
    after_line false = ends-nil 10 (styled_line prefix width print visual styles) line

some_starts : (nobreak : Bool) (width : ℕ) (ps : List CharInfo) → 0 < length ps → 0 < length (line_starts_of nobreak width ps)
unfolding line_starts_of
some_starts nobreak width [] some = some
some_starts nobreak width (p ∷ ps) some = omega arith

length-lines : (tables : Tables) (options : Options) (margin : Option ℕ) (base : ℕ) (text levels : List ℕ) (ps : List CharInfo) (starts : List ℕ)
    → length (lines_from tables options margin base text levels ps starts) ≡ length starts
length-lines tables options margin base text levels ps [] = refl
length-lines tables options margin base text levels ps (s ∷ []) = refl
length-lines tables options margin base text levels ps (s ∷ t ∷ starts) = ap suc (length-lines tables options margin base text levels ps (t ∷ starts))

some_lines : (rules : Rules) (width : ℕ) (text : List ℕ) → 0 < length text → 0 < length (lines_of rules width text)
unfolding infos_of
some_lines rules width text some =
    let ps : List CharInfo = infos_of rules.tables rules.options rules.advances text in
    let marks = marks_of rules.tables rules.options.whole_numbers text in
    let tab = tab_width_in rules.tables rules.options in
    let all = length-marks rules.tables rules.options.whole_numbers text in
    let size =
    length-sized rules.advances (infos rules.tables tab text marks (cluster_ends text))
    ∙ length-infos rules.tables tab text marks (cluster_ends text) (omega (arith, all)) (length-cluster_ends text) in
    let starts = line_starts_of rules.options.nobreak width ps in
    let count : 0 < length starts = some_starts rules.options.nobreak width ps (omega (arith, size, some)) in
    let same : length (lines_of rules width text) ≡ length starts =
    length-lines rules.tables rules.options (margin_of rules.options width) (base_of rules text) text (levels_of rules.tables text rules.options.base) ps starts in
    omega (arith, same, count)

styled_bytes_end : (prefix : Option LinePrefix) (rules : Rules) (width : ℕ) (print : Print) (text : List ℕ) (styles : List Style) → 0 < length text
    → EndsIn 10 (styled_bytes prefix rules width print text styles)
unfolding styled_bytes
styled_bytes_end prefix rules width print text styles some =
    let lines = lines_of rules width text in
    encoded_ends _ (flat_map_ends 10 (styled_nth prefix width print (layout_of rules width text) styles) (enumerate_from 0 lines)
    (λ nth. styled_ends prefix width print _ _) (omega (arith, some_lines rules width text some, length-enumerate_from 0 lines)))

or_one_some : {A : Type 0} (a : A) (list : List A) → 0 < length (or_one a list)
or_one_some a [] = omega arith
or_one_some a (b ∷ list) = omega arith

prefixed_end : (rules : Rules) (form : Form) (text : List ℕ) (styles : List Style) (n : ℕ) → 0 < length text → EndsIn 10 (prefixed_bytes rules form text styles n)
prefixed_end rules form text styles zero some = styled_bytes_end None rules _ _ text styles some
prefixed_end rules form text styles (suc n) some = by_line (prefix_line rules form text styles (suc n))
  where
    by_line : (line : Option Visual) → EndsIn 10 (bytes_after rules form text styles (suc n) line)
    by_line None = styled_bytes_end None rules _ _ text styles some
    by_line (Some line) = styled_bytes_end (Some _) rules _ _ (or_one 10 (drop (suc n) text)) _ (or_one_some 10 (drop (suc n) text))

printed_end : (rules : Rules) (form : Form) (text : List ℕ) (styles : List Style) → 0 < length text → EndsIn 10 (printed_bytes rules form text styles)
unfolding printed_bytes
printed_end rules form text styles some =
    prefixed_end (rules_in form rules) form text styles (prefix_len (rules_in form rules).tables form.prefix text) some

-- ---- the pieces of a paragraph

piece_end : (rules : Rules) (form : Form) (shown : List (ℕ × Style)) → 0 < length shown → EndsIn 10 (printed_paragraph rules form shown)
piece_end rules form shown some =
    printed_end rules form (characters_of shown) (styles_of shown) (omega (arith, some, length-map shown (λ (c : ℕ × Style). c.0)))

take_some : {A : Type 0} (k : ℕ) (text : List A) → 0 < k → 0 < length text → 0 < length (take k text)
take_some k text some filled = omega (arith, some, filled, length-take k text)

nothing : 0 < 0 → ⊥
nothing h = omega (arith, h)

some_more : {A : Type 0} (a : A) (list : List A) → 0 < length (a ∷ list)
some_more a list = omega arith

first_end : (rules : Rules) (form : Form) (shown : List (ℕ × Style)) → 0 < length shown → EndsIn 10 (printed_paragraph rules form (take 1048576 shown))
first_end rules form shown some = piece_end rules form (take 1048576 shown) (take_some 1048576 shown (lit< tt) some)

each_end : (rules : Rules) (form : Form) (n : ℕ) (shown : List (ℕ × Style)) → 0 < length (first_pieces n shown) → EndsIn 10 (flat_map (printed_paragraph rules form) (first_pieces n shown))
each_end rules form zero shown some = absurd (nothing some)
each_end rules form (suc n) [] some = absurd (nothing some)
each_end rules form (suc n) (c ∷ shown) some =
    by_rest (first_pieces n (drop 1048576 (c ∷ shown))) (each_end rules form n (drop 1048576 (c ∷ shown)))
  where
    own : List ℕ
    own = printed_paragraph rules form (take 1048576 (c ∷ shown))

    by_rest : (rest : List (List (ℕ × Style))) → (0 < length rest → EndsIn 10 (flat_map (printed_paragraph rules form) rest)) → EndsIn 10 (own ++ flat_map (printed_paragraph rules form) rest)
    by_rest [] later = ends-nil 10 own (first_end rules form (c ∷ shown) (some_more c shown))
    by_rest (p ∷ rest) later = ends-append 10 own _ (later (some_more p rest))

pieces_end : (rules : Rules) (form : Form) (shown : List (ℕ × Style)) → 0 < length shown → EndsIn 10 (printed_pieces rules form shown)
unfolding printed_pieces pieces
pieces_end rules form shown some = by_rest (first_pieces (length (drop 1048576 shown)) (drop 1048576 shown)) (each_end (in_direction rules (base_of rules (characters_of (take 1048576 shown)))) form (length (drop 1048576 shown)) (drop 1048576 shown))
  where
    by_rest : (rest : List (List (ℕ × Style)))
        → (0 < length rest → EndsIn 10 (flat_map (printed_paragraph (in_direction rules (base_of rules (characters_of (take 1048576 shown)))) form) rest))
        → EndsIn 10 (printed_paragraph rules form (take 1048576 shown) ++ flat_map (printed_paragraph (in_direction rules (base_of rules (characters_of (take 1048576 shown)))) form) rest)
    by_rest [] ends = ends-nil 10 (printed_paragraph rules form (take 1048576 shown)) (first_end rules form shown some)
    by_rest (p ∷ rest) ends = ends-append 10 (printed_paragraph rules form (take 1048576 shown)) _ (ends (some_more p rest))

-- ---- the paragraphs of a block

AreSome : List (List ℕ) → Type 0
AreSome [] = Unit {0}
AreSome (p ∷ ps) = (0 < length p) × AreSome ps

onto_some : (c : ℕ) (ps : List (List ℕ)) → AreSome ps → AreSome (onto_first c ps)
unfolding AreSome
onto_some c [] some = (omega arith, tt)
onto_some c (p ∷ ps) some = (omega arith, some.1)

module _ (is_cut : ℕ → ℕ → Bool) where
  paragraphs_some : (text : List ℕ) → AreSome (paragraphs is_cut text)
  unfolding AreSome
  paragraphs_some [] = tt
  paragraphs_some (a ∷ []) = (omega arith, tt)
  paragraphs_some (a ∷ b ∷ text) = by_test (paragraphs_some (b ∷ text)) (is_cut a b)
    where
      by_test : AreSome (paragraphs is_cut (b ∷ text)) → (t : Bool) → AreSome (if t then (a ∷ []) ∷ paragraphs is_cut (b ∷ text) else onto_first a (paragraphs is_cut (b ∷ text)))
      by_test rest true = (omega arith, rest)
      by_test rest false = onto_some a (paragraphs is_cut (b ∷ text)) rest

  paragraphs_whole : (text : List ℕ) → concat (paragraphs is_cut text) ≡ text
  paragraphs_whole [] = refl
  paragraphs_whole (a ∷ []) = refl
  paragraphs_whole (a ∷ b ∷ text) = by_test (paragraphs_whole (b ∷ text)) (is_cut a b)
    where
      by_test : concat (paragraphs is_cut (b ∷ text)) ≡ b ∷ text → (t : Bool) → concat (if t then (a ∷ []) ∷ paragraphs is_cut (b ∷ text) else onto_first a (paragraphs is_cut (b ∷ text))) ≡ a ∷ b ∷ text
      by_test rest true = ap (λ xs. a ∷ xs) rest
      by_test rest false = onto_concat a (paragraphs is_cut (b ∷ text)) ∙ ap (λ xs. a ∷ xs) rest

module _ (rules : Rules) (form : Form) where
  group_ends : (n : ℕ) (shown : List (ℕ × Style)) → 0 < n → n ≤ length shown → EndsIn 10 (printed_pieces rules form (take n shown))
  group_ends n shown some within = pieces_end rules form (take n shown) (omega (arith, some, within, length-take-le n shown within))

  groups_end : (groups : List (List ℕ)) (shown : List (ℕ × Style)) → AreSome groups → 0 < length groups → length (concat groups) ≡ length shown
      → EndsIn 10 (flat_map (printed_pieces rules form) (regrouped groups shown))
  unfolding AreSome
  groups_end [] shown are some len = absurd (omega (arith, some))
  groups_end (g ∷ []) shown are some len =
      ends-nil 10 (printed_pieces rules form (take (length g) shown)) (group_ends (length g) shown are.0 (omega (arith, len, length-append g [])))
  groups_end (g ∷ h ∷ groups) shown are some len =
      ends-append 10 (printed_pieces rules form (take (length g) shown)) _
      (groups_end (h ∷ groups) (drop (length g) shown) are.1 (omega arith)
      (omega (arith, len, length-append g (concat (h ∷ groups)), length-drop (length g) shown)))

  block_ends : (shown : List (ℕ × Style)) → 0 < length shown → EndsIn 10 (block_page rules form shown)
  unfolding block_page
  block_ends shown some =
      let own = in_mode form.escapes shown in
      let cs = characters_of own in
      let groups = paragraphs (cut_by rules) cs in
      let size : length cs ≡ length shown = ap length (mode_characters form.escapes shown) ∙ length-map shown (λ (c : ℕ × Style). c.0) in
      let count : length cs ≡ length own = length-map own (λ (c : ℕ × Style). c.0) in
      groups_end groups own (paragraphs_some (cut_by rules) cs) (some_groups groups (omega (arith, ap length (paragraphs_whole (cut_by rules) cs), size, some)))
      (ap length (paragraphs_whole (cut_by rules) cs) ∙ count)
    where
      some_groups : (groups : List (List ℕ)) → 0 < length (concat groups) → 0 < length groups
      some_groups [] some = some
      some_groups (g ∷ groups) some = omega arith

  block_none : block_page rules form [] ≡ []
  unfolding block_page
  block_none = by_mode form.escapes
    where
      by_mode : (escapes : Escapes) → flat_map (printed_pieces rules form) (regrouped (paragraphs (cut_by rules) (characters_of (in_mode escapes []))) (in_mode escapes [])) ≡ []
      by_mode Keep = refl
      by_mode Strip = refl
      by_mode Text = refl

  -- the page of a block that shows nothing is empty
  pub pages_none : (parts : List (List (ℕ × Style))) → length (joined parts) ≡ 0 → flat_map (block_page rules form) parts ≡ []
  pages_none [] none = refl
  pages_none (p ∷ parts) none =
      let first : p ≡ [] = nil_from_length p (omega (arith, none, length-append p (joined parts))) in
      ap₂ (λ (xs ys : List ℕ). xs ++ ys) (ap (block_page rules form) first ∙ block_none) (pages_none parts (omega (arith, none, length-append p (joined parts))))

  -- the page of any other block ends in a newline
  pub pages_end : (parts : List (List (ℕ × Style))) → 0 < length (joined parts) → EndsIn 10 (flat_map (block_page rules form) parts)
  pages_end [] some = absurd (omega (arith, some))
  pages_end (p ∷ parts) some = by_rest (pages_end parts) (joined parts) refl
    where
      by_rest : (0 < length (joined parts) → EndsIn 10 (flat_map (block_page rules form) parts)) → (rest : List (ℕ × Style)) → joined parts ≡ rest → EndsIn 10 (block_page rules form p ++ flat_map (block_page rules form) parts)
      by_rest later [] e =
          subst (λ (xs : List ℕ). EndsIn 10 (block_page rules form p ++ xs)) (sym (pages_none parts (ap length e)))
          (ends-nil 10 (block_page rules form p) (block_ends p (omega (arith, some, length-append p (joined parts), ap length e))))
      by_rest later (c ∷ rest) e = ends-append 10 (block_page rules form p) _ (later (omega (arith, ap length e)))

  -- all blocks of a text together show the same number of characters as the text
  pub count_shown : (pen : Pen) (text : List ℕ) → length (joined (shown_blocks pen (blocks (cut_by rules) text))) ≡ length (shown_text text)
  count_shown pen text =
      sym (length-map (joined (shown_blocks pen (blocks (cut_by rules) text))) (λ (c : ℕ × Style). c.0))
      ∙ ap length (shown_whole (cut_by rules) (length text) pen text (omega arith))

  pub text_end : (pen : Pen) (text : List ℕ) → 0 < length (shown_text text) → EndsIn 10 (text_page rules form pen text)
  text_end pen text some = pages_end (shown_blocks pen (blocks (cut_by rules) text)) (omega (arith, some, count_shown pen text))

  pub text_none : (pen : Pen) (text : List ℕ) → length (shown_text text) ≡ 0 → text_page rules form pen text ≡ []
  text_none pen text none = pages_none (shown_blocks pen (blocks (cut_by rules) text)) (omega (arith, none, count_shown pen text))

pub pages_end_in_newlines : PagesEndInNewlines
pages_end_in_newlines rules form bytes some = text_end rules form START (input_text form.escapes bytes) some

-- ---- the last character

last_at : (c : ℕ) (text : List ℕ) (k : ℕ) → k ≡ length text → slice_get (c ∷ text) k ≡ last_of (c ∷ text)
last_at c [] zero e = refl
last_at c [] (suc k) e = absurd (omega (arith, e))
last_at c (d ∷ text) zero e = absurd (omega (arith, e))
last_at c (d ∷ text) (suc k) e = last_at d text k (omega (arith, e))

pub last_is : (text : List ℕ) → slice_get text (length text - 1) ≡ last_of text
last_is [] = refl
last_is (c ∷ text) = last_at c text (length (c ∷ text) - 1) (omega arith)

or_none : (o : Option ℕ) → o ≡ option_or o None
or_none None = refl
or_none (Some c) = refl

onto_last : (x : ℕ) (text : List ℕ) → last_of (x ∷ text) ≡ option_or (last_of text) (Some x)
onto_last x [] = refl
onto_last x (y ∷ text) = some_last y text
  where
    some_last : (y : ℕ) (text : List ℕ) → last_of (y ∷ text) ≡ option_or (last_of (y ∷ text)) (Some x)
    some_last y [] = refl
    some_last y (z ∷ text) = some_last z text

or_assoc : (a b c : Option ℕ) → option_or (option_or a b) c ≡ option_or a (option_or b c)
or_assoc None b c = refl
or_assoc (Some x) b c = refl

pub last-append : (xs ys : List ℕ) → last_of (xs ++ ys) ≡ option_or (last_of ys) (last_of xs)
last-append [] ys = or_none (last_of ys)
last-append (x ∷ xs) ys =
    onto_last x (xs ++ ys) ∙ ap (λ (o : Option ℕ). option_or o (Some x)) (last-append xs ys) ∙ or_assoc (last_of ys) (last_of xs) (Some x)
    ∙ ap (λ (o : Option ℕ). option_or (last_of ys) o) (sym (onto_last x xs))

pub or_ended : (tables : Tables) (a b : Option ℕ) → is_ended tables a ≡ true → is_ended tables b ≡ true → is_ended tables (option_or a b) ≡ true
or_ended tables None b x y = y
or_ended tables (Some c) b x y = x

-- ---- the page at the end of an input

without-append : (front page : List ℕ) → EndsIn 10 page → without_last (front ++ page) ≡ front ++ without_last page
without-append front page e =
    let count : length page ≡ length e.front + 1 = ap length e.is ∙ length-append e.front (10 ∷ []) in
    let n : length (front ++ page) - 1 ≡ length front + (length page - 1) = omega (arith, length-append front page, count) in
    ap (λ k. take k (front ++ page)) n ∙ take-append-add front page (length page - 1)

-- `ended_page` removes a newline only from the last page
pub ended-append : (tables : Tables) (is_last : Bool) (front page shown : List ℕ) → (0 < length shown → EndsIn 10 page)
    → ended_page tables is_last (last_of shown) (front ++ page) ≡ front ++ ended_page tables is_last (last_of shown) page
ended-append tables is_last front page [] ends = by_last is_last
  where
    by_last : (b : Bool) → (if b && false then without_last (front ++ page) else front ++ page) ≡ front ++ (if b && false then without_last page else page)
    by_last true = refl
    by_last false = refl
ended-append tables is_last front page (c ∷ shown) ends = by_tests is_last (is_ended tables (last_of (c ∷ shown)))
  where
    by_tests : (a b : Bool) → (if a && not b then without_last (front ++ page) else front ++ page) ≡ front ++ (if a && not b then without_last page else page)
    by_tests false b = refl
    by_tests true true = refl
    by_tests true false = without-append front page (ends (omega arith))

-- `ended_page` does not change the page of a text that ends a line
pub ended_keeps : (tables : Tables) (is_last : Bool) (last : Option ℕ) (page : List ℕ) → is_ended tables last ≡ true → ended_page tables is_last last page ≡ page
ended_keeps tables is_last last page e = ap (λ (b : Bool). if is_last && not b then without_last page else page) e ∙ by_last is_last
  where
    by_last : (b : Bool) → (if b && false then without_last page else page) ≡ page
    by_last true = refl
    by_last false = refl
