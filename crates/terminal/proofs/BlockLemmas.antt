-- What a block shows, one paragraph at a time.
use Rattle.std.proofs.Common.{◌≡◌, ℕ, suc, ◌+◌, ◌-◌, ◌<◌, ◌≤◌, Bool, List, [], ◌∷◌, ◌++◌, length, map, take, drop, get_or, Some, None, refl, sym, subst, ap, ap₂, ◌∙◌, append_assoc, arith}
use Rattle.std.specs.Prelude.{slice_range}
use Rattle.std.specs.List.{flat_map}
use Rattle.std.proofs.lemmas.List.{append-nil, drop-drop, drop-map, length-drop, length-map, length-take-le, nil_from_length, take-map, take_all}
use Rattle.bidi.specs.Cuts.{SplitsAt, paragraphs}
use Rattle.bidi.specs.Pieces.{ArePieces, IsPiece, ParagraphsArePieces}
use Rattle.lines.specs.Layouts.{Rules, cut_by}
use Rattle.sequences.specs.Laws.{characters_of}
use Rattle.sequences.specs.Styled.{DEFAULT, Style}
use Rattle.sequences.specs.StyledTexts.{styled_of}
use Rattle.sequences.specs.declared.style.StyleRun.{StyleRun}
use Rattle.sequences.specs.declared.style.StyledText.{StyledText}
use Rattle.terminal.specs.Lines.{in_style}
use Rattle.terminal.specs.Numbers.{numbered}
use Rattle.terminal.specs.Paragraphs.{styles_of}
use Rattle.terminal.specs.Parts.{styles_in}
use Rattle.terminal.specs.Pieces.{IsWhole, printed_pieces}
use Rattle.terminal.specs.Prefixes.{printed_bytes, printed_paragraph}
use Rattle.terminal.specs.Texts.{in_mode, regrouped, styled_paragraphs}
use Rattle.terminal.specs.declared.form.Escapes.{Escapes}
use Rattle.terminal.specs.declared.form.Escapes.TheVariants.{Keep, Strip, Text}
use Rattle.terminal.specs.declared.form.Form.{Form}
use Rattle.terminal.specs.declared.numbers.Part.{Part}
use Rattle.terminal.proofs.NumberLemmas.{characters-with}
use Rattle.terminal.proofs.PlainLemmas.{plain_characters}

-- ---- numbers that are all 0

pub zeros_are : (links : List ℕ) (runs : List StyleRun) (numbers characters : List ℕ) → length numbers ≡ length characters
    → ((k : ℕ) → k < length numbers → get_or numbers k 0 ≡ 0) → map (numbered links runs) numbers ≡ styles_of (in_style DEFAULT characters)
zeros_are links runs [] [] same zero_at = refl
zeros_are links runs [] (c ∷ characters) same zero_at = absurd (omega (arith, same))
zeros_are links runs (n ∷ numbers) [] same zero_at = absurd (omega (arith, same))
zeros_are links runs (n ∷ numbers) (c ∷ characters) same zero_at =
    ap₂ (λ (s : Style) (ss : List Style). s ∷ ss) (ap (numbered links runs) (zero_at 0 (omega arith)))
    (zeros_are links runs numbers characters (omega (arith, same)) (λ k below. zero_at (suc k) (omega (arith, below))))

-- ---- modes

pub mode_characters : (escapes : Escapes) (shown : List (ℕ × Style)) → characters_of (in_mode escapes shown) ≡ characters_of shown
mode_characters Keep shown = refl
mode_characters Strip shown = plain_characters (characters_of shown)
mode_characters Text shown = refl

-- ---- paragraphs of a block

module _ (is_cut : ℕ → ℕ → Bool) where
  -- the first paragraph ends at the first boundary
  pub first_group : (shown : List (ℕ × Style)) (characters : List ℕ) (k : ℕ) → characters ≡ characters_of shown → SplitsAt is_cut characters (Some k)
      → styled_paragraphs is_cut shown ≡ take k shown ∷ styled_paragraphs is_cut (drop k shown)
  first_group shown characters k same splits =
      let len : length (take k characters) ≡ k = length-take-le k characters (omega (arith, splits.1)) in
      let back : drop k characters ≡ characters_of (drop k shown) = ap (drop k) same ∙ drop-map (λ (c : ℕ × Style). c.0) k shown in
      ap (λ cs. regrouped (paragraphs is_cut cs) shown) (sym same) ∙ ap (λ groups. regrouped groups shown) splits.2
      ∙ ap (λ n. take n shown ∷ regrouped (paragraphs is_cut (drop k characters)) (drop n shown)) len
      ∙ ap (λ cs. take k shown ∷ regrouped (paragraphs is_cut cs) (drop k shown)) back

  -- if there is no boundary, a non-empty block shows one paragraph
  pub only_group : (shown : List (ℕ × Style)) (characters : List ℕ) → characters ≡ characters_of shown → 0 < length characters → SplitsAt is_cut characters None
      → styled_paragraphs is_cut shown ≡ shown ∷ []
  only_group shown characters same some splits =
      ap (λ cs. regrouped (paragraphs is_cut cs) shown) (sym same) ∙ ap (λ groups. regrouped groups shown) (splits some)
      ∙ ap (λ xs. xs ∷ []) (take_all (length characters) shown (omega (arith, ap length same, length-map shown (λ (c : ℕ × Style). c.0))))

  pub no_group : (shown : List (ℕ × Style)) → length shown ≡ 0 → styled_paragraphs is_cut shown ≡ []
  no_group shown none = ap (styled_paragraphs is_cut) (nil_from_length shown none)

-- the characters in a range are the characters of the same range of the styled text
pub range_text : (shown : List (ℕ × Style)) (characters own : List ℕ) (at end : ℕ) → characters_of shown ≡ characters → own ≡ slice_range characters at end
    → own ≡ characters_of (take (end - at) (drop at shown))
range_text shown characters own at end c o =
    o ∙ ap (λ xs. take (end - at) (drop at xs)) (sym c) ∙ ap (take (end - at)) (drop-map (λ (x : ℕ × Style). x.0) at shown)
    ∙ take-map (λ (x : ℕ × Style). x.0) (end - at) (drop at shown)

pub range_styles : (shown : List (ℕ × Style)) (styles own_styles : List Style) (at end : ℕ) → styles_of shown ≡ styles → own_styles ≡ slice_range styles at end
    → own_styles ≡ styles_of (take (end - at) (drop at shown))
range_styles shown styles own_styles at end s t =
    t ∙ ap (λ (xs : List Style). take (end - at) (drop at xs)) (sym s) ∙ ap (take (end - at)) (drop-map (λ (x : ℕ × Style). x.1) at shown)
    ∙ take-map (λ (x : ℕ × Style). x.1) (end - at) (drop at shown)

module _ (rules : Rules) (form : Form) where
  abbrev pub pages : List (ℕ × Style) → List ℕ
  pages shown = flat_map (printed_pieces rules form) (styled_paragraphs (cut_by rules) shown)

  -- the printed bytes of a range are those of the paragraph that consists of the range's styled characters
  pub range_is : (shown : List (ℕ × Style)) (characters own : List ℕ) (styles own_styles : List Style) (at end : ℕ)
      → characters_of shown ≡ characters → styles_of shown ≡ styles → own ≡ slice_range characters at end → own_styles ≡ slice_range styles at end
      → printed_bytes rules form own own_styles ≡ printed_paragraph rules form (take (end - at) (drop at shown))
  range_is shown characters own styles own_styles at end c s o t =
      ap₂ (printed_bytes rules form) (range_text shown characters own at end c o) (range_styles shown styles own_styles at end s t)

  -- ---- one more paragraph of a block
  pub next_group : (shown : List (ℕ × Style)) (at end : ℕ) (old new all : List ℕ)
      → styled_paragraphs (cut_by rules) (drop at shown) ≡ take (end - at) (drop at shown) ∷ styled_paragraphs (cut_by rules) (drop end shown)
      → new ≡ old ++ printed_pieces rules form (take (end - at) (drop at shown)) → old ++ pages (drop at shown) ≡ all → new ++ pages (drop end shown) ≡ all
  next_group shown at end old new all split n h =
      let first : List ℕ = printed_pieces rules form (take (end - at) (drop at shown)) in
      ap (λ xs. xs ++ pages (drop end shown)) n ∙ append_assoc old first (pages (drop end shown))
      ∙ ap (λ groups. old ++ flat_map (printed_pieces rules form) groups) (sym split) ∙ h

  pub last_group : (shown : List (ℕ × Style)) (at : ℕ) (old all : List ℕ) → length shown ≤ at → old ++ pages (drop at shown) ≡ all → old ≡ all
  last_group shown at old all end h =
      sym (append-nil old) ∙ ap (λ groups. old ++ flat_map (printed_pieces rules form) groups) (sym (no_group (cut_by rules) (drop at shown) (omega (arith, end, length-drop at shown)))) ∙ h

pub next_by : (rules now : Rules) (form : Form) → now ≡ rules → (shown : List (ℕ × Style)) (at end : ℕ) (old new all : List ℕ)
    → styled_paragraphs (cut_by now) (drop at shown) ≡ take (end - at) (drop at shown) ∷ styled_paragraphs (cut_by now) (drop end shown)
    → new ≡ old ++ printed_pieces now form (take (end - at) (drop at shown)) → old ++ pages rules form (drop at shown) ≡ all
    → new ++ pages rules form (drop end shown) ≡ all
next_by rules now form e shown at end old new all split n h =
    let P : Rules → Type 0 = λ r. styled_paragraphs (cut_by r) (drop at shown) ≡ take (end - at) (drop at shown) ∷ styled_paragraphs (cut_by r) (drop end shown) in
    next_group rules form shown at end old new all (subst P e split)
    (n ∙ ap (λ (r : Rules). old ++ printed_pieces r form (take (end - at) (drop at shown))) e) h

module _ (rules : Rules) where
  -- if the first boundary in the rest is after k characters, the next paragraph ends k characters after `at`
  pub group_ends : (shown : List (ℕ × Style)) (characters rest : List ℕ) (at k end : ℕ) → characters ≡ characters_of shown → rest ≡ drop at characters → end ≡ at + k
      → SplitsAt (cut_by rules) rest (Some k)
      → styled_paragraphs (cut_by rules) (drop at shown) ≡ take (end - at) (drop at shown) ∷ styled_paragraphs (cut_by rules) (drop end shown)
  group_ends shown characters rest at k end same r e splits =
      let of : rest ≡ characters_of (drop at shown) = r ∙ ap (drop at) same ∙ drop-map (λ (c : ℕ × Style). c.0) at shown in
      let size : k ≡ end - at = omega (arith, e) in
      first_group (cut_by rules) (drop at shown) rest k of splits
      ∙ ap₂ (λ (x : List (ℕ × Style)) (xs : List (ℕ × Style)). x ∷ styled_paragraphs (cut_by rules) xs)
      (ap (λ n. take n (drop at shown)) size) (drop-drop k at shown ∙ ap (λ n. drop n shown) (sym e))

  pub group_last : (shown : List (ℕ × Style)) (characters rest : List ℕ) (at : ℕ) → characters ≡ characters_of shown → rest ≡ drop at characters → at < length characters
      → SplitsAt (cut_by rules) rest None
      → styled_paragraphs (cut_by rules) (drop at shown) ≡ take (length characters - at) (drop at shown) ∷ styled_paragraphs (cut_by rules) (drop (length characters) shown)
  group_last shown characters rest at same r within splits =
      let of : rest ≡ characters_of (drop at shown) = r ∙ ap (drop at) same ∙ drop-map (λ (c : ℕ × Style). c.0) at shown in
      let count : length characters ≡ length shown = ap length same ∙ length-map shown (λ (c : ℕ × Style). c.0) in
      let size : length rest ≡ length characters - at = ap length r ∙ length-drop at characters in
      only_group (cut_by rules) (drop at shown) rest of (omega (arith, size, within)) splits
      ∙ ap₂ (λ (x : List (ℕ × Style)) (xs : List (List (ℕ × Style))). x ∷ xs)
      (sym (take_all (length characters - at) (drop at shown) (omega (arith, length-drop at shown, count))))
      (sym (no_group (cut_by rules) (drop (length characters) shown) (omega (arith, length-drop (length characters) shown, count))))

-- ---- the first paragraph of a text has no boundary inside

first_piece : (is_cut : ℕ → ℕ → Bool) (p : List ℕ) (ps : List (List ℕ)) → ArePieces is_cut (p ∷ ps) → IsPiece is_cut p
first_piece is_cut p [] pieces = pieces
first_piece is_cut p (q ∷ ps) pieces = pieces.0

first_alone : ParagraphsArePieces → (is_cut : ℕ → ℕ → Bool) (text p : List ℕ) (ps : List (List ℕ)) → paragraphs is_cut text ≡ p ∷ ps → paragraphs is_cut p ≡ p ∷ []
first_alone law is_cut text p ps splits =
    let piece = first_piece is_cut p ps (subst (ArePieces is_cut) splits (law.pieces is_cut text)) in
    ap (paragraphs is_cut) (sym (append-nil p)) ∙ law.only is_cut (p ∷ []) piece

pub range_ends : ParagraphsArePieces → (rules : Rules) (characters rest : List ℕ) (at k end : ℕ) → rest ≡ drop at characters → end ≡ at + k → SplitsAt (cut_by rules) rest (Some k)
    → IsWhole rules (slice_range characters at end)
range_ends law rules characters rest at k end r e splits =
    let size : k ≡ end - at = omega (arith, e) in
    let is : take k rest ≡ slice_range characters at end = ap (take k) r ∙ ap (λ n. take n (drop at characters)) size in
    subst (IsWhole rules) is (first_alone law (cut_by rules) rest (take k rest) _ splits.2)

pub range_last : (rules : Rules) (characters rest : List ℕ) (at : ℕ) → rest ≡ drop at characters → at < length characters → SplitsAt (cut_by rules) rest None
    → IsWhole rules (slice_range characters at (length characters))
range_last rules characters rest at r within splits =
    let size : length rest ≡ length characters - at = ap length r ∙ length-drop at characters in
    let is : rest ≡ slice_range characters at (length characters) =
    r ∙ sym (take_all (length characters - at) (drop at characters) (omega (arith, length-drop at characters))) in
    subst (IsWhole rules) is (splits (omega (arith, size, within)))

-- ---- the parts of a block

pub styles_range : (part own : Part) (at end : ℕ) → own.numbers.now ≡ slice_range part.numbers.now at end → own.text.now ≡ part.text.now
    → styles_in own ≡ slice_range (styles_in part) at end
styles_range part own at end n t =
    let f = numbered part.text.now.links.items part.text.now.runs.items in
    ap (λ text. map (numbered text.links.items text.runs.items) own.numbers.now) t ∙ ap (map f) n
    ∙ sym (take-map f (end - at) (drop at part.numbers.now)) ∙ ap (take (end - at)) (sym (drop-map f at part.numbers.now))

pub text_characters : (text : StyledText) → characters_of (styled_of text) ≡ text.characters.items
unfolding styled_of
text_characters text = characters-with text.links.items text.runs.items 0 text.characters.items

pub zeros_text : (text : StyledText) (numbers : List ℕ) → length numbers ≡ length text.characters.items → ((k : ℕ) → get_or numbers k 0 ≡ 0)
    → map (numbered text.links.items text.runs.items) numbers ≡ styles_of (in_style DEFAULT (characters_of (styled_of text)))
zeros_text text numbers same zero_at =
    zeros_are text.links.items text.runs.items numbers text.characters.items same (λ k _. zero_at k)
    ∙ ap (λ xs. styles_of (in_style DEFAULT xs)) (sym (text_characters text))
