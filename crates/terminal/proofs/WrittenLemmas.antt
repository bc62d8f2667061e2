-- Writing consecutive characters in one style.
use Rattle.std.proofs.Common.{◌≡◌, ℕ, replicate, subst, ◌+◌, ◌<◌, ◌≤◌, min, List, [], ◌∷◌, ◌++◌, length, drop, get_or, refl, sym, ap, ◌∙◌, append_assoc, arith}
use Rattle.std.proofs.lemmas.List.{append-nil, drop_more, length-drop}
use Rattle.lines.specs.Bytes.{padding}
use Rattle.lines.specs.Visual.{Visual}
use Rattle.lines.specs.declared.printing.print.Print.{Print}
use Rattle.sequences.specs.Output.{between, written, written_after}
use Rattle.sequences.specs.Styled.{DEFAULT, Style}
use Rattle.terminal.specs.Appending.{Appends}
use Rattle.terminal.specs.Lines.{in_style, line_cells, line_chars, shown_line, style_on, styled_chars}
use Rattle.terminal.proofs.SameStyles.{between_same}

-- after a character in the same style, characters are written unchanged
pub written-same : (style : Style) (chars : List ℕ) (more : List (ℕ × Style)) → written_after style (in_style style chars ++ more) ≡ chars ++ written_after style more
written-same style [] more = refl
written-same style (c ∷ chars) more =
    ap (λ xs. xs ++ c ∷ written_after style (in_style style chars ++ more)) (between_same style)
    ∙ ap (λ xs. c ∷ xs) (written-same style chars more)

pub written-one : (before style : Style) (chars : List ℕ) (more : List (ℕ × Style)) → 0 < length chars
    → written_after before (in_style style chars ++ more) ≡ between before style ++ (chars ++ written_after style more)
written-one before style [] more some = absurd (omega (arith, some))
written-one before style (c ∷ chars) more some = ap (λ xs. between before style ++ c ∷ xs) (written-same style chars more)

-- appending two lists of styled characters in turn appends their concatenation
pub appends_both : (old mid new : List ℕ) (before style last : Style) (xs ys : List (ℕ × Style)) → Appends old mid before style xs → Appends mid new style last ys
    → Appends old new before last (xs ++ ys)
appends_both old mid new before style last xs ys first second = λ more.
    second more ∙ first (ys ++ more) ∙ ap (λ zs. old ++ written_after before zs) (sym (append_assoc xs ys more))

-- appending the change of style and then spaces appends spaces in this style
pub appends_spaces : (old mid new spaces : List ℕ) (before style : Style) → 0 < length spaces → mid ≡ old ++ between before style → new ≡ mid ++ spaces
    → Appends old new before style (in_style style spaces)
appends_spaces old mid new spaces before style some m n = λ more.
    ap (λ xs. xs ++ written_after style more) (n ∙ ap (λ xs. xs ++ spaces) m ∙ append_assoc old (between before style) spaces)
    ∙ append_assoc old (between before style ++ spaces) (written_after style more)
    ∙ ap (λ xs. old ++ xs) (append_assoc (between before style) spaces (written_after style more) ∙ sym (written-one before style spaces more some))

module _ (visual : Visual) (styles : List Style) (more : List (ℕ × Style)) where
  -- ---- one more character of a line
  pub step_line : (chars vtol : List ℕ) (at : ℕ) (before style : Style) (old new all cells : List ℕ) → at < length chars → at < length vtol
      → style ≡ style_on styles (get_or vtol at 0) → cells ≡ line_cells visual (get_or chars at 0) (get_or vtol at 0) → 0 < length cells
      → new ≡ old ++ (between before style ++ cells)
      → old ++ written_after before (styled_chars visual styles (drop at chars) (drop at vtol) ++ more) ≡ all
      → new ++ written_after style (styled_chars visual styles (drop (at + 1) chars) (drop (at + 1) vtol) ++ more) ≡ all
  step_line chars vtol at before style old new all cells within also s e some n h =
      let rest : List (ℕ × Style) = styled_chars visual styles (drop (at + 1) chars) (drop (at + 1) vtol) in
      let left : List (ℕ × Style) = rest ++ more in
      let k : ℕ = get_or vtol at 0 in
      let c : ℕ = get_or chars at 0 in
      let first : styled_chars visual styles (drop at chars) (drop at vtol) ≡ in_style style cells ++ rest =
      ap (λ xs. styled_chars visual styles xs (drop at vtol)) (drop_more chars at 0 within)
      ∙ ap (λ xs. styled_chars visual styles (c ∷ drop (at + 1) chars) xs) (drop_more vtol at 0 also)
      ∙ ap (λ t. in_style t (line_cells visual c k) ++ rest) (sym s) ∙ ap (λ xs. in_style style xs ++ rest) (sym e) in
      let split : styled_chars visual styles (drop at chars) (drop at vtol) ++ more ≡ in_style style cells ++ left =
      ap (λ xs. xs ++ more) first ∙ append_assoc (in_style style cells) rest more in
      ap (λ xs. xs ++ written_after style left) n ∙ append_assoc old (between before style ++ cells) (written_after style left)
      ∙ ap (λ xs. old ++ xs) (append_assoc (between before style) cells (written_after style left) ∙ sym (written-one before style cells left some)
      ∙ ap (written_after before) (sym split)) ∙ h

  -- at the end of the characters, only what follows them remains to be written
  pub end_line : (chars vtol : List ℕ) (at : ℕ) (style : Style) (old all : List ℕ) → min (length chars) (length vtol) ≤ at
      → old ++ written_after style (styled_chars visual styles (drop at chars) (drop at vtol) ++ more) ≡ all → old ++ written_after style more ≡ all
  end_line chars vtol at style old all end h =
      let none : styled_chars visual styles (drop at chars) (drop at vtol) ≡ [] =
      none_left (drop at chars) (drop at vtol) (omega (arith, end, length-drop at chars, length-drop at vtol)) in
      ap (λ xs. old ++ written_after style (xs ++ more)) (sym none) ∙ h
    where
      none_left : (xs ys : List ℕ) → min (length xs) (length ys) ≡ 0 → styled_chars visual styles xs ys ≡ []
      none_left [] ys e = refl
      none_left (x ∷ xs) [] e = refl
      none_left (x ∷ xs) (y ∷ ys) e = absurd (omega (arith, e))

-- writing the padding and then the characters of a line writes the shown line
pub shown_is : (width : ℕ) (print : Print) (visual : Visual) (styles : List Style) (old mid new : List ℕ) (before padded last : Style) (spaces : ℕ)
    → replicate spaces 32 ≡ padding width print visual → Appends old mid before padded (in_style DEFAULT (replicate spaces 32))
    → Appends mid new padded last (line_chars print visual styles) → Appends old new before last (shown_line width print visual styles)
shown_is width print visual styles old mid new before padded last spaces p first second =
    let chars : List (ℕ × Style) = line_chars print visual styles in
    subst (λ (xs : List ℕ). Appends old new before last (in_style DEFAULT xs ++ chars)) p
    (appends_both old mid new before padded last (in_style DEFAULT (replicate spaces 32)) chars first second)

-- the bytes of a whole line are the shown line, the change back to the default style, and a newline
pub line_is : (old shown reset all : List ℕ) (last : Style) (line : List (ℕ × Style)) → Appends old shown DEFAULT last line
    → reset ≡ shown ++ between last DEFAULT → all ≡ reset ++ 10 ∷ [] → all ≡ old ++ (written line ++ 10 ∷ [])
unfolding written
line_is old shown reset all last line s r a =
    a ∙ ap (λ xs. xs ++ 10 ∷ []) (r ∙ s [] ∙ ap (λ xs. old ++ written_after DEFAULT xs) (append-nil line)) ∙ append_assoc old (written_after DEFAULT line) (10 ∷ [])
