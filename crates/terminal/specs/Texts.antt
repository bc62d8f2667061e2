-- What a terminal shows for a text, and the output that is written for the text.
use Rattle.std.specs.Prelude.{ℕ, zero, suc, ◌+◌, nat_lt, ◌==◌, Bool, ◌&&◌, ◌||◌, not, List, [], ◌∷◌, length, map, take, drop, if◌then◌else◌}
use Rattle.std.specs.List.{flat_map, onto_first}
use Rattle.std.specs.Str.{chars}
use Rattle.std.specs.Str.Lossy.{utf8_lossy}
use Rattle.bidi.specs.Cuts.{paragraphs}
use Rattle.lines.specs.Layouts.{Rules, cut_by}
use Rattle.sequences.specs.Characters.{is_dropped, is_inline}
use Rattle.sequences.specs.Laws.{characters_of}
use Rattle.sequences.specs.Styled.{DEFAULT, Pen, Style, START, more_len, next_paragraph, pen_at_end, styled}
use Rattle.terminal.specs.Lines.{in_style}
use Rattle.terminal.specs.Pieces.{printed_pieces}
use Rattle.terminal.specs.declared.form.Escapes.{Escapes}
use Rattle.terminal.specs.declared.form.Escapes.TheVariants.{Keep, Strip, Text}
use Rattle.terminal.specs.declared.form.Form.{Form}

-- the characters of an input without the U+FEFF that it may begin with; invalid UTF-8 becomes U+FFFD
abbrev pub without_mark : List ℕ → List ℕ
without_mark [] = []
without_mark (c ∷ text) = if c == 0xFEFF then text else c ∷ text

abbrev pub decoded : List ℕ → List ℕ
decoded bytes = without_mark (chars (utf8_lossy bytes))

-- the picture of a control that is otherwise dropped: U+2400 to U+241F and U+2421, or U+FFFD for a C1 control
abbrev pub picture : ℕ → ℕ
picture c =
    if not (is_dropped c) then c
    else if nat_lt c 0x20 then 0x2400 + c
    else if c == 0x7F then 0x2421
    else 0xFFFD

-- in the mode `Text`, pictures replace dropped controls, so that the text contains no sequences
abbrev pub input_text : Escapes → List ℕ → List ℕ
input_text Keep bytes = decoded bytes
input_text Strip bytes = decoded bytes
input_text Text bytes = map picture (decoded bytes)

-- in the mode `Strip`, characters have no styles
abbrev pub in_mode : Escapes → List (ℕ × Style) → List (ℕ × Style)
in_mode Keep shown = shown
in_mode Strip shown = in_style DEFAULT (characters_of shown)
in_mode Text shown = shown

-- whether a character cannot be in a sequence or an overstrike, and is not dropped
abbrev pub is_apart : ℕ → Bool
is_apart c = not (is_inline c || is_dropped c)

-- The first character of a text that is neither in a sequence nor dropped, or 0 if there is none. The first `skip` characters
-- belong to the part before them.
abbrev pub next_after : ℕ → List ℕ → ℕ
next_after skip [] = 0
next_after (suc skip) (c ∷ text) = next_after skip text
next_after zero (c ∷ text) = if is_dropped c then next_after (more_len c text) text else c

abbrev pub next_character : List ℕ → ℕ
next_character text = next_after 0 text

-- characters with their styles, in groups that are as long as the given groups
abbrev pub regrouped : List (List ℕ) → List (ℕ × Style) → List (List (ℕ × Style))
regrouped [] shown = []
regrouped (group ∷ groups) shown = take (length group) shown ∷ regrouped groups (drop (length group) shown)

module _ (is_cut : ℕ → ℕ → Bool) where
  -- whether a block ends after a character, given the text after it: no sequence or overstrike contains the
  -- character, and there is a paragraph boundary before the next character
  abbrev pub ends_block : ℕ → List ℕ → Bool
  ends_block c text = is_apart c && is_cut c (next_character text)

  -- a text with its sequences, split where paragraphs end
  abbrev pub blocks : List ℕ → List (List ℕ)
  blocks [] = []
  blocks (c ∷ text) = if ends_block c text then (c ∷ []) ∷ blocks text else onto_first c (blocks text)

  -- The paragraphs that a block shows. With the Unicode tables there is exactly one, since `is_apart` holds for all
  -- separators.
  abbrev pub styled_paragraphs : List (ℕ × Style) → List (List (ℕ × Style))
  styled_paragraphs shown = regrouped (paragraphs is_cut (characters_of shown)) shown

-- what each block shows; a block begins in the style in which the block before it ends
abbrev pub shown_blocks : Pen → List (List ℕ) → List (List (ℕ × Style))
shown_blocks pen [] = []
shown_blocks pen (block ∷ blocks) = styled pen block ∷ shown_blocks (next_paragraph (pen_at_end pen block)) blocks

-- the printed bytes of what a block shows
unfoldable pub block_page : Rules → Form → List (ℕ × Style) → List ℕ
block_page rules form shown =
    flat_map (printed_pieces rules form) (styled_paragraphs (cut_by rules) (in_mode form.escapes shown))

-- the printed bytes of a text with its sequences
abbrev pub text_page : Rules → Form → Pen → List ℕ → List ℕ
text_page rules form pen text = flat_map (block_page rules form) (shown_blocks pen (blocks (cut_by rules) text))

-- the printed bytes of an input
abbrev pub input_page : Rules → Form → List ℕ → List ℕ
input_page rules form bytes = text_page rules form START (input_text form.escapes bytes)
