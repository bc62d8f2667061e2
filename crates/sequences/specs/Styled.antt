-- What a text shows: the characters that remain, each with its style.
use Rattle.std.specs.Prelude.{ℕ, zero, suc, ◌+◌, ◌-◌, ◌*◌, nat_le, ◌==◌, Bool, false, List, [], ◌∷◌, ◌++◌, length, map, take, Option, Some, None, unwrap_or, if◌then◌else◌}
use Rattle.sequences.specs.Characters.{is_dropped}
use Rattle.sequences.specs.Sequences.{after_escape, sequence_len, string_end}
use Rattle.sequences.specs.declared.lengths.TheConstants.{LONGEST_STRING}
use Rattle.sequences.specs.declared.links.TheConstants.{MAX_LINKS_LEN}
use Rattle.sequences.specs.Parameters.{osc_link, sgr}
use Rattle.sequences.specs.Looks.{applied}
use Rattle.sequences.specs.Overstrikes.{is_underlined_only, strikes, struck, struck_look}
use Rattle.sequences.specs.declared.look.Look.{Look}
use Rattle.sequences.specs.declared.look.TheConstants.{PLAIN}

-- attributes and a link; a link is its parameters, a semicolon and its URI, and is empty if there is none
pub record Style : Type 0 where
  pub look : Look
  pub link : List ℕ

abbrev pub DEFAULT : Style
DEFAULT = record { look = PLAIN; link = [] }

-- The state that a text passes on to the next: a style, the total length of the paragraph's links, and
-- whether the last character is underlined and not bold.
pub record Pen : Type 0 where
  pub style : Style
  pub links_len : ℕ
  pub after_underline : Bool

abbrev pub START : Pen
START = record { style = DEFAULT; links_len = 0; after_underline = false }

-- the pen at the start of the next paragraph
abbrev pub next_paragraph : Pen → Pen
next_paragraph pen = record pen { links_len = length pen.style.link }

-- the pen after a control sequence, given its parameters if it is SGR
abbrev pub with_sgr : Pen → Option (List (List ℕ)) → Pen
with_sgr pen None = pen
with_sgr pen (Some parameters) = record pen { style = record { look = applied pen.style.look parameters; link = pen.style.link } }

-- the pen after OSC 8; a link that would exceed the limit is dropped, and the text after it has no link
abbrev pub with_link : Pen → Option (List ℕ) → Pen
with_link pen None = pen
with_link pen (Some link) =
    if nat_le (pen.links_len + length link) MAX_LINKS_LEN then
    record { style = record { look = pen.style.look; link = link }; links_len = pen.links_len + length link; after_underline = pen.after_underline }
    else record pen { style = record { look = pen.style.look; link = [] } }

-- the pen after OSC, given the text after OSC
abbrev pub with_osc : Pen → List ℕ → Pen
with_osc pen text = if nat_le (string_end text) LONGEST_STRING then with_link pen (osc_link (take (string_end text) text)) else pen

-- the pen after a sequence, given the text after ESC
abbrev pub after_sequence : Pen → List ℕ → Pen
after_sequence pen [] = pen
after_sequence pen (c ∷ text) =
    if c == 0x5B then with_sgr pen (sgr text)
    else if c == 0x5D then with_osc pen text
    else pen

-- the style of a character and the characters struck over it
abbrev pub struck_style : Pen → ℕ → List ℕ → Style
struck_style pen c text = record { look = struck_look pen.style.look (struck pen.after_underline c text); link = pen.style.link }

-- The first part of a text is a complete sequence, a character with the characters struck over it, or a
-- dropped control. This is the length of the first part without its first character.
abbrev pub more_len : ℕ → List ℕ → ℕ
more_len c text = unwrap_or (sequence_len (c ∷ text)) (1 + 2 * length (strikes c text)) - 1

-- what the first part shows
abbrev pub first_shown : Pen → ℕ → List ℕ → List (ℕ × Style)
first_shown pen c text = if is_dropped c then [] else ((struck pen.after_underline c text).shown, struck_style pen c text) ∷ []

-- the pen after a character and the characters struck over it
abbrev pub after_character : Pen → ℕ → List ℕ → Pen
after_character pen c text =
    record pen { after_underline = is_underlined_only (struck_look pen.style.look (struck pen.after_underline c text)) }

-- the pen after the first part, given its length if it is a sequence
abbrev pub after_part : Pen → ℕ → List ℕ → Option ℕ → Pen
after_part pen c text (Some n) = after_sequence pen (after_escape (c ∷ text))
after_part pen c text None = if is_dropped c then pen else after_character pen c text

abbrev pub after_first_part : Pen → ℕ → List ℕ → Pen
after_first_part pen c text = after_part pen c text (sequence_len (c ∷ text))

-- What a text shows after its first `skip` characters, which belong to the part before them.
abbrev pub styled_after : ℕ → Pen → List ℕ → List (ℕ × Style)
styled_after skip pen [] = []
styled_after (suc skip) pen (c ∷ text) = styled_after skip pen text
styled_after zero pen (c ∷ text) = first_shown pen c text ++ styled_after (more_len c text) (after_first_part pen c text) text

abbrev pub pen_after : ℕ → Pen → List ℕ → Pen
pen_after skip pen [] = pen
pen_after (suc skip) pen (c ∷ text) = pen_after skip pen text
pen_after zero pen (c ∷ text) = pen_after (more_len c text) (after_first_part pen c text) text

-- the characters that a text shows, each with its style, and the pen at its end
unfoldable pub styled : Pen → List ℕ → List (ℕ × Style)
styled pen text = styled_after 0 pen text

unfoldable pub pen_at_end : Pen → List ℕ → Pen
pen_at_end pen text = pen_after 0 pen text

-- the characters that a text shows, without their styles
unfoldable pub shown_text : List ℕ → List ℕ
shown_text text = map (λ shown. shown.0) (styled_after 0 START text)
