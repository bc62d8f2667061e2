-- The newline at the end of the output.
use Rattle.std.specs.Prelude.{◌≡◌, ℕ, ◌-◌, ◌<◌, Bool, true, ◌&&◌, not, List, [], ◌∷◌, ◌++◌, length, take, Option, None, Some, if◌then◌else◌}
use Rattle.std.specs.Option.{option_map_or}
use Rattle.ucd.specs.declared.tables.Tables.{Tables}
use Rattle.lines.specs.Layouts.{Rules}
use Rattle.lines.specs.Separators.{ends_line}
use Rattle.sequences.specs.Styled.{Pen, START, shown_text}
use Rattle.terminal.specs.Texts.{input_page, input_text, text_page}
use Rattle.terminal.specs.declared.form.Form.{Form}

abbrev pub last_of : List ℕ → Option ℕ
last_of [] = None
last_of (c ∷ []) = Some c
last_of (c ∷ d ∷ text) = last_of (d ∷ text)

-- Whether a text with this last character ends a line: the character has bidi class B, or line breaking class BK, CR,
-- LF or NL. An empty text counts as ended, since it has no line to end.
abbrev pub is_ended : Tables → Option ℕ → Bool
is_ended tables last = option_map_or (ends_line tables) last true

abbrev pub without_last : List ℕ → List ℕ
without_last bytes = take (length bytes - 1) bytes

-- The output for an input, given its page. If the input is the last one and its text does not end a line, the
-- output lacks the newline at the end of the page. `last` is the last character of the text.
abbrev pub ended_page : Tables → Bool → Option ℕ → List ℕ → List ℕ
ended_page tables is_last last page = if is_last && not (is_ended tables last) then without_last page else page

-- the output for a text with its sequences
abbrev pub text_output : Rules → Form → Bool → Pen → List ℕ → List ℕ
text_output rules form is_last pen text = ended_page rules.tables is_last (last_of (shown_text text)) (text_page rules form pen text)

-- the output for an input
abbrev pub output_page : Rules → Form → Bool → List ℕ → List ℕ
output_page rules form is_last bytes = text_output rules form is_last START (input_text form.escapes bytes)

-- whether c is the last character of a text
pub record EndsIn (c : ℕ) (text : List ℕ) : Type 0 where
  pub front : List ℕ
  pub is : text ≡ front ++ c ∷ []

-- If an input shows something, its page ends in a newline.
abbrev pub PagesEndInNewlines : Type 0
PagesEndInNewlines = (rules : Rules) (form : Form) (bytes : List ℕ) → 0 < length (shown_text (input_text form.escapes bytes)) → EndsIn 10 (input_page rules form bytes)
