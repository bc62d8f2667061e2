-- Prefixes of paragraphs, which are printed on each line or only on the first.
use Rattle.std.specs.Prelude.{ℕ, zero, suc, ◌-◌, min, nat_lt, ◌==◌, Bool, true, false, ◌&&◌, List, [], ◌∷◌, length, take, drop, replicate, slice_index, slice_range, encode_utf8_all, Option, Some, None, option_map, if◌then◌else◌}
use Rattle.std.specs.Option.{option_map_or}
use Rattle.std.specs.Str.{chars}
use Rattle.regex.specs.Patterns.{Re, find_str, span}
use Rattle.regex.specs.Strings.{regex_pattern}
use Rattle.ucd.specs.declared.tables.Tables.{Tables}
use Rattle.bidi.specs.declared.base.Base.TheVariants.{Ltr, Rtl}
use Rattle.lines.specs.Layouts.{Layout, Rules, base_of, layout_of, visuals}
use Rattle.lines.specs.Separators.{separator_len}
use Rattle.lines.specs.Visual.{Visual}
use Rattle.lines.specs.declared.options.Options.{Options}
use Rattle.lines.specs.declared.printing.print.Print.{Print}
use Rattle.reorder.specs.Order.{is_odd}
use Rattle.sequences.specs.Laws.{characters_of}
use Rattle.sequences.specs.Styled.{DEFAULT, Style}
use Rattle.terminal.specs.Forms.{UNLIMITED, print_of, rules_in, width_of, with_options}
use Rattle.terminal.specs.Lines.{LinePrefix, in_style, line_chars}
use Rattle.terminal.specs.Paragraphs.{styled_bytes, styles_of}
use Rattle.terminal.specs.declared.form.Form.{Form}
use Rattle.terminal.specs.declared.form.Prefix.{Prefix}
use Rattle.terminal.specs.declared.form.Prefix.TheVariants as prefix

-- whether a space may follow a character of a quote, or `None` if the character is not part of the quote;
-- `spaced` is whether this character itself may be a space
abbrev pub quoted : Bool → ℕ → Option Bool
quoted spaced c = if c == 0x3E then Some true else if spaced && c == 0x20 then Some false else None

-- the length of the longest match of `(> ?)+` at the start of a text; if `spaced`, a space may come first
abbrev pub quote_from : Bool → List ℕ → ℕ
quote_from spaced [] = 0
quote_from spaced (c ∷ text) = option_map_or (λ next. suc (quote_from next text)) (quoted spaced c) 0

-- a paragraph without its separator
abbrev pub without_separator : Tables → List ℕ → List ℕ
without_separator tables text =
    let n = length text in take (n - separator_len tables (slice_index text (n - 2)) (slice_index text (n - 1))) text

-- the number of characters that a pattern matches at the start of a text, given the byte span of its leftmost
-- match; 0 if this match starts later
abbrev pub span_len : List ℕ → ℕ × ℕ → ℕ
span_len bytes span = if span.0 == 0 then length (chars (slice_range bytes span.0 span.1)) else 0

abbrev pub match_len : Re → List ℕ → ℕ
match_len pattern text = option_map_or (span_len (encode_utf8_all text)) (option_map span (find_str pattern (encode_utf8_all text) 0)) 0

-- the length of the prefix that a paragraph begins with, or 0 if there is none
abbrev pub prefix_len : Tables → Prefix → List ℕ → ℕ
prefix_len tables prefix.None text = 0
prefix_len tables prefix.Quotes text = quote_from false text
prefix_len tables (prefix.Pattern regex) text = min (length text) (match_len (regex_pattern regex.now) (without_separator tables text))

-- the base level of a prefix, given the base level of the text after it
abbrev pub prefix_base : Prefix → ℕ → ℕ
prefix_base prefix.None base = base
prefix_base prefix.Quotes base = base
prefix_base (prefix.Pattern regex) base = 0

-- whether a prefix is on all lines, and not only on the first
abbrev pub repeats : Prefix → Bool
repeats prefix.None = true
repeats prefix.Quotes = true
repeats (prefix.Pattern regex) = false

-- A prefix is laid out as a separate line that shows all its spaces.
abbrev pub prefix_options : Options → ℕ → Options
prefix_options options base = record options { base = if is_odd base then Rtl else Ltr; nobreak = true; show_spaces = true }

abbrev pub prefix_layout : Rules → ℕ → List ℕ → Layout
prefix_layout rules base text = layout_of (with_options rules (prefix_options rules.options base)) UNLIMITED text

-- the only line of a layout, or `None` if there are several or it is not narrower than the width
abbrev pub narrow_line : ℕ → List Visual → Option Visual
narrow_line width (line ∷ []) = if nat_lt line.columns width then Some line else None
narrow_line width lines = None

-- a list, or only `a` if the list is empty; a newline thus follows a prefix that has no text after it
abbrev pub or_one : {A : Type 0} → A → List A → List A
or_one a [] = a ∷ []
or_one a (b ∷ list) = b ∷ list

-- What is printed for a prefix: its characters in their styles. On lines after the first, a prefix that is
-- not `repeated` becomes as many spaces as it has columns. A right-to-left prefix is printed to the right of
-- each line.
abbrev pub line_prefix : Bool → Print → Visual → List Style → LinePrefix
line_prefix repeated print line styles = record {
  first = line_chars print line styles;
  others = if repeated then line_chars print line styles else in_style DEFAULT (replicate line.columns 32);
  is_right = is_odd line.base;
}

module _ (rules : Rules) (form : Form) (text : List ℕ) (styles : List Style) where
  -- the line of a prefix that consists of a paragraph's first n characters, or `None` if they do not fit on
  -- one line that is narrower than the width
  abbrev pub prefix_line : ℕ → Option Visual
  prefix_line n =
      narrow_line (width_of form) (visuals (prefix_layout rules (prefix_base form.prefix (base_of rules (or_one 10 (drop n text)))) (take n text)))

  -- The printed bytes of a paragraph, given the line of its prefix, the first n characters. The text after
  -- the prefix is laid out as a separate paragraph. If the line is `None`, the paragraph has no prefix.
  abbrev pub bytes_after : ℕ → Option Visual → List ℕ
  bytes_after n None = styled_bytes None rules (width_of form) (print_of form) text styles
  bytes_after n (Some line) =
      styled_bytes (Some (line_prefix (repeats form.prefix) (print_of form) line (take n styles))) rules (width_of form - line.columns) (print_of form)
      (or_one 10 (drop n text)) (or_one DEFAULT (drop n styles))

  -- the printed bytes of a paragraph, given the length of its prefix, or 0 if there is none
  abbrev pub prefixed_bytes : ℕ → List ℕ
  prefixed_bytes zero = bytes_after 0 None
  prefixed_bytes (suc n) = bytes_after (suc n) (prefix_line (suc n))

  -- the printed bytes of a paragraph with the prefix that it begins with
  abbrev pub formed_bytes : List ℕ
  formed_bytes = prefixed_bytes (prefix_len rules.tables form.prefix text)

-- the printed bytes of a paragraph, given the styles of its characters
unfoldable pub printed_bytes : Rules → Form → List ℕ → List Style → List ℕ
printed_bytes rules form text styles = formed_bytes (rules_in form rules) form text styles

-- the printed bytes of a paragraph, given its characters with their styles
abbrev pub printed_paragraph : Rules → Form → List (ℕ × Style) → List ℕ
printed_paragraph rules form shown = printed_bytes rules form (characters_of shown) (styles_of shown)
