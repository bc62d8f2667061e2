-- Where a control sequence, an escape sequence or a control string ends (ECMA-48, 5.3 to 5.6).
use Rattle.std.specs.Prelude.{ℕ, suc, ◌+◌, ◌-◌, nat_le, nat_lt, ◌==◌, Bool, ◌&&◌, ◌||◌, List, [], ◌∷◌, drop, slice_index, Option, Some, None, option_map, if◌then◌else◌}
use Rattle.std.specs.List.{prefix_len}
use Rattle.sequences.specs.Characters.{ends_piece, is_c1_introducer, is_inline}
use Rattle.sequences.specs.declared.lengths.TheConstants.{LONGEST_STRING}

abbrev pub is_parameter : ℕ → Bool
is_parameter c = nat_le 0x30 c && nat_le c 0x3F

abbrev pub is_intermediate : ℕ → Bool
is_intermediate c = nat_le 0x20 c && nat_le c 0x2F

-- the final characters of control sequences, and those of escape sequences
abbrev pub is_csi_final : ℕ → Bool
is_csi_final c = nat_le 0x40 c && nat_le c 0x7E

abbrev pub is_escape_final : ℕ → Bool
is_escape_final c = nat_le 0x30 c && nat_le c 0x7E

-- The definitions below apply to the text after an introducer. The lengths do not include the introducer.

-- the index of the final character of a control sequence, after any parameters and any intermediates
abbrev pub csi_end : List ℕ → ℕ
csi_end text = prefix_len is_parameter text + prefix_len is_intermediate (drop (prefix_len is_parameter text) text)

abbrev pub csi_len : List ℕ → Option ℕ
csi_len text = if is_csi_final (slice_index text (csi_end text)) then Some (csi_end text + 1) else None

-- the length of an escape sequence, which consists of any intermediates and a final character, or `None` if
-- there is none
abbrev pub escape_len : List ℕ → Option ℕ
escape_len text =
    if is_escape_final (slice_index text (prefix_len is_intermediate text)) then Some (prefix_len is_intermediate text + 1) else None

-- the length of a control string without its terminator; a string that is too long may continue after these
-- characters
abbrev pub string_end : List ℕ → ℕ
string_end text = prefix_len is_inline text

-- The length of the string terminator that a text begins with, or 0 if there is none: ST (ESC \ or U+009C) or, for OSC,
-- BEL.
abbrev pub terminator_len : Bool → List ℕ → ℕ
terminator_len is_osc text =
    if slice_index text 0 == 0x9C || (is_osc && slice_index text 0 == 0x07) then 1
    else if slice_index text 0 == 0x1B && slice_index text 1 == 0x5C then 2 else 0

-- A string that is too long ends with its terminator, or else before the next character that ends a piece.
-- This is the length of the string without the characters that `string_end` counts.
abbrev pub long_len : Bool → List ℕ → ℕ
long_len is_osc [] = 0
long_len is_osc (c ∷ text) =
    if ends_piece c then 0
    else if terminator_len is_osc (c ∷ text) == 0 then suc (long_len is_osc text)
    else terminator_len is_osc (c ∷ text)

-- A string that is longer than the limit is dropped, with or without a terminator. Any other string without a
-- terminator is incomplete.
abbrev pub string_len : Bool → List ℕ → Option ℕ
string_len is_osc text =
    let n = string_end text in
    let terminator = terminator_len is_osc (drop n text) in
    if nat_lt LONGEST_STRING n then Some (n + long_len is_osc (drop n text))
    else if terminator == 0 then None
    else Some (n + terminator)

-- the characters that open a string after ESC: P for DCS, X for SOS, ] for OSC, ^ for PM and _ for APC
abbrev pub opens_string : ℕ → Bool
opens_string c = c == 0x50 || (c == 0x58 || (c == 0x5D || (c == 0x5E || c == 0x5F)))

-- the length, without ESC, of the sequence that ESC and the start of a text form, or `None` if they form none
abbrev pub len_after_escape : List ℕ → Option ℕ
len_after_escape [] = None
len_after_escape (c ∷ text) =
    if c == 0x5B then option_map suc (csi_len text)
    else if opens_string c then option_map suc (string_len (c == 0x5D) text)
    else escape_len (c ∷ text)

-- the length of the complete sequence that a text begins with, or `None` if there is none
abbrev pub sequence_len : List ℕ → Option ℕ
sequence_len [] = None
sequence_len (c ∷ text) =
    if c == 0x1B then option_map suc (len_after_escape text)
    else if is_c1_introducer c then len_after_escape ((c - 0x40) ∷ text)
    else None

-- the text after ESC, for a text that begins with a sequence; a C1 control is read as its ESC form
abbrev pub after_escape : List ℕ → List ℕ
after_escape [] = []
after_escape (c ∷ text) = if c == 0x1B then text else (c - 0x40) ∷ text
