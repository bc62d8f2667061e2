-- Whether the sequence at the start of a text is the same whatever follows the text.
use Rattle.std.specs.Prelude.{ℕ, ◌+◌, ◌-◌, nat_lt, ◌==◌, Bool, true, false, ◌||◌, not, List, [], ◌∷◌, length, drop, slice_index, if◌then◌else◌}
use Rattle.std.specs.List.{prefix_len}
use Rattle.sequences.specs.Characters.{ends_piece, is_c1_introducer}
use Rattle.sequences.specs.Sequences.{csi_end, is_intermediate, opens_string, string_end, terminator_len}
use Rattle.sequences.specs.declared.lengths.TheConstants.{LONGEST_STRING}

-- The definitions below apply to the text after an introducer.

-- The end of a string that is too long is known once a terminator or a character that ends a piece follows.
abbrev pub knows_long : Bool → List ℕ → Bool
knows_long is_osc [] = false
knows_long is_osc (c ∷ text) = ends_piece c || (not (terminator_len is_osc (c ∷ text) == 0) || knows_long is_osc text)

-- The end of any other string is known once a character follows that the string cannot contain. If this
-- character is ESC, one more character is needed.
abbrev pub knows_string : Bool → List ℕ → Bool
knows_string is_osc text =
    let n = string_end text in
    if nat_lt LONGEST_STRING n then knows_long is_osc (drop n text)
    else nat_lt (n + (if slice_index text n == 0x1B then 1 else 0)) (length text)

abbrev pub knows_after_escape : List ℕ → Bool
knows_after_escape [] = false
knows_after_escape (c ∷ text) =
    if c == 0x5B then nat_lt (csi_end text) (length text)
    else if opens_string c then knows_string (c == 0x5D) text
    else nat_lt (prefix_len is_intermediate (c ∷ text)) (length (c ∷ text))

-- whether the characters so far determine the end of the sequence at the start of a text, or show that there is none
abbrev pub knows_sequence : List ℕ → Bool
knows_sequence [] = false
knows_sequence (c ∷ text) =
    if c == 0x1B then knows_after_escape text
    else if is_c1_introducer c then knows_after_escape ((c - 0x40) ∷ text)
    else true
