-- Characters that have a meaning to a terminal.
use Rattle.std.specs.Prelude.{ℕ, nat_le, nat_lt, ◌==◌, Bool, ◌&&◌, ◌||◌, not}

-- the controls, general category Cc: C0, U+007F and C1
abbrev pub is_control : ℕ → Bool
is_control c = nat_lt c 0x20 || (nat_le 0x7F c && nat_lt c 0xA0)

-- the controls that remain in a text: U+0009 to U+000D, U+001C to U+001E and U+0085
abbrev pub is_kept_control : ℕ → Bool
is_kept_control c = (nat_le 0x09 c && nat_le c 0x0D) || ((nat_le 0x1C c && nat_le c 0x1E) || c == 0x85)

-- the controls that are dropped: all others
abbrev pub is_dropped : ℕ → Bool
is_dropped c = is_control c && not (is_kept_control c)

-- The characters that strings and overstrikes may contain: all but controls, U+2028 and U+2029. So neither strings nor
-- overstrikes span lines.
abbrev pub is_inline : ℕ → Bool
is_inline c = not (is_control c || (c == 0x2028 || c == 0x2029))

-- The characters after which a text can be split, since they are neither dropped nor allowed in a string: the
-- controls that remain, U+2028 and U+2029.
abbrev pub ends_piece : ℕ → Bool
ends_piece c = not (is_dropped c || is_inline c)

-- a C1 control that introduces the same kind of sequence as ESC and the character whose code is 0x40 lower
abbrev pub is_c1_introducer : ℕ → Bool
is_c1_introducer c = nat_le 0x80 c && (nat_lt c 0xA0 && not (c == 0x85))
