-- UTF-8 text whose bytes come in chunks.
use Rattle.std.specs.Prelude.{◌≡◌, ℕ, ◌+◌, ◌<◌, ◌≤◌, nat_lt, Bool, List, ◌++◌, length, take, drop, slice_index, is_some, if◌then◌else◌}
use Rattle.std.specs.Str.{chars}
use Rattle.std.specs.Str.Lossy.{utf8_valid_len, utf8_error_len}

-- the characters of the longest prefix that is valid UTF-8
abbrev pub front_of : List ℕ → List ℕ
front_of bytes = chars (take (utf8_valid_len bytes) bytes)

-- whether the bytes after the valid prefix cannot begin a character, whatever follows
abbrev pub is_bad : List ℕ → Bool
is_bad bytes = is_some (utf8_error_len (drop (utf8_valid_len bytes) bytes))

-- the length in bytes of a character, given its first byte, which is at least 0xC0
abbrev pub char_len : ℕ → ℕ
char_len first = if nat_lt first 0xE0 then 2 else (if nat_lt first 0xF0 then 3 else 4)

-- A character begins at an index, and the bytes end inside this character. The bytes of a character after its first
-- byte are below 0xC0.
pub record IsCutOff (bytes : List ℕ) (at : ℕ) : Type 0 where
  pub begins : 0xC0 ≤ slice_index bytes at
  pub inside : (k : ℕ) → at < k → k < length bytes → slice_index bytes k < 0xC0
  pub short : length bytes < at + char_len (slice_index bytes at)

-- characters were moved from the front of a text to the end of a list; `rest` is the text that remains
abbrev pub Moved : List ℕ → List ℕ → List ℕ → List ℕ → Type 0
Moved before text after rest = after ++ chars rest ≡ before ++ chars text
