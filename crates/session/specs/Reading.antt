-- Reading the characters of a text, one paragraph at a time or as UTF-8.
use Rattle.std.specs.Prelude.{ℕ, ◌+◌, nat_lt, List, length, take, encode_utf8_all, Option, Some, None, if◌then◌else◌}
use Rattle.std.specs.List.{slice_range}
use Rattle.lines.specs.Layouts.{Layout}
use Rattle.session.specs.Kept.{pars_of, text_of}
use Rattle.session.specs.Places.{count_to, paragraph_starts}
use Rattle.session.specs.Touched.{start_of}

-- the end of the paragraph that contains a position
abbrev pub paragraph_end : List Layout → ℕ → ℕ
paragraph_end kept pos = start_of (pars_of kept) (count_to pos (paragraph_starts kept))

-- the characters of a range that are in the same paragraph as the range's first character; `None` if the
-- range reaches past the end
abbrev pub text_part : List Layout → ℕ → ℕ → Option (List ℕ)
text_part kept pos count =
    if nat_lt (length (text_of kept)) (pos + count) then None
    else Some (take count (slice_range (text_of kept) pos (paragraph_end kept pos)))

-- a range of the text as UTF-8
abbrev pub utf8_part : List Layout → ℕ → ℕ → List ℕ
utf8_part kept pos count = encode_utf8_all (slice_range (text_of kept) pos (pos + count))

-- how many bytes a range has in UTF-8; `None` if the range reaches past the end
abbrev pub utf8_len : List Layout → ℕ → ℕ → Option ℕ
utf8_len kept pos count = if nat_lt (length (text_of kept)) (pos + count) then None else Some (length (utf8_part kept pos count))
