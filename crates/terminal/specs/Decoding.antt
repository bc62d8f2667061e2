-- Decoding bytes that are read in chunks.
use Rattle.std.specs.Prelude.{◌≡◌, ℕ, ◌<◌, ◌≤◌, Bool, true, ◌&&◌, List, ◌++◌, map, ◌+◌, length, take, drop, vec_len, Option, None, if◌then◌else◌}
use Rattle.std.specs.Str.{chars}
use Rattle.std.specs.Str.Lossy.{utf8_error_len, utf8_lossy, utf8_valid_len}
use Rattle.stream.specs.Reading.{IsReadTo}
use Rattle.stream.specs.Utf8.{is_bad}
use Rattle.device.specs.Device.{Device}
use Rattle.terminal.specs.Texts.{picture, without_mark}
use Rattle.terminal.specs.declared.decoder.Decoder.{Decoder}
use Rattle.terminal.specs.declared.form.Escapes.{Escapes}
use Rattle.terminal.specs.declared.form.Escapes.TheVariants.{Keep, Strip, Text}

-- the characters of UTF-8 bytes; each maximal subpart of an ill-formed sequence becomes U+FFFD
abbrev pub lossy : List ℕ → List ℕ
lossy bytes = chars (utf8_lossy bytes)

-- whether bytes are empty or the beginning of a character
pub record IsBeginning (bytes : List ℕ) : Type 0 where
  pub none : utf8_valid_len bytes ≡ 0
  pub fault : utf8_error_len bytes ≡ None
  pub few : length bytes < 4

-- The longest prefix of bytes that is valid UTF-8, and the length of the invalid sequence after it. The length is
-- `None` if the prefix is followed by nothing or by an incomplete character.
pub record IsValidPrefix (bytes text : List ℕ) (error : Option ℕ) : Type 0 where
  pub text_is : text ≡ take (utf8_valid_len bytes) bytes
  pub error_is : error ≡ utf8_error_len (drop (utf8_valid_len bytes) bytes)
  pub few : error ≡ None → length bytes < utf8_valid_len bytes + 4

-- The first n bytes were decoded, and their characters were added to a list. These characters are the same whatever
-- bytes follow.
pub record IsDecoded (bytes : List ℕ) (n : ℕ) (before after : List ℕ) : Type 0 where
  pub characters : List ℕ
  pub added : after ≡ before ++ characters
  pub within : n ≤ length bytes
  pub text : (more : List ℕ) → lossy (bytes ++ more) ≡ characters ++ lossy (drop n bytes ++ more)

-- The first n bytes were decoded. At most an incomplete character follows them.
pub record IsAllDecoded (bytes : List ℕ) (n : ℕ) (before after : List ℕ) : Type 0 where
  pub decoded : IsDecoded bytes n before after
  pub rest : IsBeginning (drop n bytes)

-- in the mode `Text`, pictures replace controls that the other modes drop
abbrev pub pictures : Escapes → List ℕ → List ℕ
pictures Keep text = text
pictures Strip text = text
pictures Text text = map picture text

-- the characters of the rest of an input, given whether any characters of the input were decoded before
abbrev pub text_after : Escapes → Bool → List ℕ → List ℕ
text_after escapes started bytes = pictures escapes (if started then lossy bytes else without_mark (lossy bytes))

-- the bytes that are decoded: if `strict`, only those before the first invalid UTF-8
abbrev pub good_part : Bool → List ℕ → List ℕ
good_part strict bytes = if strict && is_bad bytes then take (utf8_valid_len bytes) bytes else bytes

-- The first n bytes were decoded. If `strict`, these bytes are valid UTF-8, and an invalid rest is dropped.
pub record Decodes (strict : Bool) (bytes : List ℕ) (n : ℕ) (stops : Bool) (before after : List ℕ) : Type 0 where
  pub all : IsAllDecoded (good_part strict bytes) n before after
  pub stops_is : stops ≡ (strict && is_bad bytes)
  pub within : n ≤ length bytes
  pub valid : strict ≡ true → (n ≡ utf8_valid_len bytes) × (after ≡ before ++ chars (take n bytes))

-- n bytes were read and appended to the waiting bytes
pub record IsRead (n : ℕ) (old new : Decoder) (reader_old reader_new : Device) : Type 0 where
  pub read : IsReadTo old.waiting n old.chunk.items new.chunk.items reader_old reader_new
  pub small : old.waiting + n ≤ vec_len old.chunk
  pub room : vec_len new.chunk ≡ vec_len old.chunk
  pub same : new ≡ record old { chunk = new.chunk }

-- These are the characters of the valid UTF-8 at the start of `bytes`, whatever follows. The other bytes wait
-- for the next read.
pub record IsValidText (escapes : Escapes) (bytes waiting characters : List ℕ) (started started_new : Bool) : Type 0 where
  pub rest : waiting ≡ drop (utf8_valid_len bytes) bytes
  pub text : (more : List ℕ) → text_after escapes started (take (utf8_valid_len bytes) bytes ++ more) ≡ characters ++ text_after escapes started_new more

-- The characters of bytes were added to a list. At most an incomplete character waits for the next read.
pub record Takes (strict : Bool) (escapes : Escapes) (bytes : List ℕ) (old new : Decoder) (before after : List ℕ) : Type 0 where
  pub characters : List ℕ
  pub added : after ≡ before ++ characters
  pub text : (more : List ℕ) → text_after escapes old.started (bytes ++ more)
      ≡ characters ++ text_after escapes new.started (take new.waiting new.chunk.items ++ more)
  pub beginning : IsBeginning (take new.waiting new.chunk.items)
  pub waits : length (take new.waiting new.chunk.items) ≡ new.waiting
  pub room : vec_len new.chunk ≡ vec_len old.chunk
  pub counts : new.decoded + new.waiting ≡ old.decoded + length bytes
  pub valid : strict ≡ true → IsValidText escapes bytes (take new.waiting new.chunk.items) characters old.started new.started
