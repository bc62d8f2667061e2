-- What is written for an input that is read in chunks, and how the run ends.
use Rattle.std.specs.Prelude.{◌≡◌, ◌⊎◌, ℕ, ◌+◌, ◌*◌, ◌<◌, ◌≤◌, nat_le, Bool, true, List, [], ◌∷◌, ◌++◌, length, take, Result, Ok, Err, IsUtf8}
use Rattle.std.specs.List.{concat, flat_map, list_all, list_any}
use Rattle.std.specs.Str.Lossy.{utf8_valid_len}
use Rattle.std.specs.Io.KnownBytes.{Consumes, IsAtEnd}
use Rattle.device.specs.Device.{Device, FailedLast, StoppedAt, Took, Wrote}
use Rattle.lines.specs.Layouts.{Rules, cut_by}
use Rattle.lines.specs.declared.engine.TheConstants.{PARAGRAPH_LIMIT}
use Rattle.sequences.specs.Laws.{characters_of}
use Rattle.sequences.specs.Styled.{Pen, START}
use Rattle.stream.specs.Utf8.{is_bad}
use Rattle.stream.specs.declared.reading.TheConstants.{CHUNK}
use Rattle.terminal.specs.Decoding.{good_part}
use Rattle.terminal.specs.Ends.{IsLeft}
use Rattle.terminal.specs.Newlines.{output_page}
use Rattle.terminal.specs.Pieces.{has_over}
use Rattle.terminal.specs.Texts.{block_page, blocks, input_text, shown_blocks}
use Rattle.terminal.specs.declared.faults.Fault.{Fault}
use Rattle.terminal.specs.declared.faults.Fault.TheVariants as fault
use Rattle.terminal.specs.declared.form.Escapes.{Escapes}
use Rattle.terminal.specs.declared.form.Form.{Form}

-- the printed bytes of the first blocks of an input
abbrev pub blocks_page : Rules → Form → List (List ℕ) → List ℕ
blocks_page rules form parts = flat_map (block_page rules form) (shown_blocks START parts)

-- whether a block is within the limit for paragraphs
abbrev pub is_within : List ℕ → Bool
is_within block = nat_le (length block) PARAGRAPH_LIMIT

abbrev pub are_within : List (List ℕ) → Bool
are_within parts = list_all is_within parts

-- If the form is strict, all blocks are within the limit.
abbrev pub ArePermitted : Form → List (List ℕ) → Type 0
ArePermitted form parts = form.strict ≡ true → are_within parts ≡ true

-- whether blocks show a paragraph that is over the limit, so that it is laid out in pieces
abbrev pub have_over : Rules → Pen → List (List ℕ) → Bool
have_over rules pen parts = list_any (λ shown. has_over rules (characters_of shown)) (shown_blocks pen parts)

-- The characters of some bytes, as far as they do not depend on the bytes that follow. If the bytes end inside a
-- character, the U+FFFD for this character is missing.
pub record IsText (escapes : Escapes) (bytes text : List ℕ) : Type 0 where
  pub after : List ℕ → List ℕ
  pub begins : (more : List ℕ) → input_text escapes (bytes ++ more) ≡ text ++ after more
  pub few : length (after []) ≤ 1

-- The blocks that an input begins with, whatever follows the bytes, and the characters after these blocks.
pub record BeginsWith (rules : Rules) (form : Form) (bytes : List ℕ) (ended : List (List ℕ)) (rest : List ℕ) : Type 0 where
  pub text : IsText form.escapes bytes (concat ended ++ rest)
  pub blocks : (more : List ℕ) → blocks (cut_by rules) ((concat ended ++ rest) ++ more) ≡ ended ++ blocks (cut_by rules) (rest ++ more)
  pub permitted : ArePermitted form ended

-- `ended` are all blocks that have ended. If the form is strict, a block has ended only if something follows
-- it.
pub record HasEnded (rules : Rules) (form : Form) (bytes : List ℕ) (ended : List (List ℕ)) : Type 0 where
  pub rest : List ℕ
  pub begins : BeginsWith rules form bytes ended rest
  pub upto : ℕ
  pub is_left : IsLeft (cut_by rules) form.strict upto rest
  pub holds : form.strict ≡ true → length rest ≡ 0 → length ended ≡ 0

-- A text is too long in two cases: its first block is over the limit, whatever follows, or the text exceeds
-- twice the limit. The second case arises if a long incomplete sequence follows the block's CR.
abbrev pub IsTooLong : (ℕ → ℕ → Bool) → List ℕ → Type 0
IsTooLong is_cut text =
    ((more : List ℕ) → (first : List ℕ) × (others : List (List ℕ)) × (blocks is_cut (text ++ more) ≡ first ∷ others) × (PARAGRAPH_LIMIT < length first))
    ⊎ (2 * PARAGRAPH_LIMIT < length text)

-- the bytes that were read from a source between two states
abbrev pub HasRead : Device → Device → List ℕ → Type 0
HasRead old new bytes = Consumes old.bytes new.bytes bytes × (new.passed ≡ old.passed + length bytes)

-- At most one chunk, `late`, was read after the bytes `early`, and all blocks that end in `early` were
-- written first.
pub record WritesFirst (rules : Rules) (form : Form) (bytes : List ℕ) (writer_old writer_new : Device) : Type 0 where
  pub early : List ℕ
  pub late : List ℕ
  pub parts : bytes ≡ early ++ late
  pub chunk : length late ≤ CHUNK
  pub ended : List (List ℕ)
  pub has_ended : HasEnded rules form early ended
  pub more : List ℕ
  pub took : Took writer_old writer_new (blocks_page rules form ended ++ more)

-- the first blocks of the whole input, `ended`, are within the limit, and the next block is too long
abbrev pub EndsTooLong : Rules → Form → List ℕ → List (List ℕ) → Type 0
EndsTooLong rules form bytes ended =
    (first : List ℕ) × (others : List (List ℕ)) × (blocks (cut_by rules) (input_text form.escapes bytes) ≡ ended ++ first ∷ others)
    × (are_within ended ≡ true) × (PARAGRAPH_LIMIT < length first)

-- What was written, for each fault. If the form is strict, only the input before the first invalid UTF-8
-- counts.
abbrev pub EndsBy : (rules : Rules) (form : Form) (is_last : Bool) → Device → Device → (writer_old writer_new : Device) → (bytes : List ℕ)
    → WritesFirst rules form bytes writer_old writer_new → Fault → Type 0
EndsBy rules form is_last reader_old reader_new writer_old writer_new bytes first fault.Read =
    FailedLast reader_old reader_new × (first.late ≡ []) × Wrote (blocks_page rules form first.ended) writer_old writer_new
EndsBy rules form is_last reader_old reader_new writer_old writer_new bytes first fault.Memory = Wrote (blocks_page rules form first.ended) writer_old writer_new
EndsBy rules form is_last reader_old reader_new writer_old writer_new bytes first (fault.NotUtf8 n) =
    (form.strict ≡ true) × (n ≡ utf8_valid_len bytes) × ((is_bad bytes ≡ true) ⊎ (IsAtEnd reader_new.bytes × (n < length bytes)))
    × ((ended : List (List ℕ)) × HasEnded rules form (take n bytes) ended × Wrote (blocks_page rules form ended) writer_old writer_new)
EndsBy rules form is_last reader_old reader_new writer_old writer_new bytes first fault.ParagraphTooLong =
    (form.strict ≡ true) × ((ended : List (List ℕ)) × Wrote (blocks_page rules form ended) writer_old writer_new
    × (((rest : List ℕ) × BeginsWith rules form (good_part form.strict bytes) ended rest × IsTooLong (cut_by rules) rest) ⊎ (IsAtEnd reader_new.bytes × EndsTooLong rules form bytes ended)))
EndsBy rules form is_last reader_old reader_new writer_old writer_new bytes first (fault.Write n) =
    ((ended : List (List ℕ)) × StoppedAt n (blocks_page rules form ended) writer_old writer_new
    × (((rest : List ℕ) × BeginsWith rules form (good_part form.strict bytes) ended rest) ⊎ (IsAtEnd reader_new.bytes × EndsTooLong rules form bytes ended)))
    ⊎ (IsAtEnd reader_new.bytes × StoppedAt n (output_page rules form is_last bytes) writer_old writer_new)

-- How a run ended. Without a fault, the whole input was read, and it is valid UTF-8 if the form is strict. The lines of
-- the input and nothing else were written, without the last newline if the input is the last one and its text does not
-- end a line. The result says whether a paragraph was over the limit.
abbrev pub IsRun : Rules → Form → Bool → Device → Device → Device → Device → Result Bool Fault → Type 0
IsRun rules form is_last reader_old reader_new writer_old writer_new (Ok over) =
    (bytes : List ℕ) × HasRead reader_old reader_new bytes × IsAtEnd reader_new.bytes × (reader_new.failures ≡ reader_old.failures)
    × (form.strict ≡ true → IsUtf8 bytes) × (over ≡ have_over rules START (blocks (cut_by rules) (input_text form.escapes bytes)))
    × Wrote (output_page rules form is_last bytes) writer_old writer_new
IsRun rules form is_last reader_old reader_new writer_old writer_new (Err fault) =
    (bytes : List ℕ) × HasRead reader_old reader_new bytes
    × ((first : WritesFirst rules form bytes writer_old writer_new) × EndsBy rules form is_last reader_old reader_new writer_old writer_new bytes first fault)
