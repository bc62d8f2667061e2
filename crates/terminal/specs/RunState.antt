-- The state of `run` between two reads. No contract of an exported function uses these definitions.
use Rattle.std.specs.Prelude.{◌≡◌, ℕ, ◌+◌, ◌*◌, ◌<◌, ◌≤◌, nat_le, nat_lt, ◌&&◌, ◌||◌, Bool, true, false, List, [], ◌∷◌, ◌++◌, length, take, drop, vec_len, Option, Some, None, IsUtf8, Result, Ok, Err, if◌then◌else◌}
use Rattle.std.specs.List.{concat, flat_map}
use Rattle.device.specs.Device.{Device, StoppedAt, Wrote}
use Rattle.lines.specs.Layouts.{Rules, cut_by}
use Rattle.lines.specs.declared.engine.TheConstants.{PARAGRAPH_LIMIT}
use Rattle.sequences.specs.Scanners.{pen_of}
use Rattle.sequences.specs.Styled.{Pen, START, next_paragraph, pen_at_end}
use Rattle.sequences.specs.StyledTexts.{styled_of}
use Rattle.stream.specs.Utf8.{is_bad}
use Rattle.stream.specs.declared.reading.TheConstants.{CHUNK}
use Rattle.terminal.specs.Decoding.{IsBeginning, Takes, good_part, text_after}
use Rattle.terminal.specs.Ends.{IsLeft}
use Rattle.terminal.specs.Newlines.{text_output}
use Rattle.terminal.specs.Passed.{HasPassed}
use Rattle.terminal.specs.Run.{are_within, blocks_page, have_over, ArePermitted, HasRead, IsRun, IsTooLong}
use Rattle.terminal.specs.Texts.{block_page, blocks, input_text, shown_blocks}
use Rattle.terminal.specs.declared.faults.Fault.{Fault}
use Rattle.terminal.specs.declared.faults.Fault.TheVariants as f
use Rattle.terminal.specs.declared.form.Escapes.{Escapes}
use Rattle.terminal.specs.declared.form.Form.{Form}
use Rattle.terminal.specs.declared.output.Output.{Output}
use Rattle.terminal.specs.declared.input.Held.{Held}

-- the printed bytes of blocks, the first of which begins in the state of a pen
abbrev pub pages : Rules → Form → Pen → List (List ℕ) → List ℕ
pages rules form pen parts = flat_map (block_page rules form) (shown_blocks pen parts)

-- the pen with which the block after some blocks begins
abbrev pub pen_after_blocks : Pen → List (List ℕ) → Pen
pen_after_blocks pen [] = pen
pen_after_blocks pen (block ∷ parts) = pen_after_blocks (next_paragraph (pen_at_end pen block)) parts

-- The first blocks of a text, whatever follows the text, and the text after them.
pub record IsFront (is_cut : ℕ → ℕ → Bool) (parts : List (List ℕ)) (text rest : List ℕ) : Type 0 where
  pub whole : text ≡ concat parts ++ rest
  pub cuts : (more : List ℕ) → blocks is_cut (text ++ more) ≡ parts ++ blocks is_cut (rest ++ more)

-- The lines of blocks were added to the page.
pub record Adds (rules : Rules) (form : Form) (parts : List (List ℕ)) (old new : Output) : Type 0 where
  pub lines : new.page.bytes.items ≡ old.page.bytes.items ++ pages rules form (pen_of old.scanner) parts
  pub pen : pen_of new.scanner ≡ pen_after_blocks (pen_of old.scanner) parts
  pub empty : styled_of new.scanner.text ≡ []
  pub written : new.written ≡ old.written
  pub over : new.over ≡ (old.over || have_over rules (pen_of old.scanner) parts)

-- whether the first block of a text is too long, given a number of characters that end no block and the length of the text
abbrev pub is_left_long : ℕ → ℕ → Bool
is_left_long scanned len = nat_lt PARAGRAPH_LIMIT len && (nat_le PARAGRAPH_LIMIT scanned || nat_lt (2 * PARAGRAPH_LIMIT) len)

-- the rest of a text: either it is too long, or `IsLeft` holds for it
abbrev pub Leaves : Rules → Bool → Bool → ℕ → List ℕ → Type 0
Leaves rules holds true scanned rest = (holds ≡ true) × IsTooLong (cut_by rules) rest
Leaves rules holds false scanned rest = IsLeft (cut_by rules) holds scanned rest

-- The lines of all blocks that have ended were added to the page. If a block is too long, only the lines of the blocks
-- before it were added.
pub record AddsEnded (rules : Rules) (form : Form) (text : List ℕ) (old new : Output) (start scanned : ℕ) (is_long : Bool) : Type 0 where
  pub parts : List (List ℕ)
  pub front : IsFront (cut_by rules) parts text (drop start text)
  pub permitted : ArePermitted form parts
  pub within : start ≤ length text
  pub adds : Adds rules form parts old new
  pub leaves : Leaves rules form.strict is_long scanned (drop start text)
  pub holds : form.strict ≡ true → length (drop start text) ≡ 0 → length text ≡ 0

-- The lines of all blocks of a whole text were added to the page. If a block is too long, only the lines of the blocks
-- before it were added.
abbrev pub AddsLast : Rules → Form → Bool → List ℕ → Output → Output → Bool → Type 0
AddsLast rules form is_last text old new false =
    (new.page.bytes.items ≡ old.page.bytes.items ++ text_output rules form is_last (pen_of old.scanner) text)
    × (new.over ≡ (old.over || have_over rules (pen_of old.scanner) (blocks (cut_by rules) text)))
AddsLast rules form is_last text old new true =
    (form.strict ≡ true) × ((parts : List (List ℕ)) × (first : List ℕ) × (others : List (List ℕ)) × (blocks (cut_by rules) text ≡ parts ++ first ∷ others) × (are_within parts ≡ true)
    × (PARAGRAPH_LIMIT + 1 ≤ length first) × (new.page.bytes.items ≡ old.page.bytes.items ++ pages rules form (pen_of old.scanner) parts))

-- the characters to add at the end of an input: U+FFFD if it ends inside a character, of which `waiting`
-- bytes were read
abbrev pub last_characters : ℕ → List ℕ
last_characters waiting = if nat_lt 0 waiting then 0xFFFD ∷ [] else []

-- why a run ends after a chunk, or `None` if it continues, given whether a block is too long, and whether the
-- bytes from index n on are invalid UTF-8
abbrev pub fault_after : Bool → Bool → ℕ → Option Fault
fault_after true stops n = Some f.ParagraphTooLong
fault_after false true n = Some (f.NotUtf8 n)
fault_after false false n = None

-- A chunk was decoded, and the lines of all finished blocks were added to the page. If a block is too long, only the lines
-- of the blocks before it were added.
pub record Gathers (rules : Rules) (form : Form) (bytes : List ℕ) (old new : Held) (fault : Option Fault) : Type 0 where
  pub text : List ℕ
  pub takes : Takes form.strict form.escapes (good_part form.strict bytes) old.decoder new.decoder old.text.items text
  pub parts : List (List ℕ)
  pub front : IsFront (cut_by rules) parts text new.text.items
  pub permitted : ArePermitted form parts
  pub adds : Adds rules form parts old.output new.output
  pub is_long : Bool
  pub leaves : Leaves rules form.strict is_long new.scanned new.text.items
  pub holds : form.strict ≡ true → length new.text.items ≡ 0 → length text ≡ 0
  pub fault_is : fault ≡ fault_after is_long (form.strict && is_bad bytes) new.decoder.decoded

-- The bytes before the waiting bytes are valid UTF-8, and their characters are `text`, whatever follows.
pub record IsValidSoFar (escapes : Escapes) (bytes waiting text : List ℕ) (started : Bool) : Type 0 where
  pub front : List ℕ
  pub whole : bytes ≡ front ++ waiting
  pub utf8 : IsUtf8 front
  pub decoded : (more : List ℕ) → input_text escapes (front ++ more) ≡ text ++ text_after escapes started more

-- The bytes read so far are the blocks `sent`, the rest of a text, and bytes that wait for the next read.
pub record IsFed (rules : Rules) (form : Form) (bytes : List ℕ) (sent : List (List ℕ)) (waiting text : List ℕ) (started : Bool) : Type 0 where
  pub decoded : (more : List ℕ) → input_text form.escapes (bytes ++ more) ≡ (concat sent ++ text) ++ text_after form.escapes started (waiting ++ more)
  pub beginning : IsBeginning waiting
  pub cuts : (more : List ℕ) → blocks (cut_by rules) ((concat sent ++ text) ++ more) ≡ sent ++ blocks (cut_by rules) (text ++ more)
  pub permitted : ArePermitted form sent
  pub valid : form.strict ≡ true → IsValidSoFar form.escapes bytes waiting (concat sent ++ text) started

-- What a run did between two states of its source and sink. The run wrote the lines of the blocks `sent`.
pub record IsAt (rules : Rules) (form : Form) (reader_old reader writer_old writer : Device) (waiting text : List ℕ) (started : Bool) (pen : Pen) (written : ℕ) (over : Bool) : Type 0 where
  pub bytes : List ℕ
  pub sent : List (List ℕ)
  pub read : HasRead reader_old reader bytes
  pub failures : reader.failures ≡ reader_old.failures
  pub fed : IsFed rules form bytes sent waiting text started
  pub wrote : Wrote (blocks_page rules form sent) writer_old writer
  pub pen_is : pen ≡ pen_after_blocks START sent
  pub written_is : written ≡ length (blocks_page rules form sent)
  pub over_is : over ≡ have_over rules START sent

-- the state of a run between two reads, after all lines on the page were written
pub record Stands (rules : Rules) (form : Form) (reader_old writer_old reader writer : Device) (held : Held) : Type 0 where
  pub is_at : IsAt rules form reader_old reader writer_old writer (take held.decoder.waiting held.decoder.chunk.items) held.text.items held.decoder.started
      (pen_of held.output.scanner) held.output.written held.output.over
  pub is_left : IsLeft (cut_by rules) form.strict held.scanned held.text.items
  pub passed : HasPassed held.passed (drop (held.scanned + 1) held.text.items)
  pub holds : form.strict ≡ true → length held.text.items ≡ 0 → length is_at.sent ≡ 0
  pub empty : styled_of held.output.scanner.text ≡ []
  pub lines : held.output.page.bytes.items ≡ []
  pub room : vec_len held.decoder.chunk ≡ CHUNK
  pub counts : held.decoder.decoded + held.decoder.waiting ≡ length is_at.bytes
  pub waits : length (take held.decoder.waiting held.decoder.chunk.items) ≡ held.decoder.waiting

-- a step continues the run or ends it
abbrev pub Steps : Rules → Form → Bool → Device → Device → Device → Device → Held → Result Bool Fault → Type 0
Steps rules form is_last reader_old writer_old reader_new writer_new held (Ok true) = Stands rules form reader_old writer_old reader_new writer_new held
Steps rules form is_last reader_old writer_old reader_new writer_new held (Ok false) = IsRun rules form is_last reader_old reader_new writer_old writer_new (Ok held.output.over)
Steps rules form is_last reader_old writer_old reader_new writer_new held (Err fault) = IsRun rules form is_last reader_old reader_new writer_old writer_new (Err fault)

-- the output at the end of an input, for each result
abbrev pub Finishes : Rules → Form → Bool → Held → Bool → Device → Device → Result (Unit {0}) Fault → Type 0
Finishes rules form is_last held over old new (Ok done) =
    (form.strict ≡ true → held.decoder.waiting ≡ 0)
    × (over ≡ (held.output.over || have_over rules (pen_of held.output.scanner) (blocks (cut_by rules) (held.text.items ++ last_characters held.decoder.waiting))))
    × Wrote (held.output.page.bytes.items ++ text_output rules form is_last (pen_of held.output.scanner) (held.text.items ++ last_characters held.decoder.waiting)) old new
Finishes rules form is_last held over old new (Err f.Memory) = new ≡ old
Finishes rules form is_last held over old new (Err f.Read) = ⊥
Finishes rules form is_last held over old new (Err (f.NotUtf8 n)) = (form.strict ≡ true) × (0 < held.decoder.waiting) × (n ≡ held.decoder.decoded) × (new ≡ old)
Finishes rules form is_last held over old new (Err f.ParagraphTooLong) =
    (middle : Output) × AddsLast rules form is_last (held.text.items ++ last_characters held.decoder.waiting) held.output middle true × Wrote middle.page.bytes.items old new
Finishes rules form is_last held over old new (Err (f.Write n)) =
    (middle : Output) × (is_long : Bool) × AddsLast rules form is_last (held.text.items ++ last_characters held.decoder.waiting) held.output middle is_long
    × ((m : ℕ) × (n ≡ held.output.written + m) × StoppedAt m middle.page.bytes.items old new)
