-- The state of `run_text` between two reads. No contract of an exported function uses these definitions.
use Rattle.std.specs.Prelude.{◌≡◌, ℕ, ◌+◌, ◌<◌, ◌≤◌, ◌==◌, Bool, true, false, List, [], ◌∷◌, ◌++◌, length, take, drop, vec_len, Option, None, Some, Result, Ok, Err, OnErr, IsErrOf, encode_utf8_all, IsUtf8, if◌then◌else◌}
use Rattle.std.specs.List.{concat}
use Rattle.std.specs.Str.{chars}
use Rattle.std.specs.Str.Lossy.{utf8_valid_len, utf8_error_len}
use Rattle.std.specs.Io.KnownBytes.{Consumes}
use Rattle.bidi.specs.Cuts.{SplitsAt, paragraphs}
use Rattle.device.specs.Device.{Device, Wrote, StoppedAt}
use Rattle.lines.specs.Engine.{Prints}
use Rattle.lines.specs.Layouts.{Rules, cut_by}
use Rattle.lines.specs.Pages.{page}
use Rattle.lines.specs.declared.engine.TheConstants.{PARAGRAPH_LIMIT}
use Rattle.lines.specs.declared.engine.Engine.{Engine}
use Rattle.lines.specs.declared.printing.print.Print.{Print}
use Rattle.text_run.specs.Pages.{prints_some}
use Rattle.stream.specs.Reading.{IsReadTo}
use Rattle.stream.specs.Utf8.{front_of, is_bad}
use Rattle.text_run.specs.TextRun.{are_within, is_within, read_ahead, HasRead, HasStopped, IsTextRun, PrintsNoMore, ReadsAhead, WantsMemory}
use Rattle.text_run.specs.declared.faults.RunFault.{RunFault}
use Rattle.text_run.specs.declared.faults.RunFault.TheVariants as f
use Rattle.stream.specs.declared.reading.TheConstants.{CHUNK}
use Rattle.text_run.specs.declared.text.Held.{Held}

module _ (is_cut : ℕ → ℕ → Bool) where
  -- `pars` are the first paragraphs of a text, whatever follows the text. `rest` is the remaining text, which
  -- is empty only if the whole text is empty.
  pub record IsFront (pars : List (List ℕ)) (text rest : List ℕ) : Type 0 where
    pub whole : text ≡ concat pars ++ rest
    pub cuts : (more : List ℕ) → paragraphs is_cut (text ++ more) ≡ pars ++ paragraphs is_cut (rest ++ more)
    pub within : are_within pars ≡ true
    pub filled : 0 < length text → 0 < length rest

  -- the first paragraph of a text is too long, whatever follows the text
  pub record StartsLong (text : List ℕ) : Type 0 where
    pub first : List ℕ → List ℕ
    pub others : List ℕ → List (List ℕ)
    pub splits : (more : List ℕ) → paragraphs is_cut (text ++ more) ≡ first more ∷ others more
    pub long : (more : List ℕ) → is_within (first more) ≡ false

  -- whether a text has no paragraph boundary and is within the length limit of a paragraph
  pub record IsOpen (text : List ℕ) : Type 0 where
    pub uncut : SplitsAt is_cut text None
    pub short : length text ≤ PARAGRAPH_LIMIT

  -- whether no paragraph of a text is too long, and the first one ends within the text
  pub record IsEnded (text : List ℕ) : Type 0 where
    pub within : are_within (paragraphs is_cut text) ≡ true
    pub more : 1 < length (paragraphs is_cut text)

  -- A fault that is found before a text's first paragraph ends. Either the paragraph is too long, or invalid UTF-8
  -- follows the text, which has no paragraph boundary. `bad` says whether invalid UTF-8 follows.
  abbrev pub IsFaultAhead : List ℕ → Bool → ℕ → RunFault → Type 0
  IsFaultAhead text bad place f.ParagraphTooLong = StartsLong text
  IsFaultAhead text bad place (f.NotUtf8 n) = IsOpen text × (bad ≡ true) × (n ≡ place)
  IsFaultAhead text bad place fault = ⊥

-- The lines of the first paragraphs of a text were appended to a page, and the characters of these paragraphs
-- were counted once. `rest`, the remaining text, has no paragraph boundary.
pub record Pushed (rules : Rules) (width : ℕ) (print : Print) (text rest before after : List ℕ) (engine_old engine_new : Engine) : Type 0 where
  pub pars : List (List ℕ)
  pub front : IsFront (cut_by rules) pars text rest
  pub lines : after ≡ before ++ page rules width print pars
  pub counts : Prints (length (concat pars)) print engine_old engine_new
  pub left : IsOpen (cut_by rules) rest

-- whether the bytes are empty or an incomplete UTF-8 sequence
pub record IsBeginning (bytes : List ℕ) : Type 0 where
  pub none : utf8_valid_len bytes ≡ 0
  pub fault : utf8_error_len bytes ≡ None
  pub few : length bytes < 4

-- n bytes were read, and follow the waiting bytes in the buffer
pub record IsRead (n : ℕ) (old new : Held) (reader_old reader_new : Device) : Type 0 where
  pub read : IsReadTo old.waiting n old.chunk.items new.chunk.items reader_old reader_new
  pub small : old.waiting + n ≤ vec_len old.chunk
  pub room : vec_len new.chunk ≡ vec_len old.chunk
  pub same : new ≡ record old { chunk = new.chunk }

-- The valid UTF-8 prefix of the bytes was decoded, and the lines of the paragraphs that have ended were
-- appended to the page. The bytes after this prefix wait for the next read. If these bytes are invalid, the
-- fault is `NotUtf8`.
pub record Gathers (rules : Rules) (width : ℕ) (print : Print) (bytes : List ℕ) (old new : Held) (engine_old engine_new : Engine) (fault : Option RunFault) : Type 0 where
  pub pushed : Pushed rules width print (old.text.items ++ front_of bytes) new.text.items old.page.bytes.items new.page.bytes.items engine_old engine_new
  pub fault_is : fault ≡ (if is_bad bytes then Some (f.NotUtf8 new.decoded) else None)
  pub decoded : new.decoded ≡ old.decoded + utf8_valid_len bytes
  pub waiting : take new.waiting new.chunk.items ≡ drop (utf8_valid_len bytes) bytes
  pub few : new.waiting + utf8_valid_len bytes ≡ length bytes
  pub beginning : is_bad bytes ≡ false → length bytes < utf8_valid_len bytes + 4
  pub written : new.written ≡ old.written
  pub room : vec_len new.chunk ≡ vec_len old.chunk

-- A fault was found before the end of the first paragraph, and nothing has changed.
pub record FindsFault (rules : Rules) (bytes : List ℕ) (old new : Held) (engine_old engine_new : Engine) (fault : Option RunFault) : Type 0 where
  pub wrong : RunFault
  pub ahead : IsFaultAhead (cut_by rules) (old.text.items ++ front_of bytes) (is_bad bytes) (old.decoded + utf8_valid_len bytes) wrong
  pub fault_is : fault ≡ Some wrong
  pub same : new ≡ old
  pub engine : engine_new ≡ engine_old

-- the lines to write at the end of a text: those on the page, and those of the held characters
abbrev pub last_lines : Rules → ℕ → Print → Held → List ℕ
last_lines rules width print held =
    held.page.bytes.items ++ page rules width print (if length held.text.items == 0 then [] else held.text.items ∷ [])

-- the lines of the last paragraph, if there is one, were appended to the page
pub record GathersLast (rules : Rules) (width : ℕ) (print : Print) (old new : Held) : Type 0 where
  pub lines : new.page.bytes.items ≡ last_lines rules width print old
  pub written : new.written ≡ old.written

-- the lines of the page were written, and the page was emptied
pub record Writes (old new : Held) (writer_old writer_new : Device) : Type 0 where
  pub wrote : Wrote old.page.bytes.items writer_old writer_new
  pub empty : new.page.bytes.items ≡ []
  pub rest : new ≡ record old { page = new.page; written = old.written + length old.page.bytes.items }

-- the sink failed while the lines of the page were being written
abbrev pub StopsWriting : Held → RunFault → Device → Device → Type 0
StopsWriting held fault writer_old writer_new =
    (n : ℕ) × (fault ≡ f.Write (held.written + n)) × StoppedAt n held.page.bytes.items writer_old writer_new

-- The sink failed after some bytes were read. Exactly the paragraphs that had ended by then count as printed.
pub record StopsAfter (rules : Rules) (print : Print) (held : Held) (reader_old reader_new : Device) (engine_old engine_new : Engine) : Type 0 where
  pub more : List ℕ
  pub read : HasRead reader_old reader_new more
  pub pars : List (List ℕ)
  pub rest : List ℕ
  pub front : IsFront (cut_by rules) pars (held.text.items ++ front_of (take held.waiting held.chunk.items ++ more)) rest
  pub left : IsOpen (cut_by rules) rest
  pub counts : Prints (length (concat pars)) print engine_old engine_new

-- what is written at the end of a text, for each result of the run
abbrev pub Finishes : Rules → ℕ → Print → Held → Device → Device → Result (Unit {0}) RunFault → Type 0
Finishes rules width print held old new (Ok done) = (held.waiting ≡ 0) × Wrote (last_lines rules width print held) old new
Finishes rules width print held old new (Err (f.NotUtf8 n)) = (0 < held.waiting) × (n ≡ held.decoded) × (new ≡ old)
Finishes rules width print held old new (Err (f.Write n)) =
    (held.waiting ≡ 0) × ((m : ℕ) × (n ≡ held.written + m) × StoppedAt m (last_lines rules width print held) old new)
Finishes rules width print held old new (Err f.Memory) = (held.waiting ≡ 0) × (0 < length held.text.items) × (prints_some print ≡ true) × (new ≡ old)
Finishes rules width print held old new (Err fault) = ⊥

-- What a run did between two states of its source and sink. The run decoded the bytes that it read, except
-- for the last ones, `waiting`. It wrote the lines of the paragraphs `sent`, and still holds those of the
-- paragraphs `gathered`. `text` holds the characters after the last paragraph boundary.
pub record IsAt (rules : Rules) (width : ℕ) (print : Print) (reader_old reader_new writer_old writer_new : Device) (waiting text lines : List ℕ) : Type 0 where
  pub decoded : List ℕ
  pub sent : List (List ℕ)
  pub gathered : List (List ℕ)
  pub read : Consumes reader_old.bytes reader_new.bytes (decoded ++ waiting)
  pub passed : reader_new.passed ≡ reader_old.passed + length (decoded ++ waiting)
  pub failures : reader_new.failures ≡ reader_old.failures
  pub utf8 : IsUtf8 decoded
  pub front : IsFront (cut_by rules) (sent ++ gathered) (chars decoded) text
  pub wrote : Wrote (page rules width print sent) writer_old writer_new
  pub lines_are : lines ≡ page rules width print gathered
  pub ahead : reader_new.passed ≤ reader_old.passed + length (encode_utf8_all (concat sent)) + read_ahead

-- the state of a run between two reads, when no gathered lines are left to write
pub record Stands (rules : Rules) (width : ℕ) (print : Print) (reader_old writer_old : Device) (engine_old : Engine) (reader_new writer_new : Device) (engine_new : Engine) (held : Held) : Type 0 where
  pub is_at : IsAt rules width print reader_old reader_new writer_old writer_new (take held.waiting held.chunk.items) held.text.items []
  pub all_sent : is_at.gathered ≡ []
  pub decoded : held.decoded ≡ length is_at.decoded
  pub written : held.written ≡ length (page rules width print is_at.sent)
  pub text : IsOpen (cut_by rules) held.text.items
  pub lines : held.page.bytes.items ≡ []
  pub beginning : IsBeginning (take held.waiting held.chunk.items)
  pub room : vec_len held.chunk ≡ CHUNK
  pub waits : length (take held.waiting held.chunk.items) ≡ held.waiting
  pub fits : Prints 0 print engine_old engine_old
  pub counts : Prints (length (concat is_at.sent)) print engine_old engine_new

-- what holds when a run ends with a result
pub record Ends (rules : Rules) (width : ℕ) (print : Print) (reader_old writer_old : Device) (engine_old : Engine)
    (reader_new writer_new : Device) (engine_new : Engine) (result : Result (Unit {0}) RunFault) : Type 0 where
  pub run : IsTextRun rules width print reader_old reader_new writer_old writer_new engine_old engine_new result
  pub ahead : OnErr result (ReadsAhead rules width print reader_old reader_new writer_old writer_new)
  pub at_most : OnErr result (PrintsNoMore print reader_old reader_new engine_old engine_new)
  pub wants : IsErrOf result f.Memory → WantsMemory rules width print reader_old reader_new writer_old writer_new engine_old engine_new
  pub stopped : (n : ℕ) → IsErrOf result (f.Write n) → HasStopped rules width print reader_old reader_new writer_old writer_new engine_old engine_new n

-- what holds after a step: the run continues after `Ok(true)`, and has ended after any other result
abbrev pub Steps : Rules → ℕ → Print → Device → Device → Engine → Device → Device → Engine → Held → Result Bool RunFault → Type 0
Steps rules width print reader_old writer_old engine_old reader_new writer_new engine_new held (Ok true) =
    Stands rules width print reader_old writer_old engine_old reader_new writer_new engine_new held
Steps rules width print reader_old writer_old engine_old reader_new writer_new engine_new held (Ok false) =
    Ends rules width print reader_old writer_old engine_old reader_new writer_new engine_new (Ok tt)
Steps rules width print reader_old writer_old engine_old reader_new writer_new engine_new held (Err fault) =
    Ends rules width print reader_old writer_old engine_old reader_new writer_new engine_new (Err fault)
