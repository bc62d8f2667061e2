-- What is written for a text, and how the run ends.
use Rattle.std.specs.Prelude.{◌≡◌, ◌≢◌, ◌⊎◌, ℕ, ◌+◌, ◌-◌, ◌*◌, ◌<◌, ◌==◌, nat_le, Bool, true, false, List, ◌++◌, ◌≤◌, length, take, drop, take_while, encode_utf8_all, Option, Some, None, IfSome, ⊤, is_none, Result, Ok, Err, if◌then◌else◌}
use Rattle.std.specs.List.{concat, list_all}
use Rattle.std.specs.Str.{chars}
use Rattle.std.specs.Str.Lossy.{utf8_valid_len}
use Rattle.std.specs.Io.KnownBytes.{Consumes, IsAtEnd}
use Rattle.bidi.specs.Cuts.{paragraphs}
use Rattle.lines.specs.Layouts.{Rules, cut_by}
use Rattle.lines.specs.Pages.{page}
use Rattle.lines.specs.declared.engine.TheConstants.{PARAGRAPH_LIMIT}
use Rattle.lines.specs.declared.engine.Engine.{Engine}
use Rattle.lines.specs.declared.printing.print.Print.{Print}
use Rattle.lines.specs.Engine.{Prints}
use Rattle.text_run.specs.Counts.{PrintsAtMost}
use Rattle.text_run.specs.Pages.{prints_some}
use Rattle.text_run.specs.declared.faults.RunFault.{RunFault}
use Rattle.text_run.specs.declared.faults.RunFault.TheVariants as fault
use Rattle.stream.specs.Utf8.{front_of, is_bad}
use Rattle.stream.specs.declared.reading.TheConstants.{CHUNK}
use Rattle.device.specs.Device.{Device, FailedLast, Took, Wrote, StoppedAt}

-- how an input ended: the source had no more bytes, or it failed
pub data Ending : Type 0 where
  AtEnd : Ending
  AtFailure : Ending

-- The fault of an input, if it has one: the input is not UTF-8, or a read failed. At the end of the input, an
-- incomplete UTF-8 sequence is reported as `NotUtf8` too.
abbrev pub input_fault : Ending → List ℕ → Option RunFault
input_fault AtEnd bytes =
    if utf8_valid_len bytes == length bytes then None else Some (fault.NotUtf8 (utf8_valid_len bytes))
input_fault AtFailure bytes = if is_bad bytes then Some (fault.NotUtf8 (utf8_valid_len bytes)) else Some fault.Read

-- whether a paragraph is within the length limit
abbrev pub is_within : List ℕ → Bool
is_within paragraph = nat_le (length paragraph) PARAGRAPH_LIMIT

abbrev pub are_within : List (List ℕ) → Bool
are_within pars = list_all is_within pars

-- The paragraphs that are written. If any paragraph is too long, only the paragraphs before the first such
-- one are written. Otherwise all paragraphs are written, or all but the last if the input has a fault.
abbrev pub written_of : List (List ℕ) → Bool → List (List ℕ)
written_of pars is_whole =
    if are_within pars then (if is_whole then pars else take (length pars - 1) pars) else take_while is_within pars

-- the fault that ends the run, if there is one
abbrev pub ending_of : List (List ℕ) → Option RunFault → Option RunFault
ending_of pars wrong = if are_within pars then wrong else Some fault.ParagraphTooLong

-- the paragraphs of the longest valid UTF-8 prefix of an input
abbrev pub front_paragraphs : Rules → List ℕ → List (List ℕ)
front_paragraphs rules bytes = paragraphs (cut_by rules) (front_of bytes)

-- What a source returned between two states: all its bytes or, if it failed, the bytes that were read before
-- the failure.
abbrev pub Gave : Device → Device → Ending → List ℕ → Type 0
Gave old new AtEnd bytes = IfSome old.bytes (λ all. all ≡ bytes) × (new.failures ≡ old.failures)
Gave old new AtFailure bytes = Consumes old.bytes new.bytes bytes × (new.passed ≡ old.passed + length bytes) × FailedLast old new

-- How a run ended. Without a fault, or with a fault of the input, the page of the paragraphs `written` was
-- written to the sink. After a failed write, a prefix of that page was written, and the fault holds the
-- prefix's length. After a failed allocation, the page of the first k of these paragraphs was written.
abbrev pub EndsWith : (List (List ℕ) → List ℕ) → List (List ℕ) → Option RunFault → Device → Device → Option RunFault → Type 0
EndsWith page_of written wrong old new (Some (fault.Write n)) = StoppedAt n (page_of written) old new
EndsWith page_of written wrong old new (Some fault.Memory) = (k : ℕ) × Wrote (page_of (take k written)) old new
EndsWith page_of written wrong old new end = (end ≡ wrong) × Wrote (page_of written) old new

abbrev pub fault_of : Result (Unit {0}) RunFault → Option RunFault
fault_of (Ok done) = None
fault_of (Err wrong) = Some wrong

-- a run without a fault has read the whole input
abbrev pub HasReadAll : Option RunFault → Device → Device → List ℕ → Type 0
HasReadAll None old new bytes = IsAtEnd new.bytes × (new.passed ≡ old.passed + length bytes)
HasReadAll (Some wrong) old new bytes = ⊤

-- a run without a fault has printed each character once
abbrev pub HasPrintedAll : Option RunFault → List ℕ → Print → Engine → Engine → Type 0
HasPrintedAll None bytes print old new = Prints (length (chars bytes)) print old new
HasPrintedAll (Some wrong) bytes print old new = ⊤

-- after a fault of the input, the n characters of the written paragraphs were printed, and no others
abbrev pub HasPrinted : Option RunFault → ℕ → Print → Engine → Engine → Type 0
HasPrinted None n print old new = ⊤
HasPrinted (Some (fault.Write m)) n print old new = ⊤
HasPrinted (Some fault.Memory) n print old new = ⊤
HasPrinted (Some wrong) n print old new = Prints n print old new

-- What a run of a text does: it writes the paragraphs of the valid UTF-8 prefix of the bytes read, up to the
-- first fault.
abbrev pub IsTextRun : Rules → ℕ → Print → Device → Device → Device → Device → Engine → Engine → Result (Unit {0}) RunFault → Type 0
IsTextRun rules width print reader_old reader_new writer_old writer_new engine_old engine_new result =
    (ending : Ending) × (bytes : List ℕ) × Gave reader_old reader_new ending bytes
    × HasReadAll (fault_of result) reader_old reader_new bytes
    × HasPrintedAll (fault_of result) bytes print engine_old engine_new
    × (let pars = front_paragraphs rules bytes in
    let wrong = input_fault ending bytes in
    let written = written_of pars (is_none wrong) in
    HasPrinted (fault_of result) (length (concat written)) print engine_old engine_new
    × EndsWith (page rules width print) written (ending_of pars wrong) writer_old writer_new (fault_of result))

-- A failed read is always reported: if the result is not `Read`, no read from the source failed.
abbrev pub TellsReads : {A : Type 0} → Result A RunFault → Device → Device → Type 0
TellsReads result old new = result ≢ Err fault.Read → new.failures ≡ old.failures

-- the bytes that were read from a source between two states
abbrev pub HasRead : Device → Device → List ℕ → Type 0
HasRead old new bytes = Consumes old.bytes new.bytes bytes × (new.passed ≡ old.passed + length bytes)

-- A run that ended with `Memory`. No paragraph of the bytes read is too long. Unless nothing was read, the
-- lines of at least one paragraph are still to be written. If invalid UTF-8 follows, that paragraph ends
-- before the invalid bytes. If the options print no part of a paragraph, that paragraph has not been counted
-- yet either.
abbrev pub WantsMemory : Rules → ℕ → Print → Device → Device → Device → Device → Engine → Engine → Type 0
WantsMemory rules width print reader_old reader_new writer_old writer_new engine_old engine_new =
    (bytes : List ℕ) × HasRead reader_old reader_new bytes
    × (let pars = front_paragraphs rules bytes in
    (are_within pars ≡ true)
    × ((k : ℕ) × Wrote (page rules width print (take k pars)) writer_old writer_new
    × (prints_some print ≡ false → Prints (length (concat (take k pars))) print engine_old engine_new)
    × (0 < length bytes → (if is_bad bytes then k + 1 else k) < length pars)))

-- the number of characters that count as printed is at most that of the valid UTF-8 prefix of the bytes read
abbrev pub PrintsNoMore : Print → Device → Device → Engine → Engine → Type 0
PrintsNoMore print reader_old reader_new engine_old engine_new =
    (bytes : List ℕ) × HasRead reader_old reader_new bytes × PrintsAtMost (length (front_of bytes)) print engine_old engine_new

-- After a failed write, all paragraphs that were read count as printed, except possibly the last. The last
-- counts as printed only if the source had no more bytes. The sink failed within the lines of the printed
-- paragraphs, after n bytes.
abbrev pub HasStopped : Rules → ℕ → Print → Device → Device → Device → Device → Engine → Engine → ℕ → Type 0
HasStopped rules width print reader_old reader_new writer_old writer_new engine_old engine_new n =
    (bytes : List ℕ) × HasRead reader_old reader_new bytes
    × (let pars = front_paragraphs rules bytes in
    (k : ℕ) × ((length pars ≡ k + 1) ⊎ ((length pars ≡ k) × IsAtEnd reader_new.bytes))
    × StoppedAt n (page rules width print (take k pars)) writer_old writer_new
    × Prints (length (concat (take k pars))) print engine_old engine_new)

-- The maximum number of bytes that a run reads after the paragraphs it has written: a paragraph of the
-- maximum length and one more character, at four bytes per character, and one chunk.
abbrev pub read_ahead : ℕ
read_ahead = 4 * (PARAGRAPH_LIMIT + 1) + CHUNK

-- After a fault, the lines of the first k paragraphs of the input were written, and n bytes of the next
-- paragraph's lines. At most `read_ahead` bytes after these k paragraphs were read.
abbrev pub ReadsAhead : Rules → ℕ → Print → Device → Device → Device → Device → Type 0
ReadsAhead rules width print reader_old reader_new writer_old writer_new =
    (ending : Ending) × (bytes : List ℕ) × Gave reader_old reader_new ending bytes
    × (let pars = front_paragraphs rules bytes in
    (k : ℕ) × (n : ℕ) × Took writer_old writer_new (page rules width print (take k pars) ++ take n (page rules width print (take 1 (drop k pars))))
    × (reader_new.passed ≤ reader_old.passed + length (encode_utf8_all (concat (take k pars))) + read_ahead))
