-- What a command, a line and a chunk of a script do, and the state of a run between two reads. No contract of
-- an exported function uses these definitions.
use Rattle.std.specs.Prelude.{◌≡◌, ◌⊎◌, ℕ, ◌+◌, ◌<◌, ◌≤◌, false, true, All, Bool, List, [], ◌∷◌, ◌++◌, length, None, Some, Result, Ok, Err, string_bytes}
use Rattle.std.specs.List.{list_all, slice_split}
use Rattle.std.specs.Io.KnownBytes.{Consumes}
use Rattle.std.specs.Str.{chars}
use Rattle.std.specs.Str.Lossy.{utf8_valid_len}
use Rattle.device.specs.Device.{Device, Wrote, greatest}
use Rattle.lines.specs.Layouts.{Rules}
use Rattle.lines.specs.Writing.{PassedOn, StoppedIn}
use Rattle.lines.specs.declared.printing.print.Print.{Print}
use Rattle.session.specs.Edits.{Held}
use Rattle.session.specs.Sessions.{SessionState, held_at, layouts_at}
use Rattle.session.specs.declared.edits.Damage.{Damage}
use Rattle.session.specs.declared.edits.EditFault.{EditFault}
use Rattle.session.specs.declared.edits.EditFault.TheVariants.{NoMemory}
use Rattle.tool.specs.Queries.{AsksMemory}
use Rattle.tool.specs.Scripts.{is_line_end, command_of_line}
use Rattle.script_commands.specs.Commands.{LacksInserted, Command, Insert, Delete, SetWidth, Show, Ask}
use Rattle.tool.specs.ScriptEnds.{IsScriptRun}
use Rattle.tool.specs.ScriptRun.{after_line, after_lines, answer_line, answer_to, after_command, answers, damage_text, is_good, executed, executed_text, command_refusal, refusal_text, with_ends}
use Rattle.tool.specs.Work.{LineWorks, LinesWork}
use Rattle.text_run.specs.declared.faults.RunFault.{RunFault}
use Rattle.stream.specs.declared.reading.TheConstants.{CHUNK}
use Rattle.tool.specs.declared.script.TheConstants.{LINE_LIMIT}
use Rattle.text_run.specs.declared.faults.RunFault.TheVariants as f
use Rattle.tool.specs.declared.script.Reading.{Reading}
use Rattle.tool.specs.declared.script.ScriptOptions.{ScriptOptions}

-- Whether a command may allocate. An edit may allocate if the text or the inserted text is not empty. A query
-- may allocate if `AsksMemory` holds.
abbrev pub TakesMemory : Rules → Held → Command → Type 0
TakesMemory rules held (Insert pos inserted) = 0 < length held.text + length inserted
TakesMemory rules held (Delete pos count) = 0 < length held.text
TakesMemory rules held (SetWidth width) = 0 < length held.text
TakesMemory rules held Show = ⊥
TakesMemory rules held (Ask query) = AsksMemory (layouts_at rules held) query

-- The result of an edit. `Ok`: the edit was executed, and its damage returned. `NoMemory`: an allocation failed for an
-- edit that is not refused, and nothing was changed. Any other fault: the edit was refused, and nothing was changed.
abbrev pub Edited : Rules → Command → Held → Held → Result Damage EditFault → Type 0
Edited rules command old new (Ok damage) =
    (command_refusal rules old command ≡ None) × (new ≡ executed old command)
    × ((print : Print) → executed_text rules print old command ≡ damage_text damage.first_line damage.old_lines damage.new_lines)
Edited rules command old new (Err NoMemory) = (command_refusal rules old command ≡ None) × TakesMemory rules old command × (new ≡ old)
Edited rules command old new (Err reason) = (command_refusal rules old command ≡ Some reason) × (new ≡ old)

abbrev pub lacks_memory : Result Damage EditFault → Bool
lacks_memory (Err NoMemory) = true
lacks_memory edit = false

-- the reply to an edit: which lines were replaced, or why the edit was refused
abbrev pub answer_text : Result Damage EditFault → List ℕ
answer_text (Ok damage) = damage_text damage.first_line damage.old_lines damage.new_lines
answer_text (Err reason) = refusal_text reason

-- a write failed within a reply
abbrev pub Stops : List ℕ → ℕ → Device → Device → RunFault → Type 0
Stops answer written old new (f.Write n) = StoppedIn answer written old new n
Stops answer written old new fault = ⊥

-- a command was executed and its reply written
pub record Executes (rules : Rules) (print : Print) (command : Command) (written : ℕ) (held_old held_new : Held) (old new : Device) (n : ℕ) : Type 0 where
  pub held : held_new ≡ after_command rules held_old command
  pub wrote : PassedOn (answer_to rules print held_old command) written old new n

-- A command failed. `Write`: the command was executed, and the sink failed within its reply. `Memory`: an allocation
-- failed for a command that is not refused, and nothing was changed.
abbrev pub ExecutesNot : Rules → Print → Command → ℕ → Held → Held → Device → Device → RunFault → Type 0
ExecutesNot rules print command written held_old held_new old new (f.Write n) =
    (held_new ≡ after_command rules held_old command) × StoppedIn (answer_to rules print held_old command) written old new n
ExecutesNot rules print command written held_old held_new old new f.Memory =
    (command_refusal rules held_old command ≡ None) × TakesMemory rules held_old command × (held_new ≡ held_old) × (new ≡ old)
ExecutesNot rules print command written held_old held_new old new fault = ⊥

-- a line was executed, its reply was written, and the unfinished line is empty again
pub record ExecutesLine (rules : Rules) (options : ScriptOptions) (line : List ℕ) (held_old held_new : Held) (old new : Reading) (writer_old writer_new : Device) : Type 0 where
  pub good : is_good options.queries line ≡ true
  pub held : held_new ≡ after_line rules held_old (command_of_line options.queries line)
  pub wrote : PassedOn (answer_line rules options.print held_old (command_of_line options.queries line)) old.written writer_old writer_new new.written
  pub lines : new.lines ≡ old.lines + 1
  pub empty : new.line.items ≡ []

-- An allocation failed for a line that is valid UTF-8. There are three cases: not all characters of the line
-- were stored; not all characters that the line inserts were stored; or the allocation failed for the line's
-- command, which is not refused.
abbrev pub WantsMemory : Rules → Bool → List ℕ → Reading → Held → Type 0
WantsMemory rules queries line reading held =
    (length reading.text.items < length (chars line))
    ⊎ (LacksInserted (chars line) (chars (string_bytes reading.inserted))
    ⊎ ((command : Command) × (command_of_line queries line ≡ Some command) × (command_refusal rules held command ≡ None) × TakesMemory rules held command))

-- a line failed: the line is not valid, a write failed within its reply, or an allocation failed
abbrev pub FailsAt : Rules → ScriptOptions → List ℕ → Reading → ℕ → ℕ → Held → Held → Device → Device → RunFault → Type 0
FailsAt rules options line reading lines written held_old held_new old new (f.BadLine n) =
    (is_good options.queries line ≡ false) × (n ≡ lines + 1) × (held_new ≡ held_old) × (new ≡ old)
FailsAt rules options line reading lines written held_old held_new old new (f.Write n) =
    (is_good options.queries line ≡ true) × (held_new ≡ after_line rules held_old (command_of_line options.queries line))
    × StoppedIn (answer_line rules options.print held_old (command_of_line options.queries line)) written old new n
FailsAt rules options line reading lines written held_old held_new old new f.Memory =
    (utf8_valid_len line ≡ length line) × WantsMemory rules options.queries line reading held_old × (held_new ≡ held_old) × (new ≡ old)
FailsAt rules options line reading lines written held_old held_new old new fault = ⊥

-- no line ends within these bytes
abbrev pub NoEnd : List ℕ → Type 0
NoEnd bytes = All (λ b. is_line_end b ≡ false) bytes

-- a line ends within a chunk, after the bytes of `front`
pub record EndsIn (chunk front after : List ℕ) : Type 0 where
  pub whole : chunk ≡ front ++ 10 ∷ after
  pub none : NoEnd front

-- bytes were appended to the unfinished line
pub record Grows (bytes : List ℕ) (old new : Reading) : Type 0 where
  pub line : new.line.items ≡ old.line.items ++ bytes
  pub short : length new.line.items ≤ LINE_LIMIT
  pub lines : new.lines ≡ old.lines
  pub written : new.written ≡ old.written

-- bytes were not appended to the unfinished line: the line would be too long, or an allocation failed
abbrev pub GrowsNot : List ℕ → Reading → Reading → RunFault → Type 0
GrowsNot bytes old new (f.BadLine n) = (LINE_LIMIT < length (old.line.items ++ bytes)) × (n ≡ old.lines + 1)
GrowsNot bytes old new f.Memory =
    (length (old.line.items ++ bytes) ≤ LINE_LIMIT) × (0 < length bytes) × (new.line.items ≡ old.line.items) × (new.lines ≡ old.lines)
GrowsNot bytes old new fault = ⊥

-- The first n bytes of a chunk were read. `GoesOn`: the whole chunk continues the unfinished line. `EndsLine`: a line
-- ended and was executed.
pub record GoesOn (chunk : List ℕ) (n : ℕ) (state_old state_new : SessionState) (old new : Reading) (writer_old writer_new : Device) : Type 0 where
  pub all : n ≡ length chunk
  pub none : NoEnd chunk
  pub grows : Grows chunk old new
  pub state : state_new ≡ state_old
  pub writer : writer_new ≡ writer_old

pub record EndsLine (rules : Rules) (options : ScriptOptions) (chunk : List ℕ) (n : ℕ) (state_old state_new : SessionState) (old new : Reading) (writer_old writer_new : Device) : Type 0 where
  pub front : List ℕ
  pub after : List ℕ
  pub ends : EndsIn chunk front after
  pub taken : n ≡ length front + 1
  pub executes : ExecutesLine rules options (old.line.items ++ front) (held_at state_old) (held_at state_new) old new writer_old writer_new
  pub works : LineWorks rules options.queries (held_at state_old) (old.line.items ++ front) state_old.engine state_new.engine

abbrev pub Takes : Rules → ScriptOptions → List ℕ → ℕ → SessionState → SessionState → Reading → Reading → Device → Device → Type 0
Takes rules options chunk n state_old state_new old new writer_old writer_new =
    GoesOn chunk n state_old state_new old new writer_old writer_new ⊎ EndsLine rules options chunk n state_old state_new old new writer_old writer_new

-- a line that ends within a chunk failed
pub record FailsLine (rules : Rules) (options : ScriptOptions) (chunk : List ℕ) (state_old state_new : SessionState) (old new : Reading) (writer_old writer_new : Device) (fault : RunFault) : Type 0 where
  pub front : List ℕ
  pub after : List ℕ
  pub ends : EndsIn chunk front after
  pub fails : FailsAt rules options (old.line.items ++ front) new old.lines old.written (held_at state_old) (held_at state_new) writer_old writer_new fault
  pub works : LineWorks rules options.queries (held_at state_old) (old.line.items ++ front) state_old.engine state_new.engine
  pub lines : new.lines ≡ old.lines

-- the part of a line that a chunk contains was not appended to the unfinished line
pub record IsNotKept (chunk : List ℕ) (state_old state_new : SessionState) (old new : Reading) (writer_old writer_new : Device) (fault : RunFault) : Type 0 where
  pub front : List ℕ
  pub after : List ℕ
  pub whole : chunk ≡ front ++ after
  pub none : NoEnd front
  pub ends : (after ≡ []) ⊎ ((rest : List ℕ) × (after ≡ 10 ∷ rest))
  pub grows : GrowsNot front old new fault
  pub state : state_new ≡ state_old
  pub writer : writer_new ≡ writer_old

abbrev pub FailsIn : Rules → ScriptOptions → List ℕ → SessionState → SessionState → Reading → Reading → Device → Device → RunFault → Type 0
FailsIn rules options chunk state_old state_new old new writer_old writer_new fault =
    FailsLine rules options chunk state_old state_new old new writer_old writer_new fault
    ⊎ IsNotKept chunk state_old state_new old new writer_old writer_new fault

-- What a run did between two states of its source, sink and session: it read some bytes and executed the
-- lines `done`. The run holds the unfinished line after these lines, and the waiting bytes.
pub record IsAt (rules : Rules) (options : ScriptOptions) (start : SessionState)
    (reader_old reader_new writer_old writer_new : Device) (now : SessionState) (reading : Reading)
    (waiting : List ℕ) : Type 0 where
  pub bytes : List ℕ
  pub done : List (List ℕ)
  pub read : Consumes reader_old.bytes reader_new.bytes bytes
  pub passed : reader_new.passed ≡ reader_old.passed + length bytes
  pub failures : reader_new.failures ≡ reader_old.failures
  pub parts : (more : List ℕ) → slice_split is_line_end (bytes ++ more) ≡ done ++ slice_split is_line_end (reading.line.items ++ (waiting ++ more))
  pub good : list_all (is_good options.queries) done ≡ true
  pub none : NoEnd reading.line.items
  pub size : length bytes ≡ length (with_ends done) + (length reading.line.items + length waiting)
  pub wrote : Wrote (answers rules options (held_at start) done) writer_old writer_new
  pub held_is : held_at now ≡ after_lines rules options.queries (held_at start) done
  pub works : LinesWork rules options.queries (held_at start) done start.engine now.engine
  pub lines : reading.lines ≡ length done
  pub written : reading.written ≡ length (answers rules options (held_at start) done)
  pub ahead : length reading.line.items + length waiting ≤ LINE_LIMIT + CHUNK
  pub short : length reading.line.items ≤ LINE_LIMIT

-- An allocation failed for the line after the executed lines. This line ends in the waiting bytes or continues in them.
pub record WantsIn (rules : Rules) (options : ScriptOptions) (start : SessionState)
    (reader_old reader writer_old writer : Device) (state : SessionState) (reading : Reading) : Type 0 where
  pub state_before : SessionState
  pub before : Reading
  pub writer_before : Device
  pub waiting : List ℕ
  pub at : IsAt rules options start reader_old reader writer_old writer_before state_before before waiting
  pub lines : reading.lines ≡ before.lines
  pub fails : FailsIn rules options waiting state_before state before reading writer_before writer f.Memory

-- whether a run can execute the waiting bytes: its state satisfies `IsAt`, and so few bytes have been read
-- that no counter overflows
abbrev pub CanFeed : Rules → ScriptOptions → SessionState → Reading → Device → List ℕ → Type 0
CanFeed rules options now reading writer_new waiting =
    (start : SessionState) × (reader_old : Device) × (writer_old : Device) × (reader_new : Device)
    × IsAt rules options start reader_old reader_new writer_old writer_new now reading waiting × (reader_new.passed ≤ greatest)

-- after a step, the run continues or has ended
abbrev pub Steps : Rules → ScriptOptions → SessionState → Device → Device → Device → Device → SessionState → Reading → Result Bool RunFault → Type 0
Steps rules options start reader_old writer_old reader_new writer_new now reading (Ok true) =
    IsAt rules options start reader_old reader_new writer_old writer_new now reading []
Steps rules options start reader_old writer_old reader_new writer_new now reading (Ok false) =
    IsScriptRun rules options start now reader_old reader_new writer_old writer_new (Ok tt)
Steps rules options start reader_old writer_old reader_new writer_new now reading (Err fault) =
    IsScriptRun rules options start now reader_old reader_new writer_old writer_new (Err fault)

-- the whole chunk was read, or the run ended within it
abbrev pub Feeds : Rules → ScriptOptions → SessionState → Device → Device → Device → Device → SessionState → Reading → Result (Unit {0}) RunFault → Type 0
Feeds rules options start reader_old writer_old reader_new writer_new now reading (Ok done) =
    IsAt rules options start reader_old reader_new writer_old writer_new now reading []
Feeds rules options start reader_old writer_old reader_new writer_new now reading (Err fault) =
    IsScriptRun rules options start now reader_old reader_new writer_old writer_new (Err fault)
