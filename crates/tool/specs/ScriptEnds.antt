-- How the run of a script ends.
use Rattle.std.specs.Prelude.{◌≡◌, ◌⊎◌, ⊤, ℕ, ◌+◌, ◌<◌, ◌≤◌, List, length, take, Option, Some, Result}
use Rattle.device.specs.Device.{Device, StoppedAt, Wrote}
use Rattle.lines.specs.Layouts.{Rules}
use Rattle.tool.specs.declared.script.ScriptOptions.{ScriptOptions}
use Rattle.session.specs.Edits.{Held}
use Rattle.session.specs.Sessions.{SessionState, held_at}
use Rattle.text_run.specs.TextRun.{Ending, Gave, HasReadAll, fault_of}
use Rattle.text_run.specs.declared.faults.RunFault.{RunFault}
use Rattle.text_run.specs.declared.faults.RunFault.TheVariants as fault
use Rattle.tool.specs.ScriptRun.{after_lines, answers, good_lines, line_read_ahead, script_fault, with_ends}
use Rattle.tool.specs.Scripts.{script_lines}
use Rattle.tool.specs.Work.{LinesWork}

-- What a run wrote: the replies to the first k lines. After a failed write, n bytes were written, and the
-- sink failed within the reply to the next line. If no write or allocation failed, k is the number of
-- lines, and the run ends with the error of the input, if any.
abbrev pub Answered : Rules → ScriptOptions → Held → List (List ℕ) → Option RunFault → ℕ → Device → Device → Option RunFault → Type 0
Answered rules options held lines wrong k old new (Some (fault.Write n)) =
    (length (answers rules options held (take k lines)) ≤ n) × StoppedAt n (answers rules options held (take (k + 1) lines)) old new
Answered rules options held lines wrong k old new (Some fault.Memory) = Wrote (answers rules options held (take k lines)) old new
Answered rules options held lines wrong k old new stop = (stop ≡ wrong) × (k ≡ length lines) × Wrote (answers rules options held lines) old new

-- the executed lines: those that were replied to and, after a failed write, the one whose reply is incomplete
abbrev pub executed_lines : List (List ℕ) → ℕ → Option RunFault → List (List ℕ)
executed_lines lines k (Some (fault.Write n)) = take (k + 1) lines
executed_lines lines k stop = take k lines

-- if an allocation failed, either nothing had been read, or bytes had been read beyond the lines that were
-- replied to
abbrev pub WantsMore : List (List ℕ) → Device → Device → Option RunFault → Type 0
WantsMore done old new (Some fault.Memory) =
    ((length done ≡ 0) × (new.passed ≡ old.passed)) ⊎ (old.passed + length (with_ends done) < new.passed)
WantsMore done old new stop = ⊤

-- A run ended after the first k lines. Only these lines were executed; if a write failed within the reply to
-- the next line, that line was executed too. At most `line_read_ahead` bytes after the k lines were read. The
-- session did at most the work that the first k + 1 lines require.
pub record EndsAfter (rules : Rules) (options : ScriptOptions) (old new : SessionState) (lines : List (List ℕ))
    (wrong : Option RunFault) (k : ℕ) (reader_old reader_new writer_old writer_new : Device)
    (stop : Option RunFault) : Type 0 where
  pub wrote : Answered rules options (held_at old) lines wrong k writer_old writer_new stop
  pub held : held_at new ≡ after_lines rules options.queries (held_at old) (executed_lines lines k stop)
  pub ahead : reader_new.passed ≤ reader_old.passed + length (with_ends (take k lines)) + line_read_ahead
  pub wants : WantsMore (take k lines) reader_old reader_new stop
  pub works : LinesWork rules options.queries (held_at old) (take (k + 1) lines) old.engine new.engine

-- The result of running a script in a session. The lines that were read are executed and replied to in order,
-- up to the first line that is not valid.
abbrev pub IsScriptRun : Rules → ScriptOptions → SessionState → SessionState → Device → Device → Device → Device → Result (Unit {0}) RunFault → Type 0
IsScriptRun rules options old new reader_old reader_new writer_old writer_new result =
    (ending : Ending) × (bytes : List ℕ) × Gave reader_old reader_new ending bytes
    × HasReadAll (fault_of result) reader_old reader_new bytes
    × (let lines = script_lines ending bytes in
    (k : ℕ) × EndsAfter rules options old new (good_lines options.queries lines) (script_fault options.queries ending lines) k reader_old reader_new writer_old writer_new (fault_of result))
