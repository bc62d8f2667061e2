-- How each step of a script's run changes its state.
use Rattle.std.proofs.Common.{◌≡◌, inl, inr, ℕ, ◌+◌, ◌<◌, ◌≤◌, ◌&&◌, Bool, true, false, List, [], ◌∷◌, ◌++◌, length, take, drop, min, Option, Some, None, unwrap_or, Result, Ok, Err, OnOk, IfErr, IsErrOf, nat_lt, nat_le, refl, sym, subst, ap, ◌∙◌, arith, if◌then◌else◌}
use Rattle.std.specs.List.{list_all, slice_split}
use Rattle.std.specs.Io.KnownBytes.{Consumes, IsAtEnd}
use Rattle.std.proofs.lemmas.Bool.Decides.{nat_tests}
use Rattle.std.proofs.lemmas.List.{append_assoc, append-nil, drop-drop, drop_all, length-append, length-take-le}
use Rattle.std.proofs.Math.Seq.{drop-append-add}
use Rattle.std.proofs.lemmas.List.Elements.{All-append}
use Rattle.std.proofs.lemmas.List.Folds.{list_all-append}
use Rattle.std.proofs.lemmas.List.Splits.{slice_split_at, slice_split_none}
use Rattle.device.specs.Device.{Device, Fails, Gives, Wrote, greatest}
use Rattle.lines.specs.Layouts.{Rules}
use Rattle.tool.specs.declared.script.ScriptOptions.{ScriptOptions}
use Rattle.session.specs.Edits.{Held}
use Rattle.session.specs.Sessions.{SessionState, held_at}
use Rattle.tool.specs.Reading.{EndsIn, EndsLine, FailsAt, FailsIn, FailsLine, GoesOn, GrowsNot, IsAt, NoEnd, ExecutesLine, Steps, Takes, WantsIn}
use Rattle.tool.specs.Scripts.{is_last_line, is_line_end, lines_among, command_of_line, script_lines}
use Rattle.tool.specs.ScriptEnds.{IsScriptRun}
use Rattle.tool.specs.ScriptRun.{after_line, after_lines, answer_line, answers, good_lines, is_good, with_ends}
use Rattle.tool.specs.Work.{LineWorks, LinesWork}
use Rattle.text_run.specs.TextRun.{Ending, AtEnd, AtFailure, Gave}
use Rattle.text_run.specs.declared.faults.RunFault.{RunFault}
use Rattle.text_run.specs.declared.faults.RunFault.TheVariants as f
use Rattle.tool.specs.declared.script.Reading.{Reading}
use Rattle.text_run.proofs.Devices.{Took-nothing}
use Rattle.tool.proofs.WorkLemmas.{lines_work_front, lines_work_more, works_none}
use Rattle.tool.proofs.ScriptLemmas.{IsDone, after_more, answers_more, ends_at_failure, ends_line, ends_short, ends_whole, first_part, lines_after, parts_some}
use Rattle.text_run.proofs.StreamLemmas.{Consumes-append, Consumes-kept, Wrote-append, had, had_all}
use Rattle.stream.specs.declared.reading.TheConstants.{CHUNK}
use Rattle.tool.specs.declared.script.TheConstants.{LINE_LIMIT}

with_ends_more : (ls : List (List ℕ)) (l : List ℕ) → length (with_ends (ls ++ l ∷ [])) ≡ length (with_ends ls) + (length l + 1)
with_ends_more [] l = omega (arith, length-append (l ++ 10 ∷ []) [], length-append l (10 ∷ []))
with_ends_more (m ∷ ls) l = omega (arith, with_ends_more ls l, length-append (m ++ 10 ∷ []) (with_ends (ls ++ l ∷ [])), length-append (m ++ 10 ∷ []) (with_ends ls))

-- a line that ends within a chunk is the unfinished line, followed by the bytes of the chunk before the line
-- end
pub ended_first : (line chunk front after more : List ℕ) → NoEnd line → EndsIn chunk front after
    → slice_split is_line_end (line ++ (chunk ++ more)) ≡ (line ++ front) ∷ slice_split is_line_end (after ++ more)
ended_first line chunk front after more none ends =
    let place : line ++ (chunk ++ more) ≡ (line ++ front) ++ 10 ∷ (after ++ more) =
    ap (λ t. line ++ (t ++ more)) ends.whole ∙ ap (λ t. line ++ t) (append_assoc front (10 ∷ after) more) ∙ sym (append_assoc line front (10 ∷ (after ++ more))) in
    ap (slice_split is_line_end) place ∙ slice_split_at is_line_end (line ++ front) 10 (after ++ more) (All-append (λ b. is_line_end b ≡ false) line front none ends.none) refl

-- a part that exceeds the length limit is a line, but not a valid one
some_bytes : (p : List ℕ) → LINE_LIMIT < length p → nat_lt 0 (length p) ≡ true
some_bytes p long = grind (arith, nat_tests)

over : (p : List ℕ) → LINE_LIMIT < length p → nat_le (length p) LINE_LIMIT ≡ false
over p long = grind (arith, nat_tests)

long_line : (p : List ℕ) (ps : List (List ℕ)) → LINE_LIMIT < length p → (others : List (List ℕ)) × (lines_among AtEnd (p ∷ ps) ≡ p ∷ others)
long_line p [] long = ([], ap (λ (b : Bool). if b then p ∷ [] else []) (some_bytes p long))
long_line p (q ∷ ps) long = (lines_among AtEnd (q ∷ ps), refl)

long_is_bad : (queries : Bool) (p : List ℕ) → LINE_LIMIT < length p → is_good queries p ≡ false
long_is_bad queries p long = rw (over p long) refl

module _ (rules : Rules) (options : ScriptOptions) (start : SessionState) (reader_old reader writer_old writer : Device) where
  abbrev before : Held
  before = held_at start

  module _ (now : SessionState) (reading : Reading) where
    -- ---- a chunk is read
    pub at_read : (reader_new : Device) (n : ℕ) (buffer : List ℕ)
        → IsAt rules options start reader_old reader writer_old writer now reading []
        → Gives reader reader_new n buffer → n ≤ length buffer → n ≤ CHUNK
        → IsAt rules options start reader_old reader_new writer_old writer now reading (take n buffer)
    at_read reader_new n buffer at gives within small =
        let chunk = take n buffer in
        let len : length chunk ≡ n = length-take-le n buffer within in
        record {
          bytes = at.bytes ++ chunk;
          done = at.done;
          read = Consumes-append reader_old.bytes reader.bytes reader_new.bytes at.bytes chunk at.read gives.bytes;
          passed = omega (arith, at.passed, gives.passes.passed, length-append at.bytes chunk, len);
          failures = gives.passes.failures ∙ at.failures;
          parts = λ more. ap (slice_split is_line_end) (append_assoc at.bytes chunk more) ∙ at.parts (chunk ++ more);
          good = at.good;
          none = at.none;
          size = omega (arith, at.size, length-append at.bytes chunk);
          wrote = at.wrote;
          held_is = at.held_is;
          works = at.works;
          lines = at.lines;
          written = at.written;
          ahead = omega (arith, at.short, len, small);
          short = at.short;
        }

    module _ (waiting : List ℕ) (at : IsAt rules options start reader_old reader writer_old writer now reading waiting) where
      -- ---- a part of the waiting bytes is read
      pub at_more : (n : ℕ) (state : SessionState) (new : Reading) (writer_new : Device) → GoesOn waiting n now state reading new writer writer_new
          → IsAt rules options start reader_old reader writer_old writer_new state new []
      at_more n state new writer_new more = record {
        bytes = at.bytes;
        done = at.done;
        read = at.read;
        passed = at.passed;
        failures = at.failures;
        parts = λ rest. at.parts rest ∙ ap (λ t. at.done ++ slice_split is_line_end t) (sym (append_assoc reading.line.items waiting rest) ∙ ap (λ t. t ++ rest) (sym more.grows.line));
        good = at.good;
        none = subst NoEnd (sym more.grows.line) (All-append (λ b. is_line_end b ≡ false) reading.line.items waiting at.none more.none);
        size = omega (arith, at.size, ap length more.grows.line, length-append reading.line.items waiting);
        wrote = subst (Wrote (answers rules options before at.done) writer_old) (sym more.writer) at.wrote;
        held_is = ap held_at more.state ∙ at.held_is;
        works = subst (λ (s : SessionState). LinesWork rules options.queries before at.done start.engine s.engine) (sym more.state) at.works;
        lines = more.grows.lines ∙ at.lines;
        written = more.grows.written ∙ at.written;
        ahead = omega (arith, at.ahead, ap length more.grows.line, length-append reading.line.items waiting);
        short = more.grows.short;
      }

      module _ (line : List ℕ) (state : SessionState) (new : Reading) (writer_new : Device) (executes : ExecutesLine rules options line (held_at now) (held_at state) reading new writer writer_new) where
        next_answer : answer_line rules options.print (held_at now) (command_of_line options.queries line) ≡ answers rules options (after_lines rules options.queries before at.done) (line ∷ [])
        next_answer = ap (λ h. answer_line rules options.print h (command_of_line options.queries line)) at.held_is
            ∙ sym (append-nil (answer_line rules options.print (after_lines rules options.queries before at.done)
            (command_of_line options.queries line)))

        answers_are : answers rules options before (at.done ++ line ∷ []) ≡ answers rules options before at.done ++ answer_line rules options.print (held_at now) (command_of_line options.queries line)
        answers_are = answers_more rules options before at.done (line ∷ []) ∙ ap (λ t. answers rules options before at.done ++ t) (sym next_answer)

        pub executed_good : list_all (is_good options.queries) (at.done ++ line ∷ []) ≡ true
        executed_good = list_all-append (is_good options.queries) at.done (line ∷ []) ∙ ap (λ (b : Bool). b && (is_good options.queries line && true)) at.good ∙ ap (λ (b : Bool). b && true) executes.good

        pub executed_wrote : Wrote (answers rules options before (at.done ++ line ∷ [])) writer_old writer_new
        executed_wrote = subst (λ t. Wrote t writer_old writer_new) (sym answers_are)
            (Wrote-append writer_old writer writer_new (answers rules options before at.done)
            (answer_line rules options.print (held_at now) (command_of_line options.queries line)) at.wrote
            executes.wrote.wrote)

        pub executed_held : held_at state ≡ after_lines rules options.queries before (at.done ++ line ∷ [])
        executed_held = executes.held ∙ ap (λ h. after_line rules h (command_of_line options.queries line)) at.held_is ∙ sym (after_more rules options before at.done (line ∷ []))

        pub executed_works : LineWorks rules options.queries (held_at now) line now.engine state.engine → LinesWork rules options.queries before (at.done ++ line ∷ []) start.engine state.engine
        executed_works works = lines_work_more rules options.queries before (held_at now) at.done line start.engine now.engine state.engine at.held_is at.works works

        pub executed_written : new.written ≡ length (answers rules options before (at.done ++ line ∷ []))
        executed_written = omega (
          arith,
          executes.wrote.count,
          at.written,
          ap length answers_are,
          length-append
              (answers rules options before at.done)
              (answer_line rules options.print (held_at now) (command_of_line options.queries line)),
        )

      pub at_line : (n : ℕ) (state : SessionState) (new : Reading) (writer_new : Device) (taken : EndsLine rules options waiting n now state reading new writer writer_new)
          → IsAt rules options start reader_old reader writer_old writer_new state new taken.after
      at_line n state new writer_new taken =
          let line = reading.line.items ++ taken.front in
          let executes = taken.executes in
          let whole = length-append taken.front (10 ∷ taken.after) in
          record {
            bytes = at.bytes;
            done = at.done ++ line ∷ [];
            read = at.read;
            passed = at.passed;
            failures = at.failures;
            parts = λ more.
                at.parts more ∙ ap (λ t. at.done ++ t) (ended_first reading.line.items waiting taken.front taken.after more at.none taken.ends)
                ∙ sym (append_assoc at.done (line ∷ []) (slice_split is_line_end (taken.after ++ more)))
                ∙ ap (λ t. (at.done ++ line ∷ []) ++ slice_split is_line_end (t ++ (taken.after ++ more))) (sym executes.empty);
            good = executed_good line state new writer_new executes;
            none = subst NoEnd (sym executes.empty) (λ k d within. absurd (omega (arith, within)));
            size = omega (arith, at.size, with_ends_more at.done line, length-append reading.line.items taken.front, ap length taken.ends.whole, whole, ap length executes.empty);
            wrote = executed_wrote line state new writer_new executes;
            held_is = executed_held line state new writer_new executes;
            works = executed_works line state new writer_new executes taken.works;
            lines = omega (arith, executes.lines, at.lines, length-append at.done (line ∷ []));
            written = executed_written line state new writer_new executes;
            ahead = omega (arith, at.ahead, ap length taken.ends.whole, whole, ap length executes.empty);
            short = omega (arith, ap length executes.empty);
          }

      pub at_taken : (n : ℕ) (state : SessionState) (new : Reading) (writer_new : Device) → Takes rules options waiting n now state reading new writer writer_new
          → IsAt rules options start reader_old reader writer_old writer_new state new (drop n waiting)
      at_taken n state new writer_new (inl more) =
          subst (IsAt rules options start reader_old reader writer_old writer_new state new)
          (sym (ap (λ k. drop k waiting) more.all ∙ drop_all (length waiting) waiting (omega arith)))
          (at_more n state new writer_new more)
      at_taken n state new writer_new (inr taken) =
          let place : drop n waiting ≡ taken.after =
          ap (λ k. drop k waiting) taken.taken ∙ ap (drop (length taken.front + 1)) taken.ends.whole ∙ drop-append-add taken.front (10 ∷ taken.after) 1 in
          subst (IsAt rules options start reader_old reader writer_old writer_new state new) (sym place) (at_line n state new writer_new taken)

      -- ---- the run ends within the waiting bytes
      ahead_now : (state : SessionState) (writer_new : Device) → IsDone rules options start state reader_old writer_old reader writer_new at.done
      ahead_now state writer_new = record { ahead = omega (arith, at.passed, at.size, at.ahead) }

      abbrev rest : List ℕ
      rest = unwrap_or reader.bytes []

      gave : Gave reader_old reader AtEnd (at.bytes ++ rest)
      gave = (had reader_old.bytes reader.bytes at.bytes at.read, at.failures)

      lines_are : (p : List ℕ) (ps : List (List ℕ)) → slice_split is_line_end (reading.line.items ++ (waiting ++ rest))
          ≡ p ∷ ps → script_lines AtEnd (at.bytes ++ rest) ≡ at.done ++ lines_among AtEnd (p ∷ ps)
      lines_are p ps parts = ap (lines_among AtEnd) (at.parts rest ∙ ap (λ t. at.done ++ t) parts) ∙ lines_after AtEnd at.done p ps

      -- if an allocation fails while bytes are waiting, the run ends with `Memory`
      pub ends_memory : 0 < length waiting → IsScriptRun rules options start now reader_old reader writer_old writer (Err f.Memory)
      ends_memory some_wait =
          let some = parts_some (reading.line.items ++ (waiting ++ rest)) in
          let others = lines_among AtEnd (some.0 ∷ some.1) in
          ends_short rules options start now reader_old writer_old reader writer AtEnd (at.bytes
          ++ rest) at.done others gave (lines_are some.0 some.1 some.2) at.good (ahead_now now writer) at.wrote
          at.held_is
          (lines_work_front rules options.queries before at.done (take 1 (good_lines options.queries others)) start.engine now.engine at.works)
          (inr (omega (arith, some_wait, at.passed, at.size)))

      -- if a complete line fails, the run ends with the fault of that line
      ends_ended : (state : SessionState) (new : Reading) (writer_new : Device) (fault : RunFault) → FailsLine rules options waiting now state reading new writer writer_new fault
          → IsScriptRun rules options start state reader_old reader writer_old writer_new (Err fault)
      ends_ended state new writer_new fault failed =
          let line = reading.line.items ++ failed.front in
          let some = parts_some (failed.after ++ rest) in
          let parts : slice_split is_line_end (reading.line.items ++ (waiting ++ rest))
          ≡ line ∷ (some.0 ∷ some.1) = ended_first reading.line.items waiting failed.front failed.after rest
          at.none failed.ends ∙ ap (λ t. line ∷ t) some.2 in
          ends_line rules options start state reader_old writer_old reader writer_new AtEnd (at.bytes
          ++ rest) at.done line (lines_among AtEnd (some.0 ∷ some.1)) now new reading.lines reading.written writer fault
          gave (lines_are line (some.0 ∷ some.1) parts) at.good at.held_is at.lines at.written at.wrote at.works failed.fails failed.works (ahead_now state writer_new)
          (omega (arith, at.passed, at.size, ap length failed.ends.whole, length-append failed.front (10 ∷ failed.after)))

      -- if a line is too long, the run ends with `BadLine`, wherever the line ends
      ends_long : (n : ℕ) (front after : List ℕ) → waiting ≡ front ++ after → NoEnd front → LINE_LIMIT < length (reading.line.items ++ front) → n ≡ reading.lines + 1
          → IsScriptRun rules options start now reader_old reader writer_old writer (Err (f.BadLine n))
      ends_long n front after whole none long number =
          let line = reading.line.items ++ front in
          let some = parts_some (after ++ rest) in
          let first = line ++ some.0 in
          let place : reading.line.items ++ (waiting ++ rest) ≡ line ++ (after ++ rest) =
          ap (λ t. reading.line.items ++ (t ++ rest)) whole ∙ ap (λ t. reading.line.items ++ t) (append_assoc front after rest) ∙ sym (append_assoc reading.line.items front (after ++ rest)) in
          let parts : slice_split is_line_end (reading.line.items ++ (waiting ++ rest)) ≡ first ∷ some.1 =
          ap (slice_split is_line_end) place ∙ first_part line (after ++ rest) some.0 some.1 (All-append (λ b. is_line_end b ≡ false) reading.line.items front at.none none) some.2 in
          let more : LINE_LIMIT < length first = omega (arith, long, length-append line some.0) in
          let is_line = long_line first some.1 more in
          let bad : is_good options.queries first ≡ false = long_is_bad options.queries first more in
          ends_line rules options start now reader_old writer_old reader writer AtEnd (at.bytes ++ rest) at.done first is_line.0 now reading reading.lines reading.written writer (f.BadLine n)
          gave (lines_are first some.1 parts ∙ ap (λ t. at.done ++ t) is_line.1) at.good at.held_is at.lines at.written
          at.wrote at.works (bad, number, refl, refl) (works_none rules _ now.engine now.engine refl)
          (ahead_now now writer)
          (omega (arith, long, length-append reading.line.items front, at.passed, at.size, ap length whole, length-append front after))

      ends_unkept : (front after : List ℕ) → waiting ≡ front ++ after → NoEnd front → (new : Reading) (fault : RunFault) → GrowsNot front reading new fault
          → IsScriptRun rules options start now reader_old reader writer_old writer (Err fault)
      ends_unkept front after whole none new (f.BadLine n) (long, number) = ends_long n front after whole none long number
      ends_unkept front after whole none new f.Memory fails = ends_memory (omega (arith, fails.1, ap length whole, length-append front after))
      ends_unkept front after whole none new f.Read fails = absurd fails
      ends_unkept front after whole none new (f.Write n) fails = absurd fails
      ends_unkept front after whole none new (f.NotUtf8 n) fails = absurd fails
      ends_unkept front after whole none new f.ParagraphTooLong fails = absurd fails
      ends_unkept front after whole none new f.TextTooLong fails = absurd fails

      pub ends_in : (state : SessionState) (new : Reading) (writer_new : Device) (fault : RunFault)
          → FailsIn rules options waiting now state reading new writer writer_new fault
          → IsScriptRun rules options start state reader_old reader writer_old writer_new (Err fault)
      ends_in state new writer_new fault (inl failed) = ends_ended state new writer_new fault failed
      ends_in state new writer_new fault (inr not) =
          subst (λ (s : SessionState). IsScriptRun rules options start s reader_old reader writer_old writer_new (Err fault)) (sym not.state)
          (subst (λ w. IsScriptRun rules options start now reader_old reader writer_old w (Err fault)) (sym not.writer) (ends_unkept not.front not.after not.whole not.none new fault not.grows))

    -- ---- no bytes are waiting
    module _ (at : IsAt rules options start reader_old reader writer_old writer now reading []) where
      all_parts : slice_split is_line_end at.bytes ≡ at.done ++ reading.line.items ∷ []
      all_parts =
          ap (slice_split is_line_end) (sym (append-nil at.bytes)) ∙ at.parts [] ∙ ap (λ t. at.done ++ slice_split is_line_end t) (append-nil reading.line.items)
          ∙ ap (λ t. at.done ++ t) (slice_split_none is_line_end reading.line.items at.none)

      all_lines : (ending : Ending) → script_lines ending at.bytes ≡ at.done ++ (if is_last_line ending reading.line.items then reading.line.items ∷ [] else [])
      all_lines ending = ap (lines_among ending) all_parts ∙ lines_after ending at.done reading.line.items []

      -- if a read fails, the run ends with `Read`
      pub ends_read : (reader_new : Device) → Fails reader reader_new → IsScriptRun rules options start now reader_old reader_new writer_old writer (Err f.Read)
      ends_read reader_new fails =
          let short : nat_lt LINE_LIMIT (length reading.line.items) ≡ false = grind (arith, nat_tests, at.short) in
          ends_at_failure rules options start now reader_old writer_old reader_new writer at.bytes at.done (
            Consumes-kept reader_old.bytes reader.bytes reader_new.bytes at.bytes at.read fails.bytes,
            fails.passed ∙ at.passed,
            record { failures = fails.failures ∙ ap (λ n. min (n + 1) greatest) at.failures; last = fails.failed_at ∙ sym fails.passed },
          )
          (all_lines AtFailure ∙ ap (λ (b : Bool). at.done ++ (if b then reading.line.items ∷ [] else [])) short ∙ append-nil at.done) at.good
          (record { done_is = record { ahead = omega (arith, at.passed, at.size, at.ahead, fails.passed) }; wrote = at.wrote; held = at.held_is; works = at.works })

      -- the script has no more bytes
      module _ (finished : IsAtEnd reader.bytes) where
        gave_all : Gave reader_old reader AtEnd at.bytes
        gave_all = (had_all reader_old.bytes reader.bytes at.bytes at.read finished, at.failures)

        pub ends_empty : length reading.line.items ≡ 0 → IsScriptRun rules options start now reader_old reader writer_old writer (Ok tt)
        ends_empty empty =
            let none : nat_lt 0 (length reading.line.items) ≡ false = grind (arith, nat_tests, empty) in
            ends_whole rules options start now reader_old writer_old reader writer at.bytes at.done gave_all
            (all_lines AtEnd ∙ ap (λ (b : Bool). at.done ++ (if b then reading.line.items ∷ [] else [])) none ∙ append-nil at.done) at.good finished at.passed
            (record { done_is = ahead_now [] at now writer; wrote = at.wrote; held = at.held_is; works = at.works })

        module _ (some : 0 < length reading.line.items) where
          last_line : script_lines AtEnd at.bytes ≡ at.done ++ reading.line.items ∷ []
          last_line =
              let is_some : nat_lt 0 (length reading.line.items) ≡ true = grind (arith, nat_tests, some) in
              all_lines AtEnd ∙ ap (λ (b : Bool). at.done ++ (if b then reading.line.items ∷ [] else [])) is_some

          pub ends_last : (state : SessionState) (new : Reading) (writer_new : Device) → ExecutesLine rules options reading.line.items (held_at now) (held_at state) reading new writer writer_new
              → LineWorks rules options.queries (held_at now) reading.line.items now.engine state.engine → IsScriptRun rules options start state reader_old reader writer_old writer_new (Ok tt)
          ends_last state new writer_new executes works =
              let line = reading.line.items in
              ends_whole rules options start state reader_old writer_old reader writer_new at.bytes (at.done
              ++ line ∷ []) gave_all last_line (executed_good [] at line state new writer_new executes) finished
              at.passed
              (record {
                done_is = record { ahead = omega (arith, at.passed, at.size, with_ends_more at.done line) };
                wrote = executed_wrote [] at line state new writer_new executes;
                held = executed_held [] at line state new writer_new executes;
                works = executed_works [] at line state new writer_new executes works;
              })

          pub ends_last_not : (new : Reading) (state : SessionState) (writer_new : Device) (fault : RunFault)
              → FailsAt rules options reading.line.items new reading.lines reading.written (held_at now) (held_at state)
              writer writer_new fault
              → LineWorks rules options.queries (held_at now) reading.line.items now.engine state.engine → IsScriptRun rules options start state reader_old reader writer_old writer_new (Err fault)
          ends_last_not new state writer_new fault fails works =
              ends_line rules options start state reader_old writer_old reader writer_new AtEnd at.bytes at.done
              reading.line.items [] now new reading.lines reading.written writer fault gave_all last_line at.good
              at.held_is at.lines at.written at.wrote at.works fails works
              (ahead_now [] at state writer_new) (omega (arith, some, at.passed, at.size))

nothing_read : (known : Option (List ℕ)) → Consumes known known []
nothing_read None = tt
nothing_read (Some xs) = refl

-- the state of a run before anything is read
pub at_start : (rules : Rules) (options : ScriptOptions) (start : SessionState) (reader writer : Device)
    (reading : Reading) → reading.line.items ≡ [] → reading.lines ≡ 0 → reading.written ≡ 0
    → IsAt rules options start reader reader writer writer start reading []
at_start rules options start reader writer reading line lines written = record {
  bytes = [];
  done = [];
  read = nothing_read reader.bytes;
  passed = omega arith;
  failures = refl;
  parts = λ more. ap (λ t. slice_split is_line_end (t ++ more)) (sym line);
  good = refl;
  none = subst NoEnd (sym line) (λ k d within. absurd (omega (arith, within)));
  size = omega (arith, ap length line);
  wrote = (Took-nothing writer, refl);
  held_is = refl;
  works = works_none rules _ start.engine start.engine refl;
  lines = lines;
  written = written;
  ahead = omega (arith, ap length line);
  short = omega (arith, ap length line);
}

-- ---- counters do not overflow
done_short : (done : List (List ℕ)) → length done ≤ length (with_ends done)
done_short [] = omega arith
done_short (l ∷ done) = omega (arith, done_short done, length-append (l ++ 10 ∷ []) (with_ends done), length-append l (10 ∷ []))

module _ (rules : Rules) (options : ScriptOptions) (start : SessionState)
    (reader_old reader writer_old writer : Device) (now : SessionState) (reading : Reading) (waiting : List ℕ)
    (at : IsAt rules options start reader_old reader writer_old writer now reading waiting) where
  pub lines_fit : reader.passed ≤ greatest → 0 < length reading.line.items + length waiting → reading.lines < greatest
  lines_fit counted some = omega (arith, counted, some, at.passed, at.size, at.lines, done_short at.done)

  pub written_fits : reading.written ≤ writer.passed
  written_fits = omega (arith, at.written, at.wrote.0.passed)

-- at the end of a script whose last line has no line end, the run ends with the result of that line
pub ends_finish : (rules : Rules) (options : ScriptOptions) (start : SessionState)
    (reader_old reader writer_old writer : Device) (now state : SessionState) (reading new : Reading)
    (writer_new : Device) → IsAt rules options start reader_old reader writer_old writer now reading []
    → IsAtEnd reader.bytes → 0 < length reading.line.items → (r : Result (Unit {0}) RunFault)
    → OnOk r (ExecutesLine rules options reading.line.items (held_at now) (held_at state) reading new writer
    writer_new)
    → IfErr r (FailsAt rules options reading.line.items new reading.lines reading.written (held_at now) (held_at state) writer writer_new)
    → LineWorks rules options.queries (held_at now) reading.line.items now.engine state.engine → IsScriptRun rules options start state reader_old reader writer_old writer_new r
ends_finish rules options start reader_old reader writer_old writer now state reading new writer_new at finished some (Ok tt) executes fails works =
    ends_last rules options start reader_old reader writer_old writer now reading at finished some state new writer_new executes works
ends_finish rules options start reader_old reader writer_old writer now state reading new writer_new at finished some (Err fault) executes fails works =
    ends_last_not rules options start reader_old reader writer_old writer now reading at finished some new state writer_new fault fails works

-- ---- a part of a chunk, by the rules at the start of the run
module _ (rules held_rules : Rules) (options : ScriptOptions) (start : SessionState)
    (reader_old reader writer_old writer writer_new : Device) (now state : SessionState) (reading new : Reading)
    (chunk part : List ℕ) (n at : ℕ)
    (same : held_rules ≡ rules) (part_is : part ≡ drop at chunk) (stands : IsAt rules options start reader_old reader writer_old writer now reading (drop at chunk)) where
  pub took_part : Takes held_rules options part n now state reading new writer writer_new → IsAt rules options start reader_old reader writer_old writer_new state new (drop (at + n) chunk)
  took_part takes =
      let taken : Takes rules options (drop at chunk) n now state reading new writer writer_new =
      subst (λ (p : List ℕ). Takes rules options p n now state reading new writer writer_new) part_is
      (subst (λ (r : Rules). Takes r options part n now state reading new writer writer_new) same takes) in
      subst (IsAt rules options start reader_old reader writer_old writer_new state new) (drop-drop n at chunk)
      (at_taken rules options start reader_old reader writer_old writer now reading (drop at chunk) stands n state new writer_new taken)

  failed_here : (fault : RunFault) → FailsIn held_rules options part now state reading new writer writer_new fault → FailsIn rules options (drop at chunk) now state reading new writer writer_new fault
  failed_here fault fails =
      subst (λ (p : List ℕ). FailsIn rules options p now state reading new writer writer_new fault) part_is
      (subst (λ (r : Rules). FailsIn r options part now state reading new writer writer_new fault) same fails)

  pub failed_part : (fault : RunFault) → FailsIn held_rules options part now state reading new writer writer_new fault
      → IsScriptRun rules options start state reader_old reader writer_old writer_new (Err fault)
  failed_part fault fails =
      ends_in rules options start reader_old reader writer_old writer now reading (drop at chunk) stands state new writer_new fault (failed_here fault fails)

  fails_lines : FailsIn rules options (drop at chunk) now state reading new writer writer_new f.Memory → new.lines ≡ reading.lines
  fails_lines (inl failed) = failed.lines
  fails_lines (inr not) = not.grows.3

  -- if an allocation failed for a line in this part of the chunk, `WantsIn` holds
  pub wants_part : FailsIn held_rules options part now state reading new writer writer_new f.Memory → WantsIn rules options start reader_old reader writer_old writer_new state new
  wants_part fails =
      let failed = failed_here f.Memory fails in
      record {
        state_before = now;
        before = reading;
        writer_before = writer;
        waiting = drop at chunk;
        at = stands;
        lines = fails_lines failed;
        fails = failed;
      }

-- the fault in a result, or `Read` if the result is `Ok`
abbrev fault_in : {T : Type 0} → Result T RunFault → RunFault
fault_in (Ok done) = f.Read
fault_in (Err fault) = fault

pub same_fault : {T U : Type 0} (one other : RunFault) → IsErrOf {T = T} {E = RunFault} (Err one) other → IsErrOf {T = U} {E = RunFault} (Err one) other
same_fault one other is = ap (λ (x : RunFault). Err x) (ap fault_in is)

pub wants_memory : {T : Type 0} (P : RunFault → Type 0) (fault : RunFault) → IsErrOf {T = T} {E = RunFault} (Err fault) f.Memory → P fault → P f.Memory
wants_memory P fault is p = subst P (ap fault_in is) p

-- at least one byte of a non-empty chunk is read
pub takes_some : (rules : Rules) (options : ScriptOptions) (chunk : List ℕ) (n : ℕ) (now state : SessionState)
    (reading new : Reading) (writer writer_new : Device) → 0 < length chunk
    → Takes rules options chunk n now state reading new writer writer_new → (0 < n) × (n ≤ length chunk)
takes_some rules options chunk n now state reading new writer writer_new some (inl more) = (omega (arith, some, more.all), omega (arith, more.all))
takes_some rules options chunk n now state reading new writer writer_new some (inr ended) =
    (omega (arith, ended.taken), omega (arith, ended.taken, ap length ended.ends.whole, length-append ended.front (10 ∷ ended.after)))

-- a read of no bytes does not change the state of the run
pub at_none : (rules : Rules) (options : ScriptOptions) (start : SessionState)
    (reader_old reader writer_old writer : Device) (now : SessionState) (reading : Reading) (reader_new : Device)
    (n : ℕ) (buffer : List ℕ)
    → IsAt rules options start reader_old reader writer_old writer now reading [] → Gives reader reader_new n buffer
    → n ≡ 0 → IsAt rules options start reader_old reader_new writer_old writer now reading []
at_none rules options start reader_old reader writer_old writer now reading reader_new n buffer at gives none =
    subst (IsAt rules options start reader_old reader_new writer_old writer now reading) (ap (λ k. take k buffer) none)
    (at_read rules options start reader_old reader writer_old writer now reading reader_new n buffer at gives (omega (arith, none)) (omega (arith, none)))

-- if the session's rules are unchanged since the start of the run, a step by the current rules is a step by
-- those at the start
module _ (rules held_rules : Rules) (options : ScriptOptions) (start : SessionState)
    (reader_old writer_old reader writer reader_new writer_new : Device) (now state : SessionState)
    (reading new : Reading) (kept : held_rules ≡ rules)
    (stands : IsAt rules options start reader_old reader writer_old writer now reading []) (result : Result Bool RunFault)
    (steps : IsAt held_rules options start reader_old reader writer_old writer now reading [] → Steps held_rules options start reader_old writer_old reader_new writer_new state new result) where
  stepped : Steps rules options start reader_old writer_old reader_new writer_new state new result
  stepped =
      subst (λ (r : Rules). Steps r options start reader_old writer_old reader_new writer_new state new result) kept
      (steps (subst (λ (r : Rules). IsAt r options start reader_old reader writer_old writer now reading []) (sym kept) stands))

  pub script_stepped : (is : Result Bool RunFault) → result ≡ is → Steps rules options start reader_old writer_old reader_new writer_new state new is
  script_stepped is same = subst (Steps rules options start reader_old writer_old reader_new writer_new state new) same stepped

-- if an allocation fails before anything is read, the run ends with `Memory`
pub ends_at_once : (rules : Rules) (options : ScriptOptions) (start : SessionState) (reader writer : Device) → IsScriptRun rules options start start reader reader writer writer (Err f.Memory)
ends_at_once rules options start reader writer =
    let some = parts_some (unwrap_or reader.bytes []) in
    ends_short rules options start start reader writer reader writer AtEnd (unwrap_or reader.bytes []) [] (lines_among AtEnd (some.0 ∷ some.1))
    (had reader.bytes reader.bytes [] (nothing_read reader.bytes), refl) (ap (lines_among AtEnd) some.2) refl (record { ahead = omega arith }) (Took-nothing writer, refl) refl
    (works_none rules _ start.engine start.engine refl) (inl (refl, refl))
