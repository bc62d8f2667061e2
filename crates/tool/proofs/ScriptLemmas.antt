-- A script that is read in chunks ends like a script that is read at once.
use Rattle.std.proofs.Common.{inr, ◌<◌, ◌≡◌, ℕ, suc, ◌+◌, ◌-◌, ◌≤◌, ◌&&◌, Bool, true, false, List, [], ◌∷◌, ◌++◌, length, take, min, Option, Some, None, Ok, Err, refl, sym, subst, ap, ◌∙◌, arith, if◌then◌else◌}
use Rattle.std.specs.List.{list_all, prefix_len, slice_split}
use Rattle.std.specs.Io.KnownBytes.{IsAtEnd}
use Rattle.std.proofs.lemmas.Bool.{and_parts}
use Rattle.std.proofs.lemmas.List.{append_assoc, append-nil, length-append}
use Rattle.std.proofs.Math.Seq.{take-append-add, take-append_seam}
use Rattle.device.specs.Device.{Device, StoppedAt, Took, Wrote, greatest}
use Rattle.lines.specs.Layouts.{Rules}
use Rattle.lines.specs.Writing.{StoppedIn}
use Rattle.tool.specs.declared.script.ScriptOptions.{ScriptOptions}
use Rattle.session.specs.Edits.{Held}
use Rattle.session.specs.Sessions.{SessionState, held_at}
use Rattle.tool.specs.Reading.{FailsAt, NoEnd}
use Rattle.tool.specs.declared.script.Reading.{Reading}
use Rattle.tool.specs.Scripts.{is_line_end, lines_among, command_of_line, script_lines}
use Rattle.tool.specs.ScriptRun.{after_line, after_lines, answer_line, answers, good_lines, input_fault, is_good, line_read_ahead, script_fault, with_ends}
use Rattle.tool.specs.ScriptEnds.{Answered, EndsAfter, IsScriptRun, WantsMore, executed_lines}
use Rattle.tool.specs.Work.{LineWorks, LinesWork}
use Rattle.text_run.specs.TextRun.{Ending, AtEnd, AtFailure, Gave}
use Rattle.text_run.specs.declared.faults.RunFault.{RunFault}
use Rattle.text_run.specs.declared.faults.RunFault.TheVariants as f
use Rattle.text_run.proofs.StreamLemmas.{Took-append}
use Rattle.tool.proofs.WorkLemmas.{lines_work_bad, lines_work_more}

-- ---- lines

-- splitting at line ends yields at least one part
pub parts_some : (bytes : List ℕ) → (p : List ℕ) × (ps : List (List ℕ)) × (slice_split is_line_end bytes ≡ p ∷ ps)
parts_some [] = ([], [], refl)
parts_some (b ∷ bytes) =
    let later = parts_some bytes in
    go (is_line_end b) refl later.0 later.1 later.2
  where
    go : (t : Bool) → is_line_end b ≡ t → (p : List ℕ) (ps : List (List ℕ)) → slice_split is_line_end bytes ≡ p ∷ ps
        → (q : List ℕ) × (qs : List (List ℕ)) × (slice_split is_line_end (b ∷ bytes) ≡ q ∷ qs)
    go true is p ps parts = ([], slice_split is_line_end bytes, rw is refl)
    go false is p ps parts = (b ∷ p, ps, rw (is, parts) refl)

no_end_tail : (b : ℕ) (bytes : List ℕ) → NoEnd (b ∷ bytes) → NoEnd bytes
no_end_tail b bytes none = λ k e within. none (suc k) e (omega (arith, within))

-- prepending bytes without a line end to other bytes prepends them to the first part of those bytes
pub first_part : (front bytes p : List ℕ) (ps : List (List ℕ)) → NoEnd front → slice_split is_line_end bytes ≡ p ∷ ps → slice_split is_line_end (front ++ bytes) ≡ (front ++ p) ∷ ps
first_part [] bytes p ps none parts = parts
first_part (b ∷ front) bytes p ps none parts =
    let isnt : is_line_end b ≡ false = none 0 b (omega arith) in
    let later = first_part front bytes p ps (no_end_tail b front none) parts in
    rw (isnt, later) refl

-- every part except the last one is a line
pub lines_after : (ending : Ending) (done : List (List ℕ)) (p : List ℕ) (ps : List (List ℕ)) → lines_among ending (done ++ p ∷ ps) ≡ done ++ lines_among ending (p ∷ ps)
lines_after ending [] p ps = refl
lines_after ending (d ∷ []) p ps = refl
lines_after ending (d ∷ e ∷ done) p ps = ap (λ l. d ∷ l) (lines_after ending (e ∷ done) p ps)

-- ---- the lines that are replied to

module _ (queries : Bool) where
  take_while_more : (ls ms : List (List ℕ)) → list_all (is_good queries) ls ≡ true → good_lines queries (ls ++ ms) ≡ ls ++ good_lines queries ms
  take_while_more [] ms all = refl
  take_while_more (l ∷ ls) ms all =
      let both = and_parts (is_good queries l) (list_all (is_good queries) ls) all in
      let one_more : 1 + prefix_len (is_good queries) (ls ++ ms) ≡ suc (prefix_len (is_good queries) (ls ++ ms)) = omega arith in
      let here : good_lines queries (l ∷ (ls ++ ms)) ≡ l ∷ good_lines queries (ls ++ ms) = simp (both.0, one_more) in
      here ∙ ap (λ t. l ∷ t) (take_while_more ls ms both.1)

  good_all : (ls : List (List ℕ)) → list_all (is_good queries) ls ≡ true → good_lines queries ls ≡ ls
  good_all ls all = ap (good_lines queries) (sym (append-nil ls)) ∙ take_while_more ls [] all ∙ append-nil ls

  good_one : (line : List ℕ) (others : List (List ℕ)) → is_good queries line ≡ true → good_lines queries (line ∷ others) ≡ line ∷ good_lines queries others
  good_one line others good = take_while_more (line ∷ []) others (rw good refl)

  good_none : (line : List ℕ) (others : List (List ℕ)) → is_good queries line ≡ false → good_lines queries (line ∷ others) ≡ []
  good_none line others bad = simp bad

  all_but : (ls : List (List ℕ)) (line : List ℕ) (others : List (List ℕ)) → is_good queries line ≡ false → list_all (is_good queries) (ls ++ line ∷ others) ≡ false
  all_but [] line others bad = rw bad refl
  all_but (l ∷ ls) line others bad = go (is_good queries l) (all_but ls line others bad)
    where
      go : (t : Bool) → list_all (is_good queries) (ls ++ line ∷ others) ≡ false → (t && list_all (is_good queries) (ls ++ line ∷ others)) ≡ false
      go true later = later
      go false later = refl

-- ---- executing two lists of lines in order

module _ (rules : Rules) (options : ScriptOptions) where
  pub after_more : (held : Held) (ls ms : List (List ℕ)) → after_lines rules options.queries held (ls ++ ms) ≡ after_lines rules options.queries (after_lines rules options.queries held ls) ms
  after_more held [] ms = refl
  after_more held (l ∷ ls) ms = after_more (after_line rules held (command_of_line options.queries l)) ls ms

  pub answers_more : (held : Held) (ls ms : List (List ℕ)) → answers rules options held (ls ++ ms)
      ≡ answers rules options held ls ++ answers rules options (after_lines rules options.queries held ls) ms
  answers_more held [] ms = refl
  answers_more held (l ∷ ls) ms =
      let here = answer_line rules options.print held (command_of_line options.queries l) in
      let next = after_line rules held (command_of_line options.queries l) in
      ap (λ t. here ++ t) (answers_more next ls ms) ∙ sym (append_assoc here (answers rules options next ls) (answers rules options (after_lines rules options.queries next ls) ms))

-- ---- how the run ends

module _ (rules : Rules) (options : ScriptOptions) (start now : SessionState) (reader_old writer_old reader_new writer_new : Device) where
  abbrev before : Held
  before = held_at start

  -- at most `line_read_ahead` bytes after these lines were read
  pub record IsDone (done : List (List ℕ)) : Type 0 where
    pub ahead : reader_new.passed ≤ reader_old.passed + length (with_ends done) + line_read_ahead

  abbrev After : List (List ℕ) → Option RunFault → ℕ → Option RunFault → Type 0
  After lines wrong k stop = EndsAfter rules options start now lines wrong k reader_old reader_new writer_old writer_new stop

  -- under these conditions, `EndsAfter` holds for the lines `done`
  ends_after : (lines done others : List (List ℕ)) (wrong stop : Option RunFault) → lines ≡ done ++ others → IsDone done
      → Answered rules options before (done ++ others) wrong (length done) writer_old writer_new stop
      → held_at now ≡ after_lines rules options.queries before (executed_lines (done ++ others) (length done) stop)
      → LinesWork rules options.queries before (done ++ take 1 others) start.engine now.engine → WantsMore done reader_old reader_new stop
      → After lines wrong (length done) stop
  ends_after lines done others wrong stop is ahead wrote held works wants =
      let first : take (length done) (done ++ others) ≡ done = take-append_seam done others in
      let next : take (length done + 1) (done ++ others) ≡ done ++ take 1 others = take-append-add done others 1 in
      subst (λ (ls : List (List ℕ)). After ls wrong (length done) stop) (sym is) (record {
        wrote = wrote;
        held = held;
        ahead = subst (λ (ls : List (List ℕ)). reader_new.passed ≤ reader_old.passed + length (with_ends ls) + line_read_ahead) (sym first) ahead.ahead;
        works = subst (λ (ls : List (List ℕ)). LinesWork rules options.queries before ls start.engine now.engine) (sym next) works;
        wants = subst (λ (ls : List (List ℕ)). WantsMore ls reader_old reader_new stop) (sym first) wants;
      })

  -- the lines `done` were executed, and their replies were written
  pub record IsAll (done : List (List ℕ)) : Type 0 where
    pub done_is : IsDone done
    pub wrote : Wrote (answers rules options before done) writer_old writer_new
    pub held : held_at now ≡ after_lines rules options.queries before done
    pub works : LinesWork rules options.queries before done start.engine now.engine

  whole_lines : (done : List (List ℕ)) → take (length done) (done ++ []) ≡ done
  whole_lines done = take-append_seam done []

  wrote_all : (done : List (List ℕ)) → IsAll done → Wrote (answers rules options before (done ++ [])) writer_old writer_new
  wrote_all done all = subst (λ (ls : List (List ℕ)). Wrote (answers rules options before ls) writer_old writer_new) (sym (append-nil done)) all.wrote

  size_all : (done : List (List ℕ)) → length done ≡ length (done ++ [])
  size_all done = ap length (sym (append-nil done))

  held_all : (done : List (List ℕ)) → IsAll done → held_at now ≡ after_lines rules options.queries before (take (length done) (done ++ []))
  held_all done all = all.held ∙ ap (after_lines rules options.queries before) (sym (whole_lines done))

  works_all : (done : List (List ℕ)) → IsAll done → LinesWork rules options.queries before (done ++ []) start.engine now.engine
  works_all done all = subst (λ (ls : List (List ℕ)). LinesWork rules options.queries before ls start.engine now.engine) (sym (append-nil done)) all.works

  -- if all lines of a complete script were executed, the run ends with `Ok`
  pub ends_whole : (bytes : List ℕ) (done : List (List ℕ)) → Gave reader_old reader_new AtEnd bytes → script_lines AtEnd bytes ≡ done → list_all (is_good options.queries) done ≡ true
      → IsAtEnd reader_new.bytes → reader_new.passed ≡ reader_old.passed + length bytes → IsAll done
      → IsScriptRun rules options start now reader_old reader_new writer_old writer_new (Ok tt)
  ends_whole bytes done gave lines good finished passed all =
      let are : good_lines options.queries (script_lines AtEnd bytes) ≡ done ++ [] = ap (good_lines options.queries) lines ∙ good_all options.queries done good ∙ sym (append-nil done) in
      let none : None ≡ script_fault options.queries AtEnd (script_lines AtEnd bytes) =
      sym (ap (script_fault options.queries AtEnd) lines ∙ ap (λ (b : Bool). if b then None else Some (f.BadLine (length (good_lines options.queries done) + 1))) good) in (
        AtEnd,
        bytes,
        gave,
        (finished, passed),
        (length done, ends_after _ done [] _ None are all.done_is (none, size_all done, wrote_all done all) (held_all done all) (works_all done all) tt),
      )

  -- if a read fails after all complete lines were executed, the run ends with `Read`
  pub ends_at_failure : (bytes : List ℕ) (done : List (List ℕ)) → Gave reader_old reader_new AtFailure bytes → script_lines AtFailure bytes ≡ done → list_all (is_good options.queries) done ≡ true
      → IsAll done → IsScriptRun rules options start now reader_old reader_new writer_old writer_new (Err f.Read)
  ends_at_failure bytes done gave lines good all =
      let are : good_lines options.queries (script_lines AtFailure bytes) ≡ done ++ [] = ap (good_lines options.queries) lines ∙ good_all options.queries done good ∙ sym (append-nil done) in
      let fault : Some f.Read ≡ script_fault options.queries AtFailure (script_lines AtFailure bytes) =
      sym (ap (script_fault options.queries AtFailure) lines ∙ ap (λ (b : Bool). if b then Some f.Read else Some (f.BadLine (length (good_lines options.queries done) + 1))) good) in (
        AtFailure,
        bytes,
        gave,
        tt,
        (length done, ends_after _ done [] _ (Some f.Read) are all.done_is (fault, size_all done, wrote_all done all) (held_all done all) (works_all done all) tt),
      )

  -- if the next line is not valid, the run ends with `BadLine`
  ends_bad : (ending : Ending) (bytes : List ℕ) (done : List (List ℕ)) (line : List ℕ) (others : List (List ℕ)) (n : ℕ)
      → Gave reader_old reader_new ending bytes → script_lines ending bytes ≡ done ++ line ∷ others
      → list_all (is_good options.queries) done ≡ true
      → is_good options.queries line ≡ false → n ≡ length done + 1 → IsAll done → IsScriptRun rules options start now reader_old reader_new writer_old writer_new (Err (f.BadLine n))
  ends_bad ending bytes done line others n gave lines good bad number all =
      let are : good_lines options.queries (script_lines ending bytes) ≡ done
      ++ [] = ap (good_lines options.queries) lines ∙ take_while_more options.queries done (line ∷ others) good
      ∙ ap (λ t. done ++ t) (good_none options.queries line others bad) in
      let not_all : list_all (is_good options.queries) (script_lines ending bytes) ≡ false = ap (list_all (is_good options.queries)) lines ∙ all_but options.queries done line others bad in
      let fault : Some (f.BadLine n) ≡ script_fault options.queries ending (script_lines ending bytes) =
      ap (λ k. Some (f.BadLine k)) (number ∙ ap (λ (ls : List (List ℕ)). length ls + 1) (sym (are ∙ append-nil done)))
      ∙ sym (ap (λ (b : Bool). if b then input_fault ending else Some (f.BadLine (length (good_lines options.queries (script_lines ending bytes)) + 1))) not_all) in (
        ending,
        bytes,
        gave,
        tt,
        (length done, ends_after _ done [] _ (Some (f.BadLine n)) are all.done_is (fault, size_all done, wrote_all done all) (held_all done all) (works_all done all) tt),
      )

  -- if an allocation fails after these lines or during the next one, the run ends with `Memory`
  pub ends_short : (ending : Ending) (bytes : List ℕ) (done others : List (List ℕ))
      → Gave reader_old reader_new ending bytes → script_lines ending bytes ≡ done ++ others
      → list_all (is_good options.queries) done ≡ true
      → IsDone done → Wrote (answers rules options before done) writer_old writer_new → held_at now ≡ after_lines rules options.queries before done
      → LinesWork rules options.queries before (done ++ take 1 (good_lines options.queries others)) start.engine now.engine
      → WantsMore done reader_old reader_new (Some f.Memory)
      → IsScriptRun rules options start now reader_old reader_new writer_old writer_new (Err f.Memory)
  ends_short ending bytes done others gave lines good ahead wrote held works more =
      let are : good_lines options.queries (script_lines ending bytes) ≡ done
      ++ good_lines options.queries others = ap (good_lines options.queries) lines
      ∙ take_while_more options.queries done others good in
      let first : take (length done) (done ++ good_lines options.queries others) ≡ done = take-append_seam done (good_lines options.queries others) in (
        ending,
        bytes,
        gave,
        tt,
        (
          length done,
          ends_after _ done (good_lines options.queries others) _ (Some f.Memory) are ahead
              (subst (λ (ls : List (List ℕ)). Wrote (answers rules options before ls) writer_old writer_new) (sym first) wrote)
              (held ∙ ap (after_lines rules options.queries before) (sym first)) works more,
        ),
      )

  -- if only a part of the reply to a line was written, the run ends with `Write`
  ends_write : (ending : Ending) (bytes : List ℕ) (done : List (List ℕ)) (line : List ℕ) (others : List (List ℕ))
      (held : Held) (written n : ℕ) (writer_mid : Device) → Gave reader_old reader_new ending bytes
      → script_lines ending bytes ≡ done ++ line ∷ others → list_all (is_good options.queries) done ≡ true
      → is_good options.queries line ≡ true → held ≡ after_lines rules options.queries before done → written
      ≡ length (answers rules options before done)
      → Wrote (answers rules options before done) writer_old writer_mid
      → StoppedIn (answer_line rules options.print held (command_of_line options.queries line)) written writer_mid
      writer_new n → IsDone done
      → held_at now ≡ after_line rules held (command_of_line options.queries line) → LinesWork rules options.queries before (done ++ line ∷ []) start.engine now.engine
      → IsScriptRun rules options start now reader_old reader_new writer_old writer_new (Err (f.Write n))
  ends_write ending bytes done line others held written n writer_mid gave lines good here held_is count wrote stopped ahead now_is works =
      let are : good_lines options.queries (script_lines ending bytes) ≡ done
      ++ line ∷ good_lines options.queries others = ap (good_lines options.queries) lines
      ∙ take_while_more options.queries done (line ∷ others) good
      ∙ ap (λ t. done ++ t) (good_one options.queries line others here) in
      let first : take (length done) (done ++ line ∷ good_lines options.queries others) ≡ done = take-append_seam done (line ∷ good_lines options.queries others) in
      let both : take (length done + 1) (done ++ line ∷ good_lines options.queries others) ≡ done ++ line ∷ [] = take-append-add done (line ∷ good_lines options.queries others) 1 in
      let front = answers rules options before done in
      let next = answer_line rules options.print (after_lines rules options.queries before done) (command_of_line options.queries line) in
      let m = n - written in
      let stopped_next : StoppedAt m next writer_mid writer_new =
      subst (λ (h : Held). StoppedAt m (answer_line rules options.print h (command_of_line options.queries line))
      writer_mid writer_new) held_is stopped.stopped in
      let m_is : n ≡ length front + m = omega (arith, stopped.after, count) in
      let took : Took writer_old writer_new (front ++ take m next) = Took-append writer_old writer_mid writer_new front (take m next) wrote.0 stopped_next.1 in
      let text : answers rules options before (done ++ line ∷ []) ≡ front ++ next = answers_more rules options before done (line ∷ []) ∙ ap (λ t. front ++ t) (append-nil next) in
      let cut : take n (front ++ next) ≡ front ++ take m next = ap (λ k. take k (front ++ next)) m_is ∙ take-append-add front next m in
      let stopped_all : StoppedAt n (front ++ next) writer_old writer_new = (
        omega (arith, m_is, stopped_next.0, length-append front next),
        subst (Took writer_old writer_new) (sym cut) took,
        record { failures = stopped_next.2.failures ∙ ap (λ k. min (k + 1) greatest) wrote.1; last = stopped_next.2.last },
      )
      in
      let whole : StoppedAt n (answers rules options before (take (length done + 1) (done ++ line ∷ good_lines options.queries others))) writer_old writer_new =
      subst (λ (t : List ℕ). StoppedAt n t writer_old writer_new) (sym (ap (answers rules options before) both ∙ text)) stopped_all in
      let least : length (answers rules options before
      (take (length done) (done ++ line ∷ good_lines options.queries others))) ≤ n =
      omega (arith, ap (λ (ls : List (List ℕ)). length (answers rules options before ls)) first, m_is) in
      let held_now : held_at now ≡ after_lines rules options.queries before (take (length done + 1) (done ++ line ∷ good_lines options.queries others)) =
      now_is ∙ ap (λ (h : Held). after_line rules h (command_of_line options.queries line)) held_is
      ∙ sym (after_more rules options before done (line ∷ []))
      ∙ ap (after_lines rules options.queries before) (sym both) in (
        ending,
        bytes,
        gave,
        tt,
        (length done, ends_after _ done (line ∷ good_lines options.queries others) _ (Some (f.Write n)) are ahead (least, whole) held_now works tt),
      )

  -- if a line fails with one of these faults, the run ends with that fault
  pub ends_line : (ending : Ending) (bytes : List ℕ) (done : List (List ℕ)) (line : List ℕ) (others : List (List ℕ))
      (mid : SessionState) (reading : Reading) (lines written : ℕ) (writer_mid : Device) (fault : RunFault)
      → Gave reader_old reader_new ending bytes
      → script_lines ending bytes ≡ done ++ line ∷ others → list_all (is_good options.queries) done ≡ true
      → held_at mid ≡ after_lines rules options.queries before done → lines ≡ length done → written
      ≡ length (answers rules options before done)
      → Wrote (answers rules options before done) writer_old writer_mid → LinesWork rules options.queries before done start.engine mid.engine
      → FailsAt rules options line reading lines written (held_at mid) (held_at now) writer_mid writer_new fault → LineWorks rules options.queries (held_at mid) line mid.engine now.engine → IsDone done
      → reader_old.passed + length (with_ends done) < reader_new.passed
      → IsScriptRun rules options start now reader_old reader_new writer_old writer_new (Err fault)
  ends_line ending bytes done line others mid reading lines written writer_mid (f.BadLine n) gave parts good held_is count written_is wrote before_works (bad, number, stays, same) works ahead more =
      ends_bad ending bytes done line others n gave parts good bad (number ∙ ap (λ k. k + 1) count) (record {
        done_is = ahead;
        wrote = subst (λ w. Wrote (answers rules options before done) writer_old w) (sym same) wrote;
        held = stays ∙ held_is;
        works =
            subst (λ (ls : List (List ℕ)). LinesWork rules options.queries before ls start.engine now.engine) (append-nil done)
            (lines_work_bad rules options.queries before (held_at mid) done line start.engine mid.engine now.engine bad before_works works);
      })
  ends_line ending bytes done line others mid reading lines written writer_mid (f.Write n) gave parts good held_is count written_is wrote before_works (here, now_is, stopped) works ahead more =
      ends_write ending bytes done line others (held_at mid) written n writer_mid gave parts good here held_is written_is wrote stopped ahead now_is
      (lines_work_more rules options.queries before (held_at mid) done line start.engine mid.engine now.engine held_is before_works works)
  ends_line ending bytes done line others mid reading lines written writer_mid f.Memory gave parts good held_is count written_is wrote before_works (text, wants, stays, same) works ahead more =
      ends_short ending bytes done (line ∷ others) gave parts good ahead
      (subst (λ w. Wrote (answers rules options before done) writer_old w) (sym same) wrote) (stays
      ∙ held_is) (all_works (is_good options.queries line) refl) (inr more)
    where
      all_works : (t : Bool) → is_good options.queries line ≡ t → LinesWork rules options.queries before (done ++ take 1 (good_lines options.queries (line ∷ others))) start.engine now.engine
      all_works true is =
          subst (λ (ls : List (List ℕ)). LinesWork rules options.queries before (done ++ take 1 ls) start.engine now.engine) (sym (good_one options.queries line others is))
          (lines_work_more rules options.queries before (held_at mid) done line start.engine mid.engine now.engine held_is before_works works)
      all_works false is =
          subst (λ (ls : List (List ℕ)). LinesWork rules options.queries before (done ++ take 1 ls) start.engine now.engine) (sym (good_none options.queries line others is))
          (lines_work_bad rules options.queries before (held_at mid) done line start.engine mid.engine now.engine is before_works works)
  ends_line ending bytes done line others mid reading lines written writer_mid f.Read gave parts good held_is count written_is wrote before_works fails works ahead more = absurd fails
  ends_line ending bytes done line others mid reading lines written writer_mid (f.NotUtf8 n) gave parts good held_is count written_is wrote before_works fails works ahead more = absurd fails
  ends_line ending bytes done line others mid reading lines written writer_mid f.ParagraphTooLong gave parts good held_is count written_is wrote before_works fails works ahead more = absurd fails
  ends_line ending bytes done line others mid reading lines written writer_mid f.TextTooLong gave parts good held_is count written_is wrote before_works fails works ahead more = absurd fails
