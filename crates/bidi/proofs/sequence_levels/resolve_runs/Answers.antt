use Rattle.std.proofs.Common.{◌≡◌, ℕ, ◌-◌, ◌<◌, ◌≤◌, false, List, length, get_or, Option, Some, None, IfSome, if◌then◌else◌, sym, ap, ◌∙◌, arith}
use Rattle.std.proofs.lemmas.Bool.{cond-true, cond-false}
use Rattle.std.proofs.lemmas.List.{get_or-replicate, length-replicate}
use Rattle.bidi.specs.Isolates.{match_at}
use Rattle.bidi.specs.Runs.{IsRunEnd, next_start, sequence_at}
use Rattle.bidi.proofs.BracketTypeLemmas.{some_text}
use Rattle.bidi.proofs.RunLemmas.{last_match, match_at-above, next_start-within}
use Rattle.bidi.proofs.LevelLemmas.{Resolves-start, Resolves-next, Resolves-end, flagged-is, length-flagged, write}
use Rattle.bidi.proofs.sequence_levels.resolve_runs.Goals as goal
use Rattle.bidi.proofs.sequence_levels.resolve_runs.Goals.{then-not-continued-start+in_ok-resolve, else-not-continued-start}

pub loop-start-init : goal.loop-start-init
loop-start-init c look text are =
    let levels = c.args.paragraph.now.retained.now.levels.items in
    rw c.requires.done (Resolves-start look c.args.paragraph.now.base
    text c.args.paragraph.now.retained.now.classes.items levels
    c.args.paragraph.now.retained.now.types.items c.args.continued.now
    (ap length c.requires.continued ∙ length-replicate (length levels) false)
    (λ j within. ap (λ list. get_or list j false) c.requires.continued ∙ get_or-replicate (length levels) j false false within))

pub next_run-requires-clause-above : goal.next_run-requires-clause-above
next_run-requires-clause-above c =
    let run = rw c.as_slice-levels.ensures.value at c.run_end-end.ensures in
    let above = run.above in
    let within = run.within in
    rw (last_match c.args.paragraph.now.retained.now.classes.items c.args.paragraph.now.matches.now c.run_end-end.result
    (length c.args.paragraph.now.retained.now.levels.items) c.requires.paragraph.matches
    c.requires.paragraph.retained.classes (omega arith) within)
    (match_at-above c.args.paragraph.now.retained.now.classes.items (c.run_end-end.result - 1) (omega (arith, c.requires.paragraph.retained.classes)))

-- if a run continues in a later run, the start of the later run is an index of the list
in_list : (levels : List ℕ) (m : ℕ) (next : Option ℕ) → next ≡ next_start levels m → IfSome next (λ place. place < length levels)
in_list levels m None e = tt
in_list levels m (Some place) e = (next_start-within levels m place (sym e)).1

pub set_flag-requires : goal.set_flag-requires
set_flag-requires c =
    let next = rw c.as_slice-levels.ensures.value at c.next_run.ensures in
    let n = length c.args.paragraph.now.retained.now.levels.items in
    let some = some_text c.args.paragraph.now.brackets n c.requires.paragraph.brackets in
    let now = c.loop-start.invariant some.0 some.1 some.2 in
    rw now.flags_len (in_list c.args.paragraph.now.retained.now.levels.items (get_or c.args.paragraph.now.matches.now (c.run_end-end.result - 1) 0) c.next_run.result next)

pub loop-start-preserved : goal.loop-start-preserved
loop-start-preserved c look text are =
    let now = c.loop-start.invariant look text are in
    let classes = c.args.paragraph.now.retained.now.classes.items in
    let levels = c.args.paragraph.now.retained.now.levels.items in
    let types = c.args.paragraph.now.retained.now.types.items in
    let end = c.run_end-end.result in
    let flags = c.loop-start.continued in
    let run : IsRunEnd levels c.loop-start.start end = rw c.as_slice-levels.ensures.value at c.run_end-end.ensures in
    let above : c.loop-start.start < end = run.above in
    let within : end ≤ length levels = run.within in
    let sizes : length classes ≡ length levels = c.requires.paragraph.retained.classes in
    let found : get_or c.args.paragraph.now.matches.now (end - 1) 0
    ≡ match_at classes (end - 1) =
    last_match classes c.args.paragraph.now.matches.now end (length levels) c.requires.paragraph.matches sizes
    (omega arith) within in
    let next : c.next_run.result ≡ next_start levels (match_at classes (end - 1)) = (rw c.as_slice-levels.ensures.value at c.next_run.ensures) ∙ ap (next_start levels) found in
    let far : end - 1 < match_at classes (end - 1) = match_at-above classes (end - 1) (omega arith) in
    let written : c.if-not-continued-start.done
    ≡ (if get_or flags c.loop-start.start false then c.loop-start.done else write
    look c.args.paragraph.now.base
    text classes levels types c.loop-start.done
    (sequence_at classes levels c.loop-start.start)) =
    elim c.if-not-continued-start.branch [
      | then-not-continued-start+in_ok-resolve w ↦ w.done-is ∙ w.in_ok-resolve.ensures look text are
          ∙ sym (cond-false (get_or flags c.loop-start.start false) c.loop-start.done
          (write look c.args.paragraph.now.base
          text classes levels types c.loop-start.done
          (sequence_at classes levels c.loop-start.start)) w.if-not-continued-start.true)
      | else-not-continued-start w ↦ w.done-is
          ∙ sym (cond-true (get_or flags c.loop-start.start false) c.loop-start.done
          (write look c.args.paragraph.now.base
          text classes levels types c.loop-start.done
          (sequence_at classes levels c.loop-start.start)) w.if-not-continued-start.false)
    ] in
    Resolves-next look c.args.paragraph.now.base
    text classes levels types sizes c.loop-start.start end flags
    c.set_flag.new.continued c.loop-start.done c.if-not-continued-start.done run now written
    (ap length c.set_flag.ensures ∙ length-flagged flags c.next_run.result ∙ now.flags_len)
    (λ j inside edge. ap (λ list. get_or list j false) c.set_flag.ensures
    ∙ flagged-is levels (match_at classes (end - 1)) j flags c.next_run.result next now.flags_len (omega arith) inside edge)

pub returns : goal.returns
returns c look text are = Resolves-end look c.args.paragraph.now.base
    text c.args.paragraph.now.retained.now.classes.items
    c.args.paragraph.now.retained.now.levels.items c.args.paragraph.now.retained.now.types.items c.loop-start.start
    c.loop-start.continued c.loop-start.done
    (rw c.as_slice-levels.ensures.value at c.loop-start-test.false) (c.loop-start.invariant look text are)
