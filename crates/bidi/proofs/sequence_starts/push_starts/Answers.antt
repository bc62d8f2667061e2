use Rattle.std.proofs.Common.{◌≡◌, ℕ, ◌-◌, ◌<◌, ◌≤◌, false, List, [], ◌∷◌, length, get_or, map, Option, Some, None, IfSome, if◌then◌else◌, sym, ap, ◌∙◌, arith}
use Rattle.std.proofs.lemmas.Bool.{cond-true, cond-false}
use Rattle.std.proofs.lemmas.List.{get_or-replicate, length-replicate, map-append}
use Rattle.ucd.specs.Within.{AreWithin}
use Rattle.bidi.specs.Isolates.{match_at}
use Rattle.bidi.specs.Runs.{IsRunEnd, next_start, sequence_at}
use Rattle.bidi.specs.Sequences.{sequences}
use Rattle.bidi.proofs.RunLemmas.{last_match, match_at-above, next_start-within}
use Rattle.bidi.proofs.LevelLemmas.{Adds-start, Adds-next, Adds-end, flagged-is, length-flagged}
use Rattle.bidi.proofs.SequenceStartLemmas.{append_one, appended, keeps_no_size, no_size, one_within}
use Rattle.bidi.proofs.sequence_starts.push_starts.Goals as goal
use Rattle.bidi.proofs.sequence_starts.push_starts.Goals.{then-not-continued-start+in_ok-push, else-not-continued-start}

pub loop-start-init : goal.loop-start-init
loop-start-init c =
    let classes = c.args.classes.now in
    let levels = c.args.levels.now in
    rw c.requires.none (
      Adds-start append_one no_size keeps_no_size [] (sequences classes levels) classes levels (appended [] (sequences classes levels)) c.args.continued.now
          (ap length c.requires.continued ∙ length-replicate (length levels) false)
          (λ j within. ap (λ list. get_or list j false) c.requires.continued ∙ get_or-replicate (length levels) j false false within),
      λ k within. absurd (omega (arith, within)),
    )

pub next_run-requires-clause-above : goal.next_run-requires-clause-above
next_run-requires-clause-above c =
    let above = c.run_end-end.ensures.above in
    let within = c.run_end-end.ensures.within in
    rw (last_match c.args.classes.now c.args.matches.now c.run_end-end.result (length c.args.levels.now) c.requires.matches c.requires.length (omega arith) within)
    (match_at-above c.args.classes.now (c.run_end-end.result - 1) (omega (arith, c.requires.length)))

-- if a run continues in a later run, the start of the later run is an index of the list
in_list : (levels : List ℕ) (m : ℕ) (next : Option ℕ) → next ≡ next_start levels m → IfSome next (λ place. place < length levels)
in_list levels m None e = tt
in_list levels m (Some place) e = (next_start-within levels m place (sym e)).1

pub set_flag-requires : goal.set_flag-requires
set_flag-requires c =
    rw c.loop-start.invariant.0.flags_len (in_list c.args.levels.now (get_or c.args.matches.now (c.run_end-end.result - 1) 0) c.next_run.result c.next_run.ensures)

pub loop-start-preserved : goal.loop-start-preserved
loop-start-preserved c =
    let now = c.loop-start.invariant.0 in
    let classes = c.args.classes.now in
    let levels = c.args.levels.now in
    let end = c.run_end-end.result in
    let start = c.loop-start.start in
    let flags = c.loop-start.continued in
    let run : IsRunEnd levels start end = c.run_end-end.ensures in
    let above : start < end = run.above in
    let within : end ≤ length levels = run.within in
    let found : get_or c.args.matches.now (end - 1) 0 ≡ match_at classes (end - 1) =
    last_match classes c.args.matches.now end (length levels) c.requires.matches c.requires.length (omega arith) within in
    let next : c.next_run.result ≡ next_start levels (match_at classes (end - 1)) = c.next_run.ensures ∙ ap (next_start levels) found in
    let far : end - 1 < match_at classes (end - 1) = match_at-above classes (end - 1) (omega (arith, c.requires.length)) in
    let done = map (sequence_at classes levels) c.loop-start.starts.items in
    let added : map (sequence_at classes levels) c.if-not-continued-start.starts.items
    ≡ (if get_or flags start false then done else append_one done (sequence_at classes levels start)) =
    elim c.if-not-continued-start.branch [
      | then-not-continued-start+in_ok-push w ↦ ap (λ xs. map (sequence_at classes levels) xs.items) w.starts-is ∙ ap (map (sequence_at classes levels)) w.in_ok-push.ensures.items
          ∙ map-append (sequence_at classes levels) c.loop-start.starts.items (start ∷ [])
          ∙ sym (cond-false (get_or flags start false) done (append_one done (sequence_at classes levels start)) w.if-not-continued-start.true)
      | else-not-continued-start w ↦ ap (λ xs. map (sequence_at classes levels) xs.items) w.starts-is
          ∙ sym (cond-true (get_or flags start false) done (append_one done (sequence_at classes levels start)) w.if-not-continued-start.false)
    ] in
    let inside : AreWithin (length levels) c.if-not-continued-start.starts.items =
    elim c.if-not-continued-start.branch [
      | then-not-continued-start+in_ok-push w ↦ rw (w.starts-is, w.in_ok-push.ensures.items) (one_within (length levels) start c.loop-start.starts.items (omega arith) c.loop-start.invariant.1)
      | else-not-continued-start w ↦ rw w.starts-is c.loop-start.invariant.1
    ] in (
      Adds-next append_one no_size keeps_no_size [] (sequences classes levels) classes levels c.requires.length start end flags
          c.set_flag.new.continued done (map (sequence_at classes levels) c.if-not-continued-start.starts.items) run now added
          (ap length c.set_flag.ensures ∙ length-flagged flags c.next_run.result ∙ now.flags_len)
          (λ j within edge. ap (λ list. get_or list j false) c.set_flag.ensures
          ∙ flagged-is levels (match_at classes (end - 1)) j flags c.next_run.result next now.flags_len (omega arith) within edge),
      inside,
    )

pub returns-clause-sequences : goal.returns-clause-sequences
returns-clause-sequences c =
    let classes = c.args.classes.now in
    let levels = c.args.levels.now in
    Adds-end append_one no_size keeps_no_size [] (sequences classes levels) classes levels c.loop-start.start c.loop-start.continued
    (map (sequence_at classes levels) c.loop-start.starts.items) c.loop-start-test.false c.loop-start.invariant.0
