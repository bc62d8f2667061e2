use Rattle.std.proofs.Common.{◌≡◌, ℕ, ◌-◌, ◌<◌, ◌≤◌, List, [], ◌++◌, length, get_or, Some, None, sym, ap, ◌∙◌, arith}
use Rattle.std.specs.List.{range_with_len}
use Rattle.std.proofs.lemmas.List.{append_assoc, append-nil, length-append}
use Rattle.std.proofs.lemmas.List.FromFn.{length-range_with_len}
use Rattle.ucd.specs.declared.bidi_class.BidiClass.{BidiClass}
use Rattle.bidi.specs.Isolates.{match_at, matches_of}
use Rattle.bidi.specs.Runs.{IsRunEnd, next_start, sequence_at}
use Rattle.bidi.proofs.RunLemmas.{AreWithin-range, last_match, match_at-above, next_start-within, sequence_at-run}
use Rattle.bidi.proofs.sequences.gather.Goals as goal

-- appending the indices of a run, and then the rest of its sequence, appends the whole sequence
run_then : (classes : List BidiClass) (levels matches places after : List ℕ) (start end : ℕ) → matches ≡ matches_of classes → length classes ≡ length levels → IsRunEnd levels start end
    → after ≡ places ++ range_with_len start (end - start) → (next : List ℕ) → sequence_at classes levels start
    ≡ range_with_len start (end - start) ++ next → after ++ next ≡ places ++ sequence_at classes levels start
run_then classes levels matches places after start end e size run pushed next split =
    ap (λ xs. xs ++ next) pushed ∙ append_assoc places (range_with_len start (end - start)) next ∙ ap (λ xs. places ++ xs) (sym split)

pub next_run-requires-clause-above : goal.next_run-requires-clause-above
next_run-requires-clause-above c =
    let above = c.run_end-end.ensures.above in
    let within = c.run_end-end.ensures.within in
    rw (last_match c.args.classes.now c.args.matches.now c.run_end-end.result (length c.args.levels.now) c.requires.matches c.requires.length (omega arith) (omega arith))
    (match_at-above c.args.classes.now (c.run_end-end.result - 1) (omega (arith, c.requires.length)))

-- if a run continues at `next`, the sequence that begins there remains to be appended
goes_on : (classes : List BidiClass) (levels matches places after : List ℕ) (start end next : ℕ) → matches ≡ matches_of classes → length classes ≡ length levels → IsRunEnd levels start end
    → after ≡ places ++ range_with_len start (end - start) → Some next ≡ next_start levels (get_or matches (end - 1) 0)
    → (end ≤ next) × (next < length levels) × (after ++ sequence_at classes levels next ≡ places ++ sequence_at classes levels start)
goes_on classes levels matches places after start end next e size run pushed f =
    let above = run.above in
    let within = run.within in
    let found = last_match classes matches end (length levels) e size (omega arith) within in
    let g : Some next ≡ next_start levels (match_at classes (end - 1)) = f ∙ ap (next_start levels) found in
    let at = next_start-within levels (match_at classes (end - 1)) next (sym g) in
    let far : end - 1 < match_at classes (end - 1) = match_at-above classes (end - 1) (omega arith) in
    let split = sequence_at-run classes levels size start end run in (
      omega (arith, at.0),
      at.1,
      run_then classes levels matches places after start end e size run pushed (sequence_at classes levels next) (rw (← g) at split),
    )

pub loop-next-smaller : goal.loop-next-smaller
loop-next-smaller c =
    let next = goes_on c.args.classes.now c.args.levels.now c.args.matches.now c.loop-next.places.items c.push_places.new.places.items c.loop-next.start c.run_end-end.result c.in-Some.next
    c.requires.matches c.requires.length c.run_end-end.ensures c.in_ok-push_places.ensures c.in-Some.ensures in
    let above = c.run_end-end.ensures.above in
    omega (arith, next.0, next.1)

pub loop-next-preserved : goal.loop-next-preserved
loop-next-preserved c =
    let next = goes_on c.args.classes.now c.args.levels.now c.args.matches.now c.loop-next.places.items c.push_places.new.places.items c.loop-next.start c.run_end-end.result c.in-Some.next
    c.requires.matches c.requires.length c.run_end-end.ensures c.in_ok-push_places.ensures c.in-Some.ensures in
    let above = c.run_end-end.ensures.above in
    record {
      within = next.1;
      whole = next.2 ∙ c.loop-next.invariant.whole;
      inside = rw c.in_ok-push_places.ensures
          (AreWithin-range (length c.args.levels.now) c.loop-next.start c.run_end-end.result c.loop-next.places.items
          c.run_end-end.ensures.within (omega arith) c.loop-next.invariant.inside);
    }

-- if a run is the last of its sequence, the whole sequence has been appended
ends : (classes : List BidiClass) (levels matches places after : List ℕ) (start end : ℕ) → matches ≡ matches_of classes → length classes ≡ length levels → IsRunEnd levels start end
    → after ≡ places ++ range_with_len start (end - start) → None ≡ next_start levels (get_or matches (end - 1) 0) → after ≡ places ++ sequence_at classes levels start
ends classes levels matches places after start end e size run pushed f =
    let above = run.above in
    let within = run.within in
    let found = last_match classes matches end (length levels) e size (omega arith) within in
    let g : None ≡ next_start levels (match_at classes (end - 1)) = f ∙ ap (next_start levels) found in
    let split = sequence_at-run classes levels size start end run in
    sym (append-nil after) ∙ run_then classes levels matches places after start end e size run pushed [] (rw (← g) at split)

pub returns-in-None-clause-places : goal.returns-in-None-clause-places
returns-in-None-clause-places c =
    ends c.args.classes.now c.args.levels.now c.args.matches.now c.loop-next.places.items c.push_places.new.places.items c.loop-next.start c.run_end-end.result
    c.requires.matches c.requires.length c.run_end-end.ensures c.in_ok-push_places.ensures c.in-None.ensures
    ∙ c.loop-next.invariant.whole

pub returns-in-None-clause-within : goal.returns-in-None-clause-within
returns-in-None-clause-within c =
    let above = c.run_end-end.ensures.above in
    rw c.in_ok-push_places.ensures
    (AreWithin-range (length c.args.levels.now) c.loop-next.start c.run_end-end.result c.loop-next.places.items
    c.run_end-end.ensures.within (omega arith) c.loop-next.invariant.inside)

pub returns-in-None-clause-some : goal.returns-in-None-clause-some
returns-in-None-clause-some c =
    let above = c.run_end-end.ensures.above in
    let size = ap length c.in_ok-push_places.ensures ∙ length-append c.loop-next.places.items (range_with_len c.loop-next.start (c.run_end-end.result - c.loop-next.start)) in
    omega (arith, size, length-range_with_len c.loop-next.start (c.run_end-end.result - c.loop-next.start))
