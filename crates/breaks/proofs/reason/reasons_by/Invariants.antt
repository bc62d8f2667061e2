use Rattle.std.proofs.Common.{◌≡◌, [], ◌++◌, drop, length, map}
use Rattle.breaks.specs.Marks.{marks_after}
use Rattle.breaks.specs.Reasons.{chars_in, names, reasons_after}
use Rattle.breaks.specs.Rules.{rules}
use Rattle.breaks.specs.Seen.{base_in}
use Rattle.breaks.proofs.ReasonSteps.{before_at}
use Rattle.breaks.proofs.reason.reasons_by.Given as goal

abbrev pub invariant-loop-k : goal.invariant-loop-k
invariant-loop-k l =
    let rows = rules l.edition.version l.edition.whole_numbers in
    let all = names l.edition.version l.edition.whole_numbers in
    let rest = drop l.k (map base_in l.bases) in
    (l.before ≡ before_at l.bases l.k)
    × (length l.list.items ≡ chars_in l.before)
    × (l.list.items ++ reasons_after all rows l.before rest ≡ reasons_after all rows [] (map base_in l.bases))
    × (drop (length l.list.items) l.marks ≡ marks_after rows l.before rest)
