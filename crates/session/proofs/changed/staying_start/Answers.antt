use Rattle.std.proofs.Common.{◌≡◌, length, sym, subst, ◌∙◌}
use Rattle.lines.specs.Layouts.{visuals, Layout}
use Rattle.lines.specs.Extents.{LineExtents}
use Rattle.lines.specs.Matching.{MatchAtStart}
use Rattle.session.specs.Kept.{BringsTo}
use Rattle.session.specs.Matching.{at_width, IsWhole, MatchingAtStart}
use Rattle.session.proofs.BorderLemmas.{length-visuals}
use Rattle.session.proofs.StayLemmas.{start_all, start_stays, starts_count, stays_whole}
use Rattle.session.proofs.changed.staying_start.Goals as goal

pub returns-in-None : goal.returns-in-None
returns-in-None c = λ rules width laid brings.
    let kept : Layout = c.args.kept.now in
    let count : length (visuals kept) ≡ c.matching_of.result.count = length-visuals kept ∙ sym c.lines-lines.ensures ∙ sym c.matching_of.ensures.count in
    let whole : IsWhole (length kept.lines) (length kept.lines) c.matching_of.result =
    subst (λ n. IsWhole n n c.matching_of.result) c.lines-lines.ensures c.matching_of.ensures.whole in
    subst (λ (l : Layout). MatchingAtStart kept l c.matching_of.result) (sym (stays_whole rules width kept (subst (BringsTo rules width kept) c.in-None.is brings)))
    (record { lines = subst (MatchAtStart (visuals kept) (visuals kept)) count (start_all (visuals kept)); whole = whole })

pub returns-in-Some : goal.returns-in-Some
returns-in-Some c = λ rules width laid brings.
    let kept : Layout = c.args.kept.now in
    let extents : LineExtents = c.in-Some.extents in
    let brought = subst (BringsTo rules width kept) c.in-Some.is brings in
    let lines = start_stays rules width kept c.laid.result.now extents c.staying_at_start-count.result c.laid.ensures c.staying_at_start-count.ensures laid brought in
    let whole : IsWhole (length kept.lines) (length (at_width rules width kept).lines) c.matching_of-in-Some.result =
    subst (λ n. IsWhole n (length (at_width rules width kept).lines) c.matching_of-in-Some.result) c.lines-lines.ensures
    (subst (λ m. IsWhole c.lines-lines.result m c.matching_of-in-Some.result) (c.line_count.ensures ∙ sym (starts_count rules width kept extents brought)) c.matching_of-in-Some.ensures.whole) in
    record { lines = subst (MatchAtStart (visuals kept) (visuals (at_width rules width kept))) (sym c.matching_of-in-Some.ensures.count) lines; whole = whole }
