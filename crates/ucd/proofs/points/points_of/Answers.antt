use Rattle.std.proofs.lemmas.List.{take_all}
use Rattle.ucd.specs.Entries.{value_at}
use Rattle.std.proofs.Common.{◌∙◌, ap, sym, Some, if◌then◌else◌}
use Rattle.ucd.specs.Entries.{covers}
use Rattle.ucd.proofs.Ranges.{value_more, entry_read}
use Rattle.ucd.proofs.points.points_of.Goals as goal

pub loop-entry-preserved : goal.loop-entry-preserved
loop-entry-preserved g c k =
    let e = c.entry-item.result in
    c.in_ok-insert_points.ensures k ∙ ap (λ other. if covers e k then Some e.value else other) (c.loop-entry.invariant k)
    ∙ sym (value_more c.args.entries.now c.requires c.loop-entry.entry-index e (entry_read _ _ _ c.loop-entry-test.true c.entry-item.is) k)

pub insert_points-requires : goal.insert_points-requires
insert_points-requires g c = c.requires.whole c.loop-entry.entry-index c.entry-item.result (entry_read _ _ _ c.loop-entry-test.true c.entry-item.is)

pub returns : goal.returns
returns g c = λ k. c.loop-entry.invariant k ∙ ap (λ es. value_at es k) (take_all c.loop-entry.entry-index c.args.entries.now c.loop-entry-test.false)
