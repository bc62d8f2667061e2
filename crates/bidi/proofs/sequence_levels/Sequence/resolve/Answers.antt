use Rattle.std.proofs.Common.{◌-◌, length, arith}
use Rattle.bidi.proofs.AloneLemmas.{alone}
use Rattle.bidi.proofs.RunLemmas.{last_match, match_at-above}
use Rattle.bidi.proofs.sequence_levels.Sequence.resolve.Goals as goal

pub next_run-requires-clause-above : goal.next_run-requires-clause-above
next_run-requires-clause-above c =
    let p = c.args.paragraph.now in
    let classes = p.retained.now.classes.items in
    let end = c.args.end in
    let above = c.requires.run.above in
    let within = c.requires.run.within in
    rw (last_match classes p.matches.now end (length p.retained.now.levels.items) c.requires.paragraph.matches c.requires.paragraph.retained.classes (omega arith) within)
    (match_at-above classes (end - 1) (omega (arith, c.requires.paragraph.retained.classes)))

pub resolve_run-requires-clause-alone : goal.resolve_run-requires-clause-alone
resolve_run-requires-clause-alone c =
    let p = c.args.paragraph.now in
    let none = c.in-None.ensures in
    alone p.retained.now.classes.items p.retained.now.levels.items p.matches.now c.args.start c.args.end c.requires.paragraph.matches c.requires.paragraph.retained.classes c.requires.run
    (rw c.deref.ensures.value at none)
