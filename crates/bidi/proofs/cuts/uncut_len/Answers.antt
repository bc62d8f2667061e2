use Rattle.std.proofs.Common.{slice_index}
use Rattle.ucd.specs.Tables.{class_of}
use Rattle.bidi.proofs.CutLemmas.{no_cut_after}
use Rattle.bidi.proofs.cuts.uncut_len.Goals as goal

pub returns-then-has_usual_separators-clause-uncut : goal.returns-then-has_usual_separators-clause-uncut
returns-then-has_usual_separators-clause-uncut c k next lt =
    let a = slice_index c.args.text.now k in
    let plain = c.plain_len.ensures.before k lt in
    no_cut_after (class_of c.args.tables.now) a next (c.has_usual_separators.ensures.yes c.if-has_usual_separators.true a plain.0 plain.1)
