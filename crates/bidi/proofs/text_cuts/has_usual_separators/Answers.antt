use Rattle.ucd.specs.Tables.{class_of}
use Rattle.bidi.proofs.CutLemmas.{no_cut_after}
use Rattle.bidi.proofs.text_cuts.has_usual_separators.Goals as goal

pub returns : goal.returns
returns c = λ is a b lt other. no_cut_after (class_of c.args.tables.now) a b (c.has_usual_separators.ensures.yes is a lt other)
