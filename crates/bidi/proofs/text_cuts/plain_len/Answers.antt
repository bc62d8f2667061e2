use Rattle.std.proofs.lemmas.Str.{IsCharBoundary-start}
use Rattle.bidi.proofs.text_cuts.plain_len.Goals as goal

pub returns-else-is_usual-clause-boundary : goal.returns-else-is_usual-clause-boundary
returns-else-is_usual-clause-boundary c = IsCharBoundary-start c.args.text.now c.utf8.text
