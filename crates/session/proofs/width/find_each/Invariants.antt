use Rattle.session.proofs.WidthLemmas.{AreFilled, values}
use Rattle.session.proofs.width.find_each.Given as goal

-- the extents of the lines of all paragraphs so far were found
abbrev pub invariant-loop-kept : goal.invariant-loop-kept
invariant-loop-kept l = AreFilled l.fn.engine l.width (values l.list) l.kept-index l.parts.items l.engine
