use Rattle.std.proofs.Common.{◌∙◌, arith}
use Rattle.ucd.proofs.PagedLemmas.{properties_are}
use Rattle.ucd.proofs.paged.PagedTables.properties.Goals as goal

pub returns : goal.returns
returns c = rw (← c.self.view_is) (c.get.ensures ∙ properties_are _ _ _ _ _ c.args.c (omega (arith, c.ranges.c)) c.self.invariant)
