use Rattle.std.proofs.Common.{length, ◌-◌, ◌≤◌}
use Rattle.lines.specs.CharInfos.{sized}
use Rattle.lines.proofs.ShownPartLemmas.{AreSpacesTo}
use Rattle.lines.proofs.shown_parts.with_spaces.Given as goal

abbrev pub invariant-loop-len : goal.invariant-loop-len
invariant-loop-len g l = record {
  spaces : AreSpacesTo l.margin (sized (g.S.Sizes.given l.sizes) l.line) l.len l.columns;
  most : l.columns ≤ g.S.Sizes.most l.sizes l.len;
}

abbrev pub decreases-loop-len : goal.decreases-loop-len
decreases-loop-len g l = length l.line - l.len
