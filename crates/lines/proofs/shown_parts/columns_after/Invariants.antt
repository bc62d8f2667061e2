use Rattle.std.proofs.Common.{◌≡◌, ◌-◌, ◌≤◌, take}
use Rattle.lines.specs.CharInfos.{sized}
use Rattle.lines.specs.Filling.{columns}
use Rattle.lines.proofs.shown_parts.columns_after.Given as goal

abbrev pub invariant-loop-k : goal.invariant-loop-k
invariant-loop-k g l = record {
  sum : l.columns ≡ columns (take l.k (sized (g.S.Sizes.given l.sizes) l.line));
  most : l.columns ≤ g.S.Sizes.most l.sizes l.k;
  within : l.k ≤ l.len;
}

abbrev pub decreases-loop-k : goal.decreases-loop-k
decreases-loop-k g l = l.len - l.k
