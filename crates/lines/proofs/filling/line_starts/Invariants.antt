use Rattle.std.proofs.Common.{◌≡◌, ◌≤◌, ◌-◌, ◌++◌, drop, length, IsTrue}
use Rattle.lines.specs.Bare.{AreAlike, with_ends}
use Rattle.lines.specs.CharInfos.{sized}
use Rattle.lines.specs.Clusters.{cluster_ends}
use Rattle.lines.specs.Filling.{line_starts_of, starts}
use Rattle.lines.specs.Kept.{AreStarts}
use Rattle.lines.proofs.filling.line_starts.Given as goal

-- the line starts so far, followed by those of the remaining characters, are the line starts of the paragraph
abbrev pub invariant-loop-start : goal.invariant-loop-start
invariant-loop-start g l = let known = sized (g.S.Sizes.given l.ruler.sizes) (with_ends l.fn.infos (cluster_ends l.text)) in record {
  alike : AreAlike l.infos l.fn.infos;
  known_is : IsTrue l.is_known → l.infos ≡ with_ends l.infos (cluster_ends l.text);
  whole : line_starts_of l.nobreak l.ruler.width known ≡ l.starts.items ++ starts l.nobreak l.ruler.width l.start 0 (drop l.start known);
  within : l.start ≤ length l.infos;
  rising : AreStarts l.start l.starts.items;
}

abbrev pub decreases-loop-start : goal.decreases-loop-start
decreases-loop-start g l = length l.infos - l.start
