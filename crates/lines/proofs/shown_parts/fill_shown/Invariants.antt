use Rattle.std.proofs.Common.{◌≡◌, ◌-◌, ◌++◌, length, take}
use Rattle.lines.specs.CharInfos.{sized}
use Rattle.lines.specs.Extents.{in_pairs, shown_from}
use Rattle.lines.proofs.shown_parts.fill_shown.Given as goal

abbrev pub invariant-loop-k : goal.invariant-loop-k
invariant-loop-k g l =
    let starts = l.fn.items.items in
    record {
      count : l.count ≡ length starts;
      items : l.items.items ≡ starts ++ in_pairs (take l.k (shown_from l.margin (length l.infos) (sized (g.S.Sizes.given l.sizes) l.infos) starts));
    }

abbrev pub decreases-loop-k : goal.decreases-loop-k
decreases-loop-k g l = l.count - l.k
