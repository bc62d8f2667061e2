use Rattle.std.proofs.Common.{◌∙◌, ℕ, ap₂, slice_range}
use Rattle.lines.proofs.ReorderingLemmas.{cut_range}
use Rattle.lines.proofs.extents.ends_between.Goals as goal

pub returns : goal.returns
returns c =
    let ends = c.args.ends.now in
    ap₂ (λ (a b : ℕ). slice_range ends a b) c.min.ensures c.min-2.ensures ∙ cut_range ends c.args.start c.args.end c.requires
