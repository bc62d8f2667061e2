use Rattle.std.proofs.Common.{◌∙◌, arith}
use Rattle.std.proofs.lemmas.List.{length-set}
use Rattle.ucd.specs.JoiningPages.{merged_at}
use Rattle.ucd.specs.declared.joining_type.JoiningType.TheVariants.{NonJoining}
use Rattle.ucd.proofs.JoiningPageLemmas.{merged_default, types_more}
use Rattle.ucd.proofs.joining_pages.fill.Goals as goal

pub loop-k-preserved : goal.loop-k-preserved
loop-k-preserved c = record {
  len = length-set c.loop-k.page c.loop-k.k c.merged.result ∙ c.loop-k.invariant.len;
  filled = types_more c.loop-k.page (merged_at c.args.shaping_types.now c.args.data_types.now) c.args.start c.loop-k.k c.merged.result NonJoining
      (omega (arith, c.loop-k.invariant.len))
      (c.merged.ensures ∙ merged_default c.args.shaping_types.now c.args.data_types.now _ _ _ (omega (arith, c.requires.start.0)) (omega (arith, c.requires.start.1))) c.loop-k.invariant.filled;
}
