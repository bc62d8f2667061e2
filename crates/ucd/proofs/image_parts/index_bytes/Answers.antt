use Rattle.std.proofs.Common.{◌∙◌, below_more}
use Rattle.ucd.proofs.ImageParts.{more_16}
use Rattle.ucd.proofs.image_parts.index_bytes.Goals as goal

pub loop-k-preserved : goal.loop-k-preserved
loop-k-preserved c =
    let more = more_16 c.loop-k.bytes.items c.push_u16.new.bytes.items _ c.loop-k.k c.loop-k.invariant.0 c.in_ok-push_u16.ensures in
    (more.len, below_more _ _ (λ j lt. more.before j lt ∙ c.loop-k.invariant.1 j lt) more.here)
