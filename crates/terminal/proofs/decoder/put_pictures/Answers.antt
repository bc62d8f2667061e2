use Rattle.std.proofs.Common.{◌∙◌, ap, slice_set}
use Rattle.terminal.proofs.DecoderLemmas.{put_one}
use Rattle.terminal.proofs.decoder.put_pictures.Goals as goal

pub loop-k-preserved : goal.loop-k-preserved
loop-k-preserved c =
    ap (slice_set c.loop-k.text c.loop-k.k) c.picture.ensures
    ∙ put_one c.args.text.now c.loop-k.text c.loop-k.k c.index-text-k.result c.loop-k-test.true c.loop-k.invariant c.index-text-k.is
