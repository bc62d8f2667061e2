use Rattle.std.proofs.Common.{◌++◌, List, ℕ, ap, take, ◌∙◌}
use Rattle.stream.proofs.PackingLemmas.{short-encoded}
use Rattle.stream.proofs.packing.pack_short.Goals as goal

pub returns-clause-bytes : goal.returns-clause-bytes
returns-clause-bytes c = c.pack.ensures.bytes ∙ ap (λ (bytes : List ℕ). take c.args.at c.args.buffer.now ++ bytes) (short-encoded c.args.codes c.fits-codes.0 c.requires.short)
