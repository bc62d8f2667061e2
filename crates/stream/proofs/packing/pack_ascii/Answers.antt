use Rattle.std.proofs.Common.{◌++◌, List, ℕ, ap, take, ◌∙◌}
use Rattle.stream.proofs.PackingLemmas.{ascii-encoded}
use Rattle.stream.proofs.packing.pack_ascii.Goals as goal

pub returns-clause-bytes : goal.returns-clause-bytes
returns-clause-bytes c = c.pack.ensures.bytes ∙ ap (λ (bytes : List ℕ). take c.args.at c.args.buffer.now ++ bytes) (ascii-encoded c.args.codes c.fits-codes.0 c.requires.ascii)
