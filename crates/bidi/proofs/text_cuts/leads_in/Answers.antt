use Rattle.std.proofs.Common.{arith}
use Rattle.bidi.proofs.BlockLemmas.{leads_are}
use Rattle.bidi.proofs.text_cuts.leads_in.Goals as goal

pub returns : goal.returns
returns c = leads_are c.args.block.now (omega (arith, c.requires))
