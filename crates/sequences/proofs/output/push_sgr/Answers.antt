use Rattle.std.proofs.Common.{rules}
use Rattle.sequences.specs.Output.{parameters_of}
use Rattle.sequences.proofs.OutputLemmas.{sgr_written}
use Rattle.sequences.proofs.output.push_sgr.Goals as goal

pub returns : goal.returns
returns c =
    sgr_written c.args.out.now.items c.push.new.self.items _ _ _ (parameters_of c.args.look.now) c.len-start.result c.in_ok-push.ensures.items
    (search rules)
    c.in_ok-push_parameters.ensures c.in_ok-end_introducer.ensures c.in_ok-push-2.ensures.items
