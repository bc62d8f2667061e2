use Rattle.std.proofs.Common.{◌∙◌, ap}
use Rattle.sequences.specs.Progress.{is_known}
use Rattle.sequences.proofs.ProgressLemmas.{start_tells}
use Rattle.sequences.proofs.known.is_sequence_known.Goals as goal

pub returns : goal.returns
returns c = c.is_known.ensures ∙ ap is_known c.scan.ensures ∙ start_tells c.args.text.now
