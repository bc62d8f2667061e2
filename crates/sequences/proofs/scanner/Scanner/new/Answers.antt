use Rattle.std.proofs.Common.{false, [], length, ap, refl}
use Rattle.sequences.specs.Scanners.{pen_of}
use Rattle.sequences.specs.declared.look.TheConstants.{PLAIN}
use Rattle.sequences.specs.declared.style.TheConstants.{NO_LINK}
use Rattle.sequences.proofs.ScannerLemmas.{pen_at-linked}
use Rattle.sequences.proofs.scanner.Scanner.new.Goals as goal

pub returns-clause-pen : goal.returns-clause-pen
unfolding pen_of
returns-clause-pen c = pen_at-linked PLAIN false c.new.result.links.items [] NO_LINK 0 refl (ap length c.new.ensures.links)
