use Rattle.std.proofs.Common.{refl, arith}
use Rattle.sequences.specs.Scanners.{pen_of}
use Rattle.sequences.specs.declared.style.TheConstants.{NO_LINK}
use Rattle.sequences.proofs.ScannerLemmas.{link_dropped, link_fits}
use Rattle.sequences.proofs.scanner.Scanner.set_link.Goals as goal

pub returns-in_ok-self-clause-pen : goal.returns-in_ok-self-clause-pen
unfolding pen_of
returns-in_ok-self-clause-pen c =
    let scanner = c.args.self.now in
    link_fits scanner.look scanner.after_underline scanner.text.links.items c.add_link.new.self.links.items c.args.link.now scanner.link c.in_ok-self.field-0
    (omega arith) c.in_ok-self.ensures.link c.in_ok-self.ensures.len

pub returns-else-len-link-le-MAX_LINKS_LEN-clause-pen : goal.returns-else-len-link-le-MAX_LINKS_LEN-clause-pen
unfolding pen_of
returns-else-len-link-le-MAX_LINKS_LEN-clause-pen c =
    let scanner = c.args.self.now in
    link_dropped scanner.look scanner.after_underline scanner.text.links.items c.args.link.now scanner.link NO_LINK (omega arith) refl
