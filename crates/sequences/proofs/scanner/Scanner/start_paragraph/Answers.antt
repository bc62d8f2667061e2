use Rattle.sequences.specs.Scanners.{pen_of}
use Rattle.sequences.proofs.ScannerLemmas.{paragraph_starts}
use Rattle.sequences.proofs.scanner.Scanner.start_paragraph.Goals as goal

pub returns-clause-pen : goal.returns-clause-pen
unfolding pen_of
returns-clause-pen c =
    let scanner = c.args.self.now in
    paragraph_starts scanner.look scanner.after_underline scanner.text.links.items _ scanner.link _ c.clear-self.ensures.links c.clear-self.ensures.link.0
    c.clear-self.ensures.link.1 scanner.linked
