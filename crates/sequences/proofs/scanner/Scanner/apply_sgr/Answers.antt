use Rattle.std.proofs.Common.{sym, ap, ◌∙◌}
use Rattle.sequences.specs.Scanners.{pen_at, pen_of}
use Rattle.sequences.specs.Styled.{with_sgr}
use Rattle.sequences.proofs.scanner.Scanner.apply_sgr.Goals as goal

pub returns-in-Some-clause-pen : goal.returns-in-Some-clause-pen
unfolding pen_of
returns-in-Some-clause-pen c =
    let scanner = c.args.self.now in
    let links = scanner.text.links.items in
    ap (λ look. pen_at links look scanner.link scanner.after_underline) c.applied-self.ensures
    ∙ ap (with_sgr (pen_at links scanner.look scanner.link scanner.after_underline)) (sym c.in-Some.ensures)
