use Rattle.std.proofs.Common.{ℕ, List, sym, ap, ◌∙◌}
use Rattle.sequences.specs.Scanners.{pen_at, pen_of}
use Rattle.sequences.proofs.StepLemmas.{plain_pen-run}
use Rattle.sequences.proofs.scanner.Scanner.push_plain.Goals as goal

pub returns-clause-text : goal.returns-clause-text
unfolding pen_of
returns-clause-text c = c.in_ok-push_all.ensures.ok

pub returns-clause-pen : goal.returns-clause-pen
unfolding pen_of
returns-clause-pen c =
    let scanner = c.args.self.now in
    let links = scanner.text.links.items in
    let pen = pen_at links scanner.look scanner.link scanner.after_underline in
    ap (λ (l : List ℕ). pen_at l scanner.look scanner.link c.is_underlined_only-self.result) c.push_all.ensures.links
    ∙ ap (pen_at links scanner.look scanner.link) c.is_underlined_only-self.ensures
    ∙ sym (plain_pen-run pen c.args.run.now c.requires)
