use Rattle.std.proofs.Common.{◌≡◌, List, length, subst, sym}
use Rattle.std.specs.Prelude.{IfSome}
use Rattle.lines.specs.Buffers.{held_lines}
use Rattle.lines.specs.Layouts.{lines_of, AreWithin}
use Rattle.lines.specs.Paragraphs.{rules_in}
use Rattle.lines.specs.Visual.{Line}
use Rattle.lines.proofs.VisualLemmas.{lines_within}
use Rattle.lines.proofs.workspace.Workspace.fill_edited.Goals as goal

pub returns-in-Some-clause-within : goal.returns-in-Some-clause-within
returns-in-Some-clause-within c =
    let e = c.args.edited.now in
    let lines = subst (λ done. IfSome done (λ shared. held_lines c.refill.new.lines ≡ lines_of (rules_in e.rules) e.width e.text.now)) c.in-Some.is c.in_ok-shared.ensures.lines in
    subst (λ (ls : List Line). AreWithin (length e.text.now) ls) (sym lines) (lines_within (rules_in e.rules) e.width e.text.now)
