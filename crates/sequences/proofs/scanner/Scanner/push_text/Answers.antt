use Rattle.sequences.specs.Scanners.{pen_of}
use Rattle.sequences.specs.StyledTexts.{styled_of}
use Rattle.sequences.proofs.StepLemmas.{end_pen, end_text}
use Rattle.sequences.proofs.scanner.Scanner.push_text.Goals as goal

pub returns-clause-text : goal.returns-clause-text
returns-clause-text c =
    let scanner = c.loop-at.self in
    end_text (pen_of scanner) (styled_of scanner.text) _ c.args.text.now c.loop-at.at c.loop-at-test.false c.loop-at.invariant.text

pub returns-clause-pen : goal.returns-clause-pen
returns-clause-pen c = end_pen (pen_of c.loop-at.self) _ c.args.text.now c.loop-at.at c.loop-at-test.false c.loop-at.invariant.pen
