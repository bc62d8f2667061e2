use Rattle.std.proofs.Common.{◌≡◌, ◌++◌, [], length}
use Rattle.lines.specs.Engine.{rules_of, SameRules}
use Rattle.sequences.specs.Scanners.{pen_of}
use Rattle.sequences.specs.Styled.{START}
use Rattle.sequences.specs.StyledTexts.{styled_of}
use Rattle.terminal.specs.Texts.{text_page}
use Rattle.terminal.proofs.text.push_text.Given as goal

abbrev pub invariant-loop-rest : goal.invariant-loop-rest
invariant-loop-rest l = record {
  rules : SameRules l.fn.engine l.engine;
  empty : styled_of l.scanner.text ≡ [];
  text : l.page.bytes.items ++ text_page (rules_of l.fn.engine) l.form (pen_of l.scanner) l.rest
      ≡ l.fn.page.bytes.items ++ text_page (rules_of l.fn.engine) l.form START l.text;
}

abbrev pub decreases-loop-rest : goal.decreases-loop-rest
decreases-loop-rest l = length l.rest
