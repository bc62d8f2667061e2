use Rattle.std.proofs.Common.{◌≡◌, ◌-◌, ◌≤◌, ◌++◌, length, drop}
use Rattle.sequences.specs.Scanners.{pen_of}
use Rattle.sequences.specs.Styled.{pen_at_end, styled}
use Rattle.sequences.specs.StyledTexts.{styled_of}
use Rattle.sequences.proofs.scanner.Scanner.push_text.Given as goal

abbrev pub invariant-loop-at : goal.invariant-loop-at
invariant-loop-at l = record {
  within : l.at ≤ length l.text;
  text : styled_of l.self.text ++ styled (pen_of l.self) (drop l.at l.text) ≡ styled_of l.fn.self.text ++ styled (pen_of l.fn.self) l.text;
  pen : pen_at_end (pen_of l.self) (drop l.at l.text) ≡ pen_at_end (pen_of l.fn.self) l.text;
}

abbrev pub decreases-loop-at : goal.decreases-loop-at
decreases-loop-at l = length l.text - l.at
