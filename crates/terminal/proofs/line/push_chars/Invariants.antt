use Rattle.std.proofs.Common.{◌≡◌, ◌≤◌, ◌++◌, ℕ, List, drop, length}
use Rattle.lines.specs.Bytes.{ordered_chars}
use Rattle.sequences.specs.Output.{written_after}
use Rattle.sequences.specs.Styled.{Style}
use Rattle.terminal.specs.Lines.{line_chars, styled_chars}
use Rattle.terminal.specs.Numbers.{numbered}
use Rattle.terminal.specs.Parts.{styles_in}
use Rattle.terminal.proofs.line.push_chars.Given as goal

abbrev pub invariant-loop-place : goal.invariant-loop-place
invariant-loop-place l = record {
  number : l.last ≤ length l.part.text.now.runs.items;
  text : (more : List (ℕ × Style)) → l.out.items ++ written_after (numbered l.part.text.now.links.items l.part.text.now.runs.items l.last)
      (styled_chars l.line (styles_in l.part) (drop l.place (ordered_chars l.print l.line)) (drop l.place l.line.vtol) ++ more)
      ≡ l.fn.out.items ++ written_after (numbered l.part.text.now.links.items l.part.text.now.runs.items l.before)
      (line_chars l.print l.line (styles_in l.part) ++ more);
}
