use Rattle.std.proofs.Common.{◌≡◌, ◌≤◌, ◌-◌, ◌++◌, ℕ, List, drop, length}
use Rattle.lines.specs.Engine.{rules_of, SameRules}
use Rattle.lines.specs.declared.engine.TheConstants.{PARAGRAPH_LIMIT}
use Rattle.sequences.specs.Laws.{characters_of}
use Rattle.sequences.specs.Styled.{Style}
use Rattle.terminal.specs.Paragraphs.{styles_of}
use Rattle.terminal.specs.Parts.{styles_in}
use Rattle.terminal.specs.Pieces.{printed_each}
use Rattle.terminal.proofs.pieces.push_rest.Given as goal

abbrev pub invariant-loop-at : goal.invariant-loop-at
invariant-loop-at l = record {
  within : l.at ≤ length l.part.characters.now;
  rules : SameRules l.fn.engine l.engine;
  text : (shown : List (ℕ × Style)) → l.part.characters.now ≡ characters_of shown → styles_of shown ≡ styles_in l.part
      → l.page.bytes.items ++ printed_each (rules_of l.fn.engine) l.form (drop l.at shown)
      ≡ l.fn.page.bytes.items ++ printed_each (rules_of l.fn.engine) l.form (drop PARAGRAPH_LIMIT shown);
}

abbrev pub decreases-loop-at : goal.decreases-loop-at
decreases-loop-at l = length l.part.characters.now - l.at
