-- How a line is written, part by part. No contract of an exported function uses these definitions.
use Rattle.std.specs.Prelude.{◌≡◌, ℕ, List, ◌++◌, Option, option_map}
use Rattle.lines.specs.declared.printing.print.Print.{Print}
use Rattle.sequences.specs.Output.{written_after}
use Rattle.sequences.specs.Styled.{Style}
use Rattle.terminal.specs.Lines.{LinePrefix}
use Rattle.terminal.specs.Parts.{styles_in}
use Rattle.terminal.specs.Prefixes.{line_prefix}
use Rattle.terminal.specs.declared.line_form.LineForm.{LineForm}
use Rattle.terminal.specs.declared.line_form.PrefixLine.{PrefixLine}

-- Characters with styles were appended after a character in the style `before`. The last of them has the style `last`.
-- The appended characters do not depend on what follows.
abbrev pub Appends : List ℕ → List ℕ → Style → Style → List (ℕ × Style) → Type 0
Appends old new before last line = (more : List (ℕ × Style)) → new ++ written_after last more ≡ old ++ written_after before (line ++ more)

abbrev pub prefix_in : Print → PrefixLine → LinePrefix
prefix_in print prefix = line_prefix prefix.repeats print prefix.line.now (styles_in prefix.part)

abbrev pub prefix_of : LineForm → Option LinePrefix
prefix_of form = option_map (λ prefix. prefix_in form.print prefix.now) form.prefix
