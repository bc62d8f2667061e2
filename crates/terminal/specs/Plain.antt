-- What is printed if all characters have the default style.
use Rattle.std.specs.Prelude.{◌≡◌, ℕ, false, List}
use Rattle.lines.specs.Layouts.{Rules}
use Rattle.lines.specs.Pages.{paragraph_bytes}
use Rattle.lines.specs.declared.printing.print.Print.{Print}
use Rattle.sequences.specs.Laws.{characters_of}
use Rattle.sequences.specs.Styled.{DEFAULT, Style}
use Rattle.terminal.specs.Forms.{print_of, rules_in, width_of}
use Rattle.terminal.specs.Lines.{in_style}
use Rattle.terminal.specs.Paragraphs.{styled_paragraph}
use Rattle.terminal.specs.Prefixes.{prefix_len, printed_paragraph}
use Rattle.terminal.specs.declared.form.Form.{Form}

-- whether the lines of paragraphs are printed, and nothing else except possibly the base direction
pub record PrintsLinesAlone (print : Print) : Type 0 where
  pub visual : print.novisual ≡ false
  pub ltov : print.ltov ≡ false
  pub vtol : print.vtol ≡ false
  pub levels : print.levels ≡ false

-- With such options, text in the default style is printed like text without styles.
abbrev pub PrintsPlainLines : Type 0
PrintsPlainLines = (rules : Rules) (width : ℕ) (print : Print) (text : List ℕ) → PrintsLinesAlone print
    → styled_paragraph rules width print (in_style DEFAULT text) ≡ paragraph_bytes rules width print text

-- Without a prefix, a paragraph is printed as a whole.
abbrev pub PrintsWithoutPrefix : Type 0
PrintsWithoutPrefix = (rules : Rules) (form : Form) (shown : List (ℕ × Style)) → prefix_len rules.tables form.prefix (characters_of shown) ≡ 0
    → printed_paragraph rules form shown ≡ styled_paragraph (rules_in form rules) (width_of form) (print_of form) shown
