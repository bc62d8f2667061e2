-- Paragraphs whose characters have style numbers.
use Rattle.std.proofs.Common.{◌≡◌, ℕ, ◌<◌, List, length, get_or, encode_utf8_all, Option, None, sym, subst, ap, ap₂, ◌∙◌}
use Rattle.lines.specs.Layouts.{AreWithin, Layout, Rules, layout_of}
use Rattle.lines.specs.declared.printing.print.Print.{Print}
use Rattle.sequences.specs.Styled.{DEFAULT, Style}
use Rattle.terminal.specs.Lines.{LinePrefix, in_style}
use Rattle.terminal.specs.Paragraphs.{styled_bytes, styled_layout, styled_paragraph}
use Rattle.terminal.specs.Parts.{styles_in}
use Rattle.terminal.specs.declared.numbers.Part.{Part}
use Rattle.lines.proofs.VisualLemmas.{lines_within}
use Rattle.terminal.proofs.BlockLemmas.{zeros_are}
use Rattle.terminal.proofs.PlainLemmas.{plain_characters}

-- if all style numbers of a part are 0, the part is printed like text in the default style
pub plain_part : (rules : Rules) (width : ℕ) (print : Print) (part : Part) → length part.numbers.now ≡ length part.characters.now
    → ((k : ℕ) → k < length part.numbers.now → get_or part.numbers.now k 0 ≡ 0)
    → styled_paragraph rules width print (in_style DEFAULT part.characters.now)
    ≡ styled_bytes None rules width print part.characters.now (styles_in part)
plain_part rules width print part same zero_at =
    ap₂ (styled_bytes None rules width print) (plain_characters part.characters.now)
    (sym (zeros_are part.text.now.links.items part.text.now.runs.items part.numbers.now part.characters.now same zero_at))

-- the UTF-8 of the written layout is `styled_bytes` of the text
pub bytes_are : (prefix : Option LinePrefix) (rules : Rules) (width : ℕ) (print : Print) (text : List ℕ) (styles : List Style) (layout : Layout) (out : List ℕ)
    → layout ≡ layout_of rules width text → out ≡ styled_layout prefix width print layout styles
    → encode_utf8_all out ≡ styled_bytes prefix rules width print text styles
unfolding styled_bytes
bytes_are prefix rules width print text styles layout out l o = ap encode_utf8_all (o ∙ ap (λ (a : Layout). styled_layout prefix width print a styles) l)

pub not_measured : (rules : Rules) (width : ℕ) (text : List ℕ) (layout : Layout) → layout ≡ layout_of rules width text → rules.advances ≡ None → layout.advances ≡ None
not_measured rules width text layout l none = ap (λ (a : Layout). a.advances) l ∙ none

pub lines_are_within : (rules : Rules) (width : ℕ) (text : List ℕ) (layout : Layout) → layout ≡ layout_of rules width text → AreWithin (length layout.text) layout.lines
lines_are_within rules width text layout l =
    let P : Layout → Type 0 = λ a. AreWithin (length a.text) a.lines in subst P (sym l) (lines_within rules width text)
