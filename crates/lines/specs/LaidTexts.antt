-- The text of a paragraph whose lines have been found. No contract of an exported function uses these definitions.
use Rattle.std.specs.Prelude.{◌≡◌, ℕ, true, List, length, Option}
use Rattle.lines.specs.Measures.{given_if, AreWidthsOf}
use Rattle.lines.specs.Visual.{Line}
use Rattle.lines.specs.declared.fill.LaidText.{LaidText}

-- the advances, if the paragraph is measured
abbrev pub advances_in : LaidText → Option (List ℕ)
advances_in of = given_if of.is_measured of.advances.now

-- the text has an advance and a width for each character, and each width is the character's width on its line
pub record HasWidths (of : LaidText) (lines : List Line) : Type 0 where
  pub advances : length of.advances.now ≡ length of.text.now
  pub widths : length of.widths.now ≡ length of.text.now
  pub are : AreWidthsOf of.tab_width of.text.now of.advances.now of.widths.now lines

abbrev pub IsMeasuredText : LaidText → List Line → Type 0
IsMeasuredText of lines = of.is_measured ≡ true → HasWidths of lines
