-- How a value from a file is applied to the properties of a character. A pictograph counts as unassigned
-- until its category is applied, so categories are applied after pictographs.
use Rattle.std.specs.Prelude.{true, false, Option, Some, None}
use Rattle.ucd.specs.Answers.{PropertyAnswers}
use Rattle.ucd.specs.Versions.{circle_by, line_class_in, quote_in}
use Rattle.ucd.specs.declared.bidi_class.BidiClass.{BidiClass}
use Rattle.ucd.specs.declared.bracket.Bracket.{Bracket}
use Rattle.ucd.specs.declared.bracket.Mirror.{Mirror}
use Rattle.ucd.specs.declared.category.Category.{Category}
use Rattle.ucd.specs.declared.category.Category.TheVariants as category
use Rattle.ucd.specs.declared.dotted_circle.Circle.{Circle}
use Rattle.ucd.specs.declared.emoji.Pictograph.{Pictograph}
use Rattle.ucd.specs.declared.line_class.LineClass.{LineClass}
use Rattle.ucd.specs.declared.line_detail.LineDetail.TheVariants.{Plain}
use Rattle.ucd.specs.declared.version.Version.{Version}
use Rattle.ucd.specs.declared.width.Width.{Width}
use Rattle.ucd.specs.declared.width.Width.TheVariants as width

abbrev pub put_bidi_class : BidiClass → PropertyAnswers → PropertyAnswers
put_bidi_class class a = record a { bidi_class = class }

abbrev pub put_bracket : Bracket → PropertyAnswers → PropertyAnswers
put_bracket bracket a = record a { has_bracket = true }

abbrev pub put_mirror : Mirror → PropertyAnswers → PropertyAnswers
put_mirror mirror a = record a { has_mirror = true }

abbrev pub put_line_class : Version → LineClass → PropertyAnswers → PropertyAnswers
put_line_class version class a = record a { line_class = line_class_in version class; line_detail = Plain }

abbrev pub put_circle : Circle → PropertyAnswers → PropertyAnswers
put_circle circle a = record a { line_detail = circle_by a.line_class a.line_detail }

abbrev pub put_width : Width → PropertyAnswers → PropertyAnswers
put_width width.Wide a = record a { is_wide = true }
put_width width.Other a = a

abbrev pub put_category : Version → Category → PropertyAnswers → PropertyAnswers
put_category version category.Mark a = record a { is_mark = true; is_future_pictograph = false }
put_category version category.Unassigned a = a
put_category version category.InitialQuote a =
    record a { line_detail = quote_in version category.InitialQuote a.line_class a.line_detail; is_future_pictograph = false }
put_category version category.FinalQuote a =
    record a { line_detail = quote_in version category.FinalQuote a.line_class a.line_detail; is_future_pictograph = false }
put_category version category.Other a = record a { is_future_pictograph = false }

abbrev pub put_pictograph : Pictograph → PropertyAnswers → PropertyAnswers
put_pictograph pictograph a = record a { is_future_pictograph = true }

-- applies the value, if there is one
abbrev pub put_by : {V : Type 0} → (V → PropertyAnswers → PropertyAnswers) → Option V → PropertyAnswers → PropertyAnswers
put_by put (Some v) a = put v a
put_by put None a = a
