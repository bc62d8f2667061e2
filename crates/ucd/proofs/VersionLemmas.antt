-- Line-breaking numbers below the number of classes of Unicode 15.0 encode these classes, without a detail.
use Rattle.std.proofs.Common.{◌≡◌, ◌<◌, refl, arith}
use Rattle.ucd.specs.Answers.{line_tag, line_number, circle_number}
use Rattle.ucd.specs.declared.line_class.LineClass.{LineClass}
use Rattle.ucd.specs.declared.line_class.LineClass.TheVariants.{BK}
use Rattle.ucd.specs.declared.line_detail.LineDetail.{LineDetail}
use Rattle.ucd.specs.declared.line_detail.LineDetail.TheVariants.{Plain, Initial, Final, DottedCircle}

circle_above : (class : LineClass) → 43 < circle_number class
circle_above BK = omega arith
circle_above class = omega arith

pub number_plain : (class : LineClass) (detail : LineDetail) → line_number class detail < 43 → (line_tag class < 43) × (detail ≡ Plain)
number_plain class Plain lt = (lt, refl)
number_plain class Initial lt = absurd (omega arith)
number_plain class Final lt = absurd (omega arith)
number_plain class DottedCircle lt = absurd (omega (arith, circle_above class))
