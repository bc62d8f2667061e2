-- Line-breaking numbers. The line-breaking numbers. Each is below 56, and encodes a line breaking class and a
-- detail. The number of a class without a detail is the index of the class.
use Rattle.std.specs.Prelude.{List, [], ◌∷◌}
use Rattle.ucd.specs.declared.line_class.LineClass.{LineClass}
use Rattle.ucd.specs.declared.line_class.LineClass.TheVariants.{BK, CM, CR, GL, LF, NL, SP, WJ, ZW, ZWJ, B2, BA, BB, CB, HY, CL, CP, EX, IN, NS, OP, QU, IS, NU, PO, PR, SY, AI, AL, CJ, EB, EM, H2, H3, HL, ID, JL, JT, JV, RI, SA, SG, XX, AK, AP, AS, HH, VF, VI}
use Rattle.ucd.specs.declared.line_detail.LineDetail.{LineDetail}
use Rattle.ucd.specs.declared.line_detail.LineDetail.TheVariants.{Plain, Initial, Final, DottedCircle}

-- the class that each line-breaking number encodes
abbrev pub numbered_classes : List LineClass
numbered_classes = BK ∷ CM ∷ CR ∷ GL ∷ LF ∷ NL ∷ SP ∷ WJ ∷ ZW ∷ ZWJ ∷ B2 ∷ BA ∷ BB ∷ CB ∷ HY ∷ CL ∷ CP ∷ EX ∷ IN ∷ NS ∷ OP ∷ QU ∷ IS ∷ NU ∷ PO ∷ PR ∷ SY ∷ AI ∷ AL ∷ CJ ∷ EB ∷ EM ∷ H2 ∷ H3 ∷ HL ∷ ID ∷ JL ∷ JT ∷ JV ∷ RI ∷ SA ∷ SG ∷ XX ∷ AK ∷ AP ∷ AS ∷ HH ∷ VF ∷ VI
    ∷ QU ∷ QU ∷ AL ∷ AI ∷ SG ∷ XX ∷ SA ∷ []

-- the detail that each line-breaking number encodes
abbrev pub numbered_details : List LineDetail
numbered_details = Plain ∷ Plain ∷ Plain ∷ Plain ∷ Plain ∷ Plain ∷ Plain
    ∷ Plain ∷ Plain ∷ Plain ∷ Plain ∷ Plain ∷ Plain ∷ Plain
    ∷ Plain ∷ Plain ∷ Plain ∷ Plain ∷ Plain ∷ Plain ∷ Plain
    ∷ Plain ∷ Plain ∷ Plain ∷ Plain ∷ Plain ∷ Plain ∷ Plain
    ∷ Plain ∷ Plain ∷ Plain ∷ Plain ∷ Plain ∷ Plain ∷ Plain
    ∷ Plain ∷ Plain ∷ Plain ∷ Plain ∷ Plain ∷ Plain ∷ Plain
    ∷ Plain ∷ Plain ∷ Plain ∷ Plain ∷ Plain ∷ Plain ∷ Plain
    ∷ Initial ∷ Final ∷ DottedCircle ∷ DottedCircle ∷ DottedCircle ∷ DottedCircle ∷ DottedCircle ∷ []
