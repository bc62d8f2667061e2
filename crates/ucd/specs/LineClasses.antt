-- The line breaking classes by name (UAX #14, section 5.1, table 1).
use Rattle.std.specs.Prelude.{ℕ, List, [], ◌∷◌, codes, Option, find}
use Rattle.std.specs.Str.{bytes_eq}
use Rattle.ucd.specs.declared.line_class.LineClass.{LineClass}
use Rattle.ucd.specs.declared.line_class.LineClass.TheVariants.{BK, CM, CR, GL, LF, NL, SP, WJ, ZW, ZWJ, B2, BA, BB, CB, HY, CL, CP, EX, IN, NS, OP, QU, IS, NU, PO, PR, SY, AI, AL, CJ, EB, EM, H2, H3, HL, ID, JL, JT, JV, RI, SA, SG, XX, AK, AP, AS, HH, VF, VI}

-- all classes; those of Unicode 15.0 come first
abbrev pub all_classes : List LineClass
all_classes = BK ∷ CM ∷ CR ∷ GL ∷ LF ∷ NL ∷ SP ∷ WJ ∷ ZW ∷ ZWJ ∷ B2 ∷ BA ∷ BB ∷ CB ∷ HY ∷ CL ∷ CP ∷ EX ∷ IN ∷ NS ∷ OP ∷ QU ∷ IS ∷ NU ∷ PO ∷ PR ∷ SY ∷ AI ∷ AL ∷ CJ ∷ EB ∷ EM ∷ H2 ∷ H3 ∷ HL ∷ ID ∷ JL ∷ JT ∷ JV ∷ RI ∷ SA ∷ SG ∷ XX ∷ AK ∷ AP ∷ AS ∷ HH ∷ VF ∷ VI ∷ []

abbrev pub classes_15 : List LineClass
classes_15 = BK ∷ CM ∷ CR ∷ GL ∷ LF ∷ NL ∷ SP ∷ WJ ∷ ZW ∷ ZWJ ∷ B2 ∷ BA ∷ BB ∷ CB ∷ HY ∷ CL ∷ CP ∷ EX ∷ IN ∷ NS ∷ OP ∷ QU ∷ IS ∷ NU ∷ PO ∷ PR ∷ SY ∷ AI ∷ AL ∷ CJ ∷ EB ∷ EM ∷ H2 ∷ H3 ∷ HL ∷ ID ∷ JL ∷ JT ∷ JV ∷ RI ∷ SA ∷ SG ∷ XX ∷ []

-- the short name of a class
abbrev pub name_of : LineClass → List ℕ
name_of BK = codes "BK"
name_of CM = codes "CM"
name_of CR = codes "CR"
name_of GL = codes "GL"
name_of LF = codes "LF"
name_of NL = codes "NL"
name_of SP = codes "SP"
name_of WJ = codes "WJ"
name_of ZW = codes "ZW"
name_of ZWJ = codes "ZWJ"
name_of B2 = codes "B2"
name_of BA = codes "BA"
name_of BB = codes "BB"
name_of CB = codes "CB"
name_of HY = codes "HY"
name_of CL = codes "CL"
name_of CP = codes "CP"
name_of EX = codes "EX"
name_of IN = codes "IN"
name_of NS = codes "NS"
name_of OP = codes "OP"
name_of QU = codes "QU"
name_of IS = codes "IS"
name_of NU = codes "NU"
name_of PO = codes "PO"
name_of PR = codes "PR"
name_of SY = codes "SY"
name_of AI = codes "AI"
name_of AL = codes "AL"
name_of CJ = codes "CJ"
name_of EB = codes "EB"
name_of EM = codes "EM"
name_of H2 = codes "H2"
name_of H3 = codes "H3"
name_of HL = codes "HL"
name_of ID = codes "ID"
name_of JL = codes "JL"
name_of JT = codes "JT"
name_of JV = codes "JV"
name_of RI = codes "RI"
name_of SA = codes "SA"
name_of SG = codes "SG"
name_of XX = codes "XX"
name_of AK = codes "AK"
name_of AP = codes "AP"
name_of AS = codes "AS"
name_of HH = codes "HH"
name_of VF = codes "VF"
name_of VI = codes "VI"

-- the class with this short name, if there is one
abbrev pub class_named : List ℕ → Option LineClass
class_named name = find (λ c. bytes_eq (name_of c) name) all_classes

abbrev pub class_named_15 : List ℕ → Option LineClass
class_named_15 name = find (λ c. bytes_eq (name_of c) name) classes_15
