-- The bidi classes by name (UAX #9, section 3.2, table 4).
use Rattle.std.specs.Prelude.{ℕ, List, [], ◌∷◌, codes, true, false, Option, Some, option_map, find}
use Rattle.std.specs.Str.{bytes_eq}
use Rattle.ucd.specs.Grammar.{Form}
use Rattle.ucd.specs.declared.bidi_class.BidiClass.{BidiClass}
use Rattle.ucd.specs.declared.bidi_class.BidiClass.TheVariants.{L, R, AL, EN, ES, ET, AN, CS, NSM, BN, B, S, WS, ON, LRE, LRO, RLE, RLO, PDF, LRI, RLI, FSI, PDI}

abbrev pub all_classes : List BidiClass
all_classes = L ∷ R ∷ AL ∷ EN ∷ ES ∷ ET ∷ AN ∷ CS ∷ NSM ∷ BN ∷ B ∷ S ∷ WS ∷ ON ∷ LRE ∷ LRO ∷ RLE ∷ RLO ∷ PDF ∷ LRI ∷ RLI ∷ FSI ∷ PDI ∷ []

-- the short name of a class
abbrev pub name_of : BidiClass → List ℕ
name_of L = codes "L"
name_of R = codes "R"
name_of AL = codes "AL"
name_of EN = codes "EN"
name_of ES = codes "ES"
name_of ET = codes "ET"
name_of AN = codes "AN"
name_of CS = codes "CS"
name_of NSM = codes "NSM"
name_of BN = codes "BN"
name_of B = codes "B"
name_of S = codes "S"
name_of WS = codes "WS"
name_of ON = codes "ON"
name_of LRE = codes "LRE"
name_of LRO = codes "LRO"
name_of RLE = codes "RLE"
name_of RLO = codes "RLO"
name_of PDF = codes "PDF"
name_of LRI = codes "LRI"
name_of RLI = codes "RLI"
name_of FSI = codes "FSI"
name_of PDI = codes "PDI"

-- the class with this short name, if there is one
abbrev pub class_named : List ℕ → Option BidiClass
class_named name = find (λ c. bytes_eq (name_of c) name) all_classes

-- DerivedBidiClass.txt: a code point or a range, and the name of a class
abbrev pub bidi_class_form : Form BidiClass
bidi_class_form = record { has_ranges = true; has_third = false; value = λ name _. option_map Some (class_named name) }
