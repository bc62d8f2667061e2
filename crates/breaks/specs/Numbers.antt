-- Whole numbers (UAX #14, LB25 in the form of section 8.2, example 7). No line ends inside bases that match
-- the expression `(PR | PO)? (OP | HY)? NU (NU | SY | IS)* (CL | CP)? (PR | PO)?`.
use Rattle.std.specs.Prelude.{Bool, true, false, ◌&&◌, List, [], ◌∷◌, ◌++◌, map, reverse, if◌then◌else◌}
use Rattle.std.specs.List.{list_any}
use Rattle.ucd.specs.declared.line_class.LineClass.{LineClass}
use Rattle.ucd.specs.declared.line_class.LineClass.TheVariants.{CL, CP, HY, IS, NU, OP, PO, PR, SY}
use Rattle.breaks.specs.Bases.{BaseCharacter, class_of}
use Rattle.breaks.specs.Classes.{is_same, is_one_of}

-- the classes in each part of a number
abbrev pub affix : List LineClass
affix = PR ∷ PO ∷ []

abbrev pub opening : List LineClass
opening = OP ∷ HY ∷ []

abbrev pub middle : List LineClass
middle = NU ∷ SY ∷ IS ∷ []

abbrev pub closing : List LineClass
closing = CL ∷ CP ∷ []

-- a list without its first item, if that item is in `classes`
abbrev pub after_one : List LineClass → List LineClass → List LineClass
after_one classes [] = []
after_one classes (class ∷ rest) = if is_one_of classes class then rest else class ∷ rest

-- a list without all leading items that are in `classes`
abbrev pub after_all : List LineClass → List LineClass → List LineClass
after_all classes [] = []
after_all classes (class ∷ rest) = if is_one_of classes class then after_all classes rest else class ∷ rest

abbrev pub is_nothing : List LineClass → Bool
is_nothing [] = true
is_nothing (class ∷ rest) = false

-- Each of these definitions tests whether a list of classes matches a suffix of the expression. From one
-- definition to the next, the suffix grows by at least one part. No optional or repeated part shares a class
-- with a part that can follow it, so each part can match greedily.
abbrev pub is_end : List LineClass → Bool
is_end classes = is_nothing (after_one affix classes)

abbrev pub goes_on : List LineClass → Bool
goes_on classes = is_end (after_one closing (after_all middle classes))

abbrev pub begins_with_digit : List LineClass → Bool
begins_with_digit [] = false
begins_with_digit (class ∷ rest) = is_same class NU && goes_on rest

abbrev pub is_unaffixed : List LineClass → Bool
is_unaffixed classes = begins_with_digit (after_one opening classes)

-- whether a list of classes matches the whole expression
abbrev pub is_number : List LineClass → Bool
is_number classes = is_unaffixed (after_one affix classes)

-- the non-empty prefixes of a list
abbrev pub fronts : {A : Type 0} → List A → List (List A)
fronts [] = []
fronts (a ∷ rest) = (a ∷ []) ∷ map (λ front. a ∷ front) (fronts rest)

-- whether a position is inside a number: one or more bases directly before it (`before`, nearest first) and
-- one or more directly after it form a number
abbrev pub is_in_number : List BaseCharacter → List BaseCharacter → Bool
is_in_number before after =
    list_any (λ front. list_any (λ back. is_number (map class_of (reverse front ++ back))) (fronts after)) (fronts before)
