-- FriBidi's numbers for classes, directions and brackets (its headers fribidi-bidi-types.h and fribidi-types.h).
use Rattle.std.specs.Prelude.{ℕ, ◌-◌, ◌==◌, nat_le, true, false, List, [], ◌∷◌, ◌++◌, map, slice_index_or, Option, Some, None, if◌then◌else◌}
use Rattle.std.specs.List.{position_or_len}
use Rattle.ucd.specs.declared.bidi_class.BidiClass.{BidiClass}
use Rattle.ucd.specs.declared.bidi_class.BidiClass.TheVariants.{L, R, AL, EN, ES, ET, AN, CS, NSM, BN, B, S, WS, ON, LRE, LRO, RLE, RLO, PDF, LRI, RLI, FSI, PDI}
use Rattle.ucd.specs.declared.bracket.Bracket.{Bracket}
use Rattle.bidi.specs.declared.base.Base.{Base}
use Rattle.bidi.specs.declared.base.Base.TheVariants.{Rtl, Ltr, WeakRtl, WeakLtr}

-- FriBidi's number for each class
abbrev pub type_of : BidiClass → ℕ
type_of L = 272
type_of R = 273
type_of AL = 275
type_of EN = 544
type_of ES = 66592
type_of ET = 132128
type_of AN = 546
type_of CS = 263200
type_of NSM = 524320
type_of BN = 1050656
type_of B = 2107456
type_of S = 4204608
type_of WS = 8390720
type_of ON = 64
type_of LRE = 4112
type_of LRO = 20496
type_of RLE = 4113
type_of RLO = 20497
type_of PDF = 4128
type_of LRI = 32832
type_of RLI = 32833
type_of FSI = 33587264
type_of PDI = 32864

-- the classes in the order of their indices in the tables of single characters
abbrev pub classes : List BidiClass
classes = L ∷ R ∷ AL ∷ EN ∷ ES ∷ ET ∷ AN ∷ CS ∷ NSM ∷ BN ∷ B ∷ S ∷ WS ∷ ON ∷ LRE ∷ LRO ∷ RLE ∷ RLO ∷ PDF ∷ LRI ∷ RLI ∷ FSI ∷ PDI ∷ []

-- the numbers that have names in FriBidi: those of the classes, of WLTR and WRTL, and of the sentinel
abbrev pub named : List ℕ
named = map type_of classes ++ 32 ∷ 33 ∷ 128 ∷ []

-- the index of a number in `named`, or 26 if it is not in that list
unfoldable pub name_index : ℕ → ℕ
name_index number = position_or_len (λ other. other == number) named

-- the class with this number, or ON if no class has it
unfoldable pub class_of : ℕ → BidiClass
class_of number = slice_index_or classes (position_or_len (λ other. other == number) (map type_of classes)) ON

-- The base direction that a number denotes. All numbers except those of LTR, RTL and WRTL count as ON, which is a weak
-- direction with left-to-right as default.
abbrev pub base_of : ℕ → Base
base_of number =
    if number == 272 then Ltr else (if number == 273 then Rtl else (if number == 33 then WeakRtl else WeakLtr))

-- the number of a base level's direction; the lowest bit of the number is the level
abbrev pub direction_of : ℕ → ℕ
direction_of level = if level == 0 then 272 else 273

-- The bracket that a number denotes. The number is the code point of the other bracket of the pair, plus 2^31 for an
-- opening bracket. The number 0 denotes no bracket.
abbrev pub bracket_by : ℕ → Option Bracket
bracket_by number =
    if number == 0 then None
    else (if nat_le 2147483648 number then Some (record { pair = number - 2147483648; opens = true }) else Some (record { pair = number; opens = false }))
