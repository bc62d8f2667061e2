-- Tests for kinds of bidi classes (UAX #9, section 3.2, and BD8).
use Rattle.std.specs.Prelude.{ℕ, Bool, true, false, List, slice_index_or}
use Rattle.ucd.specs.declared.bidi_class.BidiClass.{BidiClass}
use Rattle.ucd.specs.declared.properties.Properties.{Properties}
use Rattle.ucd.specs.declared.bidi_class.BidiClass.TheVariants.{L, R, AL, B, BN, NSM, ON, RLE, LRE, RLO, LRO, PDF, LRI, RLI, FSI, PDI}

abbrev pub is_strong : BidiClass → Bool
is_strong L = true
is_strong R = true
is_strong AL = true
is_strong _ = false

-- whether characters of a class are isolate initiators
abbrev pub is_initiator : BidiClass → Bool
is_initiator LRI = true
is_initiator RLI = true
is_initiator FSI = true
is_initiator _ = false

abbrev pub is_pdi : BidiClass → Bool
is_pdi PDI = true
is_pdi _ = false

-- whether characters of a class are paragraph separators
abbrev pub is_separator : BidiClass → Bool
is_separator B = true
is_separator _ = false

-- whether characters of a class are nonspacing marks
abbrev pub is_nonspacing_mark : BidiClass → Bool
is_nonspacing_mark NSM = true
is_nonspacing_mark _ = false

-- X9: whether characters of a class are removed
abbrev pub is_removed : BidiClass → Bool
is_removed RLE = true
is_removed LRE = true
is_removed RLO = true
is_removed LRO = true
is_removed PDF = true
is_removed BN = true
is_removed _ = false

-- the class at an index, or ON past the end
abbrev pub class_at : List BidiClass → ℕ → BidiClass
class_at classes k = slice_index_or classes k ON

-- the bidi class in the properties of a character
abbrev pub class_in : Properties → BidiClass
class_in properties = properties.bidi_class
