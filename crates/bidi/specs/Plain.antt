-- Paragraphs that need fewer rules than others (UAX #9, X1 to X10 and N0).
use Rattle.std.specs.Prelude.{ℕ, ◌==◌, Bool, true, false, if◌then◌else◌}
use Rattle.ucd.specs.declared.bidi_class.BidiClass.{BidiClass}
use Rattle.ucd.specs.declared.properties.Properties.{Properties}
use Rattle.ucd.specs.declared.bidi_class.BidiClass.TheVariants.{L, R, AL, EN, AN, BN, LRE, LRO, RLE, RLO, PDF, LRI, RLI, FSI, PDI}

-- Whether a character is plain: neither an opener nor a closer, and kept by X9. A paragraph of plain
-- characters is one isolating run sequence.
abbrev pub is_plain : BidiClass → Bool
is_plain BN = false
is_plain LRE = false
is_plain LRO = false
is_plain RLE = false
is_plain RLO = false
is_plain PDF = false
is_plain LRI = false
is_plain RLI = false
is_plain FSI = false
is_plain PDI = false
is_plain class = true

-- Whether a character is flat. In a paragraph of flat characters at paragraph level 0, all levels are 0.
abbrev pub is_flat : BidiClass → Bool
is_flat R = false
is_flat AL = false
is_flat AN = false
is_flat LRE = false
is_flat LRO = false
is_flat RLE = false
is_flat RLO = false
is_flat PDF = false
is_flat LRI = false
is_flat RLI = false
is_flat FSI = false
is_flat PDI = false
is_flat class = true

-- Whether a character is flat in a right-to-left paragraph. In a paragraph of such characters at paragraph
-- level 1, all levels are 1.
abbrev pub is_flat_rtl : BidiClass → Bool
is_flat_rtl L = false
is_flat_rtl EN = false
is_flat_rtl AN = false
is_flat_rtl LRE = false
is_flat_rtl LRO = false
is_flat_rtl RLE = false
is_flat_rtl RLO = false
is_flat_rtl PDF = false
is_flat_rtl LRI = false
is_flat_rtl RLI = false
is_flat_rtl FSI = false
is_flat_rtl PDI = false
is_flat_rtl class = true

-- whether a character is flat in a paragraph at this level, 0 or 1
abbrev pub is_flat_at : ℕ → BidiClass → Bool
is_flat_at level class = if level == 0 then is_flat class else is_flat_rtl class

-- whether a character is a bracket, according to its properties
abbrev pub has_bracket_in : Properties → Bool
has_bracket_in properties = properties.has_bracket
