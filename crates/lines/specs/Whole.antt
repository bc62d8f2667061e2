-- Paragraphs without a mandatory break before their end (UAX #14, LB4 and LB5). If lines end only at
-- mandatory breaks, each of these paragraphs is one line. No contract of an exported function uses these
-- definitions.
use Rattle.std.specs.Prelude.{◌≡◌, ℕ, ◌+◌, ◌-◌, ◌<◌, ◌≤◌, ◌⊎◌, Bool, true, false, ◌||◌, not, List, [], ◌∷◌, length, slice_index}
use Rattle.ucd.specs.declared.line_class.LineClass.{LineClass}
use Rattle.ucd.specs.declared.line_class.LineClass.TheVariants.{BK, CR, LF, NL}
use Rattle.ucd.specs.declared.properties.Properties.{Properties}
use Rattle.ucd.specs.declared.tables.Tables.{Tables}
use Rattle.breaks.specs.Bases.{base_class, character, resolved}
use Rattle.breaks.specs.Classes.{is_one_of}
use Rattle.lines.specs.CharInfos.{may_trail, trailing_in}

-- whether a line must end after a character of this class, as resolved by LB1; CR counts even before LF
abbrev pub ends_line : LineClass → Bool
ends_line class = is_one_of (BK ∷ []) (base_class class) || is_one_of (CR ∷ LF ∷ NL ∷ []) (base_class class)

-- whether a character with these properties does not end its line; CR counts as an end even before LF
abbrev pub may_go_on : Properties → Bool
may_go_on p = not (ends_line (resolved p.line_class p.is_mark))

abbrev pub is_cr : LineClass → Bool
is_cr class = is_one_of (CR ∷ []) (base_class class)

abbrev pub is_lf : LineClass → Bool
is_lf class = is_one_of (LF ∷ []) (base_class class)

-- the last two characters of a text are CR, at j, and LF, so that the line does not end between them (LB5)
pub record EndsInCrLf (t : Tables) (text : List ℕ) (j : ℕ) : Type 0 where
  pub last : j + 2 ≡ length text
  pub cr : is_cr (character t (slice_index text j)).class ≡ true
  pub lf : is_lf (character t (slice_index text (j + 1))).class ≡ true

-- whether no character is of a class after which a line must end, except the last and the CR of a final CR LF
abbrev pub IsWhole : Tables → List ℕ → Type 0
IsWhole t text =
    (j : ℕ) → j + 1 < length text → (ends_line (character t (slice_index text j)).class ≡ false) ⊎ EndsInCrLf t text j

-- `len` is 2 if a text ends in CR LF, and otherwise 1
abbrev pub IsEndLen : Tables → List ℕ → ℕ → Type 0
IsEndLen t text len =
    (EndsInCrLf t text (length text - 2) × (len ≡ 2)) ⊎ ((¬ (EndsInCrLf t text (length text - 2))) × (len ≡ 1))

-- whether `len` is the length of a text without its tail
pub record IsShownLen (t : Tables) (text : List ℕ) (len : ℕ) : Type 0 where
  pub within : len ≤ length text
  pub tail : (k : ℕ) → len ≤ k → k < length text → may_trail (trailing_in t (slice_index text k)) ≡ true
  pub last : 0 < len → may_trail (trailing_in t (slice_index text (len - 1))) ≡ false
