-- The explicit level and type of each character of a paragraph, given the openers that are open at the
-- character (UAX #9, X1 to X8). An opener is an embedding, an override or an isolate initiator.
use Rattle.std.specs.Prelude.{◌≡◌, ℕ, ◌+◌, ◌-◌, ◌%◌, ◌==◌, nat_lt, Bool, true, false, ◌||◌, not, List, [], ◌∷◌, length, take, drop, fold, map, slice_range, Option, Some, None, unwrap_or, if◌then◌else◌}
use Rattle.std.specs.List.{list_any, prefix_len, range_with_len}
use Rattle.ucd.specs.declared.bidi_class.BidiClass.{BidiClass}
use Rattle.ucd.specs.declared.bidi_class.BidiClass.TheVariants.{L, R, RLE, LRE, RLO, LRO, PDF, RLI, LRI, FSI, PDI}
use Rattle.ucd.specs.Classes.{class_at, is_initiator, is_pdi, is_separator}
use Rattle.bidi.specs.Base.{match_of, first_strong_level}
use Rattle.bidi.specs.Brackets.{greatest}

-- the classes between the initiator at k and its match, or all classes after the initiator if it has no match
abbrev pub span_of : List BidiClass → ℕ → List BidiClass
span_of classes k = slice_range classes (k + 1) (unwrap_or (match_of classes k) (length classes))

-- X5c: an FSI acts as RLI if P2 and P3 determine level 1 for the characters inside it, and otherwise as LRI
abbrev pub is_first_strong : BidiClass → Bool
is_first_strong FSI = true
is_first_strong class = false

abbrev pub directed_at : List BidiClass → ℕ → BidiClass → BidiClass
directed_at classes k FSI = if unwrap_or (first_strong_level (span_of classes k)) 0 == 1 then RLI else LRI
directed_at classes k class = class

-- the classes of a paragraph, with each FSI replaced by the initiator that it acts as
abbrev pub directed : List BidiClass → List BidiClass
directed classes = map (λ k. directed_at classes k (class_at classes k)) (range_with_len 0 (length classes))

-- A chain lists the openers that are open, the innermost first. PDF closes the innermost opener if it is not
-- an isolate initiator. PDI closes the innermost isolate and all openers inside it.
abbrev pub close_embedding : List BidiClass → List BidiClass
close_embedding [] = []
close_embedding (opener ∷ outer) = if is_initiator opener then opener ∷ outer else outer

abbrev pub close_isolate : List BidiClass → List BidiClass
close_isolate openers =
    if list_any is_initiator openers then drop (prefix_len (λ opener. not (is_initiator opener)) openers + 1) openers else openers

abbrev pub open_after : List BidiClass → BidiClass → List BidiClass
open_after openers RLE = RLE ∷ openers
open_after openers LRE = LRE ∷ openers
open_after openers RLO = RLO ∷ openers
open_after openers LRO = LRO ∷ openers
open_after openers RLI = RLI ∷ openers
open_after openers LRI = LRI ∷ openers
open_after openers PDF = close_embedding openers
open_after openers PDI = close_isolate openers
open_after openers class = openers

-- the open chain: the openers that are open before index k
abbrev pub open_chain : List BidiClass → ℕ → List BidiClass
open_chain classes k = fold open_after [] (take k classes)

-- X2 to X5b: whether an opener opens an odd level
abbrev pub opens_odd : BidiClass → Bool
opens_odd RLE = true
opens_odd RLO = true
opens_odd RLI = true
opens_odd class = false

-- the level that an opener opens: the least level above `level` that is odd or even, as `opens_odd` says
abbrev pub level_above : BidiClass → ℕ → ℕ
level_above opener level = if opens_odd opener then level + 1 + level % 2 else level + 2 - level % 2

-- the type that an override assigns to the characters inside it, or `None` for other openers
abbrev pub override_of : BidiClass → Option BidiClass
override_of RLO = Some R
override_of LRO = Some L
override_of opener = None

-- The state inside a chain of openers: the level and override of the innermost opener that does not overflow.
-- An opener overflows (`is_void`) if its level would be above 125, or if it is inside an opener that
-- overflows.
pub record Inside : Type 0 where
  pub level : ℕ
  pub override : Option BidiClass
  pub is_void : Bool

abbrev pub enter : Inside → BidiClass → Inside
enter outer opener =
    if outer.is_void || nat_lt 125 (level_above opener outer.level) then record outer { is_void = true }
    else record { level = level_above opener outer.level; override = override_of opener; is_void = false }

abbrev pub inside : ℕ → List BidiClass → Inside
inside base [] = record { level = base; override = None; is_void = false }
inside base (opener ∷ outer) = enter (inside base outer) opener

-- The state that applies to the character at k. A PDI is outside the openers that it closes.
abbrev pub inside_at : ℕ → List BidiClass → ℕ → Inside
inside_at base classes k = inside base (open_chain classes (if is_pdi (class_at classes k) then k + 1 else k))

-- the number of openers in a chain that do not overflow
abbrev pub depth : ℕ → List BidiClass → ℕ
depth base [] = 0
depth base (opener ∷ outer) = if (inside base (opener ∷ outer)).is_void then depth base outer else depth base outer + 1

-- The index of the innermost opener that is open before index k and does not overflow, or `None` if there is
-- none. It is the last index i such that fewer openers that do not overflow are open before i than before k.
abbrev pub opener_before : ℕ → List BidiClass → ℕ → Option ℕ
opener_before base classes k = greatest (λ i. nat_lt (depth base (open_chain classes i)) (depth base (open_chain classes k))) k

-- the index of the opener whose level and override apply to the character at k, or `None` if those of the
-- paragraph do
abbrev pub opener_at : ℕ → List BidiClass → ℕ → Option ℕ
opener_at base classes k = opener_before base classes (if is_pdi (class_at classes k) then k + 1 else k)

-- the opener at the given index, or the paragraph for `None`, has the level and override that apply to the
-- character at k
abbrev pub Applies : ℕ → List BidiClass → ℕ → Option ℕ → Type 0
Applies base classes k None = ((inside_at base classes k).level ≡ base) × ((inside_at base classes k).override ≡ None)
Applies base classes k (Some i) =
    ((inside base (open_chain classes (i + 1))).level ≡ (inside_at base classes k).level)
    × ((inside base (open_chain classes (i + 1))).override ≡ (inside_at base classes k).override)

-- the explicit level of the character at k, which is the paragraph level for a separator
abbrev pub level_at : ℕ → List BidiClass → ℕ → ℕ
level_at base classes k = if is_separator (class_at classes k) then base else (inside_at base classes k).level

-- the explicit type of the character at k; a separator keeps its type
abbrev pub type_at : ℕ → List BidiClass → ℕ → BidiClass
type_at base classes k =
    if is_separator (class_at classes k) then class_at classes k else unwrap_or (inside_at base classes k).override (class_at classes k)
