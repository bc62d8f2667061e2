-- Bounds of base levels, and the number of levels of a paragraph.
use Rattle.std.proofs.Common.{◌≡◌, ℕ, suc, ◌≤◌, List, [], ◌∷◌, length, map, slice_index, Option, Some, None, unwrap_or, option_map, refl, ap, ◌∙◌, inl, inr, arith}
use Rattle.std.proofs.lemmas.Bool.{cases_Bool, cond-false, cond-true}
use Rattle.std.proofs.lemmas.List.{length-map}
use Rattle.std.proofs.lemmas.List.FromFn.{length-map-range_with_len}
use Rattle.ucd.specs.Tables.{class_of, bracket_of}
use Rattle.ucd.specs.declared.bracket.Bracket.{Bracket}
use Rattle.ucd.specs.declared.tables.Tables.{Tables}
use Rattle.ucd.specs.declared.bidi_class.BidiClass.{BidiClass}
use Rattle.ucd.specs.declared.bidi_class.BidiClass.TheVariants.{L}
use Rattle.bidi.specs.declared.base.Base.{Base}
use Rattle.bidi.specs.declared.base.Base.TheVariants.{Rtl, Ltr, WeakRtl, WeakLtr}
use Rattle.bidi.specs.Base.{base_level_of, first_strong, strong_level}
use Rattle.ucd.specs.Classes.{class_at}
use Rattle.bidi.specs.Explicit.{directed, directed_at, level_at, type_at}
use Rattle.bidi.specs.Levels.{levels_of, paragraph_levels, put_back, resolved}
use Rattle.ucd.specs.Classes.{is_removed}
use Rattle.bidi.specs.Sequences.{retained}

-- a strong level is 0 or 1
strong_level-low : (class : BidiClass) → strong_level class ≤ 1
strong_level-low L = omega arith
strong_level-low _ = omega arith

weak_level-low : (classes : List BidiClass) (place : Option ℕ) (other : ℕ) → other ≤ 1 → unwrap_or (option_map (λ k. strong_level (class_at classes k)) place) other ≤ 1
weak_level-low classes None other low = low
weak_level-low classes (Some k) other low = strong_level-low (class_at classes k)

pub base_level_of-low : (classes : List BidiClass) (base : Base) → base_level_of classes base ≤ 1
base_level_of-low classes Rtl = omega arith
base_level_of-low classes Ltr = omega arith
base_level_of-low classes WeakRtl = weak_level-low classes (first_strong classes) 1 (omega arith)
base_level_of-low classes WeakLtr = weak_level-low classes (first_strong classes) 0 (omega arith)

-- replacing each FSI does not change the number of classes
pub length-directed : (classes : List BidiClass) → length (directed classes) ≡ length classes
length-directed classes = length-map-range_with_len (λ k. directed_at classes k (class_at classes k)) 0 (length classes)

-- putting back the characters that X9 removed results in a level for each class
length-put_back : (before : ℕ) (classes : List BidiClass) (levels : List ℕ) → length (put_back before classes levels) ≡ length classes
length-put_back before [] levels = refl
length-put_back before (class ∷ classes) [] = ap suc (length-put_back before classes [])
length-put_back before (class ∷ classes) (level ∷ levels) =
    elim (cases_Bool (is_removed class)) [
      | inl removed ↦ ap length (cond-true (is_removed class) (before ∷ put_back before classes (level ∷ levels)) (level ∷ put_back level classes levels) removed)
          ∙ ap suc (length-put_back before classes (level ∷ levels))
      | inr stays ↦ ap length (cond-false (is_removed class) (before ∷ put_back before classes (level ∷ levels)) (level ∷ put_back level classes levels) stays)
          ∙ ap suc (length-put_back level classes levels)
    ]

-- a paragraph has a level for each class
pub length-paragraph_levels : (look : ℕ → Option Bracket) (text : List ℕ) (all : List BidiClass) (level : ℕ) → length (paragraph_levels look text all level) ≡ length all
length-paragraph_levels look text all level =
    let classes = directed all in
    let places = retained classes in
    length-put_back level classes (resolved look level (map (slice_index text) places)
    (map (class_at classes) places) (map (level_at level classes) places) (map (type_at level classes) places))
    ∙ length-directed all

pub length-levels_of : (tables : Tables) (text : List ℕ) (base : Base) → length (levels_of tables text base) ≡ length text
length-levels_of tables text base =
    let classes = map (class_of tables) text in
    length-paragraph_levels (bracket_of tables) text classes (base_level_of classes base) ∙ length-map text (class_of tables)
