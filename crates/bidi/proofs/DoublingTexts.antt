-- The levels of a text with two characters of one kind next to each other.
use Rattle.std.proofs.Common.{◌≡◌, ℕ, zero, suc, ◌<◌, true, List, [], ◌∷◌, ◌++◌, length, map, slice_index, Option, refl, sym, ap, ◌∙◌, inl, inr, arith}
use Rattle.ucd.specs.Tables.{class_of, bracket_of}
use Rattle.ucd.specs.declared.bidi_class.BidiClass.{BidiClass}
use Rattle.ucd.specs.declared.bracket.Bracket.{Bracket}
use Rattle.ucd.specs.declared.tables.Tables.{Tables}
use Rattle.ucd.specs.Classes.{class_at}
use Rattle.bidi.specs.declared.base.Base.{Base}
use Rattle.bidi.specs.Base.{base_level_of}
use Rattle.bidi.specs.Doubling.{AreOfOneKind, DoublingKeepsLevels, double, can_be_doubled}
use Rattle.bidi.specs.Levels.{levels_of, paragraph_levels}
use Rattle.bidi.proofs.DoublingCharacters.{AreAlike, IsAlike, paragraph-alike}
use Rattle.bidi.proofs.DoublingExplicit.{repeat-inner}
use Rattle.bidi.proofs.DoublingIsolates.{base-double}
use Rattle.bidi.proofs.DoublingLevels.{paragraph-double}

-- inserting a second c after `before` repeats the character at index `length before`
text-double : (before after : List ℕ) (c : ℕ) → before ++ c ∷ c ∷ after ≡ double (length before) (before ++ c ∷ after)
text-double [] after c = refl
text-double (b ∷ before) after c = ap (λ text. b ∷ text) (text-double before after c)

character-at : (before after : List ℕ) (c : ℕ) → slice_index (before ++ c ∷ after) (length before) ≡ c
character-at [] after c = refl
character-at (b ∷ before) after c = character-at before after c

module _ (class : ℕ → BidiClass) where
  classes-double : (before after : List ℕ) (c d : ℕ) → class c ≡ class d → map class (before ++ c ∷ d ∷ after) ≡ double (length before) (map class (before ++ c ∷ after))
  classes-double [] after c d same = ap (λ type. class c ∷ type ∷ map class after) (sym same)
  classes-double (b ∷ before) after c d same = ap (λ classes. class b ∷ classes) (classes-double before after c d same)

  classes-same : (before after : List ℕ) (c d : ℕ) → class c ≡ class d → map class (before ++ d ∷ after) ≡ map class (before ++ c ∷ after)
  classes-same [] after c d same = ap (λ type. type ∷ map class after) (sym same)
  classes-same (b ∷ before) after c d same = ap (λ classes. class b ∷ classes) (classes-same before after c d same)

  class-here : (before after : List ℕ) (c : ℕ) → class_at (map class (before ++ c ∷ after)) (length before) ≡ class c
  class-here [] after c = refl
  class-here (b ∷ before) after c = class-here before after c

  within : (before after : List ℕ) (c : ℕ) → length before < length (map class (before ++ c ∷ after))
  within [] after c = omega arith
  within (b ∷ before) after c = let rest = within before after c in omega (arith, rest)

module _ (look : ℕ → Option Bracket) (c d : ℕ) (alike : IsAlike look d c) where
  alike-after : (before after : List ℕ) → AreAlike look (before ++ c ∷ d ∷ after) (before ++ c ∷ c ∷ after)
  alike-after [] after zero = inl refl
  alike-after [] after (suc zero) = alike
  alike-after [] after (suc (suc i)) = inl refl
  alike-after (b ∷ before) after zero = inl refl
  alike-after (b ∷ before) after (suc i) = alike-after before after i

  alike-here : (before after : List ℕ) → AreAlike look (before ++ d ∷ after) (before ++ c ∷ after)
  alike-here [] after zero = alike
  alike-here [] after (suc i) = inl refl
  alike-here (b ∷ before) after zero = inl refl
  alike-here (b ∷ before) after (suc i) = alike-here before after i

module _ (tables : Tables) (before after : List ℕ) (base : Base) where
  replaced : (c d : ℕ) → AreOfOneKind tables c d → levels_of tables (before ++ d ∷ after) base ≡ levels_of tables (before ++ c ∷ after) base
  replaced c d kind =
      let classes = map (class_of tables) (before ++ c ∷ after) in
      ap (λ cs. paragraph_levels (bracket_of tables) (before ++ d ∷ after) cs (base_level_of cs base)) (classes-same (class_of tables) before after c d kind.class)
      ∙ paragraph-alike (bracket_of tables) (before ++ d ∷ after) (before ++ c ∷ after) (alike-here (bracket_of tables) c d (inr (kind.second, kind.first)) before after) classes (base_level_of classes base)

  module _ (c d : ℕ) (kind : AreOfOneKind tables c d) (is : can_be_doubled (class_of tables c) ≡ true) where
    here-is : can_be_doubled (class_at (map (class_of tables) (before ++ c ∷ after)) (length before)) ≡ true
    here-is = ap can_be_doubled (class-here (class_of tables) before after c) ∙ is

    base_level : base_level_of (map (class_of tables) (before ++ c ∷ d ∷ after)) base ≡ base_level_of (map (class_of tables) (before ++ c ∷ after)) base
    base_level =
        let classes = map (class_of tables) (before ++ c ∷ after) in
        ap (λ cs. base_level_of cs base) (classes-double (class_of tables) before after c d kind.class)
        ∙ base-double classes (length before) base (repeat-inner (class_at classes (length before)) here-is)

    inserted_after : levels_of tables (before ++ c ∷ d ∷ after) base ≡ double (length before) (levels_of tables (before ++ c ∷ after) base)
    inserted_after =
        let k = length before in
        let look = bracket_of tables in
        let classes = map (class_of tables) (before ++ c ∷ after) in
        let level = base_level_of classes base in
        ap (paragraph_levels look (before ++ c ∷ d ∷ after) (map (class_of tables) (before ++ c ∷ d ∷ after))) base_level
        ∙ ap (λ cs. paragraph_levels look (before ++ c ∷ d ∷ after) cs level) (classes-double (class_of tables) before after c d kind.class)
        ∙ paragraph-alike look (before ++ c ∷ d ∷ after) (before ++ c ∷ c ∷ after) (alike-after look c d (inr (kind.second, kind.first)) before after) (double k classes) level
        ∙ ap (λ text. paragraph_levels look text (double k classes) level) (text-double before after c)
        ∙ paragraph-double look (before ++ c ∷ after) classes level k (within (class_of tables) before after c) here-is (ap look (character-at before after c) ∙ kind.first)

turned : (tables : Tables) (c d : ℕ) → AreOfOneKind tables c d → AreOfOneKind tables d c
turned tables c d kind = record { class = sym kind.class; first = kind.second; second = kind.first }

pub doubling_keeps_levels : DoublingKeepsLevels
doubling_keeps_levels = record {
  replaced = λ tables before after c d base kind. replaced tables before after base c d kind;
  inserted_after = λ tables before after c d base kind is. inserted_after tables before after base c d kind is;
  inserted_before = λ tables before after c d base kind is.
      inserted_after tables before after base d c (turned tables c d kind) (ap can_be_doubled (sym kind.class) ∙ is)
      ∙ ap (double (length before)) (replaced tables before after base c d kind);
  base_level = λ tables before after c d base kind is. base_level tables before after base c d kind is;
}
