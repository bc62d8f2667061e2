-- The properties of a text's characters, as the resolver reads them from the tables.
use Rattle.std.proofs.Common.{◌≡◌, ℕ, zero, suc, ◌<◌, ◌≤◌, arith, Bool, true, false, List, [], ◌∷◌, length, get_or, map, replicate, Option, Some, None, is_some, refl, sym, ap, ◌∙◌, inl, inr}
use Rattle.std.specs.List.{All, list_all, list_any}
use Rattle.std.proofs.lemmas.Bool.{cases_Bool, cond-true, cond-false, both_ways}
use Rattle.std.proofs.lemmas.List.{get_or-map, length-map}
use Rattle.std.proofs.lemmas.List.Folds.{list_all-map, list_all_at, list_any_at}
use Rattle.ucd.specs.Properties.{properties_of}
use Rattle.ucd.specs.Tables.{bracket_of, class_of}
use Rattle.ucd.specs.declared.bidi_class.BidiClass.{BidiClass}
use Rattle.ucd.specs.declared.bracket.Bracket.{Bracket}
use Rattle.ucd.specs.declared.properties.Properties.{Properties}
use Rattle.ucd.specs.declared.tables.Tables.{Tables}
use Rattle.bidi.specs.declared.base.Base.{Base}
use Rattle.bidi.specs.declared.bracket_type.BracketType.{BracketType}
use Rattle.bidi.specs.declared.bracket_type.BracketType.TheVariants.{Other, Opening, Closing}
use Rattle.bidi.specs.Base.{base_level_of}
use Rattle.bidi.specs.BracketTypes.{bracket_types, is_bracket, type_by}
use Rattle.ucd.specs.Classes.{class_in}
use Rattle.bidi.specs.Levels.{levels_of, paragraph_levels}
use Rattle.bidi.specs.Plain.{has_bracket_in, is_flat, is_flat_at, is_flat_rtl}
use Rattle.bidi.proofs.FlatLemmas.{same_levels}

pub all_from : {X : Type 0} (p : X → Bool) (xs : List X) → list_all p xs ≡ true → All (λ x. p x ≡ true) xs
all_from p xs e k d within =
    elim (cases_Bool (p (get_or xs k d))) [
      | inl passes ↦ passes
      | inr fails ↦ absurd (both_ways (list_all p xs) (list_all_at p xs k d within fails) e)
    ]

pub classes_are : (tables : Tables) (text : List ℕ) → map class_in (map (properties_of tables) text) ≡ map (class_of tables) text
classes_are tables [] = refl
classes_are tables (c ∷ text) = ap (λ xs. class_of tables c ∷ xs) (classes_are tables text)

is_none-from : (bracket : Option Bracket) → is_some bracket ≡ false → bracket ≡ None
is_none-from None e = refl
is_none-from (Some bracket) e = absurd (cc)

pub no_brackets : (tables : Tables) (text : List ℕ) → list_any has_bracket_in (map (properties_of tables) text) ≡ false → All (λ c. bracket_of tables c ≡ None) text
no_brackets tables text none k d within =
    let properties = map (properties_of tables) text in
    let there : k < length properties = rw length-map within in
    is_none-from (bracket_of tables (get_or text k d)) (
    elim (cases_Bool (is_some (bracket_of tables (get_or text k d)))) [
      | inl found ↦ absurd (both_ways (list_any has_bracket_in properties) none (list_any_at has_bracket_in properties k (properties_of tables 0) there
          (ap has_bracket_in (get_or-map (properties_of tables) text k d (properties_of tables 0) within) ∙ found)))
      | inr free ↦ free
    ])

-- a character without the bracket property has the bracket type `Other`
pub no_bracket_at : (tables : Tables) (text : List ℕ) (properties : List Properties) (k : ℕ) (e : Properties) → properties ≡ map (properties_of tables) text
    → k < length text → has_bracket_in (get_or properties k e) ≡ false → get_or (bracket_types (bracket_of tables) text) k Other ≡ Other
no_bracket_at tables text properties k e are within none =
    let c = get_or text k 0 in
    let there : is_some (bracket_of tables c) ≡ false =
    sym (ap has_bracket_in (ap (λ xs. get_or xs k e) are ∙ get_or-map (properties_of tables) text k 0 e within)) ∙ none in
    get_or-map (λ b. type_by (bracket_of tables b) b) text k 0 Other within ∙ ap (λ o. type_by o c) (is_none-from (bracket_of tables c) there)

-- if all bracket types of a text are `Other`, no character of the text is a bracket
is_none-by : (bracket : Option Bracket) (c : ℕ) → is_bracket (type_by bracket c) ≡ false → bracket ≡ None
is_none-by None c e = refl
is_none-by (Some bracket) c e =
    elim (cases_Bool bracket.opens) [
      | inl opens ↦ let f = sym (ap is_bracket (cond-true bracket.opens (Opening bracket.pair) (Closing c) opens)) ∙ e in absurd (cc)
      | inr closes ↦ let f = sym (ap is_bracket (cond-false bracket.opens (Opening bracket.pair) (Closing c) closes)) ∙ e in absurd (cc)
    ]

none-by : (look : ℕ → Option Bracket) (text : List ℕ) → list_any is_bracket (bracket_types look text) ≡ false → All (λ c. look c ≡ None) text
none-by look text none k d within =
    let f : ℕ → BracketType = λ c. type_by (look c) c in
    let brackets = bracket_types look text in
    let there : k < length brackets = rw length-map within in
    is_none-by (look (get_or text k d)) (get_or text k d) (
    elim (cases_Bool (is_bracket (f (get_or text k d)))) [
      | inl found ↦ absurd (both_ways (list_any is_bracket brackets) none (list_any_at is_bracket brackets k Other there (ap is_bracket (get_or-map f text k d Other within) ∙ found)))
      | inr free ↦ free
    ])

pub none_are : (look : ℕ → Option Bracket) (text : List ℕ) (brackets : List BracketType) → brackets ≡ bracket_types look text
    → list_any is_bracket brackets ≡ false → All (λ c. look c ≡ None) text
none_are look text brackets are none = none-by look text (ap (list_any is_bracket) (sym are) ∙ none)

-- if no character raises a level above the paragraph level, all levels equal the paragraph level
pub flat_levels : (look : ℕ → Option Bracket) (text : List ℕ) (classes : List BidiClass) (level : ℕ) → level ≤ 1 → list_all (is_flat_at level) classes ≡ true
    → paragraph_levels look text classes level ≡ replicate (length classes) level
flat_levels look text classes zero low flat = same_levels true look text classes (all_from is_flat classes flat)
flat_levels look text classes (suc zero) low flat = same_levels false look text classes (all_from is_flat_rtl classes flat)
flat_levels look text classes (suc (suc level)) low flat = absurd (omega arith)

module _ (tables : Tables) (text : List ℕ) (properties : List Properties) (base : Base) (level : ℕ) (are : properties ≡ map (properties_of tables) text)
    (is : level ≡ base_level_of (map class_in properties) base) where
  classes : map class_in properties ≡ map (class_of tables) text
  classes = ap (map class_in) are ∙ classes_are tables text

  pub level-is : level ≡ base_level_of (map (class_of tables) text) base
  level-is = is ∙ ap (λ cs. base_level_of cs base) classes

  pub raised-are : (levels : List ℕ) → levels ≡ paragraph_levels (bracket_of tables) text (map class_in properties) level → levels ≡ levels_of tables text base
  raised-are levels e =
      e ∙ ap (λ cs. paragraph_levels (bracket_of tables) text cs level) classes ∙ ap (paragraph_levels (bracket_of tables) text (map (class_of tables) text)) level-is

  pub flat-are : (levels : List ℕ) → levels ≡ replicate (length properties) level → level ≤ 1 → list_all (λ one. is_flat_at level (class_in one)) properties ≡ true → levels ≡ levels_of tables text base
  flat-are levels e low flat =
      let all : list_all (is_flat_at level) (map (class_of tables) text) ≡ true = ap (list_all (is_flat_at level)) (sym classes) ∙ list_all-map (is_flat_at level) class_in properties ∙ flat in
      let size : length properties ≡ length (map (class_of tables) text) = sym (length-map properties class_in) ∙ ap length classes in
      e ∙ ap (λ n. replicate n level) size
      ∙ sym (flat_levels (bracket_of tables) text (map (class_of tables) text) level low all)
      ∙ ap (paragraph_levels (bracket_of tables) text (map (class_of tables) text)) level-is
