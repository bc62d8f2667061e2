-- A LineBreak.txt of Unicode 15.0 assigns no class of a later version to any character.
use Rattle.std.proofs.Common.{◌≡◌, ℕ, nat_lt, ◌==◌, ◌&&◌, not, Bool, true, false, List, [], ◌∷◌, length, Option, Some, None, Result, Ok, Err, unwrap_or, option_map, refl, if◌then◌else◌}
use Rattle.std.specs.List.{find, list_all}
use Rattle.std.specs.Str.{bytes_eq}
use Rattle.std.specs.Char.{is_ascii}
use lib.Utf8.{scalar}
use Rattle.ucd.specs.Entries.{covers}
use Rattle.ucd.specs.Files.{given, given_by, or_else, value_in}
use Rattle.ucd.specs.Grammar.{Form, by_value, by_points, by_fields, reading_of, content_of, before_comment, fields_of, points_of}
use Rattle.ucd.specs.LineClasses.{classes_15, name_of}
use Rattle.ucd.specs.Versions.{class_named_in, line_class_form, line_class_in}
use Rattle.ucd.specs.declared.fault.Cause.{Cause}
use Rattle.ucd.specs.declared.grammar.Entry.{Entry}
use Rattle.ucd.specs.declared.line_class.LineClass.{LineClass}
use Rattle.ucd.specs.declared.line_class.LineClass.TheVariants.{XX}
use Rattle.ucd.specs.declared.version.Version.{Version}
use Rattle.ucd.specs.declared.version.Version.TheVariants.{V15_0, V17_0}

-- if `P` holds for every value that the form can parse, `P` holds for every value in a file
module _ {V : Type 0} (P : V → Type 0) where
  abbrev Each : List V → Type 0
  Each [] = Unit {0}
  Each (v ∷ vs) = P v × Each vs

  abbrev OfSome : Option V → Type 0
  OfSome None = Unit {0}
  OfSome (Some v) = P v

  abbrev OfValue : Option (Option V) → Type 0
  OfValue None = Unit {0}
  OfValue (Some o) = OfSome o

  abbrev OfReading : Result (Option (Entry V)) Cause → Type 0
  OfReading (Ok None) = Unit {0}
  OfReading (Ok (Some e)) = P e.value
  OfReading (Err why) = Unit {0}

  if_some : (b : Bool) (x y : Option V) → OfSome x → OfSome y → OfSome (if b then x else y)
  if_some true x y one other = one
  if_some false x y one other = other

  if_reading : (b : Bool) (x y : Result (Option (Entry V)) Cause) → OfReading x → OfReading y → OfReading (if b then x else y)
  if_reading true x y one other = one
  if_reading false x y one other = other

  found_of : (p : V → Bool) (vs : List V) → Each vs → OfSome (find p vs)
  found_of p [] all = tt
  found_of p (v ∷ vs) (here, later) = if_some (p v) (Some v) (find p vs) here (found_of p vs later)

  module _ (form : Form V) where
    value_of : (first last : ℕ) (o : Option (Option V)) → OfValue o → OfReading (by_value form first last o)
    value_of first last None is = tt
    value_of first last (Some None) is = tt
    value_of first last (Some (Some v)) is = is

    points_give : (points : Option (ℕ × ℕ)) (o : Option (Option V)) → OfValue o → OfReading (by_points form points o)
    points_give None o is = tt
    points_give (Some (first, last)) o is = if_reading (nat_lt last first) _ _ tt (value_of first last o is)

    given_of : (r : Result (Option (Entry V)) Cause) (c : ℕ) → OfReading r → OfSome (given_by form r c)
    given_of (Ok None) c is = tt
    given_of (Ok (Some e)) c is = if_some (scalar c && covers e c) (Some e.value) None is tt
    given_of (Err why) c is = tt

    either_of : (x y : Option V) → OfSome x → OfSome y → OfSome (or_else form x y)
    either_of None y one other = other
    either_of (Some v) y one other = one

    module _ (all : (s t : List ℕ) → OfValue (form.value s t)) where
      fields_give : (fields : List (List ℕ)) → OfReading (by_fields form fields)
      fields_give [] = tt
      fields_give (x ∷ []) = tt
      fields_give (x ∷ y ∷ []) = if_reading form.has_third _ _ tt (points_give (points_of form.has_ranges x) (form.value y []) (all y []))
      fields_give (x ∷ y ∷ z ∷ []) = if_reading form.has_third _ _ (points_give (points_of form.has_ranges x) (form.value y z) (all y z)) tt
      fields_give (x ∷ y ∷ z ∷ u ∷ more) = tt

      line_gives : (line : List ℕ) → OfReading (reading_of form line)
      line_gives line =
          if_reading (not (list_all is_ascii (before_comment line))) _ _ tt
          (if_reading (length (content_of line) == 0) _ _ tt (fields_give (fields_of (content_of line))))

      file_gives : (lines : List (List ℕ)) (c : ℕ) → OfSome (value_in form lines c)
      file_gives [] c = tt
      file_gives (line ∷ lines) c =
          either_of (given form line c) (value_in form lines c) (given_of (reading_of form line) c (line_gives line)) (file_gives lines c)

-- the class exists in the version
abbrev Fits : Version → LineClass → Type 0
Fits version class = line_class_in version class ≡ class

all_fit : Each (Fits V15_0) classes_15
all_fit = (refl, (refl, (refl, (refl, (refl, (refl, (refl, (refl, (refl, (refl, (refl, (refl, (refl, (refl, (refl, (refl, (refl, (refl, (refl, (refl, (refl, (refl, (refl, (refl, (refl, (refl, (refl, (refl, (refl, (refl, (refl, (refl, (refl, (refl, (refl, (refl, (refl, (refl, (refl, (refl, (refl, (refl, (refl, tt)))))))))))))))))))))))))))))))))))))))))))

some_of : (P : LineClass → Type 0) (o : Option LineClass) → OfSome P o → OfValue P (option_map Some o)
some_of P None is = tt
some_of P (Some class) is = is

any_fits : (o : Option LineClass) → OfSome (Fits V17_0) o
any_fits None = tt
any_fits (Some class) = refl

named_fits : (version : Version) (name : List ℕ) → OfSome (Fits version) (class_named_in version name)
named_fits V15_0 name = found_of (Fits V15_0) (λ c. bytes_eq (name_of c) name) classes_15 all_fit
named_fits V17_0 name = any_fits (class_named_in V17_0 name)

default_fits : (version : Version) → Fits version XX
default_fits V15_0 = refl
default_fits V17_0 = refl

or_default : (version : Version) (o : Option LineClass) → OfSome (Fits version) o → Fits version (unwrap_or o XX)
or_default version None is = default_fits version
or_default version (Some class) is = is

pub file_fits : (version : Version) (lines : List (List ℕ)) (c : ℕ) → line_class_in version (unwrap_or (value_in (line_class_form version) lines c) XX) ≡ unwrap_or (value_in (line_class_form version) lines c) XX
file_fits version lines c = or_default version (value_in (line_class_form version) lines c)
    (file_gives (Fits version) (line_class_form version) (λ s t. some_of (Fits version) (class_named_in version s) (named_fits version s)) lines c)
