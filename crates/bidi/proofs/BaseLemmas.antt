-- One step of the search for the first strong character outside all isolates.
use Rattle.std.proofs.Common.{◌≡◌, ℕ, ◌+◌, ◌-◌, ◌<◌, true, List, length, map, get_or, Option, Some, None, is_some, if◌then◌else◌, sym, ap, ◌∙◌, inl, inr}
use Rattle.std.proofs.lemmas.Bool.{cond-true, cond-false, cases_Bool}
use Rattle.std.proofs.lemmas.List.{get_or-map}
use Rattle.ucd.specs.declared.bidi_class.BidiClass.{BidiClass}
use Rattle.ucd.specs.declared.bidi_class.BidiClass.TheVariants.{ON}
use Rattle.ucd.specs.declared.tables.Tables.{Tables}
use Rattle.ucd.specs.Tables.{class_of}
use Rattle.ucd.specs.Classes.{class_at, is_initiator, is_pdi, is_strong}
use Rattle.bidi.specs.Base.{strong_level, first_strong_level}
use Rattle.bidi.proofs.IsolateLemmas.{Reached, Reached-next, Reached-strong}

-- a class has a strong level if and only if it is strong
pub is_some-level : (class : BidiClass) (level : Option ℕ) → level ≡ (if is_strong class then Some (strong_level class) else None) → is_some level ≡ is_strong class
is_some-level class level e =
    elim (cases_Bool (is_strong class)) [
      | inl strong ↦ ap is_some (e ∙ cond-true (is_strong class) (Some (strong_level class)) None strong) ∙ sym strong
      | inr weak ↦ ap is_some (e ∙ cond-false (is_strong class) (Some (strong_level class)) None weak) ∙ sym weak
    ]

-- if the search reaches a strong character at depth 0, the level of that character is the first strong level
pub settled : (classes : List BidiClass) (k d : ℕ) (class : BidiClass) (level : Option ℕ) → k < length classes → Reached classes k d → d ≡ 0
    → class ≡ class_at classes k → level ≡ (if is_strong class then Some (strong_level class) else None) → is_some level ≡ true → level ≡ first_strong_level classes
settled classes k d class level within reached flat there e some =
    let strong : is_strong class ≡ true = sym (is_some-level class level e) ∙ some in
    e ∙ cond-true (is_strong class) (Some (strong_level class)) None strong ∙ ap (λ x. Some (strong_level x)) there
    ∙ sym (Reached-strong classes k within (rw flat at reached) (rw there at strong))

-- if the character at k is not strong or is inside an isolate, the search continues at k + 1
pub stepped : (classes : List BidiClass) (k d : ℕ) (class : BidiClass) (depth : ℕ) → k < length classes → Reached classes k d → (is_strong class ≡ true → 0 < d)
    → class ≡ class_at classes k → depth ≡ (if is_initiator class then d + 1 else (if is_pdi class then d - 1 else d)) → Reached classes (k + 1) depth
stepped classes k d class depth within reached deep there e =
    rw (e, there) (Reached-next classes k d within reached (rw there at deep))

-- if c is the character at index k, its class is the item at k of the list of classes
pub class_decoded : (tables : Tables) (text : List ℕ) (k c : ℕ) → (k < length text) × (c ≡ get_or text k c) → class_of tables c ≡ class_at (map (class_of tables) text) k
class_decoded tables text k c decoded =
    ap (class_of tables) decoded.1 ∙ sym (get_or-map (class_of tables) text k c ON decoded.0)
