-- The marks in the reasons are the marks of the paragraph.
use Rattle.std.proofs.Common.{◌≡◌, ℕ, Bool, List, [], ◌∷◌, ◌++◌, Option, length, map, refl, ap, ap₂, ◌∙◌, append_assoc, arith}
use Rattle.std.proofs.lemmas.List.{map-append}
use Rattle.ucd.specs.declared.line_class.LineClass.{LineClass}
use Rattle.ucd.specs.declared.tables.Tables.{Tables}
use Rattle.breaks.specs.Bases.{BaseCharacter, Character, bases_of, character, class_of}
use Rattle.breaks.specs.Marks.{marks_after, marks_of}
use Rattle.breaks.specs.Reasons.{chars_in, names, reason_at, reasons_after, reasons_inside, reasons_of, start_of}
use Rattle.breaks.specs.Rules.{Rule, mark_by, rules, without_spaces}
use Rattle.breaks.specs.declared.line_rule.LineRule.{LineRule}
use Rattle.breaks.specs.declared.mark.Mark.{Mark}
use Rattle.breaks.specs.declared.mark.Mark.TheVariants.{Never}
use Rattle.breaks.specs.declared.reason.Reason.{Reason}

abbrev mark_in : Reason → Mark
mark_in reason = reason.mark

marks_inside : (start : ℕ) (class : LineClass) (behind : Option ℕ) (c : Character) (attached : List Character)
    → map mark_in (reasons_inside start class behind c attached) ≡ map (λ _. Never) attached
marks_inside start class behind c [] = refl
marks_inside start class behind c (d ∷ attached) = ap (λ (l : List Mark). Never ∷ l) (marks_inside start class behind d attached)

marks_after_bases : (names : List LineRule) (rules : List Rule) (before bases : List BaseCharacter)
    → map mark_in (reasons_after names rules before bases) ≡ marks_after rules before bases
marks_after_bases names rules before [] = refl
marks_after_bases names rules before (b ∷ after) =
    let inside : List Reason = reasons_inside (chars_in before) (class_of b) (start_of (without_spaces (b ∷ before))) b.first b.attached in
    let last : List Reason = reason_at names rules b before after ∷ [] in
    let mark : List Mark = mark_by rules (b ∷ before) after ∷ [] in
    map-append mark_in (inside ++ last) (reasons_after names rules (b ∷ before) after)
    ∙ ap₂ (λ (x y : List Mark). x ++ y)
    (map-append mark_in inside last ∙ ap (λ (l : List Mark). l ++ mark) (marks_inside (chars_in before) (class_of b) (start_of (without_spaces (b ∷ before))) b.first b.attached))
    (marks_after_bases names rules (b ∷ before) after)
    ∙ append_assoc (map (λ _. Never) b.attached) mark (marks_after rules (b ∷ before) after)

pub marks_of_reasons : (tables : Tables) (whole_numbers : Bool) (text : List ℕ) → map mark_in (reasons_of tables whole_numbers text) ≡ marks_of tables whole_numbers text
unfolding marks_of reasons_of
marks_of_reasons tables whole_numbers text =
    marks_after_bases (names tables.version whole_numbers) (rules tables.version whole_numbers) [] (bases_of (map (character tables) text))

pub no_reasons : (tables : Tables) (whole_numbers : Bool) (text : List ℕ) → length text ≡ 0 → reasons_of tables whole_numbers text ≡ []
unfolding reasons_of
no_reasons tables whole_numbers [] none = refl
no_reasons tables whole_numbers (c ∷ text) none = absurd (omega (arith, none))

pub no_marks : (tables : Tables) (whole_numbers : Bool) (text : List ℕ) → length text ≡ 0 → marks_of tables whole_numbers text ≡ []
unfolding marks_of
no_marks tables whole_numbers [] none = refl
no_marks tables whole_numbers (c ∷ text) none = absurd (omega (arith, none))
