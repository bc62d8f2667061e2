use Rattle.std.proofs.Common.{◌≡◌, ◌<◌, Bool, true, false, not, refl, ◌&&◌, ◌||◌, ◌∷◌, [], ◌++◌, length, map, get_or, take, sym, ap, ◌∙◌, arith}
use Rattle.std.specs.List.{list_all, list_any}
use Rattle.std.proofs.lemmas.List.{map-append, take_all, take_more, take_more_set}
use Rattle.std.proofs.lemmas.List.Folds.{list_all-map, list_all_more, list_any_more}
use Rattle.ucd.specs.Classes.{class_in}
use Rattle.bidi.specs.Plain.{has_bracket_in, is_plain}
use Rattle.bidi.proofs.resolver.put_each.Goals as goal

not-either : (a b : Bool) → (not a && not b) ≡ not (a || b)
not-either true b = refl
not-either false b = refl

not-not : (a : Bool) → not (not a) ≡ a
not-not true = refl
not-not false = refl

pub loop-at-preserved : goal.loop-at-preserved
loop-at-preserved c =
    let at = c.loop-at.at in
    let properties = c.args.properties.now in
    let one = c.index-properties-at.result in
    let within : at < length properties = c.loop-at-test.true in
    let class = c.bidi_class-class.result in
    let is : one ≡ get_or properties at one = c.index-properties-at.is in
    record {
      classes = take_more_set c.loop-at.classes at class (omega (arith, c.requires))
          ∙ ap (λ xs. xs ++ class ∷ []) c.loop-at.invariant.classes
          ∙ ap (λ x. map class_in (take at properties) ++ x ∷ []) (c.bidi_class-class.ensures ∙ ap class_in is)
          ∙ sym (map-append class_in (take at properties) (get_or properties at one ∷ []))
          ∙ ap (map class_in) (sym (take_more properties at one within));
      plain = ap (λ b. b && c.is_plain-all_plain.result) c.loop-at.invariant.plain
          ∙ ap (λ b. list_all (λ one. is_plain (class_in one)) (take at properties) && b) (c.is_plain-all_plain.ensures ∙ ap is_plain (c.bidi_class-class.ensures ∙ ap class_in is))
          ∙ sym (list_all_more (λ one. is_plain (class_in one)) properties at one within);
      brackets = ap (λ b. b && not c.has_bracket.result) c.loop-at.invariant.brackets
          ∙ ap (λ b. not (list_any has_bracket_in (take at properties)) && not b) (c.has_bracket.ensures ∙ ap has_bracket_in is)
          ∙ not-either (list_any has_bracket_in (take at properties)) (has_bracket_in (get_or properties at one))
          ∙ ap not (sym (list_any_more has_bracket_in properties at one within));
    }

pub returns : goal.returns
returns c =
    let at = c.loop-at.at in
    let properties = c.args.properties.now in
    let all : take at properties ≡ properties = take_all at properties c.loop-at-test.false in
    record {
      classes = sym (take_all at c.loop-at.classes (omega (arith, c.loop-at.auto.classes, c.requires, c.loop-at-test.false))) ∙ c.loop-at.invariant.classes ∙ ap (map class_in) all;
      plain = c.loop-at.invariant.plain ∙ ap (list_all (λ one. is_plain (class_in one))) all ∙ sym (list_all-map is_plain class_in properties);
      brackets = ap not c.loop-at.invariant.brackets ∙ not-not (list_any has_bracket_in (take at properties)) ∙ ap (list_any has_bracket_in) all;
    }
