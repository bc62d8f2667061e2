use Rattle.std.proofs.Common.{◌≡◌, length, map, take, sym, ap, ◌∙◌}
use Rattle.std.specs.List.{list_any}
use Rattle.std.proofs.lemmas.List.{length-map}
use Rattle.ucd.specs.Properties.{properties_of}
use Rattle.ucd.specs.Tables.{bracket_of}
use Rattle.bidi.specs.BracketTypes.{type_by}
use Rattle.ucd.specs.Classes.{class_in}
use Rattle.bidi.specs.Levels.{paragraph_levels}
use Rattle.bidi.specs.Paragraphs.{AreBracketsOf}
use Rattle.bidi.specs.Plain.{has_bracket_in}
use Rattle.bidi.proofs.BracketTypeLemmas.{ok_then}
use Rattle.bidi.proofs.ResolverLemmas.{no_brackets}
use Rattle.bidi.proofs.resolver.Resolver.resolve_raised.Goals as goal

pub resolve_classified-requires-clause-brackets : goal.resolve_classified-requires-clause-brackets
resolve_classified-requires-clause-brackets c = λ any.
    let tables = c.args.tables.now in
    let text = c.args.text.now in
    let are : c.args.properties.now ≡ map (properties_of tables) text = c.requires.properties in
    ap length (c.deref.ensures.value ∙ c.in_ok-fill_any_brackets.ensures any) ∙ length-map text (λ b. type_by (bracket_of tables b) b)
    ∙ sym (ap length (ap (take (length c.args.properties.now)) c.deref-2.ensures.value ∙ c.in_ok-summary.ensures.classes) ∙ length-map c.args.properties.now class_in ∙ ap length are ∙ length-map text (properties_of tables))

pub returns : goal.returns
returns c = ok_then c.resolve_classified.result c.resolve_classified.ensures (λ all.
    let tables = c.args.tables.now in
    let text = c.args.text.now in
    let are : c.args.properties.now ≡ map (properties_of tables) text = c.requires.properties in
    let known = take (length c.args.properties.now) c.deref-2.result.now in
    let classes : known ≡ map class_in c.args.properties.now = ap (take (length c.args.properties.now)) c.deref-2.ensures.value ∙ c.in_ok-summary.ensures.classes in
    let these : AreBracketsOf (record { types = c.deref.result; has_any = c.in_ok-summary.summary.has_brackets }) (length known) (bracket_of tables) text = record {
      size = sym (ap length classes ∙ length-map c.args.properties.now class_in ∙ ap length are ∙ length-map text (properties_of tables));
      types = λ any. c.deref.ensures.value ∙ c.in_ok-fill_any_brackets.ensures any;
      none = λ none. no_brackets tables text (ap (list_any has_bracket_in) (sym are) ∙ sym c.in_ok-summary.ensures.brackets ∙ none);
    } in
    all (bracket_of tables) text these ∙ ap (λ cs. paragraph_levels (bracket_of tables) text cs c.args.base) classes)
