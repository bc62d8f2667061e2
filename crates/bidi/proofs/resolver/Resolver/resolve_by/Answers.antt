use Rattle.std.proofs.Common.{◌≤◌, length, sym, ap, ◌∙◌}
use Rattle.std.proofs.lemmas.List.{length-map}
use Rattle.bidi.specs.Base.{base_level_of}
use Rattle.bidi.specs.BracketTypes.{type_by}
use Rattle.bidi.specs.Levels.{paragraph_levels}
use Rattle.bidi.specs.Paragraphs.{AreBracketsOf}
use Rattle.bidi.proofs.BracketTypeLemmas.{look_for, text_for, looked_up}
use Rattle.bidi.proofs.LengthLemmas.{base_level_of-low, length-paragraph_levels}
use Rattle.bidi.proofs.ResolverLemmas.{flat_levels, none_are}
use Rattle.bidi.proofs.resolver.Resolver.resolve_by.Goals as goal

pub resolve_classified-requires-clause-low : goal.resolve_classified-requires-clause-low
resolve_classified-requires-clause-low c = rw c.base_level_of-level.ensures (base_level_of-low c.args.classes.now c.args.base)

pub are_flat-requires : goal.are_flat-requires
are_flat-requires c = rw c.base_level_of-level.ensures (base_level_of-low c.args.classes.now c.args.base)

pub returns-then-are_flat-clause-levels : goal.returns-then-are_flat-clause-levels
returns-then-are_flat-clause-levels c look text are =
    let classes = c.args.classes.now in
    let low : c.base_level_of-level.result ≤ 1 = rw c.base_level_of-level.ensures (base_level_of-low classes c.args.base) in
    let flat = flat_levels look text classes c.base_level_of-level.result low (sym c.are_flat.ensures ∙ c.if-are_flat.true) in
    c.in_ok-put_base.ensures.ok ∙ sym flat ∙ ap (paragraph_levels look text classes) c.base_level_of-level.ensures

pub returns-clause-levels : goal.returns-clause-levels
returns-clause-levels c look text are =
    let classes = c.args.classes.now in
    let brackets = c.args.brackets.now in
    let these : AreBracketsOf (record { types = c.args.brackets; has_any = c.has_brackets.result }) (length classes) look text = record {
      size = sym (ap length are ∙ length-map text (λ b. type_by (look b) b)) ∙ c.requires;
      types = λ any. are;
      none = λ none. none_are look text brackets are (sym c.has_brackets.ensures ∙ none);
    } in
    c.in_ok-resolve_classified.ensures look text these ∙ ap (paragraph_levels look text classes) c.base_level_of-level.ensures

pub returns-clause-len : goal.returns-clause-len
returns-clause-len c =
    let classes = c.args.classes.now in
    let brackets = c.args.brackets.now in
    ap length (returns-clause-levels c (look_for brackets) (text_for brackets) (looked_up brackets))
    ∙ length-paragraph_levels (look_for brackets) (text_for brackets) classes (base_level_of classes c.args.base)
