use Rattle.std.proofs.Common.{◌≡◌, List, map, ap, ap₂, ◌∙◌}
use Rattle.ucd.specs.Tables.{bracket_of, class_of}
use Rattle.ucd.specs.declared.bidi_class.BidiClass.{BidiClass}
use Rattle.bidi.specs.Base.{base_level_of}
use Rattle.bidi.specs.BracketTypes.{bracket_types}
use Rattle.bidi.specs.Explicit.{directed}
use Rattle.bidi.specs.Isolates.{matches_of}
use Rattle.bidi.specs.Reasons.{explicit_steps, sequences_by}
use Rattle.bidi.specs.Sequences.{retained}
use Rattle.bidi.proofs.paragraph_reasons.reasons.Goals as goal

pub returns : goal.returns
returns c =
    let tables = c.args.tables.now in
    let text = c.args.text.now in
    let base = c.args.base in
    let classes : List BidiClass = map (class_of tables) text in
    let found : c.deref-2.result.now ≡ classes = c.deref-2.ensures.value ∙ c.in_ok-classes.ensures in
    let level : c.base_level_of-level.result ≡ base_level_of classes base =
    c.base_level_of-level.ensures ∙ ap (λ cs. base_level_of cs base) (c.deref.ensures.value ∙ c.in_ok-classes.ensures) in
    let kinds : c.deref-3.result.now ≡ bracket_types (bracket_of tables) text = c.deref-3.ensures.value ∙ c.in_ok-kinds.ensures in
    let made = c.in_ok-reasons.ensures in
    record {
      classes_are = made.classes ∙ ap directed found;
      matches_are = made.matches ∙ ap (λ cs. matches_of (directed cs)) found;
      explicit_are = made.explicit ∙ ap₂ (λ l cs. explicit_steps l (directed cs)) level found;
      kept_are = made.kept ∙ ap (λ cs. retained (directed cs)) found;
      sequences_are = made.sequences (bracket_of tables) text kinds ∙ ap₂ (λ l cs. sequences_by (bracket_of tables) text (directed cs) l) level found;
      levels_are = made.levels ∙ c.in_ok-levels.ensures.levels;
    }
