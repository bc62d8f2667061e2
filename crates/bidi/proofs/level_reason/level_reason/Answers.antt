use Rattle.std.proofs.Common.{◌≡◌, ℕ, Option, None, get_or, length, if◌then◌else◌, ap, ap₂, ◌∙◌, arith}
use Rattle.std.proofs.lemmas.List.{get_or_default}
use Rattle.std.proofs.lemmas.List.FromFn.{get_or-map-range_with_len}
use Rattle.ucd.specs.declared.bidi_class.BidiClass.{BidiClass}
use Rattle.ucd.specs.declared.bidi_class.BidiClass.TheVariants.{L, ON}
use Rattle.ucd.specs.Classes.{class_at, is_removed}
use Rattle.bidi.specs.declared.explicit_steps.ExplicitStep.{ExplicitStep}
use Rattle.bidi.specs.declared.level_reason.LevelReason.{LevelReason}
use Rattle.bidi.specs.declared.level_reason.SequenceReason.{SequenceReason}
use Rattle.bidi.specs.Reasons.{explicit_step}
use Rattle.bidi.proofs.level_reason.level_reason.Goals as goal

abbrev made : BidiClass → ExplicitStep → Option ℕ → ℕ → Option SequenceReason → Option ℕ → LevelReason
made class explicit matching level resolved from = record {
  class = class;
  explicit = explicit;
  matching = matching;
  level = level;
  resolved = resolved;
  level_from = from;
}

abbrev past : ExplicitStep
past = record { level = 0; class = L; overriding = None; opener = None }

pub returns : goal.returns
returns c classes base sequences parts own =
    let acting = c.args.parts.now.classes.now in
    let p = c.args.p in
    let level = get_or c.args.parts.now.levels.now p 0 in
    let explicit : get_or c.args.parts.now.explicit.now p past ≡ explicit_step base acting p =
    ap (λ l. get_or l p past) parts.explicit_are ∙ get_or-map-range_with_len (explicit_step base acting) 0 (length acting) p p past c.requires.within (omega arith) in
    let from = c.level_from.ensures ∙ ap (λ k. if is_removed k then c.args.before else None) (get_or_default acting p L ON c.requires.within)
    ∙ ap (λ b. if is_removed (class_at acting p) then b else None) c.requires.before in
    ap₂ (λ k e. made k e c.matching.result level c.resolved_at.result c.level_from.result) own explicit
    ∙ ap₂ (λ m r. made (class_at classes p) (explicit_step base acting p) m level r c.level_from.result) (c.matching.ensures base sequences parts) (c.resolved_at.ensures base sequences parts)
    ∙ ap (made (class_at classes p) (explicit_step base acting p) _ level _) from
