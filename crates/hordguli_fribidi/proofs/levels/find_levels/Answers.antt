use Rattle.std.proofs.Common.{length, map, ap, ◌∙◌}
use Rattle.bidi.specs.Base.{base_level_of}
use Rattle.bidi.specs.Levels.{paragraph_levels}
use Rattle.hordguli_fribidi.specs.Levels.{brackets_of, levels_before}
use Rattle.hordguli_fribidi.specs.Types.{bracket_by, class_of}
use Rattle.hordguli_fribidi.proofs.levels.find_levels.Goals as goal

pub returns-clause-levels : goal.returns-clause-levels
unfolding levels_before
returns-clause-levels c =
    let text = brackets_of (length c.args.types.now) c.args.brackets.now in
    c.in_ok-level.ensures.levels bracket_by text (c.deref-2.ensures.value ∙ c.in_ok-brackets.ensures.brackets)
    ∙ ap (λ classes. paragraph_levels bracket_by text classes (base_level_of classes c.base_of-base.result)) (c.deref.ensures.value ∙ c.in_ok-classes.ensures.classes)
    ∙ ap (λ base. paragraph_levels bracket_by text (map class_of c.args.types.now) (base_level_of (map class_of c.args.types.now) base)) c.base_of-base.ensures
