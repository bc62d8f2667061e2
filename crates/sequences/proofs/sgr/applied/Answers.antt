use Rattle.std.proofs.Common.{ap, ◌<◌, ◌∙◌, length, rules}
use Rattle.sequences.specs.Looks.{applied_after, taken}
use Rattle.sequences.specs.Parts.{fields_after, parameters_after}
use Rattle.sequences.proofs.LookLemmas.{apply_parameter, skip_parameter}
use Rattle.sequences.proofs.sgr.applied.Goals as goal

pub loop-rest-preserved-then-skip-gt0 : goal.loop-rest-preserved-then-skip-gt0
loop-rest-preserved-then-skip-gt0 c =
    let some : 0 < length c.loop-rest.rest.now = search rules in
    skip_parameter c.loop-rest.skip c.loop-rest.look _ _ c.if-skip-gt0.true some c.split_parameter.ensures.rest ∙ c.loop-rest.invariant

pub loop-rest-preserved : goal.loop-rest-preserved
loop-rest-preserved c =
    let some : 0 < length c.loop-rest.rest.now = search rules in
    let following = parameters_after c.split_parameter.result.1.now in
    ap (λ n. applied_after n c.changed-look.result following) c.taken-skip.ensures
    ∙ ap (λ look. applied_after (taken (fields_after c.split_parameter.result.0.now) following) look following) c.changed-look.ensures
    ∙ apply_parameter c.loop-rest.skip c.loop-rest.look _ _ _ c.if-skip-gt0.false some c.split_parameter.ensures.first c.split_parameter.ensures.rest
    ∙ c.loop-rest.invariant
