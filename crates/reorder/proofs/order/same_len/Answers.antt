use Rattle.std.proofs.Common.{ap, ◌∙◌}
use Rattle.reorder.specs.Lanes.{first_set}
use Rattle.reorder.proofs.LaneLemmas.{same_len_is}
use Rattle.reorder.proofs.order.same_len.Goals as goal

pub returns-clause-most : goal.returns-clause-most
returns-clause-most c = (same_len_is c.args.levels.now c.args.level c.args.start _ c.requires (c.first_set.ensures ∙ ap (λ b. first_set b 16) c.others.ensures)).0

pub returns-clause-same : goal.returns-clause-same
returns-clause-same c = (same_len_is c.args.levels.now c.args.level c.args.start _ c.requires (c.first_set.ensures ∙ ap (λ b. first_set b 16) c.others.ensures)).1

pub returns-clause-stops : goal.returns-clause-stops
returns-clause-stops c = (same_len_is c.args.levels.now c.args.level c.args.start _ c.requires (c.first_set.ensures ∙ ap (λ b. first_set b 16) c.others.ensures)).2
