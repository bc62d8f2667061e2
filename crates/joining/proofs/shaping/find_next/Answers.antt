use Rattle.std.proofs.Common.{◌+◌, List, None, ap, arith, cond, drop, ◌∙◌}
use Rattle.joining.specs.Joiners.{joins_after}
use Rattle.joining.specs.declared.joiner.Agreement.TheVariants.{All}
use Rattle.joining.specs.declared.joiner.Joiner.{Joiner}
use Rattle.joining.proofs.JoinLemmas.{joined_in, next_from}
use Rattle.joining.proofs.shaping.find_next.Goals as goal

pub loop-k-init : goal.loop-k-init
loop-k-init g c =
    let text : List Joiner = g.J.Joiners.all c.args.text.now in
    let first : Joiner = c.joiner_at-first.result in
    record {
      between = λ m from to. absurd (omega (arith, from, to));
      joined = ap (λ may. cond may (joined_in All first.level (c.args.at + 1) (drop (c.args.at + 1) text)) None) c.joins_after-may_join.ensures
          ∙ ap (λ (x : Joiner). cond (joins_after x) (joined_in All x.level (c.args.at + 1) (drop (c.args.at + 1) text)) None) c.joiner_at-first.ensures
          ∙ next_from All text c.args.at c.requires;
    }
