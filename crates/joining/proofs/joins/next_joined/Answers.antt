use Rattle.std.proofs.Common.{◌+◌, List, drop, ap, ◌∙◌, sym}
use Rattle.joining.specs.Joiners.{joins_after}
use Rattle.joining.specs.declared.joiner.Joiner.{Joiner}
use Rattle.joining.proofs.JoinLemmas.{joined_in, next_is, next_none}
use Rattle.joining.proofs.joins.next_joined.Goals as goal

pub returns-then-not-joins_after-clause-joined : goal.returns-then-not-joins_after-clause-joined
returns-then-not-joins_after-clause-joined g c =
    let text : List Joiner = g.J.Joiners.all c.args.text.now in
    sym (next_none c.args.by text c.args.at c.requires (ap joins_after (sym c.joiner_at-first.ensures) ∙ sym c.joins_after.ensures ∙ c.if-not-joins_after.true))

pub loop-k-init : goal.loop-k-init
loop-k-init g c =
    let text : List Joiner = g.J.Joiners.all c.args.text.now in
    ap (λ (first : Joiner). joined_in c.args.by first.level (c.args.at + 1) (drop (c.args.at + 1) text)) c.joiner_at-first.ensures
    ∙ next_is c.args.by text c.args.at c.requires (ap joins_after (sym c.joiner_at-first.ensures) ∙ sym c.joins_after.ensures ∙ c.if-not-joins_after.false)
