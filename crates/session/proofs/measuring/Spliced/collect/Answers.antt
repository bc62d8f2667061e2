use Rattle.std.proofs.Common.{List, [], ◌∷◌, ◌++◌, sym, ap₂, ◌∙◌, ℕ}
use Rattle.session.specs.Measuring.{spliced}
use Rattle.session.proofs.MeasuringLemmas.{part_more}
use Rattle.session.proofs.measuring.Spliced.collect.Goals as goal

pub loop-k-preserved : goal.loop-k-preserved
loop-k-preserved c =
    c.in_ok-push.ensures.items
    ∙ ap₂ (λ (xs : List ℕ) (x : ℕ). xs ++ x ∷ []) c.loop-k.invariant c.get.ensures
    ∙ sym (part_more (spliced c.args.self.now) c.args.from c.args.len c.requires c.loop-k.k c.loop-k-test.true)
