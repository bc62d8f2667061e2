use Rattle.std.proofs.Common.{◌∙◌, ℕ, ◌<◌, List, length, refl, sym, subst, arith}
use Rattle.std.proofs.lemmas.List.{get_or_default}
use Rattle.std.proofs.lemmas.List.Elements.{AllWithin-more}
use Rattle.lines.specs.SameKind.{AreOfOneKind}
use Rattle.lines.proofs.same_kind.are_of_kind.Goals as goal
use Rattle.lines.proofs.same_kind.are_of_kind.Goals.{else-text-k-via-then-text-k+else-not-are_alike, else-text-k-via-else-text-k}

pub loop-k-preserved : goal.loop-k-preserved
loop-k-preserved c =
    let text : List ℕ = c.args.text.now in
    let within : c.loop-k.k < length text = omega (arith, c.loop-k-test.true, c.loop-k.auto.k-end) in
    let item = c.index-text-k.result in
    let kind : AreOfOneKind c.args.tables.now c.args.c item = elim c.else-text-k.branch [
      | else-text-k-via-then-text-k+else-not-are_alike w ↦ subst (AreOfOneKind c.args.tables.now c.args.c) (w.index-text-k-then-text-k.is ∙ get_or_default text c.loop-k.k w.index-text-k-then-text-k.result item within ∙ sym c.index-text-k.is) (w.if-not-are_alike.ensures.yes refl)
      | else-text-k-via-else-text-k w ↦ subst (AreOfOneKind c.args.tables.now c.args.c) (sym w.if-text-k.false) c.requires
    ] in
    AllWithin-more (AreOfOneKind c.args.tables.now c.args.c) text 0 c.loop-k.k c.loop-k.invariant
    (λ d. subst (AreOfOneKind c.args.tables.now c.args.c) (c.index-text-k.is ∙ get_or_default text c.loop-k.k item d within) kind)
