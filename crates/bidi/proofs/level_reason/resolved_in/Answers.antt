use Rattle.std.proofs.Common.{◌≡◌, suc, ◌-◌, ◌∷◌, length, map, drop, None, replicate, sym, ap, ap₂, ◌∙◌, rules, arith}
use Rattle.std.specs.List.{range_with_len}
use Rattle.std.proofs.lemmas.List.{with_items_is}
use Rattle.std.proofs.Math.Seq.{drop-cons, drop-length}
use Rattle.bidi.specs.LevelReasons.{resolved_in}
use Rattle.bidi.specs.Reasons.{sequence_of}
use Rattle.bidi.proofs.LevelReasonLemmas.{none_resolved, reasons_filled}
use Rattle.bidi.proofs.level_reason.resolved_in.Goals as goal

pub loop-k-init : goal.loop-k-init
loop-k-init c =
    let empty : c.in_ok-list.list.items ≡ replicate (length c.args.kept.now) None = c.in_ok-list.ensures.items_if_clones_equal (λ y clone. search rules) in
    empty ∙ none_resolved c.args.kept.now (length c.args.kept.now)
    ∙ ap (λ later. map (resolved_in c.args.kept.now (map sequence_of later)) (range_with_len 0 (length c.args.kept.now))) (sym (drop-length c.args.sequences.now))

pub loop-k-preserved : goal.loop-k-preserved
loop-k-preserved c =
    let kept = c.args.kept.now in
    let k = c.loop-k.k - 1 in
    let sequence = c.index-sequences-k.result in
    let rest = drop c.loop-k.k c.args.sequences.now in
    let next : suc k ≡ c.loop-k.k = omega arith in
    let front : drop k c.args.sequences.now ≡ sequence ∷ rest = drop-cons c.args.sequences.now k sequence (omega arith)
    ∙ ap₂ (λ s n. s ∷ drop n c.args.sequences.now) (sym c.index-sequences-k.is) next in
    let new = c.put_reasons.new.list in
    with_items_is c.loop-k.list new (c.put_reasons.auto.list ∙ c.deref_mut.ensures.len)
    ∙ reasons_filled kept (sequence_of sequence) (map sequence_of rest) c.loop-k.list.items new c.loop-k.invariant
    (rw c.deref.ensures.value at (rw c.deref_mut.ensures.value at c.put_reasons.ensures))
    ∙ ap (λ later. map (resolved_in kept (map sequence_of later)) (range_with_len 0 (length kept))) (sym front)
