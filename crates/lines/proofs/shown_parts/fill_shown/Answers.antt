use Rattle.std.proofs.Common.{◌≡◌, ◌∙◌, ◌<◌, ◌++◌, ℕ, List, [], ◌∷◌, length, slice_index, take, ap, ap₂, sym, arith}
use Rattle.std.proofs.Math.Seq.{take-append_seam}
use Rattle.std.proofs.lemmas.List.{take_all}
use Rattle.lines.specs.CharInfos.{sized}
use Rattle.lines.specs.Extents.{in_pairs, shown_between, shown_from}
use Rattle.lines.specs.Visual.{end_of}
use Rattle.lines.proofs.ExtentLemmas.{pairs_more}
use Rattle.lines.proofs.ShowLemmas.{length-shown_from, shown_at}
use Rattle.lines.proofs.shown_parts.fill_shown.Goals as goal

pub loop-k-preserved : goal.loop-k-preserved
loop-k-preserved g c =
    let n = length c.args.infos.now in
    let infos = sized (g.S.Sizes.given c.args.sizes) c.args.infos.now in
    let starts = c.args.items.now.items in
    let part = c.shown_at-shown.result in
    let parts = shown_from c.args.margin n infos starts in
    let below : c.loop-k.k < length starts = omega (arith, c.loop-k.invariant.count, c.loop-k-test.true) in
    let count : length parts ≡ length starts = length-shown_from c.args.margin n infos starts in
    let front : take c.len-count.result c.deref.result.now ≡ starts =
    ap₂ take c.loop-k.invariant.count (c.deref.ensures.value ∙ c.loop-k.invariant.items) ∙ take-append_seam starts _ in
    let is = c.shown_at-shown.ensures ∙ ap (λ (ss : List ℕ). shown_between c.args.margin infos (slice_index ss c.loop-k.k) (end_of n ss c.loop-k.k)) front
    ∙ sym (shown_at c.args.margin n infos starts c.loop-k.k part below) in
    record {
      count = c.loop-k.invariant.count;
      items = pairs_more starts c.loop-k.items.items _ parts c.loop-k.k part (omega (arith, below, count)) is c.loop-k.invariant.items
          (c.in_ok-push-2.ensures.items ∙ ap (λ (xs : List ℕ). xs ++ part.columns ∷ []) c.in_ok-push.ensures.items);
    }

pub returns : goal.returns
returns g c =
    let n = length c.args.infos.now in
    let infos = sized (g.S.Sizes.given c.args.sizes) c.args.infos.now in
    let starts = c.args.items.now.items in
    let parts = shown_from c.args.margin n infos starts in
    c.loop-k.invariant.items ∙ ap (λ (ps : List _). starts ++ in_pairs ps)
    (take_all c.loop-k.k parts (omega (arith, length-shown_from c.args.margin n infos starts, c.loop-k.invariant.count, c.loop-k-test.false)))
