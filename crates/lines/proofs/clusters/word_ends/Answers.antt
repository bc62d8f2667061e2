use Rattle.std.proofs.Common.{◌≡◌, ◌++◌, length, append-nil, sym, ap, ap₂, ◌∙◌, arith}
use Rattle.std.proofs.lemmas.Bool.Decides.{nat_tests}
use Rattle.std.specs.List.{flat_map}
use Rattle.unicode_segmentation.specs.Iter.{word_bounds_left}
use Rattle.lines.proofs.ClusterLemmas.{ends_of_words, length-word_ends, no_words, spelled}
use Rattle.lines.specs.Clusters.{ends_of}
use Rattle.lines.specs.Words.{word_ends}
use Rattle.lines.proofs.clusters.word_ends.Goals as goal

-- an empty text has no word boundaries
pub returns-then-is_empty-clause-ends : goal.returns-then-is_empty-clause-ends
returns-then-is_empty-clause-ends c =
    let none : length c.args.text.now ≡ 0 = grind (arith, nat_tests, c.is_empty.ensures, c.if-is_empty.true) in
    c.new.ensures.items ∙ sym (no_words c.args.text.now none)

-- before the loop, all segments of the text remain
pub loop-word-init : goal.loop-word-init
loop-word-init c =
    let all = spelled c.args.text.now c.deref.result.now (c.deref.ensures ∙ c.in_ok-spell.ensures) c.deref.utf8 in
    ap₂ ◌++◌ c.in_ok-ends.ensures.items (ap (flat_map ends_of) (ap word_bounds_left c.into_iter-word-iterator.ensures.into_iter_gives ∙ c.split_word_bounds-word-items.ensures.left))
    ∙ ends_of_words c.deref.result.now c.deref.utf8 ∙ ap word_ends all

-- after the loop, no segment remains
pub returns : goal.returns
returns c =
    let ends = c.loop-word.ends.items in
    let all = sym (append-nil ends) ∙ ap (λ pieces. ends ++ flat_map ends_of pieces) (sym c.in-None.ensures.steps.0) ∙ c.loop-word.invariant in
    record { ends = all; len = ap length all ∙ length-word_ends c.args.text.now; memory = tt }
