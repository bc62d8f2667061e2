use Rattle.std.proofs.Common.{ap, sym, ◌∙◌, arith}
use Rattle.std.specs.Borrow.{Bor}
use Rattle.std.specs.List.{slice_range}
use Rattle.std.specs.Prelude.{option_map}
use Rattle.lines.specs.Layouts.{Layout}
use Rattle.session.specs.Kept.{lines_in}
use Rattle.session.proofs.BorderLemmas.{length-lines}
use Rattle.session.proofs.PairLemmas.{list_of_one, only_last_differs, pair_at_end, pair_at_start}
use Rattle.session.proofs.changed.same_ends.Goals as goal

pub returns-then-end-first-eq1-clause-start : goal.returns-then-end-first-eq1-clause-start
returns-then-end-first-eq1-clause-start g c = λ _ _.
    pair_at_start (g.S.ParagraphStore.items c.args.store.now) c.args.new.now c.args.first c.args.end c.ends_of_pair.result.start c.in-Some.kept.now c.index-new-0.result
    (sym (ap (option_map (λ (k : Bor Layout). k.now)) c.in-Some.is) ∙ c.get.ensures) (omega (arith, c.if-end-first-eq1.true)) (omega (arith, c.if-new-eq1.true)) c.index-new-0.is c.ends_of_pair.ensures.start

pub returns-then-end-first-eq1-clause-end : goal.returns-then-end-first-eq1-clause-end
returns-then-end-first-eq1-clause-end g c = λ _ _.
    pair_at_end (g.S.ParagraphStore.items c.args.store.now) c.args.new.now c.args.first c.args.end c.ends_of_pair.result.end c.in-Some.kept.now c.index-new-0.result
    (sym (ap (option_map (λ (k : Bor Layout). k.now)) c.in-Some.is) ∙ c.get.ensures) (omega (arith, c.if-end-first-eq1.true)) (omega (arith, c.if-new-eq1.true)) c.index-new-0.is c.ends_of_pair.ensures.end

pub ends_of_pair-requires : goal.ends_of_pair-requires
ends_of_pair-requires g c =
    c.requires.shared c.in-Some.kept.now c.index-new-0.result (sym (sym (ap (option_map (λ (k : Bor Layout). k.now)) c.in-Some.is) ∙ c.get.ensures)) (omega (arith, c.if-end-first-eq1.true))
    (list_of_one c.args.new.now c.index-new-0.result (omega (arith, c.if-new-eq1.true)) c.index-new-0.is)

pub returns-then-line_count-lines-clause-end : goal.returns-then-line_count-lines-clause-end
returns-then-line_count-lines-clause-end g c = λ old new.
    let mid = slice_range (g.S.ParagraphStore.items c.args.store.now) c.args.first c.args.end in
    only_last_differs (lines_in mid) (lines_in c.args.new.now) c.matching_at_start-start.result (c.matching_at_start-start.ensures old new)
    (omega (arith, c.requires.lines, c.if-line_count-lines.true, c.line_count.ensures, length-lines c.args.new.now))
    (omega (arith, c.requires.lines, c.if-start-lines.true, c.if-lines-start-eq1.true))
