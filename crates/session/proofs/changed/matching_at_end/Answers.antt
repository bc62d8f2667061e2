use Rattle.std.proofs.Common.{ap, sym, ◌∙◌, arith}
use Rattle.std.specs.Borrow.{Bor}
use Rattle.std.specs.List.{slice_range}
use Rattle.std.specs.Prelude.{option_map}
use Rattle.lines.specs.Layouts.{Layout}
use Rattle.session.proofs.ChangedLemmas.{end_begins, end_ends}
use Rattle.session.proofs.PairLemmas.{all_compared, fits_end, found_end, goes_on_end}
use Rattle.session.proofs.changed.matching_at_end.Goals as goal

pub loop-i-init : goal.loop-i-init
loop-i-init g c = end_begins _ _

pub overflow_add-count : goal.overflow_add-count
overflow_add-count g c =
    let ks = g.S.ParagraphStore.items c.args.store.now in
    let most = fits_end ks c.args.new.now c.args.first c.args.end c.loop-i.i c.loop-i.count c.requires.order c.requires.within (omega (arith, c.loop-i-test.true, c.min-i-end.ensures)) (omega (arith, c.loop-i-test.true, c.min-i-end.ensures))
    c.in-Some.kept.now c.index-new-new.result c.end_of_pair-matching.result c.loop-i.invariant (sym (ap (option_map (λ (k : Bor Layout). k.now)) c.in-Some.is) ∙ c.get.ensures) c.index-new-new.is c.end_of_pair-matching.ensures in
    omega (arith, most, c.total_lines-total.ensures)

pub loop-i-preserved : goal.loop-i-preserved
loop-i-preserved g c =
    let ks = g.S.ParagraphStore.items c.args.store.now in
    goes_on_end ks c.args.new.now c.args.first c.args.end c.loop-i.i c.loop-i.count c.requires.order c.requires.within (omega (arith, c.loop-i-test.true, c.min-i-end.ensures)) (omega (arith, c.loop-i-test.true, c.min-i-end.ensures))
    c.in-Some.kept.now c.index-new-new.result c.end_of_pair-matching.result c.loop-i.invariant (sym (ap (option_map (λ (k : Bor Layout). k.now)) c.in-Some.is) ∙ c.get.ensures) c.index-new-new.is c.end_of_pair-matching.ensures
    c.if-not-matching.false

pub returns-then-not-matching : goal.returns-then-not-matching
returns-then-not-matching g c =
    let ks = g.S.ParagraphStore.items c.args.store.now in
    found_end ks c.args.new.now c.args.first c.args.end c.loop-i.i c.loop-i.count c.requires.order c.requires.within (omega (arith, c.loop-i-test.true, c.min-i-end.ensures)) (omega (arith, c.loop-i-test.true, c.min-i-end.ensures))
    c.in-Some.kept.now c.index-new-new.result c.end_of_pair-matching.result c.loop-i.invariant (sym (ap (option_map (λ (k : Bor Layout). k.now)) c.in-Some.is) ∙ c.get.ensures) c.index-new-new.is c.end_of_pair-matching.ensures
    c.if-not-matching.true

pub returns : goal.returns
returns g c = λ _ _.
    let ks = g.S.ParagraphStore.items c.args.store.now in
    end_ends (slice_range ks c.args.first c.args.end) c.args.new.now c.loop-i.i c.loop-i.count
    (all_compared ks c.args.new.now c.args.first c.args.end c.loop-i.i c.min-i-end.result c.requires.order c.requires.within c.loop-i-test.false c.min-i-end.ensures) c.loop-i.invariant
