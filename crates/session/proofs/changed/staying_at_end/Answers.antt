use Rattle.std.proofs.Common.{◌-◌, length, map, ap, refl, sym, ◌∙◌, arith, inl, inr}
use Rattle.std.specs.Borrow.{Bor}
use Rattle.std.specs.Prelude.{option_map}
use Rattle.std.proofs.lemmas.Option.{slice_get_cases}
use Rattle.lines.specs.Layouts.{Layout}
use Rattle.session.specs.Matching.{at_width}
use Rattle.session.proofs.ChangedLemmas.{end_begins, end_ends}
use Rattle.session.proofs.PairLemmas.{all_parts, parts_number, stays_fit_end, stays_found_end, stays_goes_on_end}
use Rattle.session.proofs.changed.staying_at_end.Goals as goal

pub loop-i-init : goal.loop-i-init
loop-i-init g c = λ rules width brought. end_begins _ _

pub overflow_add-count : goal.overflow_add-count
overflow_add-count g c =
    let ks = g.S.ParagraphStore.items c.args.store.now in
    let most = stays_fit_end c.requires.0 c.requires.1 ks c.args.parts.now c.requires.2 (length c.args.parts.now - c.loop-i.i - 1) c.loop-i.i c.loop-i.count (omega (arith, c.loop-i-test.true)) c.in-Some.kept.now c.index-parts-at.result c.staying_end-matching.result
    (sym (ap (option_map (λ (k : Bor Layout). k.now)) c.in-Some.is) ∙ c.get.ensures) c.index-parts-at.is (c.loop-i.invariant c.requires.0 c.requires.1 c.requires.2) refl c.loop-i-test.true c.staying_end-matching.ensures in
    omega (arith, most, c.total_lines-total.ensures)

pub loop-i-preserved : goal.loop-i-preserved
loop-i-preserved g c = λ rules width brought.
    let ks = g.S.ParagraphStore.items c.args.store.now in
    stays_goes_on_end rules width ks c.args.parts.now brought (length c.args.parts.now - c.loop-i.i - 1) c.loop-i.i c.loop-i.count (omega (arith, c.loop-i-test.true)) c.in-Some.kept.now c.index-parts-at.result c.staying_end-matching.result
    (sym (ap (option_map (λ (k : Bor Layout). k.now)) c.in-Some.is) ∙ c.get.ensures) c.index-parts-at.is (c.loop-i.invariant rules width brought) refl c.loop-i-test.true c.staying_end-matching.ensures c.if-not-matching.false

pub returns-then-not-matching : goal.returns-then-not-matching
returns-then-not-matching g c = λ rules width brought.
    let ks = g.S.ParagraphStore.items c.args.store.now in
    stays_found_end rules width ks c.args.parts.now brought (length c.args.parts.now - c.loop-i.i - 1) c.loop-i.i c.loop-i.count (omega (arith, c.loop-i-test.true)) c.in-Some.kept.now c.index-parts-at.result c.staying_end-matching.result
    (sym (ap (option_map (λ (k : Bor Layout). k.now)) c.in-Some.is) ∙ c.get.ensures) c.index-parts-at.is (c.loop-i.invariant rules width brought) refl c.loop-i-test.true c.staying_end-matching.ensures c.if-not-matching.true

pub returns : goal.returns
returns g c = λ rules width brought _ _.
    let ks = g.S.ParagraphStore.items c.args.store.now in
    end_ends ks (map (at_width rules width) ks) c.loop-i.i c.loop-i.count (all_parts rules width ks c.args.parts.now brought c.loop-i.i c.loop-i-test.false) (c.loop-i.invariant rules width brought)

pub unreachable-requires : goal.unreachable-requires
unreachable-requires g c =
    let ks = g.S.ParagraphStore.items c.args.store.now in
    let size = parts_number c.requires.0 c.requires.1 ks c.args.parts.now c.requires.2 in
    let none = sym (ap (option_map (λ (k : Bor Layout). k.now)) c.in_default.is) ∙ c.get.ensures in
    elim (slice_get_cases ks (length c.args.parts.now - c.loop-i.i - 1)).1 [
      | inl found ↦ absurd (cc (none ∙ found.2))
      | inr past ↦ absurd (omega (arith, past.0, size, c.loop-i-test.true))
    ]
