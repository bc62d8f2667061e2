use Rattle.std.proofs.Common.{◌≡◌, ◌+◌, ◌≤◌, ℕ, List, [], take, drop, get_or, length, Some, None, sym, ap, ap₂, ◌∙◌, arith}
use Rattle.std.specs.List.{concat, slice_range}
use Rattle.lines.specs.Engine.{filled_of, rules_of, written_of}
use Rattle.lines.specs.Layouts.{Rules, layout_of, with_advances}
use Rattle.session.specs.Kept.{pars_of}
use Rattle.session.specs.Measuring.{spliced}
use Rattle.session.proofs.MeasuringLemmas.{as_many, fills_all, made_more, read_fresh, read_some, read_text, rest_sizes, this_each, this_room, this_within}
use Rattle.session.proofs.measuring.remeasure_each.Goals as goal

pub collect-requires : goal.collect-requires
collect-requires g c =
    let items = g.S.ParagraphStore.items c.args.store.now in
    let size : c.chars.result ≡ length (get_or (pars_of items) c.loop-i.i []) = c.chars.ensures ∙ ap length (sym (read_text items c.loop-i.i c.in-Some.kept.now c.in-Some.ensures)) in
    omega (
      arith,
      size,
      this_within (with_advances (rules_of c.args.engine.now) None) c.args.width (pars_of items) (spliced c.args.list.now) c.args.first c.args.end c.loop-i.i c.loop-i.from c.loop-i.new.items
          (as_many items c.args.end c.requires.within) c.loop-i.invariant.made c.loop-i-test.true,
    )

pub remeasure-requires-clause-laid : goal.remeasure-requires-clause-laid
remeasure-requires-clause-laid g c =
    let items = g.S.ParagraphStore.items c.args.store.now in
    rw c.laid.ensures (read_fresh items c.loop-i.i c.in-Some.kept.now c.in-Some.ensures c.args.engine.now c.loop-i.engine c.loop-i.invariant.rules c.requires.fresh)

pub remeasure-requires-clause-len : goal.remeasure-requires-clause-len
remeasure-requires-clause-len g c =
    let items = g.S.ParagraphStore.items c.args.store.now in
    let read = read_text items c.loop-i.i c.in-Some.kept.now c.in-Some.ensures in
    let size : c.chars.result ≡ length (get_or (pars_of items) c.loop-i.i []) = c.chars.ensures ∙ ap length (sym read) in
    ap length (c.in_ok-advances-in-Some.ensures ∙ ap (λ n. take n (drop c.loop-i.from (spliced c.args.list.now))) size)
    ∙ this_each (with_advances (rules_of c.args.engine.now) None) c.args.width (pars_of items) (spliced c.args.list.now) c.args.first c.args.end c.loop-i.i c.loop-i.from c.loop-i.new.items
    (as_many items c.args.end c.requires.within) c.loop-i.invariant.made c.loop-i-test.true
    ∙ ap length read ∙ ap (λ l. length l.text) (sym c.laid.ensures)

pub remeasure-requires-clause-room : goal.remeasure-requires-clause-room
remeasure-requires-clause-room g c =
    let items = g.S.ParagraphStore.items c.args.store.now in
    let size : c.chars.result ≡ length (get_or (pars_of items) c.loop-i.i []) = c.chars.ensures ∙ ap length (sym (read_text items c.loop-i.i c.in-Some.kept.now c.in-Some.ensures)) in
    rw (c.in_ok-advances-in-Some.ensures ∙ ap (λ n. take n (drop c.loop-i.from (spliced c.args.list.now))) size)
    (this_room (with_advances (rules_of c.args.engine.now) None) c.args.width (pars_of items) (spliced c.args.list.now) c.args.first c.args.end c.loop-i.i c.loop-i.from c.loop-i.new.items
    (as_many items c.args.end c.requires.within) c.loop-i.invariant.made c.loop-i-test.true)

pub returns-in_err-laid-in-Some-clause-counts : goal.returns-in_err-laid-in-Some-clause-counts
returns-in_err-laid-in-Some-clause-counts g c =
    let items = g.S.ParagraphStore.items c.args.store.now in
    let read = read_text items c.loop-i.i c.in-Some.kept.now c.in-Some.ensures in
    let text : length c.laid.result.now.text ≡ length (get_or (pars_of items) c.loop-i.i []) = ap (λ l. length l.text) c.laid.ensures ∙ ap length (sym read) in
    let sizes = rest_sizes (pars_of items) c.loop-i.i c.args.end c.loop-i-test.true (as_many items c.args.end c.requires.within) in
    fills_all c.args.engine.now c.loop-i.engine c.remeasure.new.self (length c.laid.result.now.text) (length (concat (slice_range (pars_of items) (c.loop-i.i + 1) c.args.end)))
    (length (concat (slice_range (pars_of items) c.args.first c.args.end))) c.loop-i.invariant.analysed
    c.loop-i.invariant.filled (omega (arith, c.loop-i.invariant.filled_most, sizes, text)) c.loop-i.invariant.written (omega (arith, c.loop-i.invariant.written_most, sizes, text)) c.remeasure.ensures.at_most

pub returns-in_err-new-in-Some-clause-counts : goal.returns-in_err-new-in-Some-clause-counts
returns-in_err-new-in-Some-clause-counts g c =
    let items = g.S.ParagraphStore.items c.args.store.now in
    let read = read_text items c.loop-i.i c.in-Some.kept.now c.in-Some.ensures in
    let text : length c.laid.result.now.text ≡ length (get_or (pars_of items) c.loop-i.i []) = ap (λ l. length l.text) c.laid.ensures ∙ ap length (sym read) in
    let sizes = rest_sizes (pars_of items) c.loop-i.i c.args.end c.loop-i-test.true (as_many items c.args.end c.requires.within) in
    fills_all c.args.engine.now c.loop-i.engine c.remeasure.new.self (length c.laid.result.now.text) (length (concat (slice_range (pars_of items) (c.loop-i.i + 1) c.args.end)))
    (length (concat (slice_range (pars_of items) c.args.first c.args.end))) c.loop-i.invariant.analysed
    c.loop-i.invariant.filled (omega (arith, c.loop-i.invariant.filled_most, sizes, text)) c.loop-i.invariant.written (omega (arith, c.loop-i.invariant.written_most, sizes, text)) c.remeasure.ensures.at_most

pub returns-in_err-push-in-Some-clause-counts : goal.returns-in_err-push-in-Some-clause-counts
returns-in_err-push-in-Some-clause-counts g c =
    let items = g.S.ParagraphStore.items c.args.store.now in
    let read = read_text items c.loop-i.i c.in-Some.kept.now c.in-Some.ensures in
    let text : length c.laid.result.now.text ≡ length (get_or (pars_of items) c.loop-i.i []) = ap (λ l. length l.text) c.laid.ensures ∙ ap length (sym read) in
    let sizes = rest_sizes (pars_of items) c.loop-i.i c.args.end c.loop-i-test.true (as_many items c.args.end c.requires.within) in
    fills_all c.args.engine.now c.loop-i.engine c.remeasure.new.self (length c.laid.result.now.text) (length (concat (slice_range (pars_of items) (c.loop-i.i + 1) c.args.end)))
    (length (concat (slice_range (pars_of items) c.args.first c.args.end))) c.loop-i.invariant.analysed
    c.loop-i.invariant.filled (omega (arith, c.loop-i.invariant.filled_most, sizes, text)) c.loop-i.invariant.written (omega (arith, c.loop-i.invariant.written_most, sizes, text)) c.remeasure.ensures.at_most

pub overflow_add-from : goal.overflow_add-from
overflow_add-from g c =
    let items = g.S.ParagraphStore.items c.args.store.now in
    let size : c.chars-in-Some.result ≡ length (get_or (pars_of items) c.loop-i.i []) = c.chars-in-Some.ensures ∙ ap length (sym (read_text items c.loop-i.i c.in-Some.kept.now c.in-Some.ensures)) in
    omega (
      arith,
      size,
      c.requires.fits,
      this_within (with_advances (rules_of c.args.engine.now) None) c.args.width (pars_of items) (spliced c.args.list.now) c.args.first c.args.end c.loop-i.i c.loop-i.from c.loop-i.new.items
          (as_many items c.args.end c.requires.within) c.loop-i.invariant.made c.loop-i-test.true,
    )

pub unreachable-requires : goal.unreachable-requires
unreachable-requires g c =
    let items = g.S.ParagraphStore.items c.args.store.now in
    read_some items c.loop-i.i (omega (arith, c.loop-i-test.true, c.requires.within)) c.in-None.ensures

pub loop-i-preserved : goal.loop-i-preserved
loop-i-preserved g c =
    let items = g.S.ParagraphStore.items c.args.store.now in
    let by = with_advances (rules_of c.args.engine.now) None in
    let from = c.loop-i.from in
    let list = spliced c.args.list.now in
    let read = read_text items c.loop-i.i c.in-Some.kept.now c.in-Some.ensures in
    let text : length c.laid.result.now.text ≡ length (get_or (pars_of items) c.loop-i.i []) = ap (λ l. length l.text) c.laid.ensures ∙ ap length (sym read) in
    let size : c.chars.result ≡ length (get_or (pars_of items) c.loop-i.i []) = c.chars.ensures ∙ ap length (sym read) in
    let last : c.chars-in-Some.result ≡ length (get_or (pars_of items) c.loop-i.i []) = c.chars-in-Some.ensures ∙ ap length (sym read) in
    let sizes = rest_sizes (pars_of items) c.loop-i.i c.args.end c.loop-i-test.true (as_many items c.args.end c.requires.within) in
    let n = length c.laid.result.now.text in
    let rest = length (concat (slice_range (pars_of items) (c.loop-i.i + 1) c.args.end)) in
    let all = length (concat (slice_range (pars_of items) c.args.first c.args.end)) in
    let filled_most : filled_of c.loop-i.engine + (n + rest) ≤ filled_of c.args.engine.now + all = omega (arith, c.loop-i.invariant.filled_most, sizes, text) in
    let written_most : written_of c.loop-i.engine + (n + rest) ≤ written_of c.args.engine.now + all = omega (arith, c.loop-i.invariant.written_most, sizes, text) in
    let most = c.remeasure.ensures.at_most in
    let one : c.in_ok-new-in-Some.field-0 ≡ layout_of (with_advances by (Some (take (length (get_or (pars_of items) c.loop-i.i [])) (drop from list)))) c.args.width (get_or (pars_of items) c.loop-i.i []) =
    c.in_ok-new-in-Some.ensures ∙ c.in_ok-laid-in-Some.ensures.ok
    ∙ ap₂ (λ (r : Rules) (t : List ℕ). layout_of (with_advances r (Some c.in_ok-advances-in-Some.advances.items)) c.args.width t) c.loop-i.invariant.rules (ap (λ l. l.text) c.laid.ensures ∙ sym read)
    ∙ ap (λ (l : List ℕ). layout_of (with_advances by (Some l)) c.args.width (get_or (pars_of items) c.loop-i.i []))
    (c.in_ok-advances-in-Some.ensures ∙ ap (λ m. take m (drop from list)) size) in
    record {
      made = rw last (made_more by c.args.width (pars_of items) list c.args.first c.args.end c.loop-i.i from c.loop-i.new.items (as_many items c.args.end c.requires.within) c.loop-i.invariant.made c.loop-i-test.true
          _ _ one c.in_ok-push-in-Some.ensures.items);
      rules = c.remeasure.ensures.rules ∙ c.loop-i.invariant.rules;
      analysed = most.analysed ∙ c.loop-i.invariant.analysed;
      filled = omega (arith, c.loop-i.invariant.filled, most.filled.least);
      filled_most = omega (arith, filled_most, most.filled.most);
      written = omega (arith, c.loop-i.invariant.written, most.written.least);
      written_most = omega (arith, written_most, most.written.most);
    }
