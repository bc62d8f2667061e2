use Rattle.std.proofs.Common.{◌≡◌, ◌^◌, [], nat_lt, sum, take, drop, get_or, length, sym, ap, ◌∙◌, arith}
use Rattle.session.specs.Kept.{pars_of}
use Rattle.session.specs.Measuring.{spliced}
use Rattle.session.proofs.MeasuringLemmas.{as_many, next_within, passed_all, passed_more, passed_none, read_some, read_text, room_past}
use Rattle.session.proofs.measuring.has_room.Goals as goal

pub loop-i-init : goal.loop-i-init
loop-i-init g c = passed_none (pars_of (g.S.ParagraphStore.items c.args.store.now)) (spliced c.args.list.now) c.args.first c.args.end c.requires.each

pub fit-requires : goal.fit-requires
fit-requires g c =
    let items = g.S.ParagraphStore.items c.args.store.now in
    let size : c.chars.result ≡ length (get_or (pars_of items) c.loop-i.i []) = c.chars.ensures ∙ ap length (sym (read_text items c.loop-i.i c.in-Some.kept.now c.in-Some.ensures)) in
    omega (arith, size, next_within (pars_of items) (spliced c.args.list.now) c.args.first c.args.end c.loop-i.i c.loop-i.from (as_many items c.args.end c.requires.within) c.loop-i.invariant c.loop-i-test.true)

pub returns-then-not-fit : goal.returns-then-not-fit
returns-then-not-fit g c =
    let items = g.S.ParagraphStore.items c.args.store.now in
    let size : c.chars.result ≡ length (get_or (pars_of items) c.loop-i.i []) = c.chars.ensures ∙ ap length (sym (read_text items c.loop-i.i c.in-Some.kept.now c.in-Some.ensures)) in
    room_past (pars_of items) (spliced c.args.list.now) c.args.first c.args.end c.loop-i.i c.loop-i.from (as_many items c.args.end c.requires.within) c.loop-i.invariant c.loop-i-test.true
    c.fit.result (c.fit.ensures ∙ ap (λ n. nat_lt (sum (take n (drop c.loop-i.from (spliced c.args.list.now)))) (2 ^ 32)) size) c.if-not-fit.true

pub overflow_add-from : goal.overflow_add-from
overflow_add-from g c =
    let items = g.S.ParagraphStore.items c.args.store.now in
    let size : c.chars-from.result ≡ length (get_or (pars_of items) c.loop-i.i []) = c.chars-from.ensures ∙ ap length (sym (read_text items c.loop-i.i c.in-Some.kept.now c.in-Some.ensures)) in
    omega (arith, size, c.requires.fits, next_within (pars_of items) (spliced c.args.list.now) c.args.first c.args.end c.loop-i.i c.loop-i.from (as_many items c.args.end c.requires.within) c.loop-i.invariant c.loop-i-test.true)

pub unreachable-requires : goal.unreachable-requires
unreachable-requires g c =
    let items = g.S.ParagraphStore.items c.args.store.now in
    read_some items c.loop-i.i (omega (arith, c.loop-i-test.true, c.requires.within)) c.in-None.ensures

pub loop-i-preserved : goal.loop-i-preserved
loop-i-preserved g c =
    let items = g.S.ParagraphStore.items c.args.store.now in
    let read = read_text items c.loop-i.i c.in-Some.kept.now c.in-Some.ensures in
    let size : c.chars.result ≡ length (get_or (pars_of items) c.loop-i.i []) = c.chars.ensures ∙ ap length (sym read) in
    let same : c.chars-from.result ≡ length (get_or (pars_of items) c.loop-i.i []) = c.chars-from.ensures ∙ ap length (sym read) in
    rw same (passed_more (pars_of items) (spliced c.args.list.now) c.args.first c.args.end c.loop-i.i c.loop-i.from (as_many items c.args.end c.requires.within) c.loop-i.invariant c.loop-i-test.true
    c.fit.result (c.fit.ensures ∙ ap (λ n. nat_lt (sum (take n (drop c.loop-i.from (spliced c.args.list.now)))) (2 ^ 32)) size) c.if-not-fit.false)

pub returns : goal.returns
returns g c =
    passed_all (pars_of (g.S.ParagraphStore.items c.args.store.now)) (spliced c.args.list.now) c.args.first c.args.end c.loop-i.i c.loop-i.from c.loop-i.invariant c.loop-i-test.false
