use Rattle.std.proofs.Common.{◌≡◌, ◌∙◌, ◌*◌, ◌<◌, nat_lt, length, take, ap, refl, arith}
use Rattle.std.proofs.lemmas.Bool.{both_ways, cond-true, lt-ltb}
use Rattle.std.proofs.lemmas.List.{length-take-le}
use Rattle.lines.specs.Measures.{kept_len}
use Rattle.lines.proofs.MeasureLemmas.{kept_tabbed, kept_untabbed}
use Rattle.lines.proofs.laid.put_all_widths.Goals as goal
use Rattle.lines.proofs.laid.put_all_widths.Goals.{then-not-is_measured-via-then-not-is_measured, then-not-is_measured-via-else-not-is_measured+then-tab_width-eq0}

pub returns-then-not-is_measured-clause-widths : goal.returns-then-not-is_measured-clause-widths
returns-then-not-is_measured-clause-widths c measured =
    let none : c.args.tab_width ≡ 0 = elim c.then-not-is_measured.branch [
      | then-not-is_measured-via-then-not-is_measured w ↦ absurd (both_ways c.args.is_measured w.if-not-is_measured.true measured)
      | then-not-is_measured-via-else-not-is_measured+then-tab_width-eq0 w ↦ w.if-tab_width-eq0.true
    ] in
    let len : kept_len c.args.tab_width c.args.text.now ≡ length c.args.text.now = ap (λ n. kept_len n c.args.text.now) none in
    kept_untabbed c.args.tab_width c.args.text.now c.args.sizes.now c.args.lines.now.lines none (omega (arith, c.requires.len measured, len)) c.requires.within

pub returns-clause-widths : goal.returns-clause-widths
returns-clause-widths c measured =
    let n = length c.args.text.now in
    let split = c.split_at_mut-advances.ensures in
    let some : 0 < c.args.tab_width = omega (arith, c.if-tab_width-eq0.false) in
    let room : kept_len c.args.tab_width c.args.text.now ≡ 2 * n = cond-true (nat_lt 0 c.args.tab_width) (2 * n) n (lt-ltb 0 c.args.tab_width some) in
    let back : length (take n c.split_at_mut-advances.result.1.now) ≡ n = length-take-le n c.split_at_mut-advances.result.1.now (omega (arith, c.requires.len measured, room, split.back_len)) in
    kept_tabbed c.args.tab_width c.args.text.now _ c.split_at_mut-advances.result.0.now c.put_each_width.new.widths _ c.args.lines.now.lines some refl
    (omega (arith, split.front_len)) (c.put_each_width.auto.widths ∙ back) c.put_each_width.ensures
