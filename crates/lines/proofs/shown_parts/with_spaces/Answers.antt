use Rattle.std.proofs.Common.{◌≡◌, ◌∙◌, ◌+◌, ◌<◌, ◌&&◌, nat_le, false, true, length, sym, ap, subst, arith}
use Rattle.lines.specs.CharInfos.{advance, is_space, sized}
use Rattle.lines.specs.Filling.{place_at}
use Rattle.lines.specs.declared.char_info.CharInfo.{CharInfo}
use Rattle.lines.proofs.ShownPartLemmas.{AreSpacesTo, spaces_next, spaces_part}
use Rattle.lines.proofs.WidthLemmas.{length-sized}
use Rattle.lines.proofs.shown_parts.with_spaces.Given.{Over}
use Rattle.lines.proofs.shown_parts.with_spaces.Goals as goal
use Rattle.lines.proofs.shown_parts.with_spaces.Goals.{else-loop-len-test, then-loop-len-test+then-not-is_space_within}

pub loop-len-preserved : goal.loop-len-preserved
loop-len-preserved g c =
    let given = g.S.Sizes.given c.args.sizes in
    let line = sized given c.args.line.now in
    let len = c.loop-len.len in
    let at = c.size-size.ensures.size in
    let next : c.advance-columns.result ≡ advance c.loop-len.columns (place_at line len) = c.advance-columns.ensures.columns ∙ ap (advance c.loop-len.columns) (sym at) in
    let fits : (is_space (place_at line len).trailing && nat_le (advance c.loop-len.columns (place_at line len)) c.args.margin) ≡ true =
    ap (λ (p : CharInfo). is_space p.trailing && nat_le (advance c.loop-len.columns p) c.args.margin) at ∙ sym c.is_space_within.ensures ∙ c.if-not-is_space_within.false in
    record {
      spaces = subst (AreSpacesTo c.args.margin line (len + 1)) (sym next)
          (spaces_next c.args.margin line len c.loop-len.columns c.loop-len.invariant.spaces (omega (arith, c.loop-len-test.true, length-sized given c.args.line.now)) fits);
      most = omega (arith, c.loop-len.invariant.most, c.advance-columns.ensures.most, c.size-size.ensures.most);
    }

-- the loop ends at the end of the line, or before a character that is not a space within the margin
ends : (g : Over) (c : goal.Left-loop-len g) → c.loop-len.len < length (sized (g.S.Sizes.given c.args.sizes) c.args.line.now)
    → (is_space (place_at (sized (g.S.Sizes.given c.args.sizes) c.args.line.now) c.loop-len.len).trailing
    && nat_le (advance c.loop-len.columns (place_at (sized (g.S.Sizes.given c.args.sizes) c.args.line.now) c.loop-len.len)) c.args.margin) ≡ false
ends g c below =
    elim c.loop-len-test.branch [
      | then-loop-len-test+then-not-is_space_within w ↦
          ap (λ (p : CharInfo). is_space p.trailing && nat_le (advance c.loop-len.columns p) c.args.margin) w.size-size.ensures.size ∙ sym w.is_space_within.ensures ∙ w.if-not-is_space_within.true
      | else-loop-len-test w ↦ absurd (omega (arith, below, length-sized (g.S.Sizes.given c.args.sizes) c.args.line.now, w.loop-len-test.false))
    ]

pub returns-clause-len : goal.returns-clause-len
returns-clause-len g c =
    (spaces_part c.args.margin (sized (g.S.Sizes.given c.args.sizes) c.args.line.now) c.loop-len.len c.loop-len.columns c.loop-len.invariant.spaces (ends g c)).0

pub returns-clause-columns : goal.returns-clause-columns
returns-clause-columns g c =
    (spaces_part c.args.margin (sized (g.S.Sizes.given c.args.sizes) c.args.line.now) c.loop-len.len c.loop-len.columns c.loop-len.invariant.spaces (ends g c)).1

pub returns-clause-within : goal.returns-clause-within
returns-clause-within g c = omega (arith, c.loop-len.invariant.spaces.within, length-sized (g.S.Sizes.given c.args.sizes) c.args.line.now)

pub overflow_cast-result : goal.overflow_cast-result
overflow_cast-result g c = omega (arith, c.loop-len.invariant.spaces.within, length-sized (g.S.Sizes.given c.args.sizes) c.args.line.now, c.requires.limit)
