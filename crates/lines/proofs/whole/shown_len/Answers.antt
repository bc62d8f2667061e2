use Rattle.std.proofs.Common.{◌≡◌, ◌∙◌, ℕ, ◌-◌, ◌<◌, true, get_or, length, ap, subst, sym, inl, inr, arith}
use Rattle.std.proofs.lemmas.Bool.{cases_eq}
use Rattle.ucd.specs.Tables.{is_mark_in}
use Rattle.ucd.specs.declared.line_class.LineClass.{LineClass}
use Rattle.ucd.specs.declared.properties.Properties.{Properties}
use Rattle.breaks.specs.Bases.{resolved}
use Rattle.lines.specs.CharInfos.{may_trail, trailing_by, trailing_in}
use Rattle.lines.proofs.WholeLemmas.{looked_up}
use Rattle.lines.proofs.whole.shown_len.Goals as goal

pub loop-len-preserved : goal.loop-len-preserved
loop-len-preserved c =
    let text = c.args.text.now in
    let t = text.rules.tables.now in
    let chars = text.characters.now in
    let at = c.loop-len.len - 1 in
    let w = c.loop-len.invariant in
    let inside : at < length chars = omega (arith, w.within, c.loop-len-test.true) in
    let known = looked_up t chars text.properties.now at c.index-properties-len.result c.requires inside c.index-properties-len.is in
    let m = is_mark_in t (get_or chars at 0) in
    let here : may_trail (trailing_in t (get_or chars at 0)) ≡ true =
    ap (λ (class : LineClass). may_trail (trailing_by (resolved class m))) (sym (c.line_class.ensures ∙ ap (λ (p : Properties). p.line_class) known))
    ∙ sym (ap may_trail (c.trailing_of.ensures m)) ∙ sym c.may_trail.ensures ∙ c.if-may_trail.true in
    record {
      within = omega (arith, w.within);
      tail = λ k from below.
          elim (cases_eq at k) [
            | inl e ↦ subst (λ (j : ℕ). may_trail (trailing_in t (get_or chars j 0)) ≡ true) e here
            | inr ne ↦ w.tail k (omega (arith, from, ne)) below
          ];
    }
