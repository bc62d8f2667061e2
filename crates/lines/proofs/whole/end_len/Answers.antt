use Rattle.std.proofs.Common.{◌≡◌, ◌∙◌, ℕ, ◌+◌, ◌-◌, ◌<◌, ◌&&◌, true, List, get_or, length, ap, refl, subst, sym, inl, inr, arith}
use Rattle.std.proofs.lemmas.Bool.{and_from, and_parts, both_ways}
use Rattle.std.proofs.lemmas.List.{length-map}
use Rattle.ucd.specs.Properties.{properties_of}
use Rattle.ucd.specs.declared.properties.Properties.{Properties}
use Rattle.breaks.specs.Bases.{character}
use Rattle.lines.specs.Whole.{is_cr, is_lf}
use Rattle.lines.proofs.WholeLemmas.{cr_at, lf_at, looked_up}
use Rattle.lines.proofs.whole.end_len.Goals as goal

pub returns-then-is_cr-is_lf : goal.returns-then-is_cr-is_lf
returns-then-is_cr-is_lf c =
    let text = c.args.text.now in
    let t = text.rules.tables.now in
    let chars = text.characters.now in
    let size : length text.properties.now ≡ length chars = ap (λ (ps : List Properties). length ps) c.requires ∙ length-map chars (properties_of t) in
    let i : ℕ = length text.properties.now - 2 in
    let j : ℕ = length text.properties.now - 1 in
    let both = and_parts c.is_cr.result c.is_lf.result c.if-is_cr-is_lf.true in
    let first = looked_up t chars text.properties.now i c.index-properties-len.result c.requires (omega (arith, size, c.if-len-lt2.false)) c.index-properties-len.is in
    let second = looked_up t chars text.properties.now j c.index-properties-len-2.result c.requires (omega (arith, size, c.if-len-lt2.false)) c.index-properties-len-2.is in
    let first_place : i ≡ length chars - 2 = omega (arith, size) in
    let second_place : j ≡ length chars - 2 + 1 = omega (arith, size, c.if-len-lt2.false) in
    inl (
      record {
        last = omega (arith, size, c.if-len-lt2.false);
        cr = subst (λ k. is_cr (character t (get_or chars k 0)).class ≡ true) first_place
            (sym (cr_at t chars i c.index-properties-len.result c.line_class.result c.is_cr.result first c.line_class.ensures c.is_cr.ensures) ∙ both.0);
        lf = subst (λ k. is_lf (character t (get_or chars k 0)).class ≡ true) second_place
            (sym (lf_at t chars j c.index-properties-len-2.result c.line_class-2.result c.is_lf.result second c.line_class-2.ensures c.is_lf.ensures) ∙ both.1);
      },
      refl,
    )

pub returns-else-is_cr-is_lf : goal.returns-else-is_cr-is_lf
returns-else-is_cr-is_lf c =
    let text = c.args.text.now in
    let t = text.rules.tables.now in
    let chars = text.characters.now in
    let size : length text.properties.now ≡ length chars = ap (λ (ps : List Properties). length ps) c.requires ∙ length-map chars (properties_of t) in
    let i : ℕ = length text.properties.now - 2 in
    let j : ℕ = length text.properties.now - 1 in
    let first = looked_up t chars text.properties.now i c.index-properties-len.result c.requires (omega (arith, size, c.if-len-lt2.false)) c.index-properties-len.is in
    let second = looked_up t chars text.properties.now j c.index-properties-len-2.result c.requires (omega (arith, size, c.if-len-lt2.false)) c.index-properties-len-2.is in
    let first_place : length chars - 2 ≡ i = omega (arith, size) in
    let second_place : length chars - 2 + 1 ≡ j = omega (arith, size, c.if-len-lt2.false) in
    inr (
      (λ pair.
          both_ways (c.is_cr.result && c.is_lf.result) c.if-is_cr-is_lf.false
          (and_from c.is_cr.result c.is_lf.result
          (cr_at t chars i c.index-properties-len.result c.line_class.result c.is_cr.result first c.line_class.ensures c.is_cr.ensures
          ∙ subst (λ k. is_cr (character t (get_or chars k 0)).class ≡ true) first_place pair.cr)
          (lf_at t chars j c.index-properties-len-2.result c.line_class-2.result c.is_lf.result second c.line_class-2.ensures c.is_lf.ensures
          ∙ subst (λ k. is_lf (character t (get_or chars k 0)).class ≡ true) second_place pair.lf))),
      refl,
    )
