use Rattle.std.proofs.Common.{◌≡◌, ℕ, ◌<◌, length, get_or, set, sym, ap, ◌∙◌, inl, inr, arith}
use Rattle.std.proofs.lemmas.Bool.{cases_eq, cases_lt}
use Rattle.std.proofs.lemmas.List.{get_or-map, get_or-set_other, get_or-set_same, get_or_default, length-map, same_lists}
use Rattle.ucd.specs.Properties.{properties_of}
use Rattle.reorder.specs.Mirroring.{mirrored, visual_chars}
use Rattle.reorder.proofs.MirrorLemmas.{no_mirror_at}
use Rattle.reorder.proofs.mirror.put_mirrors.Goals as goal

pub loop-at-init : goal.loop-at-init
loop-at-init c =
    let tables = c.args.tables.now in
    let line = c.args.line.now in
    let vtol = c.args._vtol.now in
    let properties = c.args.properties.now in
    let size : length properties ≡ length line = ap length c.requires.properties ∙ length-map line (properties_of tables) in
    let passed = c.next_mirror-at.ensures in
    let first : (j : ℕ) → j < length line → get_or c.args.chars.now j 0 ≡ get_or line (get_or vtol j 0) 0 = λ j within.
    ap (λ xs. get_or xs j 0) c.requires.chars ∙ get_or-map (λ (i : ℕ). get_or line i 0) vtol j 0 0 (omega (arith, within, c.requires.len)) in
    record {
      within = omega (arith, passed.within, size);
      done = λ j within below. first j within ∙ sym (no_mirror_at tables line properties (get_or c.args.levels.now (get_or vtol j 0) 0) (get_or vtol j 0) (properties_of tables 0) c.requires.properties
          (c.requires.inverse.vtol_within j within) (passed.passed (get_or vtol j 0) (properties_of tables 0) (omega arith) below));
      left = λ j within above. first j within;
    }

pub loop-at-preserved : goal.loop-at-preserved
loop-at-preserved c =
    let tables = c.args.tables.now in
    let line = c.args.line.now in
    let vtol = c.args._vtol.now in
    let ltov = c.args.ltov.now in
    let levels = c.args.levels.now in
    let properties = c.args.properties.now in
    let inverse = c.requires.inverse in
    let chars = c.loop-at.chars in
    let value = c.mirrored.result in
    let k = c.loop-at.at in
    let place = get_or ltov k 0 in
    let now = c.loop-at.invariant in
    let shown = λ (i : ℕ). mirrored tables (get_or levels i 0) (get_or line i 0) in
    let size : length properties ≡ length line = ap length c.requires.properties ∙ length-map line (properties_of tables) in
    let passed = c.next_mirror-at-in-loop-at.ensures in
    let inside : k < length line = c.loop-at-test.true in
    let sized : length chars ≡ length line = c.loop-at.auto.chars ∙ ap length c.requires.chars ∙ length-map vtol (λ (i : ℕ). get_or line i 0) ∙ c.requires.len in
    let there : place < length chars = omega (arith, sized, inverse.ltov_within k inside) in
    let character : c.index-line-at.result ≡ get_or line k 0 = c.index-line-at.is ∙ get_or_default line k c.index-line-at.result 0 inside in
    let here : value ≡ shown k = c.mirrored.ensures ∙ ap (mirrored tables (get_or levels k 0)) character in
    record {
      within = omega (arith, passed.within, size);
      done = λ j within below. elim (cases_eq (get_or vtol j 0) k) [
        | inl e ↦
            let same : place ≡ j = ap (λ i. get_or ltov i 0) (sym e) ∙ inverse.at_vtol j within in
            ap (λ i. get_or (set chars place value) i 0) (sym same) ∙ get_or-set_same chars place value 0 there ∙ here ∙ ap shown (sym e)
        | inr ne ↦ get_or-set_other chars place j value 0 (λ same. ne (ap (λ i. get_or vtol i 0) same ∙ inverse.at_ltov k inside))
            ∙ elim (cases_lt (get_or vtol j 0) k) [
              | inl before ↦ now.done j within before
              | inr after ↦ now.left j within after ∙ sym (no_mirror_at tables line properties (get_or levels (get_or vtol j 0) 0) (get_or vtol j 0) (properties_of tables 0) c.requires.properties
                  (inverse.vtol_within j within) (passed.passed (get_or vtol j 0) (properties_of tables 0) (omega (arith, after, ne)) below))
            ]
      ];
      left = λ j within above.
          let past : k < get_or vtol j 0 = omega (arith, passed.reached, above) in
          get_or-set_other chars place j value 0 (λ same. absurd (omega (arith, ap (λ i. get_or vtol i 0) same ∙ inverse.at_ltov k inside, past))) ∙ now.left j within (omega arith);
    }

pub returns : goal.returns
returns c =
    let tables = c.args.tables.now in
    let line = c.args.line.now in
    let vtol = c.args._vtol.now in
    let levels = c.args.levels.now in
    let shown = λ (i : ℕ). mirrored tables (get_or levels i 0) (get_or line i 0) in
    let all = visual_chars tables levels line vtol in
    let sized : length c.loop-at.chars ≡ length line = c.loop-at.auto.chars ∙ ap length c.requires.chars ∙ length-map vtol (λ (i : ℕ). get_or line i 0) ∙ c.requires.len in
    let size : length all ≡ length line = length-map vtol shown ∙ c.requires.len in
    same_lists c.loop-at.chars all (sized ∙ sym size) (λ m e within.
    get_or_default c.loop-at.chars m e 0 within
    ∙ c.loop-at.invariant.done m (omega (arith, within, sized)) (omega (arith, c.loop-at-test.false, c.requires.inverse.vtol_within m (omega (arith, within, sized))))
    ∙ sym (get_or-map shown vtol m 0 0 (omega (arith, within, sized, c.requires.len)))
    ∙ get_or_default all m 0 e (omega (arith, within, sized, size)))
