use Rattle.std.proofs.Common.{◌≡◌, ◌∙◌, ◌-◌, ℕ, Bool, List, length, take, drop, get_or, slice_range, ap, sym, subst, refl, arith}
use Rattle.std.proofs.lemmas.List.{drop-map, take-map}
use Rattle.ucd.specs.Properties.{properties_of}
use Rattle.lines.specs.Kept.{AreStarts}
use Rattle.lines.specs.Showing.{nothing_shown}
use Rattle.lines.specs.Visual.{end_of}
use Rattle.lines.proofs.ShowLemmas.{length_range, shown_within}
use Rattle.lines.proofs.extents.Extents.line_at.Goals as goal

pub returns : goal.returns
returns c =
    let text = c.args.text.now in
    let chars = text.characters.now in
    let n : ℕ = length chars in
    let starts = c.args.self.now.starts in
    let start = get_or c.args.starts.now c.args.k 0 in
    let end = c.end_of-end.result in
    let start_is : start ≡ get_or starts c.args.k 0 = ap (λ (ss : List ℕ). get_or ss c.args.k 0) c.requires.listed in
    let end_is : end ≡ end_of n starts c.args.k = c.end_of-end.ensures.end ∙ ap (λ (ss : List ℕ). end_of n ss c.args.k) c.requires.listed in
    let within = c.end_of-end.ensures.within (subst (AreStarts n) (sym c.requires.listed) c.requires.starts) in
    let part = shown_within c.requires.shown.0 n c.requires.shown.1 starts c.args.self.now.shown c.args.k end c.shown.result nothing_shown
    c.requires.starts c.requires.k end_is c.requires.shown.2 c.shown.ensures in
    record {
      start = start_is;
      end = end_is;
      order = within.0;
      within = within.1;
      rules = refl;
      base = refl;
      characters = refl;
      len = length_range chars start end (omega (arith, within.0)) within.1;
      looked_up = ap (λ ps. take (end - start) (drop start ps)) c.requires.text
          ∙ ap (take (end - start)) (drop-map (properties_of text.rules.tables.now) start chars)
          ∙ take-map (properties_of text.rules.tables.now) (end - start) (drop start chars);
      ends = c.ends_between.ensures ∙ ap (λ (es : List Bool). slice_range es start end) c.requires.ends;
      shown = c.shown.ensures;
      shown_within = omega (arith, part, start_is);
    }
