use Rattle.std.proofs.Common.{◌≡◌, ◌++◌, ◌∙◌, Bool, List, ℕ, ap, length, subst, sym, take, drop, arith}
use Rattle.std.proofs.Math.Seq.{drop-append_seam, take-append_seam}
use Rattle.lines.specs.Extents.{LineExtents}
use Rattle.lines.specs.Showing.{AreShown, IsShown}
use Rattle.lines.proofs.ReorderingLemmas.{all_ends}
use Rattle.lines.proofs.ShowLemmas.{shown_alone}
use Rattle.lines.proofs.showing.show_all.Goals as goal

pub returns-in-Some-clause-shown : goal.returns-in-Some-clause-shown
returns-in-Some-clause-shown c =
    let text = c.args.text.now in
    let tables = text.rules.tables.now in
    let options = text.rules.options in
    let chars = text.characters.now in
    let l = c.show_line.new.levels in
    let t = c.show_line.new.ltov in
    let v = c.show_line.new.vtol in
    let h = c.show_line.new.chars in
    let old = c.args.levels.now in
    let is = subst (λ (es : List Bool). IsShown tables options text.base es chars old c.in-Some.shown l t v h) c.requires.ends c.show_line.ensures in
    let size : length l ≡ length t = omega (arith, c.show_line.auto.levels, c.show_line.auto.ltov, c.requires.levels, c.split_at_mut-ltov.ensures.front_len) in
    let front : take (length l) (t ++ v) ≡ t = ap (λ (n : ℕ). take n (t ++ v)) size ∙ take-append_seam t v in
    let back : drop (length l) (t ++ v) ≡ v = ap (λ (n : ℕ). drop n (t ++ v)) size ∙ drop-append_seam t v in
    let alone = shown_alone tables options text.base chars old c.in-Some.shown l t v h c.requires.levels (all_ends options chars) is in
    subst (λ (e : LineExtents). AreShown tables options text.base chars old e.starts (length e.starts) e.shown l (take (length l) (t ++ v)) (drop (length l) (t ++ v)) h)
    (sym c.in-Some.ensures) (rw (front, back) alone)
