use Rattle.std.proofs.Common.{◌≡◌, ◌++◌, ◌+◌, ◌∷◌, [], length, drop, ap, subst, sym, refl, arith, ◌∙◌, append_assoc, drop-drop}
use Rattle.std.proofs.lemmas.List.{append-nil, drop_all, length-drop}
use Rattle.lines.specs.Bare.{with_ends}
use Rattle.lines.specs.CharInfos.{sized}
use Rattle.lines.specs.Clusters.{cluster_ends}
use Rattle.lines.specs.Filling.{line_len, line_starts_of, starts}
use Rattle.lines.specs.Kept.{AreStarts}
use Rattle.lines.proofs.BareLemmas.{alike_length, same_with, with_alike}
use Rattle.lines.proofs.ClusterLemmas.{length-cluster_ends}
use Rattle.lines.proofs.FillingLemmas.{no_starts, starts_line, starts_more}
use Rattle.lines.proofs.WidthLemmas.{length-sized}
use Rattle.lines.proofs.filling.line_starts.Goals as goal

pub loop-start-init : goal.loop-start-init
unfolding line_starts_of
loop-start-init g c = record {
  alike = refl;
  known_is = λ no. cc;
  whole = ap (λ xs. xs ++ starts c.args.nobreak c.args.ruler.width 0 0 (sized (g.S.Sizes.given c.args.ruler.sizes) (with_ends c.args.infos.now (cluster_ends c.args.text.now)))) (sym c.clear.ensures.items);
  within = omega arith;
  rising = subst (AreStarts 0) (sym c.clear.ensures.items) (no_starts 0);
}

pub loop-start-preserved : goal.loop-start-preserved
loop-start-preserved g c =
    let w = c.loop-start.invariant in
    let given = g.S.Sizes.given c.args.ruler.sizes in
    let ends = cluster_ends c.args.text.now in
    let plain = with_ends c.args.infos.now ends in
    let known = sized given plain in
    let start = c.loop-start.start in
    let len = c.in_ok-len.len in
    let same : sized given (with_ends c.loop-start.infos ends) ≡ known = ap (sized given) (same_with c.loop-start.infos c.args.infos.now ends w.alike) in
    let size : length known ≡ length c.args.infos.now =
    length-sized given plain ∙ alike_length plain c.args.infos.now (with_alike c.args.infos.now ends (length-cluster_ends c.args.text.now ∙ sym c.requires.len)) in
    let rest = drop start known in
    let nobreak = c.args.nobreak in
    let width = c.args.ruler.width in
    let n : len ≡ line_len nobreak width rest = c.in_ok-len.ensures.line ∙ ap (λ xs. line_len nobreak width (drop start xs)) same in
    let left = length-drop start known in
    let fits = c.in_ok-len.ensures.within in
    let sizes = c.loop-start.auto.infos in
    let line = starts_line nobreak width start rest (omega (arith, left, size, sizes, c.loop-start-test.true)) (omega (arith, n, left, size, sizes, fits.1)) in
    let after : drop (line_len nobreak width rest) rest ≡ drop (start + len) known = ap (λ k. drop k rest) (sym n) ∙ drop-drop len start known in
    let next : starts nobreak width (start + line_len nobreak width rest) 0 (drop (line_len nobreak width rest) rest) ≡ starts nobreak width (start + len) 0 (drop (start + len) known) =
    ap (λ k. starts nobreak width (start + k) 0 (drop (line_len nobreak width rest) rest)) (sym n) ∙ ap (starts nobreak width (start + len) 0) after in
    record {
      alike = c.in_ok-len.ensures.alike ∙ w.alike;
      known_is = c.in_ok-len.ensures.known;
      whole = rw c.in_ok-push.ensures.items (w.whole ∙ ap (λ xs. c.loop-start.starts.items ++ xs) (line ∙ ap (λ xs. start ∷ xs) next)
          ∙ sym (append_assoc c.loop-start.starts.items (start ∷ []) (starts nobreak width (start + len) 0 (drop (start + len) known))));
      within = omega (arith, fits.1, c.line_len.auto.infos);
      rising = subst (AreStarts (start + len)) (sym c.in_ok-push.ensures.items) (starts_more start (start + len) c.loop-start.starts.items w.rising (omega (arith, fits.0)));
    }

pub returns-clause-lines : goal.returns-clause-lines
returns-clause-lines g c =
    let w = c.loop-start.invariant in
    let given = g.S.Sizes.given c.args.ruler.sizes in
    let plain = with_ends c.args.infos.now (cluster_ends c.args.text.now) in
    let known = sized given plain in
    let size : length known ≡ length c.args.infos.now =
    length-sized given plain ∙ alike_length plain c.args.infos.now (with_alike c.args.infos.now (cluster_ends c.args.text.now) (length-cluster_ends c.args.text.now ∙ sym c.requires.len)) in
    let none : drop c.loop-start.start known ≡ [] = drop_all c.loop-start.start known (omega (arith, size, c.loop-start.auto.infos, c.loop-start-test.false)) in
    sym (w.whole ∙ ap (λ xs. c.loop-start.starts.items ++ starts c.args.nobreak c.args.ruler.width c.loop-start.start 0 xs) none ∙ append-nil c.loop-start.starts.items)
