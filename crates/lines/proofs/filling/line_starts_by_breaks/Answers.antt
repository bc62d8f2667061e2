use Rattle.std.proofs.Common.{◌≡◌, ◌++◌, ◌+◌, ◌-◌, ◌∷◌, [], List, length, drop, ap, subst, sym, arith, ◌∙◌, append_assoc, drop-drop}
use Rattle.std.proofs.lemmas.List.{length-drop, take_all}
use Rattle.lines.specs.Bare.{AreAlike}
use Rattle.lines.specs.declared.char_info.CharInfo.{CharInfo}
use Rattle.lines.specs.Filling.{line_len, line_starts_of, starts}
use Rattle.lines.specs.Kept.{AreStarts}
use Rattle.lines.proofs.BareLemmas.{alike_drop, alike_length}
use Rattle.lines.proofs.FillingLemmas.{no_starts, starts_line, starts_more}
use Rattle.lines.proofs.filling.line_starts_by_breaks.Goals as goal

pub loop-start-init : goal.loop-start-init
unfolding line_starts_of
loop-start-init c = record {
  whole = λ known alike. ap (λ xs. xs ++ starts c.args.nobreak c.args.width 0 0 known) (sym c.clear.ensures.items);
  within = omega arith;
  rising = subst (AreStarts 0) (sym c.clear.ensures.items) (no_starts 0);
}

pub loop-start-preserved : goal.loop-start-preserved
loop-start-preserved c =
    let w = c.loop-start.invariant in
    let start = c.loop-start.start in
    let len = c.in-Some.len in
    let nobreak = c.args.nobreak in
    let width = c.args.width in
    record {
      whole = λ known alike.
          let size : length known ≡ length c.args.infos.now = sym (alike_length c.args.infos.now known alike) in
          let rest = drop start known in
          let n : len ≡ line_len nobreak width rest = c.in-Some.ensures.len rest (subst (λ (xs : List CharInfo). AreAlike xs rest) (sym (take_all (length c.args.infos.now - start) (drop start c.args.infos.now) (omega (arith, length-drop start c.args.infos.now)))) (alike_drop c.args.infos.now known start alike)) in
          let left = length-drop start known in
          let line = starts_line nobreak width start rest (omega (arith, left, size, c.loop-start-test.true)) (omega (arith, n, left, size, c.in-Some.ensures.within.1)) in
          let after : drop (line_len nobreak width rest) rest ≡ drop (start + len) known = ap (λ k. drop k rest) (sym n) ∙ drop-drop len start known in
          let next : starts nobreak width (start + line_len nobreak width rest) 0 (drop (line_len nobreak width rest) rest) ≡ starts nobreak width (start + len) 0 (drop (start + len) known) =
          ap (λ k. starts nobreak width (start + k) 0 (drop (line_len nobreak width rest) rest)) (sym n) ∙ ap (starts nobreak width (start + len) 0) after in
          rw c.in_ok-push.ensures.items (w.whole known alike ∙ ap (λ xs. c.loop-start.starts.items ++ xs) (line ∙ ap (λ xs. start ∷ xs) next)
          ∙ sym (append_assoc c.loop-start.starts.items (start ∷ []) (starts nobreak width (start + len) 0 (drop (start + len) known))));
      within = omega (arith, c.in-Some.ensures.within.1);
      rising = subst (AreStarts (start + len)) (sym c.in_ok-push.ensures.items) (starts_more start (start + len) c.loop-start.starts.items w.rising (omega (arith, c.in-Some.ensures.within.0)));
    }
