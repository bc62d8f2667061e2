use Rattle.std.proofs.Common.{◌≡◌, ◌∙◌, ◌+◌, ◌-◌, List, ℕ, length, drop, ap, refl, subst, sym, arith}
use Rattle.std.proofs.lemmas.List.{drop_all}
use Rattle.breaks.specs.declared.mark.Mark.{Mark}
use Rattle.lines.specs.Changed.{Contains}
use Rattle.lines.specs.Windows.{StaysOutside}
use Rattle.lines.proofs.ChangedLemmas.{all_changed, contained, same_rest}
use Rattle.lines.proofs.changed.changed.Goals as goal

pub with_neighbors-change-requires-clause-rest : goal.with_neighbors-change-requires-clause-rest
with_neighbors-change-requires-clause-rest c =
    ap (λ (n : ℕ). n - (c.args.edit.at + c.args.edit.removed)) (ap (λ (xs : List ℕ). length xs) c.text.ensures) ∙ same_rest c.args.old.now.text c.args.text.now c.args.edit c.requires.edit

pub returns-then-marks_stay-clause-change : goal.returns-then-marks_stay-clause-change
returns-then-marks_stay-clause-change c =
    let old = c.args.old.now in
    let text = c.args.text.now in
    let change = c.with_neighbors-change.result in
    let all : Contains (length old.text) (length text) c.args.edit change =
    subst (λ n. Contains n (length text) c.args.edit change) (ap (λ (xs : List ℕ). length xs) c.text.ensures) c.with_neighbors-change.ensures in
    record {
      edited = contained old.text text c.args.edit change c.requires.edit all;
      levels_stay = subst (λ (levels : List ℕ). StaysOutside change levels c.args.levels.now) c.levels-old_levels.ensures.levels (c.if-levels_stay.ensures refl);
      marks_stay = subst (λ (marks : List Mark). StaysOutside change marks c.args.marks.now) c.marks.ensures (c.if-marks_stay.ensures refl);
    }
