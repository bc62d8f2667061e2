use Rattle.std.proofs.Common.{◌≡◌, ℕ, ◌+◌, ◌-◌, refl, subst, arith, inl, inr}
use Rattle.lines.specs.SameKind.{run_from, IsRunEdit}
use Rattle.lines.proofs.SameKindLemmas.{one_more}
use Rattle.lines.proofs.same_kind.run_of.Goals as goal
use Rattle.lines.proofs.same_kind.run_of.Goals.{then-edit-gt0+in_default, else-edit-gt0}

pub run_at-requires-2-clause-after : goal.run_at-requires-2-clause-after
run_at-requires-2-clause-after c = one_more c.args.old.now c.args.new.now c.args.edit.at c.args.edit.removed c.args.edit.inserted c.requires.after

pub returns-clause-none : goal.returns-clause-none
returns-clause-none c none (at, mark, inl before, is) =
    let m : ℕ = c.args.edit.removed + 1 in
    let n : ℕ = c.args.edit.inserted + 1 in
    elim c.if-edit-gt0.branch [
      | then-edit-gt0+in_default w ↦
          let there : at ≡ c.args.edit.at - 1 = omega (arith, before.1) in
          w.in_default.ensures.none refl mark (subst (λ k. IsRunEdit c.args.tables.now c.args.old.now c.args.new.now (run_from k m n mark)) there is)
      | else-edit-gt0 w ↦ absurd (omega (arith, before.0, w.if-edit-gt0.false))
    ]
returns-clause-none c none (at, mark, inr after, is) =
    let m : ℕ = c.args.edit.removed + 1 in
    let n : ℕ = c.args.edit.inserted + 1 in
    c.run_at-2.ensures.none none mark (subst (λ k. IsRunEdit c.args.tables.now c.args.old.now c.args.new.now (run_from k m n mark)) after is)
