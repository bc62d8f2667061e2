use Rattle.std.specs.Prelude.{IfOk, Result}
use Rattle.std.proofs.Common.{◌≡◌, ◌++◌, ℕ, List, Some, arith, subst}
use Rattle.lines.specs.Engine.{rules_of}
use Rattle.terminal.specs.Directions.{shown_level}
use Rattle.terminal.specs.declared.direction.Searched.{Searched}
use Rattle.terminal.proofs.DirectionLemmas.{known_early, known_late}
use Rattle.terminal.proofs.direction.known_base.Goals as goal

pub returns-then-text-eq-FIRST_CHARACTERS-clause-base : goal.returns-then-text-eq-FIRST_CHARACTERS-clause-base
returns-then-text-eq-FIRST_CHARACTERS-clause-base c =
    known_late (rules_of c.args.engine.now) c.args.text.now c.in_ok-whole_base.field-0 (omega (arith, c.if-text-eq-FIRST_CHARACTERS.true)) c.in_ok-whole_base.ensures.base

pub returns-in-Ok-clause-base : goal.returns-in-Ok-clause-base
returns-in-Ok-clause-base c =
    let Known : ℕ → Type 0 = λ level. (more : List ℕ) → shown_level (rules_of c.args.engine.now) (c.args.text.now ++ more) ≡ Some level in
    let known : Known c.in-Ok.level = subst (λ (found : Result ℕ Searched). IfOk found Known) c.in-Ok.is c.in_ok-level.ensures.level in
    known_early (rules_of c.args.engine.now) c.args.text.now c.in-Ok.level c.base_by.result c.requires.few known c.base_by.ensures
