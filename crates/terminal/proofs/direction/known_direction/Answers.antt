use Rattle.std.specs.Prelude.{IfOk, Result}
use Rattle.std.proofs.Common.{◌≡◌, ◌∙◌, ◌++◌, ℕ, List, subst}
use Rattle.bidi.specs.declared.base.Base.{Base}
use Rattle.lines.specs.Engine.{rules_of}
use Rattle.terminal.specs.Searches.{text_direction}
use Rattle.terminal.specs.declared.direction.Searched.{Searched}
use Rattle.terminal.proofs.DirectionLemmas.{known_start}
use Rattle.terminal.proofs.direction.known_direction.Goals as goal

pub returns-in-Ok-clause-base : goal.returns-in-Ok-clause-base
returns-in-Ok-clause-base c =
    let Known : Base → Type 0 = λ base. (more : List ℕ) → base ≡ text_direction (rules_of c.args.engine.now) (c.deref.result.now ++ more) in
    let known : Known c.in-Ok.base = subst (λ (found : Result Base Searched). IfOk found Known) c.in-Ok.is c.in_ok-base.ensures.base in
    known_start (rules_of c.args.engine.now) c.args.escapes c.args.bytes.now c.decode_start.new.text.items c.deref.result.now c.in_ok-_decoded._decoded c.in-Ok.base
    c.in_ok-_decoded.ensures (c.deref.ensures.value ∙ c.truncate.ensures.items) known
