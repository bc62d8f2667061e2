use Rattle.std.specs.Prelude.{IfOk}
use Rattle.std.proofs.Common.{◌≡◌, ◌-◌, ◌∙◌, ap, length, refl, subst, sym, take}
use Rattle.bidi.specs.declared.base.Base.{Base}
use Rattle.lines.specs.Engine.{rules_of}
use Rattle.terminal.specs.Directions.{base_by, shown_level}
use Rattle.terminal.specs.declared.direction.TheConstants.{FIRST_CHARACTERS}
use Rattle.terminal.proofs.DirectionLemmas.{whole_text}
use Rattle.terminal.proofs.direction.whole_direction.Goals as goal

pub returns-clause-base : goal.returns-clause-base
returns-clause-base c =
    let bytes = c.args.bytes.now in
    let whole = whole_text c.args.escapes bytes c.decode_start.new.text.items c.in_ok-n.n (length bytes - c.in_ok-n.n) c.in_ok-n.ensures refl in
    subst (λ (b : Base). IfOk c.whole_base.result (λ base. base ≡ b))
    (ap (λ t. base_by (shown_level (rules_of c.args.engine.now) t))
    (c.deref.ensures.value ∙ c.truncate.ensures.items ∙ ap (take FIRST_CHARACTERS) (c.in_ok-push_end.ensures ∙ sym whole)))
    c.whole_base.ensures.base
