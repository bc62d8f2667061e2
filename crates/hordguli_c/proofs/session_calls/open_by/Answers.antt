use Rattle.std.proofs.Common.{◌≡◌, chars, subst, sym}
use Rattle.hordguli_c.specs.Sessions.{IsOpened}
use Rattle.hordguli_c.specs.declared.session_calls.OpenWidth.{OpenWidth}
use Rattle.hordguli_c.specs.declared.session_calls.OpenWidth.TheVariants.{Columns, Units}
use Rattle.hordguli_c.proofs.session_calls.open_by.Goals as goal

pub returns-in-Ok : goal.returns-in-Ok
returns-in-Ok c = λ tables options fresh.
    subst (λ (w : OpenWidth). IsOpened tables options (chars c.args.text.now) w c.in-Ok.session) (sym c.in-Columns.is)
    (record { engine = c.args.engine; fresh = fresh; opens = c.in-Ok.ensures.ok; changed = c.in-Ok.ensures.changed })

pub returns-in-Ok-open_measured : goal.returns-in-Ok-open_measured
returns-in-Ok-open_measured c = λ tables options fresh.
    subst (λ (w : OpenWidth). IsOpened tables options (chars c.args.text.now) w c.in-Ok-open_measured.session) (sym c.in-Units.is)
    (record { engine = c.args.engine; fresh = fresh; opens = c.in-Ok-open_measured.ensures.ok; changed = c.in-Ok-open_measured.ensures.changed })
