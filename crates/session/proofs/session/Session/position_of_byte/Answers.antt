use Rattle.std.proofs.Common.{is_none, ap, ◌∙◌}
use Rattle.session.specs.Offsets.{position_of}
use Rattle.session.specs.Sessions.{text_at, SessionState}
use Rattle.session.specs.declared.offsets.Encoding.TheVariants.{Utf8}
use Rattle.session.proofs.OffsetLemmas.{none_position}
use Rattle.session.proofs.session.Session.position_of_byte.Goals as goal

pub returns-clause-position : goal.returns-clause-position
returns-clause-position g c = c.position_of.ensures ∙ ap (λ (state : SessionState). position_of Utf8 (text_at state) c.args.byte) c.self.view_is

pub returns-clause-none : goal.returns-clause-none
returns-clause-none g c = ap is_none (returns-clause-position g c) ∙ none_position Utf8 (text_at c.args.self.now) c.args.byte
