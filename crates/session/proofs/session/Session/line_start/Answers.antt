use Rattle.std.proofs.Common.{ap, sym, is_none, length, ◌∙◌}
use Rattle.session.specs.Kept.{lines_in}
use Rattle.session.specs.Places.{line_starts}
use Rattle.session.specs.Sessions.{SessionState, state_of}
use Rattle.session.proofs.PlaceLemmas.{length-lines_from, none_past, text_short}
use Rattle.session.proofs.session.Session.line_start.Goals as goal

pub line_start-requires : goal.line_start-requires
line_start-requires g c =
    let state : SessionState = state_of c.self.inside.engine c.self.inside.form.width c.self.inside.form.is_measured (g.S.ParagraphStore.items c.self.inside.store) in
    text_short state c.self.invariant

pub returns-clause-start : goal.returns-clause-start
returns-clause-start g c = rw (← c.self.view_is) c.line_start.ensures.start

pub returns-clause-none : goal.returns-clause-none
returns-clause-none g c =
    let kept = g.S.ParagraphStore.items c.self.inside.store in
    rw (← c.self.view_is) (ap is_none c.line_start.ensures.start ∙ none_past (line_starts kept) c.args.n (length (lines_in kept)) (sym (length-lines_from 0 kept)))
