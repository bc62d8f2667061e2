use Rattle.std.proofs.Common.{length, refl, sym, ap, is_none, ◌∙◌}
use Rattle.session.specs.Kept.{lines_in}
use Rattle.session.specs.Places.{line_starts}
use Rattle.session.specs.Sessions.{SessionState, state_of}
use Rattle.session.proofs.PlaceLemmas.{length-lines_from, none_past, text_short}
use Rattle.session.proofs.session.Session.hit.Goals as goal

pub line_start-requires : goal.line_start-requires
line_start-requires g c =
    let state : SessionState = state_of c.self.inside.engine c.self.inside.form.width c.self.inside.form.is_measured (g.S.ParagraphStore.items c.self.inside.store) in
    text_short state c.self.invariant

pub returns-in_err-start-clause-none : goal.returns-in_err-start-clause-none
returns-in_err-start-clause-none g c =
    let kept = g.S.ParagraphStore.items c.self.inside.store in
    rw (← c.self.view_is)
    (ap is_none c.from_residual.ensures ∙ ap is_none c.in_err-start.ensures.start ∙ none_past (line_starts kept) c.args.n (length (lines_in kept)) (sym (length-lines_from 0 kept)))

pub returns-in_err-line-clause-none : goal.returns-in_err-line-clause-none
returns-in_err-line-clause-none g c =
    ap is_none c.from_residual-in_err-line.ensures ∙ ap is_none c.in_err-line.ensures
    ∙ none_past (lines_in c.args.self.now.kept) c.args.n (length (lines_in c.args.self.now.kept)) refl

pub returns-clause-none : goal.returns-clause-none
returns-clause-none g c = ap is_none c.in_ok-line.ensures ∙ none_past (lines_in c.args.self.now.kept) c.args.n (length (lines_in c.args.self.now.kept)) refl
