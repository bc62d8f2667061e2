use Rattle.std.proofs.Common.{◌≡◌, ◌-◌, [], take, get_or, Some, None, sym, ap, ap₂, ◌∙◌, arith}
use Rattle.std.specs.Borrow.{Bor}
use Rattle.std.specs.Prelude.{option_map}
use Rattle.std.proofs.lemmas.List.{take_all}
use Rattle.lines.specs.Layouts.{Layout}
use Rattle.session.specs.Kept.{advance_lists, pars_of}
use Rattle.session.proofs.BorderLemmas.{list_read, text_read}
use Rattle.session.proofs.borders.front_part.Goals as goal

pub returns-in-Some-clause-text : goal.returns-in-Some-clause-text
returns-in-Some-clause-text c = λ kept is.
    let text = text_read kept c.args.border.index (Some c.in-Some.kept.now) (sym (ap (option_map (λ (k : Bor Layout). k.now)) c.in-Some.is) ∙ is) in
    c.front.ensures ∙ ap₂ take c.saturating_sub-len.ensures (c.text.ensures ∙ ap (λ (l : Layout). l.text) c.laid.ensures ∙ sym text)

pub returns-in-Some-clause-advances : goal.returns-in-Some-clause-advances
returns-in-Some-clause-advances c = λ kept is.
    let list = list_read kept c.args.border.index (Some c.in-Some.kept.now) (sym (ap (option_map (λ (k : Bor Layout). k.now)) c.in-Some.is) ∙ is) in
    c.front-in-Some.ensures ∙ ap₂ take c.saturating_sub-len.ensures (c.advances_of.ensures ∙ sym list)

pub returns-in-None-clause-text : goal.returns-in-None-clause-text
returns-in-None-clause-text c = λ kept is.
    let text : get_or (pars_of kept) c.args.border.index [] ≡ [] = text_read kept c.args.border.index None (sym (ap (option_map (λ (k : Bor Layout). k.now)) c.in-None.is) ∙ is) in
    sym (ap (take (c.args.pos - c.args.border.chars)) text ∙ take_all (c.args.pos - c.args.border.chars) [] (omega arith))

pub returns-in-None-clause-advances : goal.returns-in-None-clause-advances
returns-in-None-clause-advances c = λ kept is.
    let list : get_or (advance_lists kept) c.args.border.index [] ≡ [] = list_read kept c.args.border.index None (sym (ap (option_map (λ (k : Bor Layout). k.now)) c.in-None.is) ∙ is) in
    sym (ap (take (c.args.pos - c.args.border.chars)) list ∙ take_all (c.args.pos - c.args.border.chars) [] (omega arith))
