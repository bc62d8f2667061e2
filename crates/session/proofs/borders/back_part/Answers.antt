use Rattle.std.proofs.Common.{◌≡◌, ◌-◌, [], length, drop, get_or, Some, None, sym, ap, ap₂, ◌∙◌, arith}
use Rattle.std.specs.Borrow.{Bor}
use Rattle.std.specs.Prelude.{option_map}
use Rattle.std.proofs.lemmas.List.{drop_all}
use Rattle.lines.specs.Layouts.{Layout}
use Rattle.session.specs.Kept.{advance_lists, pars_of}
use Rattle.session.proofs.BorderLemmas.{list_read, text_read}
use Rattle.session.proofs.borders.back_part.Goals as goal

pub returns-in-Some-clause-text : goal.returns-in-Some-clause-text
returns-in-Some-clause-text c = λ kept read text is.
    let at = c.args.last.end.index - 1 in
    let own = text_read kept at (Some c.in-Some.kept.now) (sym (ap (option_map (λ (k : Bor Layout). k.now)) c.in-Some.is) ∙ read) in
    let whole = c.text-text.ensures ∙ ap (λ (l : Layout). l.text) c.laid.ensures ∙ sym own ∙ sym is in
    c.back.ensures ∙ ap₂ drop (c.saturating_sub.ensures ∙ ap₂ (λ xs m. length xs - m) whole c.saturating_sub-len.ensures) whole

pub returns-in-Some-clause-advances : goal.returns-in-Some-clause-advances
returns-in-Some-clause-advances c = λ kept read list is.
    let at = c.args.last.end.index - 1 in
    let own = list_read kept at (Some c.in-Some.kept.now) (sym (ap (option_map (λ (k : Bor Layout). k.now)) c.in-Some.is) ∙ read) in
    let whole = c.advances_of-advances.ensures ∙ sym own ∙ sym is in
    c.back-in-Some.ensures ∙ ap₂ drop (c.saturating_sub-in-Some.ensures ∙ ap₂ (λ xs m. length xs - m) whole c.saturating_sub-len.ensures) whole

pub returns-in-None-clause-text : goal.returns-in-None-clause-text
returns-in-None-clause-text c = λ kept read text is.
    let at = c.args.last.end.index - 1 in
    let own : get_or (pars_of kept) at [] ≡ [] = text_read kept at None (sym (ap (option_map (λ (k : Bor Layout). k.now)) c.in-None.is) ∙ read) in
    let none = is ∙ own in
    let from = length text - (c.args.last.end.chars - c.args.from) in
    sym (ap (drop from) none ∙ drop_all from [] (omega arith))

pub returns-in-None-clause-advances : goal.returns-in-None-clause-advances
returns-in-None-clause-advances c = λ kept read list is.
    let at = c.args.last.end.index - 1 in
    let own : get_or (advance_lists kept) at [] ≡ [] = list_read kept at None (sym (ap (option_map (λ (k : Bor Layout). k.now)) c.in-None.is) ∙ read) in
    let none = is ∙ own in
    let from = length list - (c.args.last.end.chars - c.args.from) in
    sym (ap (drop from) none ∙ drop_all from [] (omega arith))
