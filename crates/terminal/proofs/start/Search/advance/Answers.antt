use Rattle.std.specs.Prelude.{IfErr, IfOk, Result}
use Rattle.std.proofs.Common.{◌≡◌, ◌<◌, ◌∙◌, ◌++◌, ℕ, List, length, subst, sym}
use Rattle.bidi.specs.declared.base.Base.{Base}
use Rattle.lines.specs.Engine.{rules_of}
use Rattle.terminal.specs.Searches.{HasSearchedAll, text_direction}
use Rattle.terminal.specs.declared.direction.Searched.{Searched}
use Rattle.terminal.specs.declared.direction.TheConstants.{FIRST_CHARACTERS}
use Rattle.terminal.proofs.DirectionLemmas.{few_cut, known_cut, searched_cut}
use Rattle.terminal.proofs.start.Search.advance.Goals as goal

pub known_base-requires-clause-searched : goal.known_base-requires-clause-searched
known_base-requires-clause-searched c =
    let search = c.args.self.now in
    let takes = c.in_ok-_stops.ensures.takes in
    searched_cut (rules_of c.args.engine.now) search.searched search.text.items takes.characters c.decode.new.text.items c.deref.result.now c.requires.searched c.requires.few
    takes.added (c.deref.ensures.value ∙ c.truncate.ensures.items)

pub returns-in-Ok-clause-advances : goal.returns-in-Ok-clause-advances
returns-in-Ok-clause-advances c =
    let rules = rules_of c.args.engine.now in
    let Known : Base → Type 0 = λ base. (more : List ℕ) → base ≡ text_direction rules (c.deref.result.now ++ more) in
    let known : Known c.in-Ok.base = subst (λ (found : Result Base Searched). IfOk found Known) c.in-Ok.is c.in_ok-base.ensures.base in
    record {
      text = c.decode.new.text.items;
      takes = c.in_ok-_stops.ensures.takes;
      finds = known_cut rules c.decode.new.text.items c.deref.result.now c.in-Ok.base (c.deref.ensures.value ∙ c.truncate.ensures.items) known;
    }

pub returns-in-Err-clause-advances : goal.returns-in-Err-clause-advances
returns-in-Err-clause-advances c =
    let rules = rules_of c.args.engine.now in
    let cut = c.deref.result.now in
    let few : length cut < FIRST_CHARACTERS =
    subst (λ (found : Result Base Searched). IfErr found (λ now. length cut < FIRST_CHARACTERS)) c.in-Err.is c.in_ok-base.ensures.few in
    let all : HasSearchedAll rules c.in-Err.searched cut =
    subst (λ (found : Result Base Searched). IfErr found (λ now. HasSearchedAll rules now cut)) c.in-Err.is c.in_ok-base.ensures.searched in
    let whole = few_cut c.decode.new.text.items cut (c.deref.ensures.value ∙ c.truncate.ensures.items) few in
    record {
      text = c.decode.new.text.items;
      takes = c.in_ok-_stops.ensures.takes;
      finds = (sym c.deref.ensures.value ∙ whole.0, whole.1, subst (HasSearchedAll rules c.in-Err.searched) whole.0 all);
    }
