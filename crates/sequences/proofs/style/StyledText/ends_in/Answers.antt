use Rattle.std.proofs.Common.{ℕ, List, ◌≡◌, ◌<◌, ◌≤◌, ◌-◌, length, get_or, ap, subst, sym, ◌∙◌, arith, rules}
use Rattle.sequences.specs.Styled.{Style}
use Rattle.sequences.specs.declared.look.Look.{Look}
use Rattle.sequences.specs.declared.look.TheConstants.{PLAIN}
use Rattle.sequences.specs.declared.style.StyleRun.{StyleRun}
use Rattle.sequences.proofs.StyleLemmas.{style_at-last, style_at-none, style_of-default, style_of-same}
use Rattle.sequences.proofs.style.StyledText.ends_in.Goals as goal

pub returns-in-Some : goal.returns-in-Some
returns-in-Some c e =
    let text = c.args.self.now in
    let run = c.in-Some.run'.now in
    let some : 0 < length text.runs.items = search rules in
    let last : run ≡ get_or text.runs.items (length text.runs.items - 1) run = search rules in
    let P : StyleRun → Type 0 = λ r. r.start ≤ length text.characters.items in
    let from : run.start ≤ length text.characters.items = subst P (sym last) (text.starts (length text.runs.items - 1) run (omega arith)) in
    style_at-last text.links.items text.runs.items run _ some last from
    ∙ style_of-same text.links.items run.look c.args.look run.link (c.has_style.ensures.look e)
    ∙ ap (linked c.args.look) (c.has_style.ensures.link e text.links.items)
  where
    linked : Look → List ℕ → Style
    linked look link = record { look = look; link = link }

pub returns-in-None : goal.returns-in-None
returns-in-None c e =
    let text = c.args.self.now in
    let none : length text.runs.items ≡ 0 = search rules in
    style_at-none text.links.items text.runs.items _ none ∙ sym (style_of-default text.links.items c.args.link (c.is_default.ensures.link e))
    ∙ sym (style_of-same text.links.items c.args.look PLAIN c.args.link (c.is_default.ensures.look e))
