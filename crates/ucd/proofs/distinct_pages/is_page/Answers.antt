use Rattle.std.proofs.Common.{◌+◌, ◌*◌, ◌-◌, ◌∙◌, take, drop, sym, arith}
use Rattle.std.proofs.lemmas.Bool.{false≢true}
use Rattle.std.proofs.lemmas.List.{ext_get_or, get_or-take, get_or-drop, length-take, length-drop}
use Rattle.ucd.specs.Answers.{unnamed}
use Rattle.ucd.proofs.distinct_pages.is_page.Goals as goal

pub returns-clause-no : goal.returns-clause-no
returns-clause-no c = λ isnt is.
    let start = c.args.number * 256 in
    let entries = c.args.entries.now in
    let same = ext_get_or unnamed (take (start + 256 - start) (drop start entries)) c.args.page.now
    (omega (arith, length-take (start + 256 - start) (drop start entries), length-drop start entries, c.requires.page))
    (λ i lt. get_or-take (start + 256 - start) (drop start entries) i unnamed (omega (arith, length-take (start + 256 - start) (drop start entries)))
    ∙ get_or-drop start entries i unnamed ∙ is i (omega (arith, length-take (start + 256 - start) (drop start entries)))) in
    false≢true (sym isnt ∙ c.are_equal.ensures.all same)
