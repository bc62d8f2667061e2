use Rattle.std.proofs.Common.{◌≡◌, ℕ, ◌+◌, ◌-◌, ◌*◌, ◌/◌, ◌%◌, get_or, ap, ◌∙◌, arith}
use Rattle.ucd.specs.Answers.{unnamed}
use Rattle.ucd.proofs.pages.block_has_separator.Goals as goal

pub returns-clause-yes : goal.returns-clause-yes
returns-clause-yes c = λ some all. c.has_separator.ensures.yes some (λ i from to separates.
    let number : ℕ = get_or c.args.index.now c.args.place 0 in
    let x : ℕ = c.args.place * 256 + (i - number * 256) in
    let block : x / 256 ≡ c.args.place = omega arith in
    let at : number * 256 + x % 256 ≡ i = omega arith in
    all x (omega arith) (omega arith) (rw block (ap (λ j. (get_or c.args.entries.now j unnamed).bidi_class) at ∙ separates)))
