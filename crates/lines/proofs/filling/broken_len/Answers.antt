use Rattle.std.proofs.Common.{◌≡◌, ◌<◌, Some, length, sym, ◌∙◌, arith}
use Rattle.bidi.proofs.PairLemmas.{greatest_found}
use Rattle.lines.specs.CharInfos.{sized}
use Rattle.lines.specs.Filling.{by_break, may_end}
use Rattle.lines.proofs.BareLemmas.{line_by_stop, line_by_break}
use Rattle.lines.proofs.SizedLemmas.{sized_alike, sized_break, sized_stop}
use Rattle.lines.proofs.filling.broken_len.Goals as goal
use Rattle.lines.proofs.filling.broken_len.Given.{Over}
use Rattle.lines.proofs.filling.broken_len.Goals.{In_ok-k}

-- the break opportunity that was found is after one of the remaining characters
found : (g : Over) (c : In_ok-k g) → c.in_ok-k.k < length c.args.rest.now
found g c =
    omega (arith, (greatest_found (may_end c.args.rest.now) c.fitting_len.result c.in_ok-k.k (sym c.last_break.ensures ∙ c.in_ok-k.was)).0, c.fitting_len.ensures.within)

pub returns-then-nobreak-clause-len : goal.returns-then-nobreak-clause-len
returns-then-nobreak-clause-len g c known alike =
    let given = g.S.Sizes.given c.args.ruler.sizes in
    rw c.if-nobreak.true (line_by_stop c.args.ruler.width c.first_must.result (sized given c.args.rest.now) (sized given known) (sized_alike given c.args.rest.now known alike)
    (c.first_must.ensures.end ∙ sym (sized_stop given c.args.rest.now)))

pub overflow_add-result-2 : goal.overflow_add-result-2
overflow_add-result-2 g c = omega (arith, c.requires, found g c)

pub returns-clause-len : goal.returns-clause-len
returns-clause-len g c known alike =
    let given = g.S.Sizes.given c.args.ruler.sizes in
    let rest = sized given c.args.rest.now in
    let last : by_break c.args.ruler.width rest ≡ Some c.in_ok-k.k =
    c.fitting_len.ensures.last (may_end rest) ∙ sized_break given c.args.rest.now c.fitting_len.result ∙ sym c.last_break.ensures ∙ c.in_ok-k.was in
    rw c.if-nobreak.false (line_by_break c.args.ruler.width c.in_ok-k.k rest (sized given known) (sized_alike given c.args.rest.now known alike) last)

pub returns-clause-within : goal.returns-clause-within
returns-clause-within g c = (omega arith, omega (arith, found g c))

pub returns-in_err-k-clause-none : goal.returns-in_err-k-clause-none
returns-in_err-k-clause-none g c _ =
    let given = g.S.Sizes.given c.args.ruler.sizes in
    let rest = sized given c.args.rest.now in (
      c.if-nobreak.false,
      c.fitting_len.ensures.last (may_end rest) ∙ sized_break given c.args.rest.now c.fitting_len.result ∙ sym c.last_break.ensures ∙ c.in_err-k.was,
    )
