use Rattle.std.proofs.Common.{◌≡◌, ◌∙◌, Some, None, arith, refl, sym}
use Rattle.bidi.proofs.PairLemmas.{greatest_found}
use Rattle.lines.specs.CharInfos.{sized}
use Rattle.lines.specs.Filling.{by_break, by_cluster, cluster_ends_at, may_end}
use Rattle.lines.proofs.SizedLemmas.{sized_break, sized_cluster, sized_first_end}
use Rattle.lines.proofs.filling.line_end.Goals as goal

pub returns-in-Some-clause-within : goal.returns-in-Some-clause-within
returns-in-Some-clause-within g c =
    omega (arith, (greatest_found (may_end c.args.rest.now) c.fitting_len-len.result c.in-Some.k (sym c.last_break.ensures ∙ c.in-Some.is)).0, c.fitting_len-len.ensures.within)

pub returns-in-Some-last_cluster_end-clause-within : goal.returns-in-Some-last_cluster_end-clause-within
returns-in-Some-last_cluster_end-clause-within g c =
    omega (
      arith,
      (greatest_found (cluster_ends_at c.args.rest.now) c.fitting_len-len.result c.in-Some-last_cluster_end.k (sym c.last_cluster_end.ensures ∙ c.in-Some-last_cluster_end.is)).0,
      c.fitting_len-len.ensures.within,
    )

pub returns-in-Some-clause-end : goal.returns-in-Some-clause-end
returns-in-Some-clause-end g c =
    let given = g.S.Sizes.given c.args.ruler.sizes in
    let rest = sized given c.args.rest.now in
    let width = c.args.ruler.width in
    let last : by_break width rest ≡ Some c.in-Some.k =
    c.fitting_len-len.ensures.last (may_end rest) ∙ sized_break given c.args.rest.now c.fitting_len-len.result ∙ sym c.last_break.ensures ∙ c.in-Some.is in
    rw last refl

pub returns-in-Some-last_cluster_end-clause-end : goal.returns-in-Some-last_cluster_end-clause-end
returns-in-Some-last_cluster_end-clause-end g c =
    let given = g.S.Sizes.given c.args.ruler.sizes in
    let rest = sized given c.args.rest.now in
    let width = c.args.ruler.width in
    let none : by_break width rest ≡ None =
    c.fitting_len-len.ensures.last (may_end rest) ∙ sized_break given c.args.rest.now c.fitting_len-len.result ∙ sym c.last_break.ensures ∙ c.in_default.is in
    let last : by_cluster width rest ≡ Some c.in-Some-last_cluster_end.k =
    c.fitting_len-len.ensures.last (cluster_ends_at rest) ∙ sized_cluster given c.args.rest.now c.fitting_len-len.result ∙ sym c.last_cluster_end.ensures ∙ c.in-Some-last_cluster_end.is in
    rw (none, last) refl

pub returns-in-None-clause-end : goal.returns-in-None-clause-end
returns-in-None-clause-end g c =
    let given = g.S.Sizes.given c.args.ruler.sizes in
    let rest = sized given c.args.rest.now in
    let width = c.args.ruler.width in
    let none : by_break width rest ≡ None =
    c.fitting_len-len.ensures.last (may_end rest) ∙ sized_break given c.args.rest.now c.fitting_len-len.result ∙ sym c.last_break.ensures ∙ c.in_default.is in
    let no_cluster : by_cluster width rest ≡ None =
    c.fitting_len-len.ensures.last (cluster_ends_at rest) ∙ sized_cluster given c.args.rest.now c.fitting_len-len.result ∙ sym c.last_cluster_end.ensures ∙ c.in-None.is in
    rw (none, no_cluster) (c.first_end.ensures.end ∙ sym (sized_first_end given c.args.rest.now))
