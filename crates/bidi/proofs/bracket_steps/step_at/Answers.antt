use Rattle.std.proofs.Common.{◌≡◌, min, length, get_or, Some, None, if◌then◌else◌, sym, ap, ◌∙◌, arith}
use Rattle.std.proofs.lemmas.Bool.{cond-true, lt-ltb}
use Rattle.std.proofs.lemmas.List.FromFn.{get_or-map-range_with_len}
use Rattle.ucd.specs.Classes.{is_nonspacing_mark}
use Rattle.bidi.specs.BracketPasses.{is_paired}
use Rattle.bidi.specs.declared.bracket_steps.Decision.{Decision}
use Rattle.bidi.proofs.bracket_steps.step_at.Goals as goal

pub returns-then-partner-partners : goal.returns-then-partner-partners
returns-then-partner-partners c decision are =
    let partners = c.args.partners.now in
    let k = c.args.k in
    let p = get_or partners k 0 in
    let none : Decision = record { case = None; inside = None } in
    let read : get_or c.args.decisions.now c.min.result none ≡ decision (min k p) =
    ap (λ l. get_or l c.min.result none) are ∙ get_or-map-range_with_len decision 0 (length partners) c.min.result (min k p) none (omega (arith, c.min.ensures)) (omega (arith, c.min.ensures)) in
    ap (λ (d : Decision). record { case = d.case; partner = Some p; inside = d.inside }) read
    ∙ sym (cond-true (is_paired partners k) (record { case = (decision (min k p)).case; partner = Some p; inside = (decision (min k p)).inside })
    (record { case = c.args.unpaired; partner = if is_nonspacing_mark c.args.explicit then c.args.held else None; inside = None }) (lt-ltb p (length partners) c.if-partner-partners.true))
