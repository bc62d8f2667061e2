use Rattle.std.proofs.Common.{◌≡◌, ◌<◌, ◌&&◌, nat_lt, Some, None, length, map, get_or, sym, ap, ◌∙◌, arith}
use Rattle.std.proofs.lemmas.Bool.{and_from, cond-true, lt-ltb}
use Rattle.ucd.specs.Classes.{is_nonspacing_mark}
use Rattle.bidi.specs.BracketPasses.{closer_by, direction_in}
use Rattle.bidi.specs.BracketSteps.{pair_case}
use Rattle.bidi.specs.Brackets.{pair_step, set_pair}
use Rattle.bidi.specs.Weak.{is_left}
use Rattle.bidi.proofs.BracketStepLemmas.{direction-is}
use Rattle.bidi.proofs.bracket_steps.resolve_at.Goals as goal

pub returns-then-partner-types-clause-types : goal.returns-then-partner-types-clause-types
returns-then-partner-types-clause-types c =
    let types = c.args.types.now in
    let marks = map is_nonspacing_mark c.args.explicit.now in
    let k = c.args.k in
    let p = get_or c.args.partners.now k 0 in
    let len = length c.args.partners.now in
    let left = is_left c.args.embedding in
    let inside : p < len = omega (arith, c.if-partner-types.true, c.requires.partners) in
    let closer : closer_by c.args.partners.now k ≡ Some p =
    cond-true (nat_lt k p && nat_lt p len) (Some p) None (and_from (nat_lt k p) (nat_lt p len) (lt-ltb k p c.if-k-partner.true) (lt-ltb p len inside)) in
    c.set_pair.ensures
    ∙ ap (set_pair marks types k p) (c.direction_in.ensures ∙ ap (λ l. direction_in l c.decide-case.result.0) c.is_left-left.ensures
    ∙ ap (direction_in left) (c.decide-case.ensures.case ∙ ap (λ l. pair_case l c.args.sos types k p) c.is_left-left.ensures) ∙ sym (direction-is left c.args.sos types k p))
    ∙ sym (ap (pair_step c.args.embedding c.args.sos marks types k) closer)
