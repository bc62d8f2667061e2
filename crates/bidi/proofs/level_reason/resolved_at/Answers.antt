use Rattle.std.proofs.Common.{◌≡◌, ◌==◌, Some, None, get_or, length, sym, ap, ◌∙◌, arith}
use Rattle.std.specs.Option.{option_and_then}
use Rattle.std.proofs.lemmas.List.FromFn.{get_or-map-range_with_len}
use Rattle.bidi.specs.LevelReasons.{index_of, resolved_in}
use Rattle.bidi.specs.Sequences.{retained}
use Rattle.bidi.proofs.LevelReasonLemmas.{index_below}
use Rattle.bidi.proofs.level_reason.resolved_at.Goals as goal

pub returns-in-Some : goal.returns-in-Some
returns-in-Some c base sequences parts =
    let kept = retained c.args.parts.now.classes.now in
    let q = c.in-Some.q in
    let found : index_of kept c.args.p ≡ Some q = sym (ap (λ l. get_or l c.args.p None) parts.indices_are
    ∙ get_or-map-range_with_len (index_of kept) 0 (length c.args.parts.now.classes.now) c.args.p c.args.p None c.requires.within (omega arith)) ∙ c.in-Some.is in
    let below = index_below (λ item. item == c.args.p) 0 kept q found in
    c.reason_at.ensures ∙ ap (λ l. get_or l q None) parts.resolved_are
    ∙ get_or-map-range_with_len (resolved_in kept sequences) 0 (length kept) q q None (omega (arith, below)) (omega arith)
    ∙ sym (ap (option_and_then (resolved_in kept sequences)) found)

pub returns-in-None : goal.returns-in-None
returns-in-None c base sequences parts =
    let kept = retained c.args.parts.now.classes.now in
    let found : index_of kept c.args.p ≡ None = sym (ap (λ l. get_or l c.args.p None) parts.indices_are
    ∙ get_or-map-range_with_len (index_of kept) 0 (length c.args.parts.now.classes.now) c.args.p c.args.p None c.requires.within (omega arith)) ∙ c.in-None.is in
    sym (ap (option_and_then (resolved_in kept sequences)) found)
