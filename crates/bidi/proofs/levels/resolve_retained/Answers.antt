use Rattle.std.proofs.Common.{◌∙◌}
use Rattle.std.proofs.lemmas.List.{with_items_is}
use Rattle.bidi.proofs.BracketTypeLemmas.{ok_then}
use Rattle.bidi.proofs.levels.resolve_retained.Goals as goal

pub returns : goal.returns
returns c = ok_then c.resolve_runs.result c.resolve_runs.ensures (λ all look text are.
    with_items_is c.extend_from_slice.new.self c.resolve_runs.new.done (c.resolve_runs.auto.done ∙ c.deref_mut-2.ensures.len) ∙ all look text are)
