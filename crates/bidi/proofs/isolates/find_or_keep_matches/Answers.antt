use Rattle.std.proofs.Common.{length, ap, ◌∙◌}
use Rattle.std.proofs.lemmas.List.FromFn.{length-map-range_with_len}
use Rattle.bidi.specs.Isolates.{match_at}
use Rattle.bidi.proofs.isolates.find_or_keep_matches.Goals as goal

pub returns-then-is_found-clause-length : goal.returns-then-is_found-clause-length
returns-then-is_found-clause-length c =
    ap length (c.requires c.if-is_found.true) ∙ length-map-range_with_len (match_at c.args.classes.now) 0 (length c.args.classes.now)
