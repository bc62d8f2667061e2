use Rattle.std.specs.Prelude.{codes}
use Rattle.std.specs.Fmt.{decimal}
use Rattle.tool.specs.Reasons.{bidi_text, pair}
use Rattle.tool.proofs.ReasonLemmas.{pushed_3}
use Rattle.tool.proofs.reasons.push_explicit.Goals as goal

pub returns : goal.returns
returns c =
    let reason = c.args.reason.now in
    pushed_3 c.args.line.now.items (pair (codes "override_class") (bidi_text reason.explicit.overriding))
    (pair (codes "embedding_level") (decimal reason.explicit.level)) (pair (codes "level") (decimal reason.level)) _ _ _
    c.in_ok-push_bidi.ensures c.in_ok-push_level_number.ensures c.in_ok-push_level_number-2.ensures
