use Rattle.std.specs.Prelude.{codes}
use Rattle.ucd.specs.BidiClasses.{name_of}
use Rattle.tool.specs.Reasons.{explicit_text, pair, position_text}
use Rattle.tool.proofs.ReasonLemmas.{pushed_9}
use Rattle.tool.proofs.reasons.push_removed.Goals as goal

pub returns : goal.returns
returns c =
    let reason = c.args.reason.now in
    let start = c.args.start in
    pushed_9 c.args.line.now.items (pair (codes "class") (name_of reason.class)) (codes " X none W1 none W2 none W3 none W4 none W5 none W6 none W7 none N0 none N2 none")
    (pair (codes "opener") (position_text start reason.explicit.opener)) (pair (codes "matching") (position_text start reason.matching))
    (codes " sequence none partner none inside none") (pair (codes "left") (position_text start reason.level_from)) (codes " right none") (explicit_text reason)
    (codes " sos none eos none bracket_case none neutral none") _ _ _ _ _ _ _ _ _
    c.in_ok-push_class.ensures c.in_ok-push.ensures c.in_ok-push_position.ensures c.in_ok-push_position-2.ensures c.in_ok-push-2.ensures
    c.in_ok-push_position-3.ensures c.in_ok-push-3.ensures c.in_ok-push_explicit.ensures c.in_ok-push-4.ensures
