use Rattle.terminal.proofs.LossyLemmas.{front_decoded}
use Rattle.terminal.proofs.decoding.decode_lossy.Goals as goal

pub returns : goal.returns
returns c =
    front_decoded c.args.bytes.now _ c.args.characters.now.items _ _ c.front-is_bad.ensures.text c.front-is_bad.ensures.bad c.if-is_bad.false c.front-is_bad.ensures.few
    c.in_ok-push_characters.ensures.ok
