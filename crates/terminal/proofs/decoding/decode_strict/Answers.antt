use Rattle.terminal.proofs.LossyLemmas.{front_decodes}
use Rattle.terminal.proofs.decoding.decode_strict.Goals as goal

pub returns : goal.returns
returns c =
    front_decodes _ c.args.bytes.now _ c.args.characters.now.items _ c.front-is_bad.ensures.text c.front-is_bad.ensures.bad c.front-is_bad.ensures.few
    c.in_ok-push_characters.ensures.ok
