use Rattle.std.proofs.Common.{Bool, false, IfOk, sym, subst}
use Rattle.terminal.specs.Decoding.{Decodes}
use Rattle.terminal.proofs.LossyLemmas.{lossy_decodes}
use Rattle.terminal.proofs.decoding.decode.Goals as goal

pub returns-then-strict : goal.returns-then-strict
returns-then-strict c =
    subst (λ (strict : Bool). IfOk c.decode_strict.result (λ decoded. Decodes strict c.args.bytes.now decoded.0 decoded.1 c.args.characters.now.items c.decode_strict.new.characters.items))
    (sym c.if-strict.true) c.decode_strict.ensures

pub returns : goal.returns
returns c =
    subst (λ (strict : Bool). Decodes strict c.args.bytes.now c.in_ok-n.n false c.args.characters.now.items c.decode_lossy.new.characters.items) (sym c.if-strict.false)
    (lossy_decodes c.args.bytes.now c.args.characters.now.items c.decode_lossy.new.characters.items c.in_ok-n.n c.in_ok-n.ensures)
