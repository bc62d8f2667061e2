use Rattle.std.proofs.Common.{arith}
use Rattle.terminal.proofs.LossyLemmas.{all_decoded, decoded_error, decoded_none, error_bounds}
use Rattle.terminal.proofs.decoding.decode_parts.Goals as goal

pub loop-at-init : goal.loop-at-init
loop-at-init c = decoded_none c.args.bytes.now c.args.characters.now.items

pub returns-in-None : goal.returns-in-None
returns-in-None c =
    all_decoded c.args.bytes.now _ c.args.characters.now.items c.loop-at.characters.items _ _ c.loop-at.at _ c.loop-at.invariant c.split_at.ensures.back
    c.valid_prefix-error_len.ensures c.in_ok-push_characters.ensures.ok c.in-None.is

pub overflow_add-at-in-Some : goal.overflow_add-at-in-Some
overflow_add-at-in-Some c =
    let bounds = error_bounds c.args.bytes.now _ _ c.loop-at.at c.in-Some.len _ c.loop-at.invariant.within c.split_at.ensures.back c.valid_prefix-error_len.ensures c.in-Some.is in
    omega (arith, bounds.1)

pub loop-at-smaller : goal.loop-at-smaller
loop-at-smaller c =
    let bounds = error_bounds c.args.bytes.now _ _ c.loop-at.at c.in-Some.len _ c.loop-at.invariant.within c.split_at.ensures.back c.valid_prefix-error_len.ensures c.in-Some.is in
    omega (arith, bounds.0, bounds.1)

pub loop-at-preserved : goal.loop-at-preserved
loop-at-preserved c =
    decoded_error c.args.bytes.now _ c.args.characters.now.items c.loop-at.characters.items c.push_characters.new.characters.items _ _ c.loop-at.at c.in-Some.len _
    c.loop-at.invariant c.split_at.ensures.back c.valid_prefix-error_len.ensures c.in_ok-push_characters.ensures.ok c.in-Some.is
    c.in_ok-push-in-Some.ensures.items
