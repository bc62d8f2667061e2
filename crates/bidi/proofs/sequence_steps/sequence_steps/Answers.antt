use Rattle.std.proofs.Common.{◌≡◌, length, map, sym, ap, ap₂, ◌∙◌}
use Rattle.std.specs.List.{range_with_len}
use Rattle.std.proofs.lemmas.List.FromFn.{length-map-range_with_len}
use Rattle.bidi.specs.Brackets.{brackets}
use Rattle.bidi.specs.BracketSteps.{bracket_step, bracket_steps}
use Rattle.bidi.specs.Reasons.{levels_in, neutral_steps, numbered, sequence_step}
use Rattle.bidi.specs.Sequences.{direction}
use Rattle.bidi.specs.Weak.{weak}
use Rattle.bidi.proofs.BracketTypeLemmas.{look_for, text_for, looked_up}
use Rattle.bidi.proofs.SequenceStepLemmas.{length-neutral_steps, steps_end}
use Rattle.bidi.proofs.FlatLemmas.{length-weak}
use Rattle.bidi.proofs.sequence_steps.sequence_steps.Goals as goal
use Rattle.bidi.proofs.sequence_steps.sequence_steps.Goals.{After-deref-6}

pub pair-requires-clause-kinds : goal.pair-requires-clause-kinds
pair-requires-clause-kinds c =
    c.requires.kinds ∙ sym (ap length (c.deref.ensures.value ∙ c.in_ok-weak.ensures.w7_is) ∙ length-weak c.args.sides.sos c.args.types.now)

pub pair-requires-clause-explicit : goal.pair-requires-clause-explicit
pair-requires-clause-explicit c = sym (ap length (c.deref.ensures.value ∙ c.in_ok-weak.ensures.w7_is) ∙ length-weak c.args.sides.sos c.args.types.now)

pub bracket_steps-requires-clause-kinds : goal.bracket_steps-requires-clause-kinds
bracket_steps-requires-clause-kinds c =
    c.requires.kinds ∙ sym (ap length (c.deref-2.ensures.value ∙ c.in_ok-weak.ensures.w7_is) ∙ length-weak c.args.sides.sos c.args.types.now)

pub bracket_steps-requires-clause-explicit : goal.bracket_steps-requires-clause-explicit
bracket_steps-requires-clause-explicit c = sym (ap length (c.deref-2.ensures.value ∙ c.in_ok-weak.ensures.w7_is) ∙ length-weak c.args.sides.sos c.args.types.now)

-- the lists that are put together have the same length
sized : (c : After-deref-6) → length c.deref-6.result.now ≡ length c.deref.result.now
sized c =
    ap length (c.deref-6.ensures.value ∙ c.in_ok-neutral.ensures)
    ∙ length-neutral_steps c.direction-embedding.result c.args.sides.sos c.args.sides.eos c.deref-3.result.now
    ∙ ap length c.deref-3.ensures.value ∙ c.in_ok-paired.ensures.size

pub gather_steps-requires-clause-brackets : goal.gather_steps-requires-clause-brackets
gather_steps-requires-clause-brackets c =
    let kinds = c.args.kinds.now in
    ap length (c.deref-5.ensures.value ∙ c.in_ok-brackets.ensures (look_for kinds) (text_for kinds) (looked_up kinds))
    ∙ length-map-range_with_len _ 0 (length c.deref-2.result.now)
    ∙ ap length c.deref-2.ensures.value ∙ sym (ap length c.deref.ensures.value)
    ∙ sym (sized c)

pub returns-clause-steps : goal.returns-clause-steps
returns-clause-steps c look text are =
    let level = c.args.sides.level in
    let sos = c.args.sides.sos in
    let eos = c.args.sides.eos in
    let types = c.args.types.now in
    let embedding = c.direction-embedding.ensures.direction in
    let w7 = c.in_ok-weak.ensures.w7_is in
    let paired = brackets look (direction level) sos text types (weak sos types) in
    let bracket = bracket_step look (direction level) sos text types (weak sos types) in
    let found : c.in_ok-paired.paired.items ≡ paired =
    c.in_ok-paired.ensures.types look text are ∙ ap (brackets look (direction level) sos text types) (c.deref.ensures.value ∙ w7) in
    let known : c.in_ok-brackets.brackets.items ≡ bracket_steps look (direction level) sos text types (weak sos types) =
    c.in_ok-brackets.ensures look text are
    ∙ ap (λ e. bracket_steps look e sos text types c.deref-2.result.now) embedding
    ∙ ap (bracket_steps look (direction level) sos text types) (c.deref-2.ensures.value ∙ w7) in
    let steps : c.in_ok-neutral.neutral.items ≡ neutral_steps (direction level) sos eos paired =
    c.in_ok-neutral.ensures ∙ ap (λ e. neutral_steps e sos eos c.deref-3.result.now) embedding
    ∙ ap (neutral_steps (direction level) sos eos) (c.deref-3.ensures.value ∙ found) in
    let size : length c.deref-6.result.now ≡ length (weak sos types) =
    ap length (c.deref-6.ensures.value ∙ c.in_ok-neutral.ensures)
    ∙ length-neutral_steps c.direction-embedding.result sos eos c.deref-3.result.now
    ∙ ap length c.deref-3.ensures.value ∙ c.in_ok-paired.ensures.size
    ∙ ap length (c.deref.ensures.value ∙ w7) in
    let at : c.deref-5.result.now ≡ map bracket (range_with_len 0 (length c.deref-6.result.now)) =
    c.deref-5.ensures.value ∙ known ∙ ap (λ n. map bracket (range_with_len 0 n)) (sym size) in
    c.in_ok-list.ensures sos types bracket c.in_ok-weak.ensures at
    ∙ ap₂ (λ p n. numbered (sequence_step level sos types p bracket) 0 n) (c.deref-4.ensures.value ∙ found) (c.deref-6.ensures.value ∙ steps)

pub returns-clause-levels : goal.returns-clause-levels
returns-clause-levels c look text are =
    let sides = c.args.sides in
    ap levels_in (returns-clause-steps c look text are) ∙ steps_end look sides.level sides.sos sides.eos text c.args.types.now
