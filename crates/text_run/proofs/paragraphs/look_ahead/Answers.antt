use Rattle.std.proofs.Common.{◌≡◌, ◌∙◌, ◌+◌, ◌++◌, [], ◌∷◌, ℕ, suc, List, Some, length, drop, map-id, sym, subst, ap, arith}
use Rattle.std.specs.Str.{chars}
use Rattle.std.proofs.lemmas.Iterator.{YieldsList-from_chars}
use Rattle.std.proofs.lemmas.Iterator.Consumers.{YieldsList-end, YieldsList-so_far, YieldsList-turn}
use Rattle.std.proofs.lemmas.List.{append_assoc, length-append}
use Rattle.lines.specs.Engine.{rules_of}
use Rattle.lines.specs.Layouts.{cut_by}
use Rattle.text_run.specs.Streaming.{IsEnded, IsOpen, StartsLong}
use Rattle.text_run.proofs.LongLemmas.{HasTaken, at_hand, cut_before, one_too_many, take_one}
use Rattle.text_run.proofs.paragraphs.look_ahead.Goals as goal

pub returns-then-is_cut_after-clause-ended : goal.returns-then-is_cut_after-clause-ended
returns-then-is_cut_after-clause-ended c = λ is.
    let is_cut = cut_by (rules_of c.args.engine.now) in
    let taken = c.loop-c.yielded in
    let yields = YieldsList-from_chars c.args.more.now c.utf8.more cc in
    let all = at_hand (chars c.args.more.now) taken c.in-Some.c (YieldsList-so_far yields taken _ c.loop-c.yielded_by)
    (YieldsList-turn yields taken _ c.loop-c.yielded_by _ _ c.in-Some.c c.in-Some.is c.next.ensures.steps) in
    let more = drop (suc (length taken)) (chars c.args.more.now) in
    let cut = c.is_cut_after.ensures.cut c.if-is_cut_after.true in
    let text_is : c.args.text.now ++ chars c.args.more.now ≡ (c.args.text.now ++ c.loop-c.yielded) ++ c.in-Some.c ∷ more =
    ap (λ t. c.args.text.now ++ t) all ∙ sym (append_assoc c.args.text.now c.loop-c.yielded (c.in-Some.c ∷ more)) in
    subst (λ (t : List ℕ). IsEnded is_cut t) (sym text_is)
    (cut_before is_cut c.paragraphs_are_pieces.ensures (c.args.text.now ++ c.loop-c.yielded) more c.loop-c.last c.loop-c.len c.in-Some.c cut.0 c.loop-c.invariant cut.1 cut.2
    (omega (arith, c.requires.few, ap length all, length-append c.loop-c.yielded (c.in-Some.c ∷ more))))

pub returns-then-len-eq-PARAGRAPH_LIMIT-clause-long :
    goal.returns-then-len-eq-PARAGRAPH_LIMIT-clause-long
returns-then-len-eq-PARAGRAPH_LIMIT-clause-long c = λ is.
    let is_cut = cut_by (rules_of c.args.engine.now) in
    let taken = c.loop-c.yielded in
    let yields = YieldsList-from_chars c.args.more.now c.utf8.more cc in
    let all = at_hand (chars c.args.more.now) taken c.in-Some.c (YieldsList-so_far yields taken _ c.loop-c.yielded_by)
    (YieldsList-turn yields taken _ c.loop-c.yielded_by _ _ c.in-Some.c c.in-Some.is c.next.ensures.steps) in
    let more = drop (suc (length taken)) (chars c.args.more.now) in
    let text_is : c.args.text.now ++ chars c.args.more.now ≡ (c.args.text.now ++ c.loop-c.yielded) ++ c.in-Some.c ∷ more =
    ap (λ t. c.args.text.now ++ t) all ∙ sym (append_assoc c.args.text.now c.loop-c.yielded (c.in-Some.c ∷ more)) in
    subst (λ (t : List ℕ). StartsLong is_cut t) (sym text_is)
    (one_too_many is_cut (c.args.text.now ++ c.loop-c.yielded) more c.loop-c.last c.loop-c.len c.in-Some.c
    c.loop-c.invariant (c.is_cut_after.ensures.none c.if-is_cut_after.false) c.if-len-eq-PARAGRAPH_LIMIT.true)

pub loop-c-preserved : goal.loop-c-preserved
loop-c-preserved c =
    let is_cut = cut_by (rules_of c.args.engine.now) in
    subst (λ (t : List ℕ). HasTaken is_cut t (Some c.in-Some.c) (c.loop-c.len + 1)) (append_assoc c.args.text.now c.loop-c.yielded (c.in-Some.c ∷ []))
    (take_one is_cut (c.args.text.now ++ c.loop-c.yielded) c.loop-c.last c.loop-c.len c.in-Some.c c.loop-c.invariant (c.is_cut_after.ensures.none c.if-is_cut_after.false)
    (omega (arith, c.loop-c.invariant.short, c.if-len-eq-PARAGRAPH_LIMIT.false)))

pub returns-clause-open : goal.returns-clause-open
returns-clause-open c = λ is.
    let is_cut = cut_by (rules_of c.args.engine.now) in
    let last = YieldsList-end (YieldsList-from_chars c.args.more.now c.utf8.more cc) c.loop-c.yielded _ c.loop-c.yielded_by _ _ c.in-None.is c.next.ensures.steps in
    subst (λ (t : List ℕ). IsOpen is_cut (c.args.text.now ++ t)) (sym (map-id c.loop-c.yielded) ∙ last.0)
    (record { uncut = c.loop-c.invariant.uncut; short = omega (arith, c.loop-c.invariant.short, c.loop-c.invariant.len_is) })
