use Rattle.std.proofs.Common.{◌≡◌, ◌<◌, ℕ, ◌+◌, true, false, List, ap, sym, ◌∙◌, ◌⊎◌, inl, inr, arith}
use Rattle.ucd.specs.declared.bidi_class.BidiClass.{BidiClass}
use Rattle.bidi.specs.declared.explicit.Openers.{Openers}
use Rattle.bidi.specs.declared.explicit.Status.{Status}
use Rattle.bidi.specs.Explicit.{level_above, inside}
use Rattle.bidi.specs.Openers.{Holds, innermost}
use Rattle.bidi.proofs.OpenersLemmas.{counts-le, is_void, Holds-entered, Holds-void_isolate, Holds-void_embedding, Holds-void_inside, innermost-level, level-le, statuses-length, level_above-rises}
use Rattle.bidi.proofs.explicit.Openers.open.Goals as goal
use Rattle.bidi.proofs.explicit.Openers.open.Goals.{else-level-le-MAX_DEPTH-via-then-level-le-MAX_DEPTH+then-self-eq0+else-self-eq0-2 as void_embedding, else-level-le-MAX_DEPTH-via-then-level-le-MAX_DEPTH+else-self-eq0 as void_isolate, else-level-le-MAX_DEPTH-via-else-level-le-MAX_DEPTH as above}

-- the opener overflows because it is inside one that overflows, or because its level would be above 125
cause : (base : ℕ) (openers : Openers) (chain : List BidiClass) → Holds base openers chain → (opener : BidiClass) (status : Status) (level : ℕ) → status ≡ innermost base chain
    → level ≡ level_above opener status.level → (0 < openers.overflowed_isolates + openers.overflowed_embeddings) ⊎ (125 < level)
    → ((inside base chain).is_void ≡ true) ⊎ (125 < level_above opener (inside base chain).level)
cause base openers chain holds opener status level inner is why =
    elim why [
      | inl some ↦ inl (is_void base openers chain holds some)
      | inr high ↦ inr (
          let e : level ≡ level_above opener (inside base chain).level = is ∙ ap (λ (s : Status). level_above opener s.level) inner ∙ ap (level_above opener) (innermost-level base chain) in
          omega arith)
    ]

pub level_above-level-requires : goal.level_above-level-requires
level_above-level-requires c =
    rw (c.status.ensures c.requires.base c.requires.chain c.requires.holds, innermost-level)
    (let low = c.requires.low in level-le c.requires.base (omega arith) c.requires.chain)

pub push-requires : goal.push-requires
push-requires c = (
  omega arith,
  let e = ap (λ (s : Status). s.level) (c.status.ensures c.requires.base c.requires.chain c.requires.holds) ∙ innermost-level c.requires.base c.requires.chain in
      rw c.requires.holds.statuses_are
      (omega (arith, c.level_above-level.ensures, e, statuses-length c.requires.base c.requires.chain, level_above-rises c.args.opener c.status.result.level)),
)

pub overflow_add-self : goal.overflow_add-self
overflow_add-self c = omega (arith, c.requires.short, c.requires.holds.isolates_are, counts-le c.requires.base c.requires.chain)

pub overflow_add-self-then-is_isolate-2 : goal.overflow_add-self-then-is_isolate-2
overflow_add-self-then-is_isolate-2 c = omega (arith, c.requires.short, c.requires.holds.overflowed_isolates_are, counts-le c.requires.base c.requires.chain)

pub overflow_add-self-then-self-eq0-3 : goal.overflow_add-self-then-self-eq0-3
overflow_add-self-then-self-eq0-3 c = omega (arith, c.requires.short, c.requires.holds.overflowed_embeddings_are, counts-le c.requires.base c.requires.chain)

pub returns-then-is_isolate : goal.returns-then-is_isolate
returns-then-is_isolate c base chain holds =
    Holds-entered base _ chain holds c.args.opener _ _ _ _ c.push.new.self.items c.if-self-eq0.true c.if-self-eq0-2.true (c.status.ensures base chain holds)
    c.level_above-level.ensures c.if-level-le-MAX_DEPTH.true c.override_of.ensures c.is_initiator-is_isolate.ensures c.push.ensures.items true c.if-is_isolate.true

pub returns-else-is_isolate : goal.returns-else-is_isolate
returns-else-is_isolate c base chain holds =
    Holds-entered base _ chain holds c.args.opener _ _ _ _ c.push.new.self.items c.if-self-eq0.true c.if-self-eq0-2.true (c.status.ensures base chain holds)
    c.level_above-level.ensures c.if-level-le-MAX_DEPTH.true c.override_of.ensures c.is_initiator-is_isolate.ensures c.push.ensures.items false c.if-is_isolate.false

pub returns-then-is_isolate-2 : goal.returns-then-is_isolate-2
returns-then-is_isolate-2 c base chain holds =
    Holds-void_isolate base _ chain holds c.args.opener
    (cause base _ chain holds c.args.opener _ _ (c.status.ensures base chain holds) c.level_above-level.ensures
    (elim c.else-level-le-MAX_DEPTH.branch [ void_embedding w ↦ inl (omega arith) | void_isolate w ↦ inl (omega arith) | above w ↦ inr (omega arith) ]))
    (sym c.is_initiator-is_isolate.ensures ∙ c.if-is_isolate-2.true)

pub returns-then-self-eq0-3 : goal.returns-then-self-eq0-3
returns-then-self-eq0-3 c base chain holds =
    Holds-void_embedding base _ chain holds c.args.opener
    (cause base _ chain holds c.args.opener _ _ (c.status.ensures base chain holds) c.level_above-level.ensures
    (elim c.else-level-le-MAX_DEPTH.branch [ void_embedding w ↦ inl (omega arith) | void_isolate w ↦ inl (omega arith) | above w ↦ inr (omega arith) ]))
    (sym c.is_initiator-is_isolate.ensures ∙ c.if-is_isolate-2.false) c.if-self-eq0-3.true

pub returns-else-self-eq0-3 : goal.returns-else-self-eq0-3
returns-else-self-eq0-3 c base chain holds =
    Holds-void_inside base _ chain holds c.args.opener
    (cause base _ chain holds c.args.opener _ _ (c.status.ensures base chain holds) c.level_above-level.ensures
    (elim c.else-level-le-MAX_DEPTH.branch [ void_embedding w ↦ inl (omega arith) | void_isolate w ↦ inl (omega arith) | above w ↦ inr (omega arith) ]))
    (sym c.is_initiator-is_isolate.ensures ∙ c.if-is_isolate-2.false) (omega arith)
