use Rattle.std.proofs.Common.{◌≡◌, ℕ, ◌+◌, ◌<◌, true, false, List, length, get_or, Option, Some, None, is_some, if◌then◌else◌, refl, sym, ap, ◌∙◌, inl, inr, arith}
use Rattle.std.proofs.lemmas.Bool.{cond-true, cond-false, cases_Bool, true≢false}
use Rattle.std.proofs.lemmas.List.{get_or_default}
use Rattle.ucd.specs.declared.bidi_class.BidiClass.{BidiClass}
use Rattle.ucd.specs.declared.bidi_class.BidiClass.TheVariants.{L, ON}
use Rattle.bidi.specs.Base.{strong_level}
use Rattle.ucd.specs.Classes.{class_at, is_initiator, is_strong}
use Rattle.bidi.specs.Isolates.{match_at, matches_of}
use Rattle.bidi.proofs.JumpLemmas.{Walks, Walks-strong, Walks-step, Walks-jump, Walks-end, get_or-matches_of, match_at-le, end-above}
use Rattle.bidi.proofs.isolates.first_strong_level.Goals as goal

-- the entry at k in the list of matches is the match at k
match_there : (classes : List BidiClass) (matches : List ℕ) (k : ℕ) → matches ≡ matches_of classes → k < length classes → get_or matches k 0 ≡ match_at classes k
match_there classes matches k e within = ap (λ found. get_or found k 0) e ∙ get_or-matches_of classes k 0 within

-- if the search finds a level for a class, the class is strong
strong : (class : BidiClass) (level : Option ℕ) → level ≡ (if is_strong class then Some (strong_level class) else None) → is_some level ≡ true → is_strong class ≡ true
strong class level e some =
    elim (cases_Bool (is_strong class)) [
      | inl yes_strong ↦ yes_strong
      | inr weak ↦ absurd (true≢false (sym some ∙ ap is_some (e ∙ cond-false (is_strong class) (Some (strong_level class)) None weak)))
    ]

weak : (class : BidiClass) (level : Option ℕ) → level ≡ (if is_strong class then Some (strong_level class) else None) → is_some level ≡ false → is_strong class ≡ false
weak class level e none =
    elim (cases_Bool (is_strong class)) [
      | inr is_weak ↦ is_weak
      | inl yes_strong ↦ absurd (true≢false (sym (ap is_some (e ∙ cond-true (is_strong class) (Some (strong_level class)) None yes_strong)) ∙ none))
    ]

before : (classes : List BidiClass) (matches : List ℕ) (i at : ℕ) → matches ≡ matches_of classes → i < length classes → at < get_or matches i 0 → at < match_at classes i
before classes matches i at e within below = rw (match_there classes matches i e within) at below

pub bounds-classes-at : goal.bounds-classes-at
bounds-classes-at c =
    omega (
      arith,
      match_at-le c.args.classes.now c.args.initiator c.requires.within,
      before c.args.classes.now c.args.matches.now c.args.initiator c.loop-at.at c.requires.matches c.requires.within c.loop-at-test.true,
    )

-- an index before the match of an initiator is below the length of the list
inside : (classes : List BidiClass) (matches : List ℕ) (i at : ℕ) → matches ≡ matches_of classes → i < length classes → at < get_or matches i 0 → at < length classes
inside classes matches i at e within below = omega (arith, match_at-le classes i within, before classes matches i at e within below)

pub returns-then-is_some : goal.returns-then-is_some
returns-then-is_some c =
    let within = inside c.args.classes.now c.args.matches.now c.args.initiator c.loop-at.at c.requires.matches c.requires.within c.loop-at-test.true in
    let e = rw (get_or_default c.args.classes.now c.loop-at.at L ON within) at c.strong_level-level.ensures in
    let some = strong (class_at c.args.classes.now c.loop-at.at) c.strong_level-level.result e (sym c.is_some.ensures ∙ c.if-is_some.true) in
    e ∙ cond-true (is_strong (class_at c.args.classes.now c.loop-at.at)) (Some (strong_level (class_at c.args.classes.now c.loop-at.at))) None some
    ∙ sym (Walks-strong c.args.classes.now c.args.initiator c.requires.within c.requires.opens c.loop-at.at
    (before c.args.classes.now c.args.matches.now c.args.initiator c.loop-at.at c.requires.matches c.requires.within c.loop-at-test.true) c.loop-at.invariant some)

pub place_after-at-requires-clause-found : goal.place_after-at-requires-clause-found
place_after-at-requires-clause-found c =
    let here = inside c.args.classes.now c.args.matches.now c.args.initiator c.loop-at.at c.requires.matches c.requires.within c.loop-at-test.true in
    omega (arith, match_there c.args.classes.now c.args.matches.now c.loop-at.at c.requires.matches here, match_at-le c.args.classes.now c.loop-at.at here)

-- one step of the search moves past a character or a nested isolate, and `Walks` still holds
stepped : (classes : List BidiClass) (matches : List ℕ) (i at next : ℕ) (class : BidiClass) (level : Option ℕ) → matches ≡ matches_of classes → (within : i < length classes)
    → (opens : is_initiator (class_at classes i) ≡ true) → at < get_or matches i 0 → Walks classes i at → class ≡ get_or classes at L
    → level ≡ (if is_strong class then Some (strong_level class) else None) → is_some level ≡ false
    → next ≡ (if is_initiator class then get_or matches at 0 + 1 else at + 1) → (at < next) × Walks classes i next
stepped classes matches i at next class level e within opens below walk c f none g =
    let here = inside classes matches i at e within below in
    let same : class ≡ class_at classes at = c ∙ get_or_default classes at L ON here in
    let flat : is_strong (class_at classes at) ≡ false = ap is_strong (sym same) ∙ weak class level f none in
    let near = before classes matches i at e within below in
    elim (cases_Bool (is_initiator class)) [
      | inl inner ↦
          let opens_there : is_initiator (class_at classes at) ≡ true = ap is_initiator (sym same) ∙ inner in
          let h : next ≡ match_at classes at + 1 = g ∙ cond-true (is_initiator class) (get_or matches at 0 + 1) (at + 1) inner ∙ ap (λ n. n + 1) (match_there classes matches at e here) in
          rw h (omega (arith, end-above classes at here opens_there), Walks-jump classes i within opens at near walk opens_there)
      | inr other ↦
          let h : next ≡ at + 1 = g ∙ cond-false (is_initiator class) (get_or matches at 0 + 1) (at + 1) other in
          rw h (omega arith, Walks-step classes i within opens at near walk flat (ap is_initiator (sym same) ∙ other))
    ]

pub loop-at-smaller : goal.loop-at-smaller
loop-at-smaller c =
    let next = stepped c.args.classes.now c.args.matches.now c.args.initiator c.loop-at.at c.place_after-at.result _
    c.strong_level-level.result c.requires.matches c.requires.within c.requires.opens c.loop-at-test.true
    c.loop-at.invariant refl
    c.strong_level-level.ensures (sym c.is_some.ensures ∙ c.if-is_some.false) c.place_after-at.ensures in
    let here = inside c.args.classes.now c.args.matches.now c.args.initiator c.loop-at.at c.requires.matches c.requires.within c.loop-at-test.true in
    omega (arith, next.0)

pub loop-at-preserved : goal.loop-at-preserved
loop-at-preserved c =
    (stepped c.args.classes.now c.args.matches.now c.args.initiator c.loop-at.at c.place_after-at.result _
    c.strong_level-level.result c.requires.matches c.requires.within c.requires.opens c.loop-at-test.true
    c.loop-at.invariant refl
    c.strong_level-level.ensures (sym c.is_some.ensures ∙ c.if-is_some.false) c.place_after-at.ensures).1

pub returns : goal.returns
returns c = sym (Walks-end c.args.classes.now c.args.initiator c.requires.within c.requires.opens c.loop-at.at
    (rw (match_there c.args.classes.now c.args.matches.now c.args.initiator c.requires.matches c.requires.within) at c.loop-at-test.false) c.loop-at.invariant)
