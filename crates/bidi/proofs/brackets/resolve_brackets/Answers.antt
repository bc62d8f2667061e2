use Rattle.std.proofs.Common.{◌≡◌, ℕ, ◌<◌, ◌≤◌, ◌+◌, ◌-◌, Bool, true, not, List, length, get_or, refl, map, fold, slice_index, sym, ap, subst, ◌∙◌, arith}
use Rattle.std.specs.List.{range_with_len}
use Rattle.ucd.specs.declared.bidi_class.BidiClass.{BidiClass}
use Rattle.bidi.specs.declared.brackets.BracketPair.{BracketPair}
use Rattle.bidi.specs.Brackets.{context, is_other, pair_direction, pair_step, set_pair}
use Rattle.bidi.specs.Resolving.{IsClear}
use Rattle.bidi.specs.Weak.{is_left}
use Rattle.bidi.specs.Closers.{AreNested, closer_in, closers_by}
use Rattle.ucd.specs.Classes.{class_at, is_nonspacing_mark}
use Rattle.bidi.proofs.BracketLemmas.{Resolved, Resolved-start, Resolved-pair, Resolved-skip, unchanged, direction_is, IsClear-skip}
use Rattle.bidi.proofs.ClosersLemmas.{IsItem, item-is, length-closers_by, none-before, opener_or, opener_or-end, opener_or-within}
use Rattle.bidi.proofs.brackets.resolve_brackets.Goals as goal
use Rattle.bidi.proofs.brackets.resolve_brackets.Goals.{then-closer-types, else-closer-types}

-- a paired bracket is before its closer
paired : (types : List BidiClass) (pairs : List BracketPair) (i a b : ℕ) → AreNested types (closers_by pairs (length types))
    → IsItem pairs (length types) i a b → a < b
paired types pairs i a b nested item =
    let size = length-closers_by pairs (length types) in
    let below = item.below in
    let closer = item.closer in
    let after = nested.after a (omega arith) in
    omega arith

-- inside a pair whose opener is still ON, no type has changed
kept : (embedding sos : BidiClass) (explicit old current before : List BidiClass) (pairs : List BracketPair) (i a b m : ℕ) → AreNested old (closers_by pairs (length old))
    → IsItem pairs (length old) i a b → Resolved embedding sos explicit (closers_by pairs (length old)) old current (opener_or pairs i (length old))
    → before ≡ old → b < length old → is_other (class_at current a) ≡ true → a < m → m < b → class_at current m ≡ class_at before m
kept embedding sos explicit old current before pairs i a b m nested item resolved same inside other above below =
    let size = length-closers_by pairs (length old) in
    let low = item.below in
    let closer = item.closer in
    let now = subst (λ k. Resolved embedding sos explicit (closers_by pairs (length old)) old current k) item.opener resolved in
    unchanged (closers_by pairs (length old)) old current a m now.changed nested size (omega arith) (omega arith) other above (omega arith)
    ∙ ap (λ types. class_at types m) (sym same)

-- the pass continues from a bracket to the next one, after it has set the pair if there is one
module _ (embedding sos : BidiClass) (explicit old current : List BidiClass) (pairs : List BracketPair) (i a b : ℕ) (sizes : length explicit ≡ length old)
    (item : IsItem pairs (length old) i a b)
    (resolved : Resolved embedding sos explicit (closers_by pairs (length old)) old current (opener_or pairs i (length old))) where
  now : Resolved embedding sos explicit (closers_by pairs (length old)) old current a
  now = subst (λ k. Resolved embedding sos explicit (closers_by pairs (length old)) old current k) item.opener resolved

  to_next : (types : List BidiClass) → Resolved embedding sos explicit (closers_by pairs (length old)) old types (a + 1)
      → Resolved embedding sos explicit (closers_by pairs (length old)) old types (opener_or pairs (i + 1) (length old))
  to_next types after =
      let next = opener_or pairs (i + 1) (length old) in
      let rises = item.next in
      Resolved-skip embedding sos explicit (closers_by pairs (length old)) old types (next - (a + 1)) (a + 1) next (omega arith) item.within
      (λ m above below. item.free m (omega arith) below) after

  after_pair : (next : List BidiClass) → a < b → b < length old
      → next ≡ set_pair (map is_nonspacing_mark explicit) current a b (pair_direction (is_left embedding) sos current a b)
      → Resolved embedding sos explicit (closers_by pairs (length old)) old next (opener_or pairs (i + 1) (length old))
  after_pair next order inside made =
      let closers = closers_by pairs (length old) in
      let size = length-closers_by pairs (length old) in
      let closer = item.closer in
      to_next next (Resolved-pair embedding sos explicit closers old current a now item.below sizes (omega arith) (omega arith) next
      (made ∙ ap (λ k. set_pair (map is_nonspacing_mark explicit) current a k (pair_direction (is_left embedding) sos current a k)) (sym closer)))

  after_none : length old ≤ b → Resolved embedding sos explicit (closers_by pairs (length old)) old current (opener_or pairs (i + 1) (length old))
  after_none outside =
      let closers = closers_by pairs (length old) in
      let size = length-closers_by pairs (length old) in
      let closer = item.closer in
      let below = item.below in
      to_next current (Resolved-skip embedding sos explicit closers old current 1 a (a + 1) (omega arith) (omega arith)
      (λ m from to. let e : a ≡ m = omega arith in let same = ap (slice_index closers) e in omega arith) now)

IsClear-next : (left : Bool) (before : List BidiClass) (pairs : List BracketPair) (len i a b next : ℕ) → IsItem pairs len i a b
    → IsClear left before a next → IsClear left before (opener_or pairs (i + 1) len) next
IsClear-next left before pairs len i a b next item clear = let rises = item.next in IsClear-skip left before a next (opener_or pairs (i + 1) len) (omega arith) clear

pub stands_inside-has_same-requires-clause-after : goal.stands_inside-has_same-requires-clause-after
stands_inside-has_same-requires-clause-after c =
    let pairs = c.args.pairs.now in
    let i = c.loop-pair.pair-index in
    paired c.args.types.now pairs i _ _ c.requires.nested (item-is pairs (length c.args.types.now) i c.requires.order c.loop-pair-test.true)

pub stands_inside-has_other-requires-clause-after : goal.stands_inside-has_other-requires-clause-after
stands_inside-has_other-requires-clause-after c =
    let pairs = c.args.pairs.now in
    let i = c.loop-pair.pair-index in
    paired c.args.types.now pairs i _ _ c.requires.nested (item-is pairs (length c.args.types.now) i c.requires.order c.loop-pair-test.true)

pub stands_inside-has_same-requires-clause-kept : goal.stands_inside-has_same-requires-clause-kept
stands_inside-has_same-requires-clause-kept c other m above below =
    let pairs = c.args.pairs.now in
    let i = c.loop-pair.pair-index in
    kept c.args.embedding c.args.sos c.args.explicit.now c.args.types.now c.loop-pair.types c.args.before.now pairs i _ _ m c.requires.nested
    (item-is pairs (length c.args.types.now) i c.requires.order c.loop-pair-test.true) c.loop-pair.invariant.resolved c.requires.before (omega arith) other above below

pub stands_inside-has_other-requires-clause-kept : goal.stands_inside-has_other-requires-clause-kept
stands_inside-has_other-requires-clause-kept c other m above below =
    let pairs = c.args.pairs.now in
    let i = c.loop-pair.pair-index in
    kept c.args.embedding c.args.sos c.args.explicit.now c.args.types.now c.loop-pair.types c.args.before.now pairs i _ _ m c.requires.nested
    (item-is pairs (length c.args.types.now) i c.requires.order c.loop-pair-test.true) c.loop-pair.invariant.resolved c.requires.before (omega arith) other above below

pub pair_direction-direction-requires : goal.pair_direction-direction-requires
pair_direction-direction-requires c =
    let item = item-is c.args.pairs.now (length c.args.types.now) c.loop-pair.pair-index c.requires.order c.loop-pair-test.true in
    let below = item.below in
    omega (arith, c.loop-pair.auto.types)

pub set_pair-requires-clause-place : goal.set_pair-requires-clause-place
set_pair-requires-clause-place c =
    let item = item-is c.args.pairs.now (length c.args.types.now) c.loop-pair.pair-index c.requires.order c.loop-pair-test.true in
    let below = item.below in
    omega (arith, c.loop-pair.auto.types)

pub loop-pair-init : goal.loop-pair-init
loop-pair-init c =
    let types = c.args.types.now in
    let pairs = c.args.pairs.now in
    let len = length types in
    let first = opener_or pairs 0 len in
    record {
      resolved = Resolved-skip c.args.embedding c.args.sos c.args.explicit.now (closers_by pairs len) types types first 0 first (omega arith) (opener_or-within pairs 0 len c.requires.order)
          (λ m above below. none-before pairs len m c.requires.order below) (Resolved-start c.args.embedding c.args.sos c.args.explicit.now (closers_by pairs len) types);
      same = record { bounded = omega arith; passed = λ m above below. absurd (omega arith) };
      other = record { bounded = omega arith; passed = λ m above below. absurd (omega arith) };
    }

pub loop-pair-preserved : goal.loop-pair-preserved
loop-pair-preserved c =
    let old = c.args.types.now in
    let current = c.loop-pair.types in
    let pairs = c.args.pairs.now in
    let before = c.args.before.now in
    let len = length old in
    let i = c.loop-pair.pair-index in
    let pair : BracketPair = get_or pairs i (record { opener = 0; closer = 0 }) in
    let a = pair.opener in
    let b = pair.closer in
    let item = item-is pairs len i c.requires.order c.loop-pair-test.true in
    let left = c.is_left-left.result in
    elim c.if-closer-types.branch [
      | then-closer-types w ↦
          rw (w.types-is, w.same-is, w.other-is) (record {
            resolved = after_pair c.args.embedding c.args.sos c.args.explicit.now old current pairs i a b c.requires.explicit item c.loop-pair.invariant.resolved
                w.set_pair.new.types (paired old pairs i a b c.requires.nested item) (omega (arith, w.if-closer-types.true, c.loop-pair.auto.types))
                (w.set_pair.ensures ∙ ap (set_pair (map is_nonspacing_mark c.args.explicit.now) current a b) (w.pair_direction-direction.ensures
                ∙ direction_is c.args.sos current a b left (is_left c.args.embedding) _ _ (context c.args.sos current a) c.is_left-left.ensures refl
                w.stands_inside-has_same.ensures.value w.stands_inside-has_other.ensures.value));
            same = IsClear-next left before pairs len i a b _ item w.stands_inside-has_same.ensures.clear;
            other = IsClear-next (not left) before pairs len i a b _ item w.stands_inside-has_other.ensures.clear;
          })
      | else-closer-types w ↦
          rw (w.types-is, w.same-is, w.other-is) (record {
            resolved = after_none c.args.embedding c.args.sos c.args.explicit.now old current pairs i a b c.requires.explicit item c.loop-pair.invariant.resolved
                (omega (arith, w.if-closer-types.false, c.loop-pair.auto.types));
            same = IsClear-next left before pairs len i a b _ item (subst (λ k. IsClear left before k c.loop-pair.same) item.opener c.loop-pair.invariant.same);
            other = IsClear-next (not left) before pairs len i a b _ item (subst (λ k. IsClear (not left) before k c.loop-pair.other) item.opener c.loop-pair.invariant.other);
          })
    ]

pub returns : goal.returns
returns c =
    let old = c.args.types.now in
    let pairs = c.args.pairs.now in
    let len = length old in
    let f = λ (types : List BidiClass) (a : ℕ). pair_step c.args.embedding c.args.sos (map is_nonspacing_mark c.args.explicit.now) types a (closer_in (closers_by pairs len) a) in
    let end : opener_or pairs c.loop-pair.pair-index len ≡ len = opener_or-end pairs c.loop-pair.pair-index len c.loop-pair-test.false in
    let none : 0 ≡ len - opener_or pairs c.loop-pair.pair-index len = omega arith in
    ap (λ n. fold f c.loop-pair.types (range_with_len (opener_or pairs c.loop-pair.pair-index len) n)) none ∙ c.loop-pair.invariant.resolved.so_far
