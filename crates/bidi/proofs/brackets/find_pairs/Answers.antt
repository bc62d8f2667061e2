use Rattle.std.proofs.Common.{◌≡◌, ◌<◌, ◌≤◌, ◌==◌, ◌+◌, ◌-◌, ℕ, Bool, false, ◌||◌, List, ◌++◌, ◌∷◌, [], length, get_or, Option, None, if◌then◌else◌, suc, refl, sym, ap, subst, ◌∙◌, arith}
use Rattle.std.proofs.lemmas.Bool.{or_parts}
use Rattle.std.proofs.lemmas.List.{with_items_is}
use Rattle.ucd.specs.declared.bidi_class.BidiClass.{BidiClass}
use Rattle.ucd.specs.declared.bracket.Bracket.{Bracket}
use Rattle.ucd.specs.declared.bidi_class.BidiClass.TheVariants.{L}
use Rattle.bidi.specs.declared.bracket_type.BracketType.{BracketType}
use Rattle.bidi.specs.declared.bracket_type.BracketType.TheVariants.{Other, Opening, Closing}
use Rattle.bidi.specs.declared.brackets.Opener.{Opener}
use Rattle.bidi.specs.Brackets.{is_other}
use Rattle.bidi.specs.BracketTypes.{bracket_at, bracket_types, is_bracket}
use Rattle.bidi.specs.Closers.{AreNested, closed_by, closers_by, closers_of, left_by, newest, pair_of}
use Rattle.bidi.specs.Brackets.{canonical, pairs_of}
use Rattle.bidi.specs.declared.brackets.BracketPair.{BracketPair}
use Rattle.bidi.proofs.BracketTypeLemmas.{look_for, text_for, looked_up}
use Rattle.bidi.proofs.ClosersLemmas.{AreFound, AreFound-start, AreInOrder-closed, AreInOrder-push, AreInOrder-skip, closers_by-closed, closers_by-push, indices-closed, indices-push, length-closed, places_in, places_in-closed, places_in-push}
use Rattle.bidi.proofs.PairLemmas.{Walks, Walks-other, Walks-skip, Walks-open, Walks-close, all-full, all-end, closed_at, greatest_found, nested, before}
use Rattle.bidi.proofs.LookedUpLemmas.{LookedUp, looked_up_of, other_looked_up, opens_by, closes_by}
use Rattle.bidi.proofs.brackets.find_pairs.Goals as goal
use Rattle.bidi.proofs.brackets.find_pairs.Goals.{After-next_bracket-place-in-loop-place, in-Opening+else-len-ge-MAX_OPENERS+in_ok-push-in-Opening+in_ok-push-in-Opening-2, in-Closing, in-Other}

module _ (kinds : List BracketType) (types : List BidiClass) (size : length kinds ≡ length types) where
  -- characters that are not brackets leave the state unchanged
  AreFound-skip : (k j : ℕ) (openers : List Opener) (pairs : List BracketPair) (has_pairs : Bool) → k ≤ j → j ≤ length types
      → ((m : ℕ) → k ≤ m → m < j → is_bracket (bracket_at kinds m) ≡ false)
      → AreFound kinds types k openers pairs has_pairs → AreFound kinds types j openers pairs has_pairs
  AreFound-skip k j openers pairs has_pairs order within none now = record {
    order = AreInOrder-skip pairs k j order now.order;
    indices = now.indices;
    none = now.none;
    walks = λ look text are. Walks-skip look text types (j - k) k j (places_in pairs openers) openers (closers_by pairs (length types)) (omega arith)
        (λ m above below. (other_looked_up look text kinds types m (omega arith) size are (none m above below)).opens)
        (λ m above below. (other_looked_up look text kinds types m (omega arith) size are (none m above below)).closes) (now.walks look text are);
  }

  -- the lemmas on steps end in a state after `suc k` characters, and the program in one after `k + 1`
  next : (look : ℕ → Option Bracket) (text : List ℕ) (k : ℕ) (places : List ℕ) (openers : List Opener) (closers : List ℕ)
      → Walks look text types (suc k) places openers closers → Walks look text types (k + 1) places openers closers
  next look text k places openers closers now = let e : k + 1 ≡ suc k = omega arith in rw e now

  module _ (k : ℕ) (answer : BracketType) (openers : List Opener) (pairs : List BracketPair) (has_pairs : Bool) (within : k < length types)
      (is : answer ≡ (if is_other (get_or types k L) then get_or kinds k Other else Other)) (now : AreFound kinds types k openers pairs has_pairs) where
    looked_up_at : (look : ℕ → Option Bracket) (text : List ℕ) → kinds ≡ bracket_types look text → LookedUp look text types k answer
    looked_up_at look text are = looked_up_of look text kinds types k answer within size are is

    AreFound-other : answer ≡ Other → AreFound kinds types (k + 1) openers pairs has_pairs
    AreFound-other other = record {
      order = AreInOrder-skip pairs k (k + 1) (omega arith) now.order;
      indices = now.indices;
      none = now.none;
      walks = λ look text are.
          let looked_up = looked_up_at look text are in
          next look text k (places_in pairs openers) openers (closers_by pairs (length types))
          (Walks-other look text types k (places_in pairs openers) openers (closers_by pairs (length types))
          (looked_up.opens ∙ ap opens_by other) (looked_up.closes ∙ ap closes_by other) (now.walks look text are));
    }

    AreFound-open : (number : ℕ) → answer ≡ Opening number → length openers < 63
        → AreFound kinds types (k + 1) (openers ++ record { index = length pairs; pair = number } ∷ []) (pairs ++ record { opener = k; closer = length types } ∷ []) has_pairs
    AreFound-open number opening room =
        let opener : Opener = record { index = length pairs; pair = number } in
        let pair : BracketPair = record { opener = k; closer = length types } in
        let same = closers_by-push pairs k (length types) in
        let places = places_in-push pairs openers pair opener refl now.indices in
        record {
          order = AreInOrder-push pairs k (length types) now.order;
          indices = indices-push pairs openers pair opener refl now.indices;
          none = λ e. same ∙ now.none e;
          walks = λ look text are.
              let looked_up = looked_up_at look text are in
              let b = looked_up.pair number opening in
              let step = next look text k (places_in pairs openers ++ k ∷ []) (openers ++ opener ∷ []) (closers_by pairs (length types))
              (Walks-open look text types k (places_in pairs openers) openers (closers_by pairs (length types)) b.0 opener
              (looked_up.opens ∙ ap opens_by opening) b.1 b.2 room (now.walks look text are)) in
              subst (λ places. Walks look text types (k + 1) places (openers ++ opener ∷ []) (closers_by (pairs ++ pair ∷ []) (length types))) places
              (subst (λ closers. Walks look text types (k + 1) (places_in pairs openers ++ k ∷ []) (openers ++ opener ∷ []) closers) (sym same) step);
        }

    AreFound-close : (closer : ℕ) (result : Bool) → answer ≡ Closing closer → (result ≡ false → newest openers closer ≡ None)
        → AreFound kinds types (k + 1) (left_by (newest openers closer) openers) (closed_by (newest openers closer) openers pairs k) (has_pairs || result)
    AreFound-close closer result closing unmatched =
        let found = newest openers closer in
        let left = left_by found openers in
        let closed = closed_by found openers pairs k in
        let same = closers_by-closed found openers pairs k k (length types) now.order (omega arith) now.indices
        (λ m e. (greatest_found (λ m. canonical (pair_of openers m) == canonical closer) (length openers) m e).0) in
        let places = places_in-closed found openers pairs k in
        record {
          order = AreInOrder-skip closed k (k + 1) (omega arith) (AreInOrder-closed found openers pairs k k now.order);
          indices = indices-closed found openers pairs k now.indices;
          none = λ e.
              let both = or_parts has_pairs result e in
              ap (λ o. closers_by (closed_by o openers pairs k) (length types)) (unmatched both.1) ∙ now.none both.0;
          walks = λ look text are.
              let looked_up = looked_up_at look text are in
              let step = next look text k (left_by found (places_in pairs openers)) left (closed_at found (places_in pairs openers) (closers_by pairs (length types)) k)
              (Walks-close look text types k (places_in pairs openers) openers (closers_by pairs (length types)) closer
              (looked_up.number closer closing) within (looked_up.closes ∙ ap closes_by closing) (now.walks look text are)) in
              subst (λ places. Walks look text types (k + 1) places left (closers_by closed (length types))) places
              (subst (λ closers. Walks look text types (k + 1) (left_by found (places_in pairs openers)) left closers) (sym same) step);
        }

  -- if pairing stops at k, the list of closers is the list for the text's pairs
  all_by : (k : ℕ) (openers : List Opener) (pairs : List BracketPair) (has_pairs : Bool) → AreFound kinds types k openers pairs has_pairs
      → (look : ℕ → Option Bracket) (text : List ℕ) → kinds ≡ bracket_types look text
      → pairs_of look text types ≡ before look text types k
      → closers_by pairs (length types) ≡ closers_of (pairs_of look text types) (length types)
  all_by k openers pairs has_pairs now look text are whole = (now.walks look text are).found ∙ ap (λ l. closers_of l (length types)) (sym whole)

  nested_by : (k : ℕ) (openers : List Opener) (pairs : List BracketPair) (has_pairs : Bool) → k ≤ length types → AreFound kinds types k openers pairs has_pairs
      → AreNested types (closers_by pairs (length types))
  nested_by k openers pairs has_pairs within now =
      let look = look_for kinds in
      let text = text_for kinds in
      subst (AreNested types) (sym (now.walks look text (looked_up kinds)).found) (nested look text types k within)

pub loop-place-init : goal.loop-place-init
loop-place-init c =
    let passed = c.next_bracket-place.ensures in
    let within : c.next_bracket-place.result ≤ length c.args.types.now = omega (arith, passed.within, c.requires) in
    record {
      within = within;
      found = rw (c.clear.ensures.items, c.clear-2.ensures.items)
          (AreFound-skip c.args.kinds.now c.args.types.now c.requires 0 c.next_bracket-place.result [] [] false (omega arith) within (λ m. passed.passed m Other)
          (AreFound-start c.args.kinds.now c.args.types.now));
    }

pub close-has_pairs-requires : goal.close-has_pairs-requires
close-has_pairs-requires c = λ m h.
    let size = ap length c.deref_mut.ensures.value in
    omega (arith, c.loop-place.invariant.found.indices m h)

pub returns-then-len-ge-MAX_OPENERS-clause-pairs : goal.returns-then-len-ge-MAX_OPENERS-clause-pairs
returns-then-len-ge-MAX_OPENERS-clause-pairs c look text are =
    let kinds = c.args.kinds.now in
    let types = c.args.types.now in
    let k = c.loop-place.place in
    let openers = c.loop-place.openers.items in
    let pairs = c.loop-place.pairs.items in
    let now = c.loop-place.invariant.found in
    let looked_up = looked_up_at kinds types c.requires k c.bracket_in.result openers pairs c.loop-place.has_pairs c.loop-place-test.true c.bracket_in.ensures now look text are in
    let full : 63 ≤ length openers = omega arith in
    all_by kinds types c.requires k openers pairs c.loop-place.has_pairs now look text are
    (all-full look text types k (places_in pairs openers) openers (closers_by pairs (length types)) c.loop-place-test.true
    (looked_up.opens ∙ ap opens_by c.in-Opening.is) full (now.walks look text are))

pub returns-then-len-ge-MAX_OPENERS-clause-nested : goal.returns-then-len-ge-MAX_OPENERS-clause-nested
returns-then-len-ge-MAX_OPENERS-clause-nested c =
    let within = c.loop-place-test.true in
    nested_by c.args.kinds.now c.args.types.now c.requires c.loop-place.place c.loop-place.openers.items c.loop-place.pairs.items c.loop-place.has_pairs (omega arith) c.loop-place.invariant.found

pub returns-clause-pairs : goal.returns-clause-pairs
returns-clause-pairs c look text are =
    let kinds = c.args.kinds.now in
    let types = c.args.types.now in
    let k = c.loop-place.place in
    let openers = c.loop-place.openers.items in
    let pairs = c.loop-place.pairs.items in
    let from = c.loop-place-test.false in
    let to = c.loop-place.invariant.within in
    let now = c.loop-place.invariant.found in
    all_by kinds types c.requires k openers pairs c.loop-place.has_pairs now look text are
    (all-end look text types k (places_in pairs openers) openers (closers_by pairs (length types)) (omega arith) (now.walks look text are))

pub returns-clause-nested : goal.returns-clause-nested
returns-clause-nested c =
    nested_by c.args.kinds.now c.args.types.now c.requires c.loop-place.place c.loop-place.openers.items c.loop-place.pairs.items c.loop-place.has_pairs
    c.loop-place.invariant.within c.loop-place.invariant.found

stepped : (c : After-next_bracket-place-in-loop-place)
    → AreFound c.args.kinds.now c.args.types.now (c.loop-place.place + 1) c.match-bracket_in.openers.items c.match-bracket_in.pairs.items c.match-bracket_in.has_pairs
stepped c =
    let kinds = c.args.kinds.now in
    let types = c.args.types.now in
    let k = c.loop-place.place in
    let openers = c.loop-place.openers.items in
    let pairs = c.loop-place.pairs.items in
    let now = c.loop-place.invariant.found in
    elim c.match-bracket_in.branch [
      | in-Opening+else-len-ge-MAX_OPENERS+in_ok-push-in-Opening+in_ok-push-in-Opening-2 w ↦
          let number = w.in-Opening.pair in
          let room : length openers < 63 = omega arith in
          let index : w.len-index.result ≡ length pairs = omega arith in
          let stack : w.push.new.self.items ≡ openers ++ record { index = length pairs; pair = number } ∷ [] =
          w.in_ok-push-in-Opening.ensures.items ∙ ap (λ n. openers ++ record { index = n; pair = number } ∷ []) index in
          rw (w.openers-is, w.pairs-is, w.has_pairs-is, stack, w.in_ok-push-in-Opening-2.ensures.items)
          (AreFound-open kinds types c.requires k c.bracket_in.result openers pairs c.loop-place.has_pairs c.loop-place-test.true c.bracket_in.ensures now number w.in-Opening.is room)
      | in-Closing w ↦
          let closer = w.in-Closing.closer in
          let found = newest openers closer in
          let left : c.match-bracket_in.openers.items ≡ left_by found openers = ap (λ v. v.items) w.openers-is ∙ w.close-has_pairs.ensures.openers in
          let closed : w.close-has_pairs.new.pairs ≡ closed_by found openers pairs k = w.close-has_pairs.ensures.pairs ∙ ap (λ l. closed_by found openers l k) w.deref_mut.ensures.value in
          let after : c.match-bracket_in.pairs.items ≡ closed_by found openers pairs k =
          ap (λ v. v.items) w.pairs-is ∙ with_items_is c.loop-place.pairs w.close-has_pairs.new.pairs
          (ap length closed ∙ length-closed found openers pairs k ∙ sym (ap length w.deref_mut.ensures.value) ∙ w.deref_mut.ensures.len) ∙ closed in
          rw (left, after, w.has_pairs-is)
          (AreFound-close kinds types c.requires k c.bracket_in.result openers pairs c.loop-place.has_pairs c.loop-place-test.true c.bracket_in.ensures now closer
          w.close-has_pairs.result w.in-Closing.is w.close-has_pairs.ensures.none)
      | in-Other w ↦
          rw (w.openers-is, w.pairs-is, w.has_pairs-is) (AreFound-other kinds types c.requires k c.bracket_in.result openers pairs c.loop-place.has_pairs c.loop-place-test.true c.bracket_in.ensures now w.in-Other.is)
    ]

pub loop-place-preserved : goal.loop-place-preserved
loop-place-preserved c =
    let passed = c.next_bracket-place-in-loop-place.ensures in
    let within : c.next_bracket-place-in-loop-place.result ≤ length c.args.types.now = omega (arith, passed.within, c.requires) in
    record {
      within = within;
      found = AreFound-skip c.args.kinds.now c.args.types.now c.requires (c.loop-place.place + 1) c.next_bracket-place-in-loop-place.result
          c.match-bracket_in.openers.items c.match-bracket_in.pairs.items c.match-bracket_in.has_pairs passed.reached within (λ m. passed.passed m Other) (stepped c);
    }
