-- The pass that finds the matches of initiators. Its stack holds the open initiators, the innermost last.
use Rattle.std.proofs.Common.{◌≡◌, ◌≢◌, ℕ, ◌+◌, ◌-◌, ◌<◌, ◌≤◌, ◌⊎◌, true, false, List, ◌++◌, ◌∷◌, [], length, take, set, get_or, replicate, unwrap_or, refl, sym, ap, ◌∙◌, inl, inr, arith}
use Rattle.std.proofs.lemmas.Bool.{cond-true, cond-false, cases_eq}
use Rattle.std.proofs.lemmas.List.{get_or-set_same, get_or-set_other, get_or-take, get_or_append_left, get_or_push, length_push, length-take-le, get_or-replicate, length-replicate, length-set}
use Rattle.std.proofs.lemmas.List.FromFn.{fill_by_all}
use Rattle.ucd.specs.declared.bidi_class.BidiClass.{BidiClass}
use Rattle.bidi.specs.Base.{is_balanced, match_of}
use Rattle.ucd.specs.Classes.{class_at, is_initiator, is_pdi}
use Rattle.bidi.specs.Isolates.{match_at, matches_of}
use Rattle.bidi.proofs.IsolateLemmas.{opened, closed, opened-next, closed-next, opens_shuts_none, balanced, unbalanced}
use Rattle.bidi.proofs.LeastLemmas.{least_found, least_none}

-- The initiator at i is open at k: each index after i, up to k, is higher than i. The height of an index is
-- the number of initiators before it minus the number of PDIs.
pub record IsOpen (classes : List BidiClass) (k i : ℕ) : Type 0 where
  pub below : i < k
  pub opens : is_initiator (class_at classes i) ≡ true
  pub above : (p : ℕ) → i < p → p ≤ k → opened classes i + closed classes p < opened classes p + closed classes i

-- The stack holds the initiators that are open at k. Each one is lower than the next, and the last one is lower than k.
pub record Opens (classes : List BidiClass) (k : ℕ) (stack found : List ℕ) : Type 0 where
  pub size : length found ≡ length classes
  pub item : (m : ℕ) → m < length stack → IsOpen classes k (get_or stack m 0)
  pub height : (m : ℕ) → m < length stack → opened classes k + closed classes (get_or stack m 0) ≡ opened classes (get_or stack m 0) + closed classes k + (length stack - m)
  pub unset : (m : ℕ) → m < length stack → get_or found (get_or stack m 0) 0 ≡ length classes
  pub ahead : (i : ℕ) → k ≤ i → i < length classes → get_or found i 0 ≡ length classes
  pub passed : (i : ℕ) → i < k → ((m : ℕ) × (m < length stack) × (get_or stack m 0 ≡ i)) ⊎ (get_or found i 0 ≡ match_at classes i)

-- an initiator increases the count of initiators by one, a PDI increases the count of PDIs by one, and any
-- other character increases neither count
up : (classes : List BidiClass) (k : ℕ) → k < length classes → is_initiator (class_at classes k) ≡ true
    → (opened classes (k + 1) ≡ opened classes k + 1) × (closed classes (k + 1) ≡ closed classes k)
up classes k within opens =
    let shuts : is_pdi (class_at classes k) ≡ false = opens_shuts_none (class_at classes k) opens in
    let o : opened classes (k + 1) ≡ opened classes k + 1 = rw opens at (opened-next classes k within) in
    let s : closed classes (k + 1) ≡ closed classes k + 0 = rw shuts at (closed-next classes k within) in
    (o, omega arith)

down : (classes : List BidiClass) (k : ℕ) → k < length classes → is_initiator (class_at classes k) ≡ false → is_pdi (class_at classes k) ≡ true
    → (opened classes (k + 1) ≡ opened classes k) × (closed classes (k + 1) ≡ closed classes k + 1)
down classes k within opens shuts =
    let o : opened classes (k + 1) ≡ opened classes k + 0 = rw opens at (opened-next classes k within) in
    let s : closed classes (k + 1) ≡ closed classes k + 1 = rw shuts at (closed-next classes k within) in
    (omega arith, s)

flat : (classes : List BidiClass) (k : ℕ) → k < length classes → is_initiator (class_at classes k) ≡ false → is_pdi (class_at classes k) ≡ false
    → (opened classes (k + 1) ≡ opened classes k) × (closed classes (k + 1) ≡ closed classes k)
flat classes k within opens shuts =
    let o : opened classes (k + 1) ≡ opened classes k + 0 = rw opens at (opened-next classes k within) in
    let s : closed classes (k + 1) ≡ closed classes k + 0 = rw shuts at (closed-next classes k within) in
    (omega arith, omega arith)

-- an open initiator stays open if the next index is higher than it
IsOpen-next : (classes : List BidiClass) (k i : ℕ) → IsOpen classes k i → opened classes i + closed classes (k + 1) < opened classes (k + 1) + closed classes i → IsOpen classes (k + 1) i
IsOpen-next classes k i now higher = record {
  below = let below = now.below in omega arith;
  opens = now.opens;
  above = λ p after upto. elim (cases_eq p (k + 1)) [ inl e ↦ rw e higher | inr ne ↦ now.above p after (omega arith) ];
}

-- for an index without an initiator, the entry in the list of matches is the length of the list
match_at-other : (classes : List BidiClass) (k : ℕ) → is_initiator (class_at classes k) ≡ false → match_at classes k ≡ length classes
match_at-other classes k opens = cond-false (is_initiator (class_at classes k)) (unwrap_or (match_of classes k) (length classes)) (length classes) opens

pub Opens-start : (classes : List BidiClass) → Opens classes 0 [] (replicate (length classes) (length classes))
Opens-start classes = record {
  size = length-replicate (length classes) (length classes);
  item = λ m h. absurd (omega arith);
  height = λ m h. absurd (omega arith);
  unset = λ m h. absurd (omega arith);
  ahead = λ i from within. get_or-replicate (length classes) i (length classes) 0 within;
  passed = λ i h. absurd (omega arith);
}

-- the pass pushes an initiator on the stack
pub Opens-up : (classes : List BidiClass) (k : ℕ) (stack found : List ℕ) → k < length classes → is_initiator (class_at classes k) ≡ true
    → Opens classes k stack found → Opens classes (k + 1) (stack ++ k ∷ []) found
Opens-up classes k stack found within opens now =
    let step = up classes k within opens in
    let o : opened classes (k + 1) ≡ opened classes k + 1 = step.0 in
    let s : closed classes (k + 1) ≡ closed classes k = step.1 in
    let size : length (stack ++ k ∷ []) ≡ length stack + 1 = length_push stack k in
    let top : get_or (stack ++ k ∷ []) (length stack) 0 ≡ k = get_or_push stack k 0 (length stack) refl in
    record {
      size = now.size;
      item = λ m h. elim (cases_eq m (length stack)) [
        | inl e ↦ rw (e, top) (record {
          below = omega arith;
          opens = opens;
          above = λ p after upto. let e : p ≡ k + 1 = omega arith in rw e (omega arith);
        })
        | inr ne ↦ let lt : m < length stack = omega arith in rw get_or_append_left (IsOpen-next classes k (get_or stack m 0) (now.item m lt) (omega (arith, now.height m lt)))
      ];
      height = λ m h. elim (cases_eq m (length stack)) [
        | inl e ↦ rw (e, top) (omega arith)
        | inr ne ↦ let lt : m < length stack = omega arith in rw get_or_append_left (omega (arith, now.height m lt))
      ];
      unset = λ m h. elim (cases_eq m (length stack)) [
        | inl e ↦ rw (e, top) (now.ahead k (omega arith) within)
        | inr ne ↦ let lt : m < length stack = omega arith in rw get_or_append_left (now.unset m lt)
      ];
      ahead = λ i from inside. now.ahead i (omega arith) inside;
      passed = λ i before. elim (cases_eq i k) [
        | inl e ↦ inl (length stack, omega arith, top ∙ sym e)
        | inr ne ↦ elim (now.passed i (omega arith)) [
          | inl w ↦ let lt : w.0 < length stack = w.1 in inl (w.0, omega arith, rw get_or_append_left w.2)
          | inr done ↦ inr done
        ]
      ];
    }

-- if the stack is empty, a character that is not an initiator changes nothing
pub Opens-down_none : (classes : List BidiClass) (k : ℕ) (found : List ℕ) → k < length classes → is_initiator (class_at classes k) ≡ false
    → Opens classes k [] found → Opens classes (k + 1) [] found
Opens-down_none classes k found within opens now = record {
  size = now.size;
  item = λ m h. absurd (omega arith);
  height = λ m h. absurd (omega arith);
  unset = λ m h. absurd (omega arith);
  ahead = λ i from inside. now.ahead i (omega arith) inside;
  passed = λ i before. elim (cases_eq i k) [
    | inl e ↦ inr (rw e (now.ahead k (omega arith) within ∙ sym (match_at-other classes k opens)))
    | inr ne ↦ now.passed i (omega arith)
  ];
}

-- if k + 1 has the same height as an open initiator, the match of the initiator is at k
match_of-found : (classes : List BidiClass) (k i : ℕ) → k < length classes → IsOpen classes k i
    → opened classes (k + 1) + closed classes i ≡ opened classes i + closed classes (k + 1) → match_at classes i ≡ k
match_of-found classes k i within now level =
    let below : i < k = now.below in
    cond-true (is_initiator (class_at classes i)) (unwrap_or (match_of classes i) (length classes)) (length classes) now.opens
    ∙ ap (λ o. unwrap_or o (length classes)) (least_found (is_balanced classes i) (i + 1) (length classes - (i + 1)) k (omega arith) (omega arith)
    (balanced classes i k (omega arith) level)
    (λ m from to. unbalanced classes i m (omega arith) (now.above (m + 1) (omega arith) (omega arith))))

-- an initiator that is open at the end has no match
match_at-open : (classes : List BidiClass) (i : ℕ) → IsOpen classes (length classes) i → match_at classes i ≡ length classes
match_at-open classes i now =
    let below : i < length classes = now.below in
    cond-true (is_initiator (class_at classes i)) (unwrap_or (match_of classes i) (length classes)) (length classes) now.opens
    ∙ ap (λ o. unwrap_or o (length classes)) (least_none (is_balanced classes i) (i + 1) (length classes - (i + 1))
    (λ m from to. unbalanced classes i m (omega arith) (now.above (m + 1) (omega arith) (omega arith))))

-- if the stack is not empty, a PDI pops the last initiator and becomes its match
pub Opens-down : (classes : List BidiClass) (k : ℕ) (stack found : List ℕ) → k < length classes → is_initiator (class_at classes k) ≡ false → is_pdi (class_at classes k) ≡ true
    → 0 < length stack → Opens classes k stack found
    → Opens classes (k + 1) (take (length stack - 1) stack) (set found (get_or stack (length stack - 1) 0) k)
Opens-down classes k stack found within opens shuts some now =
    let last = length stack - 1 in
    let step = down classes k within opens shuts in
    let o : opened classes (k + 1) ≡ opened classes k = step.0 in
    let s : closed classes (k + 1) ≡ closed classes k + 1 = step.1 in
    let size : length (take last stack) ≡ last = length-take-le last stack (omega arith) in
    let top = get_or stack last 0 in
    let top_open : IsOpen classes k top = now.item last (omega arith) in
    let top_height = now.height last (omega arith) in
    let apart : (m : ℕ) → m < last → get_or stack m 0 ≢ top = λ m lt e. omega (arith, top_height, rw e at (now.height m (omega arith))) in
    let top_below : top < k = top_open.below in
    record {
      size = length-set found top k ∙ now.size;
      item = λ m h. let lt : m < last = omega arith in rw get_or-take (IsOpen-next classes k (get_or stack m 0) (now.item m (omega arith)) (omega (arith, now.height m (omega arith))));
      height = λ m h. let lt : m < last = omega arith in rw (get_or-take, size) (omega (arith, now.height m (omega arith)));
      unset = λ m h. let lt : m < last = omega arith in let ne = apart m lt in rw (get_or-take, get_or-set_other) (now.unset m (omega arith));
      ahead = λ i from inside. let ne : i ≢ top = omega arith in rw get_or-set_other (now.ahead i (omega arith) inside);
      passed = λ i before. elim (cases_eq i top) [
        | inl e ↦ let inside : top < length found = omega (arith, now.size) in
            inr (rw (e, get_or-set_same) (sym (match_of-found classes k top within top_open (omega (arith, top_height)))))
        | inr ne ↦ elim (cases_eq i k) [
          | inl at_k ↦ inr (rw get_or-set_other (rw at_k (now.ahead k (omega arith) within ∙ sym (match_at-other classes k opens))))
          | inr other ↦ elim (now.passed i (omega arith)) [
            | inl w ↦ elim (cases_eq w.0 last) [
              | inl e ↦ absurd (ne (sym w.2 ∙ ap (λ m. get_or stack m 0) e))
              | inr lower ↦ let lt : w.0 < last = omega (arith, w.1) in inl (w.0, omega arith, rw get_or-take w.2)
            ]
            | inr done ↦ inr (rw get_or-set_other done)
          ]
        ]
      ];
    }

-- a character that is neither an initiator nor a PDI changes neither the stack nor the matches
pub Opens-flat : (classes : List BidiClass) (k : ℕ) (stack found : List ℕ) → k < length classes → is_initiator (class_at classes k) ≡ false → is_pdi (class_at classes k) ≡ false
    → Opens classes k stack found → Opens classes (k + 1) stack found
Opens-flat classes k stack found within opens shuts now =
    let step = flat classes k within opens shuts in
    let o : opened classes (k + 1) ≡ opened classes k = step.0 in
    let s : closed classes (k + 1) ≡ closed classes k = step.1 in
    record {
      size = now.size;
      item = λ m h. IsOpen-next classes k (get_or stack m 0) (now.item m h) (omega (arith, now.height m h));
      height = λ m h. omega (arith, now.height m h);
      unset = now.unset;
      ahead = λ i from inside. now.ahead i (omega arith) inside;
      passed = λ i before. elim (cases_eq i k) [
        | inl e ↦ inr (rw e (now.ahead k (omega arith) within ∙ sym (match_at-other classes k opens)))
        | inr ne ↦ now.passed i (omega arith)
      ];
    }

-- at the end of the text, all matches have been found
pub Opens-end : (classes : List BidiClass) (k : ℕ) (stack found : List ℕ) → length classes ≤ k → k ≤ length classes → Opens classes k stack found → found ≡ matches_of classes
Opens-end classes k stack found from to now =
    let whole : k ≡ length classes = omega arith in
    fill_by_all (match_at classes) found (length classes) 0 now.size
    (λ i within. elim (now.passed i (omega arith)) [
      | inl w ↦ let stays : IsOpen classes (length classes) (get_or stack w.0 0) = rw whole at (now.item w.0 w.1) in
          ap (λ j. get_or found j 0) (sym w.2) ∙ now.unset w.0 w.1 ∙ sym (match_at-open classes (get_or stack w.0 0) stays) ∙ ap (match_at classes) w.2
      | inr done ↦ done
    ])
