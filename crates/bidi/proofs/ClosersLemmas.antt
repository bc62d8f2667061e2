-- Lists of opening brackets, the lists of closers made from them, and how the pass that finds the pairs
-- changes both.
use Rattle.std.proofs.Common.{◌≡◌, ◌≢◌, ℕ, zero, suc, ◌+◌, ◌<◌, ◌≤◌, ◌==◌, Bool, false, List, ◌++◌, ◌∷◌, [], map, length, take, get_or, set, slice_index, Option, Some, None, unwrap_or, if◌then◌else◌, refl, sym, ap, ◌∙◌, inl, inr, arith}
use Rattle.std.proofs.lemmas.Bool.{cond-true, cond-false, cases_Bool, cases_eq, cases_lt, cases_order, eq-eqb, ne_eqb}
use Rattle.std.proofs.lemmas.List.{get_or-take, get_or_append_left, get_or_push, get_or_default, get_or_past, get_or_read, length-take, length_push, get_or-map, length-map, map-append, take-map, get_or-set_same, get_or-set_other, length-set}
use Rattle.std.proofs.lemmas.List.FromFn.{fill_by_all}
use Rattle.std.proofs.Math.ListN.{get_or-map as read_field}
use Rattle.ucd.specs.declared.bidi_class.BidiClass.{BidiClass}
use Rattle.ucd.specs.declared.bracket.Bracket.{Bracket}
use Rattle.bidi.specs.declared.bracket_type.BracketType.{BracketType}
use Rattle.bidi.specs.declared.brackets.BracketPair.{BracketPair}
use Rattle.bidi.specs.declared.brackets.Opener.{Opener}
use Rattle.bidi.specs.Brackets.{canonical, closer_of}
use Rattle.bidi.specs.BracketTypes.{bracket_types}
use Rattle.bidi.specs.Closers.{AreInOrder, as_pair, closed_by, closers_by, closers_of, index_of, left_by, newest, opener_at, pair_of}
use Rattle.bidi.proofs.PairLemmas.{greatest_found, Walks, Walks-start, closed_at, closers_of-at, length-closers_of}

abbrev pub closer_at : List BracketPair → ℕ → ℕ
closer_at pairs i = get_or (map (λ (p : BracketPair). p.closer) pairs) i 0

pub length-closers_by : (pairs : List BracketPair) (len : ℕ) → length (closers_by pairs len) ≡ len
length-closers_by pairs len = length-closers_of (map as_pair pairs) len

-- two lists of opening brackets with the same closer for each opener have the same list of closers
closers_by-same : (pairs others : List BracketPair) (len : ℕ)
    → ((x : ℕ) → x < len → unwrap_or (closer_of (map as_pair pairs) x) len ≡ unwrap_or (closer_of (map as_pair others) x) len)
    → closers_by pairs len ≡ closers_by others len
closers_by-same pairs others len same =
    fill_by_all (λ x. unwrap_or (closer_of (map as_pair others) x) len) (closers_by pairs len) len 0 (length-closers_by pairs len)
    (λ x below. closers_of-at (map as_pair pairs) len x 0 below ∙ same x below)

-- an unpaired bracket at the end of the list changes no closer
unwrap-push : (pairs : List BracketPair) (o len x : ℕ)
    → unwrap_or (closer_of (map as_pair (pairs ++ record { opener = o; closer = len } ∷ [])) x) len ≡ unwrap_or (closer_of (map as_pair pairs) x) len
unwrap-push [] o len x =
    elim (cases_Bool (o == x)) [
      | inl same ↦ ap (λ c. unwrap_or c len) (cond-true (o == x) (Some len) None same)
      | inr other ↦ ap (λ c. unwrap_or c len) (cond-false (o == x) (Some len) None other)
    ]
unwrap-push (p ∷ pairs) o len x =
    let rest = closer_of (map as_pair (pairs ++ record { opener = o; closer = len } ∷ [])) x in
    let old = closer_of (map as_pair pairs) x in
    elim (cases_Bool (p.opener == x)) [
      | inl same ↦ ap (λ c. unwrap_or c len) (cond-true (p.opener == x) (Some p.closer) rest same ∙ sym (cond-true (p.opener == x) (Some p.closer) old same))
      | inr other ↦ ap (λ c. unwrap_or c len) (cond-false (p.opener == x) (Some p.closer) rest other) ∙ unwrap-push pairs o len x
          ∙ sym (ap (λ c. unwrap_or c len) (cond-false (p.opener == x) (Some p.closer) old other))
    ]

pub closers_by-push : (pairs : List BracketPair) (o len : ℕ) → closers_by (pairs ++ record { opener = o; closer = len } ∷ []) len ≡ closers_by pairs len
closers_by-push pairs o len = closers_by-same (pairs ++ record { opener = o; closer = len } ∷ []) pairs len (λ x below. unwrap-push pairs o len x)

-- `closer_of` finds the closer of an item by its opener, unless an earlier item has the same opener, and
-- finds none for an index that is no opener
closer_of-here : (pairs : List BracketPair) (i : ℕ) → i < length pairs → ((a : ℕ) → a < i → opener_at pairs a ≢ opener_at pairs i)
    → closer_of (map as_pair pairs) (opener_at pairs i) ≡ Some (closer_at pairs i)
closer_of-here [] i within other = absurd (omega arith)
closer_of-here (p ∷ pairs) zero within other =
    cond-true (p.opener == p.opener) (Some p.closer) (closer_of (map as_pair pairs) p.opener) (eq-eqb p.opener p.opener refl)
closer_of-here (p ∷ pairs) (suc i) within other =
    cond-false (p.opener == opener_at pairs i) (Some p.closer) (closer_of (map as_pair pairs) (opener_at pairs i)) (ne_eqb p.opener (opener_at pairs i) (other 0 (omega arith)))
    ∙ closer_of-here pairs i (omega arith) (λ a below. other (suc a) (omega arith))

closer_of-none : (pairs : List BracketPair) (x : ℕ) → ((a : ℕ) → a < length pairs → opener_at pairs a ≢ x) → closer_of (map as_pair pairs) x ≡ None
closer_of-none [] x other = refl
closer_of-none (p ∷ pairs) x other =
    cond-false (p.opener == x) (Some p.closer) (closer_of (map as_pair pairs) x) (ne_eqb p.opener x (other 0 (omega arith)))
    ∙ closer_of-none pairs x (λ a below. other (suc a) (omega arith))

-- after a closer has been set, its opener has that closer, and other openers keep theirs
closer_of-set : (pairs : List BracketPair) (i o j : ℕ) → i < length pairs → o ≡ opener_at pairs i → ((a : ℕ) → a < i → opener_at pairs a ≢ o)
    → closer_of (map as_pair (set pairs i (record { opener = o; closer = j }))) o ≡ Some j
closer_of-set [] i o j within is other = absurd (omega arith)
closer_of-set (p ∷ pairs) zero o j within is other = cond-true (o == o) (Some j) (closer_of (map as_pair pairs) o) (eq-eqb o o refl)
closer_of-set (p ∷ pairs) (suc i) o j within is other =
    cond-false (p.opener == o) (Some p.closer) (closer_of (map as_pair (set pairs i (record { opener = o; closer = j }))) o) (ne_eqb p.opener o (other 0 (omega arith)))
    ∙ closer_of-set pairs i o j (omega arith) is (λ a below. other (suc a) (omega arith))

closer_of-set_other : (pairs : List BracketPair) (i o j x : ℕ) → o ≡ opener_at pairs i → o ≢ x
    → closer_of (map as_pair (set pairs i (record { opener = o; closer = j }))) x ≡ closer_of (map as_pair pairs) x
closer_of-set_other [] i o j x is ne = refl
closer_of-set_other (p ∷ pairs) zero o j x is ne =
    cond-false (o == x) (Some j) (closer_of (map as_pair pairs) x) (ne_eqb o x ne)
    ∙ sym (cond-false (p.opener == x) (Some p.closer) (closer_of (map as_pair pairs) x) (ne_eqb p.opener x (λ e. ne (is ∙ e))))
closer_of-set_other (p ∷ pairs) (suc i) o j x is ne = ap (λ c. if p.opener == x then Some p.closer else c) (closer_of-set_other pairs i o j x is ne)

closers_by-set : (pairs : List BracketPair) (i o j len : ℕ) → i < length pairs → o ≡ opener_at pairs i → o < len → ((a : ℕ) → a < i → opener_at pairs a ≢ o)
    → closers_by (set pairs i (record { opener = o; closer = j })) len ≡ set (closers_by pairs len) o j
closers_by-set pairs i o j len within is below other =
    let new = set pairs i (record { opener = o; closer = j }) in
    let size = length-closers_by pairs len in
    sym (fill_by_all (λ x. unwrap_or (closer_of (map as_pair new) x) len) (set (closers_by pairs len) o j) len 0
    (length-set (closers_by pairs len) o j ∙ size)
    (λ x inside. elim (cases_eq x o) [
      | inl e ↦
          let lt : o < length (closers_by pairs len) = omega arith in
          rw e (get_or-set_same (closers_by pairs len) o j 0 lt ∙ sym (ap (λ c. unwrap_or c len) (closer_of-set pairs i o j within is other)))
      | inr ne ↦
          rw get_or-set_other (closers_of-at (map as_pair pairs) len x 0 inside
          ∙ sym (ap (λ c. unwrap_or c len) (closer_of-set_other pairs i o j x is (λ e. ne (sym e)))))
    ]))

-- setting a closer changes no opener
openers-set : (pairs : List BracketPair) (i o j : ℕ) → o ≡ opener_at pairs i
    → map (λ (p : BracketPair). p.opener) (set pairs i (record { opener = o; closer = j })) ≡ map (λ (p : BracketPair). p.opener) pairs
openers-set [] i o j is = refl
openers-set (p ∷ pairs) zero o j is = ap (λ n. n ∷ map (λ (p : BracketPair). p.opener) pairs) is
openers-set (p ∷ pairs) (suc i) o j is = ap (λ ns. p.opener ∷ ns) (openers-set pairs i o j is)

pub openers-closed : (found : Option ℕ) (openers : List Opener) (pairs : List BracketPair) (place : ℕ)
    → map (λ (p : BracketPair). p.opener) (closed_by found openers pairs place) ≡ map (λ (p : BracketPair). p.opener) pairs
openers-closed (Some m) openers pairs place = openers-set pairs (index_of openers m) (opener_at pairs (index_of openers m)) place refl
openers-closed None openers pairs place = refl

pub length-closed : (found : Option ℕ) (openers : List Opener) (pairs : List BracketPair) (place : ℕ) → length (closed_by found openers pairs place) ≡ length pairs
length-closed (Some m) openers pairs place = length-set pairs (index_of openers m) (record { opener = opener_at pairs (index_of openers m); closer = place })
length-closed None openers pairs place = refl

-- the indices of the live openers in the sequence
abbrev pub places_in : List BracketPair → List Opener → List ℕ
places_in pairs openers = map (λ (o : Opener). opener_at pairs o.index) openers

place-at : (pairs : List BracketPair) (openers : List Opener) (m : ℕ) → m < length openers → get_or (places_in pairs openers) m 0 ≡ opener_at pairs (index_of openers m)
place-at pairs openers m within =
    let none : Opener = record { index = 0; pair = 0 } in
    get_or-map (λ (o : Opener). opener_at pairs o.index) openers m none 0 within
    ∙ ap (opener_at pairs) (sym (get_or-map (λ (o : Opener). o.index) openers m none 0 within))

-- updating the list of opening brackets for the closing bracket at `place` updates the list of closers in the
-- same way
pub closers_by-closed : (found : Option ℕ) (openers : List Opener) (pairs : List BracketPair) (place k len : ℕ) → AreInOrder pairs k → k ≤ len
    → ((m : ℕ) → m < length openers → index_of openers m < length pairs) → ((m : ℕ) → found ≡ Some m → m < length openers)
    → closers_by (closed_by found openers pairs place) len ≡ closed_at found (places_in pairs openers) (closers_by pairs len) place
closers_by-closed None openers pairs place k len order within indices held = refl
closers_by-closed (Some m) openers pairs place k len order within indices held =
    let i = index_of openers m in
    let h = held m refl in
    let inside = indices m h in
    let below = order.below i inside in
    closers_by-set pairs i (opener_at pairs i) place len inside refl (omega arith)
    (λ a lt. let rises = order.ascending a i lt inside in omega arith)
    ∙ ap (λ n. set (closers_by pairs len) n place) (sym (place-at pairs openers m h))

pub places_in-closed : (found : Option ℕ) (openers : List Opener) (pairs : List BracketPair) (place : ℕ)
    → left_by found (places_in pairs openers) ≡ places_in (closed_by found openers pairs place) (left_by found openers)
places_in-closed None openers pairs place = refl
places_in-closed (Some m) openers pairs place =
    take-map (λ (o : Opener). opener_at pairs o.index) m openers
    ∙ ap (λ (ns : List ℕ). map (λ (o : Opener). get_or ns o.index 0) (take m openers)) (sym (openers-closed (Some m) openers pairs place))

-- an opening bracket at the end of the list leaves the openers before it unchanged
opener-old : (pairs : List BracketPair) (p : BracketPair) (a : ℕ) → a < length pairs → opener_at (pairs ++ p ∷ []) a ≡ opener_at pairs a
opener-old pairs p a within =
    let f : BracketPair → ℕ = λ p. p.opener in
    let size = length-map pairs f in
    ap (λ (ns : List ℕ). get_or ns a 0) (map-append f pairs (p ∷ [])) ∙ get_or_append_left (map f pairs) (p.opener ∷ []) 0 a (omega arith)

opener-new : (pairs : List BracketPair) (p : BracketPair) (a : ℕ) → a ≡ length pairs → opener_at (pairs ++ p ∷ []) a ≡ p.opener
opener-new pairs p a last =
    let f : BracketPair → ℕ = λ p. p.opener in
    let size = length-map pairs f in
    ap (λ (ns : List ℕ). get_or ns a 0) (map-append f pairs (p ∷ [])) ∙ get_or_push (map f pairs) p.opener 0 a (omega arith)

places_in-more : (pairs : List BracketPair) (openers : List Opener) (p : BracketPair) → ((m : ℕ) → m < length openers → index_of openers m < length pairs)
    → places_in (pairs ++ p ∷ []) openers ≡ places_in pairs openers
places_in-more pairs [] p indices = refl
places_in-more pairs (o ∷ openers) p indices =
    ap (λ n. n ∷ places_in (pairs ++ p ∷ []) openers) (opener-old pairs p o.index (indices 0 (omega arith)))
    ∙ ap (λ ns. opener_at pairs o.index ∷ ns) (places_in-more pairs openers p (λ m within. indices (suc m) (omega arith)))

pub places_in-push : (pairs : List BracketPair) (openers : List Opener) (p : BracketPair) (o : Opener) → o.index ≡ length pairs
    → ((m : ℕ) → m < length openers → index_of openers m < length pairs)
    → places_in pairs openers ++ p.opener ∷ [] ≡ places_in (pairs ++ p ∷ []) (openers ++ o ∷ [])
places_in-push pairs openers p o last indices =
    sym (map-append (λ (o : Opener). opener_at (pairs ++ p ∷ []) o.index) openers (o ∷ [])
    ∙ ap (λ ns. ns ++ opener_at (pairs ++ p ∷ []) o.index ∷ []) (places_in-more pairs openers p indices)
    ∙ ap (λ n. places_in pairs openers ++ n ∷ []) (opener-new pairs p o.index last))

-- after an opening bracket has been added to both, the openers on the stack are still in the list of opening
-- brackets
pub indices-push : (pairs : List BracketPair) (openers : List Opener) (p : BracketPair) (o : Opener) → o.index ≡ length pairs
    → ((m : ℕ) → m < length openers → index_of openers m < length pairs)
    → (m : ℕ) → m < length (openers ++ o ∷ []) → index_of (openers ++ o ∷ []) m < length (pairs ++ p ∷ [])
indices-push pairs openers p o last indices m within =
    let f : Opener → ℕ = λ o. o.index in
    let size = length-map openers f in
    let more = length_push pairs p in
    let items = map-append f openers (o ∷ []) in
    elim (cases_eq m (length openers)) [
      | inl e ↦
          let here : index_of (openers ++ o ∷ []) m ≡ o.index = ap (λ (ns : List ℕ). get_or ns m 0) items ∙ get_or_push (map f openers) o.index 0 m (omega arith) in
          omega arith
      | inr ne ↦
          let lt : m < length openers = omega (arith, length_push openers o) in
          let here : index_of (openers ++ o ∷ []) m ≡ index_of openers m = ap (λ (ns : List ℕ). get_or ns m 0) items
          ∙ get_or_append_left (map f openers) (o.index ∷ []) 0 m (omega arith) in
          omega (arith, indices m lt)
    ]

pub indices-closed : (found : Option ℕ) (openers : List Opener) (pairs : List BracketPair) (place : ℕ)
    → ((m : ℕ) → m < length openers → index_of openers m < length pairs)
    → (m : ℕ) → m < length (left_by found openers) → index_of (left_by found openers) m < length (closed_by found openers pairs place)
indices-closed None openers pairs place indices m within = indices m within
indices-closed (Some n) openers pairs place indices m within =
    let f : Opener → ℕ = λ o. o.index in
    let size = length-closed (Some n) openers pairs place in
    let short : m < n = omega (arith, length-take n openers) in
    let here : index_of (take n openers) m ≡ index_of openers m = ap (λ (ns : List ℕ). get_or ns m 0) (sym (take-map f n openers))
    ∙ get_or-take n (map f openers) m 0 short in
    omega (arith, indices m (omega (arith, length-take n openers)))

-- the opening brackets stay in order as the pass continues
pub AreInOrder-start : AreInOrder [] 0
AreInOrder-start = record { ascending = λ a b lt within. absurd (omega arith); below = λ a within. absurd (omega arith) }

pub AreInOrder-skip : (pairs : List BracketPair) (k j : ℕ) → k ≤ j → AreInOrder pairs k → AreInOrder pairs j
AreInOrder-skip pairs k j further order = record { ascending = order.ascending; below = λ a within. let h = order.below a within in omega arith }

pub AreInOrder-push : (pairs : List BracketPair) (k c : ℕ) → AreInOrder pairs k → AreInOrder (pairs ++ record { opener = k; closer = c } ∷ []) (k + 1)
AreInOrder-push pairs k c order =
    let p : BracketPair = record { opener = k; closer = c } in
    let more = length_push pairs p in
    record {
      ascending = λ a b lt within. elim (cases_eq b (length pairs)) [
        | inl last ↦ let old = opener-old pairs p a (omega arith) in let new = opener-new pairs p b last in let h = order.below a (omega arith) in omega arith
        | inr ne ↦ let old = opener-old pairs p a (omega arith) in let new = opener-old pairs p b (omega arith) in let h = order.ascending a b lt (omega arith) in omega arith
      ];
      below = λ a within. elim (cases_eq a (length pairs)) [
        | inl last ↦ let new = opener-new pairs p a last in omega arith
        | inr ne ↦ let old = opener-old pairs p a (omega arith) in let h = order.below a (omega arith) in omega arith
      ];
    }

pub AreInOrder-closed : (found : Option ℕ) (openers : List Opener) (pairs : List BracketPair) (place k : ℕ) → AreInOrder pairs k → AreInOrder (closed_by found openers pairs place) k
AreInOrder-closed found openers pairs place k order =
    let same = openers-closed found openers pairs place in
    let size = length-closed found openers pairs place in
    record {
      ascending = λ a b lt within. rw same (order.ascending a b lt (omega arith));
      below = λ a within. rw same (order.below a (omega arith));
    }

-- the state of the pass after k characters, for all texts with these bracket types
pub record AreFound (kinds : List BracketType) (types : List BidiClass) (k : ℕ) (openers : List Opener) (pairs : List BracketPair) (has_pairs : Bool) : Type 0 where
  pub order : AreInOrder pairs k
  pub indices : (m : ℕ) → m < length openers → index_of openers m < length pairs
  pub none : has_pairs ≡ false → closers_by pairs (length types) ≡ closers_of [] (length types)
  pub walks : (look : ℕ → Option Bracket) (text : List ℕ) → kinds ≡ bracket_types look text
      → Walks look text types k (places_in pairs openers) openers (closers_by pairs (length types))

pub AreFound-start : (kinds : List BracketType) (types : List BidiClass) → AreFound kinds types 0 [] [] false
AreFound-start kinds types = record {
  order = AreInOrder-start;
  indices = λ m within. absurd (omega arith);
  none = λ e. refl;
  walks = λ look text are. Walks-start look text types;
}

-- the opener at an index of the list, or the length of the text at the end of the list
abbrev pub opener_or : List BracketPair → ℕ → ℕ → ℕ
opener_or pairs i len = get_or (map (λ (p : BracketPair). p.opener) pairs) i len

pub opener_or-at : (pairs : List BracketPair) (i len : ℕ) → i < length pairs → opener_or pairs i len ≡ opener_at pairs i
opener_or-at pairs i len within =
    let size = length-map pairs (λ (p : BracketPair). p.opener) in
    get_or_default (map (λ (p : BracketPair). p.opener) pairs) i len 0 (omega arith)

pub opener_or-end : (pairs : List BracketPair) (i len : ℕ) → length pairs ≤ i → opener_or pairs i len ≡ len
opener_or-end pairs i len past =
    let size = length-map pairs (λ (p : BracketPair). p.opener) in
    get_or_past (map (λ (p : BracketPair). p.opener) pairs) i len (omega arith)

pub opener_or-within : (pairs : List BracketPair) (i len : ℕ) → AreInOrder pairs len → opener_or pairs i len ≤ len
opener_or-within pairs i len order =
    elim (cases_lt i (length pairs)) [
      | inl within ↦ let at = opener_or-at pairs i len within in let below = order.below i within in omega arith
      | inr past ↦ let at = opener_or-end pairs i len past in omega arith
    ]

pub opener_or-rises : (pairs : List BracketPair) (i len : ℕ) → AreInOrder pairs len → i < length pairs → opener_or pairs i len < opener_or pairs (i + 1) len
opener_or-rises pairs i len order within =
    let here = opener_or-at pairs i len within in
    elim (cases_lt (i + 1) (length pairs)) [
      | inl more ↦ let at = opener_or-at pairs (i + 1) len more in let rises = order.ascending i (i + 1) (omega arith) more in omega arith
      | inr past ↦ let at = opener_or-end pairs (i + 1) len (omega arith) in let below = order.below i within in omega arith
    ]

-- the list of opening brackets and the list of closers have the same closer for each opening bracket
pub closer-is : (pairs : List BracketPair) (i len : ℕ) → AreInOrder pairs len → i < length pairs → slice_index (closers_by pairs len) (opener_at pairs i) ≡ closer_at pairs i
closer-is pairs i len order within =
    closers_of-at (map as_pair pairs) len (opener_at pairs i) 0 (order.below i within)
    ∙ ap (λ c. unwrap_or c len) (closer_of-here pairs i within (λ a below. let rises = order.ascending a i below within in omega arith))

-- no pair opens before the first bracket of the list, or between a bracket and the next
none-at : (pairs : List BracketPair) (len m : ℕ) → m < len → ((a : ℕ) → a < length pairs → opener_at pairs a ≢ m) → length (closers_by pairs len) ≤ slice_index (closers_by pairs len) m
none-at pairs len m below other =
    let at = closers_of-at (map as_pair pairs) len m 0 below in
    let none = ap (λ c. unwrap_or c len) (closer_of-none pairs m other) in
    let size = length-closers_by pairs len in
    omega arith

pub none-before : (pairs : List BracketPair) (len m : ℕ) → AreInOrder pairs len → m < opener_or pairs 0 len → length (closers_by pairs len) ≤ slice_index (closers_by pairs len) m
none-before pairs len m order before =
    none-at pairs len m (let most = opener_or-within pairs 0 len order in omega arith) (λ a within.
    let first = opener_or-at pairs 0 len (omega arith) in
    elim (cases_eq 0 a) [
      | inl e ↦ let same : opener_at pairs 0 ≡ opener_at pairs a = ap (opener_at pairs) e in omega arith
      | inr ne ↦ let rises = order.ascending 0 a (omega arith) within in omega arith
    ])

pub none-between : (pairs : List BracketPair) (i len m : ℕ) → AreInOrder pairs len → i < length pairs → opener_at pairs i < m → m < opener_or pairs (i + 1) len
    → length (closers_by pairs len) ≤ slice_index (closers_by pairs len) m
none-between pairs i len m order inside after before =
    none-at pairs len m (let most = opener_or-within pairs (i + 1) len order in omega arith) (λ a within.
    elim (cases_order a i) [
      | inl e ↦ let same : opener_at pairs a ≡ opener_at pairs i = ap (opener_at pairs) e in omega arith
      | inr (inl early) ↦ let rises = order.ascending a i early inside in omega arith
      | inr (inr late) ↦
          let next = opener_or-at pairs (i + 1) len (omega arith) in
          elim (cases_eq (i + 1) a) [
            | inl e ↦ let same : opener_at pairs (i + 1) ≡ opener_at pairs a = ap (opener_at pairs) e in omega arith
            | inr ne ↦ let rises = order.ascending (i + 1) a (omega arith) within in omega arith
          ]
    ])

-- The bracket at index i of the list is at a, and its closer is b.
pub record IsItem (pairs : List BracketPair) (len i a b : ℕ) : Type 0 where
  pub opener : opener_or pairs i len ≡ a
  pub below : a < len
  pub closer : slice_index (closers_by pairs len) a ≡ b
  pub next : a < opener_or pairs (i + 1) len
  pub within : opener_or pairs (i + 1) len ≤ len
  pub free : (m : ℕ) → a < m → m < opener_or pairs (i + 1) len → length (closers_by pairs len) ≤ slice_index (closers_by pairs len) m

pub item-is : (pairs : List BracketPair) (len i : ℕ) → AreInOrder pairs len → i < length pairs
    → IsItem pairs len i (get_or pairs i (record { opener = 0; closer = 0 })).opener (get_or pairs i (record { opener = 0; closer = 0 })).closer
item-is pairs len i order inside =
    let none : BracketPair = record { opener = 0; closer = 0 } in
    let opener : opener_at pairs i ≡ (get_or pairs i none).opener = read_field (λ (p : BracketPair). p.opener) pairs i none in
    let closer : closer_at pairs i ≡ (get_or pairs i none).closer = read_field (λ (p : BracketPair). p.closer) pairs i none in
    let or_at = opener_or-at pairs i len inside in
    let below = order.below i inside in
    let rises = opener_or-rises pairs i len order inside in
    record {
      opener = or_at ∙ opener;
      below = omega arith;
      closer = ap (slice_index (closers_by pairs len)) (sym opener) ∙ closer-is pairs i len order inside ∙ closer;
      next = omega arith;
      within = opener_or-within pairs (i + 1) len order;
      free = λ m after before. none-between pairs i len m order inside (omega arith) before;
    }

-- the position of the newest opener that a closing bracket matches is below the number of openers
pub newest_within : (openers : List Opener) (closer m : ℕ) → Some m ≡ newest openers closer → m < length openers
newest_within openers closer m e = (greatest_found (λ i. canonical (pair_of openers i) == canonical closer) (length openers) m (sym e)).0

-- the opener read at m has the index that `index_of` returns
pub index_read : (openers : List Opener) (m : ℕ) (opener : Opener) → m < length openers → opener ≡ get_or openers m opener → opener.index ≡ index_of openers m
index_read openers m opener within is =
    let none : Opener = record { index = 0; pair = 0 } in
    ap (λ (o : Opener). o.index) (get_or_read openers m opener within is none) ∙ sym (read_field (λ (o : Opener). o.index) openers m none)
