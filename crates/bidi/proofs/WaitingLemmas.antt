-- One step of the pass for the weak rules, W1 to W7.
use Rattle.std.proofs.Common.{◌≡◌, ℕ, ◌+◌, ◌-◌, ◌<◌, ◌≤◌, Bool, true, false, not, if◌then◌else◌, List, [], ◌∷◌, ◌++◌, length, get_or, set, take, drop, replicate, refl, sym, ap, subst, ◌∙◌, inl, inr, arith, append_assoc}
use Rattle.std.proofs.lemmas.Bool.{cond-true, cond-false, cases_Bool}
use Rattle.std.proofs.lemmas.List.{append-nil, length-set, length-take-le, drop-drop, drop-set-lt, drop_more, drop_all, take-take, take-append-le, take-set, take-set-le, take_all, take_more_set, replicate_more}
use Rattle.ucd.specs.declared.bidi_class.BidiClass.{BidiClass}
use Rattle.ucd.specs.declared.bidi_class.BidiClass.TheVariants.{L, R, AL, EN, ES, ET, AN, CS, NSM, ON}
use Rattle.bidi.specs.declared.weak_table.Row.{Row}
use Rattle.bidi.specs.declared.weak_table.Row.TheVariants.{Nothing, European, Arabic, EuropeanTerminators, EuropeanSeparator, ArabicSeparator, Terminators}
use Rattle.ucd.specs.Classes.{is_strong}
use Rattle.ucd.specs.Classes.{is_nonspacing_mark}
use Rattle.bidi.specs.Weak.{is_left, mark_after, w3_type, weak}
use Rattle.bidi.specs.WeakTable.{is_simple}
use Rattle.bidi.specs.Waiting.{mark_type, digit_type, read_types, waits, lengthens, completes, written, row_after, start_after, types_after, AreTypesSoFar}
use Rattle.bidi.proofs.WeakLemmas.{left-w3, weak-is}

-- the nearest strong type is the same whether AL is replaced by R (W3) before or after the next type is read
strong-read : (marked strong : BidiClass)
    → w3_type (if is_strong marked then marked else strong) ≡ (if is_strong (w3_type (digit_type strong marked)) then w3_type (digit_type strong marked) else w3_type strong)
strong-read EN AL = refl
strong-read EN strong = refl
strong-read L strong = refl
strong-read R strong = refl
strong-read AL strong = refl
strong-read marked strong = refl

-- a type that joins the waiting run leaves the state unchanged
lengthened-row : (row : Row) (type : BidiClass) → lengthens row type ≡ true → row_after row type ≡ row
lengthened-row Terminators ET e = refl
lengthened-row Terminators _ e = absurd (cc)
lengthened-row _ type e = absurd (cc)

lengthened-written : (row : Row) (left : Bool) (type : BidiClass) → lengthens row type ≡ true → written row left type ≡ ON
lengthened-written Terminators left ET e = refl
lengthened-written Terminators left _ e = absurd (cc)
lengthened-written _ left type e = absurd (cc)

lengthened-completes : (row : Row) (type : BidiClass) → lengthens row type ≡ true → completes row type ≡ false
lengthened-completes Terminators ET e = refl
lengthened-completes Terminators _ e = absurd (cc)
lengthened-completes _ type e = absurd (cc)

lengthened-strong : (row : Row) (type : BidiClass) → lengthens row type ≡ true → is_strong type ≡ false
lengthened-strong Terminators ET e = refl
lengthened-strong Terminators _ e = absurd (cc)
lengthened-strong _ type e = absurd (cc)

-- a type that waits is written as ON
waits-written : (row : Row) (left : Bool) (type : BidiClass) → waits (row_after row type) ≡ true → written row left type ≡ ON
waits-written row left EN e = absurd (cc)
waits-written row left AN e = absurd (cc)
waits-written row left ES e = refl
waits-written row left CS e = refl
waits-written European left ET e = absurd (cc)
waits-written EuropeanTerminators left ET e = absurd (cc)
waits-written Nothing left ET e = refl
waits-written Arabic left ET e = refl
waits-written EuropeanSeparator left ET e = refl
waits-written ArabicSeparator left ET e = refl
waits-written Terminators left ET e = refl
waits-written row left _ e = absurd (cc)

module _ (sos : BidiClass) (old current : List BidiClass) (before strong : BidiClass) (row : Row) (start at : ℕ) (so_far : AreTypesSoFar sos old current before strong row start at)
    (d : BidiClass) (within : at < length current) (marked type value : BidiClass) (filled : List BidiClass)
    (is_marked : marked ≡ mark_type before (get_or current at d)) (is_type : type ≡ w3_type (digit_type strong marked)) (is_value : value ≡ written row (is_left strong) type)
    (size : length filled ≡ length current) (after : drop at filled ≡ drop at current)
    (front : take at filled ≡ take start current ++ replicate (at - start) (if completes row type then value else ON)) where
  abbrev unmarked : BidiClass
  unmarked = if not (is_nonspacing_mark (get_or current at d)) then get_or current at d else before

  abbrev nearest_strong : BidiClass
  nearest_strong = if is_strong marked then marked else strong

  abbrev later : List BidiClass
  later = read_types unmarked nearest_strong (drop (at + 1) old)

  abbrev whole : List BidiClass
  whole = types_after Nothing 0 (w3_type sos) (read_types sos sos old)

  beyond : drop (at + 1) current ≡ drop (at + 1) old
  beyond = sym (drop-drop 1 at current) ∙ ap (drop 1) so_far.rest ∙ drop-drop 1 at old

  -- the types written so far, followed by those that the pass will write for the type just read and the later types,
  -- are the final types
  opened : take start current ++ types_after row (at - start) (w3_type strong) (type ∷ later) ≡ whole
  opened =
      let item : drop at old ≡ get_or current at d ∷ drop (at + 1) old =
      sym so_far.rest ∙ drop_more current at d within ∙ ap (λ xs. get_or current at d ∷ xs) beyond in
      let read : read_types before strong (drop at old) ≡ type ∷ later =
      ap (read_types before strong) item
      ∙ ap (λ m. w3_type (digit_type strong m) ∷ read_types unmarked (if is_strong m then m else strong) (drop (at + 1) old)) (sym is_marked)
      ∙ ap (λ t. t ∷ later) (sym is_type) in
      ap (λ xs. take start current ++ types_after row (at - start) (w3_type strong) xs) (sym read) ∙ so_far.whole

  strong-next : w3_type nearest_strong ≡ (if is_strong type then type else w3_type strong)
  strong-next = strong-read marked strong ∙ ap (λ t. if is_strong t then t else w3_type strong) (sym is_type)

  sizes-next : length (set filled at value) ≡ length old
  sizes-next = length-set filled at value ∙ size ∙ so_far.sizes

  rest-next : drop (at + 1) (set filled at value) ≡ drop (at + 1) old
  rest-next =
      drop-set-lt (at + 1) filled at value (omega arith) ∙ sym (drop-drop 1 at filled) ∙ ap (drop 1) (after ∙ so_far.rest) ∙ drop-drop 1 at old

  inside : at < length filled
  inside = omega (arith, size)

  front-next : take (at + 1) (set filled at value) ≡ take at filled ++ value ∷ []
  front-next = take_more_set filled at value inside

  -- the types before the run are unchanged
  kept : take start (set filled at value) ≡ take start current
  kept =
      let order : start ≤ at = so_far.order in
      let fits : start ≤ length (take start current) = omega (arith, length-take-le start current (omega arith)) in
      take-set-le start filled at value order
      ∙ sym (take-take start at filled order) ∙ ap (take start) front
      ∙ take-append-le start (take start current) (replicate (at - start) (if completes row type then value else ON)) fits
      ∙ take-take start start current (omega arith)

  value-is : value ≡ written row (is_left (w3_type strong)) type
  value-is = is_value ∙ ap (λ left. written row left type) (left-w3 strong)

  lengthened : lengthens row type ≡ true → AreTypesSoFar sos old (set filled at value) unmarked nearest_strong (row_after row type) start (at + 1)
  lengthened e =
      let order : start ≤ at = so_far.order in
      let more : (at - start) + 1 ≡ (at + 1) - start = omega arith in
      let on : value ≡ ON = is_value ∙ lengthened-written row (is_left strong) type e in
      let same : w3_type nearest_strong ≡ w3_type strong =
      strong-next ∙ cond-false (is_strong type) type (w3_type strong) (lengthened-strong row type e) in
      record {
        sizes = sizes-next;
        order = omega arith;
        rest = rest-next;
        waiting = front-next
            ∙ ap (λ xs. xs ++ value ∷ []) (front ∙ ap (λ t. take start current ++ replicate (at - start) t) (cond-false (completes row type) value ON (lengthened-completes row type e)))
            ∙ ap (λ t. (take start current ++ replicate (at - start) ON) ++ t ∷ []) on
            ∙ append_assoc (take start current) (replicate (at - start) ON) (ON ∷ [])
            ∙ ap (λ xs. take start current ++ xs) (replicate_more (at - start) ON)
            ∙ ap (λ n. take start current ++ replicate n ON) more
            ∙ ap (λ xs. xs ++ replicate ((at + 1) - start) ON) (sym kept);
        whole = ap (λ xs. xs ++ types_after (row_after row type) ((at + 1) - start) (w3_type nearest_strong) later) kept
            ∙ ap (λ r. take start current ++ types_after r ((at + 1) - start) (w3_type nearest_strong) later) (lengthened-row row type e)
            ∙ ap (λ s. take start current ++ types_after row ((at + 1) - start) s later) same
            ∙ ap (λ n. take start current ++ types_after row n (w3_type strong) later) (sym more)
            ∙ ap (λ xs. take start current ++ xs) (sym (cond-true (lengthens row type) (types_after row ((at - start) + 1) (w3_type strong) later)
            (replicate (at - start) (if completes row type then written row (is_left (w3_type strong)) type else ON)
            ++ (if waits (row_after row type) then types_after (row_after row type) 1 (if is_strong type then type else w3_type strong) later
            else written row (is_left (w3_type strong)) type ∷ types_after (row_after row type) 0 (if is_strong type then type else w3_type strong) later)) e))
            ∙ opened;
      }

  -- the types written so far, including those that waited, followed by those that the pass will write for the later
  -- types, are the final types
  passed : lengthens row type ≡ false
      → take at filled ++ (if waits (row_after row type) then types_after (row_after row type) 1 (w3_type nearest_strong) later
      else value ∷ types_after (row_after row type) 0 (w3_type nearest_strong) later) ≡ whole
  passed e =
      ap (λ xs. xs ++ (if waits (row_after row type) then types_after (row_after row type) 1 (w3_type nearest_strong) later
      else value ∷ types_after (row_after row type) 0 (w3_type nearest_strong) later)) front
      ∙ append_assoc (take start current) (replicate (at - start) (if completes row type then value else ON))
      (if waits (row_after row type) then types_after (row_after row type) 1 (w3_type nearest_strong) later
      else value ∷ types_after (row_after row type) 0 (w3_type nearest_strong) later)
      ∙ ap (λ s. take start current ++ (replicate (at - start) (if completes row type then value else ON) ++ (if waits (row_after row type) then types_after (row_after row type) 1 s later
      else value ∷ types_after (row_after row type) 0 s later))) strong-next
      ∙ ap (λ v. take start current ++ (replicate (at - start) (if completes row type then v else ON)
      ++ (if waits (row_after row type) then types_after (row_after row type) 1
      (if is_strong type then type else w3_type strong) later
      else v ∷ types_after (row_after row type) 0 (if is_strong type then type else w3_type strong) later))) value-is
      ∙ ap (λ xs. take start current ++ xs) (sym (cond-false (lengthens row type) (types_after row ((at - start) + 1) (w3_type strong) later)
      (replicate (at - start) (if completes row type then written row (is_left (w3_type strong)) type else ON)
      ++ (if waits (row_after row type) then types_after (row_after row type) 1 (if is_strong type then type else w3_type strong) later
      else written row (is_left (w3_type strong)) type ∷ types_after (row_after row type) 0 (if is_strong type then type else w3_type strong) later)) e))
      ∙ opened

  waited : lengthens row type ≡ false → waits (row_after row type) ≡ true
      → AreTypesSoFar sos old (set filled at value) unmarked nearest_strong (row_after row type) at (at + 1)
  waited e w =
      let one : (at + 1) - at ≡ 1 = omega arith in
      let on : value ≡ ON = is_value ∙ waits-written row (is_left strong) type w in
      let same : take at (set filled at value) ≡ take at filled = take-set filled at value in
      record {
        sizes = sizes-next;
        order = omega arith;
        rest = rest-next;
        waiting = front-next ∙ ap (λ t. take at filled ++ t ∷ []) on ∙ ap (λ n. take at filled ++ replicate n ON) (sym one)
            ∙ ap (λ xs. xs ++ replicate ((at + 1) - at) ON) (sym same);
        whole = ap (λ n. take at (set filled at value) ++ types_after (row_after row type) n (w3_type nearest_strong) later) one
            ∙ ap (λ xs. xs ++ types_after (row_after row type) 1 (w3_type nearest_strong) later) same
            ∙ ap (λ xs. take at filled ++ xs) (sym (cond-true (waits (row_after row type)) (types_after (row_after row type) 1 (w3_type nearest_strong) later)
            (value ∷ types_after (row_after row type) 0 (w3_type nearest_strong) later) w))
            ∙ passed e;
      }

  settled : lengthens row type ≡ false → waits (row_after row type) ≡ false
      → AreTypesSoFar sos old (set filled at value) unmarked nearest_strong (row_after row type) (at + 1) (at + 1)
  settled e w =
      let none : (at + 1) - (at + 1) ≡ 0 = omega arith in
      record {
        sizes = sizes-next;
        order = omega arith;
        rest = rest-next;
        waiting = sym (ap (λ n. take (at + 1) (set filled at value) ++ replicate n ON) none ∙ append-nil (take (at + 1) (set filled at value)));
        whole = ap (λ n. take (at + 1) (set filled at value) ++ types_after (row_after row type) n (w3_type nearest_strong) later) none
            ∙ ap (λ xs. xs ++ types_after (row_after row type) 0 (w3_type nearest_strong) later) front-next
            ∙ append_assoc (take at filled) (value ∷ []) (types_after (row_after row type) 0 (w3_type nearest_strong) later)
            ∙ ap (λ xs. take at filled ++ xs) (sym (cond-false (waits (row_after row type)) (types_after (row_after row type) 1 (w3_type nearest_strong) later)
            (value ∷ types_after (row_after row type) 0 (w3_type nearest_strong) later) w))
            ∙ passed e;
      }

  pub types-next : (next : ℕ) → next ≡ start_after row type start at → AreTypesSoFar sos old (set filled at value) unmarked nearest_strong (row_after row type) next (at + 1)
  types-next next is_next =
      let P : ℕ → Type 0 = λ s. AreTypesSoFar sos old (set filled at value) unmarked nearest_strong (row_after row type) s (at + 1) in
      let others = if waits (row_after row type) then at else at + 1 in
      subst P (sym is_next) (elim (cases_Bool (lengthens row type)) [
        | inl e ↦ subst P (sym (cond-true (lengthens row type) start others e)) (lengthened e)
        | inr e ↦ subst P (sym (cond-false (lengthens row type) start others e)) (elim (cases_Bool (waits (row_after row type))) [
          | inl w ↦ subst P (sym (cond-true (waits (row_after row type)) at (at + 1) w)) (waited e w)
          | inr w ↦ subst P (sym (cond-false (waits (row_after row type)) at (at + 1) w)) (settled e w)
        ])
      ])

-- at the end of the sequence, the types that still wait stay ON, and the list has the types after W7
pub types-end : (sos : BidiClass) (old current : List BidiClass) (before strong : BidiClass) (row : Row) (start at : ℕ) → AreTypesSoFar sos old current before strong row start at
    → length current ≤ at → current ≡ weak sos old
types-end sos old current before strong row start at so_far past =
    sym (take_all at current past) ∙ so_far.waiting
    ∙ ap (λ xs. take start current ++ types_after row (at - start) (w3_type strong) (read_types before strong xs)) (sym (drop_all at old (omega (arith, so_far.sizes))))
    ∙ so_far.whole ∙ weak-is sos old

-- ---- a type that W1, W2 and W4 to W7 leave unchanged
simple-mark : (class : BidiClass) → is_simple class ≡ true → is_nonspacing_mark class ≡ false
simple-mark NSM e = absurd (cc)
simple-mark _ e = refl

simple-digit : (strong class : BidiClass) → is_simple class ≡ true → digit_type strong class ≡ class
simple-digit strong EN e = absurd (cc)
simple-digit strong _ e = refl

simple-w3 : (class : BidiClass) → is_simple class ≡ true → is_simple (w3_type class) ≡ true
simple-w3 AL e = refl
simple-w3 _ e = e

simple-lengthens : (row : Row) (type : BidiClass) → is_simple type ≡ true → lengthens row type ≡ false
simple-lengthens Terminators ET e = absurd (cc)
simple-lengthens _ _ e = refl

simple-completes : (row : Row) (type : BidiClass) → is_simple type ≡ true → completes row type ≡ false
simple-completes EuropeanSeparator EN e = absurd (cc)
simple-completes ArabicSeparator AN e = absurd (cc)
simple-completes Terminators EN e = absurd (cc)
simple-completes _ _ e = refl

simple-row : (row : Row) (type : BidiClass) → is_simple type ≡ true → row_after row type ≡ Nothing
simple-row row EN e = absurd (cc)
simple-row row AN e = absurd (cc)
simple-row row ET e = absurd (cc)
simple-row row ES e = absurd (cc)
simple-row row CS e = absurd (cc)
simple-row row _ e = refl

simple-written : (row : Row) (left : Bool) (type : BidiClass) → is_simple type ≡ true → written row left type ≡ type
simple-written row left EN e = absurd (cc)
simple-written row left ET e = absurd (cc)
simple-written row left ES e = absurd (cc)
simple-written row left CS e = absurd (cc)
simple-written row left _ e = refl

simple-after : (row : Row) (n : ℕ) (strong type : BidiClass) (types : List BidiClass) → is_simple type ≡ true
    → types_after row n strong (type ∷ types) ≡ replicate n ON ++ (type ∷ types_after Nothing 0 (if is_strong type then type else strong) types)
simple-after row n strong type types e =
    let left = is_left strong in
    let next = if is_strong type then type else strong in
    cond-false (lengthens row type) (types_after row (n + 1) strong types)
    (replicate n (if completes row type then written row left type else ON)
    ++ (if waits (row_after row type) then types_after (row_after row type) 1 next types else written row left type ∷ types_after (row_after row type) 0 next types))
    (simple-lengthens row type e)
    ∙ ap (λ b. replicate n (if b then written row left type else ON)
    ++ (if waits (row_after row type) then types_after (row_after row type) 1 next types else written row left type ∷ types_after (row_after row type) 0 next types)) (simple-completes row type e)
    ∙ ap (λ r. replicate n ON ++ (if waits r then types_after r 1 next types else written row left type ∷ types_after r 0 next types)) (simple-row row type e)
    ∙ ap (λ t. replicate n ON ++ (t ∷ types_after Nothing 0 next types)) (simple-written row left type e)

module _ (sos : BidiClass) (old current : List BidiClass) (before strong : BidiClass) (at : ℕ) (d : BidiClass) (within : at < length current)
    (simple : is_simple (get_or current at d) ≡ true) where
  abbrev class : BidiClass
  class = get_or current at d

  is_marked : class ≡ mark_type before class
  is_marked = sym (cond-false (is_nonspacing_mark class) (mark_after before) class (simple-mark class simple))

  -- before such a type, pending types stay ON
  pub types-settle : (row : Row) (start : ℕ) → AreTypesSoFar sos old current before strong row start at → AreTypesSoFar sos old current before strong Nothing at at
  types-settle row start so_far =
      let none : at - at ≡ 0 = omega arith in
      let type = w3_type (digit_type strong (mark_type before class)) in
      let later = read_types (if not (is_nonspacing_mark class) then class else before) (if is_strong (mark_type before class) then mark_type before class else strong) (drop (at + 1) old) in
      let beyond : drop (at + 1) current ≡ drop (at + 1) old = sym (drop-drop 1 at current) ∙ ap (drop 1) so_far.rest ∙ drop-drop 1 at old in
      let item : drop at old ≡ class ∷ drop (at + 1) old = sym so_far.rest ∙ drop_more current at d within ∙ ap (λ xs. class ∷ xs) beyond in
      let read : read_types before strong (drop at old) ≡ type ∷ later = ap (read_types before strong) item in
      let type_is : type ≡ w3_type class = ap (λ m. w3_type (digit_type strong m)) (sym is_marked) ∙ ap w3_type (simple-digit strong class simple) in
      let stays : is_simple type ≡ true = ap is_simple type_is ∙ simple-w3 class simple in
      let after = type ∷ types_after Nothing 0 (if is_strong type then type else w3_type strong) later in
      record {
        sizes = so_far.sizes;
        order = omega arith;
        rest = so_far.rest;
        waiting = sym (ap (λ n. take at current ++ replicate n ON) none ∙ append-nil (take at current));
        whole = ap (λ n. take at current ++ types_after Nothing n (w3_type strong) (read_types before strong (drop at old))) none
            ∙ ap (λ xs. take at current ++ types_after Nothing 0 (w3_type strong) xs) read
            ∙ ap (λ xs. take at current ++ xs) (simple-after Nothing 0 (w3_type strong) type later stays)
            ∙ ap (λ xs. xs ++ after) so_far.waiting
            ∙ append_assoc (take start current) (replicate (at - start) ON) after
            ∙ ap (λ xs. take start current ++ xs) (sym (simple-after row (at - start) (w3_type strong) type later stays))
            ∙ ap (λ xs. take start current ++ types_after row (at - start) (w3_type strong) xs) (sym read)
            ∙ so_far.whole;
      }

  -- the pass changes such a type only by W3
  pub types-simple : AreTypesSoFar sos old current before strong Nothing at at
      → AreTypesSoFar sos old (set current at (w3_type class)) class (if is_strong class then class else strong) Nothing (at + 1) (at + 1)
  types-simple so_far =
      let none : at - at ≡ 0 = omega arith in
      let type = w3_type (digit_type strong class) in
      let type_is : type ≡ w3_type class = ap w3_type (simple-digit strong class simple) in
      let stays : is_simple type ≡ true = ap is_simple type_is ∙ simple-w3 class simple in
      let value = w3_type class in
      let marker = if completes Nothing type then value else ON in
      let next = if is_strong class then class else strong in
      let moved = set current at value in
      subst (λ r. AreTypesSoFar sos old moved class next r (at + 1) (at + 1)) (simple-row Nothing type stays)
      (subst (λ b. AreTypesSoFar sos old moved b next (row_after Nothing type) (at + 1) (at + 1)) (ap (λ b. if not b then class else before) (simple-mark class simple))
      (types-next sos old current before strong Nothing at at so_far d within class type value current is_marked refl
      (sym (simple-written Nothing (is_left strong) type stays ∙ type_is)) refl refl
      (sym (ap (λ n. take at current ++ replicate n marker) none ∙ append-nil (take at current)))
      (at + 1) (sym (ap (λ r. if waits r then at else at + 1) (simple-row Nothing type stays)))))

-- the start of the pending types is at most the next index
pub start-low : (row : Row) (type : BidiClass) (start at : ℕ) → start ≤ at → start_after row type start at ≤ at + 1
start-low row type start at order =
    elim (lengthens row type) as (λ b. (if b then start else (if waits (row_after row type) then at else at + 1)) ≤ at + 1) [
      | true ↦ omega (arith, order)
      | false ↦ elim (waits (row_after row type)) as (λ b. (if b then at else at + 1) ≤ at + 1) [ true ↦ omega arith | false ↦ omega arith ]
    ]

-- the start of the pending types is at most the index
pub pending-low : (row : Row) (start at : ℕ) → (waits row ≡ true → start ≤ at) → (if waits row then start else at) ≤ at
pending-low row start at order =
    elim (cases_Bool (waits row)) [
      | inl e ↦ subst (λ n. n ≤ at) (sym (cond-true (waits row) start at e)) (order e)
      | inr e ↦ subst (λ n. n ≤ at) (sym (cond-false (waits row) start at e)) (omega arith)
    ]
