-- The pass of N0: which types change when a bracket is set, which strong types are inside a pair, and what
-- has changed so far.
use Rattle.std.proofs.Common.{◌≡◌, ℕ, zero, suc, ◌+◌, ◌-◌, ◌<◌, ◌≤◌, ◌==◌, ◌⊎◌, nat_lt, Bool, true, false, ◌&&◌, not, if◌then◌else◌, List, [], ◌∷◌, length, get_or, set, take, drop, map, fold, reverse, slice_range, slice_index, Option, Some, None, refl, sym, ap, subst, ◌∙◌, inl, inr, arith, length-drop}
use Rattle.std.specs.List.{list_any, list_all, range_with_len}
use Rattle.std.proofs.lemmas.Bool.{cond-true, cond-false, cases_Bool, cases_eq, cases_lt, cases_order, eq-eqb, ne_eqb, lt-ltb, le-ltb, both_ways, or_left, or_right, or_from, or_cases, and_parts, and_from, and_left}
use Rattle.std.proofs.lemmas.List.{length-map, length-take, length-take-le, get_or-take, get_or-drop, same_lists, take_more, reverse-append, get_or_default, length-set, get_or-set_other}
use Rattle.std.proofs.lemmas.Grind.{get_or-set_at}
use Rattle.std.proofs.Math.ListN.{get_or-map}
use Rattle.std.proofs.lemmas.List.FromFn.{fill_by_all, get_or-map-range_with_len, length-map-range_with_len}
use Rattle.std.proofs.lemmas.List.Folds.{list_any_none, list_any_at}
use Rattle.std.proofs.lemmas.List.Sums.{AllPass-from_list_all, list_all-from_AllPass}
use Rattle.std.proofs.lemmas.List.Elements.{All-get_or, All-from_get_or}
use Rattle.ucd.specs.declared.bidi_class.BidiClass.{BidiClass}
use Rattle.ucd.specs.declared.bidi_class.BidiClass.TheVariants.{ON}
use Rattle.bidi.specs.Brackets.{is_other, is_direction, is_toward, stands, context, pair_direction, is_set_with, set_with, set_pair, pair_step, resolve_pairs}
use Rattle.ucd.specs.Classes.{class_at}
use Rattle.bidi.specs.Closers.{closer_in, AreNested}
use Rattle.bidi.specs.Neighbours.{nearest}
use Rattle.bidi.specs.Neutral.{agree, side}
use Rattle.bidi.specs.Resolving.{IsClear}
use Rattle.ucd.specs.Classes.{is_nonspacing_mark}
use Rattle.bidi.specs.Weak.{is_left}

-- ---- the length and the items of a range of a list
module _ {T : Type 0} where
  range_size : (xs : List T) (a b : ℕ) → b ≤ length xs → length (slice_range xs a b) ≡ b - a
  range_size xs a b within = omega (arith, length-take (b - a) (drop a xs), length-drop a xs)

  range_item : (xs : List T) (a b i : ℕ) (d : T) → i < b - a → get_or (slice_range xs a b) i d ≡ get_or xs (a + i) d
  range_item xs a b i d h = get_or-take (b - a) (drop a xs) i d h ∙ get_or-drop a xs i d

  range_item_at : (xs : List T) (a b m : ℕ) (d : T) → a ≤ m → m < b → get_or (slice_range xs a b) (m - a) d ≡ get_or xs m d
  range_item_at xs a b m d above below =
      let e : a + (m - a) ≡ m = omega arith in
      range_item xs a b (m - a) d (omega arith) ∙ ap (λ n. get_or xs n d) e

  range_all : (p : T → Bool) (xs : List T) (a b : ℕ) (d : T) → b ≤ length xs → ((m : ℕ) → a ≤ m → m < b → p (get_or xs m d) ≡ true)
      → list_all p (slice_range xs a b) ≡ true
  range_all p xs a b d within each =
      let size : length (slice_range xs a b) ≡ b - a = range_size xs a b within in
      list_all-from_AllPass p (slice_range xs a b) (All-from_get_or (λ x. p x ≡ true) (slice_range xs a b) d (λ i h.
      ap p (range_item xs a b i d (omega arith)) ∙ each (a + i) (omega arith) (omega arith)))

  range_all_at : (p : T → Bool) (xs : List T) (a b m : ℕ) (d : T) → b ≤ length xs → list_all p (slice_range xs a b) ≡ true → a ≤ m → m < b → p (get_or xs m d) ≡ true
  range_all_at p xs a b m d within all above below =
      let size : length (slice_range xs a b) ≡ b - a = range_size xs a b within in
      ap p (sym (range_item_at xs a b m d above below))
      ∙ All-get_or (λ x. p x ≡ true) (slice_range xs a b) (m - a) d (omega arith) (AllPass-from_list_all p (slice_range xs a b) all)

  range_any_at : (p : T → Bool) (xs : List T) (a b m : ℕ) (d : T) → b ≤ length xs → a ≤ m → m < b → p (get_or xs m d) ≡ true → list_any p (slice_range xs a b) ≡ true
  range_any_at p xs a b m d within above below here =
      let size : length (slice_range xs a b) ≡ b - a = range_size xs a b within in
      list_any_at p (slice_range xs a b) (m - a) d (omega arith) (ap p (range_item_at xs a b m d above below) ∙ here)

  range_any_none : (p : T → Bool) (xs : List T) (a b : ℕ) (d : T) → b ≤ length xs → ((m : ℕ) → a ≤ m → m < b → p (get_or xs m d) ≡ false)
      → list_any p (slice_range xs a b) ≡ false
  range_any_none p xs a b d within none =
      let size : length (slice_range xs a b) ≡ b - a = range_size xs a b within in
      list_any_none p (slice_range xs a b) (All-from_get_or (λ x. p x ≡ false) (slice_range xs a b) d (λ i h.
      ap p (range_item xs a b i d (omega arith)) ∙ none (a + i) (omega arith) (omega arith)))

-- all characters after the bracket at p, up to and including q, are nonspacing marks
pub record Row (marks : List Bool) (p q : ℕ) : Type 0 where
  pub order : p ≤ q
  pub marked : (m : ℕ) → p < m → m ≤ q → get_or marks m false ≡ true

pub Row-set : (marks : List Bool) (p q : ℕ) → q < length marks → Row marks p q → is_set_with marks p q ≡ true
Row-set marks p q within row =
    elim (cases_eq p q) [
      | inl same ↦ or_left (p == q) (nat_lt p q && list_all (λ mark. mark) (slice_range marks (p + 1) (q + 1))) (eq-eqb p q same)
      | inr ne ↦ or_right (p == q) (nat_lt p q && list_all (λ mark. mark) (slice_range marks (p + 1) (q + 1)))
          (and_from (nat_lt p q) (list_all (λ mark. mark) (slice_range marks (p + 1) (q + 1))) (lt-ltb p q (omega (arith, row.order)))
          (range_all (λ mark. mark) marks (p + 1) (q + 1) false (omega arith) (λ m above below. row.marked m (omega arith) (omega arith))))
    ]

pub set-Row : (marks : List Bool) (p q : ℕ) → q < length marks → is_set_with marks p q ≡ true → Row marks p q
set-Row marks p q within set =
    elim (cases_order p q) [
      | inl same ↦ record { order = omega arith; marked = λ m above below. absurd (omega arith) }
      | inr (inl before) ↦
          elim (or_cases (p == q) (nat_lt p q && list_all (λ mark. mark) (slice_range marks (p + 1) (q + 1))) set) [
            | inl same ↦ absurd (both_ways (p == q) (ne_eqb p q (λ e. omega arith)) same)
            | inr more ↦ record {
              order = omega arith;
              marked = λ m above below. range_all_at (λ mark. mark) marks (p + 1) (q + 1) m false (omega arith)
                  (and_parts (nat_lt p q) (list_all (λ mark. mark) (slice_range marks (p + 1) (q + 1))) more).1 (omega arith) (omega arith);
            }
          ]
      | inr (inr after) ↦ absurd (both_ways (is_set_with marks p q)
          (or_from (p == q) (nat_lt p q && list_all (λ mark. mark) (slice_range marks (p + 1) (q + 1))) (ne_eqb p q (λ e. omega arith))
          (and_left (nat_lt p q) (list_all (λ mark. mark) (slice_range marks (p + 1) (q + 1))) (le-ltb p q (omega arith)))) set)
    ]

pub no_Row : (marks : List Bool) (p q : ℕ) → q < length marks → (Row marks p q → ⊥) → is_set_with marks p q ≡ false
no_Row marks p q within none =
    elim (cases_Bool (is_set_with marks p q)) [ inl set ↦ absurd (none (set-Row marks p q within set)) | inr free ↦ free ]

-- Setting the bracket at p sets the types of the bracket and the nonspacing marks directly after it to the direction.
-- All other types stay the same.
pub set_with-at : (marks : List Bool) (d : BidiClass) (types : List BidiClass) (p q : ℕ) (e : BidiClass) → q < length types
    → get_or (set_with marks d types p) q e ≡ (if is_set_with marks p q then d else class_at types q)
set_with-at marks d types p q e within =
    get_or-map-range_with_len (λ k. if is_set_with marks p k then d else class_at types k) 0 (length types) q q e within (omega arith)

pub length-set_with : (marks : List Bool) (d : BidiClass) (types : List BidiClass) (p : ℕ) → length (set_with marks d types p) ≡ length types
length-set_with marks d types p = length-map-range_with_len (λ k. if is_set_with marks p k then d else class_at types k) 0 (length types)

pub set_with-set : (marks : List Bool) (d : BidiClass) (types : List BidiClass) (p q : ℕ) (e : BidiClass) → q < length types → length marks ≡ length types
    → Row marks p q → get_or (set_with marks d types p) q e ≡ d
set_with-set marks d types p q e within sizes row =
    set_with-at marks d types p q e within ∙ cond-true (is_set_with marks p q) d (class_at types q) (Row-set marks p q (omega arith) row)

pub set_with-kept : (marks : List Bool) (d : BidiClass) (types : List BidiClass) (p q : ℕ) (e : BidiClass) → q < length types
    → is_set_with marks p q ≡ false → get_or (set_with marks d types p) q e ≡ class_at types q
set_with-kept marks d types p q e within free =
    set_with-at marks d types p q e within ∙ cond-false (is_set_with marks p q) d (class_at types q) free

-- The state of the pass over the nonspacing marks after the bracket at `place`. The bracket and the nonspacing marks
-- before k have been set.
pub record Marked (explicit old current : List BidiClass) (d : BidiClass) (place k : ℕ) : Type 0 where
  pub sizes : length current ≡ length old
  pub reached : place < k
  pub bounded : k ≤ length old
  pub marked : (m : ℕ) → place < m → m < k → is_nonspacing_mark (class_at explicit m) ≡ true
  pub done : (m : ℕ) → place ≤ m → m < k → class_at current m ≡ d
  pub front : (m : ℕ) → m < place → class_at current m ≡ class_at old m
  pub rest : (m : ℕ) → k ≤ m → class_at current m ≡ class_at old m

pub Marked-first : (explicit old : List BidiClass) (d : BidiClass) (place : ℕ) → place < length old → Marked explicit old (set old place d) d place (place + 1)
Marked-first explicit old d place within = record {
  sizes = length-set old place d;
  reached = omega arith;
  bounded = omega arith;
  marked = λ m above below. absurd (omega arith);
  done = λ m above below. get_or-set_at old place m d ON (omega arith) within;
  front = λ m below. get_or-set_other old place m d ON (λ e. omega (arith, e));
  rest = λ m above. get_or-set_other old place m d ON (λ e. omega (arith, e));
}

pub Marked-next : (explicit old current : List BidiClass) (d : BidiClass) (place k : ℕ) (e : BidiClass) → Marked explicit old current d place k → k < length current
    → length explicit ≡ length old → is_nonspacing_mark (get_or explicit k e) ≡ true → Marked explicit old (set current k d) d place (k + 1)
Marked-next explicit old current d place k e w within sizes mark =
    let same : length current ≡ length old = w.sizes in
    let from : place < k = w.reached in
    record {
      sizes = length-set current k d ∙ w.sizes;
      reached = omega arith;
      bounded = omega arith;
      marked = λ m above below. elim (cases_eq m k) [
        | inl last ↦ ap (λ n. is_nonspacing_mark (get_or explicit n ON)) last ∙ ap is_nonspacing_mark (get_or_default explicit k ON e (omega arith)) ∙ mark
        | inr ne ↦ w.marked m above (omega arith)
      ];
      done = λ m above below. elim (cases_eq m k) [
        | inl last ↦ get_or-set_at current k m d ON last within
        | inr ne ↦ get_or-set_other current k m d ON (λ e. omega (arith, e)) ∙ w.done m above (omega arith)
      ];
      front = λ m below. get_or-set_other current k m d ON (λ e. omega (arith, e)) ∙ w.front m below;
      rest = λ m above. get_or-set_other current k m d ON (λ e. omega (arith, e)) ∙ w.rest m (omega arith);
    }

mark_at : (explicit : List BidiClass) (m : ℕ) → get_or (map is_nonspacing_mark explicit) m false ≡ is_nonspacing_mark (class_at explicit m)
mark_at explicit m = get_or-map is_nonspacing_mark explicit m ON

pub Marked-end : (explicit old current : List BidiClass) (d : BidiClass) (place k : ℕ) → Marked explicit old current d place k → length explicit ≡ length old
    → (k < length old → is_nonspacing_mark (class_at explicit k) ≡ false) → current ≡ set_with (map is_nonspacing_mark explicit) d old place
Marked-end explicit old current d place k w sizes stops =
    let marks : List Bool = map is_nonspacing_mark explicit in
    let size : length marks ≡ length old = length-map explicit is_nonspacing_mark ∙ sizes in
    let from : place < k = w.reached in
    fill_by_all (λ m. if is_set_with marks place m then d else class_at old m) current (length old) ON w.sizes (λ m within.
    elim (cases_lt m place) [
      | inl before ↦ w.front m before ∙ sym (cond-false (is_set_with marks place m) d (class_at old m)
          (no_Row marks place m (omega arith) (λ row. omega (arith, row.order))))
      | inr above ↦ elim (cases_lt m k) [
        | inl inside ↦ w.done m above inside ∙ sym (cond-true (is_set_with marks place m) d (class_at old m)
            (Row-set marks place m (omega arith) (record { order = above; marked = λ i after upto. mark_at explicit i ∙ w.marked i after (omega arith) })))
        | inr after ↦ w.rest m after ∙ sym (cond-false (is_set_with marks place m) d (class_at old m)
            (no_Row marks place m (omega arith) (λ row. both_ways (is_nonspacing_mark (class_at explicit k)) (stops (omega arith))
            (sym (mark_at explicit k) ∙ row.marked k (omega arith) (omega arith)))))
      ]
    ])

-- if no item from `from` to k - 1 passes the test, and the item at k fails it, no item from `from` to k
-- passes it
pub none_more : {T : Type 0} (p : T → Bool) (xs : List T) (from k : ℕ) (d e : T) → ((m : ℕ) → from ≤ m → m < k → p (get_or xs m d) ≡ false)
    → k < length xs → p (get_or xs k e) ≡ false → (m : ℕ) → from ≤ m → m < k + 1 → p (get_or xs m d) ≡ false
none_more p xs from k d e passed within here m above below =
    elim (cases_eq m k) [
      | inl last ↦ ap (λ n. p (get_or xs n d)) last ∙ ap p (get_or_default xs k d e within) ∙ here
      | inr ne ↦ passed m above (omega arith)
    ]

-- a strong type of a direction is inside a pair if and only if the next such type after the opener is before
-- the closer
pub stands_is : (left : Bool) (types : List BidiClass) (place closer next : ℕ) → closer ≤ length types → place < next
    → ((m : ℕ) → place < m → m < next → m < closer → is_toward left (class_at types m) ≡ false)
    → (next < closer → is_toward left (class_at types next) ≡ true)
    → nat_lt next closer ≡ stands left types place closer
stands_is left types place closer next within after passed stops =
    elim (cases_lt next closer) [
      | inl inside ↦ lt-ltb next closer inside
          ∙ sym (range_any_at (is_toward left) types (place + 1) closer next ON within (omega arith) inside (stops inside))
      | inr outside ↦ le-ltb next closer outside
          ∙ sym (range_any_none (is_toward left) types (place + 1) closer ON within (λ m above below. passed m (omega arith) (omega arith) below))
    ]

-- if no type inside a pair has changed, a search in the types before N0 finds the strong types inside it
pub stands_as_before : (left : Bool) (types before : List BidiClass) (place closer old from next : ℕ) → closer < length types → length before ≡ length types
    → IsClear left before place old → ((m : ℕ) → place < m → m < closer → class_at types m ≡ class_at before m)
    → from ≤ next → place < from → ((m : ℕ) → place < m → m < from → m < old)
    → ((m : ℕ) → from ≤ m → m < next → is_toward left (class_at before m) ≡ false)
    → (next < closer → is_toward left (class_at before next) ≡ true)
    → nat_lt next closer ≡ stands left types place closer
stands_as_before left types before place closer old from next within sizes clear kept reached after covered passed stops =
    stands_is left types place closer next (omega arith) (omega arith)
    (λ m above below inside. ap (is_toward left) (kept m above inside) ∙ elim (cases_lt m from) [
      | inl early ↦ clear.passed m above (covered m above early)
      | inr late ↦ passed m late below
    ])
    (λ inside. ap (is_toward left) (kept next (omega arith) inside) ∙ stops inside)

-- An earlier pair may have set the type at q. From a bracket of that pair up to q, no type is ON now.
pub record Touched (closers : List ℕ) (current : List BidiClass) (k q : ℕ) : Type 0 where
  pub opener : ℕ
  pub place : ℕ
  pub earlier : opener < k
  pub paired : slice_index closers opener < length closers
  pub bracket : (place ≡ opener) ⊎ (place ≡ slice_index closers opener)
  pub order : place ≤ q
  pub row : (m : ℕ) → place ≤ m → m ≤ q → is_other (class_at current m) ≡ false

-- the pairs whose openers are before k have changed types only at the indices that they set
pub record Changed (closers : List ℕ) (old current : List BidiClass) (k : ℕ) : Type 0 where
  pub sizes : length current ≡ length old
  pub cases : (q : ℕ) → q < length old → (class_at current q ≡ class_at old q) ⊎ Touched closers current k q

pub Changed-next : (closers : List ℕ) (old current : List BidiClass) (k : ℕ) → Changed closers old current k → Changed closers old current (k + 1)
Changed-next closers old current k changed = record {
  sizes = changed.sizes;
  cases = λ q within. elim (changed.cases q within) [
    | inl same ↦ inl same
    | inr t ↦ inr (record { opener = t.opener; place = t.place; earlier = omega (arith, t.earlier); paired = t.paired; bracket = t.bracket; order = t.order; row = t.row })
  ];
}

kept_sided : (marks : List Bool) (d : BidiClass) (types : List BidiClass) (p m : ℕ) → is_other d ≡ false → m < length types
    → is_other (class_at types m) ≡ false → is_other (class_at (set_with marks d types p) m) ≡ false
kept_sided marks d types p m sided within here =
    elim (cases_Bool (is_set_with marks p m)) [
      | inl set ↦ ap is_other (set_with-at marks d types p m ON within ∙ cond-true (is_set_with marks p m) d (class_at types m) set) ∙ sided
      | inr free ↦ ap is_other (set_with-kept marks d types p m ON within free) ∙ here
    ]

-- `Changed` still holds after a bracket has been set, if the opener of its pair is before k
pub Changed-set : (marks : List Bool) (closers : List ℕ) (old current : List BidiClass) (k opener p : ℕ) (d : BidiClass) → Changed closers old current k
    → length marks ≡ length old → opener < k → slice_index closers opener < length closers → (p ≡ opener) ⊎ (p ≡ slice_index closers opener) → is_other d ≡ false
    → Changed closers old (set_with marks d current p) k
Changed-set marks closers old current k opener p d changed sizes earlier paired bracket sided =
    let size : length current ≡ length old = changed.sizes in
    record {
      sizes = length-set_with marks d current p ∙ changed.sizes;
      cases = λ q within. elim (cases_Bool (is_set_with marks p q)) [
        | inl set ↦ inr (record {
          opener = opener;
          place = p;
          earlier = earlier;
          paired = paired;
          bracket = bracket;
          order = (set-Row marks p q (omega arith) set).order;
          row = λ m above below. ap is_other (set_with-set marks d current p m ON (omega arith) (omega arith)
              (record { order = above; marked = λ i after upto. (set-Row marks p q (omega arith) set).marked i after (omega arith) })) ∙ sided;
        })
        | inr free ↦ elim (changed.cases q within) [
          | inl same ↦ inl (set_with-kept marks d current p q ON (omega arith) free ∙ same)
          | inr t ↦ inr (record {
            opener = t.opener;
            place = t.place;
            earlier = t.earlier;
            paired = t.paired;
            bracket = t.bracket;
            order = t.order;
            row = λ m above below. kept_sided marks d current p m sided (omega arith) (t.row m above below);
          })
        ]
      ];
    }

sided : (left : Bool) → is_other (side left) ≡ false
sided true = refl
sided false = refl

-- `Changed` holds for k + 1 after both brackets of the pair that opens at k have been set, if it gets a
-- direction
pub Changed-pair : (marks : List Bool) (closers : List ℕ) (old current : List BidiClass) (k : ℕ) (same other x y : Bool) → Changed closers old current k
    → length marks ≡ length old → slice_index closers k < length closers
    → Changed closers old (set_pair marks current k (slice_index closers k) (if same then Some (side x) else (if other then Some (side y) else None))) (k + 1)
Changed-pair marks closers old current k true other x y changed sizes paired =
    Changed-set marks closers old (set_with marks (side x) current k) (k + 1) k (slice_index closers k) (side x)
    (Changed-set marks closers old current (k + 1) k k (side x) (Changed-next closers old current k changed) sizes (omega arith) paired (inl refl) (sided x))
    sizes (omega arith) paired (inr refl) (sided x)
Changed-pair marks closers old current k false true x y changed sizes paired =
    Changed-set marks closers old (set_with marks (side y) current k) (k + 1) k (slice_index closers k) (side y)
    (Changed-set marks closers old current (k + 1) k k (side y) (Changed-next closers old current k changed) sizes (omega arith) paired (inl refl) (sided y))
    sizes (omega arith) paired (inr refl) (sided y)
Changed-pair marks closers old current k false false x y changed sizes paired = Changed-next closers old current k changed

-- inside a pair whose opener is still ON, no type has changed
pub unchanged : (closers : List ℕ) (old current : List BidiClass) (k m : ℕ) → Changed closers old current k → AreNested old closers → length closers ≡ length old
    → k < length closers → slice_index closers k < length closers → is_other (class_at current k) ≡ true → k < m → m < slice_index closers k
    → class_at current m ≡ class_at old m
unchanged closers old current k m changed nested sizes within paired other above below =
    elim (changed.cases m (omega arith)) [
      | inl same ↦ same
      | inr t ↦ elim (cases_lt k t.place) [
        | inl after ↦ absurd (elim t.bracket [
          | inl e ↦ omega (arith, e, t.earlier)
          | inr e ↦ elim (nested.apart t.opener k t.earlier within t.paired paired) [
            | inl closed ↦ omega (arith, e, closed)
            | inr outside ↦ omega (arith, e, outside, t.order)
          ]
        ])
        | inr front ↦ absurd (both_ways (is_other (class_at current k)) (t.row k front (omega arith)) other)
      ]
    ]

-- setting a bracket leaves the types before it unchanged
take-set_with : (marks : List Bool) (d : BidiClass) (types : List BidiClass) (p k : ℕ) → k ≤ p → k ≤ length types → length marks ≡ length types
    → take k (set_with marks d types p) ≡ take k types
take-set_with marks d types p k front within sizes =
    let size : length (set_with marks d types p) ≡ length types = length-set_with marks d types p in
    let front_size : length (take k (set_with marks d types p)) ≡ k = length-take-le k (set_with marks d types p) (omega arith) in
    same_lists (take k (set_with marks d types p)) (take k types) (front_size ∙ sym (length-take-le k types within)) (λ i e inside.
    get_or-take k (set_with marks d types p) i e (omega arith)
    ∙ set_with-kept marks d types p i e (omega arith) (no_Row marks p i (omega arith) (λ row. omega (arith, row.order)))
    ∙ get_or_default types i ON e (omega arith)
    ∙ sym (get_or-take k types i e (omega arith)))

take-set_pair : (marks : List Bool) (types : List BidiClass) (a b : ℕ) (direction : Option BidiClass) → a ≤ b → a ≤ length types → length marks ≡ length types
    → take a (set_pair marks types a b direction) ≡ take a types
take-set_pair marks types a b (Some d) front within sizes =
    let size : length (set_with marks d types a) ≡ length types = length-set_with marks d types a in
    take-set_with marks d (set_with marks d types a) b a front (omega arith) (omega arith) ∙ take-set_with marks d types a a (omega arith) within sizes
take-set_pair marks types a b None front within sizes = refl

-- The state of the pass over the indices of openers. Resolving the pairs from k on in the current types yields the
-- result of N0.
pub record Resolved (embedding sos : BidiClass) (explicit : List BidiClass) (closers : List ℕ) (old current : List BidiClass) (k : ℕ) : Type 0 where
  pub changed : Changed closers old current k
  pub so_far : fold (λ types a. pair_step embedding sos (map is_nonspacing_mark explicit) types a (closer_in closers a)) current (range_with_len k (length old - k))
      ≡ resolve_pairs embedding sos (map is_nonspacing_mark explicit) (closer_in closers) old

pub Resolved-start : (embedding sos : BidiClass) (explicit : List BidiClass) (closers : List ℕ) (old : List BidiClass) → Resolved embedding sos explicit closers old old 0
Resolved-start embedding sos explicit closers old =
    let f : List BidiClass → ℕ → List BidiClass = λ types a. pair_step embedding sos (map is_nonspacing_mark explicit) types a (closer_in closers a) in
    let size : length old - 0 ≡ length old = omega arith in
    record {
      changed = record { sizes = refl; cases = λ q below. inl refl };
      so_far = ap (λ n. fold f old (range_with_len 0 n)) size;
    }

Resolved-step : (embedding sos : BidiClass) (explicit : List BidiClass) (closers : List ℕ) (old current next : List BidiClass) (k : ℕ)
    → Resolved embedding sos explicit closers old current k → k < length old
    → pair_step embedding sos (map is_nonspacing_mark explicit) current k (closer_in closers k) ≡ next
    → Changed closers old next (k + 1)
    → Resolved embedding sos explicit closers old next (k + 1)
Resolved-step embedding sos explicit closers old current next k r within step changed =
    let f : List BidiClass → ℕ → List BidiClass = λ types a. pair_step embedding sos (map is_nonspacing_mark explicit) types a (closer_in closers a) in
    let more : suc (length old - (k + 1)) ≡ length old - k = omega arith in
    record {
      changed = changed;
      so_far = ap (λ types. fold f types (range_with_len (k + 1) (length old - (k + 1)))) (sym step)
          ∙ ap (λ n. fold f current (range_with_len k n)) more
          ∙ r.so_far;
    }

-- if a pair opens at k, the pass sets that pair and moves on to k + 1
pub Resolved-pair : (embedding sos : BidiClass) (explicit : List BidiClass) (closers : List ℕ) (old current : List BidiClass) (k : ℕ)
    → Resolved embedding sos explicit closers old current k → k < length old → length explicit ≡ length old
    → slice_index closers k < length closers → k < slice_index closers k
    → (next : List BidiClass) → next ≡ set_pair (map is_nonspacing_mark explicit) current k (slice_index closers k) (pair_direction (is_left embedding) sos current k (slice_index closers k))
    → Resolved embedding sos explicit closers old next (k + 1)
Resolved-pair embedding sos explicit closers old current k r within sizes paired after next made =
    let marks : List Bool = map is_nonspacing_mark explicit in
    let b : ℕ = slice_index closers k in
    let size : length marks ≡ length old = length-map explicit is_nonspacing_mark ∙ sizes in
    Resolved-step embedding sos explicit closers old current next k r within
    (ap (pair_step embedding sos marks current k) (cond-true (nat_lt b (length closers)) (Some b) None (lt-ltb b (length closers) paired)) ∙ sym made)
    (let P : List BidiClass → Type 0 = λ types. Changed closers old types (k + 1) in
    subst P (sym made) (Changed-pair marks closers old current k (stands (is_left embedding) current k b) (stands (not (is_left embedding)) current k b)
    (is_left embedding) (if agree (is_left embedding) (is_left (context sos current k)) then is_left embedding else not (is_left embedding)) r.changed size paired))

-- if no pair opens at k, the pass moves on to k + 1 without a change
pub Resolved-none : (embedding sos : BidiClass) (explicit : List BidiClass) (closers : List ℕ) (old current : List BidiClass) (k : ℕ)
    → Resolved embedding sos explicit closers old current k → k < length old → length closers ≤ slice_index closers k
    → (next : List BidiClass) → next ≡ current
    → Resolved embedding sos explicit closers old next (k + 1)
Resolved-none embedding sos explicit closers old current k r within free next same =
    let marks : List Bool = map is_nonspacing_mark explicit in
    let b : ℕ = slice_index closers k in
    let P : List BidiClass → Type 0 = λ types. Changed closers old types (k + 1) in
    Resolved-step embedding sos explicit closers old current next k r within
    (ap (pair_step embedding sos marks current k) (cond-false (nat_lt b (length closers)) (Some b) None (le-ltb b (length closers) free)) ∙ sym same)
    (subst P (sym same) (Changed-next closers old current k r.changed))

-- if no pair opens from k up to j, the pass moves on to j without a change
pub Resolved-skip : (embedding sos : BidiClass) (explicit : List BidiClass) (closers : List ℕ) (old current : List BidiClass) (n k j : ℕ) → j ≡ n + k → j ≤ length old
    → ((m : ℕ) → k ≤ m → m < j → length closers ≤ slice_index closers m) → Resolved embedding sos explicit closers old current k → Resolved embedding sos explicit closers old current j
Resolved-skip embedding sos explicit closers old current zero k j e within free r =
    let same : k ≡ j = omega arith in subst (λ x. Resolved embedding sos explicit closers old current x) same r
Resolved-skip embedding sos explicit closers old current (suc n) k j e within free r =
    Resolved-skip embedding sos explicit closers old current n (k + 1) j (omega arith) within (λ m above below. free m (omega arith) below)
    (Resolved-none embedding sos explicit closers old current k r (omega arith) (free k (omega arith) (omega arith)) current refl)

pub IsClear-skip : (left : Bool) (before : List BidiClass) (place next further : ℕ) → place ≤ further → IsClear left before place next → IsClear left before further next
IsClear-skip left before place next further order clear = record {
  bounded = clear.bounded;
  passed = λ m above below. clear.passed m (omega arith) below;
}

-- the nearest strong type before k + 1 is the type at k if it is strong, and otherwise the nearest one before
-- k
pub context-more : (sos : BidiClass) (types : List BidiClass) (k : ℕ) (e : BidiClass) → k < length types
    → context sos types (k + 1) ≡ (if is_direction (get_or types k e) then get_or types k e else context sos types k)
context-more sos types k e within = ap (nearest is_direction sos) (ap reverse (take_more types k e within) ∙ reverse-append (take k types) (get_or types k e ∷ []))

-- the flags that the pass computes determine the direction of a pair
pub direction_is : (sos : BidiClass) (types : List BidiClass) (a b : ℕ) (left embedding same other : Bool) (strong : BidiClass)
    → left ≡ embedding → strong ≡ context sos types a → same ≡ stands left types a b → other ≡ stands (not left) types a b
    → (if same then Some (side left) else (if other then Some (side (if agree left (is_left strong) then left else not left)) else None)) ≡ pair_direction embedding sos types a b
direction_is sos types a b left embedding same other strong l s h g =
    ap (λ v. if v then Some (side left) else (if other then Some (side (if agree left (is_left strong) then left else not left)) else None)) h
    ∙ ap (λ v. if stands left types a b then Some (side left) else (if v then Some (side (if agree left (is_left strong) then left else not left)) else None)) g
    ∙ ap (λ v. if stands left types a b then Some (side left) else (if stands (not left) types a b then Some (side (if agree left (is_left v) then left else not left)) else None)) s
    ∙ ap (λ v. pair_direction v sos types a b) l
