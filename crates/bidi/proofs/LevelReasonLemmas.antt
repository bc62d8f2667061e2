-- The lists from which the reasons for the levels of a paragraph are put together.
use Rattle.std.proofs.Common.{◌≡◌, ℕ, suc, ◌+◌, ◌-◌, ◌<◌, ◌≤◌, ◌==◌, ◌≢◌, Bool, true, false, List, [], ◌∷◌, length, map, drop, get_or, option_map, unwrap_or, Option, Some, None, is_none, refl, sym, ap, ◌∙◌, inl, inr, arith, add-one, replicate}
use Rattle.std.specs.List.{range_with_len}
use Rattle.std.proofs.Math.ListN.{set}
use Rattle.std.proofs.lemmas.Bool.{cond-true, cond-false, cases_Bool, cases_eq, eq-eqb, ne_eqb}
use Rattle.std.proofs.lemmas.List.{get_or-set_other, get_or-set_same, get_or-replicate, length-replicate, length-set}
use Rattle.std.proofs.lemmas.List.FromFn.{fill_by_all, get_or-map-range_with_len, length-map-range_with_len}
use Rattle.std.proofs.lemmas.Simd.{map-map}
use Rattle.std.proofs.Math.Seq.{drop-cons, drop-length}
use Rattle.std.proofs.lemmas.Option.{same_Some}
use Rattle.ucd.specs.declared.bidi_class.BidiClass.{BidiClass}
use Rattle.ucd.specs.Classes.{class_at, is_initiator}
use Rattle.ucd.specs.declared.tables.Tables.{Tables}
use Rattle.bidi.specs.declared.level_reason.LevelReason.{LevelReason}
use Rattle.bidi.specs.declared.level_reason.SequenceReason.{SequenceReason}
use Rattle.bidi.specs.declared.base.Base.{Base}
use Rattle.bidi.specs.Base.{is_balanced, match_of}
use Rattle.bidi.specs.Isolates.{match_at, matches_of}
use Rattle.bidi.proofs.LeastLemmas.{least_is_none, least_within}
use Rattle.bidi.specs.LevelReasons.{index_of, level_reason, level_reasons_of, levels_in, matching, reason_in, resolved_in}
use Rattle.bidi.specs.Levels.{levels_of}
use Rattle.bidi.specs.ReasonParts.{IsFilled}
use Rattle.bidi.specs.Reasons.{index_from, Sequence}

module _ {X : Type 0} (items : List ℕ) (value : ℕ → X) (old : List X) where
  -- the value at q if the values are written for the items in `rest`, whose first index is k
  abbrev after : ℕ → X → ℕ → List ℕ → X
  after q other k rest = unwrap_or (option_map value (index_from (λ item. item == q) k rest)) (get_or old q other)

  -- `IsFilled` holds before any value is written
  pub none_filled : IsFilled items value old (length items) old
  none_filled = record {
    size = refl;
    each = λ q other within. ap (after q other (length items)) (sym (drop-length items));
  }

  module _ (k : ℕ) (within : k < length items) where
    here : (q : ℕ) (other : X) → get_or items k 0 ≡ q → after q other k (drop k items) ≡ value k
    here q other same =
        ap (after q other k) (drop-cons items k 0 within)
        ∙ ap (λ o. unwrap_or (option_map value o) (get_or old q other))
        (cond-true (get_or items k 0 == q) (Some k) (index_from (λ item. item == q) (suc k) (drop (suc k) items)) (eq-eqb (get_or items k 0) q same))

    there : (q : ℕ) (other : X) → get_or items k 0 ≢ q → after q other k (drop k items) ≡ after q other (k + 1) (drop (k + 1) items)
    there q other differ =
        ap (after q other k) (drop-cons items k 0 within)
        ∙ ap (λ o. unwrap_or (option_map value o) (get_or old q other))
        (cond-false (get_or items k 0 == q) (Some k) (index_from (λ item. item == q) (suc k) (drop (suc k) items)) (ne_eqb (get_or items k 0) q differ))
        ∙ ap (λ n. after q other n (drop n items)) (sym (add-one k))

    -- `IsFilled` still holds after the value for index k is written at its item
    pub more_filled : (j : ℕ) (new : List X) → j ≡ k + 1 → IsFilled items value old j new → get_or items k 0 < length new → IsFilled items value old k (set new (get_or items k 0) (value k))
    more_filled j new next filled fits = record {
      size = length-set new (get_or items k 0) (value k) ∙ filled.size;
      each = λ q other below. elim (cases_eq (get_or items k 0) q) [
        | inl same ↦ ap (λ n. get_or (set new (get_or items k 0) (value k)) n other) (sym same)
            ∙ get_or-set_same new (get_or items k 0) (value k) other fits ∙ sym (here q other same)
        | inr differ ↦ get_or-set_other new (get_or items k 0) q (value k) other (λ same. differ (sym same)) ∙ filled.each q other below
            ∙ ap (λ n. after q other n (drop n items)) next ∙ sym (there q other differ)
      ];
    }

    -- `IsFilled` still holds if the item of index k is past the end of the list, so that nothing is written
    pub same_filled : (j : ℕ) (new : List X) → j ≡ k + 1 → IsFilled items value old j new → length new ≤ get_or items k 0 → IsFilled items value old k new
    same_filled j new next filled past = record {
      size = filled.size;
      each = λ q other below. filled.each q other below ∙ ap (λ n. after q other n (drop n items)) next ∙ sym (there q other (omega (arith, filled.size)));
    }

-- writing the index of each item to a list of `None` yields the first index of each number
or_none : (found : Option ℕ) (other : Option ℕ) → other ≡ None → unwrap_or (option_map Some found) other ≡ found
or_none None other none = none
or_none (Some k) other none = refl

pub indices_filled : (items : List ℕ) (len : ℕ) (new : List (Option ℕ)) → IsFilled items Some (replicate len None) 0 new → new ≡ map (index_of items) (range_with_len 0 len)
indices_filled items len new filled =
    let size : length (replicate len None) ≡ len = length-replicate len None in
    fill_by_all (index_of items) new len None (filled.size ∙ size)
    (λ q within. filled.each q None (omega arith) ∙ or_none (index_of items q) (get_or (replicate len None) q None) (get_or-replicate len q None None within))

-- without sequences, no kept character has a reason
pub none_resolved : (kept : List ℕ) (len : ℕ) → replicate len None ≡ map (resolved_in kept []) (range_with_len 0 len)
none_resolved kept len = fill_by_all (resolved_in kept []) (replicate len None) len None (length-replicate len None) (λ q within. get_or-replicate len q None None within)

-- writing the reasons in one more sequence over those in the later sequences yields the reasons in all of
-- them
pub reasons_filled : (kept : List ℕ) (sequence : Sequence) (later : List Sequence) (old new : List (Option SequenceReason))
    → old ≡ map (resolved_in kept later) (range_with_len 0 (length kept)) → IsFilled sequence.places (reason_in kept sequence) old 0 new
    → new ≡ map (resolved_in kept (sequence ∷ later)) (range_with_len 0 (length kept))
reasons_filled kept sequence later old new are filled =
    let size : length old ≡ length kept = ap length are ∙ length-map-range_with_len (resolved_in kept later) 0 (length kept) in
    fill_by_all (resolved_in kept (sequence ∷ later)) new (length kept) None (filled.size ∙ size)
    (λ q within. filled.each q None (omega arith)
    ∙ ap (unwrap_or (option_map (reason_in kept sequence) (index_of sequence.places q)))
    (ap (λ l. get_or l q None) are ∙ get_or-map-range_with_len (resolved_in kept later) 0 (length kept) q q None within (omega arith)))

-- if an entry in the list of matches is below the length, it is the match
some_below : (found : Option ℕ) (n : ℕ) → unwrap_or found n < n → Some (unwrap_or found n) ≡ found
some_below None n below = absurd (omega arith)
some_below (Some k) n below = refl

none_is : (found : Option ℕ) → is_none found ≡ true → None ≡ found
none_is None none = refl
none_is (Some k) none = absurd (cc)

module _ (classes : List BidiClass) (p : ℕ) (within : p < length classes) where
  match-is : is_initiator (class_at classes p) ≡ true → get_or (matches_of classes) p 0 ≡ unwrap_or (match_of classes p) (length classes)
  match-is opens =
      get_or-map-range_with_len (match_at classes) 0 (length classes) p p 0 within (omega arith)
      ∙ cond-true (is_initiator (class_at classes p)) (unwrap_or (match_of classes p) (length classes)) (length classes) opens

  pub matched : is_initiator (class_at classes p) ≡ true → get_or (matches_of classes) p 0 < length classes → Some (get_or (matches_of classes) p 0) ≡ matching classes p
  matched opens below =
      let is : get_or (matches_of classes) p 0 ≡ unwrap_or (match_of classes p) (length classes) = match-is opens in
      ap Some is ∙ some_below (match_of classes p) (length classes) (omega arith)
      ∙ sym (cond-true (is_initiator (class_at classes p)) (match_of classes p) (index_of (matches_of classes) p) opens)

  pub unmatched : is_initiator (class_at classes p) ≡ true → length classes ≤ get_or (matches_of classes) p 0 → None ≡ matching classes p
  unmatched opens past =
      let is : get_or (matches_of classes) p 0 ≡ unwrap_or (match_of classes p) (length classes) = match-is opens in
      let sum : p + 1 + (length classes - (p + 1)) ≡ length classes = omega arith in
      let most = least_within (is_balanced classes p) (p + 1) (length classes - (p + 1)) (length classes) sum in
      none_is (match_of classes p)
      (least_is_none (is_balanced classes p) (p + 1) (length classes - (p + 1)) (length classes) sum
      ∙ eq-eqb (unwrap_or (match_of classes p) (length classes)) (length classes) (omega (arith, most)))
      ∙ sym (cond-true (is_initiator (class_at classes p)) (match_of classes p) (index_of (matches_of classes) p) opens)

  pub other : is_initiator (class_at classes p) ≡ false → (initiators : List (Option ℕ)) → initiators ≡ map (index_of (matches_of classes)) (range_with_len 0 (length classes))
      → get_or initiators p None ≡ matching classes p
  other opens_not initiators are =
      ap (λ l. get_or l p None) are ∙ get_or-map-range_with_len (index_of (matches_of classes)) 0 (length classes) p p None within (omega arith)
      ∙ sym (cond-false (is_initiator (class_at classes p)) (match_of classes p) (index_of (matches_of classes) p) opens_not)

-- an index that `index_from` finds is below k plus the length of the list
pub index_below : (test : ℕ → Bool) (k : ℕ) (items : List ℕ) (q : ℕ) → index_from test k items ≡ Some q → q < k + length items
index_below test k [] q e = absurd (cc)
index_below test k (item ∷ items) q e =
    elim (cases_Bool (test item)) [
      | inl passed ↦ let same : k ≡ q = same_Some k q (sym (cond-true (test item) (Some k) (index_from test (suc k) items) passed) ∙ e) in omega arith
      | inr failed ↦ omega (arith, index_below test (suc k) items q (sym (cond-false (test item) (Some k) (index_from test (suc k) items) failed) ∙ e))
    ]

-- the levels in the reasons are the given levels
pub levels_listed : (classes acting : List BidiClass) (base : ℕ) (sequences : List Sequence) (levels : List ℕ) (n : ℕ) → length levels ≡ n
    → levels_in (map (level_reason classes acting base sequences levels) (range_with_len 0 n)) ≡ levels
levels_listed classes acting base sequences levels n size =
    map-map (λ (r : LevelReason). r.level) (level_reason classes acting base sequences levels) (range_with_len 0 n)
    ∙ sym (fill_by_all (λ k. get_or levels k 0) levels n 0 size (λ k within. refl))

-- a text without characters has no reasons
pub no_reasons : (tables : Tables) (text : List ℕ) (base : Base) → length text ≡ 0 → level_reasons_of tables text base ≡ []
no_reasons tables [] base none = refl
no_reasons tables (c ∷ text) base none = absurd (omega (arith, none))

pub no_levels : (tables : Tables) (text : List ℕ) (base : Base) → length text ≡ 0 → levels_of tables text base ≡ []
no_levels tables [] base none = refl
no_levels tables (c ∷ text) base none = absurd (omega (arith, none))
