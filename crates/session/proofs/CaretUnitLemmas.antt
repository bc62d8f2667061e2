-- The columns of a unit: those of its characters, which are next to each other.
use Rattle.std.proofs.Common.{◌≡◌, ℕ, suc, ◌+◌, ◌-◌, ◌<◌, ◌≤◌, ◌==◌, ◌&&◌, nat_le, nat_lt, min, max, Bool, true, false, not, length, get_or, Option, unwrap_or, if◌then◌else◌, refl, sym, ap, subst, ◌∙◌, inl, inr, arith}
use Rattle.std.proofs.lemmas.Bool.{and_from, and_parts, both_ways, cases_Bool, cases_eq, cases_lt, cond-true, cond-false, eq-eqb, eqb-true, le-leb, leb-true, lt-ltb, ltb-true, not_from_true, not-false}
use Rattle.bidi.specs.Brackets.{greatest}
use Rattle.lines.specs.Clusters.{after}
use Rattle.lines.specs.Columns.{columns_between, columns_left}
use Rattle.lines.specs.Ordered.{AreInRun, IsOrdered}
use Rattle.lines.specs.Visual.{Visual}
use Rattle.reorder.specs.Order.{is_odd}
use Rattle.ucd.specs.Least.{least}
use Rattle.session.specs.Carets.{leading_edge}
use Rattle.session.specs.Steps.{left_of, right_of}
use Rattle.session.specs.Units.{is_in_unit, leading_of, run_begin, run_end, shown_begin, shown_end, takes_columns, unit_end, unit_of, unit_start}
use Rattle.session.specs.declared.clusters.Cluster.{Cluster}
use Rattle.session.specs.declared.units.CaretUnit.{CaretUnit}
use Rattle.session.proofs.CoveringLemmas.{between_at, between_more, between_rises, between_same, left_most, left_next, left_rises, takes, takes_if, width_at, width_of}
use Rattle.session.proofs.FirstLemmas.{begin_fails, begin_to, first_is, first_only, greatest_back, greatest_is, last_from, least_over, IsFirst, IsLast}

-- ---- level runs

module _ (line : Visual) where
  abbrev pub level_at : ℕ → ℕ
  level_at k = get_or line.levels k 0

  -- whether the level of a character differs from the given one
  abbrev is_other : ℕ → ℕ → Bool
  is_other level j = not (level_at j == level)

  same_level : (level j : ℕ) → is_other level j ≡ false → level_at j ≡ level
  same_level level j same = eqb-true (level_at j) level (not-false (level_at j == level) same)

  not_other : (level j : ℕ) → level_at j ≡ level → is_other level j ≡ false
  not_other level j same = not_from_true (level_at j == level) (eq-eqb (level_at j) level same)

  module _ (k : ℕ) (within : k < length line.levels) where
    end_first : IsFirst (is_other (level_at k)) k (length line.levels) (run_end line k)
    end_first = first_is (is_other (level_at k)) k (length line.levels - k) (length line.levels) (omega arith)

    pub run_after : k < run_end line k
    run_after =
        let found = end_first in
        let from : k ≤ run_end line k = found.from in
        elim (cases_eq k (run_end line k)) [
          | inl same ↦
              absurd (both_ways (is_other (level_at k) k) (not_other (level_at k) k refl)
              (ap (is_other (level_at k)) same ∙ found.passes (omega arith)))
          | inr other ↦ omega arith
        ]

    pub run_within : run_end line k ≤ length line.levels
    run_within = end_first.to

    pub run_before : run_begin line k ≤ k
    run_before = begin_to (is_other (level_at k)) k

    pub in_run : (i : ℕ) → run_begin line k ≤ i → i < run_end line k → level_at i ≡ level_at k
    in_run i from to =
        same_level (level_at k) i
        (elim (cases_lt i k) [
          | inl early ↦ begin_fails (is_other (level_at k)) k i from early
          | inr later ↦ end_first.fails i later to
        ])

    pub same_begin : (j : ℕ) → run_begin line k ≤ j → j < run_end line k → run_begin line j ≡ run_begin line k
    same_begin j from to =
        ap (λ level. after (greatest (is_other level) j) 0) (in_run j from to)
        ∙ ap (λ o. after o 0)
        (elim (cases_lt k j) [
          | inl later ↦
              greatest_back (is_other (level_at k)) k j (omega arith)
              (λ c above below. not_other (level_at k) c (in_run c (omega (arith, run_before)) (omega arith)))
          | inr early ↦
              sym (greatest_back (is_other (level_at k)) j k early
              (λ c above below. not_other (level_at k) c (in_run c (omega arith) (omega (arith, run_after)))))
        ])

    pub same_end : (j : ℕ) → run_begin line k ≤ j → j < run_end line k → run_end line j ≡ run_end line k
    same_end j from to =
        ap (λ level. unwrap_or (least (is_other level) j (length line.levels - j)) (length line.levels)) (in_run j from to)
        ∙ ap (λ o. unwrap_or o (length line.levels))
        (elim (cases_lt k j) [
          | inl later ↦
              sym (least_over (is_other (level_at k)) k j (length line.levels) (omega arith) (omega (arith, run_within))
              (λ c above below. not_other (level_at k) c (in_run c (omega (arith, run_before)) (omega arith))))
          | inr early ↦
              least_over (is_other (level_at k)) j k (length line.levels) early (omega arith)
              (λ c above below. not_other (level_at k) c (in_run c (omega arith) (omega (arith, run_after))))
        ])

-- ---- the visual order of the characters in a level run

-- whether the characters of each run at an even level are next to each other from left to right
abbrev pub EvenAdjoins : Visual → Type 0
EvenAdjoins line = (j k : ℕ) → AreInRun line j k → is_odd (get_or line.levels j 0) ≡ false
    → columns_left line (get_or line.ltov k 0) ≡ columns_left line (get_or line.ltov j 0) + columns_between line j k

-- whether the characters of each run at an odd level are next to each other from right to left
abbrev pub OddAdjoins : Visual → Type 0
OddAdjoins line = (j k : ℕ) → AreInRun line j k → is_odd (get_or line.levels j 0) ≡ true
    → columns_left line (get_or line.ltov k 0 + 1) + columns_between line j k ≡ columns_left line (get_or line.ltov j 0 + 1)

-- ---- the unit of a character that takes columns

-- a character of the shown part of a cluster that takes columns
pub record IsHeld (line : Visual) (start : ℕ) (cluster : Cluster) (k : ℕ) : Type 0 where
  pub begin : shown_begin line start cluster ≤ k
  pub end : k < shown_end line start cluster
  pub takes : takes_columns line k ≡ true

module _ (line : Visual) (start : ℕ) (cluster : Cluster) where
  -- where the search for a unit's start begins
  abbrev pub low : ℕ → ℕ
  low k = max (shown_begin line start cluster) (run_begin line k)

  -- the unit that starts and ends at the given characters, and is at the given level
  abbrev built : ℕ → ℕ → ℕ → CaretUnit
  built first end level =
      let leading = leading_of line level first end in
      let width = columns_between line first end in
      record {
        start = first;
        end = end;
        leading = leading;
        trailing = if is_odd level then leading - width else leading + width;
        level = level;
      }

-- a character of the unit of character k that takes columns
pub record IsMember (line : Visual) (start : ℕ) (cluster : Cluster) (k j : ℕ) : Type 0 where
  pub from : low line start cluster k ≤ j
  pub in_run : j < run_end line k
  pub shown : j < shown_end line start cluster
  pub takes : takes_columns line j ≡ true

-- the columns of a unit are those of its characters
pub record HasColumns (line : Visual) (start : ℕ) (cluster : Cluster) (k : ℕ) : Type 0 where
  pub inside : (j : ℕ) → IsMember line start cluster k j
      → (left_of (unit_of line start cluster k) ≤ columns_left line (get_or line.ltov j 0))
      × (columns_left line (get_or line.ltov j 0 + 1) ≤ right_of (unit_of line start cluster k))
  pub owner : (c : ℕ) → left_of (unit_of line start cluster k) ≤ c → c < right_of (unit_of line start cluster k)
      → (j : ℕ) × IsMember line start cluster k j × (columns_left line (get_or line.ltov j 0) ≤ c) × (c < columns_left line (get_or line.ltov j 0 + 1))

module _ (line : Visual) (ordered : IsOrdered line) (start : ℕ) (cluster : Cluster) where
  abbrev from_start : ℕ → ℕ
  from_start = unit_start line start cluster

  abbrev to_end : ℕ → ℕ
  to_end = unit_end line start cluster

  abbrev last_shown : ℕ
  last_shown = shown_end line start cluster

  module _ (k : ℕ) (held : IsHeld line start cluster k) where
    pub shown : k < length line.levels
    shown = omega (arith, held.end)

    low_before : low line start cluster k ≤ k
    low_before = omega (arith, held.begin, run_before line k shown)

    pub start_first : IsFirst (takes_columns line) (low line start cluster k) k (from_start k)
    start_first = first_is (takes_columns line) (low line start cluster k) (k - low line start cluster k) k (omega (arith, low_before))

    pub start_takes : takes_columns line (from_start k) ≡ true
    start_takes =
        let found = start_first in
        let to : from_start k ≤ k = found.to in
        elim (cases_eq (from_start k) k) [
          | inl same ↦ ap (takes_columns line) same ∙ held.takes
          | inr other ↦ found.passes (omega arith)
        ]

    -- what is known about the end of the unit
    record Ends : Type 0 where
      above : k < to_end k
      within : to_end k ≤ last_shown
      fails : (c : ℕ) → run_end line k ≤ c → c < to_end k → takes_columns line c ≡ false
      covers : min (run_end line k) last_shown ≤ to_end k

    ends : Ends
    ends =
        let inside : k < last_shown = held.end in
        let more : k < run_end line k = run_after line k shown in
        elim (cases_lt last_shown (run_end line k)) [
          | inl early ↦
              let count : last_shown - run_end line k ≡ 0 = omega arith in
              let is : to_end k ≡ last_shown = ap (λ n. unwrap_or (least (takes_columns line) (run_end line k) n) last_shown) count in
              record {
                above = omega arith;
                within = omega arith;
                fails = λ c from to. absurd (omega arith);
                covers = omega arith;
              }
          | inr later ↦
              let found : IsFirst (takes_columns line) (run_end line k) last_shown (to_end k) =
              first_is (takes_columns line) (run_end line k) (last_shown - run_end line k) last_shown (omega arith) in
              record {
                above = omega (arith, found.from);
                within = found.to;
                fails = found.fails;
                covers = omega (arith, found.from);
              }
        ]

    pub end_above : k < to_end k
    end_above = ends.above

    pub end_within : to_end k ≤ last_shown
    end_within = ends.within

    -- a character of the unit's range that takes columns belongs to it
    pub member : (j : ℕ) → from_start k ≤ j → j < to_end k → takes_columns line j ≡ true → IsMember line start cluster k j
    member j from to some = record {
      from = omega (arith, start_first.from);
      in_run = elim (cases_lt j (run_end line k)) [
        | inl fine ↦ fine
        | inr past ↦ absurd (both_ways (takes_columns line j) (ends.fails j past to) some)
      ];
      shown = omega (arith, end_within);
      takes = some;
    }

    pub itself : IsMember line start cluster k k
    itself = member k start_first.to end_above held.takes

    pub start_is : IsMember line start cluster k (from_start k)
    start_is = member (from_start k) (omega arith) (omega (arith, start_first.to, end_above)) start_takes

    -- each character that belongs to the unit is in the unit's range
    pub member_from : (j : ℕ) → IsMember line start cluster k j → from_start k ≤ j
    member_from j is =
        elim (cases_lt j (from_start k)) [
          | inl early ↦ absurd (both_ways (takes_columns line j) (start_first.fails j is.from early) is.takes)
          | inr fine ↦ fine
        ]

    pub member_to : (j : ℕ) → IsMember line start cluster k j → j < to_end k
    member_to j is = omega (arith, is.in_run, is.shown, ends.covers)

    member_begins : (j : ℕ) → IsMember line start cluster k j → run_begin line k ≤ j
    member_begins j is = omega (arith, is.from)

    -- all characters that belong to the unit have the same unit
    pub same_unit : (j : ℕ) → IsMember line start cluster k j → unit_of line start cluster j ≡ unit_of line start cluster k
    same_unit j is =
        let begins : run_begin line k ≤ j = member_begins j is in
        let same_low : low line start cluster j ≡ low line start cluster k = ap (max (shown_begin line start cluster)) (same_begin line k shown j begins is.in_run) in
        let first : from_start j ≡ from_start k =
        ap (λ n. unwrap_or (least (takes_columns line) n (j - n)) j) same_low
        ∙ first_only (takes_columns line) (low line start cluster k) (j - low line start cluster k) j (from_start k) (omega (arith, is.from)) (record {
          from = start_first.from;
          to = member_from j is;
          passes = λ below. start_takes;
          fails = start_first.fails;
        }) in
        let end : to_end j ≡ to_end k = ap (λ n. unwrap_or (least (takes_columns line) n (last_shown - n)) last_shown) (same_end line k shown j begins is.in_run) in
        let level : level_at line j ≡ level_at line k = in_run line k shown j begins is.in_run in
        ap (λ n. built line start cluster n (to_end j) (level_at line j)) first
        ∙ ap (λ n. built line start cluster (from_start k) n (level_at line j)) end
        ∙ ap (λ n. built line start cluster (from_start k) (to_end k) n) level

    -- the visual positions of the unit's characters
    abbrev is_of_unit : ℕ → Bool
    is_of_unit = is_in_unit line (from_start k) (to_end k)

    abbrev holds : ℕ → Bool
    holds j = (nat_le (from_start k) j && nat_lt j (to_end k)) && takes_columns line j

    place_passes : (j : ℕ) → IsMember line start cluster k j → is_of_unit (get_or line.ltov j 0) ≡ true
    place_passes j is =
        ap holds (ordered.inverse.at_ltov j (omega (arith, is.shown)))
        ∙ and_from (nat_le (from_start k) j && nat_lt j (to_end k)) (takes_columns line j)
        (and_from (nat_le (from_start k) j) (nat_lt j (to_end k)) (le-leb (from_start k) j (member_from j is)) (lt-ltb j (to_end k) (member_to j is)))
        is.takes

    passes_member : (place : ℕ) → is_of_unit place ≡ true → IsMember line start cluster k (get_or line.vtol place 0)
    passes_member place passes =
        let j : ℕ = get_or line.vtol place 0 in
        let parts = and_parts (nat_le (from_start k) j && nat_lt j (to_end k)) (takes_columns line j) passes in
        let ends = and_parts (nat_le (from_start k) j) (nat_lt j (to_end k)) parts.0 in
        member j (leb-true (from_start k) j ends.0) (ltb-true j (to_end k) ends.1) parts.1

    -- the unit has a last character that takes columns
    pub last_member : (m : ℕ) × (k ≤ m) × IsLast (takes_columns line) (to_end k) m
    last_member = last_from (takes_columns line) (to_end k) k end_above held.takes

    abbrev wide : ℕ → ℕ
    wide n = columns_between line (from_start k) n

    abbrev left_at : ℕ → ℕ
    left_at j = columns_left line (get_or line.ltov j 0)

    abbrev next_at : ℕ → ℕ
    next_at j = columns_left line (get_or line.ltov j 0 + 1)

    inner : (j : ℕ) → IsMember line start cluster k j → j < length line.levels
    inner j is = omega (arith, is.shown)

    pub start_level : level_at line (from_start k) ≡ level_at line k
    start_level = in_run line k shown (from_start k) (member_begins (from_start k) start_is) start_is.in_run

    pub in_one_run : (j : ℕ) → IsMember line start cluster k j → AreInRun line (from_start k) j
    in_one_run j is = record {
      order = member_from j is;
      within = inner j is;
      level = λ i from to. in_run line k shown i (omega (arith, member_begins (from_start k) start_is, from)) (omega (arith, is.in_run, to)) ∙ sym start_level;
      first = ltb-true 0 (columns_between line (from_start k) (suc (from_start k))) start_takes;
      last = ltb-true 0 (columns_between line j (suc j)) is.takes;
    }

    -- the columns before the next character are those before this one, plus the character's own
    columns_of_member : (j : ℕ) → IsMember line start cluster k j
        → (next_at j ≡ left_at j + width_at line j) × (wide (suc j) ≡ wide j + width_at line j) × (wide (suc j) ≤ wide (to_end k))
    columns_of_member j is = (
      left_next line ordered j (inner j is),
      between_more line (from_start k) j (member_from j is) (omega (arith, inner j is, ordered.text)),
      between_rises line (from_start k) (suc j) (to_end k) (omega (arith, member_from j is)) (member_to j is) (omega (arith, end_within, ordered.text)),
    )

    -- the columns of the unit end with those of its last character that takes columns
    same_wide : (m : ℕ) → k ≤ m → IsLast (takes_columns line) (to_end k) m → wide (to_end k) ≡ wide (suc m)
    same_wide m after_k last =
        between_same line (from_start k) (suc m) (to_end k) (omega (arith, start_first.to, after_k)) last.below (omega (arith, end_within, ordered.text))
        (λ c above under. last.fails c above under)

    -- a character of the unit covers column `o`, counted from the unit's leading edge
    owner_of : (o : ℕ) → o < wide (to_end k) → (j : ℕ) × IsMember line start cluster k j × (wide j ≤ o) × (o < wide (suc j))
    owner_of o below =
        let at : from_start k + (to_end k - from_start k) ≡ to_end k = omega (arith, start_first.to, end_above) in
        let found = between_at line (from_start k) (to_end k - from_start k) o (omega (arith, end_within, ordered.text)) (subst (λ n. o < wide n) (sym at) below) in
        let j : ℕ = found.0 in
        let from : from_start k ≤ j = found.1 in
        let to : j < to_end k = omega (arith, found.2) in
        let size : j < length line.text = omega (arith, to, end_within, ordered.text) in
        let has : 0 < width_at line j = omega (arith, found.3, found.4, between_more line (from_start k) j from size) in
        (j, member j from to (takes_if line j size has), found.3, found.4)

    -- one of the unit's characters is the rightmost
    rightmost : (m : ℕ) → IsMember line start cluster k m
        → (j : ℕ) × IsMember line start cluster k j × (next_at m ≤ next_at j) × (columns_left line (after (greatest is_of_unit (length line.vtol)) 0) ≡ next_at j)
    rightmost m own =
        let first : ℕ = get_or line.ltov m 0 in
        let inside : first < length line.vtol = omega (arith, ordered.inverse.ltov_within m (inner m own), ordered.vtol) in
        let found = last_from is_of_unit (length line.vtol) first inside (place_passes m own) in
        let place : ℕ = found.0 in
        let later : first ≤ place = found.1 in
        let last : IsLast is_of_unit (length line.vtol) place = found.2 in
        let below : place < length line.levels = omega (arith, last.below, ordered.vtol) in
        let j : ℕ = get_or line.vtol place 0 in
        let there : next_at j ≡ columns_left line (place + 1) = ap (λ p. columns_left line (p + 1)) (ordered.inverse.at_vtol place below) in (
          j,
          passes_member place last.passes,
          omega (arith, there, left_rises line (first + 1) (place + 1) (omega (arith, later))),
          ap (λ (o : Option ℕ). columns_left line (after o 0)) (greatest_is is_of_unit (length line.vtol) place last) ∙ sym there,
        )

    -- ---- the unit's characters, if they are next to each other from left to right
    module _ (at : (j : ℕ) → IsMember line start cluster k j → left_at j ≡ left_at (from_start k) + wide j)
        (left_is : left_of (unit_of line start cluster k) ≡ left_at (from_start k))
        (right_is : right_of (unit_of line start cluster k) ≡ left_at (from_start k) + wide (to_end k)) where
      rising_columns : HasColumns line start cluster k
      rising_columns = record {
        inside = λ j is.
            let has = columns_of_member j is in
            (omega (arith, left_is, at j is), omega (arith, right_is, at j is, has.0, has.1, has.2));
        owner = λ c from to.
            let found = owner_of (c - left_at (from_start k)) (omega (arith, from, to, left_is, right_is)) in
            let j : ℕ = found.0 in
            let is : IsMember line start cluster k j = found.1 in
            let has = columns_of_member j is in
            (j, is, omega (arith, from, left_is, at j is, found.2), omega (arith, from, left_is, at j is, found.3, has.0, has.1));
      }

    module _ (even : is_odd (level_at line k) ≡ false) where
      even_lead : leading_edge line (from_start k) ≡ left_at (from_start k)
      even_lead =
          ap (columns_left line)
          (cond-false (is_odd (level_at line (from_start k))) (get_or line.ltov (from_start k) 0 + 1) (get_or line.ltov (from_start k) 0) (ap is_odd start_level ∙ even))

      even_ends : (unit_of line start cluster k).leading ≡ left_at (from_start k)
      even_ends =
          cond-false (is_odd (level_at line k)) (columns_left line (after (greatest is_of_unit (length line.vtol)) 0)) (leading_edge line (from_start k)) even
          ∙ even_lead

      even_left : left_of (unit_of line start cluster k) ≡ left_at (from_start k)
      even_left = cond-false (is_odd (level_at line k)) (unit_of line start cluster k).trailing (unit_of line start cluster k).leading even ∙ even_ends

      even_right : right_of (unit_of line start cluster k) ≡ left_at (from_start k) + wide (to_end k)
      even_right =
          let lead : ℕ = (unit_of line start cluster k).leading in
          cond-false (is_odd (level_at line k)) (unit_of line start cluster k).leading (unit_of line start cluster k).trailing even
          ∙ cond-false (is_odd (level_at line k)) (lead - wide (to_end k)) (lead + wide (to_end k)) even
          ∙ ap (λ n. n + wide (to_end k)) even_ends

      pub even_columns : EvenAdjoins line → HasColumns line start cluster k
      even_columns adjoin = rising_columns (λ j is. adjoin (from_start k) j (in_one_run j is) (ap is_odd start_level ∙ even)) even_left even_right

    module _ (odd : is_odd (level_at line k) ≡ true) where
      odd_leads : (unit_of line start cluster k).leading ≡ columns_left line (after (greatest is_of_unit (length line.vtol)) 0)
      odd_leads = cond-true (is_odd (level_at line k)) (columns_left line (after (greatest is_of_unit (length line.vtol)) 0)) (leading_edge line (from_start k)) odd

      odd_right : right_of (unit_of line start cluster k) ≡ columns_left line (after (greatest is_of_unit (length line.vtol)) 0)
      odd_right = cond-true (is_odd (level_at line k)) (unit_of line start cluster k).leading (unit_of line start cluster k).trailing odd ∙ odd_leads

      odd_left : left_of (unit_of line start cluster k) ≡ right_of (unit_of line start cluster k) - wide (to_end k)
      odd_left =
          let lead : ℕ = (unit_of line start cluster k).leading in
          cond-true (is_odd (level_at line k)) (unit_of line start cluster k).trailing (unit_of line start cluster k).leading odd
          ∙ cond-true (is_odd (level_at line k)) (lead - wide (to_end k)) (lead + wide (to_end k)) odd
          ∙ ap (λ n. n - wide (to_end k)) (sym (cond-true (is_odd (level_at line k)) lead (unit_of line start cluster k).trailing odd))

      -- ---- from right to left: the first character is the rightmost one
      module _ (adjoin : OddAdjoins line) where
        odd_at : (j : ℕ) → IsMember line start cluster k j → next_at j + wide j ≡ next_at (from_start k)
        odd_at j is = adjoin (from_start k) j (in_one_run j is) (ap is_odd start_level ∙ odd)

        first_right : right_of (unit_of line start cluster k) ≡ next_at (from_start k)
        first_right =
            let found = rightmost (from_start k) start_is in
            omega (arith, odd_right, found.2, found.3, odd_at found.0 found.1)

        odd_fits : wide (to_end k) ≤ next_at (from_start k)
        odd_fits =
            let m : ℕ = last_member.0 in
            let after_k : k ≤ m = last_member.1 in
            let last : IsLast (takes_columns line) (to_end k) m = last_member.2 in
            let is : IsMember line start cluster k m = member m (omega (arith, start_first.to, after_k)) last.below last.passes in
            let has = columns_of_member m is in
            omega (arith, same_wide m after_k last, has.0, has.1, odd_at m is)

        pub falling_columns : HasColumns line start cluster k
        falling_columns = record {
          inside = λ j is.
              let has = columns_of_member j is in
              (omega (arith, odd_left, first_right, odd_fits, odd_at j is, has.0, has.1, has.2), omega (arith, first_right, odd_at j is));
          owner = λ c from to.
              let found = owner_of (next_at (from_start k) - suc c) (omega (arith, from, to, odd_left, first_right, odd_fits)) in
              let j : ℕ = found.0 in
              let is : IsMember line start cluster k j = found.1 in
              let has = columns_of_member j is in
              (j, is, omega (arith, to, first_right, odd_at j is, found.3, has.0, has.1), omega (arith, to, first_right, odd_at j is, found.2));
        }

      -- ---- from left to right: the last character is the rightmost one
      module _ (at : (j : ℕ) → IsMember line start cluster k j → left_at j ≡ left_at (from_start k) + wide j) where
        last_right : right_of (unit_of line start cluster k) ≡ left_at (from_start k) + wide (to_end k)
        last_right =
            let m : ℕ = last_member.0 in
            let after_k : k ≤ m = last_member.1 in
            let last : IsLast (takes_columns line) (to_end k) m = last_member.2 in
            let own : IsMember line start cluster k m = member m (omega (arith, start_first.to, after_k)) last.below last.passes in
            let ends_at = columns_of_member m own in
            let found = rightmost m own in
            let has = columns_of_member found.0 found.1 in
            omega (arith, odd_right, found.2, found.3, at found.0 found.1, has.0, has.1, has.2, at m own, ends_at.0, ends_at.1, same_wide m after_k last)

        pub reading_columns : HasColumns line start cluster k
        reading_columns = rising_columns at (omega (arith, odd_left, last_right)) last_right

    -- the unit has columns, and they are within the line
    module _ (columns : HasColumns line start cluster k) where
      pub unit_some : left_of (unit_of line start cluster k) < right_of (unit_of line start cluster k)
      unit_some =
          let around = columns.inside k itself in
          let size : k < length line.text = omega (arith, shown, ordered.text) in
          omega (arith, around.0, around.1, left_next line ordered k shown, takes line k size held.takes)

      pub unit_within : right_of (unit_of line start cluster k) ≤ width_of line
      unit_within =
          let found = columns.owner (right_of (unit_of line start cluster k) - 1) (omega (arith, unit_some)) (omega (arith, unit_some)) in
          let j : ℕ = found.0 in
          let inside : j < length line.levels = inner j found.1 in
          omega (arith, found.3, left_rises line (get_or line.ltov j 0 + 1) (length line.vtol) (omega (arith, ordered.inverse.ltov_within j inside, ordered.vtol)))

    -- the column of the unit's trailing end is within the line
    pub trailing_within : EvenAdjoins line → (unit_of line start cluster k).trailing ≤ width_of line
    trailing_within adjoin =
        elim (cases_Bool (is_odd (level_at line k))) [
          | inl odd ↦
              omega (
                arith,
                cond-true (is_odd (level_at line k)) (unit_of line start cluster k).trailing (unit_of line start cluster k).leading odd,
                odd_left odd,
                odd_right odd,
                left_most line (after (greatest is_of_unit (length line.vtol)) 0),
              )
          | inr even ↦
              omega (
                arith,
                unit_within (even_columns even adjoin),
                cond-false (is_odd (level_at line k)) (unit_of line start cluster k).leading (unit_of line start cluster k).trailing even,
              )
        ]
