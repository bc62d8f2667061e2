-- A level run is an isolating run sequence by itself if it does not continue in another run and no other run
-- continues in it.
use Rattle.std.proofs.Common.{◌≡◌, ℕ, zero, suc, ◌+◌, ◌-◌, ◌<◌, ◌≤◌, max, List, [], ◌∷◌, ◌++◌, length, get_or, set, take, drop, map, slice_index, None, Option, refl, sym, ap, ◌∙◌, arith, append_assoc}
use Rattle.std.specs.List.{range_with_len}
use Rattle.std.proofs.lemmas.List.{append-nil, drop-set-lt, drop_more, length-set, take-append-drop, take_more_set}
use Rattle.ucd.specs.declared.bidi_class.BidiClass.{BidiClass}
use Rattle.ucd.specs.declared.bidi_class.BidiClass.TheVariants.{ON}
use Rattle.ucd.specs.declared.bracket.Bracket.{Bracket}
use Rattle.ucd.specs.Classes.{class_at}
use Rattle.bidi.specs.Isolates.{matches_of}
use Rattle.bidi.specs.Levels.{levels_in, put, sequence_levels}
use Rattle.bidi.specs.Runs.{IsRunEnd, next_start, sequence_at}
use Rattle.bidi.specs.Sequences.{direction, eos, level_before, level_after}
use Rattle.bidi.proofs.RunLemmas.{first_of-range, last_match, last_of-range, rest_of, sequence_at-run}

-- writing values to consecutive indices replaces the items in this range of the list
pub put-within : (values levels : List ℕ) (a : ℕ) → a + length values ≤ length levels
    → put levels (range_with_len a (length values)) values ≡ take a levels ++ (values ++ drop (a + length values) levels)
put-within [] levels a e = let whole : a + 0 ≡ a = omega arith in rw whole (sym (take-append-drop a levels))
put-within (value ∷ values) levels a e =
    let next : a + suc (length values) ≡ a + 1 + length values = omega arith in
    let rest = drop (a + 1 + length values) levels in
    put-within values (set levels a value) (a + 1) (omega (arith, length-set levels a value, e))
    ∙ ap (λ xs. take (a + 1) (set levels a value) ++ (values ++ xs)) (drop-set-lt (a + 1 + length values) levels a value (omega arith))
    ∙ ap (λ xs. xs ++ (values ++ rest)) (take_more_set levels a value (omega (arith, e)))
    ∙ append_assoc (take a levels) (value ∷ []) (values ++ rest)
    ∙ ap (λ n. take a levels ++ ((value ∷ values) ++ drop n levels)) (sym next)

-- the list of the items at consecutive indices is a range of the list
pub range-part : {X : Type 0} (xs : List X) (d : X) (start n : ℕ) → start + n ≤ length xs → map (λ k. get_or xs k d) (range_with_len start n) ≡ take n (drop start xs)
range-part xs d start zero within = refl
range-part xs d start (suc n) within =
    ap (λ more. get_or xs start d ∷ more) (range-part xs d (start + 1) n (omega (arith, within)))
    ∙ sym (ap (take (suc n)) (drop_more xs start d (omega (arith, within))))

-- if no run begins at the match of a run's last character, the sequence that begins with the run is the run
-- alone
pub alone : (classes : List BidiClass) (levels matches : List ℕ) (start end : ℕ) → matches ≡ matches_of classes → length classes ≡ length levels → IsRunEnd levels start end
    → None ≡ next_start levels (get_or matches (end - 1) 0) → sequence_at classes levels start ≡ range_with_len start (end - start)
alone classes levels matches start end e size run none =
    let above = run.above in
    let within = run.within in
    let found = last_match classes matches end (length levels) e size (omega arith) within in
    sequence_at-run classes levels size start end run
    ∙ ap (λ o. range_with_len start (end - start) ++ rest_of classes levels size o) (sym (none ∙ ap (next_start levels) found))
    ∙ append-nil (range_with_len start (end - start))

-- ---- the levels of a run, from `start` up to `end`, that is a whole sequence
module _ (bracket : ℕ → Option Bracket) (base : ℕ) (characters : List ℕ) (classes : List BidiClass) (levels : List ℕ) (types : List BidiClass)
    (start end : ℕ) (above : start < end) (within : end ≤ length levels) (characters_size : length characters ≡ length levels) (types_size : length types ≡ length levels) where
  abbrev n : ℕ
  n = end - start

  abbrev places : List ℕ
  places = range_with_len start n

  abbrev before : ℕ → BidiClass
  before k = direction (max (slice_index levels k) (level_before base levels k))

  abbrev after : ℕ → BidiClass
  after k = direction (max (slice_index levels k) (level_after base classes levels k))

  values_are : levels_in bracket base characters classes levels types places
      ≡ sequence_levels bracket (slice_index levels start) (before start) (after (end - 1)) (take n (drop start characters)) (take n (drop start types))
  values_are =
      let cs = map (slice_index characters) places in
      let ts = map (class_at types) places in
      ap (λ k. sequence_levels bracket (slice_index levels k) (before k) (eos base classes levels places) cs ts) (first_of-range start end above)
      ∙ ap (λ k. sequence_levels bracket (slice_index levels start) (before start) (after k) cs ts) (last_of-range start end above)
      ∙ ap (λ xs. sequence_levels bracket (slice_index levels start) (before start) (after (end - 1)) xs ts) (range-part characters 0 start n (omega (arith, above, within, characters_size)))
      ∙ ap (sequence_levels bracket (slice_index levels start) (before start) (after (end - 1))
      (take n (drop start characters))) (range-part types ON start n (omega (arith, above, within, types_size)))

  -- writing the levels of such a run replaces the items from `start` up to `end`
  pub written_alone : (done values : List ℕ) → length done ≡ length levels → length values ≡ n
      → values ≡ sequence_levels bracket (slice_index levels start) (before start) (after (end - 1)) (take n (drop start characters)) (take n (drop start types))
      → take start done ++ (values ++ drop (start + n) done) ≡ put done places (levels_in bracket base characters classes levels types places)
  written_alone done values size count are =
      ap (λ m. take start done ++ (values ++ drop (start + m) done)) (sym count)
      ∙ sym (put-within values done start (omega (arith, above, within, size, count)))
      ∙ ap (λ m. put done (range_with_len start m) values) count
      ∙ ap (put done places) (are ∙ sym values_are)
