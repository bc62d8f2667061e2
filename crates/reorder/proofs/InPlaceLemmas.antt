-- Reversing intervals of an array in place results in the order of L2.
use Rattle.std.proofs.Common.{◌≡◌, ℕ, zero, suc, ◌+◌, ◌-◌, ◌<◌, ◌≤◌, Bool, true, false, if◌then◌else◌, List, [], ◌∷◌, ◌++◌, length}
use Rattle.std.proofs.Common.{get_or, map, take, drop, replicate, reverse, Some, refl, sym, ap, subst, ◌∙◌, inl, inr, arith, add-one, append_assoc}
use Rattle.std.specs.Prelude.{nat_le}
use Rattle.std.specs.List.{prefix_len, range_with_len}
use Rattle.std.proofs.lemmas.Bool.{cases_Bool, cond-true, cond-false, le-leb, leb-true}
use Rattle.std.proofs.lemmas.List.{append-nil, drop-drop, drop_all, drop_more, ext_get_or, get_or-drop, length-drop, length-reverse, length-take-le, map-append, reverse-append, take_all, take_more}
use Rattle.std.proofs.lemmas.List.FromFn.{get_or-map-range_with_len, length-map-range_with_len}
use Rattle.std.proofs.lemmas.List.Sums.{prefix_len-le-length, prefix_len_passes, prefix_len_stops}
use Rattle.std.proofs.lemmas.Simd.{map-map}
use Rattle.std.proofs.lemmas.Slice.{drop-put_mid, take-put_mid}
use borrow.Rule.Slice.PartMut.{put_mid, same_len_mid}
use Rattle.reorder.specs.Order.{highest, is_at_least, lowest_odd, order_by, order_of, places, reverse_runs, reversed_from}
use Rattle.reorder.specs.InPlace.{flags_at, reverse_flagged}

-- ---- an array, and its list of positions

-- reversing by flags is the same as reversing by a test if the flags are the results of the test
runs_flagged : (test : ℕ → Bool) (run xs : List ℕ) → reverse_runs test run xs ≡ reverse_flagged (map test xs) run xs
runs_flagged test run [] = refl
runs_flagged test run (x ∷ xs) =
    ap (λ (front : List ℕ). if test x then front else run ++ x ∷ reverse_runs test [] xs) (runs_flagged test (x ∷ run) xs)
    ∙ ap (λ (back : List ℕ). if test x then reverse_flagged (map test xs) (x ∷ run) xs else run ++ x ∷ back) (runs_flagged test [] xs)

-- reversing by flags commutes with applying a function to each item
map_flagged : (f : ℕ → ℕ) (flags : List Bool) (run xs : List ℕ) → map f (reverse_flagged flags run xs) ≡ reverse_flagged flags (map f run) (map f xs)
map_flagged f [] run xs = refl
map_flagged f (flag ∷ flags) run [] = refl
map_flagged f (true ∷ flags) run (x ∷ xs) = map_flagged f flags (x ∷ run) xs
map_flagged f (false ∷ flags) run (x ∷ xs) =
    map-append f run (x ∷ reverse_flagged flags [] xs) ∙ ap (λ back. map f run ++ f x ∷ back) (map_flagged f flags [] xs)

-- ---- reversing intervals inside larger intervals does not change which positions the larger intervals cover

trues_first : (n : ℕ) (bits : List Bool) → replicate n true ++ true ∷ bits ≡ true ∷ (replicate n true ++ bits)
trues_first zero bits = refl
trues_first (suc n) bits = ap (λ (more : List Bool). true ∷ more) (trues_first n bits)

flags_stay : (inner outer : ℕ → Bool) → ((x : ℕ) → inner x ≡ true → outer x ≡ true) → (run xs : List ℕ) (n : ℕ) → map outer run ≡ replicate n true
    → map outer (reverse_runs inner run xs) ≡ map outer run ++ map outer xs
flags_stay inner outer within run [] n all = sym (append-nil (map outer run))
flags_stay inner outer within run (x ∷ xs) n all =
    elim (cases_Bool (inner x)) [
      | inl passed ↦
          let here : outer x ≡ true = within x passed in
          ap (map outer) (cond-true (inner x) (reverse_runs inner (x ∷ run) xs) (run ++ x ∷ reverse_runs inner [] xs) passed)
          ∙ flags_stay inner outer within (x ∷ run) xs (suc n) (ap (λ b. b ∷ map outer run) here ∙ ap (λ (more : List Bool). true ∷ more) all)
          ∙ ap (λ b. b ∷ (map outer run ++ map outer xs)) here
          ∙ ap (λ (front : List Bool). true ∷ (front ++ map outer xs)) all
          ∙ sym (trues_first n (map outer xs))
          ∙ ap (λ b. replicate n true ++ b ∷ map outer xs) (sym here)
          ∙ ap (λ (front : List Bool). front ++ outer x ∷ map outer xs) (sym all)
      | inr failed ↦
          ap (map outer) (cond-false (inner x) (reverse_runs inner (x ∷ run) xs) (run ++ x ∷ reverse_runs inner [] xs) failed)
          ∙ map-append outer run (x ∷ reverse_runs inner [] xs)
          ∙ ap (λ (back : List Bool). map outer run ++ outer x ∷ back) (flags_stay inner outer within [] xs 0 refl)
    ]

module _ (levels : List ℕ) where
  levels_at_places : map (λ k. get_or levels k 0) (places levels) ≡ levels
  levels_at_places =
      let f : ℕ → ℕ = λ k. get_or levels k 0 in
      let size = length-map-range_with_len f 0 (length levels) in
      ext_get_or 0 (map f (places levels)) levels size
      (λ i below. get_or-map-range_with_len f 0 (length levels) i i 0 (omega (arith, size)) (omega arith))

  map_places : (test : ℕ → Bool) → map (λ k. test (get_or levels k 0)) (places levels) ≡ map test levels
  map_places test = sym (map-map test (λ k. get_or levels k 0) (places levels)) ∙ ap (map test) levels_at_places

  -- reversing the intervals of higher levels does not change the flags of a level
  flags_kept : (level low count : ℕ) → level ≤ low → map (is_at_least levels level) (reversed_from levels low count (places levels)) ≡ flags_at level levels
  flags_kept level low zero below = map_places (nat_le level)
  flags_kept level low (suc count) below =
      flags_stay (is_at_least levels low) (is_at_least levels level)
      (λ x passed. le-leb level (get_or levels x 0) (omega (arith, leb-true low (get_or levels x 0) passed)))
      [] (reversed_from levels (suc low) count (places levels)) 0 refl
      ∙ flags_kept level (suc low) count (omega arith)

get_or_first : (xs : List ℕ) (start : ℕ) → get_or xs start 0 ≡ get_or (drop start xs) 0 0
get_or_first xs start = sym (get_or-drop start xs 0 0 ∙ ap (λ n. get_or xs n 0) (omega arith))

-- ---- the scan for one level

-- if the first n flags are set and the next one is not, the first n items are reversed
interval : (test : ℕ → Bool) (levels run xs : List ℕ) (n : ℕ) → length levels ≡ length xs → n ≤ length levels
    → ((k : ℕ) → k < n → test (get_or levels k 0) ≡ true) → (n < length levels → test (get_or levels n 0) ≡ false)
    → reverse_flagged (map test levels) run xs ≡ reverse (take n xs) ++ run ++ reverse_flagged (map test (drop n levels)) [] (drop n xs)
interval test [] run xs zero sizes within passes stops = sym (append-nil run)
interval test [] run xs (suc n) sizes within passes stops = absurd (omega arith)
interval test (l ∷ levels) run [] n sizes within passes stops = absurd (omega arith)
interval test (l ∷ levels) run (x ∷ xs) zero sizes within passes stops =
    let failed : test l ≡ false = stops (omega arith) in
    cond-false (test l) (reverse_flagged (map test levels) (x ∷ run) xs) (run ++ x ∷ reverse_flagged (map test levels) [] xs) failed
    ∙ ap (λ (back : List ℕ). run ++ back)
    (sym (cond-false (test l) (reverse_flagged (map test levels) (x ∷ []) xs) (x ∷ reverse_flagged (map test levels) [] xs) failed))
interval test (l ∷ levels) run (x ∷ xs) (suc n) sizes within passes stops =
    let rest : List ℕ = reverse_flagged (map test (drop n levels)) [] (drop n xs) in
    cond-true (test l) (reverse_flagged (map test levels) (x ∷ run) xs) (run ++ x ∷ reverse_flagged (map test levels) [] xs) (passes 0 (omega arith))
    ∙ interval test levels (x ∷ run) xs n (omega arith) (omega arith) (λ k h. passes (suc k) (omega arith)) (λ h. stops (omega arith))
    ∙ ap (λ (front : List ℕ). front ++ rest) (sym (append_assoc (reverse (take n xs)) (x ∷ []) run))
    ∙ ap (λ (front : List ℕ). front ++ run ++ rest) (sym (reverse-append (x ∷ []) (take n xs)))

-- The state of the scan at the index `start`: the intervals before `start` have been reversed, and the rest
-- is unchanged.
pub record Flagged (test : ℕ → Bool) (levels old current : List ℕ) (start : ℕ) : Type 0 where
  pub sizes : length current ≡ length old
  pub rest : drop start current ≡ drop start old
  pub done : take start current ++ reverse_flagged (map test (drop start levels)) [] (drop start old) ≡ reverse_flagged (map test levels) [] old

pub Flagged-start : (test : ℕ → Bool) (levels old : List ℕ) → Flagged test levels old old 0
Flagged-start test levels old = record { sizes = refl; rest = refl; done = refl }

-- the scan reverses the next interval, which may be empty, and moves on past it
pub Flagged-next : (test : ℕ → Bool) (levels old current ys : List ℕ) (start n k next : ℕ) → Flagged test levels old current start → length levels ≡ length old
    → start ≤ length levels → n ≡ prefix_len test (drop start levels) → k ≡ n → ys ≡ reverse (take k (drop start current)) → next ≡ start + n
    → Flagged test levels old (put_mid start k current ys) next
Flagged-next test levels old current ys start n k next w same inside found e is past =
    let ls : List ℕ = drop start levels in
    let xs : List ℕ = drop start current in
    let new : List ℕ = put_mid start k current ys in
    let long : n ≤ length ls = rw found (prefix_len-le-length test ls) in
    let wide : length ls ≡ length xs = omega (arith, length-drop start levels, length-drop start current, w.sizes, same) in
    let part : length (take k xs) ≡ k = length-take-le k xs (omega arith) in
    let size : length ys ≡ k = ap length is ∙ length-reverse (take k xs) ∙ part in
    let step : reverse_flagged (map test ls) [] xs ≡ reverse (take n xs) ++ reverse_flagged (map test (drop n ls)) [] (drop n xs) =
    interval test ls [] xs n wide long (λ j h. prefix_len_passes test ls j 0 (rw (← found) h)) (λ h. rw found (prefix_len_stops test ls 0 (rw (← found) h)))
    ∙ ap (λ (front : List ℕ). front ++ reverse_flagged (map test (drop n ls)) [] (drop n xs)) (append-nil (reverse (take n xs))) in
    let later : List ℕ = reverse_flagged (map test (drop next levels)) [] (drop next old) in
    let left : (list : List ℕ) → drop n (drop start list) ≡ drop next list = λ list. drop-drop n start list ∙ ap (λ m. drop m list) (sym past) in
    record {
      sizes = same_len_mid start k current ys (size ∙ sym part) ∙ w.sizes;
      rest = drop-put_mid start k current ys next (omega arith) (omega (arith, w.sizes)) size ∙ sym (left current) ∙ ap (drop n) w.rest ∙ left old;
      done = ap (λ (front : List ℕ). front ++ later) (take-put_mid start k current ys next (omega (arith, size)) (omega (arith, w.sizes)))
          ∙ append_assoc (take start current) ys later
          ∙ ap (λ (zs : List ℕ). take start current ++ (zs ++ later)) (is ∙ ap (λ m. reverse (take m xs)) e)
          ∙ ap (λ (ms : List ℕ). take start current ++ (reverse (take n xs) ++ reverse_flagged (map test ms) [] (drop next old))) (sym (left levels))
          ∙ ap (λ (zs : List ℕ). take start current ++ (reverse (take n xs) ++ reverse_flagged (map test (drop n ls)) [] zs)) (sym (left old) ∙ ap (drop n) (sym w.rest))
          ∙ ap (λ (zs : List ℕ). take start current ++ zs) (sym step ∙ ap (reverse_flagged (map test ls) []) w.rest)
          ∙ w.done;
    }

-- the scan moves on past an index whose flag is not set
pub Flagged-skip : (test : ℕ → Bool) (levels old current : List ℕ) (start next : ℕ) → Flagged test levels old current start → length levels ≡ length old
    → start < length levels → test (get_or levels start 0) ≡ false → next ≡ start + 1 → Flagged test levels old current next
Flagged-skip test levels old current start next w same inside failed past =
    let x : ℕ = get_or old start 0 in
    let more : List ℕ = reverse_flagged (map test (drop (start + 1) levels)) [] (drop (start + 1) old) in
    let first : get_or current start 0 ≡ x = get_or_first current start ∙ ap (λ (zs : List ℕ). get_or zs 0 0) w.rest ∙ sym (get_or_first old start) in
    let step : reverse_flagged (map test (drop start levels)) [] (drop start old) ≡ x ∷ more =
    ap (λ (ls : List ℕ). reverse_flagged (map test ls) [] (drop start old)) (drop_more levels start 0 inside)
    ∙ ap (λ (zs : List ℕ). reverse_flagged (map test (get_or levels start 0 ∷ drop (start + 1) levels)) [] zs) (drop_more old start 0 (omega arith))
    ∙ cond-false (test (get_or levels start 0)) (reverse_flagged (map test (drop (start + 1) levels)) (x ∷ []) (drop (start + 1) old)) (x ∷ more) failed in
    subst (λ (n : ℕ). Flagged test levels old current n) (sym past) (record {
      sizes = w.sizes;
      rest = sym (drop-drop 1 start current) ∙ ap (drop 1) w.rest ∙ drop-drop 1 start old;
      done = ap (λ (front : List ℕ). front ++ more) (take_more current start 0 (omega (arith, w.sizes)) ∙ ap (λ y. take start current ++ y ∷ []) first)
          ∙ append_assoc (take start current) (x ∷ []) more
          ∙ ap (λ (zs : List ℕ). take start current ++ zs) (sym step)
          ∙ w.done;
    })

pub Flagged-end : (test : ℕ → Bool) (levels old current : List ℕ) (start : ℕ) → Flagged test levels old current start → length levels ≡ length old
    → length old ≤ start → current ≡ reverse_flagged (map test levels) [] old
Flagged-end test levels old current start w same past =
    sym (append-nil current) ∙ ap (λ (xs : List ℕ). xs ++ []) (sym (take_all start current (omega (arith, w.sizes))))
    ∙ ap (λ (ls : List ℕ). take start current ++ reverse_flagged (map test ls) [] (drop start old)) (sym (drop_all start levels (omega arith)))
    ∙ w.done

-- ---- the levels, from the highest down

-- the intervals of all levels above `level` have been reversed
pub record TurnedInPlace (levels old : List ℕ) (top low : ℕ) (current : List ℕ) (level : ℕ) : Type 0 where
  pub from : low ≤ level + 1
  pub to : level ≤ top
  pub sizes : length current ≡ length levels
  pub done : current ≡ map (λ k. get_or old k 0) (reversed_from levels (level + 1) (top - level) (places levels))

pub items_at_places : (levels old : List ℕ) → length old ≡ length levels → old ≡ map (λ k. get_or old k 0) (places levels)
items_at_places levels old same = sym (levels_at_places old) ∙ ap (λ n. map (λ k. get_or old k 0) (range_with_len 0 n)) same

pub TurnedInPlace-start : (levels old : List ℕ) (top low : ℕ) → length old ≡ length levels → low ≤ top → TurnedInPlace levels old top low old top
TurnedInPlace-start levels old top low same below =
    let e : top - top ≡ 0 = omega arith in
    record {
      from = omega arith;
      to = omega arith;
      sizes = same;
      done = items_at_places levels old same ∙ ap (λ count. map (λ k. get_or old k 0) (reversed_from levels (top + 1) count (places levels))) (sym e);
    }

-- reversing the intervals of `level` leads to the state for the next lower level
pub TurnedInPlace-next : (levels old : List ℕ) (top low : ℕ) (current : List ℕ) (level before : ℕ) (after : List ℕ) → TurnedInPlace levels old top low current level
    → before + 1 ≡ level → low ≤ level → length after ≡ length current → after ≡ reverse_flagged (flags_at level levels) [] current
    → TurnedInPlace levels old top low after before
TurnedInPlace-next levels old top low current level before after w e more size is =
    let f : ℕ → ℕ = λ k. get_or old k 0 in
    let test : ℕ → Bool = is_at_least levels level in
    let items : List ℕ = reversed_from levels (suc level) (top - level) (places levels) in
    let count : suc (top - level) ≡ top - before = omega (arith, w.to) in
    let so_far : current ≡ map f items = w.done ∙ ap (λ from. map f (reversed_from levels from (top - level) (places levels))) (add-one level) in
    record {
      from = omega arith;
      to = omega (arith, w.to);
      sizes = size ∙ w.sizes;
      done = is ∙ ap (reverse_flagged (flags_at level levels) []) so_far
          ∙ sym (map_flagged f (flags_at level levels) [] items)
          ∙ ap (λ (flags : List Bool). map f (reverse_flagged flags [] items)) (sym (flags_kept levels level (suc level) (top - level) (omega arith)))
          ∙ ap (map f) (sym (runs_flagged test [] items))
          ∙ ap (λ n. map f (reversed_from levels level n (places levels))) count
          ∙ ap (λ from. map f (reversed_from levels from (top - before) (places levels))) (sym e);
    }

pub TurnedInPlace-end : (levels old : List ℕ) (top low : ℕ) (current : List ℕ) (level : ℕ) → TurnedInPlace levels old top low current level → level < low
    → top ≡ highest levels → Some low ≡ lowest_odd levels → current ≡ map (λ k. get_or old k 0) (order_of levels)
unfolding order_of
TurnedInPlace-end levels old top low current level w past most lowest =
    let f : ℕ → ℕ = λ k. get_or old k 0 in
    let from : level + 1 ≡ low = omega (arith, w.from) in
    let count : top - level ≡ suc (highest levels) - low = omega (arith, w.to) in
    w.done ∙ ap (λ n. map f (reversed_from levels (level + 1) n (places levels))) count
    ∙ ap (λ n. map f (reversed_from levels n (suc (highest levels) - low) (places levels))) from
    ∙ ap (λ low. map f (order_by levels low)) lowest
