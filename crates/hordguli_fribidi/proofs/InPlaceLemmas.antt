-- An array whose items are replaced one at a time, from the first to the last.
use Rattle.std.proofs.Common.{◌≡◌, ℕ, zero, suc, ◌+◌, ◌-◌, ◌<◌, ◌≤◌, List, [], ◌∷◌, ◌++◌, length, map, set, take, drop, get_or, refl, sym, ap, ◌∙◌, add-one, arith}
use Rattle.std.proofs.Math.Seq.{take-length}
use Rattle.std.proofs.lemmas.List.{drop-set-lt, get_or-drop, length-set, take_more_set, take_rest}
use Rattle.std.proofs.lemmas.List.FromFn.{map-range_with_len_more}
use Rattle.std.specs.List.{range_with_len}

-- the first k items are those of a function of their indices, and the others are unchanged
pub record IsWritten (f : ℕ → ℕ) (old new : List ℕ) (k : ℕ) : Type 0 where
  pub done : take k new ≡ map f (range_with_len 0 k)
  pub rest : drop k new ≡ drop k old
  pub len : length new ≡ length old

drop_one_more : (k : ℕ) (xs : List ℕ) → drop (suc k) xs ≡ drop 1 (drop k xs)
drop_one_more zero xs = refl
drop_one_more (suc k) [] = refl
drop_one_more (suc k) (x ∷ xs) = drop_one_more k xs

module _ (f : ℕ → ℕ) (old : List ℕ) where
  pub none_written : IsWritten f old old 0
  none_written = record { done = refl; rest = refl; len = refl }

  pub more_written : (new : List ℕ) (k x : ℕ) → IsWritten f old new k → k < length new → x ≡ f k → IsWritten f old (set new k x) (k + 1)
  more_written new k x so within is = record {
    done = take_more_set new k x within ∙ ap (λ xs. xs ++ x ∷ []) so.done ∙ ap (λ y. map f (range_with_len 0 k) ++ y ∷ []) is
        ∙ sym (map-range_with_len_more f 0 k k (omega arith));
    rest = drop-set-lt (k + 1) new k x (omega arith) ∙ tail;
    len = length-set new k x ∙ so.len;
  }
    where
      tail : drop (k + 1) new ≡ drop (k + 1) old
      tail =
          ap (λ i. drop i new) (add-one k) ∙ drop_one_more k new ∙ ap (drop 1) so.rest ∙ sym (drop_one_more k old)
          ∙ ap (λ i. drop i old) (sym (add-one k))

  pub all_written : (new : List ℕ) → IsWritten f old new (length new) → new ≡ map f (range_with_len 0 (length old))
  all_written new so = sym (take-length new) ∙ so.done ∙ ap (λ n. map f (range_with_len 0 n)) so.len

  pub unwritten : (new : List ℕ) (k i : ℕ) → IsWritten f old new k → k ≤ i → get_or new i 0 ≡ get_or old i 0
  unwritten new k i so from =
      let past : i ≡ k + (i - k) = omega arith in
      ap (λ j. get_or new j 0) past ∙ sym (get_or-drop k new (i - k) 0) ∙ ap (λ xs. get_or xs (i - k) 0) so.rest ∙ get_or-drop k old (i - k) 0
      ∙ ap (λ j. get_or old j 0) (sym past)

  -- the same of the first item of the slice from k on
  pub first_unwritten : (new : List ℕ) (k : ℕ) → IsWritten f old new k → get_or (take (length new - k) (drop k new)) 0 0 ≡ get_or old k 0
  first_unwritten new k so =
      ap (λ xs. get_or xs 0 0) (take_rest new k) ∙ get_or-drop k new 0 0 ∙ ap (λ i. get_or new i 0) (omega arith) ∙ unwritten new k k so (omega arith)
