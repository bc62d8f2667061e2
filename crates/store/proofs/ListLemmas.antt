-- Splitting lists into parts, and rotating the parts.
use Rattle.std.proofs.Common.{◌≡◌, ℕ, ◌+◌, ◌-◌, ◌<◌, ◌≤◌, List, [], ◌∷◌, ◌++◌, length, take, drop, reverse, slice_range, sum_by, get_or, sym, ap, ◌∙◌, arith, add-one, suc, set, length-append, length-take, length-drop, append_assoc}
use Rattle.std.specs.List.{splice}
use Rattle.std.proofs.lemmas.List.Sums.{sum_by-append}
use Rattle.std.proofs.Math.Seq.{take-append_seam, drop-append_seam, take-append-add, drop-append-add, drop-cons, get_or-append_right}
use Rattle.std.proofs.Math.ListN.{drop_of_length-le}
use Rattle.std.proofs.lemmas.List.{append-nil, reverse-append, length-reverse, take_all, take-append-drop, length-take-le, drop-drop, take-append-le, drop-append-le, take-take, take_more, set_split, get_or-drop}

module _ {A : Type 0} where
  -- a list is the items before an index, the item there, and those after it
  pub at_place : (xs : List A) (i : ℕ) (x : A) → i < length xs → x ≡ get_or xs i x → xs ≡ take i xs ++ x ∷ drop (i + 1) xs
  at_place xs i x h e =
      let f : drop i xs ≡ get_or xs i x ∷ drop (i + 1) xs = rw (add-one) (drop-cons xs i x h) in
      sym (take-append-drop i xs) ∙ ap (λ ys. take i xs ++ ys) (f ∙ ap (λ y. y ∷ drop (i + 1) xs) (sym e))

  pub drop_range : (xs : List A) (i j : ℕ) → i ≤ j → drop (j - i) (drop i xs) ≡ drop j xs
  drop_range xs i j h =
      let e : i + (j - i) ≡ j = omega arith in
      drop-drop (j - i) i xs ∙ ap (λ k. drop k xs) e

  -- a list is the items before a range, those in the range, and those after it
  pub at_range : (xs : List A) (i j : ℕ) → i ≤ j → xs ≡ take i xs ++ (slice_range xs i j ++ drop j xs)
  at_range xs i j h =
      sym (take-append-drop i xs) ∙ ap (λ ys. take i xs ++ ys) (sym (take-append-drop (j - i) (drop i xs)) ∙ ap (λ ys. slice_range xs i j ++ ys) (drop_range xs i j h))

  pub length-slice_range : (xs : List A) (i j : ℕ) → i ≤ j → j ≤ length xs → length (slice_range xs i j) ≡ j - i
  length-slice_range xs i j h k =
      let e : j - i ≤ length (drop i xs) = omega (arith, length-drop i xs) in
      length-take-le (j - i) (drop i xs) e

  -- rotating the suffix b ++ c of the list a ++ b ++ c gives a ++ c ++ b
  pub rotated : (a b c xs : List A) (i j : ℕ) → xs ≡ a ++ (b ++ c) → i ≡ length a → j ≡ length a + length b
      → take i xs ++ (drop j xs ++ slice_range xs i j) ≡ a ++ (c ++ b)
  rotated a b c xs i j e f g =
      let n : length a + length b - length a ≡ length b = omega arith in
      rw (e, f, g, n) (simp (take-append_seam, drop-append-add, drop-append_seam))

  -- `replace` on a list: append the new items, rotate the old items to the end, split them off, and rotate
  -- the new items to their place
  pub replaced : (xs ys all turned kept moved result : List A) (i j n : ℕ) → i ≤ j → j ≤ length xs → n + length ys ≡ length kept → all ≡ xs ++ ys
      → turned ≡ take i all ++ (drop j all ++ slice_range all i j)
      → kept ≡ take (length turned - (j - i)) turned → moved ≡ drop (length turned - (j - i)) turned
      → result ≡ take i kept ++ (drop n kept ++ slice_range kept i n)
      → (result ≡ splice xs i j ys) × (moved ≡ slice_range xs i j)
  replaced xs ys all turned kept moved result i j n h k n_is all_is turned_is kept_is moved_is result_is =
      let a = take i xs in
      let b = slice_range xs i j in
      let c = drop j xs in
      let la : length a ≡ i = length-take-le i xs (omega arith) in
      let lb : length b ≡ j - i = length-slice_range xs i j h k in
      let all_parts : all ≡ a ++ (b ++ (c ++ ys)) =
      all_is ∙ ap (λ zs. zs ++ ys) (at_range xs i j h) ∙ append_assoc a (b ++ c) ys ∙ ap (λ zs. a ++ zs) (append_assoc b c ys) in
      let turned_parts : turned ≡ (a ++ (c ++ ys)) ++ b =
      turned_is ∙ rotated a b (c ++ ys) all i j all_parts (sym la) (omega arith) ∙ sym (append_assoc a (c ++ ys) b) in
      let cut : length turned - (j - i) ≡ length (a ++ (c ++ ys)) = omega (arith, ap length turned_parts, length-append (a ++ (c ++ ys)) b) in
      let kept_parts : kept ≡ a ++ (c ++ ys) = kept_is ∙ (rw (cut, turned_parts) (take-append_seam (a ++ (c ++ ys)) b)) in
      let moved_parts : moved ≡ b = moved_is ∙ (rw (cut, turned_parts) (drop-append_seam (a ++ (c ++ ys)) b)) in
      let end_is : n ≡ length a + length c =
      omega (arith, ap length kept_parts, length-append a (c ++ ys), length-append c ys) in
      (result_is ∙ rotated a c ys kept i n kept_parts (sym la) end_is, moved_parts)

  -- if the first k items of a list are copied over another list, copying item k extends the copy by one item
  pub set_next : (made xs now : List A) (k : ℕ) (y : A) → length made ≡ length xs → k < length xs
      → now ≡ take k made ++ drop k xs → y ≡ get_or made k y → set now k y ≡ take (k + 1) made ++ drop (k + 1) xs
  set_next made xs now k y l h now_is y_is =
      let lt : length (take k made) ≡ k = length-take-le k made (omega arith) in
      let front : take k now ≡ take k made = rw now_is (take-append-le k (take k made) (drop k xs) (omega arith) ∙ take-take k k made (omega arith)) in
      let within : k < length now = omega (arith, ap length now_is, length-append (take k made) (drop k xs), length-drop k xs) in
      let after : drop (k + 1) now ≡ drop (k + 1) xs =
      rw now_is (ap (λ n. drop (n + 1) (take k made ++ drop k xs)) (sym lt) ∙ drop-append-add (take k made) (drop k xs) 1 ∙ drop-drop 1 k xs) in
      let more : take (k + 1) made ≡ take k made ++ y ∷ [] =
      take_more made k y (omega arith) ∙ ap (λ z. take k made ++ z ∷ []) (sym y_is) in
      set_split now k y within ∙ rw (← add-one) (ap (λ zs. zs ++ y ∷ drop (k + 1) now) front ∙ ap (λ zs. take k made ++ y ∷ zs) after
      ∙ sym (append_assoc (take k made) (y ∷ []) (drop (k + 1) xs)) ∙ ap (λ zs. zs ++ drop (k + 1) xs) (sym more))

  pub get_next : (made xs now : List A) (k : ℕ) (d : A) → length made ≡ length xs → k < length xs
      → now ≡ take k made ++ drop k xs → get_or now k d ≡ get_or xs k d
  get_next made xs now k d l h now_is =
      let lt : length (take k made) ≡ k = length-take-le k made (omega arith) in
      let e : k + (k - length (take k made)) ≡ k = omega arith in
      rw now_is (get_or-append_right (take k made) (drop k xs) k d (omega arith) ∙ get_or-drop k xs (k - length (take k made)) d
      ∙ ap (λ (n : ℕ). get_or xs n d) e)

  pub made_all : (made xs : List A) (k : ℕ) → length made ≡ length xs → length xs ≤ k → take k made ++ drop k xs ≡ made
  made_all made xs k l h =
      ap (λ ys. take k made ++ ys) (drop_of_length-le xs h) ∙ append-nil (take k made) ∙ take_all k made (omega arith)

  -- writing a list over another one of the same length replaces it
  pub overwritten : (now old : List A) (n : ℕ) → length now ≡ length old → n ≡ length old → take n (now ++ drop (length now) old) ≡ now
  overwritten now old n l n_is =
      ap (λ ys. take n (now ++ ys)) (drop_of_length-le old (omega arith)) ∙ ap (λ ys. take n ys) (append-nil now) ∙ take_all n now (omega arith)

  -- taking b items, then one, and then r items from the end of a list takes its last b + 1 + r items
  pub taken : (xs front rest : List A) (top : A) (m b r : ℕ) → b + 1 + r ≡ m → m ≤ length xs → take (length xs - b) xs ≡ front
      → front ≡ rest ++ top ∷ []
      → (length rest + 1 ≡ length xs - b) × (take (length rest - r) rest ≡ take (length xs - m) xs)
      × (reverse (drop (length xs - m) xs) ≡ reverse (drop (length xs - b) xs) ++ top ∷ reverse (drop (length rest - r) rest))
      × (reverse xs ≡ (reverse (drop (length xs - b) xs) ++ top ∷ []) ++ reverse rest)
  taken xs front rest top m b r sum h front_is parts =
      let back = drop (length xs - b) xs in
      let k = length xs - m in
      let whole : xs ≡ rest ++ (top ∷ back) =
      sym (take-append-drop (length xs - b) xs) ∙ ap (λ ys. ys ++ back) (front_is ∙ parts) ∙ append_assoc rest (top ∷ []) back in
      let l : length rest + 1 ≡ length xs - b =
      omega (arith, ap length (front_is ∙ parts), length-append rest (top ∷ []), length-take (length xs - b) xs) in
      let e : length rest - r ≡ k = omega arith in
      let within : k ≤ length rest = omega arith in
      let cut : drop k xs ≡ drop k rest ++ (top ∷ back) = ap (λ ys. drop k ys) whole ∙ drop-append-le k rest (top ∷ back) within in
      let turned : (ys : List A) → reverse (ys ++ (top ∷ back)) ≡ (reverse back ++ top ∷ []) ++ reverse ys =
      λ ys. reverse-append ys (top ∷ back) ∙ ap (λ zs. zs ++ reverse ys) (reverse-append (top ∷ []) back) in (
        l,
        rw e (sym (ap (λ ys. take k ys) whole ∙ take-append-le k rest (top ∷ back) within)),
        rw e (ap reverse cut ∙ turned (drop k rest) ∙ append_assoc (reverse back) (top ∷ []) (reverse (drop k rest))),
        ap reverse whole ∙ turned rest,
      )

  -- a prefix that ends after x consists of all items before x, x itself, and a prefix of the items after x
  pub take_far : (l r : List A) (x : A) (n : ℕ) → length l < n → take n (l ++ x ∷ r) ≡ l ++ x ∷ take (n - length l - 1) r
  take_far l r x n h =
      let e : n ≡ length l + suc (n - length l - 1) = omega arith in
      ap (λ (m : ℕ). take m (l ++ x ∷ r)) e ∙ take-append-add l (x ∷ r) (suc (n - length l - 1))

  pub drop_far : (l r : List A) (x : A) (n : ℕ) → length l < n → drop n (l ++ x ∷ r) ≡ drop (n - length l - 1) r
  drop_far l r x n h =
      let e : n ≡ length l + suc (n - length l - 1) = omega arith in
      ap (λ (m : ℕ). drop m (l ++ x ∷ r)) e ∙ drop-append-add l (x ∷ r) (suc (n - length l - 1))

-- the sum of the new list plus that of the replaced items is the sum of the old list plus that of the new
-- items
pub sum_around_splice : {A : Type 0} (f : A → ℕ) (xs : List A) (i j : ℕ) (ys : List A) → i ≤ j
    → sum_by f (splice xs i j ys) + sum_by f (slice_range xs i j) ≡ sum_by f xs + sum_by f ys
sum_around_splice f xs i j ys h =
    omega (
      arith,
      sum_by-append f (take i xs) (ys ++ drop j xs),
      sum_by-append f ys (drop j xs),
      ap (sum_by f) (at_range xs i j h),
      sum_by-append f (take i xs) (slice_range xs i j ++ drop j xs),
      sum_by-append f (slice_range xs i j) (drop j xs),
    )

pub sum_of_splice : {A : Type 0} (f : A → ℕ) (xs : List A) (i j : ℕ) (ys : List A) → i ≤ j → sum_by f (splice xs i j ys) ≤ sum_by f xs + sum_by f ys
sum_of_splice f xs i j ys h = omega (arith, sum_around_splice f xs i j ys h)

-- the sum over the new items is at most the sum over the list that contains them
pub splice_within : {A : Type 0} (f : A → ℕ) (xs : List A) (i j : ℕ) (ys : List A) → sum_by f ys ≤ sum_by f (splice xs i j ys)
splice_within f xs i j ys = omega (arith, sum_by-append f (take i xs) (ys ++ drop j xs), sum_by-append f ys (drop j xs))

-- the sum over a range is at most the sum over the list
pub range_within : {A : Type 0} (f : A → ℕ) (xs : List A) (i j : ℕ) → i ≤ j → sum_by f (slice_range xs i j) ≤ sum_by f xs
range_within f xs i j h =
    omega (
      arith,
      ap (sum_by f) (at_range xs i j h),
      sum_by-append f (take i xs) (slice_range xs i j ++ drop j xs),
      sum_by-append f (slice_range xs i j) (drop j xs),
    )

-- moving the last item of a list to a reversed list keeps all items
pub one_over : {A : Type 0} (items front nodes more all : List A) (x y : A) → items ≡ front ++ x ∷ [] → y ≡ x → more ≡ nodes ++ y ∷ []
    → items ++ reverse nodes ≡ all → front ++ reverse more ≡ all
one_over items front nodes more all x y items_is y_is more_is all_is =
    ap (λ zs. front ++ reverse zs) more_is ∙ ap (λ zs. front ++ zs) (reverse-append nodes (y ∷ [])) ∙ ap (λ z. front ++ z ∷ reverse nodes) y_is
    ∙ sym (append_assoc front (x ∷ []) (reverse nodes)) ∙ ap (λ zs. zs ++ reverse nodes) (sym items_is) ∙ all_is

pub length_both : {A : Type 0} (items nodes all : List A) → items ++ reverse nodes ≡ all → length items + length nodes ≡ length all
length_both items nodes all e = omega (arith, ap length e, length-append items (reverse nodes), length-reverse nodes)

-- a list's capacity is enough for its remaining items and the items that were moved out of it
pub room_after : {A : Type 0} (items nodes all now : List A) (len cap room : ℕ) → items ++ reverse nodes ≡ all → now ≡ items → len ≡ length all
    → len ≤ cap → room ≡ cap → length now + length nodes ≤ room
room_after items nodes all now len cap room e now_is len_is within room_is = omega (arith, length_both items nodes all e, ap length now_is)
