-- The sums of the advances of paragraphs, as characters are read one after another.
use Rattle.std.proofs.Common.{◌≡◌, ℕ, ◌+◌, ◌-◌, ◌^◌, ◌<◌, ◌≤◌, nat_lt, Bool, true, false, not, ◌&&◌, List, [], ◌∷◌, ◌++◌, length, take, drop, replicate, sum, Some, refl, sym, ap, ap₂, subst, ◌∙◌, inl, inr, zero-add, arith, if◌then◌else◌}
use Rattle.std.specs.List.{concat, slice_get}
use Rattle.std.proofs.lemmas.Bool.{and_parts, cases_Bool, le-ltb, lt-ltb, ltb-true}
use Rattle.std.proofs.lemmas.List.{append-nil, append_assoc, drop-append-le, drop-drop, drop_at, length-append, length-drop, length_push, take-append-le, take_all, take_at}
use Rattle.std.proofs.lemmas.List.Sums.{sum_by-append, sum_by-cons}
use Rattle.bidi.specs.Cuts.{paragraphs}
use Rattle.bidi.specs.Pieces.{ParagraphsArePieces}
use Rattle.session.specs.Edits.{have_room}
use Rattle.session.specs.Scans.{last_paragraph, HasSummed}
use Rattle.session.specs.declared.room.RoomScan.{RoomScan}
use Rattle.session.proofs.AdvanceLemmas.{zeros_sum}
use Rattle.session.proofs.ScanLemmas.{and-implied, and-true-swap, and_assoc, get_or-last, last_of, length_last_of-push, paragraphs-push, push, slice_get-push, starts_piece}

sum_push : (list : List ℕ) (a : ℕ) → sum (list ++ a ∷ []) ≡ sum list + a
sum_push list a = omega (arith, sum_by-append (λ (x : ℕ). x) list (a ∷ []), sum_by-cons (λ (x : ℕ). x) a [])

sum_one : (a : ℕ) → sum (a ∷ []) ≡ a
sum_one a = omega (arith, sum_by-cons (λ (x : ℕ). x) a [])

abbrev fits : ℕ → Bool
fits n = nat_lt n (2 ^ 32)

and_true : (b : Bool) → (b && true) ≡ b
and_true true = refl
and_true false = refl

and_false : (b : Bool) → (b && false) ≡ false
and_false true = refl
and_false false = refl

-- the sum of the advances of the last paragraph
abbrev sum_last : List ℕ → List (List ℕ) → ℕ
sum_last list ps = sum (drop (length list - length (last_of ps)) list)

last_le : (ps : List (List ℕ)) → length (last_of ps) ≤ length (concat ps)
last_le [] = omega arith
last_le (p ∷ []) = omega (arith, ap length (append-nil p))
last_le (p ∷ q ∷ ps) = omega (arith, last_le (q ∷ ps), length-append p (concat (q ∷ ps)))

-- the sum of the last paragraph's advances after one more character
sum_last-push : (starts : Bool) (c a : ℕ) (ps : List (List ℕ)) (list : List ℕ) → length list ≡ length (concat ps)
    → sum_last (list ++ a ∷ []) (push starts c ps) ≡ (if starts then 0 else sum_last list ps) + a
sum_last-push true c a ps list each =
    let at : length (list ++ a ∷ []) - length (last_of (push true c ps)) ≡ length list = omega (arith, length_push list a, length_last_of-push true c ps) in
    ap (λ n. sum (drop n (list ++ a ∷ []))) at ∙ ap sum (drop_at list (a ∷ []) (length list) refl) ∙ sum_one a ∙ sym (zero-add a)
sum_last-push false c a ps list each =
    let n = length list - length (last_of ps) in
    let at : length (list ++ a ∷ []) - length (last_of (push false c ps)) ≡ n =
    omega (arith, length_push list a, length_last_of-push false c ps, last_le ps, each) in
    ap (λ k. sum (drop k (list ++ a ∷ []))) at ∙ ap sum (drop-append-le n list (a ∷ []) (omega arith)) ∙ sum_push (drop n list) a

room-push : (starts : Bool) (c a : ℕ) (ps : List (List ℕ)) (list : List ℕ) → length list ≡ length (concat ps)
    → have_room (list ++ a ∷ []) (push starts c ps) ≡ (have_room list ps && fits ((if starts then 0 else sum_last list ps) + a))
room-push true c a [] [] each = and_true (fits (sum (a ∷ []))) ∙ ap fits (sum_one a ∙ sym (zero-add a))
room-push false c a [] [] each = and_true (fits (sum (a ∷ []))) ∙ ap fits (sum_one a ∙ sym (zero-add a))
room-push starts c a [] (x ∷ list) each = absurd (omega (arith, each))
room-push true c a (p ∷ []) list each =
    let size : length list ≡ length p = each ∙ ap length (append-nil p) in
    ap₂ (λ (xs ys : List ℕ). fits (sum xs) && (fits (sum (take 1 ys)) && true)) (take_at list (a ∷ []) (length p) size) (drop_at list (a ∷ []) (length p) size)
    ∙ ap₂ (λ (xs : List ℕ) n. fits (sum xs) && (fits n && true)) (sym (take_all (length p) list (omega (arith, size)))) (sum_one a ∙ sym (zero-add a))
    ∙ and-true-swap (fits (sum (take (length p) list))) (fits (0 + a))
room-push false c a (p ∷ []) list each =
    let size : length list ≡ length p = each ∙ ap length (append-nil p) in
    let none : length list - length p ≡ 0 = omega (arith, size) in
    let all : sum (take (length p) list) ≡ sum list = ap sum (take_all (length p) list (omega (arith, size))) in
    let more : sum (take (length (p ++ c ∷ [])) (list ++ a ∷ [])) ≡ sum list + a =
    ap sum (take_all (length (p ++ c ∷ [])) (list ++ a ∷ []) (omega (arith, size, length_push p c, length_push list a))) ∙ sum_push list a in
    ap (λ n. fits n && true) more
    ∙ and-implied (fits (sum list)) (fits (sum list + a)) (λ fit. lt-ltb (sum list) (2 ^ 32) (omega (arith, ltb-true (sum list + a) (2 ^ 32) fit)))
    ∙ ap₂ (λ m n. (fits m && true) && fits (sum (drop n list) + a)) (sym all) (sym none)
room-push starts c a (p ∷ q ∷ ps) list each =
    let rest = drop (length p) list in
    let size : length list ≡ length p + length (concat (q ∷ ps)) = each ∙ length-append p (concat (q ∷ ps)) in
    let others : length rest ≡ length (concat (q ∷ ps)) = omega (arith, length-drop (length p) list, size) in
    let first : take (length p) (list ++ a ∷ []) ≡ take (length p) list = take-append-le (length p) list (a ∷ []) (omega (arith, size)) in
    let back : drop (length p) (list ++ a ∷ []) ≡ rest ++ a ∷ [] = drop-append-le (length p) list (a ∷ []) (omega (arith, size)) in
    let place : length p + (length rest - length (last_of (q ∷ ps))) ≡ length list - length (last_of (q ∷ ps)) = omega (arith, others, size, last_le (q ∷ ps)) in
    let same : sum_last rest (q ∷ ps) ≡ sum_last list (p ∷ q ∷ ps) =
    ap sum (drop-drop (length rest - length (last_of (q ∷ ps))) (length p) list ∙ ap (λ n. drop n list) place) in
    ap₂ (λ (xs ys : List ℕ). fits (sum xs) && have_room ys (push starts c (q ∷ ps))) first back
    ∙ ap (λ b. fits (sum (take (length p) list)) && b) (room-push starts c a (q ∷ ps) rest others)
    ∙ ap (λ n. fits (sum (take (length p) list)) && (have_room rest (q ∷ ps) && fits ((if starts then 0 else n) + a))) same
    ∙ and_assoc (fits (sum (take (length p) list))) (have_room rest (q ∷ ps)) (fits ((if starts then 0 else sum_last list (p ∷ q ∷ ps)) + a))

-- equal sums are still equal if both become 0 at the start of a paragraph
before_same : (starts : Bool) (m n : ℕ) → m ≡ n → (if starts then 0 else m) ≡ (if starts then 0 else n)
before_same true m n e = refl
before_same false m n e = e

module _ (law : ParagraphsArePieces) (is_cut : ℕ → ℕ → Bool) (text list : List ℕ) (c a : ℕ) (scan : RoomScan) (known : HasSummed is_cut text list scan) where
  starts : Bool
  starts = starts_piece is_cut (slice_get text (length text - 1)) c

  abbrev ps : List (List ℕ)
  ps = paragraphs is_cut text

  each_listed : length list ≡ length (concat ps)
  each_listed = known.each ∙ ap length (sym (law.whole is_cut text))

  before : ℕ
  before = if starts then 0 else sum_last list ps

  room_more : have_room (list ++ a ∷ []) (paragraphs is_cut (text ++ c ∷ [])) ≡ (have_room list ps && fits (before + a))
  unfolding before starts
  room_more = ap (have_room (list ++ a ∷ [])) (paragraphs-push is_cut text c) ∙ room-push starts c a ps list each_listed

  sum_more : sum (drop (length (text ++ c ∷ []) - length (last_paragraph (paragraphs is_cut (text ++ c ∷ [])))) (list ++ a ∷ [])) ≡ before + a
  unfolding before starts
  sum_more =
      let size : length (text ++ c ∷ []) ≡ length (list ++ a ∷ []) = omega (arith, known.each, length_push text c, length_push list a) in
      let last : last_paragraph (paragraphs is_cut (text ++ c ∷ [])) ≡ last_of (push starts c ps) =
      get_or-last (paragraphs is_cut (text ++ c ∷ [])) ∙ ap last_of (paragraphs-push is_cut text c) in
      ap₂ (λ n (p : List ℕ). sum (drop (n - length p) (list ++ a ∷ []))) size last ∙ sum_last-push starts c a ps list each_listed

  -- the sum that the scan keeps, or 0 if the character starts a paragraph, is the sum before this character
  scan_before : (n : ℕ) → n ≡ (if starts_piece is_cut scan.last c then 0 else scan.sum) → have_room list ps ≡ true → n ≡ before
  unfolding before starts
  scan_before n n-is has =
      n-is ∙ ap (λ o. if starts_piece is_cut o c then 0 else scan.sum) known.last
      ∙ before_same starts scan.sum (sum_last list ps)
      (known.sum_is has ∙ ap₂ (λ m (p : List ℕ). sum (drop (m - length p) list)) (sym known.each) (get_or-last ps))

  module _ (n : ℕ) (n-is : n ≡ (if starts_piece is_cut scan.last c then 0 else scan.sum)) where
    -- if the sum with the next advance fits, `HasSummed` holds after the character
    pub summed_within : (is_over : Bool) (more : ℕ) → n + a < 2 ^ 32 → more ≡ n + a → is_over ≡ scan.is_over
        → HasSummed is_cut (text ++ c ∷ []) (list ++ a ∷ []) (record { last = Some c; sum = more; is_over = is_over })
    summed_within is_over more fit more-is over-is = record {
      last = slice_get-push text c;
      each = omega (arith, known.each, length_push text c, length_push list a);
      is_over = over-is ∙ known.is_over ∙ ap not (elim (cases_Bool (have_room list ps)) [
        | inl has ↦
            let sum_fits : fits (before + a) ≡ true = lt-ltb (before + a) (2 ^ 32) (omega (arith, fit, scan_before n n-is has)) in
            sym (room_more ∙ ap (λ b. have_room list ps && b) sum_fits ∙ and_true (have_room list ps))
        | inr lacks ↦ lacks ∙ sym (room_more ∙ ap (λ b. b && fits (before + a)) lacks)
      ]);
      sum_is = λ has.
          let had : have_room list ps ≡ true = (and_parts (have_room list ps) (fits (before + a)) (sym room_more ∙ has)).0 in
          more-is ∙ ap (λ m. m + a) (scan_before n n-is had) ∙ sym sum_more;
    }

    pub summed_past : (is_over : Bool) (more : ℕ) → 2 ^ 32 ≤ n + a → is_over ≡ true
        → HasSummed is_cut (text ++ c ∷ []) (list ++ a ∷ []) (record { last = Some c; sum = more; is_over = is_over })
    summed_past is_over more past over-is =
        let lacks : have_room (list ++ a ∷ []) (paragraphs is_cut (text ++ c ∷ [])) ≡ false = elim (cases_Bool (have_room list ps)) [
          | inl has ↦ room_more ∙ ap (λ b. have_room list ps && b) (le-ltb (before + a) (2 ^ 32) (omega (arith, past, scan_before n n-is has))) ∙ and_false (have_room list ps)
          | inr none ↦ room_more ∙ ap (λ b. b && fits (before + a)) none
        ] in
        record {
          last = slice_get-push text c;
          each = omega (arith, known.each, length_push text c, length_push list a);
          is_over = over-is ∙ ap not (sym lacks);
          sum_is = λ has. absurd (cc (sym has ∙ lacks));
        }

-- `HasSummed` also holds for equal lists
pub summed_push : (is_cut : ℕ → ℕ → Bool) (text part more list given others : List ℕ) (c a : ℕ) (scan : RoomScan) → more ≡ part ++ c ∷ [] → others ≡ given ++ a ∷ []
    → HasSummed is_cut (text ++ part ++ c ∷ []) (list ++ given ++ a ∷ []) scan → HasSummed is_cut (text ++ more) (list ++ others) scan
summed_push is_cut text part more list given others c a scan more-is others-is known =
    subst (λ (xs : List ℕ). HasSummed is_cut xs (list ++ others) scan) (append_assoc text part (c ∷ []) ∙ ap (λ xs. text ++ xs) (sym more-is))
    (subst (λ (ys : List ℕ). HasSummed is_cut (text ++ part ++ c ∷ []) ys scan) (append_assoc list given (a ∷ []) ∙ ap (λ ys. list ++ ys) (sym others-is)) known)

pub summed_same : (is_cut : ℕ → ℕ → Bool) (text part same list given others : List ℕ) (scan : RoomScan) → part ≡ same → given ≡ others
    → HasSummed is_cut (text ++ part) (list ++ given) scan → HasSummed is_cut (text ++ same) (list ++ others) scan
summed_same is_cut text part same list given others scan e f known =
    subst (λ (xs : List ℕ). HasSummed is_cut (text ++ xs) (list ++ others) scan) e (subst (λ (ys : List ℕ). HasSummed is_cut (text ++ part) (list ++ ys) scan) f known)

-- appending an inserted character appends an advance of 0
pub zeros_push : (xs : List ℕ) (c : ℕ) → replicate {A = ℕ} (length (xs ++ c ∷ [])) 0 ≡ replicate (length xs) 0 ++ 0 ∷ []
zeros_push [] c = refl
zeros_push (x ∷ xs) c = ap (λ ys. 0 ∷ ys) (zeros_push xs c)

pub not_not : (b : Bool) → not (not b) ≡ b
not_not true = refl
not_not false = refl

-- zeros between two lists of advances do not change their sum
pub joined_sum : (front back : List ℕ) (n : ℕ) → sum (front ++ (replicate n 0 ++ back)) ≡ sum front + sum back
joined_sum front back n =
    omega (arith, sum_by-append (λ (x : ℕ). x) front (replicate n 0 ++ back), sum_by-append (λ (x : ℕ). x) (replicate n 0) back, zeros_sum n)

-- a scan of the three parts finds whether their paragraphs are within the limit
pub room_of_parts : (is_cut : ℕ → ℕ → Bool) (front piece back front_list zeros back_list : List ℕ) (scan : RoomScan)
    → HasSummed is_cut ([] ++ front ++ piece ++ back) ([] ++ front_list ++ zeros ++ back_list) scan
    → not scan.is_over ≡ have_room (front_list ++ (zeros ++ back_list)) (paragraphs is_cut (front ++ (piece ++ back)))
room_of_parts is_cut front piece back front_list zeros back_list scan known =
    ap not known.is_over ∙ not_not (have_room (front_list ++ zeros ++ back_list) (paragraphs is_cut (front ++ piece ++ back)))
    ∙ ap₂ (λ (xs ys : List ℕ). have_room xs (paragraphs is_cut ys)) (append_assoc front_list zeros back_list) (append_assoc front piece back)
