-- How one more character changes the paragraphs of a text and the state of a scan.
use Rattle.std.proofs.Common.{◌≡◌, ℕ, ◌+◌, ◌-◌, ◌<◌, ◌≤◌, min, nat_le, Bool, true, false, not, ◌&&◌, List, [], ◌∷◌, ◌++◌, length, get_or, Option, Some, None, MatchOption, refl, sym, ap, subst, ◌∙◌, arith, sub-one, if◌then◌else◌}
use Rattle.std.specs.List.{onto_first, slice_get}
use Rattle.std.proofs.lemmas.Bool.{le-leb, lt-leb, leb-true, and_right}
use Rattle.std.proofs.lemmas.List.{append_assoc, length_push, get_or_push}
use Rattle.std.proofs.lemmas.Option.{slice_get-get_or}
use Rattle.bidi.specs.Cuts.{paragraphs}
use Rattle.session.specs.Edits.{are_within}
use Rattle.session.specs.Scans.{HasScanned}
use Rattle.session.specs.declared.scan.Scan.{Scan}
use Rattle.lines.specs.declared.engine.TheConstants.{PARAGRAPH_LIMIT}

-- The last of a list of parts, and a list of parts with one more character. The character starts a new part
-- or is appended to the last one.
abbrev pub last_of : List (List ℕ) → List ℕ
last_of [] = []
last_of (p ∷ []) = p
last_of (p ∷ q ∷ ps) = last_of (q ∷ ps)

abbrev pub push : Bool → ℕ → List (List ℕ) → List (List ℕ)
push starts c [] = (c ∷ []) ∷ []
push starts c (p ∷ []) = if starts then p ∷ (c ∷ []) ∷ [] else (p ++ c ∷ []) ∷ []
push starts c (p ∷ q ∷ ps) = p ∷ push starts c (q ∷ ps)

-- whether a character starts a new part, given the character before it, if there is one
pub starts_piece : (ℕ → ℕ → Bool) → Option ℕ → ℕ → Bool
starts_piece is_cut None c = false
starts_piece is_cut (Some a) c = is_cut a c

pub starts_piece_from : (is_cut : ℕ → ℕ → Bool) (last : Option ℕ) (c : ℕ) (starts : Bool) → MatchOption last (starts ≡ false) (λ a. starts ≡ is_cut a c) → starts ≡ starts_piece is_cut last c
unfolding starts_piece
starts_piece_from is_cut None c starts h = h
starts_piece_from is_cut (Some a) c starts h = h

pub get_or-last : (ps : List (List ℕ)) → get_or ps (length ps - 1) [] ≡ last_of ps
get_or-last [] = refl
get_or-last (p ∷ []) = refl
get_or-last (p ∷ q ∷ ps) =
    let step : get_or (p ∷ q ∷ ps) (length (p ∷ q ∷ ps) - 1) [] ≡ get_or (q ∷ ps) (length (q ∷ ps) - 1) [] =
    rw (sub-one (length (p ∷ q ∷ ps)), sub-one (length (q ∷ ps))) refl in
    step ∙ get_or-last (q ∷ ps)

slice_get_last-cons : (a b : ℕ) (text : List ℕ) → slice_get (a ∷ b ∷ text) (length (a ∷ b ∷ text) - 1) ≡ slice_get (b ∷ text) (length (b ∷ text) - 1)
slice_get_last-cons a b text = rw (sub-one (length (a ∷ b ∷ text)), sub-one (length (b ∷ text))) refl

onto_first-push : (starts : Bool) (a c : ℕ) (p : List ℕ) (ps : List (List ℕ)) → onto_first a (push starts c (p ∷ ps)) ≡ push starts c ((a ∷ p) ∷ ps)
onto_first-push true a c p [] = refl
onto_first-push false a c p [] = refl
onto_first-push starts a c p (q ∷ ps) = refl

cond-push : (splits starts : Bool) (a c : ℕ) (p : List ℕ) (ps : List (List ℕ))
    → (if splits then (a ∷ []) ∷ push starts c (p ∷ ps) else onto_first a (push starts c (p ∷ ps)))
    ≡ push starts c (if splits then (a ∷ []) ∷ p ∷ ps else onto_first a (p ∷ ps))
cond-push true starts a c p ps = refl
cond-push false starts a c p ps = onto_first-push starts a c p ps

onto_first-filled : (a : ℕ) (ps : List (List ℕ)) → (p : List ℕ) × (qs : List (List ℕ)) × (onto_first a ps ≡ p ∷ qs)
onto_first-filled a [] = (a ∷ [], [], refl)
onto_first-filled a (p ∷ ps) = (a ∷ p, ps, refl)

cond-filled : (splits : Bool) (a : ℕ) (ps : List (List ℕ)) → (p : List ℕ) × (qs : List (List ℕ)) × ((if splits then (a ∷ []) ∷ ps else onto_first a ps) ≡ p ∷ qs)
cond-filled true a ps = (a ∷ [], ps, refl)
cond-filled false a ps = onto_first-filled a ps

module _ (is_cut : ℕ → ℕ → Bool) where
  -- a text that is not empty has at least one paragraph
  paragraphs-filled : (a : ℕ) (text : List ℕ) → (p : List ℕ) × (ps : List (List ℕ)) × (paragraphs is_cut (a ∷ text) ≡ p ∷ ps)
  paragraphs-filled a [] = (a ∷ [], [], refl)
  paragraphs-filled a (b ∷ text) = cond-filled (is_cut a b) a (paragraphs is_cut (b ∷ text))

  -- a character that is appended to a text starts a paragraph or is appended to the last one
  pub paragraphs-push : (text : List ℕ) (c : ℕ)
      → paragraphs is_cut (text ++ c ∷ []) ≡ push (starts_piece is_cut (slice_get text (length text - 1)) c) c (paragraphs is_cut text)
  unfolding starts_piece
  paragraphs-push [] c = refl
  paragraphs-push (a ∷ []) c = refl
  paragraphs-push (a ∷ b ∷ text) c =
      let starts = starts_piece is_cut (slice_get (b ∷ text) (length (b ∷ text) - 1)) c in
      let some = paragraphs-filled b text in
      ap (λ (ps : List (List ℕ)). if is_cut a b then (a ∷ []) ∷ ps else onto_first a ps) (paragraphs-push (b ∷ text) c ∙ ap (push starts c) some.2)
      ∙ cond-push (is_cut a b) starts a c some.0 some.1
      ∙ ap (λ (ps : List (List ℕ)). push starts c (if is_cut a b then (a ∷ []) ∷ ps else onto_first a ps)) (sym some.2)
      ∙ ap (λ (o : Option ℕ). push (starts_piece is_cut o c) c (paragraphs is_cut (a ∷ b ∷ text))) (sym (slice_get_last-cons a b text))

-- an appended character changes only the last part, or starts a new one
last_of-cons-push : (starts : Bool) (c : ℕ) (p q : List ℕ) (ps : List (List ℕ)) → last_of (p ∷ push starts c (q ∷ ps)) ≡ last_of (push starts c (q ∷ ps))
last_of-cons-push true c p q [] = refl
last_of-cons-push false c p q [] = refl
last_of-cons-push starts c p q (r ∷ ps) = refl

pub length_last_of-push : (starts : Bool) (c : ℕ) (ps : List (List ℕ)) → length (last_of (push starts c ps)) ≡ (if starts then 0 else length (last_of ps)) + 1
length_last_of-push true c [] = refl
length_last_of-push false c [] = refl
length_last_of-push true c (p ∷ []) = refl
length_last_of-push false c (p ∷ []) = length_push p c
length_last_of-push starts c (p ∷ q ∷ ps) = ap length (last_of-cons-push starts c p q ps) ∙ length_last_of-push starts c (q ∷ ps)

pub and-true-swap : (a b : Bool) → (a && (b && true)) ≡ ((a && true) && b)
and-true-swap true true = refl
and-true-swap true false = refl
and-true-swap false b = refl

pub and-implied : (a b : Bool) → (b ≡ true → a ≡ true) → (b && true) ≡ ((a && true) && b)
and-implied true true h = refl
and-implied true false h = refl
and-implied false true h = sym (h refl)
and-implied false false h = refl

pub and_assoc : (a b c : Bool) → (a && (b && c)) ≡ ((a && b) && c)
and_assoc true b c = refl
and_assoc false b c = refl

shorter_within : (p : List ℕ) (c : ℕ) → nat_le (length (p ++ c ∷ [])) PARAGRAPH_LIMIT ≡ true → nat_le (length p) PARAGRAPH_LIMIT ≡ true
shorter_within p c h = le-leb (length p) PARAGRAPH_LIMIT (omega (arith, length_push p c, leb-true (length (p ++ c ∷ [])) PARAGRAPH_LIMIT h))

-- after one more character, no part is too long if and only if none was too long before and the last part is
-- not too long now
are_within-push : (starts : Bool) (c : ℕ) (ps : List (List ℕ)) → are_within (push starts c ps) ≡ (are_within ps && nat_le (length (last_of (push starts c ps))) PARAGRAPH_LIMIT)
are_within-push starts c [] = refl
are_within-push true c (p ∷ []) = and-true-swap (nat_le (length p) PARAGRAPH_LIMIT) true
are_within-push false c (p ∷ []) = and-implied (nat_le (length p) PARAGRAPH_LIMIT) (nat_le (length (p ++ c ∷ [])) PARAGRAPH_LIMIT) (shorter_within p c)
are_within-push starts c (p ∷ q ∷ ps) =
    ap (λ b. nat_le (length p) PARAGRAPH_LIMIT && b) (are_within-push starts c (q ∷ ps))
    ∙ and_assoc (nat_le (length p) PARAGRAPH_LIMIT) (are_within (q ∷ ps)) (nat_le (length (last_of (push starts c (q ∷ ps)))) PARAGRAPH_LIMIT)
    ∙ ap (λ (r : List ℕ). are_within (p ∷ q ∷ ps) && nat_le (length r) PARAGRAPH_LIMIT) (sym (last_of-cons-push starts c p q ps))

and-true : (a : Bool) → (a && true) ≡ a
and-true true = refl
and-true false = refl

pub slice_get-push : (text : List ℕ) (c : ℕ) → Some c ≡ slice_get (text ++ c ∷ []) (length (text ++ c ∷ []) - 1)
slice_get-push text c =
    let at_end : length (text ++ c ∷ []) - 1 ≡ length text = omega (arith, length_push text c) in
    rw at_end (sym (slice_get-get_or (text ++ c ∷ []) (length text) c (omega (arith, length_push text c)) ∙ ap (λ x. Some x) (get_or_push text c c (length text) refl)))

-- If n is the capped value of m, this remains true when a new paragraph starts. Both lengths are then 0.
len_before : (starts : Bool) (m n : ℕ) → n ≡ min m PARAGRAPH_LIMIT → (if starts then 0 else n) ≡ min (if starts then 0 else m) PARAGRAPH_LIMIT
len_before true m n h = refl
len_before false m n h = h

module _ (is_cut : ℕ → ℕ → Bool) (text : List ℕ) (c : ℕ) where
  starts : Bool
  starts = starts_piece is_cut (slice_get text (length text - 1)) c

  before : ℕ
  before = if starts then 0 else length (last_of (paragraphs is_cut text))

  length_last : length (last_of (paragraphs is_cut (text ++ c ∷ []))) ≡ before + 1
  unfolding before starts
  length_last = ap (λ (ps : List (List ℕ)). length (last_of ps)) (paragraphs-push is_cut text c) ∙ length_last_of-push starts c (paragraphs is_cut text)

  within_more : are_within (paragraphs is_cut (text ++ c ∷ [])) ≡ (are_within (paragraphs is_cut text) && nat_le (before + 1) PARAGRAPH_LIMIT)
  unfolding before starts
  within_more =
      ap are_within (paragraphs-push is_cut text c) ∙ are_within-push starts c (paragraphs is_cut text)
      ∙ ap (λ n. are_within (paragraphs is_cut text) && nat_le n PARAGRAPH_LIMIT) (length_last_of-push starts c (paragraphs is_cut text))

  module _ (scan : Scan) (n : ℕ) (known : HasScanned is_cut text scan) (n-is : n ≡ (if starts_piece is_cut scan.last c then 0 else scan.len)) where
    n_before : n ≡ min before PARAGRAPH_LIMIT
    unfolding before starts
    n_before =
        n-is ∙ ap (λ o. if starts_piece is_cut o c then 0 else scan.len) known.last
        ∙ len_before starts (length (last_of (paragraphs is_cut text))) scan.len (known.len ∙ ap (λ (p : List ℕ). min (length p) PARAGRAPH_LIMIT) (get_or-last (paragraphs is_cut text)))

    length_got : length (get_or (paragraphs is_cut (text ++ c ∷ [])) (length (paragraphs is_cut (text ++ c ∷ [])) - 1) []) ≡ before + 1
    length_got = ap length (get_or-last (paragraphs is_cut (text ++ c ∷ []))) ∙ length_last

    -- `HasScanned` holds after one more character, whether or not the last paragraph is then longer than the
    -- limit
    pub scanned_within : (len : ℕ) (is_long : Bool) → n < PARAGRAPH_LIMIT → len ≡ n + 1 → is_long ≡ scan.is_long
        → HasScanned is_cut (text ++ c ∷ []) (record { last = Some c; len = len; is_long = is_long })
    scanned_within len is_long short len-is is_long-is = record {
      last = slice_get-push text c;
      len = (let n-is = n_before in rw length_got (omega arith));
      is_long = (let e : nat_le (before + 1) PARAGRAPH_LIMIT ≡ true = le-leb (before + 1) PARAGRAPH_LIMIT (omega (arith, n_before)) in
          is_long-is ∙ known.is_long ∙ ap not (sym (within_more ∙ ap (λ b. are_within (paragraphs is_cut text) && b) e ∙ and-true (are_within (paragraphs is_cut text)))));
    }

    pub scanned_past : (len : ℕ) (is_long : Bool) → PARAGRAPH_LIMIT ≤ n → len ≡ n → is_long ≡ true → HasScanned is_cut (text ++ c ∷ []) (record { last = Some c; len = len; is_long = is_long })
    scanned_past len is_long long len-is is_long-is = record {
      last = slice_get-push text c;
      len = (let n-is = n_before in rw length_got (omega arith));
      is_long = (let e : nat_le (before + 1) PARAGRAPH_LIMIT ≡ false = lt-leb (before + 1) PARAGRAPH_LIMIT (omega (arith, n_before)) in
          is_long-is ∙ ap not (sym (within_more ∙ ap (λ b. are_within (paragraphs is_cut text) && b) e ∙ and_right (are_within (paragraphs is_cut text)) false refl)));
    }

-- `HasScanned` also holds for an equal text
pub scanned_push : (is_cut : ℕ → ℕ → Bool) (text part more : List ℕ) (c : ℕ) (scan : Scan) → more ≡ part ++ c ∷ []
    → HasScanned is_cut (text ++ part ++ c ∷ []) scan → HasScanned is_cut (text ++ more) scan
scanned_push is_cut text part more c scan more-is known =
    subst (λ (xs : List ℕ). HasScanned is_cut xs scan) (append_assoc text part (c ∷ []) ∙ ap (λ xs. text ++ xs) (sym more-is)) known

pub scanned_same : (is_cut : ℕ → ℕ → Bool) (text part same : List ℕ) (scan : Scan) → part ≡ same → HasScanned is_cut (text ++ part) scan → HasScanned is_cut (text ++ same) scan
scanned_same is_cut text part same scan e known = subst (λ (xs : List ℕ). HasScanned is_cut (text ++ xs) scan) e known
