-- How the first paragraph of a text changes when text is added before or after it.
use Rattle.std.proofs.Common.{◌≡◌, ◌⊎◌, inl, inr, ℕ, zero, suc, min, ◌+◌, ◌-◌, ◌<◌, ◌≤◌, Bool, true, false, List, [], ◌∷◌, ◌++◌, length, take, drop, Some, None, refl, sym, subst, ap, ap₂, ◌∙◌, arith, if◌then◌else◌}
use Rattle.std.specs.List.{onto_first}
use Rattle.std.proofs.lemmas.List.{length-take-le, length-drop, take-append-drop, take_all}
use Rattle.std.proofs.lemmas.Bool.{cases_lt}
use Rattle.std.proofs.Math.Seq.{take-append-add, drop-append-add}
use Rattle.bidi.specs.Cuts.{paragraphs, SplitsAt}

first_of_two : (t : Bool) (a : ℕ) (ps : List (List ℕ)) → (p : List ℕ) × (qs : List (List ℕ)) × ((if t then (a ∷ []) ∷ ps else onto_first a ps) ≡ (a ∷ p) ∷ qs)
first_of_two true a ps = ([], ps, refl)
first_of_two false a [] = ([], [], refl)
first_of_two false a (p ∷ ps) = (p, ps, refl)

-- If the first paragraph continues after x, there is no boundary after x. Removing x from the first paragraph
-- leaves the first paragraph of the text after x.
not_cut : (t : Bool) (x b : ℕ) (q : List ℕ) (qs : List (List ℕ)) (w : List ℕ) (ws : List (List ℕ)) (y : ℕ) → (if t then (x ∷ []) ∷ ((b ∷ q) ∷ qs) else onto_first x ((b ∷ q) ∷ qs)) ≡ (x ∷ y ∷ w) ∷ ws
    → (t ≡ false) × ((b ∷ q) ∷ qs ≡ (y ∷ w) ∷ ws)
not_cut true x b q qs w ws y is = absurd cc
not_cut false x b q qs w ws y is = (refl, cc)

is_cut_there : (t : Bool) (x b : ℕ) (q : List ℕ) (qs ws : List (List ℕ)) → (if t then (x ∷ []) ∷ ((b ∷ q) ∷ qs) else onto_first x ((b ∷ q) ∷ qs)) ≡ (x ∷ []) ∷ ws → t ≡ true
is_cut_there true x b q qs ws is = refl
is_cut_there false x b q qs ws is = absurd cc

module _ (is_cut : ℕ → ℕ → Bool) where
  -- a text that is not empty has a first paragraph, which begins with the text's first character
  pub first_paragraph : (a : ℕ) (text : List ℕ) → (p : List ℕ) × (ps : List (List ℕ)) × (paragraphs is_cut (a ∷ text) ≡ (a ∷ p) ∷ ps)
  first_paragraph a [] = ([], [], refl)
  first_paragraph a (b ∷ text) = first_of_two (is_cut a b) a (paragraphs is_cut (b ∷ text))

  -- if the first paragraph of a text is x, y and w, the first paragraph of the text without x is y and w
  later_is : (x y : ℕ) (w text : List ℕ) (ws : List (List ℕ)) → paragraphs is_cut (x ∷ y ∷ text) ≡ (x ∷ y ∷ w) ∷ ws → (is_cut x y ≡ false) × (paragraphs is_cut (y ∷ text) ≡ (y ∷ w) ∷ ws)
  later_is x y w text ws is =
      let some = first_paragraph y text in
      let both = not_cut (is_cut x y) x y some.0 some.1 w ws y (ap (λ (ps : List (List ℕ)). if is_cut x y then (x ∷ []) ∷ ps else onto_first x ps) (sym some.2) ∙ is) in
      (both.0, some.2 ∙ both.1)

  pub onto : (x y : ℕ) (text : List ℕ) (p : List ℕ) (ps : List (List ℕ)) → is_cut x y ≡ false → paragraphs is_cut (y ∷ text) ≡ p ∷ ps → paragraphs is_cut (x ∷ y ∷ text) ≡ (x ∷ p) ∷ ps
  onto x y text p ps uncut is =
      ap (λ (t : Bool). if t then (x ∷ []) ∷ paragraphs is_cut (y ∷ text) else onto_first x (paragraphs is_cut (y ∷ text))) uncut ∙ ap (onto_first x) is

  -- if `xs` followed by `a` is a single paragraph, prepending `xs` to a text that begins with `a` extends that text's
  -- first paragraph
  pub join : (xs : List ℕ) (a : ℕ) (after p : List ℕ) (ps : List (List ℕ)) → paragraphs is_cut (xs ++ a ∷ []) ≡ (xs ++ a ∷ []) ∷ []
      → paragraphs is_cut (a ∷ after) ≡ p ∷ ps → paragraphs is_cut (xs ++ a ∷ after) ≡ (xs ++ p) ∷ ps
  join [] a after p ps whole splits = splits
  join (x ∷ []) a after p ps whole splits = onto x a after p ps (later_is x a [] [] [] whole).0 splits
  join (x ∷ y ∷ xs) a after p ps whole splits =
      let later = later_is x y (xs ++ a ∷ []) (xs ++ a ∷ []) [] whole in
      onto x y (xs ++ a ∷ after) (y ∷ xs ++ p) ps later.0 (join (y ∷ xs) a after p ps later.1 splits)

  -- a first paragraph that ends at a boundary stays the same when more text is appended
  pub grow : (p : List ℕ) (r : ℕ) (rest more : List ℕ) → 0 < length p → paragraphs is_cut (p ++ r ∷ rest) ≡ p ∷ paragraphs is_cut (r ∷ rest)
      → paragraphs is_cut (p ++ r ∷ (rest ++ more)) ≡ p ∷ paragraphs is_cut (r ∷ (rest ++ more))
  grow [] r rest more some splits = absurd (omega arith)
  grow (x ∷ []) r rest more some splits =
      let first = first_paragraph r rest in
      let cut : is_cut x r ≡ true = is_cut_there (is_cut x r) x r first.0 first.1 _ (ap (λ (ps : List (List ℕ)). if is_cut x r then (x ∷ []) ∷ ps else onto_first x ps) (sym first.2) ∙ splits) in
      ap (λ (t : Bool). if t then (x ∷ []) ∷ paragraphs is_cut (r ∷ (rest ++ more)) else onto_first x (paragraphs is_cut (r ∷ (rest ++ more)))) cut
  grow (x ∷ y ∷ xs) r rest more some splits =
      let later = later_is x y xs (xs ++ r ∷ rest) (paragraphs is_cut (r ∷ rest)) splits in
      onto x y (xs ++ r ∷ (rest ++ more)) (y ∷ xs) _ later.0 (grow (y ∷ xs) r rest more (omega arith) later.1)

  -- a text can be split at any index inside it
  pub place : (text : List ℕ) (n : ℕ) → n < length text
      → (a : ℕ) × (after : List ℕ) × (drop n text ≡ a ∷ after) × (text ≡ take n text ++ a ∷ after) × (take (n + 1) text ≡ take n text ++ a ∷ [])
  place text n within = go (drop n text) refl
    where
      go : (rest : List ℕ) → drop n text ≡ rest → (a : ℕ) × (after : List ℕ) × (drop n text ≡ a ∷ after) × (text ≡ take n text ++ a ∷ after) × (take (n + 1) text ≡ take n text ++ a ∷ [])
      go [] is = absurd (omega (arith, length-drop n text, ap length is))
      go (a ∷ after) is =
          let parts : text ≡ take n text ++ a ∷ after = sym (take-append-drop n text) ∙ ap (λ xs. take n text ++ xs) is in
          let len : length (take n text) + 1 ≡ n + 1 = omega (arith, length-take-le n text (omega arith)) in
          (a, after, is, parts, ap (λ k. take k text) (sym len) ∙ ap (take (length (take n text) + 1)) parts ∙ take-append-add (take n text) (a ∷ after) 1)

  -- if the first n + 1 characters of a text are one paragraph, the first boundary after index n is the text's
  -- first boundary
  pub skip_some : (text : List ℕ) (n k : ℕ) → n < length text → paragraphs is_cut (take (n + 1) text)
      ≡ take (n + 1) text ∷ [] → SplitsAt is_cut (drop n text) (Some k) → SplitsAt is_cut text (Some (n + k))
  skip_some text n k within whole splits =
      let at = place text n within in
      let xs = take n text in
      let rest = at.0 ∷ at.1 in
      let len : length xs ≡ n = length-take-le n text (omega arith) in
      let joined : paragraphs is_cut (xs ++ rest) ≡ (xs ++ take k rest) ∷ paragraphs is_cut (drop k rest) =
      join xs at.0 at.1 (take k rest) (paragraphs is_cut (drop k rest)) (ap (paragraphs is_cut) (sym at.4) ∙ whole ∙ ap (λ p. p ∷ []) at.4)
      (subst (λ (t : List ℕ). paragraphs is_cut t ≡ take k t ∷ paragraphs is_cut (drop k t)) at.2 splits.2) in
      let front : xs ++ take k rest ≡ take (n + k) text =
      sym (take-append-add xs rest k) ∙ ap (take (length xs + k)) (sym at.3) ∙ ap (λ i. take (i + k) text) len in
      let after : drop k rest ≡ drop (n + k) text =
      sym (drop-append-add xs rest k) ∙ ap (drop (length xs + k)) (sym at.3) ∙ ap (λ i. drop (i + k) text) len in (
        omega (arith, splits.0),
        omega (arith, splits.1, length-drop n text),
        ap (paragraphs is_cut) at.3 ∙ joined ∙ ap₂ (λ p ps. p ∷ ps) front (ap (paragraphs is_cut) after),
      )

  pub skip_none : (text : List ℕ) (n : ℕ) → n < length text → paragraphs is_cut (take (n + 1) text) ≡ take (n + 1) text ∷ [] → SplitsAt is_cut (drop n text) None → SplitsAt is_cut text None
  skip_none text n within whole splits some =
      let at = place text n within in
      let xs = take n text in
      let rest = at.0 ∷ at.1 in
      let uncut : paragraphs is_cut (drop n text) ≡ drop n text ∷ [] = splits (omega (arith, length-drop n text)) in
      ap (paragraphs is_cut) at.3
      ∙ join xs at.0 at.1 rest [] (ap (paragraphs is_cut) (sym at.4) ∙ whole ∙ ap (λ p. p ∷ []) at.4) (subst (λ (t : List ℕ). paragraphs is_cut t ≡ t ∷ []) at.2 uncut)
      ∙ ap (λ p. p ∷ []) (sym at.3)

  -- if the first `seen` characters of a text have no boundary between them, they are one paragraph
  uncut_up_to : (text : List ℕ) (seen n : ℕ) → suc n ≡ min (length text) seen - 1 → SplitsAt is_cut (take seen text) None → paragraphs is_cut (take (suc n + 1) text) ≡ take (suc n + 1) text ∷ []
  uncut_up_to text seen n is uncut = go (cases_lt seen (length text))
    where
      go : (seen < length text) ⊎ (length text ≤ seen) → paragraphs is_cut (take (suc n + 1) text) ≡ take (suc n + 1) text ∷ []
      go (inl less) =
          let same : suc n + 1 ≡ seen = omega (arith, is) in
          subst (λ k. paragraphs is_cut (take k text) ≡ take k text ∷ []) (sym same) (uncut (omega (arith, length-take-le seen text (omega arith), is)))
      go (inr all) =
          let same : suc n + 1 ≡ length text = omega (arith, is) in
          subst (λ (t : List ℕ). paragraphs is_cut t ≡ t ∷ []) (take_all seen text all ∙ sym (take_all (suc n + 1) text (omega (arith, same))))
          (uncut (omega (arith, ap length (take_all seen text all), is)))

  pub skip_some_seen : (text : List ℕ) (seen n k : ℕ) → n ≡ min (length text) seen - 1
      → SplitsAt is_cut (take seen text) None → SplitsAt is_cut (drop n text) (Some k)
      → SplitsAt is_cut text (Some (n + k))
  skip_some_seen text seen zero k is uncut splits = let same : k ≡ 0 + k = omega arith in subst (λ j. SplitsAt is_cut text (Some j)) same splits
  skip_some_seen text seen (suc n) k is uncut splits = skip_some text (suc n) k (omega (arith, is)) (uncut_up_to text seen n is uncut) splits

  pub skip_none_seen : (text : List ℕ) (seen n : ℕ) → n ≡ min (length text) seen - 1 → SplitsAt is_cut (take seen text) None → SplitsAt is_cut (drop n text) None → SplitsAt is_cut text None
  skip_none_seen text seen zero is uncut splits = splits
  skip_none_seen text seen (suc n) is uncut splits = skip_none text (suc n) (omega (arith, is)) (uncut_up_to text seen n is uncut) splits
