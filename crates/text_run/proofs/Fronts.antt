-- The first paragraphs of a text, which are the same whatever text follows.
use Rattle.std.proofs.Common.{◌≡◌, ℕ, ◌-◌, ◌<◌, ◌≤◌, Bool, ◌&&◌, List, [], ◌∷◌, ◌++◌, length, take, drop, Some, None, refl, sym, subst, ap, ap₂, ◌∙◌, arith}
use Rattle.std.specs.List.{concat}
use Rattle.std.proofs.lemmas.List.{append_assoc, append-nil, length-append, length-take-le, length-drop, take-append-drop}
use Rattle.std.proofs.lemmas.List.{nil_from_length}
use Rattle.std.proofs.lemmas.List.Folds.{list_all-append, concat-append}
use Rattle.std.proofs.lemmas.Bool.Decides.{nat_tests}
use Rattle.bidi.specs.Cuts.{paragraphs, SplitsAt}
use Rattle.bidi.proofs.FrontLemmas as front
use Rattle.text_run.specs.TextRun.{is_within}
use Rattle.text_run.specs.Streaming.{IsFront, StartsLong}

module _ (is_cut : ℕ → ℕ → Bool) where
  -- if a text without a paragraph boundary is longer than the limit, its first paragraph is too long,
  -- whatever follows
  pub long_uncut : (text : List ℕ) → SplitsAt is_cut text None → 1048576 < length text → StartsLong is_cut text
  long_uncut text uncut long =
      let n = length text - 1 in
      let at = front.place is_cut text n (omega arith) in
      let xs = take n text in
      let nothing : at.1 ≡ [] = nil_from_length at.1 (omega (arith, ap length at.2, length-drop n text)) in
      let text_is : text ≡ xs ++ at.0 ∷ [] = at.3 ∙ ap (λ t. xs ++ at.0 ∷ t) nothing in
      let whole : paragraphs is_cut (xs ++ at.0 ∷ []) ≡ (xs ++ at.0 ∷ []) ∷ [] = subst (λ (t : List ℕ). paragraphs is_cut t ≡ t ∷ []) text_is (uncut (omega arith)) in
      record {
        first = λ more. xs ++ at.0 ∷ (front.first_paragraph is_cut at.0 more).0;
        others = λ more. (front.first_paragraph is_cut at.0 more).1;
        splits = λ more. ap (λ t. paragraphs is_cut (t ++ more)) text_is ∙ ap (paragraphs is_cut) (append_assoc xs (at.0 ∷ []) more)
            ∙ front.join is_cut xs at.0 more _ _ whole (front.first_paragraph is_cut at.0 more).2;
        long = λ more.
            let len : 1048576 < length (xs ++ at.0 ∷ (front.first_paragraph is_cut at.0 more).0) = omega (arith, length-append xs (at.0 ∷ (front.first_paragraph is_cut at.0 more).0), length-take-le n text (omega arith)) in
            grind (arith, nat_tests);
      }

  -- if the first paragraph of a text is too long, it is still too long when more text follows
  pub long_more : (text more : List ℕ) → StartsLong is_cut text → StartsLong is_cut (text ++ more)
  long_more text more starts = record {
    first = λ after. starts.first (more ++ after);
    others = λ after. starts.others (more ++ after);
    splits = λ after. ap (paragraphs is_cut) (append_assoc text more after) ∙ starts.splits (more ++ after);
    long = λ after. starts.long (more ++ after);
  }

  -- an empty list of paragraphs is a list of first paragraphs of any text, and the whole text remains
  pub front_none : (text : List ℕ) → IsFront is_cut [] text text
  front_none text = record { whole = refl; cuts = λ more. refl; within = refl; filled = λ some. some }

  -- the characters before the first paragraph boundary are the first paragraph
  pub front_one : (text paragraph after : List ℕ) (k : ℕ) → SplitsAt is_cut text (Some k) → k ≤ 1048576 → paragraph ≡ take k text → after ≡ drop k text → IsFront is_cut (paragraph ∷ []) text after
  front_one text paragraph after k splits short paragraph_is after_is =
      let at = front.place is_cut text k splits.1 in
      let len : length (take k text) ≡ k = length-take-le k text (omega (arith, splits.1)) in
      let cut : paragraphs is_cut (take k text ++ at.0 ∷ at.1) ≡ take k text ∷ paragraphs is_cut (at.0 ∷ at.1) =
      ap (paragraphs is_cut) (sym at.3) ∙ splits.2 ∙ ap (λ t. take k text ∷ paragraphs is_cut t) at.2 in
      let short_2 : length paragraph ≤ 1048576 = omega (arith, ap length paragraph_is, len) in
      record {
        whole = sym (take-append-drop k text) ∙ ap₂ (λ p r. p ++ r) (sym paragraph_is) (sym after_is) ∙ ap (λ p. p ++ after) (sym (append-nil paragraph));
        cuts = λ more. ap (λ t. paragraphs is_cut (t ++ more)) at.3 ∙ ap (paragraphs is_cut) (append_assoc (take k text) (at.0 ∷ at.1) more)
            ∙ front.grow is_cut (take k text) at.0 at.1 more (omega (arith, splits.0)) cut
            ∙ ap₂ (λ p r. p ∷ paragraphs is_cut (r ++ more)) (sym paragraph_is) (sym at.2 ∙ sym after_is);
        within = grind (arith, nat_tests);
        filled = λ some. omega (arith, ap length after_is, length-drop k text, splits.1);
      }

  -- the first paragraphs of a text, followed by the first paragraphs of the remaining text, are first
  -- paragraphs of the text
  pub front_join : (ps qs : List (List ℕ)) (text rest last : List ℕ) → IsFront is_cut ps text rest → IsFront is_cut qs rest last → IsFront is_cut (ps ++ qs) text last
  front_join ps qs text rest last a b = record {
    whole = a.whole ∙ ap (λ t. concat ps ++ t) b.whole ∙ sym (append_assoc (concat ps) (concat qs) last) ∙ ap (λ t. t ++ last) (sym (concat-append ps qs));
    cuts = λ more. a.cuts more ∙ ap (λ t. ps ++ t) (b.cuts more) ∙ sym (append_assoc ps qs (paragraphs is_cut (last ++ more)));
    within = list_all-append is_within ps qs ∙ ap₂ (λ x y. x && y) a.within b.within;
    filled = λ some. b.filled (a.filled some);
  }

  -- appending more text leaves the first paragraphs of a text unchanged, and appends the same text to the
  -- remaining text
  pub front_more : (ps : List (List ℕ)) (text rest more : List ℕ) → IsFront is_cut ps text rest → IsFront is_cut ps (text ++ more) (rest ++ more)
  front_more ps text rest more a = record {
    whole = ap (λ t. t ++ more) a.whole ∙ append_assoc (concat ps) rest more;
    cuts = λ others. ap (paragraphs is_cut) (append_assoc text more others) ∙ a.cuts (more ++ others) ∙ ap (λ t. ps ++ paragraphs is_cut t) (sym (append_assoc rest more others));
    within = a.within;
    filled = λ some. filled_more text rest more a.filled some;
  }
    where
      filled_more : (text rest more : List ℕ) → (0 < length text → 0 < length rest) → 0 < length (text ++ more) → 0 < length (rest ++ more)
      filled_more [] rest more filled some = omega (arith, length-append rest more, some)
      filled_more (a ∷ text) rest more filled some = omega (arith, length-append rest more, filled (omega arith))
