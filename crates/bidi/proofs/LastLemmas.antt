-- A character appended to a text, with or without a paragraph boundary before it.
use Rattle.std.proofs.Common.{◌≡◌, ℕ, ◌-◌, ◌<◌, Bool, true, false, List, [], ◌∷◌, ◌++◌, length, Option, Some, None, MatchOption, refl, sym, subst, ap, ◌∙◌, arith, sub-one, if◌then◌else◌}
use Rattle.std.specs.Prelude.{⊤}
use Rattle.std.specs.List.{onto_first, slice_get}
use Rattle.std.proofs.lemmas.List.{append_assoc, length-append}
use Rattle.bidi.specs.Cuts.{paragraphs, SplitsAt}
use Rattle.bidi.proofs.FrontLemmas.{join, onto}

get_last-cons : (a b : ℕ) (text : List ℕ) → slice_get (a ∷ b ∷ text) (length (a ∷ b ∷ text) - 1) ≡ slice_get (b ∷ text) (length (b ∷ text) - 1)
get_last-cons a b text = rw (sub-one (length (a ∷ b ∷ text)), sub-one (length (b ∷ text))) refl

last_some : (text : List ℕ) (a : ℕ) → slice_get text (length text - 1) ≡ Some a → (front : List ℕ) × (text ≡ front ++ a ∷ [])
last_some [] a is = absurd cc
last_some (b ∷ []) a is = ([], cc)
last_some (b ∷ c ∷ text) a is =
    let later = last_some (c ∷ text) a (sym (get_last-cons b c text) ∙ is) in
    (b ∷ later.0, ap (λ t. b ∷ t) later.1)

last_none : (text : List ℕ) → slice_get text (length text - 1) ≡ None → text ≡ []
last_none [] is = refl
last_none (b ∷ []) is = absurd cc
last_none (b ∷ c ∷ text) is = absurd (some (last_none (c ∷ text) (sym (get_last-cons b c text) ∙ is)))
  where
    some : c ∷ text ≡ [] → ⊥
    some is = cc

pub last_pushed : (text : List ℕ) (c : ℕ) → slice_get (text ++ c ∷ []) (length (text ++ c ∷ []) - 1) ≡ Some c
last_pushed [] c = refl
last_pushed (a ∷ []) c = refl
last_pushed (a ∷ b ∷ text) c = get_last-cons a b (text ++ c ∷ []) ∙ last_pushed (b ∷ text) c

module _ (is_cut : ℕ → ℕ → Bool) where
  pub uncut_more : (text : List ℕ) (last : Option ℕ) (c : ℕ) → slice_get text (length text - 1) ≡ last
      → SplitsAt is_cut text None → MatchOption last ⊤ (λ a. is_cut a c ≡ false) → SplitsAt is_cut (text ++ c ∷ []) None
  uncut_more text None c last_is uncut no_cut some = ap (λ t. paragraphs is_cut (t ++ c ∷ [])) none ∙ ap (λ t. (t ++ c ∷ []) ∷ []) (sym none)
    where
      none : text ≡ []
      none = last_none text last_is
  uncut_more text (Some a) c last_is uncut no_cut some =
      let parts = last_some text a last_is in
      let xs = parts.0 in
      let len : 0 < length text = omega (arith, ap length parts.1, length-append xs (a ∷ [])) in
      let whole : paragraphs is_cut (xs ++ a ∷ []) ≡ (xs ++ a ∷ []) ∷ [] = subst (λ (t : List ℕ). paragraphs is_cut t ≡ t ∷ []) parts.1 (uncut len) in
      let text_is : text ++ c ∷ [] ≡ xs ++ a ∷ c ∷ [] = ap (λ t. t ++ c ∷ []) parts.1 ∙ append_assoc xs (a ∷ []) (c ∷ []) in
      ap (paragraphs is_cut) text_is
      ∙ join is_cut xs a (c ∷ []) (a ∷ c ∷ []) [] whole (onto is_cut a c [] (c ∷ []) [] no_cut refl)
      ∙ ap (λ t. t ∷ []) (sym text_is)

  -- if `text` is a single paragraph and there is a boundary between its last character and c, `text` is the
  -- first paragraph of `text ++ c ∷ more`
  pub split_before : (text more : List ℕ) (last : Option ℕ) (c a : ℕ) → last ≡ slice_get text (length text - 1) → SplitsAt is_cut text None
      → last ≡ Some a → is_cut a c ≡ true → (0 < length text) × (paragraphs is_cut (text ++ c ∷ more) ≡ text ∷ paragraphs is_cut (c ∷ more))
  split_before text more last c a at_end uncut last_is cut =
      let parts = last_some text a (sym at_end ∙ last_is) in
      let xs = parts.0 in
      let some : 0 < length text = omega (arith, ap length parts.1, length-append xs (a ∷ [])) in
      let whole : paragraphs is_cut (xs ++ a ∷ []) ≡ (xs ++ a ∷ []) ∷ [] = subst (λ (t : List ℕ). paragraphs is_cut t ≡ t ∷ []) parts.1 (uncut some) in
      let text_is : text ++ c ∷ more ≡ xs ++ a ∷ c ∷ more = ap (λ t. t ++ c ∷ more) parts.1 ∙ append_assoc xs (a ∷ []) (c ∷ more) in
      let here : paragraphs is_cut (a ∷ c ∷ more) ≡ (a ∷ []) ∷ paragraphs is_cut (c ∷ more) =
      ap (λ (t : Bool). if t then (a ∷ []) ∷ paragraphs is_cut (c ∷ more) else onto_first a (paragraphs is_cut (c ∷ more))) cut in
      (some, ap (paragraphs is_cut) text_is ∙ join is_cut xs a (c ∷ more) (a ∷ []) (paragraphs is_cut (c ∷ more)) whole here ∙ ap (λ t. t ∷ paragraphs is_cut (c ∷ more)) (sym parts.1))
