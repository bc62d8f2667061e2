-- Where the first paragraph of a text in UTF-8 ends.
use Rattle.std.proofs.Common.{◌≡◌, ℕ, min, get_or, ◌+◌, ◌-◌, ◌<◌, ◌≤◌, Bool, true, false, List, [], ◌∷◌, ◌++◌, length, take, drop, Option, Some, None, MatchOption, refl, sym, subst, ap, ap₂, ◌∙◌, arith, if◌then◌else◌, true≢false, ⊎_elim, inl, inr}
use Rattle.std.specs.Prelude.{⊤, IsUtf8}
use Rattle.std.specs.List.{onto_first, slice_get}
use Rattle.std.specs.Str.{chars, IsCharBoundary}
use Rattle.std.proofs.lemmas.Bool.{and_parts, cases_lt}
use Rattle.std.proofs.lemmas.Bool.Decides.{nat_tests}
use Rattle.std.proofs.lemmas.List.{append_assoc, append-nil, get_or-append-add, get_or-drop, get_or-take, length-append, length-take-le, nil_from_length, take_all, take-append-drop}
use Rattle.std.proofs.lemmas.Str.{IsUtf8-append, IsUtf8-drop, IsUtf8-encode, IsUtf8-past_char, IsUtf8-take, chars-append, chars-nil, chars_past_char, cons_from_encodes, encodes-chars, len_utf8_bounds, length-encode, scalars-chars}
use Rattle.std.proofs.Math.Seq.{take-append-add, drop-append-add}
use Rattle.std.proofs.str.Laws.{Shape, of1, of2, of3, of4, shape, one, two, three}
use Rattle.ucd.specs.Separators.{may_separate}
use Rattle.bidi.specs.Cuts.{SplitsAt, paragraphs}
use Rattle.bidi.specs.TextCuts.{AreUsual, EndsAfter, EndsFirst, FindsEnd, FindsEndAfter, cuts_before, leads_at, may_lead}
use Rattle.bidi.proofs.FrontLemmas.{onto, skip_none_seen, skip_some_seen}
use Rattle.bidi.proofs.LastLemmas.{split_before, uncut_more}
use lib.Utf8.{encode, encodes, scalar, scalar_cases, scalars}

past_one : (c : ℕ) → 1 < length (encode c) → 128 ≤ c
past_one c h = ⊎_elim (λ l. absurd (omega (arith, ap length (one c l)))) (λ l. l) (cases_lt c 128)

past_two : (c : ℕ) → 2 < length (encode c) → 2048 ≤ c
past_two c h = ⊎_elim (λ l. absurd (omega (arith, ap length (two c (past_one c (omega arith)) l)))) (λ l. l) (cases_lt c 2048)

past_three : (c : ℕ) → 3 < length (encode c) → 65536 ≤ c
past_three c h = ⊎_elim (λ l. absurd (omega (arith, ap length (three c (past_two c (omega arith)) l)))) (λ l. l) (cases_lt c 65536)

-- ---- the bytes that may begin a separator

-- whether a separator may begin in the second part of a text depends on that part alone
leads_later : (xs ys : List ℕ) (k : ℕ) → leads_at (xs ++ ys) (length xs + k) ≡ leads_at ys k
leads_later xs ys k =
    let one : length xs + k + 1 ≡ length xs + (k + 1) = omega arith in
    let two : length xs + k + 2 ≡ length xs + (k + 2) = omega arith in
    ap₂ (λ a b. may_lead a b (get_or (xs ++ ys) (length xs + k + 2) 0)) (get_or-append-add xs ys k 0)
    (ap (λ i. get_or (xs ++ ys) i 0) one ∙ get_or-append-add xs ys (k + 1) 0)
    ∙ ap (λ c. may_lead (get_or ys k 0) (get_or ys (k + 1) 0) c) (ap (λ i. get_or (xs ++ ys) i 0) two ∙ get_or-append-add xs ys (k + 2) 0)

-- whether a separator may begin at `at + k` can be tested in a block that begins at `at` and extends two
-- bytes past this index
pub leads_within : (bytes : List ℕ) (at n k : ℕ) → k + 2 < n → leads_at (take n (drop at bytes)) k ≡ leads_at bytes (at + k)
leads_within bytes at n k lt =
    let one : at + (k + 1) ≡ at + k + 1 = omega arith in
    let two : at + (k + 2) ≡ at + k + 2 = omega arith in
    ap₂ (λ a b. may_lead a b (get_or (take n (drop at bytes)) (k + 2) 0)) (get_or-take n (drop at bytes) k 0 (omega (arith, lt)) ∙ get_or-drop at bytes k 0)
    (get_or-take n (drop at bytes) (k + 1) 0 (omega (arith, lt)) ∙ get_or-drop at bytes (k + 1) 0 ∙ ap (λ i. get_or bytes i 0) one)
    ∙ ap (λ c. may_lead (get_or bytes (at + k) 0) (get_or bytes (at + k + 1) 0) c)
    (get_or-take n (drop at bytes) (k + 2) 0 lt ∙ get_or-drop at bytes (k + 2) 0 ∙ ap (λ i. get_or bytes i 0) two)

-- if no separator may begin before a block, or at its first m positions, none may begin before `at + m`
pub plain_to : (bytes : List ℕ) (at n m : ℕ) → m + 2 ≤ n → ((k : ℕ) → k < at → leads_at bytes k ≡ false)
    → ((k : ℕ) → k < m → leads_at (take n (drop at bytes)) k ≡ false) → (k : ℕ) → k < at + m → leads_at bytes k ≡ false
plain_to bytes at n m within before block k lt = elim (cases_lt k at) [
  | inl below ↦ before k below
  | inr from ↦
      let there : at + (k - at) ≡ k = omega arith in
      subst (λ i. leads_at bytes i ≡ false) there (sym (leads_within bytes at n (k - at) (omega arith)) ∙ block (k - at) (omega arith))
]

-- if a separator may begin at position m of a block, it may begin at `at + m`
pub lead_at : (bytes : List ℕ) (at n m : ℕ) → m + 2 < n → leads_at (take n (drop at bytes)) m ≡ true → leads_at bytes (at + m) ≡ true
lead_at bytes at n m within lead = sym (leads_within bytes at n m within) ∙ lead

-- if the bytes of a character cannot begin a separator, the character is not a separator
lead_by : (c : ℕ) (rest : List ℕ) → Shape c → leads_at (encode c ++ rest) 0 ≡ false → may_separate c ≡ false
lead_by c rest (of1 l e) plain =
    let first : may_lead c (get_or rest 0 0) (get_or rest 1 0) ≡ false = subst (λ (t : List ℕ). leads_at (t ++ rest) 0 ≡ false) e plain in
    grind (arith, nat_tests, first, l)
lead_by c rest (of2 a b l u f is e) plain =
    let first : may_lead a b (get_or rest 0 0) ≡ false = subst (λ (t : List ℕ). leads_at (t ++ rest) 0 ≡ false) e plain in
    let least : 128 ≤ c = past_one c (omega (arith, ap length e)) in
    grind (arith, nat_tests, first, is, least)
lead_by c rest (of3 a b d l u f g is e) plain =
    let first : may_lead a b d ≡ false = subst (λ (t : List ℕ). leads_at (t ++ rest) 0 ≡ false) e plain in
    let least : 2048 ≤ c = past_two c (omega (arith, ap length e)) in
    grind (arith, nat_tests, first, is, least)
lead_by c rest (of4 a b d x l u f g h is e) plain =
    let least : 65536 ≤ c = past_three c (omega (arith, ap length e)) in
    grind (arith, nat_tests, least)

lead_plain : (c : ℕ) (rest : List ℕ) → scalar c ≡ true → leads_at (encode c ++ rest) 0 ≡ false → may_separate c ≡ false
lead_plain c rest valid plain = lead_by c rest (shape c (scalar_cases c valid)) plain

scalar_lt : (c : ℕ) → scalar c ≡ true → c < 1114112
scalar_lt c is = grind (arith, nat_tests, is)

-- the first character of a valid text is a scalar value
scalar_of : (bytes more : List ℕ) (c : ℕ) → IsUtf8 bytes → bytes ≡ encode c ++ more → scalar c ≡ true
scalar_of bytes more c utf8 is =
    let later = cons_from_encodes utf8.0 more c (utf8.1.1 ∙ is) in
    (and_parts _ _ (ap scalars (sym later.1) ∙ utf8.1.0)).0

chars_one : (c : ℕ) → scalar c ≡ true → chars (encode c) ≡ c ∷ []
chars_one c valid = chars_past_char (encode c) [] c (IsUtf8-encode c valid) (sym (append-nil (encode c))) ∙ ap (λ t. c ∷ t) chars-nil

pub some_chars : (bytes : List ℕ) → IsUtf8 bytes → 0 < length bytes → 0 < length (chars bytes)
some_chars bytes utf8 some = go (chars bytes) (encodes-chars bytes utf8)
  where
    go : (cs : List ℕ) → encodes cs ≡ bytes → 0 < length cs
    go [] is = absurd (omega (arith, some, ap length is))
    go (c ∷ cs) is = omega arith

module _ (is_cut : ℕ → ℕ → Bool) where
  -- there is no boundary between a character and the text after it
  abbrev pub NotAfter : ℕ → List ℕ → Type 0
  NotAfter a [] = ⊤
  NotAfter a (b ∷ text) = is_cut a b ≡ false

  -- there is no boundary after any character of a list, if the text `ys` follows
  abbrev pub Uncut : List ℕ → List ℕ → Type 0
  Uncut [] ys = ⊤
  Uncut (x ∷ xs) ys = NotAfter x (xs ++ ys) × Uncut xs ys

  uncut_join : (xs zs ys : List ℕ) → Uncut xs (zs ++ ys) → Uncut zs ys → Uncut (xs ++ zs) ys
  uncut_join [] zs ys a b = b
  uncut_join (x ∷ xs) zs ys a b = (subst (λ (t : List ℕ). NotAfter x t) (sym (append_assoc xs zs ys)) a.0, uncut_join xs zs ys a.1 b)

  uncut_whole : (xs : List ℕ) → Uncut xs [] → 0 < length xs → paragraphs is_cut xs ≡ xs ∷ []
  uncut_whole [] u some = absurd (omega (arith, some))
  uncut_whole (x ∷ []) u some = refl
  uncut_whole (x ∷ y ∷ xs) u some = onto is_cut x y xs (y ∷ xs) [] u.0 (uncut_whole (y ∷ xs) u.1 (omega arith))

  uncut_cut : (xs : List ℕ) (c d : ℕ) (ys : List ℕ) → Uncut xs (c ∷ d ∷ ys) → is_cut c d ≡ true
      → paragraphs is_cut (xs ++ c ∷ d ∷ ys) ≡ (xs ++ c ∷ []) ∷ paragraphs is_cut (d ∷ ys)
  uncut_cut [] c d ys u cut =
      ap (λ (t : Bool). if t then (c ∷ []) ∷ paragraphs is_cut (d ∷ ys) else onto_first c (paragraphs is_cut (d ∷ ys))) cut
  uncut_cut (x ∷ []) c d ys u cut = onto is_cut x c (d ∷ ys) (c ∷ []) (paragraphs is_cut (d ∷ ys)) u.0 (uncut_cut [] c d ys tt cut)
  uncut_cut (x ∷ y ∷ xs) c d ys u cut =
      onto is_cut x y (xs ++ c ∷ d ∷ ys) (y ∷ xs ++ c ∷ []) (paragraphs is_cut (d ∷ ys)) u.0 (uncut_cut (y ∷ xs) c d ys u.1 cut)

  not_after : AreUsual is_cut → (c : ℕ) (text : List ℕ) → c < 1114112 → may_separate c ≡ false → NotAfter c text
  not_after usual c [] lt plain = tt
  not_after usual c (d ∷ text) lt plain = usual c d lt plain

  pub not_before : (c : ℕ) (text : List ℕ) → ((d : ℕ) (more : List ℕ) → text ≡ d ∷ more → is_cut c d ≡ false) → NotAfter c text
  not_before c [] no_cut = tt
  not_before c (d ∷ text) no_cut = no_cut d text refl

  -- if no byte of the characters may begin a separator, there is no boundary after any of these characters
  plain_uncut : AreUsual is_cut → (cs ys : List ℕ) (after : List ℕ) → scalars cs ≡ true → ((k : ℕ) → k < length (encodes cs) → leads_at (encodes cs ++ after) k ≡ false) → Uncut cs ys
  plain_uncut usual [] ys after valid plain = tt
  plain_uncut usual (c ∷ cs) ys after valid plain =
      let both = and_parts (scalar c) (scalars cs) valid in
      let rest = encodes cs ++ after in
      let whole : (encode c ++ encodes cs) ++ after ≡ encode c ++ rest = append_assoc (encode c) (encodes cs) after in
      let len : length (encode c ++ encodes cs) ≡ length (encode c) + length (encodes cs) = length-append (encode c) (encodes cs) in
      let some : 0 < length (encode c) = omega (arith, length-encode c, (len_utf8_bounds c).0) in (
        not_after usual c (cs ++ ys) (scalar_lt c both.0) (lead_plain c rest both.0 (subst (λ (t : List ℕ). leads_at t 0 ≡ false) whole (plain 0 (omega (arith, len, some))))),
        plain_uncut usual cs ys after both.1 (λ k lt. sym (leads_later (encode c) rest k)
            ∙ subst (λ (t : List ℕ). leads_at t (length (encode c) + k) ≡ false) whole (plain (length (encode c) + k) (omega (arith, lt, len)))),
      )

  -- the text up to `rest` has been searched and has no boundary
  pub record Passed (text rest : List ℕ) : Type 0 where
    pub front : List ℕ
    pub whole : text ≡ front ++ rest
    pub utf8 : IsUtf8 front
    pub rest_utf8 : IsUtf8 rest
    pub uncut : Uncut (chars front) (chars rest)

  pub passed_none : (text : List ℕ) → IsUtf8 text → Passed text text
  passed_none text utf8 = record {
    front = [];
    whole = refl;
    utf8 = ([], (refl, refl));
    rest_utf8 = utf8;
    uncut = subst (λ (cs : List ℕ). Uncut cs (chars text)) (sym chars-nil) tt;
  }

  -- the search can skip n bytes if there is no boundary after any of their characters
  passed_by : (text rest : List ℕ) (n : ℕ) → Passed text rest → IsCharBoundary rest n → ((ys : List ℕ) → Uncut (chars (take n rest)) ys) → Passed text (drop n rest)
  passed_by text rest n p boundary plain =
      let front = take n rest in
      let back = drop n rest in
      let utf8 : IsUtf8 front = IsUtf8-take rest n p.rest_utf8 boundary in
      let parts : front ++ back ≡ rest = take-append-drop n rest in
      let rest_is : chars rest ≡ chars front ++ chars back = ap chars (sym parts) ∙ chars-append front back utf8 in
      record {
        front = p.front ++ front;
        whole = p.whole ∙ ap (λ t. p.front ++ t) (sym parts) ∙ sym (append_assoc p.front front back);
        utf8 = IsUtf8-append p.front front p.utf8 utf8;
        rest_utf8 = IsUtf8-drop rest n p.rest_utf8 boundary;
        uncut = subst (λ (cs : List ℕ). Uncut cs (chars back)) (sym (chars-append p.front front p.utf8))
            (uncut_join (chars p.front) (chars front) (chars back) (subst (λ (cs : List ℕ). Uncut (chars p.front) cs) rest_is p.uncut) (plain (chars back)));
      }

  pub passed_plain : (text rest : List ℕ) (n : ℕ) (is_usual : Bool) → (is_usual ≡ true → AreUsual is_cut) → Passed text rest → IsCharBoundary rest n
      → ((k : ℕ) → k < n → leads_at rest k ≡ false) → (is_usual ≡ false → n ≡ 0) → Passed text (drop n rest)
  passed_plain text rest n true usual p boundary plain unknown =
      let front = take n rest in
      let utf8 : IsUtf8 front = IsUtf8-take rest n p.rest_utf8 boundary in
      passed_by text rest n p boundary (λ ys. plain_uncut (usual refl) (chars front) ys (drop n rest) (scalars-chars front utf8)
      (λ k lt.
      let bytes : encodes (chars front) ≡ front = encodes-chars front utf8 in
      let less : k < n = omega (arith, lt, ap length bytes, length-take-le n rest boundary.0) in
      subst (λ (t : List ℕ). leads_at t k ≡ false) (sym (ap (λ t. t ++ drop n rest) bytes ∙ take-append-drop n rest)) (plain k less)))
  passed_plain text rest n false usual p boundary plain unknown =
      passed_by text rest n p boundary (λ ys. subst (λ (cs : List ℕ). Uncut cs ys) (sym (ap (λ k. chars (take k rest)) (unknown refl) ∙ chars-nil)) tt)

  -- the search can skip a character that has no boundary after it
  pub passed_char : (text rest more : List ℕ) (c : ℕ) → Passed text rest → rest ≡ encode c ++ more → NotAfter c (chars more) → Passed text more
  passed_char text rest more c p is no_cut =
      let valid : scalar c ≡ true = scalar_of rest more c p.rest_utf8 is in
      let rest_is : chars rest ≡ c ∷ chars more = chars_past_char rest more c p.rest_utf8 is in
      record {
        front = p.front ++ encode c;
        whole = p.whole ∙ ap (λ t. p.front ++ t) is ∙ sym (append_assoc p.front (encode c) more);
        utf8 = IsUtf8-append p.front (encode c) p.utf8 (IsUtf8-encode c valid);
        rest_utf8 = IsUtf8-past_char rest more c p.rest_utf8 is;
        uncut = subst (λ (cs : List ℕ). Uncut cs (chars more)) (sym (chars-append p.front (encode c) p.utf8 ∙ ap (λ t. chars p.front ++ t) (chars_one c valid)))
            (uncut_join (chars p.front) (c ∷ []) (chars more) (subst (λ (cs : List ℕ). Uncut (chars p.front) cs) rest_is p.uncut) (no_cut, tt));
      }

  -- if the whole text has been searched, it has no boundary
  pub passed_all : (text rest : List ℕ) → Passed text rest → length rest ≡ 0 → SplitsAt is_cut (chars text) None
  passed_all text rest p none =
      let empty : rest ≡ [] = nil_from_length rest none in
      let text_is : text ≡ p.front = p.whole ∙ ap (λ t. p.front ++ t) empty ∙ append-nil p.front in
      let uncut : Uncut (chars text) [] = subst (λ (t : List ℕ). Uncut (chars t) []) (sym text_is) (subst (λ (cs : List ℕ). Uncut (chars p.front) cs) (ap chars empty ∙ chars-nil) p.uncut) in
      uncut_whole (chars text) uncut

  -- a character with a boundary after it ends the first paragraph
  pub passed_cut : (text rest more others : List ℕ) (c d : ℕ) → Passed text rest → rest ≡ encode c ++ more → more ≡ encode d ++ others → is_cut c d ≡ true
      → EndsFirst is_cut text (length text - length more)
  passed_cut text rest more others c d p is more_is cut =
      let valid : scalar c ≡ true = scalar_of rest more c p.rest_utf8 is in
      let more_utf8 : IsUtf8 more = IsUtf8-past_char rest more c p.rest_utf8 is in
      let front = p.front ++ encode c in
      let front_utf8 : IsUtf8 front = IsUtf8-append p.front (encode c) p.utf8 (IsUtf8-encode c valid) in
      let text_is : text ≡ front ++ more = p.whole ∙ ap (λ t. p.front ++ t) is ∙ sym (append_assoc p.front (encode c) more) in
      let n : length text - length more ≡ length front + 0 = omega (arith, ap length text_is, length-append front more) in
      let front_is : take (length text - length more) text ≡ front =
      ap₂ (λ k t. take k t) n text_is ∙ take-append-add front more 0 ∙ append-nil front in
      let back_is : drop (length text - length more) text ≡ more = ap₂ (λ k t. drop k t) n text_is ∙ drop-append-add front more 0 in
      let some : 0 < length more = omega (arith, ap length more_is, length-append (encode d) others, length-encode d, (len_utf8_bounds d).0) in
      let front_chars : chars front ≡ chars p.front ++ c ∷ [] = chars-append p.front (encode c) p.utf8 ∙ ap (λ t. chars p.front ++ t) (chars_one c valid) in
      let more_chars : chars more ≡ d ∷ chars others = chars_past_char more others d more_utf8 more_is in
      let rest_chars : chars rest ≡ c ∷ d ∷ chars others = chars_past_char rest more c p.rest_utf8 is ∙ ap (λ t. c ∷ t) more_chars in
      let text_chars : chars text ≡ chars p.front ++ c ∷ d ∷ chars others = ap chars p.whole ∙ chars-append p.front rest p.utf8 ∙ ap (λ t. chars p.front ++ t) rest_chars in
      record {
        within = omega (arith, n, ap length text_is, length-append front more, some);
        front = subst IsUtf8 (sym front_is) front_utf8;
        rest = subst IsUtf8 (sym back_is) more_utf8;
        some = omega (arith, ap (λ t. length (chars t)) front_is, ap length front_chars, length-append (chars p.front) (c ∷ []));
        more = omega (arith, ap (λ t. length (chars t)) back_is, some_chars more more_utf8 some);
        splits = ap (paragraphs is_cut) text_chars
            ∙ uncut_cut (chars p.front) c d (chars others) (subst (λ (cs : List ℕ). Uncut (chars p.front) cs) rest_chars p.uncut) cut
            ∙ ap₂ (λ x y. x ∷ paragraphs is_cut y) (sym (ap chars front_is ∙ front_chars)) (sym (ap chars back_is ∙ more_chars));
      }

  -- ---- a text that follows held characters

  -- if there is no boundary between the held characters and the text, the held characters and the first
  -- character of the text are a single paragraph
  uncut_first : (held cs : List ℕ) (last : Option ℕ) → last ≡ slice_get held (length held - 1) → SplitsAt is_cut held None
      → cuts_before is_cut last cs ≡ false → SplitsAt is_cut (take (length held + 1) (held ++ cs)) None
  uncut_first held [] last at_end uncut none =
      subst (λ (t : List ℕ). SplitsAt is_cut t None) (sym (ap (take (length held + 1)) (append-nil held) ∙ take_all (length held + 1) held (omega arith))) uncut
  uncut_first held (c ∷ cs) last at_end uncut none =
      subst (λ (t : List ℕ). SplitsAt is_cut t None) (sym (take-append-add held (c ∷ cs) 1))
      (uncut_more is_cut held last c (sym at_end) uncut (by last none))
    where
      by : (last : Option ℕ) → cuts_before is_cut last (c ∷ cs) ≡ false → MatchOption last ⊤ (λ a. is_cut a c ≡ false)
      by None none = tt
      by (Some a) none = none

  pub ends_at_once : (held text : List ℕ) (last : Option ℕ) → IsUtf8 text → last ≡ slice_get held (length held - 1) → SplitsAt is_cut held None
      → cuts_before is_cut last (chars text) ≡ true → EndsAfter is_cut held text 0
  ends_at_once held text last utf8 at_end uncut cuts = record {
    within = omega arith;
    front = ([], (refl, refl));
    rest = utf8;
    splits = subst (λ (t : List ℕ). SplitsAt is_cut (held ++ chars text) (Some (length t))) (sym (ap (λ t. held ++ t) chars-nil ∙ append-nil held)) (go last (chars text) at_end cuts);
  }
    where
      go : (last : Option ℕ) (cs : List ℕ) → last ≡ slice_get held (length held - 1) → cuts_before is_cut last cs ≡ true → SplitsAt is_cut (held ++ cs) (Some (length held))
      go None cs at_end cuts = absurd (true≢false (sym cuts))
      go (Some a) [] at_end cuts = absurd (true≢false (sym cuts))
      go (Some a) (c ∷ cs) at_end cuts =
          let both = split_before is_cut held cs (Some a) c a at_end uncut refl cuts in
          let zero_more : length held ≡ length held + 0 = omega arith in
          let front : take (length held) (held ++ c ∷ cs) ≡ held = ap (λ k. take k (held ++ c ∷ cs)) zero_more ∙ take-append-add held (c ∷ cs) 0 ∙ append-nil held in
          let back : drop (length held) (held ++ c ∷ cs) ≡ c ∷ cs = ap (λ k. drop k (held ++ c ∷ cs)) zero_more ∙ drop-append-add held (c ∷ cs) 0 in (
            both.0,
            omega (arith, length-append held (c ∷ cs)),
            both.1 ∙ ap₂ (λ x y. x ∷ paragraphs is_cut y) (sym front) (sym back),
          )

  first_splits : (text : List ℕ) (n : ℕ) → EndsFirst is_cut text n → SplitsAt is_cut (chars text) (Some (length (chars (take n text))))
  first_splits text n ends =
      let front = take n text in
      let back = drop n text in
      let text_is : chars text ≡ chars front ++ chars back = ap chars (sym (take-append-drop n text)) ∙ chars-append front back ends.front in
      let zero_more : length (chars front) ≡ length (chars front) + 0 = omega arith in
      let front_is : take (length (chars front)) (chars text) ≡ chars front =
      ap₂ (λ k t. take k t) zero_more text_is ∙ take-append-add (chars front) (chars back) 0 ∙ append-nil (chars front) in
      let back_is : drop (length (chars front)) (chars text) ≡ chars back = ap₂ (λ k t. drop k t) zero_more text_is ∙ drop-append-add (chars front) (chars back) 0 in (
        ends.some,
        omega (arith, ap length text_is, length-append (chars front) (chars back), ends.more),
        ends.splits ∙ ap₂ (λ x y. x ∷ paragraphs is_cut y) (sym front_is) (sym back_is),
      )

  after_held : (held cs : List ℕ) → drop (length held) (held ++ cs) ≡ cs
  after_held held cs = let zero_more : length held ≡ length held + 0 = omega arith in ap (λ k. drop k (held ++ cs)) zero_more ∙ drop-append-add held cs 0

  pub ends_later : (held text : List ℕ) (last : Option ℕ) → last ≡ slice_get held (length held - 1) → SplitsAt is_cut held None
      → cuts_before is_cut last (chars text) ≡ false → (result : Option ℕ) → FindsEnd is_cut text result → FindsEndAfter is_cut held text result
  ends_later held text last at_end uncut none (Some n) ends =
      let k = length (chars (take n text)) in
      let splits = first_splits text n ends in
      let first = uncut_first held (chars text) last at_end uncut none in
      let there : length held ≡ min (length (held ++ chars text)) (length held + 1) - 1 = omega (arith, length-append held (chars text), splits.1) in
      let both : SplitsAt is_cut (held ++ chars text) (Some (length held + k)) =
      skip_some_seen is_cut (held ++ chars text) (length held + 1) (length held) k there first
      (subst (λ (t : List ℕ). SplitsAt is_cut t (Some k)) (sym (after_held held (chars text))) splits) in
      record {
        within = omega (arith, ends.within);
        front = ends.front;
        rest = ends.rest;
        splits = subst (λ j. SplitsAt is_cut (held ++ chars text) (Some j)) (sym (length-append held (chars (take n text)))) both;
      }
  ends_later held text last at_end uncut none None ends = go (chars text) ends (uncut_first held (chars text) last at_end uncut none)
    where
      go : (cs : List ℕ) → SplitsAt is_cut cs None → SplitsAt is_cut (take (length held + 1) (held ++ cs)) None → SplitsAt is_cut (held ++ cs) None
      go [] ends first = subst (λ (t : List ℕ). SplitsAt is_cut t None) (sym (append-nil held)) uncut
      go (c ∷ cs) ends first =
          let there : length held ≡ min (length (held ++ c ∷ cs)) (length held + 1) - 1 = omega (arith, length-append held (c ∷ cs)) in
          skip_none_seen is_cut (held ++ c ∷ cs) (length held + 1) (length held) there first
          (subst (λ (t : List ℕ). SplitsAt is_cut t None) (sym (after_held held (c ∷ cs))) ends)

-- the held characters and the first n bytes of the text are a prefix of the held characters and the text, and
-- the other bytes are the rest
pub ends_parts : (held text : List ℕ) (n : ℕ) → IsUtf8 (take n text)
    → (held ++ chars (take n text) ≡ take (length (held ++ chars (take n text))) (held ++ chars text))
    × (chars (drop n text) ≡ drop (length (held ++ chars (take n text))) (held ++ chars text))
ends_parts held text n utf8 =
    let front = held ++ chars (take n text) in
    let back = chars (drop n text) in
    let whole : held ++ chars text ≡ front ++ back =
    ap (λ t. held ++ t) (ap chars (sym (take-append-drop n text)) ∙ chars-append (take n text) (drop n text) utf8) ∙ sym (append_assoc held (chars (take n text)) back) in
    let zero_more : length front ≡ length front + 0 = omega arith in (
      sym (ap₂ (λ k t. take k t) zero_more whole ∙ take-append-add front back 0 ∙ append-nil front),
      sym (ap₂ (λ k t. drop k t) zero_more whole ∙ drop-append-add front back 0),
    )
