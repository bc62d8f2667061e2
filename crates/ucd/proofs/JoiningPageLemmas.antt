-- The page table of joining types, built page by page.
use Rattle.std.proofs.Common.{◌≡◌, ℕ, ◌+◌, ◌-◌, ◌*◌, ◌/◌, ◌%◌, ◌<◌, ◌≤◌, List, ◌∷◌, [], ◌++◌, length, drop, get_or, set, Option, None, refl, sym, ◌∙◌, ap, subst, inl, inr, arith}
use Rattle.std.proofs.lemmas.Bool.{cases_lt}
use Rattle.std.proofs.lemmas.Grind.{common_steps}
use Rattle.std.proofs.lemmas.List.{length-append, get_or-drop, get_or-append-add, get_or_append_left, get_or_default, get_or_push}
use Rattle.ucd.specs.JoiningPages.{HasTypes, HoldsTypes, merged, merged_at, type_at}
use Rattle.ucd.specs.declared.joining_type.JoiningType.{JoiningType}
use Rattle.ucd.specs.declared.joining_type.JoiningType.TheVariants.{NonJoining}

-- below the lengths of both lists, the defaults have no effect
pub merged_default : (shaping_types data_types : List (Option JoiningType)) (c : ℕ) (d e : Option JoiningType) → c < length shaping_types → c < length data_types
    → merged (get_or shaping_types c d) (get_or data_types c e) ≡ merged_at shaping_types data_types c
merged_default shaping_types data_types c d e one other = rw (get_or_default shaping_types c d None one, get_or_default data_types c e None other) refl

-- one more item of a page has been set
pub types_more : {X : Type 0} (page : List X) (types : ℕ → X) (start i : ℕ) (v d : X) → i < length page → v ≡ types (start + i)
    → ((j : ℕ) → j < i → get_or page j d ≡ types (start + j)) → (j : ℕ) → j < i + 1 → get_or (set page i v) j d ≡ types (start + j)
types_more page types start i v d lt is before j j_lt = elim (cases_lt j i) [
  | inl below ↦ let same : get_or (set page i v) j d ≡ get_or page j d = grind (arith, common_steps) in same ∙ before j below
  | inr from ↦ let here : j ≡ i = omega arith in let same : get_or (set page i v) i d ≡ v = grind (arith, common_steps) in rw here (same ∙ is)
]

-- if the last page equals `page`, `HasTypes` holds with the number of the last page
pub has_last : (entries page : List JoiningType) (end : ℕ) → end ≡ length entries → length entries % 256 ≡ 0
    → 256 ≤ end → drop (end - 256) entries ≡ page → HasTypes entries entries page (end / 256 - 1)
has_last entries page end is whole some same = record {
  whole = whole;
  room = omega arith;
  within = omega arith;
  here = λ k lt. rw (← same) (subst (λ i. get_or entries i NonJoining ≡ get_or (drop (end - 256) entries) k NonJoining) {x = end - 256 + k} (omega arith) (sym (get_or-drop (end - 256) entries k NonJoining)));
  others = λ i lt. refl;
  longer = omega arith;
}

-- appending a page adds it under the next number
pub has_next : (entries page : List JoiningType) (end : ℕ) → end ≡ length entries → length entries % 256 ≡ 0 → length page ≡ 256 → HasTypes entries (entries ++ page) page (end / 256)
has_next entries page end is whole len = record {
  whole = omega (arith, length-append entries page);
  room = omega (arith, length-append entries page);
  within = omega (arith, length-append entries page);
  here = λ k lt. subst (λ i. get_or (entries ++ page) i NonJoining ≡ get_or page k NonJoining) {x = length entries + k} (omega arith) (get_or-append-add entries page k NonJoining);
  others = λ i lt. get_or_append_left entries page NonJoining i lt;
  longer = omega (arith, length-append entries page);
}

-- adding a block extends the table from `place` to `place + 1` blocks
module _ (types : ℕ → JoiningType) (old new page : List JoiningType) (index : List ℕ) (place number : ℕ) (before : HoldsTypes types index old place)
    (has : HasTypes old new page number) (is : (k : ℕ) → k < 256 → get_or page k NonJoining ≡ types (place * 256 + k)) where
  old_number : (p : ℕ) → p < place → get_or (index ++ number ∷ []) p 0 ≡ get_or index p 0
  old_number p lt = get_or_append_left index (number ∷ []) 0 p (omega (arith, before.places))

  new_number : get_or (index ++ number ∷ []) place 0 ≡ number
  new_number = get_or_push index number 0 place before.places

  within_more : (p : ℕ) → p < place + 1 → get_or (index ++ number ∷ []) p 0 * 256 + 256 ≤ length new
  within_more p lt = elim (cases_lt p place) [
    | inl below ↦ rw (old_number p below) (omega (arith, before.within p below, has.longer))
    | inr from ↦ let here : p ≡ place = omega arith in rw (here, new_number) has.within
  ]

  same_more : (c : ℕ) → c < (place + 1) * 256 → type_at (index ++ number ∷ []) new c ≡ types c
  same_more c lt = elim (cases_lt c (place * 256)) [
    | inl below ↦
        let p : c / 256 < place = omega arith in
        rw (old_number (c / 256) p) (has.others (get_or index (c / 256) 0 * 256 + c % 256) (omega (arith, before.within (c / 256) p)) ∙ before.same c below)
    | inr from ↦
        let p : c / 256 ≡ place = omega arith in
        let k : c % 256 < 256 = omega arith in
        let at : place * 256 + c % 256 ≡ c = omega arith in
        rw (p, new_number) (has.here (c % 256) k ∙ is (c % 256) k ∙ ap types at)
  ]

  -- `HoldsTypes` still holds after a block with a given page has been added
  pub pages_more : HoldsTypes types (index ++ number ∷ []) new (place + 1)
  pages_more = record {
    places = simp length-append (omega (arith, before.places));
    whole = has.whole;
    room = omega (arith, before.room, has.room);
    within = within_more;
    same = same_more;
  }
