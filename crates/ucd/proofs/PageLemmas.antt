-- The page table, built page by page.
use Rattle.std.proofs.Common.{if◌then◌else◌, nat_le, nat_lt, ◌&&◌, true, false, ◌≡◌, ℕ, ◌+◌, ◌-◌, ◌*◌, ◌/◌, ◌%◌, ◌<◌, ◌≤◌, List, ◌∷◌, [], ◌++◌, length, take, drop, get_or, refl, sym, ◌∙◌, ap, subst, inl, inr, arith}
use Rattle.std.proofs.lemmas.Bool.{cases_lt, cond-true, cond-false}
use Rattle.std.proofs.lemmas.Bool.Decides.{nat_tests}
use Rattle.std.proofs.lemmas.List.{length-append, length-take, get_or-take, get_or-drop, get_or-append-add, get_or_append_left, get_or-append_right, get_or_past, get_or_push}
use Rattle.ucd.specs.Answers.{PropertyAnswers, unnamed}
use Rattle.ucd.specs.declared.version.Version.{Version}
use Rattle.ucd.specs.declared.version.Version.TheVariants.{V15_0, V17_0}
use Rattle.ucd.specs.DistinctPages.{AreEntriesOf, IsEntryOf, AreDistinct, IsPage, HoldsPages}
use Rattle.ucd.specs.Pages.{answers_at, HasPage}

-- if the last page equals `page`, `HasPage` holds with the number of the last page
pub has_last : (entries page : List PropertyAnswers) (end : ℕ) → end ≡ length entries → length entries % 256 ≡ 0
    → 256 ≤ end → drop (end - 256) entries ≡ page → HasPage entries entries page (end / 256 - 1)
has_last entries page end is whole some same = record {
  whole = whole;
  room = omega arith;
  within = omega arith;
  here = λ k lt. rw (← same) (subst (λ i. get_or entries i unnamed ≡ get_or (drop (end - 256) entries) k unnamed) {x = end - 256 + k} (omega arith) (sym (get_or-drop (end - 256) entries k unnamed)));
  others = λ i lt. refl;
  longer = omega arith;
}

-- appending a page adds it under the next number
pub has_next : (entries page : List PropertyAnswers) (end : ℕ) → end ≡ length entries → length entries % 256 ≡ 0 → length page ≡ 256 → HasPage entries (entries ++ page) page (end / 256)
has_next entries page end is whole len = record {
  whole = omega (arith, length-append entries page);
  room = omega (arith, length-append entries page);
  within = omega (arith, length-append entries page);
  here = λ k lt. subst (λ i. get_or (entries ++ page) i unnamed ≡ get_or page k unnamed) {x = length entries + k} (omega arith) (get_or-append-add entries page k unnamed);
  others = λ i lt. get_or_append_left entries page unnamed i lt;
  longer = omega (arith, length-append entries page);
}

-- adding a block extends the table from `place` to `place + 1` blocks
module _ (answers : ℕ → PropertyAnswers) (old new page : List PropertyAnswers) (index : List ℕ) (place number : ℕ) (before : HoldsPages answers index old place)
    (whole : length new % 256 ≡ 0) (longer : length old ≤ length new) (room : length new ≤ length old + 256) (within : number * 256 + 256 ≤ length new)
    (others : (i : ℕ) → i < length old → get_or new i unnamed ≡ get_or old i unnamed)
    (here : (k : ℕ) → k < 256 → get_or new (number * 256 + k) unnamed ≡ answers (place * 256 + k)) where
  old_number : (p : ℕ) → p < place → get_or (index ++ number ∷ []) p 0 ≡ get_or index p 0
  old_number p lt = get_or_append_left index (number ∷ []) 0 p (omega (arith, before.places))

  new_number : get_or (index ++ number ∷ []) place 0 ≡ number
  new_number = get_or_push index number 0 place before.places

  within_more : (p : ℕ) → p < place + 1 → get_or (index ++ number ∷ []) p 0 * 256 + 256 ≤ length new
  within_more p lt = elim (cases_lt p place) [
    | inl below ↦ rw (old_number p below) (omega (arith, before.within p below, longer))
    | inr from ↦ let here : p ≡ place = omega arith in rw (here, new_number) within
  ]

  same_more : (c : ℕ) → c < (place + 1) * 256 → answers_at (index ++ number ∷ []) new c ≡ answers c
  same_more c lt = elim (cases_lt c (place * 256)) [
    | inl below ↦
        let p : c / 256 < place = omega arith in
        rw (old_number (c / 256) p) (others (get_or index (c / 256) 0 * 256 + c % 256) (omega (arith, before.within (c / 256) p)) ∙ before.same c below)
    | inr from ↦
        let p : c / 256 ≡ place = omega arith in
        let k : c % 256 < 256 = omega arith in
        let at : place * 256 + c % 256 ≡ c = omega arith in
        rw (p, new_number) (here (c % 256) k ∙ ap answers at)
  ]

  block_more : HoldsPages answers (index ++ number ∷ []) new (place + 1)
  block_more = record {
    places = simp length-append (omega (arith, before.places));
    whole = whole;
    room = omega (arith, before.room, room);
    within = within_more;
    same = same_more;
  }

-- `HoldsPages` still holds after a block with a given page has been added
pub pages_more : (answers : ℕ → PropertyAnswers) (old new page : List PropertyAnswers) (index : List ℕ) (place number : ℕ) → HoldsPages answers index old place → HasPage old new page number
    → ((k : ℕ) → k < 256 → get_or page k unnamed ≡ answers (place * 256 + k)) → HoldsPages answers (index ++ number ∷ []) new (place + 1)
pages_more answers old new page index place number before has is =
    block_more answers old new page index place number before has.whole has.longer has.room has.within has.others (λ k lt. has.here k lt ∙ is k lt)

-- `HoldsPages` still holds after a block with the same properties as the previous one has been added
pub pages_again : (answers : ℕ → PropertyAnswers) (entries : List PropertyAnswers) (index : List ℕ) (place number : ℕ) → HoldsPages answers index entries place → 0 < place
    → number ≡ get_or index (place - 1) 0 → ((k : ℕ) → k < 256 → answers (place * 256 - 256 + k) ≡ answers (place * 256 + k)) → HoldsPages answers (index ++ number ∷ []) entries (place + 1)
pages_again answers entries index place number before some is same =
    let here : (k : ℕ) → k < 256 → get_or entries (number * 256 + k) unnamed ≡ answers (place * 256 + k) = λ k lt.
    let c : ℕ = place * 256 - 256 + k in
    let p : c / 256 ≡ place - 1 = omega arith in
    let at : c % 256 ≡ k = omega arith in
    let known : answers_at index entries c ≡ answers c = before.same c (omega arith) in
    rw is ((rw (p, at) at known) ∙ same k lt) in
    block_more answers entries entries [] index place number before before.whole (omega arith) (omega arith) (rw is (before.within (place - 1) (omega arith))) (λ i lt. refl) here

-- ---- filling a page with the properties of runs
pub filled_more : (answers : ℕ → PropertyAnswers) (old new : List PropertyAnswers) (properties : PropertyAnswers) (start point stop : ℕ) → start ≤ point → point ≤ stop
    → ((i : ℕ) → i < point - start → get_or old i unnamed ≡ answers (start + i)) → ((c : ℕ) → point ≤ c → c < stop → answers c ≡ properties)
    → ((i : ℕ) → get_or new i unnamed ≡ (if nat_le (point - start) i && nat_lt i (stop - start) then properties else get_or old i unnamed))
    → (i : ℕ) → i < stop - start → get_or new i unnamed ≡ answers (start + i)
filled_more answers old new properties start point stop from to before run set i lt = elim (cases_lt i (point - start)) [
  | inl below ↦
      let outside : (nat_le (point - start) i && nat_lt i (stop - start)) ≡ false = grind (arith, nat_tests) in
      set i ∙ cond-false (nat_le (point - start) i && nat_lt i (stop - start)) properties (get_or old i unnamed) outside ∙ before i below
  | inr above ↦
      let inside : (nat_le (point - start) i && nat_lt i (stop - start)) ≡ true = grind (arith, nat_tests) in
      set i ∙ cond-true (nat_le (point - start) i && nat_lt i (stop - start)) properties (get_or old i unnamed) inside ∙ sym (run (start + i) (omega arith) (omega arith))
]

-- a block with the same page number as the previous block has the same properties as that block
pub same_block : (index : List ℕ) (entries : List PropertyAnswers) (place c : ℕ) → 0 < place → get_or index place 0 ≡ get_or index (place - 1) 0 → c / 256 ≡ place → answers_at index entries c ≡ answers_at index entries (c - 256)
same_block index entries place c some same block =
    let before : (c - 256) / 256 ≡ place - 1 = omega arith in
    let at : (c - 256) % 256 ≡ c % 256 = omega arith in
    rw (block, same, before, at) refl

-- `HasPage` holds for a page that is among the entries
pub has_among : (entries page : List PropertyAnswers) (number : ℕ) → length entries % 256 ≡ 0 → number * 256 + 256 ≤ length entries
    → IsPage entries number page → HasPage entries entries page number
has_among entries page number whole within is = record {
  whole = whole;
  room = omega arith;
  within = within;
  here = is;
  others = λ i lt. refl;
  longer = omega arith;
}

-- pages stay distinct if a page that equals none of them is appended
pub distinct_next : (entries page : List PropertyAnswers) → length entries % 256 ≡ 0 → length page ≡ 256
    → ((p : ℕ) → p * 256 + 256 ≤ length entries → ¬ (IsPage entries p page)) → AreDistinct entries → AreDistinct (entries ++ page)
distinct_next entries page whole len none distinct p q lt within same =
    let total : length (entries ++ page) ≡ length entries + 256 = omega (arith, length-append entries page) in
    elim (cases_lt (q * 256) (length entries)) [
      | inl below ↦
          let old : q * 256 + 256 ≤ length entries = omega arith in
          distinct p q lt old (λ k k_lt. sym (get_or_append_left entries page unnamed (p * 256 + k) (omega arith)) ∙ same k k_lt
          ∙ get_or_append_left entries page unnamed (q * 256 + k) (omega arith))
      | inr from ↦
          let end : q * 256 ≡ length entries = omega arith in
          none p (omega arith) (λ k k_lt. sym (get_or_append_left entries page unnamed (p * 256 + k) (omega arith)) ∙ same k k_lt
          ∙ ap (λ i. get_or (entries ++ page) (i + k) unnamed) end ∙ get_or-append-add entries page k unnamed)
    ]

-- entries stay valid if valid entries are appended
pub valid_next : (version : Version) (entries page : List PropertyAnswers) → AreEntriesOf version entries → AreEntriesOf version page → AreEntriesOf version (entries ++ page)
valid_next version entries page old new i = elim (cases_lt i (length entries)) [
  | inl below ↦ rw (get_or_append_left entries page unnamed i below) (old i)
  | inr from ↦ rw (get_or-append_right entries page (length entries) i unnamed refl from) (new (i - length entries))
]

-- the default properties, for a character that no line lists, are valid, so reading past the end of a list of
-- valid entries also yields a valid entry
unnamed_valid : (version : Version) → IsEntryOf version unnamed
unnamed_valid V15_0 = record { apart = refl; number = omega arith }
unnamed_valid V17_0 = record { apart = refl; number = omega arith }

pub valid_points : (version : Version) (points : List PropertyAnswers) (answers : ℕ → PropertyAnswers) → length points ≡ 1114112
    → ((c : ℕ) → c < 1114112 → get_or points c unnamed ≡ answers c) → ((c : ℕ) → c < 1114112 → IsEntryOf version (answers c)) → AreEntriesOf version points
valid_points version points answers len same all i = elim (cases_lt i 1114112) [
  | inl below ↦ rw (same i below) (all i below)
  | inr from ↦ rw (get_or_past points i unnamed (omega arith)) (unnamed_valid version)
]

pub valid_part : (version : Version) (entries : List PropertyAnswers) (start len : ℕ) → AreEntriesOf version entries → AreEntriesOf version (take len (drop start entries))
valid_part version entries start len valid i = elim (cases_lt i len) [
  | inl below ↦ rw (get_or-take len (drop start entries) i unnamed below, get_or-drop start entries i unnamed) (valid (start + i))
  | inr from ↦ rw (get_or_past (take len (drop start entries)) i unnamed (omega (arith, length-take len (drop start entries)))) (unnamed_valid version)
]
