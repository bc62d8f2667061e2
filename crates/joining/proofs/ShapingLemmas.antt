-- The shown characters of a line, found in one pass.
use Rattle.std.proofs.Common.{◌≡◌, ℕ, ◌<◌, ◌≤◌, Bool, true, false, ◌⊎◌, cond, List, length, map, set, get_or, nat_lt, Option, Some, None, is_some, refl, sym, ap, ◌∙◌, inl, inr, arith}
use Rattle.std.proofs.lemmas.Bool.{both_ways, cases_Bool, cases_lt, cond-false, cond-true, le-ltb, lt-ltb}
use Rattle.std.proofs.lemmas.List.{get_or-set_other, get_or-set_same, length-set}
use Rattle.std.proofs.lemmas.List.FromFn.{fill_by_all}
use Rattle.std.specs.List.{range_with_len}
use Rattle.ucd_bidi.specs.declared.JoiningType.{JoiningType}
use Rattle.ucd_bidi.specs.declared.JoiningType.TheVariants.{DualJoining, JoinCausing, LeftJoining, NonJoining, RightJoining, Transparent}
use Rattle.joining.specs.Joiners.{is_rtl, is_transparent, joiner_at, transparent}
use Rattle.joining.specs.Joins.{joins, next_joined, previous_joined}
use Rattle.joining.specs.Presentation.{is_letter, presentation_form}
use Rattle.joining.specs.Shaping.{form_at, is_hidden, ligature_at, ligature_before, ligature_from, ligature_to, ligature_with, shown, shown_at}
use Rattle.joining.specs.declared.joiner.Agreement.{Agreement}
use Rattle.joining.specs.declared.joiner.Agreement.TheVariants.{All}
use Rattle.joining.specs.declared.joiner.Joiner.{Joiner}
use Rattle.joining.specs.declared.presentation.PresentationForms.{PresentationForms}
use Rattle.joining.proofs.JoinLemmas.{least_none, next_none}
use Rattle.joining.proofs.PairLemmas.{Facts, between, facts, least_found, least_holds, mutual_joins, none_joins, not_after, not_before}

-- ---- the character before another that joins it

pub previous_is : (by : Agreement) (text : List Joiner) (a b : ℕ) → joins by text a b ≡ true → previous_joined by text b ≡ Some a
unfolding previous_joined
previous_is by text a b is =
    let order : a < b = (facts by text a b is).order in
    least_found (λ m. joins by text m b) 0 b a (omega arith) (omega (arith, order)) is
    (λ m from to. elim (cases_Bool (joins by text m b)) [
      | inl other ↦ let same : m ≡ a = mutual_joins.before by text a b m is other in absurd (omega (arith, same, to))
      | inr none ↦ none
    ])

pub previous_joins : (by : Agreement) (text : List Joiner) (a b : ℕ) → previous_joined by text b ≡ Some a → joins by text a b ≡ true
unfolding previous_joined
previous_joins by text a b is = least_holds (λ m. joins by text m b) 0 b a is

pub previous_none : (by : Agreement) (text : List Joiner) (b : ℕ) → ((a : ℕ) → a < b → joins by text a b ≡ true → ⊥) → previous_joined by text b ≡ None
unfolding previous_joined
previous_none by text b none =
    least_none (λ m. joins by text m b) 0 b
    (λ m from to. elim (cases_Bool (joins by text m b)) [ inl joined ↦ absurd (none m (omega (arith, to)) joined) | inr fails ↦ fails ])

-- ---- transparent characters

no_letter : (t : JoiningType) → transparent t ≡ true → is_letter t ≡ false
no_letter Transparent is = refl
no_letter DualJoining is = absurd (cc)
no_letter JoinCausing is = absurd (cc)
no_letter LeftJoining is = absurd (cc)
no_letter RightJoining is = absurd (cc)
no_letter NonJoining is = absurd (cc)

module _ (text : List Joiner) (i : ℕ) (within : i < length text) (clear : is_transparent (joiner_at text i) ≡ true) where
  clear_next : next_joined All text i ≡ None
  clear_next = let c : Joiner = joiner_at text i in next_none All text i within (none_joins (is_rtl c.level) c.joining clear).1

  clear_previous : previous_joined All text i ≡ None
  clear_previous = previous_none All text i (λ a to joined. not_before (joiner_at text i) clear (facts All text a i joined).before)

  pub clear_shown : (forms : ℕ → PresentationForms) (old : List ℕ) → shown_at forms text old i ≡ get_or old i 0
  unfolding shown_at form_at ligature_at ligature_before
  clear_shown forms old =
      ap (λ b. shown (get_or old i 0) (presentation_form (forms (get_or old i 0)) (joiner_at text i) (is_some (previous_joined All text i)) (is_some (next_joined All text i))) b
      (ligature_to forms text old i (next_joined All text i))) (ap (ligature_from forms text old) clear_previous)
      ∙ ap (λ a. shown (get_or old i 0) (presentation_form (forms (get_or old i 0)) (joiner_at text i) (is_some (previous_joined All text i)) (is_some (next_joined All text i))) None a)
      (ap (ligature_to forms text old i) clear_next)
      ∙ ap (λ f. shown (get_or old i 0) f None None) (cond-false (is_letter (joiner_at text i).joining) _ None (no_letter (joiner_at text i).joining clear))

  pub clear_hidden : (forms : ℕ → PresentationForms) (old : List ℕ) → is_hidden forms text old i ≡ false
  unfolding is_hidden ligature_at
  clear_hidden forms old = ap (λ n. is_some (ligature_to forms text old i n)) clear_next

-- ---- one pass

-- what holds when the characters before k are replaced, and the one at k, if any, is the first or not transparent
pub record IsJoined (forms : ℕ → PresentationForms) (text : List Joiner) (old : List ℕ) (k : ℕ) (joined : Bool) (before : Option ℕ) (new : List ℕ) (hidden : List Bool) : Type 0 where
  pub solid : (k ≡ 0) ⊎ (k < length text → is_transparent (joiner_at text k) ≡ false)
  pub bound : k ≤ length old
  pub len : length new ≡ length old
  pub hidden_len : length hidden ≡ length old
  pub joins : is_some (previous_joined All text k) ≡ joined
  pub ligature : ligature_before forms text old k ≡ before
  pub done : (i : ℕ) → i < length old → get_or new i 0 ≡ cond (nat_lt i k) (shown_at forms text old i) (get_or old i 0)
  pub hides : (i : ℕ) → i < length old → get_or hidden i false ≡ cond (nat_lt i k) (is_hidden forms text old i) false

-- what is found about the next character
pub record IsNext (text : List Joiner) (k n : ℕ) (joined : Bool) : Type 0 where
  pub after : k < n
  pub within : n ≤ length text
  pub between : (m : ℕ) → k < m → m < n → is_transparent (joiner_at text m) ≡ true
  pub stops : n < length text → is_transparent (joiner_at text n) ≡ false
  pub found : cond joined (Some n) None ≡ next_joined All text k

module _ (text : List Joiner) (k n : ℕ) (solid : (k ≡ 0) ⊎ (k < length text → is_transparent (joiner_at text k) ≡ false)) (more : k < length text) where
  -- The next character joins the one at k, or none before it.
  next_previous : (joined : Bool) → IsNext text k n joined → previous_joined All text n ≡ cond joined (Some k) None
  next_previous true next = previous_is All text k n (mutual_joins.found All text k n (sym next.found))
  next_previous false next =
      previous_none All text n
      (λ a to joined.
      let f : Facts All text a n = facts All text a n joined in
      elim (cases_lt a k) [
        | inl less ↦
            let clear : is_transparent (joiner_at text k) ≡ true = between All text a n k f less next.after in
            elim solid [
              | inl first ↦ absurd (omega (arith, first, less))
              | inr is ↦ absurd (both_ways (is_transparent (joiner_at text k)) (is more) clear)
            ]
        | inr from ↦ elim (cases_lt k a) [
          | inl past ↦ absurd (not_after (joiner_at text a) (next.between a past to) f.after)
          | inr same ↦
              let at : a ≡ k = omega (arith, from, same) in
              let none : None ≡ Some n = next.found ∙ ap (next_joined All text) (sym at) ∙ mutual_joins.after All text a n joined in
              absurd (cc)
        ]
      ])

some_if : (b : Bool) (n : ℕ) → is_some (cond b (Some n) None) ≡ b
some_if true n = refl
some_if false n = refl

module _ (forms : ℕ → PresentationForms) (text : List Joiner) (old : List ℕ) (even : length text ≡ length old) where
  pub first_joined : (hidden : List Bool) → length hidden ≡ length old → ((i : ℕ) → get_or hidden i false ≡ false) → IsJoined forms text old 0 false None old hidden
  unfolding previous_joined ligature_before
  first_joined hidden len none = record {
    solid = inl refl;
    bound = omega arith;
    len = refl;
    hidden_len = len;
    joins = refl;
    ligature = refl;
    done = λ i within. sym (cond-false (nat_lt i 0) (shown_at forms text old i) (get_or old i 0) (le-ltb i 0 (omega arith)));
    hides = λ i within. none i ∙ sym (cond-false (nat_lt i 0) (is_hidden forms text old i) false (le-ltb i 0 (omega arith)));
  }

  module _ (k n : ℕ) (joined joined_next : Bool) (before after : Option ℕ) (new : List ℕ) (hidden : List Bool) (so : IsJoined forms text old k joined before new hidden)
      (next : IsNext text k n joined_next) (more : k < length old) where
    past : k < n
    past = next.after

    end : n ≤ length text
    end = next.within

    same : (i : ℕ) → k ≤ i → i < length old → get_or new i 0 ≡ get_or old i 0
    same i from within = so.done i within ∙ cond-false (nat_lt i k) (shown_at forms text old i) (get_or old i 0) (le-ltb i k from)

    is_next : is_some (next_joined All text k) ≡ joined_next
    is_next = ap is_some (sym next.found) ∙ some_if joined_next n

    form_is : presentation_form (forms (get_or new k 0)) (joiner_at text k) joined joined_next ≡ form_at forms text old k
    unfolding form_at
    form_is =
        ap (λ c. presentation_form (forms c) (joiner_at text k) joined joined_next) (same k (omega arith) more)
        ∙ ap (λ b. presentation_form (forms (get_or old k 0)) (joiner_at text k) b joined_next) (sym so.joins)
        ∙ ap (λ b. presentation_form (forms (get_or old k 0)) (joiner_at text k) (is_some (previous_joined All text k)) b) (sym is_next)

    with_next : (b : Bool) → IsNext text k n b → (b ≡ true → n < length text)
        → cond b (ligature_with (joiner_at text k) (form_at forms text old k) (joiner_at text n) (forms (get_or new n 0))) None
        ≡ ligature_to forms text old k (cond b (Some n) None)
    with_next false so_next within = refl
    with_next true so_next within =
        ap (λ c. ligature_with (joiner_at text k) (form_at forms text old k) (joiner_at text n) (forms c)) (same n (omega (arith, past)) (omega (arith, within refl, even)))

    -- the ligature of the character at k
    pub ligature_is : (form : Option ℕ) → form ≡ presentation_form (forms (get_or new k 0)) (joiner_at text k) joined joined_next
        → (joined_next ≡ true → n < length text)
        → cond joined_next (ligature_with (joiner_at text k) form (joiner_at text n) (forms (get_or new n 0))) None ≡ ligature_at forms text old k
    unfolding ligature_at
    ligature_is form is within =
        ap (λ f. cond joined_next (ligature_with (joiner_at text k) f (joiner_at text n) (forms (get_or new n 0))) None) (is ∙ form_is)
        ∙ with_next joined_next next within ∙ ap (ligature_to forms text old k) next.found

    pub shown_is : (form : Option ℕ) → form ≡ presentation_form (forms (get_or new k 0)) (joiner_at text k) joined joined_next → after ≡ ligature_at forms text old k
        → shown (get_or new k 0) form before after ≡ shown_at forms text old k
    unfolding shown_at
    shown_is form is made =
        ap (λ c. shown c form before after) (same k (omega arith) more)
        ∙ ap (λ f. shown (get_or old k 0) f before after) (is ∙ form_is)
        ∙ ap (λ b. shown (get_or old k 0) (form_at forms text old k) b after) (sym so.ligature)
        ∙ ap (shown (get_or old k 0) (form_at forms text old k) (ligature_before forms text old k)) made

    -- one step of what is written, by the index
    written : {X : Type 0} (f rest : ℕ → X) (xs : List X) (d x : X) → length xs ≡ length old → ((i : ℕ) → i < length old → get_or xs i d ≡ cond (nat_lt i k) (f i) (rest i))
        → ((i : ℕ) → i < length text → is_transparent (joiner_at text i) ≡ true → f i ≡ rest i) → x ≡ f k
        → (i : ℕ) → i < length old → get_or (set xs k x) i d ≡ cond (nat_lt i n) (f i) (rest i)
    written f rest xs d x size is clear now i within =
        elim (cases_lt i k) [
          | inl less ↦ get_or-set_other xs k i x d (λ at. absurd (omega (arith, at, less))) ∙ is i within ∙ cond-true (nat_lt i k) (f i) (rest i) (lt-ltb i k less)
              ∙ sym (cond-true (nat_lt i n) (f i) (rest i) (lt-ltb i n (omega (arith, less, past))))
          | inr from ↦ elim (cases_lt k i) [
            | inr to ↦
                let at : i ≡ k = omega (arith, from, to) in
                ap (λ j. get_or (set xs k x) j d) at ∙ get_or-set_same xs k x d (omega (arith, size, more)) ∙ now ∙ ap f (sym at)
                ∙ sym (cond-true (nat_lt i n) (f i) (rest i) (lt-ltb i n (omega (arith, at, past))))
            | inl later ↦
                get_or-set_other xs k i x d (λ at. absurd (omega (arith, at, later))) ∙ is i within ∙ cond-false (nat_lt i k) (f i) (rest i) (le-ltb i k from)
                ∙ elim (cases_lt i n) [
                  | inl under ↦ sym (cond-true (nat_lt i n) (f i) (rest i) (lt-ltb i n under) ∙ clear i (omega (arith, even, within)) (next.between i later under))
                  | inr over ↦ sym (cond-false (nat_lt i n) (f i) (rest i) (le-ltb i n over))
                ]
          ]
        ]

    before_next : (b : Bool) → IsNext text k n b → after ≡ ligature_at forms text old k → ligature_at forms text old k ≡ ligature_to forms text old k (cond b (Some n) None)
        → ligature_from forms text old (cond b (Some k) None) ≡ after
    before_next true so_next made is = sym made
    before_next false so_next made is = sym (made ∙ is)

    ligature_found : ligature_at forms text old k ≡ ligature_to forms text old k (cond joined_next (Some n) None)
    unfolding ligature_at
    ligature_found = ap (ligature_to forms text old k) (sym next.found)

    pub next_written : (x : ℕ) (hide : Bool) → x ≡ shown_at forms text old k → after ≡ ligature_at forms text old k → hide ≡ is_some after
        → IsJoined forms text old n joined_next after (set new k x) (set hidden k hide)
    unfolding is_hidden ligature_before
    next_written x hide is made hides =
        let previous : previous_joined All text n ≡ cond joined_next (Some k) None = next_previous text k n so.solid (omega (arith, even, more)) joined_next next in
        record {
          solid = inr next.stops;
          bound = omega (arith, end, even);
          len = length-set new k x ∙ so.len;
          hidden_len = length-set hidden k hide ∙ so.hidden_len;
          joins = ap is_some previous ∙ some_if joined_next k;
          ligature = ap (ligature_from forms text old) previous ∙ before_next joined_next next made ligature_found;
          done = written (shown_at forms text old) (λ i. get_or old i 0) new 0 x so.len so.done (λ i within clear. clear_shown text i within clear forms old) is;
          hides = written (is_hidden forms text old) (λ i. false) hidden false hide so.hidden_len so.hides (λ i within clear. clear_hidden text i within clear forms old)
              (hides ∙ ap is_some made);
        }

  pub all_shown : (k : ℕ) (joined : Bool) (before : Option ℕ) (new : List ℕ) (hidden : List Bool) → IsJoined forms text old k joined before new hidden → length new ≤ k
      → new ≡ map (shown_at forms text old) (range_with_len 0 (length old))
  all_shown k joined before new hidden so end =
      fill_by_all (shown_at forms text old) new (length old) 0 so.len
      (λ i within. so.done i within ∙ cond-true (nat_lt i k) (shown_at forms text old i) (get_or old i 0) (lt-ltb i k (omega (arith, so.len, within, end))))

  pub all_hidden : (k : ℕ) (joined : Bool) (before : Option ℕ) (new : List ℕ) (hidden : List Bool) → IsJoined forms text old k joined before new hidden → length new ≤ k
      → hidden ≡ map (is_hidden forms text old) (range_with_len 0 (length old))
  all_hidden k joined before new hidden so end =
      fill_by_all (is_hidden forms text old) hidden (length old) false so.hidden_len
      (λ i within. so.hides i within ∙ cond-true (nat_lt i k) (is_hidden forms text old i) false (lt-ltb i k (omega (arith, so.len, within, end))))
