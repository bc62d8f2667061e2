-- A transparent character that is inserted into a text.
use Rattle.std.proofs.Common.{◌≡◌, ℕ, suc, ◌+◌, ◌-◌, ◌<◌, ◌≤◌, Bool, true, false, cond, ◌⊎◌, List, [], ◌∷◌, ◌++◌, length, drop, nat_lt, option_map, Option, Some, None, refl, sym, ap, subst, ◌∙◌, inl, inr, arith, add-one, length-drop, length-append}
use Rattle.std.proofs.lemmas.Bool.{cases_Bool, cases_lt, cond-false, cond-true, le-ltb, lt-ltb}
use Rattle.std.proofs.lemmas.List.{drop-append-le, get_or-append-add, get_or-drop, get_or_append_left}
use Rattle.std.proofs.Math.Seq.{drop-append-add, drop-cons}
use Rattle.ucd_bidi.specs.declared.JoiningType.TheVariants.{NonJoining}
use Rattle.joining.specs.Joiners.{is_transparent, joiner_at, joins_after, joins_before}
use Rattle.joining.specs.Joins.{agrees, level_after, next_joined}
use Rattle.joining.specs.Pairs.{TransparentCharactersChangeNothing, moved}
use Rattle.joining.specs.declared.joiner.Agreement.{Agreement}
use Rattle.joining.specs.declared.joiner.Agreement.TheVariants.{All, WithFirst}
use Rattle.joining.specs.declared.joiner.Joiner.{Joiner}
use Rattle.joining.proofs.JoinLemmas.{agrees_none, agrees_self, joined_in, next_is, next_none}

moved_low : (i k : ℕ) → k < i → moved i k ≡ k
moved_low i k low = cond-true (nat_lt k i) k (k + 1) (lt-ltb k i low)

moved_high : (i k : ℕ) → i ≤ k → moved i k ≡ k + 1
moved_high i k high = cond-false (nat_lt k i) k (k + 1) (le-ltb k i high)

-- one step of `joined_in`, before and after the insertion
step : (agreed clear before : Bool) (rest rest_after : Option ℕ) (i k k_after : ℕ) → (agreed ≡ true → rest_after ≡ option_map (moved i) rest) → k_after ≡ moved i k
    → cond agreed (cond clear rest_after (cond before (Some k_after) None)) None ≡ option_map (moved i) (cond agreed (cond clear rest (cond before (Some k) None)) None)
step false clear before rest rest_after i k k_after later now = refl
step true true before rest rest_after i k k_after later now = later refl
step true false true rest rest_after i k k_after later now = ap Some now
step true false false rest rest_after i k k_after later now = refl

-- what is past the inserted character
past : (by : Agreement) (level : Option ℕ) (i k : ℕ) (rest : List Joiner) → i ≤ k → joined_in by level (k + 1) rest ≡ option_map (moved i) (joined_in by level k rest)
past by level i k [] high = refl
past by level i k (x ∷ rest) high =
    step (agrees level x.level) (is_transparent x) (joins_before x) (joined_in by (level_after by level x.level) (k + 1) rest)
    (joined_in by (level_after by level x.level) (k + 1 + 1) rest) i k (k + 1) (λ _. past by (level_after by level x.level) i (k + 1) rest (omega arith)) (sym (moved_high i k high))

-- a level that changes nothing if it follows
record Fits (by : Agreement) (level next : Option ℕ) : Type 0 where
  agreed : agrees level next ≡ true
  same : level_after by level next ≡ level

fits_none : (by : Agreement) (level : Option ℕ) → Fits by level None
fits_none WithFirst level = record { agreed = agrees_none level; same = refl }
fits_none All None = record { agreed = refl; same = refl }
fits_none All (Some level) = record { agreed = refl; same = refl }

fits_self : (by : Agreement) (level : Option ℕ) → Fits by level level
fits_self WithFirst level = record { agreed = agrees_self level; same = refl }
fits_self All None = record { agreed = refl; same = refl }
fits_self All (Some level) = record { agreed = agrees_self (Some level); same = refl }

-- a level fits after one that agrees and equals it
fits_again : (by : Agreement) (level next : Option ℕ) → agrees level next ≡ true → Fits by (level_after by level next) next
fits_again WithFirst level next agreed = record { agreed = agreed; same = refl }
fits_again All None next agreed = fits_self All next
fits_again All (Some level) next agreed = record { agreed = agreed; same = refl }

abbrev last_level : Option ℕ → List Joiner → Option ℕ
last_level level [] = level
last_level level (x ∷ rest) = last_level x.level rest

-- The character is inserted after `front`, which follows a character of level `prior`.
inserted : (by : Agreement) (level prior : Option ℕ) (i k : ℕ) (front back : List Joiner) (c : Joiner) → Fits by level prior → is_transparent c ≡ true
    → (c.level ≡ None) ⊎ (c.level ≡ last_level prior front) → k + length front ≡ i
    → joined_in by level k (front ++ c ∷ back) ≡ option_map (moved i) (joined_in by level k (front ++ back))
inserted by level prior i k [] back c fit clear like at =
    cond-true (agrees level c.level) _ None here.agreed
    ∙ cond-true (is_transparent c) (joined_in by (level_after by level c.level) (k + 1) back) (cond (joins_before c) (Some k) None) clear
    ∙ ap (λ l. joined_in by l (k + 1) back) here.same ∙ past by level i k back (omega arith)
  where
    here : Fits by level c.level
    here = elim like [
      | inl none ↦ subst (λ (l : Option ℕ). Fits by level l) (sym none) (fits_none by level)
      | inr same ↦ subst (λ (l : Option ℕ). Fits by level l) (sym same) fit
    ]
inserted by level prior i k (x ∷ front) back c fit clear like at =
    step (agrees level x.level) (is_transparent x) (joins_before x) (joined_in by (level_after by level x.level) (k + 1) (front ++ back))
    (joined_in by (level_after by level x.level) (k + 1) (front ++ c ∷ back)) i k k
    (λ agreed. inserted by (level_after by level x.level) x.level i (k + 1) front back c (fits_again by level x.level agreed) clear like (omega arith))
    (sym (moved_low i k (omega arith)))

-- the same for the first of the characters
follow : (by : Agreement) (text text_after : List Joiner) (i a a_after : ℕ) → a < length text → a_after < length text_after → joiner_at text_after a_after ≡ joiner_at text a
    → joined_in by (joiner_at text a).level (a_after + 1) (drop (a_after + 1) text_after)
    ≡ option_map (moved i) (joined_in by (joiner_at text a).level (a + 1) (drop (a + 1) text))
    → next_joined by text_after a_after ≡ option_map (moved i) (next_joined by text a)
follow by text text_after i a a_after within within_after same found =
    elim (cases_Bool (joins_after (joiner_at text a))) [
      | inl joins ↦ sym (next_is by text_after a_after within_after (ap joins_after same ∙ joins))
          ∙ ap (λ (c : Joiner). joined_in by c.level (a_after + 1) (drop (a_after + 1) text_after)) same ∙ found ∙ ap (option_map (moved i)) (next_is by text a within joins)
      | inr none ↦ next_none by text_after a_after within_after (ap joins_after same ∙ none) ∙ ap (option_map (moved i)) (sym (next_none by text a within none))
    ]

last_of : (x : Joiner) (xs : List Joiner) → last_level x.level xs ≡ (joiner_at (x ∷ xs) (length xs)).level
last_of x [] = refl
last_of x (y ∷ ys) = last_of y ys

last_is : (front : List Joiner) (a : ℕ) → a < length front → last_level (joiner_at front a).level (drop (a + 1) front) ≡ (joiner_at front (length front - 1)).level
last_is front a within =
    let d : Joiner = record { joining = NonJoining; level = None } in
    let past : a + length (drop (a + 1) front) ≡ length front - 1 = omega (arith, length-drop (a + 1) front) in
    last_of (joiner_at front a) (drop (a + 1) front)
    ∙ ap (λ (xs : List Joiner). (joiner_at xs (length (drop (a + 1) front))).level)
    (ap (λ n. joiner_at front a ∷ drop n front) (add-one a) ∙ sym (drop-cons front a d within))
    ∙ ap (λ (c : Joiner). c.level) (get_or-drop a front (length (drop (a + 1) front)) d ∙ ap (joiner_at front) past)

pub nothing_changes : TransparentCharactersChangeNothing
nothing_changes by front back c a within clear like =
    elim (cases_lt a i) [
      | inl low ↦
          let level : Option ℕ = (joiner_at text a).level in
          let first : joiner_at text a ≡ joiner_at front a = get_or_append_left front back d a low in
          let last : last_level level (drop (a + 1) front) ≡ (joiner_at front (i - 1)).level =
          ap (λ (x : Joiner). last_level x.level (drop (a + 1) front)) first ∙ last_is front a low in
          let after : (c.level ≡ None) ⊎ (c.level ≡ last_level level (drop (a + 1) front)) = elim like [ inl none ↦ inl none | inr same ↦ inr (same ∙ sym last) ] in
          ap (next_joined by longer) (moved_low i a low)
          ∙ follow by text longer i a a within (omega (arith, sizes, low)) (get_or_append_left front (c ∷ back) d a low ∙ sym first)
          (ap (joined_in by level (a + 1)) (drop-append-le (a + 1) front (c ∷ back) (omega arith))
          ∙ inserted by level level i (a + 1) (drop (a + 1) front) back c (fits_self by level) clear after (omega (arith, length-drop (a + 1) front))
          ∙ ap (λ xs. option_map (moved i) (joined_in by level (a + 1) xs)) (sym (drop-append-le (a + 1) front back (omega arith))))
      | inr high ↦
          let m : ℕ = a - i in
          let level : Option ℕ = (joiner_at text a).level in
          let at : a ≡ i + m = omega arith in
          let at_one : a + 1 ≡ i + suc m = omega arith in
          let at_two : a + 1 + 1 ≡ i + suc (suc m) = omega arith in
          ap (next_joined by longer) (moved_high i a high)
          ∙ follow by text longer i a (a + 1) within (omega (arith, sizes, within, shorter))
          (ap (joiner_at longer) at_one ∙ get_or-append-add front (c ∷ back) (suc m) d ∙ sym (get_or-append-add front back m d) ∙ ap (joiner_at text) (sym at))
          (ap (λ n. joined_in by level (a + 1 + 1) (drop n longer)) at_two ∙ ap (joined_in by level (a + 1 + 1)) (drop-append-add front (c ∷ back) (suc (suc m)))
          ∙ past by level i (a + 1) (drop (suc m) back) (omega arith)
          ∙ ap (λ xs. option_map (moved i) (joined_in by level (a + 1) xs)) (sym (drop-append-add front back (suc m)) ∙ ap (λ n. drop n text) (sym at_one)))
    ]
  where
    i : ℕ
    i = length front

    d : Joiner
    d = record { joining = NonJoining; level = None }

    text : List Joiner
    text = front ++ back

    longer : List Joiner
    longer = front ++ c ∷ back

    sizes : length longer ≡ length front + suc (length back)
    sizes = length-append front (c ∷ back)

    shorter : length text ≡ length front + length back
    shorter = length-append front back
