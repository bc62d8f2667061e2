-- Boolean tests that can be computed, and the statements that they decide.
use Rattle.std.proofs.Common.{◌≡◌, ◌∙◌, ℕ, zero, suc, ◌+◌, ◌*◌, ◌<◌, ◌≤◌, ◌==◌, nat_lt, nat_le, Bool, true, false, not, ◌&&◌, List, [], ◌∷◌, get_or, drop, refl, sym, ap, arith}
use Rattle.std.specs.List.{list_all}
use Rattle.std.proofs.lemmas.List.{get_or-drop}
use Rattle.std.proofs.lemmas.Bool.Decides.{nat_tests}
use borrow.Author.Count.{below_more}

pub both : (a b : Bool) → (a && b) ≡ true → (a ≡ true) × (b ≡ true)
both true b h = (refl, h)
both false b h = cc

-- whether two Booleans, or two lists of Booleans, are equal
abbrev pub same : Bool → Bool → Bool
same true b = b
same false b = not b

pub same_is : (a b : Bool) → same a b ≡ true → a ≡ b
same_is true true h = refl
same_is true false h = cc
same_is false true h = cc
same_is false false h = refl

abbrev pub all_same : List Bool → List Bool → Bool
all_same [] [] = true
all_same (a ∷ xs) (b ∷ bs) = same a b && all_same xs bs
all_same _ _ = false

pub cons : {A : Type 0} (a b : A) (x y : List A) → a ≡ b → x ≡ y → a ∷ x ≡ b ∷ y
cons a b x y first rest = rw (first, rest) refl

pub all_same_is : (x y : List Bool) → all_same x y ≡ true → x ≡ y
all_same_is [] [] h = refl
all_same_is [] (b ∷ y) h = cc
all_same_is (a ∷ x) [] h = cc
all_same_is (a ∷ x) (b ∷ y) h = let parts = both _ _ h in cons a b x y (same_is a b parts.0) (all_same_is x y parts.1)

-- whether all numbers below n pass a test
abbrev pub all_below : ℕ → (ℕ → Bool) → Bool
all_below zero test = true
all_below (suc n) test = test n && all_below n test

pub below : (n : ℕ) (test : ℕ → Bool) → all_below n test ≡ true → (k : ℕ) → k < n → test k ≡ true
below zero test all k lt = absurd (omega arith)
below (suc n) test all k lt =
    let parts = both (test n) (all_below n test) all in
    below_more (λ k. test k ≡ true) n (below n test parts.1) parts.0 k (omega arith)

-- if the Boolean comparison of two numbers is true, the corresponding relation holds
pub is_below : (a b : ℕ) → nat_lt a b ≡ true → a < b
is_below a b h = grind (arith, nat_tests)

pub is_less : (a b : ℕ) → a < b → nat_lt a b ≡ true
is_less a b h = grind (arith, nat_tests)

pub is_no_less : (a b : ℕ) → b ≤ a → nat_lt a b ≡ false
is_no_less a b h = grind (arith, nat_tests)

pub is_within : (a b : ℕ) → nat_le a b ≡ true → a ≤ b
is_within a b h = grind (arith, nat_tests)

-- if 0 and all items of a list pass a test, so does the item at any index, where the item past the end is 0
pub passes_at : (test : ℕ → Bool) (xs : List ℕ) (k : ℕ) → test 0 ≡ true → list_all test xs ≡ true → test (get_or xs k 0) ≡ true
passes_at test [] k default all = default
passes_at test (x ∷ xs) zero default all = (both _ _ all).0
passes_at test (x ∷ xs) (suc k) default all = passes_at test xs k default (both _ _ all).1

-- if a test of all entries is computed to be true, each entry of a table is below a limit, or at most the
-- limit
pub entries_below : (table : List ℕ) (limit : ℕ) → nat_lt 0 limit ≡ true → list_all (λ entry. nat_lt entry limit) table ≡ true
    → (place entry : ℕ) → entry ≡ get_or table place 0 → entry < limit
entries_below table limit default tested place entry reads =
    is_below entry limit (ap (λ e. nat_lt e limit) reads ∙ passes_at (λ e. nat_lt e limit) table place default tested)

pub entries_within : (table : List ℕ) (limit : ℕ) → nat_le 0 limit ≡ true → list_all (λ entry. nat_le entry limit) table ≡ true
    → (place entry : ℕ) → entry ≡ get_or table place 0 → entry ≤ limit
entries_within table limit default tested place entry reads =
    is_within entry limit (ap (λ e. nat_le e limit) reads ∙ passes_at (λ e. nat_le e limit) table place default tested)

-- an entry of a row is the entry at the same column of the table without the rows before that row
pub entry_at : (table : List ℕ) (start row symbol entry : ℕ) → row ≡ start → entry ≡ get_or table (row + symbol) 0 → get_or (drop start table) symbol 0 ≡ entry
entry_at table start row symbol entry begins reads =
    get_or-drop start table symbol 0 ∙ sym (reads ∙ ap (λ r. get_or table (r + symbol) 0) begins)

pub is_equal : (a b : ℕ) → (a == b) ≡ true → a ≡ b
is_equal a b h = grind (arith, nat_tests)

-- `next_row` is the start of the row of a state that passes the test; `next_of` finds this state by a computed test
pub record Next (symbols states next_row : ℕ) (test : ℕ → Bool) : Type 0 where
  pub next : ℕ
  pub below : next < states
  pub row : next_row ≡ next * symbols
  pub leads : test next ≡ true

pub next_of : (symbols states row next : ℕ) (test : ℕ → Bool) → ((row == next * symbols) && (nat_lt next states && test next)) ≡ true → Next symbols states row test
next_of symbols states row next test tested =
    let row_and : ((row == next * symbols) ≡ true) × ((nat_lt next states && test next) ≡ true) = both _ _ tested in
    let next_and : (nat_lt next states ≡ true) × (test next ≡ true) = both _ _ row_and.1 in
    record { next = next; below = is_below _ _ next_and.0; row = is_equal _ _ row_and.0; leads = next_and.1 }

-- the same holds for another test with the same results
pub next_as : (symbols states row : ℕ) (test other : ℕ → Bool) → ((next : ℕ) → test next ≡ other next) → Next symbols states row test → Next symbols states row other
next_as symbols states row test other same entry_next =
    record { next = entry_next.next; below = entry_next.below; row = entry_next.row; leads = sym (same entry_next.next) ∙ entry_next.leads }

pub same_four : {A B : Type 0} (f : A → A → A → A → B) (a a′ b b′ c c′ d d′ : A) → a ≡ a′ → b ≡ b′ → c ≡ c′ → d ≡ d′ → f a b c d ≡ f a′ b′ c′ d′
same_four f a a′ b b′ c c′ d d′ p q r s = rw (p, q, r, s) refl

pub same_two : {A B C : Type 0} (f : A → B → C) (a a′ : A) (b b′ : B) → a ≡ a′ → b ≡ b′ → f a b ≡ f a′ b′
same_two f a a′ b b′ p q = rw (p, q) refl

-- the Boolean comparison of two numbers is true if they are equal, and false if they are not
pub equal_is : (a b : ℕ) → a ≡ b → (a == b) ≡ true
equal_is a b h = grind (arith, nat_tests)

pub different_is : (a b : ℕ) → (a ≡ b → ⊥) → (a == b) ≡ false
different_is a b h = grind (arith, nat_tests)
