-- The entries of the cache of columns.
use Rattle.std.proofs.lemmas.List.Folds.{list_all-append}
use Rattle.std.proofs.Common.{◌≡◌, take, ◌++◌, ◌≤◌, ◌+◌, ◌*◌, ◌/◌, ◌%◌, ◌&&◌, ℕ, zero, suc, true, List, [], ◌∷◌, ◌∙◌, refl, sym, ap, arith}
use Rattle.std.specs.List.{list_all}
use Rattle.std.specs.Prelude.{replicate}
use Rattle.std.proofs.Math.ListN.{set}
use Rattle.std.proofs.lemmas.Bool.{and_parts}
use Rattle.std.proofs.lemmas.Bool.Decides.{nat_tests}
use Rattle.unicode_width.specs.Width.{char_width}
use Rattle.lines.specs.CharInfos.{columns_of}
use Rattle.lines.specs.ColumnCache.{is_right}

-- the entry of a character is correct
pub entry_right : (c columns : ℕ) → columns ≡ columns_of c → columns ≤ 3 → is_right (4 * c + columns) ≡ true
entry_right c columns is few =
    let code : (4 * c + columns) / 4 ≡ c = omega (arith, few) in
    let rest : (4 * c + columns) % 4 ≡ columns = omega (arith, few) in
    grind (arith, nat_tests, ap columns_of code ∙ sym is ∙ sym rest)

zero_right : is_right 0 ≡ true
unfolding char_width
zero_right = refl

new_right : (n : ℕ) → list_all is_right (replicate n 0) ≡ true
new_right zero = refl
new_right (suc n) = ap (λ b. b && list_all is_right (replicate n 0)) zero_right ∙ new_right n

-- if all entries are correct, replacing one of them with a correct entry leaves all entries correct
pub set_right : (entries : List ℕ) (at entry : ℕ) → list_all is_right entries ≡ true → is_right entry ≡ true → list_all is_right (set entries at entry) ≡ true
set_right [] at entry all one = refl
set_right (first ∷ entries) zero entry all one =
    ap (λ b. b && list_all is_right entries) one ∙ (and_parts (is_right first) (list_all is_right entries) all).1
set_right (first ∷ entries) (suc at) entry all one =
    let parts = and_parts (is_right first) (list_all is_right entries) all in
    ap (λ b. b && list_all is_right (set entries at entry)) parts.0 ∙ set_right entries at entry parts.1 one

take_right : (entries : List ℕ) (n : ℕ) → list_all is_right entries ≡ true → list_all is_right (take n entries) ≡ true
take_right entries zero all = refl
take_right [] (suc n) all = refl
take_right (first ∷ entries) (suc n) all =
    let parts = and_parts (is_right first) (list_all is_right entries) all in
    ap (λ b. b && list_all is_right (take n entries)) parts.0 ∙ take_right entries n parts.1

-- the entries of a list that has been lengthened are correct
pub longer_right : (entries : List ℕ) (n more : ℕ) → list_all is_right entries ≡ true → list_all is_right (take n entries ++ replicate more 0) ≡ true
longer_right entries n more all =
    list_all-append is_right (take n entries) (replicate more 0)
    ∙ ap (λ b. b && list_all is_right (replicate more 0)) (take_right entries n all)
    ∙ new_right more
