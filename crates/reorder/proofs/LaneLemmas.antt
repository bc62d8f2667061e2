-- What the mask from comparing several levels at once implies for these levels.
use Rattle.std.proofs.Common.{◌≡◌, ℕ, zero, suc, ◌+◌, ◌-◌, ◌*◌, ◌/◌, ◌^◌, ◌<◌, ◌≤◌, ◌==◌, Bool, true, false, not, cond, List, [], ◌∷◌, map, length, get_or, drop, sym, ap, ap₂, ◌∙◌, arith}
use Rattle.std.proofs.lemmas.Bool.{both_ways, eqb-true, eq-eqb, not-true, not-false}
use Rattle.std.proofs.lemmas.List.{drop-map, drop-drop, take_all, length-drop}
use Rattle.std.proofs.lemmas.Simd.{first_set_mask_l, run_in_chunk_le, run_in_chunk_fails, run_in_chunk_stops, length-chunk}
use Rattle.std.specs.List.{prefix_len}
use native.Mathlib.Nat.{zero-div, div-one, mul_comm, pow-suc, div-div-eq-div-mul}
use lib.Lanes.{chunk, mask_l}
use Rattle.reorder.specs.Lanes.{AreAll, first_set, others}
use Rattle.reorder.specs.LevelRuns.{level_run_len}
use Rattle.reorder.proofs.RunLemmas.{AlongRun, AlongRun-end, AlongRun-group}

abbrev differs : ℕ → ℕ → Bool
differs level x = not (x == level)

is_level : (level x : ℕ) → differs level x ≡ false → x ≡ level
is_level level x same = eqb-true x level (not-false _ same)

is_other : (level x : ℕ) → differs level x ≡ true → ¬ (x ≡ level)
is_other level x other = λ same. both_ways (x == level) (not-true _ other) (eq-eqb x level same)

-- `r` is the number of levels, among the n levels from i on, before the first one that differs from `level`
abbrev pub IsSameLen : List ℕ → ℕ → ℕ → ℕ → ℕ → Type 0
IsSameLen levels level i n r = (r ≤ n) × AreAll levels i (i + r) level × (r < n → ¬ (get_or levels (i + r) 0 ≡ level))

same_len_from : (levels : List ℕ) (level i n r : ℕ) → i + n ≤ length levels → r ≡ prefix_len (λ x. not (differs level x)) (chunk i n levels) → IsSameLen levels level i n r
same_len_from levels level i n r room counted = (
  run_in_chunk_le (differs level) levels i n r 0 room counted,
  λ k from to. is_level level _ (run_in_chunk_fails (differs level) levels i n r 0 room counted k from to),
  λ short. is_other level _ (run_in_chunk_stops (differs level) levels i n r 0 room counted short),
)

pub same_len_is : (levels : List ℕ) (level i r : ℕ) → i + 16 ≤ length levels → r ≡ first_set (others levels i level) 16 → IsSameLen levels level i 16 r
same_len_is levels level i r room found =
    same_len_from levels level i 16 r room
    (found ∙ first_set_mask_l (differs level) (chunk i 16 levels) 16 (length-chunk i 16 levels room) (omega arith))

half : (b : Bool) (n : ℕ) → (cond b 1 0 + 2 * n) / 2 ≡ n
half true n = omega arith
half false n = omega arith

-- shifting a mask right by k bits removes its first k lanes
mask-drop : (k : ℕ) (ms : List Bool) → mask_l ms / 2 ^ k ≡ mask_l (drop k ms)
mask-drop zero ms = div-one (mask_l ms)
mask-drop (suc k) [] = zero-div (2 ^ suc k)
mask-drop (suc k) (m ∷ ms) =
    ap (λ n. mask_l (m ∷ ms) / n) (pow-suc 2 k ∙ mul_comm (2 ^ k) 2) ∙ sym (div-div-eq-div-mul (mask_l (m ∷ ms)) 2 (2 ^ k))
    ∙ ap (λ n. n / 2 ^ k) (half m (mask_l ms)) ∙ mask-drop k ms

-- dropping the first k of the last 16 levels leaves the other 16 - k levels
last_chunk : (levels : List ℕ) (first k : ℕ) → first + 16 ≡ length levels → k ≤ 16 → drop k (chunk first 16 levels) ≡ chunk (first + k) (16 - k) levels
last_chunk levels first k last few =
    ap (drop k) (take_all 16 (drop first levels) (omega (arith, length-drop first levels))) ∙ drop-drop k first levels
    ∙ sym (take_all (16 - k) (drop (first + k) levels) (omega (arith, length-drop (first + k) levels)))

pub last_len_is : (levels : List ℕ) (level first start n r : ℕ) → first + 16 ≡ length levels → first ≤ start → start + n ≡ length levels
    → r ≡ first_set (others levels first level / 2 ^ (start - first)) n → IsSameLen levels level start n r
last_len_is levels level first start n r last from rest found =
    let k = start - first in
    let p = differs level in
    let at : first + k ≡ start = omega arith in
    let left : 16 - k ≡ n = omega arith in
    let lanes = last_chunk levels first k last (omega arith) ∙ ap₂ (λ i m. chunk i m levels) at left in
    let bits = mask-drop k (map p (chunk first 16 levels)) ∙ ap mask_l (drop-map p k (chunk first 16 levels) ∙ ap (map p) lanes) in
    same_len_from levels level start n r (omega arith)
    (found ∙ ap (λ m. first_set m n) bits ∙ first_set_mask_l p (chunk start n levels) n (length-chunk start n levels (omega arith)) (omega arith))

-- the run continues over the next `len` levels if all of them equal the run's level
pub AlongRun-all : (levels : List ℕ) (start level «end» len : ℕ) → AlongRun levels start level «end» → «end» + len ≤ length levels
    → AreAll levels «end» («end» + len) level → AlongRun levels start level («end» + len)
AlongRun-all levels start level «end» len w within same = AlongRun-group levels start level «end» len w within (λ j below. sym (same («end» + j) (omega arith) (omega (arith, below))))

pub run_len_is : (levels : List ℕ) (start level «end» len : ℕ) → AlongRun levels start level «end» → «end» + len ≤ length levels
    → AreAll levels «end» («end» + len) level → («end» + len < length levels → ¬ (get_or levels («end» + len) 0 ≡ level))
    → «end» + len - start ≡ level_run_len levels start
run_len_is levels start level «end» len w within same stops =
    AlongRun-end levels start level («end» + len) (AlongRun-all levels start level «end» len w within same) (λ inside again. stops inside (sym again))
