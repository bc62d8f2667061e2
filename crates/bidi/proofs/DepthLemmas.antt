-- The number of open openers that do not overflow, and the indices of these openers.
use Rattle.std.proofs.Common.{◌≡◌, ℕ, zero, suc, ◌+◌, ◌-◌, ◌<◌, ◌≤◌, ◌==◌, nat_lt, Bool, true, false, cond, not, List, [], ◌∷◌, ◌++◌, length, get_or, take, drop, Some, None, if◌then◌else◌, refl, sym, ap, ◌∙◌, inl, inr, arith, length-append, add-one}
use Rattle.std.specs.List.{list_any, prefix_len}
use Rattle.std.proofs.lemmas.Bool.{cond-true, cond-false, cases_Bool, cases_lt, lt-ltb, le-ltb, eq-eqb, ne_eqb}
use Rattle.std.proofs.lemmas.List.{get_or_append_left, get_or-take, length-take-le}
use Rattle.std.proofs.lemmas.List.Sums.{fold_more}
use Rattle.std.proofs.Math.Seq.{get_or-append_seam, take-length}
use Rattle.ucd.specs.declared.bidi_class.BidiClass.{BidiClass}
use Rattle.ucd.specs.declared.bidi_class.BidiClass.TheVariants.{ON, RLE, LRE, RLO, LRO, RLI, LRI, PDF, PDI}
use Rattle.ucd.specs.Classes.{class_at, is_initiator}
use Rattle.bidi.specs.Brackets.{greatest}
use Rattle.bidi.specs.Explicit.{close_embedding, close_isolate, depth, inside, open_after, open_chain, opener_before}
use Rattle.bidi.specs.Openers.{innermost, statuses, updated}
use Rattle.bidi.proofs.OpenersLemmas.{adds}

-- `greatest` finds no number if the test fails for all numbers
pub greatest-none : (test : ℕ → ℕ → Bool) (k : ℕ) → ((i : ℕ) → test i 0 ≡ false) → greatest (λ i. test i 0) k ≡ None
greatest-none test zero fails = refl
greatest-none test (suc k) fails = cond-false (test k 0) (Some k) (greatest (λ i. test i 0) k) (fails k) ∙ greatest-none test k fails

module _ (base : ℕ) where
  -- one more opener increases the depth by at most 1
  depth-cases : (opener : BidiClass) (outer : List BidiClass) → (depth base outer ≤ depth base (opener ∷ outer)) × (depth base (opener ∷ outer) ≤ depth base outer + 1)
  depth-cases opener outer =
      elim (cases_Bool ((inside base (opener ∷ outer)).is_void)) [
        | inl void ↦ rw (cond-true ((inside base (opener ∷ outer)).is_void) (depth base outer) (depth base outer + 1) void) (omega arith, omega arith)
        | inr live ↦ rw (cond-false ((inside base (opener ∷ outer)).is_void) (depth base outer) (depth base outer + 1) live) (omega arith, omega arith)
      ]

  -- the stack has an entry for each opener that does not overflow, and one for the paragraph
  pub statuses-depth : (chain : List BidiClass) → length (statuses base chain) ≡ depth base chain + 1
  statuses-depth [] = refl
  statuses-depth (opener ∷ outer) =
      elim (cases_Bool ((inside base (opener ∷ outer)).is_void)) [
        | inl void ↦ ap length (adds base true (is_initiator opener) opener outer void refl).statuses_are ∙ statuses-depth outer
            ∙ ap (λ n. n + 1) (sym (cond-true ((inside base (opener ∷ outer)).is_void) (depth base outer) (depth base outer + 1) void))
        | inr live ↦ ap length (adds base false (is_initiator opener) opener outer live refl).statuses_are
            ∙ length-append (statuses base outer) (innermost base (opener ∷ outer) ∷ [])
            ∙ ap (λ n. n + 1) (statuses-depth outer ∙ sym (cond-false ((inside base (opener ∷ outer)).is_void) (depth base outer) (depth base outer + 1) live))
      ]

  -- closing openers does not increase the depth
  pub depth-drop : (n : ℕ) (chain : List BidiClass) → depth base (drop n chain) ≤ depth base chain
  depth-drop zero chain = omega arith
  depth-drop (suc n) [] = omega arith
  depth-drop (suc n) (opener ∷ outer) = omega (arith, depth-drop n outer, (depth-cases opener outer).0)

  depth-close_embedding : (chain : List BidiClass) → depth base (close_embedding chain) ≤ depth base chain
  depth-close_embedding [] = omega arith
  depth-close_embedding (opener ∷ outer) =
      elim (cases_Bool (is_initiator opener)) [
        | inl isolate ↦ rw (cond-true (is_initiator opener) (opener ∷ outer) outer isolate) (omega arith)
        | inr embedding ↦ rw (cond-false (is_initiator opener) (opener ∷ outer) outer embedding) (depth-cases opener outer).0
      ]

  depth-close_isolate : (chain : List BidiClass) → depth base (close_isolate chain) ≤ depth base chain
  depth-close_isolate chain =
      elim (cases_Bool (list_any is_initiator chain)) [
        | inl some ↦ rw (cond-true (list_any is_initiator chain) (drop (prefix_len (λ o. not (is_initiator o)) chain + 1) chain) chain some)
            (depth-drop (prefix_len (λ o. not (is_initiator o)) chain + 1) chain)
        | inr none ↦ rw (cond-false (list_any is_initiator chain) (drop (prefix_len (λ o. not (is_initiator o)) chain + 1) chain) chain none) (omega arith)
      ]

  -- a character increases the depth by at most 1
  depth-after : (chain : List BidiClass) (class : BidiClass) → depth base (open_after chain class) ≤ depth base chain + 1
  depth-after chain RLE = (depth-cases RLE chain).1
  depth-after chain LRE = (depth-cases LRE chain).1
  depth-after chain RLO = (depth-cases RLO chain).1
  depth-after chain LRO = (depth-cases LRO chain).1
  depth-after chain RLI = (depth-cases RLI chain).1
  depth-after chain LRI = (depth-cases LRI chain).1
  depth-after chain PDF = omega (arith, depth-close_embedding chain)
  depth-after chain PDI = omega (arith, depth-close_isolate chain)
  depth-after chain _ = omega arith

  pub depth-next : (classes : List BidiClass) (k : ℕ) → k < length classes → depth base (open_chain classes (k + 1)) ≤ depth base (open_chain classes k) + 1
  depth-next classes k within = rw (fold_more open_after [] classes k ON within) (depth-after (open_chain classes k) (class_at classes k))

  -- The indices of the openers that are open before index k and do not overflow, the outermost first. The n-th of these
  -- indices is the last index below k before which fewer than n openers are open.
  pub record AreIndices (classes : List BidiClass) (k : ℕ) (indices : List ℕ) : Type 0 where
    pub size : length indices ≡ depth base (open_chain classes k)
    pub each : (n : ℕ) → 0 < n → n ≤ length indices → greatest (λ i. nat_lt (depth base (open_chain classes i)) n) k ≡ Some (get_or indices (n - 1) 0)

  pub no_indices : (classes : List BidiClass) → AreIndices classes 0 []
  no_indices classes = record { size = refl; each = λ n some few. absurd (omega arith) }

  -- the last of the indices is the innermost opener
  pub last_is : (classes : List BidiClass) (k : ℕ) (indices : List ℕ) → AreIndices classes k indices
      → (if length indices == 0 then None else Some (get_or indices (length indices - 1) 0)) ≡ opener_before base classes k
  last_is classes k indices are =
      let test : ℕ → ℕ → Bool = λ i n. nat_lt (depth base (open_chain classes i)) n in
      elim (cases_lt 0 (length indices)) [
        | inl some ↦ cond-false (length indices == 0) None (Some (get_or indices (length indices - 1) 0)) (ne_eqb (length indices) 0 (omega arith))
            ∙ sym (are.each (length indices) some (omega arith))
            ∙ ap (λ n. greatest (λ i. test i n) k) are.size
        | inr none ↦ let empty : length indices ≡ 0 = omega arith in
            cond-true (length indices == 0) None (Some (get_or indices (length indices - 1) 0)) (eq-eqb (length indices) 0 empty)
            ∙ sym (greatest-none test k (λ i. le-ltb (depth base (open_chain classes i)) 0 (omega arith)))
            ∙ ap (λ n. greatest (λ i. test i n) k) (sym empty ∙ are.size)
      ]

  -- updating the indices for the character at k yields the indices for k + 1
  pub next_indices : (classes : List BidiClass) (k : ℕ) (indices : List ℕ) → k < length classes → AreIndices classes k indices
      → AreIndices classes (k + 1) (updated indices (depth base (open_chain classes (k + 1))) k)
  next_indices classes k indices within are =
      let after : ℕ = depth base (open_chain classes (k + 1)) in
      let before : ℕ = depth base (open_chain classes k) in
      let rise : after ≤ before + 1 = depth-next classes k within in
      let size : length indices ≡ before = are.size in
      let step : (n : ℕ) → greatest (λ i. nat_lt (depth base (open_chain classes i)) n) (k + 1) ≡ cond (nat_lt before n) (Some k) (greatest (λ i. nat_lt (depth base (open_chain classes i)) n) k)
      = λ n. ap (greatest (λ i. nat_lt (depth base (open_chain classes i)) n)) (add-one k) in
      elim (cases_lt (length indices) after) [
        | inl opens ↦ rw (cond-true (nat_lt (length indices) after) (indices ++ k ∷ []) (take after indices) (lt-ltb (length indices) after opens)) record {
          size = length-append indices (k ∷ []) ∙ omega arith;
          each = λ n some few. step n ∙ elim (cases_lt before n) [
            | inl new ↦ cond-true (nat_lt before n) (Some k) _ (lt-ltb before n new)
                ∙ ap Some (sym (get_or-append_seam indices k [] 0) ∙ ap (λ m. get_or (indices ++ k ∷ []) m 0) (omega (arith, length-append indices (k ∷ []))))
            | inr old ↦ cond-false (nat_lt before n) (Some k) _ (le-ltb before n old)
                ∙ are.each n some (omega arith) ∙ ap Some (sym (get_or_append_left indices (k ∷ []) 0 (n - 1) (omega arith)))
          ];
        }
        | inr closes ↦ rw (cond-false (nat_lt (length indices) after) (indices ++ k ∷ []) (take after indices) (le-ltb (length indices) after closes)) record {
          size = length-take-le after indices (omega arith);
          each = λ n some few. let fits : n ≤ after = omega (arith, length-take-le after indices closes) in
              step n ∙ cond-false (nat_lt before n) (Some k) _ (le-ltb before n (omega arith))
              ∙ are.each n some (omega arith) ∙ ap Some (sym (get_or-take after indices (n - 1) 0 (omega arith)));
        }
      ]

  -- updating the indices does not change them if their number is already the depth
  pub same_indices : (classes : List BidiClass) (n k : ℕ) (indices : List ℕ) → AreIndices classes n indices
      → updated indices (depth base (open_chain classes n)) k ≡ indices
  same_indices classes n k indices are =
      let size : length indices ≡ depth base (open_chain classes n) = are.size in
      cond-false (nat_lt (length indices) (depth base (open_chain classes n))) (indices ++ k ∷ []) (take (depth base (open_chain classes n)) indices) (le-ltb _ _ (omega arith))
      ∙ ap (λ m. take m indices) (sym size) ∙ take-length indices
