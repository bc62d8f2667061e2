-- The runs that begin before a position, one position at a time.
use Rattle.std.proofs.Common.{◌≡◌, ℕ, ◌+◌, Bool, true, false, cond, List, ◌∷◌, ◌++◌, [], append-nil, filter, map, map-id, ap, ◌∙◌, sym, arith}
use Rattle.std.specs.List.{range_with_len}
use Rattle.std.proofs.lemmas.List.{map-append}
use Rattle.std.proofs.lemmas.List.Elements.{filter-append}
use Rattle.std.proofs.lemmas.List.FromFn.{map-range_with_len_more}
use Rattle.ucd_script.specs.declared.Script.{Script}
use Rattle.scripts.specs.Runs.{begins_run, run_from}
use Rattle.scripts.specs.declared.runs.ScriptRun.{ScriptRun}

-- the runs that begin at the first n positions
abbrev pub runs_before : List Script → ℕ → List ScriptRun
runs_before scripts n = map (run_from scripts) (filter (begins_run scripts) (range_with_len 0 n))

range_more : (k : ℕ) → range_with_len 0 (k + 1) ≡ range_with_len 0 k ++ k ∷ []
range_more k =
    sym (map-id (range_with_len 0 (k + 1))) ∙ map-range_with_len_more (λ i. i) 0 k k (omega arith)
    ∙ ap (λ (front : List ℕ). front ++ k ∷ []) (map-id (range_with_len 0 k))

-- ---- one more position, by whether a run begins there
module _ (scripts : List Script) (k : ℕ) where
  more : runs_before scripts (k + 1) ≡ runs_before scripts k ++ map (run_from scripts) (filter (begins_run scripts) (k ∷ []))
  more =
      ap (λ (places : List ℕ). map (run_from scripts) (filter (begins_run scripts) places)) (range_more k)
      ∙ ap (map (run_from scripts)) (filter-append (begins_run scripts) (range_with_len 0 k) (k ∷ []))
      ∙ map-append (run_from scripts) (filter (begins_run scripts) (range_with_len 0 k)) (filter (begins_run scripts) (k ∷ []))

  pub runs_more : begins_run scripts k ≡ true → runs_before scripts (k + 1) ≡ runs_before scripts k ++ run_from scripts k ∷ []
  runs_more begins = more ∙ ap (λ (b : Bool). runs_before scripts k ++ map (run_from scripts) (cond b (k ∷ []) [])) begins

  pub runs_same : begins_run scripts k ≡ false → runs_before scripts (k + 1) ≡ runs_before scripts k
  runs_same none =
      more ∙ ap (λ (b : Bool). runs_before scripts k ++ map (run_from scripts) (cond b (k ∷ []) [])) none ∙ append-nil (runs_before scripts k)
