use Rattle.std.proofs.Common.{rules, arith, ◌≡◌, ◌++◌, ◌∷◌, [], List, ℕ, Vec, Global, false, true, length, ap, ◌∙◌, sym}
use Rattle.scripts.specs.Runs.{begins_run, runs_of}
use Rattle.scripts.specs.declared.runs.ScriptRun.{ScriptRun}
use Rattle.scripts.proofs.RunLemmas.{runs_before, runs_more, runs_same}
use Rattle.scripts.proofs.runs.script_runs.Goals as goal
use Rattle.scripts.proofs.runs.script_runs.Goals.{then-begins_run+in_ok-push, else-begins_run}

pub loop-k-preserved : goal.loop-k-preserved
loop-k-preserved c =
    let scripts = c.args.scripts.now in
    let k = c.loop-k.k in
    elim c.if-begins_run.branch [
      | then-begins_run+in_ok-push w ↦
          let begins : begins_run scripts k ≡ true = search (rules, w.if-begins_run) in (
          ap (λ (v : Vec ScriptRun Global). v.items) w.runs-is ∙ w.in_ok-push.ensures.items
          ∙ ap (λ (runs : List ScriptRun). runs ++ w.run_from.result ∷ []) c.loop-k.invariant
          ∙ ap (λ (run : ScriptRun). runs_before scripts k ++ run ∷ []) w.run_from.ensures
          ∙ sym (runs_more scripts k begins)
          )
      | else-begins_run w ↦
          let none : begins_run scripts k ≡ false = search (rules, w.if-begins_run) in (
          ap (λ (v : Vec ScriptRun Global). v.items) w.runs-is ∙ c.loop-k.invariant ∙ sym (runs_same scripts k none)
          )
    ]

pub returns-clause-runs : goal.returns-clause-runs
unfolding runs_of
returns-clause-runs c =
    let whole : c.loop-k.k ≡ length c.args.scripts.now = omega (arith, c.loop-k-test.false, c.loop-k.auto.k-end) in
    c.loop-k.invariant ∙ ap (λ (n : ℕ). runs_before c.args.scripts.now n) whole
