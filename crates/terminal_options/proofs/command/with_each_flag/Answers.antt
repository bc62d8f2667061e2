use Rattle.std.proofs.Common.{◌≡◌, ◌<◌, ◌+◌, ◌∙◌, ℕ, Bor, List, [], ◌∷◌, ap, sym, fold, get_or, length, map, take}
use Rattle.std.proofs.lemmas.List.{map_more, take_all}
use Rattle.std.proofs.lemmas.List.Sums.{fold-append}
use Rattle.clap.specs.Words.{App, Rule, app_of, with_rule}
use Rattle.terminal_options.specs.Program.{flag_rule}
use Rattle.terminal_options.proofs.command.with_each_flag.Goals as goal

abbrev rule : Bor (List ℕ) × Bor (List ℕ) → Rule
rule f = flag_rule f.0.now

-- adding one more option appends its rule to the rules of the options so far
one_more : (app : App) (flags : List (Bor (List ℕ) × Bor (List ℕ))) (k : ℕ) (d : Bor (List ℕ) × Bor (List ℕ)) → k < length flags → (old new : App)
    → old ≡ fold with_rule app (map rule (take k flags)) → new ≡ with_rule old (rule (get_or flags k d)) → new ≡ fold with_rule app (map rule (take (k + 1) flags))
one_more app flags k d lt old new so_far added =
    added ∙ ap (λ a. with_rule a (rule (get_or flags k d))) so_far
    ∙ sym (ap (fold with_rule app) (map_more rule flags k d lt) ∙ fold-append with_rule app (map rule (take k flags)) (rule (get_or flags k d) ∷ []))

pub loop-name-preserved : goal.loop-name-preserved
loop-name-preserved c =
    one_more (app_of c.args.command) c.args.flags.now c.loop-name.name-index (record { ref_ptr = (0, 0); now = [] }, record { ref_ptr = (0, 0); now = [] })
    c.loop-name-test.true (app_of c.loop-name.command) (app_of c.in_ok-command.command) c.loop-name.invariant c.in_ok-command.ensures

pub returns : goal.returns
returns c =
    c.loop-name.invariant
    ∙ ap (λ flags. fold with_rule (app_of c.args.command) (map rule flags)) (take_all c.loop-name.name-index c.args.flags.now c.loop-name-test.false)
