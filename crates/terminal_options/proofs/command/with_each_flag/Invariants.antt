use Rattle.std.proofs.Common.{◌≡◌, fold, map, take}
use Rattle.clap.specs.Words.{app_of, with_rule}
use Rattle.terminal_options.specs.Program.{flag_rule}
use Rattle.terminal_options.proofs.command.with_each_flag.Given as goal

-- the command has all options so far
abbrev pub invariant-loop-name : goal.invariant-loop-name
invariant-loop-name l = app_of l.command ≡ fold with_rule (app_of l.fn.command) (map (λ f. flag_rule f.0.now) (take l.name-index l.flags))
