use Rattle.std.proofs.Common.{◌≡◌, ◌∙◌, true, false, not, Option, Some, None, is_some, refl, sym, ap}
use Rattle.std.specs.Option.{option_eq, option_and_then, option_map_or}
use Rattle.clap.specs.Facts.{explicit_source}
use Rattle.clap.specs.Matches.{found_of}
use Rattle.clap.specs.declared.parser.matches.MatchedArg.{MatchedArg}
use Rattle.clap.specs.declared.parser.matches.ValueSource.{ValueSource}
use Rattle.clap.specs.declared.parser.matches.ValueSource.TheVariants.{DefaultValue, CommandLine}
use Rattle.clap.specs.contracts.parser.matches.ValueSourcePartialEq.TheImpl.{eq-value}
use Rattle.clap.proofs.TakesLemmas.{present_row}
use Rattle.terminal_options.proofs.given.is_set_in.Goals as goal

-- a value source is explicit if and only if it is not `DefaultValue`
differs : (s : Option ValueSource) → not (option_eq eq-value.it s (Some DefaultValue)) ≡ explicit_source s
differs None = refl
differs (Some DefaultValue) = refl
differs (Some CommandLine) = refl

there : (o : Option MatchedArg) → is_some o ≡ true → explicit_source (option_and_then (λ a. a.source) o) ≡ option_map_or (λ a. explicit_source a.source) o false
there None some = cc
there (Some a) some = refl

missing : (o : Option MatchedArg) → is_some o ≡ false → false ≡ option_map_or (λ a. explicit_source a.source) o false
missing None none = refl
missing (Some a) none = cc

pub returns-then-contains_id : goal.returns-then-contains_id
returns-then-contains_id c = c.ne.ensures ∙ differs _ ∙ ap explicit_source c.value_source.ensures
    ∙ there _ (sym c.contains_id.ensures ∙ c.if-contains_id.true) ∙ present_row (found_of c.args.matches.now) c.args.name.now

pub returns-else-contains_id : goal.returns-else-contains_id
returns-else-contains_id c = c.if-contains_id.false ∙ missing _ (sym c.contains_id.ensures ∙ c.if-contains_id.false) ∙ present_row (found_of c.args.matches.now) c.args.name.now
