use Rattle.std.proofs.Common.{◌≡◌, ◌∙◌, map, ap, subst, sym, true≢false, ⊎_elim}
use denote.Enum.Bare.{sameb}
use Rattle.clap.specs.contracts.error.kind.ErrorKind.{the_type}
use Rattle.clap.specs.declared.error.kind.ErrorKind.TheVariants.{OutOfMemory}
use Rattle.clap.specs.Words.{IsAmong, fault_of, kind_of, is_simple, is_simple_and_free, matches_of}
use Rattle.command_line.proofs.CommandLineLemmas.{program_is_free, program_is_simple, required_there}
use Rattle.command_line.proofs.words.parse.Goals as goal

pub returns-in-Ok-try_get_matches_from-clause-ok : goal.returns-in-Ok-try_get_matches_from-clause-ok
returns-in-Ok-try_get_matches_from-clause-ok c =
    let words = map (λ word. word.now) c.args.words.now in
    let same = c.in-Ok.ensures in
    let h = c.in-Ok-try_get_matches_from.ensures in
    let there = required_there c.in-Ok.command c.in-Ok-try_get_matches_from.matches same h.parsed in
    record {
      taken = ap (λ app. fault_of app words) (sym same) ∙ h.kinds (ap is_simple_and_free same ∙ program_is_free);
      rows = (h.matches (ap is_simple same ∙ program_is_simple)).0 ∙ ap (λ app. matches_of app words) same;
      ucd = there.0;
      width = there.1;
      tabs = there.2;
    }

pub returns-in-Err-2-clause-err : goal.returns-in-Err-2-clause-err
returns-in-Err-2-clause-err c =
    let words = map (λ word. word.now) c.args.words.now in
    let same = c.in-Ok.ensures in
    let kind = kind_of c.in-Err.error in
    let other = λ (memory : kind ≡ OutOfMemory).
    true≢false (sym (ap (λ k. sameb the_type k OutOfMemory) (c.kind.ensures ∙ memory)) ∙ sym c.eq.ensures ∙ c.if-eq.false) in
    ⊎_elim (λ memory. absurd (other memory)) (λ among. subst (λ app. IsAmong kind (fault_of app words)) same among)
    (c.in-Err.ensures.kinds (ap is_simple_and_free same ∙ program_is_free))
