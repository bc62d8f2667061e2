use Rattle.std.proofs.Common.{◌≡◌, ◌∙◌, map, ap, subst, sym, true≢false, ⊎_elim}
use denote.Enum.Bare.{sameb}
use Rattle.clap.specs.contracts.error.kind.ErrorKind.{the_type}
use Rattle.clap.specs.declared.error.kind.ErrorKind.TheVariants.{OutOfMemory}
use Rattle.clap.specs.Words.{IsAmong, fault_of, kind_of, is_simple, is_simple_and_free, matches_of}
use Rattle.terminal_options.proofs.ProgramLemmas.{program_is_free, program_is_simple}
use Rattle.terminal_options.proofs.reading.parse.Goals as goal

pub returns-in-Ok-try_get_matches_from-clause-ok : goal.returns-in-Ok-try_get_matches_from-clause-ok
returns-in-Ok-try_get_matches_from-clause-ok c =
    let words = map (λ word. word.now) c.args.words.now in
    let same = c.in-Ok.ensures in
    (c.in-Ok-try_get_matches_from.ensures.matches (ap is_simple same ∙ program_is_simple c.args.files)).0 ∙ ap (λ app. matches_of app words) same

pub returns-in-Err-2-clause-err : goal.returns-in-Err-2-clause-err
returns-in-Err-2-clause-err c =
    let words = map (λ word. word.now) c.args.words.now in
    let same = c.in-Ok.ensures in
    let kind = kind_of c.in-Err.error in
    let other = λ (memory : kind ≡ OutOfMemory).
    true≢false (sym (ap (λ k. sameb the_type k OutOfMemory) (c.kind.ensures ∙ memory)) ∙ sym c.eq.ensures ∙ c.if-eq.false) in
    ⊎_elim (λ memory. absurd (other memory)) (λ among. subst (λ app. IsAmong kind (fault_of app words)) same among)
    (c.in-Err.ensures.kinds (ap is_simple_and_free same ∙ program_is_free c.args.files))
