use Rattle.std.proofs.Common.{◌≡◌, ℕ, List, Option, length, map, sym, ap, ap₂, ◌∙◌}
use Rattle.std.specs.List.{range_with_len}
use Rattle.std.proofs.lemmas.List.FromFn.{length-map-range_with_len}
use Rattle.ucd.specs.Classes.{class_at, is_nonspacing_mark}
use Rattle.ucd.specs.declared.bidi_class.BidiClass.{BidiClass}
use Rattle.bidi.specs.BracketPasses.{closer_by, decision_by, step_by, unpaired_by}
use Rattle.bidi.specs.BracketSteps.{resolved_before}
use Rattle.bidi.specs.BracketTypes.{bracket_at}
use Rattle.bidi.specs.Weak.{is_left}
use Rattle.bidi.specs.declared.bracket_steps.BracketCase.{BracketCase}
use Rattle.bidi.specs.declared.bracket_steps.Decision.{Decision}
use Rattle.bidi.specs.declared.brackets.Opener.{Opener}
use Rattle.bidi.proofs.BracketStepLemmas.{steps-are}
use Rattle.bidi.proofs.bracket_steps.bracket_steps.Goals as goal
use Rattle.bidi.proofs.bracket_steps.bracket_steps.Goals.{After-deref-5}

-- the lists that the passes return have the length of the sequence
sized : (c : After-deref-5) → length c.deref-3.result.now ≡ length c.args.types.now
sized c = ap length c.deref-3.ensures.value ∙ c.in_ok-full.ensures.size

pub gather_steps-requires-clause-decisions : goal.gather_steps-requires-clause-decisions
gather_steps-requires-clause-decisions c =
    ap length (c.deref-4.ensures.value ∙ c.in_ok-decisions.ensures) ∙ length-map-range_with_len _ 0 (length c.deref_mut.result.now)
    ∙ ap length (c.deref_mut.ensures.value ∙ c.in_ok-current.ensures.items) ∙ sym (sized c)

pub gather_steps-requires-clause-unpaired : goal.gather_steps-requires-clause-unpaired
gather_steps-requires-clause-unpaired c =
    ap length (c.deref-5.ensures.value ∙ c.in_ok-unpaired.ensures) ∙ length-map-range_with_len _ 0 (length c.args.types.now) ∙ sym (sized c)

pub returns : goal.returns
returns c look text are =
    let embedding = c.args.embedding in
    let sos = c.args.sos in
    let explicit = c.args.explicit.now in
    let types = c.args.types.now in
    let kinds = c.args.kinds.now in
    let marks = map is_nonspacing_mark explicit in
    let openers = c.find_partners.new.openers.items in
    let partners = c.find_partners.new.partners.items in
    let full = c.in_ok-full.full in
    let read = c.deref-3.ensures.value in
    let size : length c.deref-3.result.now ≡ length types = ap length read ∙ c.in_ok-full.ensures.size in
    let decisions_by : List ℕ → List BidiClass → ℕ → Decision = λ ps ts a. decision_by (is_left embedding) sos (resolved_before embedding sos marks (closer_by ps) ts a) a (closer_by ps a) in
    let cases_by : List Opener → ℕ → Option BracketCase = λ os k. unpaired_by os full (bracket_at kinds k) (class_at types k) k in
    let decisions : c.deref-4.result.now ≡ map (decisions_by partners types) (range_with_len 0 (length c.deref-3.result.now)) =
    c.deref-4.ensures.value ∙ c.in_ok-decisions.ensures
    ∙ ap₂ (λ ps ts. map (decisions_by ps ts) (range_with_len 0 (length ts))) c.deref-2.ensures.value (c.deref_mut.ensures.value ∙ c.in_ok-current.ensures.items)
    ∙ ap (λ n. map (decisions_by partners types) (range_with_len 0 n)) (sym size) in
    let cases : c.deref-5.result.now ≡ map (cases_by openers) (range_with_len 0 (length c.deref-3.result.now)) =
    c.deref-5.ensures.value ∙ c.in_ok-unpaired.ensures ∙ ap (λ os. map (cases_by os) (range_with_len 0 (length types))) c.deref.ensures.value
    ∙ ap (λ n. map (cases_by openers) (range_with_len 0 n)) (sym size) in
    c.in_ok-list.ensures (decisions_by partners types) (cases_by openers) decisions cases
    ∙ ap (λ n. map (step_by c.deref-3.result.now (decisions_by partners types) (cases_by openers) marks) (range_with_len 0 n)) size
    ∙ ap (λ ps. map (step_by ps (decisions_by partners types) (cases_by openers) marks) (range_with_len 0 (length types))) read
    ∙ steps-are look embedding sos text explicit types kinds openers partners full c.requires.kinds c.requires.explicit are (c.in_ok-full.ensures.found look text are)
