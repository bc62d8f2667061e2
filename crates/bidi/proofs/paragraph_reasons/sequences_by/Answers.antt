use Rattle.std.proofs.Common.{◌≡◌, ℕ, Bool, true, not, length, map, slice_index, sym, ap, ◌∙◌, arith}
use Rattle.std.proofs.lemmas.List.{length-map}
use Rattle.ucd.specs.Classes.{class_at, is_removed}
use Rattle.bidi.specs.BracketTypes.{bracket_at, type_by}
use Rattle.bidi.specs.Explicit.{level_at}
use Rattle.bidi.specs.Isolates.{matches_of}
use Rattle.bidi.specs.Paragraphs.{AreBracketsOf}
use Rattle.bidi.specs.Reasons.{all_sequences}
use Rattle.bidi.specs.Sequences.{retained}
use Rattle.bidi.specs.Retained.{HasAll, IsRetained}
use Rattle.bidi.proofs.BracketTypeLemmas.{types-kept}
use Rattle.bidi.proofs.ExplicitLemmas.{kept_all}
use Rattle.bidi.proofs.paragraph_reasons.sequences_by.Goals as goal

pub all_sequences-requires-clause-paragraph : goal.all_sequences-requires-clause-paragraph
all_sequences-requires-clause-paragraph c =
    let classes = c.args.classes.now in
    let left = c.explicit.new.retained in
    let kept : IsRetained classes c.args.base left = c.in_ok-explicit.ensures in
    let all : HasAll left = kept_all classes c.args.base left c.requires.low kept in
    record {
      retained = all;
      matches = c.deref-3.ensures.value ∙ c.in_ok-find_matches.ensures.matches ∙ ap matches_of c.deref.ensures.value;
      found = ap length c.deref-3.ensures.value ∙ c.in_ok-find_matches.ensures.length ∙ ap length c.deref.ensures.value ∙ all.classes;
      brackets = λ any. ap length (c.deref-2.ensures.value ∙ c.in_ok-retained_brackets.ensures) ∙ length-map (retained classes) (bracket_at c.args.kinds.now)
          ∙ sym (ap length kept.levels_are ∙ length-map (retained classes) (level_at c.args.base classes));
    }

pub returns : goal.returns
returns c look text are =
    let classes = c.args.classes.now in
    let base = c.args.base in
    let places = retained classes in
    let left = c.explicit.new.retained in
    let kept : IsRetained classes base left = c.in_ok-explicit.ensures in
    let sized : length text ≡ length classes = sym (ap length are ∙ length-map text (λ k. type_by (look k) k)) ∙ c.requires.kinds in
    let part = map (slice_index text) places in
    let test : ℕ → Bool = λ k. not (is_removed (class_at classes k)) in
    let parts : AreBracketsOf (record { types = c.deref-2.result; has_any = true }) (length left.levels.items) look part = record {
      size = length-map places (slice_index text) ∙ sym (ap length kept.levels_are ∙ length-map places (level_at base classes));
      types = λ any. c.deref-2.ensures.value ∙ c.in_ok-retained_brackets.ensures ∙ ap (λ types. map (bracket_at types) places) are
          ∙ sym (types-kept look text test 0 (length classes) (omega (arith, sized)));
      none = λ none. absurd (cc);
    } in
    c.in_ok-list.ensures look part parts
    ∙ ap (λ xs. all_sequences look base part xs left.levels.items left.types.items) kept.classes_are
    ∙ ap (λ xs. all_sequences look base part (map (class_at classes) places) xs left.types.items) kept.levels_are
    ∙ ap (all_sequences look base part (map (class_at classes) places) (map (level_at base classes) places)) kept.types_are
