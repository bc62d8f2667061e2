use Rattle.std.proofs.Common.{◌≡◌, ℕ, List, length, map, slice_index, not, Bool, None, Option, refl, sym, ap, ◌∙◌, arith}
use Rattle.std.proofs.lemmas.List.{length-map}
use Rattle.bidi.specs.BracketTypes.{bracket_at}
use Rattle.ucd.specs.declared.bracket.Bracket.{Bracket}
use Rattle.ucd.specs.declared.bidi_class.BidiClass.{BidiClass}
use Rattle.bidi.specs.declared.explicit.Retained.{Retained}
use Rattle.ucd.specs.Classes.{class_at}
use Rattle.bidi.specs.Explicit.{level_at}
use Rattle.bidi.specs.Levels.{levels_by, put_back, resolved}
use Rattle.ucd.specs.Classes.{is_removed}
use Rattle.bidi.specs.Sequences.{retained}
use Rattle.bidi.specs.Retained.{IsRetained}
use Rattle.bidi.specs.Paragraphs.{AreBracketsOf}
use Rattle.bidi.proofs.BracketTypeLemmas.{types-kept}
use Rattle.bidi.proofs.PartLemmas.{All-kept}
use Rattle.bidi.proofs.ExplicitLemmas.{kept_all}
use Rattle.bidi.specs.Isolates.{matches_of}
use Rattle.bidi.proofs.ReuseLemmas.{all_stay}
use Rattle.bidi.proofs.levels.resolve_acting.Goals as goal

-- putting back the characters that X9 removed results in the levels of the paragraph
all_levels : (bracket : ℕ → Option Bracket) (text : List ℕ) (classes : List BidiClass) (base : ℕ) (characters : List ℕ) (left : Retained) (done : List ℕ) → IsRetained classes base left
    → characters ≡ map (slice_index text) (retained classes) → done ≡ resolved bracket base characters left.classes.items left.levels.items left.types.items
    → put_back base classes done ≡ levels_by bracket text classes base
all_levels bracket text classes base characters left done kept there e =
    ap (put_back base classes) (
    e
    ∙ ap (λ xs. resolved bracket base xs left.classes.items left.levels.items left.types.items) there
    ∙ ap (λ xs. resolved bracket base (map (slice_index text) (retained classes)) xs left.levels.items left.types.items) kept.classes_are
    ∙ ap (λ xs. resolved bracket base (map (slice_index text) (retained classes)) (map (class_at classes) (retained classes)) xs left.types.items) kept.levels_are
    ∙ ap (resolved bracket base (map (slice_index text) (retained classes)) (map (class_at classes) (retained classes)) (map (level_at base classes) (retained classes))) kept.types_are
    )

pub resolve_retained-requires-clause-retained : goal.resolve_retained-requires-clause-retained
resolve_retained-requires-clause-retained c = kept_all c.args.paragraph.now.classes.now c.args.paragraph.now.base c.explicit.new.retained c.requires.low c.in_ok-explicit.ensures

pub resolve_retained-requires-clause-brackets : goal.resolve_retained-requires-clause-brackets
resolve_retained-requires-clause-brackets c = λ any.
    let p = c.args.paragraph.now in
    let kept : IsRetained p.classes.now p.base c.explicit.new.retained = c.in_ok-explicit.ensures in
    ap length (c.deref-2.ensures.value ∙ c.in_ok-any_retained_brackets.ensures any) ∙ length-map (retained p.classes.now) (bracket_at p.brackets.types.now)
    ∙ sym (ap length kept.levels_are ∙ length-map (retained p.classes.now) (level_at p.base p.classes.now))

pub resolve_retained-requires-clause-found : goal.resolve_retained-requires-clause-found
resolve_retained-requires-clause-found c = λ found.
    let kept : IsRetained c.args.paragraph.now.classes.now c.args.paragraph.now.base c.explicit.new.retained = c.in_ok-explicit.ensures in
    let both = c.are_still_found-is_found.ensures found in
    let all : c.explicit.new.retained.classes.items ≡ c.args.paragraph.now.classes.now =
    all_stay c.args.paragraph.now.classes.now c.explicit.new.retained.classes.items kept.classes_are (sym (ap length c.deref.ensures.value) ∙ both.1) in
    c.requires.found both.0 ∙ ap matches_of (sym all)

pub returns : goal.returns
returns c look text are =
    let p = c.args.paragraph.now in
    let places = retained p.classes.now in
    let kept : IsRetained p.classes.now p.base c.explicit.new.retained = c.in_ok-explicit.ensures in
    let sized : length text ≡ length p.classes.now = are.size in
    let part = map (slice_index text) places in
    let test : ℕ → Bool = λ k. not (is_removed (class_at p.classes.now k)) in
    let parts : AreBracketsOf (record { types = c.deref-2.result; has_any = p.brackets.has_any }) (length c.explicit.new.retained.levels.items) look part = record {
      size = length-map places (slice_index text) ∙ sym (ap length kept.levels_are ∙ length-map places (level_at p.base p.classes.now));
      types = λ any. c.deref-2.ensures.value ∙ c.in_ok-any_retained_brackets.ensures any
          ∙ ap (λ types. map (bracket_at types) places) (are.types any) ∙ sym (types-kept look text test 0 (length p.classes.now) (omega arith));
      none = λ none. All-kept (λ b. look b ≡ None) text (length p.classes.now) test sized (are.none none);
    } in
    c.in_ok-put_back.ensures
    ∙ ap (put_back p.base p.classes.now) c.deref-3.ensures.value
    ∙ all_levels look text p.classes.now p.base part c.explicit.new.retained _ kept refl (c.in_ok-resolve_retained.ensures look part parts)
