use Rattle.std.proofs.Common.{rules, ◌≡◌, ℕ, false, List, [], ◌∷◌, ◌++◌, length, map, refl, sym, ap, ◌∙◌, inl, inr, arith}
use Rattle.std.specs.List.{list_any, range_with_len}
use Rattle.std.proofs.lemmas.Bool.{cases_Bool, both_ways}
use Rattle.std.proofs.lemmas.List.FromFn.{fill_by_all, map-range_with_len_more}
use Rattle.std.proofs.lemmas.List.Folds.{list_any_at}
use Rattle.ucd.specs.declared.bidi_class.BidiClass.{BidiClass}
use Rattle.ucd.specs.declared.bidi_class.BidiClass.TheVariants.{ON, FSI}
use Rattle.ucd.specs.Classes.{class_at}
use Rattle.bidi.specs.Isolates.{matches_of}
use Rattle.bidi.specs.Explicit.{directed, directed_at, is_first_strong}
use Rattle.bidi.proofs.LengthLemmas.{length-directed}
use Rattle.bidi.proofs.ReuseLemmas.{matches_directed}
use Rattle.bidi.proofs.isolates.direct.Goals as goal

directed_at-other : (classes : List BidiClass) (k : ℕ) (class : BidiClass) → is_first_strong class ≡ false → directed_at classes k class ≡ class
directed_at-other classes k FSI other = absurd (cc)
directed_at-other classes k _ other = refl

directed-none : (classes : List BidiClass) → list_any is_first_strong classes ≡ false → classes ≡ directed classes
directed-none classes none =
    fill_by_all (λ k. directed_at classes k (class_at classes k)) classes (length classes) ON refl
    (λ k within. sym (directed_at-other classes k (class_at classes k) (
    elim (cases_Bool (is_first_strong (class_at classes k))) [
      | inl found ↦ absurd (both_ways (list_any is_first_strong classes) none (list_any_at is_first_strong classes k ON within found))
      | inr other ↦ other
    ])))

abbrev acting : List BidiClass → ℕ → BidiClass
acting classes k = directed_at classes k (class_at classes k)

pub returns-then-not-has_first_strong-clause-acting : goal.returns-then-not-has_first_strong-clause-acting
returns-then-not-has_first_strong-clause-acting c = c.in_ok-copy_types.ensures ∙ directed-none c.args.classes.now (sym c.if-not-has_first_strong.ensures)

pub loop-at-preserved : goal.loop-at-preserved
loop-at-preserved c =
    c.in_ok-push.ensures.items
    ∙ ap (λ items. items ++ c.acting_class.result ∷ []) c.loop-at.invariant
    ∙ ap (λ class. map (acting c.args.classes.now) (range_with_len 0 c.loop-at.at) ++ class ∷ []) c.acting_class.ensures
    ∙ sym (map-range_with_len_more (acting c.args.classes.now) 0 c.loop-at.at c.loop-at.at (omega arith))

-- the matches depend only on initiators and PDIs, and replacing an FSI keeps both
pub returns-clause-found : goal.returns-clause-found
returns-clause-found c = λ found.
    let all : c.loop-at.acting.items ≡ directed c.args.classes.now = search rules in
    c.in_ok-find_matches.ensures.matches ∙ matches_directed c.args.classes.now (sym (length-directed c.args.classes.now)) ∙ ap matches_of (sym all)
