-- An edit can fail with `NoMemory` only if the text or the inserted text is not empty.
use Rattle.std.proofs.Common.{◌≡◌, ℕ, ◌+◌, ◌-◌, ◌<◌, ◌≤◌, Bool, List, [], ◌++◌, length, take, drop, get_or, ap, ◌∙◌, inl, inr, Result, Ok, Err, arith}
use Rattle.std.specs.Result.{OnErr}
use Rattle.std.proofs.Math.Seq.{take-nil}
use Rattle.std.proofs.lemmas.Bool.{cases_lt}
use Rattle.std.proofs.lemmas.List.{length-append, length-drop, nil_from_length}
use Rattle.lines.specs.Engine.{rules_of}
use Rattle.lines.specs.Layouts.{Layout, Rules, with_advances}
use Rattle.lines.specs.declared.engine.Engine.{Engine}
use Rattle.session.specs.Kept.{advances_in, pars_of, text_of, layouts_of}
use Rattle.session.specs.Sessions.{IsWholeLayout, state_of}

-- P implies `OnErr r P`. If r is an error, `OnErr r P` implies P.
pub on_err : {A E P : Type 0} (r : Result A E) → P → OnErr r P
on_err (Ok x) p = tt
on_err (Err e) p = p

pub of_err : {A E P : Type 0} (r : Result A E) (e : E) → OnErr r P → r ≡ Err e → P
of_err (Ok x) e p is = absurd (cc is)
of_err (Err x) e p is = p

-- the error of a result, or a default
abbrev pub fault_in : {A E : Type 0} → E → Result A E → E
fault_in d (Ok x) = d
fault_in d (Err e) = e

-- an empty text has no paragraphs
pub none_kept : (engine : Engine) (width : ℕ) (is_measured : Bool) (kept : List Layout) → IsWholeLayout (state_of engine width is_measured kept) → length (text_of kept) ≡ 0 → kept ≡ []
none_kept engine width is_measured kept whole none =
    whole.kept ∙ ap (layouts_of (with_advances (rules_of engine) (advances_in is_measured kept)) width) (nil_from_length (text_of kept) none)

pub none_laid : (rules : Rules) (width : ℕ) (text : List ℕ) (kept : List Layout) → kept ≡ layouts_of rules width text → length text ≡ 0 → length kept ≡ 0
none_laid rules width text kept laid none = ap length (laid ∙ ap (layouts_of rules width) (nil_from_length text none))

-- if there are no paragraphs, a prefix or suffix of a paragraph's text is empty
no_part : (kept : List Layout) (i p : ℕ) → kept ≡ [] → length (take p (get_or (pars_of kept) i [])) ≡ 0
no_part kept i p none = ap (λ (ks : List Layout). length (take p (get_or (pars_of ks) i []))) none ∙ ap length (take-nil p)

no_rest : (kept : List Layout) (i q : ℕ) → kept ≡ [] → length (drop q (get_or (pars_of kept) i [])) ≡ 0
no_rest kept i q none =
    length-drop q (get_or (pars_of kept) i []) ∙ ap (λ (ks : List Layout). length (get_or (pars_of ks) i []) - q) none ∙ omega arith

module _ (engine : Engine) (width : ℕ) (is_measured : Bool) (kept : List Layout) (whole : IsWholeLayout (state_of engine width is_measured kept))
    (front piece back : List ℕ) (i j p q : ℕ) (front_is : front ≡ take p (get_or (pars_of kept) i [])) (back_is : back ≡ drop q (get_or (pars_of kept) j [])) where
  none_joined : length (text_of kept) + length piece ≤ 0 → length (front ++ (piece ++ back)) ≡ 0
  none_joined nothing =
      let none : kept ≡ [] = none_kept engine width is_measured kept whole (omega (arith, nothing)) in
      omega (
        arith,
        nothing,
        ap length front_is ∙ no_part kept i p none,
        ap length back_is ∙ no_rest kept j q none,
        length-append front (piece ++ back),
        length-append piece back,
      )

  -- if the text that is laid out is not empty, the old text or the inserted text is not empty
  pub some_joined : 0 < length (front ++ (piece ++ back)) → 0 < length (text_of kept) + length piece
  some_joined some = elim (cases_lt 0 (length (text_of kept) + length piece)) [
    | inl more ↦ more
    | inr nothing ↦ absurd (omega (arith, some, none_joined nothing))
  ]

  -- if paragraphs were replaced, the old text or the inserted text is not empty
  pub some_put : (rules : Rules) (first last : ℕ) (new : List Layout) → last ≤ length kept → new ≡ layouts_of rules width (front ++ (piece ++ back))
      → 0 < last - first + length new → 0 < length (text_of kept) + length piece
  some_put rules first last new within laid some = elim (cases_lt 0 (length (text_of kept) + length piece)) [
    | inl more ↦ more
    | inr nothing ↦
        let none : kept ≡ [] = none_kept engine width is_measured kept whole (omega (arith, nothing)) in
        absurd (omega (arith, some, within, ap length none, none_laid rules width (front ++ (piece ++ back)) new laid (none_joined nothing)))
  ]
