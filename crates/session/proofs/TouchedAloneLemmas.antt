-- An edit that touches a single paragraph makes the new text of this paragraph.
use Rattle.std.proofs.Common.{◌≡◌, ◌∙◌, ℕ, ◌+◌, ◌-◌, ◌<◌, ◌≤◌, Bool, List, [], ◌++◌, length, take, drop, get_or, Option, None, Some, unwrap_or, option_map, inl, inr, sym, ap, ap₂, subst, arith}
use Rattle.std.specs.Prelude.{slice_get, IfSome}
use Rattle.std.proofs.lemmas.Bool.{cases_lt}
use Rattle.std.proofs.lemmas.List.{length-append, length-map, length-take-le, take_at}
use Rattle.std.proofs.lemmas.Option.{get_or_from_slice_get, same_Some, slice_get_within, IfSome_then}
use Rattle.bidi.specs.Pieces.{ParagraphsArePieces}
use Rattle.lines.specs.Engine.{rules_of}
use Rattle.lines.specs.Layouts.{visuals, IsLaidAt, Layout}
use Rattle.lines.specs.Matching.{ShareEnds}
use Rattle.lines.specs.SameKind.{IsEdited}
use Rattle.lines.specs.declared.engine.Engine.{Engine}
use Rattle.lines.specs.declared.matching.SharedLines.{SharedLines}
use Rattle.lines.proofs.SharedLemmas.{none_shared}
use Rattle.session.specs.Borders.{IsBackBorder, IsFrontBorder, IsTouchedAlone}
use Rattle.session.specs.Changes.{AreKnown}
use Rattle.session.specs.Joined.{AreShared, BecomesBy}
use Rattle.session.specs.Kept.{pars_of, rules_for, text_of}
use Rattle.session.specs.Sessions.{state_of, IsWholeLayout}
use Rattle.session.specs.Touched.{start_of}
use Rattle.session.specs.declared.borders.Border.{Border}
use Rattle.session.specs.declared.edits.TextRange.{TextRange}
use Rattle.session.specs.declared.joined.Edited.{Edited}
use Rattle.session.proofs.BorderLemmas.{text_read}
use Rattle.session.proofs.EditLemmas.{drop_two}
use Rattle.session.proofs.TouchedLemmas.{start_of-end, start_of-more}
use Rattle.session.proofs.WidthLemmas.{all_each, each_laid_at}

-- no character before the first touched paragraph is in the range
pub front_low : (kept : List Layout) (pos : ℕ) (front : Border) → IsFrontBorder kept pos front → front.chars ≤ pos
front_low kept pos front f =
    elim (cases_lt 0 front.index) [
      | inl some ↦ omega (arith, f.before some)
      | inr none ↦
          let zeroth : front.index ≡ 0 = omega (arith, none) in
          omega (arith, f.border_is.chars, ap (start_of (pars_of kept)) zeroth)
    ]

module _ (law : ParagraphsArePieces) (engine : Engine) (width : ℕ) (is_measured : Bool) (kept : List Layout) (whole : IsWholeLayout (state_of engine width is_measured kept))
    (range : TextRange) (piece : List ℕ) (n : ℕ) (count_is : n ≡ length piece) (within : range.pos + range.count ≤ length (text_of kept))
    (front back : Border) (f : IsFrontBorder kept range.pos front) (b : IsBackBorder kept (range.pos + range.count) back)
    (first : Option Layout) (read : first ≡ slice_get kept front.index) (before after : List ℕ)
    (before_is : before ≡ take (range.pos - front.chars) (get_or (pars_of kept) front.index []))
    (after_is : after ≡ drop (length (get_or (pars_of kept) (back.index - 1) []) - (back.chars - (range.pos + range.count))) (get_or (pars_of kept) (back.index - 1) [])) where
  module _ (e : Edited) (is : IsTouchedAlone first front back range n e) where
    abbrev l : Layout
    l = e.kept.now

    abbrev at : ℕ
    at = range.pos - front.chars

    found : slice_get kept front.index ≡ Some l
    found = sym read ∙ is.laid

    inside : front.index < length kept
    inside = slice_get_within kept front.index l found

    text_is : get_or (pars_of kept) front.index [] ≡ l.text
    text_is = text_read kept front.index first read ∙ ap (λ (o : Option Layout). unwrap_or (option_map (λ (l : Layout). l.text) o) []) is.laid

    last_is : get_or (pars_of kept) (back.index - 1) [] ≡ l.text
    last_is =
        let place : back.index - 1 ≡ front.index = omega (arith, is.alone) in
        ap (λ i. get_or (pars_of kept) i []) place ∙ text_is

    sizes : back.chars ≡ front.chars + length l.text
    sizes =
        let more = start_of-more (pars_of kept) front.index [] (omega (arith, inside, length-map kept (λ (l : Layout). l.text))) in
        omega (arith, b.border_is.chars, f.border_is.chars, ap (start_of (pars_of kept)) is.alone, more, ap (λ (xs : List ℕ). length xs) text_is)

    low : front.chars ≤ range.pos
    low = front_low kept range.pos front f

    high : range.pos + range.count ≤ back.chars
    high =
        elim (cases_lt back.index (length kept)) [
          | inl more ↦ omega (arith, b.after more)
          | inr last ↦ omega (arith, within, b.border_is.chars, start_of-end (pars_of kept) back.index (omega (arith, last, length-map kept (λ (l : Layout). l.text))))
        ]

    front_is : before ≡ take at l.text
    front_is = before_is ∙ ap (take at) text_is

    front_len : length before ≡ at
    front_len = ap (λ (xs : List ℕ). length xs) front_is ∙ length-take-le at l.text (omega (arith, low, high, sizes))

    back_is : after ≡ drop (at + range.count) l.text
    back_is =
        let from : length l.text - (back.chars - (range.pos + range.count)) ≡ at + range.count = omega (arith, low, high, sizes) in
        after_is ∙ ap (λ (t : List ℕ). drop (length t - (back.chars - (range.pos + range.count))) t) last_is ∙ ap (λ i. drop i l.text) from

    edit_is : IsEdited l.text (before ++ (piece ++ after)) e.edit
    edit_is = record {
      within = (
        omega (arith, is.at, is.removed, low, high, sizes),
        omega (arith, is.at, is.inserted_is, count_is, front_len, length-append before (piece ++ after), length-append piece after),
      );
      before = ap (λ i. take i (before ++ (piece ++ after))) is.at ∙ take_at before (piece ++ after) at front_len ∙ front_is ∙ ap (λ i. take i l.text) (sym is.at);
      after = ap₂ (λ i m. drop (i + m) (before ++ (piece ++ after))) is.at is.inserted_is
          ∙ drop_two before piece after at n (sym front_len) count_is
          ∙ back_is
          ∙ ap₂ (λ i m. drop (i + m) l.text) (sym is.at) (sym is.removed);
    }

    fresh : IsLaidAt (rules_for (rules_of engine) l) width l
    fresh =
        subst (λ l. IsLaidAt (rules_for (rules_of engine) l) width l) (get_or_from_slice_get kept front.index l l found)
        (all_each (λ l. IsLaidAt (rules_for (rules_of engine) l) width l) kept (each_laid_at law engine width is_measured kept whole) front.index l inside)

  pub becomes : (edited : Option Edited) → IfSome edited (IsTouchedAlone first front back range n) → BecomesBy (rules_of engine) width edited (before ++ (piece ++ after))
  becomes edited alone = IfSome_then edited alone (λ e is. (fresh e is, edit_is e is))

-- the lines that are known to be the same after an edit of a single paragraph
pub known_lines : (kept : List Layout) (first : Option Layout) (front back : Border) (range : TextRange) (n : ℕ) (edited : Option Edited) (new : List Layout) (shared : SharedLines)
    → first ≡ slice_get kept front.index → IfSome edited (IsTouchedAlone first front back range n) → AreShared edited new shared → AreKnown kept front.index back.index new shared
known_lines kept first front back range n None new shared read alone are = λ old only found one is.
    let zeros = are only is in
    subst (λ f. ShareEnds (visuals old) (visuals only) f shared.back) (sym zeros.0) (subst (λ b. ShareEnds (visuals old) (visuals only) 0 b) (sym zeros.1) (none_shared old only))
known_lines kept first front back range n (Some edited) new shared read alone are = λ old only found one is.
    subst (λ (l : Layout). ShareEnds (visuals l) (visuals only) shared.front shared.back) (same_Some edited.kept.now old (sym alone.laid ∙ read ∙ found)) (are only is)
