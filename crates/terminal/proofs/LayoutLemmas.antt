-- The lines of a layout with styles, one at a time.
use Rattle.std.proofs.Common.{◌≡◌, ℕ, ◌+◌, ◌<◌, ◌≤◌, List, [], ◌∷◌, ◌++◌, length, map, drop, get_or, Option, Some, Result, Ok, Err, refl, sym, ap, inl, inr, ◌∙◌, append_assoc, arith}
use Rattle.std.specs.Prelude.{◌&&◌, option_map, slice_get, IfOk, OnOk, if◌then◌else◌}
use Rattle.std.specs.List.{enumerate_from, flat_map}
use Rattle.std.proofs.lemmas.List.{append-nil, drop_all, drop_more, drop-map}
use Rattle.std.proofs.lemmas.List.FromFn.{get_or-enumerate_from, length-enumerate_from}
use Rattle.std.proofs.lemmas.Option.{slice_get_cases}
use Rattle.lines.specs.Bytes.{direction_line}
use Rattle.lines.specs.Layouts.{Layout}
use Rattle.lines.specs.Visual.{Line, Visual, visual_of}
use Rattle.lines.specs.declared.printing.print.Print.{Print}
use Rattle.sequences.specs.Styled.{Style}
use Rattle.terminal.specs.Lines.{LinePrefix, styled_line}
use Rattle.terminal.specs.Numbers.{numbered}
use Rattle.terminal.specs.Paragraphs.{styled_nth}
use Rattle.terminal.specs.Parts.{styles_in}
use Rattle.terminal.specs.declared.numbers.Part.{Part}

pub on_ok : {T E P Q : Type 0} (r : Result T E) → (P → Q) → OnOk r P → OnOk r Q
on_ok (Ok x) f p = f p
on_ok (Err e) f p = tt

pub if_ok : {T E : Type 0} {P Q : T → Type 0} (r : Result T E) → ((x : T) → P x → Q x) → IfOk r P → IfOk r Q
if_ok (Ok x) f p = f x p
if_ok (Err e) f p = tt

-- the styles of a suffix of a part are the suffix of the part's styles
pub styles_from : (part shown : Part) (start : ℕ) → shown.numbers.now ≡ drop start part.numbers.now → shown.text.now ≡ part.text.now
    → styles_in shown ≡ drop start (styles_in part)
styles_from part shown start n t =
    let f = numbered part.text.now.links.items part.text.now.runs.items in
    ap (λ text. map (numbered text.links.items text.runs.items) shown.numbers.now) t ∙ ap (map f) n ∙ sym (drop-map f start part.numbers.now)

pub nth_is : (prefix : Option LinePrefix) (width : ℕ) (print : Print) (layout : Layout) (styles own : List Style) (n : ℕ) (line : Line) (visual : Visual) (start : ℕ)
    (old mid new : List ℕ) → slice_get layout.lines n ≡ Some line
    → Some visual ≡ option_map (visual_of layout.base layout.tab_width layout.advances layout.text layout.lines n) (slice_get layout.lines n)
    → start ≡ line.start → own ≡ drop start styles → mid ≡ old ++ styled_line prefix width print visual own
    → new ≡ mid ++ (if print.basedir && visual.is_first then direction_line visual.base else [])
    → new ≡ old ++ styled_nth prefix width print layout styles (n, line)
nth_is prefix width print layout styles own n line visual start old mid new got is s o m e =
    let of : Visual = visual_of layout.base layout.tab_width layout.advances layout.text layout.lines n line in
    let same : visual ≡ of = cc (is, got) in
    let direction : Visual → List ℕ = λ v. if print.basedir && v.is_first then direction_line v.base else [] in
    e ∙ ap (λ xs. xs ++ direction visual) m ∙ append_assoc old (styled_line prefix width print visual own) (direction visual)
    ∙ ap (λ v. old ++ (styled_line prefix width print v own ++ direction v)) same
    ∙ ap (λ xs. old ++ (styled_line prefix width print of xs ++ direction of)) (o ∙ ap (λ k. drop k styles) s)

module _ (f : ℕ × Line → List ℕ) (lines : List Line) (n : ℕ) where
  pub next_line : (old new all : List ℕ) → n < length lines → ((line : Line) → slice_get lines n ≡ Some line → new ≡ old ++ f (n, line))
      → old ++ flat_map f (drop n (enumerate_from 0 lines)) ≡ all → new ++ flat_map f (drop (n + 1) (enumerate_from 0 lines)) ≡ all
  next_line old new all within e h =
      elim (slice_get_cases lines n).1 [
        | inl found ↦
            let line : Line = found.0 in
            let rest : List ℕ = flat_map f (drop (n + 1) (enumerate_from 0 lines)) in
            let zero : 0 + n ≡ n = omega arith in
            let first : get_or (enumerate_from 0 lines) n (0, line) ≡ (n, line) =
            get_or-enumerate_from 0 lines n (0, line) within ∙ rw (zero, found.3) refl in
            let split : drop n (enumerate_from 0 lines) ≡ (n, line) ∷ drop (n + 1) (enumerate_from 0 lines) =
            drop_more (enumerate_from 0 lines) n (0, line) (omega (arith, within, length-enumerate_from 0 lines))
            ∙ ap (λ x. x ∷ drop (n + 1) (enumerate_from 0 lines)) first in
            ap (λ xs. xs ++ rest) (e line found.2) ∙ append_assoc old (f (n, line)) rest ∙ ap (λ xs. old ++ flat_map f xs) (sym split) ∙ h
        | inr past ↦ absurd (omega (arith, within, past.0))
      ]

  pub last_line : (old all : List ℕ) → length lines ≤ n → old ++ flat_map f (drop n (enumerate_from 0 lines)) ≡ all → old ≡ all
  last_line old all end h =
      sym (append-nil old) ∙ ap (λ xs. old ++ flat_map f xs) (sym (drop_all n (enumerate_from 0 lines) (omega (arith, end, length-enumerate_from 0 lines)))) ∙ h
