-- The spaces that are printed for a tab.
use Rattle.std.proofs.Common.{◌≡◌, ℕ, ◌<◌, true, false, List, [], ◌∷◌, length, get_or, replicate, take, sum, Option, None, Some, refl, sym, ap, inl, inr, ◌∙◌, arith}
use Rattle.std.specs.Prelude.{◌==◌, if◌then◌else◌}
use Rattle.std.specs.Option.{is_some}
use Rattle.std.proofs.lemmas.Bool.{cases_Bool, cases_lt, cond-true, cond-false, false≢true, ne_eqb}
use Rattle.std.proofs.lemmas.List.{get_or_past}
use Rattle.std.proofs.lemmas.Nat.{mod_below}
use Rattle.unicode_width.specs.Width.{char_width}
use Rattle.lines.specs.Bytes.{cells}
use Rattle.lines.specs.CharInfos.{columns_of}
use Rattle.lines.specs.Columns.{width_at}
use Rattle.lines.specs.Tabs.{is_tab}
use Rattle.lines.specs.Visual.{Visual, is_measured}
use Rattle.lines.specs.Widths.{widths_of}
use Rattle.lines.proofs.WidthLemmas.{tab_size, tab_wide, width_plain, width_tab}
use Rattle.terminal.specs.Lines.{line_cells}

-- a character or, if `spaces` is not 0, that number of spaces instead
abbrev pub placed : ℕ → ℕ → List ℕ
placed spaces c = if spaces == 0 then c ∷ [] else replicate spaces 32

tab_takes : (n k : ℕ) (text : List ℕ) → k < length text → is_tab n (get_or text k 0) ≡ true → 0 < get_or (widths_of n None text) k 0
tab_takes n k text within tab =
    let some : 0 < n = tab_wide n (get_or text k 0) tab in
    omega (arith, width_tab n k None text within tab, tab_size n k text within tab, mod_below (sum (take k (widths_of n None text))) n some)

none_of : (advances : Option (List ℕ)) → is_some advances ≡ false → advances ≡ None
none_of None e = refl
none_of (Some a) e = absurd (false≢true (sym e))

within_of : (text : List ℕ) (k : ℕ) → get_or text k 0 ≡ 9 → k < length text
within_of text k e = elim (cases_lt k (length text)) [ inl h ↦ h | inr h ↦ absurd (omega (arith, e, get_or_past text k 0 h)) ]

control : columns_of 9 ≡ 0
unfolding char_width
control = refl

placed_some : (n c : ℕ) → 0 < n → placed n c ≡ replicate n 32
placed_some n c some = cond-false (n == 0) (c ∷ []) (replicate n 32) (ne_eqb n 0 (λ e. omega (arith, some, e)))

-- a tab is printed as one space for each of its columns, or unchanged if it has no columns
pub cells_tab : (visual : Visual) (c k : ℕ) → is_measured visual ≡ false → get_or visual.text k 0 ≡ 9 → line_cells visual c k ≡ placed (width_at visual k) c
cells_tab visual c k plain nine =
    let n : ℕ = visual.tab_width in
    let text : List ℕ = visual.text in
    let within : k < length text = within_of text k nine in
    let none : visual.advances ≡ None = none_of visual.advances plain in
    let width : width_at visual k ≡ get_or (widths_of n None text) k 0 = ap (λ a. get_or (widths_of n a text) k 0) none in
    cond-false (is_measured visual) (c ∷ []) (cells visual c k) plain
    ∙ elim (cases_Bool (is_tab n (get_or text k 0))) [
      | inl tab ↦
          let some : 0 < width_at visual k = omega (arith, width, tab_takes n k text within tab) in
          cond-true (is_tab n (get_or text k 0)) (replicate (width_at visual k) 32) (c ∷ []) tab ∙ sym (placed_some (width_at visual k) c some)
      | inr other ↦
          let zero : width_at visual k ≡ 0 = width ∙ width_plain n k text within other ∙ ap columns_of nine ∙ control in
          cond-false (is_tab n (get_or text k 0)) (replicate (width_at visual k) 32) (c ∷ []) other ∙ ap (λ m. placed m c) (sym zero)
    ]
