-- What a text shows, one block at a time.
use Rattle.std.proofs.Common.{◌≡◌, ℕ, List, ◌∷◌, ◌++◌, length, take, drop, sym, subst, ap, ap₂, ◌∙◌, append_assoc}
use Rattle.std.specs.List.{flat_map}
use Rattle.std.proofs.lemmas.List.{append-nil, nil_from_length}
use Rattle.lines.specs.Layouts.{Rules, cut_by}
use Rattle.sequences.specs.Styled.{Pen, next_paragraph, pen_at_end, styled}
use Rattle.terminal.specs.Texts.{block_page, blocks, shown_blocks, text_page}
use Rattle.terminal.specs.declared.form.Form.{Form}

module _ (rules : Rules) (form : Form) where
  pub next_block : (now : Rules) (pen next : Pen) (rest block after : List ℕ) (n : ℕ) (old new all : List ℕ) → now ≡ rules → block ≡ take n rest → after ≡ drop n rest
      → blocks (cut_by now) rest ≡ take n rest ∷ blocks (cut_by now) (drop n rest)
      → new ≡ old ++ block_page now form (styled pen block) → next ≡ next_paragraph (pen_at_end pen block)
      → old ++ text_page rules form pen rest ≡ all → new ++ text_page rules form next after ≡ all
  next_block now pen next rest block after n old new all e b a split page p h =
      let P : Rules → Type 0 = λ r. blocks (cut_by r) rest ≡ take n rest ∷ blocks (cut_by r) (drop n rest) in
      let first : List ℕ = block_page rules form (styled pen (take n rest)) in
      let more : List ℕ = text_page rules form (next_paragraph (pen_at_end pen (take n rest))) (drop n rest) in
      let whole : text_page rules form pen rest ≡ first ++ more = ap (λ parts. flat_map (block_page rules form) (shown_blocks pen parts)) (subst P e split) in
      let front : new ≡ old ++ first =
      page ∙ ap (λ (r : Rules). old ++ block_page r form (styled pen block)) e ∙ ap (λ xs. old ++ block_page rules form (styled pen xs)) b in
      let back : text_page rules form next after ≡ more =
      ap (λ (q : Pen). text_page rules form q after) p ∙ ap₂ (λ xs ys. text_page rules form (next_paragraph (pen_at_end pen xs)) ys) b a in
      ap₂ (λ (xs ys : List ℕ). xs ++ ys) front back ∙ append_assoc old first more ∙ ap (λ xs. old ++ xs) (sym whole) ∙ h

  pub no_block : (pen : Pen) (rest : List ℕ) (old all : List ℕ) → length rest ≡ 0 → old ++ text_page rules form pen rest ≡ all → old ≡ all
  no_block pen rest old all none h =
      sym (append-nil old) ∙ ap (λ xs. old ++ text_page rules form pen xs) (sym (nil_from_length rest none)) ∙ h
