-- The grapheme cluster of a character.
use Rattle.std.proofs.Common.{◌≡◌, ℕ, ◌+◌, ◌-◌, ◌<◌, ◌≤◌, nat_le, List, [], length, get_or, sum_by, Option, Some, None, if◌then◌else◌, refl, sym, ap, ap₂, ◌∙◌, arith}
use Rattle.std.specs.List.{All, slice_get}
use Rattle.std.proofs.lemmas.Bool.{cond-true, cond-false, le-leb, lt-leb}
use Rattle.lines.specs.Layouts.{Layout, Rules}
use Rattle.store.specs.Finding.{Finds}
use Rattle.store.specs.declared.found.Found.{Found}
use Rattle.session.specs.Clusters.{cluster_at, cluster_in}
use Rattle.session.specs.Kept.{pars_of, text_of}
use Rattle.session.specs.Places.{IsLined, count_to, paragraph_starts}
use Rattle.session.specs.Reasons.{reasons_at, reasons_in}
use Rattle.session.specs.Touched.{start_of}
use Rattle.session.specs.Words.{word_at, word_by}
use Rattle.lines.specs.Words.{word_ends}
use Rattle.session.proofs.BorderLemmas.{chars_of, lines_of, front_is, start_of-is, sum_whole, item_read, text_read}
use Rattle.session.proofs.PlaceLemmas.{count_paragraphs}

pub no_cluster : (kept : List Layout) (pos : ℕ) → length (text_of kept) ≤ pos → None ≡ cluster_at kept pos
no_cluster kept pos past = sym (cond-true (nat_le (length (text_of kept)) pos) None _ (le-leb (length (text_of kept)) pos past))

pub no_reasons : (rules : Rules) (kept : List Layout) (pos : ℕ) → length (text_of kept) ≤ pos → None ≡ reasons_at rules kept pos
no_reasons rules kept pos past = sym (cond-true (nat_le (length (text_of kept)) pos) None _ (le-leb (length (text_of kept)) pos past))

pub no_word : (kept : List Layout) (pos : ℕ) → length (text_of kept) ≤ pos → None ≡ word_at kept pos
no_word kept pos past = sym (cond-true (nat_le (length (text_of kept)) pos) None _ (le-leb (length (text_of kept)) pos past))

module _ (kept : List Layout) (pos : ℕ) (found : Found) (f : Finds chars_of chars_of lines_of kept pos found) (l : Layout) (read : Some l ≡ slice_get kept found.index) (lined : All IsLined kept) where
  -- a function applied to the start and the text of the paragraph that contains `pos`; `None` past the end
  abbrev of_paragraph : {A : Type 0} → (ℕ → List ℕ → Option A) → Option A
  of_paragraph of =
      let i = count_to pos (paragraph_starts kept) - 1 in
      (if nat_le (length (text_of kept)) pos then None else of (start_of (pars_of kept) i) (get_or (pars_of kept) i []))

  pub cluster-fits : (total n : ℕ) → total ≡ sum_by chars_of kept → n ≤ length l.text → pos - found.rest + n ≤ total
  cluster-fits total n is few = omega (arith, is, few, f.rest, sum_whole chars_of kept pos found f chars_of, ap chars_of (item_read chars_of kept pos found f l read))

  -- applying the function to the found paragraph gives this result
  read-in : {A : Type 0} (of : ℕ → List ℕ → Option A) → pos < length (text_of kept)
      → of (pos - found.rest) l.text ≡ of_paragraph of
  read-in of within =
      let i : count_to pos (paragraph_starts kept) - 1 ≡ found.index = omega (arith, count_paragraphs kept pos found f l read lined _ refl) in
      let start : start_of (pars_of kept) found.index ≡ pos - found.rest = omega (arith, f.rest, start_of-is kept found.index ∙ ap (sum_by chars_of) (front_is chars_of kept pos found f)) in
      let text : get_or (pars_of kept) found.index [] ≡ l.text = text_read kept found.index (Some l) read in
      sym (cond-false (nat_le (length (text_of kept)) pos) None _ (lt-leb (length (text_of kept)) pos within)
      ∙ ap (λ n. of (start_of (pars_of kept) n) (get_or (pars_of kept) n [])) i
      ∙ ap₂ of start text)

  pub cluster-read : pos < length (text_of kept) → Some (cluster_in (pos - found.rest) l.text pos) ≡ cluster_at kept pos
  cluster-read = read-in (λ n cs. Some (cluster_in n cs pos))

  pub word-read : pos < length (text_of kept) → Some (word_by (pos - found.rest) l.text (word_ends l.text) (pos - (pos - found.rest))) ≡ word_at kept pos
  word-read = read-in (λ n cs. Some (word_by n cs (word_ends cs) (pos - n)))

  pub reasons-read : (rules : Rules) → pos < length (text_of kept)
      → reasons_in rules (pos - found.rest) l.text (pos - (pos - found.rest)) ≡ reasons_at rules kept pos
  reasons-read rules = read-in (λ n cs. reasons_in rules n cs (pos - n))

  pub cluster-rest : pos - (pos - found.rest) ≡ found.rest
  cluster-rest = omega (arith, f.rest)
