-- Appending the lines of a text's first paragraphs to a page, one paragraph at a time.
use Rattle.std.proofs.Common.{◌≡◌, ℕ, suc, ◌+◌, ◌<◌, ◌≤◌, Bool, true, List, [], ◌∷◌, ◌++◌, length, take, drop, Some, None, sym, subst, ap, ◌∙◌, arith}
use Rattle.std.specs.List.{concat}
use Rattle.std.proofs.lemmas.Bool.{and_parts, leb-true}
use Rattle.std.proofs.lemmas.List.{append_assoc, append-nil, length-append, length-drop, length-take-le}
use Rattle.std.proofs.lemmas.List.Folds.{concat-append}
use Rattle.std.proofs.lemmas.Grind.{flat_map-append}
use Rattle.bidi.specs.Cuts.{SplitsAt, paragraphs}
use Rattle.bidi.specs.Pieces.{ParagraphsArePieces}
use Rattle.lines.specs.Engine.{Prints}
use Rattle.lines.specs.Layouts.{Rules, cut_by}
use Rattle.lines.specs.Pages.{page, paragraph_bytes}
use Rattle.lines.specs.declared.engine.Engine.{Engine}
use Rattle.lines.specs.declared.printing.print.Print.{Print}
use Rattle.text_run.specs.Counts.{PrintsAtMost}
use Rattle.text_run.specs.TextRun.{are_within, is_within}
use Rattle.text_run.specs.Streaming.{IsFront, IsOpen, Pushed}
use Rattle.text_run.proofs.CountLemmas.{at_most_more, prints_more}
use Rattle.text_run.proofs.Fronts.{front_none, front_one, front_join}

-- if no paragraph is too long, the first one ends within the limit, and none of the others is too long
pub first_within : (is_cut : ℕ → ℕ → Bool) (rest : List ℕ) (k : ℕ) → are_within (paragraphs is_cut rest) ≡ true
    → SplitsAt is_cut rest (Some k) → (k ≤ 1048576) × (are_within (paragraphs is_cut (drop k rest)) ≡ true)
first_within is_cut rest k within splits =
    let both = and_parts (is_within (take k rest)) (are_within (paragraphs is_cut (drop k rest))) (sym (ap are_within splits.2) ∙ within) in
    (omega (arith, leb-true (length (take k rest)) 1048576 both.0, length-take-le k rest (omega (arith, splits.1))), both.1)

only_within : (is_cut : ℕ → ℕ → Bool) (rest : List ℕ) → are_within (paragraphs is_cut rest) ≡ true → SplitsAt is_cut rest None → length rest ≤ 1048576
only_within is_cut [] within splits = omega arith
only_within is_cut (a ∷ rest) within splits =
    let both = and_parts (is_within (a ∷ rest)) true (sym (ap are_within (splits (omega arith))) ∙ within) in
    leb-true (length (a ∷ rest)) 1048576 both.0

module _ (rules : Rules) (width : ℕ) (print : Print) (text : List ℕ) (before : List ℕ) (engine_old : Engine) where
  -- The lines of the first paragraphs are on the page. The first `seen` characters of the rest have no paragraph
  -- boundary, and no paragraph of the rest is too long.
  pub record PushedSoFar (rest : List ℕ) (seen : ℕ) (after : List ℕ) (engine : Engine) : Type 0 where
    pub pars : List (List ℕ)
    pub front : IsFront (cut_by rules) pars text rest
    pub lines : after ≡ before ++ page rules width print pars
    pub uncut : SplitsAt (cut_by rules) (take seen rest) None
    pub within : are_within (paragraphs (cut_by rules) rest) ≡ true
    pub counts : Prints (length (concat pars)) print engine_old engine
    pub at_most : PrintsAtMost (length (concat pars)) print engine_old engine

  pub pushed_none : (seen : ℕ) → SplitsAt (cut_by rules) (take seen text) None
      → are_within (paragraphs (cut_by rules) text) ≡ true → Prints 0 print engine_old engine_old
      → PrintsAtMost 0 print engine_old engine_old → PushedSoFar text seen before engine_old
  pushed_none seen uncut within counts at_most =
      record { pars = []; front = front_none (cut_by rules) text; lines = sym (append-nil before); uncut = uncut; within = within; counts = counts; at_most = at_most }

  pub pushed_more : (rest paragraph after : List ℕ) (seen k : ℕ) (lines_old more : List ℕ) (engine engine_new : Engine)
      → SplitsAt (cut_by rules) rest (Some k) → paragraph ≡ take k rest → after ≡ drop k rest
      → more ≡ lines_old ++ paragraph_bytes rules width print paragraph → Prints (length paragraph) print engine engine_new → PrintsAtMost (length paragraph) print engine engine_new
      → PushedSoFar rest seen lines_old engine → PushedSoFar after 0 more engine_new
  pushed_more rest paragraph after seen k lines_old more engine engine_new splits paragraph_is after_is more_is counts at_most so_far =
      let both = first_within (cut_by rules) rest k so_far.within splits in
      let one = front_one (cut_by rules) rest paragraph after k splits both.0 paragraph_is after_is in
      let len : length (concat so_far.pars) + length paragraph ≡ length (concat (so_far.pars ++ paragraph ∷ [])) =
      omega (arith, ap length (concat-append so_far.pars (paragraph ∷ [])), length-append (concat so_far.pars) (concat (paragraph ∷ [])), ap length (append-nil paragraph)) in
      record {
        pars = so_far.pars ++ paragraph ∷ [];
        front = front_join (cut_by rules) so_far.pars (paragraph ∷ []) text rest after so_far.front one;
        lines = more_is ∙ ap (λ t. t ++ paragraph_bytes rules width print paragraph) so_far.lines
            ∙ append_assoc before (page rules width print so_far.pars) (paragraph_bytes rules width print paragraph)
            ∙ ap (λ t. before ++ (page rules width print so_far.pars ++ t)) (sym (append-nil (paragraph_bytes rules width print paragraph)))
            ∙ ap (λ t. before ++ t) (sym (flat_map-append (paragraph_bytes rules width print) so_far.pars (paragraph ∷ [])));
        uncut = λ some. absurd (omega arith);
        within = ap (λ t. are_within (paragraphs (cut_by rules) t)) after_is ∙ both.1;
        counts = subst (λ n. Prints n print engine_old engine_new) len (prints_more print engine_old engine engine_new (length (concat so_far.pars)) (length paragraph) so_far.counts counts);
        at_most = at_most_more print engine_old engine engine_new (length (concat so_far.pars)) (length paragraph) _ so_far.at_most at_most (omega (arith, len));
      }

  pub pushed_rest : (rest : List ℕ) (seen : ℕ) (after : List ℕ) (engine : Engine) → SplitsAt (cut_by rules) rest None
      → PushedSoFar rest seen after engine → Pushed rules width print text rest before after engine_old engine
  pushed_rest rest seen after engine splits so_far =
      record { pars = so_far.pars; front = so_far.front; lines = so_far.lines; counts = so_far.counts; left = record { uncut = splits; short = only_within (cut_by rules) rest so_far.within splits } }

  -- the counters rise by at most the length of the text, even if memory runs out during the next paragraph
  pub pushed_at_most : (rest : List ℕ) (seen n : ℕ) (after : List ℕ) (engine engine_new : Engine)
      → PushedSoFar rest seen after engine → PrintsAtMost n print engine engine_new → n ≤ length rest
      → PrintsAtMost (length text) print engine_old engine_new
  pushed_at_most rest seen n after engine engine_new so_far at_most few =
      at_most_more print engine_old engine engine_new (length (concat so_far.pars)) n (length text) so_far.at_most at_most
      (omega (arith, few, ap length so_far.front.whole, length-append (concat so_far.pars) rest))

-- if the rest of a text is its last paragraph, the lines of the first paragraphs and of the rest are the page of the text
pub page_whole : (rules : Rules) (width : ℕ) (print : Print) (text rest before after more : List ℕ) (pars : List (List ℕ))
    → IsFront (cut_by rules) pars text rest → IsOpen (cut_by rules) rest → 0 < length rest
    → after ≡ before ++ page rules width print pars → more ≡ after ++ paragraph_bytes rules width print rest
    → more ≡ before ++ page rules width print (paragraphs (cut_by rules) text)
page_whole rules width print text rest before after more pars front left some after_is more_is =
    let is_cut = cut_by rules in
    let bytes = paragraph_bytes rules width print in
    let parts : paragraphs is_cut text ≡ pars ++ rest ∷ [] =
    ap (paragraphs is_cut) (sym (append-nil text)) ∙ front.cuts [] ∙ ap (λ t. pars ++ paragraphs is_cut t) (append-nil rest)
    ∙ ap (λ ps. pars ++ ps) (left.uncut some) in
    let lines : page rules width print pars ++ bytes rest ≡ page rules width print (pars ++ rest ∷ []) =
    ap (λ t. page rules width print pars ++ t) (sym (append-nil (bytes rest))) ∙ sym (flat_map-append bytes pars (rest ∷ [])) in
    more_is ∙ ap (λ t. t ++ bytes rest) after_is ∙ append_assoc before (page rules width print pars) (bytes rest)
    ∙ ap (λ t. before ++ t) lines ∙ ap (λ ps. before ++ page rules width print ps) (sym parts)

-- if a text has no paragraph boundary, the text after its first paragraphs has none
pub rest_uncut : ParagraphsArePieces → (is_cut : ℕ → ℕ → Bool) (text rest : List ℕ) (pars : List (List ℕ)) (k : ℕ)
    → IsFront is_cut pars text rest → SplitsAt is_cut rest (Some k) → SplitsAt is_cut text None → ⊥
rest_uncut law is_cut text rest pars k front splits none =
    let some : 0 < length text = omega (arith, splits.1, ap length front.whole, length-append (concat pars) rest) in
    let parts : text ∷ [] ≡ pars ++ paragraphs is_cut rest =
    sym (none some) ∙ ap (paragraphs is_cut) (sym (append-nil text)) ∙ front.cuts [] ∙ ap (λ t. pars ++ paragraphs is_cut t) (append-nil rest) in
    let count : 1 ≡ length pars + suc (length (paragraphs is_cut (drop k rest))) =
    ap length parts ∙ length-append pars (paragraphs is_cut rest) ∙ ap (λ (ps : List (List ℕ)). length pars + length ps) splits.2 in
    let empty : length (drop k rest) ≡ 0 = no_pieces (paragraphs is_cut (drop k rest)) (drop k rest) (law.whole is_cut (drop k rest)) (omega (arith, count)) in
    omega (arith, empty, length-drop k rest, splits.1)
  where
    no_pieces : (ps : List (List ℕ)) (t : List ℕ) → concat ps ≡ t → length ps ≡ 0 → length t ≡ 0
    no_pieces [] t whole zero_is = ap length (sym whole)
    no_pieces (p ∷ ps) t whole zero_is = absurd (omega (arith, zero_is))
