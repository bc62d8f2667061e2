-- The styles that numbers represent.
use Rattle.std.proofs.Common.{◌≡◌, ℕ, zero, suc, ◌<◌, ◌≤◌, ◌+◌, ◌-◌, List, [], ◌∷◌, ◌++◌, length, get_or, map, take, drop, nat_le, if◌then◌else◌, refl, sym, ap, inl, inr, ◌∙◌, arith}
use Rattle.std.specs.Option.{option_map_or}
use Rattle.std.proofs.lemmas.Bool.{cases_lt, cond-true, cond-false, le-leb, lt-leb}
use Rattle.std.proofs.lemmas.List.{append-nil, drop_all, ext_get_or, get_or-map, length-map, take_all, take_more}
use Rattle.std.proofs.lemmas.Option.{slice_get-get_or}
use Rattle.sequences.specs.Styled.{DEFAULT, Style}
use Rattle.sequences.specs.StyledTexts.{style_at, style_in, with_styles}
use Rattle.sequences.specs.declared.style.StyleRun.{StyleRun}
use Rattle.terminal.specs.Lines.{style_on}
use Rattle.terminal.specs.Numbers.{numbered}
use Rattle.terminal.specs.Paragraphs.{styles_of}

module _ (links : List ℕ) (runs : List StyleRun) where
  pub numbered-run : (n : ℕ) (d : StyleRun) → n < length runs → numbered links runs (suc n) ≡ style_in links (get_or runs n d)
  numbered-run n d within = ap (λ o. option_map_or (style_in links) o DEFAULT) (slice_get-get_or runs n d within)

  -- the style at a position is the style that the number at this position represents
  pub numbered-on : (numbers : List ℕ) (k : ℕ) → style_on (map (numbered links runs) numbers) k ≡ numbered links runs (get_or numbers k 0)
  numbered-on [] k = refl
  numbered-on (n ∷ numbers) zero = refl
  numbered-on (n ∷ numbers) (suc k) = numbered-on numbers k

  -- an appended run sets the style of every index from the start of the run on
  style_at-push : (style : Style) (rs : List StyleRun) (run : StyleRun) (k : ℕ)
      → style_at links style (rs ++ run ∷ []) k ≡ (if nat_le run.start k then style_in links run else style_at links style rs k)
  style_at-push style [] run k = refl
  style_at-push style (first ∷ rs) run k = style_at-push (if nat_le first.start k then style_in links first else style) rs run k

  -- Style numbers of which those from `end` on are correct. The others are 0, and the styles of their
  -- characters depend only on the first `left` runs.
  pub record IsNumbered (len left end : ℕ) (numbers : List ℕ) : Type 0 where
    pub within : left ≤ length runs
    pub short : end ≤ len
    pub long : len ≤ length numbers
    pub done : (k : ℕ) → end ≤ k → k < len → numbered links runs (get_or numbers k 0) ≡ style_at links DEFAULT runs k
    pub rest : (k : ℕ) → k < end → style_at links DEFAULT (take left runs) k ≡ style_at links DEFAULT runs k
    pub zero : (k : ℕ) → k < end → get_or numbers k 0 ≡ 0
    pub known : (k : ℕ) → get_or numbers k 0 ≤ length runs

  -- the last of the first `left` runs determines the style from the start of that run on
  style_at-left : (left : ℕ) (run : StyleRun) (k : ℕ) → 0 < left → left ≤ length runs → run ≡ get_or runs (left - 1) run
      → style_at links DEFAULT (take left runs) k ≡ (if nat_le run.start k then style_in links run else style_at links DEFAULT (take (left - 1) runs) k)
  style_at-left left run k some within r =
      let whole : left - 1 + 1 ≡ left = omega (arith, some) in
      ap (λ n. style_at links DEFAULT (take n runs) k) (sym whole)
      ∙ ap (λ rs. style_at links DEFAULT rs k) (take_more runs (left - 1) run (omega (arith, some, within)) ∙ ap (λ x. take (left - 1) runs ++ x ∷ []) (sym r))
      ∙ style_at-push DEFAULT (take (left - 1) runs) run k

  -- before the start of that run, the other runs among the first `left` determine the style
  rest_before : (left : ℕ) (run : StyleRun) (k : ℕ) → 0 < left → left ≤ length runs → run ≡ get_or runs (left - 1) run → k < run.start
      → style_at links DEFAULT (take (left - 1) runs) k ≡ style_at links DEFAULT (take left runs) k
  rest_before left run k some within r before =
      sym (style_at-left left run k some within r
      ∙ cond-false (nat_le run.start k) (style_in links run) (style_at links DEFAULT (take (left - 1) runs) k) (lt-leb run.start k before))

  run_is : (left : ℕ) (run : StyleRun) (k : ℕ) → 0 < left → left ≤ length runs → run ≡ get_or runs (left - 1) run → run.start ≤ k
      → numbered links runs left ≡ style_at links DEFAULT (take left runs) k
  run_is left run k some within r from =
      let e : left ≡ suc (left - 1) = omega (arith, some) in
      ap (numbered links runs) e ∙ numbered-run (left - 1) run (omega (arith, some, within)) ∙ ap (style_in links) (sym r)
      ∙ sym (style_at-left left run k some within r
      ∙ cond-true (nat_le run.start k) (style_in links run) (style_at links DEFAULT (take (left - 1) runs) k) (le-leb run.start k from))

  pub step_put : (len left end : ℕ) (run : StyleRun) (old new : List ℕ) → IsNumbered len left end old → 0 < left → run ≡ get_or runs (left - 1) run → run.start < end
      → length new ≡ length old → ((k : ℕ) → run.start ≤ k → k < end → get_or new k 0 ≡ left) → ((k : ℕ) → k < run.start → get_or new k 0 ≡ get_or old k 0)
      → ((k : ℕ) → end ≤ k → get_or new k 0 ≡ get_or old k 0) → IsNumbered len (left - 1) run.start new
  step_put len left end run old new at some r under same inside before after = record {
    within = omega (arith, at.within);
    short = omega (arith, at.short, under);
    long = omega (arith, at.long, same);
    done = λ k from below. elim (cases_lt k end) [
      | inl inner ↦ ap (numbered links runs) (inside k from inner) ∙ run_is left run k some at.within r from ∙ at.rest k inner
      | inr past ↦ ap (numbered links runs) (after k past) ∙ at.done k past below
    ];
    rest = λ k below. rest_before left run k some at.within r below ∙ at.rest k (omega (arith, below, under));
    zero = λ k below. before k below ∙ at.zero k (omega (arith, below, under));
    known = λ k. elim (cases_lt k run.start) [
      | inl h ↦ omega (arith, before k h, at.known k)
      | inr h ↦ elim (cases_lt k end) [ inl i ↦ omega (arith, inside k h i, at.within) | inr p ↦ omega (arith, after k p, at.known k) ]
    ];
  }

  pub step_skip : (len left end : ℕ) (run : StyleRun) (numbers : List ℕ) → IsNumbered len left end numbers → 0 < left → run ≡ get_or runs (left - 1) run → end ≤ run.start
      → IsNumbered len (left - 1) end numbers
  step_skip len left end run numbers at some r over = record {
    within = omega (arith, at.within);
    short = at.short;
    long = at.long;
    done = at.done;
    rest = λ k below. rest_before left run k some at.within r (omega (arith, below, over)) ∙ at.rest k below;
    zero = at.zero;
    known = at.known;
  }

  -- ---- characters and styles that belong together
  pub characters-with : (n : ℕ) (characters : List ℕ) → map (λ c. c.0) (with_styles links runs n characters) ≡ characters
  characters-with n [] = refl
  characters-with n (c ∷ characters) = ap (λ xs. c ∷ xs) (characters-with (n + 1) characters)

  styles-len : (n : ℕ) (characters : List ℕ) → length (styles_of (with_styles links runs n characters)) ≡ length characters
  styles-len n [] = refl
  styles-len n (c ∷ characters) = ap suc (styles-len (n + 1) characters)

  styles-at : (n k : ℕ) (characters : List ℕ) → k < length characters → get_or (styles_of (with_styles links runs n characters)) k DEFAULT ≡ style_at links DEFAULT runs (n + k)
  styles-at n k [] within = absurd (omega (arith, within))
  styles-at n zero (c ∷ characters) within = let e : n ≡ n + 0 = omega arith in ap (style_at links DEFAULT runs) e
  styles-at n (suc k) (c ∷ characters) within =
      let e : n + 1 + k ≡ n + suc k = omega arith in
      styles-at (n + 1) k characters (omega (arith, within)) ∙ ap (style_at links DEFAULT runs) e

  pub numbers_are : (characters numbers : List ℕ) → length numbers ≡ length characters
      → ((k : ℕ) → k < length characters → numbered links runs (get_or numbers k 0) ≡ style_at links DEFAULT runs k)
      → map (numbered links runs) numbers ≡ styles_of (with_styles links runs 0 characters)
  numbers_are characters numbers same each =
      ext_get_or DEFAULT (map (numbered links runs) numbers) (styles_of (with_styles links runs 0 characters))
      (length-map numbers (numbered links runs) ∙ same ∙ sym (styles-len 0 characters))
      (λ k within.
      let below : k < length characters = omega (arith, within, length-map numbers (numbered links runs), same) in
      let zero_k : 0 + k ≡ k = omega arith in
      get_or-map (numbered links runs) numbers k 0 DEFAULT (omega (arith, below, same)) ∙ each k below
      ∙ sym (styles-at 0 k characters below ∙ ap (style_at links DEFAULT runs) zero_k))

-- after its items have been written as a slice, a list holds the written items
pub written_back : (len : ℕ) (new items : List ℕ) → length new ≡ length items → length items ≤ len → take len (new ++ drop (length new) items) ≡ new
written_back len new items same e =
    ap (λ xs. take len (new ++ xs)) (drop_all (length new) items (omega (arith, same))) ∙ ap (take len) (append-nil new) ∙ take_all len new (omega (arith, same, e))
