-- Appending characters, runs and links to characters with styles.
use Rattle.std.proofs.Common.{◌≡◌, ℕ, suc, ◌+◌, ◌<◌, ◌≤◌, get_or, ◌-◌, true, List, [], ◌∷◌, ◌++◌, length, map, take, drop, nat_le, if◌then◌else◌, refl, sym, ap, ◌∙◌, arith}
use Rattle.std.specs.Prelude.{All, OnErr, Result, Ok, Err}
use Rattle.std.proofs.lemmas.Bool.{cond-true, cond-false, le-leb, lt-leb}
use Rattle.std.proofs.lemmas.List.{drop-append-le, take-append-le, length-drop, take_all, take_more}
use Rattle.sequences.specs.SameLooks.{same_look}
use Rattle.sequences.specs.declared.look.TheConstants.{PLAIN}
use Rattle.sequences.proofs.SameLookLemmas.{same_look-true}
use Rattle.sequences.specs.Styled.{DEFAULT, Style}
use Rattle.sequences.specs.StyledTexts.{style_at, style_in, style_of, with_styles}
use Rattle.sequences.specs.declared.look.Look.{Look}
use Rattle.sequences.specs.declared.style.Link.{Link}
use Rattle.sequences.specs.declared.style.StyleRun.{StyleRun}

-- a non-empty list is all its elements except the last, followed by the last element
pub last_split : {X : Type 0} (xs : List X) (x : X) → 0 < length xs → x ≡ get_or xs (length xs - 1) x → xs ≡ take (length xs - 1) xs ++ x ∷ []
last_split xs x some e =
    let whole : length xs - 1 + 1 ≡ length xs = omega arith in
    sym (take_all (length xs - 1 + 1) xs (omega arith)) ∙ take_more xs (length xs - 1) x (omega arith)
    ∙ ap (λ y. take (length xs - 1) xs ++ y ∷ []) (sym e)

module _ (links : List ℕ) where
  -- an appended run sets the style of every index from the start of the run on
  style_at-push : (style : Style) (runs : List StyleRun) (run : StyleRun) (k : ℕ)
      → style_at links style (runs ++ run ∷ []) k ≡ (if nat_le run.start k then style_in links run else style_at links style runs k)
  style_at-push style [] run k = refl
  style_at-push style (first ∷ runs) run k = style_at-push (if nat_le first.start k then style_in links first else style) runs run k

  pub style_at-from : (runs : List StyleRun) (run : StyleRun) (k : ℕ) → run.start ≤ k → style_at links DEFAULT (runs ++ run ∷ []) k ≡ style_in links run
  style_at-from runs run k from =
      style_at-push DEFAULT runs run k ∙ cond-true (nat_le run.start k) (style_in links run) (style_at links DEFAULT runs k) (le-leb run.start k from)

  style_at-before : (runs : List StyleRun) (run : StyleRun) (k : ℕ) → k < run.start → style_at links DEFAULT (runs ++ run ∷ []) k ≡ style_at links DEFAULT runs k
  style_at-before runs run k before =
      style_at-push DEFAULT runs run k ∙ cond-false (nat_le run.start k) (style_in links run) (style_at links DEFAULT runs k) (lt-leb run.start k before)

  -- an appended run that starts at or after the end of the characters changes no character's style
  pub with_styles-run : (runs : List StyleRun) (run : StyleRun) (k : ℕ) (characters : List ℕ) → k + length characters ≤ run.start
      → with_styles links (runs ++ run ∷ []) k characters ≡ with_styles links runs k characters
  with_styles-run runs run k [] e = refl
  with_styles-run runs run k (c ∷ characters) e =
      ap (λ style. (c, style) ∷ with_styles links (runs ++ run ∷ []) (k + 1) characters) (style_at-before runs run k (omega arith))
      ∙ ap (λ rest. (c, style_at links DEFAULT runs k) ∷ rest) (with_styles-run runs run (k + 1) characters (omega arith))

  pub with_styles-push : (runs : List StyleRun) (k : ℕ) (characters : List ℕ) (c : ℕ)
      → with_styles links runs k (characters ++ c ∷ []) ≡ with_styles links runs k characters ++ (c, style_at links DEFAULT runs (k + length characters)) ∷ []
  with_styles-push runs k [] c = let e : k ≡ k + 0 = omega arith in ap (λ n. (c, style_at links DEFAULT runs n) ∷ []) e
  with_styles-push runs k (d ∷ characters) c =
      let e : k + 1 + length characters ≡ k + length (d ∷ characters) = omega arith in
      ap (λ rest. (d, style_at links DEFAULT runs k) ∷ rest)
      (with_styles-push runs (k + 1) characters c ∙ ap (λ n. with_styles links runs (k + 1) characters ++ (c, style_at links DEFAULT runs n) ∷ []) e)

  -- the style at an index at or after the start of the last run is the style of that run
  pub style_at-last : (runs : List StyleRun) (run : StyleRun) (n : ℕ) → 0 < length runs → run ≡ get_or runs (length runs - 1) run → run.start ≤ n
      → style_at links DEFAULT runs n ≡ style_in links run
  style_at-last runs run n some e from =
      ap (λ rs. style_at links DEFAULT rs n) (last_split runs run some e) ∙ style_at-from (take (length runs - 1) runs) run n from

  pub style_of-same : (look other : Look) (link : Link) → same_look look other ≡ true → style_of links look link ≡ style_of links other link
  style_of-same look other link e = ap (λ l. style_of links l link) (same_look-true look other e)

  pub style_of-default : (link : Link) → link.len ≡ 0 → style_of links PLAIN link ≡ DEFAULT
  style_of-default link e =
      let f : ℕ → Style = λ n. record { look = PLAIN; link = take n (drop link.start links) } in ap f e

  pub style_at-none : (runs : List StyleRun) (n : ℕ) → length runs ≡ 0 → style_at links DEFAULT runs n ≡ DEFAULT
  style_at-none [] n e = refl
  style_at-none (run ∷ runs) n e = absurd (omega arith)

  -- a character that is appended after its run was started has the style of the run
  pub push_is : (runs : List StyleRun) (characters more : List ℕ) (c : ℕ) (style : Style) (before : List (ℕ × Style)) → more ≡ characters ++ c ∷ []
      → style_at links DEFAULT runs (length characters) ≡ style → with_styles links runs 0 characters ≡ before
      → with_styles links runs 0 more ≡ before ++ (c, style) ∷ []
  push_is runs characters more c style before e at text =
      let n : 0 + length characters ≡ length characters = omega arith in
      ap (with_styles links runs 0) e ∙ with_styles-push runs 0 characters c
      ∙ ap (λ k. with_styles links runs 0 characters ++ (c, style_at links DEFAULT runs k) ∷ []) n
      ∙ ap (λ s. with_styles links runs 0 characters ++ (c, s) ∷ []) at ∙ ap (λ t. t ++ (c, style) ∷ []) text

pub on_err : {T E P : Type 0} (r : Result T E) → P → OnErr r P
on_err (Ok x) p = tt
on_err (Err e) p = p

-- all characters from the start of the last run on have the same style
module _ (links : List ℕ) where
  style_at-later : (style : Style) (runs : List StyleRun) (n k : ℕ) → All (λ run. run.start ≤ n) runs → n ≤ k
      → style_at links style runs k ≡ style_at links style runs n
  style_at-later style [] n k starts le = refl
  style_at-later style (run ∷ runs) n k starts le =
      let here : run.start ≤ n = starts 0 run (omega arith) in
      ap (λ b. style_at links (if b then style_in links run else style) runs k) (le-leb run.start k (omega arith) ∙ sym (le-leb run.start n here))
      ∙ style_at-later (if nat_le run.start n then style_in links run else style) runs n k (λ i d h. starts (suc i) d (omega arith)) le

  with_styles-later : (runs : List StyleRun) (n k : ℕ) (characters : List ℕ) → All (λ run. run.start ≤ n) runs → n ≤ k
      → with_styles links runs k characters ≡ map (λ c. (c, style_at links DEFAULT runs n)) characters
  with_styles-later runs n k [] starts le = refl
  with_styles-later runs n k (c ∷ characters) starts le =
      ap (λ style. (c, style) ∷ with_styles links runs (k + 1) characters) (style_at-later DEFAULT runs n k starts le)
      ∙ ap (λ rest. (c, style_at links DEFAULT runs n) ∷ rest) (with_styles-later runs n (k + 1) characters starts (omega arith))

  with_styles-append : (runs : List StyleRun) (k : ℕ) (characters more : List ℕ)
      → with_styles links runs k (characters ++ more) ≡ with_styles links runs k characters ++ with_styles links runs (k + length characters) more
  with_styles-append runs k [] more = ap (λ n. with_styles links runs n more) (let e : k ≡ k + 0 = omega arith in e)
  with_styles-append runs k (c ∷ characters) more =
      ap (λ rest. (c, style_at links DEFAULT runs k) ∷ rest)
      (with_styles-append runs (k + 1) characters more
      ∙ ap (λ n. with_styles links runs (k + 1) characters ++ with_styles links runs n more) (let e : k + 1 + length characters ≡ k + length (c ∷ characters) = omega arith in e))

  -- characters that are appended after their run was started all have the style of the run
  pub push_all_is : (runs : List StyleRun) (characters more all : List ℕ) (style : Style) (before : List (ℕ × Style)) → all ≡ characters ++ more
      → All (λ run. run.start ≤ length characters) runs → style_at links DEFAULT runs (length characters) ≡ style → with_styles links runs 0 characters ≡ before
      → with_styles links runs 0 all ≡ before ++ map (λ c. (c, style)) more
  push_all_is runs characters more all style before e starts at text =
      ap (with_styles links runs 0) e ∙ with_styles-append runs 0 characters more
      ∙ ap (λ xs. xs ++ with_styles links runs (0 + length characters) more) text
      ∙ ap (λ xs. before ++ xs) (with_styles-later runs (length characters) (0 + length characters) more starts (omega arith))
      ∙ ap (λ (s : Style). before ++ map (λ c. (c, s)) more) at

-- appending links changes no character's style
module _ (links more : List ℕ) where
  style_in-links : (run : StyleRun) → run.link.start + run.link.len ≤ length links → style_in (links ++ more) run ≡ style_in links run
  style_in-links run within =
      let size = length-drop run.link.start links in
      ap (λ link. let style : Style = record { look = run.look; link = link } in style)
      (ap (take run.link.len) (drop-append-le run.link.start links more (omega arith))
      ∙ take-append-le run.link.len (drop run.link.start links) more (omega arith))

  style_at-links : (style : Style) (runs : List StyleRun) (k : ℕ) → All (λ run. run.link.start + run.link.len ≤ length links) runs
      → style_at (links ++ more) style runs k ≡ style_at links style runs k
  style_at-links style [] k linked = refl
  style_at-links style (run ∷ runs) k linked =
      ap (λ s. style_at (links ++ more) (if nat_le run.start k then s else style) runs k) (style_in-links run (linked 0 run (omega arith)))
      ∙ style_at-links (if nat_le run.start k then style_in links run else style) runs k (λ i d h. linked (suc i) d (omega arith))

  pub with_styles-links : (runs : List StyleRun) (k : ℕ) (characters : List ℕ) → All (λ run. run.link.start + run.link.len ≤ length links) runs
      → with_styles (links ++ more) runs k characters ≡ with_styles links runs k characters
  with_styles-links runs k [] linked = refl
  with_styles-links runs k (c ∷ characters) linked =
      ap (λ style. (c, style) ∷ with_styles (links ++ more) runs (k + 1) characters) (style_at-links DEFAULT runs k linked)
      ∙ ap (λ rest. (c, style_at links DEFAULT runs k) ∷ rest) (with_styles-links runs (k + 1) characters linked)
