-- The lines of a paragraph after a change of a part of it.
use Rattle.std.proofs.Common.{◌≡◌, ◌∙◌, ℕ, zero, suc, ◌+◌, ◌-◌, ◌≤◌, List, [], ◌∷◌, ◌++◌, Option, Some, length, map, take, drop, refl, sym, ap, ap₂, subst, arith}
use Rattle.std.specs.Prelude.{slice_get, slice_range}
use Rattle.std.proofs.Math.Seq.{take-append_seam, drop-append_seam}
use Rattle.std.proofs.lemmas.List.{drop-drop, drop-take, length-drop, length-take-le}
use Rattle.std.proofs.lemmas.Option.{none-some, same_Some, slice_get_within}
use Rattle.ucd.specs.declared.tables.Tables.{Tables}
use Rattle.lines.specs.Reordering.{ends_by}
use Rattle.lines.specs.Splicing.{lines_at, lines_to, moved, moved_start, AgreeAfter, AgreeBefore, Analysed, LinesSplice, Rise}
use Rattle.lines.specs.Visual.{Line, line_between}
use Rattle.lines.specs.declared.options.Options.{Options}

-- ---- parts of lists

take_within : {X : Type 0} (xs : List X) (i j : ℕ) → i ≤ j → take i (take j xs) ≡ take i xs
take_within xs zero j le = refl
take_within [] (suc i) zero le = refl
take_within [] (suc i) (suc j) le = refl
take_within (x ∷ xs) (suc i) zero le = absurd (omega (arith, le))
take_within (x ∷ xs) (suc i) (suc j) le = ap (λ (ys : List _). x ∷ ys) (take_within xs i j (omega (arith, le)))

-- the items before index n determine each part before it
pub range_before : {X : Type 0} (xs : List X) (n a e : ℕ) → a ≤ e → e ≤ n → slice_range (take n xs) a e ≡ slice_range xs a e
range_before xs n a e order within =
    let all : n ≡ a + (n - a) = omega (arith, order, within) in
    ap (λ m. take (e - a) (drop a (take m xs))) all
    ∙ ap (take (e - a)) (drop-take a (n - a) xs)
    ∙ take_within (drop a xs) (e - a) (n - a) (omega (arith, within))

same_before : {X : Type 0} (xs ys : List X) (n a e : ℕ) → take n xs ≡ take n ys → a ≤ e → e ≤ n → slice_range ys a e ≡ slice_range xs a e
same_before xs ys n a e same order within =
    sym (range_before ys n a e order within) ∙ sym (ap (λ (zs : List _). slice_range zs a e) same) ∙ range_before xs n a e order within

-- the items from an index on determine each part after it
same_after : {X : Type 0} (xs ys : List X) (u v a e : ℕ) → drop u xs ≡ drop v ys → u ≤ a → slice_range ys (v + (a - u)) (v + (e - u)) ≡ slice_range xs a e
same_after xs ys u v a e same low =
    let size : v + (e - u) - (v + (a - u)) ≡ e - a = omega (arith, low) in
    let place : u + (a - u) ≡ a = omega (arith, low) in
    ap (λ n. take n (drop (v + (a - u)) ys)) size
    ∙ ap (take (e - a)) (sym (drop-drop (a - u) v ys) ∙ ap (drop (a - u)) (sym same) ∙ drop-drop (a - u) u xs)
    ∙ ap (λ i. take (e - a) (drop i xs)) place

-- a list around the item at index i
pub around : (xs : List ℕ) (i s : ℕ) → slice_get xs i ≡ Some s → xs ≡ take i xs ++ s ∷ drop (suc i) xs
around [] i s e = absurd (none-some s (e))
around (x ∷ xs) zero s e = ap (λ m. m ∷ xs) (same_Some x s e)
around (x ∷ xs) (suc i) s e = ap (λ (ys : List ℕ). x ∷ ys) (around xs i s e)

pub dropped : (xs : List ℕ) (i s : ℕ) → slice_get xs i ≡ Some s → drop i xs ≡ s ∷ drop (suc i) xs
dropped [] i s e = absurd (none-some s (e))
dropped (x ∷ xs) zero s e = ap (λ m. m ∷ xs) (same_Some x s e)
dropped (x ∷ xs) (suc i) s e = dropped xs i s e

-- ---- rising numbers

pub rise_low : (low : ℕ) (front : List ℕ) (x : ℕ) (back : List ℕ) → Rise low (front ++ x ∷ back) → low ≤ x
rise_low low [] x back rise = rise.0
rise_low low (a ∷ front) x back rise = omega (arith, rise.0, rise_low (suc a) front x back rise.1)

pub rise_after : (low : ℕ) (front : List ℕ) (x : ℕ) (back : List ℕ) → Rise low (front ++ x ∷ back) → Rise x (x ∷ back)
rise_after low [] x back rise = (omega arith, rise.1)
rise_after low (a ∷ front) x back rise = rise_after (suc a) front x back rise.1

module _ (tables : Tables) (options : Options) (margin : Option ℕ) (base : ℕ) where
  abbrev between : Analysed → ℕ → ℕ → Line
  between of s e = line_between tables options margin base of.text of.levels of.infos s e

  abbrev to : Analysed → ℕ → List ℕ → List Line
  to of end starts = lines_to tables options margin base of end starts

  pub from_is : (of : Analysed) (starts : List ℕ) → lines_at tables options margin base of starts ≡ to of (length of.text) starts
  from_is of [] = refl
  from_is of (s ∷ []) = refl
  from_is of (s ∷ t ∷ starts) = ap (λ (ls : List Line). between of s t ∷ ls) (from_is of (t ∷ starts))

  pub to_append : (of : Analysed) (end : ℕ) (front : List ℕ) (x : ℕ) (back : List ℕ) → to of end (front ++ x ∷ back) ≡ to of x front ++ to of end (x ∷ back)
  to_append of end [] x back = refl
  to_append of end (a ∷ []) x back = refl
  to_append of end (a ∷ c ∷ front) x back = ap (λ (ls : List Line). between of a c ∷ ls) (to_append of end (c ∷ front) x back)

  pub length-to : (of : Analysed) (end : ℕ) (starts : List ℕ) → length (to of end starts) ≡ length starts
  length-to of end [] = refl
  length-to of end (s ∷ []) = refl
  length-to of end (s ∷ t ∷ starts) = ap suc (length-to of end (t ∷ starts))

  -- the first i lines, and those from the b-th one on
  pub take_lines : (of : Analysed) (end : ℕ) (starts : List ℕ) (i s : ℕ) → slice_get starts i ≡ Some s → take i (to of end starts) ≡ to of s (take i starts)
  take_lines of end starts i s found =
      let lines : List Line = to of s (take i starts) in
      let size : length lines ≡ i = length-to of s (take i starts) ∙ length-take-le i starts (omega (arith, slice_get_within starts i s found)) in
      ap (λ (ss : List ℕ). take i (to of end ss)) (around starts i s found)
      ∙ ap (take i) (to_append of end (take i starts) s (drop (suc i) starts))
      ∙ ap (λ n. take n (lines ++ to of end (s ∷ drop (suc i) starts))) (sym size)
      ∙ take-append_seam lines (to of end (s ∷ drop (suc i) starts))

  pub drop_lines : (of : Analysed) (end : ℕ) (starts : List ℕ) (b u : ℕ) → slice_get starts b ≡ Some u → drop b (to of end starts) ≡ to of end (drop b starts)
  drop_lines of end starts b u found =
      let lines : List Line = to of u (take b starts) in
      let size : length lines ≡ b = length-to of u (take b starts) ∙ length-take-le b starts (omega (arith, slice_get_within starts b u found)) in
      ap (λ (ss : List ℕ). drop b (to of end ss)) (around starts b u found)
      ∙ ap (drop b) (to_append of end (take b starts) u (drop (suc b) starts))
      ∙ ap (λ n. drop n (lines ++ to of end (u ∷ drop (suc b) starts))) (sym size)
      ∙ drop-append_seam lines (to of end (u ∷ drop (suc b) starts))
      ∙ ap (to of end) (sym (dropped starts b u found))

  module _ (old new : Analysed) where
    -- a line with the same characters
    same_line : (s e a f : ℕ) → slice_range new.text a f ≡ slice_range old.text s e → slice_range new.levels a f ≡ slice_range old.levels s e
        → slice_range new.infos a f ≡ slice_range old.infos s e → slice_range (ends_by options new.text) a f ≡ slice_range (ends_by options old.text) s e
        → between new a f ≡ record (between old s e) { start = a }
    same_line s e a f text levels infos ends = rw (text, levels, infos, ends) refl

    module _ (n : ℕ) (agree : AgreeBefore options old new n) where
      line_stays : (s e : ℕ) → s ≤ e → e ≤ n → between new s e ≡ between old s e
      line_stays s e order within =
          same_line s e s e (same_before old.text new.text n s e agree.text order within) (same_before old.levels new.levels n s e agree.levels order within)
          (same_before old.infos new.infos n s e agree.infos order within)
          (same_before (ends_by options old.text) (ends_by options new.text) n s e agree.ends order within)

      pub lines_stay : (low : ℕ) (front : List ℕ) (x : ℕ) (back : List ℕ) → Rise low (front ++ x ∷ back) → x ≤ n → to new x front ≡ to old x front
      lines_stay low [] x back rise within = refl
      lines_stay low (a ∷ []) x back rise within = ap (λ line. line ∷ []) (line_stays a x (omega (arith, rise.1.0)) within)
      lines_stay low (a ∷ c ∷ front) x back rise within =
          let below = rise_low (suc c) front x back rise.1.1 in
          ap₂ (λ line (ls : List Line). line ∷ ls) (line_stays a c (omega (arith, rise.1.0)) (omega (arith, below, within))) (lines_stay (suc a) (c ∷ front) x back rise.1 within)

    module _ (u v : ℕ) (agree : AgreeAfter options old new u v) where
      line_moves : (s e : ℕ) → u ≤ s → between new (v + (s - u)) (v + (e - u)) ≡ moved u v (between old s e)
      line_moves s e low =
          same_line s e (v + (s - u)) (v + (e - u)) (same_after old.text new.text u v s e agree.text low) (same_after old.levels new.levels u v s e agree.levels low)
          (same_after old.infos new.infos u v s e agree.infos low)
          (same_after (ends_by options old.text) (ends_by options new.text) u v s e agree.ends low)

      pub lines_move : (low end : ℕ) (starts : List ℕ) → u ≤ low → Rise low starts → to new (v + (end - u)) (map (moved_start u v) starts) ≡ map (moved u v) (to old end starts)
      lines_move low end [] from rise = refl
      lines_move low end (s ∷ []) from rise = ap (λ line. line ∷ []) (line_moves s end (omega (arith, from, rise.0)))
      lines_move low end (s ∷ t ∷ starts) from rise =
          ap₂ (λ line (ls : List Line). line ∷ ls) (line_moves s t (omega (arith, from, rise.0)))
          (lines_move (suc s) end (t ∷ starts) (omega (arith, from, rise.0)) rise.1)

      ends_agree : length new.text ≡ v + (length old.text - u)
      ends_agree =
          omega (arith, agree.within.0, agree.within.1, length-drop u old.text, length-drop v new.text, ap (λ (xs : List ℕ). length xs) agree.text)

pub lines_splice : (tables : Tables) (options : Options) (margin : Option ℕ) (base : ℕ) → LinesSplice tables options margin base
lines_splice tables options margin base old new n u v i s b starts between before after rise found_s within found_u =
    let lines : Analysed → ℕ → List ℕ → List Line = lines_to tables options margin base in
    let end : ℕ = length old.text in
    let later : List ℕ = map (moved_start u v) (drop (suc b) starts) in
    let first : v + (u - u) ≡ v = omega arith in
    let parts = around starts i s found_s in
    let tail : map (moved_start u v) (drop b starts) ≡ v ∷ later = ap (map (moved_start u v)) (dropped starts b u found_u) ∙ ap (λ m. m ∷ later) first in
    let rises : Rise u (drop b starts) =
    subst (Rise u) (sym (dropped starts b u found_u)) (rise_after 0 (take b starts) u (drop (suc b) starts) (subst (Rise 0) (around starts b u found_u) rise)) in
    let back : lines new (length new.text) (v ∷ later) ≡ map (moved u v) (drop b (lines_at tables options margin base old starts)) =
    ap (lines new (length new.text)) (sym tail) ∙ ap (λ m. lines new m (map (moved_start u v) (drop b starts))) (ends_agree tables options margin base old new u v after)
    ∙ lines_move tables options margin base old new u v after u end (drop b starts) (omega arith) rises
    ∙ ap (map (moved u v)) (sym (drop_lines tables options margin base old end starts b u found_u) ∙ ap (drop b) (sym (from_is tables options margin base old starts))) in
    let front : lines new s (take i starts) ≡ take i (lines_at tables options margin base old starts) =
    lines_stay tables options margin base old new n before 0 (take i starts) s (drop (suc i) starts) (subst (Rise 0) parts rise) within
    ∙ sym (take_lines tables options margin base old end starts i s found_s) ∙ ap (take i) (sym (from_is tables options margin base old starts)) in
    from_is tables options margin base new (take i starts ++ ((s ∷ between) ++ map (moved_start u v) (drop b starts)))
    ∙ ap (λ (ss : List ℕ). lines new (length new.text) (take i starts ++ ((s ∷ between) ++ ss))) tail
    ∙ to_append tables options margin base new (length new.text) (take i starts) s (between ++ v ∷ later)
    ∙ ap (λ (ls : List Line). lines new s (take i starts) ++ ls) (to_append tables options margin base new (length new.text) (s ∷ between) v later)
    ∙ ap₂ (λ (xs ys : List Line). xs ++ (lines new v (s ∷ between) ++ ys)) front back
