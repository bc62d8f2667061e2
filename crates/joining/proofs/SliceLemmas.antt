-- Joins in a slice of a text.
use Rattle.std.proofs.Common.{◌≡◌, ℕ, ◌+◌, ◌-◌, ◌<◌, ◌≤◌, Bool, ◌&&◌, List, length, take, drop, nat_lt, None, sym, ap, ◌∙◌, inl, inr, arith, length-drop}
use Rattle.std.proofs.lemmas.Bool.{cases_lt, le-ltb, lt-ltb}
use Rattle.std.proofs.lemmas.List.{drop-drop, drop-take, get_or-drop, get_or-take, length-take, take-take}
use Rattle.std.specs.List.{list_all, slice_range}
use Rattle.ucd_bidi.specs.declared.JoiningType.TheVariants.{NonJoining}
use Rattle.joining.specs.Joiners.{is_transparent, joiner_at, joins_after, joins_before}
use Rattle.joining.specs.Joins.{agree, joins}
use Rattle.joining.specs.Pairs.{SlicesJoinAlike}
use Rattle.joining.specs.declared.joiner.Agreement.{Agreement}
use Rattle.joining.specs.declared.joiner.Joiner.{Joiner}

same_test : (i j m n : ℕ) → (i < j → m < n) → (j ≤ i → n ≤ m) → nat_lt i j ≡ nat_lt m n
same_test i j m n less more =
    elim (cases_lt i j) [ inl is ↦ lt-ltb i j is ∙ sym (lt-ltb m n (less is)) | inr is ↦ le-ltb i j is ∙ sym (le-ltb m n (more is)) ]

module _ (text : List Joiner) (from to : ℕ) (end : to ≤ length text) where
  abbrev line : List Joiner
  line = slice_range text from to

  line_length : length line ≡ to - from
  line_length = omega (arith, length-take (to - from) (drop from text), length-drop from text, end)

  line_at : (i : ℕ) → from + i < to → joiner_at line i ≡ joiner_at text (from + i)
  line_at i within =
      let d : Joiner = record { joining = NonJoining; level = None } in get_or-take (to - from) (drop from text) i d (omega (arith, within)) ∙ get_or-drop from text i d

  line_range : (i j : ℕ) → i ≤ j → from + j ≤ to → slice_range line i j ≡ slice_range text (from + i) (from + j)
  line_range i j order within =
      let count : to - from ≡ i + (to - from - i) = omega (arith, order, within) in
      let size : j - i ≡ from + j - (from + i) = omega arith in
      ap (λ n. take (j - i) (drop i (take n (drop from text)))) count ∙ ap (take (j - i)) (drop-take i (to - from - i) (drop from text))
      ∙ take-take (j - i) (to - from - i) (drop i (drop from text)) (omega (arith, order, within)) ∙ ap (take (j - i)) (drop-drop i from text)
      ∙ ap (λ n. take n (drop (from + i) text)) size

  joins_alike : (by : Agreement) (a b : ℕ) → from + b < to → joins by line a b ≡ joins by text (from + a) (from + b)
  unfolding joins
  joins_alike by a b within =
      elim (cases_lt a b) [
        | inr from_b ↦
            ap (λ t. t && nat_lt b (length line) && joins_after (joiner_at line a) && joins_before (joiner_at line b) && list_all is_transparent (slice_range line (a + 1) b)
            && agree by (slice_range line a (b + 1))) (le-ltb a b from_b)
            ∙ sym
            (ap (λ t. t && nat_lt (from + b) (length text) && joins_after (joiner_at text (from + a)) && joins_before (joiner_at text (from + b))
            && list_all is_transparent (slice_range text (from + a + 1) (from + b)) && agree by (slice_range text (from + a) (from + b + 1)))
            (le-ltb (from + a) (from + b) (omega (arith, from_b))))
        | inl order ↦
            let next : from + (a + 1) ≡ from + a + 1 = omega arith in
            let last : from + (b + 1) ≡ from + b + 1 = omega arith in
            parts by (same_test a b (from + a) (from + b) (λ is. omega (arith, is)) (λ is. omega (arith, is)))
            (same_test b (length line) (from + b) (length text) (λ is. omega (arith, within, end)) (λ is. omega (arith, is, within, line_length)))
            (line_at a (omega (arith, order, within))) (line_at b within)
            (line_range (a + 1) b (omega (arith, order)) (omega (arith, within)) ∙ ap (λ i. slice_range text i (from + b)) next)
            (line_range a (b + 1) (omega (arith, order)) (omega (arith, within)) ∙ ap (slice_range text (from + a)) last)
      ]
    where
      parts : {s t u v : Bool} {c d e f : Joiner} {xs ys zs ws : List Joiner} (by : Agreement) → s ≡ t → u ≡ v → c ≡ d → e ≡ f → xs ≡ ys → zs ≡ ws
          → (s && u && joins_after c && joins_before e && list_all is_transparent xs && agree by zs)
          ≡ (t && v && joins_after d && joins_before f && list_all is_transparent ys && agree by ws)
      parts {s} {t} {u} {v} {c} {d} {e} {f} {xs} {ys} {zs} {ws} by order within first second clear levels =
          ap (λ m. m && u && joins_after c && joins_before e && list_all is_transparent xs && agree by zs) order
          ∙ ap (λ m. t && m && joins_after c && joins_before e && list_all is_transparent xs && agree by zs) within
          ∙ ap (λ x. t && v && joins_after x && joins_before e && list_all is_transparent xs && agree by zs) first
          ∙ ap (λ x. t && v && joins_after d && joins_before x && list_all is_transparent xs && agree by zs) second
          ∙ ap (λ is. t && v && joins_after d && joins_before f && list_all is_transparent is && agree by zs) clear
          ∙ ap (λ is. t && v && joins_after d && joins_before f && list_all is_transparent ys && agree by is) levels

pub slices_alike : SlicesJoinAlike
slices_alike by text from to a b end within = joins_alike text from to end by a b within
