-- Which visual lines two layouts share if the lines of one are those of the other, except for a part in the middle.
use Rattle.std.proofs.Common.{◌≡◌, ◌∙◌, ℕ, zero, suc, ◌+◌, ◌-◌, ◌<◌, ◌≤◌, ◌==◌, false, List, ◌++◌, length, map, take, drop, get_or, None, Some, inl, inr, refl, sym, ap, ap₂, subst, arith}
use Rattle.std.specs.Prelude.{option_map, slice_get, slice_range}
use Rattle.std.proofs.lemmas.Bool.{cases_lt}
use Rattle.std.proofs.lemmas.Bool.Decides.{nat_tests}
use Rattle.std.proofs.lemmas.List.{drop-drop, drop-take, get_or-append-add, get_or-drop, get_or-take, length-append, length-drop, length-map, length-take-le, take-take}
use Rattle.std.proofs.lemmas.Option.{get_or_from_slice_get, slice_get-get_or, slice_get-map, slice_get_cases, slice_get_within}
use Rattle.std.proofs.Math.ListN.{get_or-append}
use Rattle.std.specs.List.{All}
use Rattle.std.proofs.lemmas.List.Elements.{All-get_or}
use Rattle.lines.specs.Layouts.{start_of, visuals, AreWithin, Layout}
use Rattle.lines.specs.Matching.{ShareEnds}
use Rattle.lines.specs.Splicing.{moved}
use Rattle.lines.specs.Visual.{Line, Visual, end_of, visual_of}
use Rattle.lines.proofs.MatchingLemmas.{end_init, end_more, length-visuals, start_more}
use Rattle.lines.proofs.PageLemmas.{visual_at}
use Rattle.lines.proofs.ShowLemmas.{end_last, end_next}

-- ---- lists that have the same items at their ends

module _ {A : Type 0} (xs ys : List A) where
  pub same_front : (i : ℕ) → i ≤ length xs → i ≤ length ys → ((k : ℕ) → k < i → slice_get xs k ≡ slice_get ys k) → take i xs ≡ take i ys
  same_front zero x y each = refl
  same_front (suc i) x y each =
      let one : i + 1 ≡ suc i = omega arith in
      subst (λ n. take n xs ≡ take n ys) one
      (start_more xs ys i (omega (arith, x)) (omega (arith, y)) (same_front i (omega (arith, x)) (omega (arith, y)) (λ k below. each k (omega (arith, below)))) (each i (omega arith)))

  pub same_back : (i : ℕ) → i ≤ length xs → i ≤ length ys → ((k : ℕ) → k < i → slice_get xs (length xs - k - 1) ≡ slice_get ys (length ys - k - 1))
      → drop (length xs - i) xs ≡ drop (length ys - i) ys
  same_back zero x y each = end_init xs ys
  same_back (suc i) x y each =
      let one : i + 1 ≡ suc i = omega arith in
      subst (λ n. drop (length xs - n) xs ≡ drop (length ys - n) ys) one
      (end_more xs ys i (omega (arith, x)) (omega (arith, y)) (same_back i (omega (arith, x)) (omega (arith, y)) (λ k below. each k (omega (arith, below)))) (each i (omega arith)))

-- ---- one visual line of two layouts

start_at : (lines : List Line) (k : ℕ) (line : Line) → slice_get lines k ≡ Some line → get_or (map start_of lines) k 0 ≡ line.start
start_at lines k line found = get_or_from_slice_get (map start_of lines) k line.start 0 (slice_get-map start_of lines k ∙ ap (option_map start_of) found)

-- a line's characters in two texts that agree up to a character after the line's shown part
same_part : (one other : List ℕ) (n s len : ℕ) → take n one ≡ take n other → s + len ≤ n → slice_range one s (s + len) ≡ slice_range other s (s + len)
same_part one other n s len same within =
    let size : s + len - s ≡ len = omega arith in
    let cut : (xs : List ℕ) → take (s + len - s) (drop s xs) ≡ drop s (take (s + len) (take n xs)) =
    λ xs. ap (λ m. take m (drop s xs)) size ∙ sym (drop-take s len xs) ∙ ap (drop s) (sym (take-take (s + len) n xs within)) in
    cut one ∙ ap (λ xs. drop s (take (s + len) xs)) same ∙ sym (cut other)

-- a line's characters in two texts that agree from u and v on
moved_part : (one other : List ℕ) (u v s len : ℕ) → drop u one ≡ drop v other → u ≤ s → slice_range one s (s + len) ≡ slice_range other (v + (s - u)) (v + (s - u) + len)
moved_part one other u v s len same after =
    let size : s + len - s ≡ v + (s - u) + len - (v + (s - u)) = omega arith in
    let place : u + (s - u) ≡ s = omega (arith, after) in
    ap (λ m. take m (drop s one)) size
    ∙ ap (take (v + (s - u) + len - (v + (s - u)))) (ap (λ k. drop k one) (sym place) ∙ sym (drop-drop (s - u) u one) ∙ ap (drop (s - u)) same ∙ drop-drop (s - u) v other)

-- `new` has the first i lines of `old`, then other lines, and then the old lines from b on, which have moved with their
-- characters from u to v. The text is the same up to s, where line i starts in both, and from u and v on.
module _ (old new : Layout) (i s b u v : ℕ) (mid : List Line) where
  abbrev xs : List Line
  xs = old.lines

  abbrev ys : List Line
  ys = new.lines

  abbrev front : List Line
  front = take i xs

  abbrev back : List Line
  back = map (moved u v) (drop b xs)

  abbrev shown_by : Layout → ℕ → Line → Visual
  shown_by l n line = visual_of l.base l.tab_width l.advances l.text l.lines n line

  pub record AreSpliced : Type 0 where
    pub lines : ys ≡ front ++ (mid ++ back)
    pub line : i < length xs
    pub starts : get_or (map start_of xs) i 0 ≡ s
    pub first : (line : Line) × (slice_get mid 0 ≡ Some line) × (line.start ≡ s)
    pub base : old.base ≡ new.base
    pub tab_width : old.tab_width ≡ new.tab_width
    pub advances : (old.advances ≡ None) × (new.advances ≡ None)
    pub text : take s old.text ≡ take s new.text
    pub before : AreWithin s front

  module _ (are : AreSpliced) where
    front_len : length front ≡ i
    front_len = length-take-le i xs (omega (arith, are.line))

    mid_some : 0 < length mid
    mid_some = slice_get_within mid 0 are.first.0 are.first.1

    new_len : length ys ≡ i + (length mid + (length xs - b))
    new_len =
        ap (λ (ls : List Line). length ls) are.lines ∙ length-append front (mid ++ back)
        ∙ ap₂ (λ n m. n + m) front_len (length-append mid back ∙ ap (λ n. length mid + n) (length-map (drop b xs) (moved u v) ∙ length-drop b xs))

    -- one of the first lines
    front_line : (k : ℕ) (line : Line) → k < i → slice_get xs k ≡ Some line → slice_get ys k ≡ Some line
    front_line k line below found =
        let here : get_or ys k line ≡ line =
        ap (λ (ls : List Line). get_or ls k line) are.lines ∙ get_or-append front (mid ++ back) line k (omega (arith, front_len, below)) ∙ get_or-take i xs k line below
        ∙ get_or_from_slice_get xs k line line found in
        slice_get-get_or ys k line (omega (arith, new_len, mid_some, below)) ∙ ap (λ (l : Line). Some l) here

    -- the line after the first i lines starts at s in both
    new_start : get_or (map start_of ys) i 0 ≡ s
    new_start =
        let line : Line = are.first.0 in
        let here : get_or ys i line ≡ line =
        ap (λ (ls : List Line). get_or ls i line) are.lines ∙ ap (λ n. get_or (front ++ (mid ++ back)) n line) (sym front_len ∙ (let zero_more : length front ≡ length front + 0 = omega arith in zero_more))
        ∙ get_or-append-add front (mid ++ back) 0 line ∙ get_or-append mid back line 0 mid_some ∙ get_or_from_slice_get mid 0 line line are.first.1 in
        start_at ys i line (slice_get-get_or ys i line (omega (arith, new_len, mid_some)) ∙ ap (λ (l : Line). Some l) here) ∙ are.first.2

    -- where one of the first lines ends
    front_end : (k : ℕ) → k < i → end_of (length old.text) (map start_of xs) k ≡ end_of (length new.text) (map start_of ys) k
    front_end k below =
        let old_size = length-map xs start_of in
        let new_size = length-map ys start_of in
        let next : get_or (map start_of xs) (k + 1) 0 ≡ get_or (map start_of ys) (k + 1) 0 =
        elim (cases_lt (k + 1) i) [
          | inl inside ↦
              elim (slice_get_cases xs (k + 1)).1 [
                | inl found ↦ start_at xs (k + 1) found.0 found.2 ∙ sym (start_at ys (k + 1) found.0 (front_line (k + 1) found.0 inside found.2))
                | inr past ↦ absurd (omega (arith, past.0, are.line, inside))
              ]
          | inr last ↦
              let is : k + 1 ≡ i = omega (arith, below, last) in
              subst (λ n. get_or (map start_of xs) n 0 ≡ get_or (map start_of ys) n 0) (sym is) (are.starts ∙ sym new_start)
        ] in
        sym (end_next (length old.text) (map start_of xs) k (omega (arith, old_size, are.line, below))) ∙ next
        ∙ end_next (length new.text) (map start_of ys) k (omega (arith, new_size, new_len, mid_some, below))

    front_visual : (k : ℕ) → k < i → slice_get (visuals old) k ≡ slice_get (visuals new) k
    front_visual k below =
        elim (slice_get_cases xs k).1 [
          | inl found ↦
              let line : Line = found.0 in
              let part : slice_range old.text line.start (line.start + length line.levels) ≡ slice_range new.text line.start (line.start + length line.levels) =
              same_part old.text new.text s line.start (length line.levels) are.text
              (subst (λ (l : Line). l.start + length l.levels ≤ s) (get_or-take i xs k line below ∙ found.3)
              (All-get_or (λ (l : Line). l.start + length l.levels ≤ s) front k line (omega (arith, front_len, below)) are.before)) in
              let same : shown_by old k line ≡ shown_by new k line = cc (are.base, are.tab_width, are.advances.0, are.advances.1, front_end k below, part) in
              sym (visual_at old k) ∙ ap (option_map (shown_by old k)) found.2 ∙ ap (λ (l : Visual). Some l) same
              ∙ sym (ap (option_map (shown_by new k)) (front_line k line below found.2)) ∙ visual_at new k
          | inr past ↦ absurd (omega (arith, past.0, are.line, below))
        ]

    pub fronts_are : take i (visuals old) ≡ take i (visuals new)
    fronts_are =
        same_front (visuals old) (visuals new) i (omega (arith, length-visuals old, are.line)) (omega (arith, length-visuals new, new_len)) front_visual

    -- Nothing before u is in the old lines from b on, of which b is not the first.
    pub record AreMoved : Type 0 where
      pub b_some : 0 < b
      pub within : (b ≤ length xs) × (u ≤ length old.text)
      pub rest : drop u old.text ≡ drop v new.text
      pub new_size : length new.text ≡ v + (length old.text - u)
      pub after : All (λ (line : Line). u ≤ line.start) (drop b xs)

    module _ (moves : AreMoved) where
      -- one of the lines that have moved
      back_line : (t : ℕ) (line : Line) → slice_get xs (b + t) ≡ Some line → slice_get ys (i + length mid + t) ≡ Some (moved u v line)
      back_line t line found =
          let inside : b + t < length xs = slice_get_within xs (b + t) line found in
          let new_line : Line = moved u v line in
          let old_line : get_or (drop b xs) t line ≡ line = get_or-drop b xs t line ∙ get_or_from_slice_get xs (b + t) line line found in
          let rest_line : slice_get back t ≡ Some new_line =
          slice_get-map (moved u v) (drop b xs) t
          ∙ ap (option_map (moved u v)) (slice_get-get_or (drop b xs) t line (omega (arith, length-drop b xs, inside)) ∙ ap (λ (l : Line). Some l) old_line) in
          let index : i + length mid + t ≡ length front + (length mid + t) = omega (arith, front_len) in
          let here : get_or ys (i + length mid + t) new_line ≡ new_line =
          ap (λ (ls : List Line). get_or ls (i + length mid + t) new_line) are.lines ∙ ap (λ n. get_or (front ++ (mid ++ back)) n new_line) index
          ∙ get_or-append-add front (mid ++ back) (length mid + t) new_line ∙ get_or-append-add mid back t new_line ∙ get_or_from_slice_get back t new_line new_line rest_line in
          slice_get-get_or ys (i + length mid + t) new_line (omega (arith, new_len, inside)) ∙ ap (λ (l : Line). Some l) here

      starts_after : (t : ℕ) (line : Line) → slice_get xs (b + t) ≡ Some line → u ≤ line.start
      starts_after t line found =
          let inside : b + t < length xs = slice_get_within xs (b + t) line found in
          subst (λ (l : Line). u ≤ l.start) (get_or-drop b xs t line ∙ get_or_from_slice_get xs (b + t) line line found)
          (All-get_or (λ (l : Line). u ≤ l.start) (drop b xs) t line (omega (arith, length-drop b xs, inside)) moves.after)

      -- how far a line ends after it starts
      back_end : (t : ℕ) (line : Line) → slice_get xs (b + t) ≡ Some line
          → end_of (length old.text) (map start_of xs) (b + t) - line.start ≡ end_of (length new.text) (map start_of ys) (i + length mid + t) - (v + (line.start - u))
      back_end t line found =
          let inside : b + t < length xs = slice_get_within xs (b + t) line found in
          let low = starts_after t line found in
          let old_size = length-map xs start_of in
          let new_size = length-map ys start_of in
          elim (slice_get_cases xs (b + (t + 1))).1 [
            | inl next ↦
                let other : Line = next.0 in
                let one : b + (t + 1) ≡ b + t + 1 = omega arith in
                let new_one : i + length mid + (t + 1) ≡ i + length mid + t + 1 = omega arith in
                let old_end : other.start ≡ end_of (length old.text) (map start_of xs) (b + t) =
                sym (start_at xs (b + (t + 1)) other next.2) ∙ ap (λ n. get_or (map start_of xs) n 0) one ∙ end_next (length old.text) (map start_of xs) (b + t) (omega (arith, old_size, next.1)) in
                let new_end : v + (other.start - u) ≡ end_of (length new.text) (map start_of ys) (i + length mid + t) =
                sym (start_at ys (i + length mid + (t + 1)) (moved u v other) (back_line (t + 1) other next.2)) ∙ ap (λ n. get_or (map start_of ys) n 0) new_one
                ∙ end_next (length new.text) (map start_of ys) (i + length mid + t) (omega (arith, new_size, new_len, next.1)) in
                omega (arith, old_end, new_end, low, starts_after (t + 1) other next.2)
            | inr past ↦
                let old_end = end_last (length old.text) (map start_of xs) (b + t) (omega (arith, old_size, past.0)) in
                let new_end = end_last (length new.text) (map start_of ys) (i + length mid + t) (omega (arith, new_size, new_len, past.0)) in
                omega (arith, old_end, new_end, moves.new_size, low, moves.within.1)
          ]

      not_first : (n : ℕ) → 0 < n → (n == 0) ≡ false
      not_first n some = grind (arith, nat_tests, some)

      back_visual : (t : ℕ) → t < length xs - b → slice_get (visuals old) (b + t) ≡ slice_get (visuals new) (i + length mid + t)
      back_visual t below =
          elim (slice_get_cases xs (b + t)).1 [
            | inl found ↦
                let line : Line = found.0 in
                let here : slice_get xs (b + t) ≡ Some line = found.2 in
                let j : ℕ = i + length mid + t in
                let part : slice_range old.text line.start (line.start + length line.levels) ≡ slice_range new.text (v + (line.start - u)) (v + (line.start - u) + length line.levels) =
                moved_part old.text new.text u v line.start (length line.levels) moves.rest (starts_after t line here) in
                let number : (b + t == 0) ≡ (j == 0) = not_first (b + t) (omega (arith, moves.b_some)) ∙ sym (not_first j (omega (arith, mid_some))) in
                let same : shown_by old (b + t) line ≡ shown_by new j (moved u v line) =
                cc (are.base, are.tab_width, are.advances.0, are.advances.1, back_end t line here, part, number) in
                sym (visual_at old (b + t)) ∙ ap (option_map (shown_by old (b + t))) here ∙ ap (λ (l : Visual). Some l) same
                ∙ sym (ap (option_map (shown_by new j)) (back_line t line here)) ∙ visual_at new j
            | inr past ↦ absurd (omega (arith, past.0, below))
          ]

      pub backs_are : drop (length (visuals old) - (length xs - b)) (visuals old) ≡ drop (length (visuals new) - (length xs - b)) (visuals new)
      backs_are =
          let n : ℕ = length xs - b in
          let old_size = length-visuals old in
          let new_size = length-visuals new in
          same_back (visuals old) (visuals new) n (omega (arith, old_size)) (omega (arith, new_size, new_len)) (λ k below.
          let t : ℕ = n - k - 1 in
          let old_place : b + t ≡ length (visuals old) - k - 1 = omega (arith, old_size, below, moves.within.0) in
          let new_place : i + length mid + t ≡ length (visuals new) - k - 1 = omega (arith, new_size, new_len, below) in
          subst (λ p. slice_get (visuals old) p ≡ slice_get (visuals new) (length (visuals new) - k - 1)) old_place
          (subst (λ q. slice_get (visuals old) (b + t) ≡ slice_get (visuals new) q) new_place (back_visual t (omega (arith, below)))))

      pub all_shared : ShareEnds (visuals old) (visuals new) i (length xs - b)
      all_shared =
          let old_size = length-visuals old in
          let new_size = length-visuals new in
          record {
            front_in_first = omega (arith, old_size, are.line);
            front_in_second = omega (arith, new_size, new_len);
            same_front = fronts_are;
            back_in_first = omega (arith, old_size);
            back_in_second = omega (arith, new_size, new_len);
            same_back = backs_are;
          }

    pub fronts_shared : ShareEnds (visuals old) (visuals new) i 0
    fronts_shared =
        let old_size = length-visuals old in
        let new_size = length-visuals new in
        record {
          front_in_first = omega (arith, old_size, are.line);
          front_in_second = omega (arith, new_size, new_len);
          same_front = fronts_are;
          back_in_first = omega arith;
          back_in_second = omega arith;
          same_back = end_init (visuals old) (visuals new);
        }

pub none_shared : (old new : Layout) → ShareEnds (visuals old) (visuals new) 0 0
none_shared old new = record { front_in_first = omega arith; front_in_second = omega arith; same_front = refl; back_in_first = omega arith; back_in_second = omega arith; same_back = end_init (visuals old) (visuals new) }
