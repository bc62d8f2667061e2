-- Where lines end and what they show do not depend on cluster ends, unless no break opportunity fits.
use Rattle.std.proofs.Common.{◌≡◌, ℕ, zero, suc, ◌+◌, ◌-◌, ◌<◌, ◌≤◌, nat_le, Bool, true, false, ◌&&◌, List, [], ◌∷◌, ◌++◌}
use Rattle.std.proofs.lemmas.Slice.{take-put_mid}
use borrow.Rule.Slice.PartMut.{put_mid, same_len_mid}
use Rattle.std.proofs.Common.{length, map, take, drop, reverse, set, get_or, not, Option, Some, None, unwrap_or, slice_range, refl, sym, ap, ap₂, ◌∙◌, arith}
use Rattle.std.proofs.Math.Seq.{set-append_seam, get_or-append_seam}
use Rattle.std.proofs.lemmas.List.{append-nil, drop-drop, length-drop, take-append-drop, drop_all, length-set, take_all, take_more_set, length-map, take-map, drop-map, reverse-append, take_more, drop_more, length-take-le, append_assoc}
use Rattle.std.specs.List.{fold, prefix_len, suffix_len}
use Rattle.ucd.specs.declared.tables.Tables.{Tables}
use Rattle.bidi.specs.Brackets.{greatest}
use Rattle.ucd.specs.Least.{least}
use Rattle.breaks.specs.declared.mark.Mark.{Mark}
use Rattle.lines.specs.Bare.{bare, AreAlike, with_ends}
use Rattle.lines.specs.BareInfos.{bare_infos}
use Rattle.lines.specs.Extents.{shown_between, shown_from}
use Rattle.lines.specs.Filling.{before_tail, by_break, columns, fits_to, is_break, is_must, line_len, may_end, must_end, nothing, place_at, stop, text_len, trails}
use Rattle.lines.specs.CharInfos.{advance, info, infos, is_space}
use Rattle.lines.specs.ShownParts.{is_space_within, shown, shown_len}
use Rattle.lines.specs.Visual.{Line, line_between, lines_from}
use Rattle.lines.specs.declared.options.Options.{Options}
use Rattle.lines.specs.declared.char_info.CharInfo.{CharInfo}
use Rattle.lines.specs.declared.fill.Shown.{Shown}

-- ---- lists

at_bare : (xs : List CharInfo) (k : ℕ) → place_at (map bare xs) k ≡ bare (place_at xs k)
at_bare [] k = refl
at_bare (x ∷ xs) zero = refl
at_bare (x ∷ xs) (suc k) = at_bare xs k

sum_bare : (n : ℕ) (xs : List CharInfo) → fold advance n (map bare xs) ≡ fold advance n xs
sum_bare n [] = refl
sum_bare n (x ∷ xs) = sum_bare (advance n x) xs

columns_bare : (xs : List CharInfo) → columns (map bare xs) ≡ columns xs
columns_bare xs = sum_bare 0 xs

append_bare : (xs ys : List CharInfo) → map bare (xs ++ ys) ≡ map bare xs ++ map bare ys
append_bare [] ys = refl
append_bare (x ∷ xs) ys = ap (λ zs. bare x ∷ zs) (append_bare xs ys)

prefix_bare : (xs : List CharInfo) → prefix_len trails (map bare xs) ≡ prefix_len trails xs
prefix_bare [] = refl
prefix_bare (x ∷ xs) = rw (prefix_bare xs) refl

reverse_bare : (xs : List CharInfo) → reverse (map bare xs) ≡ map bare (reverse xs)
reverse_bare [] = refl
reverse_bare (x ∷ xs) =
    reverse-append (bare x ∷ []) (map bare xs) ∙ ap (λ ys. ys ++ bare x ∷ []) (reverse_bare xs)
    ∙ sym (append_bare (reverse xs) (x ∷ [])) ∙ ap (map bare) (sym (reverse-append (x ∷ []) xs))

suffix_bare : (xs : List CharInfo) → suffix_len trails (map bare xs) ≡ suffix_len trails xs
suffix_bare xs = ap (prefix_len trails) (reverse_bare xs) ∙ prefix_bare (reverse xs)

before_bare : (xs : List CharInfo) → before_tail (map bare xs) ≡ map bare (before_tail xs)
before_bare xs =
    ap₂ (λ n m. take (n - m) (map bare xs)) (length-map xs bare) (suffix_bare xs)
    ∙ take-map bare (length xs - suffix_len trails xs) xs

before_columns_bare : (xs : List CharInfo) → columns (before_tail (map bare xs)) ≡ columns (before_tail xs)
before_columns_bare xs = ap columns (before_bare xs) ∙ columns_bare (before_tail xs)

range_bare : (xs : List CharInfo) (s e : ℕ) → slice_range (map bare xs) s e ≡ map bare (slice_range xs s e)
range_bare xs s e = ap (take (e - s)) (drop-map bare s xs) ∙ take-map bare (e - s) (drop s xs)

-- ---- searches with equal tests find the same number

pub greatest_same : (p q : ℕ → Bool) (n : ℕ) → ((k : ℕ) → p k ≡ q k) → greatest p n ≡ greatest q n
greatest_same p q zero same = refl
greatest_same p q (suc n) same = rw (same n, greatest_same p q n same) refl

pub least_same : (p q : ℕ → Bool) (low count : ℕ) → ((k : ℕ) → p k ≡ q k) → least p low count ≡ least q low count
least_same p q low zero same = refl
least_same p q low (suc count) same = rw (same low, least_same p q (suc low) count same) refl

-- ---- filling

stop_bare : (xs : List CharInfo) → stop (map bare xs) ≡ stop xs
stop_bare xs =
    ap₂ (λ n o. unwrap_or o (n - 1)) (length-map xs bare)
    (ap (least (must_end (map bare xs)) 0) (length-map xs bare) ∙ least_same (must_end (map bare xs)) (must_end xs) 0 (length xs) (λ k. ap (λ (p : CharInfo). is_must p.mark) (at_bare xs k)))

fits_bare : (width : ℕ) (xs : List CharInfo) (k : ℕ) → fits_to width (map bare xs) k ≡ fits_to width xs k
fits_bare width xs k =
    ap (λ n. nat_le n width) (ap (λ ys. columns (before_tail ys)) (take-map bare (suc k) xs) ∙ before_columns_bare (take (suc k) xs))

break_bare : (width : ℕ) (xs : List CharInfo) → by_break width (map bare xs) ≡ by_break width xs
break_bare width xs =
    ap (λ n. greatest (λ k. may_end (map bare xs) k && fits_to width (map bare xs) k) (suc n)) (stop_bare xs)
    ∙ greatest_same (λ k. may_end (map bare xs) k && fits_to width (map bare xs) k) (λ k. may_end xs k && fits_to width xs k) (suc (stop xs))
    (λ k. ap₂ ◌&&◌ (ap (λ (p : CharInfo). is_break p.mark) (at_bare xs k)) (fits_bare width xs k))

-- if two lists differ only in their cluster ends, they have the same first position at which a line must end,
-- and the same last break opportunity that fits
pub same_stop : (xs ys : List CharInfo) → AreAlike xs ys → stop xs ≡ stop ys
same_stop xs ys alike = sym (stop_bare xs) ∙ ap stop alike ∙ stop_bare ys

pub same_break : (width : ℕ) (xs ys : List CharInfo) → AreAlike xs ys → by_break width xs ≡ by_break width ys
same_break width xs ys alike = sym (break_bare width xs) ∙ ap (by_break width) alike ∙ break_bare width ys

-- the length of a line that ends at a mandatory break, or at a break opportunity, does not depend on cluster ends
pub line_by_stop : (width k : ℕ) (rest known : List CharInfo) → AreAlike rest known → k ≡ stop rest → k + 1 ≡ line_len true width known
line_by_stop width k rest known alike is = rw (is, same_stop rest known alike) (omega arith)

pub line_by_break : (width k : ℕ) (rest known : List CharInfo) → AreAlike rest known → by_break width rest ≡ Some k → k + 1 ≡ line_len false width known
line_by_break width k rest known alike is =
    let found : by_break width known ≡ Some k = sym (same_break width rest known alike) ∙ is in
    rw found (omega arith)

-- ---- clusters

pub alike_drop : (xs ys : List CharInfo) (n : ℕ) → AreAlike xs ys → AreAlike (drop n xs) (drop n ys)
alike_drop xs ys n alike = sym (drop-map bare n xs) ∙ ap (drop n) alike ∙ drop-map bare n ys

pub alike_length : (xs ys : List CharInfo) → AreAlike xs ys → length xs ≡ length ys
alike_length xs ys alike = sym (length-map xs bare) ∙ ap length alike ∙ length-map ys bare

pub with_alike : (xs : List CharInfo) (ends : List Bool) → length ends ≡ length xs → AreAlike (with_ends xs ends) xs
with_alike [] [] size = refl
with_alike [] (e ∷ ends) size = absurd (omega (arith, size))
with_alike (x ∷ xs) [] size = absurd (omega (arith, size))
with_alike (x ∷ xs) (e ∷ ends) size = ap (λ ys. bare x ∷ ys) (with_alike xs ends (omega (arith, size)))

with_bare : (xs : List CharInfo) (ends : List Bool) → with_ends (map bare xs) ends ≡ with_ends xs ends
with_bare [] ends = refl
with_bare (x ∷ xs) [] = refl
with_bare (x ∷ xs) (e ∷ ends) = ap (λ ys. record x { ends_cluster = e } ∷ ys) (with_bare xs ends)

pub same_with : (xs ys : List CharInfo) (ends : List Bool) → AreAlike xs ys → with_ends xs ends ≡ with_ends ys ends
same_with xs ys ends alike = sym (with_bare xs ends) ∙ ap (λ zs. with_ends zs ends) alike ∙ with_bare ys ends

pub with_infos : (t : Tables) (n : ℕ) (text : List ℕ) (marks : List Mark) (ends : List Bool) → with_ends (bare_infos t n text marks) ends ≡ infos t n text marks ends
with_infos t n [] marks ends = refl
with_infos t n (c ∷ text) [] ends = refl
with_infos t n (c ∷ text) (mark ∷ marks) [] = refl
with_infos t n (c ∷ text) (mark ∷ marks) (e ∷ ends) = ap (λ ps. info t n c mark e ∷ ps) (with_infos t n text marks ends)

pub length-bare_infos : (t : Tables) (n : ℕ) (text : List ℕ) (marks : List Mark) → length marks ≡ length text → length (bare_infos t n text marks) ≡ length text
length-bare_infos t n [] marks size = refl
length-bare_infos t n (c ∷ text) [] size = absurd (omega (arith, size))
length-bare_infos t n (c ∷ text) (mark ∷ marks) size = ap suc (length-bare_infos t n text marks (omega (arith, size)))

with_append : (xs : List CharInfo) (ends : List Bool) (p : CharInfo) (e : Bool) → length ends ≡ length xs
    → with_ends (xs ++ p ∷ []) (ends ++ e ∷ []) ≡ with_ends xs ends ++ record p { ends_cluster = e } ∷ []
with_append [] [] p e size = refl
with_append [] (f ∷ ends) p e size = absurd (omega (arith, size))
with_append (x ∷ xs) [] p e size = absurd (omega (arith, size))
with_append (x ∷ xs) (f ∷ ends) p e size = ap (λ ys. record x { ends_cluster = f } ∷ ys) (with_append xs ends p e (omega (arith, size)))

length_with : (xs : List CharInfo) (ends : List Bool) → length ends ≡ length xs → length (with_ends xs ends) ≡ length xs
length_with [] ends size = refl
length_with (x ∷ xs) [] size = absurd (omega (arith, size))
length_with (x ∷ xs) (e ∷ ends) size = ap suc (length_with xs ends (omega (arith, size)))

-- if the first k items have their cluster ends, and the cluster end of item k is stored, the first k + 1
-- items have theirs
pub with_more : (old current : List CharInfo) (ends : List Bool) (k : ℕ) (e : Bool) → k < length old → length ends ≡ length old → e ≡ get_or ends k e
    → current ≡ with_ends (take k old) (take k ends) ++ drop k old
    → set current k (record (place_at current k) { ends_cluster = e }) ≡ with_ends (take (k + 1) old) (take (k + 1) ends) ++ drop (k + 1) old
with_more old current ends k e within size e_is so_far =
    let p : CharInfo = place_at old k in
    let front : List CharInfo = with_ends (take k old) (take k ends) in
    let sizes : length (take k ends) ≡ length (take k old) = omega (arith, length-take-le k old (omega (arith, within)), length-take-le k ends (omega (arith, within, size))) in
    let len : length front ≡ k = length_with (take k old) (take k ends) sizes ∙ length-take-le k old (omega (arith, within)) in
    let here : drop k old ≡ p ∷ drop (k + 1) old = drop_more old k nothing within in
    let whole : current ≡ front ++ p ∷ drop (k + 1) old = so_far ∙ ap (λ ys. front ++ ys) here in
    let read : place_at current k ≡ p =
    ap (λ (ys : List CharInfo). place_at ys k) whole ∙ ap (λ n. place_at (front ++ p ∷ drop (k + 1) old) n) (sym len) ∙ get_or-append_seam front p (drop (k + 1) old) nothing in
    let put : set current k (record (place_at current k) { ends_cluster = e }) ≡ front ++ record p { ends_cluster = e } ∷ drop (k + 1) old =
    ap (λ (q : CharInfo). set current k (record q { ends_cluster = e })) read
    ∙ ap (λ (ys : List CharInfo). set ys k (record p { ends_cluster = e })) whole
    ∙ ap (λ n. set (front ++ p ∷ drop (k + 1) old) n (record p { ends_cluster = e })) (sym len)
    ∙ set-append_seam front p (drop (k + 1) old) (record p { ends_cluster = e }) in
    let ends_more : take (k + 1) ends ≡ take k ends ++ e ∷ [] =
    take_more ends k e (omega (arith, within, size)) ∙ ap (λ (x : Bool). take k ends ++ x ∷ []) (sym e_is) in
    let before : with_ends (take (k + 1) old) (take (k + 1) ends) ≡ front ++ record p { ends_cluster = e } ∷ [] =
    ap₂ with_ends (take_more old k nothing within) ends_more ∙ with_append (take k old) (take k ends) p e sizes in
    put ∙ sym (ap (λ (ys : List CharInfo). ys ++ drop (k + 1) old) before ∙ append_assoc front (record p { ends_cluster = e } ∷ []) (drop (k + 1) old))

-- ---- how many characters are shown

space_bare : (margin : ℕ) (xs : List CharInfo) (k : ℕ) → is_space_within margin (map bare xs) k ≡ is_space_within margin xs k
space_bare margin xs k =
    ap₂ (λ (p : CharInfo) n. is_space p.trailing && nat_le n margin) (at_bare xs k) (ap columns (take-map bare (suc k) xs) ∙ columns_bare (take (suc k) xs))

shown_len_bare : (margin : Option ℕ) (xs : List CharInfo) → shown_len margin (map bare xs) ≡ shown_len margin xs
shown_len_bare None xs = ap₂ (λ n m. n - m) (length-map xs bare) (suffix_bare xs)
shown_len_bare (Some margin) xs =
    let text : text_len (map bare xs) ≡ text_len xs = ap₂ (λ n m. n - m) (length-map xs bare) (suffix_bare xs) in
    ap₂ (λ low n. unwrap_or (least (λ k. not (is_space_within margin (map bare xs) k)) low (n - low)) n) text (length-map xs bare)
    ∙ ap (λ o. unwrap_or o (length xs))
    (least_same (λ k. not (is_space_within margin (map bare xs) k)) (λ k. not (is_space_within margin xs k)) (text_len xs) (length xs - text_len xs)
    (λ k. ap not (space_bare margin xs k)))

shown_bare : (margin : Option ℕ) (xs : List CharInfo) → shown margin (map bare xs) ≡ map bare (shown margin xs)
shown_bare margin xs = ap (λ n. take n (map bare xs)) (shown_len_bare margin xs) ∙ take-map bare (shown_len margin xs) xs

shown_columns_bare : (margin : Option ℕ) (xs : List CharInfo) → columns (shown margin (map bare xs)) ≡ columns (shown margin xs)
shown_columns_bare margin xs = ap columns (shown_bare margin xs) ∙ columns_bare (shown margin xs)

shown_length_bare : (margin : Option ℕ) (xs : List CharInfo) → length (shown margin (map bare xs)) ≡ length (shown margin xs)
shown_length_bare margin xs = ap length (shown_bare margin xs) ∙ length-map (shown margin xs) bare

-- ---- lines

module _ (tables : Tables) (options : Options) (margin : Option ℕ) (base : ℕ) (text levels : List ℕ) where
  line_bare : (xs : List CharInfo) (s e : ℕ) → line_between tables options margin base text levels (map bare xs) s e ≡ line_between tables options margin base text levels xs s e
  line_bare xs s e =
      let part = slice_range xs s e in
      let amount : length (shown margin (slice_range (map bare xs) s e)) ≡ length (shown margin part) = ap (λ ys. length (shown margin ys)) (range_bare xs s e) ∙ shown_length_bare margin part in
      let sum : columns (shown margin (slice_range (map bare xs) s e)) ≡ columns (shown margin part) = ap (λ ys. columns (shown margin ys)) (range_bare xs s e) ∙ shown_columns_bare margin part in
      rw (amount, sum) refl

  lines_bare : (xs : List CharInfo) (starts : List ℕ) → lines_from tables options margin base text levels (map bare xs) starts ≡ lines_from tables options margin base text levels xs starts
  lines_bare xs [] = refl
  lines_bare xs (s ∷ []) = ap (λ (l : Line). l ∷ []) (line_bare xs s (length text))
  lines_bare xs (s ∷ t ∷ starts) = ap₂ (λ (l : Line) (ls : List Line). l ∷ ls) (line_bare xs s t) (lines_bare xs (t ∷ starts))

  pub same_lines : (xs ys : List CharInfo) (starts : List ℕ) → AreAlike xs ys → lines_from tables options margin base text levels xs starts ≡ lines_from tables options margin base text levels ys starts
  same_lines xs ys starts alike = sym (lines_bare xs starts) ∙ ap (λ zs. lines_from tables options margin base text levels zs starts) alike ∙ lines_bare ys starts

-- ---- how much of each line is shown

between_bare : (margin : Option ℕ) (xs : List CharInfo) (s e : ℕ) → shown_between margin (map bare xs) s e ≡ shown_between margin xs s e
between_bare margin xs s e =
    let part = slice_range xs s e in
    let amount : length (shown margin (slice_range (map bare xs) s e)) ≡ length (shown margin part) = ap (λ ys. length (shown margin ys)) (range_bare xs s e) ∙ shown_length_bare margin part in
    let sum : columns (shown margin (slice_range (map bare xs) s e)) ≡ columns (shown margin part) = ap (λ ys. columns (shown margin ys)) (range_bare xs s e) ∙ shown_columns_bare margin part in
    rw (amount, sum) refl

parts_bare : (margin : Option ℕ) (n : ℕ) (xs : List CharInfo) (starts : List ℕ) → shown_from margin n (map bare xs) starts ≡ shown_from margin n xs starts
parts_bare margin n xs [] = refl
parts_bare margin n xs (s ∷ []) = ap (λ (p : Shown). p ∷ []) (between_bare margin xs s n)
parts_bare margin n xs (s ∷ t ∷ starts) = ap₂ (λ (p : Shown) (ps : List Shown). p ∷ ps) (between_bare margin xs s t) (parts_bare margin n xs (t ∷ starts))

pub same_shown : (margin : Option ℕ) (n : ℕ) (xs ys : List CharInfo) (starts : List ℕ) → AreAlike xs ys → shown_from margin n xs starts ≡ shown_from margin n ys starts
same_shown margin n xs ys starts alike = sym (parts_bare margin n xs starts) ∙ ap (λ zs. shown_from margin n zs starts) alike ∙ parts_bare margin n ys starts

-- The first k items of `current` are written. These items, followed by those of the remaining characters, are
-- the items of the whole text.
pub record PlacesPut (t : Tables) (n : ℕ) (text : List ℕ) (marks : List Mark) (current : List CharInfo) (k : ℕ) : Type 0 where
  pub sizes : length current ≡ length text
  pub within : k ≤ length text
  pub whole : take k current ++ bare_infos t n (drop k text) (drop k marks) ≡ bare_infos t n text marks

pub PlacesPut-next : (t : Tables) (n : ℕ) (text : List ℕ) (marks : List Mark) (current : List CharInfo) (k c : ℕ) (mark d : Mark) (p : CharInfo) → PlacesPut t n text marks current k
    → k < length text → length marks ≡ length text → c ≡ get_or text k c → mark ≡ get_or marks k d → p ≡ info t n c mark false
    → PlacesPut t n text marks (set current k p) (k + 1)
PlacesPut-next t n text marks current k c mark d p w below same c_is mark_is is =
    let first : drop k text ≡ c ∷ drop (k + 1) text = drop_more text k c below ∙ ap (λ (x : ℕ). x ∷ drop (k + 1) text) (sym c_is) in
    let own : drop k marks ≡ mark ∷ drop (k + 1) marks = drop_more marks k d (omega arith) ∙ ap (λ (m : Mark). m ∷ drop (k + 1) marks) (sym mark_is) in
    let rest : List CharInfo = bare_infos t n (drop (k + 1) text) (drop (k + 1) marks) in
    record {
      sizes = length-set current k p ∙ w.sizes;
      within = omega (arith, below);
      whole = ap (λ (front : List CharInfo). front ++ rest) (take_more_set current k p (omega (arith, w.sizes)))
          ∙ append_assoc (take k current) (p ∷ []) rest
          ∙ ap (λ (q : CharInfo). take k current ++ q ∷ rest) is
          ∙ sym (ap₂ (λ (cs : List ℕ) (ms : List Mark). take k current ++ bare_infos t n cs ms) first own)
          ∙ w.whole;
    }

pub PlacesPut-end : (t : Tables) (n : ℕ) (text : List ℕ) (marks : List Mark) (current : List CharInfo) (k : ℕ) → PlacesPut t n text marks current k → length text ≤ k
    → current ≡ bare_infos t n text marks
PlacesPut-end t n text marks current k w past =
    sym (append-nil current)
    ∙ ap₂ ◌++◌ (sym (take_all k current (omega (arith, w.sizes)))) (sym (ap (λ (cs : List ℕ). bare_infos t n cs (drop k marks)) (drop_all k text past)))
    ∙ w.whole

-- ---- groups of characters

bare_infos-append : (t : Tables) (n : ℕ) (text more : List ℕ) (marks rest : List Mark) → length marks ≡ length text
    → bare_infos t n (text ++ more) (marks ++ rest) ≡ bare_infos t n text marks ++ bare_infos t n more rest
bare_infos-append t n [] more [] rest size = refl
bare_infos-append t n [] more (mark ∷ marks) rest size = absurd (omega (arith, size))
bare_infos-append t n (c ∷ text) more [] rest size = absurd (omega (arith, size))
bare_infos-append t n (c ∷ text) more (mark ∷ marks) rest size =
    ap (λ (ps : List CharInfo). info t n c mark false ∷ ps) (bare_infos-append t n text more marks rest (omega (arith, size)))

-- `PlacesPut` still holds after the items of the next m characters have been written
pub PlacesPut-group : (t : Tables) (n : ℕ) (text : List ℕ) (marks : List Mark) (current piece : List CharInfo) (k m : ℕ) → PlacesPut t n text marks current k
    → k + m ≤ length text → length marks ≡ length text → piece ≡ bare_infos t n (take m (drop k text)) (take m (drop k marks))
    → PlacesPut t n text marks (put_mid k m current piece) (k + m)
PlacesPut-group t n text marks current piece k m w within same is =
    let text_part : length (take m (drop k text)) ≡ m = length-take-le m (drop k text) (omega (arith, within, length-drop k text)) in
    let marks_part : length (take m (drop k marks)) ≡ m = length-take-le m (drop k marks) (omega (arith, within, same, length-drop k marks)) in
    let size : length piece ≡ m = ap length is ∙ length-bare_infos t n (take m (drop k text)) (take m (drop k marks)) (marks_part ∙ sym text_part) ∙ text_part in
    let front : take (k + m) (put_mid k m current piece) ≡ take k current ++ piece =
    take-put_mid k m current piece (k + m) (ap (λ j. k + j) (sym size)) (omega (arith, within, w.sizes)) in
    let rest : bare_infos t n (drop k text) (drop k marks) ≡ bare_infos t n (take m (drop k text)) (take m (drop k marks)) ++ bare_infos t n (drop (k + m) text) (drop (k + m) marks) =
    ap₂ (bare_infos t n) (sym (take-append-drop m (drop k text))) (sym (take-append-drop m (drop k marks)))
    ∙ bare_infos-append t n (take m (drop k text)) (drop m (drop k text)) (take m (drop k marks)) (drop m (drop k marks)) (marks_part ∙ sym text_part)
    ∙ ap₂ (λ (cs : List ℕ) (ms : List Mark). bare_infos t n (take m (drop k text)) (take m (drop k marks)) ++ bare_infos t n cs ms) (drop-drop m k text) (drop-drop m k marks) in
    record {
      sizes = same_len_mid k m current piece (size ∙ sym (length-take-le m (drop k current) (omega (arith, within, w.sizes, length-drop k current)))) ∙ w.sizes;
      within = within;
      whole = ap (λ (ps : List CharInfo). ps ++ bare_infos t n (drop (k + m) text) (drop (k + m) marks)) front
          ∙ append_assoc (take k current) piece (bare_infos t n (drop (k + m) text) (drop (k + m) marks))
          ∙ ap (λ (ps : List CharInfo). take k current ++ (ps ++ bare_infos t n (drop (k + m) text) (drop (k + m) marks))) is
          ∙ ap (λ (ps : List CharInfo). take k current ++ ps) (sym rest)
          ∙ w.whole;
    }
