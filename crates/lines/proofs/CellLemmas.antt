-- The characters of a line as they are printed, with spaces in place of tabs.
use Rattle.std.proofs.Common.{◌≡◌, ◌∙◌, ℕ, zero, suc, ◌+◌, ◌-◌, ◌<◌, ◌≤◌, min, true, false, List, [], ◌∷◌, ◌++◌, length, map, take, drop, get_or, replicate, encode_utf8_all}
use Rattle.std.proofs.Common.{slice_range, refl, sym, ap, ap₂, arith}
use Rattle.std.specs.Char.{encode_utf8}
use Rattle.std.proofs.Math.Seq.{take-add}
use Rattle.std.proofs.lemmas.Bool.{cond-true, cond-false}
use Rattle.std.proofs.lemmas.List.{append_assoc, append-nil, drop-map, drop_more, get_or-drop, get_or-take, length-drop, length-take-le, take-append-drop, take-map}
use Rattle.lines.specs.Bytes.{cells, expanded, ordered_chars}
use Rattle.lines.specs.Columns.{width_at}
use Rattle.lines.specs.Tabs.{is_tab}
use Rattle.lines.specs.Visual.{Visual}
use Rattle.lines.specs.declared.printing.print.Print.{Print}
use Rattle.stream.proofs.EncodingLemmas.{encoded-append}

spaces_encoded : (n : ℕ) → encode_utf8_all (replicate n 32) ≡ replicate n 32
unfolding encode_utf8
spaces_encoded zero = refl
spaces_encoded (suc n) = ap (λ xs. 32 ∷ xs) (spaces_encoded n)

take_range : (xs : List ℕ) (at to : ℕ) → at ≤ to → take to xs ≡ take at xs ++ slice_range xs at to
take_range xs at to forward =
    let whole : at + (to - at) ≡ to = omega (arith, forward) in
    ap (λ n. take n xs) (sym whole) ∙ take-add at (to - at) xs

range_length : (xs : List ℕ) (s e : ℕ) → s ≤ e → e ≤ length xs → length (slice_range xs s e) ≡ e - s
range_length xs s e forward within = length-take-le (e - s) (drop s xs) (omega (arith, forward, within, length-drop s xs))

range_at : (xs : List ℕ) (s e i : ℕ) → i < e - s → get_or (slice_range xs s e) i 0 ≡ get_or xs (s + i) 0
range_at xs s e i below = get_or-take (e - s) (drop s xs) i 0 below ∙ get_or-drop s xs i 0

one_range : (xs : List ℕ) (s e : ℕ) → e ≡ s + 1 → s < length xs → slice_range xs s e ≡ get_or xs s 0 ∷ []
one_range xs s e is within =
    let one : e - s ≡ 1 = omega (arith, is) in
    ap₂ (λ n (ys : List ℕ). take n ys) one (drop_more xs s 0 within)

-- without mirroring, the characters of the text at a range of `vtol` are the same range of `ordered_chars`
pub ordered_places : (print : Print) (line : Visual) (s e : ℕ) → print.nomirror ≡ true
    → map (λ k. get_or line.text k 0) (slice_range line.vtol s e) ≡ slice_range (ordered_chars print line) s e
ordered_places print line s e on =
    let f : ℕ → ℕ = λ k. get_or line.text k 0 in
    sym (take-map f (e - s) (drop s line.vtol))
    ∙ ap (take (e - s)) (sym (drop-map f s line.vtol))
    ∙ ap (λ (cs : List ℕ). slice_range cs s e) (sym (cond-true print.nomirror (map f line.vtol) line.chars on))

module _ (line : Visual) where
  expanded-append : (xs ys ks ls : List ℕ) → length xs ≡ length ks → expanded line (xs ++ ys) (ks ++ ls) ≡ expanded line xs ks ++ expanded line ys ls
  expanded-append [] ys [] ls same = refl
  expanded-append [] ys (k ∷ ks) ls same = absurd (omega (arith, same))
  expanded-append (x ∷ xs) ys [] ls same = absurd (omega (arith, same))
  expanded-append (x ∷ xs) ys (k ∷ ks) ls same =
      ap (λ zs. cells line x k ++ zs) (expanded-append xs ys ks ls (omega (arith, same)))
      ∙ sym (append_assoc (cells line x k) (expanded line xs ks) (expanded line ys ls))

  -- characters that are not tabs are printed unchanged
  plain_cells : (xs ks : List ℕ) → length xs ≡ length ks → ((i : ℕ) → i < length xs → is_tab line.tab_width (get_or line.text (get_or ks i 0) 0) ≡ false)
      → expanded line xs ks ≡ xs
  plain_cells [] [] same plain = refl
  plain_cells [] (k ∷ ks) same plain = absurd (omega (arith, same))
  plain_cells (x ∷ xs) [] same plain = absurd (omega (arith, same))
  plain_cells (x ∷ xs) (k ∷ ks) same plain =
      ap₂ (λ (front rest : List ℕ). front ++ rest)
      (cond-false (is_tab line.tab_width (get_or line.text k 0)) (replicate (width_at line k) 32) (x ∷ []) (plain 0 (omega arith)))
      (plain_cells xs ks (omega (arith, same)) (λ i below. plain (suc i) (omega (arith, below))))

  -- items past the end of the shorter list do not change what is printed
  expanded-take : (n : ℕ) (xs ks : List ℕ) → min (length xs) (length ks) ≤ n → expanded line (take n xs) (take n ks) ≡ expanded line xs ks
  expanded-take zero [] ks most = refl
  expanded-take (suc n) [] ks most = refl
  expanded-take zero (x ∷ xs) [] most = refl
  expanded-take (suc n) (x ∷ xs) [] most = refl
  expanded-take zero (x ∷ xs) (k ∷ ks) most = absurd (omega (arith, most))
  expanded-take (suc n) (x ∷ xs) (k ∷ ks) most = ap (λ zs. cells line x k ++ zs) (expanded-take n xs ks (omega (arith, most)))

  module _ (chars : List ℕ) where
    pub cells_tab : (s e : ℕ) → e ≡ s + 1 → s < length chars → s < length line.vtol → is_tab line.tab_width (get_or line.text (get_or line.vtol s 0) 0) ≡ true
        → encode_utf8_all (expanded line (slice_range chars s e) (slice_range line.vtol s e)) ≡ replicate (width_at line (get_or line.vtol s 0)) 32
    cells_tab s e is within also tab =
        let k : ℕ = get_or line.vtol s 0 in
        let spaces : List ℕ = replicate (width_at line k) 32 in
        ap₂ (λ (xs ks : List ℕ). encode_utf8_all (expanded line xs ks)) (one_range chars s e is within) (one_range line.vtol s e is also)
        ∙ ap encode_utf8_all (append-nil (cells line (get_or chars s 0) k)
        ∙ cond-true (is_tab line.tab_width (get_or line.text k 0)) spaces (get_or chars s 0 ∷ []) tab)
        ∙ spaces_encoded (width_at line k)

    pub cells_others : (s e : ℕ) → s ≤ e → e ≤ length chars → e ≤ length line.vtol
        → ((k : ℕ) → s ≤ k → k < e → is_tab line.tab_width (get_or line.text (get_or line.vtol k 0) 0) ≡ false)
        → expanded line (slice_range chars s e) (slice_range line.vtol s e) ≡ slice_range chars s e
    cells_others s e forward within also plain =
        let size : length (slice_range chars s e) ≡ e - s = range_length chars s e forward within in
        plain_cells (slice_range chars s e) (slice_range line.vtol s e) (size ∙ sym (range_length line.vtol s e forward also))
        (λ i below.
        let short : i < e - s = omega (arith, below, size) in
        ap (λ k. is_tab line.tab_width (get_or line.text k 0)) (range_at line.vtol s e i short) ∙ plain (s + i) (omega arith) (omega (arith, short)))

    -- the bytes of the characters up to a visual position
    abbrev pub printed : ℕ → List ℕ
    printed at = encode_utf8_all (expanded line (take at chars) (take at line.vtol))

    pub printed-more : (at to : ℕ) → at ≤ to → to ≤ length chars → to ≤ length line.vtol
        → printed to ≡ printed at ++ encode_utf8_all (expanded line (slice_range chars at to) (slice_range line.vtol at to))
    printed-more at to forward within also =
        let size : length (take at chars) ≡ length (take at line.vtol) =
        length-take-le at chars (omega (arith, forward, within)) ∙ sym (length-take-le at line.vtol (omega (arith, forward, also))) in
        ap encode_utf8_all (ap₂ (λ (xs ks : List ℕ). expanded line xs ks) (take_range chars at to forward) (take_range line.vtol at to forward)
        ∙ expanded-append (take at chars) (slice_range chars at to) (take at line.vtol) (slice_range line.vtol at to) size)
        ∙ encoded-append (expanded line (take at chars) (take at line.vtol)) (expanded line (slice_range chars at to) (slice_range line.vtol at to))

    pub printed-rest : (at : ℕ) → at ≤ length chars → at ≤ length line.vtol
        → encode_utf8_all (expanded line chars line.vtol) ≡ printed at ++ encode_utf8_all (expanded line (drop at chars) (drop at line.vtol))
    printed-rest at within also =
        let size : length (take at chars) ≡ length (take at line.vtol) = length-take-le at chars within ∙ sym (length-take-le at line.vtol also) in
        ap encode_utf8_all (ap₂ (λ (xs ks : List ℕ). expanded line xs ks) (sym (take-append-drop at chars)) (sym (take-append-drop at line.vtol))
        ∙ expanded-append (take at chars) (drop at chars) (take at line.vtol) (drop at line.vtol) size)
        ∙ encoded-append (expanded line (take at chars) (take at line.vtol)) (expanded line (drop at chars) (drop at line.vtol))

    pub printed-all : (at : ℕ) → min (length chars) (length line.vtol) ≤ at → printed at ≡ encode_utf8_all (expanded line chars line.vtol)
    printed-all at most = ap encode_utf8_all (expanded-take at chars line.vtol most)
