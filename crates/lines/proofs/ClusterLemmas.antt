-- Splitting a text into grapheme clusters finds exactly the cluster ends that `cluster_ends` defines.
use Rattle.std.proofs.Common.{◌≡◌, ℕ, suc, ◌-◌, Bool, true, false, ◌&&◌, cond, List, [], ◌∷◌, ◌++◌, map, length, replicate, refl, sym, ap, ap₂, ◌∙◌, append-nil, arith}
use Rattle.std.proofs.Math.Utf8.{scalars}
use Rattle.std.proofs.lemmas.Bool.{and_parts}
use Rattle.std.proofs.lemmas.Str.{chars-encodes, chars_from_encodes, scalars-chars}
use Rattle.std.specs.List.{concat, flat_map}
use Rattle.std.specs.Prelude.{encode_utf8, encode_utf8_all}
use Rattle.std.specs.Str.{chars, IsUtf8}
use Rattle.unicode_segmentation.specs.Grapheme.{graphemes, is_grapheme_break}
use Rattle.unicode_segmentation.specs.Segments.{Rule, cut, prepend, segments}
use Rattle.unicode_segmentation.specs.Word.{is_word_break, word_bounds}
use Rattle.lines.specs.Clusters.{cluster_ends, ends_after, ends_of}
use Rattle.lines.specs.Words.{word_ends}

-- for each character of a cluster, whether the cluster ends after it: true for the last character only
abbrev ends_of_piece : List ℕ → List Bool
ends_of_piece piece = replicate (length piece - 1) false ++ true ∷ []

-- a list of pieces with a character prepended: as a piece of its own, or as the first character of the first piece
abbrev attach : Bool → ℕ → List (List ℕ) → List (List ℕ)
attach is_break c pieces = cond is_break ((c ∷ []) ∷ pieces) (prepend (c ∷ []) pieces)

attach_begins : (b : Bool) (c : ℕ) (pieces : List (List ℕ)) → (p : List ℕ) × (ps : List (List ℕ)) × (attach b c pieces ≡ (c ∷ p) ∷ ps)
attach_begins true c pieces = ([], pieces, refl)
attach_begins false c [] = ([], [], refl)
attach_begins false c (p ∷ ps) = (p, ps, refl)

-- if `cut` splits a non-empty list, the first piece starts with the first character
cut_begins : (rule : Rule) (before : List ℕ) (c : ℕ) (cs after : List ℕ)
    → (p : List ℕ) × (ps : List (List ℕ)) × (cut rule before (c ∷ cs) after ≡ (c ∷ p) ∷ ps)
unfolding cut
cut_begins rule before c cs after = attach_begins (rule (c ∷ before) (cs ++ after)) c (cut rule (c ∷ before) cs after)

-- if `attach` prepends a character to pieces, a cluster ends after that character if and only if it is a piece of its
-- own
ends_attach : (b : Bool) (c d : ℕ) (p : List ℕ) (ps : List (List ℕ))
    → flat_map ends_of_piece (attach b c ((d ∷ p) ∷ ps)) ≡ b ∷ flat_map ends_of_piece ((d ∷ p) ∷ ps)
ends_attach true c d p ps = refl
ends_attach false c d p ps =
    let more : length (c ∷ (d ∷ p)) - 1 ≡ suc (length (d ∷ p) - 1) = omega arith in
    ap (λ n. (replicate n false ++ true ∷ []) ++ flat_map ends_of_piece ps) more

-- A rule that ends a segment at the end of the text.
abbrev pub EndsAtEnd : Rule → Type 0
EndsAtEnd rule = (before : List ℕ) (c : ℕ) → rule (c ∷ before) [] ≡ true

ends_of_cut : (rule : Rule) → EndsAtEnd rule → (before cs : List ℕ) → flat_map ends_of_piece (cut rule before cs []) ≡ ends_after rule before cs
unfolding cut
ends_of_cut rule last before [] = refl
ends_of_cut rule last before (c ∷ []) = rw (last before c) refl
ends_of_cut rule last before (c ∷ (d ∷ cs)) =
    let inner = cut_begins rule (c ∷ before) d cs [] in
    let b = rule (c ∷ before) ((d ∷ cs) ++ []) in
    ap (λ rest. flat_map ends_of_piece (attach b c rest)) inner.2 ∙ ends_attach b c d inner.0 inner.1
    ∙ ap₂ ◌∷◌ (ap (rule (c ∷ before)) (append-nil (d ∷ cs))) (ap (flat_map ends_of_piece) (sym inner.2) ∙ ends_of_cut rule last (c ∷ before) (d ∷ cs))

-- concatenating the pieces yields the original characters
concat_attach : (b : Bool) (c : ℕ) (pieces : List (List ℕ)) → concat (attach b c pieces) ≡ c ∷ concat pieces
concat_attach true c pieces = refl
concat_attach false c [] = refl
concat_attach false c (p ∷ ps) = refl

concat_cut : (rule : Rule) (before cs after : List ℕ) → concat (cut rule before cs after) ≡ cs
unfolding cut
concat_cut rule before [] after = refl
concat_cut rule before (c ∷ cs) after =
    concat_attach (rule (c ∷ before) (cs ++ after)) c (cut rule (c ∷ before) cs after) ∙ ap (λ t. c ∷ t) (concat_cut rule (c ∷ before) cs after)

-- if all characters of the pieces are Unicode scalar values, the pieces and their UTF-8 bytes have the same
-- ends
scalars_parts : (xs ys : List ℕ) → scalars (xs ++ ys) ≡ true → (scalars xs ≡ true) × (scalars ys ≡ true)
scalars_parts [] ys h = (refl, h)
scalars_parts (x ∷ xs) ys h =
    let both = and_parts _ _ h in
    let rest = scalars_parts xs ys both.1 in
    (ap₂ ◌&&◌ both.0 rest.0, rest.1)

ends_of_bytes : (pieces : List (List ℕ)) → scalars (concat pieces) ≡ true → flat_map ends_of (map encode_utf8_all pieces) ≡ flat_map ends_of_piece pieces
ends_of_bytes [] h = refl
ends_of_bytes (p ∷ ps) h =
    let parts = scalars_parts p (concat ps) h in
    ap₂ ◌++◌ (ap ends_of_piece (chars-encodes p parts.0)) (ends_of_bytes ps parts.1)

ends_of_segments : (rule : Rule) → EndsAtEnd rule → (bs : List ℕ) → IsUtf8 bs → flat_map ends_of (segments rule bs) ≡ ends_after rule [] (chars bs)
unfolding segments
ends_of_segments rule last bs u =
    let all : scalars (concat (cut rule [] (chars bs) [])) ≡ true = ap scalars (concat_cut rule [] (chars bs) []) ∙ scalars-chars bs u in
    ends_of_bytes _ all ∙ ends_of_cut rule last [] (chars bs)

pub ends_of_graphemes : (bs : List ℕ) → IsUtf8 bs → flat_map ends_of (graphemes true bs) ≡ cluster_ends (chars bs)
unfolding cluster_ends
ends_of_graphemes bs u = ends_of_segments (is_grapheme_break true) (λ before c. unfold is_grapheme_break in refl) bs u

pub ends_of_words : (bs : List ℕ) → IsUtf8 bs → flat_map ends_of (word_bounds bs) ≡ word_ends (chars bs)
unfolding word_ends
ends_of_words bs u = ends_of_segments is_word_break (λ before c. unfold is_word_break in refl) bs u

-- encoding characters one at a time yields their UTF-8 bytes, and decoding these bytes yields the characters
bytes_of_each : (cs : List ℕ) → flat_map encode_utf8 cs ≡ encode_utf8_all cs
bytes_of_each [] = refl
bytes_of_each (c ∷ cs) = ap (◌++◌ (encode_utf8 c)) (bytes_of_each cs)

pub spelled : (text bytes : List ℕ) → bytes ≡ flat_map encode_utf8 text → IsUtf8 bytes → chars bytes ≡ text
spelled text bytes e u = sym (chars_from_encodes text bytes u (sym (e ∙ bytes_of_each text)))

-- `cluster_ends` has one item per character
length_ends_after : (rule : Rule) (before text : List ℕ) → length (ends_after rule before text) ≡ length text
length_ends_after rule before [] = refl
length_ends_after rule before (c ∷ text) = ap suc (length_ends_after rule (c ∷ before) text)

pub length-cluster_ends : (text : List ℕ) → length (cluster_ends text) ≡ length text
unfolding cluster_ends
length-cluster_ends text = length_ends_after (is_grapheme_break true) [] text

pub length-word_ends : (text : List ℕ) → length (word_ends text) ≡ length text
unfolding word_ends
length-word_ends text = length_ends_after is_word_break [] text

-- an empty text has no cluster ends and no word boundaries
empty : (ends : List Bool) → length ends ≡ 0 → ends ≡ []
empty [] none = refl
empty (e ∷ ends) none = absurd (omega arith)

pub no_ends : (text : List ℕ) → length text ≡ 0 → cluster_ends text ≡ []
no_ends text none = empty (cluster_ends text) (length-cluster_ends text ∙ none)

pub no_words : (text : List ℕ) → length text ≡ 0 → word_ends text ≡ []
no_words text none = empty (word_ends text) (length-word_ends text ∙ none)
