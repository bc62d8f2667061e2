-- Where the extended grapheme clusters of a text end, according to the crate `unicode_segmentation`
-- (UAX #29).
use Rattle.std.specs.Prelude.{◌≡◌, ℕ, ◌+◌, ◌-◌, ◌==◌, nat_le, Bool, true, false, ◌&&◌, ◌||◌, ◌⊎◌, List, [], ◌∷◌, ◌++◌, length, filter, replicate, slice_index_or, Option, Some, None}
use Rattle.std.specs.List.{range_with_len}
use Rattle.std.specs.Str.{chars}
use Rattle.bidi.specs.Brackets.{greatest}
use Rattle.ucd.specs.Least.{least}
use Rattle.ucd_breaks.specs.GraphemeClusterBreak.{grapheme_cluster_break}
use Rattle.ucd_breaks.specs.declared.GraphemeClusterBreak.{GraphemeClusterBreak}
use Rattle.ucd_breaks.specs.declared.GraphemeClusterBreak.TheVariants.{Control, Extend, Lf, Other, SpacingMark, Zwj}
use Rattle.ucd_derived.specs.IndicConjunctBreak.{indic_conjunct_break}
use Rattle.ucd_derived.specs.declared.IndicConjunctBreak.{IndicConjunctBreak}
use Rattle.ucd_derived.specs.declared.IndicConjunctBreak.TheVariants as InCb
use Rattle.unicode_segmentation.specs.Grapheme.{is_grapheme_break}
use Rattle.unicode_segmentation.specs.Segments.{Rule}

-- for each character of a text, whether the rule ends a segment, such as a cluster or a word, after the
-- character; `before` holds the characters before the text, in reverse order
abbrev pub ends_after : Rule → List ℕ → List ℕ → List Bool
ends_after rule before [] = []
ends_after rule before (c ∷ text) = rule (c ∷ before) text ∷ ends_after rule (c ∷ before) text

unfoldable pub cluster_ends : List ℕ → List Bool
cluster_ends text = ends_after (is_grapheme_break true) [] text

abbrev pub ends_at : List Bool → ℕ → Bool
ends_at ends k = slice_index_or ends k false

-- the index after the given one, or `other` for `None`
abbrev pub after : Option ℕ → ℕ → ℕ
after (Some k) other = k + 1
after None other = other

-- where the cluster of character k starts: after the last character before k that ends a cluster, or at 0
abbrev pub cluster_begin : List Bool → ℕ → ℕ
cluster_begin ends k = after (greatest (ends_at ends) k) 0

-- where the cluster of character k ends: after the first character from k on that ends a cluster, or at the
-- end of the text
abbrev pub cluster_end : List Bool → ℕ → ℕ
cluster_end ends k = after (least (ends_at ends) k (length ends - k)) (length ends)

-- Where the clusters of a part of a text end, counted from the start of the part. The part has `len` characters from
-- `start` on. The last of these ends is the end of the part, even if that splits a cluster.
abbrev pub ends_in : List Bool → ℕ → ℕ → List ℕ
ends_in ends start len = filter (λ k. k == len || ends_at ends (start + k - 1)) (range_with_len 1 len)

-- for each character of a segment, whether the segment ends after it, given the segment's UTF-8 bytes
abbrev pub ends_of : List ℕ → List Bool
ends_of cluster = replicate (length (chars cluster) - 1) false ++ true ∷ []

-- whether a number is in the range from `first` to `last`, inclusive
abbrev pub lies_in : ℕ → ℕ → ℕ → Bool
lies_in first last c = nat_le first c && nat_le c last

-- Whether a character is in a set whose members are never joined to each other: Latin, Greek, Cyrillic,
-- Armenian and kana without combining marks, Hebrew and Arabic letters, ideographs, punctuation and some
-- controls.
abbrev pub is_alone : ℕ → Bool
is_alone c =
    lies_in 0x20 0x2FF c
    || (lies_in 0x9 0xA c
    || (lies_in 0x370 0x482 c
    || (lies_in 0x48A 0x590 c
    || (lies_in 0x5D0 0x5EA c
    || (lies_in 0x621 0x64A c
    || (lies_in 0x1E00 0x200B c
    || (lies_in 0x200E 0x20CF c
    || (lies_in 0x3000 0x3029 c
    || (lies_in 0x3030 0x3098 c
    || (lies_in 0x309B 0xA66E c
    || (lies_in 0xFF00 0xFF9D c
    || lies_in 0x20000 0x2FFFF c)))))))))))

-- If a text is split in two at a split point, the clusters of the two parts are the clusters of the whole
-- text. A split point is the start of the text, its end, or a place between two characters at which a cluster
-- ends, whatever comes before and after them.

-- whether no rule except GB9c joins a character of this class to the next one, if the next one may start a
-- cluster
abbrev pub may_end : GraphemeClusterBreak → Bool
may_end Control = true
may_end Extend = true
may_end Lf = true
may_end Other = true
may_end SpacingMark = true
may_end _ = false

-- whether no rule except GB9c joins a character of this class to a previous character that may end a cluster,
-- or looks back past the boundary between the two
abbrev pub may_start : GraphemeClusterBreak → Bool
may_start Extend = false
may_start SpacingMark = false
may_start Zwj = false
may_start _ = true

-- whether GB9c does not join the two characters, and no later match of GB9c extends back past the second one
abbrev pub no_conjunct : IndicConjunctBreak → IndicConjunctBreak → Bool
no_conjunct _ InCb.Extend = false
no_conjunct InCb.Extend InCb.Consonant = false
no_conjunct InCb.Linker InCb.Consonant = false
no_conjunct _ _ = true

unfoldable pub can_split : ℕ → ℕ → Bool
can_split last next =
    may_end (grapheme_cluster_break last) && may_start (grapheme_cluster_break next)
    && no_conjunct (indic_conjunct_break last) (indic_conjunct_break next)

abbrev pub is_split_point : List ℕ → ℕ → Bool
is_split_point text k = can_split (slice_index_or text (k - 1) 0) (slice_index_or text k 0)

abbrev pub IsSplitPoint : List ℕ → ℕ → Type 0
IsSplitPoint text k = (k ≡ 0) ⊎ ((k ≡ length text) ⊎ (is_split_point text k ≡ true))

-- whether there are split points directly before and directly after character k
abbrev pub IsAloneBetweenSplits : List ℕ → ℕ → Type 0
IsAloneBetweenSplits text k = IsSplitPoint text k × IsSplitPoint text (k + 1)
