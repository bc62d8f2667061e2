-- The word of a character: the segment between word boundaries that contains it.
use Rattle.std.specs.Prelude.{ℕ, ◌+◌, ◌-◌, nat_le, Bool, ◌||◌, List, [], length, slice_range, slice_index_or, Option, Some, None, if◌then◌else◌}
use Rattle.std.specs.Char.Unicode.Alphabetic.{is_alphabetic}
use Rattle.std.specs.Char.Unicode.Numeric.{is_numeric}
use Rattle.std.specs.List.{list_any}
use Rattle.lines.specs.Clusters.{cluster_begin, cluster_end}
use Rattle.lines.specs.Layouts.{Layout}
use Rattle.lines.specs.Words.{word_ends}
use Rattle.session.specs.Kept.{pars_of, text_of}
use Rattle.session.specs.Places.{count_to, paragraph_starts}
use Rattle.session.specs.Touched.{start_of}
use Rattle.session.specs.declared.words.Word.{Word}

-- whether a text has an alphabetic or numeric character
abbrev pub has_letter : List ℕ → Bool
has_letter text = list_any (λ c. is_alphabetic c || is_numeric c) text

-- The word of character k of a paragraph that starts at `start`. `ends` holds, for each character, whether a
-- boundary follows it. The word starts at the last boundary before k, and ends at the first boundary after k.
abbrev pub word_by : ℕ → List ℕ → List Bool → ℕ → Word
word_by start text ends k = record {
  start = start + cluster_begin ends k;
  end = start + cluster_end ends k;
  has_letter = has_letter (slice_range text (cluster_begin ends k) (cluster_end ends k));
}

-- the word of the character at a position of a text; `None` past the last character
abbrev pub word_at : List Layout → ℕ → Option Word
word_at kept pos =
    let i = count_to pos (paragraph_starts kept) - 1 in
    let start = start_of (pars_of kept) i in
    let text = slice_index_or (pars_of kept) i [] in
    (if nat_le (length (text_of kept)) pos then None else Some (word_by start text (word_ends text) (pos - start)))
