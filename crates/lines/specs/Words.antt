-- Where the word boundaries of a text are, according to the crate `unicode_segmentation` (UAX #29).
use Rattle.std.specs.Prelude.{ℕ, Bool, List, []}
use Rattle.unicode_segmentation.specs.Word.{is_word_break}
use Rattle.lines.specs.Clusters.{ends_after}

-- whether there is a word boundary after each character of a text
unfoldable pub word_ends : List ℕ → List Bool
word_ends text = ends_after is_word_break [] text
