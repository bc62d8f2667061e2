-- The contents that paged tables model: the pages, and the maps of brackets and mirrors.
use Rattle.std.specs.Prelude.{◌≡◌, ℕ, ◌<◌, List, Some, None, is_some}
use Rattle.std.specs.BTreeMap.{BTreeMap, get}
use Rattle.std.specs.Ordering.{nat_cmp}
use Rattle.ucd.specs.Answers.{PropertyAnswers}
use Rattle.ucd.specs.Contents.{TableContents}
use Rattle.ucd.specs.DistinctPages.{IsEntryOf}
use Rattle.ucd.specs.Pages.{answers_at, singles, category_in, width_in, pictograph_in}
use Rattle.ucd.specs.declared.bracket.Bracket.{Bracket}
use Rattle.ucd.specs.declared.bracket.Mirror.{Mirror}
use Rattle.ucd.specs.declared.version.Version.{Version}

module _ (version : Version) (index : List ℕ) (entries : List PropertyAnswers) (brackets : BTreeMap ℕ Bracket) (mirrors : BTreeMap ℕ Mirror) where
  abbrev pub contents_in : TableContents
  contents_in = record {
    version = version;
    bidi_classes = singles (λ c. Some (answers_at index entries c).bidi_class) 1114112;
    brackets = singles (get nat_cmp brackets) 1114112;
    mirrors = singles (get nat_cmp mirrors) 1114112;
    line_classes = singles (λ c. Some (answers_at index entries c).line_class) 1114112;
    categories = singles (λ c. Some (category_in (answers_at index entries c))) 1114112;
    widths = singles (λ c. Some (width_in (answers_at index entries c))) 1114112;
    pictographs = singles (λ c. pictograph_in (answers_at index entries c)) 1114112;
    line_details = singles (λ c. Some (answers_at index entries c).line_detail) 1114112;
    joining = None;
  }

  -- the flags in the pages agree with the maps of brackets and mirrors, and an image can contain the entries
  pub record AreSound : Type 0 where
    pub bracket : (c : ℕ) → c < 1114112 → (answers_at index entries c).has_bracket ≡ is_some (get nat_cmp brackets c)
    pub mirror : (c : ℕ) → c < 1114112 → (answers_at index entries c).has_mirror ≡ is_some (get nat_cmp mirrors c)
    pub entry : (c : ℕ) → c < 1114112 → IsEntryOf version (answers_at index entries c)
