-- Joining the parts that were made from tables results in an image of the tables.
use Rattle.std.proofs.Common.{◌≡◌, ℕ, ◌+◌, ◌*◌, ◌/◌, ◌%◌, ◌<◌, ◌≤◌, Bool, List, IsTrue, is_some, length, get_or, refl, sym, ◌∙◌, ap, subst, arith}
use Rattle.std.specs.BTreeMap.{BTreeMap, get}
use Rattle.std.specs.Ordering.{nat_cmp}
use Rattle.ucd.specs.Answers.{PropertyAnswers, answers_in, unnamed}
use Rattle.ucd.specs.DistinctPages.{AreDistinct, HoldsPages}
use Rattle.ucd.specs.Imaged.{IsImageOf, AreImagePagesDistinct}
use Rattle.ucd.specs.ImageParts.{Shows, Joins, ArePages}
use Rattle.ucd.specs.Images.{u16_at, bracket_count, mirror_count, brackets_at, mirrors_at, page_number, entry_at, bits_at, is_entry, bracket_in, mirror_in, bracket_at, mirror_at, found, ArePoints, ArePagesKnown, AreEntries}
use Rattle.ucd.specs.LineSeparators.{answers_by, answers_if, contents_if}
use Rattle.ucd.specs.Paged.{contents_in, AreSound}
use Rattle.ucd.specs.Pages.{answers_at}
use Rattle.ucd.specs.Tables.{mirror_by}
use Rattle.ucd.specs.declared.bracket.Bracket.{Bracket}
use Rattle.ucd.specs.declared.bracket.Mirror.{Mirror}
use Rattle.ucd.specs.declared.version.Version.{Version}
use Rattle.ucd.proofs.ImageParts.{u16_shown, points_shown, found_shown, shows_at}
use Rattle.ucd.proofs.LineLemmas.{bracket_if, bracket_flag_if, mirror_if, mirror_flag_if, properties_if, version_if}
use Rattle.ucd.proofs.PagedLemmas.{bracket_is, mirror_is, properties_are, below_limit}

-- ---- distinct pages as bytes
module _ (version : Version) (answers : ℕ → PropertyAnswers) (points : List PropertyAnswers) (index : List ℕ) (entries : List PropertyAnswers) (numbers bytes : List ℕ)
    (same : (c : ℕ) → c < 1114112 → get_or points c unnamed ≡ answers c) (holds : HoldsPages (λ c. get_or points c unnamed) index entries 4352) (distinct : AreDistinct entries)
    (numbers_len : length numbers ≡ 2 * length index) (numbers_are : (k : ℕ) → k < length index → u16_at numbers (2 * k) ≡ get_or index k 0)
    (bytes_len : length bytes ≡ 2 * length entries) (valid : (k : ℕ) → k < length entries → IsTrue (is_entry version (u16_at bytes (2 * k))))
    (each : (k : ℕ) → k < length entries → answers_in (u16_at bytes (2 * k)) ≡ get_or entries k unnamed) where
  pub are_pages : ArePages version answers numbers bytes
  are_pages = record {
    places = omega (arith, numbers_len, holds.places);
    whole = omega (arith, bytes_len, holds.whole);
    room = omega (arith, bytes_len, holds.room);
    within = λ block lt. omega (arith, numbers_are block (omega (arith, holds.places)), holds.within block lt, bytes_len);
    valid = λ k lt. valid k (omega (arith, bytes_len));
    same = λ c lt.
        let block : c / 256 < 4352 = omega arith in
        let number = numbers_are (c / 256) (omega (arith, holds.places)) in
        let place : get_or index (c / 256) 0 * 256 + c % 256 < length entries = omega (arith, holds.within (c / 256) block) in
        rw number (each (get_or index (c / 256) 0 * 256 + c % 256) place) ∙ holds.same c (omega arith) ∙ same c lt;
    distinct = λ p q lt within all. distinct p q lt (omega (arith, bytes_len)) (λ k k_lt.
        sym (each (p * 256 + k) (omega (arith, bytes_len))) ∙ ap answers_in (all k k_lt) ∙ each (q * 256 + k) (omega (arith, bytes_len)));
  }

module _ (separates : Bool) (version : Version) (index : List ℕ) (entries : List PropertyAnswers) (brackets : BTreeMap ℕ Bracket) (mirrors : BTreeMap ℕ Mirror) (sound : AreSound version index entries brackets mirrors)
    (numbers pages bracket_bytes mirror_bytes bytes : List ℕ) (are : ArePages version (answers_by separates index entries) numbers pages)
    (brackets_are : ArePoints bracket_in bracket_bytes 0 (length bracket_bytes / 8))
    (brackets_have : (c : ℕ) → c < 1114112 → found bracket_in bracket_bytes 0 (length bracket_bytes / 8) c ≡ get nat_cmp brackets c)
    (mirrors_are : ArePoints mirror_in mirror_bytes 0 (length mirror_bytes / 8))
    (mirrors_have : (c : ℕ) → c < 1114112 → found mirror_in mirror_bytes 0 (length mirror_bytes / 8) c ≡ get nat_cmp mirrors c)
    (joins : Joins version bytes numbers pages bracket_bytes mirror_bytes) where
  number_is : (block : ℕ) → block < 4352 → page_number bytes block ≡ u16_at numbers (2 * block)
  number_is block lt = u16_shown bytes 32 numbers 0 8704 joins.index_shown (32 + 2 * block) (2 * block) (omega arith) (omega arith) (omega arith)

  entry_is : (k : ℕ) → 2 * k + 2 ≤ length pages → entry_at bytes k ≡ u16_at pages (2 * k)
  entry_is k le = u16_shown bytes 8736 pages 0 (length pages) joins.pages_shown (8736 + 2 * k) (2 * k) (omega arith) (omega arith) (omega arith)

  known : ArePagesKnown bytes
  known block lt = omega (arith, number_is block lt, are.within block lt, joins.page_count)

  valid : AreEntries bytes
  valid k lt = rw (joins.of_version, entry_is k (omega (arith, joins.page_count))) (are.valid k (omega (arith, joins.page_count)))

  answers_are : (c : ℕ) → c < 1114112 → answers_in (bits_at bytes c) ≡ answers_by separates index entries c
  answers_are c lt =
      let block : c / 256 < 4352 = omega arith in
      let number = number_is (c / 256) block in
      let place : 2 * (page_number bytes (c / 256) * 256 + c % 256) + 2 ≤ length pages = omega (arith, number, are.within (c / 256) block) in
      ap answers_in (entry_is (page_number bytes (c / 256) * 256 + c % 256) place ∙ ap (λ n. u16_at pages (2 * (n * 256 + c % 256))) number) ∙ are.same c lt

  bracket_total : length bracket_bytes / 8 ≡ bracket_count bytes
  bracket_total = omega (arith, joins.bracket_count)

  mirror_total : length mirror_bytes / 8 ≡ mirror_count bytes
  mirror_total = omega (arith, joins.mirror_count)

  bracket_shows : Shows bytes (brackets_at bytes) bracket_bytes 0 (8 * bracket_count bytes)
  bracket_shows = shows_at bytes (brackets_at bytes) (brackets_at bytes) bracket_bytes (length bracket_bytes) (8 * bracket_count bytes) joins.brackets_shown refl (sym joins.bracket_count)

  mirror_shows : Shows bytes (mirrors_at bytes) mirror_bytes 0 (8 * mirror_count bytes)
  mirror_shows = shows_at bytes (mirrors_at bytes) (mirrors_at bytes) mirror_bytes (length mirror_bytes) (8 * mirror_count bytes) joins.mirrors_shown refl (sym joins.mirror_count)

  bracket_has : (c : ℕ) → c < 1114112 → bracket_at bytes c ≡ get nat_cmp brackets c
  bracket_has c lt = found_shown bracket_in bytes (brackets_at bytes) bracket_bytes 0 (bracket_count bytes) bracket_shows c
      ∙ subst (λ n. found bracket_in bracket_bytes 0 n c ≡ get nat_cmp brackets c) bracket_total (brackets_have c lt)

  mirror_has : (c : ℕ) → c < 1114112 → mirror_at bytes c ≡ get nat_cmp mirrors c
  mirror_has c lt = found_shown mirror_in bytes (mirrors_at bytes) mirror_bytes 0 (mirror_count bytes) mirror_shows c
      ∙ subst (λ n. found mirror_in mirror_bytes 0 n c ≡ get nat_cmp mirrors c) mirror_total (mirrors_have c lt)

  pub is_image : IsImageOf bytes (contents_if separates (contents_in version index entries brackets mirrors))
  is_image = record {
    image = record {
      framed = joins.framed;
      pages = known;
      entries = valid;
      brackets = points_shown bracket_in bytes (brackets_at bytes) bracket_bytes 0 (bracket_count bytes) bracket_shows (subst (ArePoints bracket_in bracket_bytes 0) bracket_total brackets_are);
      mirrors = points_shown mirror_in bytes (mirrors_at bytes) mirror_bytes 0 (mirror_count bytes) mirror_shows (subst (ArePoints mirror_in mirror_bytes 0) mirror_total mirrors_are);
      bracket_flags = λ c lt. ap (λ a. a.has_bracket) (answers_are c lt) ∙ bracket_flag_if separates c (answers_at index entries c) ∙ sound.bracket c lt ∙ ap is_some (sym (bracket_has c lt));
      mirror_flags = λ c lt. ap (λ a. a.has_mirror) (answers_are c lt) ∙ mirror_flag_if separates c (answers_at index entries c) ∙ sound.mirror c lt ∙ ap is_some (sym (mirror_has c lt));
    };
    version = version_if separates (contents_in version index entries brackets mirrors) ∙ sym joins.of_version;
    say = λ c is.
        let lt : c < 1114112 = below_limit c is in
        let t = contents_in version index entries brackets mirrors in
        record {
          properties = properties_if separates t c lt
              ∙ ap (answers_if separates c) (sym (properties_are version index entries brackets mirrors c lt sound))
              ∙ sym (answers_are c lt);
          bracket = bracket_if separates t c ∙ bracket_is version index entries brackets mirrors c lt ∙ sym (bracket_has c lt);
          mirror = mirror_if separates t c ∙ mirror_is version index entries brackets mirrors c lt ∙ ap mirror_by (sym (mirror_has c lt));
        };
  }

  pub pages_distinct : AreImagePagesDistinct bytes
  pages_distinct p q lt within all = are.distinct p q lt (omega (arith, joins.page_count)) (λ k k_lt.
      sym (entry_is (p * 256 + k) (omega (arith, joins.page_count))) ∙ all k k_lt ∙ entry_is (q * 256 + k) (omega (arith, joins.page_count)))
