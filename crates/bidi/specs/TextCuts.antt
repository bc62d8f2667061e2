-- Where the first paragraph of a text in UTF-8 ends.
use Rattle.std.specs.Prelude.{◌≡◌, ℕ, ◌<◌, ◌≤◌, ◌+◌, ◌==◌, ◌&&◌, ◌||◌, nat_lt, Bool, false, List, ◌∷◌, ◌++◌, length, take, drop, slice_index, Option, None, Some, IsUtf8}
use Rattle.std.specs.Str.{chars}
use Rattle.ucd.specs.Separators.{may_separate}
use Rattle.bidi.specs.Cuts.{SplitsAt, paragraphs}

-- whether the bytes a, b and c begin with a character for which `may_separate` is true
abbrev pub may_lead : ℕ → ℕ → ℕ → Bool
may_lead a b c = nat_lt a 32 || ((a == 194 && b == 133) || (a == 226 && (b == 128 && c == 169)))

-- whether such a character begins at index k of `bytes`
abbrev pub leads_at : List ℕ → ℕ → Bool
leads_at bytes k = may_lead (slice_index bytes k) (slice_index bytes (k + 1)) (slice_index bytes (k + 2))

-- there is a boundary only after characters for which `may_separate` is true
abbrev pub AreUsual : (ℕ → ℕ → Bool) → Type 0
AreUsual is_cut = (a b : ℕ) → a < 1114112 → may_separate a ≡ false → is_cut a b ≡ false

-- the first paragraph of a text is its first n bytes, and more characters follow
pub record EndsFirst (is_cut : ℕ → ℕ → Bool) (text : List ℕ) (n : ℕ) : Type 0 where
  pub within : n < length text
  pub front : IsUtf8 (take n text)
  pub rest : IsUtf8 (drop n text)
  pub some : 0 < length (chars (take n text))
  pub more : 0 < length (chars (drop n text))
  pub splits : paragraphs is_cut (chars text) ≡ chars (take n text) ∷ paragraphs is_cut (chars (drop n text))

abbrev pub FindsEnd : (ℕ → ℕ → Bool) → List ℕ → Option ℕ → Type 0
FindsEnd is_cut text (Some n) = EndsFirst is_cut text n
FindsEnd is_cut text None = SplitsAt is_cut (chars text) None

-- whether there is a boundary between the character before a text, if there is one, and the text
abbrev pub cuts_before : (ℕ → ℕ → Bool) → Option ℕ → List ℕ → Bool
cuts_before is_cut (Some a) (c ∷ text) = is_cut a c
cuts_before is_cut _ _ = false

abbrev pub BeginsAfter : (ℕ → ℕ → Bool) → Option ℕ → List ℕ → Bool → Type 0
BeginsAfter is_cut last text begins = begins ≡ cuts_before is_cut last (chars text)

-- if `text` follows the characters `held`, the first paragraph of the joined text consists of `held` and the
-- first n bytes of `text`
pub record EndsAfter (is_cut : ℕ → ℕ → Bool) (held text : List ℕ) (n : ℕ) : Type 0 where
  pub within : n ≤ length text
  pub front : IsUtf8 (take n text)
  pub rest : IsUtf8 (drop n text)
  pub splits : SplitsAt is_cut (held ++ chars text) (Some (length (held ++ chars (take n text))))

abbrev pub FindsEndAfter : (ℕ → ℕ → Bool) → List ℕ → List ℕ → Option ℕ → Type 0
FindsEndAfter is_cut held text (Some n) = EndsAfter is_cut held text n
FindsEndAfter is_cut held text None = SplitsAt is_cut (held ++ chars text) None
