-- The tables that an image holds.
use Rattle.std.specs.Prelude.{◌≡◌, ℕ, ◌+◌, ◌*◌, ◌<◌, List}
use Rattle.std.specs.Char.{IsScalar}
use Rattle.ucd.specs.Answers.{answers_in}
use Rattle.ucd.specs.Images.{image_version, page_count, entry_at, bits_at, bracket_at, mirror_at, IsImage}
use Rattle.ucd.specs.Properties.{properties_of}
use Rattle.ucd.specs.Tables.{bracket_of, mirror_of, mirror_by}
use Rattle.ucd.specs.declared.tables.Tables.{Tables}

-- the tables and the image have the same properties, bracket and mirror for the character c
pub record SaysImage (bytes : List ℕ) (t : Tables) (c : ℕ) : Type 0 where
  pub properties : properties_of t c ≡ answers_in (bits_at bytes c)
  pub bracket : bracket_of t c ≡ bracket_at bytes c
  pub mirror : mirror_of t c ≡ mirror_by (mirror_at bytes c)

-- the bytes are an image of the tables
pub record IsImageOf (bytes : List ℕ) (t : Tables) : Type 0 where
  pub image : IsImage bytes
  pub version : t.version ≡ image_version bytes
  pub say : (c : ℕ) → IsScalar c → SaysImage bytes t c

-- no two pages of the image are equal
abbrev pub AreImagePagesDistinct : List ℕ → Type 0
AreImagePagesDistinct bytes = (p q : ℕ) → p < q → q < page_count bytes → ¬ ((k : ℕ) → k < 256 → entry_at bytes (p * 256 + k) ≡ entry_at bytes (q * 256 + k))
