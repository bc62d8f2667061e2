-- The code points of a paragraph after FriBidi's shaping.
use Rattle.std.specs.Prelude.{ℕ, zero, suc, ◌+◌, ◌-◌, ◌*◌, ◌%◌, ◌==◌, Bool, not, ◌&&◌, List, bit_and, bit_or, length, map, nat_le, nat_lt, option_map, position, slice_index, slice_index_or, unwrap_or, if◌then◌else◌}
use Rattle.std.specs.List.{range_with_len}
use Rattle.ucd.specs.Forms.{form_by}
use Rattle.joining.specs.Ligatures.{lam_alef}
use Rattle.ucd.specs.declared.form.Form.{Form}
use Rattle.ucd.specs.declared.form.Form.TheVariants.{Final, Initial, Isolated, Medial}
use Rattle.hordguli_fribidi.specs.Joining.{has_forms}
use Rattle.hordguli_fribidi.specs.Points.{number_at}

-- ---- presentation forms

-- the place of a form among the four of a code point
abbrev pub place_of_form : Form → ℕ
place_of_form Isolated = 0
place_of_form Final = 1
place_of_form Initial = 2
place_of_form Medial = 3

-- the form of a letter that joins on the sides in its property
abbrev pub form_in : ℕ → Form
form_in property = form_by (not (bit_and property 1 == 0)) (not (bit_and property 2 == 0))

-- the form of a code point, given its property; `forms` has four for each code point of the block Arabic
abbrev pub form_of : List ℕ → ℕ → ℕ → ℕ
form_of forms property c =
    if has_forms property && (nat_le 0x600 c && nat_lt c 0x700) then slice_index_or forms ((c - 0x600) * 4 + place_of_form (form_in property)) 0 else c

unfoldable pub form_at : List ℕ → List ℕ → List ℕ → ℕ → ℕ
form_at forms properties string k = form_of forms (slice_index properties k) (slice_index string k)

abbrev pub formed_if : List ℕ → List ℕ → List ℕ → List ℕ
formed_if forms properties string =
    if length properties == length string then map (form_at forms properties string) (range_with_len 0 (length string)) else string

-- ---- ligatures

-- the ligature of two code points with the given levels, or 0 if there is none
abbrev pub ligature_of : ℕ → ℕ → ℕ → ℕ → ℕ
ligature_of level other lam alef = if level % 2 == 1 && (level == other) then unwrap_or (lam_alef lam alef) 0 else 0

-- the ligature of the code points at k and k + 1
unfoldable pub ligature_at : List ℕ → List ℕ → ℕ → ℕ
ligature_at levels string k =
    if nat_lt (k + 1) (length string)
    then ligature_of (slice_index levels k) (slice_index levels (k + 1)) (slice_index string k) (slice_index string (k + 1)) else 0

-- the ligature of the code points at k - 1 and k
abbrev pub ligature_before : List ℕ → List ℕ → ℕ → ℕ
ligature_before levels string zero = 0
ligature_before levels string (suc k) = ligature_at levels string k

-- The ligature replaces the second code point, and U+FEFF the first.
abbrev pub ligated : ℕ → ℕ → ℕ → ℕ
ligated before at c = if at == 0 then (if before == 0 then c else before) else 0xFEFF

abbrev pub marked : ℕ → ℕ → ℕ
marked at property = if at == 0 then property else bit_or property 32

unfoldable pub ligated_at : List ℕ → List ℕ → ℕ → ℕ
ligated_at levels string k = ligated (ligature_before levels string k) (ligature_at levels string k) (slice_index string k)

unfoldable pub marked_at : List ℕ → List ℕ → List ℕ → ℕ → ℕ
marked_at levels string properties k = marked (ligature_at levels string k) (slice_index properties k)

abbrev pub ligated_of : List ℕ → List ℕ → List ℕ
ligated_of levels string = map (ligated_at levels string) (range_with_len 0 (length string))

abbrev pub marked_of : List ℕ → List ℕ → List ℕ → List ℕ
marked_of levels string properties = map (marked_at levels string properties) (range_with_len 0 (length string))

-- whether all three arrays have one length
abbrev pub are_even : List ℕ → List ℕ → List ℕ → Bool
are_even levels string properties = length levels == length string && length properties == length string

-- ---- ligatures for consoles, from lists of pairs and of their ligatures

-- the ligature of two code points, whose pair is a number with 16 bits for each, or 0 if they have none
abbrev pub listed : List ℕ → List ℕ → ℕ → ℕ → ℕ
listed pairs ligatures first second =
    if nat_lt first 65536 && nat_lt second 65536 then unwrap_or (option_map (λ k. slice_index ligatures k) (position (λ pair. pair == first * 65536 + second) pairs)) 0 else 0

abbrev pub next_of : ℕ → ℕ → ℕ
next_of made c = if made == 0 then c else made

module _ (pairs ligatures levels string : List ℕ) where
  -- the ligature of `first`, in place of the code point at k, with the one after it
  unfoldable pub made_of : ℕ → ℕ → ℕ
  made_of k first =
      if nat_lt (k + 1) (length string) && (slice_index levels k % 2 == 1) && (slice_index levels k == slice_index levels (k + 1))
      then listed pairs ligatures first (slice_index string (k + 1)) else 0

  -- the code point at k, or the ligature of the one before with it, which may form another ligature
  abbrev pub first_at : ℕ → ℕ
  first_at zero = slice_index string 0
  first_at (suc k) = next_of (made_of k (first_at k)) (slice_index string (suc k))

  unfoldable pub console_at : ℕ → ℕ
  console_at k = if made_of k (first_at k) == 0 then first_at k else 0xFEFF

  unfoldable pub console_marked_at : List ℕ → ℕ → ℕ
  console_marked_at properties k = marked (made_of k (first_at k)) (slice_index properties k)

  abbrev pub console_of : List ℕ
  console_of = map console_at (range_with_len 0 (length string))

  abbrev pub console_marked_of : List ℕ → List ℕ
  console_marked_of properties = map (console_marked_at properties) (range_with_len 0 (length string))

-- ---- mirrors (L4)

abbrev pub mirror_of : List ℕ → List ℕ → List ℕ → ℕ → ℕ
mirror_of index pages numbers c = if number_at index pages numbers c == 0 then c else number_at index pages numbers c

unfoldable pub mirrored_at : List ℕ → List ℕ → List ℕ → List ℕ → List ℕ → ℕ → ℕ
mirrored_at index pages numbers levels string k =
    if slice_index levels k % 2 == 1 then mirror_of index pages numbers (slice_index string k) else slice_index string k

abbrev pub mirrored_if : List ℕ → List ℕ → List ℕ → List ℕ → List ℕ → List ℕ
mirrored_if index pages numbers levels string =
    if length levels == length string then map (mirrored_at index pages numbers levels string) (range_with_len 0 (length string)) else string
