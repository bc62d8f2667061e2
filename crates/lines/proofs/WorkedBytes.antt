-- Worked examples of the bytes of a line.
use Rattle.std.proofs.Common.{◌≡◌, true, false, None, [], ◌∷◌, ◌++◌, codes, refl}
use Rattle.std.specs.Char.{encode_utf8}
use Rattle.std.specs.Fmt.{digits}
use Rattle.lines.specs.Bytes.{line_bytes}
use Rattle.lines.specs.Visual.{Visual}
use Rattle.lines.specs.declared.printing.print.Print.{Print}

-- a line with U+05D0, a space and two digits
abbrev hebrew : Visual
hebrew = record {
  is_first = true;
  base = 1;
  tab_width = 0;
  len = 4;
  text = 0x5D0 ∷ 32 ∷ 0x31 ∷ 0x32 ∷ [];
  advances = None;
  columns = 4;
  levels = 1 ∷ 1 ∷ 2 ∷ 2 ∷ [];
  ltov = 3 ∷ 2 ∷ 0 ∷ 1 ∷ [];
  vtol = 2 ∷ 3 ∷ 1 ∷ 0 ∷ [];
  chars = 0x31 ∷ 0x32 ∷ 32 ∷ 0x5D0 ∷ [];
}

abbrev plain : Print
plain = record { novisual = false; basedir = false; ltov = false; vtol = false; levels = false; nopad = false; nomirror = false }

abbrev all : Print
all = record { novisual = false; basedir = true; ltov = true; vtol = true; levels = true; nopad = true; nomirror = false }

all_lines : line_bytes 80 all hebrew ≡ codes "12 " ++ (0xD7 ∷ 0x90 ∷ []) ++ codes "\nRTL\n3 2 0 1\n2 3 1 0\n1 1 2 2\n"
unfolding encode_utf8 digits
all_lines = refl

-- a line of 4 columns at width 5 is padded with one space
padded : line_bytes 5 plain hebrew ≡ codes " 12 " ++ (0xD7 ∷ 0x90 ∷ 10 ∷ [])
unfolding encode_utf8
padded = refl

-- a line wider than the width is not padded
too_narrow : line_bytes 3 plain hebrew ≡ codes "12 " ++ (0xD7 ∷ 0x90 ∷ 10 ∷ [])
unfolding encode_utf8
too_narrow = refl

-- a line of a left-to-right paragraph is not padded, and its direction is `LTR`
left_to_right : line_bytes 80 (record all { nopad = false }) (record hebrew { base = 0 })
    ≡ codes "12 " ++ (0xD7 ∷ 0x90 ∷ []) ++ codes "\nLTR\n3 2 0 1\n2 3 1 0\n1 1 2 2\n"
unfolding encode_utf8 digits
left_to_right = refl

-- the direction is printed for the first line only
later : line_bytes 80 (record plain { novisual = true; basedir = true; vtol = true }) (record hebrew { is_first = false }) ≡ codes "2 3 1 0\n"
unfolding digits
later = refl

-- a line with an empty shown part
abbrev blank : Visual
blank = record { is_first = true; base = 0; tab_width = 0; len = 0; text = []; advances = None; columns = 0; levels = []; ltov = []; vtol = []; chars = [] }

empty_lines : line_bytes 80 (record all { basedir = false }) blank ≡ codes "\n\n\n\n"
empty_lines = refl

-- an empty line of a right-to-left paragraph is padded to the width
blank_padded : line_bytes 2 plain (record blank { base = 1 }) ≡ codes "  \n"
blank_padded = refl

-- a Hebrew letter in brackets, in a right-to-left line; the brackets are printed mirrored, then unmirrored
abbrev brackets : Visual
brackets = record {
  is_first = true;
  base = 1;
  tab_width = 0;
  len = 3;
  text = 40 ∷ 0x5D0 ∷ 41 ∷ [];
  advances = None;
  columns = 3;
  levels = 1 ∷ 1 ∷ 1 ∷ [];
  ltov = 2 ∷ 1 ∷ 0 ∷ [];
  vtol = 2 ∷ 1 ∷ 0 ∷ [];
  chars = 40 ∷ 0x5D0 ∷ 41 ∷ [];
}

mirrored : line_bytes 1 plain brackets ≡ 40 ∷ 0xD7 ∷ 0x90 ∷ 41 ∷ 10 ∷ []
unfolding encode_utf8
mirrored = refl

not_mirrored : line_bytes 1 (record plain { nomirror = true }) brackets ≡ 41 ∷ 0xD7 ∷ 0x90 ∷ 40 ∷ 10 ∷ []
unfolding encode_utf8
not_mirrored = refl

-- if only levels are printed, they are separated by spaces, and each has one, two or three digits
long_number : line_bytes 80 (record plain { novisual = true; levels = true }) (record blank { levels = 10 ∷ 0 ∷ 125 ∷ [] }) ≡ codes "10 0 125\n"
unfolding digits
long_number = refl
