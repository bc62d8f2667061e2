-- What the bits of options and of print flags mean.
use Rattle.std.specs.Prelude.{not, ℕ, ◌/◌, ◌%◌, ◌==◌, ◌&&◌, ◌||◌, nat_lt, Bool, false, true, option_and_then, option_map, Option, Some, None, if◌then◌else◌}
use Rattle.ucd.specs.LineSeparators.{contents_if}
use Rattle.ucd.specs.declared.tables.Tables.{Tables}
use Rattle.bidi.specs.declared.base.Base.{Base}
use Rattle.bidi.specs.declared.base.Base.TheVariants.{Rtl, Ltr, WeakRtl, WeakLtr}
use Rattle.lines.specs.declared.options.Options.{Options}
use Rattle.lines.specs.declared.printing.print.Print.{Print}
use Rattle.hordguli_c.specs.declared.options.PageForm.{PageForm}

abbrev pub has_bit : ℕ → ℕ → Bool
has_bit bits value = bits / value % 2 == 1

-- the base direction in the two lowest bits
abbrev pub base_of : ℕ → Base
base_of bits =
    if bits % 4 == 0 then WeakLtr else if bits % 4 == 1 then WeakRtl else if bits % 4 == 2 then Ltr else Rtl

-- Whether no bit above 26 is set, and neither of the two direction bits is stated to be both 1 and 0. Bit 24
-- states that the lowest bit is 0, and bit 25 that the next bit is 0. So the combined bits of two directions
-- are refused.
abbrev pub names_direction : ℕ → Bool
names_direction bits =
    not (has_bit bits 1 && has_bit bits 16777216)
    && (not (has_bit bits 2 && has_bit bits 33554432)
    && nat_lt bits 134217728)

-- whether only LF and CR end paragraphs (bit 26), and the tables that a call with these options uses
abbrev pub separates_lines : ℕ → Bool
separates_lines bits = has_bit bits 67108864

abbrev pub tables_by : ℕ → Option Tables → Option Tables
tables_by bits held = option_map (contents_if (separates_lines bits)) held

-- the base direction, or `None` if a bit from 2 to 23 or above 26 is set, or the bits combine two directions
abbrev pub direction_of : ℕ → Option Base
direction_of bits = if nat_lt (bits % 16777216) 4 && names_direction bits then Some (base_of bits) else None

-- the bits below bit 26, or `None` if a bit above 26 is set
abbrev pub low_bits_of : ℕ → Option ℕ
low_bits_of bits = if nat_lt bits 134217728 then Some (bits % 67108864) else None

-- whether breaks inside numbers are disabled (bit 4), or `None` if a bit other than 4 and 26 is set
abbrev pub tailoring_in : ℕ → Option Bool
tailoring_in bits = if bits == 0 then Some false else if bits == 16 then Some true else None

abbrev pub tailoring_of : ℕ → Option Bool
tailoring_of bits = option_and_then tailoring_in (low_bits_of bits)

-- The options of a session, with the tab width in bits 8 to 15. `None` if bit 7, one of bits 16 to 23, or a
-- bit above 26 is set, or the bits combine two directions.
abbrev pub options_of : ℕ → Option Options
options_of bits =
    if nat_lt (bits % 256) 128 && (bits / 65536 % 256 == 0 && names_direction bits) then Some (record {
      base = base_of bits;
      nobreak = has_bit bits 4;
      reordernsm = has_bit bits 8;
      whole_numbers = has_bit bits 16;
      reorder_clusters = has_bit bits 32;
      show_spaces = has_bit bits 64;
      tab_width = bits / 256 % 256;
    }) else None

-- the options of a row, given the bits below bit 26; `None` if a bit other than 3 and 5 is set
abbrev pub row_options_in : ℕ → Option Options
row_options_in bits = if bits == 0 || (bits == 8 || (bits == 32 || bits == 40)) then options_of bits else None

abbrev pub row_options_of : ℕ → Option Options
row_options_of bits = option_and_then row_options_in (low_bits_of bits)

-- what to print for each line, or `None` if a bit above 6 is set
abbrev pub print_of : ℕ → Option Print
print_of bits =
    if nat_lt bits 128 then Some (record {
      novisual = not (has_bit bits 1);
      basedir = has_bit bits 2;
      ltov = has_bit bits 4;
      vtol = has_bit bits 8;
      levels = has_bit bits 16;
      nopad = not (has_bit bits 32);
      nomirror = not (has_bit bits 64);
    }) else None

-- how a text is laid out and printed, or `None` if the options or the print flags are refused
abbrev pub page_form_of : ℕ → ℕ → ℕ → Option PageForm
page_form_of options width print =
    option_and_then (λ options. option_map (λ print. record { options = options; width = width; print = print }) (print_of print)) (options_of options)
