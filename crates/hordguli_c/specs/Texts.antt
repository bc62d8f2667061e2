-- Texts without a session: their printed lines, and their characters.
use Rattle.std.specs.Prelude.{◌≡◌, ℕ, ◌<◌, ◌&&◌, Bool, List, length, map, sum_by, take, Option, Some, None, MatchBool}
use Rattle.std.specs.Char.{len_utf8}
use Rattle.std.specs.List.{range_with_len}
use Rattle.ucd.specs.declared.tables.Tables.{Tables}
use Rattle.bidi.specs.Cuts.{paragraphs}
use Rattle.lines.specs.Layouts.{Rules, cut_by, unmeasured}
use Rattle.lines.specs.Pages.{page}
use Rattle.lines.specs.declared.printing.print.Print.{Print}
use Rattle.session.specs.Sessions.{opening_refusal}
use Rattle.session.specs.declared.edits.EditFault.{EditFault}
use Rattle.hordguli_c.specs.Arrays.{has_room, put_if, PutsItems}
use Rattle.hordguli_c.specs.Calls.{Asks, OfText, OrNoMemory}
use Rattle.hordguli_c.specs.Options.{has_bit}
use Rattle.hordguli_c.specs.Statuses.{edit_status}
use Rattle.hordguli_c.specs.declared.options.PageForm.{PageForm}
use Rattle.hordguli_c.specs.declared.status.Status.{Status}
use Rattle.hordguli_c.specs.declared.status.Status.TheVariants as is

-- the printed lines of all paragraphs of a text
abbrev pub text_page : Rules → ℕ → Print → List ℕ → List ℕ
text_page rules width print text = page rules width print (paragraphs (cut_by rules) text)

-- If a session would refuse a text, the call returns the status for that refusal, and nothing changes. For
-- any other text, `rest` holds.
abbrev pub UnlessRefused : Option EditFault → Status → Type 0 → Type 0 → Type 0
UnlessRefused None status unchanged rest = rest
UnlessRefused (Some fault) status unchanged rest = (status ≡ edit_status fault) × unchanged

-- The printed lines of a text are stored. The lines are collected before they are copied, so an allocation
-- may fail before their length is known.
abbrev pub PutsPage : PageForm → List ℕ → Status → Tables → List ℕ × ℕ → List ℕ × ℕ → Type 0
PutsPage form text status tables old new =
    let rules : Rules = unmeasured tables form.options in
    UnlessRefused (opening_refusal (cut_by rules) text form.width) status (new ≡ old)
    (OrNoMemory (0 < length text) status (new ≡ old) (PutsItems (text_page rules form.width form.print text) status old new))

-- the options and the print flags are checked first, then the bytes of the text, and then the handle
abbrev pub PrintsText : Option PageForm → List ℕ → Status → Option Tables → List ℕ × ℕ → List ℕ × ℕ → Type 0
PrintsText None bytes status held old new = (status ≡ is.UnknownOption) × (new ≡ old)
PrintsText (Some form) bytes status held old new = OfText bytes status (new ≡ old) (λ text. Asks (PutsPage form text) status held old new)

-- the offset of a character: how many bytes the characters before it have in UTF-8
abbrev pub offset_at : List ℕ → ℕ → ℕ
offset_at text k = sum_by len_utf8 (take k text)

abbrev pub char_offsets : List ℕ → List ℕ
char_offsets text = map (offset_at text) (range_with_len 0 (length text))

pub record DecodedArrays : Type 0 where
  pub characters : List ℕ
  pub offsets : List ℕ

abbrev pub decoded_put : ℕ → List ℕ → DecodedArrays → DecodedArrays
decoded_put wanted text arrays = record {
  characters = put_if (has_bit wanted 1) text arrays.characters;
  offsets = put_if (has_bit wanted 2) (char_offsets text) arrays.offsets;
}

abbrev pub decoded_fits : ℕ → List ℕ → DecodedArrays → Bool
decoded_fits wanted text arrays =
    has_room (has_bit wanted 1) (length text) (length arrays.characters)
    && has_room (has_bit wanted 2) (length text) (length arrays.offsets)

-- The number of characters is stored in any case. The requested arrays are written if all of them are large enough, and otherwise none
-- is written.
abbrev pub PutsDecoded : ℕ → List ℕ → Status → ℕ × DecodedArrays → ℕ × DecodedArrays → Type 0
PutsDecoded wanted text status old new =
    (new.0 ≡ length text)
    × MatchBool (decoded_fits wanted text old.1) ((status ≡ is.Ok) × (new.1 ≡ decoded_put wanted text old.1))
    ((status ≡ is.NoRoom) × (new.1 ≡ old.1))

-- the characters of a text that is passed as bytes, and their offsets, are stored if the bytes are UTF-8
abbrev pub Decodes : ℕ → List ℕ → Status → ℕ × DecodedArrays → ℕ × DecodedArrays → Type 0
Decodes wanted bytes status old new = OfText bytes status (new ≡ old) (λ text. PutsDecoded wanted text status old new)
