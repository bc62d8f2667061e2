-- The result of an edit of a text, and which edits are refused.
use Rattle.std.specs.Prelude.{ℕ, ◌+◌, ◌^◌, nat_lt, nat_le, ◌==◌, Bool, true, ◌&&◌, List, [], ◌∷◌, ◌++◌, length, take, drop, replicate, sum, Option, Some, None, is_none, option_map, if◌then◌else◌}
use Rattle.std.specs.List.{list_all}
use Rattle.std.specs.Str.{chars}
use Rattle.bidi.specs.Cuts.{paragraphs}
use Rattle.session.specs.declared.edits.Edit.{Edit}
use Rattle.session.specs.declared.edits.Edit.TheVariants.{Insert, Delete, SetWidth}
use Rattle.session.specs.declared.edits.EditFault.{EditFault}
use Rattle.session.specs.declared.edits.EditFault.TheVariants.{OutOfRange, WidthOutOfRange, TextTooLong, ParagraphTooLong}
use Rattle.lines.specs.declared.engine.TheConstants.{PARAGRAPH_LIMIT}
use Rattle.session.specs.declared.edits.TheConstants.{TEXT_LIMIT}

-- `piece` replaces `count` characters from `pos` on
pub record Replacement : Type 0 where
  pub pos : ℕ
  pub count : ℕ
  pub piece : List ℕ

abbrev pub replaced : List ℕ → Replacement → List ℕ
replaced text edit = take edit.pos text ++ (edit.piece ++ drop (edit.pos + edit.count) text)

abbrev pub replacing : ℕ → ℕ → List ℕ → Replacement
replacing pos count piece = record { pos = pos; count = count; piece = piece }

-- an insertion, which deletes nothing
abbrev pub insertion : ℕ → List ℕ → Replacement
insertion pos piece = record { pos = pos; count = 0; piece = piece }

-- a deletion, which inserts nothing
abbrev pub deletion : ℕ → ℕ → Replacement
deletion pos count = record { pos = pos; count = count; piece = [] }

-- the advances of a measured text after an edit: 0 for inserted characters, and unchanged for all others
abbrev pub advances_after : Option (List ℕ) → Replacement → Option (List ℕ)
advances_after advances edit = option_map (λ list. replaced list (replacing edit.pos edit.count (replicate (length edit.piece) 0))) advances

-- whether no paragraph is longer than the limit
abbrev pub are_within : List (List ℕ) → Bool
are_within pars = list_all (λ p. nat_le (length p) PARAGRAPH_LIMIT) pars

-- whether no paragraph of a text is too long
abbrev pub is_within_limit : (ℕ → ℕ → Bool) → List ℕ → Bool
is_within_limit is_cut text = are_within (paragraphs is_cut text)

-- whether the advances of each paragraph add up to less than 2^32
abbrev pub have_room : List ℕ → List (List ℕ) → Bool
have_room advances [] = true
have_room advances (p ∷ pars) = nat_lt (sum (take (length p) advances)) (2 ^ 32) && have_room (drop (length p) advances) pars

-- the reason for refusing the advances of paragraphs, or `None`; always `None` if the text is not measured
abbrev pub room_refusal : Option (List ℕ) → List (List ℕ) → Option EditFault
room_refusal None pars = None
room_refusal (Some advances) pars = if have_room advances pars then None else Some ParagraphTooLong

-- the reason for refusing the paragraphs of a text, or `None`; `advances` are those of the text if it is
-- measured
abbrev pub paragraphs_refusal : (ℕ → ℕ → Bool) → Option (List ℕ) → List ℕ → Option EditFault
paragraphs_refusal is_cut advances text = if is_within_limit is_cut text then room_refusal advances (paragraphs is_cut text) else Some ParagraphTooLong

-- the reason for refusing a text, or `None`; `advances` are those of the text if it is measured
abbrev pub content_refusal : (ℕ → ℕ → Bool) → Option (List ℕ) → List ℕ → Option EditFault
content_refusal is_cut advances text =
    if nat_lt TEXT_LIMIT (length text) then Some TextTooLong
    else paragraphs_refusal is_cut advances text

-- the reason for refusing a text that is not measured, or `None`
abbrev pub text_refusal : (ℕ → ℕ → Bool) → List ℕ → Option EditFault
text_refusal is_cut text = content_refusal is_cut None text

-- The reason for refusing an edit, or `None`. An edit is refused if it reaches past the end of the text, or
-- if the text after the edit is refused.
abbrev pub refusal : (ℕ → ℕ → Bool) → Option (List ℕ) → List ℕ → Replacement → Option EditFault
refusal is_cut advances text edit =
    if nat_lt (length text) (edit.pos + edit.count) then Some OutOfRange
    else content_refusal is_cut (advances_after advances edit) (replaced text edit)

-- a text, the width of its lines and, if it is measured, the advances of its characters
pub record Held : Type 0 where
  pub text : List ℕ
  pub width : ℕ
  pub advances : Option (List ℕ)

-- the text, its width and its advances after an edit that is not refused
abbrev pub edited : Held → Replacement → Held
edited held edit = record { text = replaced held.text edit; width = held.width; advances = advances_after held.advances edit }

-- the reason for refusing a width, or `None`: only a width of 0 is refused
abbrev pub width_refusal : ℕ → Option EditFault
width_refusal width = if width == 0 then Some WidthOutOfRange else None

-- The text, the width and the advances after an edit. A refused edit changes nothing.
abbrev pub after_edit : (ℕ → ℕ → Bool) → Held → Replacement → Held
after_edit is_cut held edit = if is_none (refusal is_cut held.advances held.text edit) then edited held edit else held

abbrev pub after_width : ℕ → ℕ → ℕ
after_width old width = if is_none (width_refusal width) then width else old

abbrev pub after_one : (ℕ → ℕ → Bool) → Held → Edit → Held
after_one is_cut held (Insert pos text) = after_edit is_cut held (insertion pos (chars text.now))
after_one is_cut held (Delete pos count) = after_edit is_cut held (deletion pos count)
after_one is_cut held (SetWidth width) = record held { width = after_width held.width width }

-- the text, the width and the advances after a list of edits
abbrev pub after_all : (ℕ → ℕ → Bool) → Held → List Edit → Held
after_all is_cut held [] = held
after_all is_cut held (edit ∷ edits) = after_all is_cut (after_one is_cut held edit) edits
