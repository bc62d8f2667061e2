-- Paragraphs over the limit, which are laid out in pieces.
use Rattle.std.specs.Prelude.{◌≡◌, ℕ, zero, suc, nat_lt, Bool, List, [], ◌∷◌, ◌++◌, length, take, drop, if◌then◌else◌}
use Rattle.std.specs.List.{flat_map, list_any}
use Rattle.bidi.specs.Cuts.{paragraphs}
use Rattle.bidi.specs.declared.base.Base.TheVariants.{Ltr, Rtl}
use Rattle.lines.specs.Layouts.{Rules, base_of, cut_by}
use Rattle.lines.specs.declared.engine.TheConstants.{PARAGRAPH_LIMIT}
use Rattle.lines.specs.declared.options.Options.{Options}
use Rattle.reorder.specs.Order.{is_odd}
use Rattle.sequences.specs.Laws.{characters_of}
use Rattle.sequences.specs.Styled.{Style}
use Rattle.terminal.specs.Forms.{with_options}
use Rattle.terminal.specs.Prefixes.{printed_paragraph}
use Rattle.terminal.specs.declared.form.Form.{Form}

-- whether a text is one paragraph
abbrev pub IsWhole : Rules → List ℕ → Type 0
IsWhole rules text = paragraphs (cut_by rules) text ≡ text ∷ []

-- whether any paragraph of a text is over the limit
abbrev pub has_over : Rules → List ℕ → Bool
has_over rules text = list_any (λ paragraph. nat_lt PARAGRAPH_LIMIT (length paragraph)) (paragraphs (cut_by rules) text)

-- the first n pieces of a text, each as long as a paragraph may be, except that the last may be shorter
abbrev pub first_pieces : {A : Type 0} → ℕ → List A → List (List A)
first_pieces zero text = []
first_pieces (suc n) [] = []
first_pieces (suc n) (c ∷ text) = take PARAGRAPH_LIMIT (c ∷ text) ∷ first_pieces n (drop PARAGRAPH_LIMIT (c ∷ text))

-- all pieces of a text
unfoldable pub pieces : {A : Type 0} → List A → List (List A)
pieces text = first_pieces (length text) text

-- options whose base direction is that of a base level
abbrev pub directed : Options → ℕ → Options
directed options base = record options { base = if is_odd base then Rtl else Ltr }

abbrev pub in_direction : Rules → ℕ → Rules
in_direction rules base = with_options rules (directed rules.options base)

-- the printed bytes of pieces, each of which is laid out separately
abbrev pub printed_each : Rules → Form → List (ℕ × Style) → List ℕ
printed_each rules form shown = flat_map (printed_paragraph rules form) (pieces shown)

-- The printed bytes of a paragraph that may be over the limit. All its pieces have the direction of the first one.
unfoldable pub printed_pieces : Rules → Form → List (ℕ × Style) → List ℕ
printed_pieces rules form shown =
    let first = take PARAGRAPH_LIMIT shown in
    printed_paragraph rules form first
    ++ printed_each (in_direction rules (base_of rules (characters_of first))) form (drop PARAGRAPH_LIMIT shown)
