-- Maps the code's characters and bases to those of Bases.antt.
use Rattle.std.specs.Prelude.{ℕ, suc, List, [], ◌∷◌, map, if◌then◌else◌}
use Rattle.breaks.specs.Bases.{BaseCharacter, Character, stays_with}
use Rattle.breaks.specs.declared.bases.BaseCharacter.{BaseCharacter as Found}
use Rattle.breaks.specs.declared.bases.Character.{Character as Looked}

abbrev pub character_in : Looked → Character
character_in c = record { class = c.class; detail = c.detail; is_wide = c.is_wide; is_future_pictograph = c.is_future_pictograph }

abbrev pub base_in : Found → BaseCharacter
base_in b = record { first = character_in b.first; attached = map character_in b.attached.now }

-- how many characters at the start of a text belong to the base of c, the character before the text
abbrev pub attached_len : Character → List Character → ℕ
attached_len c [] = 0
attached_len c (d ∷ text) = if stays_with c d then suc (attached_len d text) else 0

-- all bases except the nearest one
abbrev pub rest : List BaseCharacter → List BaseCharacter
rest [] = []
rest (b ∷ bases) = bases
