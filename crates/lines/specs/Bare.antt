-- `CharInfo`s without regard to the ends of grapheme clusters. Most lines end at a break opportunity, so that
-- these ends need not be found. No contract of an exported function uses these definitions.
use Rattle.std.specs.Prelude.{◌≡◌, Bool, false, List, [], ◌∷◌, map}
use Rattle.lines.specs.declared.char_info.CharInfo.{CharInfo}

-- a `CharInfo` with `ends_cluster` set to `false`
abbrev pub bare : CharInfo → CharInfo
bare p = record p { ends_cluster = false }

-- whether two lists are the same except for their cluster ends
abbrev pub AreAlike : List CharInfo → List CharInfo → Type 0
AreAlike xs ys = map bare xs ≡ map bare ys

-- a list with its cluster ends replaced by the given ones
abbrev pub with_ends : List CharInfo → List Bool → List CharInfo
with_ends (p ∷ infos) (ends ∷ clusters) = record p { ends_cluster = ends } ∷ with_ends infos clusters
with_ends infos clusters = []
