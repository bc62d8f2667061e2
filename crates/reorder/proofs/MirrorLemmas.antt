-- Mirroring the characters of a line that are in visual order.
use Rattle.std.proofs.Common.{◌≡◌, ℕ, ◌<◌, Bool, true, false, List, length, map, get_or, Option, Some, None, is_some, unwrap_or, if◌then◌else◌, refl, sym, ap, ◌∙◌}
use Rattle.std.proofs.lemmas.List.{get_or-map}
use Rattle.std.proofs.lemmas.Bool.{both_ways}
use Rattle.ucd.specs.Properties.{properties_of}
use Rattle.ucd.specs.Tables.{mirror_of}
use Rattle.ucd.specs.declared.properties.Properties.{Properties}
use Rattle.ucd.specs.declared.tables.Tables.{Tables}
use Rattle.reorder.specs.Mirroring.{mirrored}
use Rattle.reorder.specs.Order.{is_odd}

unmirrored : (odd : Bool) (mirror : Option ℕ) (c : ℕ) → is_some mirror ≡ false → (if odd then unwrap_or mirror c else c) ≡ c
unmirrored true None c none = refl
unmirrored false None c none = refl
unmirrored true (Some m) c none = absurd (both_ways true none refl)
unmirrored false (Some m) c none = refl

-- a character that has no mirror stays
pub no_mirror_at : (t : Tables) (line : List ℕ) (properties : List Properties) (level k : ℕ) (e : Properties) → properties ≡ map (properties_of t) line
    → k < length line → (get_or properties k e).has_mirror ≡ false → mirrored t level (get_or line k 0) ≡ get_or line k 0
no_mirror_at t line properties level k e are within none =
    let c = get_or line k 0 in
    let there : is_some (mirror_of t c) ≡ false =
    sym (ap (λ (p : Properties). p.has_mirror) (ap (λ xs. get_or xs k e) are ∙ get_or-map (properties_of t) line k 0 e within)) ∙ none in
    unmirrored (is_odd level) (mirror_of t c) c there
