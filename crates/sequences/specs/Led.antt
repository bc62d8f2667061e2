-- Parameters as the code writes them: with a semicolon before each. The end of the introducer then replaces the first
-- semicolon.
use Rattle.std.specs.Prelude.{ℕ, List, ◌∷◌}
use Rattle.std.specs.List.{flat_map}

abbrev pub led : List (List ℕ) → List ℕ
led parameters = flat_map (λ parameter. 0x3B ∷ parameter) parameters
