-- The contents of joining tables: the joining types, in pages, and the forms of letters, by the numbers of form and letter.
use Rattle.std.specs.Prelude.{ℕ, List}
use Rattle.ucd.specs.declared.joining_type.JoiningType.{JoiningType}

pub record JoiningContents : Type 0 where
  pub index : List ℕ
  pub entries : List JoiningType
  pub forms : List (ℕ × ℕ)
