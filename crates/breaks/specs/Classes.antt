-- Comparisons of line breaking classes, and of the details that some classes have.
use Rattle.std.specs.Prelude.{Bool, List}
use Rattle.std.specs.List.{list_any}
use Rattle.ucd.specs.declared.line_class.LineClass.{LineClass}
use Rattle.ucd.specs.contracts.line_class.LineClass.{the_type}
use Rattle.ucd.specs.declared.line_detail.LineDetail.{LineDetail}
use Rattle.ucd.specs.contracts.line_detail.LineDetail as detail_type
use denote.Enum.Bare.{sameb}

-- whether two classes are the same
abbrev pub is_same : LineClass → LineClass → Bool
is_same = sameb the_type

-- whether a class is in a list
abbrev pub is_one_of : List LineClass → LineClass → Bool
is_one_of classes class = list_any (λ c. is_same c class) classes

-- whether two details are the same
abbrev pub is_detail : LineDetail → LineDetail → Bool
is_detail = sameb detail_type.the_type
