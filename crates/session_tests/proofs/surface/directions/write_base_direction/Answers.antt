use Rattle.std.proofs.Common.{◌≡◌, length, arith}
use Rattle.std.specs.Str.{chars}
use Rattle.std.proofs.lemmas.Iterator.{YieldsList-from_chars}
use Rattle.std.proofs.lemmas.Iterator.Consumers.{count_from_yields_List}
use Rattle.session_tests.proofs.surface.directions.write_base_direction.Goals as goal

pub write_base_direction-requires-clause-paragraph :
    goal.write_base_direction-requires-clause-paragraph
write_base_direction-requires-clause-paragraph c =
    let len : c.count-len.result ≡ length (chars c.args.text.now) =
    count_from_yields_List c.chars.result c.count-len.result c.count-len.ensures.ran (YieldsList-from_chars c.args.text.now c.utf8.text cc) in
    record { whole = c.in-None.ensures (omega (arith, len)); within = omega (arith, len) }
