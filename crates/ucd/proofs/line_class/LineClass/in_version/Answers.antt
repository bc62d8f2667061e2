use Rattle.std.proofs.Common.{◌≡◌, ℕ, ◌<◌, nat_lt, true, refl, arith}
use Rattle.std.proofs.lemmas.Bool.Decides.{nat_tests}
use Rattle.ucd.specs.Answers.{line_tag}
use Rattle.ucd.specs.Versions.{line_class_in}
use Rattle.ucd.specs.declared.line_class.LineClass.{LineClass}
use Rattle.ucd.specs.declared.line_class.TheConstants.{LINE_CLASS_COUNT_15}
use Rattle.ucd.specs.declared.version.Version.{Version}
use Rattle.ucd.specs.declared.version.Version.TheVariants.{V15_0, V17_0}
use Rattle.ucd.proofs.line_class.LineClass.in_version.Goals as goal

less : (a b : ℕ) → a < b → nat_lt a b ≡ true
less a b lt = grind (arith, nat_tests)

stays : (version : Version) (class : LineClass) → nat_lt (line_tag class) LINE_CLASS_COUNT_15 ≡ true → class ≡ line_class_in version class
stays V15_0 class lt = rw lt refl
stays V17_0 class lt = refl

pub returns-in_default : goal.returns-in_default
returns-in_default c = stays c.args.version c.args.self (less (line_tag c.args.self) LINE_CLASS_COUNT_15 c.if-self-ge-LINE_CLASS_COUNT_15.false)
