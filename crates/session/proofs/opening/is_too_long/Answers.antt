use Rattle.std.proofs.Common.{length, nat_lt, sym, ap, arith}
use Rattle.std.specs.Str.{chars}
use Rattle.std.proofs.lemmas.Bool.{le-ltb}
use Rattle.std.proofs.lemmas.Iterator.{YieldsList-from_chars}
use Rattle.std.proofs.lemmas.Iterator.Consumers.{count_from_yields_List}
use Rattle.session.proofs.RefusalSteps.{text_few}
use Rattle.session.specs.declared.edits.TheConstants.{TEXT_LIMIT}
use Rattle.session.proofs.opening.is_too_long.Goals as goal

pub returns-then-text-le-TEXT_LIMIT : goal.returns-then-text-le-TEXT_LIMIT
returns-then-text-le-TEXT_LIMIT c =
    sym (le-ltb TEXT_LIMIT (length (chars c.args.text.now)) (omega (arith, text_few c.args.text.now c.utf8.text, c.if-text-le-TEXT_LIMIT.true)))

pub returns : goal.returns
returns c =
    ap (nat_lt TEXT_LIMIT) (count_from_yields_List c.chars.result c.count.result c.count.ensures.ran (YieldsList-from_chars c.args.text.now c.utf8.text cc))
