use Rattle.std.proofs.Common.{◌≡◌, length}
use Rattle.std.specs.Str.{chars}
use Rattle.std.proofs.lemmas.Iterator.{YieldsList-from_chars}
use Rattle.std.proofs.lemmas.Iterator.Consumers.{count_from_yields_List}
use Rattle.session.proofs.JoinedLemmas.{is_counted}
use Rattle.session.proofs.joined.is_long.Goals as goal

pub returns : goal.returns
returns c =
    let n : c.count.result ≡ length (chars c.args.text.now) = count_from_yields_List c.chars.result c.count.result c.count.ensures.ran (YieldsList-from_chars c.args.text.now c.utf8.text cc) in
    is_counted c.count.result (length (chars c.args.text.now)) n
