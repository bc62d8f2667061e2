use Rattle.std.proofs.Common.{refl}
use Rattle.lines.specs.Engine.{rules_of}
use Rattle.terminal.proofs.SearchLemmas.{searches_new}
use Rattle.terminal.proofs.start.read_start.Goals as goal

pub loop-search-init : goal.loop-search-init
loop-search-init g c =
    let start = c.in_ok-search.ensures in
    record {
      kept = refl;
      searches = searches_new (rules_of c.args.engine.now) c.args.escapes (g.R.Source.state c.args.reader.now) c.in_ok-search.search start.room start.waiting start.decoded start.started
          start.bytes start.text (start.searched (rules_of c.args.engine.now));
    }
