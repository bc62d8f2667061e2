use Rattle.std.proofs.Common.{◌∙◌}
use Rattle.lines.specs.Engine.{rules_of}
use Rattle.terminal.specs.RunState.{last_characters}
use Rattle.terminal.proofs.DirectionLemmas.{searched_cut}
use Rattle.terminal.proofs.start.Search.finish.Goals as goal

pub whole_base-requires : goal.whole_base-requires
whole_base-requires c =
    let search = c.args.self.now in
    record {
      searched = searched_cut (rules_of c.args.engine.now) search.searched search.text.items (last_characters search.decoder.waiting) c.finish.new.text.items c.deref.result.now
          c.requires.searched c.requires.few c.in_ok-finish.ensures (c.deref.ensures.value ∙ c.truncate.ensures.items);
    }
