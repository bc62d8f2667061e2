use Rattle.std.proofs.Common.{length, refl, ap, ◌∙◌, arith, rules}
use Rattle.std.proofs.lemmas.List.{with_items_is}
use Rattle.lines.proofs.ShowLemmas.{all_shown, all_within, length-shown_from, shown_as, sound}
use Rattle.lines.proofs.showing.show_lines.Goals as goal

pub returns : goal.returns
returns c =
    let l = with_items_is c.copy.new.list c.show_all.new.levels (omega arith) in
    let m = with_items_is c.make_numbers.new.list c.show_all.new.maps (omega arith) in
    let h = with_items_is c.make_characters.new.list c.show_all.new.chars (omega arith) in
    let starts = c.args.lines.now.extents.starts in
    let count = ap length c.requires.shown.2 ∙ length-shown_from c.requires.shown.0 (length c.args.paragraph.now.text.characters.now) c.requires.shown.1 starts in
    let levels = c.deref_mut.ensures.value ∙ c.in_ok-copy.ensures in
    let shown = shown_as c.args.paragraph.now.text.rules.tables.now c.args.paragraph.now.text.rules.options c.args.paragraph.now.text.base
    c.args.paragraph.now.text.characters.now c.args.paragraph.now.levels.now c.deref_mut.result.now starts starts
    c.args.lines.now.extents.shown c.args.lines.now.extents.shown levels refl refl c.show_all.ensures.shown in
    record {
      sound = rw (l, m, h) (sound _ _ _ _ _ _ _ _ _ _ c.requires.starts count (omega (arith, ap length c.in_ok-copy.ensures))
          (omega (arith, c.in_ok-make_numbers.ensures)) (omega (arith, c.in_ok-make_characters.ensures)) shown);
      lines = rw (l, m, h) (all_shown _ _ _ _ _ _ _ _ _ _ count shown);
      within = rw (l, m, h) (all_within _ _ _ _ _ _ _ _ _ _ c.requires.starts count (omega (arith, ap length c.in_ok-copy.ensures)) shown);
      lines_len = rw l (search rules);
      counts = c.show_all.ensures.counts;
      unwritten = tt;
      at_most = record { least = c.show_all.ensures.least; most = omega (arith, c.show_all.ensures.counts) };
    }
