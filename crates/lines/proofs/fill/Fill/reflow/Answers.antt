use Rattle.std.proofs.Common.{◌≡◌, ◌*◌, length, map, take, drop, ap, sym, ◌∙◌, arith}
use Rattle.std.proofs.lemmas.List.{with_items_is}
use Rattle.lines.specs.Extents.{shown_in, LineExtents}
use Rattle.lines.specs.Kept.{lines_in}
use Rattle.lines.specs.Layouts.{start_of, Filled}
use Rattle.lines.specs.Showing.{nothing_shown}
use Rattle.lines.proofs.ExtentLemmas.{spans_as}
use Rattle.lines.proofs.KeptLemmas.{shown_of_lines, starts_of_lines}
use Rattle.lines.proofs.ShowLemmas.{all_shown, all_within, length-shown_from, shown_as, sound}
use Rattle.lines.proofs.fill.Fill.reflow.Goals as goal

pub invariant_of-self : goal.invariant_of-self
invariant_of-self c =
    let put : c.swap.new.x ≡ c.args.extents.now = c.swap.ensures.x_after in
    let starts = ap (λ (e : LineExtents). e.starts) put in
    let parts = ap (λ (e : LineExtents). e.shown) put in
    let len : length c.self.inside.levels.items ≡ length c.args.text.now.characters.now = ap (λ (f : Filled). f.len) c.self.view_is ∙ c.requires.len in
    let l = with_items_is c.copy_from_slice.new.self c.show_all.new.levels (omega arith) in
    let m = with_items_is c.self.inside.maps c.show_all.new.maps (omega arith) in
    let h = with_items_is c.self.inside.chars c.show_all.new.chars (omega arith) in
    let shown = shown_as c.args.text.now.rules.tables.now c.args.text.now.rules.options c.args.text.now.base
    c.args.text.now.characters.now c.args.levels.now c.deref_mut.result.now c.args.extents.now.starts c.swap.new.x.starts
    c.args.extents.now.shown c.swap.new.x.shown (c.deref_mut.ensures.value ∙ c.copy_from_slice.ensures.items) starts parts
    c.show_all.ensures.shown in
    let count : length c.args.extents.now.shown ≡ length c.args.extents.now.starts =
    ap length c.requires.shown.2 ∙ length-shown_from c.requires.shown.0 (length c.args.text.now.characters.now) c.requires.shown.1 c.args.extents.now.starts in
    let levels_len : length c.show_all.new.levels ≡ length c.args.text.now.characters.now = omega (arith, len) in
    let maps_len : length c.show_all.new.maps ≡ 2 * length c.args.text.now.characters.now = omega (arith, len, c.self.invariant.maps_len) in
    let chars_len : length c.show_all.new.chars ≡ length c.args.text.now.characters.now = omega (arith, len, c.self.invariant.chars_len) in
    rw (l, m, h, starts, parts) (sound _ _ _ _ _ _ _ _ _ _ c.requires.starts count levels_len maps_len chars_len shown)

pub returns-clause-lines : goal.returns-clause-lines
returns-clause-lines c =
    let put : c.swap.new.x ≡ c.args.extents.now = c.swap.ensures.x_after in
    let starts = ap (λ (e : LineExtents). e.starts) put in
    let parts = ap (λ (e : LineExtents). e.shown) put in
    let len : length c.self.inside.levels.items ≡ length c.args.text.now.characters.now = ap (λ (f : Filled). f.len) c.self.view_is ∙ c.requires.len in
    let l = with_items_is c.copy_from_slice.new.self c.show_all.new.levels (omega arith) in
    let m = with_items_is c.self.inside.maps c.show_all.new.maps (omega arith) in
    let h = with_items_is c.self.inside.chars c.show_all.new.chars (omega arith) in
    let shown = shown_as c.args.text.now.rules.tables.now c.args.text.now.rules.options c.args.text.now.base
    c.args.text.now.characters.now c.args.levels.now c.deref_mut.result.now c.args.extents.now.starts c.swap.new.x.starts
    c.args.extents.now.shown c.swap.new.x.shown (c.deref_mut.ensures.value ∙ c.copy_from_slice.ensures.items) starts parts
    c.show_all.ensures.shown in
    let count : length c.args.extents.now.shown ≡ length c.args.extents.now.starts =
    ap length c.requires.shown.2 ∙ length-shown_from c.requires.shown.0 (length c.args.text.now.characters.now) c.requires.shown.1 c.args.extents.now.starts in
    rw (l, m, h, starts, parts) (all_shown _ _ _ _ _ _ _ _ _ _ count shown)

pub returns-clause-within : goal.returns-clause-within
returns-clause-within c =
    let put : c.swap.new.x ≡ c.args.extents.now = c.swap.ensures.x_after in
    let starts = ap (λ (e : LineExtents). e.starts) put in
    let parts = ap (λ (e : LineExtents). e.shown) put in
    let len : length c.self.inside.levels.items ≡ length c.args.text.now.characters.now = ap (λ (f : Filled). f.len) c.self.view_is ∙ c.requires.len in
    let l = with_items_is c.copy_from_slice.new.self c.show_all.new.levels (omega arith) in
    let m = with_items_is c.self.inside.maps c.show_all.new.maps (omega arith) in
    let h = with_items_is c.self.inside.chars c.show_all.new.chars (omega arith) in
    let shown = shown_as c.args.text.now.rules.tables.now c.args.text.now.rules.options c.args.text.now.base
    c.args.text.now.characters.now c.args.levels.now c.deref_mut.result.now c.args.extents.now.starts c.swap.new.x.starts
    c.args.extents.now.shown c.swap.new.x.shown (c.deref_mut.ensures.value ∙ c.copy_from_slice.ensures.items) starts parts
    c.show_all.ensures.shown in
    let count : length c.args.extents.now.shown ≡ length c.args.extents.now.starts =
    ap length c.requires.shown.2 ∙ length-shown_from c.requires.shown.0 (length c.args.text.now.characters.now) c.requires.shown.1 c.args.extents.now.starts in
    let levels_len : length c.show_all.new.levels ≡ length c.args.text.now.characters.now = omega (arith, len) in
    rw (l, m, h, starts, parts) (all_within _ _ _ _ _ _ _ _ _ _ c.requires.starts count levels_len shown)

-- the returned extents are those of the old lines
pub returns-clause-extents : goal.returns-clause-extents
returns-clause-extents c =
    let f = c.self.inside in
    let ltov = take (length f.levels.items) f.maps.items in
    let vtol = drop (length f.levels.items) f.maps.items in
    let lines : lines_in f.extents.starts f.extents.shown f.levels.items f.maps.items f.chars.items ≡ c.args.self.now.lines =
    ap (λ (g : Filled). g.lines) c.self.view_is in
    spans_as _ _ _ _
    (ap (λ (e : LineExtents). e.starts) c.swap.ensures.y_after
    ∙ sym (starts_of_lines f.levels.items ltov vtol f.chars.items f.extents.starts f.extents.shown c.self.invariant.all_shown) ∙ ap (map start_of) lines)
    (ap (λ (e : LineExtents). e.shown) c.swap.ensures.y_after
    ∙ sym (shown_of_lines f.levels.items ltov vtol f.chars.items f.extents.starts f.extents.shown nothing_shown c.self.invariant.all_shown c.self.invariant.within)
    ∙ ap (map shown_in) lines)
