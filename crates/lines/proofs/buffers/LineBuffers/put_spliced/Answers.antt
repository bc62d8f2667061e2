use Rattle.std.proofs.Common.{◌≡◌, ◌∙◌, ◌+◌, ◌++◌, ◌<◌, ◌≤◌, ◌^◌, Ok, Err, OnOk, Result, ap, ap₂, drop, length, take, arith}
use Rattle.std.specs.declared.alloc.AllocError.{AllocError}
use Rattle.lines.specs.Layouts.{Filled}
use Rattle.lines.specs.Spliced.{spliced, spliced_starts}
use Rattle.lines.specs.Splicing.{moved_start}
use Rattle.lines.proofs.SplicedLemmas.{later_starts, put_lines, put_sound}
use Rattle.lines.proofs.buffers.LineBuffers.put_spliced.Goals as goal

-- a fact that depends on two others, after a call that may fail
both : {P Q R : Type 0} (r : Result (Unit {0}) AllocError) → (P → Q → R) → OnOk r P → OnOk r Q → OnOk r R
both (Ok x) f p q = f p q
both (Err e) f p q = tt

levels_put : (c : goal.After-put_spliced) → c.put_items.new.list.items ≡ spliced c.args.gap c.old.inside.levels.items c.args.window.now.visual.levels.items
levels_put c = c.in_ok-put_items.ensures ∙ ap₂ (spliced c.args.gap) c.deref.ensures.value c.deref-2.ensures.value

chars_put : (c : goal.After-put_spliced) → c.put_items-2.new.list.items ≡ spliced c.args.gap c.old.inside.chars.items c.args.window.now.visual.chars.items
chars_put c = c.in_ok-put_items-2.ensures ∙ ap₂ (spliced c.args.gap) c.deref-3.ensures.value c.deref-4.ensures.value

maps_put : (c : goal.After-put_spliced) → let f = c.old.inside in let w = c.args.window.now in
    c.put_maps.new.list.items ≡ spliced c.args.gap (take (length f.levels.items) f.maps.items) (take (length w.visual.levels.items) w.visual.maps.items)
    ++ spliced c.args.gap (drop (length f.levels.items) f.maps.items) (drop (length w.visual.levels.items) w.visual.maps.items)
maps_put c =
    let len : c.len.result ≡ length c.old.inside.levels.items = omega (arith, c.len.ensures) in
    let n : c.len-len.result ≡ length c.args.window.now.visual.levels.items = omega (arith, c.len-len.ensures) in
    c.in_ok-put_maps.ensures
    ∙ ap₂ (λ xs ys. xs ++ ys)
    (ap₂ (spliced c.args.gap) (c.split_at.ensures.front ∙ ap₂ take len c.deref-5.ensures.value) (c.split_at-2.ensures.front ∙ ap₂ take n c.deref-6.ensures.value))
    (ap₂ (spliced c.args.gap) (c.split_at.ensures.back ∙ ap₂ drop len c.deref-5.ensures.value) (c.split_at-2.ensures.back ∙ ap₂ drop n c.deref-6.ensures.value))

pub put_spliced-requires-clause-after : goal.put_spliced-requires-clause-after
put_spliced-requires-clause-after c =
    let f = c.old.inside in
    let w = c.args.window.now in
    let gap = c.args.gap in
    later_starts gap f.extents.starts f.extents.shown f.levels.items f.maps.items f.chars.items w.extents.starts w.extents.shown w.visual.levels.items w.visual.maps.items w.visual.chars.items
    c.old.invariant c.requires.sound c.args.old.now c.old.view_is c.requires.order c.requires.within c.requires.before c.requires.after
    (λ s. gap.end ≤ s) (λ s low high. low)

pub put_spliced-requires-clause-fits_after : goal.put_spliced-requires-clause-fits_after
put_spliced-requires-clause-fits_after c =
    let f = c.old.inside in
    let w = c.args.window.now in
    let gap = c.args.gap in
    later_starts gap f.extents.starts f.extents.shown f.levels.items f.maps.items f.chars.items w.extents.starts w.extents.shown w.visual.levels.items w.visual.maps.items w.visual.chars.items
    c.old.invariant c.requires.sound c.args.old.now c.old.view_is c.requires.order c.requires.within c.requires.before c.requires.after
    (λ s. moved_start gap.end (gap.start + c.len-len.result) s < 2 ^ 32)
    (λ s low high. omega (arith, low, high, c.requires.fits, c.requires.within, c.len-len.ensures, ap (λ (f : Filled). f.len) c.old.view_is))

pub returns-clause-lines : goal.returns-clause-lines
returns-clause-lines c =
    let f = c.old.inside in
    let w = c.args.window.now in
    let gap = c.args.gap in
    let n : c.len-len.result ≡ length w.visual.levels.items = omega (arith, c.len-len.ensures) in
    both c.put_spliced.result
    (λ starts shown. put_lines gap f.extents.starts f.extents.shown f.levels.items f.maps.items f.chars.items w.extents.starts w.extents.shown w.visual.levels.items w.visual.maps.items w.visual.chars.items
    c.old.invariant c.requires.sound c.args.old.now c.old.view_is c.requires.order c.requires.within c.requires.before c.requires.after
    _ _ _ _ _ (starts ∙ ap (λ n. spliced_starts gap n f.extents.starts w.extents.starts) n) shown (levels_put c) (maps_put c) (chars_put c))
    c.put_spliced.ensures.starts c.put_spliced.ensures.shown

pub returns-clause-sound : goal.returns-clause-sound
returns-clause-sound c =
    let f = c.old.inside in
    let w = c.args.window.now in
    let gap = c.args.gap in
    let n : c.len-len.result ≡ length w.visual.levels.items = omega (arith, c.len-len.ensures) in
    both c.put_spliced.result
    (λ starts shown. put_sound gap f.extents.starts f.extents.shown f.levels.items f.maps.items f.chars.items w.extents.starts w.extents.shown w.visual.levels.items w.visual.maps.items w.visual.chars.items
    c.old.invariant c.requires.sound c.args.old.now c.old.view_is c.requires.order c.requires.within c.requires.before c.requires.after
    _ _ _ _ _ (starts ∙ ap (λ n. spliced_starts gap n f.extents.starts w.extents.starts) n) shown (levels_put c) (maps_put c) (chars_put c))
    c.put_spliced.ensures.starts c.put_spliced.ensures.shown
