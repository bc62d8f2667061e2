use Rattle.std.proofs.Common.{◌≡◌, ◌∙◌, ◌<◌, ◌&&◌, nat_le, Option, Some, None, List, ℕ, false, get_or, length, slice_get, ap, sym, arith}
use Rattle.std.specs.Option.{option_map_or}
use Rattle.std.proofs.lemmas.List.{get_or_default}
use Rattle.std.proofs.lemmas.Option.{get_or_from_slice_get, slice_get-get_or}
use Rattle.breaks.specs.declared.mark.Mark.TheVariants.{Never}
use Rattle.lines.specs.CharInfos.{advance, is_space, size_in}
use Rattle.lines.specs.Layouts.{Layout, hides_space_within}
use Rattle.lines.specs.Measures.{kept_advances}
use Rattle.lines.specs.Parts.{line_of}
use Rattle.lines.specs.Visual.{Line}
use Rattle.lines.specs.Widths.{sizes_of}
use Rattle.lines.specs.declared.char_info.CharInfo.{CharInfo}
use Rattle.lines.proofs.MeasureLemmas.{advance_at}
use Rattle.lines.proofs.StayLemmas.{hidden_is}
use Rattle.lines.proofs.WidthLemmas.{size_is}
use Rattle.lines.proofs.laid.Laid.hides_space_within.Goals as goal
use Rattle.lines.proofs.laid.Laid.hides_space_within.Goals.{in-Some-advances, in-None}

pub returns : goal.returns
returns c =
    let l = c.self.inside in
    let text = l.text.items in
    let line = line_of c.in-Some.line in
    let t = c.args.tables.now in
    let at = length line.levels in
    let d = c.index-c.result.now in
    let advances = kept_advances l.is_measured text l.sizes.items in
    let within : at < length text = omega (arith, c.if-shown-len.false, c.len.ensures) in
    let found : slice_get text at ≡ Some d = slice_get-get_or text at d within ∙ ap Some (get_or_default text at d d within ∙ sym c.index-c.ensures) in
    let size : c.match-advances.size ≡ get_or (sizes_of l.tab_width advances text) at 0 = elim c.match-advances.branch [
      | in-Some-advances w ↦
          let given : Some w.in-Some-advances.advances.now ≡ advances = w.in-Some-advances.ensures.advances ∙ sym (ap (λ (m : Layout). m.advances) c.self.view_is) in
          w.size-is ∙ sym (advance_at w.in-Some-advances.advances.now text at within)
          ∙ ap (λ (o : Option (List ℕ)). get_or (sizes_of l.tab_width o text) at 0) given
      | in-None w ↦
          let none : None ≡ advances = w.in-None.ensures.advances ∙ sym (ap (λ (m : Layout). m.advances) c.self.view_is) in
          w.size-is ∙ w.from-size.ensures ∙ ap (λ (i : CharInfo). i.columns) (c.of-info.ensures t c.properties.ensures)
          ∙ ap (size_in l.tab_width) (sym (get_or_from_slice_get text at d 0 found)) ∙ sym (size_is l.tab_width at text within)
          ∙ ap (λ (o : Option (List ℕ)). get_or (sizes_of l.tab_width o text) at 0) none
    ] in
    let same : c.is_space_within.result ≡ hides_space_within t l.tab_width advances c.args.width text line =
    hidden_is t l.tab_width c.args.width d c.match-advances.size advances text line Never c.is_space_within.result found size
    (c.is_space_within.ensures
    ∙ ap (λ (i : CharInfo). is_space i.trailing && nat_le (advance line.columns (record i { columns = c.match-advances.size })) c.args.width) (c.of-info.ensures t c.properties.ensures)) in
    same
    ∙ ap (λ (o : Option Line). option_map_or (hides_space_within t l.tab_width advances c.args.width text) o false) c.in-Some.ensures.line
    ∙ ap (λ (m : Layout). option_map_or (hides_space_within t m.tab_width m.advances c.args.width m.text) (slice_get m.lines 0) false) c.self.view_is
