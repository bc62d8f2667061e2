use Rattle.std.proofs.Common.{◌∙◌, ℕ, ◌-◌, List, length, take, ap, ap₂, sym}
use Rattle.std.specs.List.{list_all}
use Rattle.std.proofs.lemmas.List.{length-map}
use Rattle.ucd.specs.Properties.{properties_of}
use Rattle.ucd.specs.declared.properties.Properties.{Properties}
use Rattle.lines.specs.Whole.{may_go_on}
use Rattle.lines.proofs.WholeLemmas.{not_whole, whole_by}
use Rattle.lines.proofs.whole.is_whole.Goals as goal

pub returns-clause-yes : goal.returns-clause-yes
returns-clause-yes c is =
    let t = c.args.text.now.rules.tables.now in
    let chars = c.args.text.now.characters.now in
    let end = c.end_len.result in
    let len = c.saturating_sub.ensures ∙ ap (λ (ps : List Properties). length ps - end) c.requires ∙ ap (λ (n : ℕ). n - end) (length-map chars (properties_of t)) in
    whole_by t chars end c.end_len.ensures (sym (c.end_no_line.ensures ∙ ap (list_all may_go_on) (ap₂ take len c.requires)) ∙ is)

pub returns-clause-no : goal.returns-clause-no
returns-clause-no c is =
    let t = c.args.text.now.rules.tables.now in
    let chars = c.args.text.now.characters.now in
    let end = c.end_len.result in
    let len = c.saturating_sub.ensures ∙ ap (λ (ps : List Properties). length ps - end) c.requires ∙ ap (λ (n : ℕ). n - end) (length-map chars (properties_of t)) in
    not_whole t chars end c.end_len.ensures (sym (c.end_no_line.ensures ∙ ap (list_all may_go_on) (ap₂ take len c.requires)) ∙ is)
