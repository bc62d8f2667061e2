use Rattle.std.proofs.Common.{◌≡◌, ◌≤◌, ◌∙◌, None, Some, length, take, ap, sym, arith}
use Rattle.std.specs.Prelude.{slice_range}
use Rattle.lines.specs.Engine.{rules_of}
use Rattle.terminal.specs.Forms.{UNLIMITED, with_options}
use Rattle.terminal.specs.Parts.{styles_in}
use Rattle.terminal.specs.Prefixes.{prefix_line, prefix_options}
use Rattle.terminal.proofs.BlockLemmas.{styles_range}
use Rattle.terminal.proofs.LayoutLemmas.{on_ok, styles_from}
use Rattle.terminal.proofs.PrefixLemmas.{front_of, line_found, own_paragraph, prefix_plain, prefix_short, prefix_text, rest_paragraph, split_is, whole_is}
use Rattle.terminal.proofs.paragraph.push_split.Goals as goal

pub lay_out_prefix-requires : goal.lay_out_prefix-requires
lay_out_prefix-requires c =
    own_paragraph c.paragraphs_are_pieces.ensures (rules_of c.args.engine.now) (rules_of c.prefix_base-base.new.engine) c.args.part.now.characters.now
    c.paragraph-own.result.characters.now c.args.len c.prefix_base-base.ensures.rules c.paragraph-own.ensures.characters c.requires.some c.requires.within
    c.requires.paragraph

pub range-requires : goal.range-requires
range-requires c =
    let rules = rules_of c.prefix_base-base.new.engine in
    let short : length c.in-Some.line.levels ≤ length c.paragraph-own.result.characters.now =
    prefix_short (with_options rules (prefix_options rules.options c.prefix_base-base.result)) c.columns.result UNLIMITED c.paragraph-own.result.characters.now
    c.in_ok-laid.laid c.in-Some.line c.in_ok-laid.ensures.laid c.in-Some.ensures in
    (omega arith, omega (arith, short, ap length c.levels.ensures))

pub invariant_of-prefix : goal.invariant_of-prefix
invariant_of-prefix c =
    let rules = rules_of c.prefix_base-base.new.engine in
    let own = c.paragraph-own.result.characters.now in
    record {
      text = c.range.ensures.characters ∙ ap (λ levels. slice_range own 0 (length levels)) c.levels.ensures
          ∙ sym (prefix_text (with_options rules (prefix_options rules.options c.prefix_base-base.result)) c.columns.result UNLIMITED own c.in_ok-laid.laid
          c.in-Some.line c.in_ok-laid.ensures.laid c.in-Some.ensures);
      plain = prefix_plain c.columns.result c.in_ok-laid.laid c.in-Some.line c.in_ok-laid.ensures.plain c.in-Some.ensures;
    }

pub push_after-requires-clause-paragraph : goal.push_after-requires-clause-paragraph
push_after-requires-clause-paragraph c =
    rest_paragraph c.paragraphs_are_pieces.ensures (rules_of c.args.engine.now) (rules_of c.lay_out_prefix.new.engine) c.args.part.now.characters.now
    c.after-rest.result.characters.now c.args.len (c.lay_out_prefix.ensures.rules ∙ c.prefix_base-base.ensures.rules) c.after-rest.ensures.characters
    c.requires.within c.requires.paragraph

pub returns-in-Some-clause-ok : goal.returns-in-Some-clause-ok
returns-in-Some-clause-ok c =
    let rules = rules_of c.args.engine.now in
    let form = c.args.form.now in
    let part = c.args.part.now in
    let own = c.paragraph-own.result in
    let text = part.characters.now in
    let styles = styles_in part in
    let n = c.args.len in
    let found : Some c.in-Some.line ≡ prefix_line rules form text styles n =
    line_found rules (rules_of c.prefix_base-base.new.engine) form text styles n own.characters.now c.after-rest.result.characters.now c.columns.result
    c.prefix_base-base.result c.in_ok-laid.laid (Some c.in-Some.line) c.prefix_base-base.ensures.rules c.after-rest.ensures.characters
    (front_of text own.characters.now n c.paragraph-own.ensures.characters) c.prefix_base-base.ensures.base c.in_ok-laid.ensures.laid c.columns.ensures.width
    c.in-Some.ensures in
    let own_styles : styles_in c.range.result ≡ take n styles =
    styles_from own c.range.result 0 c.range.ensures.numbers c.range.ensures.text
    ∙ front_of styles (styles_in own) n (styles_range part own 0 n c.paragraph-own.ensures.numbers c.paragraph-own.ensures.text) in
    on_ok c.push_after.result
    (split_is rules (rules_of c.lay_out_prefix.new.engine) form text styles n c.requires.some
    (c.lay_out_prefix.ensures.rules ∙ c.prefix_base-base.ensures.rules) c.repeats.result c.in-Some.line (styles_in c.range.result)
    (styles_in c.after-rest.result) c.after-rest.result.characters.now c.args.page.now.bytes.items c.push_after.new.page.bytes.items c.repeats.ensures found own_styles c.after-rest.ensures.characters
    c.after-rest.ensures.styles)
    c.push_after.ensures.ok

pub returns-clause-ok : goal.returns-clause-ok
returns-clause-ok c =
    let rules = rules_of c.args.engine.now in
    let form = c.args.form.now in
    let part = c.args.part.now in
    let own = c.paragraph-own.result in
    let text = part.characters.now in
    let styles = styles_in part in
    let n = c.args.len in
    let none : None ≡ prefix_line rules form text styles n =
    line_found rules (rules_of c.prefix_base-base.new.engine) form text styles n own.characters.now c.after-rest.result.characters.now c.columns.result
    c.prefix_base-base.result c.in_ok-laid.laid None c.prefix_base-base.ensures.rules c.after-rest.ensures.characters
    (front_of text own.characters.now n c.paragraph-own.ensures.characters) c.prefix_base-base.ensures.base c.in_ok-laid.ensures.laid c.columns.ensures.width
    c.in-None.ensures in
    on_ok c.push_whole.result
    (whole_is rules (rules_of c.lay_out_prefix.new.engine) form text styles n c.requires.some
    (c.lay_out_prefix.ensures.rules ∙ c.prefix_base-base.ensures.rules) c.args.page.now.bytes.items c.push_whole.new.page.bytes.items none)
    c.push_whole.ensures.ok
