use Rattle.std.proofs.Common.{◌∙◌, sym}
use Rattle.ucd.specs.Tables.{class_of}
use Rattle.bidi.specs.Cuts.{cut}
use Rattle.bidi.proofs.TextCutLemmas.{ends_at_once, ends_later}
use Rattle.bidi.proofs.text_cuts.first_cut_in_text.Goals as goal

pub returns-then-begins_after : goal.returns-then-begins_after
returns-then-begins_after c =
    ends_at_once (cut (class_of c.args.tables.now)) c.args.before.now c.args.text.now c.copied.result c.utf8.text (c.copied.ensures ∙ c.last.ensures.value) c.requires.uncut
    (sym c.begins_after.ensures ∙ c.if-begins_after.true)

pub returns : goal.returns
returns c =
    ends_later (cut (class_of c.args.tables.now)) c.args.before.now c.args.text.now c.copied.result (c.copied.ensures ∙ c.last.ensures.value) c.requires.uncut
    (sym c.begins_after.ensures ∙ c.if-begins_after.false) c.first_end.result c.first_end.ensures
