use Rattle.std.proofs.Common.{◌∙◌, count_by, ap}
use Rattle.lines.specs.Counting.{is_lead_byte}
use Rattle.lines.proofs.CountingLemmas.{count_chars}
use Rattle.lines.proofs.counting.char_count.Goals as goal

pub returns : goal.returns
returns c = c.count_lead_bytes.ensures ∙ ap (count_by is_lead_byte) c.as_bytes.ensures.value ∙ count_chars c.args.text.now c.utf8.text
