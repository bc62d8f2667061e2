use Rattle.std.proofs.Common.{arith}
use Rattle.ucd.proofs.PlainLines.{plain_line}
use Rattle.ucd.proofs.plain.plain_line.Goals as goal

pub returns : goal.returns
returns c =
    plain_line c.args.line.now c.in_ok-first.field_end c.spaces_end-semicolon.result c.spaces_end-name_start.result c.word_end-name_end.result c.spaces_end-end.result
    c.in_ok-first.ensures.within.0 (omega arith) (omega arith) (omega arith) (omega arith) (omega arith)
    c.in_ok-first.ensures.word c.spaces_end-semicolon.ensures.spaces c.if-line-semicolon-ne59.false c.spaces_end-name_start.ensures.spaces
    c.word_end-name_end.ensures.word c.spaces_end-end.ensures.spaces (c.is_end.ensures c.if-not-is_end.false)
    c.in_ok-first.first c.in_ok-first.last c.in_ok-first.ensures.points
