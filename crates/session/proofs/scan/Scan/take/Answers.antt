use Rattle.std.proofs.Common.{◌≡◌, sym, ap, ◌∙◌, rules, if◌then◌else◌}
use Rattle.std.proofs.lemmas.Bool.{cond-true, cond-false}
use Rattle.lines.specs.Engine.{rules_of}
use Rattle.lines.specs.Layouts.{cut_by}
use Rattle.session.proofs.ScanLemmas.{starts_piece, starts_piece_from, scanned_within, scanned_past}
use Rattle.session.proofs.scan.Scan.take.Goals as goal
use Rattle.session.proofs.scan.Scan.take.Goals.{then-starts_paragraph, else-starts_paragraph, then-self-lt-PARAGRAPH_LIMIT, else-self-lt-PARAGRAPH_LIMIT}

-- before the character is counted, `len` is the length of the last paragraph, or 0 if the character starts a
-- new one
pub returns : goal.returns
returns c =
    let is_cut = cut_by (rules_of c.args.engine.now) in
    let scan = c.args.self.now in
    let ready = c.if-starts_paragraph.self in
    let starts : c.is_some_and-starts_paragraph.result ≡ starts_piece is_cut scan.last c.args.c = starts_piece_from is_cut _ c.args.c _ (search rules) in
    let len-is : ready.len ≡ (if starts_piece is_cut scan.last c.args.c then 0 else scan.len) = elim c.if-starts_paragraph.branch [
      | then-starts_paragraph w ↦ ap (λ s. s.len) w.self-is ∙ sym (cond-true _ 0 scan.len (sym starts ∙ w.if-starts_paragraph.true))
      | else-starts_paragraph w ↦ ap (λ s. s.len) w.self-is ∙ sym (cond-false _ 0 scan.len (sym starts ∙ w.if-starts_paragraph.false))
    ] in
    let is_long-is : ready.is_long ≡ scan.is_long = elim c.if-starts_paragraph.branch [
      | then-starts_paragraph w ↦ ap (λ s. s.is_long) w.self-is
      | else-starts_paragraph w ↦ ap (λ s. s.is_long) w.self-is
    ] in
    λ text known. elim c.if-self-lt-PARAGRAPH_LIMIT.branch [
      | then-self-lt-PARAGRAPH_LIMIT w ↦
          scanned_within is_cut text c.args.c scan ready.len known len-is _ _ w.if-self-lt-PARAGRAPH_LIMIT.true (ap (λ s. s.len) w.self-is) (ap (λ s. s.is_long) w.self-is ∙ is_long-is)
      | else-self-lt-PARAGRAPH_LIMIT w ↦
          scanned_past is_cut text c.args.c scan ready.len known len-is _ _ w.if-self-lt-PARAGRAPH_LIMIT.false (ap (λ s. s.len) w.self-is) (ap (λ s. s.is_long) w.self-is)
    ]
