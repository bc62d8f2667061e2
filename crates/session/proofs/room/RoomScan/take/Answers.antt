use Rattle.std.proofs.Common.{◌≡◌, sym, ap, ◌∙◌, rules, if◌then◌else◌, arith}
use Rattle.std.proofs.lemmas.Bool.{cond-true, cond-false}
use Rattle.lines.specs.Engine.{rules_of}
use Rattle.lines.specs.Layouts.{cut_by}
use Rattle.session.proofs.RoomLemmas.{summed_past, summed_within}
use Rattle.session.proofs.ScanLemmas.{starts_piece, starts_piece_from}
use Rattle.session.proofs.room.RoomScan.take.Goals as goal
use Rattle.session.proofs.room.RoomScan.take.Goals.{then-starts_paragraph, else-starts_paragraph, in-Some, in-None}

-- before the advance is added, `sum` is that of the last paragraph, or 0 if the character starts a new one
pub returns : goal.returns
returns c =
    let is_cut = cut_by (rules_of c.args.engine.now) in
    let law = c.paragraphs_are_pieces.ensures in
    let scan = c.args.self.now in
    let ready = c.if-starts_paragraph.self in
    let starts : c.is_some_and-starts_paragraph.result ≡ starts_piece is_cut scan.last c.args.c = starts_piece_from is_cut _ c.args.c _ (search rules) in
    let sum-is : ready.sum ≡ (if starts_piece is_cut scan.last c.args.c then 0 else scan.sum) = elim c.if-starts_paragraph.branch [
      | then-starts_paragraph w ↦ ap (λ s. s.sum) w.self-is ∙ sym (cond-true _ 0 scan.sum (sym starts ∙ w.if-starts_paragraph.true))
      | else-starts_paragraph w ↦ ap (λ s. s.sum) w.self-is ∙ sym (cond-false _ 0 scan.sum (sym starts ∙ w.if-starts_paragraph.false))
    ] in
    let over-is : ready.is_over ≡ scan.is_over = elim c.if-starts_paragraph.branch [
      | then-starts_paragraph w ↦ ap (λ s. s.is_over) w.self-is
      | else-starts_paragraph w ↦ ap (λ s. s.is_over) w.self-is
    ] in
    λ text list known. elim c.match-checked_add.branch [
      | in-Some w ↦
          summed_within law is_cut text list c.args.c c.args.advance scan known ready.sum sum-is _ _ w.in-Some.ensures.0 (ap (λ s. s.sum) w.self-is ∙ w.in-Some.ensures.1) (ap (λ s. s.is_over) w.self-is ∙ over-is)
      | in-None w ↦
          summed_past law is_cut text list c.args.c c.args.advance scan known ready.sum sum-is _ _ (omega (arith, w.in-None.ensures)) (ap (λ s. s.is_over) w.self-is)
    ]
