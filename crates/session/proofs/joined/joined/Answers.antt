use Rattle.std.proofs.Common.{◌≡◌, ◌++◌, ap, ◌∙◌}
use Rattle.std.specs.Str.{chars}
use Rattle.std.proofs.lemmas.List.{append_assoc}
use Rattle.session.proofs.joined.joined.Goals as goal

-- the three parts are copied one after another
pub returns-clause-text : goal.returns-clause-text
returns-clause-text c =
    let piece = chars c.args.piece.now in
    let front = c.args.front.now in
    let back = c.args.back.now in
    let first : c.extend_from_slice.new.self.items ≡ front = c.in_ok-extend_from_slice.ensures.items ∙ ap (λ xs. xs ++ front) (c.in_ok-reserve_exact.ensures.items ∙ c.take_text-text.ensures.text) in
    c.in_ok-extend_from_slice-2.ensures.items
    ∙ ap (λ xs. xs ++ back) (c.in_ok-push_characters.ensures.ok ∙ ap (λ xs. xs ++ piece) first)
    ∙ append_assoc front piece back
