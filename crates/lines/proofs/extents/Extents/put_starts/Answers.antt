use Rattle.std.proofs.Common.{◌≡◌, ◌∙◌, ◌++◌, List, ℕ, ap, length}
use Rattle.std.proofs.lemmas.Result.{on_ok_weaker}
use Rattle.lines.specs.Extents.{in_pairs, shown_from, unpacked, LineExtents}
use Rattle.lines.specs.declared.fill.Shown.{Shown}
use Rattle.lines.proofs.ExtentLemmas.{unpacked_is}
use Rattle.lines.proofs.ShowLemmas.{length-shown_from}
use Rattle.lines.proofs.extents.Extents.put_starts.Goals as goal

pub returns-clause-starts : goal.returns-clause-starts
returns-clause-starts c =
    let infos = c.args.infos.now in
    let seen = c.extend_from_slice.new.self.items in
    let parts : List Shown = shown_from c.args.margin (length infos) infos seen in
    let same = length-shown_from c.args.margin (length infos) infos seen in
    let put : seen ≡ c.args.starts.now = c.in_ok-extend_from_slice.ensures.items ∙ ap (λ (xs : List ℕ). xs ++ c.args.starts.now) c.clear.ensures.items in
    on_ok_weaker {P = c.fill_shown.new.items.items ≡ seen ++ in_pairs parts} c.fill_shown.result
    (λ e. ap (λ (x : LineExtents). x.starts) (ap unpacked e ∙ unpacked_is seen parts same) ∙ put) c.fill_shown.ensures

pub returns-clause-shown : goal.returns-clause-shown
returns-clause-shown c =
    let infos = c.args.infos.now in
    let seen = c.extend_from_slice.new.self.items in
    let parts : List Shown = shown_from c.args.margin (length infos) infos seen in
    let same = length-shown_from c.args.margin (length infos) infos seen in
    let put : seen ≡ c.args.starts.now = c.in_ok-extend_from_slice.ensures.items ∙ ap (λ (xs : List ℕ). xs ++ c.args.starts.now) c.clear.ensures.items in
    on_ok_weaker {P = c.fill_shown.new.items.items ≡ seen ++ in_pairs parts} c.fill_shown.result
    (λ e. ap (λ (x : LineExtents). x.shown) (ap unpacked e ∙ unpacked_is seen parts same) ∙ ap (shown_from c.args.margin (length infos) infos) put) c.fill_shown.ensures
