use Rattle.std.proofs.Common.{◌≡◌, ◌∙◌, ◌++◌, ◌==◌, ℕ, [], ◌∷◌, Bool, false, true, length, sym, subst, ap, arith, refl, if◌then◌else◌}
use Rattle.std.proofs.lemmas.Bool.Decides.{nat_tests}
use Rattle.std.proofs.lemmas.List.{append-nil}
use Rattle.lines.specs.Engine.{rules_of, Prints}
use Rattle.lines.specs.Pages.{page, paragraph_bytes}
use Rattle.text_run.proofs.text.Held.gather_last.Goals as goal

nothing : (n : ℕ) → (n == 0) ≡ true → 0 ≡ n
nothing n is = grind (arith, nat_tests)

-- if no characters are held, there is no last paragraph, and no character is counted
pub returns-then-is_empty-clause-counts : goal.returns-then-is_empty-clause-counts
returns-then-is_empty-clause-counts c =
    let text = c.args.self.now.text.items in
    let empty = nothing _ (sym c.if-is_empty.ensures) in
    subst (λ n. Prints n c.args.print.now c.args.engine.now c.args.engine.now) (omega (arith, empty, c.args.self.now.text.ok.0)) (c.counts_fit.ensures c.args.print.now)

pub returns-clause-lines : goal.returns-clause-lines
returns-clause-lines c =
    let rules = rules_of c.args.engine.now in
    let text = c.args.self.now.text.items in
    let filled : (length text == 0) ≡ false = ap (λ n. n == 0) (sym (ap length c.deref.ensures.value) ∙ c.deref.ensures.len) ∙ sym c.if-is_empty.ensures in
    let last : page rules c.args.width c.args.print.now (if length text == 0 then [] else text ∷ []) ≡ paragraph_bytes rules c.args.width c.args.print.now text =
    ap (λ (b : Bool). page rules c.args.width c.args.print.now (if b then [] else text ∷ [])) filled ∙ append-nil (paragraph_bytes rules c.args.width c.args.print.now text) in
    record {
      lines = c.in_ok-push_paragraph.ensures.ok ∙ ap (λ t. c.args.self.now.page.bytes.items ++ t) (ap (paragraph_bytes rules c.args.width c.args.print.now) c.deref.ensures.value ∙ sym last);
      written = refl;
    }
