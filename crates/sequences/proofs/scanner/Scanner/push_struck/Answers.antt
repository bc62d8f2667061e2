use Rattle.std.proofs.Common.{ℕ, List, [], ◌∷◌, ◌++◌, ap, ◌∙◌}
use Rattle.sequences.specs.Overstrikes.{is_underlined_only, struck_look}
use Rattle.sequences.specs.Scanners.{pen_at, pen_of}
use Rattle.sequences.specs.StyledTexts.{style_of, styled_of}
use Rattle.sequences.specs.declared.look.Look.{Look}
use Rattle.sequences.specs.declared.overstrikes.Struck.{Struck}
use Rattle.sequences.proofs.scanner.Scanner.push_struck.Goals as goal

pub returns-clause-text : goal.returns-clause-text
unfolding pen_of
returns-clause-text c =
    let scanner = c.args.self.now in
    let links = scanner.text.links.items in
    c.in_ok-push.ensures.ok
    ∙ ap (λ (look : Look). styled_of scanner.text ++ (c.struck_first-count.result.0.shown, style_of links look scanner.link) ∷ []) c.struck_look-look.ensures
    ∙ ap (λ (at : Struck). styled_of scanner.text ++ (at.shown, style_of links (struck_look scanner.look at) scanner.link) ∷ []) c.struck_first-count.ensures.struck

pub returns-clause-pen : goal.returns-clause-pen
unfolding pen_of
returns-clause-pen c =
    let scanner = c.args.self.now in
    let links = scanner.text.links.items in
    ap (λ (l : List ℕ). pen_at l scanner.look scanner.link c.is_underlined_only-self.result) c.push.ensures.links
    ∙ ap (pen_at links scanner.look scanner.link) c.is_underlined_only-self.ensures
    ∙ ap (λ (look : Look). pen_at links scanner.look scanner.link (is_underlined_only look)) c.struck_look-look.ensures
    ∙ ap (λ (at : Struck). pen_at links scanner.look scanner.link (is_underlined_only (struck_look scanner.look at))) c.struck_first-count.ensures.struck
