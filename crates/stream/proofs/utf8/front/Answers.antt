use Rattle.std.proofs.Common.{◌≡◌, ◌++◌, ◌∙◌, sym, ap₂, subst}
use Rattle.std.proofs.lemmas.List.{take-append-drop}
use Rattle.stream.proofs.Utf8Lemmas.{IsTextUpTo, text_up_to}
use Rattle.stream.proofs.utf8.front.Goals as goal

-- all bytes are valid text, except for the beginning of a character at the end
is_text : (c : goal.After-text-then-is_beginning-1) → IsTextUpTo c.args.bytes.now c.in-Ok.text.now
is_text c =
    let whole = c.split_at.result.0.now in
    let cut = c.split_at.result.1.now in
    let parts : whole ++ cut ≡ c.args.bytes.now = ap₂ (λ a b. a ++ b) c.split_at.ensures.front c.split_at.ensures.back ∙ take-append-drop c.whole_len.result c.args.bytes.now in
    let beginning = c.is_beginning.ensures in
    let is = c.if-is_beginning.true in
    subst (IsTextUpTo c.args.bytes.now) (sym c.in-Ok.ensures.cases.0) (text_up_to c.args.bytes.now whole cut parts c.in-Ok.ensures.cases.1 (beginning.none is) (beginning.fault is) (beginning.few is))

pub returns-in-Ok-clause-text : goal.returns-in-Ok-clause-text
returns-in-Ok-clause-text c = (is_text c).text

pub returns-in-Ok-clause-bad : goal.returns-in-Ok-clause-bad
returns-in-Ok-clause-bad c = (is_text c).good

pub returns-in-Ok-clause-few : goal.returns-in-Ok-clause-few
returns-in-Ok-clause-few c = λ good. (is_text c).few
