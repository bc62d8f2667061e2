use Rattle.std.proofs.Common.{◌≡◌, ◌∙◌, ◌++◌, ℕ, List, [], ◌∷◌, length, sym, subst, ap}
use Rattle.std.specs.Str.{chars}
use Rattle.std.proofs.lemmas.List.{nil_from_length}
use Rattle.std.proofs.lemmas.Str.{chars-nil, chars_past_char}
use Rattle.ucd.specs.Tables.{class_of}
use Rattle.bidi.specs.Cuts.{cut}
use Rattle.bidi.proofs.TextCutLemmas.{NotAfter, Passed, passed_all, passed_char, passed_cut, passed_none, passed_plain}
use Rattle.bidi.proofs.text_cuts.first_end.Goals as goal
use lib.Utf8.{encode}

pub loop-c-init : goal.loop-c-init
loop-c-init c = record { utf8 = c.utf8.text; passed = passed_none (cut (class_of c.args.tables.now)) c.args.text.now c.utf8.text }

-- the text is exhausted
pub returns-in_default : goal.returns-in_default
returns-in_default c =
    let is_cut = cut (class_of c.args.tables.now) in
    let text = c.args.text.now in
    let passed : Passed is_cut text c.chars-characters.result.rest.now =
    subst (λ (t : List ℕ). Passed is_cut text t) (sym (c.chars-characters.ensures.rest ∙ c.split_at.ensures.back))
    (passed_plain is_cut text c.loop-c.rest.now c.plain_len.result c.args.is_usual c.requires c.loop-c.invariant.passed
    c.plain_len.ensures.boundary c.plain_len.ensures.plain c.plain_len.ensures.unknown) in
    passed_all is_cut text c.chars-characters.result.rest.now passed c.in_default.ensures.steps.0.0

-- only the last character remains
pub returns-in_default-next : goal.returns-in_default-next
returns-in_default-next c =
    let is_cut = cut (class_of c.args.tables.now) in
    let text = c.args.text.now in
    let passed : Passed is_cut text c.chars-characters.result.rest.now =
    subst (λ (t : List ℕ). Passed is_cut text t) (sym (c.chars-characters.ensures.rest ∙ c.split_at.ensures.back))
    (passed_plain is_cut text c.loop-c.rest.now c.plain_len.result c.args.is_usual c.requires c.loop-c.invariant.passed
    c.plain_len.ensures.boundary c.plain_len.ensures.plain c.plain_len.ensures.unknown) in
    let char_is : c.chars-characters.result.rest.now ≡ encode c.in-Some.c ++ c.as_str-rest.result.now =
    c.in-Some.ensures.steps.0 ∙ ap (λ t. encode c.in-Some.c ++ t) (sym c.as_str-rest.ensures) in
    let none : length c.as_str-rest.result.now ≡ 0 = ap length (sym c.chars.ensures.rest) ∙ c.in_default-next.ensures.steps.0.0 in
    let empty : chars c.as_str-rest.result.now ≡ [] = ap chars (nil_from_length c.as_str-rest.result.now none) ∙ chars-nil in
    passed_all is_cut text c.as_str-rest.result.now
    (passed_char is_cut text c.chars-characters.result.rest.now c.as_str-rest.result.now c.in-Some.c passed char_is (subst (λ (cs : List ℕ). NotAfter is_cut c.in-Some.c cs) (sym empty) tt)) none

pub returns-then-is_cut : goal.returns-then-is_cut
returns-then-is_cut c =
    let is_cut = cut (class_of c.args.tables.now) in
    let text = c.args.text.now in
    let passed : Passed is_cut text c.chars-characters.result.rest.now =
    subst (λ (t : List ℕ). Passed is_cut text t) (sym (c.chars-characters.ensures.rest ∙ c.split_at.ensures.back))
    (passed_plain is_cut text c.loop-c.rest.now c.plain_len.result c.args.is_usual c.requires c.loop-c.invariant.passed
    c.plain_len.ensures.boundary c.plain_len.ensures.plain c.plain_len.ensures.unknown) in
    let char_is : c.chars-characters.result.rest.now ≡ encode c.in-Some.c ++ c.as_str-rest.result.now =
    c.in-Some.ensures.steps.0 ∙ ap (λ t. encode c.in-Some.c ++ t) (sym c.as_str-rest.ensures) in
    passed_cut is_cut text c.chars-characters.result.rest.now c.as_str-rest.result.now c.next-in-loop-c.new.self.rest.now c.in-Some.c c.in-Some-next.next passed char_is
    (sym c.chars.ensures.rest ∙ c.in-Some-next.ensures.steps.0) (sym c.is_cut.ensures ∙ c.if-is_cut.true)

-- there is no boundary after this character
pub loop-c-preserved : goal.loop-c-preserved
loop-c-preserved c =
    let is_cut = cut (class_of c.args.tables.now) in
    let text = c.args.text.now in
    let passed : Passed is_cut text c.chars-characters.result.rest.now =
    subst (λ (t : List ℕ). Passed is_cut text t) (sym (c.chars-characters.ensures.rest ∙ c.split_at.ensures.back))
    (passed_plain is_cut text c.loop-c.rest.now c.plain_len.result c.args.is_usual c.requires c.loop-c.invariant.passed
    c.plain_len.ensures.boundary c.plain_len.ensures.plain c.plain_len.ensures.unknown) in
    let char_is : c.chars-characters.result.rest.now ≡ encode c.in-Some.c ++ c.as_str-rest.result.now =
    c.in-Some.ensures.steps.0 ∙ ap (λ t. encode c.in-Some.c ++ t) (sym c.as_str-rest.ensures) in
    let rest = c.as_str-rest.result.now in
    let next_is : chars rest ≡ c.in-Some-next.next ∷ chars c.next-in-loop-c.new.self.rest.now =
    chars_past_char rest c.next-in-loop-c.new.self.rest.now c.in-Some-next.next c.as_str-rest.utf8 (sym c.chars.ensures.rest ∙ c.in-Some-next.ensures.steps.0) in
    record {
      utf8 = c.as_str-rest.utf8;
      passed = passed_char is_cut text c.chars-characters.result.rest.now rest c.in-Some.c passed char_is
          (subst (λ (cs : List ℕ). NotAfter is_cut c.in-Some.c cs) (sym next_is) (sym c.is_cut.ensures ∙ c.if-is_cut.false));
    }
