use Rattle.std.proofs.Common.{false, true, Result, Ok, Err, OnErr, is_some, ◌≡◌, ◌+◌, ◌++◌, ℕ, List, Option, Some, None, [], ◌∷◌, drop, get_or, option_map, string_bytes, sym, ap, ◌∙◌, arith, refl, rules}
use Rattle.std.specs.Char.{IsScalar}
use Rattle.std.proofs.lemmas.Bool.{true≢false}
use Rattle.std.specs.Str.{chars}
use Rattle.std.proofs.lemmas.List.{take_rest}
use Rattle.std.proofs.lemmas.Str.{IsUtf8-string_bytes, chars-nil}
use Rattle.script_commands.specs.Commands.{unescaped, written}
use Rattle.script_commands.proofs.EscapeLemmas.{all_written, chars-push, lacks_next, next_written, none_written}
use Rattle.script_commands.proofs.commands.unescape.Goals as goal

-- prepending an empty list changes nothing
id_map : (o : Option (List ℕ)) → option_map (λ cs. [] ++ cs) o ≡ o
id_map None = refl
id_map (Some cs) = refl

pub loop-at-init : goal.loop-at-init
loop-at-init c =
    record {
      within = omega arith;
      whole =
          ap (λ (front : List ℕ). option_map (λ cs. front ++ cs) (unescaped c.args.text.now))
          (ap chars c.clear.ensures.bytes ∙ chars-nil) ∙ id_map (unescaped c.args.text.now);
    }

pub loop-at-preserved : goal.loop-at-preserved
loop-at-preserved c =
    let text = c.args.text.now in
    let n = c.loop-at.at in
    let d = c.index-text-at.result in
    let front = chars (string_bytes c.loop-at.inserted) in
    let is : written (get_or text n d) (drop (n + 1) text) ≡ Some (c.in-Some.c, c.in-Some.len) =
    ap (λ (x : ℕ). written x (drop (n + 1) text)) (sym c.index-text-at.is) ∙ ap (written d) (sym (take_rest text (n + 1))) ∙ sym c.in-Some.ensures.value in
    let scalar_is : IsScalar c.in-Some.c = search rules in
    let inserted : chars (string_bytes c.push.new.self) ≡ front ++ c.in-Some.c ∷ [] =
    ap chars c.in_ok-push-in-Some.ensures.bytes ∙ chars-push (string_bytes c.loop-at.inserted) c.in-Some.c (IsUtf8-string_bytes c.loop-at.inserted) scalar_is in
    record {
      within = search arith;
      whole =
          ap (λ (t : List ℕ). option_map (λ cs. t ++ cs) (unescaped (drop (n + c.in-Some.len) text))) inserted
          ∙ sym (next_written text n d c.loop-at-test.true front c.in-Some.c c.in-Some.len is c.in-Some.ensures.within.0) ∙ c.loop-at.invariant.whole;
    }

pub returns-in-None-clause-ok : goal.returns-in-None-clause-ok
returns-in-None-clause-ok c =
    let text = c.args.text.now in
    let n = c.loop-at.at in
    let d = c.index-text-at.result in
    let is : written (get_or text n d) (drop (n + 1) text) ≡ None =
    ap (λ (x : ℕ). written x (drop (n + 1) text)) (sym c.index-text-at.is) ∙ ap (written d) (sym (take_rest text (n + 1))) ∙ sym c.in-None.ensures.value in
    sym (none_written text n d c.loop-at-test.true (chars (string_bytes c.loop-at.inserted)) is) ∙ c.loop-at.invariant.whole

pub returns-clause-ok : goal.returns-clause-ok
returns-clause-ok c = sym (all_written c.args.text.now (chars (string_bytes c.loop-at.inserted)) c.loop-at.at (omega (arith, c.loop-at-test.false))) ∙ c.loop-at.invariant.whole

-- if an escape is not valid, `unescaped` returns `None`
none_is : (o : Option (List ℕ)) → is_some o ≡ false → None ≡ o
none_is None none = refl
none_is (Some cs) none = absurd (true≢false none)

pub returns-then-not-has_right_escapes-clause-ok : goal.returns-then-not-has_right_escapes-clause-ok
returns-then-not-has_right_escapes-clause-ok c = none_is (unescaped c.args.text.now) (sym c.has_right_escapes.ensures ∙ c.if-not-has_right_escapes.true)

on_err : {A E : Type 0} (P : Type 0) (r : Result A E) → P → OnErr r P
on_err P (Ok done) p = tt
on_err P (Err error) p = p

pub returns-in_err-push-in-Some-clause-lacks : goal.returns-in_err-push-in-Some-clause-lacks
returns-in_err-push-in-Some-clause-lacks c =
    let text = c.args.text.now in
    let n = c.loop-at.at in
    let d = c.index-text-at.result in
    let front = chars (string_bytes c.loop-at.inserted) in
    let is : written (get_or text n d) (drop (n + 1) text) ≡ Some (c.in-Some.c, c.in-Some.len) =
    ap (λ (x : ℕ). written x (drop (n + 1) text)) (sym c.index-text-at.is) ∙ ap (written d) (sym (take_rest text (n + 1))) ∙ sym c.in-Some.ensures.value in
    let whole = sym c.loop-at.invariant.whole ∙ next_written text n d c.loop-at-test.true front c.in-Some.c c.in-Some.len is c.in-Some.ensures.within.0 in
    let right : is_some (unescaped text) ≡ true = sym c.has_right_escapes.ensures ∙ search rules in
    let stays : chars (string_bytes c.push.new.self) ≡ front = ap chars c.in_err-push-in-Some.ensures.bytes in
    on_err _ c.from_residual.result (rw stays (lacks_next text front c.in-Some.c (unescaped (drop (n + c.in-Some.len) text)) whole right))
