use Rattle.std.proofs.Common.{◌≡◌, ◌∙◌, ◌+◌, ◌<◌, ◌++◌, length, sym, ap, arith}
use Rattle.std.proofs.lemmas.List.{length-append}
use Rattle.std.proofs.lemmas.Str.{len_utf8_bounds, length-encode}
use Rattle.stream.proofs.MoveLemmas.{moved_one}
use Rattle.stream.proofs.utf8.push_row.Goals as goal
use lib.Utf8.{encode}

pub returns-then-not-begins_between-clause-pushed : goal.returns-then-not-begins_between-clause-pushed
returns-then-not-begins_between-clause-pushed c =
    moved_one c.args.characters.now.items c.args.text.now c.loop-c.characters.items c.push_reserved.new.self.items c.loop-c.rest.now c.as_str-rest.result.now c.in-Some.c
    c.loop-c.invariant.moved c.push_reserved.ensures.items c.loop-c.invariant.utf8
    (sym c.chars-left.ensures.rest ∙ c.in-Some.ensures.steps.0 ∙ ap (λ t. encode c.in-Some.c ++ t) (sym c.as_str-rest.ensures))

-- moving one more character to the list preserves the loop invariant
pub loop-c-preserved : goal.loop-c-preserved
loop-c-preserved c =
    let taken : length c.loop-c.rest.now ≡ length (encode c.in-Some.c ++ c.as_str-rest.result.now) =
    ap length (sym c.chars-left.ensures.rest ∙ c.in-Some.ensures.steps.0 ∙ ap (λ t. encode c.in-Some.c ++ t) (sym c.as_str-rest.ensures)) in
    let len : length c.loop-c.rest.now ≡ length (encode c.in-Some.c) + length c.as_str-rest.result.now = taken ∙ length-append (encode c.in-Some.c) c.as_str-rest.result.now in
    let least : 0 < length (encode c.in-Some.c) = omega (arith, length-encode c.in-Some.c, (len_utf8_bounds c.in-Some.c).0) in
    record {
      utf8 = c.as_str-rest.utf8;
      some = c.begins_between.ensures.some c.if-not-begins_between.false;
      few = omega (arith, len, c.loop-c.invariant.few);
      moved =
          moved_one c.args.characters.now.items c.args.text.now c.loop-c.characters.items c.push_reserved.new.self.items c.loop-c.rest.now c.as_str-rest.result.now c.in-Some.c
          c.loop-c.invariant.moved c.push_reserved.ensures.items c.loop-c.invariant.utf8
          (sym c.chars-left.ensures.rest ∙ c.in-Some.ensures.steps.0 ∙ ap (λ t. encode c.in-Some.c ++ t) (sym c.as_str-rest.ensures));
      capacity_left = omega (arith, len, least, c.loop-c.invariant.capacity_left, c.push_reserved.ensures.len, c.push_reserved.ensures.capacity);
      capacity = c.push_reserved.ensures.capacity ∙ c.loop-c.invariant.capacity;
    }
