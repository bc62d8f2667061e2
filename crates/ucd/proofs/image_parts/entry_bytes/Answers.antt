use Rattle.std.proofs.Common.{◌≡◌, ◌∙◌, get_or, below_more, sym, subst}
use Rattle.std.proofs.lemmas.List.{get_or_default}
use Rattle.ucd.specs.Answers.{unnamed}
use Rattle.ucd.specs.DistinctPages.{IsEntryOf}
use Rattle.ucd.proofs.ImageParts.{more_16}
use Rattle.ucd.proofs.image_parts.entry_bytes.Goals as goal

pub loop-k-preserved : goal.loop-k-preserved
loop-k-preserved c =
    let more = more_16 c.loop-k.bytes.items c.push_u16.new.bytes.items _ c.loop-k.k c.loop-k.invariant.len c.in_ok-push_u16.ensures in
    let entry : get_or c.args.entries.now c.loop-k.k unnamed ≡ c.index-entries-k.result =
    get_or_default c.args.entries.now c.loop-k.k unnamed c.index-entries-k.result c.loop-k-test.true ∙ sym c.index-entries-k.is in
    record {
      len = more.len;
      valid = λ version all. below_more _ _ (λ j lt. rw (more.before j lt) (c.loop-k.invariant.valid version all j lt))
          (rw more.here (c.bits.ensures.valid version (subst (IsEntryOf version) entry (all c.loop-k.k))));
      each = below_more _ _ (λ j lt. rw (more.before j lt) (c.loop-k.invariant.each j lt))
          (rw more.here (c.bits.ensures.answers ∙ sym entry));
    }
