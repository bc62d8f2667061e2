-- What a step of `run` does, as it follows from what was read, decoded and written.
use Rattle.std.proofs.Common.{◌≡◌, ◌⊎◌, ℕ, ◌+◌, ◌-◌, ◌^◌, ◌≤◌, Bool, true, false, ◌&&◌, ◌||◌, List, [], ◌∷◌, ◌++◌, length, take, drop, Option, Some, None, Ok, Err, refl, sym, subst, ap, ap₂, inl, inr, ◌∙◌, append_assoc, arith}
use Rattle.std.specs.List.{concat}
use Rattle.std.specs.Str.Lossy.{utf8_valid_len}
use Rattle.std.specs.Io.KnownBytes.{Consumes, IsAtEnd}
use Rattle.std.proofs.lemmas.Bool.{and_parts}
use Rattle.std.proofs.lemmas.List.{drop_all, length-append, length-take-le, nil_from_length}
use Rattle.std.proofs.lemmas.Str.{utf8_valid_len_le}
use Rattle.device.specs.Device.{Device, StoppedAt, Wrote}
use Rattle.lines.specs.Layouts.{Rules, cut_by}
use Rattle.sequences.specs.Scanners.{pen_of}
use Rattle.stream.specs.declared.reading.TheConstants.{CHUNK}
use Rattle.stream.specs.Utf8.{is_bad}
use Rattle.stream.proofs.Utf8Lemmas.{utf8_valid_len-after}
use Rattle.terminal.specs.Decoding.{IsRead, IsValidText, good_part, text_after}
use Rattle.terminal.specs.Newlines.{text_output}
use Rattle.terminal.specs.Passed.{HasPassed}
use Rattle.terminal.specs.Run.{IsRun, have_over}
use Rattle.terminal.specs.RunState.{AddsLast, Finishes, Gathers, IsFed, Leaves, Stands, fault_after, last_characters, pages}
use Rattle.sequences.specs.StyledTexts.{styled_of}
use Rattle.terminal.specs.Texts.{blocks}
use Rattle.terminal.specs.declared.decoder.Decoder.{Decoder}
use Rattle.terminal.specs.declared.faults.Fault.{Fault}
use Rattle.terminal.specs.declared.faults.Fault.TheVariants as f
use Rattle.terminal.specs.declared.form.Form.{Form}
use Rattle.terminal.specs.declared.input.Held.{Held}
use Rattle.terminal.specs.declared.output.Output.{Output}
use Rattle.terminal.proofs.LossyLemmas.{good_front, good_len, good_whole}
use Rattle.terminal.proofs.RunLemmas.{at_new, ends_bad, ends_long, ends_memory, ends_write, fed_read, finish_bad, finish_long, finish_memory, finish_ok, finish_stopped, finish_stopped_long, same_bad}

-- ---- why a run continues or ends after a chunk
none_is : (is_long stops : Bool) (n : ℕ) → None ≡ fault_after is_long stops n → (is_long ≡ false) × (stops ≡ false)
none_is true stops n e = absurd cc
none_is false true n e = absurd cc
none_is false false n e = (refl, refl)

some_is : (wrong : Fault) (is_long stops : Bool) (n : ℕ) → Some wrong ≡ fault_after is_long stops n
    → ((is_long ≡ true) × (wrong ≡ f.ParagraphTooLong)) ⊎ ((is_long ≡ false) × (stops ≡ true) × (wrong ≡ f.NotUtf8 n))
some_is wrong true stops n e = inl (refl, cc)
some_is wrong false true n e = inr (refl, refl, cc)
some_is wrong false false n e = absurd cc

module _ (rules : Rules) (form : Form) (is_last : Bool) (reader_old writer_old reader writer : Device) (held : Held) (s : Stands rules form reader_old writer_old reader writer held)
    (reader_new : Device) (n : ℕ) (decoder : Decoder) (r : IsRead n held.decoder decoder reader reader_new) where
  chunk_len : length (take n r.read.buffer) ≡ n
  chunk_len = length-take-le n r.read.buffer r.read.within

  passed : reader_new.passed ≡ reader.passed + length (take n r.read.buffer)
  passed = omega (arith, r.read.gives.passes.passed, chunk_len)

  few : length (take n r.read.buffer) ≤ CHUNK
  few = omega (arith, chunk_len, r.small, s.room)

  waiting_same : decoder.waiting ≡ held.decoder.waiting
  waiting_same = ap (λ (d : Decoder). d.waiting) r.same

  started_same : decoder.started ≡ held.decoder.started
  started_same = ap (λ (d : Decoder). d.started) r.same

  bytes_are : take (decoder.waiting + n) decoder.chunk.items ≡ take held.decoder.waiting held.decoder.chunk.items ++ take n r.read.buffer
  bytes_are = ap (λ w. take (w + n) decoder.chunk.items) waiting_same ∙ r.read.chunk

  decoded_same : decoder.decoded ≡ held.decoder.decoded
  decoded_same = ap (λ (d : Decoder). d.decoded) r.same

  -- the number of bytes read so far fits in 64 bits
  pub step_counted : decoder.decoded + (decoder.waiting + n) ≤ 2 ^ 64 - 1
  step_counted = omega (arith, decoded_same, waiting_same, s.counts, s.is_at.read.1, r.read.gives.passes.passed, r.read.gives.passes.bounded)

  pub step_memory : IsRun rules form is_last reader_old reader_new writer_old writer (Err f.Memory)
  step_memory = ends_memory rules form is_last reader_old writer_old reader writer held s reader_new (take n r.read.buffer) r.read.gives.bytes passed few

  -- the bytes were decoded, and the lines of the blocks that have ended were added to the page
  module _ (new : Held) (fault : Option Fault) (g : Gathers rules form (take (decoder.waiting + n) decoder.chunk.items) (record held { decoder = decoder }) new fault) where
    fed_new : IsFed rules form (good_part form.strict (s.is_at.bytes ++ take n r.read.buffer)) (s.is_at.sent ++ g.parts) (take new.decoder.waiting new.decoder.chunk.items) new.text.items new.decoder.started
    fed_new =
        fed_read rules form s.is_at.bytes s.is_at.sent (take held.decoder.waiting held.decoder.chunk.items) held.text.items held.decoder.started s.is_at.fed
        (take n r.read.buffer) (take new.decoder.waiting new.decoder.chunk.items) g.text new.text.items g.takes.characters new.decoder.started g.parts
        (λ more. ap₂ (λ (b : Bool) t. text_after form.escapes b (good_part form.strict t ++ more)) (sym started_same) (sym bytes_are) ∙ g.takes.text more)
        g.takes.beginning g.takes.added g.front g.permitted
        (λ is. subst (λ (b : Bool). IsValidText form.escapes (good_part form.strict (take held.decoder.waiting held.decoder.chunk.items ++ take n r.read.buffer))
        (take new.decoder.waiting new.decoder.chunk.items) g.takes.characters b new.decoder.started) started_same
        (subst (λ (t : List ℕ). IsValidText form.escapes (good_part form.strict t) (take new.decoder.waiting new.decoder.chunk.items) g.takes.characters decoder.started new.decoder.started)
        bytes_are (g.takes.valid is)))

    -- if the form is strict and no text is left, no block was sent
    holds_new : form.strict ≡ true → length new.text.items ≡ 0 → length (s.is_at.sent ++ g.parts) ≡ 0
    holds_new is none =
        let whole : length g.text ≡ 0 = g.holds is none in
        let old : length held.text.items ≡ 0 = omega (arith, whole, ap length g.takes.added, length-append held.text.items g.takes.characters) in
        let cuts : 0 ≡ length g.parts + length (blocks (cut_by rules) (new.text.items ++ [])) =
        ap (λ (t : List ℕ). length (blocks (cut_by rules) (t ++ []))) (sym (nil_from_length g.text whole)) ∙ ap length (g.front.cuts []) ∙ length-append g.parts (blocks (cut_by rules) (new.text.items ++ [])) in
        omega (arith, s.holds is old, cuts, length-append s.is_at.sent g.parts)

    -- the run stops for all bytes read so far if and only if it stops for the bytes in the chunk
    stops_same : (form.strict && is_bad (s.is_at.bytes ++ take n r.read.buffer)) ≡ (form.strict && is_bad (take (decoder.waiting + n) decoder.chunk.items))
    stops_same =
        same_bad form.strict form.escapes s.is_at.bytes (take n r.read.buffer) (take held.decoder.waiting held.decoder.chunk.items) (concat s.is_at.sent ++ held.text.items) held.decoder.started
        s.is_at.fed.valid
        ∙ ap (λ t. form.strict && is_bad t) (sym bytes_are)

    page_is : new.output.page.bytes.items ≡ pages rules form (pen_of held.output.scanner) g.parts
    page_is = g.adds.lines ∙ ap (λ t. t ++ pages rules form (pen_of held.output.scanner) g.parts) s.lines

    pub step_write : (writer_new : Device) (m k : ℕ) → StoppedAt m new.output.page.bytes.items writer writer_new → k ≡ new.output.written + m
        → IsRun rules form is_last reader_old reader_new writer_old writer_new (Err (f.Write k))
    step_write writer_new m k stopped k_is =
        ends_write rules form is_last reader_old writer_old reader writer held s reader_new (take n r.read.buffer) r.read.gives.bytes passed few
        (take new.decoder.waiting new.decoder.chunk.items) new.text.items new.decoder.started g.parts fed_new
        writer_new m k (subst (λ (t : List ℕ). StoppedAt m t writer writer_new) page_is stopped) (omega (arith, k_is, g.adds.written))

    pub step_fault : (writer_new : Device) (wrong : Fault) → ((m : ℕ) × (wrong ≡ f.Write (new.output.written + m)) × StoppedAt m new.output.page.bytes.items writer writer_new)
        → IsRun rules form is_last reader_old reader_new writer_old writer_new (Err wrong)
    step_fault writer_new wrong (m, fault_is, stopped) =
        subst (λ (w : Fault). IsRun rules form is_last reader_old reader_new writer_old writer_new (Err w)) (sym fault_is) (step_write writer_new m (new.output.written + m) stopped refl)

    wrote_pages : (writer_new : Device) → Wrote new.output.page.bytes.items writer writer_new → Wrote (pages rules form (pen_of held.output.scanner) g.parts) writer writer_new
    wrote_pages writer_new wrote = subst (λ (t : List ℕ). Wrote t writer writer_new) page_is wrote

    step_long : (writer_new : Device) → Wrote new.output.page.bytes.items writer writer_new → g.is_long ≡ true
        → IsRun rules form is_last reader_old reader_new writer_old writer_new (Err f.ParagraphTooLong)
    step_long writer_new wrote is =
        ends_long rules form is_last reader_old writer_old reader writer held s reader_new (take n r.read.buffer) r.read.gives.bytes passed few
        (take new.decoder.waiting new.decoder.chunk.items) new.text.items new.decoder.started g.parts fed_new
        writer_new (wrote_pages writer_new wrote) (subst (λ (b : Bool). Leaves rules form.strict b new.scanned new.text.items) is g.leaves)

    -- if the bytes are not UTF-8 and the form is strict, the run ends with `NotUtf8`
    step_bad : (writer_new : Device) → Wrote new.output.page.bytes.items writer writer_new → g.is_long ≡ false → (form.strict && is_bad (take (decoder.waiting + n) decoder.chunk.items)) ≡ true
        → IsRun rules form is_last reader_old reader_new writer_old writer_new (Err (f.NotUtf8 new.decoder.decoded))
    step_bad writer_new wrote short stops =
        let waiting = take held.decoder.waiting held.decoder.chunk.items in
        let chunk = take n r.read.buffer in
        let bytes = take (decoder.waiting + n) decoder.chunk.items in
        let tests = and_parts form.strict (is_bad (s.is_at.bytes ++ chunk)) (stops_same ∙ stops) in
        let v = s.is_at.fed.valid tests.0 in
        let front_is : length v.front + held.decoder.waiting ≡ length s.is_at.bytes =
        sym (ap length v.whole ∙ length-append v.front waiting ∙ ap (λ k. length v.front + k) s.waits) in
        let good : good_part form.strict bytes ≡ take (utf8_valid_len bytes) bytes = good_front form.strict bytes stops in
        let good_len_is : length (good_part form.strict bytes) ≡ utf8_valid_len bytes = ap length good ∙ length-take-le (utf8_valid_len bytes) bytes (utf8_valid_len_le bytes) in
        let none : new.decoder.waiting ≡ 0 =
        sym g.takes.waits ∙ ap length ((g.takes.valid tests.0).rest
        ∙ drop_all (utf8_valid_len (good_part form.strict bytes)) (good_part form.strict bytes)
        (omega (arith, good_len_is, ap (λ b. utf8_valid_len (good_part b bytes)) tests.0 ∙ good_len bytes))) in
        let valid : utf8_valid_len (s.is_at.bytes ++ chunk) ≡ length v.front + utf8_valid_len bytes =
        ap utf8_valid_len (ap (λ x. x ++ chunk) v.whole ∙ append_assoc v.front waiting chunk ∙ ap (λ x. v.front ++ x) (sym bytes_are)) ∙ utf8_valid_len-after v.front bytes v.utf8 in
        ends_bad rules form is_last reader_old writer_old reader writer held s reader_new chunk r.read.gives.bytes passed few
        (take new.decoder.waiting new.decoder.chunk.items) new.text.items new.decoder.started g.parts fed_new
        writer_new new.decoder.decoded new.scanned (wrote_pages writer_new wrote) tests.0 tests.1
        (omega (arith, g.takes.counts, none, decoded_same, s.counts, front_is, good_len_is, valid))
        (subst (λ (b : Bool). Leaves rules form.strict b new.scanned new.text.items) short g.leaves) holds_new

    -- if there is a fault, the run ends with it
    pub step_stop : (writer_new : Device) (wrong : Fault) → Wrote new.output.page.bytes.items writer writer_new → fault ≡ Some wrong
        → IsRun rules form is_last reader_old reader_new writer_old writer_new (Err wrong)
    step_stop writer_new wrong wrote is =
        elim (some_is wrong g.is_long (form.strict && is_bad (take (decoder.waiting + n) decoder.chunk.items)) new.decoder.decoded (sym is ∙ g.fault_is)) [
          | inl (long, wrong_is) ↦
              subst (λ (w : Fault). IsRun rules form is_last reader_old reader_new writer_old writer_new (Err w)) (sym wrong_is) (step_long writer_new wrote long)
          | inr (short, stops, wrong_is) ↦
              subst (λ (w : Fault). IsRun rules form is_last reader_old reader_new writer_old writer_new (Err w)) (sym wrong_is) (step_bad writer_new wrote short stops)
        ]

    pub step_on : (writer_new : Device) (output : Output) → Wrote new.output.page.bytes.items writer writer_new → output.page.bytes.items ≡ []
        → output.written ≡ new.output.written + length new.output.page.bytes.items → output.scanner ≡ new.output.scanner → output.over ≡ new.output.over → fault ≡ None
        → HasPassed new.passed (drop (new.scanned + 1) new.text.items) → Stands rules form reader_old writer_old reader_new writer_new (record new { output = output })
    step_on writer_new output wrote empty written scanner over goes_on scanned =
        let bytes = take (decoder.waiting + n) decoder.chunk.items in
        let cases = none_is g.is_long (form.strict && is_bad bytes) new.decoder.decoded (sym goes_on ∙ g.fault_is) in
        let is = cases.0 in
        let both =
        at_new rules form is_last reader_old writer_old reader writer held s reader_new (take n r.read.buffer) r.read.gives.bytes passed few
        (take new.decoder.waiting new.decoder.chunk.items) new.text.items new.decoder.started g.parts fed_new
        writer_new (pen_of output.scanner) output.written output.over (good_whole form.strict (s.is_at.bytes ++ take n r.read.buffer) (stops_same ∙ cases.1)) r.read.gives.passes.failures (wrote_pages writer_new wrote)
        (ap pen_of scanner ∙ g.adds.pen) (omega (arith, written, g.adds.written, ap length page_is)) (over ∙ g.adds.over) in
        record {
          is_at = both.0;
          is_left = subst (λ (b : Bool). Leaves rules form.strict b new.scanned new.text.items) is g.leaves;
          passed = scanned;
          holds = λ strict none. both.1 ∙ holds_new strict none;
          empty = ap (λ sc. styled_of sc.text) scanner ∙ g.adds.empty;
          lines = empty;
          room = g.takes.room ∙ r.room ∙ s.room;
          counts = omega (
            arith,
            g.takes.counts,
            ap length (good_whole form.strict bytes cases.1),
            ap length bytes_are,
            length-append (take held.decoder.waiting held.decoder.chunk.items) (take n r.read.buffer),
            s.waits,
            chunk_len,
            decoded_same,
            s.counts,
            s.is_at.read.1,
            both.0.read.1,
            r.read.gives.passes.passed,
          );
          waits = g.takes.waits;
        }

  -- the source has ended
  module _ (none : n ≡ 0) where
    nothing : Consumes reader.bytes reader_new.bytes []
    nothing = subst (λ k. Consumes reader.bytes reader_new.bytes (take k r.read.buffer)) none r.read.gives.bytes

    stays : reader_new.passed ≡ reader.passed + 0
    stays = omega (arith, r.read.gives.passes.passed, none)

    at_end : IsAtEnd reader_new.bytes
    at_end = r.read.gives.end none

    text_is : held.text.items ++ last_characters decoder.waiting ≡ held.text.items ++ last_characters held.decoder.waiting
    text_is = ap (λ w. held.text.items ++ last_characters w) waiting_same

    lines_are : (lines : List ℕ) → held.output.page.bytes.items ++ lines ≡ lines
    lines_are lines = ap (λ t. t ++ lines) s.lines

    long_by : (writer_new : Device) (k : ℕ) (middle : Output) → AddsLast rules form is_last (held.text.items ++ last_characters decoder.waiting) held.output middle true
        → (Wrote middle.page.bytes.items writer writer_new → IsRun rules form is_last reader_old reader_new writer_old writer_new (Err f.ParagraphTooLong))
        × ((m : ℕ) → k ≡ held.output.written + m → StoppedAt m middle.page.bytes.items writer writer_new → IsRun rules form is_last reader_old reader_new writer_old writer_new (Err (f.Write k)))
    long_by writer_new k middle (strict, (parts, first, others, cuts, within, long, lines)) =
        let page : middle.page.bytes.items ≡ pages rules form (pen_of held.output.scanner) parts = lines ∙ lines_are (pages rules form (pen_of held.output.scanner) parts) in
        let cuts_are = subst (λ (t : List ℕ). blocks (cut_by rules) t ≡ parts ++ first ∷ others) text_is cuts in (
          λ wrote. finish_long rules form is_last reader_old writer_old reader writer held s reader_new nothing stays at_end r.read.gives.passes.failures parts others first cuts_are strict within long writer_new
              (subst (λ (t : List ℕ). Wrote t writer writer_new) page wrote),
          λ m k_is stopped. finish_stopped_long rules form is_last reader_old writer_old reader writer held s reader_new nothing stays at_end r.read.gives.passes.failures parts others first cuts_are strict within long
              writer_new m k (subst (λ (t : List ℕ). StoppedAt m t writer writer_new) page stopped) k_is,
        )

    all_page : (lines : List ℕ) → lines ≡ held.output.page.bytes.items ++ text_output rules form is_last (pen_of held.output.scanner) (held.text.items ++ last_characters decoder.waiting)
        → lines ≡ text_output rules form is_last (pen_of held.output.scanner) (held.text.items ++ last_characters held.decoder.waiting)
    all_page lines e = e ∙ lines_are _ ∙ ap (text_output rules form is_last (pen_of held.output.scanner)) text_is

    stopped_by : (writer_new : Device) (k : ℕ) (middle : Output) (is_long : Bool) → AddsLast rules form is_last (held.text.items ++ last_characters decoder.waiting) held.output middle is_long
        → (m : ℕ) → k ≡ held.output.written + m → StoppedAt m middle.page.bytes.items writer writer_new → IsRun rules form is_last reader_old reader_new writer_old writer_new (Err (f.Write k))
    stopped_by writer_new k middle true adds m k_is stopped = (long_by writer_new k middle adds).1 m k_is stopped
    stopped_by writer_new k middle false adds m k_is stopped =
        finish_stopped rules form is_last reader_old writer_old reader writer held s reader_new nothing stays at_end r.read.gives.passes.failures writer_new m k
        (subst (λ (t : List ℕ). StoppedAt m t writer writer_new) (all_page middle.page.bytes.items adds.0) stopped) k_is

    over_as : (over : Bool) → over ≡ (held.output.over || have_over rules (pen_of held.output.scanner) (blocks (cut_by rules) (held.text.items ++ last_characters decoder.waiting)))
        → over ≡ (held.output.over || have_over rules (pen_of held.output.scanner) (blocks (cut_by rules) (held.text.items ++ last_characters held.decoder.waiting)))
    over_as over e = e ∙ ap (λ (t : List ℕ). held.output.over || have_over rules (pen_of held.output.scanner) (blocks (cut_by rules) t)) text_is

    pub step_done : (writer_new : Device) (over : Bool) → Finishes rules form is_last (record held { decoder = decoder }) over writer writer_new (Ok tt)
        → IsRun rules form is_last reader_old reader_new writer_old writer_new (Ok over)
    step_done writer_new over (none, over_is, wrote) =
        finish_ok rules form is_last reader_old writer_old reader writer held s reader_new nothing stays at_end r.read.gives.passes.failures writer_new over
        (λ is. sym waiting_same ∙ none is) (over_as over over_is)
        (subst (λ (t : List ℕ). Wrote t writer writer_new) (all_page _ refl) wrote)

    pub step_end : (writer_new : Device) (over : Bool) (fault : Fault) → Finishes rules form is_last (record held { decoder = decoder }) over writer writer_new (Err fault)
        → IsRun rules form is_last reader_old reader_new writer_old writer_new (Err fault)
    step_end writer_new over f.Read never = absurd never
    step_end writer_new over (f.NotUtf8 k) (strict, some, k_is, same) =
        subst (λ (w : Device). IsRun rules form is_last reader_old reader_new writer_old w (Err (f.NotUtf8 k))) (sym same)
        (finish_bad rules form is_last reader_old writer_old reader writer held s reader_new nothing stays at_end r.read.gives.passes.failures k strict
        (omega (arith, some, waiting_same)) (k_is ∙ decoded_same))
    step_end writer_new over f.Memory same =
        subst (λ (w : Device). IsRun rules form is_last reader_old reader_new writer_old w (Err f.Memory)) (sym same)
        (finish_memory rules form is_last reader_old writer_old reader writer held s reader_new nothing stays at_end r.read.gives.passes.failures)
    step_end writer_new over f.ParagraphTooLong (middle, adds, wrote) = (long_by writer_new 0 middle adds).0 wrote
    step_end writer_new over (f.Write k) (middle, is_long, adds, (m, k_is, stopped)) = stopped_by writer_new k middle is_long adds m k_is stopped
