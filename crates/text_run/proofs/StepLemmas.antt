-- One step of a run. Its contract follows from the results of the calls that it makes.
use Rattle.std.proofs.Common.{◌≡◌, ◌⊎◌, inl, inr, ⊎_elim, ℕ, ◌+◌, ◌<◌, ◌≤◌, ◌==◌, Bool, true, false, List, [], ◌∷◌, ◌++◌, length, take, drop, min, Option, Some, None, unwrap_or, Result, Ok, Err, vec_len, Vec, Global, encode_utf8_all, refl, sym, subst, ap, ap₂, ◌∙◌, arith, true≢false, if◌then◌else◌}
use Rattle.std.specs.Prelude.{is_none, is_some, IsErrOf, OnOk}
use Rattle.std.specs.List.{concat}
use Rattle.std.specs.Str.{chars}
use Rattle.std.specs.Str.Lossy.{utf8_valid_len, utf8_error_len}
use Rattle.std.specs.Io.KnownBytes.{Consumes}
use Rattle.std.proofs.Math.Seq.{take-append_seam}
use Rattle.std.proofs.lemmas.List.Folds.{concat-append}
use Rattle.std.proofs.lemmas.List.{append_assoc, append-nil, length-append, length-take-le, length-drop, take-append-drop}
use Rattle.std.proofs.lemmas.Grind.{flat_map-append}
use Rattle.std.proofs.lemmas.Str.{chars-append, chars-nil, encodes-append, encodes-chars, IsUtf8-append, utf8_valid_len_le}
use Rattle.bidi.specs.Cuts.{paragraphs}
use Rattle.device.specs.Device.{Device, Fails, Gives, StoppedAt, Wrote, greatest}
use Rattle.lines.specs.Engine.{Prints}
use Rattle.lines.specs.Layouts.{Rules, cut_by}
use Rattle.lines.specs.Pages.{page, paragraph_bytes}
use Rattle.lines.specs.declared.engine.Engine.{Engine}
use Rattle.lines.specs.declared.printing.print.Print.{Print}
use Rattle.text_run.specs.declared.faults.RunFault.{RunFault}
use Rattle.text_run.specs.declared.faults.RunFault.TheVariants as f
use Rattle.text_run.specs.declared.text.Held.{Held}
use Rattle.stream.specs.declared.reading.TheConstants.{CHUNK}
use Rattle.stream.specs.Utf8.{front_of, is_bad}
use Rattle.text_run.specs.TextRun.{AtEnd, AtFailure, are_within, input_fault, front_paragraphs, written_of, Gave, HasPrinted, HasRead, HasStopped, PrintsNoMore, WantsMemory}
use Rattle.text_run.specs.Counts.{PrintsAtMost}
use Rattle.text_run.specs.Pages.{prints_some}
use Rattle.text_run.specs.Streaming.{Ends, FindsFault, Finishes, Gathers, IsAt, IsBeginning, IsFront, IsFaultAhead, IsOpen, IsRead, Stands, StopsAfter, StopsWriting, Writes, last_lines}
use Rattle.text_run.proofs.CountLemmas.{at_most_more, at_most_none, at_most_printed, printed_as, prints_more}
use Rattle.text_run.proofs.Fronts.{front_join, front_more, front_none}
use Rattle.text_run.proofs.RemainderLemmas.{front_some, last_pars, last_within, left_by, not_none, pars_some}
use Rattle.text_run.proofs.StopLemmas.{append_end, encoded_len, is_all, last_len, not_all, not_bad, one_par, some_bad, stopped_in}
use Rattle.text_run.proofs.StreamLemmas.{Consumes-append, Consumes-kept, IsSent, Stops, at_fault, at_long, at_memory, at_write, at_written, ends_write, front_is, gave_all, gone_on, had_all, pars_are, pars_sent, sent_ahead, sent_within, within_more, written_whole, Wrote-append}
use Rattle.stream.proofs.Utf8Lemmas.{bad_stays, is_bad-after, utf8_front, utf8_valid_len-after}

module _ (rules : Rules) (width : ℕ) (print : Print) (reader_old writer_old : Device) (engine_old : Engine) (reader writer : Device) (engine : Engine) (held : Held) where
  abbrev Holds : List ℕ → List ℕ → Type 0
  Holds waiting text =
      (at : IsAt rules width print reader_old reader writer_old writer waiting text []) × (at.gathered ≡ [])
      × (held.decoded ≡ length at.decoded) × (held.written ≡ length (page rules width print at.sent))
      × IsOpen (cut_by rules) text × IsBeginning waiting × Prints (length (concat at.sent)) print engine_old engine

  -- `Stands` holds between two reads, given what the run holds
  pub stands_by : (waiting text : List ℕ) → Holds waiting text → Prints 0 print engine_old engine_old
      → take held.waiting held.chunk.items ≡ waiting → held.text.items ≡ text → held.page.bytes.items ≡ []
      → vec_len held.chunk ≡ CHUNK
      → length (take held.waiting held.chunk.items) ≡ held.waiting → Stands rules width print reader_old writer_old engine_old reader writer engine held
  stands_by waiting text holds fits waiting_is text_is lines room waits =
      let here : Holds (take held.waiting held.chunk.items) held.text.items =
      subst (λ (w : List ℕ). Holds w held.text.items) (sym waiting_is) (subst (λ (t : List ℕ). Holds waiting t) (sym text_is) holds) in
      record { is_at = here.0; all_sent = here.1; decoded = here.2; written = here.3; text = here.4; lines = lines; beginning = here.5; room = room; waits = waits; fits = fits; counts = here.6 }

-- a fault that is found in a chunk is not `Memory`
pub no_memory : (rules : Rules) (width : ℕ) (print : Print) (bytes : List ℕ) (old new : Held) (engine_old engine_new : Engine) (fault : Option RunFault) (wrong : RunFault)
    → FindsFault rules bytes old new engine_old engine_new fault ⊎ Gathers rules width print bytes old new engine_old engine_new fault → fault ≡ Some wrong → wrong ≡ f.Memory → ⊥
no_memory rules width print bytes old new engine_old engine_new fault wrong (inl l) is memory =
    let wrong_is : l.wrong ≡ f.Memory = cc (is, memory, l.fault_is) in
    subst (IsFaultAhead (cut_by rules) (old.text.items ++ front_of bytes) (is_bad bytes) (old.decoded + utf8_valid_len bytes)) wrong_is l.ahead
no_memory rules width print bytes old new engine_old engine_new fault wrong (inr g) is memory = go (is_bad bytes) (sym is ∙ g.fault_is)
  where
    go : (b : Bool) → Some wrong ≡ (if b then Some (f.NotUtf8 new.decoded) else None) → ⊥
    go true same_fault = cc (same_fault, memory)
    go false same_fault = cc same_fault

-- a fault that is found in a chunk is not `Write`
no_write : (rules : Rules) (width : ℕ) (print : Print) (bytes : List ℕ) (old new : Held) (engine_old engine_new : Engine) (fault : Option RunFault) (wrong : RunFault)
    → FindsFault rules bytes old new engine_old engine_new fault ⊎ Gathers rules width print bytes old new engine_old engine_new fault → fault ≡ Some wrong → (n : ℕ) → wrong ≡ f.Write n → ⊥
no_write rules width print bytes old new engine_old engine_new fault wrong (inl l) is n write =
    let wrong_is : l.wrong ≡ f.Write n = cc (is, write, l.fault_is) in
    subst (IsFaultAhead (cut_by rules) (old.text.items ++ front_of bytes) (is_bad bytes) (old.decoded + utf8_valid_len bytes)) wrong_is l.ahead
no_write rules width print bytes old new engine_old engine_new fault wrong (inr g) is n write = go (is_bad bytes) (sym is ∙ g.fault_is)
  where
    go : (b : Bool) → Some wrong ≡ (if b then Some (f.NotUtf8 new.decoded) else None) → ⊥
    go true same_fault = cc (same_fault, write)
    go false same_fault = cc same_fault

-- if memory runs out at the end of a text, nothing more is written
pub none_written : (rules : Rules) (width : ℕ) (print : Print) (held : Held) (old new : Device) (fault : RunFault) → Finishes rules width print held old new (Err fault) → fault ≡ f.Memory → new ≡ old
none_written rules width print held old new fault is memory = (subst (λ (w : RunFault). Finishes rules width print held old new (Err w)) memory is).3

module _ (rules : Rules) (width : ℕ) (print : Print) (reader_old writer_old : Device) (engine_old : Engine) (reader writer : Device) (engine : Engine) where
  -- if a run stops with a fault, and the counters include at most the characters that were read, `Ends` holds
  ended : (reader_new writer_new : Device) (engine_new : Engine) (fault : RunFault) (printed : ℕ)
      → Stops rules width print reader_old writer_old reader_new writer_new fault printed
      → HasPrinted (Some fault) printed print engine_old engine_new → PrintsNoMore print reader_old reader_new engine_old engine_new → (fault ≡ f.Memory → WantsMemory rules width print reader_old reader_new writer_old writer_new engine_old engine_new)
      → ((n : ℕ) → fault ≡ f.Write n → HasStopped rules width print reader_old reader_new writer_old writer_new engine_old engine_new n)
      → Ends rules width print reader_old writer_old engine_old reader_new writer_new engine_new (Err fault)
  ended reader_new writer_new engine_new fault printed stops counts no_more wants failed =
      record { run = stops.run engine_old engine_new counts; ahead = stops.ahead; at_most = no_more; wants = λ is. wants (cc is); stopped = λ n is. failed n (cc is) }

  no_more : (reader_new : Device) (engine_new : Engine) (bytes : List ℕ) (n : ℕ) → HasRead reader_old reader_new bytes
      → PrintsAtMost n print engine_old engine_new → n ≤ length (front_of bytes)
      → PrintsNoMore print reader_old reader_new engine_old engine_new
  no_more reader_new engine_new bytes n has_read at_most few = (
    bytes,
    has_read,
    at_most_more print engine_old engine_old engine_new 0 n (length (front_of bytes))
        (at_most_none print engine_old) at_most (omega (arith, few)),
  )

  -- bounds on the counters so far, and the number of characters in the valid UTF-8 prefix of the bytes so far
  module _ (held : Held) (s : Stands rules width print reader_old writer_old engine_old reader writer engine held) where
    counted_now : PrintsAtMost (length (concat s.is_at.sent)) print engine_old engine
    counted_now = at_most_printed print engine_old engine (length (concat s.is_at.sent)) s.fits s.counts

    held_len : length (chars s.is_at.decoded) ≡ length (concat s.is_at.sent) + length held.text.items
    held_len =
        let at = s.is_at in
        let text_is : chars at.decoded ≡ concat at.sent ++ held.text.items =
        at.front.whole ∙ ap (λ ps. concat (at.sent ++ ps) ++ held.text.items) s.all_sent ∙ ap (λ ps. concat ps ++ held.text.items) (append-nil at.sent) in
        omega (arith, ap length text_is, length-append (concat at.sent) held.text.items)

    front_len : (after : List ℕ) → length (front_of (s.is_at.decoded ++ after)) ≡ length (concat s.is_at.sent) + length held.text.items + length (front_of after)
    front_len after =
        let is = front_is rules width print reader_old reader writer_old writer (take held.waiting held.chunk.items) held.text.items [] s.is_at after in
        omega (arith, held_len, ap length is, length-append (chars s.is_at.decoded) (front_of after))

    -- the bytes read so far are not invalid, even if they end with an incomplete UTF-8 sequence
    no_bad : is_bad (s.is_at.decoded ++ take held.waiting held.chunk.items) ≡ false
    no_bad =
        let waiting = take held.waiting held.chunk.items in
        is_bad-after s.is_at.decoded waiting s.is_at.utf8 ∙ ap (λ n. is_some (utf8_error_len (drop n waiting))) s.beginning.none ∙ ap is_some s.beginning.fault

  -- if more bytes are read, `IsAt` holds with these bytes after the waiting ones
  pub at_read : (reader_new : Device) (waiting text more : List ℕ)
      (at : IsAt rules width print reader_old reader writer_old writer waiting text []) → at.gathered ≡ []
      → length text ≤ 1048576 → length waiting < 4
      → Consumes reader.bytes reader_new.bytes more → reader_new.passed ≡ reader.passed + length more → reader_new.failures ≡ reader.failures → length more ≤ CHUNK
      → (next : IsAt rules width print reader_old reader_new writer_old writer (waiting ++ more) text []) × (next.gathered ≡ []) × (next.decoded ≡ at.decoded) × (next.sent ≡ at.sent)
  at_read reader_new waiting text more at sent short few consumed passed failures chunk = (
    record {
      decoded = at.decoded;
      sent = at.sent;
      gathered = at.gathered;
      read = subst (Consumes reader_old.bytes reader_new.bytes) (append_assoc at.decoded waiting more)
          (Consumes-append reader_old.bytes reader.bytes reader_new.bytes (at.decoded
          ++ waiting) more at.read consumed);
      passed = omega (arith, passed, at.passed, length-append at.decoded waiting, length-append at.decoded (waiting ++ more), length-append waiting more);
      failures = failures ∙ at.failures;
      utf8 = at.utf8;
      front = at.front;
      wrote = at.wrote;
      lines_are = at.lines_are;
      ahead =
          let text_is : chars at.decoded ≡ concat at.sent ++ text = at.front.whole ∙ ap (λ ps. concat (at.sent ++ ps) ++ text) sent ∙ ap (λ ps. concat ps ++ text) (append-nil at.sent) in
          let bytes : at.decoded ≡ encode_utf8_all (concat at.sent)
          ++ encode_utf8_all text = sym (encodes-chars at.decoded at.utf8) ∙ ap encode_utf8_all text_is
          ∙ encodes-append (concat at.sent) text in
          omega (
            arith,
            passed,
            at.passed,
            chunk,
            few,
            short,
            encoded_len text,
            length-append at.decoded waiting,
            ap
                length bytes,
            length-append (encode_utf8_all (concat at.sent)) (encode_utf8_all text),
          );
    },
    sent,
    refl,
    refl,
  )

  -- a failed read ends the run with `Read`, even if an incomplete UTF-8 sequence is waiting
  pub ends_read : (reader_new : Device) (held : Held)
      → Stands rules width print reader_old writer_old engine_old reader writer engine held → Fails reader reader_new
      → Ends rules width print reader_old writer_old engine_old reader_new writer engine (Err f.Read)
  ends_read reader_new held s fails =
      let at = s.is_at in
      let waiting = take held.waiting held.chunk.items in
      let good : is_bad (at.decoded ++ waiting) ≡ false = no_bad held s in
      let has_read : HasRead reader_old reader_new (at.decoded ++ waiting) = (
        Consumes-kept reader_old.bytes reader.bytes reader_new.bytes (at.decoded
            ++ waiting) at.read fails.bytes,
        fails.passed ∙ at.passed,
      ) in
      ended reader_new writer engine f.Read (length (concat at.sent))
      (at_fault rules width print reader_old reader writer_old writer waiting held.text.items [] at s.all_sent reader_new AtFailure waiting f.Read (
        has_read.0,
        has_read.1,
        record { failures = fails.failures ∙ ap (λ n. min (n + 1) greatest) at.failures; last = fails.failed_at ∙ sym fails.passed },
      )
      (record { ahead = omega (arith, at.ahead, fails.passed) }) s.text s.beginning.none
      (ap (λ (b : Bool). if b then Some (f.NotUtf8 (utf8_valid_len (at.decoded ++ waiting))) else Some f.Read) good)
      (λ written wrong is wrote. (is, wrote)))
      s.counts
      (no_more reader_new engine (at.decoded ++ waiting) (length (concat at.sent)) has_read (counted_now held s) (omega (arith, front_len held s waiting)))
      (λ is. absurd (cc is)) (λ n is. absurd (cc is))

  -- ---- the end of the text
  module _ (reader_new : Device) (buffer : List ℕ) (held : Held)
      (s : Stands rules width print reader_old writer_old engine_old reader writer engine held)
      (gives : Gives reader reader_new 0 buffer) where
    consumed_all : Consumes reader_old.bytes reader_new.bytes (s.is_at.decoded ++ take held.waiting held.chunk.items)
    consumed_all =
        let bytes = s.is_at.decoded ++ take held.waiting held.chunk.items in
        subst (Consumes reader_old.bytes reader_new.bytes) (append-nil bytes) (Consumes-append reader_old.bytes reader.bytes reader_new.bytes bytes [] s.is_at.read gives.bytes)

    gave : Gave reader_old reader_new AtEnd (s.is_at.decoded ++ take held.waiting held.chunk.items)
    gave =
        (had_all reader_old.bytes reader_new.bytes (s.is_at.decoded ++ take held.waiting held.chunk.items) consumed_all (gives.end refl), gives.passes.failures ∙ s.is_at.failures)

    passed_all : reader_new.passed ≡ reader_old.passed + length (s.is_at.decoded ++ take held.waiting held.chunk.items)
    passed_all = omega (arith, gives.passes.passed, s.is_at.passed)

    sent_all : IsSent rules width print reader_old writer_old reader_new s.is_at.sent
    sent_all = record { ahead = omega (arith, gives.passes.passed, s.is_at.ahead) }

    -- if the text ends inside a UTF-8 sequence, the run stops with `NotUtf8`
    finish_inside : (n : ℕ) → 0 < length (take held.waiting held.chunk.items) → n ≡ held.decoded → Stops rules width print reader_old writer_old reader_new writer (f.NotUtf8 n) (length (concat s.is_at.sent))
    finish_inside n some n_is =
        let waiting = take held.waiting held.chunk.items in
        let decoded = s.is_at.decoded in
        let bytes = decoded ++ waiting in
        let valid : utf8_valid_len bytes ≡ length decoded + utf8_valid_len waiting = utf8_valid_len-after decoded waiting s.is_at.utf8 in
        let at : utf8_valid_len bytes ≡ n = omega (arith, valid, s.beginning.none, n_is, s.decoded) in
        let less : utf8_valid_len bytes < length bytes = omega (arith, valid, s.beginning.none, some, length-append decoded waiting) in
        at_fault rules width print reader_old reader writer_old writer waiting held.text.items [] s.is_at s.all_sent reader_new AtEnd waiting (f.NotUtf8 n)
        gave sent_all s.text s.beginning.none
        (ap (λ (b : Bool). if b then None else Some (f.NotUtf8 (utf8_valid_len bytes))) (not_all (utf8_valid_len bytes) (length bytes) less) ∙ ap (λ k. Some (f.NotUtf8 k)) at)
        (λ written wrong is wrote. (is, wrote))

    -- the text ends after a complete character
    module _ (none : held.waiting ≡ 0) where
      last : List (List ℕ)
      last = if length held.text.items == 0 then [] else held.text.items ∷ []

      nothing_waits : take held.waiting held.chunk.items ≡ []
      nothing_waits = ap (λ n. take n held.chunk.items) none

      no_fault : input_fault AtEnd (s.is_at.decoded ++ take held.waiting held.chunk.items) ≡ None
      no_fault =
          let waiting = take held.waiting held.chunk.items in
          let bytes = s.is_at.decoded ++ waiting in
          let all : utf8_valid_len bytes ≡ length bytes =
          omega (arith, utf8_valid_len-after s.is_at.decoded waiting s.is_at.utf8, s.beginning.none, length-append s.is_at.decoded waiting, ap length nothing_waits) in
          ap (λ (b : Bool). if b then None else Some (f.NotUtf8 (utf8_valid_len bytes))) (is_all (utf8_valid_len bytes) (length bytes) all)

      last_is : paragraphs (cut_by rules) held.text.items ≡ last
      unfolding last
      last_is = last_pars rules held.text.items s.text

      pars_last : front_paragraphs rules (s.is_at.decoded ++ take held.waiting held.chunk.items) ≡ s.is_at.sent ++ last
      pars_last =
          let waiting = take held.waiting held.chunk.items in
          let text_is : held.text.items ++ front_of waiting ≡ held.text.items =
          ap (λ n. held.text.items ++ chars (take n waiting)) s.beginning.none ∙ ap (λ t. held.text.items ++ t) chars-nil ∙ append-nil held.text.items in
          pars_sent rules width print reader_old reader writer_old writer waiting held.text.items [] s.is_at s.all_sent waiting
          ∙ ap (λ t. s.is_at.sent ++ paragraphs (cut_by rules) t) text_is ∙ ap (λ ps. s.is_at.sent ++ ps) last_is

      within_last : are_within (s.is_at.sent ++ last) ≡ true
      unfolding last
      within_last =
          within_more s.is_at.sent last (sent_within rules width print reader_old reader writer_old writer (take held.waiting held.chunk.items) held.text.items [] s.is_at s.all_sent)
          ∙ last_within held.text.items s.text.short

      written_last : written_of (front_paragraphs rules (s.is_at.decoded ++ take held.waiting held.chunk.items))
          (is_none (input_fault AtEnd (s.is_at.decoded ++ take held.waiting held.chunk.items))) ≡ s.is_at.sent ++ last
      written_last =
          ap (λ (w : Option RunFault). written_of (front_paragraphs rules (s.is_at.decoded ++ take held.waiting held.chunk.items)) (is_none w)) no_fault
          ∙ ap (λ ps. written_of ps true) pars_last ∙ written_whole (s.is_at.sent ++ last) within_last

      lines_last : last_lines rules width print held ≡ page rules width print last
      unfolding last
      lines_last = ap (λ t. t ++ page rules width print (if length held.text.items == 0 then [] else held.text.items ∷ [])) s.lines

      finish_done : (writer_new : Device) (engine_new : Engine) → Wrote (last_lines rules width print held) writer writer_new → Prints (length held.text.items) print engine engine_new
          → Ends rules width print reader_old writer_old engine_old reader_new writer_new engine_new (Ok tt)
      finish_done writer_new engine_new wrote counts =
          let bytes = s.is_at.decoded ++ take held.waiting held.chunk.items in
          let pars = front_paragraphs rules bytes in
          let within_all : are_within pars ≡ true = ap are_within pars_last ∙ within_last in
          let wrote_all : Wrote (page rules width print (s.is_at.sent ++ last)) writer_old writer_new =
          subst (λ (t : List ℕ). Wrote t writer_old writer_new) (sym (flat_map-append (paragraph_bytes rules width print) s.is_at.sent last))
          (Wrote-append writer_old writer writer_new (page rules width print s.is_at.sent)
          (page rules width print last) s.is_at.wrote
          (subst (λ (t : List ℕ). Wrote t writer writer_new) lines_last wrote)) in
          let all : length (concat s.is_at.sent) + length held.text.items ≡ length (chars bytes) =
          sym (held_len held s) ∙ ap (λ t. length (chars t)) (sym (append-nil s.is_at.decoded) ∙ ap (λ t. s.is_at.decoded ++ t) (sym nothing_waits)) in
          record {
            run = (
              AtEnd,
              bytes,
              gave,
              (gives.end refl, passed_all),
              subst (λ n. Prints n print engine_old engine_new) all (prints_more print engine_old engine engine_new (length (concat s.is_at.sent)) (length held.text.items) s.counts counts),
              (
                tt,
                (
                  sym (ap (λ (b : Bool). if b then input_fault AtEnd bytes else Some f.ParagraphTooLong) within_all ∙ no_fault),
                  subst (λ (ps : List (List ℕ)). Wrote (page rules width print ps) writer_old writer_new) (sym written_last) wrote_all,
                ),
              ),
            );
            ahead = tt;
            at_most = tt;
            wants = λ is. absurd (cc is);
            stopped = λ n is. absurd (cc is);
          }

      finish_stopped : (writer_new : Device) (m n : ℕ)
          → StoppedAt m (last_lines rules width print held) writer writer_new → n ≡ held.written + m
          → Stops rules width print reader_old writer_old reader_new writer_new (f.Write n) 0
      finish_stopped writer_new m n stopped n_is =
          let bytes = s.is_at.decoded ++ take held.waiting held.chunk.items in
          ends_write rules width print reader_old writer_old reader_new writer writer_new AtEnd bytes s.is_at.sent last [] [] m n gave
          (pars_last ∙ sym (append-nil (s.is_at.sent ++ last))) (written_last ∙ sym (append-nil (s.is_at.sent ++ last))) s.is_at.wrote sent_all
          (subst (λ (t : List ℕ). StoppedAt m t writer writer_new) lines_last stopped) (omega (arith, n_is, s.written)) 0

      -- if the sink fails within the lines of the last paragraph, `HasStopped` holds
      finish_failed : (writer_new : Device) (engine_new : Engine) (m n : ℕ)
          → StoppedAt m (last_lines rules width print held) writer writer_new → n ≡ held.written + m
          → Prints (length held.text.items) print engine engine_new
          → HasStopped rules width print reader_old reader_new writer_old writer_new engine_old engine_new n
      unfolding last
      finish_failed writer_new engine_new m n stopped n_is counts =
          let bytes = s.is_at.decoded ++ take held.waiting held.chunk.items in
          let sent = s.is_at.sent in
          let all : length (concat sent) + length held.text.items ≡ length (concat (sent ++ last)) =
          omega (arith, ap length (concat-append sent last), length-append (concat sent) (concat last), last_len held.text.items) in
          stopped_in rules width print reader_old writer_old engine_old reader_new writer writer_new engine_new bytes (consumed_all, passed_all) sent last []
          (pars_last ∙ sym (append-nil (sent ++ last))) (inr (refl, gives.end refl)) s.is_at.wrote m n
          (subst (λ (t : List ℕ). StoppedAt m t writer writer_new) lines_last stopped) (omega (arith, n_is, s.written))
          (subst (λ k. Prints k print engine_old engine_new) all
          (prints_more print engine_old engine engine_new (length (concat sent)) (length held.text.items) s.counts counts))

      -- if memory runs out before the last paragraph is written, the lines of a paragraph are still to be
      -- written, as `WantsMemory` requires
      left_over : (engine_new : Engine) → 0 < length held.text.items → prints_some print ≡ true
          → (k : ℕ) × Wrote (page rules width print (take k (front_paragraphs rules (s.is_at.decoded ++ take held.waiting held.chunk.items)))) writer_old writer
          × (prints_some print ≡ false
          → Prints (length (concat (take k (front_paragraphs rules (s.is_at.decoded ++ take held.waiting held.chunk.items))))) print engine_old engine_new)
          × (0 < length (s.is_at.decoded ++ take held.waiting held.chunk.items)
          → (if is_bad (s.is_at.decoded ++ take held.waiting held.chunk.items) then k + 1 else k)
          < length (front_paragraphs rules (s.is_at.decoded ++ take held.waiting held.chunk.items)))
      unfolding last
      left_over engine_new some prints =
          let sent = s.is_at.sent in
          let filled : (length held.text.items == 0) ≡ false = not_none held.text.items some in
          let one : length last ≡ 1 = ap (λ (b : Bool). length (if b then [] else held.text.items ∷ [])) filled in (
            length sent,
            subst (λ (ps : List (List ℕ)). Wrote (page rules width print ps) writer_old writer)
                (sym (ap (take (length sent)) pars_last ∙ take-append_seam sent last)) s.is_at.wrote,
            λ none. absurd (true≢false (sym prints ∙ none)),
            λ read. left_by (length sent) _ (is_bad (s.is_at.decoded ++ take held.waiting held.chunk.items))
                (omega (arith, ap length pars_last, length-append sent last, one)) (λ bad. absurd (true≢false (sym bad ∙ no_bad held s))),
          )

    module _ (engine_new : Engine) (at_most : PrintsAtMost (length held.text.items) print engine engine_new) where
      has_read : HasRead reader_old reader_new (s.is_at.decoded ++ take held.waiting held.chunk.items)
      has_read = (consumed_all, passed_all)

      no_more_last : PrintsNoMore print reader_old reader_new engine_old engine_new
      no_more_last =
          let waiting = take held.waiting held.chunk.items in
          let few = front_len held s waiting in
          no_more reader_new engine_new (s.is_at.decoded ++ waiting) (length (concat s.is_at.sent) + length held.text.items) has_read
          (at_most_more print engine_old engine engine_new (length (concat s.is_at.sent)) (length held.text.items) _ (counted_now held s) at_most (omega arith)) (omega (arith, few))

      pub ends_finish : (chunk : Vec ℕ Global) (writer_new : Device) (result : Result (Unit {0}) RunFault) → Finishes rules width print (record held { chunk = chunk }) writer writer_new result
          → OnOk result (Prints (length held.text.items) print engine engine_new) → (0 < held.waiting → engine_new ≡ engine)
          → ((n : ℕ) → IsErrOf result (f.Write n) → Prints (length held.text.items) print engine engine_new)
          → Ends rules width print reader_old writer_old engine_old reader_new writer_new engine_new result
      ends_finish chunk writer_new (Ok done) is counts inside failed = finish_done is.0 writer_new engine_new is.1 counts
      ends_finish chunk writer_new (Err (f.NotUtf8 n)) is counts inside failed =
          subst (λ (w : Device). Ends rules width print reader_old writer_old engine_old reader_new w engine_new (Err (f.NotUtf8 n))) (sym is.2)
          (ended reader_new writer engine_new (f.NotUtf8 n) (length (concat s.is_at.sent)) (finish_inside n (omega (arith, is.0, s.waits)) is.1)
          (subst (λ (e : Engine). Prints (length (concat s.is_at.sent)) print engine_old e) (sym (inside is.0)) s.counts) no_more_last (λ same. absurd (cc same)) (λ n same. absurd (cc same)))
      ends_finish chunk writer_new (Err (f.Write n)) is counts inside failed =
          ended reader_new writer_new engine_new (f.Write n) 0 (finish_stopped is.0 writer_new is.1.0 n is.1.2 is.1.1) tt no_more_last (λ same. absurd (cc same))
          (λ k same. finish_failed is.0 writer_new engine_new is.1.0 k is.1.2 (cc (same, is.1.1)) (failed n refl))
      ends_finish chunk writer_new (Err f.Memory) is counts inside failed =
          let next = at_read reader_new (take held.waiting held.chunk.items) held.text.items [] s.is_at s.all_sent
          s.text.short s.beginning.few gives.bytes (omega (arith, gives.passes.passed)) gives.passes.failures
          (omega arith) in
          subst (λ (w : Device). Ends rules width print reader_old writer_old engine_old reader_new w engine_new (Err f.Memory)) (sym is.3)
          (ended reader_new writer engine_new f.Memory 0
          (at_memory rules width print reader_old reader_new writer_old writer (take held.waiting held.chunk.items
          ++ []) held.text.items [] next.0 0) tt no_more_last
          (λ same. (s.is_at.decoded ++ take held.waiting held.chunk.items, has_read, (ap are_within (pars_last is.0) ∙ within_last is.0, left_over is.0 engine_new is.1 is.2)))
          (λ n same. absurd (cc same)))
      ends_finish chunk writer_new (Err f.Read) is counts inside failed = absurd is
      ends_finish chunk writer_new (Err f.ParagraphTooLong) is counts inside failed = absurd is
      ends_finish chunk writer_new (Err (f.BadLine n)) is counts inside failed = absurd is
      ends_finish chunk writer_new (Err f.TextTooLong) is counts inside failed = absurd is

  -- ---- the bytes that were read
  module _ (reader_new : Device) (n : ℕ) (held held_read : Held)
      (s : Stands rules width print reader_old writer_old engine_old reader writer engine held)
      (read : IsRead n held held_read reader reader_new) where
    abbrev bytes_read : List ℕ
    bytes_read = take (held_read.waiting + n) held_read.chunk.items

    parts : bytes_read ≡ take held.waiting held.chunk.items ++ take n read.read.buffer
    parts = ap (λ (h : Held). take (h.waiting + n) held_read.chunk.items) read.same ∙ read.read.chunk

    -- if no bytes were read because the source has ended, the run ends with the result of `finish`
    pub read_nothing : n ≡ 0 → (writer_new : Device) (engine_new : Engine) (result : Result (Unit {0}) RunFault) → Finishes rules width print held_read writer writer_new result
        → OnOk result (Prints (length held_read.text.items) print engine engine_new) → PrintsAtMost (length held_read.text.items) print engine engine_new
        → (0 < held_read.waiting → engine_new ≡ engine)
        → ((n : ℕ) → IsErrOf result (f.Write n) → Prints (length held_read.text.items) print engine engine_new)
        → Ends rules width print reader_old writer_old engine_old reader_new writer_new engine_new result
    read_nothing none writer_new engine_new result is counts at_most inside failed =
        ends_finish reader_new read.read.buffer held s (subst (λ k. Gives reader reader_new k read.read.buffer) none read.read.gives) engine_new
        (subst (λ (h : Held). PrintsAtMost (length h.text.items) print engine engine_new) read.same at_most) held_read.chunk writer_new result
        (subst (λ (h : Held). Finishes rules width print h writer writer_new result) read.same is)
        (subst (λ (h : Held). OnOk result (Prints (length h.text.items) print engine engine_new)) read.same counts)
        (subst (λ (h : Held). 0 < h.waiting → engine_new ≡ engine) read.same inside)
        (subst (λ (h : Held). (n : ℕ) → IsErrOf result (f.Write n) → Prints (length h.text.items) print engine engine_new) read.same failed)

    next_is : (next : IsAt rules width print reader_old reader_new writer_old writer bytes_read held.text.items [])
        × (next.gathered ≡ []) × (next.decoded ≡ s.is_at.decoded) × (next.sent ≡ s.is_at.sent)
    next_is =
        let buffer = read.read.buffer in
        let gives = read.read.gives in
        let len : length (take n buffer) ≡ n = length-take-le n buffer read.read.within in
        let next = at_read reader_new (take held.waiting held.chunk.items) held.text.items (take n buffer) s.is_at
        s.all_sent s.text.short s.beginning.few gives.bytes (omega (arith, len, gives.passes.passed))
        gives.passes.failures (omega (arith, len, read.small, s.room)) in
        subst (λ (t : List ℕ). (next : IsAt rules width print reader_old reader_new writer_old writer t held.text.items
        []) × (next.gathered ≡ []) × (next.decoded ≡ s.is_at.decoded) × (next.sent ≡ s.is_at.sent)) (sym parts) next

    abbrev same : held_read ≡ record held { chunk = held_read.chunk }
    same = read.same

    bytes_len : length bytes_read ≡ held.waiting + n
    bytes_len = omega (arith, ap length parts, length-append (take held.waiting held.chunk.items) (take n read.read.buffer), s.waits, length-take-le n read.read.buffer read.read.within)

    room_is : vec_len held_read.chunk ≡ CHUNK
    room_is = read.room ∙ s.room

    -- bounds on the counters that hold whatever was found in the chunk
    module _ (engine_new : Engine) (at_most : PrintsAtMost (length (held_read.text.items ++ front_of bytes_read)) print engine engine_new) where
      has_read_more : HasRead reader_old reader_new (s.is_at.decoded ++ bytes_read)
      has_read_more = subst (λ (t : List ℕ). HasRead reader_old reader_new (t ++ bytes_read)) next_is.2 (next_is.0.read, next_is.0.passed)

      text_same : held_read.text.items ≡ held.text.items
      text_same = ap (λ (h : Held). h.text.items) same

      no_more_read : PrintsNoMore print reader_old reader_new engine_old engine_new
      no_more_read =
          let n = length (held_read.text.items ++ front_of bytes_read) in
          let len : n ≡ length held.text.items + length (front_of bytes_read) = omega (arith, length-append held_read.text.items (front_of bytes_read), ap length text_same) in
          no_more reader_new engine_new (s.is_at.decoded ++ bytes_read) (length (concat s.is_at.sent) + n) has_read_more
          (at_most_more print engine_old engine engine_new (length (concat s.is_at.sent)) n _ (counted_now held s) at_most (omega arith))
          (omega (arith, len, front_len held s bytes_read))

      pub read_memory : are_within (paragraphs (cut_by rules) (held_read.text.items ++ front_of bytes_read)) ≡ true
          → (is_bad bytes_read ≡ true → 1 < length
          (paragraphs (cut_by rules) (held_read.text.items ++ front_of bytes_read)))
          → 0 < utf8_valid_len bytes_read → (prints_some print ≡ false → engine_new ≡ engine)
          → Ends rules width print reader_old writer_old engine_old reader_new writer engine_new (Err f.Memory)
      read_memory within ended_is some uncounted =
          let sent = s.is_at.sent in
          let text = held.text.items ++ front_of bytes_read in
          let pars : front_paragraphs rules (s.is_at.decoded ++ bytes_read) ≡ sent ++ paragraphs (cut_by rules) text =
          pars_sent rules width print reader_old reader writer_old writer (take held.waiting held.chunk.items) held.text.items [] s.is_at s.all_sent bytes_read in
          let sent_is : are_within sent ≡ true = sent_within rules width print reader_old reader writer_old writer (take held.waiting held.chunk.items) held.text.items [] s.is_at s.all_sent in
          let all : length (front_paragraphs rules (s.is_at.decoded ++ bytes_read)) ≡ length sent + length (paragraphs (cut_by rules) text) =
          omega (arith, ap length pars, length-append sent (paragraphs (cut_by rules) text)) in
          let first : sent ≡ take (length sent) (front_paragraphs rules (s.is_at.decoded ++ bytes_read)) =
          sym (ap (take (length sent)) pars ∙ take-append_seam sent (paragraphs (cut_by rules) text)) in
          let less : length sent < length (front_paragraphs rules (s.is_at.decoded ++ bytes_read)) =
          omega (arith, all, pars_some (cut_by rules) text (omega (arith, length-append held.text.items (front_of bytes_read), front_some bytes_read some))) in
          ended reader_new writer engine_new f.Memory 0 (at_memory rules width print reader_old reader_new writer_old writer bytes_read held.text.items [] next_is.0 0) tt no_more_read
          (λ is. (
            s.is_at.decoded ++ bytes_read,
            has_read_more,
            (
              ap are_within pars ∙ within_more sent (paragraphs (cut_by rules) text) sent_is ∙ ap (λ t. are_within (paragraphs (cut_by rules) (t ++ front_of bytes_read))) (sym text_same) ∙ within,
              (
                length sent,
                subst (λ (ps : List (List ℕ)). Wrote (page rules width print ps) writer_old writer) first s.is_at.wrote,
                λ none. subst (λ (e : Engine). Prints (length (concat (take (length sent) (front_paragraphs rules (s.is_at.decoded ++ bytes_read))))) print engine_old e)
                    (sym (uncounted none))
                    (subst (λ (ps : List (List ℕ)). Prints (length (concat ps)) print engine_old engine) first s.counts),
                λ read. left_by (length sent) _ (is_bad (s.is_at.decoded ++ bytes_read)) less (λ bad. omega (
                  arith,
                  ended_is (sym (is_bad-after s.is_at.decoded bytes_read s.is_at.utf8) ∙ bad),
                  all,
                  ap (λ t. length (paragraphs (cut_by rules) (t ++ front_of bytes_read))) text_same,
                )),
              ),
            ),
          ))
          (λ n is. absurd (cc is))

    abbrev left : List ℕ
    left = drop (utf8_valid_len bytes_read) bytes_read

    -- the bytes after the longest valid UTF-8 prefix do not begin with a complete character
    left_none : utf8_valid_len left ≡ 0
    left_none =
        let v = utf8_valid_len bytes_read in
        let parts = utf8_valid_len-after (take v bytes_read) left (utf8_front bytes_read) in
        let whole = ap utf8_valid_len (take-append-drop v bytes_read) in
        omega (arith, parts, whole, length-take-le v bytes_read (utf8_valid_len_le bytes_read))

    -- `IsAt` holds after the valid UTF-8 prefix is decoded and the lines of some paragraphs are gathered
    decoded_is : (pars : List (List ℕ)) (text_new lines_new : List ℕ) → IsFront (cut_by rules) pars (held.text.items ++ front_of bytes_read) text_new → lines_new ≡ page rules width print pars
        → (next : IsAt rules width print reader_old reader_new writer_old writer left text_new lines_new)
        × (length next.decoded ≡ length s.is_at.decoded + utf8_valid_len bytes_read) × (next.sent ≡ s.is_at.sent) × (next.gathered ≡ pars)
    decoded_is pars text_new lines_new new_front lines_are =
        let at = next_is.0 in
        let v = utf8_valid_len bytes_read in
        let decoded = at.decoded ++ take v bytes_read in
        let bytes_are : decoded ++ left ≡ at.decoded ++ bytes_read = append_assoc at.decoded (take v bytes_read) left ∙ ap (λ t. at.decoded ++ t) (take-append-drop v bytes_read) in
        let sent_is : at.sent ++ at.gathered ≡ at.sent = ap (λ ps. at.sent ++ ps) next_is.1 ∙ append-nil at.sent in
        let old_front = front_more (cut_by rules) (at.sent ++ at.gathered) (chars at.decoded) held.text.items (front_of bytes_read) at.front in
        let joined = front_join (cut_by rules) (at.sent ++ at.gathered) pars (chars at.decoded ++ front_of bytes_read) (held.text.items ++ front_of bytes_read) text_new old_front new_front in
        let front : IsFront (cut_by rules) (at.sent ++ pars) (chars decoded) text_new =
        subst (λ (t : List ℕ). IsFront (cut_by rules) (at.sent ++ pars) t text_new) (sym (chars-append at.decoded (take v bytes_read) at.utf8))
        (subst (λ (ps : List (List ℕ)). IsFront (cut_by rules) (ps ++ pars) (chars at.decoded ++ front_of bytes_read) text_new) sent_is joined) in (
          record {
            decoded = decoded;
            sent = at.sent;
            gathered = pars;
            read = subst (Consumes reader_old.bytes reader_new.bytes) (sym bytes_are) at.read;
            passed = at.passed ∙ ap (λ t. reader_old.passed + length t) (sym bytes_are);
            failures = at.failures;
            utf8 = IsUtf8-append at.decoded (take v bytes_read) at.utf8 (utf8_front bytes_read);
            front = front;
            wrote = at.wrote;
            lines_are = lines_are;
            ahead = at.ahead;
          },
          omega (arith, length-append at.decoded (take v bytes_read), length-take-le v bytes_read (utf8_valid_len_le bytes_read), ap length next_is.2),
          next_is.3,
          refl,
        )

    no_lines : held_read.page.bytes.items ≡ []
    no_lines = ap (λ (h : Held). h.page.bytes.items) same ∙ s.lines

    -- if the bytes after the valid UTF-8 prefix are invalid, the run ends with `NotUtf8`
    ends_bad : (writer_new : Device) (text_new : List ℕ)
        (at : IsAt rules width print reader_old reader_new writer_old writer_new left text_new []) → at.gathered ≡ []
        → (place : ℕ) → length at.decoded ≡ place
        → IsOpen (cut_by rules) text_new → is_bad bytes_read ≡ true
        → Stops rules width print reader_old writer_old reader_new writer_new (f.NotUtf8 place) (length (concat at.sent))
    ends_bad writer_new text_new at sent place place_is is_open bad =
        let rest = unwrap_or reader_new.bytes [] in
        let after = left ++ rest in
        let none : utf8_valid_len after ≡ 0 = bad_stays left rest left_none bad in
        let some : 0 < length left = some_bad left bad in
        let valid : utf8_valid_len (at.decoded ++ after) ≡ length at.decoded + utf8_valid_len after = utf8_valid_len-after at.decoded after at.utf8 in
        let here : utf8_valid_len (at.decoded ++ after) ≡ place = omega (arith, valid, none, place_is) in
        let less : utf8_valid_len (at.decoded ++ after) < length (at.decoded ++ after) = omega (arith, valid, none, some, length-append at.decoded after, length-append left rest) in
        at_fault rules width print reader_old reader_new writer_old writer_new left text_new [] at sent reader_new AtEnd after (f.NotUtf8 place)
        (gave_all rules width print reader_old reader_new writer_old writer_new left text_new [] at)
        (sent_ahead rules width print reader_old reader_new writer_old writer_new left text_new [] at) is_open none
        (ap (λ (b : Bool). if b then None else Some (f.NotUtf8 (utf8_valid_len (at.decoded ++ after))))
        (not_all (utf8_valid_len (at.decoded ++ after)) (length (at.decoded ++ after)) less)
        ∙ ap (λ k. Some (f.NotUtf8 k)) here)
        (λ written wrong is wrote. (is, wrote))

    -- a fault was found before the first paragraph ends, so no more lines are written
    module _ (held_new : Held) (engine_new : Engine) (fault : Option RunFault) (l : FindsFault rules bytes_read held_read held_new engine engine_new fault) where
      abbrev text_ahead : List ℕ
      text_ahead = held.text.items ++ front_of bytes_read

      found_at : (next : IsAt rules width print reader_old reader_new writer_old writer left text_ahead [])
          × (length next.decoded ≡ length s.is_at.decoded + utf8_valid_len bytes_read) × (next.sent ≡ s.is_at.sent) × (next.gathered ≡ [])
      found_at = decoded_is [] text_ahead [] (front_none (cut_by rules) text_ahead) refl

      page_is : held_new.page.bytes.items ≡ []
      page_is = ap (λ (h : Held). h.page.bytes.items) l.same ∙ no_lines

      -- the page is empty, so writing it cannot fail
      found_none : (writer_new : Device) (wrong : RunFault) → StopsWriting held_new wrong writer writer_new → ⊥
      found_none writer_new wrong stops = omega (arith, stops.2.0, ap length page_is)

      found_stopped : (writer_new : Device) (wrong : RunFault) → StopsWriting held_new wrong writer writer_new → Stops rules width print reader_old writer_old reader_new writer_new wrong 0
      found_stopped writer_new wrong stops =
          let at = found_at.0 in
          let count : held_new.written + stops.0 ≡ length (page rules width print at.sent) + stops.0 =
          omega (arith, ap (λ (h : Held). h.written) l.same, ap (λ (h : Held). h.written) same, s.written, ap (λ ps. length (page rules width print ps)) found_at.2) in
          subst (λ (w : RunFault). Stops rules width print reader_old writer_old reader_new writer_new w 0) (sym stops.1)
          (at_write rules width print reader_old reader_new writer_old writer left text_ahead [] at writer_new stops.0 (held_new.written + stops.0)
          (subst (λ (t : List ℕ). StoppedAt stops.0 t writer writer_new) page_is stops.2) count 0)

      module _ (writer_new : Device) (held_last : Held) (writes : Writes held_new held_last writer writer_new) where
        found_written : (next : IsAt rules width print reader_old reader_new writer_old writer_new left text_ahead [])
            × (next.gathered ≡ []) × (next.decoded ≡ found_at.0.decoded)
            × (next.sent ≡ found_at.0.sent ++ found_at.0.gathered)
        found_written = at_written rules width print reader_old reader_new writer_old writer left text_ahead [] found_at.0 writer_new
            (subst (λ (t : List ℕ). Wrote t writer writer_new) page_is writes.wrote)

        found_ends : (wrong : RunFault)
            → IsFaultAhead (cut_by rules) text_ahead (is_bad bytes_read) (held.decoded + utf8_valid_len bytes_read)
            wrong → Stops rules width print reader_old writer_old reader_new writer_new wrong (length (concat found_written.0.sent))
        found_ends f.ParagraphTooLong long =
            at_long rules width print reader_old reader_new writer_old writer_new left text_ahead [] found_written.0 found_written.1 long
        found_ends (f.NotUtf8 n) is =
            ends_bad writer_new text_ahead found_written.0 found_written.1 n (omega (arith, ap length found_written.2, found_at.1, s.decoded, is.2)) is.0 is.1
        found_ends f.Read is = absurd is
        found_ends (f.Write n) is = absurd is
        found_ends (f.BadLine n) is = absurd is
        found_ends f.Memory is = absurd is
        found_ends f.TextTooLong is = absurd is

        -- no further paragraph was written, and no further character was counted
        found_sent : length (concat found_written.0.sent) ≡ length (concat s.is_at.sent)
        found_sent =
            let sent : found_written.0.sent ≡ s.is_at.sent = found_written.3 ∙ ap₂ (λ x y. x ++ y) found_at.2 found_at.3 ∙ append-nil s.is_at.sent in
            ap (λ ps. length (concat ps)) sent

        found_counts : (wrong : RunFault) → HasPrinted (Some wrong) (length (concat s.is_at.sent)) print engine_old engine_new
        found_counts wrong =
            printed_as wrong (length (concat s.is_at.sent)) print engine_old engine_new
            (subst (λ (e : Engine). Prints (length (concat s.is_at.sent)) print engine_old e) (sym l.engine) s.counts)

        found_fault : (wrong : RunFault) → fault ≡ Some wrong → Stops rules width print reader_old writer_old reader_new writer_new wrong (length (concat s.is_at.sent))
        found_fault wrong is =
            let wrong_is : l.wrong ≡ wrong = cc (is, l.fault_is) in
            subst (λ (w : RunFault). Stops rules width print reader_old writer_old reader_new writer_new w (length (concat s.is_at.sent))) wrong_is
            (subst (λ n. Stops rules width print reader_old writer_old reader_new writer_new l.wrong n) found_sent
            (found_ends l.wrong (subst (λ (h : Held). IsFaultAhead (cut_by rules) (h.text.items
            ++ front_of bytes_read) (is_bad bytes_read) (h.decoded + utf8_valid_len bytes_read) l.wrong) same
            l.ahead)))

      found_goes_on : fault ≡ None → ⊥
      found_goes_on is = cc (is, l.fault_is)

    module _ (held_new : Held) (engine_new : Engine) (fault : Option RunFault) (g : Gathers rules width print bytes_read held_read held_new engine engine_new fault) where
      gathered_is : (next : IsAt rules width print reader_old reader_new writer_old writer left held_new.text.items held_new.page.bytes.items)
          × (length next.decoded ≡ held_new.decoded) × (next.sent ≡ s.is_at.sent) × (next.gathered ≡ g.pushed.pars)
      gathered_is =
          let text_is : held_read.text.items ≡ held.text.items = ap (λ (h : Held). h.text.items) same in
          let new_front : IsFront (cut_by rules) g.pushed.pars (held.text.items ++ front_of bytes_read) held_new.text.items =
          subst (λ (t : List ℕ). IsFront (cut_by rules) g.pushed.pars (t ++ front_of bytes_read) held_new.text.items) text_is g.pushed.front in
          let next = decoded_is g.pushed.pars held_new.text.items held_new.page.bytes.items new_front (g.pushed.lines ∙ ap (λ t. t ++ page rules width print g.pushed.pars) no_lines) in
          (next.0, omega (arith, next.1, g.decoded, ap (λ (h : Held). h.decoded) same, s.decoded), next.2, next.3)

      gathers_stopped : (writer_new : Device) (wrong : RunFault) → StopsWriting held_new wrong writer writer_new → Stops rules width print reader_old writer_old reader_new writer_new wrong 0
      gathers_stopped writer_new wrong stops =
          let at = gathered_is.0 in
          let lines_sent : page rules width print at.sent ≡ page rules width print s.is_at.sent = ap (page rules width print) gathered_is.2 in
          let count : held_new.written + stops.0 ≡ length (page rules width print at.sent) + stops.0 = omega (arith, g.written, ap (λ (h : Held). h.written) same, s.written, ap length lines_sent) in
          subst (λ (w : RunFault). Stops rules width print reader_old writer_old reader_new writer_new w 0) (sym stops.1)
          (at_write rules width print reader_old reader_new writer_old writer left held_new.text.items held_new.page.bytes.items at writer_new stops.0 (held_new.written + stops.0) stops.2 count 0)

      gathered_counts : Prints (length (concat (gathered_is.0.sent ++ gathered_is.0.gathered))) print engine_old engine_new
      gathered_counts =
          subst (λ n. Prints n print engine_old engine_new)
          (omega (
            arith,
            ap (λ ps. length (concat ps)) (ap₂ (λ x y. x ++ y) gathered_is.2 gathered_is.3),
            ap length
                (concat-append s.is_at.sent g.pushed.pars),
            length-append (concat s.is_at.sent) (concat g.pushed.pars),
          ))
          (prints_more print engine_old engine engine_new (length (concat s.is_at.sent)) (length (concat g.pushed.pars)) s.counts g.pushed.counts)

      gathers_failed : (writer_new : Device) (wrong : RunFault) → StopsWriting held_new wrong writer writer_new → (n : ℕ) → wrong ≡ f.Write n
          → HasStopped rules width print reader_old reader_new writer_old writer_new engine_old engine_new n
      gathers_failed writer_new wrong stops n is =
          let at = gathered_is.0 in
          let lines_sent : page rules width print at.sent ≡ page rules width print s.is_at.sent = ap (page rules width print) gathered_is.2 in
          let count : held_new.written + stops.0 ≡ n = cc (is, stops.1) in
          let none : front_of left ≡ [] = ap (λ k. chars (take k left)) left_none ∙ chars-nil in
          let lines_are : held_new.page.bytes.items ≡ page rules width print at.gathered = at.lines_are in
          let some : 0 < length held_new.text.items =
          ⊎_elim (λ empty. absurd (omega (arith, stops.2.0, ap length (lines_are ∙ ap (page rules width print) (append_end at.sent at.gathered empty))))) (λ more. more)
          (gone_on (cut_by rules) (at.sent ++ at.gathered) (chars at.decoded) held_new.text.items at.front) in
          let text_is : held_new.text.items ++ front_of left ≡ held_new.text.items = ap (λ t. held_new.text.items ++ t) none ∙ append-nil held_new.text.items in
          stopped_in rules width print reader_old writer_old engine_old reader_new writer writer_new engine_new (at.decoded ++ left) (at.read, at.passed) at.sent at.gathered (paragraphs (cut_by rules) held_new.text.items)
          (pars_are rules width print reader_old reader_new writer_old writer left held_new.text.items held_new.page.bytes.items at left
          ∙ ap (λ t. (at.sent ++ at.gathered) ++ paragraphs (cut_by rules) t) text_is)
          (inl (one_par rules held_new.text.items g.pushed.left some)) at.wrote stops.0 n
          (subst (λ (t : List ℕ). StoppedAt stops.0 t writer writer_new) at.lines_are stops.2)
          (omega (arith, count, g.written, ap (λ (h : Held). h.written) same, s.written, ap length lines_sent))
          gathered_counts

      module _ (writer_new : Device) (held_last : Held) (writes : Writes held_new held_last writer writer_new) where
        written_is : (next : IsAt rules width print reader_old reader_new writer_old writer_new left
            held_new.text.items []) × (next.gathered ≡ []) × (next.decoded ≡ gathered_is.0.decoded)
            × (next.sent ≡ gathered_is.0.sent ++ gathered_is.0.gathered)
        written_is = at_written rules width print reader_old reader_new writer_old writer left held_new.text.items held_new.page.bytes.items gathered_is.0 writer_new writes.wrote

        written_counts : Prints (length (concat written_is.0.sent)) print engine_old engine_new
        written_counts = subst (λ (ps : List (List ℕ)). Prints (length (concat ps)) print engine_old engine_new) (sym written_is.3) gathered_counts

        stands_on : IsOpen (cut_by rules) held_new.text.items → is_bad bytes_read ≡ false → Stands rules width print reader_old writer_old engine_old reader_new writer_new engine_new held_last
        stands_on is_open good =
            let at = written_is.0 in
            let last = writes.rest in
            let waiting : take held_last.waiting held_last.chunk.items ≡ left = ap (λ (h : Held). take h.waiting h.chunk.items) last ∙ g.waiting in
            let text : held_last.text.items ≡ held_new.text.items = ap (λ (h : Held). h.text.items) last in
            let left_len : length left + utf8_valid_len bytes_read ≡ length bytes_read = omega (arith, length-drop (utf8_valid_len bytes_read) bytes_read, utf8_valid_len_le bytes_read) in
            let pages : page rules width print at.sent ≡ page rules width print s.is_at.sent ++ page rules width print g.pushed.pars =
            ap (page rules width print) (written_is.3 ∙ ap₂ (λ x y. x ++ y) gathered_is.2 gathered_is.3) ∙ flat_map-append (paragraph_bytes rules width print) s.is_at.sent g.pushed.pars in
            let lines_new : held_new.page.bytes.items ≡ page rules width print g.pushed.pars = gathered_is.0.lines_are ∙ ap (page rules width print) gathered_is.3 in
            stands_by rules width print reader_old writer_old engine_old reader_new writer_new engine_new held_last left held_new.text.items (
              at,
              written_is.1,
              omega (arith, ap (λ (h : Held). h.decoded) last, gathered_is.1, ap length written_is.2),
              omega (
                arith,
                ap (λ (h : Held). h.written) last,
                g.written,
                ap (λ (h : Held). h.written) same,
                s.written,
                ap length lines_new,
                ap length pages,
                length-append (page rules width print s.is_at.sent)
                    (page rules width print g.pushed.pars),
              ),
              is_open,
              record { none = left_none; fault = not_bad left good; few = omega (arith, left_len, g.beginning good) },
              written_counts,
            )
            s.fits waiting text writes.empty (ap (λ (h : Held). vec_len h.chunk) last ∙ g.room ∙ room_is)
            (omega (arith, ap length waiting, left_len, g.few, ap (λ (h : Held). h.waiting) last, bytes_len))

        gathers_fault : (wrong : RunFault) → fault ≡ Some wrong
            → Stops rules width print reader_old writer_old reader_new writer_new wrong (length (concat written_is.0.sent))
        gathers_fault wrong is = go (is_bad bytes_read) refl (sym is ∙ g.fault_is)
          where
            go : (b : Bool) → is_bad bytes_read ≡ b → Some wrong ≡ (if b then Some (f.NotUtf8 held_new.decoded) else None)
                → Stops rules width print reader_old writer_old reader_new writer_new wrong (length (concat written_is.0.sent))
            go true bad same_fault =
                let wrong_is : f.NotUtf8 held_new.decoded ≡ wrong = cc in
                subst (λ (w : RunFault). Stops rules width print reader_old writer_old reader_new writer_new w (length (concat written_is.0.sent))) wrong_is
                (ends_bad writer_new held_new.text.items written_is.0 written_is.1 held_new.decoded (omega (arith, ap length written_is.2, gathered_is.1)) g.pushed.left bad)
            go false good same_fault = absurd cc

        gathers_on : fault ≡ None → Stands rules width print reader_old writer_old engine_old reader_new writer_new engine_new held_last
        gathers_on is = go (is_bad bytes_read) refl (sym is ∙ g.fault_is)
          where
            go : (b : Bool) → is_bad bytes_read ≡ b → None ≡ (if b then Some (f.NotUtf8 held_new.decoded) else None)
                → Stands rules width print reader_old writer_old engine_old reader_new writer_new engine_new held_last
            go true bad same_fault = absurd cc
            go false good same_fault = stands_on g.pushed.left good

    -- a step that found a fault or gathered lines
    module _ (held_new : Held) (engine_new : Engine) (fault : Option RunFault) where
      abbrev Found : Type 0
      Found = FindsFault rules bytes_read held_read held_new engine engine_new fault ⊎ Gathers rules width print bytes_read held_read held_new engine engine_new fault

      pub read_stopped : PrintsAtMost (length (held_read.text.items ++ front_of bytes_read)) print engine engine_new
          → Found → (writer_new : Device) (wrong : RunFault) → StopsWriting held_new wrong writer writer_new
          → Ends rules width print reader_old writer_old engine_old reader_new writer_new engine_new (Err wrong)
      read_stopped at_most found writer_new wrong stops =
          ended reader_new writer_new engine_new wrong 0
          (⊎_elim (λ l. found_stopped held_new engine_new fault l writer_new wrong stops) (λ g. gathers_stopped held_new engine_new fault g writer_new wrong stops) found)
          (subst (λ (w : RunFault). HasPrinted (Some w) 0 print engine_old engine_new) (sym stops.1) tt)
          (no_more_read engine_new at_most) (λ is. absurd (cc (is, stops.1)))
          (λ n is. ⊎_elim (λ l. absurd (found_none held_new engine_new fault l writer_new wrong stops)) (λ g. gathers_failed held_new engine_new fault g writer_new wrong stops n is) found)

      -- if the sink failed, exactly the paragraphs of the page were printed
      pub read_failed : Found → (writer_new : Device) (wrong : RunFault) → StopsWriting held_new wrong writer writer_new → StopsAfter rules print held reader reader_new engine engine_new
      read_failed (inl l) writer_new wrong stops = absurd (found_none held_new engine_new fault l writer_new wrong stops)
      read_failed (inr g) writer_new wrong stops =
          let more = take n read.read.buffer in
          let waiting = take held.waiting held.chunk.items in
          let front_same : held_read.text.items ++ front_of bytes_read ≡ held.text.items ++ front_of (waiting ++ more) =
          ap₂ (λ t b. t ++ front_of b) (ap (λ (h : Held). h.text.items) same) parts in
          record {
            more = more;
            read = (read.read.gives.bytes, omega (arith, read.read.gives.passes.passed, length-take-le n read.read.buffer read.read.within));
            pars = g.pushed.pars;
            rest = held_new.text.items;
            front = subst (λ (t : List ℕ). IsFront (cut_by rules) g.pushed.pars t held_new.text.items) front_same g.pushed.front;
            left = g.pushed.left;
            counts = g.pushed.counts;
          }

      pub read_fault : PrintsAtMost (length (held_read.text.items ++ front_of bytes_read)) print engine engine_new
          → Found → (writer_new : Device) (held_last : Held) → Writes held_new held_last writer writer_new
          → (wrong : RunFault) → fault ≡ Some wrong → Ends rules width print reader_old writer_old engine_old reader_new writer_new engine_new (Err wrong)
      read_fault at_most found writer_new held_last writes wrong is =
          let never : (n : ℕ) → wrong ≡ f.Write n → ⊥ = no_write rules width print bytes_read held_read held_new engine engine_new fault wrong found is in
          let none : wrong ≡ f.Memory → ⊥ = λ memory. no_memory rules width print bytes_read held_read held_new engine engine_new fault wrong found is memory in
          ⊎_elim
          (λ l. ended reader_new writer_new engine_new wrong (length (concat s.is_at.sent)) (found_fault held_new engine_new fault l writer_new held_last writes wrong is)
          (found_counts held_new engine_new fault l writer_new held_last writes wrong) (no_more_read engine_new at_most) (λ memory. absurd (none memory)) (λ n same. absurd (never n same)))
          (λ g. ended reader_new writer_new engine_new wrong (length (concat (written_is held_new engine_new fault g writer_new held_last writes).0.sent))
          (gathers_fault held_new engine_new fault g writer_new held_last writes wrong is)
          (printed_as wrong _ print engine_old engine_new (written_counts held_new engine_new fault g writer_new held_last writes))
          (no_more_read engine_new at_most) (λ memory. absurd (none memory)) (λ n same. absurd (never n same)))
          found

      pub read_on : Found → (writer_new : Device) (held_last : Held) → Writes held_new held_last writer writer_new
          → fault ≡ None → Stands rules width print reader_old writer_old engine_old reader_new writer_new engine_new
          held_last
      read_on (inl l) writer_new held_last writes is = absurd (found_goes_on held_new engine_new fault l is)
      read_on (inr g) writer_new held_last writes is = gathers_on held_new engine_new fault g writer_new held_last writes is
