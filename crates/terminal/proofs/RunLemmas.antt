-- One step of `run`. Its contract follows from the results of the calls that it makes.
use Rattle.std.proofs.Common.{◌≡◌, ℕ, ◌+◌, ◌<◌, ◌≤◌, nat_lt, Bool, true, false, List, [], ◌∷◌, ◌++◌, length, take, min, Option, Some, None, Result, Ok, Err, vec_len, ◌&&◌, ◌||◌, drop, take_at, if◌then◌else◌, refl, sym, subst, ap, ap₂, inl, inr, ◌∙◌, append_assoc, arith}
use Rattle.std.specs.List.{concat}
use Rattle.std.specs.Io.KnownBytes.{Consumes, IsAtEnd}
use Rattle.std.specs.Prelude.{IsUtf8}
use Rattle.std.specs.Str.Lossy.{utf8_valid_len}
use Rattle.std.proofs.lemmas.Bool.{and_parts, cases_Bool, lt-ltb}
use Rattle.std.proofs.lemmas.List.{append-nil, length-append, take-append-drop}
use Rattle.std.proofs.lemmas.List.Folds.{concat-append}
use Rattle.std.proofs.Math.Seq.{take-append-add}
use Rattle.device.specs.Device.{Device, Fails, StoppedAt, Took, Wrote, greatest}
use Rattle.lines.specs.Layouts.{Rules, cut_by}
use Rattle.sequences.specs.Scanners.{pen_of}
use Rattle.sequences.specs.Styled.{Pen, START}
use Rattle.stream.specs.declared.reading.TheConstants.{CHUNK}
use Rattle.terminal.specs.Decoding.{IsBeginning, IsValidText, good_part, pictures, text_after}
use Rattle.terminal.specs.Newlines.{output_page, text_output}
use Rattle.terminal.specs.Passed.{HasPassed}
use Rattle.terminal.specs.Run.{ArePermitted, BeginsWith, EndsTooLong, HasRead, IsRun, IsTooLong, WritesFirst, are_within, blocks_page, have_over}
use Rattle.terminal.specs.RunState.{AddsLast, Finishes, IsAt, IsFed, IsFront, IsValidSoFar, Stands, Steps, last_characters, pages, pen_after_blocks}
use Rattle.sequences.specs.StyledTexts.{styled_of}
use Rattle.std.proofs.lemmas.Str.{IsUtf8-append}
use Rattle.stream.proofs.Utf8Lemmas.{is_bad-after, nothing_bad, nothing_valid, take-valid-after, utf8_front, utf8_valid_len-after}
use Rattle.stream.specs.Utf8.{is_bad}
use Rattle.terminal.specs.Ends.{AreNoEnds, IsLeft, IsOpen}
use Rattle.terminal.specs.Texts.{blocks, decoded, input_page, input_text, text_page, without_mark}
use Rattle.terminal.specs.declared.faults.Fault.{Fault}
use Rattle.terminal.specs.declared.faults.Fault.TheVariants as f
use Rattle.terminal.specs.declared.form.Escapes.{Escapes}
use Rattle.terminal.specs.declared.form.Escapes.TheVariants.{Keep, Strip, Text}
use Rattle.terminal.specs.declared.form.Form.{Form}
use Rattle.terminal.specs.declared.input.Held.{Held}
use Rattle.terminal.specs.declared.output.Output.{Output}
use Rattle.terminal.proofs.LossyLemmas.{good_front, good_whole, lossy_beginning, lossy_none}
use Rattle.terminal.proofs.OutputLemmas.{output_after}
use Rattle.terminal.proofs.PushLemmas.{over-append, pages-append, pen-append, permit_join, within-append}
use Rattle.terminal.proofs.Devices.{Consumes-append, Consumes-kept, FailedLast-after, Took-append, Took-nothing, Wrote-append}

-- ---- valid UTF-8

-- `IsValidSoFar` still holds after one more chunk has been decoded
valid_more : (escapes : Escapes) (bytes chunk waiting waiting_new text characters text_new : List ℕ) (started started_new : Bool) → IsValidSoFar escapes bytes waiting text started
    → IsValidText escapes (waiting ++ chunk) waiting_new characters started started_new → text_new ≡ text ++ characters → IsValidSoFar escapes (bytes ++ chunk) waiting_new text_new started_new
valid_more escapes bytes chunk waiting waiting_new text characters text_new started started_new s t e =
    let both = waiting ++ chunk in
    let v = utf8_valid_len both in
    record {
      front = s.front ++ take v both;
      whole = ap (λ x. x ++ chunk) s.whole ∙ append_assoc s.front waiting chunk ∙ ap (λ x. s.front ++ x) (sym (take-append-drop v both))
          ∙ sym (append_assoc s.front (take v both) (drop v both)) ∙ ap (λ x. (s.front ++ take v both) ++ x) (sym t.rest);
      utf8 = IsUtf8-append s.front (take v both) s.utf8 (utf8_front both);
      decoded = λ more.
          ap (input_text escapes) (append_assoc s.front (take v both) more) ∙ s.decoded (take v both ++ more) ∙ ap (λ x. text ++ x) (t.text more)
          ∙ sym (append_assoc text characters (text_after escapes started_new more)) ∙ ap (λ x. x ++ text_after escapes started_new more) (sym e);
    }

-- if the form is strict, invalid UTF-8 can only be in the waiting bytes and the chunk after them
pub same_bad : (strict : Bool) (escapes : Escapes) (bytes chunk waiting text : List ℕ) (started : Bool) → (strict ≡ true → IsValidSoFar escapes bytes waiting text started)
    → (strict && is_bad (bytes ++ chunk)) ≡ (strict && is_bad (waiting ++ chunk))
same_bad false escapes bytes chunk waiting text started valid = refl
same_bad true escapes bytes chunk waiting text started valid =
    let s = valid refl in
    ap is_bad (ap (λ x. x ++ chunk) s.whole ∙ append_assoc s.front waiting chunk) ∙ is_bad-after s.front (waiting ++ chunk) s.utf8

-- ---- the end of an input

pub input_is : (escapes : Escapes) (bytes : List ℕ) → input_text escapes bytes ≡ text_after escapes false bytes
input_is Keep bytes = refl
input_is Strip bytes = refl
input_is Text bytes = refl

end_none : (escapes : Escapes) (started : Bool) → text_after escapes started [] ≡ []
end_none escapes started = ap (λ t. pictures escapes (if started then t else without_mark t)) lossy_none ∙ by_mode escapes started
  where
    by_mode : (escapes : Escapes) (started : Bool) → pictures escapes (if started then [] else []) ≡ []
    by_mode Keep true = refl
    by_mode Keep false = refl
    by_mode Strip true = refl
    by_mode Strip false = refl
    by_mode Text true = refl
    by_mode Text false = refl

end_some : (escapes : Escapes) (started : Bool) (waiting : List ℕ) → 0 < length waiting → IsBeginning waiting → text_after escapes started waiting ≡ 0xFFFD ∷ []
end_some escapes started waiting some b =
    ap (λ t. pictures escapes (if started then t else without_mark t)) (lossy_beginning waiting some b.none b.fault) ∙ by_mode escapes started
  where
    by_mode : (escapes : Escapes) (started : Bool) → pictures escapes (if started then 0xFFFD ∷ [] else without_mark (0xFFFD ∷ [])) ≡ 0xFFFD ∷ []
    by_mode Keep true = refl
    by_mode Keep false = refl
    by_mode Strip true = refl
    by_mode Strip false = refl
    by_mode Text true = refl
    by_mode Text false = refl

-- at the end, the waiting bytes are decoded as one U+FFFD
pub end_text : (escapes : Escapes) (started : Bool) (waiting : List ℕ) (n : ℕ) → length waiting ≡ n → IsBeginning waiting → text_after escapes started waiting ≡ last_characters n
end_text escapes started [] n len b = end_none escapes started ∙ ap last_characters len
end_text escapes started (x ∷ waiting) n len b =
    end_some escapes started (x ∷ waiting) (omega arith) b
    ∙ sym (ap (λ (b : Bool). if b then 0xFFFD ∷ [] else []) (lt-ltb 0 n (omega (arith, len))))

pub end_few : (n : ℕ) → length (last_characters n) ≤ 1
end_few n = by_test (nat_lt 0 n)
  where
    by_test : (b : Bool) → length {A = ℕ} (if b then 0xFFFD ∷ [] else []) ≤ 1
    by_test true = omega arith
    by_test false = omega arith

module _ (rules : Rules) (form : Form) (bytes : List ℕ) (sent : List (List ℕ)) (waiting text : List ℕ) (started : Bool)
    (fed : IsFed rules form bytes sent waiting text started) where
  -- `BeginsWith` holds for the blocks that were sent and the text that is left
  pub fed_begins : BeginsWith rules form bytes sent text
  fed_begins = record {
    text = record {
      after = λ more. text_after form.escapes started (waiting ++ more);
      begins = fed.decoded;
      few = omega (
        arith,
        end_few (length waiting),
        ap length (ap (text_after form.escapes started) (append-nil waiting) ∙ end_text form.escapes started waiting (length waiting) refl fed.beginning),
      );
    };
    blocks = fed.cuts;
    permitted = fed.permitted;
  }

  -- if nothing follows, the blocks of the whole text are those that were sent and those of the rest
  pub fed_blocks : (n : ℕ) → length waiting ≡ n → blocks (cut_by rules) (input_text form.escapes bytes) ≡ sent ++ blocks (cut_by rules) (text ++ last_characters n)
  fed_blocks n len =
      let all : input_text form.escapes bytes ≡ (concat sent ++ text) ++ last_characters n =
      ap (input_text form.escapes) (sym (append-nil bytes)) ∙ fed.decoded []
      ∙ ap (λ t. (concat sent ++ text) ++ t) (ap (text_after form.escapes started) (append-nil waiting) ∙ end_text form.escapes started waiting n len fed.beginning) in
      ap (blocks (cut_by rules)) all ∙ fed.cuts (last_characters n)

  -- the page of the whole input is that of the sent blocks, followed by that of the remaining text
  pub fed_page : (n : ℕ) (pen : Pen) → length waiting ≡ n → pen ≡ pen_after_blocks START sent
      → input_page rules form bytes ≡ blocks_page rules form sent ++ text_page rules form pen (text ++ last_characters n)
  fed_page n pen len pen_is =
      ap (pages rules form START) (fed_blocks n len) ∙ pages-append rules form START sent (blocks (cut_by rules) (text ++ last_characters n))
      ∙ ap (λ (q : Pen). blocks_page rules form sent ++ text_page rules form q (text ++ last_characters n)) (sym pen_is)

  -- `IsFed` also holds for the bytes before the waiting ones
  pub fed_front : (v : IsValidSoFar form.escapes bytes waiting (concat sent ++ text) started) → IsFed rules form v.front sent [] text started
  fed_front v = record {
    decoded = v.decoded;
    beginning = record { none = nothing_valid [] refl; fault = nothing_bad [] refl; few = omega arith };
    cuts = fed.cuts;
    permitted = fed.permitted;
    valid = λ is. record { front = v.front; whole = sym (append-nil v.front); utf8 = v.utf8; decoded = v.decoded };
  }

  -- `IsFed` still holds after a chunk was decoded and the first blocks of the text were taken
  pub fed_more : (chunk waiting_new all text_new characters : List ℕ) (started_new : Bool) (parts : List (List ℕ))
      → ((more : List ℕ) → text_after form.escapes started ((waiting ++ chunk) ++ more) ≡ characters ++ text_after form.escapes started_new (waiting_new ++ more))
      → IsBeginning waiting_new → all ≡ text ++ characters → IsFront (cut_by rules) parts all text_new → ArePermitted form parts
      → (form.strict ≡ true → IsValidText form.escapes (waiting ++ chunk) waiting_new characters started started_new)
      → IsFed rules form (bytes ++ chunk) (sent ++ parts) waiting_new text_new started_new
  fed_more chunk waiting_new all text_new characters started_new parts decoded beginning all_is front permit valid =
      let both : concat (sent ++ parts) ++ text_new ≡ (concat sent ++ text) ++ characters =
      ap (λ t. t ++ text_new) (concat-append sent parts) ∙ append_assoc (concat sent) (concat parts) text_new
      ∙ ap (λ t. concat sent ++ t) (sym front.whole ∙ all_is) ∙ sym (append_assoc (concat sent) text characters) in
      record {
        decoded = λ more.
            ap (input_text form.escapes) (append_assoc bytes chunk more) ∙ fed.decoded (chunk ++ more)
            ∙ ap (λ t. (concat sent ++ text) ++ text_after form.escapes started t) (sym (append_assoc waiting chunk more))
            ∙ ap (λ t. (concat sent ++ text) ++ t) (decoded more)
            ∙ sym (append_assoc (concat sent ++ text) characters (text_after form.escapes started_new (waiting_new ++ more)))
            ∙ ap (λ t. t ++ text_after form.escapes started_new (waiting_new ++ more)) (sym both);
        beginning = beginning;
        cuts = λ more.
            ap (λ t. blocks (cut_by rules) (t ++ more)) both ∙ ap (blocks (cut_by rules)) (append_assoc (concat sent ++ text) characters more)
            ∙ fed.cuts (characters ++ more) ∙ ap (λ t. sent ++ blocks (cut_by rules) t) (sym (append_assoc text characters more))
            ∙ ap (λ t. sent ++ blocks (cut_by rules) (t ++ more)) (sym all_is)
            ∙ ap (λ (ps : List (List ℕ)). sent ++ ps) (front.cuts more) ∙ sym (append_assoc sent parts (blocks (cut_by rules) (text_new ++ more)));
        permitted = permit_join form sent parts fed.permitted permit;
        valid = λ is.
            valid_more form.escapes bytes chunk waiting waiting_new (concat sent ++ text) characters (concat (sent ++ parts) ++ text_new) started started_new (fed.valid is) (valid is) both;
      }

-- `IsFed` still holds after a chunk was read and decoded up to the first error
pub fed_read : (rules : Rules) (form : Form) (bytes : List ℕ) (sent : List (List ℕ)) (waiting text : List ℕ) (started : Bool) → IsFed rules form bytes sent waiting text started
    → (chunk waiting_new all text_new characters : List ℕ) (started_new : Bool) (parts : List (List ℕ))
    → ((more : List ℕ) → text_after form.escapes started (good_part form.strict (waiting ++ chunk) ++ more) ≡ characters ++ text_after form.escapes started_new (waiting_new ++ more))
    → IsBeginning waiting_new → all ≡ text ++ characters → IsFront (cut_by rules) parts all text_new → ArePermitted form parts
    → (form.strict ≡ true → IsValidText form.escapes (good_part form.strict (waiting ++ chunk)) waiting_new characters started started_new)
    → IsFed rules form (good_part form.strict (bytes ++ chunk)) (sent ++ parts) waiting_new text_new started_new
fed_read rules form bytes sent waiting text started fed chunk waiting_new all text_new characters started_new parts decoded beginning all_is front permit valid =
    elim (cases_Bool (form.strict && is_bad (waiting ++ chunk))) [
      | inl y ↦
          let is = (and_parts form.strict (is_bad (waiting ++ chunk)) y).0 in
          let v = fed.valid is in
          let good = take (utf8_valid_len (waiting ++ chunk)) (waiting ++ chunk) in
          let part : good_part form.strict (waiting ++ chunk) ≡ good = good_front form.strict (waiting ++ chunk) y in
          let all_bytes : bytes ++ chunk ≡ v.front ++ (waiting ++ chunk) = ap (λ x. x ++ chunk) v.whole ∙ append_assoc v.front waiting chunk in
          let whole : good_part form.strict (bytes ++ chunk) ≡ v.front ++ good =
          good_front form.strict (bytes ++ chunk) (same ∙ y) ∙ ap (λ x. take (utf8_valid_len x) x) all_bytes ∙ take-valid-after v.front (waiting ++ chunk) v.utf8 in
          subst (λ (x : List ℕ). IsFed rules form x (sent ++ parts) waiting_new text_new started_new) (sym whole)
          (fed_more rules form v.front sent [] text started (fed_front rules form bytes sent waiting text started fed v) good waiting_new all text_new characters started_new parts
          (λ more. ap (λ x. text_after form.escapes started (x ++ more)) (sym part) ∙ decoded more) beginning all_is front permit
          (λ s. subst (λ (x : List ℕ). IsValidText form.escapes x waiting_new characters started started_new) part (valid s)))
      | inr n ↦
          let part : good_part form.strict (waiting ++ chunk) ≡ waiting ++ chunk = good_whole form.strict (waiting ++ chunk) n in
          subst (λ (x : List ℕ). IsFed rules form x (sent ++ parts) waiting_new text_new started_new) (sym (good_whole form.strict (bytes ++ chunk) (same ∙ n)))
          (fed_more rules form bytes sent waiting text started fed chunk waiting_new all text_new characters started_new parts
          (λ more. ap (λ x. text_after form.escapes started (x ++ more)) (sym part) ∙ decoded more) beginning all_is front permit
          (λ s. subst (λ (x : List ℕ). IsValidText form.escapes x waiting_new characters started started_new) part (valid s)))
    ]
  where
    same : (form.strict && is_bad (bytes ++ chunk)) ≡ (form.strict && is_bad (waiting ++ chunk))
    same = same_bad form.strict form.escapes bytes chunk waiting (concat sent ++ text) started fed.valid

-- the page of some more blocks is appended to the page of the blocks before them
pub more_page : (rules : Rules) (form : Form) (sent parts : List (List ℕ)) (pen : Pen) → pen ≡ pen_after_blocks START sent
    → blocks_page rules form (sent ++ parts) ≡ blocks_page rules form sent ++ pages rules form pen parts
more_page rules form sent parts pen e = pages-append rules form START sent parts ∙ ap (λ (q : Pen). blocks_page rules form sent ++ pages rules form q parts) (sym e)

-- if some lines were written and the sink failed within the next ones, it failed within the concatenation of
-- both
pub stopped_after : (front lines : List ℕ) (m n : ℕ) (old mid new : Device) → Wrote front old mid → StoppedAt m lines mid new → n ≡ length front + m → StoppedAt n (front ++ lines) old new
stopped_after front lines m n old mid new wrote stopped n_is =
    let taken : take n (front ++ lines) ≡ front ++ take m lines = ap (λ k. take k (front ++ lines)) n_is ∙ take-append-add front lines m in (
      omega (arith, n_is, stopped.0, length-append front lines),
      subst (Took old new) (sym taken) (Took-append old mid new front (take m lines) wrote.0 stopped.1),
      FailedLast-after old mid new wrote.1 stopped.2,
    )

module _ (rules : Rules) (form : Form) (is_last : Bool) (reader_old writer_old reader writer : Device) (held : Held) (s : Stands rules form reader_old writer_old reader writer held) where
  -- what was written includes all blocks that had ended before the latest bytes were read
  first_by : (late more : List ℕ) (writer_new : Device) → length late ≤ CHUNK → Took writer_old writer_new (blocks_page rules form s.is_at.sent ++ more)
      → WritesFirst rules form (s.is_at.bytes ++ late) writer_old writer_new
  first_by late more writer_new few took = record {
    early = s.is_at.bytes;
    late = late;
    parts = refl;
    chunk = few;
    ended = s.is_at.sent;
    has_ended = record {
      rest = held.text.items;
      begins = fed_begins rules form s.is_at.bytes s.is_at.sent (take held.decoder.waiting held.decoder.chunk.items) held.text.items held.decoder.started s.is_at.fed;
      upto = held.scanned;
      is_left = s.is_left;
      holds = s.holds;
    };
    more = more;
    took = took;
  }

  -- a paragraph in what was written or in more blocks is over the limit if and only if one in all these
  -- blocks is
  all_over : (parts : List (List ℕ)) → (held.output.over || have_over rules (pen_of held.output.scanner) parts) ≡ have_over rules START (s.is_at.sent ++ parts)
  all_over parts =
      ap₂ (λ (b : Bool) (q : Pen). b || have_over rules q parts) s.is_at.over_is s.is_at.pen_is ∙ sym (over-append rules START s.is_at.sent parts)

  took_sent : Took writer_old writer (blocks_page rules form s.is_at.sent ++ [])
  took_sent = subst (Took writer_old writer) (sym (append-nil (blocks_page rules form s.is_at.sent))) s.is_at.wrote.0

  -- if a read fails, the run ends with `Read`
  pub ends_read : (reader_new : Device) → Fails reader reader_new → IsRun rules form is_last reader_old reader_new writer_old writer (Err f.Read)
  unfolding first_by
  ends_read reader_new fails = (
    s.is_at.bytes ++ [],
    (
      subst (Consumes reader_old.bytes reader_new.bytes) (sym (append-nil s.is_at.bytes)) (Consumes-kept reader_old.bytes reader.bytes reader_new.bytes s.is_at.bytes s.is_at.read.0 fails.bytes),
      omega (arith, fails.passed, s.is_at.read.1, length-append s.is_at.bytes []),
    ),
    (
      first_by [] [] writer (omega arith) took_sent,
      (record { failures = fails.failures ∙ ap (λ n. min (n + 1) greatest) s.is_at.failures; last = fails.failed_at ∙ sym fails.passed }, refl, s.is_at.wrote),
    ),
  )

  -- ---- a chunk was read
  module _ (reader_new : Device) (chunk : List ℕ) (consumed : Consumes reader.bytes reader_new.bytes chunk) (passed : reader_new.passed ≡ reader.passed + length chunk)
      (few : length chunk ≤ CHUNK) where
    has_read : HasRead reader_old reader_new (s.is_at.bytes ++ chunk)
    has_read = (
      Consumes-append reader_old.bytes reader.bytes reader_new.bytes s.is_at.bytes chunk s.is_at.read.0 consumed,
      omega (arith, passed, s.is_at.read.1, length-append s.is_at.bytes chunk),
    )

    -- if an allocation fails, the run ends with `Memory`
    pub ends_memory : IsRun rules form is_last reader_old reader_new writer_old writer (Err f.Memory)
    unfolding first_by
    ends_memory = (s.is_at.bytes ++ chunk, has_read, (first_by chunk [] writer few took_sent, s.is_at.wrote))

    -- if the sink fails within some lines, it has taken what was written before and a part of these lines
    took_part : (lines : List ℕ) (m : ℕ) (writer_new : Device) → StoppedAt m lines writer writer_new → Took writer_old writer_new (blocks_page rules form s.is_at.sent ++ take m lines)
    took_part lines m writer_new stopped = Took-append writer_old writer writer_new (blocks_page rules form s.is_at.sent) (take m lines) s.is_at.wrote.0 stopped.1

    took_all : (lines : List ℕ) (writer_new : Device) → Wrote lines writer writer_new → Took writer_old writer_new (blocks_page rules form s.is_at.sent ++ lines)
    took_all lines writer_new wrote = Took-append writer_old writer writer_new (blocks_page rules form s.is_at.sent) lines s.is_at.wrote.0 wrote.0

    -- the chunk was decoded
    module _ (waiting_new text_new : List ℕ) (started_new : Bool) (parts : List (List ℕ))
        (fed_new : IsFed rules form (good_part form.strict (s.is_at.bytes ++ chunk)) (s.is_at.sent ++ parts) waiting_new text_new started_new) where
      begins_new : BeginsWith rules form (good_part form.strict (s.is_at.bytes ++ chunk)) (s.is_at.sent ++ parts) text_new
      begins_new = fed_begins rules form (good_part form.strict (s.is_at.bytes ++ chunk)) (s.is_at.sent ++ parts) waiting_new text_new started_new fed_new

      page_new : blocks_page rules form (s.is_at.sent ++ parts) ≡ blocks_page rules form s.is_at.sent ++ pages rules form (pen_of held.output.scanner) parts
      page_new = more_page rules form s.is_at.sent parts (pen_of held.output.scanner) s.is_at.pen_is

      pub ends_write : (writer_new : Device) (m n : ℕ) → StoppedAt m (pages rules form (pen_of held.output.scanner) parts) writer writer_new → n ≡ held.output.written + m
          → IsRun rules form is_last reader_old reader_new writer_old writer_new (Err (f.Write n))
      ends_write writer_new m n stopped n_is =
          let lines = pages rules form (pen_of held.output.scanner) parts in (
            s.is_at.bytes ++ chunk,
            has_read,
            (
              first_by chunk (take m lines) writer_new few (took_part lines m writer_new stopped),
              inl (
                s.is_at.sent ++ parts,
                subst (λ (t : List ℕ). StoppedAt n t writer_old writer_new) (sym page_new)
                    (stopped_after (blocks_page rules form s.is_at.sent) lines m n writer_old writer writer_new s.is_at.wrote stopped (omega (arith, n_is, s.is_at.written_is))),
                inl (text_new, begins_new),
              ),
            ),
          )

      wrote_new : (writer_new : Device) → Wrote (pages rules form (pen_of held.output.scanner) parts) writer writer_new → Wrote (blocks_page rules form (s.is_at.sent ++ parts)) writer_old writer_new
      wrote_new writer_new wrote =
          subst (λ (t : List ℕ). Wrote t writer_old writer_new) (sym page_new)
          (Wrote-append writer_old writer writer_new (blocks_page rules form s.is_at.sent) (pages rules form (pen_of held.output.scanner) parts) s.is_at.wrote wrote)

      pub ends_long : (writer_new : Device) → Wrote (pages rules form (pen_of held.output.scanner) parts) writer writer_new → (form.strict ≡ true) × IsTooLong (cut_by rules) text_new
          → IsRun rules form is_last reader_old reader_new writer_old writer_new (Err f.ParagraphTooLong)
      ends_long writer_new wrote long = (
        s.is_at.bytes ++ chunk,
        has_read,
        (
          first_by chunk (pages rules form (pen_of held.output.scanner) parts) writer_new few (took_all _ writer_new wrote),
          (long.0, (s.is_at.sent ++ parts, wrote_new writer_new wrote, inl (text_new, begins_new, long.1))),
        ),
      )

      -- if the input is not UTF-8, the run ends with `NotUtf8`
      pub ends_bad : (writer_new : Device) (n upto : ℕ) → Wrote (pages rules form (pen_of held.output.scanner) parts) writer writer_new → form.strict ≡ true
          → is_bad (s.is_at.bytes ++ chunk) ≡ true → n ≡ utf8_valid_len (s.is_at.bytes ++ chunk) → IsLeft (cut_by rules) form.strict upto text_new
          → (form.strict ≡ true → length text_new ≡ 0 → length (s.is_at.sent ++ parts) ≡ 0)
          → IsRun rules form is_last reader_old reader_new writer_old writer_new (Err (f.NotUtf8 n))
      ends_bad writer_new n upto wrote strict bad n_is is_left holds =
          let bytes = s.is_at.bytes ++ chunk in
          let part : good_part form.strict bytes ≡ take n bytes =
          good_front form.strict bytes (ap₂ (λ (a b : Bool). a && b) strict bad) ∙ ap (λ k. take k bytes) (sym n_is) in (
            bytes,
            has_read,
            (
              first_by chunk (pages rules form (pen_of held.output.scanner) parts) writer_new few (took_all _ writer_new wrote),
              (
                strict,
                n_is,
                inl bad,
                (
                  s.is_at.sent ++ parts,
                  record {
                    rest = text_new;
                    begins = subst (λ (x : List ℕ). BeginsWith rules form x (s.is_at.sent ++ parts) text_new) part begins_new;
                    upto = upto;
                    is_left = is_left;
                    holds = holds;
                  },
                  wrote_new writer_new wrote,
                ),
              ),
            ),
          )

      pub at_new : (writer_new : Device) (pen_new : Pen) (written_new : ℕ) (over_new : Bool) → good_part form.strict (s.is_at.bytes ++ chunk) ≡ s.is_at.bytes ++ chunk → reader_new.failures ≡ reader.failures → Wrote (pages rules form (pen_of held.output.scanner) parts) writer writer_new
          → pen_new ≡ pen_after_blocks (pen_of held.output.scanner) parts → written_new ≡ held.output.written + length (pages rules form (pen_of held.output.scanner) parts)
          → over_new ≡ (held.output.over || have_over rules (pen_of held.output.scanner) parts)
          → (at : IsAt rules form reader_old reader_new writer_old writer_new waiting_new text_new started_new pen_new written_new over_new) × (length at.sent ≡ length (s.is_at.sent ++ parts))
      at_new writer_new pen_new written_new over_new good failures wrote pen_is written_is over_is = (
        record {
          bytes = s.is_at.bytes ++ chunk;
          sent = s.is_at.sent ++ parts;
          read = has_read;
          failures = failures ∙ s.is_at.failures;
          fed = subst (λ (x : List ℕ). IsFed rules form x (s.is_at.sent ++ parts) waiting_new text_new started_new) good fed_new;
          wrote = wrote_new writer_new wrote;
          pen_is = pen_is ∙ ap (λ (q : Pen). pen_after_blocks q parts) s.is_at.pen_is ∙ sym (pen-append START s.is_at.sent parts);
          written_is =
              omega (arith, written_is, s.is_at.written_is, ap length page_new, length-append (blocks_page rules form s.is_at.sent) (pages rules form (pen_of held.output.scanner) parts));
          over_is = over_is ∙ all_over parts;
        },
        refl,
      )

  -- nothing was read, since the source has ended
  module _ (reader_new : Device) (consumed : Consumes reader.bytes reader_new.bytes []) (passed : reader_new.passed ≡ reader.passed + 0) (end : IsAtEnd reader_new.bytes)
      (failures : reader_new.failures ≡ reader.failures) where
    read_all : HasRead reader_old reader_new (s.is_at.bytes ++ [])
    read_all = has_read reader_new [] consumed passed (omega arith)

    blocks_last : blocks (cut_by rules) (input_text form.escapes (s.is_at.bytes ++ [])) ≡ s.is_at.sent ++ blocks (cut_by rules) (held.text.items ++ last_characters held.decoder.waiting)
    blocks_last =
        ap (λ t. blocks (cut_by rules) (input_text form.escapes t)) (append-nil s.is_at.bytes)
        ∙ fed_blocks rules form s.is_at.bytes s.is_at.sent (take held.decoder.waiting held.decoder.chunk.items) held.text.items held.decoder.started s.is_at.fed held.decoder.waiting s.waits

    lines_last : input_page rules form (s.is_at.bytes ++ [])
        ≡ blocks_page rules form s.is_at.sent ++ text_page rules form (pen_of held.output.scanner) (held.text.items ++ last_characters held.decoder.waiting)
    lines_last =
        ap (input_page rules form) (append-nil s.is_at.bytes)
        ∙ fed_page rules form s.is_at.bytes s.is_at.sent (take held.decoder.waiting held.decoder.chunk.items) held.text.items held.decoder.started s.is_at.fed held.decoder.waiting
        (pen_of held.output.scanner) s.waits s.is_at.pen_is

    page_last : output_page rules form is_last (s.is_at.bytes ++ [])
        ≡ blocks_page rules form s.is_at.sent ++ text_output rules form is_last (pen_of held.output.scanner) (held.text.items ++ last_characters held.decoder.waiting)
    page_last =
        output_after rules form is_last s.is_at.sent (concat s.is_at.sent ++ held.text.items) held.text.items (input_text form.escapes (s.is_at.bytes ++ []))
        (held.text.items ++ last_characters held.decoder.waiting) (pen_of held.output.scanner) s.is_at.fed.cuts blocks_last s.is_at.pen_is lines_last

    pub finish_ok : (writer_new : Device) (over : Bool) → (form.strict ≡ true → held.decoder.waiting ≡ 0)
        → over ≡ (held.output.over || have_over rules (pen_of held.output.scanner) (blocks (cut_by rules) (held.text.items ++ last_characters held.decoder.waiting))) → Wrote (text_output rules form is_last (pen_of held.output.scanner) (held.text.items ++ last_characters held.decoder.waiting)) writer writer_new
        → IsRun rules form is_last reader_old reader_new writer_old writer_new (Ok over)
    finish_ok writer_new over none over_is wrote = (
      s.is_at.bytes ++ [],
      read_all,
      end,
      failures ∙ s.is_at.failures,
      λ is.
          let v = s.is_at.fed.valid is in
          let all : s.is_at.bytes ++ [] ≡ v.front =
          append-nil s.is_at.bytes ∙ v.whole ∙ ap (λ k. v.front ++ take k held.decoder.chunk.items) (none is) ∙ append-nil v.front in
          subst IsUtf8 (sym all) v.utf8,
      over_is ∙ all_over (blocks (cut_by rules) (held.text.items ++ last_characters held.decoder.waiting)) ∙ ap (have_over rules START) (sym blocks_last),
      subst (λ (t : List ℕ). Wrote t writer_old writer_new) (sym page_last) (Wrote-append writer_old writer writer_new (blocks_page rules form s.is_at.sent) _ s.is_at.wrote wrote),
    )

    -- if the input ends inside a character and the form is strict, the run ends with `NotUtf8`
    pub finish_bad : (n : ℕ) → form.strict ≡ true → 0 < held.decoder.waiting → n ≡ held.decoder.decoded → IsRun rules form is_last reader_old reader_new writer_old writer (Err (f.NotUtf8 n))
    unfolding first_by
    finish_bad n is some n_is =
        let waiting = take held.decoder.waiting held.decoder.chunk.items in
        let v = s.is_at.fed.valid is in
        let all : s.is_at.bytes ++ [] ≡ v.front ++ waiting = append-nil s.is_at.bytes ∙ v.whole in
        let size : length (s.is_at.bytes ++ []) ≡ length v.front + held.decoder.waiting = ap length all ∙ length-append v.front waiting ∙ ap (λ k. length v.front + k) s.waits in
        let front_is : length v.front ≡ n = omega (arith, n_is, s.counts, size, length-append s.is_at.bytes []) in
        let valid : utf8_valid_len (s.is_at.bytes ++ []) ≡ length v.front + 0 =
        ap utf8_valid_len all ∙ utf8_valid_len-after v.front waiting v.utf8 ∙ ap (λ k. length v.front + k) s.is_at.fed.beginning.none in
        let front : v.front ≡ take n (s.is_at.bytes ++ []) = sym (take_at v.front waiting n front_is) ∙ ap (take n) (sym all) in (
          s.is_at.bytes ++ [],
          read_all,
          (
            first_by [] [] writer (omega arith) took_sent,
            (
              is,
              omega (arith, valid, front_is),
              inr (end, omega (arith, size, front_is, some)),
              (
                s.is_at.sent,
                record {
                  rest = held.text.items;
                  begins =
                      subst (λ (x : List ℕ). BeginsWith rules form x s.is_at.sent held.text.items) front
                      (fed_begins rules form v.front s.is_at.sent [] held.text.items held.decoder.started
                      (fed_front rules form s.is_at.bytes s.is_at.sent waiting held.text.items held.decoder.started s.is_at.fed v));
                  upto = held.scanned;
                  is_left = s.is_left;
                  holds = s.holds;
                },
                s.is_at.wrote,
              ),
            ),
          ),
        )

    pub finish_memory : IsRun rules form is_last reader_old reader_new writer_old writer (Err f.Memory)
    finish_memory = ends_memory reader_new [] consumed passed (omega arith)

    -- ---- the last blocks up to one that is too long
    module _ (parts others : List (List ℕ)) (first : List ℕ)
        (cuts : blocks (cut_by rules) (held.text.items ++ last_characters held.decoder.waiting) ≡ parts ++ first ∷ others) (strict : form.strict ≡ true) (within : are_within parts ≡ true)
        (long : 1048577 ≤ length first) where
      long_last : EndsTooLong rules form (s.is_at.bytes ++ []) (s.is_at.sent ++ parts)
      long_last = (
        first,
        others,
        blocks_last ∙ ap (λ (ps : List (List ℕ)). s.is_at.sent ++ ps) cuts ∙ sym (append_assoc s.is_at.sent parts (first ∷ others)),
        within-append s.is_at.sent parts (s.is_at.fed.permitted strict) within,
        omega (arith, long),
      )

      lines_first : blocks_page rules form (s.is_at.sent ++ parts) ≡ blocks_page rules form s.is_at.sent ++ pages rules form (pen_of held.output.scanner) parts
      lines_first = more_page rules form s.is_at.sent parts (pen_of held.output.scanner) s.is_at.pen_is

      pub finish_long : (writer_new : Device) → Wrote (pages rules form (pen_of held.output.scanner) parts) writer writer_new
          → IsRun rules form is_last reader_old reader_new writer_old writer_new (Err f.ParagraphTooLong)
      finish_long writer_new wrote = (
        s.is_at.bytes ++ [],
        read_all,
        (
          first_by [] (pages rules form (pen_of held.output.scanner) parts) writer_new (omega arith) (took_all reader_new [] consumed passed (omega arith) _ writer_new wrote),
          (
            strict,
            (
              s.is_at.sent ++ parts,
              subst (λ (t : List ℕ). Wrote t writer_old writer_new) (sym lines_first) (Wrote-append writer_old writer writer_new (blocks_page rules form s.is_at.sent) _ s.is_at.wrote wrote),
              inr (end, long_last),
            ),
          ),
        ),
      )

      pub finish_stopped_long : (writer_new : Device) (m n : ℕ) → StoppedAt m (pages rules form (pen_of held.output.scanner) parts) writer writer_new → n ≡ held.output.written + m
          → IsRun rules form is_last reader_old reader_new writer_old writer_new (Err (f.Write n))
      finish_stopped_long writer_new m n stopped n_is = (
        s.is_at.bytes ++ [],
        read_all,
        (
          first_by [] _ writer_new (omega arith) (took_part reader_new [] consumed passed (omega arith) _ m writer_new stopped),
          inl (
            s.is_at.sent ++ parts,
            subst (λ (t : List ℕ). StoppedAt n t writer_old writer_new) (sym lines_first)
                (stopped_after (blocks_page rules form s.is_at.sent) _ m n writer_old writer writer_new s.is_at.wrote stopped (omega (arith, n_is, s.is_at.written_is))),
            inr (end, long_last),
          ),
        ),
      )

    pub finish_stopped : (writer_new : Device) (m n : ℕ)
        → StoppedAt m (text_output rules form is_last (pen_of held.output.scanner) (held.text.items ++ last_characters held.decoder.waiting)) writer writer_new
        → n ≡ held.output.written + m → IsRun rules form is_last reader_old reader_new writer_old writer_new (Err (f.Write n))
    finish_stopped writer_new m n stopped n_is = (
      s.is_at.bytes ++ [],
      read_all,
      (
        first_by [] _ writer_new (omega arith) (took_part reader_new [] consumed passed (omega arith) _ m writer_new stopped),
        inr (
          end,
          subst (λ (t : List ℕ). StoppedAt n t writer_old writer_new) (sym page_last)
              (stopped_after (blocks_page rules form s.is_at.sent) _ m n writer_old writer writer_new s.is_at.wrote stopped (omega (arith, n_is, s.is_at.written_is))),
        ),
      ),
    )

-- ---- the start of a run

pub Consumes-refl : (known : Option (List ℕ)) → Consumes known known []
Consumes-refl None = tt
Consumes-refl (Some xs) = refl

fed_none : (rules : Rules) (form : Form) → IsFed rules form [] [] [] [] false
fed_none rules form = record {
  decoded = λ more. input_is form.escapes more;
  beginning = record { none = nothing_valid [] refl; fault = nothing_bad [] refl; few = omega arith };
  cuts = λ more. refl;
  permitted = λ is. refl;
  valid = λ is. record { front = []; whole = refl; utf8 = ([], (refl, refl)); decoded = λ more. input_is form.escapes more };
}

-- the position up to which no block has ended is at most the length of the text
pub left_within : (rules : Rules) (holds : Bool) (n : ℕ) (text : List ℕ) → IsLeft (cut_by rules) holds n text → n ≤ length text
left_within rules holds n text (inl o) = o.within
left_within rules holds n text (inr (is, h)) = omega (arith, h.last)

pub left_none : (rules : Rules) (holds : Bool) (n : ℕ) (text : List ℕ) → IsLeft (cut_by rules) holds n text → AreNoEnds (cut_by rules) n text
left_none rules holds n text (inl o) = o.none
left_none rules holds n text (inr (is, h)) = h.none

open_none : (rules : Rules) → IsOpen (cut_by rules) 0 []
open_none rules = record { within = omega arith; none = λ k below more. absurd (omega (arith, below)); rest = inl refl }

-- an allocation failed before anything was read
pub ends_at_once : (rules : Rules) (form : Form) (is_last : Bool) (reader writer : Device) → IsRun rules form is_last reader reader writer writer (Err f.Memory)
ends_at_once rules form is_last reader writer = (
  [],
  (Consumes-refl reader.bytes, omega arith),
  (
    record {
      early = [];
      late = [];
      parts = refl;
      chunk = omega arith;
      ended = [];
      has_ended = record { rest = []; begins = fed_begins rules form [] [] [] [] false (fed_none rules form); upto = 0; is_left = inl (open_none rules); holds = λ is none. refl };
      more = [];
      took = Took-nothing writer;
    },
    (Took-nothing writer, refl),
  ),
)

pub stands_at_start : (rules : Rules) (form : Form) (reader writer : Device) (held : Held) → held.decoder.waiting ≡ 0 → held.decoder.started ≡ false → held.text.items ≡ [] → held.scanned ≡ 0
    → HasPassed held.passed (drop 1 held.text.items) → pen_of held.output.scanner ≡ START → styled_of held.output.scanner.text ≡ [] → held.output.page.bytes.items ≡ [] → held.output.written ≡ 0 → vec_len held.decoder.chunk ≡ CHUNK
    → held.decoder.decoded ≡ 0 → held.output.over ≡ false → Stands rules form reader writer reader writer held
stands_at_start rules form reader writer held w b t c passed p empty page n room d o =
    let waiting = take held.decoder.waiting held.decoder.chunk.items in
    let nothing : waiting ≡ [] = ap (λ k. take k held.decoder.chunk.items) w in
    let fed_w = subst (λ (x : List ℕ). IsFed rules form [] [] x [] false) (sym nothing) (fed_none rules form) in
    let fed_t = subst (λ (x : List ℕ). IsFed rules form [] [] waiting x false) (sym t) fed_w in
    record {
      is_at = record {
        bytes = [];
        sent = [];
        read = (Consumes-refl reader.bytes, omega arith);
        failures = refl;
        fed = subst (λ (x : Bool). IsFed rules form [] [] waiting held.text.items x) (sym b) fed_t;
        wrote = (Took-nothing writer, refl);
        pen_is = p;
        written_is = n;
        over_is = o;
      };
      is_left = inl (subst (λ (x : List ℕ). IsOpen (cut_by rules) held.scanned x) (sym t) (subst (λ (x : ℕ). IsOpen (cut_by rules) x []) (sym c) (open_none rules)));
      passed = subst (λ (n : ℕ). HasPassed held.passed (drop (n + 1) held.text.items)) (sym c) passed;
      holds = λ is none. refl;
      empty = empty;
      lines = page;
      room = room;
      counts = omega (arith, d, w);
      waits = ap length nothing ∙ sym w;
    }

-- if the rules are unchanged, a step by the current rules is a step by the rules with which the run began
pub stepped_as : (rules now : Rules) (form : Form) (is_last : Bool) (reader_old writer_old reader writer reader_new writer_new : Device) (held held_new : Held) → now ≡ rules
    → Stands rules form reader_old writer_old reader writer held → (result : Result Bool Fault)
    → (Stands now form reader_old writer_old reader writer held → Steps now form is_last reader_old writer_old reader_new writer_new held_new result)
    → (as_is : Result Bool Fault) → result ≡ as_is → Steps rules form is_last reader_old writer_old reader_new writer_new held_new as_is
stepped_as rules now form is_last reader_old writer_old reader writer reader_new writer_new held held_new e s result step as_is is =
    let here = step (subst (λ (r : Rules). Stands r form reader_old writer_old reader writer held) (sym e) s) in
    subst (λ (r : Result Bool Fault). Steps rules form is_last reader_old writer_old reader_new writer_new held_new r) is
    (subst (λ (r : Rules). Steps r form is_last reader_old writer_old reader_new writer_new held_new result) e here)

-- if the sink failed at the end of the input, `Finishes` holds with the fault `Write`
pub finish_write : (rules : Rules) (form : Form) (is_last : Bool) (held : Held) (over : Bool) (old new : Device) (fault : Fault) (middle : Output) (is_long : Bool)
    → AddsLast rules form is_last (held.text.items ++ last_characters held.decoder.waiting) held.output middle is_long → middle.written ≡ held.output.written
    → ((n : ℕ) × (fault ≡ f.Write (middle.written + n)) × StoppedAt n middle.page.bytes.items old new) → Finishes rules form is_last held over old new (Err fault)
finish_write rules form is_last held over old new fault middle is_long adds same (n, fault_is, stopped) =
    subst (λ (w : Fault). Finishes rules form is_last held over old new (Err w)) (sym fault_is)
    (middle, is_long, adds, (n, ap (λ k. k + n) same, stopped))
