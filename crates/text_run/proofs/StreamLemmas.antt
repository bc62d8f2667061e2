-- A run that reads in chunks ends like a run that reads everything at once.
use Rattle.std.proofs.Common.{◌≡◌, ◌⊎◌, inl, inr, ⊎_elim, ℕ, suc, ◌+◌, ◌-◌, ◌<◌, ◌≤◌, ◌&&◌, Bool, true, false, List, [], ◌∷◌, ◌++◌, length, take, drop, min, Option, Some, None, IfSome, unwrap_or, Err, encode_utf8_all, refl, sym, subst, ap, ◌∙◌, arith, if◌then◌else◌}
use Rattle.std.specs.Prelude.{take_while, is_none}
use Rattle.std.specs.List.{concat, prefix_len}
use Rattle.std.specs.Str.{chars}
use Rattle.std.specs.Str.Lossy.{utf8_valid_len}
use Rattle.std.specs.Io.KnownBytes.{Appends, Consumes, IsAtEnd, Keeps}
use Rattle.std.proofs.lemmas.Bool.{and_parts, cases_lt}
use Rattle.std.proofs.lemmas.Bool.Decides.{nat_tests}
use Rattle.std.proofs.lemmas.List.{append_assoc, append-nil, length-append, take-append-le}
use Rattle.std.proofs.lemmas.List.Folds.{list_all-append, concat-append}
use Rattle.std.proofs.lemmas.Grind.{flat_map-append}
use Rattle.std.proofs.Math.Seq.{take-append-add, take-append_seam, drop-append_seam}
use Rattle.std.proofs.lemmas.Str.{chars-append, chars-nil, encodes-append}
use Rattle.bidi.specs.Cuts.{paragraphs}
use Rattle.device.specs.Device.{Device, FailedLast, StoppedAt, Took, Wrote, greatest}
use Rattle.lines.specs.Engine.{Prints}
use Rattle.lines.specs.Layouts.{Rules, cut_by}
use Rattle.lines.specs.Pages.{page, paragraph_bytes}
use Rattle.lines.specs.declared.engine.Engine.{Engine}
use Rattle.lines.specs.declared.printing.print.Print.{Print}
use Rattle.text_run.specs.declared.faults.RunFault.{RunFault}
use Rattle.text_run.specs.declared.faults.RunFault.TheVariants as f
use Rattle.stream.specs.Utf8.{front_of}
use Rattle.text_run.specs.TextRun.{Ending, AtEnd, are_within, is_within, written_of, ending_of, input_fault, front_paragraphs, read_ahead, Gave, EndsWith, HasPrinted, IsTextRun, ReadsAhead}
use Rattle.text_run.specs.Streaming.{IsAt, IsFront, IsOpen, StartsLong}
use Rattle.bidi.proofs.FrontLemmas.{first_paragraph}
use Rattle.stream.proofs.Utf8Lemmas.{take-valid-after}

-- ---- which paragraphs are written

take_while_more : (ps qs : List (List ℕ)) → are_within ps ≡ true → take_while is_within (ps ++ qs) ≡ ps ++ take_while is_within qs
take_while_more [] qs all = refl
take_while_more (p ∷ ps) qs all =
    let both = and_parts (is_within p) (are_within ps) all in
    let one_more : 1 + prefix_len is_within (ps ++ qs) ≡ suc (prefix_len is_within (ps ++ qs)) = omega arith in
    let here : take_while is_within (p ∷ (ps ++ qs)) ≡ p ∷ take_while is_within (ps ++ qs) = simp (both.0, one_more) in
    here ∙ ap (λ t. p ∷ t) (take_while_more ps qs both.1)

pub within_more : (ps qs : List (List ℕ)) → are_within ps ≡ true → are_within (ps ++ qs) ≡ are_within qs
within_more ps qs all = list_all-append is_within ps qs ∙ ap (λ (b : Bool). b && are_within qs) all

all_but_last : (ps : List (List ℕ)) (q : List ℕ) (qs : List (List ℕ)) → take (length (ps ++ q ∷ qs) - 1) (ps ++ q ∷ qs) ≡ ps ++ take (length qs) (q ∷ qs)
all_but_last ps q qs =
    let n : length (ps ++ q ∷ qs) - 1 ≡ length ps + length qs = omega (arith, length-append ps (q ∷ qs)) in
    ap (λ k. take k (ps ++ q ∷ qs)) n ∙ take-append-add ps (q ∷ qs) (length qs)

-- if all paragraphs before some paragraph are within the limit, they are written
written_begins : (ps : List (List ℕ)) (q : List ℕ) (qs : List (List ℕ)) (whole : Bool) → are_within ps ≡ true → (more : List (List ℕ)) × (written_of (ps ++ q ∷ qs) whole ≡ ps ++ more)
written_begins ps q qs whole all = go (are_within (ps ++ q ∷ qs)) whole refl
  where
    go : (b w : Bool) → are_within (ps ++ q ∷ qs) ≡ b
        → (more : List (List ℕ)) × ((if b then (if w then ps ++ q ∷ qs else take (length (ps ++ q ∷ qs) - 1) (ps ++ q ∷ qs)) else take_while is_within (ps ++ q ∷ qs)) ≡ ps ++ more)
    go true true is = (q ∷ qs, refl)
    go true false is = (take (length qs) (q ∷ qs), all_but_last ps q qs)
    go false w is = (take_while is_within (q ∷ qs), take_while_more ps (q ∷ qs) all)

-- the last paragraph is not written if the input has a fault
written_part : (ps : List (List ℕ)) (q : List ℕ) → are_within ps ≡ true → is_within q ≡ true → written_of (ps ++ q ∷ []) false ≡ ps
written_part ps q all short =
    let within : are_within (ps ++ q ∷ []) ≡ true = within_more ps (q ∷ []) all ∙ ap (λ (b : Bool). b && true) short in
    ap (λ (b : Bool). if b then take (length (ps ++ q ∷ []) - 1) (ps ++ q ∷ []) else take_while is_within (ps ++ q ∷ [])) within
    ∙ all_but_last ps q [] ∙ append-nil ps

pub written_whole : (ps : List (List ℕ)) → are_within ps ≡ true → written_of ps true ≡ ps
written_whole ps all = ap (λ (b : Bool). if b then ps else take_while is_within ps) all

-- the first paragraph that is too long is not written, nor is any paragraph after it
written_long : (ps : List (List ℕ)) (q : List ℕ) (qs : List (List ℕ)) (whole : Bool) → are_within ps ≡ true → is_within q ≡ false → written_of (ps ++ q ∷ qs) whole ≡ ps
written_long ps q qs whole all long =
    let within : are_within (ps ++ q ∷ qs) ≡ false = within_more ps (q ∷ qs) all ∙ ap (λ (b : Bool). b && are_within qs) long in
    let none : take_while is_within (q ∷ qs) ≡ [] = simp long in
    ap (λ (b : Bool). if b then (if whole then ps ++ q ∷ qs else take (length (ps ++ q ∷ qs) - 1) (ps ++ q ∷ qs)) else take_while is_within (ps ++ q ∷ qs)) within
    ∙ take_while_more ps (q ∷ qs) all ∙ ap (λ t. ps ++ t) none ∙ append-nil ps

pub short_is : (p : List ℕ) → length p ≤ 1048576 → is_within p ≡ true
short_is p short = grind (arith, nat_tests)

-- ---- devices

Appends-append : (a b c : Option (List ℕ)) (xs ys : List ℕ) → Appends a b xs → Appends b c ys → Appends a c (xs ++ ys)
Appends-append None b c xs ys p q = tt
Appends-append (Some us) None c xs ys p q = absurd p
Appends-append (Some us) (Some bs) None xs ys p q = absurd q
Appends-append (Some us) (Some bs) (Some cs) xs ys p q = q ∙ ap (λ t. t ++ ys) p ∙ append_assoc us xs ys

pub FailedLast-after : (a b c : Device) → b.failures ≡ a.failures → FailedLast b c → FailedLast a c
FailedLast-after a b c same failed = record { failures = failed.failures ∙ ap (λ n. min (n + 1) greatest) same; last = failed.last }

pub Took-append : (a b c : Device) (xs ys : List ℕ) → Took a b xs → Took b c ys → Took a c (xs ++ ys)
Took-append a b c xs ys p q = record { bytes = Appends-append a.bytes b.bytes c.bytes xs ys p.bytes q.bytes; passed = omega (arith, p.passed, q.passed, length-append xs ys) }

pub Wrote-append : (a b c : Device) (xs ys : List ℕ) → Wrote xs a b → Wrote ys b c → Wrote (xs ++ ys) a c
Wrote-append a b c xs ys p q = (Took-append a b c xs ys p.0 q.0, q.1 ∙ p.1)

pub Consumes-append : (a b c : Option (List ℕ)) (xs ys : List ℕ) → Consumes a b xs → Consumes b c ys → Consumes a c (xs ++ ys)
Consumes-append None b c xs ys p q = tt
Consumes-append (Some us) None c xs ys p q = absurd p
Consumes-append (Some us) (Some bs) None xs ys p q = absurd q
Consumes-append (Some us) (Some bs) (Some cs) xs ys p q = p ∙ ap (λ t. xs ++ t) q ∙ sym (append_assoc xs ys cs)

pub Consumes-kept : (a b c : Option (List ℕ)) (xs : List ℕ) → Consumes a b xs → Keeps b c → Consumes a c xs
Consumes-kept None b c xs p q = tt
Consumes-kept (Some us) None c xs p q = absurd p
Consumes-kept (Some us) (Some bs) None xs p q = absurd q
Consumes-kept (Some us) (Some bs) (Some cs) xs p q = p ∙ ap (λ t. xs ++ t) (sym q)

-- the bytes of a source are those that were read, followed by the remaining ones
pub had : (a b : Option (List ℕ)) (xs : List ℕ) → Consumes a b xs → IfSome a (λ all. all ≡ xs ++ unwrap_or b [])
had None b xs p = tt
had (Some us) None xs p = absurd p
had (Some us) (Some bs) xs p = p

pub had_all : (a b : Option (List ℕ)) (xs : List ℕ) → Consumes a b xs → IsAtEnd b → IfSome a (λ all. all ≡ xs)
had_all None b xs p done = tt
had_all (Some us) None xs p done = absurd p
had_all (Some us) (Some bs) xs p done = p ∙ ap (λ t. xs ++ t) done ∙ append-nil xs

-- ---- the run of a text so far

-- The run ends with this fault, for any engine that `HasPrinted` allows. After a fault of the input,
-- `HasPrinted` allows only an engine that has printed n characters.
pub record Stops (rules : Rules) (width : ℕ) (print : Print) (reader_old writer_old reader_new writer_new : Device) (fault : RunFault) (n : ℕ) : Type 0 where
  pub run : (engine_old engine_new : Engine) → HasPrinted (Some fault) n print engine_old engine_new
      → IsTextRun rules width print reader_old reader_new writer_old writer_new engine_old engine_new (Err fault)
  pub ahead : ReadsAhead rules width print reader_old reader_new writer_old writer_new

module _ (rules : Rules) (width : ℕ) (print : Print) (reader_old writer_old : Device) where
  -- the run has read at most `read_ahead` bytes after these paragraphs
  pub record IsSent (reader_new : Device) (sent : List (List ℕ)) : Type 0 where
    pub ahead : reader_new.passed ≤ reader_old.passed + length (encode_utf8_all (concat sent)) + read_ahead

  ahead_more : (reader_new : Device) (sent more : List (List ℕ)) → IsSent reader_new sent → IsSent reader_new (sent ++ more)
  ahead_more reader_new sent more a = record {
    ahead =
        let bytes : encode_utf8_all (concat (sent ++ more)) ≡ encode_utf8_all (concat sent) ++ encode_utf8_all (concat more) =
        ap encode_utf8_all (concat-append sent more) ∙ encodes-append (concat sent) (concat more) in
        omega (arith, a.ahead, ap length bytes, length-append (encode_utf8_all (concat sent)) (encode_utf8_all (concat more)));
  }

  -- if the lines of these paragraphs and a prefix of the next one's lines were written, `ReadsAhead` holds
  ahead_at : (reader_new writer_new : Device) (ending : Ending) (bytes : List ℕ) (sent others : List (List ℕ)) (n : ℕ)
      → Gave reader_old reader_new ending bytes → front_paragraphs rules bytes ≡ sent ++ others
      → Took writer_old writer_new (page rules width print sent ++ take n (page rules width print (take 1 others)))
      → IsSent reader_new sent → ReadsAhead rules width print reader_old reader_new writer_old writer_new
  ahead_at reader_new writer_new ending bytes sent others n gave pars took ahead =
      let first : take (length sent) (front_paragraphs rules bytes) ≡ sent = ap (take (length sent)) pars ∙ take-append_seam sent others in
      let rest : drop (length sent) (front_paragraphs rules bytes) ≡ others = ap (drop (length sent)) pars ∙ drop-append_seam sent others in (
        ending,
        bytes,
        gave,
        (
          length sent,
          n,
          subst (λ (ps : List (List ℕ)). Took writer_old writer_new (page rules width print ps
              ++ take n (page rules width print (take 1 (drop (length sent) (front_paragraphs rules bytes))))))
              (sym first)
              (subst (λ (ps : List (List ℕ)). Took writer_old writer_new (page rules width print sent ++ take n (page rules width print (take 1 ps)))) (sym rest) took),
          subst (λ (ps : List (List ℕ)). reader_new.passed ≤ reader_old.passed + length (encode_utf8_all (concat ps)) + read_ahead) (sym first) ahead.ahead,
        ),
      )

  -- if exactly the lines of these paragraphs were written, `ReadsAhead` holds
  ahead_done : (reader_new writer_new : Device) (ending : Ending) (bytes : List ℕ) (sent others : List (List ℕ))
      → Gave reader_old reader_new ending bytes → front_paragraphs rules bytes ≡ sent ++ others
      → Wrote (page rules width print sent) writer_old writer_new → IsSent reader_new sent → ReadsAhead rules width print reader_old reader_new writer_old writer_new
  ahead_done reader_new writer_new ending bytes sent others gave pars wrote ahead =
      ahead_at reader_new writer_new ending bytes sent others 0 gave pars (subst (Took writer_old writer_new) (sym (append-nil (page rules width print sent))) wrote.0) ahead

  -- if memory runs out after the lines of `sent` were written, the run stops with `Memory`
  pub ends_memory : (reader_new writer_new : Device) (ending : Ending) (bytes : List ℕ)
      (sent others more : List (List ℕ)) → Gave reader_old reader_new ending bytes → front_paragraphs rules bytes
      ≡ sent ++ others
      → written_of (front_paragraphs rules bytes) (is_none (input_fault ending bytes)) ≡ sent ++ more
      → Wrote (page rules width print sent) writer_old writer_new → IsSent reader_new sent → (printed : ℕ) → Stops rules width print reader_old writer_old reader_new writer_new f.Memory printed
  ends_memory reader_new writer_new ending bytes sent others more gave pars written wrote ahead printed = record {
    run = λ engine_old engine_new counts. (
      ending,
      bytes,
      gave,
      tt,
      tt,
      (
        tt,
        (
          length sent,
          subst
              (λ (ps : List (List ℕ)). Wrote (page rules width print ps) writer_old writer_new)
              (sym (ap (take (length sent)) written ∙ take-append_seam sent more)) wrote,
        ),
      ),
    );
    ahead = ahead_done reader_new writer_new ending bytes sent others gave pars wrote ahead;
  }

  -- the first m bytes of the lines of some paragraphs are the lines of the first ones, followed by a prefix
  -- of the next one's lines
  record IsWithin (gathered : List (List ℕ)) (m : ℕ) : Type 0 where
    pub before : List (List ℕ)
    pub next : List ℕ
    pub after : List (List ℕ)
    pub n : ℕ
    pub parts : gathered ≡ before ++ next ∷ after
    pub lines : take m (page rules width print gathered) ≡ page rules width print before ++ take n (page rules width print (next ∷ []))

  within_step : (p : List ℕ) (ps : List (List ℕ)) (m : ℕ) → m < length (page rules width print (p ∷ ps)) → ((k : ℕ) → k < length (page rules width print ps) → IsWithin ps k) → IsWithin (p ∷ ps) m
  within_step p ps m less later = go (cases_lt (length lines) m)
    where
      lines : List ℕ
      lines = paragraph_bytes rules width print p

      rest : List ℕ
      rest = page rules width print ps

      go : (length lines < m) ⊎ (m ≤ length lines) → IsWithin (p ∷ ps) m
      go (inr here) = record { before = []; next = p; after = ps; n = m; parts = refl; lines = take-append-le m lines rest here ∙ ap (take m) (sym (append-nil lines)) }
      go (inl past) =
          let k = m - length lines in
          let there = later k (omega (arith, less, length-append lines rest)) in
          let same : m ≡ length lines + k = omega arith in
          record {
            before = p ∷ there.before;
            next = there.next;
            after = there.after;
            n = there.n;
            parts = ap (λ t. p ∷ t) there.parts;
            lines = ap (λ i. take i (lines ++ rest)) same ∙ take-append-add lines rest k ∙ ap (λ t. lines ++ t) there.lines
                ∙ sym (append_assoc lines (page rules width print there.before) (take there.n (page rules width print (there.next ∷ []))));
          }

  within : (gathered : List (List ℕ)) (m : ℕ) → m < length (page rules width print gathered) → IsWithin gathered m
  within [] m less = absurd (omega arith)
  within (p ∷ ps) m less = within_step p ps m less (λ k less_2. within ps k less_2)

  -- if the sink fails within the lines of some more paragraphs, the run stops with `Write`
  pub ends_write : (reader_new writer_mid writer_new : Device) (ending : Ending) (bytes : List ℕ) (sent gathered others more : List (List ℕ)) (m n : ℕ) → Gave reader_old reader_new ending bytes
      → front_paragraphs rules bytes ≡ (sent ++ gathered) ++ others
      → written_of (front_paragraphs rules bytes) (is_none (input_fault ending bytes)) ≡ (sent ++ gathered) ++ more
      → Wrote (page rules width print sent) writer_old writer_mid → IsSent reader_new sent
      → StoppedAt m (page rules width print gathered) writer_mid writer_new → n
      ≡ length (page rules width print sent) + m
      → (printed : ℕ) → Stops rules width print reader_old writer_old reader_new writer_new (f.Write n) printed
  ends_write reader_new writer_mid writer_new ending bytes sent gathered others more m n gave pars written wrote ahead stopped n_is printed =
      let front = page rules width print sent in
      let lines = page rules width print gathered in
      let pages : page rules width print (written_of (front_paragraphs rules bytes) (is_none (input_fault ending bytes))) ≡ front ++ (lines ++ page rules width print more) =
      ap (page rules width print) (written ∙ append_assoc sent gathered more)
      ∙ flat_map-append (paragraph_bytes rules width print) sent (gathered ++ more) ∙ ap (λ t. front ++ t) (flat_map-append (paragraph_bytes rules width print) gathered more) in
      let took : Took writer_old writer_new (front ++ take m lines) = Took-append writer_old writer_mid writer_new front (take m lines) wrote.0 stopped.1 in
      let taken : take n (front ++ (lines ++ page rules width print more)) ≡ front ++ take m lines =
      ap (λ k. take k (front ++ (lines ++ page rules width print more))) n_is ∙ take-append-add front (lines ++ page rules width print more) m
      ∙ ap (λ t. front ++ t) (take-append-le m lines (page rules width print more) (omega (arith, stopped.0))) in
      let less : n < length (front ++ (lines ++ page rules width print more)) =
      omega (arith, n_is, stopped.0, length-append front (lines ++ page rules width print more), length-append lines (page rules width print more)) in
      let stopped_all : StoppedAt n (front ++ (lines ++ page rules width print more)) writer_old writer_new =
      (less, subst (Took writer_old writer_new) (sym taken) took, FailedLast-after writer_old writer_mid writer_new wrote.1 stopped.2) in
      let at = within gathered m stopped.0 in
      let before = sent ++ at.before in
      let pars_2 : front_paragraphs rules bytes ≡ before ++ (at.next ∷ (at.after ++ others)) =
      pars ∙ ap (λ t. (sent ++ t) ++ others) at.parts ∙ append_assoc sent (at.before ++ at.next ∷ at.after) others
      ∙ ap (λ t. sent ++ t) (append_assoc at.before (at.next ∷ at.after) others)
      ∙ sym (append_assoc sent at.before (at.next ∷ (at.after ++ others))) in
      let took_2 : front ++ take m lines ≡ page rules width print before ++ take at.n (page rules width print (at.next ∷ [])) =
      ap (λ t. front ++ t) at.lines ∙ sym (append_assoc front (page rules width print at.before) (take at.n (page rules width print (at.next ∷ []))))
      ∙ ap (λ t. t ++ take at.n (page rules width print (at.next ∷ []))) (sym (flat_map-append (paragraph_bytes rules width print) sent at.before)) in
      record {
        run = λ engine_old engine_new counts. (ending, bytes, gave, tt, tt, (tt, subst (λ (t : List ℕ). StoppedAt n t writer_old writer_new) (sym pages) stopped_all));
        ahead = ahead_at reader_new writer_new ending bytes before (at.next ∷ (at.after ++ others)) at.n gave pars_2
            (subst (Took writer_old writer_new) took_2 took) (ahead_more reader_new sent at.before ahead);
      }

-- if a text has first paragraphs, some text remains after them, and these paragraphs are written
pub gone_on : (is_cut : ℕ → ℕ → Bool) (ps : List (List ℕ)) (text rest : List ℕ) → IsFront is_cut ps text rest → (ps ≡ []) ⊎ (0 < length rest)
gone_on is_cut ps [] rest front = inl (none ps (front.cuts []))
  where
    none : (qs : List (List ℕ)) → [] ≡ qs ++ paragraphs is_cut (rest ++ []) → qs ≡ []
    none [] is = refl
    none (q ∷ qs) is = absurd cc
gone_on is_cut ps (a ∷ text) rest front = inr (front.filled (omega arith))

begins_in : (is_cut : ℕ → ℕ → Bool) (ps : List (List ℕ)) (rest : List ℕ) (whole : Bool) → are_within ps ≡ true → (ps ≡ []) ⊎ (0 < length rest)
    → (more : List ℕ) → (others : List (List ℕ)) × (written_of (ps ++ paragraphs is_cut (rest ++ more)) whole ≡ ps ++ others)
begins_in is_cut ps rest whole all (inl none) more = (
  written_of (paragraphs is_cut (rest ++ more)) whole,
  ap
      (λ qs. written_of (qs ++ paragraphs is_cut (rest ++ more)) whole) none
      ∙ ap (λ qs. qs ++ written_of (paragraphs is_cut (rest ++ more)) whole) (sym none),
)
begins_in is_cut ps [] whole all (inr some) more = absurd (omega arith)
begins_in is_cut ps (a ∷ rest) whole all (inr some) more =
    let first = first_paragraph is_cut a (rest ++ more) in
    let begins = written_begins ps (a ∷ first.0) first.1 whole all in
    (begins.0, ap (λ qs. written_of (ps ++ qs) whole) first.2 ∙ begins.1)

module _ (rules : Rules) (width : ℕ) (print : Print) (reader_old reader_new writer_old writer_new : Device) (waiting text lines : List ℕ)
    (at : IsAt rules width print reader_old reader_new writer_old writer_new waiting text lines) where
  -- ---- the characters and paragraphs of the decoded bytes when any other bytes follow
  pub front_is : (after : List ℕ) → front_of (at.decoded ++ after) ≡ chars at.decoded ++ front_of after
  front_is after = ap chars (take-valid-after at.decoded after at.utf8) ∙ chars-append at.decoded (take (utf8_valid_len after) after) at.utf8

  pub pars_are : (after : List ℕ) → front_paragraphs rules (at.decoded ++ after) ≡ (at.sent ++ at.gathered) ++ paragraphs (cut_by rules) (text ++ front_of after)
  pars_are after = ap (paragraphs (cut_by rules)) (front_is after) ∙ at.front.cuts (front_of after)

  begins : (after : List ℕ) (whole : Bool) → (others : List (List ℕ)) × (written_of (front_paragraphs rules (at.decoded ++ after)) whole ≡ (at.sent ++ at.gathered) ++ others)
  begins after whole =
      let some = begins_in (cut_by rules) (at.sent ++ at.gathered) text whole at.front.within (gone_on (cut_by rules) (at.sent ++ at.gathered) (chars at.decoded) text at.front) (front_of after) in
      (some.0, ap (λ qs. written_of qs whole) (pars_are after) ∙ some.1)

  -- the waiting bytes, followed by the remaining bytes of the source if they are known
  abbrev pub rest_of : List ℕ
  rest_of = waiting ++ unwrap_or reader_new.bytes []

  pub gave_all : Gave reader_old reader_new AtEnd (at.decoded ++ rest_of)
  gave_all = (gone reader_old.bytes (had reader_old.bytes reader_new.bytes (at.decoded ++ waiting) at.read), at.failures)
    where
      gone : (known : Option (List ℕ)) → IfSome known (λ all. all ≡ (at.decoded ++ waiting) ++ unwrap_or reader_new.bytes []) → IfSome known (λ all. all ≡ at.decoded ++ rest_of)
      gone None is = tt
      gone (Some all) is = is ∙ append_assoc at.decoded waiting (unwrap_or reader_new.bytes [])

  pub sent_ahead : IsSent rules width print reader_old writer_old reader_new at.sent
  sent_ahead = record { ahead = at.ahead }

  pub at_memory : (printed : ℕ) → Stops rules width print reader_old writer_old reader_new writer_new f.Memory printed
  at_memory printed =
      let more = begins rest_of (is_none (input_fault AtEnd (at.decoded ++ rest_of))) in
      ends_memory rules width print reader_old writer_old reader_new writer_new AtEnd (at.decoded
      ++ rest_of) at.sent (at.gathered ++ paragraphs (cut_by rules) (text ++ front_of rest_of)) (at.gathered
      ++ more.0) gave_all
      (pars_are rest_of ∙ append_assoc at.sent at.gathered _) (more.1 ∙ append_assoc at.sent at.gathered more.0) at.wrote sent_ahead printed

  pub at_write : (writer_last : Device) (m n : ℕ) → StoppedAt m lines writer_new writer_last → n ≡ length (page rules width print at.sent) + m
      → (printed : ℕ) → Stops rules width print reader_old writer_old reader_new writer_last (f.Write n) printed
  at_write writer_last m n stopped n_is printed =
      let more = begins rest_of (is_none (input_fault AtEnd (at.decoded ++ rest_of))) in
      ends_write rules width print reader_old writer_old reader_new writer_new writer_last AtEnd (at.decoded
      ++ rest_of) at.sent at.gathered (paragraphs (cut_by rules) (text ++ front_of rest_of)) more.0 m n gave_all
      (pars_are rest_of) more.1 at.wrote sent_ahead (subst (λ (t : List ℕ). StoppedAt m t writer_new writer_last) at.lines_are stopped) n_is printed

  -- after the gathered lines are written, `IsAt` holds without gathered lines
  pub at_written : (writer_last : Device) → Wrote lines writer_new writer_last
      → (next : IsAt rules width print reader_old reader_new writer_old writer_last waiting text []) × (next.gathered ≡ []) × (next.decoded ≡ at.decoded) × (next.sent ≡ at.sent ++ at.gathered)
  at_written writer_last wrote =
      let all = at.sent ++ at.gathered in (
        record {
          decoded = at.decoded;
          sent = all;
          gathered = [];
          read = at.read;
          passed = at.passed;
          failures = at.failures;
          utf8 = at.utf8;
          front = subst (λ (ps : List (List ℕ)). IsFront (cut_by rules) ps (chars at.decoded) text) (sym (append-nil all)) at.front;
          wrote = subst (λ (t : List ℕ). Wrote t writer_old writer_last)
              (ap (λ t. page rules width print at.sent ++ t) at.lines_are ∙ sym (flat_map-append (paragraph_bytes rules width print) at.sent at.gathered))
              (Wrote-append writer_old writer_new writer_last (page rules width print at.sent) lines at.wrote wrote);
          lines_are = refl;
          ahead = (ahead_more rules width print reader_old writer_old reader_new at.sent at.gathered sent_ahead).ahead;
        },
        refl,
        refl,
        refl,
      )

  -- no lines are gathered
  module _ (nothing : at.gathered ≡ []) where
    sent_is : at.sent ++ at.gathered ≡ at.sent
    sent_is = ap (λ t. at.sent ++ t) nothing ∙ append-nil at.sent

    pub pars_sent : (after : List ℕ) → front_paragraphs rules (at.decoded ++ after) ≡ at.sent ++ paragraphs (cut_by rules) (text ++ front_of after)
    pars_sent after = pars_are after ∙ ap (λ t. t ++ paragraphs (cut_by rules) (text ++ front_of after)) sent_is

    pub sent_within : are_within at.sent ≡ true
    sent_within = ap are_within (sym sent_is) ∙ at.front.within

    -- if the first paragraph of the remaining text is too long, the run ends with `ParagraphTooLong`
    pub at_long : StartsLong (cut_by rules) text → Stops rules width print reader_old writer_old reader_new writer_new f.ParagraphTooLong (length (concat at.sent))
    at_long starts =
        let bytes = at.decoded ++ rest_of in
        let more = front_of rest_of in
        let pars : front_paragraphs rules bytes ≡ at.sent ++ starts.first more ∷ starts.others more = pars_sent rest_of ∙ ap (λ t. at.sent ++ t) (starts.splits more) in
        let wrong = input_fault AtEnd bytes in
        let written : written_of (front_paragraphs rules bytes) (is_none wrong) ≡ at.sent =
        ap (λ ps. written_of ps (is_none wrong)) pars ∙ written_long at.sent (starts.first more) (starts.others more) (is_none wrong) sent_within (starts.long more) in
        let not_within : are_within (front_paragraphs rules bytes) ≡ false =
        ap are_within pars ∙ within_more at.sent (starts.first more ∷ starts.others more) sent_within ∙ ap (λ (b : Bool). b && are_within (starts.others more)) (starts.long more) in
        record {
          run = λ engine_old engine_new counts. (
            AtEnd,
            bytes,
            gave_all,
            tt,
            tt,
            (
              subst (λ (ps : List (List ℕ)). Prints (length (concat ps)) print engine_old engine_new) (sym written) counts,
              (
                sym (ap (λ (b : Bool). if b then wrong else Some f.ParagraphTooLong) not_within),
                subst (λ (ps : List (List ℕ)). Wrote (page rules width print ps) writer_old writer_new) (sym written) at.wrote,
              ),
            ),
          );
          ahead = ahead_done rules width print reader_old writer_old reader_new writer_new AtEnd bytes at.sent (starts.first more ∷ starts.others more) gave_all pars at.wrote sent_ahead;
        }

    -- if the remaining text has no paragraph boundary, it is the last paragraph, which is not written if the
    -- input has a fault
    open_part : (rest : List ℕ) → IsOpen (cut_by rules) rest → (0 < length rest) ⊎ (at.sent ≡ [])
        → (written_of (at.sent ++ paragraphs (cut_by rules) rest) false ≡ at.sent)
        × (are_within (at.sent ++ paragraphs (cut_by rules) rest) ≡ true)
    open_part [] is_open (inl some) = absurd (omega arith)
    open_part [] is_open (inr none) = (ap (λ ps. written_of (ps ++ []) false) none ∙ sym none, ap (λ ps. are_within (ps ++ [])) none)
    open_part (a ∷ rest) is_open some =
        let pars : paragraphs (cut_by rules) (a ∷ rest) ≡ (a ∷ rest) ∷ [] = is_open.uncut (omega arith) in
        let short : is_within (a ∷ rest) ≡ true = short_is (a ∷ rest) is_open.short in (
          ap (λ ps. written_of (at.sent ++ ps) false) pars ∙ written_part at.sent (a ∷ rest) sent_within short,
          ap (λ ps. are_within (at.sent ++ ps)) pars ∙ within_more at.sent ((a ∷ rest) ∷ []) sent_within ∙ ap (λ (b : Bool). b && true) short,
        )

    text_or_none : (0 < length text) ⊎ (at.sent ≡ [])
    text_or_none = ⊎_elim (λ none. inr (sym sent_is ∙ none)) (λ some. inl some) (gone_on (cut_by rules) (at.sent ++ at.gathered) (chars at.decoded) text at.front)

    -- if no valid characters follow, the run ends with the fault of the input
    pub at_fault : (reader_last : Device) (ending : Ending) (after : List ℕ) (fault : RunFault)
        → Gave reader_old reader_last ending (at.decoded ++ after)
        → IsSent rules width print reader_old writer_old reader_last at.sent → IsOpen (cut_by rules) text
        → utf8_valid_len after ≡ 0
        → input_fault ending (at.decoded ++ after) ≡ Some fault
        → ((written : List (List ℕ)) (wrong : Option RunFault) → Some fault ≡ wrong
        → Wrote (page rules width print written) writer_old writer_new
        → EndsWith (page rules width print) written wrong writer_old writer_new (Some fault))
        → Stops rules width print reader_old writer_old reader_last writer_new fault (length (concat at.sent))
    at_fault reader_last ending after fault gave ahead is_open none wrong_is ends =
        let bytes = at.decoded ++ after in
        let nothing_more : text ++ front_of after ≡ text = ap (λ n. text ++ chars (take n after)) none ∙ ap (λ t. text ++ t) chars-nil ∙ append-nil text in
        let pars : front_paragraphs rules bytes ≡ at.sent ++ paragraphs (cut_by rules) text = pars_sent after ∙ ap (λ t. at.sent ++ paragraphs (cut_by rules) t) nothing_more in
        let part = open_part text is_open text_or_none in
        let written : written_of (front_paragraphs rules bytes) (is_none (input_fault ending bytes)) ≡ at.sent =
        ap (λ (w : Option RunFault). written_of (front_paragraphs rules bytes) (is_none w)) wrong_is ∙ ap (λ ps. written_of ps false) pars ∙ part.0 in
        let within_is : are_within (front_paragraphs rules bytes) ≡ true = ap are_within pars ∙ part.1 in
        let end_is : Some fault ≡ ending_of (front_paragraphs rules bytes) (input_fault ending bytes) =
        sym wrong_is ∙ sym (ap (λ (b : Bool). if b then input_fault ending bytes else Some f.ParagraphTooLong) within_is) in
        record {
          run = λ engine_old engine_new counts. (
            ending,
            bytes,
            gave,
            tt,
            tt,
            (
              subst (λ (ps : List (List ℕ)). HasPrinted (Some fault) (length (concat ps)) print engine_old engine_new) (sym written) counts,
              ends _ _ end_is
                  (subst (λ (ps : List (List ℕ)). Wrote (page rules width print ps) writer_old writer_new) (sym written)
                  at.wrote),
            ),
          );
          ahead = ahead_done rules width print reader_old writer_old reader_last writer_new ending bytes at.sent (paragraphs (cut_by rules) text) gave pars at.wrote ahead;
        }
