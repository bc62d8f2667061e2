-- If a write fails, the counters include all paragraphs whose lines were being written.
use Rattle.std.proofs.Common.{◌≡◌, ◌⊎◌, inl, inr, ⊎_elim, ℕ, ◌+◌, ◌*◌, ◌<◌, ◌≤◌, ◌==◌, Bool, true, false, List, [], ◌∷◌, ◌++◌, length, take, Option, Some, None, encode_utf8_all, refl, sym, subst, ap, ◌∙◌, arith, true≢false, if◌then◌else◌}
use Rattle.std.specs.Prelude.{is_some}
use Rattle.std.specs.List.{concat}
use Rattle.std.specs.Str.Lossy.{utf8_error_len}
use Rattle.std.specs.Io.KnownBytes.{IsAtEnd}
use Rattle.std.proofs.lemmas.Bool.Decides.{nat_tests}
use Rattle.std.proofs.Math.Seq.{take-append_seam, take-append-add}
use Rattle.std.proofs.lemmas.List.{append-nil, length-append}
use Rattle.std.proofs.lemmas.Grind.{flat_map-append}
use Rattle.std.proofs.lemmas.Str.{len_utf8_bounds, length-encode}
use Rattle.bidi.specs.Cuts.{paragraphs}
use Rattle.device.specs.Device.{Device, StoppedAt, Took, Wrote}
use Rattle.lines.specs.Engine.{Prints}
use Rattle.lines.specs.Layouts.{Rules, cut_by}
use Rattle.lines.specs.Pages.{page, paragraph_bytes}
use Rattle.lines.specs.declared.engine.Engine.{Engine}
use Rattle.lines.specs.declared.printing.print.Print.{Print}
use Rattle.text_run.specs.TextRun.{front_paragraphs, HasRead, HasStopped}
use Rattle.text_run.specs.Streaming.{IsOpen}
use Rattle.text_run.proofs.RemainderLemmas.{last_pars, not_none}
use Rattle.text_run.proofs.StreamLemmas.{FailedLast-after, Took-append}
use Rattle.stream.proofs.Utf8Lemmas.{utf8_error_len-nil}
use lib.Utf8.{encode}

-- a character has at most 4 bytes in UTF-8
pub encoded_len : (cs : List ℕ) → length (encode_utf8_all cs) ≤ 4 * length cs
encoded_len [] = omega arith
encoded_len (c ∷ cs) = omega (arith, length-append (encode c) (encode_utf8_all cs), length-encode c, (len_utf8_bounds c).1, encoded_len cs)

pub not_all : (m n : ℕ) → m < n → (m == n) ≡ false
not_all m n less = grind (arith, nat_tests)

pub is_all : (m n : ℕ) → m ≡ n → (m == n) ≡ true
is_all m n is = grind (arith, nat_tests)

pub not_bad : (bytes : List ℕ) → is_some (utf8_error_len bytes) ≡ false → utf8_error_len bytes ≡ None
not_bad bytes good = go (utf8_error_len bytes) good
  where
    go : (o : Option ℕ) → is_some o ≡ false → o ≡ None
    go None is = refl
    go (Some n) is = absurd (true≢false is)

pub some_bad : (bytes : List ℕ) → is_some (utf8_error_len bytes) ≡ true → 0 < length bytes
some_bad [] bad = absurd (true≢false (sym bad ∙ ap is_some utf8_error_len-nil))
some_bad (b ∷ bytes) bad = omega arith

-- if a concatenation is empty, its second list is empty
pub append_end : {A : Type 0} (xs ys : List A) → xs ++ ys ≡ [] → ys ≡ []
append_end [] ys is = is
append_end (x ∷ xs) ys is = absurd cc

-- a text without a paragraph boundary has the same number of characters as its paragraphs together
pub last_len : (text : List ℕ) → length (concat (if length text == 0 then [] else text ∷ [])) ≡ length text
last_len [] = refl
last_len (a ∷ text) =
    let filled : (length (a ∷ text) == 0) ≡ false = not_none (a ∷ text) (omega arith) in
    ap (λ (b : Bool). length (concat (if b then [] else (a ∷ text) ∷ []))) filled ∙ ap length (append-nil (a ∷ text))

-- a non-empty text without a paragraph boundary is one paragraph
pub one_par : (rules : Rules) (text : List ℕ) → IsOpen (cut_by rules) text → 0 < length text → length (paragraphs (cut_by rules) text) ≡ 1
one_par rules text is_open some =
    ap length (last_pars rules text is_open) ∙ ap (λ (b : Bool). length (if b then [] else text ∷ [])) (not_none text some)

module _ (rules : Rules) (width : ℕ) (print : Print) (reader_old writer_old : Device) (engine_old : Engine) (reader_new writer_mid writer_new : Device) (engine_new : Engine) where
  -- if the lines of the first paragraphs were written, and the sink failed within those of the next ones,
  -- `HasStopped` holds
  pub stopped_in : (bytes : List ℕ) → HasRead reader_old reader_new bytes → (sent gathered others : List (List ℕ)) → front_paragraphs rules bytes ≡ (sent ++ gathered) ++ others
      → (length others ≡ 1) ⊎ ((length others ≡ 0) × IsAtEnd reader_new.bytes)
      → Wrote (page rules width print sent) writer_old writer_mid → (m n : ℕ) → StoppedAt m (page rules width print gathered) writer_mid writer_new
      → n ≡ length (page rules width print sent) + m → Prints (length (concat (sent ++ gathered))) print engine_old engine_new
      → HasStopped rules width print reader_old reader_new writer_old writer_new engine_old engine_new n
  stopped_in bytes read sent gathered others pars which wrote m n stopped n_is counts =
      let all = sent ++ gathered in
      let front = page rules width print sent in
      let lines = page rules width print gathered in
      let pars_taken : take (length all) (front_paragraphs rules bytes) ≡ all = ap (take (length all)) pars ∙ take-append_seam all others in
      let pages : page rules width print all ≡ front ++ lines = flat_map-append (paragraph_bytes rules width print) sent gathered in
      let took : Took writer_old writer_new (front ++ take m lines) = Took-append writer_old writer_mid writer_new front (take m lines) wrote.0 stopped.1 in
      let taken : take n (front ++ lines) ≡ front ++ take m lines = ap (λ k. take k (front ++ lines)) n_is ∙ take-append-add front lines m in
      let less : n < length (front ++ lines) = omega (arith, n_is, stopped.0, length-append front lines) in
      let stopped_all : StoppedAt n (front ++ lines) writer_old writer_new =
      (less, subst (Took writer_old writer_new) (sym taken) took, FailedLast-after writer_old writer_mid writer_new wrote.1 stopped.2) in (
        bytes,
        read,
        (
          length all,
          ⊎_elim (λ one. inl (omega (arith, ap length pars, length-append all others, one)))
              (λ none. inr (omega (arith, ap length pars, length-append all others, none.0), none.1)) which,
          subst (λ (ps : List (List ℕ)). StoppedAt n (page rules width print ps) writer_old writer_new) (sym pars_taken)
              (subst (λ (t : List ℕ). StoppedAt n t writer_old writer_new) (sym pages) stopped_all),
          subst (λ (ps : List (List ℕ)). Prints (length (concat ps)) print engine_old engine_new) (sym pars_taken) counts,
        ),
      )
