-- Scanning the text after a CR, one part after another.
use Rattle.std.proofs.Common.{◌≡◌, ℕ, ◌+◌, ◌<◌, ◌≤◌, ◌==◌, Bool, true, false, ◌&&◌, List, [], ◌∷◌, ◌++◌, length, take, drop, get_or, Some, None, refl, sym, subst, ap, ap₂, inl, inr, ◌∙◌, append_assoc, arith, drop-drop}
use Rattle.std.proofs.lemmas.Bool.{cases_Bool, cases_lt, cond-true, cond-false, false≢true}
use Rattle.std.proofs.lemmas.List.{append-nil, drop-append-le, drop_all, get_or_append_left, length-append, length-drop, take-append-drop, take-append-le, take_all}
use Rattle.sequences.specs.Characters.{is_c1_introducer, is_dropped}
use Rattle.sequences.specs.Known.{knows_sequence}
use Rattle.sequences.specs.Progress.{after_all, is_known}
use Rattle.sequences.specs.Sequences.{sequence_len}
use Rattle.sequences.specs.Styled.{more_len}
use Rattle.sequences.specs.declared.known.Progress.{Progress}
use Rattle.sequences.specs.declared.known.Progress.TheVariants.{Start}
use Rattle.sequences.proofs.KnownLemmas as known
use Rattle.sequences.proofs.PlainLemmas.{escape_is_dropped, introducer_is_dropped}
use Rattle.sequences.proofs.ProgressLemmas.{after_all-append, known_all, start_tells}
use Rattle.terminal.specs.Ends.{knows_after, knows_next}
use Rattle.terminal.specs.Passed.{HasPassed, Skips}
use Rattle.terminal.specs.Texts.{next_character}
use Rattle.terminal.specs.declared.passed.Passed.{Passed}
use Rattle.terminal.proofs.EndLemmas.{control_skipped, sequence_skipped}
use Rattle.terminal.proofs.KnownEndLemmas.{control_known, sequence_known}

-- ---- parts that are known

sure_more : (text more : List ℕ) → knows_sequence text ≡ true → knows_sequence (text ++ more) ≡ true
sure_more text more sure =
    let is : is_known (after_all Start text) ≡ true = start_tells text ∙ sure in
    sym (start_tells (text ++ more)) ∙ ap is_known (after_all-append Start text more ∙ known_all (after_all Start text) more is) ∙ is

skips_by : (text : List ℕ) (n : ℕ) → n ≤ length text → ((more : List ℕ) → next_character (text ++ more) ≡ next_character (drop n (text ++ more)))
    → ((more : List ℕ) → knows_next (text ++ more) ≡ (knows_sequence (text ++ more) && knows_next (drop n (text ++ more)))) → knows_sequence text ≡ true → Skips n text
skips_by text n within next knows sure = record {
  next = λ more. next more ∙ ap next_character (drop-append-le n text more within);
  known = λ more. knows more ∙ ap₂ (λ (b : Bool) (t : List ℕ). b && knows_next t) (sure_more text more sure) (drop-append-le n text more within);
}

some_more : (text more : List ℕ) → 0 < length text → 0 < length (text ++ more)
some_more text more some = omega (arith, some, length-append text more)

pub sequence_skips : (text : List ℕ) (n : ℕ) → 0 < length text → Some n ≡ sequence_len text → 0 < n → n ≤ length text → knows_sequence text ≡ true → Skips n text
sequence_skips text n some e pos within sure =
    let len : (more : List ℕ) → Some n ≡ sequence_len (text ++ more) = λ more. e ∙ sym (known.sequence_known more text sure) in
    skips_by text n within (λ more. sequence_skipped (text ++ more) n (some_more text more some) (len more) pos)
    (λ more. sequence_known (text ++ more) n (some_more text more some) (len more) pos) sure

pub control_skips : (text : List ℕ) → 0 < length text → None ≡ sequence_len text → is_dropped (get_or text 0 0) ≡ true → knows_sequence text ≡ true → Skips 1 text
control_skips text some e dropped sure =
    let none : (more : List ℕ) → None ≡ sequence_len (text ++ more) = λ more. e ∙ sym (known.sequence_known more text sure) in
    let first : (more : List ℕ) → is_dropped (get_or (text ++ more) 0 0) ≡ true = λ more. ap is_dropped (get_or_append_left text more 0 0 some) ∙ dropped in
    skips_by text 1 (omega (arith, some)) (λ more. control_skipped (text ++ more) (some_more text more some) (none more) (first more))
    (λ more. control_known (text ++ more) (some_more text more some) (none more) (first more)) sure

-- if the sequence at the start of a text is not known, neither is the next character
pub unsure_next : (text : List ℕ) → 0 < length text → knows_sequence text ≡ false → knows_next text ≡ false
unsure_next [] some unsure = absurd (omega (arith, some))
unsure_next (c ∷ text) some unsure =
    elim (cases_Bool (is_dropped c)) [
      | inl y ↦ cond-true (is_dropped c) _ _ y ∙ ap (λ (b : Bool). b && knows_after (more_len c text) text) unsure
      | inr n ↦ absurd (false≢true (sym unsure ∙ kept n))
    ]
  where
    kept : is_dropped c ≡ false → knows_sequence (c ∷ text) ≡ true
    kept e = cond-false (c == 0x1B) _ _ (escape_is_dropped c e) ∙ cond-false (is_c1_introducer c) _ _ (introducer_is_dropped c e)

-- ---- how far a text was scanned

pub nothing_passed : (passed : Passed) (text : List ℕ) → passed.start ≡ 0 → passed.scanned ≡ 0 → passed.progress ≡ Start → HasPassed passed text
nothing_passed passed text s n p = record {
  within = omega (arith, s, n);
  skips = subst (λ (k : ℕ). Skips k text) (sym s) (record { next = λ more. refl; known = λ more. refl });
  progress = p ∙ sym (ap (λ (k : ℕ). after_all Start (take k (drop passed.start text))) n);
}

-- the next character of a text is the next character of the text from `start` on
pub part_next : (passed : Passed) (text part : List ℕ) → HasPassed passed text → part ≡ drop passed.start text → next_character text ≡ next_character part
part_next passed text part h p =
    ap next_character (sym (append-nil text)) ∙ h.skips.next [] ∙ ap next_character (append-nil (drop passed.start text) ∙ sym p)

pub part_knows : (passed : Passed) (text part : List ℕ) → HasPassed passed text → part ≡ drop passed.start text → knows_next text ≡ knows_next part
part_knows passed text part h p = ap knows_next (sym (append-nil text)) ∙ h.skips.known [] ∙ ap knows_next (append-nil (drop passed.start text) ∙ sym p)

module _ (old new : Passed) (text part : List ℕ) (h : HasPassed old text) (p : part ≡ drop old.start text) where
  size : length part + old.start ≡ length text
  size = omega (arith, ap length p, length-drop old.start text, h.within)

  -- `HasPassed` still holds after the scan skips a part
  pub part_passed : (n : ℕ) → n ≤ length part → Skips n part → new.start ≡ old.start + n → new.scanned ≡ 0 → new.progress ≡ Start → HasPassed new text
  part_passed n within skips s z q =
      let rest : drop n part ≡ drop new.start text = ap (drop n) p ∙ drop-drop n old.start text ∙ ap (λ (k : ℕ). drop k text) (sym s) in
      record {
        within = omega (arith, s, z, within, size);
        skips = record {
          next = λ more.
              h.skips.next more ∙ ap (λ (t : List ℕ). next_character (t ++ more)) (sym p) ∙ skips.next more
              ∙ ap (λ (t : List ℕ). next_character (t ++ more)) rest;
          known = λ more.
              h.skips.known more ∙ ap (λ (t : List ℕ). knows_next (t ++ more)) (sym p) ∙ skips.known more
              ∙ ap (λ (t : List ℕ). knows_next (t ++ more)) rest;
        };
        progress = q ∙ sym (ap (λ (k : ℕ). after_all Start (take k (drop new.start text))) z);
      }

  scanned_all : (more : List ℕ) → more ≡ drop old.scanned part → after_all old.progress more ≡ after_all Start part
  scanned_all more m =
      let first = take old.scanned part in
      ap₂ (λ (a : Progress) (t : List ℕ). after_all a t) (h.progress ∙ ap (λ (t : List ℕ). after_all Start (take old.scanned t)) (sym p)) m
      ∙ sym (after_all-append Start first (drop old.scanned part)) ∙ ap (after_all Start) (take-append-drop old.scanned part)

  -- `HasPassed` still holds after the rest of the part is scanned
  pub scanned_passed : (more : List ℕ) → more ≡ drop old.scanned part → new.start ≡ old.start → new.scanned ≡ length part → new.progress ≡ after_all old.progress more → HasPassed new text
  scanned_passed more m s n q =
      let whole : take new.scanned (drop new.start text) ≡ part =
      ap₂ (λ (k : ℕ) (t : List ℕ). take k t) n (ap (λ (k : ℕ). drop k text) s ∙ sym p) ∙ take_all (length part) part (omega arith) in
      record {
        within = omega (arith, s, n, size);
        skips = subst (λ (k : ℕ). Skips k text) (sym s) h.skips;
        progress = q ∙ scanned_all more m ∙ ap (after_all Start) (sym whole);
      }

  -- after this scan, its state shows whether the end of the part is known
  pub scanned_knows : (more : List ℕ) → more ≡ drop old.scanned part → knows_sequence part ≡ is_known (after_all old.progress more)
  scanned_knows more m = sym (start_tells part) ∙ ap is_known (sym (scanned_all more m))

-- ---- more text follows

passed_append : (passed : Passed) (text more : List ℕ) → HasPassed passed text → HasPassed passed (text ++ more)
passed_append passed text more h =
    let start : passed.start ≤ length text = omega (arith, h.within) in
    let rest : drop passed.start (text ++ more) ≡ drop passed.start text ++ more = drop-append-le passed.start text more start in
    record {
      within = omega (arith, h.within, length-append text more);
      skips = record {
        next = λ last.
            ap next_character (append_assoc text more last) ∙ h.skips.next (more ++ last)
            ∙ ap next_character (sym (append_assoc (drop passed.start text) more last) ∙ ap (λ (t : List ℕ). t ++ last) (sym rest));
        known = λ last.
            ap knows_next (append_assoc text more last) ∙ h.skips.known (more ++ last)
            ∙ ap knows_next (sym (append_assoc (drop passed.start text) more last) ∙ ap (λ (t : List ℕ). t ++ last) (sym rest));
      };
      progress = h.progress
          ∙ ap (after_all Start) (sym (ap (take passed.scanned) rest
          ∙ take-append-le passed.scanned (drop passed.start text) more (omega (arith, h.within, length-drop passed.start text))));
    }

-- `HasPassed` still holds for the text after a character when more text follows
pub held_passed : (passed : Passed) (n : ℕ) (text more : List ℕ) → n ≤ length text → HasPassed passed (drop (n + 1) text) → HasPassed passed (drop (n + 1) (text ++ more))
held_passed passed n text more within h =
    elim (cases_lt n (length text)) [
      | inl less ↦ subst (HasPassed passed) (sym (drop-append-le (n + 1) text more (omega (arith, less)))) (passed_append passed (drop (n + 1) text) more h)
      | inr over ↦ none (subst (HasPassed passed) (drop_all (n + 1) text (omega (arith, over))) h)
    ]
  where
    none : HasPassed passed [] → HasPassed passed (drop (n + 1) (text ++ more))
    none empty =
        let zero_is : passed.scanned ≡ 0 = omega (arith, empty.within) in
        nothing_passed passed (drop (n + 1) (text ++ more)) (omega (arith, empty.within)) zero_is
        (empty.progress ∙ ap (λ (k : ℕ). after_all Start (take k (drop passed.start []))) zero_is)
