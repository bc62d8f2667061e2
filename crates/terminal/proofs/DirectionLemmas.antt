-- The direction of a text.
use Rattle.std.proofs.Common.{◌≡◌, ℕ, ◌+◌, ◌-◌, ◌<◌, ◌≤◌, true, ◌&&◌, List, [], ◌∷◌, ◌++◌, length, map, take, drop, Some, None, refl, sym, subst, ap, ap₂, inl, inr, ◌∙◌, append_assoc, arith, drop-drop}
use Rattle.std.specs.Prelude.{Option, is_some, not}
use Rattle.std.specs.List.{concat, flat_map}
use Rattle.std.proofs.Math.Seq.{take-append-add}
use Rattle.std.proofs.lemmas.Bool.{cases_lt}
use Rattle.std.proofs.lemmas.List.{append-nil, drop-append-le, length-append, length-drop, length-take-le, take-append-drop, take-append-le, take_all}
use Rattle.std.proofs.lemmas.List.Folds.{list_all-append}
use Rattle.ucd.specs.Tables.{class_of}
use Rattle.ucd.specs.declared.tables.Tables.{Tables}
use Rattle.bidi.specs.Base.{first_strong_level}
use Rattle.bidi.specs.Cuts.{paragraphs}
use Rattle.bidi.specs.Pieces.{ParagraphsArePieces}
use Rattle.bidi.specs.declared.base.Base.{Base}
use Rattle.lines.specs.Layouts.{Rules, cut_by}
use Rattle.sequences.specs.Laws.{characters_of}
use Rattle.sequences.specs.Styled.{Pen, START, Style, next_paragraph, pen_at_end, styled}
use Rattle.sequences.specs.StyledTexts.{styled_of}
use Rattle.sequences.specs.declared.style.StyledText.{StyledText}
use Rattle.sequences.proofs.LawLemmas.{shows_the_same}
use Rattle.terminal.specs.Decoding.{text_after}
use Rattle.terminal.specs.Directions.{StartsWith, base_by, direction_of, first_level, or_else, shown_level}
use Rattle.terminal.specs.Ends.{AreNoEnds, IsFirst, IsOpen}
use Rattle.terminal.specs.Passed.{HasPassed}
use Rattle.terminal.specs.RunState.{IsFront, last_characters}
use Rattle.terminal.specs.Searches.{HasSearched, HasSearchedAll, text_direction}
use Rattle.terminal.specs.Texts.{blocks, input_text, shown_blocks}
use Rattle.terminal.specs.declared.direction.Searched.{Searched}
use Rattle.terminal.specs.declared.direction.TheConstants.{FIRST_CHARACTERS}
use Rattle.terminal.specs.declared.form.Escapes.{Escapes}
use Rattle.terminal.proofs.BlockLemmas.{text_characters}
use Rattle.terminal.proofs.KnownEndLemmas.{no_ends_append}
use Rattle.terminal.proofs.PassedLemmas.{held_passed}
use Rattle.terminal.proofs.PushLemmas.{front_join, front_none, front_one}
use Rattle.terminal.proofs.RunLemmas.{end_text}
use Rattle.terminal.proofs.WholeLemmas.{shows_whole}

-- ---- paragraphs

or_assoc : (a b c : Option ℕ) → or_else (or_else a b) c ≡ or_else a (or_else b c)
or_assoc None b c = refl
or_assoc (Some n) b c = refl

level-append : (tables : Tables) (xs ys : List (List ℕ)) → first_level tables (xs ++ ys) ≡ or_else (first_level tables xs) (first_level tables ys)
level-append tables [] ys = refl
level-append tables (x ∷ xs) ys =
    let first = first_strong_level (map (class_of tables) x) in
    ap (or_else first) (level-append tables xs ys) ∙ sym (or_assoc first (first_level tables xs) (first_level tables ys))

-- the level of the characters that a scanner collects from a text is `shown_level` of the text
pub level_shown : (rules : Rules) (text characters : List ℕ) (collected : StyledText) (level : Option ℕ) → styled_of collected ≡ styled START text
    → characters ≡ collected.characters.items → level ≡ first_level rules.tables (paragraphs (cut_by rules) characters) → level ≡ shown_level rules text
unfolding shown_level
level_shown rules text characters collected level s c l =
    l ∙ ap (λ t. first_level rules.tables (paragraphs (cut_by rules) t))
    (c ∙ sym (text_characters collected) ∙ ap characters_of s ∙ shows_the_same START text)

module _ (law : ParagraphsArePieces) (rules : Rules) where
  -- the level of a text is the level of its first block or, if the block has none, the level of the rest
  pub level_split : (text block rest : List ℕ) → blocks (cut_by rules) text ≡ block ∷ blocks (cut_by rules) rest
      → shown_level rules text ≡ or_else (shown_level rules block) (shown_level rules rest)
  unfolding shown_level
  level_split text block rest e =
      let each : List (ℕ × Style) → List (List ℕ) = λ shown. paragraphs (cut_by rules) (characters_of shown) in
      let next : Pen = next_paragraph (pen_at_end START block) in
      let first : List (List ℕ) = each (styled START block) in
      let others : List (List ℕ) = flat_map each (shown_blocks next (blocks (cut_by rules) rest)) in
      let whole = shows_whole law in
      ap (first_level rules.tables) (sym (whole.cuts rules START text) ∙ ap (λ (parts : List (List ℕ)). flat_map each (shown_blocks START parts)) e)
      ∙ level-append rules.tables first others
      ∙ ap₂ or_else (ap (λ t. first_level rules.tables (paragraphs (cut_by rules) t)) (shows_the_same START block)) (ap (first_level rules.tables) (whole.cuts rules next rest))

  -- the blocks before `start` show no strong character
  module _ (now : Rules) (same : now ≡ rules) (old : Searched) (text rest : List ℕ) (h : HasSearched rules old text) (r : rest ≡ drop old.start text) where
    -- ---- the next block
    module _ (n : ℕ) (block : List ℕ) (first : IsFirst (cut_by now) n rest) (b : block ≡ take n rest) where
      first_is : IsFirst (cut_by rules) n (drop old.start text)
      first_is = subst (IsFirst (cut_by rules) n) r (subst (λ (q : Rules). IsFirst (cut_by q) n rest) same first)

      block_is : take n (drop old.start text) ≡ block
      block_is = ap (take n) (sym r) ∙ sym b

      -- the level is the level of the block or, if the block has none, the level of the text after the block
      pub level_found : (found : Option ℕ) → found ≡ shown_level now block → (more : List ℕ)
          → shown_level rules (text ++ more) ≡ or_else found (shown_level rules (drop n (drop old.start text) ++ more))
      level_found found f more =
          h.level more ∙ level_split (drop old.start text ++ more) (take n (drop old.start text)) (drop n (drop old.start text) ++ more) (first_is.block more)
          ∙ ap (λ (level : Option ℕ). or_else level (shown_level rules (drop n (drop old.start text) ++ more)))
          (ap (shown_level rules) block_is ∙ sym (f ∙ ap (λ (q : Rules). shown_level q block) same))

      pub searched_block : (new : Searched) → None ≡ shown_level now block → new.start ≡ old.start + n → new.scanned ≡ 0 → ((t : List ℕ) → HasPassed new.passed t) → HasSearched rules new text
      searched_block new f s z p =
          let rest_is : drop n (drop old.start text) ≡ drop new.start text = drop-drop n old.start text ∙ ap (λ k. drop k text) (sym s) in
          let weak : shown_level rules block ≡ None = sym (f ∙ ap (λ (q : Rules). shown_level q block) same) in
          let one : IsFront (cut_by rules) (block ∷ []) (drop old.start text) (drop n (drop old.start text)) =
          subst (λ (t : List ℕ). IsFront (cut_by rules) (t ∷ []) (drop old.start text) (drop n (drop old.start text))) block_is (front_one (cut_by rules) (drop old.start text) n first_is) in
          record {
            parts = h.parts ++ block ∷ [];
            front = subst (IsFront (cut_by rules) (h.parts ++ block ∷ []) text) rest_is
                (front_join (cut_by rules) h.parts (block ∷ []) text (drop old.start text) (drop n (drop old.start text)) h.front one);
            weak = list_all-append (λ block. not (is_some (shown_level rules block))) h.parts (block ∷ [])
                ∙ ap₂ (λ a b. a && b) h.weak (ap (λ (level : Option ℕ). not (is_some level) && true) weak);
            level = λ more. level_found None f more ∙ ap (λ t. shown_level rules (t ++ more)) rest_is;
            within = omega (arith, s, z, h.within, first_is.within, length-drop old.start text);
            none = λ k below more. absurd (omega (arith, below, z));
            passed = p (drop (new.scanned + 1) (drop new.start text));
          }

    -- `HasSearchedAll` holds if no more blocks have ended
    pub searched_all : (new : Searched) (n : ℕ) → IsOpen (cut_by now) n rest → HasPassed new.passed (drop (n + 1) rest) → new.start ≡ old.start → new.scanned ≡ n → HasSearchedAll rules new text
    searched_all new n o p s z =
        let rest_is : drop old.start text ≡ drop new.start text = ap (λ k. drop k text) (sym s) in
        let is_open : IsOpen (cut_by rules) new.scanned (drop new.start text) =
        subst (IsOpen (cut_by rules) new.scanned) (r ∙ rest_is) (subst (λ k. IsOpen (cut_by rules) k rest) (sym z) (subst (λ (q : Rules). IsOpen (cut_by q) n rest) same o)) in
        record {
          searched = record {
            parts = h.parts;
            front = subst (IsFront (cut_by rules) h.parts text) rest_is h.front;
            weak = h.weak;
            level = λ more. h.level more ∙ ap (λ t. shown_level rules (t ++ more)) rest_is;
            within = omega (arith, s, h.within, is_open.within, length-drop new.start text);
            none = is_open.none;
            passed = subst (λ t. HasPassed new.passed (drop (new.scanned + 1) t)) (r ∙ rest_is) (subst (λ k. HasPassed new.passed (drop (k + 1) rest)) (sym z) p);
          };
          is_open = is_open;
        }

-- ---- how far a text was searched

pub searched_none : (rules : Rules) (searched : Searched) (text : List ℕ) → searched.start ≡ 0 → searched.scanned ≡ 0 → ((t : List ℕ) → HasPassed searched.passed t) → HasSearched rules searched text
searched_none rules searched text s z p =
    let rest_is : text ≡ drop searched.start text = ap (λ k. drop k text) (sym s) in
    record {
      parts = [];
      front = subst (IsFront (cut_by rules) [] text) rest_is (front_none (cut_by rules) text);
      weak = refl;
      level = λ more. ap (λ t. shown_level rules (t ++ more)) rest_is;
      within = omega (arith, s, z);
      none = λ k below more. absurd (omega (arith, below, z));
      passed = p (drop (searched.scanned + 1) (drop searched.start text));
    }

-- the level of a text is that of the text after the blocks that were searched
pub rest_level : (rules : Rules) (searched : Searched) (text : List ℕ) → HasSearched rules searched text → shown_level rules (drop searched.start text) ≡ shown_level rules text
rest_level rules searched text h =
    ap (shown_level rules) (sym (append-nil (drop searched.start text))) ∙ sym (h.level []) ∙ ap (shown_level rules) (append-nil text)

-- `HasSearched` still holds when more text follows
searched_append : (rules : Rules) (searched : Searched) (text more : List ℕ) → HasSearched rules searched text → HasSearched rules searched (text ++ more)
searched_append rules searched text more h =
    let rest = drop searched.start text in
    let rest_is : rest ++ more ≡ drop searched.start (text ++ more) = sym (drop-append-le searched.start text more (omega (arith, h.within))) in
    let within : searched.scanned ≤ length rest = omega (arith, h.within, length-drop searched.start text) in
    record {
      parts = h.parts;
      front = subst (IsFront (cut_by rules) h.parts (text ++ more)) rest_is (record {
        whole = ap (λ t. t ++ more) h.front.whole ∙ append_assoc (concat h.parts) rest more;
        cuts = λ last.
            ap (blocks (cut_by rules)) (append_assoc text more last) ∙ h.front.cuts (more ++ last)
            ∙ ap (λ t. h.parts ++ blocks (cut_by rules) t) (sym (append_assoc rest more last));
      });
      weak = h.weak;
      level = λ last.
          ap (shown_level rules) (append_assoc text more last) ∙ h.level (more ++ last)
          ∙ ap (shown_level rules) (sym (append_assoc rest more last) ∙ ap (λ t. t ++ last) rest_is);
      within = omega (arith, h.within, length-append text more);
      none = subst (AreNoEnds (cut_by rules) searched.scanned) rest_is (no_ends_append (cut_by rules) searched.scanned rest more within h.none);
      passed = subst (λ t. HasPassed searched.passed (drop (searched.scanned + 1) t)) rest_is (held_passed searched.passed searched.scanned rest more within h.passed);
    }

-- `HasSearched` also holds for the first `FIRST_CHARACTERS` characters of the text after more text is
-- appended
pub searched_cut : (rules : Rules) (searched : Searched) (text more all cut : List ℕ) → HasSearched rules searched text → length text < FIRST_CHARACTERS → all ≡ text ++ more
    → cut ≡ take FIRST_CHARACTERS all → HasSearched rules searched cut
searched_cut rules searched text more all cut h few a c =
    let m = FIRST_CHARACTERS - length text in
    let count : FIRST_CHARACTERS ≡ length text + m = omega (arith, few) in
    let cut_is : cut ≡ text ++ take m more = c ∙ ap (take FIRST_CHARACTERS) a ∙ ap (λ k. take k (text ++ more)) count ∙ take-append-add text more m in
    subst (HasSearched rules searched) (sym cut_is) (searched_append rules searched text (take m more) h)

-- ---- the direction of a text that more characters follow
pub known_early : (rules : Rules) (text : List ℕ) (level : ℕ) (base : Base) → length text ≤ FIRST_CHARACTERS → ((more : List ℕ) → shown_level rules (text ++ more) ≡ Some level)
    → base ≡ base_by (Some level) → (more : List ℕ) → base ≡ text_direction rules (text ++ more)
known_early rules text level base few known b more =
    let m = FIRST_CHARACTERS - length text in
    let count : length text + m ≡ FIRST_CHARACTERS = omega (arith, few) in
    b ∙ ap base_by (sym (known (take m more))) ∙ ap (λ t. base_by (shown_level rules t)) (sym (take-append-add text more m))
    ∙ ap (λ k. base_by (shown_level rules (take k (text ++ more)))) count

-- if a text has `FIRST_CHARACTERS` characters, its direction is the same whatever follows
pub known_late : (rules : Rules) (text : List ℕ) (base : Base) → length text ≡ FIRST_CHARACTERS → base ≡ base_by (shown_level rules text)
    → (more : List ℕ) → base ≡ text_direction rules (text ++ more)
known_late rules text base many b more =
    b ∙ ap (λ t. base_by (shown_level rules t)) (sym (take_all FIRST_CHARACTERS text (omega (arith, many))) ∙ sym (take-append-le FIRST_CHARACTERS text more (omega (arith, many))))

-- a direction that is known for the first characters is known for the whole text
pub known_cut : (rules : Rules) (text cut : List ℕ) (base : Base) → cut ≡ take FIRST_CHARACTERS text → ((more : List ℕ) → base ≡ text_direction rules (cut ++ more))
    → (more : List ℕ) → base ≡ text_direction rules (text ++ more)
known_cut rules text cut base c known more =
    let rest = drop FIRST_CHARACTERS text in
    known (rest ++ more) ∙ ap (text_direction rules) (sym (append_assoc cut rest more) ∙ ap (λ t. (t ++ rest) ++ more) c ∙ ap (λ t. t ++ more) (take-append-drop FIRST_CHARACTERS text))

-- if the shortened text has fewer than `FIRST_CHARACTERS` characters, it is the whole text
pub few_cut : (text cut : List ℕ) → cut ≡ take FIRST_CHARACTERS text → length cut < FIRST_CHARACTERS → (cut ≡ text) × (length text < FIRST_CHARACTERS)
few_cut text cut c few =
    let short : length text < FIRST_CHARACTERS = elim (cases_lt (length text) FIRST_CHARACTERS) [
      | inl less ↦ less
      | inr over ↦ absurd (omega (arith, few, ap length c, length-take-le FIRST_CHARACTERS text (omega (arith, over))))
    ] in
    (c ∙ take_all FIRST_CHARACTERS text (omega (arith, short)), short)

-- ---- the start of an input

pub whole_text : (escapes : Escapes) (bytes text : List ℕ) (n waiting : ℕ) → StartsWith escapes bytes n text → waiting ≡ length bytes - n
    → input_text escapes bytes ≡ text ++ last_characters waiting
whole_text escapes bytes text n waiting s w =
    ap (input_text escapes) (sym (append-nil bytes)) ∙ s.begins [] ∙ ap (λ t. text ++ text_after escapes s.started t) (append-nil (drop n bytes))
    ∙ ap (λ t. text ++ t) (end_text escapes s.started (drop n bytes) waiting (omega (arith, length-drop n bytes, w)) s.rest)

-- a direction that is known for the first characters is the direction of the input, whatever follows
pub known_start : (rules : Rules) (escapes : Escapes) (bytes text cut : List ℕ) (n : ℕ) (base : Base) → StartsWith escapes bytes n text → cut ≡ take FIRST_CHARACTERS text
    → ((more : List ℕ) → base ≡ text_direction rules (cut ++ more)) → (more : List ℕ) → base ≡ direction_of rules escapes (bytes ++ more)
known_start rules escapes bytes text cut n base s c known more =
    known_cut rules text cut base c known (text_after escapes s.started (drop n bytes ++ more)) ∙ ap (text_direction rules) (sym (s.begins more))
