-- The lines of all paragraphs at another width.
use Rattle.std.proofs.Common.{◌≡◌, ℕ, zero, suc, ◌+◌, ◌<◌, ◌≤◌, ◌^◌, ◌==◌, Bool, true, false, if◌then◌else◌, List, [], ◌∷◌, ◌++◌, length, map, take, get_or, sum_by, nat_le, Option, Some, None, unwrap_or, IfSome, refl, sym, ap, ap₂, subst, ◌∙◌, arith}
use Rattle.std.specs.Borrow.{Bor}
use Rattle.std.specs.List.{All, AllZip, concat, slice_get, slice_index_or}
use Rattle.std.proofs.lemmas.Bool.{and_parts, leb-true, cond-false, cond-true, ne_eqb}
use Rattle.std.proofs.lemmas.List.{append-nil, get_or-map, length-map, take_all, take_more}
use Rattle.std.proofs.lemmas.List.Sums.{sum_by_more, sum_by-cons, sum_by-take-le}
use Rattle.bidi.specs.Cuts.{paragraphs}
use Rattle.bidi.specs.Pieces.{ArePieces, ParagraphsArePieces}
use Rattle.lines.specs.Engine.{rules_of, filled_of, counted, RisesBy, SameRules, Fills, FillsAtMost, FindsExtents, FindsExtentsAtMost, Rewrites, RewritesAtMost}
use Rattle.lines.specs.Extents.{LineExtents}
use Rattle.lines.specs.Layouts.{Layout, Rules, IsLaidAt, IsParagraph, cut_by, keeps_lines, layout_of, lines_of, with_advances}
use Rattle.lines.specs.declared.engine.Engine.{Engine}
use Rattle.store.specs.Exchanging.{pairwise, total_cost}
use Rattle.session.specs.Sessions.{IsWholeLayout, SetsWidth, state_of}
use Rattle.session.specs.Edits.{are_within, content_refusal, width_refusal}
use Rattle.lines.proofs.LayoutLemmas.{reflowed_by}
use Rattle.session.specs.Kept.{advance_lists, advances_in, back_advances, changed, changed_in, front_advances, text_of, layouts_from, layouts_of, put_into, rules_for, written_for, AreForEach, BringsTo, CanBePut, IsFresh, Writer}
use Rattle.session.specs.declared.edits.EditFault.TheVariants.{WidthOutOfRange}
use Rattle.session.proofs.BorderLemmas.{chars_of, lines_of as line_number, length-text, length-lines}
use Rattle.session.proofs.AdvanceLemmas.{advances-layouts}
use Rattle.session.proofs.EditLemmas.{LinesAreFew, few-laid, text-layouts, IsWholeLayout-same}
use Rattle.session.proofs.JoinedLemmas.{first_piece}
use Rattle.session.proofs.OpenLemmas.{positive}
use Rattle.session.proofs.RefusalLemmas.{allowed-length, allowed-within_limit}
use Rattle.lines.specs.declared.engine.TheConstants.{PARAGRAPH_LIMIT}

-- whether `P` holds for each item of a list
abbrev pub Each : {A : Type 0} → (A → Type 0) → List A → Type 0
Each P [] = Unit {0}
Each P (x ∷ xs) = P x × Each P xs

-- if no paragraph of a text is too long, each one satisfies `IsParagraph`, and its fresh layout satisfies
-- `IsFresh`
rest_pieces : (is_cut : ℕ → ℕ → Bool) (piece : List ℕ) (pieces : List (List ℕ)) → ArePieces is_cut (piece ∷ pieces) → ArePieces is_cut pieces
rest_pieces is_cut piece [] h = tt
rest_pieces is_cut piece (next ∷ pieces) h = h.2

all_paragraphs : ParagraphsArePieces → (rules : Rules) (pars : List (List ℕ)) → ArePieces (cut_by rules) pars → are_within pars ≡ true → Each (IsParagraph rules) pars
all_paragraphs law rules [] h within = tt
all_paragraphs law rules (p ∷ pars) h within =
    let parts = and_parts (nat_le (length p) PARAGRAPH_LIMIT) (are_within pars) within in (
      record {
        whole = ap (paragraphs (cut_by rules)) (sym (append-nil p)) ∙ law.only (cut_by rules) (p ∷ []) (first_piece (cut_by rules) p pars h);
        within = leb-true (length p) PARAGRAPH_LIMIT parts.0;
      },
      all_paragraphs law rules pars (rest_pieces (cut_by rules) p pars h) parts.1,
    )

all_laid_out : (rules : Rules) (width : ℕ) (advances : Option (List ℕ)) (pars : List (List ℕ)) → Each (IsParagraph rules) pars → Each (IsFresh rules) (layouts_from (with_advances rules None) width advances pars)
all_laid_out rules width advances [] h = tt
all_laid_out rules width advances (p ∷ pars) h =
    (record { width = width; paragraph = record { whole = h.0.whole; within = h.0.within }; from_scratch = refl }, all_laid_out rules width (back_advances (length p) advances) pars h.1)

pub each_laid_out : ParagraphsArePieces → (engine : Engine) (width : ℕ) (is_measured : Bool) (kept : List Layout)
    → IsWholeLayout (state_of engine width is_measured kept) → Each (IsFresh (rules_of engine)) kept
each_laid_out law engine width is_measured kept whole =
    let rules = rules_of engine in
    let advances = advances_in is_measured kept in
    let pars = paragraphs (cut_by rules) (text_of kept) in
    subst (Each (IsFresh rules)) (sym whole.kept)
    (all_laid_out rules width advances pars
    (all_paragraphs law rules pars (law.pieces (cut_by rules) (text_of kept)) (allowed-within_limit (cut_by rules) advances (text_of kept) whole.allowed)))

-- each paragraph is laid out at the session's width
all_laid_at : (rules : Rules) (width : ℕ) (advances : Option (List ℕ)) (pars : List (List ℕ)) → Each (IsParagraph rules) pars
    → Each (λ kept. IsLaidAt (rules_for rules kept) width kept) (layouts_from (with_advances rules None) width advances pars)
all_laid_at rules width advances [] h = tt
all_laid_at rules width advances (p ∷ pars) h =
    (record { paragraph = record { whole = h.0.whole; within = h.0.within }; from_scratch = refl }, all_laid_at rules width (back_advances (length p) advances) pars h.1)

pub each_laid_at : ParagraphsArePieces → (engine : Engine) (width : ℕ) (is_measured : Bool) (kept : List Layout)
    → IsWholeLayout (state_of engine width is_measured kept) → Each (λ l. IsLaidAt (rules_for (rules_of engine) l) width l) kept
each_laid_at law engine width is_measured kept whole =
    let rules = rules_of engine in
    let advances = advances_in is_measured kept in
    let pars = paragraphs (cut_by rules) (text_of kept) in
    subst (Each (λ l. IsLaidAt (rules_for rules l) width l)) (sym whole.kept)
    (all_laid_at rules width advances pars
    (all_paragraphs law rules pars (law.pieces (cut_by rules) (text_of kept)) (allowed-within_limit (cut_by rules) advances (text_of kept) whole.allowed)))

pub all_read : {A : Type 0} (P : A → Type 0) (xs : List A) (i : ℕ) (x : A) → Each P xs → Some x ≡ slice_get xs i → P x
all_read P [] i x h e = absurd (cc e)
all_read P (y ∷ xs) zero x h e = subst P (sym (ap (λ o. unwrap_or o x) e)) h.0
all_read P (y ∷ xs) (suc i) x h e = all_read P xs i x h.1 e

pub none_read : {A : Type 0} (xs : List A) (i : ℕ) → None ≡ slice_get xs i → i < length xs → ⊥
none_read [] i e within = omega arith
none_read (x ∷ xs) zero e within = cc e
none_read (x ∷ xs) (suc i) e within = none_read xs i e (omega arith)

pub all_each : {A : Type 0} (P : A → Type 0) (xs : List A) → Each P xs → All P xs
all_each P [] h k d within = absurd (omega (arith, within))
all_each P (x ∷ xs) h zero d within = h.0
all_each P (x ∷ xs) h (suc k) d within = all_each P xs h.1 k d (omega (arith, within))

each_push : {A : Type 0} (P : A → Type 0) (xs : List A) (x : A) → Each P xs → P x → Each P (xs ++ x ∷ [])
each_push P [] x h this = (this, tt)
each_push P (y ∷ xs) x h this = (h.0, each_push P xs x h.1 this)

-- whether the scratch space has enough capacity for a paragraph
abbrev pub HasRoom : ℕ → Layout → Type 0
HasRoom capacity l = length l.text ≤ capacity

more_room : (most more : ℕ) (kept : List Layout) → most ≤ more → Each (HasRoom most) kept → Each (HasRoom more) kept
more_room most more [] order h = tt
more_room most more (l ∷ kept) order h = (omega (arith, order, h.0), more_room most more kept order h.1)

pub roomy_more : (kept : List Layout) (n most more : ℕ) (l : Layout) → n < length kept → get_or kept n l ≡ l → most ≤ more → length l.text ≤ more
    → Each (HasRoom most) (take n kept) → Each (HasRoom more) (take (n + 1) kept)
roomy_more kept n most more l below item order this so_far =
    rw (take_more kept n l below, item) (each_push (HasRoom more) (take n kept) l (more_room most more (take n kept) order so_far) this)

pub all_roomy : (kept : List Layout) (n most : ℕ) → length kept ≤ n → Each (HasRoom most) (take n kept) → All (HasRoom most) kept
all_roomy kept n most last so_far = all_each (HasRoom most) kept (subst (Each (HasRoom most)) (take_all n kept last) so_far)

-- the items to which a list of references refers
abbrev pub values : List (Bor Layout) → List Layout
values list = map (λ k. k.now) list

pub all_listed : (list : List (Bor Layout)) (n : ℕ) → length list ≤ n → length (values list) ≤ n
all_listed list n last = omega (arith, last, length-map list (λ (k : Bor Layout). k.now))

module _ (list : List (Bor Layout)) (n : ℕ) (x : Bor Layout) (l : Layout) (below : n < length list) (is : x ≡ slice_index_or list n x) (same : l ≡ x.now) where
  pub read_here : n < length (values list)
  read_here = omega (arith, below, length-map list (λ (k : Bor Layout). k.now))

  pub read_item : get_or (values list) n l ≡ l
  read_item = get_or-map (λ (k : Bor Layout). k.now) list n x l below ∙ ap (λ (k : Bor Layout). k.now) (sym is) ∙ sym same

  pub read_laid : (start now : Engine) → SameRules start now → All (IsFresh (rules_of start)) (values list) → IsFresh (rules_of now) l
  read_laid start now rules all = subst (λ r. IsFresh r l) (sym rules) (subst (IsFresh (rules_of start)) read_item (all n l read_here))

-- if two lists are related item by item, they are still related after a related pair is appended
zip_push : {A B : Type 0} (R : A → B → Type 0) (xs : List A) (ys : List B) (x : A) (y : B) → AllZip R xs ys → R x y → AllZip R (xs ++ x ∷ []) (ys ++ y ∷ [])
zip_push R [] [] x y all more = (more, tt)
zip_push R [] (b ∷ ys) x y all more = absurd all
zip_push R (a ∷ xs) [] x y all more = absurd all
zip_push R (a ∷ xs) (b ∷ ys) x y all more = (all.0, zip_push R xs ys x y all.1 more)

-- a width change refills at most as many characters as the text has
none_or_all : (keeps : Bool) (n : ℕ) → (if keeps then 0 else n) ≤ n
none_or_all true n = omega arith
none_or_all false n = omega arith

changed-within : (rules : Rules) (width : ℕ) (kept : List Layout) → changed rules width kept ≤ sum_by chars_of kept
changed-within rules width [] = omega arith
changed-within rules width (l ∷ kept) =
    omega (arith, changed-within rules width kept, none_or_all (keeps_lines rules width l) (length l.text), sum_by-cons (changed_in rules width) l kept, sum_by-cons chars_of l kept)

pub changed-le : (rules : Rules) (width : ℕ) (kept : List Layout) → changed rules width kept ≤ length (text_of kept)
changed-le rules width kept = omega (arith, changed-within rules width kept, length-text kept)

-- a count that rises by n and then by m rises by n + m
counted_none : (count : ℕ) → count < 2 ^ 64 → count ≡ counted count 0
counted_none count fits = omega (arith, fits)

counted_twice : (count n m k once twice : ℕ) → once ≡ counted count n → twice ≡ counted once m → k ≡ n + m → twice ≡ counted count k
counted_twice count n m k once twice first second sum = omega (arith, first, second, sum)

rises_twice : (n m k a b c : ℕ) → RisesBy n a b → RisesBy m b c → n + m ≤ k → RisesBy k a c
rises_twice n m k a b c r s e = record { least = omega (arith, r.least, s.least); most = omega (arith, r.most, s.most, e) }

-- for each of the first n paragraphs, the extents of its new lines were found, unless the paragraph keeps its
-- line
pub record AreFilled (start : Engine) (width : ℕ) (kept : List Layout) (n : ℕ) (fills : List (Option LineExtents)) (now : Engine) : Type 0 where
  pub made : AllZip (BringsTo (rules_of start) width) (take n kept) fills
  pub rules : SameRules start now
  pub exact : FindsExtents (changed (rules_of start) width (take n kept)) start now
  pub counts : FindsExtentsAtMost (changed (rules_of start) width (take n kept)) start now

pub none_filled : (start : Engine) (width : ℕ) (kept : List Layout) (fills : List (Option LineExtents)) → filled_of start < 2 ^ 64 → fills ≡ []
    → AreFilled start width kept 0 fills start
none_filled start width kept fills fits e = rw e (record {
  made = tt;
  rules = refl;
  exact = record { analysed = refl; filled = counted_none (filled_of start) fits; written = refl };
  counts = record { analysed = refl; filled = record { least = omega arith; most = omega arith }; written = refl };
})

module _ (start now : Engine) (width : ℕ) (kept : List Layout) (n : ℕ) (fills : List (Option LineExtents)) (so_far : AreFilled start width kept n fills now) where
  pub all_filled : length kept ≤ n → AllZip (BringsTo (rules_of start) width) kept fills
  all_filled last = subst (λ ks. AllZip (BringsTo (rules_of start) width) ks fills) (take_all n kept last) so_far.made

  pub FindsExtents-all : length kept ≤ n → FindsExtents (changed (rules_of start) width kept) start now
  FindsExtents-all last = subst (λ ks. FindsExtents (changed (rules_of start) width ks) start now) (take_all n kept last) so_far.exact

  pub FindsExtentsAtMost-all : length kept ≤ n → FindsExtentsAtMost (changed (rules_of start) width kept) start now
  FindsExtentsAtMost-all last = subst (λ ks. FindsExtentsAtMost (changed (rules_of start) width ks) start now) (take_all n kept last) so_far.counts

  module _ (l : Layout) (here : n < length kept) (item : get_or kept n l ≡ l) (next : Engine) (same : SameRules now next)
      (counts : FindsExtentsAtMost (changed_in (rules_of now) width l) now next) where
    size : changed (rules_of start) width (take (n + 1) kept) ≡ changed (rules_of start) width (take n kept) + changed_in (rules_of now) width l
    size =
        sum_by_more (changed_in (rules_of start) width) kept n l here
        ∙ ap (λ x. changed (rules_of start) width (take n kept) + changed_in (rules_of start) width x) item
        ∙ ap (λ r. changed (rules_of start) width (take n kept) + changed_in r width l) (sym so_far.rules)

    upto : (most : ℕ) → changed (rules_of start) width (take (n + 1) kept) ≤ most → FindsExtentsAtMost most start next
    upto most within = record {
      analysed = counts.analysed ∙ so_far.counts.analysed;
      filled = rises_twice _ _ most _ _ _ so_far.counts.filled counts.filled (omega (arith, size, within));
      written = counts.written ∙ so_far.counts.written;
    }

    -- if memory runs out after the next paragraph, the counters are still within their bound
    pub FindsExtentsAtMost-next : FindsExtentsAtMost (changed (rules_of start) width kept) start next
    FindsExtentsAtMost-next = upto (changed (rules_of start) width kept) (sum_by-take-le (changed_in (rules_of start) width) kept (n + 1))

    pub AreFilled-next : (part : Option LineExtents) (more : List (Option LineExtents)) → FindsExtents (changed_in (rules_of now) width l) now next
        → BringsTo (rules_of now) width l part → more ≡ fills ++ part ∷ []
        → AreFilled start width kept (n + 1) more next
    AreFilled-next part more exact brings more-is = record {
      made = rw (more-is, take_more kept n l here, item)
          (zip_push (BringsTo (rules_of start) width) (take n kept) fills l part so_far.made (subst (λ r. BringsTo r width l part) so_far.rules brings));
      rules = same ∙ so_far.rules;
      exact = record {
        analysed = exact.analysed ∙ so_far.exact.analysed;
        filled = counted_twice _ _ _ _ _ _ so_far.exact.filled exact.filled size;
        written = exact.written ∙ so_far.exact.written;
      };
      counts = upto (changed (rules_of start) width (take (n + 1) kept)) (omega arith);
    }

-- the precondition of an exchange of lines, and the resulting layouts
abbrev pub fits_any : Writer → List Layout → List (Option LineExtents) → Type 0
fits_any writer kept parts = AllZip (λ l part. IfSome part (CanBePut writer l)) kept parts

each_all : {A : Type 0} (P : A → Type 0) (xs : List A) → All P xs → Each P xs
each_all P [] h = tt
each_all P (x ∷ xs) h = (h 0 x (omega arith), each_all P xs (λ k d within. h (suc k) d (omega (arith, within))))

one_fits : (rules : Rules) (width capacity : ℕ) (l : Layout) (part : Option LineExtents) → IsFresh rules l → HasRoom capacity l → BringsTo rules width l part
    → IfSome part (CanBePut (record { rules = rules; capacity = capacity }) l)
one_fits rules width capacity l None laid has brings = tt
one_fits rules width capacity l (Some extents) laid has brings = record { laid_out = laid; at_width = (width, brings.1); capacity = has }

each_fit : (rules : Rules) (width capacity : ℕ) (kept : List Layout) (parts : List (Option LineExtents)) → Each (IsFresh rules) kept → Each (HasRoom capacity) kept
    → AllZip (BringsTo rules width) kept parts → fits_any (record { rules = rules; capacity = capacity }) kept parts
each_fit rules width capacity [] [] laid has made = tt
each_fit rules width capacity [] (part ∷ parts) laid has made = absurd made
each_fit rules width capacity (l ∷ kept) [] laid has made = absurd made
each_fit rules width capacity (l ∷ kept) (part ∷ parts) laid has made =
    (one_fits rules width capacity l part laid.0 has.0 made.0, each_fit rules width capacity kept parts laid.1 has.1 made.1)

pub all_fit : (rules same : Rules) (width capacity : ℕ) (kept : List Layout) (parts : List (Option LineExtents)) → same ≡ rules → Each (IsFresh rules) kept → All (HasRoom capacity) kept
    → AllZip (BringsTo rules width) kept parts → fits_any (record { rules = same; capacity = capacity }) kept parts
all_fit rules same width capacity kept parts e laid has made =
    subst (λ (r : Rules). fits_any (record { rules = r; capacity = capacity }) kept parts) (sym e)
    (each_fit rules width capacity kept parts laid (each_all (HasRoom capacity) kept has) made)

-- the number of characters whose lines are written is the number of characters that the width change fills
-- again
one_written : (rules : Rules) (width : ℕ) (l : Layout) (part : Option LineExtents) → BringsTo rules width l part → written_for l part ≡ changed_in rules width l
one_written rules width l None brings = sym (cond-true (keeps_lines rules width l) 0 (length l.text) brings.0)
one_written rules width l (Some extents) brings = sym (cond-false (keeps_lines rules width l) 0 (length l.text) brings.0)

pub written_is_changed : (rules : Rules) (width : ℕ) (kept : List Layout) (parts : List (Option LineExtents)) → AllZip (BringsTo rules width) kept parts
    → total_cost {P = Layout} {Part = Option LineExtents} written_for kept parts ≡ changed rules width kept
written_is_changed rules width [] [] made = refl
written_is_changed rules width [] (part ∷ parts) made = absurd made
written_is_changed rules width (l ∷ kept) [] made = absurd made
written_is_changed rules width (l ∷ kept) (part ∷ parts) made =
    omega (
      arith,
      one_written rules width l part made.0,
      written_is_changed rules width kept parts made.1,
      sum_by-cons (changed_in rules width) l kept,
      sum_by-cons (λ (n : ℕ). n) (written_for l part) (pairwise {P = Layout} {Part = Option LineExtents} {A = ℕ} written_for kept parts),
    )

-- if extents of lines are found and then these lines are written, the two steps together satisfy `Fills`
pub Fills-written : (n m : ℕ) (old found new : Engine) → FindsExtents n old found → m ≡ n → Rewrites m found new → Fills n old new
Fills-written n m old found new finds same writes = record {
  analysed = writes.analysed ∙ finds.analysed;
  filled = writes.filled ∙ finds.filled;
  written = writes.written ∙ ap₂ counted finds.written same;
}

pub FillsAtMost-written : (n m most : ℕ) (old found new : Engine) → FindsExtentsAtMost n old found → m ≡ n → n ≤ most → RewritesAtMost m found new → FillsAtMost most old new
FillsAtMost-written n m most old found new finds same within writes = record {
  analysed = writes.analysed ∙ finds.analysed;
  filled = record { least = omega (arith, finds.filled.least, writes.filled); most = omega (arith, finds.filled.most, writes.filled, within) };
  written = record { least = omega (arith, finds.written, writes.written.least); most = omega (arith, finds.written, writes.written.most, same, within) };
}

abbrev pub refilled_one : Rules → ℕ → Layout → Layout
refilled_one rules width l = record l { lines = lines_of (rules_for rules l) width l.text }

abbrev pub refilled : Rules → ℕ → List Layout → List Layout
refilled rules width kept = map (refilled_one rules width) kept

one_brought : (rules : Rules) (width capacity : ℕ) (l : Layout) (part : Option LineExtents) → IsFresh rules l → BringsTo rules width l part
    → put_into (record { rules = rules; capacity = capacity }) l part ≡ refilled_one rules width l
one_brought rules width capacity l None laid brings = ap (λ ls. record l { lines = ls }) brings.1
one_brought rules width capacity l (Some extents) laid brings =
    reflowed_by (rules_for rules l) width l extents laid brings.1
    ∙ subst (λ (m : Layout). layout_of (rules_for rules m) width m.text ≡ refilled_one rules width m) (sym laid.from_scratch) refl

each_brought : (rules : Rules) (width capacity : ℕ) (kept : List Layout) (parts : List (Option LineExtents)) → Each (IsFresh rules) kept → AllZip (BringsTo rules width) kept parts
    → pairwise {P = Layout} {Part = Option LineExtents} {A = Layout} (put_into (record { rules = rules; capacity = capacity })) kept parts ≡ refilled rules width kept
each_brought rules width capacity [] [] laid made = refl
each_brought rules width capacity [] (part ∷ parts) laid made = absurd made
each_brought rules width capacity (l ∷ kept) [] laid made = absurd made
each_brought rules width capacity (l ∷ kept) (part ∷ parts) laid made =
    ap₂ (λ (x : Layout) (xs : List Layout). x ∷ xs) (one_brought rules width capacity l part laid.0 made.0) (each_brought rules width capacity kept parts laid.1 made.1)

pub all_brought : (rules same : Rules) (width capacity : ℕ) (kept : List Layout) (parts : List (Option LineExtents)) → same ≡ rules → Each (IsFresh rules) kept
    → AllZip (BringsTo rules width) kept parts
    → pairwise {P = Layout} {Part = Option LineExtents} {A = Layout} (put_into (record { rules = same; capacity = capacity })) kept parts ≡ refilled rules width kept
all_brought rules same width capacity kept parts e laid made =
    ap (λ (r : Rules). pairwise {P = Layout} {Part = Option LineExtents} {A = Layout} (put_into (record { rules = r; capacity = capacity })) kept parts) e
    ∙ each_brought rules width capacity kept parts laid made

refilled-pars : (rules : Rules) (old width : ℕ) (advances : Option (List ℕ)) (pars : List (List ℕ))
    → refilled rules width (layouts_from (with_advances rules None) old advances pars) ≡ layouts_from (with_advances rules None) width advances pars
refilled-pars rules old width advances [] = refl
refilled-pars rules old width advances (p ∷ pars) =
    ap (λ ks. layout_of (with_advances rules (front_advances (length p) advances)) width p ∷ ks) (refilled-pars rules old width (back_advances (length p) advances) pars)

module _ (law : ParagraphsArePieces) (few : LinesAreFew) (engine : Engine) (old width : ℕ) (is_measured : Bool) (kept : List Layout)
    (whole : IsWholeLayout (state_of engine old is_measured kept)) (some : width ≡ 0 → ⊥) where
  abbrev after : List Layout
  after = refilled (rules_of engine) width kept

  abbrev list : List ℕ
  list = concat (advance_lists kept)

  abbrev advances : Option (List ℕ)
  advances = advances_in is_measured kept

  abbrev rules : Rules
  rules = with_advances (rules_of engine) advances

  after_is : after ≡ layouts_of rules width (text_of kept)
  after_is =
      ap (refilled (rules_of engine) width) whole.kept
      ∙ refilled-pars (rules_of engine) old width advances (paragraphs (cut_by rules) (text_of kept))

  pub refilled_fit : sum_by line_number after < 2 ^ 64
  refilled_fit = omega (arith, few-laid law few rules width (text_of kept) after after_is, allowed-length (cut_by rules) advances (text_of kept) whole.allowed)

  accepted : width_refusal width ≡ None
  accepted = cond-false (width == 0) (Some WidthOutOfRange) None (ne_eqb width 0 some)

  text-after : text_of after ≡ text_of kept
  text-after = ap text_of after_is ∙ text-layouts law rules width (text_of kept)

  number-after : length after ≡ length kept
  number-after = length-map kept (refilled_one (rules_of engine) width)

  -- the advances of the session do not change
  advances-after : advances_in is_measured after ≡ advances
  advances-after =
      ap (advances_in is_measured) after_is
      ∙ advances-layouts (with_advances (rules_of engine) None) width is_measured list (paragraphs (cut_by rules) (text_of kept))
      (subst (AreForEach advances) (sym (law.whole (cut_by rules) (text_of kept))) whole.advances)

  module _ (new_engine : Engine) (same : SameRules engine new_engine) (counts : FillsAtMost (length (text_of kept)) engine new_engine)
      (exact : Fills (changed (rules_of engine) width kept) engine new_engine) where
    pub SetsWidth-after : (made : List Layout) (count lines lines_2 : ℕ) → made ≡ after → count ≡ length kept → lines ≡ sum_by line_number kept → lines_2 ≡ sum_by line_number made
        → SetsWidth width (state_of engine old is_measured kept) (state_of new_engine width is_measured made)
        (record { first_line = 0; old_lines = lines; new_lines = lines_2; first_par = 0; old_pars = count; new_pars = count })
    SetsWidth-after made count lines lines_2 made-is count-is lines-is lines_2-is =
        let text : text_of made ≡ text_of kept = ap text_of made-is ∙ text-after in
        let given : advances_in is_measured made ≡ advances = ap (advances_in is_measured) made-is ∙ advances-after in
        record {
          accepted = accepted;
          text = text;
          at_width = refl;
          advances = given;
          laid_out = IsWholeLayout-same engine new_engine width (advances_in is_measured made) made same (record {
            kept = made-is ∙ after_is ∙ ap₂ (λ (a : Option (List ℕ)) (t : List ℕ). layouts_of (with_advances (rules_of engine) a) width t) (sym given) (sym text);
            allowed = ap₂ (λ (a : Option (List ℕ)) (t : List ℕ). content_refusal (cut_by rules) a t) given text ∙ whole.allowed;
            filled = positive width some;
            advances = subst (λ (t : List ℕ). AreForEach (advances_in is_measured made) t) (sym text) (subst (λ (a : Option (List ℕ)). AreForEach a (text_of kept)) (sym given) whole.advances);
          });
          rules = same;
          damage = record {
            first_line = refl;
            old_lines = lines-is ∙ sym (length-lines kept);
            new_lines = lines_2-is ∙ sym (length-lines made);
            first_par = refl;
            old_pars = count-is;
            new_pars = count-is ∙ sym (ap length made-is ∙ number-after);
          };
          counts = counts;
          exact = exact;
        }
