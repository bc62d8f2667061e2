-- How the state of a scanner changes.
use Rattle.std.proofs.Common.{◌≡◌, ℕ, ◌+◌, ◌<◌, ◌≤◌, Bool, List, [], length, take, drop, nat_le, Some, refl, sym, ap, ◌∙◌, arith}
use Rattle.std.proofs.lemmas.Bool.{cond-true, cond-false, le-leb, lt-leb}
use Rattle.std.proofs.lemmas.List.{length-drop, length-take-le, take_all}
use Rattle.sequences.specs.Scanners.{pen_at}
use Rattle.sequences.specs.Styled.{next_paragraph, with_link, Pen}
use Rattle.sequences.specs.declared.links.TheConstants.{MAX_LINKS_LEN}
use Rattle.sequences.specs.declared.look.Look.{Look}
use Rattle.sequences.specs.declared.style.Link.{Link}

module _ (look : Look) (after_underline : Bool) where
  abbrev pub linked : List ℕ → ℕ → Pen
  linked link n = record { style = record { look = look; link = link }; links_len = n; after_underline = after_underline }

  pub pen_at-linked : (links link : List ℕ) (place : Link) (n : ℕ) → take place.len (drop place.start links) ≡ link → length links ≡ n
      → pen_at links look place after_underline ≡ linked link n
  pen_at-linked links link place n e size = ap (λ l. linked l (length links)) e ∙ ap (linked link) size

  pub link_fits : (old new link : List ℕ) (current added : Link) → length old + length link ≤ MAX_LINKS_LEN
      → take added.len (drop added.start new) ≡ link → length new ≡ length old + length link
      → pen_at new look added after_underline ≡ with_link (pen_at old look current after_underline) (Some link)
  link_fits old new link current added fits e size =
      pen_at-linked new link added (length old + length link) e size
      ∙ sym (cond-true (nat_le (length old + length link) MAX_LINKS_LEN) (linked link (length old + length link)) (linked [] (length old)) (le-leb _ _ fits))

  pub link_dropped : (old link : List ℕ) (current none : Link) → MAX_LINKS_LEN < length old + length link → take none.len (drop none.start old) ≡ []
      → pen_at old look none after_underline ≡ with_link (pen_at old look current after_underline) (Some link)
  link_dropped old link current none over e =
      pen_at-linked old [] none (length old) e refl
      ∙ sym (cond-false (nat_le (length old + length link) MAX_LINKS_LEN) (linked link (length old + length link)) (linked [] (length old)) (lt-leb _ _ over))

  pub paragraph_starts : (old new : List ℕ) (current kept : Link) → new ≡ take current.len (drop current.start old) → kept.start ≡ 0 → kept.len ≡ current.len
      → current.start + current.len ≤ length old → pen_at new look kept after_underline ≡ next_paragraph (pen_at old look current after_underline)
  paragraph_starts old new current kept e start len within =
      let link = take current.len (drop current.start old) in
      let size : length link ≡ current.len = length-take-le current.len (drop current.start old) (simp length-drop (omega arith)) in
      let whole : length new ≤ kept.len = omega (arith, ap length e, size, len) in
      pen_at-linked new link kept (length link) (ap (λ n. take kept.len (drop n new)) start ∙ take_all kept.len new whole ∙ e) (ap length e)
