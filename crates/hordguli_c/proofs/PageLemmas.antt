-- Printing a text that a session would accept: `PutsPage` holds after a success and after an allocation
-- failure.
use Rattle.std.proofs.Common.{◌≡◌, ℕ, ◌<◌, List, length, Option, Some, None, inl, inr, subst}
use Rattle.ucd.specs.declared.tables.Tables.{Tables}
use Rattle.lines.specs.Layouts.{Rules, cut_by, unmeasured}
use Rattle.session.specs.Sessions.{opening_refusal}
use Rattle.session.specs.declared.edits.EditFault.{EditFault}
use Rattle.hordguli_c.specs.Arrays.{PutsItems}
use Rattle.hordguli_c.specs.Calls.{OrNoMemory}
use Rattle.hordguli_c.specs.Texts.{PutsPage, UnlessRefused, text_page}
use Rattle.hordguli_c.specs.declared.options.PageForm.{PageForm}
use Rattle.hordguli_c.specs.declared.status.Status.{Status}
use Rattle.hordguli_c.specs.declared.status.Status.TheVariants as is

not_refused : (reason : Option EditFault) (status : Status) (unchanged rest : Type 0) → reason ≡ None → rest → UnlessRefused reason status unchanged rest
not_refused None status unchanged rest none done = done
not_refused (Some fault) status unchanged rest none done = absurd (cc none)

module _ (form : PageForm) (text : List ℕ) (tables : Tables) (rules : Rules) (rules_are : rules ≡ unmeasured tables form.options)
    (allowed : opening_refusal (cut_by rules) text form.width ≡ None) (status : Status) (old new : List ℕ × ℕ)
  where
    abbrev by_rules : Rules → Type 0
    by_rules r =
        UnlessRefused (opening_refusal (cut_by r) text form.width) status (new ≡ old)
        (OrNoMemory (0 < length text) status (new ≡ old) (PutsItems (text_page r form.width form.print text) status old new))

    pub lines_are_put : (bytes : List ℕ) → bytes ≡ text_page rules form.width form.print text → PutsItems bytes status old new → PutsPage form text status tables old new
    lines_are_put bytes bytes_are put =
        subst by_rules rules_are (not_refused (opening_refusal (cut_by rules) text form.width) status (new ≡ old) _ allowed
        (inl (subst (λ (b : List ℕ). PutsItems b status old new) bytes_are put)))

    pub nothing_is_put : status ≡ is.NoMemory → 0 < length text → new ≡ old → PutsPage form text status tables old new
    nothing_is_put status_is some same =
        subst by_rules rules_are (not_refused (opening_refusal (cut_by rules) text form.width) status (new ≡ old) _ allowed
        (inr (status_is, some, same)))
