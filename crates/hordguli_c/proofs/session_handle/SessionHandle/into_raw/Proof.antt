-- `into_raw` compares the handle's pointer with null, and returns the object that the handle owns, if any.
use Rattle.std.proofs.Common.{List, [], ◌∷◌, ◌++◌, refl, sym, ap, ◌∙◌, subst, lit<}
use mir.Val.{Val, vptr, vcons, vnil}
use base.Logic.{SProp, ent, emp, id⊢}
use base.Fml.{ftrue, fsep}
use prog.Wp.{WpFn}
use types.Kit.{‵, raw, ◌⊛◌, at_ret, ◌$◌, ◌∵◌, !, qed, done, keep, drop, use0, use1, split, join, fsplit3, fjoin, rewrite, suffices}
use types.Run.{stop, fld, lit, bin, of_opd, no_more, and_then, first, branches, exec, returns, enter}
use types.ByLocal.{alloc_all, pass_all, free_all, look_at, get, get_in, sets, sets_last, env}
use types.Match.{live}
use types.Part.{agg, sub, whole}
use contract.Running.{tables}
use denote.Exit.{yes}
use denote.RawPtr.{Ptr, block_ptr, null_ptr, tests_null}
use denote.Param.{layout}
use denote.Signature.{Slot, plain, type_at}
use denote.Steps.{nothing}
use denote.Triple.Walked.{Stays, stay_dropped, Goes-dropped, walk_of, says, ends_at}
use Rattle.core.proofs.alloc.Shapes.{after}
use Rattle.core.proofs.atomic.Steps.{Ptr-Good}
use Rattle.core.proofs.cell.Inside.{Good, one}
use Rattle.core.proofs.option.Made.{Some-of, none_of}
use Rattle.std.proofs.raw_atomic.Walks.{proved_at}
use Rattle.std.specs.declared.option.Option.TheVariants.{None, Some}
use Rattle.std_alloc.proofs.ResultValues.{and_tt}
use Rattle.std_heap.specs.contracts.Global as heap
use Rattle.std_heap.proofs.Global.TheLaws as heap_laws
use Rattle.hordguli_c.proofs.SessionSteps.{RawBoxRow, word, word_good, both, both_good, handle_out, raw_in, by_held}
use Rattle.hordguli_c.specs.contracts.session_handle.SessionHandle as handle
use Rattle.hordguli_c.specs.contracts.session_handle.SessionHandle.into_raw as f
use Rattle.hordguli_c.specs.contracts.session_handle.SessionHandle.into_raw.Key.{name as #self}
use Rattle.hordguli_c.proofs.session_handle.SessionHandle.into_raw.Statement.{statement}
use Rattle.hordguli_c.proofs.session_handle.SessionHandle.into_raw.Code as code

abbrev From : Slot 0
From = plain (λ _. handle.the_row)

abbrev Heap : Slot 0
Heap = plain (λ _. heap.the_row)

abbrev stayed : Stays f.ended.signature.params f.ended.kept
stayed = (stay_dropped From yes, (stay_dropped Heap yes, tt))

pub into_raw_spec : {M : Type 1} → statement M
into_raw_spec 𝓤 𝓛 𝓜 𝓡 wired =
    let c = f.clauses 𝓛 𝓜.mem 𝓡.returns in let 𝓣 = tables 𝓤 𝓛.H 𝓜 𝓡 𝓡.env in let fn = code.function in
    proved_at 𝓛 f.ended stayed c 𝓜 𝓡 (Goes-dropped 𝓛 0 From yes (λ κs x f. refl), (Goes-dropped 𝓛 0 Heap yes (λ κs x f. refl), tt)) #self fn (code.unfolded 𝓤 𝓛.H 𝓜 𝓡 wired) (λ z are.
    let Post = (walk_of 𝓛 f.ended stayed c).post z in let Run : List Val → SProp 𝓤 = λ ws. WpFn 𝓤 𝓛.H 𝓣.C 𝓣.Λ fn ws Post in let Out = type_at f.ended.signature.result tt in
    let d = z.0.3.0 in let a = z.0.3.1.0 in
    let h = one (layout heap.the_row) z.0.4.1.0 ((heap_laws.the_row_laws.lawful 𝓛).typed a z.0.4.1.0 are.1.0) in
    qed 𝓛 ((‵ ftrue ⊛ ‵ (fsep (handle.the_row.own_val d z.0.4.0) (fsep (heap.the_row.own_val a z.0.4.1.0) ftrue))) ∷ raw (emp 𝓤) ∷ []) ∵ split ! $ drop ! $ fsplit3 ! $ keep ! (0 ∷ 1 ∷ []) $
    rewrite ! 1 (λ (us : List Val). ‵ (heap.the_row.own_val a us)) h.1 refl $ handle_out ! d z.0.4.0 (λ ws. by_held ! d.at d.held
    (λ held at. keep ! [] $
    suffices ! (Run (word null_ptr ∷ h.0 ∷ [])) (subst (λ (us : List Val). ent 𝓤 (Run (word null_ptr ∷ h.0 ∷ [])) (Run us)) (sym (λ i. (ws ∙ ap (λ (p : Ptr). word p ∷ []) at) i ++ (h.1 i ++ []))) (id⊢ 𝓤 (Run (word null_ptr ∷ h.0 ∷ [])))) $
    enter ! 𝓣.C 𝓣.Λ fn (word null_ptr ∷ h.0 ∷ []) Post $ alloc_all ! (λ l. pass_all ! refl (word_good null_ptr, (h.2, tt)) $ let Ev = env fn.locals l in
    sets ! (of_opd ! (get_in ! (fld ! refl (stop !)) (sub ! 0 refl (whole !)))) refl (Ptr-Good null_ptr) $
    sets ! (bin ! (get ! refl) (lit ! tt) tt) refl (tt, tt) $ first ! $ branches ! (get ! refl)
    (λ _. sets_last ! (agg ! (and_then ! (lit ! tt) (no_more !))) refl (tt, (record { fits = lit< tt }, tt)) $ exec ! 𝓣.C 𝓣.Λ Ev (after 3 fn.body) (at_ret Ev Post) $
    sets ! (of_opd ! (get ! refl)) refl (tt, (record { fits = lit< tt }, tt)) $ returns ! (look_at ! 0 refl) $ free_all ! refl $
    use0 𝓛 (‵ (Out.own_val None (live 0 vnil ∷ []))) (none_of 𝓛 RawBoxRow) $
    suffices ! _ (ends_at 𝓛 f.ended stayed c z (live 0 vnil) None (tt, (tt, tt)) (tt, (tt, tt))) $ says ! (sym held) $
    nothing ! $ nothing ! $ fjoin ! $ nothing ! $ fjoin ! $ join ! $ nothing ! $ join ! $ done !)
    (λ wrong. absurd wrong)))
    (λ b o xs held at can. let p : Ptr = block_ptr b o in let made : Val = both (vptr b o) h.0 in let typed = both_good b o h.0 h.2 in let v : Val = live 1 (vcons made vnil) in
    let r : RawBoxRow.Denot = record { at = p; alloc = a; value = xs } in
    let good : Good (layout Out) v = (and_tt _ typed.0, (record { fits = lit< tt }, (typed.1, tt))) in
    raw_in ! b o h.0 a xs $
    suffices ! (Run (word p ∷ h.0 ∷ [])) (subst (λ (us : List Val). ent 𝓤 (Run (word p ∷ h.0 ∷ [])) (Run us)) (sym (λ i. (ws ∙ ap (λ (q : Ptr). word q ∷ []) at) i ++ (h.1 i ++ []))) (id⊢ 𝓤 (Run (word p ∷ h.0 ∷ [])))) $
    enter ! 𝓣.C 𝓣.Λ fn (word p ∷ h.0 ∷ []) Post $ alloc_all ! (λ l. pass_all ! refl (word_good p, (h.2, tt)) $ let Ev = env fn.locals l in
    sets ! (of_opd ! (get_in ! (fld ! refl (stop !)) (sub ! 0 refl (whole !)))) refl (tt, tt) $
    sets ! (bin ! (get ! refl) (lit ! tt) (tests_null p can)) refl (tt, tt) $ first ! $ branches ! (get ! refl)
    (λ wrong. absurd wrong)
    (λ _. sets ! (agg ! (and_then ! (get ! refl) (and_then ! (get ! refl) (no_more !)))) refl typed $
    sets_last ! (agg ! (and_then ! (lit ! tt) (and_then ! (get ! refl) (no_more !)))) refl good $ exec ! 𝓣.C 𝓣.Λ Ev (after 3 fn.body) (at_ret Ev Post) $
    sets ! (of_opd ! (get ! refl)) refl good $ returns ! (look_at ! 0 refl) $ free_all ! refl $
    use1 𝓛 (‵ (Out.own_val (Some r) (v ∷ []))) (Some-of 𝓛 RawBoxRow r made) $
    suffices ! _ (ends_at 𝓛 f.ended stayed c z v (Some r) (tt, (tt, tt)) (tt, (tt, tt))) $ says ! (sym held) $
    nothing ! $ nothing ! $ fjoin ! $ nothing ! $ fjoin ! $ join ! $ nothing ! $ join ! $ done !)))))
