-- The machine value of a `TablesHandle`, and how a handle is taken apart and put together. Assumes `Logic`.
use Rattle.std.proofs.Common.{◌≡◌, ℕ, List, [], ◌∷◌, refl, ap, ◌∙◌}
use lib.Dec.{T}
use seplogic.Ra.Ura.{Ura}
use mir.Syntax.{impl, tnil, dnil}
use mir.Raw.{raw as bare}
use mir.Val.{Val, vptr, vstruct, vcons, vnil, of_list, has_ty, WT}
use base.Logic.{SProp, never, guard_i, via, fst∗, snd∗}
use types.Logic.{Logic, sem}
use contract.Monad.{fact_use}
use types.Kit.{Item, Goal, Seq, Step, step, given, ‵, ◌$◌, move, drop, learn, use1, fsplit, fjoin, fpick, fpack, feq_i, feq_l}
use denote.RattleType.{RattleType, Valss}
use denote.Builtin.{RawPtr}
use denote.Param.{layout}
use denote.Memory.{lone}
use denote.RawPtr.{Ptr, block_ptr, null_ptr, ptr_val, in_a_block, Testable}
use denote.Steps.{nothing}
use denote.Struct.Struct.{within}
use denote.Struct.Owning.{shape}
use Rattle.core.specs.Ptr.{points_to}
use Rattle.std.specs.declared.option.Option.{Option}
use Rattle.std.specs.declared.option.Option.TheVariants.{None, Some}
use Rattle.std_alloc.proofs.ResultValues.{and_tt}
use Rattle.std_heap.proofs.GlobalToken.{dealloc_token-Testable}
use Rattle.std_alloc.proofs.BoxSteps.Form.{Bx}
use Rattle.std_heap.specs.contracts.Global as heap
use Rattle.std_heap.proofs.Global.TheLaws as heap_laws
use Rattle.std_heap.specs.contracts.GlobalAllocator.TheImpl.{ghosts, dict}
use Rattle.hordguli_c.specs.Held.{the_global}
use Rattle.hordguli_c.specs.TablesHeld.{Value, object_at, object_row}
use Rattle.hordguli_c.proofs.tables_object.TablesObject.TheLaws as object_laws
use Rattle.hordguli_c.specs.contracts.tables_handle.TablesHandle as handle
use Rattle.hordguli_c.specs.contracts.raw_box.RawBox as raw

-- a box that contains the object of a handle
abbrev pub E : Bx
E = record {
  row = object_row;
  laws = object_laws.the_row_laws;
  al = record { row = heap.the_row; laws = heap_laws.the_row_laws; g = ghosts; d = dict; drops = impl [] tnil dnil };
}

abbrev pub RawBoxRow : RattleType
RawBoxRow = raw.the_row object_row heap.the_row ghosts

abbrev pub both : Val → Val → Val
both v w = vstruct (vcons v (vcons w vnil))

pub both_good : (b o : ℕ) (h : Val) → T (has_ty (layout heap.the_row) h) × WT h → T (has_ty (layout RawBoxRow) (both (vptr b o) h)) × WT (both (vptr b o) h)
both_good b o h fits = (and_tt (has_ty (layout heap.the_row) h) fits.0, (tt, (fits.1, tt)))

abbrev pub word : Ptr → Val
word p = vstruct (vcons (ptr_val p) vnil)

abbrev pub Good : Val → Type 0
Good v = T (has_ty (layout handle.the_row) v) × WT v

pub word_good : (p : Ptr) → Good (word p)
word_good (block_ptr b o) = (tt, (tt, tt))
word_good null_ptr = (tt, (record { fits = lib.Dec.lit< tt }, tt))

module _ {M : Type 1} {𝓤 : Ura M} {𝓛 : Logic 𝓤} {K : Type 0} {Γ : List (Item 𝓤)} {G : Goal 𝓤 𝓛.H} where
  pub handle_in : K → (p : Ptr) (x : Option Value) → Step K 𝓛 (‵ (handle.the_row.own_val (record { at = p; held = x }) (word p ∷ [])) ∷ Γ) G (‵ (object_at p x) ∷ Γ) G
  handle_in t p x = step (λ s.
      nothing t $ feq_i t (List Val) (ptr_val p ∷ []) (ptr_val p ∷ []) refl $ fjoin t $ feq_i t (List Val) (word p ∷ []) (word p ∷ []) refl $ fjoin t $
      fpack t (Valss (RawPtr ∷ [])) (within (shape handle.the_type) (p, tt) (word p ∷ [])) (ptr_val p ∷ [], tt) $ fjoin t $ s)

  pub handle_out : K → (d : handle.the_row.Denot) (vs : List Val) → (vs ≡ word d.at ∷ [] → Seq K 𝓛 (‵ (object_at d.at d.held) ∷ Γ) G) → Seq K 𝓛 (‵ (handle.the_row.own_val d vs) ∷ Γ) G
  handle_out t d vs k =
      fsplit t $ fpick t (λ vss. fsplit t $ feq_l t (λ ev. fsplit t $ feq_l t (λ ep. drop t $ k
      (ev ∙ ap (λ (us : List Val). vstruct (of_list us) ∷ []) (ap (λ (us : List Val). mathlib.Core.List.◌++◌ us []) ep)))))

  pub raw_in : K → (b o : ℕ) (h : Val) (a : heap.the_row.Denot) (xs : Value)
      → Step K 𝓛 (‵ (RawBoxRow.own_val (record { at = block_ptr b o; alloc = a; value = xs }) (both (vptr b o) h ∷ [])) ∷ Γ) G (‵ (object_at (block_ptr b o) (Some xs)) ∷ ‵ (heap.the_row.own_val a (h ∷ [])) ∷ Γ) G
  raw_in t b o h a xs = step (λ s. let v : Val = both (vptr b o) h in
      nothing t $ move t (2 ∷ 0 ∷ []) $ fjoin t $ feq_i t (List Val) (vptr b o ∷ []) (vptr b o ∷ []) refl $ fjoin t $ feq_i t (List Val) (v ∷ []) (v ∷ []) refl $ fjoin t $
      fpack t (Valss (RawPtr ∷ heap.the_row ∷ [])) (within (shape (raw.the_type object_row heap.the_row ghosts)) (block_ptr b o, (a, tt)) (v ∷ [])) (vptr b o ∷ [], (h ∷ [], tt)) $ fjoin t $ s)

  -- Either a handle is null and owns nothing, or it owns tables, and its pointer may be compared with null.
  pub by_held : K → (p : Ptr) (x : Option Value) → (x ≡ None → p ≡ null_ptr → Seq K 𝓛 Γ G)
      → ((b o : ℕ) (xs : Value) → x ≡ Some xs → p ≡ block_ptr b o → Testable (block_ptr b o) → Seq K 𝓛 (‵ (object_at (block_ptr b o) (Some xs)) ∷ Γ) G)
      → Seq K 𝓛 (‵ (object_at p x) ∷ Γ) G
  by_held t p None none some = fpick t (λ e. drop t $ none refl e)
  by_held t p (Some xs) none some =
      in_a_block t p (λ q. object_at q (Some xs)) (fst∗ 𝓤 (never 𝓤) (sem 𝓛 (ghosts.dealloc_token the_global (bare (lone object_row.mir)) null_ptr))) (λ b o e.
      let q : Ptr = block_ptr b o in let B : SProp 𝓤 = sem 𝓛 (object_at q (Some xs)) in
      use1 𝓛 (given (Testable q) (‵ (object_at q (Some xs))))
      (fact_use 𝓤 (Testable q) (via 𝓤 _ (snd∗ 𝓤 (sem 𝓛 (points_to object_row q xs)) (sem 𝓛 (ghosts.dealloc_token the_global (bare (lone object_row.mir)) q))) (dealloc_token-Testable 𝓛 the_global (bare (lone object_row.mir)) q)) (guard_i 𝓤 (Testable q) B)) $
      learn t (λ can. some b o xs refl e can))
