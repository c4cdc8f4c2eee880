-- `some` takes the box apart: the pointer is the box's, and owns what the box owned.
use Rattle.std.proofs.Common.{◌≡◌, [], ◌∷◌, refl, ap}
use mir.Syntax.{Dict, a_type, tnil, tcons, dnil, dcons, impl}
use mir.Raw.{raw as bare}
use mir.MapTy.{inst_fn}
use base.Fml.{ftrue, fsep, flft}
use base.Fraction.{full_share}
use base.Logic.{emp, id⊢}
use types.Kit.{‵, raw, given, later, some, ◌⊛◌, ◌$◌, ◌∵◌, !, qed, by, move, keep, drop, split, split3, join, fjoin, pick, learn, await, rewrite, use0, use1}
use types.Run.{stop, fld, of_opd, no_more, and_then, returns, enter}
use types.ByLocal.{alloc_all, pass_all, free_all, look_at, get, get_in, sets, lands_as}
use types.Part.{agg, sub, whole}
use contract.Monad.{fact, fact_i}
use contract.BorrowLft.{◌⊑◌, ⊑_static}
use denote.Builtin.{RawPtr}
use denote.Exit.{no}
use denote.RattleType.{RattleType, owns}
use denote.Signature.{types_at, plain}
use denote.RawPtr.{Ptr}
use denote.Steps.{nothing, only, heard}
use denote.Struct.Tuple.{Tuple}
use denote.Param.{layout, bounded, param, arg}
use denote.Param.Laws.{arg_laws}
use denote.Param.NoDrop.{glues}
use denote.Triple.Spec.{triple_of}
use denote.Triple.Call.{calls_at}
use denote.Triple.Walked.{Stays, stay_dropped, walk_of}
use Rattle.core.proofs.alloc.Calls.{Goes-blank}
use Rattle.core.proofs.atomic.Steps.{fm}
use Rattle.std.proofs.alloc.Global.TheLaws as heap_laws
use Rattle.std.proofs.impls.GlobalAllocator.TheImpl.Met.{passed}
use Rattle.std.proofs.raw_atomic.Walks.{proved, leaves}
use Rattle.std.specs.contracts.alloc.Global as global
use Rattle.std.specs.contracts.impls.GlobalAllocator.TheImpl.{dict, ghosts}
use Rattle.std.specs.declared.alloc.Global.{Global}
use Rattle.core.specs.declared.option.Option.TheVariants.{Some}
use Rattle.std_alloc.specs.Box.Ownership.{box_owns}
use Rattle.std_alloc.specs.contracts.boxed.Box as box
use Rattle.std_alloc.specs.contracts.boxed.Box.into_raw_with_allocator as callee
use Rattle.std_alloc.proofs.boxed.Box.into_raw_with_allocator.Met.{met}
use Rattle.c_handles.proofs.HeldValues.{heap, word, Heap, of_heap, heap_good, ptr_good, word_good, box_told, pair_out, now_held, made}
use Rattle.c_handles.specs.Held.{held}
use Rattle.c_handles.specs.contracts.held.Held as held_type
use Rattle.c_handles.specs.contracts.held.Held.some.{ended, clauses}
use Rattle.c_handles.specs.contracts.held.Held.some.Key.{name as #self}
use Rattle.c_handles.proofs.held.Held.some.Statement.{statement}
use Rattle.c_handles.proofs.held.Held.some.Code as code
use Rattle.c_handles.proofs.Destruct++none.drop.Code as no_drop

abbrev drops : Dict
drops = impl ("c_handles::Destruct++none::drop" ∷ []) (tcons (bare (layout global.the_row)) tnil) dnil

pub some_spec : {M : Type 1} → statement M
unfolding no_drop.code
some_spec {M} 𝓤 𝓛 𝓜 𝓡 wired T L d glue =
    let Z : RattleType = arg (bare (layout global.the_row)) no global.the_row in let LZ = arg_laws (bare (layout global.the_row)) no global.the_row heap_laws.the_row_laws refl in let R : RattleType = param 0 T in let B : RattleType = box.the_row R global.the_row ghosts in
    let En = ended T d in let c = clauses T d 𝓛 𝓜.mem 𝓡.returns in let inst = bounded (a_type ∷ []) (T, tt) (dcons d dnil) in
    let slot = plain (λ _. B) in let hs : Stays En.signature.params En.kept = (stay_dropped slot no, tt) in
    let Parts = triple_of 𝓛 (callee.signature T Z ghosts dict drops d) (callee.spec T Z ghosts dict drops d 𝓛 𝓜.mem 𝓡.returns) in
    let known = met 𝓤 𝓛 𝓜 𝓡 (code.calls-std_alloc::boxed::Box::into_raw_with_allocator 𝓡.env wired) T Z L LZ ghosts dict drops d
    (passed 𝓡.env (code.calls-std_heap::GlobalAllocator::allocate 𝓡.env wired) (code.calls-std_heap::GlobalAllocator::deallocate 𝓡.env wired) (code.calls-std_heap::GlobalAllocator::grow 𝓡.env wired) (code.calls-std_heap::GlobalAllocator::shrink 𝓡.env wired) M 𝓤 𝓛 𝓜 𝓡)
    (glues "c_handles::Destruct++none::drop" 𝓡.env (code.calls-c_handles::Destruct++none::drop 𝓡.env wired) Z LZ M 𝓤 𝓛 𝓜 𝓡) glue in
    proved 𝓛 En hs c 𝓜 𝓡 (Goes-blank 𝓛 1 slot no (λ κs x f. tt), tt) (#self inst) (inst_fn inst code.function) (code.unfolded 𝓤 𝓛.H 𝓜 𝓡 wired (T, tt) d)
    (λ κs. ((λ (v : B.Denot). word v.ptr ∷ []), tt)) (λ κs. (box_told R, tt)) (λ κs qs bounds a g are.
    let κ = κs.0 in let q = qs.0 in let v : B.Denot = a.0 in let inT = κ ⊑ T.lives in let inZ = [] ⊑ Z.lives in
    let z : (walk_of 𝓛 En hs c).Ghost = ((κs, qs, bounds, a, (word v.ptr ∷ [], tt)), g) in
    let y : Parts.Ghost = (((κ, ([], tt)), (q, (full_share, tt)), tt, (v, tt), (word v.ptr ∷ [], tt)), tt) in
    qed 𝓛 (((‵ (flft κ q) ⊛ ‵ ftrue) ⊛ ‵ (owns (types_at En.signature.params κs) a (word v.ptr ∷ [], tt))) ∷ (raw (fact 𝓤 inT) ⊛ ‵ ftrue) ∷ []) ∵ move ! (1 ∷ []) $ split ! $
    -- what the call asks for: the tokens of the value's and of the allocator's lifetime, the box, and that the types are within these
    heard ! inT (λ within. use0 𝓛 (raw (fact 𝓤 inZ)) (fact_i 𝓤 inZ (emp 𝓤) (⊑_static [])) $ join ! $ use0 𝓛 (raw (fact 𝓤 inT)) (fact_i 𝓤 inT (emp 𝓤) within) $ join ! $
    move ! (1 ∷ []) $ split ! $ split ! $ move ! (1 ∷ []) $ use0 𝓛 (‵ (flft [] full_share)) (𝓛.lfts.lft-nil full_share) $ join ! $ move ! (1 ∷ 0 ∷ []) $ join ! $
    join ! $ join ! $ use1 𝓛 (raw (Parts.pre y)) (id⊢ 𝓤 _) $
    enter ! _ _ _ _ _ $ alloc_all ! (λ l. pass_all ! refl (word_good R v.ptr, tt) $ sets ! (of_opd ! (get ! refl)) refl (word_good R v.ptr) $
    calls_at ! (fm 𝓛 𝓜 𝓡) Parts known y (and_then ! (get ! refl) (no_more !)) (λ u. let Two = Tuple (RawPtr ∷ param 1 Z ∷ []) in
    use1 𝓛 (later (some (λ (r : Ptr × Global). ((‵ (flft κ q) ⊛ ‵ (flft [] full_share) ⊛ ‵ ftrue) ⊛ ‵ (Two.own_val r (u ∷ []))) ⊛ some (λ (_ : (Unit {0} × (Unit {0} × Unit {0})) × Unit {0}).
    ‵ (fsep (fsep ftrue (fsep ftrue ftrue)) ftrue) ⊛ (raw (fact 𝓤 (r.1 ≡ v.alloc)) ⊛ ‵ (box_owns (ghosts.dealloc_token v.alloc) R r.0 v.value)))))) (id⊢ 𝓤 _) $
    await ! tt $ pick ! (λ r. split ! $ move ! (1 ∷ []) $ pick ! (λ _. split3 ! $ drop ! $ heard ! (r.1 ≡ v.alloc) (λ same. move ! (1 ∷ []) $ split ! $ split3 ! $ move ! (0 ∷ 2 ∷ []) $ join ! $ move ! (2 ∷ []) $
    -- [the pointer and the allocator; the token; the allocator's; the box]
    use1 𝓛 (given (u ∷ [] ≡ word r.0 ∷ []) (‵ (Heap.own_val (of_heap r.1) (heap ∷ [])))) (pair_out 𝓛 r.0 r.1 (u ∷ [])) $ learn ! (λ is.
    rewrite ! 0 (λ (s : Global). ‵ (Heap.own_val (of_heap s) (heap ∷ []))) same refl $ move ! (3 ∷ []) $ use1 𝓛 (‵ (held R v.alloc r.0 (Some v.value))) (now_held 𝓛 R v.alloc r.0 v.value) $ join ! $
    let made_of : (held_type.the_row R).Denot = record { at = r.0; alloc = v.alloc; value = Some v.value } in use1 𝓛 (‵ ((held_type.the_row R).own_val made_of (word r.0 ∷ []))) (made 𝓛 R v.alloc r.0 (Some v.value)) $
    lands_as ! (ap only is) refl (word_good R r.0) $ sets ! (of_opd ! (get_in ! (fld ! refl (stop !)) (sub ! 0 refl (whole !)))) refl (ptr_good r.0) $
    sets ! (of_opd ! (get_in ! (fld ! refl (stop !)) (sub ! 1 refl (whole !)))) refl heap_good $ sets ! (agg ! (and_then ! (get ! refl) (and_then ! (get ! refl) (no_more !)))) refl (word_good R r.0) $
    use0 𝓛 (raw (fact 𝓤 (Some v.value ≡ Some v.value))) (fact_i 𝓤 (Some v.value ≡ Some v.value) (emp 𝓤) refl) $ nothing ! $ nothing ! $ fjoin ! $
    returns ! (look_at ! 0 refl) $ free_all ! refl $ keep ! (3 ∷ 0 ∷ 2 ∷ 1 ∷ []) $ by ! (leaves 𝓛 En hs c z (word r.0) made_of (tt, tt) (tt, tt))))))))))
