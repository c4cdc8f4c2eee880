-- `into_box` has no box at null, and else makes the box of its pointer again.
use Rattle.std.proofs.Common.{◌≡◌, List, [], ◌∷◌, refl, sym, ap, ◌∙◌, subst, lit<}
use mir.Syntax.{Dict, a_type, tnil, tcons, dnil, dcons, impl}
use mir.Raw.{raw as bare}
use mir.Val.{Val, vcons, vnil}
use mir.MapTy.{inst_fn}
use base.Fml.{ftrue, flft}
use base.Fraction.{full_share}
use base.Logic.{emp, id⊢}
use types.Kit.{at_ret, feq_i, ‵, raw, given, later, some, ◌⊛◌, ◌$◌, ◌∵◌, !, qed, by, move, keep, drop, split, split3, join, fsplit, fjoin, pick, learn, await, rewrite, use0, use1}
use types.Run.{stop, fld, lit, bin, first, branches, blocks, skips, exec, returns_within, of_opd, no_more, and_then, returns, enter}
use types.ByLocal.{alloc_all, pass_all, free_all, look_at, get, get_in, sets, is, lands_last, env}
use types.Part.{agg, sub, whole}
use contract.Monad.{fact, fact_i}
use contract.BorrowLft.{◌⊑◌, ⊑_static}
use contract.Running.{tables}
use denote.Exit.{no}
use denote.RattleType.{RattleType, owns}
use denote.Signature.{types_at, plain}
use denote.RawPtr.{ptr_val, Testable, tests_null}
use denote.Laws.{Is, shows}
use denote.Steps.{nothing, only, heard, peeks}
use denote.Param.{layout, bounded, param, arg}
use denote.Param.Laws.{arg_laws}
use denote.Param.NoDrop.{glues}
use denote.Triple.Spec.{triple_of}
use denote.Triple.Call.{calls_at_last}
use denote.Triple.Walked.{Stays, stay_dropped, walk_of}
use Rattle.core.proofs.alloc.Calls.{Goes-blank}
use Rattle.core.proofs.atomic.Steps.{fm}
use Rattle.std.proofs.alloc.Global.TheLaws as heap_laws
use Rattle.std.proofs.impls.GlobalAllocator.TheImpl.Met.{passed}
use Rattle.std.proofs.raw_atomic.Walks.{proved, leaves}
use Rattle.std.specs.contracts.alloc.Global as global
use Rattle.std.specs.contracts.impls.GlobalAllocator.TheImpl.{dict, ghosts}
use Rattle.std.specs.declared.alloc.Global.{Global}
use Rattle.core.specs.declared.option.Option.TheVariants.{None, Some}
use Rattle.core.specs.contracts.option.Option as OP
use Rattle.core.proofs.option.Made.{Some-of, none_of}
use Rattle.core.proofs.alloc.Shapes.{after}
use Rattle.core.proofs.cell.Inside.{Good}
use denote.Triple.Clauses.{Lasts, lasts}
use types.Match.{live}
use Rattle.std_alloc.proofs.ResultValues.{and_tt}
use Rattle.std_alloc.specs.Box.Ownership.{box_owns}
use Rattle.std_alloc.specs.contracts.boxed.Box as box
use Rattle.std_alloc.specs.contracts.boxed.Box.from_raw as callee
use Rattle.std_alloc.proofs.boxed.Box.from_raw.Met.{met}
use Rattle.c_handles.proofs.HeldValues.{heap, word, Heap, of_heap, heap_good, ptr_good, word_good, held_told, box_told, pair_out, tested, no_box, the_box}
use Rattle.c_handles.specs.Held.{held}
use Rattle.c_handles.specs.contracts.held.Held as held_type
use Rattle.c_handles.specs.contracts.held.Held.into_box.{ended, clauses}
use Rattle.c_handles.specs.contracts.held.Held.into_box.Key.{name as #self}
use Rattle.c_handles.proofs.held.Held.into_box.Statement.{statement}
use Rattle.c_handles.proofs.held.Held.into_box.Code as code
use Rattle.c_handles.proofs.Destruct++none.drop.Code as no_drop

abbrev drops : Dict
drops = impl ("c_handles::Destruct++none::drop" ∷ []) (tcons (bare (layout global.the_row)) tnil) dnil

pub into_box_spec : {M : Type 1} → statement M
unfolding no_drop.code
into_box_spec {M} 𝓤 𝓛 𝓜 𝓡 wired T L d glue =
    let Z : RattleType = arg (bare (layout global.the_row)) no global.the_row in let LZ = arg_laws (bare (layout global.the_row)) no global.the_row heap_laws.the_row_laws refl in
    let R : RattleType = param 0 T in let B : RattleType = box.the_row R global.the_row ghosts in let Hd : RattleType = held_type.the_row R in let Out : RattleType = OP.the_row B in
    let En = ended T d in let c = clauses T d 𝓛 𝓜.mem 𝓡.returns in let inst = bounded (a_type ∷ []) (T, tt) (dcons d dnil) in let fn = inst_fn inst code.function in
    let slot = plain (λ _. Hd) in let hs : Stays En.signature.params En.kept = (stay_dropped slot no, tt) in let 𝓣 = tables 𝓤 𝓛.H 𝓜 𝓡 𝓡.env in
    let Made = triple_of 𝓛 (callee.signature T Z ghosts dict drops) (callee.spec T Z ghosts dict drops 𝓛 𝓜.mem 𝓡.returns) in let Ce = callee.ended T Z ghosts dict drops in
    let known = met 𝓤 𝓛 𝓜 𝓡 (code.calls-std_alloc::boxed::Box::from_raw 𝓡.env wired) T Z L LZ ghosts dict drops
    (passed 𝓡.env (code.calls-std_heap::GlobalAllocator::allocate 𝓡.env wired) (code.calls-std_heap::GlobalAllocator::deallocate 𝓡.env wired) (code.calls-std_heap::GlobalAllocator::grow 𝓡.env wired) (code.calls-std_heap::GlobalAllocator::shrink 𝓡.env wired) M 𝓤 𝓛 𝓜 𝓡)
    (glues "c_handles::Destruct++none::drop" 𝓡.env (code.calls-c_handles::Destruct++none::drop 𝓡.env wired) Z LZ M 𝓤 𝓛 𝓜 𝓡) in
    proved 𝓛 En hs c 𝓜 𝓡 (Goes-blank 𝓛 1 slot no (λ κs x f. tt), tt) (#self inst) fn (code.unfolded 𝓤 𝓛.H 𝓜 𝓡 wired (T, tt) d)
    (λ κs. ((λ (h : Hd.Denot). word h.at ∷ []), tt)) (λ κs. (held_told R, tt)) (λ κs qs bounds a g are.
    let κ = κs.0 in let q = qs.0 in let h : Hd.Denot = a.0 in let heap_of : Global = h.alloc in let inT = κ ⊑ T.lives in let inZ = [] ⊑ Z.lives in
    let z : (walk_of 𝓛 En hs c).Ghost = ((κs, qs, bounds, a, (word h.at ∷ [], tt)), g) in let Post = (walk_of 𝓛 En hs c).post z in
    qed 𝓛 (((‵ (flft κ q) ⊛ ‵ ftrue) ⊛ ‵ (owns (types_at En.signature.params κs) a (word h.at ∷ [], tt))) ∷ (raw (fact 𝓤 inT) ⊛ ‵ ftrue) ∷ []) ∵ move ! (1 ∷ []) $ split ! $
    heard ! inT (λ within. move ! (1 ∷ []) $ split ! $ move ! (1 ∷ []) $ fsplit ! $ fsplit ! $
    use1 𝓛 (given (word h.at ∷ [] ≡ word h.at ∷ []) (‵ (Heap.own_val (of_heap heap_of) (heap ∷ [])))) (pair_out 𝓛 h.at heap_of (word h.at ∷ [])) $ learn ! (λ _.
    move ! (1 ∷ []) $ use1 𝓛 (given (Testable h.at) (‵ (held R heap_of h.at h.value))) (tested 𝓛 R heap_of h.at h.value) $ learn ! (λ may.
    -- [what the pointer owns; the allocator; nothing; the tokens; nothing]
    enter ! 𝓣.C 𝓣.Λ fn (word h.at ∷ []) Post $ alloc_all ! (λ l. pass_all ! refl (word_good R h.at, tt) $ let Ev = env fn.locals l in
    sets ! (of_opd ! (get_in ! (fld ! refl (stop !)) (sub ! 0 refl (whole !)))) refl (ptr_good h.at) $ sets ! (of_opd ! (get_in ! (fld ! refl (stop !)) (sub ! 1 refl (whole !)))) refl heap_good $
    sets ! (of_opd ! (get ! refl)) refl (ptr_good h.at) $ sets ! (bin ! (get ! refl) (lit ! tt) (tests_null h.at may)) refl (tt, tt) $ first ! $ branches ! (get ! refl)
    (λ null. use1 𝓛 (given (None ≡ h.value) (raw (emp 𝓤))) (no_box 𝓛 R heap_of h.at h.value null) $ learn ! (λ none.
    sets ! (agg ! (and_then ! (lit ! tt) (no_more !))) refl (tt, (record { fits = lit< tt }, tt)) $
    use0 𝓛 (‵ (Out.own_val None (live 0 vnil ∷ []))) (none_of 𝓛 B) $ use0 𝓛 (raw (fact 𝓤 (None ≡ h.value))) (fact_i 𝓤 (None ≡ h.value) (emp 𝓤) none) $ nothing ! $ nothing ! $ fjoin ! $
    returns_within ! Post refl (look_at ! 0 refl) $ free_all ! refl $ keep ! (6 ∷ 0 ∷ 2 ∷ 1 ∷ []) $ by ! (leaves 𝓛 En hs c z (live 0 vnil) None (tt, tt) (tt, tt))))
    (λ full. use1 𝓛 (some (λ (x : R.Denot). given (Some x ≡ h.value) (‵ (box_owns (ghosts.dealloc_token heap_of) R h.at x)))) (the_box 𝓛 R heap_of h.at h.value full) $ pick ! (λ x. learn ! (λ has.
    skips ! $ exec ! 𝓣.C 𝓣.Λ Ev (after 5 fn.body) (at_ret Ev Post) $ first ! $ blocks ! $ sets ! (of_opd ! (get ! refl)) refl heap_good $ sets ! (of_opd ! (get ! refl)) refl (ptr_good h.at) $
    -- what the call asks for, with the box's value
    use0 𝓛 (raw (fact 𝓤 inZ)) (fact_i 𝓤 inZ (emp 𝓤) (⊑_static [])) $ join ! $ use0 𝓛 (raw (fact 𝓤 inT)) (fact_i 𝓤 inT (emp 𝓤) within) $ join ! $
    nothing ! $ let ptr : List Val = ptr_val h.at ∷ [] in feq_i ! (List Val) ptr ptr refl $ fjoin ! $ move ! (2 ∷ 0 ∷ []) $ fjoin ! $
    move ! (3 ∷ []) $ split ! $ move ! (1 ∷ []) $ use0 𝓛 (‵ (flft [] full_share)) (𝓛.lfts.lft-nil full_share) $ join ! $ move ! (1 ∷ 0 ∷ []) $ join ! $ join ! $ join ! $
    let y : Made.Ghost = (((κ, ([], tt)), (q, (full_share, tt)), tt, (heap_of, (h.at, tt)), (heap ∷ [], (ptr, tt))), x) in
    use1 𝓛 (raw (Made.pre y)) (id⊢ 𝓤 _) $ calls_at_last ! (fm 𝓛 𝓜 𝓡) Made known y (and_then ! (get ! refl) (and_then ! (get ! refl) (no_more !))) (λ u.
    use1 𝓛 (later (some (λ (r : B.Denot). ((‵ (flft κ q) ⊛ ‵ (flft [] full_share) ⊛ ‵ ftrue) ⊛ ‵ (B.own_val r (u ∷ []))) ⊛ some (λ (ls : Lasts Ce y.0.0 y.0.3). ‵ (lasts Ce y.0.0 y.0.3 ls) ⊛ (raw (fact 𝓤 (r.value ≡ x)) ⊛ raw (fact 𝓤 (r.alloc ≡ heap_of))))))) (id⊢ 𝓤 _) $
    await ! tt $ pick ! (λ r. split ! $ move ! (1 ∷ []) $ pick ! (λ _. split3 ! $ drop ! $ heard ! (r.value ≡ x) (λ same. drop ! $ split ! $ split3 ! $ move ! (0 ∷ 2 ∷ []) $ join ! $ move ! (2 ∷ []) $
    -- [the box; the tokens; the allocator's token]
    peeks ! B (Is B) (shows 𝓛 B) r (u ∷ []) (λ told. let is_word : u ∷ [] ≡ word r.ptr ∷ [] = box_told R r (u ∷ []) told in
    rewrite ! 0 (λ (us : List Val). ‵ (B.own_val r us)) is_word refl $ lands_last ! refl (subst (Good (layout B)) (sym (ap only is_word)) (word_good R r.ptr)) $ exec ! 𝓣.C 𝓣.Λ Ev (after 6 fn.body) (at_ret Ev Post) $
    let w : Val = word r.ptr in let out : Val = live 1 (vcons w vnil) in let there : Some r.value ≡ h.value = ap Some same ∙ has in
    sets ! (is ! (of_opd ! (get ! refl)) (ap only is_word)) refl (word_good R r.ptr) $ sets ! (agg ! (and_then ! (lit ! tt) (and_then ! (get ! refl) (no_more !)))) refl (and_tt _ (word_good R r.ptr).0, (record { fits = lit< tt }, ((word_good R r.ptr).1, tt))) $
    use1 𝓛 (‵ (Out.own_val (Some r) (out ∷ []))) (Some-of 𝓛 B r w) $ use0 𝓛 (raw (fact 𝓤 (Some r.value ≡ h.value))) (fact_i 𝓤 (Some r.value ≡ h.value) (emp 𝓤) there) $ nothing ! $ nothing ! $ fjoin ! $
    returns ! (look_at ! 0 refl) $ free_all ! refl $ keep ! (3 ∷ 0 ∷ 2 ∷ 1 ∷ []) $ by ! (leaves 𝓛 En hs c z out (Some r) (tt, tt) (tt, tt)))))))))))))))
