-- The machine value of a pointer beside the allocator of the heap, and what a `Held` owns. Assumes `Logic`.
--     heap, word                       the allocator is one value;  a pointer beside it, which a `Held` and a box of the heap are
--     held_told, box_told              they are the word of their pointer
--     pair, pair_in, pair_out          a struct of a pointer and the allocator:  it owns what the allocator does, and is the word of its pointer
--     tested, no_box, the_box          what is held may be compared with null:  at null no box, and else the box
--     now_held, made                   the value of a box is held, and a `Held` has it
use Rattle.std.proofs.Common.{◌≡◌, List, [], ◌∷◌, ◌++◌, refl, ◌∙◌, lit<}
use mathlib.Core.Bool.{not}
use lib.Dec.{T}
use seplogic.Ra.Ura.{Ura}
use mir.Syntax.{ty_ptr}
use mir.Raw.{raw as bare}
use mir.Val.{Val, vunit, vnull, vstruct, vcons, vnil, of_list, has_ty, WT, ptr_same}
use base.Logic.{ent, emp, sep, ex, guard, never, via, fst∗, snd∗, id⊢, never_e, guard_i}
use base.Fraction.{full_share}
use types.Logic.{Logic, sem}
use types.Kit.{‵, ◌$◌, ◌∵◌, !, qed, move, keep, done, use1, fsplit, fjoin, fpick, fpack, feq_i, feq_l, check, show, rewrite}
use contract.Monad.{fact_use}
use denote.Builtin.{RawPtr}
use denote.Laws.{Is, Tells, shows}
use denote.Memory.{lone}
use denote.Param.{layout}
use denote.Param.Laws.{row_laws}
use denote.RattleType.{RattleType, Valss}
use denote.RawPtr.{Ptr, block_ptr, null_ptr, ptr_val, lies_at, Testable}
use denote.Steps.{nothing, peeks}
use denote.Struct.Struct.{Shape, Struct, within}
use denote.Struct.Laws.{RawPtr-laws}
use denote.Struct.OwningLaws.{Tells-lowered}
use Rattle.core.proofs.cell.Inside.{Good}
use Rattle.std.proofs.GlobalToken.{dealloc_token-Testable}
use Rattle.std.proofs.alloc.Global.TheLaws as heap_laws
use Rattle.std.specs.contracts.alloc.Global as global
use Rattle.std.specs.contracts.impls.GlobalAllocator.TheImpl.{ghosts}
use Rattle.std.specs.declared.alloc.Global.{Global}
use Rattle.std.specs.declared.option.Option.{Option}
use Rattle.std.specs.declared.option.Option.TheVariants.{None, Some}
use Rattle.std_alloc.specs.Box.Ownership.{box_owns}
use Rattle.std_alloc.specs.contracts.boxed.Box as box
use Rattle.c_handles.specs.Held.{held}
use Rattle.c_handles.specs.contracts.held.Held as held_type

abbrev pub Heap : RattleType
Heap = (global.the_field).row

abbrev pub of_heap : Global → Heap.Denot
of_heap = (global.the_field).into

abbrev pub heap : Val
heap = vstruct (vcons (vstruct (vcons vunit vnil)) vnil)

abbrev pub word : Ptr → Val
word p = vstruct (vcons (ptr_val p) (vcons heap vnil))

pub heap_good : Good (layout global.the_row) heap
heap_good = (tt, ((tt, tt), tt))

pub ptr_good : (p : Ptr) → T (has_ty ty_ptr (ptr_val p)) × WT (ptr_val p)
ptr_good (block_ptr b o) = (tt, tt)
ptr_good null_ptr = (tt, record { fits = lit< tt })

pub word_good : (R : RattleType) (p : Ptr) → Good (layout (held_type.the_row R)) (word p)
word_good R (block_ptr b o) = (tt, (tt, (((tt, tt), tt), tt)))
word_good R null_ptr = (tt, (record { fits = lit< tt }, (((tt, tt), tt), tt)))

-- a struct of a pointer and the allocator; what it owns doesn't depend on its name
abbrev pub pair : Shape
pair = record { name = []; args = []; types = []; fields = RawPtr ∷ Heap ∷ [] }

-- a `Held`, and a box, say where they point
pub held_told : (R : RattleType) → Tells (held_type.the_row R) (Is (held_type.the_row R)) (λ h. word h.at ∷ [])
held_told R = Tells-lowered (held_type.the_type R) (RawPtr-laws, (heap_laws.the_field_laws, tt))

pub box_told : (R : RattleType) → Tells (box.the_row R global.the_row ghosts) (Is (box.the_row R global.the_row ghosts)) (λ b. word b.ptr ∷ [])
box_told R = Tells-lowered (box.the_type R global.the_row ghosts) (RawPtr-laws, (row_laws global.the_row heap_laws.the_row_laws (record { val = heap_laws.lowered; tells = heap_laws.lowers.val_is }), tt))

module _ {M : Type 1} {𝓤 : Ura M} (𝓛 : Logic 𝓤) where
  module _ (p : Ptr) (a : Global) where
    pub pair_in : ent 𝓤 (sem 𝓛 (Heap.own_val (of_heap a) (heap ∷ []))) (sem 𝓛 ((Struct pair).own_val (p, (of_heap a, tt)) (word p ∷ [])))
    pair_in = qed 𝓛 (‵ (Heap.own_val (of_heap a) (heap ∷ [])) ∷ []) ∵ let ptr : List Val = ptr_val p ∷ [] in
        nothing ! $ move ! (1 ∷ 0 ∷ []) $ fjoin ! $ feq_i ! (List Val) ptr ptr refl $ fjoin ! $ feq_i ! (List Val) (word p ∷ []) (word p ∷ []) refl $ fjoin ! $
        fpack ! (Valss (RawPtr ∷ Heap ∷ [])) (within pair (p, (of_heap a, tt)) (word p ∷ [])) (ptr, (heap ∷ [], tt)) $ done !

    pub pair_out : (vs : List Val) → ent 𝓤 (sem 𝓛 ((Struct pair).own_val (p, (of_heap a, tt)) vs)) (guard 𝓤 (vs ≡ word p ∷ []) (sem 𝓛 (Heap.own_val (of_heap a) (heap ∷ []))))
    pair_out vs = qed 𝓛 (‵ ((Struct pair).own_val (p, (of_heap a, tt)) vs) ∷ []) ∵
        fpick ! (λ vss. fsplit ! $ feq_l ! (λ is. fsplit ! $ feq_l ! (λ at. fsplit ! $
        peeks ! Heap (Is Heap) (shows 𝓛 Heap) (of_heap a) vss.1.0 (λ told. let other : vss.1.0 ≡ heap ∷ [] = heap_laws.the_field_laws.tells (of_heap a) vss.1.0 told in
        check ! (is ∙ (λ i. vstruct (of_list (at i ++ (other i ++ []))) ∷ [])) $ rewrite ! 0 (λ (us : List Val). ‵ (Heap.own_val (of_heap a) us)) other refl $ keep ! (0 ∷ []) $ done !))))

  module _ (R : RattleType) (a : Global) where
    pub tested : (p : Ptr) (x : Option R.Denot) → ent 𝓤 (sem 𝓛 (held R a p x)) (guard 𝓤 (Testable p) (sem 𝓛 (held R a p x)))
    tested null_ptr x = guard_i 𝓤 (Testable null_ptr) (sem 𝓛 (held R a null_ptr x)) (lit< tt)
    tested (block_ptr b o) None = never_e 𝓤 _
    tested (block_ptr b o) (Some x) = let p : Ptr = block_ptr b o in fact_use 𝓤 (Testable p)
        (via 𝓤 _ (snd∗ 𝓤 (sem 𝓛 (lies_at R full_share p x)) (sem 𝓛 (ghosts.dealloc_token a (bare (lone R.mir)) p))) (dealloc_token-Testable 𝓛 a (bare (lone R.mir)) p))
        (guard_i 𝓤 (Testable p) (sem 𝓛 (held R a p (Some x))))

    pub no_box : (p : Ptr) (x : Option R.Denot) → T (ptr_same (ptr_val p) vnull) → ent 𝓤 (sem 𝓛 (held R a p x)) (guard 𝓤 (None ≡ x) (emp 𝓤))
    no_box null_ptr None is = guard_i 𝓤 (None ≡ None) (emp 𝓤) refl
    no_box null_ptr (Some x) is = never_e 𝓤 _
    no_box (block_ptr b o) x is = absurd is

    pub the_box : (p : Ptr) (x : Option R.Denot) → T (not (ptr_same (ptr_val p) vnull)) → ent 𝓤 (sem 𝓛 (held R a p x)) (ex 𝓤 (λ (y : R.Denot). guard 𝓤 (Some y ≡ x) (sem 𝓛 (box_owns (ghosts.dealloc_token a) R p y))))
    the_box null_ptr x isnt = absurd isnt
    the_box (block_ptr b o) None isnt = never_e 𝓤 _
    the_box (block_ptr b o) (Some y) isnt = qed 𝓛 (‵ (held R a (block_ptr b o) (Some y)) ∷ []) ∵ show ! (λ (z : R.Denot). guard 𝓤 (Some z ≡ Some y) (sem 𝓛 (box_owns (ghosts.dealloc_token a) R (block_ptr b o) z))) y $ check ! refl $ done !

    pub now_held : (p : Ptr) (y : R.Denot) → ent 𝓤 (sem 𝓛 (box_owns (ghosts.dealloc_token a) R p y)) (sem 𝓛 (held R a p (Some y)))
    now_held null_ptr y = fst∗ 𝓤 (never 𝓤) (sem 𝓛 (ghosts.dealloc_token a (bare (lone R.mir)) null_ptr))
    now_held (block_ptr b o) y = id⊢ 𝓤 _

    pub made : (p : Ptr) (x : Option R.Denot) → ent 𝓤 (sep 𝓤 (sem 𝓛 (held R a p x)) (sem 𝓛 (Heap.own_val (of_heap a) (heap ∷ [])))) (sem 𝓛 ((held_type.the_row R).own_val (record { at = p; alloc = a; value = x }) (word p ∷ [])))
    made p x = qed 𝓛 (‵ (held R a p x) ∷ ‵ (Heap.own_val (of_heap a) (heap ∷ [])) ∷ []) ∵ move ! (1 ∷ []) $ use1 𝓛 (‵ ((Struct pair).own_val (p, (of_heap a, tt)) (word p ∷ []))) (pair_in p a) $ fjoin ! $ done !
