-- `none` makes a null pointer, which owns nothing.
use Rattle.std.proofs.Common.{◌≡◌, [], ◌∷◌, refl}
use mir.Syntax.{a_type}
use mir.MapTy.{inst_fn}
use base.Logic.{emp}
use types.Kit.{‵, raw, ◌⊛◌, ◌$◌, ◌∵◌, !, qed, by, move, keep, split, join, fsplit, fjoin, use0, use1}
use types.Run.{lit, no_more, and_then, returns, enter}
use types.ByLocal.{alloc_all, pass_all, free_all, look_at, get, sets}
use types.Part.{agg}
use contract.Monad.{fact, fact_i}
use denote.Exit.{yes}
use denote.RattleType.{owns}
use denote.Signature.{types_at, plain}
use denote.RawPtr.{null_ptr}
use denote.Steps.{nothing}
use denote.Param.{layouts, param}
use denote.Triple.Entry.{alive}
use denote.Triple.Walked.{stay_dropped, walk_of, Goes-dropped}
use Rattle.core.specs.declared.option.Option.{Option}
use Rattle.core.specs.declared.option.Option.TheVariants.{None}
use Rattle.std.proofs.alloc.Global.TheLaws as heap_laws
use Rattle.std.proofs.raw_atomic.Walks.{proved, leaves}
use Rattle.std.specs.contracts.alloc.Global as global
use Rattle.c_handles.proofs.HeldValues.{heap, word, heap_good, word_good, made}
use Rattle.c_handles.specs.contracts.held.Held as held_type
use Rattle.c_handles.specs.contracts.held.Held.none.{ended, clauses}
use Rattle.c_handles.specs.contracts.held.Held.none.Key.{name as #self}
use Rattle.c_handles.proofs.held.Held.none.Statement.{statement}
use Rattle.c_handles.proofs.held.Held.none.Code as code

pub none_spec : {M : Type 1} → statement M
none_spec 𝓤 𝓛 𝓜 𝓡 wired T L =
    let En = ended T in let c = clauses T 𝓛 𝓜.mem 𝓡.returns in let inst = layouts (a_type ∷ []) (T, tt) in
    let slot = plain (λ _. global.the_row) in
    proved 𝓛 En (stay_dropped slot yes, tt) c 𝓜 𝓡 (Goes-dropped 𝓛 1 slot yes (λ κs x f. refl), tt) (#self inst) (inst_fn inst code.function) (code.unfolded 𝓤 𝓛.H 𝓜 𝓡 wired (T, tt))
    (λ κs. ((λ a. heap ∷ []), tt)) (λ κs. (heap_laws.lowers.val_is, tt)) (λ κs qs bounds a g are.
    let R = param 0 T in let heap_of = a.0 in let z : (walk_of 𝓛 En (stay_dropped slot yes, tt) c).Ghost = ((κs, qs, bounds, a, (heap ∷ [], tt)), g) in
    qed 𝓛 ((raw (alive 𝓛 En.signature κs qs) ⊛ ‵ (owns (types_at En.signature.params κs) a (heap ∷ [], tt))) ∷ raw ((c κs a).requires g) ∷ []) ∵ split ! $ move ! (1 ∷ []) $ fsplit ! $
    -- [the allocator; nothing; the tokens; the `requires`]
    nothing ! $ move ! (0 ∷ 1 ∷ []) $ join ! $ use1 𝓛 (‵ ((held_type.the_row R).own_val (record { at = null_ptr; alloc = heap_of; value = None }) (word null_ptr ∷ []))) (made 𝓛 R heap_of null_ptr None) $
    enter ! _ _ _ _ _ $ alloc_all ! (λ l. pass_all ! refl (heap_good, tt) $
    sets ! (agg ! (and_then ! (lit ! tt) (and_then ! (get ! refl) (no_more !)))) refl (word_good R null_ptr) $
    let x : Option R.Denot = None in use0 𝓛 (raw (fact 𝓤 (x ≡ x))) (fact_i 𝓤 (x ≡ x) (emp 𝓤) refl) $ nothing ! $ nothing ! $ fjoin ! $
    returns ! (look_at ! 0 refl) $ free_all ! refl $ keep ! (4 ∷ 0 ∷ 2 ∷ 1 ∷ []) $ by ! (leaves 𝓛 En (stay_dropped slot yes, tt) c z (word null_ptr) (record { at = null_ptr; alloc = heap_of; value = x }) (tt, tt) (tt, tt))))
