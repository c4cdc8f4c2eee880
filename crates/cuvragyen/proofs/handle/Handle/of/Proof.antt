-- `of` keeps the pointer.
use Rattle.std.proofs.Common.{◌≡◌, [], ◌∷◌, refl}
use base.Logic.{emp, id⊢}
use types.Kit.{‵, raw, ◌⊛◌, ◌$◌, ◌∵◌, !, qed, by, move, keep, split, fsplit, fjoin, use0, use1}
use types.Run.{stop, fld, of_opd, no_more, and_then, returns, enter}
use types.ByLocal.{alloc_all, pass_all, free_all, look_at, get, get_in, sets}
use types.Part.{agg, sub, whole}
use contract.Monad.{fact, fact_i}
use denote.Exit.{no}
use denote.RattleType.{RattleType, owns}
use denote.Signature.{types_at, plain}
use denote.Steps.{nothing}
use denote.Triple.Entry.{alive}
use denote.Triple.Walked.{Stays, stay_dropped, walk_of}
use Rattle.core.proofs.alloc.Calls.{Goes-blank}
use Rattle.std.proofs.raw_atomic.Walks.{proved, leaves}
use Rattle.c_handles.proofs.HeldValues.{word, heap_good, ptr_good, word_good, held_told}
use Rattle.c_handles.specs.contracts.held.Held as held
use Rattle.cuvragyen.specs.PartRows.{part_row}
use Rattle.cuvragyen.specs.contracts.handle.Handle as handle
use Rattle.cuvragyen.specs.contracts.handle.Handle.of.{ended, clauses}
use Rattle.cuvragyen.specs.contracts.handle.Handle.of.Key.{name as #self}
use Rattle.cuvragyen.proofs.handle.Handle.of.Statement.{statement}
use Rattle.cuvragyen.proofs.handle.Handle.of.Code as code

abbrev Given : RattleType
Given = held.the_row part_row

abbrev Made : RattleType
Made = handle.the_row

pub of_spec : {M : Type 1} → statement M
of_spec 𝓤 𝓛 𝓜 𝓡 wired =
    let En = ended in let c = clauses 𝓛 𝓜.mem 𝓡.returns in let slot = plain (λ _. Given) in let hs : Stays En.signature.params En.kept = (stay_dropped slot no, tt) in
    proved 𝓛 En hs c 𝓜 𝓡 (Goes-blank 𝓛 0 slot no (λ κs x f. tt), tt) #self code.function (code.unfolded 𝓤 𝓛.H 𝓜 𝓡 wired)
    (λ κs. ((λ (x : Given.Denot). word x.at ∷ []), tt)) (λ κs. (held_told part_row, tt)) (λ κs qs bounds a g are.
    let x : Given.Denot = a.0 in let w = word x.at in let made : Made.Denot = record { at = x.at; alloc = x.alloc; value = x.value } in let z : (walk_of 𝓛 En hs c).Ghost = ((κs, qs, bounds, a, (w ∷ [], tt)), g) in
    qed 𝓛 ((raw (alive 𝓛 En.signature κs qs) ⊛ ‵ (owns (types_at En.signature.params κs) a (w ∷ [], tt))) ∷ raw ((c κs a).requires g) ∷ []) ∵ split ! $ move ! (1 ∷ []) $ fsplit ! $
    -- both types own the same: [the made value; nothing; the tokens; the `requires`]
    use1 𝓛 (‵ (Made.own_val made (w ∷ []))) (id⊢ 𝓤 _) $ enter ! _ _ _ _ _ $ alloc_all ! (λ l. pass_all ! refl (word_good part_row x.at, tt) $
    sets ! (of_opd ! (get_in ! (fld ! refl (stop !)) (sub ! 0 refl (whole !)))) refl (ptr_good x.at) $ sets ! (of_opd ! (get_in ! (fld ! refl (stop !)) (sub ! 1 refl (whole !)))) refl heap_good $
    sets ! (of_opd ! (get ! refl)) refl (ptr_good x.at) $ sets ! (agg ! (and_then ! (get ! refl) (and_then ! (get ! refl) (no_more !)))) refl (word_good part_row x.at) $
    use0 𝓛 (raw (fact 𝓤 (x.value ≡ x.value))) (fact_i 𝓤 (x.value ≡ x.value) (emp 𝓤) refl) $ nothing ! $ nothing ! $ fjoin ! $
    returns ! (look_at ! 0 refl) $ free_all ! refl $ keep ! (4 ∷ 0 ∷ 2 ∷ 1 ∷ []) $ by ! (leaves 𝓛 En hs c z w made (tt, tt) (tt, tt))))
