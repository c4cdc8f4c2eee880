use Rattle.std.proofs.lemmas.Result.{IfOk-from_err}
use Rattle.std.proofs.Common.{◌≡◌, ◌++◌, List, [], ◌∷◌, map, Option, Some, ap, sym, subst, ◌∙◌, append_assoc}
use Rattle.std.proofs.lemmas.List.{map-append}
use Rattle.std.proofs.lemmas.List.Elements.{All-head, All-tail}
use Rattle.std.specs.Prelude.{All, IsSome}
use Rattle.rows_event_body.proofs.binlog_row.BinlogRow.unwrap.Goals as goal

one_more : {A : Type 0} (taken : List A) (v : A) (x : Option A) (old rest all : List (Option A)) → map (λ y. Some y) taken ++ old ≡ all → old ≡ x ∷ rest → x ≡ Some v
    → map (λ y. Some y) (taken ++ (v ∷ [])) ++ rest ≡ all
one_more taken v x old rest all so_far next is =
    ap (λ l. l ++ rest) (map-append (λ y. Some y) taken (v ∷ [])) ∙ append_assoc (map (λ y. Some y) taken) (Some v ∷ []) rest
    ∙ ap (λ l. map (λ y. Some y) taken ++ l) (sym (next ∙ ap (λ y. y ∷ rest) is)) ∙ so_far

pub loop-value-preserved : goal.loop-value-preserved
loop-value-preserved c = record {
  values_are = rw c.in_ok-push.ensures.items (one_more c.loop-value.values.items c.unwrap.result c.in-Some.value _ _ _ c.loop-value.invariant.values_are c.in-Some.ensures.steps.0 c.unwrap.ensures);
  none_taken = All-tail IsSome _ _ (subst (All IsSome) c.in-Some.ensures.steps.0 c.loop-value.invariant.none_taken);
}

pub returns-in_err-values : goal.returns-in_err-values
returns-in_err-values c = IfOk-from_err c.from_residual.result _ c.from_residual.ensures.0

pub returns-in_err-push : goal.returns-in_err-push
returns-in_err-push c = IfOk-from_err c.from_residual-in_err-push.result _ c.from_residual-in_err-push.ensures.0

pub loop-value-init : goal.loop-value-init
loop-value-init c = record {
  values_are = rw c.in_ok-values.ensures.items c.into_iter-value-iterator.ensures.into_iter_gives.0;
  none_taken = rw c.into_iter-value-iterator.ensures.into_iter_gives.0 c.requires;
}

pub unwrap-requires : goal.unwrap-requires
unwrap-requires c = All-head IsSome _ _ (subst (All IsSome) c.in-Some.ensures.steps.0 c.loop-value.invariant.none_taken)
