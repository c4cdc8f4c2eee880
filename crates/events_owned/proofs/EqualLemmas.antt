-- What `==` means for rows events by type.
use Rattle.std.proofs.Common.{◌≡◌, ◌∙◌, true, false, true≢false, refl, sym, ap}
use Rattle.std.specs.Prelude.{◌&&◌}
use Rattle.std.specs.Bool.{Decides}
use Rattle.std.proofs.lemmas.Bool.Decides.{Decides-like, Decides-and}
use denote.Enum.Bare.{sameb, true_same}
use Rattle.rows_table_map.proofs.EqualityLemmas.{true_decides}
use Rattle.rows_event_body.proofs.EqualLemmas.{events_decide}
use Rattle.rows_event_body.specs.contracts.rows_event_type.RowsEventType.{the_type as rows_type}
use Rattle.rows_event_body.specs.contracts.rows_event.RowsEventPartialEq.TheImpl.{ghosts as event_equality}
use Rattle.events_owned.specs.declared.kinds.RowsKind.{Ghosts}
use Rattle.events_owned.specs.declared.rows_event_of.RowsEventOf.{RowsEventOf}
use Rattle.events_owned.specs.declared.rows_event_data.RowsEventData.{RowsEventData}
use Rattle.events_owned.specs.declared.rows_event_data.RowsEventData.TheVariants.{WriteRowsEventV1, UpdateRowsEventV1, DeleteRowsEventV1, WriteRowsEvent, UpdateRowsEvent, DeleteRowsEvent, PartialUpdateRowsEvent}
use Rattle.events_owned.specs.contracts.rows_event_data.RowsEventDataPartialEq.TheImpl.{ghosts as data_equality}
use Rattle.events_owned.specs.RowsViews.{rows_of, data_of}

-- events of one kind
pub same_kind_decides : {K : Type 0} {kind : Ghosts K} (a b : RowsEventOf K kind) → Decides (event_equality.eq a.event b.event && true) (rows_of a ≡ rows_of b)
same_kind_decides a b = Decides-like _ (λ w. w.0) (λ e. (e, tt)) (Decides-and _ _ (events_decide a.event b.event) true_decides)

-- events of two kinds have different contents
two_kinds_decide : {K L : Type 0} {kind : Ghosts K} {other : Ghosts L} (a : RowsEventOf K kind) (b : RowsEventOf L other) → sameb rows_type kind.ROWS_TYPE other.ROWS_TYPE ≡ false
    → Decides false (rows_of a ≡ rows_of b)
two_kinds_decide a b differ =
    (λ e. absurd (true≢false (sym e)), λ e. absurd (true≢false (sym (true_same rows_type _ _ (sym a.type_is ∙ ap (λ r. r.event_type) e ∙ b.type_is)) ∙ differ)))

pub data_decide : (a b : RowsEventData) → Decides (data_equality.eq a b) (data_of a ≡ data_of b)
data_decide (WriteRowsEventV1 a) (WriteRowsEventV1 b) = same_kind_decides a b
data_decide (WriteRowsEventV1 a) (UpdateRowsEventV1 b) = two_kinds_decide a b refl
data_decide (WriteRowsEventV1 a) (DeleteRowsEventV1 b) = two_kinds_decide a b refl
data_decide (WriteRowsEventV1 a) (WriteRowsEvent b) = two_kinds_decide a b refl
data_decide (WriteRowsEventV1 a) (UpdateRowsEvent b) = two_kinds_decide a b refl
data_decide (WriteRowsEventV1 a) (DeleteRowsEvent b) = two_kinds_decide a b refl
data_decide (WriteRowsEventV1 a) (PartialUpdateRowsEvent b) = two_kinds_decide a b refl
data_decide (UpdateRowsEventV1 a) (WriteRowsEventV1 b) = two_kinds_decide a b refl
data_decide (UpdateRowsEventV1 a) (UpdateRowsEventV1 b) = same_kind_decides a b
data_decide (UpdateRowsEventV1 a) (DeleteRowsEventV1 b) = two_kinds_decide a b refl
data_decide (UpdateRowsEventV1 a) (WriteRowsEvent b) = two_kinds_decide a b refl
data_decide (UpdateRowsEventV1 a) (UpdateRowsEvent b) = two_kinds_decide a b refl
data_decide (UpdateRowsEventV1 a) (DeleteRowsEvent b) = two_kinds_decide a b refl
data_decide (UpdateRowsEventV1 a) (PartialUpdateRowsEvent b) = two_kinds_decide a b refl
data_decide (DeleteRowsEventV1 a) (WriteRowsEventV1 b) = two_kinds_decide a b refl
data_decide (DeleteRowsEventV1 a) (UpdateRowsEventV1 b) = two_kinds_decide a b refl
data_decide (DeleteRowsEventV1 a) (DeleteRowsEventV1 b) = same_kind_decides a b
data_decide (DeleteRowsEventV1 a) (WriteRowsEvent b) = two_kinds_decide a b refl
data_decide (DeleteRowsEventV1 a) (UpdateRowsEvent b) = two_kinds_decide a b refl
data_decide (DeleteRowsEventV1 a) (DeleteRowsEvent b) = two_kinds_decide a b refl
data_decide (DeleteRowsEventV1 a) (PartialUpdateRowsEvent b) = two_kinds_decide a b refl
data_decide (WriteRowsEvent a) (WriteRowsEventV1 b) = two_kinds_decide a b refl
data_decide (WriteRowsEvent a) (UpdateRowsEventV1 b) = two_kinds_decide a b refl
data_decide (WriteRowsEvent a) (DeleteRowsEventV1 b) = two_kinds_decide a b refl
data_decide (WriteRowsEvent a) (WriteRowsEvent b) = same_kind_decides a b
data_decide (WriteRowsEvent a) (UpdateRowsEvent b) = two_kinds_decide a b refl
data_decide (WriteRowsEvent a) (DeleteRowsEvent b) = two_kinds_decide a b refl
data_decide (WriteRowsEvent a) (PartialUpdateRowsEvent b) = two_kinds_decide a b refl
data_decide (UpdateRowsEvent a) (WriteRowsEventV1 b) = two_kinds_decide a b refl
data_decide (UpdateRowsEvent a) (UpdateRowsEventV1 b) = two_kinds_decide a b refl
data_decide (UpdateRowsEvent a) (DeleteRowsEventV1 b) = two_kinds_decide a b refl
data_decide (UpdateRowsEvent a) (WriteRowsEvent b) = two_kinds_decide a b refl
data_decide (UpdateRowsEvent a) (UpdateRowsEvent b) = same_kind_decides a b
data_decide (UpdateRowsEvent a) (DeleteRowsEvent b) = two_kinds_decide a b refl
data_decide (UpdateRowsEvent a) (PartialUpdateRowsEvent b) = two_kinds_decide a b refl
data_decide (DeleteRowsEvent a) (WriteRowsEventV1 b) = two_kinds_decide a b refl
data_decide (DeleteRowsEvent a) (UpdateRowsEventV1 b) = two_kinds_decide a b refl
data_decide (DeleteRowsEvent a) (DeleteRowsEventV1 b) = two_kinds_decide a b refl
data_decide (DeleteRowsEvent a) (WriteRowsEvent b) = two_kinds_decide a b refl
data_decide (DeleteRowsEvent a) (UpdateRowsEvent b) = two_kinds_decide a b refl
data_decide (DeleteRowsEvent a) (DeleteRowsEvent b) = same_kind_decides a b
data_decide (DeleteRowsEvent a) (PartialUpdateRowsEvent b) = two_kinds_decide a b refl
data_decide (PartialUpdateRowsEvent a) (WriteRowsEventV1 b) = two_kinds_decide a b refl
data_decide (PartialUpdateRowsEvent a) (UpdateRowsEventV1 b) = two_kinds_decide a b refl
data_decide (PartialUpdateRowsEvent a) (DeleteRowsEventV1 b) = two_kinds_decide a b refl
data_decide (PartialUpdateRowsEvent a) (WriteRowsEvent b) = two_kinds_decide a b refl
data_decide (PartialUpdateRowsEvent a) (UpdateRowsEvent b) = two_kinds_decide a b refl
data_decide (PartialUpdateRowsEvent a) (DeleteRowsEvent b) = two_kinds_decide a b refl
data_decide (PartialUpdateRowsEvent a) (PartialUpdateRowsEvent b) = same_kind_decides a b
