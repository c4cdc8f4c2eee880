-- What `==` means for rows events.
use Rattle.std.proofs.Common.{◌≡◌, ap, rules}
use Rattle.std.proofs.lemmas.Bool.Decides.{Decides-like, Decides-and, Decides-eqb}
use Rattle.std.specs.Bool.{Decides}
use lib.Pointwise.{bytes_decides}
use denote.Enum.Bare.{same_true, true_same}
use Rattle.wire_fields.specs.RawTexts.{raw_string}
use Rattle.rows_table_map.proofs.EqualityLemmas.{maybe_decides, true_decides}
use Rattle.rows_event_body.specs.contracts.rows_event_type.RowsEventType.{the_type as event_type}
use Rattle.rows_event_body.specs.contracts.rows_event.RowsEventPartialEq.TheImpl.{ghosts as event_equality}
use Rattle.rows_event_body.specs.declared.rows_event.RowsEvent.{RowsEvent}
use Rattle.rows_event_body.specs.Views.{body_of}

pub events_decide : (a b : RowsEvent) → Decides (event_equality.eq a b) (body_of a ≡ body_of b)
events_decide a b =
    Decides-like _
    (λ w. λ i. record { event_type = w.0 i; table_id = w.1.0 i; flags = w.1.1.0.0 i; extra = w.1.1.1.0 i; columns = w.1.1.1.1.0.0 i; before = w.1.1.1.1.1.0 i; after = w.1.1.1.1.1.1.0 i; rows_data = w.1.1.1.1.1.1.1.0 i })
    (λ e. (ap (λ p. p.event_type) e, (ap (λ p. p.table_id) e, ((ap (λ p. p.flags) e, tt), (ap (λ p. p.extra) e, ((ap (λ p. p.columns) e, tt), (ap (λ p. p.before) e, (ap (λ p. p.after) e, (ap (λ p. p.rows_data) e, tt)))))))))
    (Decides-and _ _ (same_true event_type (search rules) a.event_type b.event_type, true_same event_type a.event_type b.event_type)
    (Decides-and _ _ (Decides-eqb a.table_id.0 b.table_id.0)
    (Decides-and _ _ (Decides-and _ _ (Decides-eqb a.flags.0 b.flags.0) true_decides)
    (Decides-and _ _ (maybe_decides _ (λ e. raw_string e.0) (λ x y. Decides-like _ (λ w. w.0) (λ e. (e, tt)) (Decides-and _ _ (bytes_decides (raw_string x.0) (raw_string y.0)) true_decides)) a.extra_data.0 b.extra_data.0)
    (Decides-and _ _ (Decides-and _ _ (Decides-eqb a.num_columns.0 b.num_columns.0) true_decides)
    (Decides-and _ _ (maybe_decides _ (λ raw. raw_string raw) (λ x y. Decides-like _ (λ w. w.0) (λ e. (e, tt)) (Decides-and _ _ (bytes_decides (raw_string x) (raw_string y)) true_decides)) a.before.0 b.before.0)
    (Decides-and _ _ (maybe_decides _ (λ raw. raw_string raw) (λ x y. Decides-like _ (λ w. w.0) (λ e. (e, tt)) (Decides-and _ _ (bytes_decides (raw_string x) (raw_string y)) true_decides)) a.after.0 b.after.0)
    (Decides-and _ _ (bytes_decides (raw_string a.rows_data) (raw_string b.rows_data)) true_decides))))))))
