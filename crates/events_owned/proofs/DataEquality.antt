-- What `==` means for bodies of any type.
use Rattle.std.proofs.Common.{Option, Some, None, true≢false, sym, ap, rules}
use Rattle.std.specs.Bool.{Decides}
use Rattle.std.proofs.lemmas.Bool.Decides.{Decides-and}
use denote.Enum.Bare.{same_true, true_same}
use Rattle.std.proofs.lemmas.Slice.Eq.{bytes_eq-Decides}
use Rattle.rows_constants.specs.contracts.event_type.EventType.{the_type as event_type}
use Rattle.rows_table_map.proofs.MapLawLemmas.{maps_decide}
use Rattle.events_frames.proofs.LawLemmas.{descriptions_decide}
use Rattle.events_bodies.proofs.UserVarEquality.{variables_decide}
use Rattle.events_bodies.proofs.QueryLemmas.{queries_decide}
use Rattle.events_bodies.proofs.LoadQueryLemmas.{load_queries_decide}
use Rattle.events_bodies.proofs.GtidEquality.{gtids_decide}
use Rattle.events_owned.proofs.EqualLemmas.{data_decide}
use Rattle.events_owned.specs.DataEncodings.{HaveSameContents, IsSameRaw}
use Rattle.events_owned.specs.EqualBodies.{same_data, same_raw}
use Rattle.events_owned.specs.RawBodies.{RawBody, raw_of}
use Rattle.events_owned.specs.declared.event_data.EventData.{EventData}
use Rattle.events_owned.specs.declared.event_data.EventData.TheVariants as read

raws_decide : (r s : Option RawBody) → Decides (same_raw r s) (IsSameRaw r s)
raws_decide (Some r) (Some s) =
    let both = Decides-and _ _ (same_true event_type (search rules) r.event_type s.event_type, true_same event_type r.event_type s.event_type) (bytes_eq-Decides r.bytes s.bytes) in
    (λ e. let parts = both.0 e in search (rules, parts), λ h. both.1 (ap (λ x. x.event_type) h, ap (λ x. x.bytes) h))
raws_decide (Some r) None = (λ e. absurd (true≢false (sym e)), λ h. absurd h)
raws_decide None (Some s) = (λ e. absurd (true≢false (sym e)), λ h. absurd h)
raws_decide None None = (λ e. absurd (true≢false (sym e)), λ h. absurd h)

-- bodies in two formats are different
pub bodies_decide : (a b : EventData) → Decides (same_data a b) (HaveSameContents a b)
unfolding same_data
bodies_decide (read.QueryEvent a) (read.QueryEvent b) = queries_decide a b
bodies_decide (read.RotateEvent a) (read.RotateEvent b) = search rules
bodies_decide (read.IntvarEvent a) (read.IntvarEvent b) = search rules
bodies_decide (read.RandEvent a) (read.RandEvent b) = search rules
bodies_decide (read.UserVarEvent a) (read.UserVarEvent b) = variables_decide a b
bodies_decide (read.FormatDescriptionEvent a) (read.FormatDescriptionEvent b) = descriptions_decide a b
bodies_decide (read.XidEvent a) (read.XidEvent b) = search rules
bodies_decide (read.BeginLoadQueryEvent a) (read.BeginLoadQueryEvent b) = search rules
bodies_decide (read.ExecuteLoadQueryEvent a) (read.ExecuteLoadQueryEvent b) = load_queries_decide a b
bodies_decide (read.TableMapEvent a) (read.TableMapEvent b) = maps_decide a b
bodies_decide (read.IncidentEvent a) (read.IncidentEvent b) = search rules
bodies_decide (read.RowsQueryEvent a) (read.RowsQueryEvent b) = search rules
bodies_decide (read.GtidEvent a) (read.GtidEvent b) = gtids_decide a b
bodies_decide (read.AnonymousGtidEvent a) (read.AnonymousGtidEvent b) = gtids_decide a.0 b.0
bodies_decide (read.RowsEvent a) (read.RowsEvent b) = data_decide a b
bodies_decide a b = raws_decide (raw_of a) (raw_of b)
