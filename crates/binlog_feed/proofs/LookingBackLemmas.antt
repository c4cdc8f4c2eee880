-- What earlier events imply, said of the newest event that counts.
use Rattle.std.proofs.Common.{◌≡◌, ℕ, Bool, true, false, inl, inr, List, [], ◌∷◌, ◌++◌, Option, Some, None, nat_eq, refl, sym, ap, subst, ◌∙◌, eq-eqb}
use Rattle.std.specs.Prelude.{is_some}
use Rattle.std.specs.List.{list_any}
use Rattle.std.proofs.lemmas.Bool.{cases_Bool, eqb-true}
use Rattle.rows_table_map.specs.TableMaps.{TableMap}
use Rattle.feed_checks.specs.PastLists.{when}
use Rattle.feed_checks.specs.Kinds.{Gtid, Kind, Format, NextGtid, Begin, Commit, Rollback, Statement, Map, Rows, RealRotate, Ignored, Unshown, Unknown, BadBody, is_inside, waiting, is_waiting, since_begin, newest_map}
use Rattle.binlog_feed.specs.LookingBack.{HasNewest, IsAnyGtid, IsMap, ends_transaction, takes_gtid, replaces_gtid, replaces_map}

-- this element
here : {A : Type 0} (has : A → Type 0) (test : A → Bool) (x : A) (past : List A) → has x → HasNewest has test (x ∷ past)
here has test x past h = record { later = []; element = x; older = past; split = refl; is = h; none_later = refl }

-- an element before this one
before : {A : Type 0} (has : A → Type 0) (test : A → Bool) (x : A) (past : List A) → test x ≡ false → HasNewest has test past → HasNewest has test (x ∷ past)
before has test x past t h = record {
  later = x ∷ h.later;
  element = h.element;
  older = h.older;
  split = ap (λ l. x ∷ l) h.split;
  is = h.is;
  none_later = rw t h.none_later;
}

-- ---- inside

pub inside-has : (past : List Kind) → is_inside past ≡ true → HasNewest (λ k. k ≡ Begin) ends_transaction past
unfolding is_inside
inside-has [] h = absurd cc
inside-has (Begin ∷ past) h = here (λ k. k ≡ Begin) ends_transaction Begin past refl
inside-has (Commit ∷ past) h = absurd cc
inside-has (Rollback ∷ past) h = absurd cc
inside-has (Format ∷ past) h = absurd cc
inside-has (NextGtid g ∷ past) h = before (λ k. k ≡ Begin) ends_transaction (NextGtid g) past refl (inside-has past h)
inside-has (Statement q ∷ past) h = before (λ k. k ≡ Begin) ends_transaction (Statement q) past refl (inside-has past h)
inside-has (Map m ∷ past) h = before (λ k. k ≡ Begin) ends_transaction (Map m) past refl (inside-has past h)
inside-has (Rows r ∷ past) h = before (λ k. k ≡ Begin) ends_transaction (Rows r) past refl (inside-has past h)
inside-has (RealRotate ∷ past) h = before (λ k. k ≡ Begin) ends_transaction RealRotate past refl (inside-has past h)
inside-has (Ignored ∷ past) h = before (λ k. k ≡ Begin) ends_transaction Ignored past refl (inside-has past h)
inside-has (Unshown ∷ past) h = before (λ k. k ≡ Begin) ends_transaction Unshown past refl (inside-has past h)
inside-has (Unknown ∷ past) h = before (λ k. k ≡ Begin) ends_transaction Unknown past refl (inside-has past h)
inside-has (BadBody ∷ past) h = before (λ k. k ≡ Begin) ends_transaction BadBody past refl (inside-has past h)

-- after a begin, with none of these after it
inside-after : (later : List Kind) (k : Kind) (older : List Kind) → k ≡ Begin → list_any ends_transaction later ≡ false → is_inside (later ++ k ∷ older) ≡ true
unfolding is_inside
inside-after [] k older b h = rw b refl
inside-after (Begin ∷ later) k older b h = refl
inside-after (Commit ∷ later) k older b h = absurd cc
inside-after (Rollback ∷ later) k older b h = absurd cc
inside-after (Format ∷ later) k older b h = absurd cc
inside-after (NextGtid g ∷ later) k older b h = inside-after later k older b h
inside-after (Statement q ∷ later) k older b h = inside-after later k older b h
inside-after (Map m ∷ later) k older b h = inside-after later k older b h
inside-after (Rows r ∷ later) k older b h = inside-after later k older b h
inside-after (RealRotate ∷ later) k older b h = inside-after later k older b h
inside-after (Ignored ∷ later) k older b h = inside-after later k older b h
inside-after (Unshown ∷ later) k older b h = inside-after later k older b h
inside-after (Unknown ∷ later) k older b h = inside-after later k older b h
inside-after (BadBody ∷ later) k older b h = inside-after later k older b h

pub inside-of : (past : List Kind) → HasNewest (λ k. k ≡ Begin) ends_transaction past → is_inside past ≡ true
inside-of past h = ap is_inside h.split ∙ inside-after h.later h.element h.older h.is h.none_later

-- ---- the waiting GTID

pub waiting-has : (past : List Kind) (g : Gtid) → waiting past ≡ Some g → HasNewest (λ k. k ≡ NextGtid g) replaces_gtid past
unfolding waiting
waiting-has [] g h = absurd cc
waiting-has (NextGtid x ∷ past) g h = here (λ k. k ≡ NextGtid g) replaces_gtid (NextGtid x) past (let e : x ≡ g = cc in ap NextGtid e)
waiting-has (Begin ∷ past) g h = absurd cc
waiting-has (Statement q ∷ past) g h = absurd cc
waiting-has (Format ∷ past) g h = absurd cc
waiting-has (Commit ∷ past) g h = before (λ k. k ≡ NextGtid g) replaces_gtid Commit past refl (waiting-has past g h)
waiting-has (Rollback ∷ past) g h = before (λ k. k ≡ NextGtid g) replaces_gtid Rollback past refl (waiting-has past g h)
waiting-has (Map m ∷ past) g h = before (λ k. k ≡ NextGtid g) replaces_gtid (Map m) past refl (waiting-has past g h)
waiting-has (Rows r ∷ past) g h = before (λ k. k ≡ NextGtid g) replaces_gtid (Rows r) past refl (waiting-has past g h)
waiting-has (RealRotate ∷ past) g h = before (λ k. k ≡ NextGtid g) replaces_gtid RealRotate past refl (waiting-has past g h)
waiting-has (Ignored ∷ past) g h = before (λ k. k ≡ NextGtid g) replaces_gtid Ignored past refl (waiting-has past g h)
waiting-has (Unshown ∷ past) g h = before (λ k. k ≡ NextGtid g) replaces_gtid Unshown past refl (waiting-has past g h)
waiting-has (Unknown ∷ past) g h = before (λ k. k ≡ NextGtid g) replaces_gtid Unknown past refl (waiting-has past g h)
waiting-has (BadBody ∷ past) g h = before (λ k. k ≡ NextGtid g) replaces_gtid BadBody past refl (waiting-has past g h)

waiting-after : (later : List Kind) (k : Kind) (older : List Kind) (g : Gtid) → k ≡ NextGtid g → list_any replaces_gtid later ≡ false → waiting (later ++ k ∷ older) ≡ Some g
unfolding waiting
waiting-after [] k older g e h = rw e refl
waiting-after (NextGtid x ∷ later) k older g e h = absurd cc
waiting-after (Begin ∷ later) k older g e h = absurd cc
waiting-after (Statement q ∷ later) k older g e h = absurd cc
waiting-after (Format ∷ later) k older g e h = absurd cc
waiting-after (Commit ∷ later) k older g e h = waiting-after later k older g e h
waiting-after (Rollback ∷ later) k older g e h = waiting-after later k older g e h
waiting-after (Map m ∷ later) k older g e h = waiting-after later k older g e h
waiting-after (Rows r ∷ later) k older g e h = waiting-after later k older g e h
waiting-after (RealRotate ∷ later) k older g e h = waiting-after later k older g e h
waiting-after (Ignored ∷ later) k older g e h = waiting-after later k older g e h
waiting-after (Unshown ∷ later) k older g e h = waiting-after later k older g e h
waiting-after (Unknown ∷ later) k older g e h = waiting-after later k older g e h
waiting-after (BadBody ∷ later) k older g e h = waiting-after later k older g e h

pub waiting-of : (past : List Kind) (g : Gtid) → HasNewest (λ k. k ≡ NextGtid g) replaces_gtid past → waiting past ≡ Some g
waiting-of past g h = ap waiting h.split ∙ waiting-after h.later h.element h.older g h.is h.none_later

-- ---- whether a GTID waits

fewer : (k : Kind) → replaces_gtid k ≡ false → takes_gtid k ≡ false
fewer (NextGtid g) h = refl
fewer Begin h = h
fewer (Statement q) h = h
fewer Format h = h
fewer Commit h = refl
fewer Rollback h = refl
fewer (Map m) h = refl
fewer (Rows r) h = refl
fewer RealRotate h = refl
fewer Ignored h = refl
fewer Unshown h = refl
fewer Unknown h = refl
fewer BadBody h = refl

none-fewer : (l : List Kind) → list_any replaces_gtid l ≡ false → list_any takes_gtid l ≡ false
none-fewer [] h = refl
none-fewer (k ∷ l) h = elim (cases_Bool (replaces_gtid k)) [
  | inl t ↦ absurd (let e : true ≡ false = sym (rw t refl) ∙ h in cc)
  | inr f ↦ (let e : list_any replaces_gtid l ≡ false = rw f at h in rw (fewer k f) (none-fewer l e))
]

some-waits : (past : List Kind) (o : Option Gtid) → waiting past ≡ o → is_some o ≡ true → HasNewest IsAnyGtid takes_gtid past
some-waits past None e h = absurd cc
some-waits past (Some g) e h =
    let w = waiting-has past g e in
    record { later = w.later; element = w.element; older = w.older; split = w.split; is = (g, w.is); none_later = none-fewer w.later w.none_later }

pub waits-has : (past : List Kind) → is_waiting past ≡ true → HasNewest IsAnyGtid takes_gtid past
waits-has past h = some-waits past (waiting past) refl h

waits-after : (later : List Kind) (k : Kind) (older : List Kind) → IsAnyGtid k → list_any takes_gtid later ≡ false → is_waiting (later ++ k ∷ older) ≡ true
unfolding waiting
waits-after [] k older e h = rw e.1 refl
waits-after (NextGtid x ∷ later) k older e h = refl
waits-after (Begin ∷ later) k older e h = absurd cc
waits-after (Statement q ∷ later) k older e h = absurd cc
waits-after (Format ∷ later) k older e h = absurd cc
waits-after (Commit ∷ later) k older e h = waits-after later k older e h
waits-after (Rollback ∷ later) k older e h = waits-after later k older e h
waits-after (Map m ∷ later) k older e h = waits-after later k older e h
waits-after (Rows r ∷ later) k older e h = waits-after later k older e h
waits-after (RealRotate ∷ later) k older e h = waits-after later k older e h
waits-after (Ignored ∷ later) k older e h = waits-after later k older e h
waits-after (Unshown ∷ later) k older e h = waits-after later k older e h
waits-after (Unknown ∷ later) k older e h = waits-after later k older e h
waits-after (BadBody ∷ later) k older e h = waits-after later k older e h

pub waits-of : (past : List Kind) → HasNewest IsAnyGtid takes_gtid past → is_waiting past ≡ true
waits-of past h = ap is_waiting h.split ∙ waits-after h.later h.element h.older h.is h.none_later

-- ---- the newest table map with an id

-- a map is it, or has another id
map-here : (past : List Kind) (id : ℕ) (m x : TableMap) → (newest_map (since_begin past) id ≡ Some m → HasNewest (IsMap id m) (replaces_map id) past)
    → (same : Bool) → nat_eq x.table_id id ≡ same → elim (when same x) [ Some y ↦ Some y | None ↦ newest_map (since_begin past) id ] ≡ Some m → HasNewest (IsMap id m) (replaces_map id) (Map x ∷ past)
map-here past id m x go true t h = (let e : x ≡ m = cc in here (IsMap id m) (replaces_map id) (Map x) past (ap Map e, ap (λ y. y.table_id) (sym e) ∙ eqb-true x.table_id id t))
map-here past id m x go false t h = before (IsMap id m) (replaces_map id) (Map x) past t (go h)

pub map-has : (past : List Kind) (id : ℕ) (m : TableMap) → newest_map (since_begin past) id ≡ Some m → HasNewest (IsMap id m) (replaces_map id) past
unfolding newest_map since_begin
map-has [] id m h = absurd cc
map-has (Begin ∷ past) id m h = absurd cc
map-has (Map x ∷ past) id m h = map-here past id m x (map-has past id m) (nat_eq x.table_id id) refl h
map-has (NextGtid g ∷ past) id m h = before (IsMap id m) (replaces_map id) (NextGtid g) past refl (map-has past id m h)
map-has (Statement q ∷ past) id m h = before (IsMap id m) (replaces_map id) (Statement q) past refl (map-has past id m h)
map-has (Format ∷ past) id m h = before (IsMap id m) (replaces_map id) Format past refl (map-has past id m h)
map-has (Commit ∷ past) id m h = before (IsMap id m) (replaces_map id) Commit past refl (map-has past id m h)
map-has (Rollback ∷ past) id m h = before (IsMap id m) (replaces_map id) Rollback past refl (map-has past id m h)
map-has (Rows r ∷ past) id m h = before (IsMap id m) (replaces_map id) (Rows r) past refl (map-has past id m h)
map-has (RealRotate ∷ past) id m h = before (IsMap id m) (replaces_map id) RealRotate past refl (map-has past id m h)
map-has (Ignored ∷ past) id m h = before (IsMap id m) (replaces_map id) Ignored past refl (map-has past id m h)
map-has (Unshown ∷ past) id m h = before (IsMap id m) (replaces_map id) Unshown past refl (map-has past id m h)
map-has (Unknown ∷ past) id m h = before (IsMap id m) (replaces_map id) Unknown past refl (map-has past id m h)
map-has (BadBody ∷ past) id m h = before (IsMap id m) (replaces_map id) BadBody past refl (map-has past id m h)

-- a map with another id changes nothing
other-map : (x : TableMap) (past : List Kind) (id : ℕ) → nat_eq x.table_id id ≡ false → newest_map (since_begin (Map x ∷ past)) id ≡ newest_map (since_begin past) id
unfolding newest_map since_begin
other-map x past id f = subst (λ (b : Bool). elim (when b x) [ Some y ↦ Some y | None ↦ newest_map (since_begin past) id ] ≡ newest_map (since_begin past) id) (sym f) refl

-- the map with the id is the newest
this-map : (x : TableMap) (past : List Kind) (id : ℕ) → nat_eq x.table_id id ≡ true → newest_map (since_begin (Map x ∷ past)) id ≡ Some x
unfolding newest_map since_begin
this-map x past id t = subst (λ (b : Bool). elim (when b x) [ Some y ↦ Some y | None ↦ newest_map (since_begin past) id ] ≡ Some x) (sym t) refl

map-after : (later : List Kind) (k : Kind) (older : List Kind) (id : ℕ) (m : TableMap) → IsMap id m k → list_any (replaces_map id) later ≡ false → newest_map (since_begin (later ++ k ∷ older)) id ≡ Some m
unfolding newest_map since_begin
map-after [] k older id m e h = ap (λ (x : Kind). newest_map (since_begin (x ∷ older)) id) e.0 ∙ this-map m older id (eq-eqb m.table_id id e.1)
map-after (Begin ∷ later) k older id m e h = absurd cc
map-after (Map x ∷ later) k older id m e h = elim (cases_Bool (nat_eq x.table_id id)) [
  | inl t ↦ absurd (let z : true ≡ false = sym (rw t refl) ∙ h in cc)
  | inr f ↦ (let z : list_any (replaces_map id) later ≡ false = rw f at h in other-map x (later ++ k ∷ older) id f ∙ map-after later k older id m e z)
]
map-after (NextGtid g ∷ later) k older id m e h = map-after later k older id m e h
map-after (Statement q ∷ later) k older id m e h = map-after later k older id m e h
map-after (Format ∷ later) k older id m e h = map-after later k older id m e h
map-after (Commit ∷ later) k older id m e h = map-after later k older id m e h
map-after (Rollback ∷ later) k older id m e h = map-after later k older id m e h
map-after (Rows r ∷ later) k older id m e h = map-after later k older id m e h
map-after (RealRotate ∷ later) k older id m e h = map-after later k older id m e h
map-after (Ignored ∷ later) k older id m e h = map-after later k older id m e h
map-after (Unshown ∷ later) k older id m e h = map-after later k older id m e h
map-after (Unknown ∷ later) k older id m e h = map-after later k older id m e h
map-after (BadBody ∷ later) k older id m e h = map-after later k older id m e h

pub map-of : (past : List Kind) (id : ℕ) (m : TableMap) → HasNewest (IsMap id m) (replaces_map id) past → newest_map (since_begin past) id ≡ Some m
map-of past id m h = ap (λ l. newest_map (since_begin l) id) h.split ∙ map-after h.later h.element h.older id m h.is h.none_later
