-- The names of members on request, as the option --with lists them (the manual page binlog-changes(1), "OPTIONS OF JSON").
use Rattle.std.specs.Prelude.{◌||◌, ◌==◌, ℕ, true, false, List, [], ◌∷◌, codes, find, Option, Some, None, option_map, is_some, if◌then◌else◌}
use Rattle.std.specs.List.{filter_map, list_all, list_any, slice_split}
use Rattle.std.specs.Str.{bytes_eq}
use Rattle.changes_origins.specs.declared.added_members.AddedMembers.{AddedMembers}

-- no members
abbrev pub no_members : AddedMembers
no_members = record { begin = false; ts_ms = false; xid = false; thread_id = false; query = false; row = false }

-- all members
abbrev pub all_members : AddedMembers
all_members = record { begin = true; ts_ms = true; xid = true; thread_id = true; query = true; row = true }

-- the names, and what each stands for
abbrev pub names : List (List ℕ × AddedMembers)
names =
    (codes "begin", record no_members { begin = true })
    ∷ (codes "ts_ms", record no_members { ts_ms = true })
    ∷ (codes "xid", record no_members { xid = true })
    ∷ (codes "thread_id", record no_members { thread_id = true })
    ∷ (codes "query", record no_members { query = true })
    ∷ (codes "row", record no_members { row = true })
    ∷ (codes "all", all_members)
    ∷ []

-- the members that a name stands for
abbrev pub members_named : List ℕ → Option AddedMembers
members_named name = option_map (λ (x : List ℕ × AddedMembers). x.1) (find (λ (x : List ℕ × AddedMembers). bytes_eq name x.0) names)

-- the members of one or the other
abbrev pub either : AddedMembers → AddedMembers → AddedMembers
either a b =
    record { begin = a.begin || b.begin; ts_ms = a.ts_ms || b.ts_ms; xid = a.xid || b.xid; thread_id = a.thread_id || b.thread_id; query = a.query || b.query; row = a.row || b.row }

-- the members of some or others
abbrev pub any_of : List AddedMembers → AddedMembers
any_of l =
    record { begin = list_any (λ (a : AddedMembers). a.begin) l; ts_ms = list_any (λ (a : AddedMembers). a.ts_ms) l; xid = list_any (λ (a : AddedMembers). a.xid) l; thread_id = list_any (λ (a : AddedMembers). a.thread_id) l; query = list_any (λ (a : AddedMembers). a.query) l; row = list_any (λ (a : AddedMembers). a.row) l }

-- the members of these names; None if one is unknown
abbrev pub members_of : List (List ℕ) → Option AddedMembers
members_of l = if list_all (λ (n : List ℕ). is_some (members_named n)) l then Some (any_of (filter_map members_named l)) else None

-- the members of names with commas between them
abbrev pub members_in : List ℕ → Option AddedMembers
members_in text = members_of (slice_split (λ b. b == 44) text)
