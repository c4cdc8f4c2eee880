-- What is kept and given of XA transactions is whole events.
use Rattle.std.proofs.Common.{◌≡◌, ◌≤◌, ◌<◌, ◌+◌, ◌^◌, inl, inr, ℕ, Bool, true, false, List, [], ◌∷◌, ◌++◌, length, take, drop, refl, sym, ap, subst, ◌∙◌, append_assoc, arith}
use Rattle.std.specs.Prelude.{◌&&◌, codes, nat_le, if◌then◌else◌}
use Rattle.std.specs.List.{All, concat}
use Rattle.std.proofs.lemmas.Bool.{leb-true}
use Rattle.std.proofs.lemmas.List.{append-nil, append_cancel_left, length-append, length-take-le}
use Rattle.std.proofs.lemmas.List.Elements.{All-append, All-cons, All-head, All-tail}
use Rattle.std.proofs.lemmas.List.Folds.{concat-append}
use Rattle.std.proofs.Math.ListN.{length-drop}
use Rattle.std.proofs.Math.Seq.{drop-append_seam}
use Rattle.byteorder.specs.Endian.{little_bytes, little_number}
use Rattle.byteorder.specs.Numbers.{little_number-reads_back}
use Rattle.events_frames.specs.Events.{header_size_field, IsWholeEvent}
use Rattle.events_replaced.specs.MadeEvents.{made, statement_body}
use Rattle.events_replaced.proofs.MadeLemmas.{statement_body_len}
use Rattle.events_replaced.specs.StampedEvents.{AreFirstEvents, stamped}
use Rattle.events_replaced.proofs.StandingLemmas.{made_len, made_whole}
use Rattle.events_replaced.proofs.UnpackLemmas.{whole_by}
use Rattle.events_replaced.specs.XaCommits.{commit_made, commit_of, has_room, xid_body}
use Rattle.events_replaced.proofs.XaCommitLemmas.{xid_body_len}
use Rattle.events_replaced.specs.WholeXaEvents.{AreEvents, KeepsEvents}
use Rattle.events_replaced.specs.XaStates.{PreparedTransaction, XaState, no_transactions}
use Rattle.events_replaced.specs.XaSteps.{Drops, TakesRole, begin_made, given_prepared, prepared_after, thread_of}
use Rattle.events_replaced.specs.XaIdentifiers.{committed_xid, is_one_phase, prepared_xid, rolled_back_xid}
use Rattle.events_replaced.specs.declared.xa_role.XaRole.{XaRole}
use Rattle.events_replaced.specs.declared.xa_role.XaRole.TheVariants as roles

-- ---- events one after the other

no_events : AreEvents []
no_events = ([], record { are = AreFirstEvents.no_event [] refl; all = refl })

one_event : (e : List ℕ) → IsWholeEvent e → AreEvents e
one_event e whole = (e ∷ [], record { are = subst (λ (b : List ℕ). AreFirstEvents b (e ∷ [])) (append-nil e) (AreFirstEvents.one_event e [] [] whole (AreFirstEvents.no_event [] refl)); all = append-nil e })

first_events : {a : List ℕ} {l : List (List ℕ)} → AreFirstEvents a l → concat l ≡ a → (b : List ℕ) (m : List (List ℕ)) → AreFirstEvents b m → AreFirstEvents (a ++ b) (l ++ m)
first_events (AreFirstEvents.no_event a none) all b m h = subst (λ (x : List ℕ). AreFirstEvents (x ++ b) m) all h
first_events (AreFirstEvents.one_event e r es whole h) all b m k =
    subst (λ (x : List ℕ). AreFirstEvents x (e ∷ (es ++ m))) (sym (append_assoc e r b))
    (AreFirstEvents.one_event e (r ++ b) (es ++ m) whole (first_events h (append_cancel_left e (concat es) r all) b m k))

both : (a b : List ℕ) → AreEvents a → AreEvents b → AreEvents (a ++ b)
both a b x y = (x.0 ++ y.0, record { are = first_events x.1.are x.1.all b y.0 y.1.are; all = concat-append x.0 y.0 ∙ ap (λ (l : List ℕ). l ++ concat y.0) x.1.all ∙ ap (λ (l : List ℕ). a ++ l) y.1.all })

-- ---- an event that was made, and one without its checksum

module _ (event : List ℕ) (long : 19 ≤ length event) where
  statement : (thread : ℕ) (text : List ℕ) → length text ≤ 8 → AreEvents (made 2 (statement_body thread text) event)
  statement thread text few =
      let body = statement_body thread text in
      one_event (made 2 body event) (made_whole 2 body event long (omega (arith, few, made_len 2 body event long, statement_body_len thread text)))

  begin_whole : AreEvents (begin_made event)
  begin_whole = statement (thread_of event) (codes "BEGIN") (omega arith)

  commit_whole : AreEvents (commit_made event)
  commit_whole = statement 0 (codes "COMMIT") (omega arith)

  -- COMMIT with an XID
  xid_whole : (xid : List ℕ) → length xid ≤ 274 → AreEvents (made 2 (xid_body xid) event)
  xid_whole xid few =
      let body = xid_body xid in
      one_event (made 2 body event) (made_whole 2 body event long (omega (arith, few, made_len 2 body event long, xid_body_len xid)))

  commit_of_whole : (events xid : List ℕ) → AreEvents (commit_of events xid event)
  commit_of_whole events xid = by (nat_le (length events) 4294966784) (nat_le (length xid) 274) refl
    where
      by : (a b : Bool) → nat_le (length xid) 274 ≡ b → AreEvents (if a && b then made 2 (xid_body xid) event else commit_made event)
      by true true h = xid_whole xid (leb-true (length xid) 274 h)
      by true false h = commit_whole
      by false b h = commit_whole

  module _ (few : length event + 4 < 2 ^ 32) where
    fields : List ℕ
    fields = little_bytes 4 (length event + 0) ++ little_bytes 4 0

    head_len : length (take 9 event) ≡ 9
    head_len = length-take-le 9 event (omega (arith, long))

    sized : header_size_field (take 9 event ++ (fields ++ drop 17 event)) ≡ length event + 0
    unfolding fields
    sized =
        ap (λ (k : ℕ). little_number 4 (drop k (take 9 event ++ (fields ++ drop 17 event)))) (sym head_len)
        ∙ ap (little_number 4) (drop-append_seam (take 9 event) (fields ++ drop 17 event) ∙ append_assoc (little_bytes 4 (length event + 0)) (little_bytes 4 0) (drop 17 event))
        ∙ little_number-reads_back 4 (length event + 0) (little_bytes 4 0 ++ drop 17 event) (omega (arith, few))

    as_long : length (take 9 event ++ (fields ++ drop 17 event)) ≡ length event + 0
    unfolding fields
    as_long = omega (arith, length-append (take 9 event) (fields ++ drop 17 event), length-append fields (drop 17 event), length-append (little_bytes 4 (length event + 0)) (little_bytes 4 0), head_len, length-drop 17 event, long)

    bare_whole : AreEvents (stamped false 0 event)
    unfolding fields
    bare_whole = one_event (stamped false 0 event) (whole_by (stamped false 0 event) (length event + 0) sized as_long (omega (arith, long)))

-- ---- the transactions that are prepared

abbrev Whole : PreparedTransaction → Type 0
Whole p = AreEvents p.events

-- one of them and the others
split_all : (before after : List PreparedTransaction) (p : PreparedTransaction) → All Whole (before ++ p ∷ after) → AreEvents p.events × All Whole (before ++ after)
split_all [] after p h = (All-head Whole p after h, All-tail Whole p after h)
split_all (x ∷ before) after p h =
    let r = split_all before after p (All-tail Whole x (before ++ p ∷ after) h) in
    (r.0, All-cons Whole x (before ++ after) (All-head Whole x (before ++ p ∷ after) h) r.1)

none_whole : All Whole []
none_whole k d within = absurd (omega (arith, within))

add_whole : (one_phase : Bool) (xid kept : List ℕ) (l : List PreparedTransaction) → AreEvents kept → All Whole l → All Whole (prepared_after one_phase xid kept l)
add_whole true xid kept l events h = h
add_whole false xid kept l events h = All-append Whole l (record { xid = xid; events = kept } ∷ []) h (All-cons Whole (record { xid = xid; events = kept }) [] events none_whole)

given_whole : (one_phase : Bool) (xid kept event : List ℕ) → 19 ≤ length event → AreEvents kept → AreEvents (given_prepared one_phase xid kept event)
given_whole true xid kept event long events = both kept (commit_of kept xid event) events (commit_of_whole event long kept xid)
given_whole false xid kept event long events = commit_whole event long

-- before any event
pub nothing_kept : (limit : ℕ) → KeepsEvents (no_transactions limit)
nothing_kept limit = record { kept_are = tt; prepared_are = none_whole }

-- ---- an event

-- one that is taken: what is kept after it, and what is given in its place, is whole events
pub taken_whole : (s t : XaState) (role : XaRole) (event content : List ℕ) → KeepsEvents s → 19 ≤ length event → length event + 4 < 2 ^ 32 → TakesRole s role event content t → KeepsEvents t × AreEvents content
taken_whole s t roles.Part event content k long few h =
    let kept : AreEvents h.kept = rw h.open_is at k.kept_are in (
      rw h.state (record { kept_are = both h.kept (stamped false 0 event) kept (bare_whole event long few); prepared_are = k.prepared_are }),
      rw h.nothing no_events,
    )
taken_whole s t roles.Start event content k long few h = (rw h.state (record { kept_are = no_events; prepared_are = k.prepared_are }), rw h.given (begin_whole event long))
taken_whole s t roles.End event content k long few h = (rw h.state k, rw h.nothing no_events)
taken_whole s t roles.Prepare event content k long few h =
    let kept : AreEvents h.kept = rw h.open_is at k.kept_are in
    let one = is_one_phase event in (
      rw h.state (record { kept_are = tt; prepared_are = add_whole one (prepared_xid event) h.kept s.prepared kept k.prepared_are }),
      rw h.given (given_whole one (prepared_xid event) h.kept event long kept),
    )
taken_whole s t roles.Commit event content k long few h =
    let x = h.has in
    let p = split_all x.before x.after _ (rw x.is at k.prepared_are) in (
      rw (h.state, x.others_are) (record { kept_are = tt; prepared_are = p.1 }),
      rw h.given (both (begin_made event ++ h.events) (commit_of h.events (committed_xid event) event) (both (begin_made event) h.events (begin_whole event long) p.0) (commit_of_whole event long h.events (committed_xid event))),
    )
taken_whole s t roles.Rollback event content k long few (inl h) = (rw h.state (record { kept_are = tt; prepared_are = dropped h.drops }), rw h.given (both (begin_made event) (commit_made event) (begin_whole event long) (commit_whole event long)))
  where
    dropped : Drops (rolled_back_xid event) s.prepared h.others → All Whole h.others
    dropped (inl d) = rw d.1 k.prepared_are
    dropped (inr d) = rw d.1.others_are (split_all d.1.before d.1.after _ (rw d.1.is at k.prepared_are)).1
taken_whole s t roles.Rollback event content k long few (inr h) = (rw h.state (record { kept_are = tt; prepared_are = k.prepared_are }), rw h.given (commit_whole event long))
taken_whole s t roles.Other event content k long few h = absurd h
taken_whole s t roles.Description event content k long few h = absurd h
taken_whole s t roles.Drop event content k long few h = absurd h
taken_whole s t roles.None event content k long few h = absurd h
