-- The lines of one more transaction.
use Rattle.std.proofs.Common.{◌≡◌, ◌⊎◌, ℕ, Bool, true, false, true≢false, List, [], ◌∷◌, ◌++◌, Option, Some, None, Result, Ok, Err, inl, inr, refl, sym, ap, subst, ◌∙◌}
use Rattle.std.specs.Prelude.{⊤, ◌&&◌, codes, OnOk, IfErr}
use Rattle.std.specs.Io.KnownBytes.{Appends}
use Rattle.std.specs.List.{AllZip, filter, flat_map}
use Rattle.std.proofs.lemmas.List.{append-nil}
use Rattle.std.proofs.lemmas.Grind.{flat_map-append}
use Rattle.wire_buf.specs.Watched.{inner_of, has_failed}
use Rattle.feed_checks.specs.Kinds.{Gtid, Anonymous, Numbered, Tagged}
use Rattle.feed_checks.specs.declared.verdict.Verdict.{Verdict}
use Rattle.feed_transactions.specs.Changes.{Committed}
use Rattle.feed_transactions.specs.InterruptedWrites.{IsInterruptedWrite, WritesPrefix}
use Rattle.feed_transactions.specs.TableFilters.{takes_change as is_of_taken}
use Rattle.feed_transactions.specs.Waiting.{bytes_of, WritesSome}
use Rattle.feed_transactions.specs.declared.table_filter.TableFilter.{TableFilter}
use Rattle.feed_transactions.proofs.WaitingLemmas.{writes_none}
use Rattle.feed_change_log.specs.Filters.{table_filter_of, takes_change, takes_transaction}
use Rattle.feed_change_log.specs.declared.filter.Filter.{Filter}
use Rattle.changes_commands.specs.declared.output.Failure.TheVariants as failed
use Rattle.changes_lines.specs.ChangeLines.{ChangeJson, AreLines, with_ends, transaction_lines}
use Rattle.changes_origins.specs.GtidJson.{IsGtidJson, IsTaggedJson, tagged_json}
use Rattle.changes_origins.specs.MariadbGtids.{mariadb_gtid, mariadb_json, MariadbGtid}
use Rattle.changes_origins.proofs.TaggedDecisions.{tagged_known}
use Rattle.changes_lines.specs.FactMembers.{LogPlace, with_resume}
use Rattle.changes_lines.specs.RecordedLines.{IsDoneJson, IsLikeJson, added_of, facts_in, filter_of, has_some, members_from, members_of, options_of}
use Rattle.changes_lines.specs.WrittenLines.{is_by_transaction}
use Rattle.changes_origins.specs.declared.added_members.AddedMembers.{AddedMembers}
use Rattle.changes_lines.specs.declared.lines.Lines.{Lines}
use Rattle.changes_lines.specs.declared.recorder.JsonRecorder.{JsonRecorder}
use Rattle.changes_lines.proofs.WriteLemmas.{writes_both, fails_then}
use Rattle.changes_tables.specs.declared.columns.TableOptions.{TableOptions}
use Rattle.changes_walks.specs.Selections.{Selected, selected, selected_of}
use Rattle.changes_walks.specs.LogWalks.{IsWalkFailure}
use Rattle.changes_walks.specs.declared.walk.LogEnd.{LogEnd}
use Rattle.changes_walks.specs.declared.walk.LogEnd.TheVariants as ends
use Rattle.program_changes.specs.LineSinks.{AreSelectedLines, AreAllLines, IsRecorderFor, HasLines, HasPrefix, FailsLines, IsEnd, unwritten}
use Rattle.program_changes.specs.declared.changes.LineSink.{LineSink}

-- the lines of the newest transaction, of which a recorder has the selected changes
pub newest_lines : (s : JsonRecorder) (r : Option LogPlace) (f : Filter) (by : Bool) (file : List ℕ) (t : Committed) (gtid : List ℕ) (d : IsDoneJson s t) → IsGtidJson t.gtid gtid → filter_of s ≡ table_filter_of f → (options : TableOptions) → options_of s ≡ options → (added : AddedMembers) → added_of s ≡ added
    → AreLines options added by file t (filter (takes_change f) t.changes) (transaction_lines by file t gtid (members_from r s) d.opened.changes)
newest_lines s r f by file t gtid d is same options shown added asked =
    subst (λ (x : TableFilter). AreLines options added by file t (filter (is_of_taken x) t.changes) (transaction_lines by file t gtid (members_from r s) d.opened.changes)) same
    (rw (← shown, ← asked) (d.opened.changes, d.opened.are, (gtid, is, (with_resume r (facts_in s), refl))))

zip_one : (R : Selected → List ℕ → Type 0) (m : List Selected) (texts : List (List ℕ)) (s : Selected) (x : List ℕ) → AllZip R m texts → R s x → AllZip R (m ++ s ∷ []) (texts ++ x ∷ [])
zip_one R [] [] s x h k = (k, tt)
zip_one R (y ∷ m) (z ∷ texts) s x h k = (h.0, zip_one R m texts s x h.1 k)
zip_one R [] (z ∷ texts) s x h k = absurd h
zip_one R (y ∷ m) [] s x h k = absurd h

-- and of one more
all_lines_one : (o : TableOptions) (a : AddedMembers) (by : Bool) (file : List ℕ) (m : List Selected) (s : Selected) (text x : List ℕ) → AreAllLines o a by file m text → AreSelectedLines o a by file s x → AreAllLines o a by file (m ++ s ∷ []) (text ++ x)
all_lines_one o added by file m s text x a is = record {
  texts = a.texts ++ x ∷ [];
  are = zip_one (AreSelectedLines o added by file) m a.texts s x a.are is;
  joined = ap (λ (l : List ℕ). l ++ x) a.joined ∙ ap (λ (l : List ℕ). flat_map (λ t. t) a.texts ++ l) (sym (append-nil x)) ∙ sym (flat_map-append (λ t. t) a.texts (x ∷ []));
}

module _ {W : Type 0} (contents : W → Option (List ℕ)) (first old new : LineSink W) (f : Filter) (m : List Selected) (t : Committed) where
  one_selected : takes_transaction f t ≡ true → selected f (t ∷ []) ≡ selected_of f t ∷ []
  unfolding selected
  one_selected h = rw h refl

  none_selected : takes_transaction f t ≡ false → selected f (t ∷ []) ≡ []
  unfolding selected
  none_selected h = rw h refl

  -- a transaction that isn't selected
  pub lines_none : takes_transaction f t ≡ false → HasLines contents first old m → HasLines contents first old (m ++ selected f (t ∷ []))
  lines_none h has = subst (HasLines contents first old) (sym (ap (λ (l : List Selected). m ++ l) (none_selected h) ∙ append-nil m)) has

  -- one that is
  pub lines_more : (s : JsonRecorder) (r : Option LogPlace) (gtid : List ℕ) (d : IsDoneJson s t) → IsGtidJson t.gtid gtid → IsRecorderFor first f s → takes_transaction f t ≡ true → HasLines contents first old m → is_by_transaction new.lines ≡ is_by_transaction old.lines → new.file.items ≡ old.file.items → new.options ≡ old.options → new.added ≡ old.added
      → WritesSome (contents (inner_of old.writer)) (contents (inner_of new.writer)) (bytes_of old.waiting) (transaction_lines (is_by_transaction old.lines) old.file.items t gtid (members_from r s) d.opened.changes) (bytes_of new.waiting) → HasLines contents first new (m ++ selected f (t ∷ []))
  lines_more s r gtid d is alike taken has form name options added written =
      let x = transaction_lines (is_by_transaction first.lines) first.file.items t gtid (members_from r s) d.opened.changes in
      let lines = newest_lines s r f (is_by_transaction first.lines) first.file.items t gtid d is alike.filter first.options alike.options first.added alike.added in
      record {
        text = has.text ++ x;
        form = form ∙ has.form;
        name = name ∙ has.name;
        options = options ∙ has.options;
        added = added ∙ has.added;
        are = rw (one_selected taken) (all_lines_one first.options first.added (is_by_transaction first.lines) first.file.items m (selected_of f t) has.text x has.are lines);
        written = writes_both _ _ _ _ _ _ has.text x has.written (rw (has.form, has.name) at written);
      }

  -- the writer failed within its lines
  pub lines_cut : (s : JsonRecorder) (r : Option LogPlace) (gtid : List ℕ) (d : IsDoneJson s t) → IsGtidJson t.gtid gtid → IsRecorderFor first f s → takes_transaction f t ≡ true → HasLines contents first old m → (v : Verdict)
      → IsInterruptedWrite (contents (inner_of old.writer)) (contents (inner_of new.writer)) (bytes_of old.waiting ++ transaction_lines (is_by_transaction old.lines) old.file.items t gtid (members_from r s) d.opened.changes) (has_failed new.writer) v → HasPrefix contents first new (m ++ selected f (t ∷ []))
  lines_cut s r gtid d is alike taken has v why =
      let x = transaction_lines (is_by_transaction first.lines) first.file.items t gtid (members_from r s) d.opened.changes in
      let lines = newest_lines s r f (is_by_transaction first.lines) first.file.items t gtid d is alike.filter first.options alike.options first.added alike.added in
      let cut = fails_then _ _ _ _ _ has.text x (has_failed new.writer) v has.written (rw (has.form, has.name) at why) in
      record { text = has.text ++ x; are = rw (one_selected taken) (all_lines_one first.options first.added (is_by_transaction first.lines) first.file.items m (selected_of f t) has.text x has.are lines); written = cut.1; failed = cut.2 }

  -- lines that are written in the same form
  pub lines_kept : (lines : Lines) → is_by_transaction lines ≡ is_by_transaction old.lines → HasLines contents first old m → HasLines contents first (record old { lines = lines }) m
  lines_kept lines form has = record { text = has.text; form = form ∙ has.form; name = has.name; options = has.options; added = has.added; are = has.are; written = has.written }

  -- out of memory before it
  pub lines_memory : HasLines contents first new m → FailsLines contents first new (m ++ selected f (t ∷ [])) failed.Memory
  lines_memory has = (m, selected f (t ∷ []), refl, has)

-- ---- a transaction without lines

some_tagged : (body : List ℕ) (m : Option MariadbGtid) → (x : List ℕ) × IsTaggedJson body m x
some_tagged body (Some g) = (mariadb_json g, refl)
some_tagged body None = let g = tagged_known body in (tagged_json body g.0, (g.0, g.1, refl))

some_gtid : (g : Option Gtid) → (x : List ℕ) × IsGtidJson g x
some_gtid None = (codes "null", refl)
some_gtid (Some Anonymous) = (codes "null", refl)
some_gtid (Some (Numbered uuid number)) = (_, refl)
some_gtid (Some (Tagged body)) = some_tagged body (mariadb_gtid body)

no_lines : (by : Bool) (file : List ℕ) (t : Committed) (gtid more : List ℕ) → transaction_lines by file t gtid more [] ≡ []
unfolding with_ends
no_lines true file t gtid more = refl
no_lines false file t gtid more = refl

no_changes : (xs : List ChangeJson) (b : Bool) → b ≡ true → (has_some xs && b) ≡ false → xs ≡ []
no_changes [] b is none = refl
no_changes (x ∷ xs) b is none = absurd (true≢false (sym is ∙ none))

-- a transaction that isn't selected, or of which no change is
pub lines_untaken : {W : Type 0} (contents : W → Option (List ℕ)) (first old : LineSink W) (f : Filter) (m : List Selected) (t : Committed) (s : JsonRecorder) (d : IsDoneJson s t) → IsRecorderFor first f s → (has_some d.opened.changes && takes_transaction f t) ≡ false → HasLines contents first old m → HasLines contents first old (m ++ selected f (t ∷ []))
lines_untaken contents first old f m t s d alike none has = of (takes_transaction f t) refl
  where
    of : (b : Bool) → takes_transaction f t ≡ b → HasLines contents first old (m ++ selected f (t ∷ []))
    of false e = lines_none contents first old old f m t e has
    of true e =
        let gtid = some_gtid t.gtid in
        let no = no_changes d.opened.changes (takes_transaction f t) e none in
        lines_more contents first old old f m t s None gtid.0 d gtid.1 alike e has refl refl refl refl
        (rw (no, no_lines (is_by_transaction old.lines) old.file.items t gtid.0 (members_of s)) (writes_none (contents (inner_of old.writer)) (bytes_of old.waiting)))

taken_is : (b c : Bool) → (b && c) ≡ true → c ≡ true
taken_is true c h = h
taken_is false c h = absurd (true≢false (sym h))

-- the lines of a transaction that is selected were written; `form` is that of the lines when they were begun
pub lines_taken : {W : Type 0} (contents : W → Option (List ℕ)) (first old new : LineSink W) (f : Filter) (m : List Selected) (t : Committed) (s : JsonRecorder) (d : IsDoneJson s t) → IsRecorderFor first f s → (has_some d.opened.changes && takes_transaction f t) ≡ true → HasLines contents first old m
    → (r : Option LogPlace) (gtid : List ℕ) → IsGtidJson t.gtid gtid → is_by_transaction new.lines ≡ is_by_transaction old.lines → {form : Bool} → form ≡ is_by_transaction old.lines → new.file.items ≡ old.file.items → new.options ≡ old.options → new.added ≡ old.added
    → WritesSome (contents (inner_of old.writer)) (contents (inner_of new.writer)) (bytes_of old.waiting) (transaction_lines form old.file.items t gtid (members_from r s) d.opened.changes) (bytes_of new.waiting) → HasLines contents first new (m ++ selected f (t ∷ []))
lines_taken contents first old new f m t s d alike taken has r gtid is kept begun name options added written =
    lines_more contents first old new f m t s r gtid d is alike (taken_is _ _ taken) has kept name options added (rw begun at written)

-- the writer failed within them
pub lines_broken : {W : Type 0} (contents : W → Option (List ℕ)) (first old new : LineSink W) (f : Filter) (m : List Selected) (t : Committed) (s : JsonRecorder) (d : IsDoneJson s t) → IsRecorderFor first f s → (has_some d.opened.changes && takes_transaction f t) ≡ true → HasLines contents first old m
    → (r : Option LogPlace) (gtid : List ℕ) → IsGtidJson t.gtid gtid → {form : Bool} → form ≡ is_by_transaction old.lines → (v : Verdict)
    → IsInterruptedWrite (contents (inner_of old.writer)) (contents (inner_of new.writer)) (bytes_of old.waiting ++ transaction_lines form old.file.items t gtid (members_from r s) d.opened.changes) (has_failed new.writer) v → HasPrefix contents first new (m ++ selected f (t ∷ []))
lines_broken contents first old new f m t s d alike taken has r gtid is begun v why =
    lines_cut contents first old new f m t s r gtid d is alike (taken_is _ _ taken) has v (rw begun at why)

-- a recorder is like itself
pub like_itself : {r : JsonRecorder} → IsLikeJson r r
like_itself = record { filter = refl; options = refl; added = refl }

-- a sink gets what it expects of a recorder that is like the one that was made for it
pub sink_wants : {W : Type 0} (s : LineSink W) (f : Filter) (made newest : JsonRecorder) → filter_of made ≡ table_filter_of f → options_of made ≡ s.options → added_of made ≡ s.added → IsLikeJson made newest → IsRecorderFor s f newest
sink_wants s f made newest filter options added like = record { filter = like.filter ∙ filter; options = like.options ∙ options; added = like.added ∙ added }

-- ---- the end of a log

-- the lines that waited were written, or not
pub finishes : (old new : Option (List ℕ)) (bytes : List ℕ) (failed : Bool) (end result : LogEnd) (written : Result ⊤ Verdict) → IsEnd end written result → OnOk written (Appends old new bytes) → IfErr written (IsInterruptedWrite old new bytes failed)
    → ((result ≡ end) × Appends old new bytes) ⊎ ((result ≡ unwritten end) × WritesPrefix old new bytes × (failed ≡ true))
finishes old new bytes failed end result (Ok u) is ok err = inl (is, ok)
finishes old new bytes failed end result (Err v) is ok err = inr (is, err.1, err.2)

-- a walk whose lines ended otherwise didn't fail to read
pub end_blamed : (end result : LogEnd) (written : Result ⊤ Verdict) (failed : Bool) → IsEnd end written result → IsWalkFailure end failed → IsWalkFailure result failed
end_blamed end result (Ok u) failed is h = rw is h
end_blamed (ends.Read x) result (Err v) failed is h = rw is tt
end_blamed (ends.Stopped n) result (Err v) failed is h = rw is tt
end_blamed (ends.Unread u) result (Err v) failed is h = rw is tt
end_blamed (ends.NoStart a b) result (Err v) failed is h = rw is tt
end_blamed (ends.Failed e) result (Err v) failed is h = rw is tt
