-- A record while its changes are appended, one after the other.
use Rattle.std.proofs.Common.{◌≡◌, ◌+◌, ℕ, List, [], ◌∷◌, ◌++◌, length, Some, None, Result, Ok, Err, refl, sym, ap, subst, ◌∙◌, append_assoc, arith}
use Rattle.std.specs.List.{sum_by}
use Rattle.std.proofs.lemmas.List.{append-nil, length-append}
use Rattle.std.proofs.lemmas.List.Sums.{sum_by-append}
use Rattle.std.specs.Prelude.{IfOk}
use Rattle.std.specs.declared.alloc.AllocError.{AllocError}
use Rattle.events_frames.specs.Headers.{Header, event_header_of}
use Rattle.events_frames.specs.QueryTexts.{StatementTexts, HasTexts}
use Rattle.events_frames.specs.declared.query_texts.QueryTexts.{QueryTexts}
use Rattle.rows_table_map.specs.TableMaps.{TableMap}
use Rattle.rows_event_body.specs.RowsEvents.{RowsBody}
use Rattle.feed_transactions.specs.Changes.{Content, OfRows, OfStatement, EventChange}
use Rattle.feed_change_log.specs.ChangeViews.{RepresentsChange, RepresentsContent, RepresentsRows}
use Rattle.feed_change_log.specs.Filters.{RepresentsTaken, ReturnsFirstTaken, ReturnsNextTaken}
use Rattle.feed_change_log.specs.declared.change.Change.{Change}
use Rattle.feed_change_log.specs.declared.change.TableRows.{TableRows}
use Rattle.feed_change_log.specs.declared.change.What.{What}
use Rattle.feed_change_log.specs.declared.change.What.TheVariants as what
use Rattle.feed_change_log.specs.declared.filter.TakenChanges.{TakenChanges}
use Rattle.library_log.specs.RecordLayouts.{row_count, AppendsElements}
use Rattle.library_log.proofs.LayoutLemmas.{appends_none, appends_both}

-- the numbers of rows of changes
abbrev pub rows_in : List EventChange → ℕ
rows_in cs = sum_by (λ c. row_count c.content) cs

-- some of the changes were appended, and the iterator has the others
pub record IsMaking (cs : List EventChange) (start now : List ℕ) (it : TakenChanges) (changes rows : ℕ) : Type 0 where
  pub done : List EventChange
  pub left : List EventChange
  pub split : cs ≡ done ++ left
  pub taken : RepresentsTaken it left
  pub elements : AppendsElements done start now
  pub changes_are : changes ≡ length done
  pub rows_are : rows ≡ rows_in done

pub none_made : (cs : List EventChange) (start : List ℕ) (it : TakenChanges) → RepresentsTaken it cs → IsMaking cs start start it 0 0
none_made cs start it taken = record { done = []; left = cs; split = refl; taken = taken; elements = appends_none start; changes_are = refl; rows_are = refl }

pub one_made : (cs : List EventChange) (start now new : List ℕ) (it it_then : TakenChanges) (x : Change) (changes rows count : ℕ) → IsMaking cs start now it changes rows → ReturnsNextTaken it (Some x) it_then
    → ((c : EventChange) → RepresentsChange x c → (count ≡ row_count c.content) × AppendsElements (c ∷ []) now new) → IsMaking cs start new it_then (changes + 1) (rows + count)
one_made cs start now new it it_then x changes rows count m next adds = more m.left m.split (next m.left m.taken)
  where
    one_row : (n : ℕ) → n ≡ 0 + n
    one_row n = omega arith

    more : (left : List EventChange) → cs ≡ m.done ++ left → ReturnsFirstTaken (Some x) it_then left → IsMaking cs start new it_then (changes + 1) (rows + count)
    more [] split none = absurd none
    more (c ∷ left) split first =
        let added = adds c first.0 in
        record {
          done = m.done ++ c ∷ [];
          left = left;
          split = split ∙ sym (append_assoc m.done (c ∷ []) left);
          taken = first.1;
          elements = appends_both m.done (c ∷ []) start now new m.elements added.1;
          changes_are = ap (λ (n : ℕ). n + 1) m.changes_are ∙ sym (length-append m.done (c ∷ []));
          rows_are = ap (λ (n : ℕ). n + count) m.rows_are ∙ ap (λ (n : ℕ). rows_in m.done + n) (added.0 ∙ one_row (row_count c.content)) ∙ sym (sum_by-append (λ (d : EventChange). row_count d.content) m.done (c ∷ []));
        }

-- all of them were
pub record IsMade (cs : List EventChange) (start now : List ℕ) (changes rows : ℕ) : Type 0 where
  pub elements : AppendsElements cs start now
  pub changes_are : changes ≡ length cs
  pub rows_are : rows ≡ rows_in cs

pub all_made : (cs : List EventChange) (start now : List ℕ) (it it_then : TakenChanges) (changes rows : ℕ) → IsMaking cs start now it changes rows → ReturnsNextTaken it None it_then → IsMade cs start now changes rows
all_made cs start now it it_then changes rows m next = all m.left m.split (next m.left m.taken)
  where
    all : (left : List EventChange) → cs ≡ m.done ++ left → ReturnsFirstTaken None it_then left → IsMade cs start now changes rows
    all (c ∷ left) split none = absurd none
    all [] split first = rw (split ∙ append-nil m.done) (record { elements = m.elements; changes_are = m.changes_are; rows_are = m.rows_are })

-- ---- the change of an iterator

-- the change was appended, with its number of rows
abbrev pub IsAdded : List ℕ → List ℕ → ℕ → EventChange → Type 0
IsAdded old new count c = (count ≡ row_count c.content) × AppendsElements (c ∷ []) old new

of_rows : (rows : TableRows) (old new : List ℕ) (h own : Header) (content : Content) (count : ℕ) → own ≡ h → RepresentsContent (what.Rows rows) content → ((m : TableMap) (r : RowsBody) → RepresentsRows rows m r → IsAdded old new count (record { header = own; content = OfRows m r })) → IsAdded old new count (record { header = h; content = content })
of_rows rows old new h own (OfRows m r) count is x adds = subst (λ (k : Header). IsAdded old new count (record { header = k; content = OfRows m r })) is (adds m r x)
of_rows rows old new h own (OfStatement q) count is x adds = absurd x

pub rows_change : (x : Change) (rows : TableRows) (old new : List ℕ) (made : Result ℕ AllocError) → x.what ≡ what.Rows rows → IfOk made (λ count. (m : TableMap) (r : RowsBody) → RepresentsRows rows m r → IsAdded old new count (record { header = event_header_of x.header; content = OfRows m r }))
    → IfOk made (λ count. (c : EventChange) → RepresentsChange x c → IsAdded old new count c)
rows_change x rows old new (Ok count) is adds = λ c h. of_rows rows old new c.header (event_header_of x.header) c.content count h.header (subst (λ (w : What). RepresentsContent w c.content) is h.content) adds
rows_change x rows old new (Err e) is adds = tt

of_statement : (texts : QueryTexts) (old new : List ℕ) (h own : Header) (content : Content) → own ≡ h → RepresentsContent (what.Statement texts) content → ((q : StatementTexts) → HasTexts texts q → AppendsElements (record { header = own; content = OfStatement q } ∷ []) old new) → IsAdded old new 1 (record { header = h; content = content })
of_statement texts old new h own (OfStatement q) is x adds = (refl, subst (λ (k : Header). AppendsElements (record { header = k; content = OfStatement q } ∷ []) old new) is (adds q x))
of_statement texts old new h own (OfRows m r) is x adds = absurd x

pub statement_change : (x : Change) (texts : QueryTexts) (old new : List ℕ) → x.what ≡ what.Statement texts → ((q : StatementTexts) → HasTexts texts q → AppendsElements (record { header = event_header_of x.header; content = OfStatement q } ∷ []) old new) → (c : EventChange) → RepresentsChange x c → IsAdded old new 1 c
statement_change x texts old new is adds c h = of_statement texts old new c.header (event_header_of x.header) c.content h.header (subst (λ (w : What). RepresentsContent w c.content) is h.content) adds
