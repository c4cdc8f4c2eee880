use Rattle.std.proofs.Common.{List, [], sym, ap, ◌∙◌}
use Rattle.rows_errors.specs.Readings.{Reading}
use Rattle.rows_table_map.specs.Served.{CharsetEntry, charset_after, next_index}
use Rattle.rows_table_map.specs.MetadataViews.{entries_left}
use Rattle.rows_table_map.proofs.ServedLemmas.{default-first, default-then, fault-first, fault-then, plain-first, plain-then, same-first, same-then, other-first, other-then}
use Rattle.rows_table_map.proofs.served_charsets.IterCharsetIterator.next.Goals as goal

pub returns-in-End-clause-steps : goal.returns-in-End-clause-steps
returns-in-End-clause-steps c =
    let it = c.args.self.now in
    rw c.in-End.is (c.default_charset.ensures ∙ sym (default-first it.default [] it.index), λ k. default-then it.default [] it.index (next_index it.index) k)

pub returns-in-Fault-clause-steps : goal.returns-in-Fault-clause-steps
returns-in-Fault-clause-steps c =
    let it = c.args.self.now in
    rw c.in-Fault.is (sym (fault-first it.default (entries_left it.following) it.index c.in-Fault.fault), λ k. fault-then it.default (entries_left it.following) it.index c.in-Fault.fault (next_index it.index) k)

pub returns-in-Plain-clause-steps : goal.returns-in-Plain-clause-steps
returns-in-Plain-clause-steps c =
    let it = c.args.self.now in
    rw c.in-Plain.is (
      sym (plain-first it.default (entries_left it.following) it.index c.in-Plain.charset),
      λ k. ap (λ (entries : List (Reading CharsetEntry)). charset_after it.default entries (next_index it.index) k) (sym c.take_entry-self.ensures) ∙ plain-then it.default (entries_left it.following) it.index c.in-Plain.charset k,
    )

pub returns-then-column-index-clause-steps : goal.returns-then-column-index-clause-steps
returns-then-column-index-clause-steps c =
    let it = c.args.self.now in
    let at = c.in-OfColumn in
    rw at.is (
      c.default_charset-then-column-index.ensures ∙ sym (other-first it.default (entries_left it.following) it.index at.column at.charset c.if-column-index.true),
      λ k. other-then it.default (entries_left it.following) it.index at.column at.charset k c.if-column-index.true,
    )

pub returns-else-column-index-clause-steps : goal.returns-else-column-index-clause-steps
returns-else-column-index-clause-steps c =
    let it = c.args.self.now in
    let at = c.in-OfColumn in
    rw at.is (
      sym (same-first it.default (entries_left it.following) it.index at.column at.charset c.if-column-index.false),
      λ k. ap (λ (entries : List (Reading CharsetEntry)). charset_after it.default entries (next_index it.index) k) (sym c.take_entry-self-in-OfColumn.ensures) ∙ same-then it.default (entries_left it.following) it.index at.column at.charset k c.if-column-index.false,
    )
