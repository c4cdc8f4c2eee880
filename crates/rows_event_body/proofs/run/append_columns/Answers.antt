use Rattle.std.proofs.Common.{◌≡◌, suc, length, ◌++◌, ◌∷◌, [], sym, ap, ◌∙◌, arith, rules}
use Rattle.rows_event_body.proofs.PlanLemmas.{none_taken, one_taken, one_longer}
use Rattle.rows_event_body.proofs.run.append_columns.Goals as goal

pub loop-column_index-init : goal.loop-column_index-init
loop-column_index-init c = record {
  json = rw (c.requires.json, c.requires.none) (omega arith);
  taken = λ t at. rw c.requires.none (record { columns_are = none_taken t; at = at });
}

pub loop-column_index-preserved : goal.loop-column_index-preserved
loop-column_index-preserved c =
    let e : c.in-Ok.column_index ≡ length c.loop-column_index.columns.items = search rules in
    let grown : c.push.new.self.items ≡ c.loop-column_index.columns.items ++ c.in-Ok-next_column.column ∷ [] = c.in_ok-push-in-Ok-next_column.ensures.items in
    let n : length c.push.new.self.items ≡ suc (length c.loop-column_index.columns.items) = ap length grown ∙ one_longer c.loop-column_index.columns.items c.in-Ok-next_column.column in
    record {
      json = omega (arith, c.next_column.ensures.json, e, n);
      taken = λ t at.
          let had = c.loop-column_index.invariant.taken t at in
          let step = c.in-Ok-next_column.ensures.takes t (rw e had.at) in
          record {
            columns_are = rw grown (one_taken t c.loop-column_index.columns.items c.in-Ok-next_column.column had.columns_are (rw (sym e) step.0));
            at = rw (n, sym e) step.1;
          };
    }
