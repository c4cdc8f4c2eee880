use Rattle.std.proofs.Common.{◌≡◌, ◌⊎◌, Err, refl, inl, inr}
use Rattle.rows_errors.specs.declared.fault.RowsError.TheVariants.{Memory}
use Rattle.rows_event_body.specs.EventShapes.{row_read}
use Rattle.rows_event_body.proofs.rows.RowsEventRowsIterator.next.Goals as goal

pub returns-in-Err-clause-steps : goal.returns-in-Err-clause-steps
returns-in-Err-clause-steps c = λ t r bytes at.
    let m = c.in-Err.ensures.makes t r bytes at in (
      elim m.0 as (λ _. c.in-Err.fault ≡ Memory ⊎ row_read r t.plan bytes ≡ Err c.in-Err.fault) [ inl e ↦ inl e | inr e ↦ inr (rw e refl) ],
      record { table_is = m.1.table_is; event_is = m.1.event_is; made = m.1.made; rest_is = refl },
    )

pub returns-in-Ok-clause-steps : goal.returns-in-Ok-clause-steps
returns-in-Ok-clause-steps c = λ t r bytes at.
    let m = c.in_default.ensures.makes t r bytes at in
    let f = c.in-Ok.ensures.prefix t r bytes m.1 in
    record {
      cells = f.cells;
      rest = c.in-Ok.rest.now;
      read = f.read;
      pair_is = f.pair_is;
      after = record { table_is = m.1.table_is; event_is = m.1.event_is; made = m.1.made; rest_is = refl };
    }

pub returns-in-Err-read_next-clause-steps : goal.returns-in-Err-read_next-clause-steps
returns-in-Err-read_next-clause-steps c = λ t r bytes at.
    let m = c.in_default.ensures.makes t r bytes at in
    (c.in-Err-read_next.ensures.prefix t r bytes m.1, record { table_is = m.1.table_is; event_is = m.1.event_is; made = m.1.made; rest_is = refl })
