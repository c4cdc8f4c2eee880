use Rattle.std.proofs.Common.{inl, inr, sym, ◌∙◌}
use Rattle.events_replaced.specs.SamePlaceEvents.{ByGtid, Made, NoMemory}
use Rattle.events_replaced.proofs.plain.plain_event.Goals as goal

pub returns-in-Err : goal.returns-in-Err
returns-in-Err c = record {
  ok = tt;
  err = elim c.in-Err.ensures.err [
    | inl w ↦ ByGtid c.in-Some-checked.bytes.now c.in-Some-checked.ensures.checked (sym c.type_number-number.ensures ∙ w.1) w.2 w.0
    | inr m ↦ NoMemory m
  ];
}

pub returns-in-Ok : goal.returns-in-Ok
returns-in-Ok c = record {
  ok = Made c.in-Some-checked.bytes.now c.in-Some-checked.ensures.checked (rw (← c.type_number-number.ensures) (sym c.is_replaced.ensures ∙ c.if-not-is_replaced.false)) (c.deref.ensures.value ∙ rw (← c.type_number-number.ensures) c.in-Ok.ensures.ok);
  err = tt;
}
