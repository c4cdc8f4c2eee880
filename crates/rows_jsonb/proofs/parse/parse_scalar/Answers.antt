use Rattle.std.proofs.Common.{refl}
use Rattle.rows_jsonb.proofs.parse.parse_scalar.Goals as goal

pub returns-in-Null : goal.returns-in-Null
returns-in-Null c = rw c.in-Null.is refl

pub returns-in-Bool : goal.returns-in-Bool
returns-in-Bool c = rw c.in-Bool.is refl

pub returns-in-U64 : goal.returns-in-U64
returns-in-U64 c = rw c.in-U64.is refl

pub returns-in-F64 : goal.returns-in-F64
returns-in-F64 c = rw c.in-F64.is refl

pub returns-in-U16 : goal.returns-in-U16
returns-in-U16 c = rw (c.in-U16.is, c.from-in-U16.ensures) refl

pub returns-in-U32 : goal.returns-in-U32
returns-in-U32 c = rw (c.in-U32.is, c.from-in-U32.ensures) refl
