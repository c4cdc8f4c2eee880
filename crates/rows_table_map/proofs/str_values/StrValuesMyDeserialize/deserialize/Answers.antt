use Rattle.std.proofs.Common.{◌≡◌, ◌⊎◌, inl, inr}
use Rattle.rows_errors.specs.declared.fault.RowsError.TheVariants.{Memory}
use Rattle.wire_buf.specs.Encoding.{Lacks}
use Rattle.rows_table_map.specs.Members.{MembersEncoding, members_at}
use Rattle.rows_table_map.proofs.MemberLawLemmas.{members-law}
use Rattle.rows_table_map.proofs.FieldLemmas.{entry_read, entry_failed}
use Rattle.rows_table_map.proofs.str_values.StrValuesMyDeserialize.deserialize.Goals as goal

pub returns-in-Ok-clause-ok : goal.returns-in-Ok-clause-ok
returns-in-Ok-clause-ok c = entry_read MembersEncoding members_at members-law _ _ _ c.in-Ok.ensures.ok

pub returns-in-Err-clause-err : goal.returns-in-Err-clause-err
returns-in-Err-clause-err c = elim c.in-Err.ensures.err as (λ _. (c.in-Err.fault ≡ Memory) ⊎ Lacks MembersEncoding c.args.buf.now.0.now) [
  | inl m ↦ inl m
  | inr e ↦ inr (entry_failed MembersEncoding members_at members-law _ _ e)
]
