use Rattle.std.proofs.Common.{◌≡◌, ◌⊎◌, ℕ, subst}
use Rattle.wire_buf.specs.Encoding.{Lacks, Reads}
use Rattle.wire_buf.specs.declared.fault.WireFault.TheVariants.{Memory, Eof}
use Rattle.wire_buf.proofs.EncodingLemmas.{IfErr-of_same}
use Rattle.rows_table_map.specs.TableMaps.{little_endian}
use Rattle.rows_table_map.proofs.TableMapParts.{width_other}
use Rattle.rows_table_map.proofs.MapFaultLemmas.{number_failed}
use Rattle.rows_table_map.proofs.table_id.TableIdMyDeserialize.deserialize.Goals as goal

pub returns-in_err-id-clause-err : goal.returns-in_err-id-clause-err
returns-in_err-id-clause-err c =
    rw c.if-ctx-eq6.true (IfErr-of_same (λ e. e ≡ Memory ⊎ Lacks (little_endian 4) c.args.buf.now.0.now) _ _ c.from_residual.ensures c.in_err-id.ensures.err)

pub returns-in_err-id-2-clause-err : goal.returns-in_err-id-2-clause-err
returns-in_err-id-2-clause-err c =
    IfErr-of_same _ _ _ c.from_residual-in_err-id-2.ensures
    (subst (λ (k : ℕ). c.in_err-id-2.field-0.0 ≡ Memory ⊎ Lacks (little_endian k) c.args.buf.now.0.now) (width_other c.args.ctx c.if-ctx-eq6.false) c.in_err-id-2.ensures.err)

pub returns-clause-ok : goal.returns-clause-ok
returns-clause-ok c =
    subst (λ (k : ℕ). Reads (little_endian k) c.in_ok-id-2.id.0 c.args.buf.now.0.now c.parse-2.new.self.0.now) (width_other c.args.ctx c.if-ctx-eq6.false) c.in_ok-id-2.ensures.ok

pub returns-in_err-id-clause-why : goal.returns-in_err-id-clause-why
returns-in_err-id-clause-why c =
    rw c.if-ctx-eq6.true (IfErr-of_same (λ e. Lacks (little_endian 4) c.args.buf.now.0.now × (e ≡ Eof)) _ _ c.from_residual.ensures (number_failed 4 _ _ c.in_err-id.ensures.why))

pub returns-in_err-id-2-clause-why : goal.returns-in_err-id-2-clause-why
returns-in_err-id-2-clause-why c =
    IfErr-of_same _ _ _ c.from_residual-in_err-id-2.ensures
    (subst (λ (k : ℕ). Lacks (little_endian k) c.args.buf.now.0.now × (c.in_err-id-2.field-0.0 ≡ Eof)) (width_other c.args.ctx c.if-ctx-eq6.false) (number_failed 6 _ _ c.in_err-id-2.ensures.why))
