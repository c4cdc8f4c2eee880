use Rattle.std.proofs.Common.{◌<◌, ◌^◌, arith, subst, sym}
use Rattle.wire_fields_extra.proofs.OnesLemmas.{with_magic_code}
use Rattle.wire_fields_extra.proofs.varlen_uint.with_trailing_ones.Goals as goal

pub overflow_sub-result-2 : goal.overflow_sub-result-2
overflow_sub-result-2 c = let m = with_magic_code _ _ c.requires.high c.requires.low c.requires.fits in omega (arith, m.3)

pub overflow_add-result : goal.overflow_add-result
overflow_add-result c = let m = with_magic_code _ _ c.requires.high c.requires.low c.requires.fits in omega (arith, m.0, m.2)

pub returns-clause-value : goal.returns-clause-value
returns-clause-value c = (with_magic_code _ _ c.requires.high c.requires.low c.requires.fits).0

pub returns-clause-within : goal.returns-clause-within
returns-clause-within c =
    let m = with_magic_code c.args.size c.args.value c.requires.high c.requires.low c.requires.fits in
    subst (λ k. k < 256 ^ c.args.size) (sym m.0) m.1
