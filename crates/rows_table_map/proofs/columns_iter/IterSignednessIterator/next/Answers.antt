use Rattle.std.proofs.Common.{◌≡◌, [], arith, refl}
use Rattle.rows_table_map.specs.MetadataViews.{signs_left}
use Rattle.rows_table_map.proofs.SignLemmas.{bits-none, sign_given}
use Rattle.rows_table_map.proofs.columns_iter.IterSignednessIterator.next.Goals as goal

pub returns-then-self-len-clause-steps : goal.returns-then-self-len-clause-steps
returns-then-self-len-clause-steps c = let e : signs_left c.args.self.now ≡ [] = bits-none _ _ _ (omega (arith, c.len.ensures, c.if-self-len.true)) in (e, e)

pub returns-clause-steps : goal.returns-clause-steps
returns-clause-steps c = sign_given c.args.self.now _ c.get-sign.result (omega (arith, c.len.ensures, c.if-self-len.false)) c.get-sign.ensures refl
