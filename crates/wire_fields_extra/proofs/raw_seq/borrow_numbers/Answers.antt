use Rattle.wire_fields_extra.proofs.SequenceBytewiseLemmas.{reads_bytewise, eaten_joined}
use Rattle.wire_fields_extra.proofs.raw_seq.borrow_numbers.Goals as goal

pub returns-clause-some : goal.returns-clause-some
returns-clause-some g c =
    let e = eaten_joined c.args.count _ _ _ c.in_ok-bytes.ensures.some in
    reads_bytewise g.T.IntRepr.encodes c.args.count _ _ _ _ e.0 e.1 c.in_ok-numbers.ensures
