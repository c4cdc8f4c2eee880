use Rattle.std.proofs.Common.{◌≡◌, ◌<◌, length, arith, rules}
use Rattle.changes_statements.proofs.NewestLemmas.{as_many, wrote_all, wrote_more}
use Rattle.changes_statements.proofs.newest_first.NewestFirst.write_all.Goals as goal

pub loop-preserved : goal.loop-preserved
loop-preserved g c = λ texts has.
    let many = as_many texts c.args.self.now.bytes.items c.args.self.now.starts.items has in
    let count : c.len-count.result ≡ length c.args.self.now.starts.items = search rules in
    let few : c.loop.counter < length texts = omega (arith, c.loop-test.true, count, many) in
    wrote_more c.loop.counter _ texts _ _ _ _ _ _ _ _ _ _ (omega arith) few (c.loop.invariant texts has) c.in_ok-write_newest.ensures

pub returns : goal.returns
returns g c = λ texts has.
    let many = as_many texts c.args.self.now.bytes.items c.args.self.now.starts.items has in
    let count : c.len-count.result ≡ length c.args.self.now.starts.items = search rules in
    let all : c.loop.counter ≡ length texts = search (arith, rules, count, many) in
    wrote_all c.loop.counter texts _ _ _ _ _ _ all (c.loop.invariant texts has)
