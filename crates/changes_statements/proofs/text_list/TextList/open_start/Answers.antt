use Rattle.std.proofs.Common.{◌≡◌, ◌<◌, length, arith, rules}
use Rattle.changes_statements.proofs.StatementTextLemmas.{no_start, open_start}
use Rattle.changes_statements.proofs.text_list.TextList.open_start.Goals as goal

pub returns-then-count-eq0 : goal.returns-then-count-eq0
returns-then-count-eq0 c = λ texts last h.
    let many : c.len-count.result ≡ length c.args.self.now.ends.items = search rules in
    no_start c.args.self.now texts last c.len-count.result h many c.if-count-eq0.true

pub returns : goal.returns
returns c = λ texts last h.
    let many : c.len-count.result ≡ length c.args.self.now.ends.items = search rules in
    let some : 0 < c.len-count.result = search (arith, rules) in
    open_start c.args.self.now texts last c.len-count.result c.index.result.now h many some c.index.ensures
