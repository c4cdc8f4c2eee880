use Rattle.std.proofs.Common.{ℕ, List, ◌++◌, sym, ap, ◌∙◌}
use Rattle.std.proofs.lemmas.Result.{on_ok_weaker}
use Rattle.feed_text.specs.Buffers.{text_in}
use Rattle.changes_statements.proofs.StatementLemmas.{as_text}
use Rattle.changes_statements.proofs.statements.put_compared.Goals as goal

pub returns-then-may_be_text : goal.returns-then-may_be_text
returns-then-may_be_text c =
    let named = c.in_ok-put_text-3.ensures.ok ∙ ap (λ (l : List ℕ). text_in c.put_text-then-may_be_text.new.self ++ l) c.deref-then-may_be_text.ensures.value in
    on_ok_weaker c.put_text-then-may_be_text-3.result (λ e. as_text c.args.is_key c.args.column.now _ _ _ _ c.if-is_key.false (sym c.may_be_text.ensures ∙ c.if-may_be_text.true) c.in_ok-put_text-2.ensures.ok named e) c.put_text-then-may_be_text-3.ensures.ok
