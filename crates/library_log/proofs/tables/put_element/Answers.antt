use Rattle.library_log.proofs.ElementLemmas.{table_appended}
use Rattle.library_log.proofs.LayoutLemmas.{ok_then}
use Rattle.library_log.proofs.tables.put_element.Goals as goal

pub returns-clause-appended : goal.returns-clause-appended
returns-clause-appended c = ok_then c.put_text.result (λ wrote. table_appended _ _ _ _ c.args.index c.args.content.now c.in_ok-put_half.ensures.appended c.in_ok-put_half-2.ensures.appended wrote c.put_text.ensures.small) c.put_text.ensures.appended
