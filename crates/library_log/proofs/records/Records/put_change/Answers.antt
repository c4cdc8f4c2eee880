use Rattle.library_log.proofs.MakingLemmas.{rows_change, statement_change}
use Rattle.library_log.proofs.records.Records.put_change.Goals as goal

pub returns-in-Rows-clause-added : goal.returns-in-Rows-clause-added
returns-in-Rows-clause-added c = rows_change c.args.change c.in-Rows.rows _ _ c.put_rows.result c.in-Rows.is c.put_rows.ensures.added

pub returns-in_ok-put_statement-in-Statement-clause-added : goal.returns-in_ok-put_statement-in-Statement-clause-added
returns-in_ok-put_statement-in-Statement-clause-added c = statement_change c.args.change c.in-Statement.texts _ _ c.in-Statement.is c.in_ok-put_statement-in-Statement.ensures.added
