use Rattle.std.proofs.Common.{sym, subst}
use Rattle.feed_replication.specs.Serving.{Answer}
use Rattle.feed_replication.specs.ServerLaws.{IsOfTheFile}
use Rattle.feed_replication.proofs.FieldLemmas.{same-request, answered, answer-of-file}
use Rattle.binlog_feed.proofs.laws.requests_are_their_fields.Goals as goal

pub returns-clause-equal : goal.returns-clause-equal
returns-clause-equal c = same-request

pub returns-clause-answered : goal.returns-clause-answered
returns-clause-answered c = answered

pub returns-clause-of_the_file : goal.returns-clause-of_the_file
returns-clause-of_the_file c = λ r format limit position server name b h. subst (λ (a : Answer). IsOfTheFile a.outcome) (sym (answered r format limit position server name b h)) (answer-of-file r format limit b position)
