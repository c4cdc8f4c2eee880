use Rattle.std.proofs.Common.{arith}
use Rattle.feed_replication.specs.declared.format.PayloadFormat.TheVariants.{Plain, SemiSync}
use Rattle.feed_replication.specs.Streams.{payload_of}
use Rattle.feed_replication.specs.Serving.{closing_payload}
use Rattle.feed_replication.proofs.RequestLemmas.{framing-length}
use Rattle.binlog_feed.proofs.serving_laws.lengths_of_packets.Goals as goal

pub returns-clause-plain : goal.returns-clause-plain
returns-clause-plain c = λ k e. omega (arith, framing-length k (payload_of Plain e))

pub returns-clause-semi_synchronous : goal.returns-clause-semi_synchronous
returns-clause-semi_synchronous c = λ k e. omega (arith, framing-length k (payload_of SemiSync e))

pub returns-clause-closing : goal.returns-clause-closing
returns-clause-closing c = λ k. framing-length k closing_payload
