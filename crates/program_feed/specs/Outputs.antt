-- A writer that was flushed, and what the flush makes of a verdict.
use Rattle.std.specs.Prelude.{Bool, true, false}
use Rattle.feed_checks.specs.declared.verdict.Verdict.{Verdict}
use Rattle.feed_checks.specs.declared.verdict.Verdict.TheVariants.{Write}
use Rattle.feed_replication.specs.declared.served.Served.{Served}
use Rattle.feed_replication.specs.declared.served.Served.TheVariants.{Fault}
use Rattle.program_feed.specs.declared.outputs.Flushed.{Flushed}

-- the writer
abbrev pub writer_of : {W : Type 0} → Flushed W → W
writer_of f = f.writer

-- whether a write before the flush failed
abbrev pub has_write_failed : {W : Type 0} → Flushed W → Bool
has_write_failed f = f.write_failed

-- whether the flush failed
abbrev pub has_flush_failed : {W : Type 0} → Flushed W → Bool
has_flush_failed f = f.flush_failed

-- a failed flush is `Write`, whatever came before it
abbrev pub verdict_after : Bool → Verdict → Verdict
verdict_after true v = Write
verdict_after false v = v

-- the same of the result of a request
abbrev pub served_after : Bool → Served → Served
served_after true s = Fault Write
served_after false s = s
