use Rattle.std.proofs.Common.{◌∙◌, ap}
use Rattle.crc32.specs.Checksums.{crc32_of}
use Rattle.program_feed.proofs.CommandLemmas.{unused_kept}
use Rattle.program_feed.proofs.FollowedLemmas.{started, no_memory}
use Rattle.program_feed.proofs.following.write_followed.Goals as goal

pub follow_pieces-verdict-requires-clause-starts : goal.follow_pieces-verdict-requires-clause-starts
follow_pieces-verdict-requires-clause-starts g c = started _ _ _ c.in-Ok.ensures.started

pub returns-in-Ok : goal.returns-in-Ok
returns-in-Ok g c = record {
  verdict = c.follow_pieces-verdict.result.0;
  follows = c.follow_pieces-verdict.ensures.follows crc32_of (λ bytes r small fits h. h.says.met ∙ ap crc32_of h.shows);
  blamed = c.follow_pieces-verdict.ensures.blamed;
  flush = c.follow_pieces-verdict.ensures.flush;
  ending_is = c.of_verdict.ensures;
}

pub returns-in-Err : goal.returns-in-Err
returns-in-Err g c = no_memory _ _ _ _ _ _ _ _ (unused_kept g.W.Write.contents _ _ c.unused.ensures.writer) c.unused.ensures.flush c.of_verdict-in-Err.ensures
