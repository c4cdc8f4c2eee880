use Rattle.std.proofs.Common.{◌∙◌, ap}
use Rattle.crc32.specs.Checksums.{crc32_of}
use Rattle.program_feed.proofs.serving.answer.Goals as goal

pub returns-in-Plain-clause-serves : goal.returns-in-Plain-clause-serves
returns-in-Plain-clause-serves g c = λ asked is. rw c.in-Plain.is (c.serve.ensures.serves crc32_of asked (λ bytes r small fits h. h.says.met ∙ ap crc32_of h.shows) is)

pub returns-in-SemiSync-clause-serves : goal.returns-in-SemiSync-clause-serves
returns-in-SemiSync-clause-serves g c = λ asked is. rw c.in-SemiSync.is (c.serve_semi.ensures.serves crc32_of asked (λ bytes r small fits h. h.says.met ∙ ap crc32_of h.shows) is)
