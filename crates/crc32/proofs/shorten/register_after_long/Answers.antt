use Rattle.std.proofs.Common.{◌≡◌, ℕ, refl, ap, ◌∙◌}
use Rattle.crc32.specs.Checksums.{initial_register, after_bytes}
use Rattle.crc32.specs.Shortening.{number_at, pending}
use Rattle.crc32.proofs.shorten.register_after_long.Goals as goal

pub returns : goal.returns
unfolding number_at pending
returns c = c.register_after_removed.ensures ∙ ap (λ (z : ℕ). after_bytes z c.args.bytes.now) (let first : initial_register ≡ initial_register = refl in first)
