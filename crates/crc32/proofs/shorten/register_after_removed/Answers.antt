use Rattle.std.proofs.Common.{◌≡◌, ◌++◌, ◌+◌, ◌-◌, ℕ, List, take, drop, sym, ap, ◌∙◌, arith}
use Rattle.std.proofs.lemmas.List.{take-append-drop, drop-drop, take_rest}
use Rattle.crc32.specs.Checksums.{after_bytes}
use Rattle.crc32.specs.Shortening.{pending}
use Rattle.crc32.proofs.MessageLemmas.{after_more}
use Rattle.crc32.proofs.shorten.register_after_removed.Goals as goal

pub returns : goal.returns
returns c =
    let at : ℕ = c.loop-at.at in
    let n : ℕ = at + 304 - at in
    let bytes : List ℕ = c.args.bytes.now in
    let c0 : ℕ = pending 0 c.loop-at.taken in
    let after : List ℕ = drop (at + 304) bytes in
    let whole : take n (drop at bytes) ++ after ≡ drop at bytes =
    ap (λ (z : List ℕ). take n (drop at bytes) ++ z) (sym (drop-drop n at bytes ∙ ap (λ (z : ℕ). drop z bytes) (omega arith)))
    ∙ take-append-drop n (drop at bytes) in
    c.register_after.ensures ∙ ap (after_bytes c.register_after_last-register.result) (take_rest bytes (at + 304))
    ∙ ap (λ (z : ℕ). after_bytes z after) c.register_after_last-register.ensures
    ∙ sym (after_more c0 (take n (drop at bytes)) after) ∙ ap (after_bytes c0) whole ∙ c.loop-at.invariant.same
