-- The error of a reader of integers at bytes that encode none: `Eof` if bytes are missing, `BadNumber` if no further byte would help.
use Rattle.std.specs.Prelude.{ℕ, List, [], ◌∷◌, length, nat_le, nat_lt, ◌==◌, ◌||◌, ◌&&◌, if◌then◌else◌}
use Rattle.std.specs.List.{list_all}
use Rattle.wire_buf.specs.declared.fault.WireFault.{WireFault}
use Rattle.wire_buf.specs.declared.fault.WireFault.TheVariants.{Eof, BadNumber}

-- no length-encoded integer begins with 251 or 255
abbrev pub lenenc_fault : List ℕ → WireFault
lenenc_fault [] = Eof
lenenc_fault (b ∷ x) = if b == 251 || b == 255 then BadNumber else Eof

-- `Eof` for fewer than five bytes whose top bits are all set, so that more should follow
abbrev pub varlen_fault : List ℕ → WireFault
varlen_fault x = if nat_lt (length x) 5 && list_all (λ b. nat_le 128 b) x then Eof else BadNumber
