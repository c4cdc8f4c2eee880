use Rattle.std.proofs.Common.{sym, ◌∙◌, arith}
use Rattle.crc32.proofs.MessageLemmas.{after_one}
use Rattle.crc32.proofs.TableLemmas.{byte_passed}
use Rattle.crc32.proofs.register.register_after_byte.Goals as goal

pub returns : goal.returns
returns c = rw c.from.ensures (byte_passed c.args.register c.args.byte (omega arith)) ∙ sym (after_one c.args.register c.args.byte (omega arith))
