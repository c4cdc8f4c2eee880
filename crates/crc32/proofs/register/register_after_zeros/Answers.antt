use Rattle.std.proofs.Common.{◌+◌, sym, ◌∙◌, arith}
use Rattle.crc32.proofs.MessageLemmas.{after_zeros}
use Rattle.crc32.proofs.TableLemmas.{word_passed}
use Rattle.crc32.proofs.register.register_after_zeros.Goals as goal

pub returns : goal.returns
returns c = word_passed c.args.after c.args.register c.requires (omega arith) ∙ sym (after_zeros (c.args.after + 4) c.args.register)
