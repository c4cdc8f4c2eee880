use Rattle.std.proofs.Common.{◌≡◌, length, take, rules}
use Rattle.std.proofs.Math.Seq.{take-length}
use Rattle.std.proofs.lemmas.Result.{on_ok_weaker}
use Rattle.feed_text.specs.Buffers.{text_in}
use Rattle.feed_text.proofs.QuoteLemmas.{kept_more, kept_twice}
use Rattle.changes_cells.proofs.MemberLemmas.{array_written}
use Rattle.changes_cells.proofs.LongTextLemmas.{kept_result}
use Rattle.changes_cells.proofs.members.append_members.Goals as goal

pub returns-in_err-append_bits-clause-kept : goal.returns-in_err-append_bits-clause-kept
returns-in_err-append_bits-clause-kept g c =
    let one : take (length (text_in c.args.text.now)) (text_in c.put.new.self) ≡ text_in c.args.text.now = kept_more _ (text_in c.args.text.now) _ _ (take-length (text_in c.args.text.now)) c.in_ok-put.ensures.ok in
    kept_twice _ _ _ one c.in_err-append_bits.ensures.kept

pub returns-clause-ok : goal.returns-clause-ok
returns-clause-ok g c =
    on_ok_weaker c.put-2.result (λ e. array_written (λ m. m.items) c.args.members.now c.args.bits _ _ _ _ (search (rules, c.if-is_empty.false, c.is_empty.ensures)) c.in_ok-put.ensures.ok c.in_ok-append_bits.ensures.ok e) c.put-2.ensures.ok

pub returns-clause-kept : goal.returns-clause-kept
returns-clause-kept g c =
    let one : take (length (text_in c.args.text.now)) (text_in c.put.new.self) ≡ text_in c.args.text.now = kept_more _ (text_in c.args.text.now) _ _ (take-length (text_in c.args.text.now)) c.in_ok-put.ensures.ok in
    kept_result _ _ _ _ c.put-2.result c.put-2.ensures.ok c.put-2.ensures.err (kept_twice _ _ _ one c.in_ok-append_bits.ensures.kept)
