use Rattle.std.proofs.Common.{◌++◌, length, take, ap, ◌∙◌, arith, rules}
use Rattle.std.proofs.Math.Seq.{take-length}
use Rattle.std.proofs.lemmas.Result.{IfOk-from_err}
use Rattle.std.specs.List.{flat_map}
use Rattle.feed_writers.specs.Quoting.{quoted_byte}
use Rattle.feed_text.proofs.QuoteLemmas.{run_more, escapes_more, escaped_within, quote_done, kept_more}
use Rattle.feed_text.proofs.quoting.append_quoted.Goals as goal

pub loop-rest-preserved : goal.loop-rest-preserved
loop-rest-preserved g c = record {
  written =
      run_more _ _ _ _ c.loop-rest.rest.now _ c.in_ok-extend_from_slice.ensures.items c.split_at.ensures.front c.split_at.ensures.back c.plain_len.ensures.value
      ∙ c.loop-rest.invariant.written;
  kept = kept_more _ _ _ _ c.loop-rest.invariant.kept c.in_ok-extend_from_slice.ensures.items;
}

pub loop-rest-preserved-then-is_empty : goal.loop-rest-preserved-then-is_empty
loop-rest-preserved-then-is_empty g c = record {
  written =
      escapes_more _ _ _ _ c.loop-rest.rest.now _ c.in_ok-append_escapes.ensures.ok c.split_at-then-is_empty.ensures.front c.split_at-then-is_empty.ensures.back c.escaped_len.ensures
      ∙ c.loop-rest.invariant.written;
  kept = kept_more _ _ _ _ c.loop-rest.invariant.kept c.in_ok-append_escapes.ensures.ok;
}

pub returns-clause-ok : goal.returns-clause-ok
returns-clause-ok g c = quote_done _ _ c.loop-rest.rest.now _ _ c.loop-rest.invariant.written (search rules) c.in_ok-push-2.ensures.items

pub returns-clause-kept : goal.returns-clause-kept
returns-clause-kept g c = kept_more _ _ _ _ c.loop-rest.invariant.kept c.in_ok-push-2.ensures.items

pub returns-in_err-push-clause-kept : goal.returns-in_err-push-clause-kept
returns-in_err-push-clause-kept g c = ap (take (length c.args.out.now.items)) c.in_err-push.ensures.items ∙ take-length c.args.out.now.items

pub returns-in_err-append_escapes-clause-kept : goal.returns-in_err-append_escapes-clause-kept
returns-in_err-append_escapes-clause-kept g c = ap (take (length c.args.out.now.items)) c.in_err-append_escapes.ensures.err.1 ∙ c.loop-rest.invariant.kept

pub returns-in_err-extend_from_slice-clause-kept : goal.returns-in_err-extend_from_slice-clause-kept
returns-in_err-extend_from_slice-clause-kept g c = ap (take (length c.args.out.now.items)) c.in_err-extend_from_slice.ensures.items ∙ c.loop-rest.invariant.kept

pub returns-in_err-push-2-clause-kept : goal.returns-in_err-push-2-clause-kept
returns-in_err-push-2-clause-kept g c = ap (take (length c.args.out.now.items)) c.in_err-push-2.ensures.items ∙ c.loop-rest.invariant.kept

pub returns-in_err-push-clause-ok : goal.returns-in_err-push-clause-ok
returns-in_err-push-clause-ok g c = IfOk-from_err c.from_residual.result _ c.from_residual.ensures.0

pub loop-rest-init : goal.loop-rest-init
loop-rest-init g c = record {
  written = ap (λ t. t ++ flat_map quoted_byte c.args.bytes.now) c.in_ok-push.ensures.items;
  kept = kept_more c.args.out.now.items _ _ _ (take-length c.args.out.now.items) c.in_ok-push.ensures.items;
}

pub returns-in_err-append_escapes-clause-ok : goal.returns-in_err-append_escapes-clause-ok
returns-in_err-append_escapes-clause-ok g c = IfOk-from_err c.from_residual-in_err-append_escapes.result _ c.from_residual-in_err-append_escapes.ensures.0

pub returns-in_err-extend_from_slice-clause-ok : goal.returns-in_err-extend_from_slice-clause-ok
returns-in_err-extend_from_slice-clause-ok g c = IfOk-from_err c.from_residual-in_err-extend_from_slice.result _ c.from_residual-in_err-extend_from_slice.ensures.0

pub returns-in_err-push-2-clause-ok : goal.returns-in_err-push-2-clause-ok
returns-in_err-push-2-clause-ok g c = IfOk-from_err c.from_residual-in_err-push-2.result _ c.from_residual-in_err-push-2.ensures.0

pub split_at-requires : goal.split_at-requires
split_at-requires g c = c.plain_len.ensures.most

pub split_at-requires-then-is_empty : goal.split_at-requires-then-is_empty
split_at-requires-then-is_empty g c = (escaped_within _ c.loop-rest.rest.now c.escaped_len.ensures).1

pub append_escapes-requires : goal.append_escapes-requires
append_escapes-requires g c = omega (arith, c.split_at-then-is_empty.ensures.front_len, (escaped_within _ c.loop-rest.rest.now c.escaped_len.ensures).0)
