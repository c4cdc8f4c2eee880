use Rattle.std.proofs.Common.{rules, subst, sym}
use Rattle.rows_values.specs.Digits.{AreDigits}
use Rattle.rows_values.proofs.GroupLemmas.{drop_digits}
use Rattle.rows_values.proofs.DisplayLemmas.{shows_more}
use Rattle.rows_values.proofs.display.put_glyphs.Goals as goal

pub loop-rest-preserved : goal.loop-rest-preserved
loop-rest-preserved g c = (
  subst AreDigits (sym c.split_at.ensures.back) (drop_digits c.min.result c.loop-rest.rest.now c.loop-rest.invariant.0),
  λ flush.
      let s = c.loop-rest.invariant.1 flush in
      shows_more _ _ _ _ _ _ _ _ c.min.result c.split_at.ensures.front c.split_at.ensures.back s (c.put_run.ensures s.wrote.flush (search rules)),
)
