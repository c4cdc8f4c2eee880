use Rattle.std.proofs.Common.{ℕ, [], ◌∷◌, ◌++◌, ap, ◌∙◌}
use Rattle.std.specs.Fmt.{decimal}
use Rattle.wire_buf.specs.Watched.{inner_of}
use Rattle.program_kept.proofs.KeptLemmas.{keeps_same, none_written, line_written, line_begun}
use Rattle.program_kept.proofs.finding.write_kept.Goals as goal

pub returns-in-Err : goal.returns-in-Err
returns-in-Err g c = none_written (g.R.Read.remaining (inner_of c.args.reader.now)) _ _ _ _ c.in-Err.ensures.err

pub returns-in_default : goal.returns-in_default
returns-in_default g c = keeps_same _

pub returns-in-Err-put_all : goal.returns-in-Err-put_all
returns-in-Err-put_all g c = (line_begun _ _ _ _ c.in-Ok.keeper c.as_bytes.result.now c.kept-len.result c.in-Ok.ensures.ok c.kept-len.ensures (c.as_bytes.ensures.value ∙ c.in-Ok-format.ensures.ok ∙ ap (λ (n : ℕ). decimal c.kept-len.result.0 ++ 32 ∷ (decimal n ++ 10 ∷ [])) c.unwrap_or.ensures) c.in-Err-put_all.ensures.err.1, c.in-Err-put_all.ensures.err.2)

pub returns : goal.returns
returns g c = line_written _ _ _ _ c.in-Ok.keeper c.as_bytes.result.now c.kept-len.result c.in-Ok.ensures.ok c.kept-len.ensures (c.as_bytes.ensures.value ∙ c.in-Ok-format.ensures.ok ∙ ap (λ (n : ℕ). decimal c.kept-len.result.0 ++ 32 ∷ (decimal n ++ 10 ∷ [])) c.unwrap_or.ensures) c.in_default-put_all.ensures.ok
