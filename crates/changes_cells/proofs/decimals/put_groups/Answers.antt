use Rattle.std.proofs.Common.{ap, ◌∙◌, ◌++◌, ◌∷◌, [], List, ℕ, append_assoc, arith}
use Rattle.std.specs.Option.{option_map}
use Rattle.changes_cells.specs.ShownTimes.{in_quotes}
use Rattle.changes_cells.proofs.FixedLemmas.{none_quoted, kept_before}
use Rattle.changes_cells.proofs.decimals.put_groups.Goals as goal

pub returns-in-Some : goal.returns-in-Some
returns-in-Some c =
    let p = c.in-Some.ensures in record {
      text = in_quotes p.text;
      is = ap (option_map in_quotes) p.is;
      from = let f = p.from in omega (arith, f, c.put_byte.ensures.end, c.put_byte-start.ensures.end);
      most = let m = p.most in omega (arith, m, c.put_byte.ensures.end, c.put_byte-start.ensures.end);
      written = c.put_byte.ensures.text ∙ ap (λ (t : List ℕ). t ++ 34 ∷ []) (p.written ∙ ap (λ (t : List ℕ). t ++ p.text) c.put_byte-start.ensures.text) ∙ simp append_assoc;
    }

pub returns-in-None : goal.returns-in-None
returns-in-None c =
    let p = c.in-None.ensures in (
      none_quoted _ p.0,
      kept_before c.args.at c.put_byte-start.result c.args.text.now c.put_byte-start.new.text c.put_decimal_text.new.text 34 (omega (arith, c.requires.room)) c.put_byte-start.ensures.end c.put_byte-start.ensures.text p.1,
    )
