-- Digits as text.
use Rattle.std.proofs.Common.{◌≡◌, ◌+◌, ℕ, List, ◌++◌, take, drop, append_assoc, sym, ap, subst, ◌∙◌, Result, Ok, Err, IsErr}
use Rattle.std.proofs.lemmas.List.{map-append, take-append-drop}
use Rattle.std.proofs.Output.{has_written_styled_append, has_written_styled_of_eq}
use Rattle.std.specs.declared.fmt.Formatter.{Formatter}
use Rattle.std.specs.Fmt.{HasWritten, HasWrittenStyled, IsPlainFormatter, IsDefaultSpec}
use Rattle.std.specs.Result.{IsOk}
use Rattle.rows_values.specs.PrintedDecimals.{glyphs}

-- the characters of the first digits were written, and these digits remain
pub record Shows {W : Type 0} (took : W → List ℕ → W → Type 0) (f : Formatter W) (digits rest : List ℕ) (g : Formatter W) : Type 0 where
  pub shown : List ℕ
  pub whole : digits ≡ shown ++ rest
  pub wrote : HasWrittenStyled took f (glyphs shown) g

pub shows_more : {W : Type 0} (took : W → List ℕ → W → Type 0) (f g h : Formatter W) (digits rest run more : List ℕ) (n : ℕ) → run ≡ take n rest → more ≡ drop n rest
    → Shows took f digits rest g → HasWrittenStyled took g (glyphs run) h → Shows took f digits more h
shows_more took f g h digits rest run more n prefix back s wrote =
    let parts : rest ≡ run ++ more = sym (ap (λ l. l ++ more) prefix ∙ ap (λ l. take n rest ++ l) back ∙ take-append-drop n rest) in
    record {
      shown = s.shown ++ run;
      whole = s.whole ∙ ap (λ l. s.shown ++ l) parts ∙ sym (append_assoc s.shown run more);
      wrote = has_written_styled_of_eq _ _ _ _ _ (sym (map-append (λ d. 48 + d) s.shown run)) (has_written_styled_append _ _ _ _ _ _ s.wrote wrote);
    }

-- the text of a formatter without options
pub plain_of_styled : {W : Type 0} (took : W → List ℕ → W → Type 0) (f g : Formatter W) (text : List ℕ) → IsPlainFormatter f → HasWrittenStyled took f text g → HasWritten took f text g
plain_of_styled took f g text plain s = record {
  wrote = s.wrote;
  plain = record { bare = subst IsDefaultSpec (sym s.spec) plain.bare; flush = s.flush };
}

-- a `?` doesn't return Ok
pub no_ok : {T E X : Type 0} (r : Result T E) → IsErr r → IsOk r → X
no_ok (Ok v) err ok = absurd cc
no_ok (Err e) err ok = absurd cc
