-- A keeper takes what a reader gives.
use Rattle.std.proofs.Common.{◌≡◌, ◌<◌, ◌^◌, ℕ, Bool, List, [], ◌++◌, length, Option, Some, None, IfSome, Err, refl, sym, subst, ◌∙◌, arith, ap}
use Rattle.std.specs.Io.KnownBytes.{Consumes, Appends, Keeps, IsAtEnd}
use Rattle.std.proofs.KnownBytes.{Consumes-nil, Consumes-trans}
use Rattle.std.proofs.lemmas.List.{append-nil, length-append}
use Rattle.wire_buf.specs.Transfers.{WritesPrefix}
use Rattle.feed_resume.specs.Kept.{kept}
use Rattle.feed_resume.specs.Keepers.{RepresentsText}
use Rattle.feed_resume.specs.declared.keeper.Keeper.{Keeper}
use Rattle.program_kept.specs.Found.{HasKept, IsInputFailure, WritesKept, kept_line}
use Rattle.program_kept.specs.declared.finding.Failure.{Failure}
use Rattle.program_kept.specs.declared.finding.Failure.TheVariants as failures

-- these bytes were read and taken
pub record TakesText (old new : Option (List ℕ)) (keeper : Keeper) : Type 0 where
  pub text : List ℕ
  pub consumed : Consumes old new text
  pub represents : length text < 2 ^ 64 → RepresentsText keeper text

pub takes_none : (old : Option (List ℕ)) (keeper : Keeper) → RepresentsText keeper [] → TakesText old old keeper
takes_none old keeper h = record { text = []; consumed = Consumes-nil old; represents = λ short. h }

pub takes_piece : (old mid new : Option (List ℕ)) (keeper next : Keeper) (piece : List ℕ) → TakesText old mid keeper → Consumes mid new piece
    → ((text : List ℕ) → RepresentsText keeper text → length (text ++ piece) < 2 ^ 64 → RepresentsText next (text ++ piece)) → TakesText old new next
takes_piece old mid new keeper next piece h c took = record {
  text = h.text ++ piece;
  consumed = Consumes-trans old mid new h.text piece h.consumed c;
  represents = λ short. took h.text (h.represents (omega (arith, short, length-append h.text piece))) short;
}

-- ---- the line

pub keeps_same : (o : Option (List ℕ)) → Keeps o o
keeps_same None = tt
keeps_same (Some b) = refl

-- the text wasn't read
pub none_written : (input : Option (List ℕ)) (failed write_failed : Bool) (o : Option (List ℕ)) (e : Failure) → IsInputFailure failed e → WritesKept input failed write_failed o o (Err e)
none_written input failed write_failed o failures.Memory h = keeps_same o
none_written input failed write_failed o failures.Read h = (keeps_same o, h)
none_written input failed write_failed o failures.Write h = absurd h
none_written input failed write_failed o failures.Usage h = absurd h
none_written input failed write_failed o failures.Open h = absurd h
none_written input failed write_failed o failures.Line h = absurd h

-- the reader gave all of its bytes
all_taken : (b : List ℕ) (new : Option (List ℕ)) (bytes : List ℕ) → Consumes (Some b) new bytes → IsAtEnd new → b ≡ bytes
all_taken b None bytes p r = absurd p
all_taken b (Some y) bytes p r = p ∙ ap (λ (t : List ℕ). bytes ++ t) r ∙ append-nil bytes

-- the line was written
pub line_written : (input new before written : Option (List ℕ)) (keeper : Keeper) (line : List ℕ) (k : ℕ × Option ℕ) → HasKept input new keeper → ((text : List ℕ) → RepresentsText keeper text → k ≡ kept text) → line ≡ kept_line k
    → Appends before written line → IfSome input (λ text. length text < 2 ^ 64 → Appends before written (kept_line (kept text)))
line_written None new before written keeper line k h is e w = tt
line_written (Some b) new before written keeper line k h is e w = λ short.
    let same : b ≡ h.text = all_taken b new h.text h.consumed h.at_end in
    let found : k ≡ kept b = is b (subst (RepresentsText keeper) (sym same) (h.represents (subst (λ (t : List ℕ). length t < 2 ^ 64) same short))) in
    subst (λ (l : List ℕ). Appends before written l) (e ∙ ap kept_line found) w

-- a prefix of the line was written
pub line_begun : (input new before written : Option (List ℕ)) (keeper : Keeper) (line : List ℕ) (k : ℕ × Option ℕ) → HasKept input new keeper → ((text : List ℕ) → RepresentsText keeper text → k ≡ kept text) → line ≡ kept_line k
    → WritesPrefix line before written → IfSome input (λ text. length text < 2 ^ 64 → WritesPrefix (kept_line (kept text)) before written)
line_begun None new before written keeper line k h is e w = tt
line_begun (Some b) new before written keeper line k h is e w = λ short.
    let same : b ≡ h.text = all_taken b new h.text h.consumed h.at_end in
    let found : k ≡ kept b = is b (subst (RepresentsText keeper) (sym same) (h.represents (subst (λ (t : List ℕ). length t < 2 ^ 64) same short))) in
    subst (λ (l : List ℕ). WritesPrefix l before written) (e ∙ ap kept_line found) w
