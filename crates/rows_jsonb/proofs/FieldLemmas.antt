-- A value that was read as a field is the one that the bytes encode.
use Rattle.std.proofs.Common.{◌≡◌, ◌++◌, ℕ, List, take, drop, sym, ◌∙◌, ap}
use Rattle.std.proofs.lemmas.List.{take-append-drop, length-take-le}
use Rattle.std.proofs.Math.Seq.{drop-append_seam}
use Rattle.std.specs.Result.{OnOk, IfOk}
use Rattle.std.specs.declared.result.Result.{Result}
use Rattle.std.specs.declared.result.Result.TheVariants.{Ok, Err}
use Rattle.rows_errors.specs.declared.fault.RowsError.{RowsError}
use Rattle.wire_buf.specs.Encoding.{Reads}
use Rattle.rows_errors.specs.Readings.{Reading, map_reading}
use Rattle.rows_jsonb.specs.JsonbFields.{IsFieldOf}
use Rattle.rows_jsonb.specs.JsonbViews.{IsConsumed}

same_value : {A : Type 0} (v w : A) → ◌≡◌ {A = Reading A} (Ok v) (Ok w) → v ≡ w
same_value v w e = cc

module _ {A V : Type 0} (view : V → A) (found : List ℕ → Reading A) (taken : List ℕ → ℕ) where
  pub reads_taken : (v : V) (x after : List ℕ) → Ok (view v) ≡ found x → IsConsumed (taken x) x after → Reads (IsFieldOf found taken) (view v) x after
  reads_taken v x after is eaten =
      let split_diff = take (taken x) x in
      let all : split_diff ++ after ≡ x = rw eaten.rest (take-append-drop (taken x) x) in
      record {
        begins = record {
          bytes = split_diff;
          joined = sym all;
          is = record { is = ap found all ∙ sym is; whole = length-take-le (taken x) x eaten.room ∙ ap taken (sym all) };
        };
        only = λ w rest h. (
          sym (eaten.rest ∙ ap (λ y. drop (taken y) y) h.joined ∙ ap (λ n. drop n (h.bytes ++ rest)) (sym h.is.whole) ∙ drop-append_seam h.bytes rest),
          same_value (view v) w (is ∙ ap found h.joined ∙ h.is.is),
        );
      }

  pub reads_if_ok : (r : Result V RowsError) (x after : List ℕ) → map_reading view r ≡ found x → OnOk r (IsConsumed (taken x) x after) → IfOk r (λ v. Reads (IsFieldOf found taken) (view v) x after)
  reads_if_ok (Ok v) x after is eaten = reads_taken v x after is eaten
  reads_if_ok (Err e) x after is eaten = tt
