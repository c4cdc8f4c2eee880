use Rattle.std.proofs.Common.{◌≡◌, ◌∙◌, ◌++◌, ◌⊎◌, inl, inr, List, ℕ, [], sym, ap, None}
use Rattle.std.proofs.lemmas.List.{append-nil}
use Rattle.wire_buf.specs.declared.fault.WireFault.TheVariants.{Memory, Form}
use Rattle.wire_fields_extra.proofs.StreamLemmas.{IfErr-same}
use Rattle.wire_fields_extra.proofs.laws.read_back.Goals as goal

pub returns-in_err-serialize-clause-err : goal.returns-in_err-serialize-clause-err
returns-in_err-serialize-clause-err g c =
    IfErr-same _ _ (λ e. e ≡ Memory ⊎ ((e ≡ Form) × (g.T.IntRepr.encoded (g.T.IntRepr.kept c.args.value) ≡ None))) c.from_residual.ensures c.in_err-serialize.ensures.err.why

pub returns-in_err-raw-clause-err : goal.returns-in_err-raw-clause-err
returns-in_err-raw-clause-err g c =
    let w = c.in_ok-serialize.ensures.ok in
    let joined = c.deref.ensures.value ∙ w.appended ∙ ap (λ (l : List ℕ). l ++ w.bytes) c.new-bytes.ensures.items ∙ sym (append-nil w.bytes) in
    IfErr-same _ _ (λ e. e ≡ Memory ⊎ ((e ≡ Form) × (g.T.IntRepr.encoded (g.T.IntRepr.kept c.args.value) ≡ None))) c.from_residual-in_err-raw.ensures
    (elim c.in_err-raw.ensures.err [
      | inl m ↦ inl m
      | inr none ↦ absurd (none (g.T.IntRepr.kept c.args.value) [] (record { bytes = w.bytes; joined = joined; is = w.least.is }))
    ])

pub returns-clause-ok : goal.returns-clause-ok
returns-clause-ok g c =
    let w = c.in_ok-serialize.ensures.ok in
    let joined = c.deref.ensures.value ∙ w.appended ∙ ap (λ (l : List ℕ). l ++ w.bytes) c.new-bytes.ensures.items ∙ sym (append-nil w.bytes) in
    (c.in_ok-raw.ensures.ok.only (g.T.IntRepr.kept c.args.value) []
    (record { bytes = w.bytes; joined = joined; is = w.least.is })).1
