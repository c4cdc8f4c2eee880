use Rattle.std.proofs.Common.{◌∙◌, ◌++◌, List, ℕ, [], sym, ap}
use Rattle.std.proofs.lemmas.List.{append-nil}
use Rattle.wire_fields_extra.proofs.laws.read_back_bytes.Goals as goal

pub returns-clause-ok : goal.returns-clause-ok
returns-clause-ok g c =
    let w = c.in_ok-serialize.ensures.ok in
    let kept = g.T.BytesRepr.kept c.args.text.now in
    let bytes = w.bytes in
    let joined = c.deref.ensures.value ∙ w.appended ∙ ap (λ (l : List ℕ). l ++ bytes) c.new-bytes.ensures.items ∙ sym (append-nil bytes) in
    c.in_ok-items.ensures.items_if_clones_equal (λ x y e. e)
    ∙ (c.in_ok-read.ensures.ok.only kept [] (record { bytes = bytes; joined = joined; is = rw c.requires.context (w.encodes [] c.requires.alone) })).1

pub returns-in_err-read-clause-err : goal.returns-in_err-read-clause-err
returns-in_err-read-clause-err g c =
    let w = c.in_ok-serialize.ensures.ok in
    let kept = g.T.BytesRepr.kept c.args.text.now in
    let bytes = w.bytes in
    let joined = c.deref.ensures.value ∙ w.appended ∙ ap (λ (l : List ℕ). l ++ bytes) c.new-bytes.ensures.items ∙ sym (append-nil bytes) in
    absurd (c.in_err-read.ensures.err.0 kept [] (record { bytes = bytes; joined = joined; is = rw c.requires.context (w.encodes [] c.requires.alone) }))
