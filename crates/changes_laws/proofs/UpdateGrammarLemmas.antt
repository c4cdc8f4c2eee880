-- The JSON of partial updates is JSON of RFC 8259.
use Rattle.std.proofs.Common.{◌≡◌, ℕ, suc, T, List, [], ◌∷◌, ◌++◌, Option, Some, None, sym, ap, ◌∙◌, subst, append_assoc, take, drop, length}
use Rattle.std.specs.Prelude.{codes, nat_le, ◌==◌}
use Rattle.std.specs.List.{join_with_byte}
use Rattle.std.specs.declared.result.Result.TheVariants.{Ok, Err}
use Rattle.wire_buf.specs.Encoding.{AreBytes}
use Rattle.wire_buf.specs.LenencSplit.{split_lenenc}
use Rattle.rows_values.proofs.UnpackedLemmas.{take_bytes, drop_bytes}
use Rattle.rows_jsonb.specs.Items.{items_at, all_found}
use Rattle.rows_jsonb.specs.JsonbValues.{JsonbValue, malformed, document}
use Rattle.rows_jsonb.specs.JsonDiffs.{Diff, operation_at, text_of_length, text_at, embedded_at, diff_value_at, diff_at}
use Rattle.rows_jsonb.specs.declared.diff.JsonDiffOperation.{JsonDiffOperation}
use Rattle.rows_jsonb.specs.declared.diff.JsonDiffOperation.TheVariants.{REPLACE, INSERT, REMOVE}
use Rattle.feed_text.specs.DocumentForms.{IsNewValueIn, AreUpdatesIn, IsUpdatesIn}
use Rattle.changes_writers.specs.JsonStrings.{json_string}
use Rattle.changes_cells.specs.JsonDocuments.{json_form, operation_name, path_json, update_json, value_end}
use Rattle.changes_laws.specs.JsonGrammar.{no_members, member}
use Rattle.changes_laws.proofs.StringGrammarLemmas.{all_ascii, utf8_known}
use Rattle.changes_laws.proofs.WrittenJson.{IsJson, AllJson, joined_array, first_member, next_member, no_more_members, object_json}
use Rattle.changes_laws.proofs.PlainGrammarLemmas.{Plain, plain_known, quoted_json, utf8_or_object}
use Rattle.changes_laws.proofs.DocumentGrammarLemmas.{are_distinct, distinct_known, document_json, one_member, two_members}
use Rattle.changes_laws.proofs.ReadingGives.{Gives, given, fails, either, next, RestAreBytes}
use Rattle.changes_laws.proofs.SoundCellLemmas.{BothBytes, WithBytes, EachHolds, walk_holds, lenenc_rest}
use Rattle.changes_laws.proofs.SoundDocumentLemmas.{IsSoundValue, document_sound, value_tree_sound}

-- ---- the diffs that are read
abbrev IsSoundNew : Option JsonbValue → Type 0
IsSoundNew None = Unit {0}
IsSoundNew (Some v) = IsSoundValue v

abbrev pub IsSoundDiff : Diff → Type 0
IsSoundDiff d = IsSoundNew (d.1).1

text_of_length_gives : (o : Option (ℕ × List ℕ)) → RestAreBytes o → Gives BothBytes (text_of_length o)
text_of_length_gives None h = fails BothBytes malformed
text_of_length_gives (Some n) h = either BothBytes (nat_le n.0 (length n.1)) (Ok (take n.0 n.1, drop n.0 n.1)) (Err malformed) (given BothBytes (take n.0 n.1, drop n.0 n.1) (take_bytes n.0 n.1 h, drop_bytes n.0 n.1 h)) (fails BothBytes malformed)

text_gives : (b : List ℕ) → AreBytes b → Gives BothBytes (text_at b)
unfolding text_at
text_gives b h = text_of_length_gives (split_lenenc b) (lenenc_rest b h)

embedded_gives : (b : List ℕ) → AreBytes b → Gives (WithBytes IsSoundNew) (embedded_at b)
embedded_gives b h =
    next BothBytes (WithBytes IsSoundNew) (text_at b) _ (text_gives b h)
    (λ content c. next IsSoundValue (WithBytes IsSoundNew) (document content.0) _ (document_sound content.0 c.0) (λ v s. given (WithBytes IsSoundNew) (Some v, content.1) (s, c.1)))

new_gives : (op : JsonDiffOperation) (b : List ℕ) → AreBytes b → Gives (WithBytes IsSoundNew) (diff_value_at op b)
new_gives REMOVE b h = given (WithBytes IsSoundNew) (None, b) (tt, h)
new_gives REPLACE b h = embedded_gives b h
new_gives INSERT b h = embedded_gives b h

abbrev AnyThen : JsonDiffOperation × List ℕ → Type 0
AnyThen x = AreBytes x.1

operation_gives : (b : List ℕ) → AreBytes b → Gives AnyThen (operation_at b)
operation_gives [] h = fails AnyThen malformed
operation_gives (n ∷ b) h =
    let rest : AreBytes b = λ i. h (suc i) in
    let c = either AnyThen (n == 2) (Ok (REMOVE, b)) (Err malformed) (given AnyThen (REMOVE, b) rest) (fails AnyThen malformed) in
    let d = either AnyThen (n == 1) (Ok (INSERT, b)) _ (given AnyThen (INSERT, b) rest) c in
    either AnyThen (n == 0) (Ok (REPLACE, b)) _ (given AnyThen (REPLACE, b) rest) d

diff_gives : (b : List ℕ) → AreBytes b → Gives (WithBytes IsSoundDiff) (diff_at b)
unfolding diff_at
diff_gives b h =
    next AnyThen (WithBytes IsSoundDiff) (operation_at b) _ (operation_gives b h)
    (λ op o. next BothBytes (WithBytes IsSoundDiff) (text_at op.1) _ (text_gives op.1 o)
    (λ path p. next (WithBytes IsSoundNew) (WithBytes IsSoundDiff) (diff_value_at op.0 path.1) _ (new_gives op.0 path.1 p.1)
    (λ value v. given (WithBytes IsSoundDiff) ((op.0, (path.0, value.0)), value.1) v)))

pub diffs_sound : (b : List ℕ) (ds : List Diff) → AreBytes b → items_at diff_at b ≡ all_found ds → EachHolds IsSoundDiff ds
diffs_sound b ds h e = subst (EachHolds IsSoundDiff) (ap (λ w. w.items) e) (walk_holds IsSoundDiff diff_at diff_gives (length b) b h)

-- ---- their JSON
three_members : (P : Type 0) (k l m x y z : List ℕ) → T (all_ascii k) → T (all_ascii l) → T (all_ascii m) → T (are_distinct (k ∷ l ∷ m ∷ [])) → IsJson P x → IsJson P y → IsJson P z
    → IsJson P (123 ∷ (json_string k ++ 58 ∷ (x ++ 44 ∷ (json_string l ++ 58 ∷ (y ++ 44 ∷ (json_string m ++ 58 ∷ (z ++ 125 ∷ [])))))))
three_members P k l m x y z ka la ma d j i g =
    let third = next_member P m z [] no_members (utf8_known m ma) g (no_more_members P) in
    let second = next_member P l y (44 ∷ ((json_string m ++ 58 ∷ z) ++ [])) (member m g.value no_members) (utf8_known l la) i third in
    let all = first_member P k x (44 ∷ ((json_string l ++ 58 ∷ y) ++ 44 ∷ ((json_string m ++ 58 ∷ z) ++ []))) (member l i.value (member m g.value no_members)) (utf8_known k ka) j second in
    subst (IsJson P) (simp append_assoc) (object_json P (member k j.value (member l i.value (member m g.value no_members))) _ all (λ q. distinct_known (k ∷ l ∷ m ∷ []) d))

name_plain : (op : JsonDiffOperation) → Plain (operation_name op)
name_plain REPLACE = plain_known (codes "replace") tt
name_plain INSERT = plain_known (codes "insert") tt
name_plain REMOVE = plain_known (codes "remove") tt

abbrev op_start : List ℕ → List ℕ
op_start t = codes "{\"op\":\"" ++ t

without_value : (P : Type 0) (op : JsonDiffOperation) (path : List ℕ) → IsJson P (update_json op path None)
unfolding json_string
without_value P op path =
    let name = operation_name op in
    let rest = codes "\",\"path\":" ++ path_json path in
    subst (IsJson P) (ap op_start (append_assoc name (34 ∷ []) (44 ∷ (json_string (codes "path") ++ 58 ∷ (path_json path ++ 125 ∷ [])))) ∙ sym (ap op_start (append_assoc name rest (codes "}"))))
    (two_members P (codes "op") (codes "path") (34 ∷ name ++ 34 ∷ []) (path_json path) tt tt tt (quoted_json P name (name_plain op)) (utf8_or_object P path))

with_value : (P : Type 0) (op : JsonDiffOperation) (path value : List ℕ) → IsJson P value → IsJson P (update_json op path (Some value))
unfolding json_string
with_value P op path value j =
    let name = operation_name op in
    let rest = codes "\",\"path\":" ++ path_json path in
    let last = 44 ∷ (json_string (codes "value") ++ 58 ∷ (value ++ 125 ∷ [])) in
    subst (IsJson P) (ap op_start (append_assoc name (34 ∷ []) (44 ∷ (json_string (codes "path") ++ 58 ∷ (path_json path ++ last)))) ∙ sym (ap op_start (append_assoc name rest (value_end value))))
    (three_members P (codes "op") (codes "path") (codes "value") (34 ∷ name ++ 34 ∷ []) (path_json path) value tt tt tt tt (quoted_json P name (name_plain op)) (utf8_or_object P path) j)

new_json : (P : Type 0) (op : JsonDiffOperation) (path : List ℕ) (v : Option JsonbValue) (o : Option (List ℕ)) → IsSoundNew v → IsNewValueIn json_form v o → IsJson P (update_json op path o)
new_json P op path None o h e = subst (λ (x : Option (List ℕ)). IsJson P (update_json op path x)) (sym e) (without_value P op path)
new_json P op path (Some v) o h e =
    let t = (value_tree_sound v h).each e.0 e.1 in
    let y = e.2 in
    subst (λ (x : Option (List ℕ)). IsJson P (update_json op path x)) (sym y.2) (with_value P op path y.0 (document_json P e.0 y.0 t y.1))

updates_json : (P : Type 0) (ds : List Diff) (xs : List (List ℕ)) → EachHolds IsSoundDiff ds → AreUpdatesIn json_form ds xs → AllJson P xs
unfolding AreUpdatesIn
updates_json P [] xs h e = subst (AllJson P) (sym e) tt
updates_json P (d ∷ ds) [] h e = absurd e
updates_json P (d ∷ ds) (x ∷ xs) h e =
    let u = e.0 in
    (subst (IsJson P) (sym u.2) (new_json P d.0 (d.1).0 (d.1).1 u.0 h.0 u.1), updates_json P ds xs h.1 e.1)

abbrev diffs_start : List ℕ → List ℕ
diffs_start t = codes "{\"diffs\":[" ++ t

pub diffs_json : (P : Type 0) (ds : List Diff) (x : List ℕ) → EachHolds IsSoundDiff ds → IsUpdatesIn json_form ds x → IsJson P x
unfolding json_string
diffs_json P ds x h e =
    let texts = join_with_byte 44 e.0 in
    subst (IsJson P) (ap diffs_start (append_assoc texts (93 ∷ []) (125 ∷ [])) ∙ sym e.2) (one_member P (codes "diffs") (91 ∷ (texts ++ 93 ∷ [])) tt (joined_array P e.0 (updates_json P ds e.0 h e.1)))
