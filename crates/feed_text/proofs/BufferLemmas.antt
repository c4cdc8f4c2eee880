-- Texts in buffers with room.
use Rattle.std.proofs.Common.{◌≡◌, ◌≤◌, ◌∷◌, [], ℕ, List, ◌++◌, length, take, drop, refl, sym, ap, ◌∙◌, append_assoc, arith, length-append, Ok, Option, Some, None}
use Rattle.std.proofs.lemmas.Grind.{flat_map-append}
use Rattle.std.proofs.lemmas.List.{length-take, length-take-le, take-append-le, take-take, take-append-drop}
use Rattle.std.specs.List.{flat_map}
use Rattle.feed_writers.specs.Quoting.{quoted_byte, quoted}
use Rattle.rows_errors.specs.Readings.{Reading, ◌>>=◌}
use Rattle.rows_jsonb.specs.DocumentTrees.{document_tree}
use Rattle.rows_cells.specs.CellValues.{CellValue, json}
use Rattle.feed_text.specs.JsonText.{document_text}
use Rattle.feed_text.specs.FeedDocuments.{feed_form}
use Rattle.feed_text.specs.DirectText.{WritesDocument}
use Rattle.feed_text.specs.CellText.{label, cell_value_text, cell_text, Appends, AppendsLabeled}
use Rattle.feed_text.specs.DecimalText.{AppendsSome}
use Rattle.feed_text.proofs.CellLemmas.{appends, tree_written}
use Rattle.feed_text.proofs.FeedDocumentLemmas.{document_appended}

-- bytes at the start were quoted, and the others remain
pub prefix_quoted : (all text new rest prefix after : List ℕ) (n : ℕ) → text ++ flat_map quoted_byte rest ≡ all → prefix ≡ take n rest → after ≡ drop n rest → new ≡ text ++ flat_map quoted_byte prefix
    → new ++ flat_map quoted_byte after ≡ all
prefix_quoted all text new rest prefix after n h f a is =
    rw (is, f, a) (append_assoc text (flat_map quoted_byte (take n rest)) (flat_map quoted_byte (drop n rest))
    ∙ ap (λ (t : List ℕ). text ++ t) (sym (flat_map-append quoted_byte (take n rest) (drop n rest)) ∙ ap (flat_map quoted_byte) (take-append-drop n rest)) ∙ h)

-- only the second quote remains
pub all_quoted : (old out rest bytes new : List ℕ) → out ++ flat_map quoted_byte rest ≡ old ++ flat_map quoted_byte bytes → length rest ≡ 0 → new ≡ out ++ 39 ∷ [] → new ≡ old ++ (flat_map quoted_byte bytes ++ 39 ∷ [])
all_quoted old out [] bytes new h none is = is ∙ ap (λ (t : List ℕ). t ++ 39 ∷ []) (sym (append-none out) ∙ h) ∙ append_assoc old (flat_map quoted_byte bytes) (39 ∷ [])
  where
    append-none : (s : List ℕ) → s ++ [] ≡ s
    append-none [] = refl
    append-none (x ∷ s) = ap (λ (t : List ℕ). x ∷ t) (append-none s)
all_quoted old out (x ∷ rest) bytes new h none is = absurd (omega arith)

-- a quote, and the bytes written after it
pub quoted_from : (base one new bytes : List ℕ) → one ≡ base ++ 39 ∷ [] → new ≡ one ++ (flat_map quoted_byte bytes ++ 39 ∷ []) → new ≡ base ++ quoted bytes
unfolding quoted
quoted_from base one new bytes first is = is ∙ ap (λ (t : List ℕ). t ++ (flat_map quoted_byte bytes ++ 39 ∷ [])) first ∙ append_assoc base (39 ∷ []) (flat_map quoted_byte bytes ++ 39 ∷ [])

-- the text before is unchanged, though more was written after it
pub prefix_kept : (old start : ℕ) (items text more new : List ℕ) (n : ℕ) → old ≤ start → text ≡ take start items ++ more → take (length text) (take n new) ≡ text → start ≤ length items → take old new ≡ take old items
prefix_kept old start items text more new n le is kept room =
    let size : length (take start items) ≡ start = length-take-le start items room in
    let prefix : old ≤ length (take start items) = omega (arith, size, le) in
    let inside : old ≤ length text = omega (arith, ap length is, length-append (take start items) more, prefix) in
    let long : old ≤ n = let e = ap length kept in let k = length-take (length text) (take n new) in let l = length-take n new in omega (arith, e, k, l, inside) in
    sym (take-take old n new long) ∙ sym (take-take old (length text) (take n new) inside) ∙ ap (take old) (kept ∙ is) ∙ take-append-le old (take start items) more prefix ∙ take-take old start items le

-- the text was appended after a label, if there is one
pub appended_after : (column : ℕ) (found : Reading (List ℕ)) (text old prefix new : List ℕ) → found ≡ Ok text → prefix ≡ old ++ label column → new ≡ prefix ++ text → Appends (found >>= λ t. Ok (label column ++ t)) old new
appended_after column found text old prefix new h first is = appends column found text old new h (is ∙ ap (λ (t : List ℕ). t ++ text) first ∙ append_assoc old (label column) text)

-- the text of a decimal was appended after a label, if there is one
pub decimal_after : (column : ℕ) (found : Option (List ℕ)) (old prefix new : List ℕ) → prefix ≡ old ++ label column → AppendsSome found prefix new → AppendsLabeled column found old new
decimal_after column None old prefix new first h = absurd h
decimal_after column (Some text) old prefix new first h = h ∙ ap (λ (t : List ℕ). t ++ text) first ∙ append_assoc old (label column) text

-- the text of a JSON document was appended after a label
pub document_after : (column : ℕ) (v : CellValue) (bytes old prefix new : List ℕ) → v ≡ json bytes → prefix ≡ old ++ label column → WritesDocument feed_form (document_tree bytes) prefix new → Appends (cell_text column v) old new
document_after column v bytes old prefix new is first w = appended_after column (cell_value_text v) (document_text w.tree) old prefix new (tree_written v bytes w.tree is w.is) first (document_appended w.tree prefix new w.text)
