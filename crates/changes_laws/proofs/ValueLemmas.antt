-- Documents, partial updates and cells as values of RFC 8259.
use Rattle.std.proofs.Common.{◌≡◌, ◌≤◌, ℕ, suc, List, [], ◌∷◌, arith}
use Rattle.std.specs.Prelude.{All}
use Rattle.std.specs.declared.result.Result.TheVariants.{Ok}
use Rattle.std.proofs.lemmas.Simd.{Each1-from_get_or, Each1-get_or}
use Rattle.wire_buf.specs.Encoding.{AreBytes}
use Rattle.rows_cells.specs.Cells.{cell_at}
use Rattle.rows_cells.specs.CellValues.{CellValue}
use Rattle.rows_cells.specs.declared.format.CellFormat.{CellFormat}
use Rattle.changes_tables.specs.ShownColumns.{ColumnView}
use Rattle.changes_cells.specs.CellJson.{AreUpdatesJson, IsCellJson, IsDocumentJson}
use Rattle.changes_laws.specs.JsonLines.{IsJsonValue}
use Rattle.changes_laws.proofs.WrittenJson.{IsJson, AllJson}
use Rattle.changes_laws.proofs.DocumentGrammarLemmas.{document_json}
use Rattle.changes_laws.proofs.UpdateGrammarLemmas.{diffs_json, diffs_sound}
use Rattle.changes_laws.proofs.SoundDocumentLemmas.{document_tree_sound}
use Rattle.changes_laws.proofs.SoundCellLemmas.{cell_gives}
use Rattle.changes_laws.proofs.CellGrammarLemmas.{cell_json}

pub of_json : (x : List ℕ) → IsJson (Unit {0}) x → IsJsonValue x
of_json x j = record { value = j.value; text_is = j.is; printable = λ k d lt. Each1-get_or (λ b. 32 ≤ b) x k d lt j.printable; distinct = j.distinct tt }

to_json : (x : List ℕ) → IsJsonValue x → IsJson (Unit {0}) x
to_json x j = record { value = j.value; is = j.text_is; printable = Each1-from_get_or (λ b. 32 ≤ b) x 0 (λ i lt. j.printable i 0 lt); distinct = λ p. j.distinct }

pub all_json : (xs : List (List ℕ)) → All IsJsonValue xs → AllJson (Unit {0}) xs
all_json [] h = tt
all_json (x ∷ xs) h = (to_json x (h 0 x (omega arith)), all_json xs (λ k d lt. h (suc k) d (omega (arith, lt))))

pub document_value : (b x : List ℕ) → AreBytes b → IsDocumentJson b x → IsJsonValue x
document_value b x h e = of_json x (document_json (Unit {0}) e.tree x ((document_tree_sound b h).each e.tree e.is) e.text)

pub updates_value : (b x : List ℕ) → AreBytes b → AreUpdatesJson b x → IsJsonValue x
updates_value b x h e = of_json x (diffs_json (Unit {0}) e.updates x (diffs_sound b e.updates h e.are) e.text)

pub cell_value : (c : ColumnView) (f : CellFormat) (bytes rest x : List ℕ) (v : CellValue) → AreBytes bytes → cell_at f bytes ≡ Ok (v, rest) → All IsJsonValue c.members → IsCellJson c f v x → IsJsonValue x
cell_value c f bytes rest x v h read m e = of_json x (cell_json (Unit {0}) c f v x (all_json c.members m) ((cell_gives f bytes h).each (v, rest) read).0 e)
