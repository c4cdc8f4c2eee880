-- Rows with their numbers, read one after the other.
use Rattle.std.proofs.Common.{◌≡◌, ◌<◌, ◌+◌, ℕ, List, [], ◌∷◌, ◌++◌, length, map, Some, None, sym, ap, subst, ◌∙◌, append_assoc, arith}
use Rattle.std.proofs.lemmas.List.{append-nil, length-append, map-append}
use Rattle.feed_text.specs.Buffers.{text_in}
use Rattle.rows_cells.specs.Images.{ImageShape}
use Rattle.changes_tables.specs.ShownColumns.{ColumnView}
use Rattle.changes_lines.specs.ReadRows.{AppendsRow, ReadsRows, AddsAllRead, AddsAllRows, AddsNumbered}
use Rattle.changes_lines.specs.TextLists.{HasTexts, ended}
use Rattle.changes_lines.specs.FactMembers.{numbered, row_member}
use Rattle.changes_lines.specs.declared.text_list.TextList.{TextList}
use Rattle.changes_lines.proofs.ReadRowLemmas.{row_read, all_read, none_read_yet}
use Rattle.changes_lines.proofs.TextListLemmas.{more_open}

-- the number of one more row
numbered_more : (n m : ℕ) (rows : List (List ℕ)) (row : List ℕ) → m ≡ n + length rows → numbered n (rows ++ row ∷ []) ≡ numbered n rows ++ (row ++ row_member (m + 1)) ∷ []
unfolding numbered
numbered_more n m [] row e = let same : n ≡ m = omega (arith, e) in ap (λ (k : ℕ). (row ++ row_member (k + 1)) ∷ []) same
numbered_more n m (r ∷ rows) row e = ap (λ (l : List (List ℕ)). (r ++ row_member (n + 1)) ∷ l) (numbered_more (n + 1) m rows row (omega (arith, e)))

-- none was added
pub numbered_none : (t : List ColumnView) (shapes : List ImageShape) (texts : TextList) (rest : List ℕ) (n : ℕ) → AddsNumbered t shapes texts rest n rest n texts
unfolding numbered
numbered_none t shapes texts rest n = record {
  json = [];
  count = omega arith;
  reads = λ bytes before h. subst (λ (l : List (List ℕ)). ReadsRows t shapes bytes rest l) (sym (append-nil before)) h;
  adds = λ before h. subst (λ (l : List (List ℕ)). HasTexts texts l []) (sym (append-nil before)) h;
}

-- some were added, and then one
pub numbered_row : (t : List ColumnView) (shapes : List ImageShape) (old some mid new : TextList) (bytes rest after : List ℕ) (n m own : ℕ) → 0 < length rest → AddsNumbered t shapes old bytes n rest m some → AppendsRow t shapes rest after (text_in some.buffer) (text_in mid.buffer) → length after < length rest → mid.ends ≡ some.ends → own ≡ m + 1
    → ((before : List (List ℕ)) (json : List ℕ) → HasTexts mid before json → HasTexts new (before ++ ended (json ++ row_member own) ∷ []) []) → AddsNumbered t shapes old bytes n after own new
numbered_row t shapes old some mid new bytes rest after n m own more a r less same is end = record {
  json = a.json ++ r.json ∷ [];
  count = let count = a.count in let sum = length-append a.json (r.json ∷ []) in omega (arith, is, count, sum);
  reads = λ all before h. subst (λ (l : List (List ℕ)). ReadsRows t shapes all after l) (append_assoc before a.json (r.json ∷ [])) (row_read t shapes all rest after r.json (before ++ a.json) more r.reads less (a.reads all before h));
  adds = λ before h. subst (λ (l : List (List ℕ)). HasTexts new l []) (texts before) (end (before ++ map ended (numbered n a.json)) r.json (more_open some mid (before ++ map ended (numbered n a.json)) [] r.json r.appended same (a.adds before h)));
}
  where
    own_row : numbered n (a.json ++ r.json ∷ []) ≡ numbered n a.json ++ (r.json ++ row_member own) ∷ []
    own_row = numbered_more n m a.json r.json a.count ∙ ap (λ (k : ℕ). numbered n a.json ++ (r.json ++ row_member k) ∷ []) (sym is)

    texts : (before : List (List ℕ)) → (before ++ map ended (numbered n a.json)) ++ ended (r.json ++ row_member own) ∷ [] ≡ before ++ map ended (numbered n (a.json ++ r.json ∷ []))
    texts before =
        append_assoc before (map ended (numbered n a.json)) (ended (r.json ++ row_member own) ∷ [])
        ∙ ap (λ (l : List (List ℕ)). before ++ l) (sym (map-append ended (numbered n a.json) ((r.json ++ row_member own) ∷ [])) ∙ ap (λ (l : List (List ℕ)). map ended l) (sym own_row))

-- all rows were added
pub numbered_all : (t : List ColumnView) (shapes : List ImageShape) (old new : TextList) (bytes rest : List ℕ) (n m : ℕ) → length rest ≡ 0 → AddsNumbered t shapes old bytes n rest m new → AddsAllRows t shapes bytes (Some n) old new
numbered_all t shapes old new bytes rest n m none a =
    record { json = a.json; are = all_read t shapes bytes rest a.json none (a.reads bytes [] (none_read_yet t shapes bytes)); adds = a.adds }

-- without numbers
pub plain_all : (t : List ColumnView) (shapes : List ImageShape) (old new : TextList) (bytes : List ℕ) → AddsAllRead t shapes bytes old new → AddsAllRows t shapes bytes None old new
plain_all t shapes old new bytes a = record { json = a.json; are = a.are; adds = a.adds }
