-- The newest table, and one more table.
use Rattle.std.proofs.Common.{◌≡◌, ◌∙◌, ℕ, inl, inr, Bool, false, List, [], ◌∷◌, ◌++◌, length, Option, Some, None, refl, sym, ap, subst}
use Rattle.std.specs.Prelude.{IsTrue, ◌↔◌, IsSomeAnd, All, option_map}
use Rattle.std.specs.List.{slice_get}
use Rattle.std.specs.Str.{bytes_eq}
use Rattle.std.proofs.lemmas.Slice.Eq.{bytes_eq-Decides}
use Rattle.std.proofs.lemmas.Bool.{false≢true}
use Rattle.std.proofs.lemmas.List.Elements.{All-push, All-get_or}
use Rattle.std.proofs.lemmas.Option.{slice_get_cases}
use Rattle.rows_table_map.specs.TableMaps.{TableMap}
use Rattle.changes_tables.specs.declared.columns.TableOptions.{TableOptions}
use Rattle.changes_tables.specs.declared.shown_tables.KeptTable.{KeptTable}
use Rattle.changes_tables.specs.ShownTables.{IsShownTable}
use Rattle.changes_tables.specs.TablesSoFar.{IsKept}

-- the bytes of the newest table are compared with these bytes
pub newest_iff : (o : Option KeptTable) (k : KeptTable) (r : Bool) (bytes : List ℕ) → o ≡ Some k → r ≡ bytes_eq k.map.items bytes → (IsTrue r ↔ IsSomeAnd o (λ t. t.map.items ≡ bytes))
newest_iff o k r bytes e d = rw (e, d) (bytes_eq-Decides k.map.items bytes)

-- there is no newest table
pub no_newest : (o : Option KeptTable) (bytes : List ℕ) → o ≡ None → (IsTrue false ↔ IsSomeAnd o (λ t. t.map.items ≡ bytes))
no_newest o bytes e = rw e ((λ is. absurd (false≢true is)), (λ is. absurd is))

last_got : (xs : List KeptTable) (x : KeptTable) → slice_get (xs ++ x ∷ []) (length xs) ≡ Some x
last_got [] x = refl
last_got (y ∷ xs) x = last_got xs x

-- the table that was added last
pub added_newest : (ts us : List KeptTable) (t : KeptTable) (i : ℕ) (bytes : List ℕ) → us ≡ ts ++ t ∷ [] → i ≡ length ts → t.map.items ≡ bytes → IsSomeAnd (slice_get us i) (λ k. k.map.items ≡ bytes)
added_newest ts us t i bytes is_us is_i is_bytes = rw (is_us, is_i, last_got ts t) is_bytes

-- the table that was added last is as it should be
pub added_shown : (o p : TableOptions) (ts us : List KeptTable) (t : KeptTable) (i : ℕ) (m : TableMap) → us ≡ ts ++ t ∷ [] → i ≡ length ts → p ≡ o → IsShownTable o m t.table → IsSomeAnd (option_map (λ k. k.table) (slice_get us i)) (IsShownTable p m)
added_shown o p ts us t i m is_us is_i is_o shown = rw (is_us, is_i, last_got ts t, is_o) shown

-- one more table
pub kept_more : (o p : TableOptions) (reads : List ℕ → Option TableMap) (ts us : List KeptTable) (t : KeptTable) (m : TableMap) → All (IsKept p reads) ts → us ≡ ts ++ t ∷ [] → p ≡ o → ((n : TableMap) → reads t.map.items ≡ Some n → n ≡ m) → IsShownTable o m t.table → All (IsKept p reads) us
kept_more o p reads ts us t m so_far is_us is_o is_m shown =
    subst (λ (ks : List KeptTable). All (IsKept p reads) ks) (sym is_us)
    (All-push (IsKept p reads) ts t so_far (λ n is. subst (λ (q : TableOptions). IsShownTable q n t.table) (sym is_o) (subst (λ (k : TableMap). IsShownTable o k t.table) (sym (is_m n is)) shown)))

-- ---- the newest table

at_index : (P : KeptTable → Type 0) (xs : List KeptTable) (i : ℕ) (x : KeptTable) → All P xs → slice_get xs i ≡ Some x → P x
at_index P xs i x h e = elim (slice_get_cases xs i).1 [
  | inl s ↦ subst P (let same : s.0 ≡ x = (let both = sym s.2 ∙ e in cc) in s.3 ∙ same) (All-get_or P xs i s.0 s.1 h)
  | inr n ↦ absurd (let both = sym n.1 ∙ e in cc)
]

-- it is that of its table map
pub newest_shown : (o : TableOptions) (reads : List ℕ → Option TableMap) (xs : List KeptTable) (i : ℕ) (k : KeptTable) (bytes : List ℕ) (m : TableMap) → slice_get xs i ≡ Some k → All (IsKept o reads) xs → reads bytes ≡ Some m → IsSomeAnd (slice_get xs i) (λ t. t.map.items ≡ bytes) → IsShownTable o m k.table
newest_shown o reads xs i k bytes m got keeps read newest = at_index (IsKept o reads) xs i k keeps got m (ap reads (rw got at newest) ∙ read)

-- there is none
pub none_shown : (xs : List KeptTable) (i : ℕ) (bytes : List ℕ) → slice_get xs i ≡ None → IsSomeAnd (slice_get xs i) (λ t. t.map.items ≡ bytes) → ⊥
none_shown xs i bytes got newest = rw got at newest
