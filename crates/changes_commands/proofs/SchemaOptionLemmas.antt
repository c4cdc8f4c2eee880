-- A text that is split at the last of these characters, and files that are added.
use Rattle.std.proofs.Common.{◌≡◌, ℕ, zero, suc, ◌+◌, ◌-◌, ◌<◌, ◌≤◌, Bool, true, false, ◌&&◌, ◌||◌, List, [], ◌∷◌, ◌++◌, map, length, get_or, take, drop, Some, None, MatchOption, refl, sym, ap, subst, ⊎_elim, ◌∙◌, arith, Bor, eq-eqb, ne_eqb, length-drop, get_or-drop, append_assoc, take-append-drop, take_all}
use Rattle.std.specs.Prelude.{Option, option_map, not, if◌then◌else◌}
use Rattle.std.specs.List.{list_any}
use Rattle.std.specs.Path.{rfind_below, rsplit_once}
use Rattle.std.specs.Str.Pattern.{RFindsChar}
use Rattle.std.proofs.lemmas.Bool.{and_parts, cases_eq, cond-true, cond-false}
use Rattle.std.proofs.lemmas.List.{drop_more, get_or-map, length-map, map-append, take_more}
use Rattle.std.proofs.lemmas.List.Folds.{list_any-append}
use Rattle.std.proofs.lemmas.Str.{len_utf8_ascii}
use Rattle.std.proofs.lemmas.Str.Pattern.{NoCharPasses-char}
use Rattle.changes_commands.specs.SchemaOptions.{AddsFiles, AreFiles, File, HasPlace, IsFileOf, file_view, is_placed, texts}
use Rattle.changes_commands.specs.declared.schema_options.SchemaFile.{SchemaFile}
use Rattle.changes_commands.specs.declared.time_zone.Zone.{Zone}

-- ---- a text that is split

last_none : (c : ℕ) (text : List ℕ) (n : ℕ) → ((i : ℕ) → i < n → get_or text i 0 ≡ c → ⊥) → rfind_below c text n ≡ None
last_none c text zero h = refl
last_none c text (suc n) h = cond-false _ _ _ (ne_eqb _ c (h n (omega arith))) ∙ last_none c text n (λ i l. h i (omega arith))

last_some : (c : ℕ) (text : List ℕ) (k n : ℕ) → k < n → get_or text k 0 ≡ c → ((i : ℕ) → k < i → i < n → get_or text i 0 ≡ c → ⊥) → rfind_below c text n ≡ Some k
last_some c text k zero l at h = absurd (omega arith)
last_some c text k (suc n) l at h =
    ⊎_elim
    (λ e. cond-true _ _ _ (eq-eqb _ c (ap (λ j. get_or text j 0) (sym e) ∙ at)) ∙ ap (λ j. Some j) (sym e))
    (λ other. cond-false _ _ _ (ne_eqb _ c (h n (omega arith) (omega arith))) ∙ last_some c text k n (omega arith) at (λ i a b. h i a (omega arith)))
    (cases_eq k n)

-- takes the clause of `rsplit_once`
pub split_is : (c : ℕ) (text : List ℕ) (r : Option (Bor (List ℕ) × Bor (List ℕ)))
    → MatchOption r (RFindsChar c text None) (λ x. (i : ℕ) × (j : ℕ) × RFindsChar c text (Some (i, j)) × (x.0.now ≡ take i text) × (x.1.now ≡ drop j text) × (i ≤ j) × (length x.0.now ≡ i) × (length x.1.now + j ≡ length text))
    → c < 128 → option_map (λ x. (x.0.now, x.1.now)) r ≡ rsplit_once c text
unfolding rsplit_once
split_is c text None h low =
    sym (ap (option_map (λ i. (take i text, drop (i + 1) text))) (last_none c text (length text) (λ i. NoCharPasses-char c text i h low)))
split_is c text (Some x) h low =
    let i = h.0 in
    let j = h.1 in
    let next : j ≡ i + 1 = omega (arith, h.2.1.ends, len_utf8_ascii c low) in
    let later : (k : ℕ) → i < k → k < length text → get_or text k 0 ≡ c → ⊥ = λ k a l e.
    let back : j + (k - j) ≡ k = omega arith in
    NoCharPasses-char c (drop j text) (k - j) h.2.0 low (omega (arith, length-drop j text)) (get_or-drop j text (k - j) 0 ∙ ap (λ n. get_or text n 0) back ∙ e) in
    let found = last_some c text i (length text) (omega (arith, h.7)) (h.2.1.byte low) later in
    let second = h.4 ∙ ap (λ n. drop n text) next in
    (λ t. Some (h.3 t, second t)) ∙ sym (ap (option_map (λ k. (take k text, drop (k + 1) text))) found)

-- ---- files that are added

files_more : {zone : Zone} {words : List (List ℕ)} {files : List File} (word : List ℕ) (f : File) → AreFiles zone words files → IsFileOf zone word f → AreFiles zone (words ++ word ∷ []) (files ++ f ∷ [])
files_more word f AreFiles.no_files is = AreFiles.next_file word f [] [] is AreFiles.no_files
files_more word f (AreFiles.next_file first g words files first_is more) is = AreFiles.next_file first g (words ++ word ∷ []) (files ++ f ∷ []) first_is (files_more word f more is)

unplaced : (is_answer placed : Bool) → is_answer ≡ true → (is_answer && placed) ≡ false → placed ≡ false
unplaced true placed e h = h
unplaced false placed e h = absurd (let same = e in cc)

none_placed : (before placed : Bool) → before ≡ false → placed ≡ false → (before || (placed || false)) ≡ false
none_placed before placed b p = rw (b, p) refl

one_more : (zone : Zone) (is_answer : Bool) (words : List (List ℕ)) (old new : List File) (word : List ℕ) (f : File) → AddsFiles zone is_answer words old new → IsFileOf zone word f → (is_answer && is_placed f) ≡ false
    → AddsFiles zone is_answer (words ++ word ∷ []) old (new ++ f ∷ [])
one_more zone is_answer words old new word f h is allowed = record {
  added = h.added ++ f ∷ [];
  are = files_more word f h.are is;
  after = ap (λ (l : List File). l ++ f ∷ []) h.after ∙ append_assoc old h.added (f ∷ []);
  places = λ e. list_any-append is_placed h.added (f ∷ []) ∙ none_placed (list_any is_placed h.added) (is_placed f) (h.places e) (unplaced is_answer (is_placed f) e allowed);
}

text_at : (words : List (Bor (List ℕ))) (i : ℕ) (d : Bor (List ℕ)) → i < length words → get_or (texts words) i [] ≡ (get_or words i d).now
text_at words i d lt = get_or-map (λ (w : Bor (List ℕ)). w.now) words i d [] lt

in_texts : (words : List (Bor (List ℕ))) (i : ℕ) → i < length words → i < length (texts words)
in_texts words i lt = omega (arith, lt, length-map words (λ (w : Bor (List ℕ)). w.now))

pub pushed : (ok err : Bool) (old new : List SchemaFile) (f : SchemaFile) → new ≡ (if ok then old ++ f ∷ [] else old) → ok ≡ not err → err ≡ false → new ≡ old ++ f ∷ []
pushed ok err old new f is ok_is e = is ∙ rw (ok_is, e) refl

-- the word with this index names a file that was pushed
pub adds_more : (zone : Zone) (is_answer : Bool) (words : List (Bor (List ℕ))) (i : ℕ) (d : Bor (List ℕ)) (old files more : List SchemaFile) (f : SchemaFile) → i < length words
    → AddsFiles zone is_answer (take i (texts words)) (map file_view old) (map file_view files) → IsFileOf zone (get_or words i d).now (file_view f) → (is_answer && is_placed (file_view f)) ≡ false → more ≡ files ++ f ∷ []
    → AddsFiles zone is_answer (take (i + 1) (texts words)) (map file_view old) (map file_view more)
adds_more zone is_answer words i d old files more f lt h is allowed pushed =
    let first = take i (texts words) in
    let longer : take (i + 1) (texts words) ≡ first ++ (get_or words i d).now ∷ [] = take_more (texts words) i [] (in_texts words i lt) ∙ ap (λ (t : List ℕ). first ++ t ∷ []) (text_at words i d lt) in
    let appended : map file_view more ≡ map file_view files ++ file_view f ∷ [] = ap (map file_view) pushed ∙ map-append file_view files (f ∷ []) in
    subst (λ (t : List (List ℕ)). AddsFiles zone is_answer t (map file_view old) (map file_view more)) (sym longer)
    (subst (λ (fs : List File). AddsFiles zone is_answer (first ++ (get_or words i d).now ∷ []) (map file_view old) fs) (sym appended)
    (one_more zone is_answer first (map file_view old) (map file_view files) (get_or words i d).now (file_view f) h is allowed))

pub adds_all : (zone : Zone) (is_answer : Bool) (words : List (Bor (List ℕ))) (i : ℕ) (old new : List File) → length words ≤ i → AddsFiles zone is_answer (take i (texts words)) old new → AddsFiles zone is_answer (texts words) old new
adds_all zone is_answer words i old new all h =
    subst (λ (t : List (List ℕ)). AddsFiles zone is_answer t old new) (take_all i (texts words) (omega (arith, all, length-map words (λ (w : Bor (List ℕ)). w.now)))) h

-- the word with this index names a file that can't be used
pub unusable : (zone : Zone) (is_answer : Bool) (words : List (Bor (List ℕ))) (i : ℕ) (d : Bor (List ℕ)) (f : SchemaFile) → i < length words → IsFileOf zone (get_or words i d).now (file_view f) → (is_answer && is_placed (file_view f)) ≡ true
    → (is_answer ≡ true) × HasPlace zone (texts words)
unusable zone is_answer words i d f lt is refused =
    let both = and_parts is_answer (is_placed (file_view f)) refused in (
      both.0,
      record {
        before = take i (texts words);
        word = (get_or words i d).now;
        after = drop (i + 1) (texts words);
        among = sym (take-append-drop i (texts words)) ∙ ap (λ (l : List (List ℕ)). take i (texts words) ++ l) (drop_more (texts words) i [] (in_texts words i lt) ∙ ap (λ (t : List ℕ). t ∷ drop (i + 1) (texts words)) (text_at words i d lt));
        file = file_view f;
        is = is;
        placed = both.1;
      },
    )
