-- The primary key's names, each after a comma but the first.
use Rattle.std.proofs.Common.{◌≡◌, ℕ, List, [], ◌∷◌, ◌++◌, map, ap, sym, ◌∙◌, append_assoc, append-nil}
use Rattle.std.specs.Prelude.{unwrap_or, codes}
use Rattle.std.specs.List.{flat_map, join_with_byte, slice_get}
use Rattle.changes_writers.specs.JsonStrings.{json_string}
use Rattle.changes_tables.specs.PrimaryKeys.{name_json, key_member}

joined : (g : ℕ → List ℕ) (c : ℕ) (cs : List ℕ) → join_with_byte 44 (map g (c ∷ cs)) ≡ g c ++ flat_map (λ (i : ℕ). 44 ∷ g i) cs
joined g c [] = sym (append-nil (g c))
joined g c (d ∷ ds) = ap (λ (t : List ℕ). g c ++ (44 ∷ t)) (joined g d ds)

pub key_written : (names : List (List ℕ)) (columns others : List ℕ) (first : ℕ) (n start one two three : List ℕ) → columns ≡ first ∷ others
    → start ≡ codes "\"primary_key\":[" → n ≡ unwrap_or (slice_get names first) [] → one ≡ start ++ json_string n → two ≡ one ++ flat_map (λ i. 44 ∷ name_json names i) others → three ≡ two ++ 93 ∷ [] → three ≡ key_member names columns
key_written names columns others first n start one two three is is_start is_name is_one is_two is_three =
    is_three ∙ ap (λ (t : List ℕ). t ++ 93 ∷ []) (is_two ∙ ap (λ (t : List ℕ). t ++ flat_map (λ i. 44 ∷ name_json names i) others) (is_one ∙ ap (λ (t : List ℕ). t ++ json_string n) is_start))
    ∙ append_assoc (codes "\"primary_key\":[" ++ json_string n) (flat_map (λ i. 44 ∷ name_json names i) others) (93 ∷ [])
    ∙ append_assoc (codes "\"primary_key\":[") (json_string n) (flat_map (λ i. 44 ∷ name_json names i) others ++ 93 ∷ [])
    ∙ ap (λ (t : List ℕ). codes "\"primary_key\":[" ++ t) (sym (append_assoc (json_string n) (flat_map (λ i. 44 ∷ name_json names i) others) (93 ∷ []))
    ∙ ap (λ (t : List ℕ). t ++ 93 ∷ []) (ap (λ (m : List ℕ). json_string m ++ flat_map (λ i. 44 ∷ name_json names i) others) is_name ∙ sym (joined (name_json names) first others)))
    ∙ ap (key_member names) (sym is)
