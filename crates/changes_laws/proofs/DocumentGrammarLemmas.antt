-- The JSON of documents and of partial updates is JSON of RFC 8259.
use Rattle.std.proofs.Common.{◌≡◌, ℕ, suc, ◌+◌, ◌<◌, ◌^◌, Bool, true, false, not, ◌&&◌, eqb, T, List, [], ◌∷◌, ◌++◌, length, map, drop, refl, sym, ap, ◌∙◌, subst, append_assoc}
use Rattle.std.specs.Prelude.{◌≢◌, IsUtf8, codes, if◌then◌else◌}
use Rattle.std.specs.List.{join_with_byte, prefix_len}
use Rattle.std.specs.Fmt.{decimal}
use Rattle.std.specs.Str.{bytes_eq}
use Rattle.std.proofs.lemmas.Str.{IsUtf8-append}
use Rattle.std.proofs.lemmas.Slice.Eq.{bytes_eq-Decides}
use Rattle.std.proofs.lemmas.Bool.{false≢true}
use Rattle.std.proofs.lemmas.List.{get_or-drop}
use Rattle.feed_writers.specs.TimesOfDay.{clock_text, day_text}
use Rattle.rows_values.specs.declared.times.mysql_time.MysqlTime.{MysqlTime}
use Rattle.rows_values.specs.declared.times.mysql_time.MysqlTimestampType.{MysqlTimestampType}
use Rattle.rows_values.specs.declared.times.mysql_time.MysqlTimestampType.TheVariants.{MYSQL_TIMESTAMP_NONE, MYSQL_TIMESTAMP_ERROR, MYSQL_TIMESTAMP_DATE, MYSQL_TIMESTAMP_DATETIME, MYSQL_TIMESTAMP_TIME, MYSQL_TIMESTAMP_DATETIME_TZ}
use Rattle.rows_values.specs.Decimals.{DecimalParts}
use Rattle.rows_values.specs.Digits.{AreDigits}
use Rattle.rows_values.specs.PrintedDecimals.{decimal_text, fraction_text, glyphs, sign_text, significant, whole_text}
use Rattle.rows_jsonb.specs.JsonTrees as tree
use Rattle.rows_jsonb.specs.JsonTrees.{Tree, scalar, array, object, Items, no_items, item}
use Rattle.feed_text.specs.DocumentForms.{IsDocumentIn, AreItemsIn, AreMembersIn, IsScalarIn}
use Rattle.feed_text.specs.JsonText.{temporal_text, day_of, clock_of}
use Rattle.changes_writers.specs.JsonStrings.{json_string}
use Rattle.changes_writers.specs.Base64Texts.{base64_string}
use Rattle.changes_cells.specs.JsonDocuments.{json_form, escaped_key, is_reserved, opaque_json, time_start}
use Rattle.changes_cells.proofs.KeyLemmas.{same_keys}
use Rattle.changes_laws.specs.JsonGrammar.{Members, no_members, member}
use Rattle.changes_laws.specs.JsonNames.{names_of, IsOther, AreDistinct}
use Rattle.changes_laws.proofs.StringGrammarLemmas.{all_ascii, utf8_known}
use Rattle.changes_laws.proofs.WrittenJson.{IsJson, AllJson, HasMembers, HasMoreMembers, after_commas, joined_after, joined_array, null_json, boolean_json, string_json, first_member, next_member, next_members, no_member, no_more_members, object_json}
use Rattle.changes_laws.proofs.NumberGrammarLemmas.{decimal_json, signed_json}
use Rattle.changes_laws.proofs.PlainGrammarLemmas.{Plain, digit_plain, plain_append, quoted_json, day_plain, clock_text_plain, base64_string_json, float_json}
use Rattle.changes_laws.proofs.SoundTrees.{IsSoundScalar, IsSoundTree, AreSoundItems, AreSoundMembers, AreAscending, IsBelow, keys_of, different}

-- ---- names that are known
abbrev is_other : List ℕ → List (List ℕ) → Bool
is_other name [] = true
is_other name (n ∷ ns) = not (bytes_eq n name) && is_other name ns

abbrev pub are_distinct : List (List ℕ) → Bool
are_distinct [] = true
are_distinct (n ∷ ns) = is_other n ns && are_distinct ns

both : (a b : Bool) → T (a && b) → T a × T b
both true b h = (tt, h)
both false b h = absurd h

not_same : (a b : List ℕ) → T (not (bytes_eq a b)) → a ≢ b
not_same a b h = λ e. go (bytes_eq a b) refl ((bytes_eq-Decides a b).1 e) h
  where
    go : (x : Bool) → bytes_eq a b ≡ x → bytes_eq a b ≡ true → T (not x) → ⊥
    go true p q n = n
    go false p q n = false≢true (sym p ∙ q)

other_known : (name : List ℕ) (ns : List (List ℕ)) → T (is_other name ns) → IsOther name ns
other_known name [] h = tt
other_known name (n ∷ ns) h = let p = both (not (bytes_eq n name)) (is_other name ns) h in (not_same n name p.0, other_known name ns p.1)

pub distinct_known : (ns : List (List ℕ)) → T (are_distinct ns) → AreDistinct ns
distinct_known [] h = tt
distinct_known (n ∷ ns) h = let p = both (is_other n ns) (are_distinct ns) h in (other_known n ns p.0, distinct_known ns p.1)

-- ---- decimals
glyphs_plain : (ds : List ℕ) → AreDigits ds → Plain (glyphs ds)
glyphs_plain [] h = tt
glyphs_plain (d ∷ ds) h = (digit_plain d (h 0), glyphs_plain ds (λ k. h (suc k)))

drop_digits : (n : ℕ) (ds : List ℕ) → AreDigits ds → AreDigits (drop n ds)
drop_digits n ds h k = subst (λ (b : ℕ). b < 10) (sym (get_or-drop n ds k 0)) (h (n + k))

whole_plain : (ds : List ℕ) → AreDigits ds → Plain (whole_text ds)
whole_plain ds h = go (eqb (length (significant ds)) 0)
  where
    go : (b : Bool) → Plain (if b then 48 ∷ [] else glyphs (significant ds))
    go true = (refl, tt)
    go false = glyphs_plain (significant ds) (drop_digits (prefix_len (λ d. eqb d 0) ds) ds h)

fraction_plain : (ds : List ℕ) → AreDigits ds → Plain (fraction_text ds)
fraction_plain ds h = go (eqb (length ds) 0)
  where
    go : (b : Bool) → Plain (if b then [] else 46 ∷ glyphs ds)
    go true = tt
    go false = (refl, glyphs_plain ds h)

minus_plain : (b : Bool) → Plain (if b then 45 ∷ [] else [])
minus_plain true = (refl, tt)
minus_plain false = tt

pub decimal_text_plain : (v : DecimalParts) → AreDigits v.before → AreDigits v.after → Plain (decimal_text v)
decimal_text_plain v h g =
    plain_append (sign_text v.negative) (whole_text v.before ++ fraction_text v.after) (minus_plain v.negative)
    (plain_append (whole_text v.before) (fraction_text v.after) (whole_plain v.before h) (fraction_plain v.after g))

-- ---- scalars
one_quoted : (P : Type 0) (name text : List ℕ) → T (all_ascii name) → Plain text → IsJson P (123 ∷ ((json_string name ++ 58 ∷ (34 ∷ text ++ 34 ∷ [])) ++ []) ++ 125 ∷ [])
one_quoted P name text h p =
    let j = quoted_json P text p in
    object_json P (member name j.value no_members) _ (first_member P name (34 ∷ text ++ 34 ∷ []) [] no_members (utf8_known name h) j (no_more_members P)) (λ q. (tt, tt))

decimal_object : (P : Type 0) (d : DecimalParts) → AreDigits d.before → AreDigits d.after → IsJson P (codes "{\"$decimal\":\"" ++ (decimal_text d ++ codes "\"}"))
unfolding json_string
decimal_object P d h g = subst (IsJson P) (simp append_assoc) (one_quoted P (codes "$decimal") (decimal_text d) tt (decimal_text_plain d h g))

day_and_clock : (t : MysqlTime) → Plain (day_text (day_of t) ++ 32 ∷ clock_text (clock_of t))
day_and_clock t = plain_append (day_text (day_of t)) (32 ∷ clock_text (clock_of t)) (day_plain (day_of t)) (refl, clock_text_plain (clock_of t))

temporal_plain : (t : MysqlTime) → Plain (temporal_text t)
unfolding temporal_text
temporal_plain t = go t.time_type
  where
    go : (k : MysqlTimestampType) → Plain (elim k [
      | MYSQL_TIMESTAMP_NONE ↦ day_text (day_of t) ++ 32 ∷ clock_text (clock_of t)
      | MYSQL_TIMESTAMP_ERROR ↦ day_text (day_of t) ++ 32 ∷ clock_text (clock_of t)
      | MYSQL_TIMESTAMP_DATE ↦ day_text (day_of t)
      | MYSQL_TIMESTAMP_DATETIME ↦ day_text (day_of t) ++ 32 ∷ clock_text (clock_of t)
      | MYSQL_TIMESTAMP_TIME ↦ sign_text t.neg ++ clock_text (clock_of t)
      | MYSQL_TIMESTAMP_DATETIME_TZ ↦ day_text (day_of t) ++ 32 ∷ clock_text (clock_of t)
    ])
    go MYSQL_TIMESTAMP_NONE = day_and_clock t
    go MYSQL_TIMESTAMP_ERROR = day_and_clock t
    go MYSQL_TIMESTAMP_DATE = day_plain (day_of t)
    go MYSQL_TIMESTAMP_DATETIME = day_and_clock t
    go MYSQL_TIMESTAMP_TIME = plain_append (sign_text t.neg) (clock_text (clock_of t)) (minus_plain t.neg) (clock_text_plain (clock_of t))
    go MYSQL_TIMESTAMP_DATETIME_TZ = day_and_clock t

time_with : (P : Type 0) (name text : List ℕ) → T (all_ascii name) → Plain text → IsJson P (123 ∷ (json_string name ++ (58 ∷ 34 ∷ []) ++ (text ++ codes "\"}")))
time_with P name text h p = subst (IsJson P) (simp append_assoc) (one_quoted P name text h p)

time_object : (P : Type 0) (t : MysqlTimestampType) (text : List ℕ) → Plain text → IsJson P (time_start t ++ (text ++ codes "\"}"))
unfolding json_string
time_object P MYSQL_TIMESTAMP_NONE text p = time_with P (codes "$datetime") text tt p
time_object P MYSQL_TIMESTAMP_ERROR text p = time_with P (codes "$datetime") text tt p
time_object P MYSQL_TIMESTAMP_DATE text p = time_with P (codes "$date") text tt p
time_object P MYSQL_TIMESTAMP_DATETIME text p = time_with P (codes "$datetime") text tt p
time_object P MYSQL_TIMESTAMP_TIME text p = time_with P (codes "$time") text tt p
time_object P MYSQL_TIMESTAMP_DATETIME_TZ text p = time_with P (codes "$datetime") text tt p

pub one_member : (P : Type 0) (k x : List ℕ) → T (all_ascii k) → IsJson P x → IsJson P (123 ∷ (json_string k ++ 58 ∷ (x ++ 125 ∷ [])))
one_member P k x ka j = subst (IsJson P) (simp append_assoc) (object_json P (member k j.value no_members) _ (first_member P k x [] no_members (utf8_known k ka) j (no_more_members P)) (λ q. (tt, tt)))

pub two_members : (P : Type 0) (k l x y : List ℕ) → T (all_ascii k) → T (all_ascii l) → T (are_distinct (k ∷ l ∷ [])) → IsJson P x → IsJson P y
    → IsJson P (123 ∷ (json_string k ++ 58 ∷ (x ++ 44 ∷ (json_string l ++ 58 ∷ (y ++ 125 ∷ [])))))
two_members P k l x y ka la d j m =
    let second = next_member P l y [] no_members (utf8_known l la) m (no_more_members P) in
    let all = first_member P k x (44 ∷ ((json_string l ++ 58 ∷ y) ++ [])) (member l m.value no_members) (utf8_known k ka) j second in
    subst (IsJson P) (simp append_assoc) (object_json P (member k j.value (member l m.value no_members)) _ all (λ q. distinct_known (k ∷ l ∷ []) d))

opaque_object : (P : Type 0) (number : ℕ) (bytes : List ℕ) → number < 10 ^ 64 → IsJson P (opaque_json number bytes)
unfolding json_string
opaque_object P number bytes h = two_members P (codes "$type") (codes "base64") (decimal number) (base64_string bytes) tt tt tt (decimal_json P number h) (base64_string_json P bytes)

scalar_json : (P : Type 0) (s : tree.Scalar) (x : List ℕ) → IsSoundScalar s → IsScalarIn json_form s x → IsJson P x
unfolding IsScalarIn
scalar_json P tree.null x h e = subst (IsJson P) (sym e) (null_json P)
scalar_json P (tree.boolean b) x h e = subst (IsJson P) (sym e) (boolean_json P b)
scalar_json P (tree.int z) x h e = subst (IsJson P) (sym e) (signed_json P z h)
scalar_json P (tree.uint n) x h e = subst (IsJson P) (sym e) (decimal_json P n h)
scalar_json P (tree.double bits) x h e = float_json P _ _ _ _ x e
scalar_json P (tree.decimal d) x h e = subst (IsJson P) (sym e) (decimal_object P d h.0 h.1)
scalar_json P (tree.string s) x h e = subst (IsJson P) (sym e) (string_json P s h)
scalar_json P (tree.time t) x h e = subst (IsJson P) (sym e) (time_object P t.time_type (temporal_text t) (temporal_plain t))
scalar_json P (tree.opaque number bytes) x h e = subst (IsJson P) (sym e) (opaque_object P number bytes h.0)

-- ---- keys
dollar_utf8 : (k : List ℕ) → IsUtf8 k → IsUtf8 (36 ∷ k)
dollar_utf8 k h = IsUtf8-append (36 ∷ []) k (utf8_known (36 ∷ []) tt) h

key_utf8 : (k : List ℕ) → IsUtf8 k → IsUtf8 (escaped_key k)
key_utf8 k h = go (is_reserved k)
  where
    go : (b : Bool) → IsUtf8 (if b then 36 ∷ k else k)
    go true = dollar_utf8 k h
    go false = h

other_keys : (k : List ℕ) (ls : List (List ℕ)) → IsBelow k ls → IsOther (escaped_key k) (map escaped_key ls)
other_keys k [] b = tt
other_keys k (l ∷ ls) b = (λ e. different k l b.0 (same_keys l k e), other_keys k ls b.1)

distinct_keys : (ks : List (List ℕ)) → AreAscending ks → AreDistinct (map escaped_key ks)
distinct_keys [] a = tt
distinct_keys (k ∷ ks) a = (other_keys k ks a.0, distinct_keys ks a.1)

-- the members of a document
record WrittenMembers (P : Type 0) (ms : tree.Members) (texts : List (List ℕ)) : Type 0 where
  members : Members
  has : HasMembers P members (join_with_byte 44 texts)
  more : HasMoreMembers P members (after_commas texts)
  names : names_of members ≡ map escaped_key (keys_of ms)

no_written : (P : Type 0) (xs : List (List ℕ)) → xs ≡ [] → WrittenMembers P tree.no_members xs
no_written P xs e = subst (WrittenMembers P tree.no_members) (sym e) (record { members = no_members; has = no_member P; more = no_more_members P; names = refl })

next_written : (P : Type 0) (k v x : List ℕ) (xs : List (List ℕ)) (t : Tree) (ms : tree.Members) → IsUtf8 k → IsJson P v → x ≡ json_string (escaped_key k) ++ (codes ":" ++ v) → WrittenMembers P ms xs → WrittenMembers P (tree.member k t ms) (x ∷ xs)
next_written P k v x xs t ms h j e w =
    let one : HasMembers P (member (escaped_key k) j.value w.members) ((json_string (escaped_key k) ++ 58 ∷ v) ++ after_commas xs) = first_member P (escaped_key k) v (after_commas xs) w.members (key_utf8 k h) j w.more in
    let first : HasMembers P (member (escaped_key k) j.value w.members) (x ++ after_commas xs) = subst (λ (y : List ℕ). HasMembers P (member (escaped_key k) j.value w.members) (y ++ after_commas xs)) (sym e) one in
    record {
      members = member (escaped_key k) j.value w.members;
      has = subst (HasMembers P (member (escaped_key k) j.value w.members)) (sym (joined_after x xs)) first;
      more = next_members P (escaped_key k) (x ++ after_commas xs) j.value w.members first;
      names = ap (λ (ns : List (List ℕ)). escaped_key k ∷ ns) w.names;
    }

written_object : (P : Type 0) (ms : tree.Members) (xs : List (List ℕ)) (x : List ℕ) → AreAscending (keys_of ms) → x ≡ codes "{" ++ (join_with_byte 44 xs ++ codes "}") → WrittenMembers P ms xs → IsJson P x
written_object P ms xs x a e w =
    subst (IsJson P) (sym e) (object_json P w.members (join_with_byte 44 xs) w.has (λ p. subst AreDistinct (sym w.names) (distinct_keys (keys_of ms) a)))

mutual
  unfolding IsDocumentIn AreItemsIn AreMembersIn IsSoundTree AreSoundItems AreSoundMembers

  pub document_json : (P : Type 0) (t : Tree) (x : List ℕ) → IsSoundTree t → IsDocumentIn json_form t x → IsJson P x
  document_json P (scalar s) x h d = scalar_json P s x h d
  document_json P (array is) x h d = subst (IsJson P) (sym d.2) (joined_array P d.0 (items_json P is d.0 h d.1))
  document_json P (object ms) x h d = written_object P ms d.0 x h.1 d.2 (members_json P ms d.0 h.0 d.1)

  items_json : (P : Type 0) (is : Items) (xs : List (List ℕ)) → AreSoundItems is → AreItemsIn json_form is xs → AllJson P xs
  items_json P no_items xs h d = subst (AllJson P) (sym d) tt
  items_json P (item t ts) [] h d = absurd d
  items_json P (item t ts) (x ∷ xs) h d = (document_json P t x h.0 d.0, items_json P ts xs h.1 d.1)

  members_json : (P : Type 0) (ms : tree.Members) (xs : List (List ℕ)) → AreSoundMembers ms → AreMembersIn json_form ms xs → WrittenMembers P ms xs
  members_json P tree.no_members xs h d = no_written P xs d
  members_json P (tree.member k t ms) [] h d = absurd d
  members_json P (tree.member k t ms) (x ∷ xs) h d = next_written P k (d.0).0 x xs t ms h.0 (document_json P t (d.0).0 h.1 (d.0).1) (d.0).2 (members_json P ms xs h.2 d.1)
