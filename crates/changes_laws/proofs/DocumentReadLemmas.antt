-- Equal JSON of documents comes from the same values.
use Rattle.std.proofs.Common.{◌≡◌, ℕ, suc, ◌+◌, ◌<◌, ◌^◌, Bool, true, false, ◌||◌, cond, eqb, ltb, T, eqb→eq, List, [], ◌∷◌, ◌++◌, length, refl, sym, ap, ◌∙◌, subst, append_assoc, arith}
use Rattle.std.specs.Prelude.{ℤ, pos, negsuc, ◌==◌, IsTrue, codes, slice_index, if◌then◌else◌, from_bits}
use Rattle.std.specs.Fmt.{decimal, sign_text, signed_decimal}
use Rattle.std.specs.Float.{binary64, float_is_finite}
use Rattle.std.specs.Float.Numeral.{exponent_text}
use Rattle.std.specs.List.{join_with_byte, list_any}
use Rattle.std.specs.Char.{digit_value}
use Rattle.std.specs.Str.Parse.{IsNumeral, digits_value}
use Rattle.std.specs.declared.result.Result.TheVariants.{Ok}
use Rattle.std.proofs.lemmas.Bool.{false≢true}
use Rattle.std.proofs.lemmas.Fmt.{decimal_is_IsNumeral_wide}
use Rattle.std.proofs.lemmas.List.{append_cancel_left, append_cancel_right, append-nil}
use Rattle.std.proofs.lemmas.List.Folds.{list_any-append}
use lib.Signed.{mag}
use Rattle.wire_buf.specs.Encoding.{AreBytes}
use Rattle.rows_values.specs.declared.times.mysql_time.MysqlTime.{MysqlTime}
use Rattle.rows_values.specs.declared.times.mysql_time.MysqlTimestampType.{MysqlTimestampType}
use Rattle.rows_values.specs.declared.times.mysql_time.MysqlTimestampType.TheVariants.{MYSQL_TIMESTAMP_NONE, MYSQL_TIMESTAMP_ERROR, MYSQL_TIMESTAMP_DATE, MYSQL_TIMESTAMP_DATETIME, MYSQL_TIMESTAMP_TIME, MYSQL_TIMESTAMP_DATETIME_TZ}
use Rattle.rows_values.specs.PrintedDecimals.{decimal_text}
use Rattle.rows_jsonb.specs.DocumentTrees.{document_tree}
use Rattle.rows_jsonb.specs.JsonTrees as tree
use Rattle.rows_jsonb.specs.JsonTrees.{Tree, scalar, array, object, Items, no_items, item, Members, no_members, member}
use Rattle.feed_text.specs.DocumentForms.{IsDocumentIn, AreItemsIn, AreMembersIn, IsScalarIn}
use Rattle.feed_text.specs.JsonText.{temporal_text}
use Rattle.feed_writers.proofs.PlainLemmas.{upto_sound}
use Rattle.ryu.specs.Plain.{IsPlainNumber}
use Rattle.changes_writers.specs.FloatTexts.{IsDoubleJson}
use Rattle.changes_writers.specs.JsonStrings.{json_string}
use Rattle.changes_writers.specs.JsonNumbers.{IsJsonNumber}
use Rattle.changes_writers.specs.Base64Texts.{base64_string}
use Rattle.changes_writers.proofs.FloatLawLemmas.{float_number, float_read}
use Rattle.changes_writers.proofs.StringLawLemmas.{strings_read, base64_strings_read}
use Rattle.changes_cells.specs.JsonDocuments.{json_form, escaped_key, is_reserved, opaque_json, time_start}
use Rattle.changes_cells.proofs.KeyLemmas.{same_keys}
use Rattle.changes_laws.specs.JsonGrammar.{IsAfterValue}
use Rattle.changes_laws.specs.SameDocuments.{IsSameScalar, equal, signed, unsigned, doubles, decimals, times, IsSameTree, AreSameItems, AreSameMembers, IsFiniteScalar, HasFiniteDoubles, HaveFiniteDoubles, MembersHaveFiniteDoubles}
use Rattle.changes_laws.proofs.WrittenJson.{after_commas, joined_after}
use Rattle.changes_laws.proofs.DateReadLemmas.{Digits, decimal_digits, digits_end, is_digit}
use Rattle.changes_laws.proofs.DocumentGrammarLemmas.{document_json}
use Rattle.changes_laws.proofs.SoundDocumentLemmas.{document_tree_sound}
use Rattle.changes_laws.proofs.SoundTrees.{IsSoundScalar, IsSoundTree, AreSoundItems, AreSoundMembers}
use Rattle.changes_laws.proofs.ValueEnds.{values_end}

abbrev first : List ℕ → ℕ
first [] = 0
first (x ∷ xs) = x

abbrev others : List ℕ → List ℕ
others [] = []
others (x ∷ xs) = xs

-- ---- what a value's first byte shows
abbrev class_by : ℕ → ℕ
class_by b =
    if b == 110 then 0
    else if b == 116 then 1
    else if b == 102 then 1
    else if b == 34 then 4
    else if b == 91 then 5
    else if b == 123 then 6
    else if b == 93 then 7
    else if b == 0 then 8
    else 3

abbrev class : tree.Scalar → ℕ
class tree.null = 0
class (tree.boolean b) = 1
class (tree.int z) = 3
class (tree.uint n) = 3
class (tree.double bits) = 3
class (tree.decimal d) = 6
class (tree.string s) = 4
class (tree.time t) = 6
class (tree.opaque number bytes) = 6

eqb_true : (a b : ℕ) → T (eqb a b) → a ≡ b
eqb_true a b h = eqb→eq a b h

digit_below : (b : ℕ) → digit_value b < 10 → b < 58
digit_below b h = grind arith

digit_class : (b : ℕ) → digit_value b < 10 → class_by b ≡ 3
digit_class b h = go (ltb (digit_value b) 10) refl (upto_sound (λ c. cond (ltb (digit_value c) 10) (eqb (class_by c) 3) true) 58 tt b (digit_below b h))
  where
    go : (t : Bool) → ltb (digit_value b) 10 ≡ t → T (cond t (eqb (class_by b) 3) true) → class_by b ≡ 3
    go true e k = eqb_true (class_by b) 3 k
    go false e k = absurd (let no : ltb (digit_value b) 10 ≡ true = grind arith in false≢true (sym e ∙ no))

numeral_class : (s t : List ℕ) → IsNumeral 10 s → class_by (first (s ++ t)) ≡ 3
numeral_class [] t h = absurd (omega (arith, h.0))
numeral_class (c ∷ s) t h = digit_class c h.1.0

decimal_class : (n : ℕ) → n < 10 ^ 64 → class_by (first (decimal n)) ≡ 3
decimal_class n lt = ap (λ (l : List ℕ). class_by (first l)) (sym (append-nil (decimal n))) ∙ numeral_class (decimal n) [] (decimal_is_IsNumeral_wide n lt).0

signed_class : (z : ℤ) → mag z < 10 ^ 63 → class_by (first (signed_decimal z)) ≡ 3
signed_class (pos n) lt = decimal_class n (omega (arith, lt))
signed_class (negsuc n) lt = refl

number_class : (x : List ℕ) → IsJsonNumber x → class_by (first x) ≡ 3
number_class x n = ap (λ (l : List ℕ). class_by (first l)) n.is ∙ go n.negative
  where
    go : (b : Bool) → class_by (first (sign_text b ++ (n.whole ++ (n.fraction ++ n.exponent)))) ≡ 3
    go true = refl
    go false = numeral_class n.whole (n.fraction ++ n.exponent) n.whole_is

-- dates and times
data Kind : Type 0 where
  a_date : Kind
  a_time : Kind
  a_datetime : Kind

abbrev start : Kind → List ℕ
start a_date = codes "{\"$date\":\""
start a_time = codes "{\"$time\":\""
start a_datetime = codes "{\"$datetime\":\""

abbrev kind_of : MysqlTimestampType → Kind
kind_of MYSQL_TIMESTAMP_NONE = a_datetime
kind_of MYSQL_TIMESTAMP_ERROR = a_datetime
kind_of MYSQL_TIMESTAMP_DATE = a_date
kind_of MYSQL_TIMESTAMP_DATETIME = a_datetime
kind_of MYSQL_TIMESTAMP_TIME = a_time
kind_of MYSQL_TIMESTAMP_DATETIME_TZ = a_datetime

start_is : (t : MysqlTimestampType) → time_start t ≡ start (kind_of t)
start_is MYSQL_TIMESTAMP_NONE = refl
start_is MYSQL_TIMESTAMP_ERROR = refl
start_is MYSQL_TIMESTAMP_DATE = refl
start_is MYSQL_TIMESTAMP_DATETIME = refl
start_is MYSQL_TIMESTAMP_TIME = refl
start_is MYSQL_TIMESTAMP_DATETIME_TZ = refl

start_class : (k : Kind) (rest : List ℕ) → class_by (first (start k ++ rest)) ≡ 6
start_class a_date rest = refl
start_class a_time rest = refl
start_class a_datetime rest = refl

lead : (s : tree.Scalar) (x : List ℕ) → IsSoundScalar s → IsFiniteScalar s → IsScalarIn json_form s x → class_by (first x) ≡ class s
unfolding IsScalarIn json_string
lead tree.null x p g e = ap (λ (l : List ℕ). class_by (first l)) e
lead (tree.boolean b) x p g e = ap (λ (l : List ℕ). class_by (first l)) e ∙ go b
  where
    go : (c : Bool) → class_by (first (if c then codes "true" else codes "false")) ≡ 1
    go true = refl
    go false = refl
lead (tree.int z) x p g e = ap (λ (l : List ℕ). class_by (first l)) e ∙ signed_class z p
lead (tree.uint n) x p g e = ap (λ (l : List ℕ). class_by (first l)) e ∙ decimal_class n p
lead (tree.double bits) x p g e = number_class x (float_number binary64 16 4 (from_bits binary64 bits) x g e)
lead (tree.decimal d) x p g e = ap (λ (l : List ℕ). class_by (first l)) e
lead (tree.string s) x p g e = ap (λ (l : List ℕ). class_by (first l)) e
lead (tree.time t) x p g e =
    ap (λ (l : List ℕ). class_by (first l)) (e ∙ ap (λ (l : List ℕ). l ++ (temporal_text t ++ codes "\"}")) (start_is t.time_type)) ∙ start_class (kind_of t.time_type) (temporal_text t ++ codes "\"}")
lead (tree.opaque number bytes) x p g e = ap (λ (l : List ℕ). class_by (first l)) e

classes_differ : (s t : tree.Scalar) (x : List ℕ) → IsSoundScalar s → IsSoundScalar t → IsFiniteScalar s → IsFiniteScalar t → IsScalarIn json_form s x → IsScalarIn json_form t x → (class s ≡ class t → ⊥) → ⊥
classes_differ s t x p q g h e f differ = differ (sym (lead s x p g e) ∙ lead t x q h f)

-- ---- integers
wide_read : (m n : ℕ) → m < 10 ^ 64 → n < 10 ^ 64 → decimal m ≡ decimal n → m ≡ n
wide_read m n p q e = sym (decimal_is_IsNumeral_wide m p).1 ∙ ap (digits_value 10) e ∙ (decimal_is_IsNumeral_wide n q).1

numeral_first : (s : List ℕ) → IsNumeral 10 s → first s ≡ 45 → ⊥
numeral_first [] h e = absurd (omega (arith, h.0))
numeral_first (c ∷ s) h e = let no : 36 < 10 = subst (λ (k : ℕ). digit_value k < 10) e h.1.0 in absurd (omega (arith, no))

no_minus : (m n : ℕ) → m < 10 ^ 64 → decimal m ≡ 45 ∷ decimal n → ⊥
no_minus m n lt e = numeral_first (decimal m) (decimal_is_IsNumeral_wide m lt).0 (ap first e)

signed_read : (y z : ℤ) → mag y < 10 ^ 63 → mag z < 10 ^ 63 → signed_decimal y ≡ signed_decimal z → y ≡ z
signed_read (pos m) (pos n) p q e = ap pos (wide_read m n (omega (arith, p)) (omega (arith, q)) e)
signed_read (negsuc m) (negsuc n) p q e =
    let same = wide_read (suc m) (suc n) (omega (arith, p)) (omega (arith, q)) (ap others e) in
    let down : m ≡ n = omega (arith, same) in
    ap negsuc down
signed_read (pos m) (negsuc n) p q e = absurd (no_minus m (suc n) (omega (arith, p)) e)
signed_read (negsuc m) (pos n) p q e = absurd (no_minus n (suc m) (omega (arith, q)) (sym e))

signed_unsigned : (z : ℤ) (n : ℕ) → mag z < 10 ^ 63 → n < 10 ^ 64 → signed_decimal z ≡ decimal n → IsSameScalar (tree.int z) (tree.uint n)
signed_unsigned (pos m) n p q e = subst (λ (k : ℕ). IsSameScalar (tree.int (pos m)) (tree.uint k)) (wide_read m n (omega (arith, p)) q e) signed
signed_unsigned (negsuc m) n p q e = absurd (no_minus n (suc m) q (sym e))

unsigned_signed : (n : ℕ) (z : ℤ) → n < 10 ^ 64 → mag z < 10 ^ 63 → decimal n ≡ signed_decimal z → IsSameScalar (tree.uint n) (tree.int z)
unsigned_signed n (pos m) p q e = subst (λ (k : ℕ). IsSameScalar (tree.uint n) (tree.int (pos k))) (wide_read n m p (omega (arith, q)) e) unsigned
unsigned_signed n (negsuc m) p q e = absurd (no_minus n (suc m) p e)

-- ---- a double has a point or an exponent
abbrev is_mark : ℕ → Bool
is_mark b = b == 46 || b == 101

abbrev has_mark : List ℕ → Bool
has_mark x = list_any is_mark x

digit_no_mark : (b : ℕ) → is_digit b ≡ true → is_mark b ≡ false
digit_no_mark b h = grind arith

digits_bare : (x : List ℕ) → Digits x → has_mark x ≡ false
digits_bare [] h = refl
digits_bare (b ∷ x) h = ap (λ (t : Bool). t || has_mark x) (digit_no_mark b h.0) ∙ digits_bare x h.1

bare : (n : ℕ) (x : List ℕ) → x ≡ decimal n → has_mark x ≡ false
bare n x e = ap has_mark e ∙ digits_bare (decimal n) (decimal_digits n)

signed_bare : (z : ℤ) (x : List ℕ) → x ≡ signed_decimal z → has_mark x ≡ false
signed_bare (pos n) x e = bare n x e
signed_bare (negsuc n) x e = ap has_mark e ∙ digits_bare (decimal (suc n)) (decimal_digits (suc n))

or_true : (b : Bool) → (b || true) ≡ true
or_true true = refl
or_true false = refl

mark_right : (a b : List ℕ) → has_mark b ≡ true → has_mark (a ++ b) ≡ true
mark_right a b h = list_any-append is_mark a b ∙ ap (λ (t : Bool). has_mark a || t) h ∙ or_true (has_mark a)

mark_left : (a b : List ℕ) → has_mark a ≡ true → has_mark (a ++ b) ≡ true
mark_left a b h = list_any-append is_mark a b ∙ ap (λ (t : Bool). t || has_mark b) h

exponent_marked : (b : Bool) (s : List ℕ) → 0 < length s → has_mark (exponent_text b s) ≡ true
exponent_marked b [] h = absurd (omega (arith, h))
exponent_marked b (d ∷ ds) h = refl

number_marked : (x : List ℕ) → IsPlainNumber x → has_mark x ≡ true
number_marked x h =
    let p = h.1 in
    ap has_mark h.2 ∙ mark_right (sign_text h.0) _ (mark_right p.whole _ (go p.point refl))
  where
    go : (b : Bool) → (h.1).point ≡ b → has_mark ((if b then 46 ∷ (h.1).fraction else []) ++ exponent_text (h.1).exponent_negative (h.1).exponent) ≡ true
    go true e = refl
    go false e = exponent_marked (h.1).exponent_negative (h.1).exponent (h.3.marked e)

no_double : (bits : ℕ) (x : List ℕ) → IsTrue (float_is_finite (from_bits binary64 bits)) → IsDoubleJson bits x → has_mark x ≡ false → ⊥
no_double bits x g e none = false≢true (sym none ∙ number_marked x (e.number g))

-- ---- the other values
booleans_read : (a b : Bool) → (if a then codes "true" else codes "false") ≡ (if b then codes "true" else codes "false") → a ≡ b
booleans_read true true e = refl
booleans_read false false e = refl
booleans_read true false e = absurd (let no : 116 ≡ 102 = ap first e in omega (arith, no))
booleans_read false true e = absurd (let no : 102 ≡ 116 = ap first e in omega (arith, no))

whole_strings : (a b : List ℕ) → json_string a ≡ json_string b → a ≡ b
whole_strings a b e = (strings_read a b [] [] (append-nil (json_string a) ∙ e ∙ sym (append-nil (json_string b)))).0

starts_read : (k l : Kind) (s t : List ℕ) → start k ++ s ≡ start l ++ t → (k ≡ l) × (s ≡ t)
starts_read a_date a_date s t e = (refl, append_cancel_left (start a_date) s t e)
starts_read a_time a_time s t e = (refl, append_cancel_left (start a_time) s t e)
starts_read a_datetime a_datetime s t e = (refl, append_cancel_left (start a_datetime) s t e)
starts_read a_date a_time s t e = absurd (let no : 97 ≡ 105 = ap (λ (l : List ℕ). slice_index l 4) e in omega (arith, no))
starts_read a_time a_date s t e = absurd (let no : 105 ≡ 97 = ap (λ (l : List ℕ). slice_index l 4) e in omega (arith, no))
starts_read a_datetime a_time s t e = absurd (let no : 97 ≡ 105 = ap (λ (l : List ℕ). slice_index l 4) e in omega (arith, no))
starts_read a_time a_datetime s t e = absurd (let no : 105 ≡ 97 = ap (λ (l : List ℕ). slice_index l 4) e in omega (arith, no))
starts_read a_date a_datetime s t e = absurd (let no : 34 ≡ 116 = ap (λ (l : List ℕ). slice_index l 7) e in omega (arith, no))
starts_read a_datetime a_date s t e = absurd (let no : 116 ≡ 34 = ap (λ (l : List ℕ). slice_index l 7) e in omega (arith, no))

times_read : (a b : MysqlTime) → time_start a.time_type ++ (temporal_text a ++ codes "\"}") ≡ time_start b.time_type ++ (temporal_text b ++ codes "\"}") → IsSameScalar (tree.time a) (tree.time b)
times_read a b e =
    let f = starts_read (kind_of a.time_type) (kind_of b.time_type) (temporal_text a ++ codes "\"}") (temporal_text b ++ codes "\"}")
    (ap (λ (l : List ℕ). l ++ (temporal_text a ++ codes "\"}")) (sym (start_is a.time_type)) ∙ e ∙ ap (λ (l : List ℕ). l ++ (temporal_text b ++ codes "\"}")) (start_is b.time_type)) in
    times (start_is a.time_type ∙ ap start f.0 ∙ sym (start_is b.time_type)) (append_cancel_right (temporal_text a) (temporal_text b) (codes "\"}") f.1)

start_fourth : (k : Kind) (rest : List ℕ) (b : ℕ) → (b ≡ 97 → ⊥) → (b ≡ 105 → ⊥) → b ≡ slice_index (start k ++ rest) 4 → ⊥
start_fourth a_date rest b h g e = h e
start_fourth a_time rest b h g e = g e
start_fourth a_datetime rest b h g e = h e

no_time : (b : ℕ) (x : List ℕ) (t : MysqlTime) → b ≡ slice_index x 4 → (b ≡ 97 → ⊥) → (b ≡ 105 → ⊥) → x ≡ time_start t.time_type ++ (temporal_text t ++ codes "\"}") → ⊥
no_time b x t is h g e =
    start_fourth (kind_of t.time_type) (temporal_text t ++ codes "\"}") b h g
    (is ∙ ap (λ (l : List ℕ). slice_index l 4) (e ∙ ap (λ (l : List ℕ). l ++ (temporal_text t ++ codes "\"}")) (start_is t.time_type)))

opaques_read : (m n : ℕ) (a b : List ℕ) → (m < 10 ^ 64) × AreBytes a → (n < 10 ^ 64) × AreBytes b → opaque_json m a ≡ opaque_json n b → IsSameScalar (tree.opaque m a) (tree.opaque n b)
opaques_read m n a b p q e =
    let type = codes "{\"$type\":" in
    let key = codes ",\"base64\":" in
    let f = digits_end (decimal m) (decimal n) (key ++ (base64_string a ++ codes "}")) (key ++ (base64_string b ++ codes "}")) (decimal_digits m) (decimal_digits n) refl refl (append_cancel_left type _ _ e) in
    let g = base64_strings_read a b (codes "}") (codes "}") p.1 q.1 (append_cancel_left key _ _ f.1) in
    subst (λ (k : ℕ). IsSameScalar (tree.opaque m a) (tree.opaque k b)) (wide_read m n p.0 q.0 f.0) (subst (λ (l : List ℕ). IsSameScalar (tree.opaque m a) (tree.opaque m l)) g.0 equal)

scalars_read : (s t : tree.Scalar) (x : List ℕ) → IsSoundScalar s → IsSoundScalar t → IsFiniteScalar s → IsFiniteScalar t → IsScalarIn json_form s x → IsScalarIn json_form t x → IsSameScalar s t
unfolding IsScalarIn
scalars_read tree.null tree.null x p q g h e f = equal
scalars_read tree.null (tree.boolean b) x p q g h e f = absurd (classes_differ tree.null (tree.boolean b) x p q g h e f (λ i. omega (arith, i)))
scalars_read tree.null (tree.int b) x p q g h e f = absurd (classes_differ tree.null (tree.int b) x p q g h e f (λ i. omega (arith, i)))
scalars_read tree.null (tree.uint b) x p q g h e f = absurd (classes_differ tree.null (tree.uint b) x p q g h e f (λ i. omega (arith, i)))
scalars_read tree.null (tree.double b) x p q g h e f = absurd (classes_differ tree.null (tree.double b) x p q g h e f (λ i. omega (arith, i)))
scalars_read tree.null (tree.decimal b) x p q g h e f = absurd (classes_differ tree.null (tree.decimal b) x p q g h e f (λ i. omega (arith, i)))
scalars_read tree.null (tree.string b) x p q g h e f = absurd (classes_differ tree.null (tree.string b) x p q g h e f (λ i. omega (arith, i)))
scalars_read tree.null (tree.time b) x p q g h e f = absurd (classes_differ tree.null (tree.time b) x p q g h e f (λ i. omega (arith, i)))
scalars_read tree.null (tree.opaque b ys) x p q g h e f = absurd (classes_differ tree.null (tree.opaque b ys) x p q g h e f (λ i. omega (arith, i)))
scalars_read (tree.boolean a) tree.null x p q g h e f = absurd (classes_differ (tree.boolean a) tree.null x p q g h e f (λ i. omega (arith, i)))
scalars_read (tree.boolean a) (tree.boolean b) x p q g h e f = subst (λ (c : Bool). IsSameScalar (tree.boolean a) (tree.boolean c)) (booleans_read a b (sym e ∙ f)) equal
scalars_read (tree.boolean a) (tree.int b) x p q g h e f = absurd (classes_differ (tree.boolean a) (tree.int b) x p q g h e f (λ i. omega (arith, i)))
scalars_read (tree.boolean a) (tree.uint b) x p q g h e f = absurd (classes_differ (tree.boolean a) (tree.uint b) x p q g h e f (λ i. omega (arith, i)))
scalars_read (tree.boolean a) (tree.double b) x p q g h e f = absurd (classes_differ (tree.boolean a) (tree.double b) x p q g h e f (λ i. omega (arith, i)))
scalars_read (tree.boolean a) (tree.decimal b) x p q g h e f = absurd (classes_differ (tree.boolean a) (tree.decimal b) x p q g h e f (λ i. omega (arith, i)))
scalars_read (tree.boolean a) (tree.string b) x p q g h e f = absurd (classes_differ (tree.boolean a) (tree.string b) x p q g h e f (λ i. omega (arith, i)))
scalars_read (tree.boolean a) (tree.time b) x p q g h e f = absurd (classes_differ (tree.boolean a) (tree.time b) x p q g h e f (λ i. omega (arith, i)))
scalars_read (tree.boolean a) (tree.opaque b ys) x p q g h e f = absurd (classes_differ (tree.boolean a) (tree.opaque b ys) x p q g h e f (λ i. omega (arith, i)))
scalars_read (tree.int a) tree.null x p q g h e f = absurd (classes_differ (tree.int a) tree.null x p q g h e f (λ i. omega (arith, i)))
scalars_read (tree.int a) (tree.boolean b) x p q g h e f = absurd (classes_differ (tree.int a) (tree.boolean b) x p q g h e f (λ i. omega (arith, i)))
scalars_read (tree.int a) (tree.int b) x p q g h e f = subst (λ (z : ℤ). IsSameScalar (tree.int a) (tree.int z)) (signed_read a b p q (sym e ∙ f)) equal
scalars_read (tree.int a) (tree.uint b) x p q g h e f = signed_unsigned a b p q (sym e ∙ f)
scalars_read (tree.int a) (tree.double b) x p q g h e f = absurd (no_double b x h f (signed_bare a x e))
scalars_read (tree.int a) (tree.decimal b) x p q g h e f = absurd (classes_differ (tree.int a) (tree.decimal b) x p q g h e f (λ i. omega (arith, i)))
scalars_read (tree.int a) (tree.string b) x p q g h e f = absurd (classes_differ (tree.int a) (tree.string b) x p q g h e f (λ i. omega (arith, i)))
scalars_read (tree.int a) (tree.time b) x p q g h e f = absurd (classes_differ (tree.int a) (tree.time b) x p q g h e f (λ i. omega (arith, i)))
scalars_read (tree.int a) (tree.opaque b ys) x p q g h e f = absurd (classes_differ (tree.int a) (tree.opaque b ys) x p q g h e f (λ i. omega (arith, i)))
scalars_read (tree.uint a) tree.null x p q g h e f = absurd (classes_differ (tree.uint a) tree.null x p q g h e f (λ i. omega (arith, i)))
scalars_read (tree.uint a) (tree.boolean b) x p q g h e f = absurd (classes_differ (tree.uint a) (tree.boolean b) x p q g h e f (λ i. omega (arith, i)))
scalars_read (tree.uint a) (tree.int b) x p q g h e f = unsigned_signed a b p q (sym e ∙ f)
scalars_read (tree.uint a) (tree.uint b) x p q g h e f = subst (λ (n : ℕ). IsSameScalar (tree.uint a) (tree.uint n)) (wide_read a b p q (sym e ∙ f)) equal
scalars_read (tree.uint a) (tree.double b) x p q g h e f = absurd (no_double b x h f (bare a x e))
scalars_read (tree.uint a) (tree.decimal b) x p q g h e f = absurd (classes_differ (tree.uint a) (tree.decimal b) x p q g h e f (λ i. omega (arith, i)))
scalars_read (tree.uint a) (tree.string b) x p q g h e f = absurd (classes_differ (tree.uint a) (tree.string b) x p q g h e f (λ i. omega (arith, i)))
scalars_read (tree.uint a) (tree.time b) x p q g h e f = absurd (classes_differ (tree.uint a) (tree.time b) x p q g h e f (λ i. omega (arith, i)))
scalars_read (tree.uint a) (tree.opaque b ys) x p q g h e f = absurd (classes_differ (tree.uint a) (tree.opaque b ys) x p q g h e f (λ i. omega (arith, i)))
scalars_read (tree.double a) tree.null x p q g h e f = absurd (classes_differ (tree.double a) tree.null x p q g h e f (λ i. omega (arith, i)))
scalars_read (tree.double a) (tree.boolean b) x p q g h e f = absurd (classes_differ (tree.double a) (tree.boolean b) x p q g h e f (λ i. omega (arith, i)))
scalars_read (tree.double a) (tree.int b) x p q g h e f = absurd (no_double a x g e (signed_bare b x f))
scalars_read (tree.double a) (tree.uint b) x p q g h e f = absurd (no_double a x g e (bare b x f))
scalars_read (tree.double a) (tree.double b) x p q g h e f = doubles (float_read binary64 16 4 (from_bits binary64 a) (from_bits binary64 b) x e f)
scalars_read (tree.double a) (tree.decimal b) x p q g h e f = absurd (classes_differ (tree.double a) (tree.decimal b) x p q g h e f (λ i. omega (arith, i)))
scalars_read (tree.double a) (tree.string b) x p q g h e f = absurd (classes_differ (tree.double a) (tree.string b) x p q g h e f (λ i. omega (arith, i)))
scalars_read (tree.double a) (tree.time b) x p q g h e f = absurd (classes_differ (tree.double a) (tree.time b) x p q g h e f (λ i. omega (arith, i)))
scalars_read (tree.double a) (tree.opaque b ys) x p q g h e f = absurd (classes_differ (tree.double a) (tree.opaque b ys) x p q g h e f (λ i. omega (arith, i)))
scalars_read (tree.decimal a) tree.null x p q g h e f = absurd (classes_differ (tree.decimal a) tree.null x p q g h e f (λ i. omega (arith, i)))
scalars_read (tree.decimal a) (tree.boolean b) x p q g h e f = absurd (classes_differ (tree.decimal a) (tree.boolean b) x p q g h e f (λ i. omega (arith, i)))
scalars_read (tree.decimal a) (tree.int b) x p q g h e f = absurd (classes_differ (tree.decimal a) (tree.int b) x p q g h e f (λ i. omega (arith, i)))
scalars_read (tree.decimal a) (tree.uint b) x p q g h e f = absurd (classes_differ (tree.decimal a) (tree.uint b) x p q g h e f (λ i. omega (arith, i)))
scalars_read (tree.decimal a) (tree.double b) x p q g h e f = absurd (classes_differ (tree.decimal a) (tree.double b) x p q g h e f (λ i. omega (arith, i)))
scalars_read (tree.decimal a) (tree.decimal b) x p q g h e f = decimals (append_cancel_right (decimal_text a) (decimal_text b) (codes "\"}") (append_cancel_left (codes "{\"$decimal\":\"") (decimal_text a ++ codes "\"}") (decimal_text b ++ codes "\"}") (sym e ∙ f)))
scalars_read (tree.decimal a) (tree.string b) x p q g h e f = absurd (classes_differ (tree.decimal a) (tree.string b) x p q g h e f (λ i. omega (arith, i)))
scalars_read (tree.decimal a) (tree.time b) x p q g h e f = absurd (no_time 101 (codes "{\"$decimal\":\"" ++ (decimal_text a ++ codes "\"}")) b refl (λ i. omega (arith, i)) (λ i. omega (arith, i)) (sym e ∙ f))
scalars_read (tree.decimal a) (tree.opaque b ys) x p q g h e f = absurd (let no : 101 ≡ 121 = ap (λ (l : List ℕ). slice_index l 4) (sym e ∙ f) in omega (arith, no))
scalars_read (tree.string a) tree.null x p q g h e f = absurd (classes_differ (tree.string a) tree.null x p q g h e f (λ i. omega (arith, i)))
scalars_read (tree.string a) (tree.boolean b) x p q g h e f = absurd (classes_differ (tree.string a) (tree.boolean b) x p q g h e f (λ i. omega (arith, i)))
scalars_read (tree.string a) (tree.int b) x p q g h e f = absurd (classes_differ (tree.string a) (tree.int b) x p q g h e f (λ i. omega (arith, i)))
scalars_read (tree.string a) (tree.uint b) x p q g h e f = absurd (classes_differ (tree.string a) (tree.uint b) x p q g h e f (λ i. omega (arith, i)))
scalars_read (tree.string a) (tree.double b) x p q g h e f = absurd (classes_differ (tree.string a) (tree.double b) x p q g h e f (λ i. omega (arith, i)))
scalars_read (tree.string a) (tree.decimal b) x p q g h e f = absurd (classes_differ (tree.string a) (tree.decimal b) x p q g h e f (λ i. omega (arith, i)))
scalars_read (tree.string a) (tree.string b) x p q g h e f = subst (λ (s : List ℕ). IsSameScalar (tree.string a) (tree.string s)) (whole_strings a b (sym e ∙ f)) equal
scalars_read (tree.string a) (tree.time b) x p q g h e f = absurd (classes_differ (tree.string a) (tree.time b) x p q g h e f (λ i. omega (arith, i)))
scalars_read (tree.string a) (tree.opaque b ys) x p q g h e f = absurd (classes_differ (tree.string a) (tree.opaque b ys) x p q g h e f (λ i. omega (arith, i)))
scalars_read (tree.time a) tree.null x p q g h e f = absurd (classes_differ (tree.time a) tree.null x p q g h e f (λ i. omega (arith, i)))
scalars_read (tree.time a) (tree.boolean b) x p q g h e f = absurd (classes_differ (tree.time a) (tree.boolean b) x p q g h e f (λ i. omega (arith, i)))
scalars_read (tree.time a) (tree.int b) x p q g h e f = absurd (classes_differ (tree.time a) (tree.int b) x p q g h e f (λ i. omega (arith, i)))
scalars_read (tree.time a) (tree.uint b) x p q g h e f = absurd (classes_differ (tree.time a) (tree.uint b) x p q g h e f (λ i. omega (arith, i)))
scalars_read (tree.time a) (tree.double b) x p q g h e f = absurd (classes_differ (tree.time a) (tree.double b) x p q g h e f (λ i. omega (arith, i)))
scalars_read (tree.time a) (tree.decimal b) x p q g h e f = absurd (no_time 101 (codes "{\"$decimal\":\"" ++ (decimal_text b ++ codes "\"}")) a refl (λ i. omega (arith, i)) (λ i. omega (arith, i)) (sym f ∙ e))
scalars_read (tree.time a) (tree.string b) x p q g h e f = absurd (classes_differ (tree.time a) (tree.string b) x p q g h e f (λ i. omega (arith, i)))
scalars_read (tree.time a) (tree.time b) x p q g h e f = times_read a b (sym e ∙ f)
scalars_read (tree.time a) (tree.opaque b ys) x p q g h e f = absurd (no_time 121 (opaque_json b ys) a refl (λ i. omega (arith, i)) (λ i. omega (arith, i)) (sym f ∙ e))
scalars_read (tree.opaque a xs) tree.null x p q g h e f = absurd (classes_differ (tree.opaque a xs) tree.null x p q g h e f (λ i. omega (arith, i)))
scalars_read (tree.opaque a xs) (tree.boolean b) x p q g h e f = absurd (classes_differ (tree.opaque a xs) (tree.boolean b) x p q g h e f (λ i. omega (arith, i)))
scalars_read (tree.opaque a xs) (tree.int b) x p q g h e f = absurd (classes_differ (tree.opaque a xs) (tree.int b) x p q g h e f (λ i. omega (arith, i)))
scalars_read (tree.opaque a xs) (tree.uint b) x p q g h e f = absurd (classes_differ (tree.opaque a xs) (tree.uint b) x p q g h e f (λ i. omega (arith, i)))
scalars_read (tree.opaque a xs) (tree.double b) x p q g h e f = absurd (classes_differ (tree.opaque a xs) (tree.double b) x p q g h e f (λ i. omega (arith, i)))
scalars_read (tree.opaque a xs) (tree.decimal b) x p q g h e f = absurd (let no : 121 ≡ 101 = ap (λ (l : List ℕ). slice_index l 4) (sym e ∙ f) in omega (arith, no))
scalars_read (tree.opaque a xs) (tree.string b) x p q g h e f = absurd (classes_differ (tree.opaque a xs) (tree.string b) x p q g h e f (λ i. omega (arith, i)))
scalars_read (tree.opaque a xs) (tree.time b) x p q g h e f = absurd (no_time 121 (opaque_json a xs) b refl (λ i. omega (arith, i)) (λ i. omega (arith, i)) (sym e ∙ f))
scalars_read (tree.opaque a xs) (tree.opaque b ys) x p q g h e f = opaques_read a b xs ys p q (sym e ∙ f)

-- ---- our objects, and those of a document
dollar_reserved : (a b : List ℕ) → 36 ∷ a ≡ b → is_reserved b ≡ true
dollar_reserved a b h = subst (λ (k : List ℕ). is_reserved k ≡ true) h refl

own_key : (n k : List ℕ) → is_reserved n ≡ false → 36 ∷ n ≡ escaped_key k → ⊥
own_key n k none e = go (is_reserved k) refl e
  where
    go : (b : Bool) → is_reserved k ≡ b → 36 ∷ n ≡ (if b then 36 ∷ k else k) → ⊥
    go true p f = false≢true (sym none ∙ ap is_reserved (ap others f) ∙ p)
    go false p f = false≢true (sym p ∙ dollar_reserved n k f)

begins_quoted : (a s t : List ℕ) → json_string a ++ s ≡ 125 ∷ t → ⊥
unfolding json_string
begins_quoted a s t e = absurd (let no : 34 ≡ 125 = ap first e in omega (arith, no))

no_own : (n rest : List ℕ) (ms : Members) (xs : List (List ℕ)) → is_reserved n ≡ false → AreMembersIn json_form ms xs → json_string (36 ∷ n) ++ 58 ∷ rest ≡ join_with_byte 44 xs ++ codes "}" → ⊥
unfolding AreMembersIn
no_own n rest no_members xs none d e = begins_quoted (36 ∷ n) (58 ∷ rest) [] (e ∙ ap (λ (l : List (List ℕ)). join_with_byte 44 l ++ codes "}") d)
no_own n rest (member k t ms) [] none d e = absurd d
no_own n rest (member k t ms) (x ∷ xs) none d e =
    let v = (d.0).0 in
    let text = ap (λ (l : List ℕ). l ++ codes "}") (joined_after x xs ∙ ap (λ (l : List ℕ). l ++ after_commas xs) (d.0).2) ∙ append_assoc (json_string (escaped_key k) ++ (58 ∷ v)) (after_commas xs) (codes "}") ∙ append_assoc (json_string (escaped_key k)) (58 ∷ v) (after_commas xs ++ codes "}") in
    own_key n k none (strings_read (36 ∷ n) (escaped_key k) (58 ∷ rest) (58 ∷ (v ++ (after_commas xs ++ codes "}"))) (e ∙ text)).0

no_object : (s : tree.Scalar) (ms : Members) (xs : List (List ℕ)) (x : List ℕ) → IsSoundScalar s → IsFiniteScalar s → IsScalarIn json_form s x → AreMembersIn json_form ms xs → x ≡ codes "{" ++ (join_with_byte 44 xs ++ codes "}") → ⊥
unfolding IsScalarIn json_string
no_object tree.null ms xs x p g e d f = absurd (let no : 0 ≡ 6 = sym (lead tree.null x p g e) ∙ ap (λ (l : List ℕ). class_by (first l)) f in omega (arith, no))
no_object (tree.boolean b) ms xs x p g e d f = absurd (let no : 1 ≡ 6 = sym (lead (tree.boolean b) x p g e) ∙ ap (λ (l : List ℕ). class_by (first l)) f in omega (arith, no))
no_object (tree.int z) ms xs x p g e d f = absurd (let no : 3 ≡ 6 = sym (lead (tree.int z) x p g e) ∙ ap (λ (l : List ℕ). class_by (first l)) f in omega (arith, no))
no_object (tree.uint n) ms xs x p g e d f = absurd (let no : 3 ≡ 6 = sym (lead (tree.uint n) x p g e) ∙ ap (λ (l : List ℕ). class_by (first l)) f in omega (arith, no))
no_object (tree.double b) ms xs x p g e d f = absurd (let no : 3 ≡ 6 = sym (lead (tree.double b) x p g e) ∙ ap (λ (l : List ℕ). class_by (first l)) f in omega (arith, no))
no_object (tree.string s) ms xs x p g e d f = absurd (let no : 4 ≡ 6 = sym (lead (tree.string s) x p g e) ∙ ap (λ (l : List ℕ). class_by (first l)) f in omega (arith, no))
no_object (tree.decimal v) ms xs x p g e d f = no_own (codes "decimal") (34 ∷ (decimal_text v ++ codes "\"}")) ms xs refl d (ap others (sym e ∙ f))
no_object (tree.opaque number bytes) ms xs x p g e d f = no_own (codes "type") (decimal number ++ (codes ",\"base64\":" ++ (base64_string bytes ++ codes "}"))) ms xs refl d (ap others (sym e ∙ f))
no_object (tree.time t) ms xs x p g e d f = go (kind_of t.time_type) (ap (λ (l : List ℕ). l ++ (temporal_text t ++ codes "\"}")) (sym (start_is t.time_type)) ∙ sym e ∙ f)
  where
    go : (k : Kind) → start k ++ (temporal_text t ++ codes "\"}") ≡ codes "{" ++ (join_with_byte 44 xs ++ codes "}") → ⊥
    go a_date i = no_own (codes "date") (34 ∷ (temporal_text t ++ codes "\"}")) ms xs refl d (ap others i)
    go a_time i = no_own (codes "time") (34 ∷ (temporal_text t ++ codes "\"}")) ms xs refl d (ap others i)
    go a_datetime i = no_own (codes "datetime") (34 ∷ (temporal_text t ++ codes "\"}")) ms xs refl d (ap others i)

no_array : (s : tree.Scalar) (x rest : List ℕ) → IsSoundScalar s → IsFiniteScalar s → IsScalarIn json_form s x → x ≡ 91 ∷ rest → ⊥
no_array s x rest p g e f = go s (sym (lead s x p g e) ∙ ap (λ (l : List ℕ). class_by (first l)) f)
  where
    go : (t : tree.Scalar) → class t ≡ 5 → ⊥
    go tree.null h = absurd (omega (arith, h))
    go (tree.boolean b) h = absurd (omega (arith, h))
    go (tree.int z) h = absurd (omega (arith, h))
    go (tree.uint n) h = absurd (omega (arith, h))
    go (tree.double b) h = absurd (omega (arith, h))
    go (tree.decimal d) h = absurd (omega (arith, h))
    go (tree.string t) h = absurd (omega (arith, h))
    go (tree.time t) h = absurd (omega (arith, h))
    go (tree.opaque n b) h = absurd (omega (arith, h))

-- ---- documents
follows : (b : ℕ) (xs : List (List ℕ)) → IsAfterValue (b ∷ []) → IsAfterValue (after_commas xs ++ b ∷ [])
follows b [] h = h
follows b (x ∷ xs) h = refl

-- the texts between brackets, each after a comma
commas_first : (b : ℕ) (x y : List ℕ) (xs ys : List (List ℕ)) → join_with_byte 44 (x ∷ xs) ++ b ∷ [] ≡ join_with_byte 44 (y ∷ ys) ++ b ∷ [] → after_commas (x ∷ xs) ++ b ∷ [] ≡ after_commas (y ∷ ys) ++ b ∷ []
commas_first b x y xs ys e = ap (λ (l : List ℕ). 44 ∷ l) (ap (λ (l : List ℕ). l ++ b ∷ []) (sym (joined_after x xs)) ∙ e ∙ ap (λ (l : List ℕ). l ++ b ∷ []) (joined_after y ys))

no_class : (s : tree.Scalar) (n : ℕ) → 6 < n → class s ≡ n → ⊥
no_class tree.null n lt h = omega (arith, lt, h)
no_class (tree.boolean b) n lt h = omega (arith, lt, h)
no_class (tree.int z) n lt h = omega (arith, lt, h)
no_class (tree.uint k) n lt h = omega (arith, lt, h)
no_class (tree.double b) n lt h = omega (arith, lt, h)
no_class (tree.decimal d) n lt h = omega (arith, lt, h)
no_class (tree.string t) n lt h = omega (arith, lt, h)
no_class (tree.time t) n lt h = omega (arith, lt, h)
no_class (tree.opaque k b) n lt h = omega (arith, lt, h)

scalar_no_bracket : (v : tree.Scalar) (x s : List ℕ) → class_by (first x) ≡ class v → x ++ s ≡ 93 ∷ [] → ⊥
scalar_no_bracket v [] s h e = no_class v 8 (omega arith) (sym h)
scalar_no_bracket v (b ∷ x) s h e = no_class v 7 (omega arith) (sym h ∙ ap (λ (l : List ℕ). class_by (first l)) e)

-- no value is the end of an array
no_bracket : (t : Tree) (x s : List ℕ) → IsSoundTree t → HasFiniteDoubles t → IsDocumentIn json_form t x → x ++ s ≡ 93 ∷ [] → ⊥
unfolding IsSoundTree HasFiniteDoubles IsDocumentIn
no_bracket (scalar v) x s p g d e = scalar_no_bracket v x s (lead v x p g d) e
no_bracket (array is) x s p g d e = absurd (let no : 91 ≡ 93 = ap first (ap (λ (l : List ℕ). l ++ s) (sym d.2) ∙ e) in omega (arith, no))
no_bracket (object ms) x s p g d e = absurd (let no : 123 ≡ 93 = ap first (ap (λ (l : List ℕ). l ++ s) (sym d.2) ∙ e) in omega (arith, no))

no_brackets : (is : Items) (xs : List (List ℕ)) → AreSoundItems is → HaveFiniteDoubles is → AreItemsIn json_form is xs → (xs ≡ [] → ⊥) → join_with_byte 44 xs ++ 93 ∷ [] ≡ 93 ∷ [] → ⊥
unfolding AreSoundItems HaveFiniteDoubles AreItemsIn
no_brackets no_items xs p g d some e = some d
no_brackets (item t ts) [] p g d some e = some refl
no_brackets (item t ts) (x ∷ xs) p g d some e = no_bracket t x (after_commas xs ++ 93 ∷ []) p.0 g.0 d.0 (sym (append_assoc x (after_commas xs) (93 ∷ [])) ∙ ap (λ (l : List ℕ). l ++ 93 ∷ []) (sym (joined_after x xs)) ∙ e)

member_text : (k v x : List ℕ) (xs : List (List ℕ)) → x ≡ json_string (escaped_key k) ++ (codes ":" ++ v) → (x ++ after_commas xs) ++ 125 ∷ [] ≡ json_string (escaped_key k) ++ 58 ∷ (v ++ (after_commas xs ++ 125 ∷ []))
member_text k v x xs e =
    ap (λ (l : List ℕ). (l ++ after_commas xs) ++ 125 ∷ []) e ∙ append_assoc (json_string (escaped_key k) ++ 58 ∷ v) (after_commas xs) (125 ∷ []) ∙ append_assoc (json_string (escaped_key k)) (58 ∷ v) (after_commas xs ++ 125 ∷ [])

no_brace : (ms : Members) (xs : List (List ℕ)) → AreMembersIn json_form ms xs → (xs ≡ [] → ⊥) → join_with_byte 44 xs ++ 125 ∷ [] ≡ 125 ∷ [] → ⊥
unfolding AreMembersIn
no_brace no_members xs d some e = some d
no_brace (member k t ms) [] d some e = some refl
no_brace (member k t ms) (x ∷ xs) d some e =
    begins_quoted (escaped_key k) (58 ∷ ((d.0).0 ++ (after_commas xs ++ 125 ∷ []))) [] (sym (member_text k (d.0).0 x xs (d.0).2) ∙ ap (λ (l : List ℕ). l ++ 125 ∷ []) (sym (joined_after x xs)) ∙ e)

some_text : (x : List ℕ) (xs : List (List ℕ)) → x ∷ xs ≡ [] → ⊥
some_text x xs e = absurd cc

items_commas : (is js : Items) (xs ys : List (List ℕ)) → AreSoundItems is → AreSoundItems js → HaveFiniteDoubles is → HaveFiniteDoubles js → AreItemsIn json_form is xs → AreItemsIn json_form js ys
    → join_with_byte 44 xs ++ 93 ∷ [] ≡ join_with_byte 44 ys ++ 93 ∷ [] → after_commas xs ++ 93 ∷ [] ≡ after_commas ys ++ 93 ∷ []
unfolding AreSoundItems HaveFiniteDoubles AreItemsIn
items_commas no_items no_items xs ys p q g h d e f = ap (λ (l : List (List ℕ)). after_commas l ++ 93 ∷ []) (d ∙ sym e)
items_commas no_items (item u us) xs [] p q g h d e f = absurd e
items_commas no_items (item u us) xs (y ∷ ys) p q g h d e f = absurd (no_brackets (item u us) (y ∷ ys) q h e (some_text y ys) (sym f ∙ ap (λ (l : List (List ℕ)). join_with_byte 44 l ++ 93 ∷ []) d))
items_commas (item t ts) js [] ys p q g h d e f = absurd d
items_commas (item t ts) no_items (x ∷ xs) ys p q g h d e f = absurd (no_brackets (item t ts) (x ∷ xs) p g d (some_text x xs) (f ∙ ap (λ (l : List (List ℕ)). join_with_byte 44 l ++ 93 ∷ []) e))
items_commas (item t ts) (item u us) (x ∷ xs) [] p q g h d e f = absurd e
items_commas (item t ts) (item u us) (x ∷ xs) (y ∷ ys) p q g h d e f = commas_first 93 x y xs ys f

members_commas : (ms ns : Members) (xs ys : List (List ℕ)) → AreSoundMembers ms → AreSoundMembers ns → MembersHaveFiniteDoubles ms → MembersHaveFiniteDoubles ns → AreMembersIn json_form ms xs → AreMembersIn json_form ns ys
    → join_with_byte 44 xs ++ 125 ∷ [] ≡ join_with_byte 44 ys ++ 125 ∷ [] → after_commas xs ++ 125 ∷ [] ≡ after_commas ys ++ 125 ∷ []
unfolding AreMembersIn
members_commas no_members no_members xs ys p q g h d e f = ap (λ (l : List (List ℕ)). after_commas l ++ 125 ∷ []) (d ∙ sym e)
members_commas no_members (member l u us) xs [] p q g h d e f = absurd e
members_commas no_members (member l u us) xs (y ∷ ys) p q g h d e f = absurd (no_brace (member l u us) (y ∷ ys) e (some_text y ys) (sym f ∙ ap (λ (z : List (List ℕ)). join_with_byte 44 z ++ 125 ∷ []) d))
members_commas (member k t ts) ns [] ys p q g h d e f = absurd d
members_commas (member k t ts) no_members (x ∷ xs) ys p q g h d e f = absurd (no_brace (member k t ts) (x ∷ xs) d (some_text x xs) (f ∙ ap (λ (z : List (List ℕ)). join_with_byte 44 z ++ 125 ∷ []) e))
members_commas (member k t ts) (member l u us) (x ∷ xs) [] p q g h d e f = absurd e
members_commas (member k t ts) (member l u us) (x ∷ xs) (y ∷ ys) p q g h d e f = commas_first 125 x y xs ys f

mutual
  unfolding IsDocumentIn AreItemsIn AreMembersIn IsSoundTree AreSoundItems AreSoundMembers HasFiniteDoubles HaveFiniteDoubles MembersHaveFiniteDoubles IsSameTree AreSameItems AreSameMembers

  pub trees_read : (t u : Tree) (x : List ℕ) → IsSoundTree t → IsSoundTree u → HasFiniteDoubles t → HasFiniteDoubles u → IsDocumentIn json_form t x → IsDocumentIn json_form u x → IsSameTree t u
  trees_read (scalar s) (scalar t) x p q g h d e = scalars_read s t x p q g h d e
  trees_read (scalar s) (array js) x p q g h d e = absurd (no_array s x _ p g d e.2)
  trees_read (scalar s) (object ns) x p q g h d e = absurd (no_object s ns e.0 x p g d e.1 e.2)
  trees_read (array is) (scalar t) x p q g h d e = absurd (no_array t x _ q h e d.2)
  trees_read (object ms) (scalar t) x p q g h d e = absurd (no_object t ms d.0 x q h e d.1 d.2)
  trees_read (array is) (object ns) x p q g h d e = absurd (let no : 91 ≡ 123 = ap first (sym d.2 ∙ e.2) in omega (arith, no))
  trees_read (object ms) (array js) x p q g h d e = absurd (let no : 123 ≡ 91 = ap first (sym d.2 ∙ e.2) in omega (arith, no))
  trees_read (array is) (array js) x p q g h d e = items_read is js d.0 e.0 p q g h d.1 e.1 (items_commas is js d.0 e.0 p q g h d.1 e.1 (ap others (sym d.2 ∙ e.2)))
  trees_read (object ms) (object ns) x p q g h d e = members_read ms ns d.0 e.0 p.0 q.0 g h d.1 e.1 (members_commas ms ns d.0 e.0 p.0 q.0 g h d.1 e.1 (ap others (sym d.2 ∙ e.2)))

  items_read : (is js : Items) (xs ys : List (List ℕ)) → AreSoundItems is → AreSoundItems js → HaveFiniteDoubles is → HaveFiniteDoubles js → AreItemsIn json_form is xs → AreItemsIn json_form js ys
      → after_commas xs ++ 93 ∷ [] ≡ after_commas ys ++ 93 ∷ [] → AreSameItems is js
  items_read no_items no_items xs ys p q g h d e f = tt
  items_read no_items (item u us) xs [] p q g h d e f = absurd e
  items_read no_items (item u us) xs (y ∷ ys) p q g h d e f = absurd (let no : 93 ≡ 44 = ap first (ap (λ (l : List (List ℕ)). after_commas l ++ 93 ∷ []) (sym d) ∙ f) in omega (arith, no))
  items_read (item t ts) js [] ys p q g h d e f = absurd d
  items_read (item t ts) no_items (x ∷ xs) ys p q g h d e f = absurd (let no : 44 ≡ 93 = ap first (f ∙ ap (λ (l : List (List ℕ)). after_commas l ++ 93 ∷ []) e) in omega (arith, no))
  items_read (item t ts) (item u us) (x ∷ xs) [] p q g h d e f = absurd e
  items_read (item t ts) (item u us) (x ∷ xs) (y ∷ ys) p q g h d e f =
      let j = document_json (Unit {0}) t x p.0 d.0 in
      let k = document_json (Unit {0}) u y q.0 e.0 in
      let v = values_end j.value k.value x y (after_commas xs ++ 93 ∷ []) (after_commas ys ++ 93 ∷ []) j.is k.is (follows 93 xs refl) (follows 93 ys refl) (sym (append_assoc x (after_commas xs) (93 ∷ [])) ∙ ap others f ∙ append_assoc y (after_commas ys) (93 ∷ [])) in
      (trees_read t u x p.0 q.0 g.0 h.0 d.0 (subst (IsDocumentIn json_form u) (sym v.0) e.0), items_read ts us xs ys p.1 q.1 g.1 h.1 d.1 e.1 v.1)

  members_read : (ms ns : Members) (xs ys : List (List ℕ)) → AreSoundMembers ms → AreSoundMembers ns → MembersHaveFiniteDoubles ms → MembersHaveFiniteDoubles ns → AreMembersIn json_form ms xs → AreMembersIn json_form ns ys
      → after_commas xs ++ 125 ∷ [] ≡ after_commas ys ++ 125 ∷ [] → AreSameMembers ms ns
  members_read no_members no_members xs ys p q g h d e f = tt
  members_read no_members (member l u us) xs [] p q g h d e f = absurd e
  members_read no_members (member l u us) xs (y ∷ ys) p q g h d e f = absurd (let no : 125 ≡ 44 = ap first (ap (λ (z : List (List ℕ)). after_commas z ++ 125 ∷ []) (sym d) ∙ f) in omega (arith, no))
  members_read (member k t ts) ns [] ys p q g h d e f = absurd d
  members_read (member k t ts) no_members (x ∷ xs) ys p q g h d e f = absurd (let no : 44 ≡ 125 = ap first (f ∙ ap (λ (z : List (List ℕ)). after_commas z ++ 125 ∷ []) e) in omega (arith, no))
  members_read (member k t ts) (member l u us) (x ∷ xs) [] p q g h d e f = absurd e
  members_read (member k t ts) (member l u us) (x ∷ xs) (y ∷ ys) p q g h d e f =
      let v = (d.0).0 in
      let w = (e.0).0 in
      let left = after_commas xs ++ 125 ∷ [] in
      let right = after_commas ys ++ 125 ∷ [] in
      let j = document_json (Unit {0}) t v p.1 (d.0).1 in
      let m = document_json (Unit {0}) u w q.1 (e.0).1 in
      let keys = strings_read (escaped_key k) (escaped_key l) (58 ∷ (v ++ left)) (58 ∷ (w ++ right)) (sym (member_text k v x xs (d.0).2) ∙ ap others f ∙ member_text l w y ys (e.0).2) in
      let values = values_end j.value m.value v w left right j.is m.is (follows 125 xs refl) (follows 125 ys refl) (ap others keys.1) in
      (same_keys k l keys.0, trees_read t u v p.1 q.1 g.0 h.0 (d.0).1 (subst (IsDocumentIn json_form u) (sym values.0) (e.0).1), members_read ts us xs ys p.2 q.2 g.1 h.1 d.1 e.1 values.1)

-- the documents of bytes
pub documents_read : (a b x : List ℕ) (t u : Tree) → AreBytes a → AreBytes b → document_tree a ≡ Ok t → document_tree b ≡ Ok u → HasFiniteDoubles t → HasFiniteDoubles u → IsDocumentIn json_form t x → IsDocumentIn json_form u x → IsSameTree t u
documents_read a b x t u p q e f g h d i = trees_read t u x ((document_tree_sound a p).each t e) ((document_tree_sound b q).each u f) g h d i
