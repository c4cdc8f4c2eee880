-- JSON that is written without whitespace: values, elements and members, and how they are put together.
use Rattle.std.proofs.Common.{◌≡◌, ℕ, ◌≤◌, List, [], ◌∷◌, ◌++◌, refl, sym, ap, ◌∙◌, subst, append_assoc, arith, Bool, true, false, ◌&&◌, leb, T}
use Rattle.std.specs.Prelude.{IsUtf8, codes, if◌then◌else◌}
use Rattle.std.specs.List.{join_with_byte}
use Rattle.std.proofs.Math.Facts.{leb_yes}
use Rattle.std.proofs.lemmas.Simd.{Each1-from_get_or}
use Rattle.std.proofs.lemmas.List.{append-nil}
use lib.Lanes.{Each1}
use Rattle.changes_writers.specs.JsonStrings.{json_string}
use Rattle.changes_writers.proofs.StringLawLemmas.{string_printable}
use Rattle.changes_laws.specs.JsonGrammar.{Json, null, boolean, number, string, array, object, Elements, no_elements, element, Members, no_members, member, IsNumber, IsStructural, IsValue, AreElements, AreMoreElements, AreMembers, AreMoreMembers}
use Rattle.changes_laws.specs.JsonNames.{names_of, AreDistinct, HasDistinctNames, HaveDistinctNames, ValuesHaveDistinctNames}
use Rattle.changes_laws.proofs.StringGrammarLemmas.{string_is}

-- no control characters
abbrev pub Printable : List ℕ → Type 0
Printable = Each1 (λ b. 32 ≤ b)

pub printable_append : (s t : List ℕ) → Printable s → Printable t → Printable (s ++ t)
printable_append [] t p q = q
printable_append (x ∷ s) t p q = (p.0, printable_append s t p.1 q)

abbrev pub all_printable : List ℕ → Bool
all_printable [] = true
all_printable (b ∷ l) = leb 32 b && all_printable l

-- a text that is known
pub printable_known : (l : List ℕ) → T (all_printable l) → Printable l
printable_known [] h = tt
printable_known (b ∷ l) h = let p = parts (leb 32 b) (all_printable l) h in (leb_yes p.0, printable_known l p.1)
  where
    parts : (p q : Bool) → T (p && q) → T p × T q
    parts true q h = (tt, h)
    parts false q h = absurd h

-- a value; under a premise no object within it has a name twice
pub record IsJson (P : Type 0) (text : List ℕ) : Type 0 where
  pub value : Json
  pub is : IsValue value text
  pub printable : Printable text
  pub distinct : P → HasDistinctNames value

-- values with commas between them
pub record AreJson (P : Type 0) (text : List ℕ) : Type 0 where
  pub values : Elements
  pub are : AreElements values text
  pub printable : Printable text
  pub distinct : P → HaveDistinctNames values

-- values, each after a comma
pub record AreMoreJson (P : Type 0) (text : List ℕ) : Type 0 where
  pub values : Elements
  pub are : AreMoreElements values text
  pub printable : Printable text
  pub distinct : P → HaveDistinctNames values

-- these members
pub record HasMembers (P : Type 0) (ms : Members) (text : List ℕ) : Type 0 where
  pub are : AreMembers ms text
  pub printable : Printable text
  pub distinct : P → ValuesHaveDistinctNames ms

-- these members, each after a comma
pub record HasMoreMembers (P : Type 0) (ms : Members) (text : List ℕ) : Type 0 where
  pub are : AreMoreMembers ms text
  pub printable : Printable text
  pub distinct : P → ValuesHaveDistinctNames ms

abbrev pub joined_members : Members → Members → Members
joined_members no_members ns = ns
joined_members (member k v ms) ns = member k v (joined_members ms ns)

alone : (b : ℕ) → IsStructural b (b ∷ [])
alone b = record { before = []; after = []; before_is = tt; after_is = tt; is = refl }

-- ---- values without others
pub null_json : (P : Type 0) → IsJson P (codes "null")
unfolding IsValue HasDistinctNames
null_json P = record { value = null; is = refl; printable = printable_known (codes "null") tt; distinct = λ p. tt }

pub boolean_json : (P : Type 0) (b : Bool) → IsJson P (if b then codes "true" else codes "false")
unfolding IsValue HasDistinctNames
boolean_json P true = record { value = boolean true; is = refl; printable = printable_known (codes "true") tt; distinct = λ p. tt }
boolean_json P false = record { value = boolean false; is = refl; printable = printable_known (codes "false") tt; distinct = λ p. tt }

pub number_json : (P : Type 0) (text : List ℕ) → IsNumber text → Printable text → IsJson P text
unfolding IsValue HasDistinctNames
number_json P text n p = record { value = number text; is = (refl, n); printable = p; distinct = λ q. tt }

printable_string : (s : List ℕ) → Printable (json_string s)
printable_string s = Each1-from_get_or (λ b. 32 ≤ b) (json_string s) 0 (λ i lt. string_printable s i 0 lt)

pub string_json : (P : Type 0) (s : List ℕ) → IsUtf8 s → IsJson P (json_string s)
unfolding IsValue HasDistinctNames
string_json P s h = record { value = string s; is = string_is s h; printable = printable_string s; distinct = λ q. tt }

-- ---- arrays
pub one_value : (P : Type 0) (x : List ℕ) → IsJson P x → AreJson P x
unfolding AreElements AreMoreElements HaveDistinctNames
one_value P x j = record {
  values = element j.value no_elements;
  are = record { one = x; others = []; one_is = j.is; others_are = refl; is = sym (append-nil x) };
  printable = j.printable;
  distinct = λ p. (j.distinct p, tt);
}

pub no_more_values : (P : Type 0) → AreMoreJson P []
unfolding AreMoreElements HaveDistinctNames
no_more_values P = record { values = no_elements; are = refl; printable = tt; distinct = λ p. tt }

pub first_value : (P : Type 0) (x y : List ℕ) → IsJson P x → AreMoreJson P y → AreJson P (x ++ y)
unfolding AreElements HaveDistinctNames
first_value P x y j m = record {
  values = element j.value m.values;
  are = record { one = x; others = y; one_is = j.is; others_are = m.are; is = refl };
  printable = printable_append x y j.printable m.printable;
  distinct = λ p. (j.distinct p, m.distinct p);
}

pub next_value : (P : Type 0) (x y : List ℕ) → IsJson P x → AreMoreJson P y → AreMoreJson P (44 ∷ (x ++ y))
unfolding AreMoreElements HaveDistinctNames
next_value P x y j m = record {
  values = element j.value m.values;
  are = record { comma = 44 ∷ []; first = x ++ y; comma_is = alone 44; first_is = record { one = x; others = y; one_is = j.is; others_are = m.are; is = refl }; is = refl };
  printable = (omega arith, printable_append x y j.printable m.printable);
  distinct = λ p. (j.distinct p, m.distinct p);
}

pub array_json : (P : Type 0) (x : List ℕ) → AreJson P x → IsJson P (91 ∷ (x ++ 93 ∷ []))
unfolding IsValue HasDistinctNames
array_json P x j = record {
  value = array j.values;
  is = record { first = 91 ∷ []; content = x; last = 93 ∷ []; first_is = alone 91; content_is = j.are; last_is = alone 93; is = refl };
  printable = (omega arith, printable_append x (93 ∷ []) j.printable (omega arith, tt));
  distinct = j.distinct;
}

-- texts that are values
abbrev pub AllJson : Type 0 → List (List ℕ) → Type 0
AllJson P [] = Unit {0}
AllJson P (x ∷ xs) = IsJson P x × AllJson P xs

abbrev pub after_commas : List (List ℕ) → List ℕ
after_commas [] = []
after_commas (x ∷ xs) = 44 ∷ (x ++ after_commas xs)

pub joined_after : (x : List ℕ) (xs : List (List ℕ)) → join_with_byte 44 (x ∷ xs) ≡ x ++ after_commas xs
joined_after x [] = sym (append-nil x)
joined_after x (y ∷ ys) = ap (λ (t : List ℕ). x ++ 44 ∷ t) (joined_after y ys)

pub more_values : (P : Type 0) (xs : List (List ℕ)) → AllJson P xs → AreMoreJson P (after_commas xs)
more_values P [] all = no_more_values P
more_values P (x ∷ xs) all = next_value P x (after_commas xs) all.0 (more_values P xs all.1)

no_values : (P : Type 0) → AreJson P []
unfolding AreElements HaveDistinctNames
no_values P = record { values = no_elements; are = refl; printable = tt; distinct = λ p. tt }

joined_values : (P : Type 0) (xs : List (List ℕ)) → AllJson P xs → AreJson P (join_with_byte 44 xs)
joined_values P [] all = no_values P
joined_values P (x ∷ xs) all = subst (AreJson P) (sym (joined_after x xs)) (first_value P x (after_commas xs) all.0 (more_values P xs all.1))

pub joined_array : (P : Type 0) (xs : List (List ℕ)) → AllJson P xs → IsJson P (91 ∷ (join_with_byte 44 xs ++ 93 ∷ []))
joined_array P xs all = array_json P (join_with_byte 44 xs) (joined_values P xs all)

-- ---- objects
pub no_more_members : (P : Type 0) → HasMoreMembers P no_members []
unfolding AreMoreMembers ValuesHaveDistinctNames
no_more_members P = record { are = refl; printable = tt; distinct = λ p. tt }

pub no_member : (P : Type 0) → HasMembers P no_members []
unfolding AreMembers ValuesHaveDistinctNames
no_member P = record { are = refl; printable = tt; distinct = λ p. tt }

pub first_member : (P : Type 0) (k x y : List ℕ) (ms : Members) → IsUtf8 k → (j : IsJson P x) → HasMoreMembers P ms y → HasMembers P (member k j.value ms) ((json_string k ++ 58 ∷ x) ++ y)
unfolding AreMembers ValuesHaveDistinctNames
first_member P k x y ms h j m = record {
  are = record {
    one = json_string k ++ 58 ∷ x;
    others = y;
    one_is = record { string = json_string k; colon = 58 ∷ []; value = x; string_is = string_is k h; colon_is = alone 58; value_is = j.is; is = refl };
    others_are = m.are;
    is = refl;
  };
  printable = printable_append (json_string k ++ 58 ∷ x) y (printable_append (json_string k) (58 ∷ x) (printable_string k) (omega arith, j.printable)) m.printable;
  distinct = λ p. (j.distinct p, m.distinct p);
}

pub next_members : (P : Type 0) (k x : List ℕ) (v : Json) (ms : Members) → HasMembers P (member k v ms) x → HasMoreMembers P (member k v ms) (44 ∷ x)
unfolding AreMembers AreMoreMembers
next_members P k x v ms m = record {
  are = record { comma = 44 ∷ []; first = x; comma_is = alone 44; first_is = m.are; is = refl };
  printable = (omega arith, m.printable);
  distinct = m.distinct;
}

pub next_member : (P : Type 0) (k x y : List ℕ) (ms : Members) → IsUtf8 k → (j : IsJson P x) → HasMoreMembers P ms y → HasMoreMembers P (member k j.value ms) (44 ∷ ((json_string k ++ 58 ∷ x) ++ y))
next_member P k x y ms h j m = next_members P k ((json_string k ++ 58 ∷ x) ++ y) j.value ms (first_member P k x y ms h j m)

more_are : (ms ns : Members) (x y : List ℕ) → AreMoreMembers ms x → AreMoreMembers ns y → AreMoreMembers (joined_members ms ns) (x ++ y)
unfolding AreMoreMembers
more_are no_members ns x y h m = subst (λ (t : List ℕ). AreMoreMembers ns (t ++ y)) (sym h) m
more_are (member k v ms) ns x y h m =
    let f = h.first_is in
    record {
      comma = h.comma;
      first = f.one ++ (f.others ++ y);
      comma_is = h.comma_is;
      first_is = record { one = f.one; others = f.others ++ y; one_is = f.one_is; others_are = more_are ms ns f.others y f.others_are m; is = refl };
      is = ap (λ (t : List ℕ). t ++ y) (h.is ∙ ap (λ (t : List ℕ). h.comma ++ t) f.is) ∙ append_assoc h.comma (f.one ++ f.others) y ∙ ap (λ (t : List ℕ). h.comma ++ t) (append_assoc f.one f.others y);
    }

both_distinct : (ms ns : Members) → ValuesHaveDistinctNames ms → ValuesHaveDistinctNames ns → ValuesHaveDistinctNames (joined_members ms ns)
unfolding ValuesHaveDistinctNames
both_distinct no_members ns p q = q
both_distinct (member k v ms) ns p q = (p.0, both_distinct ms ns p.1 q)

pub more_members : (P : Type 0) (ms ns : Members) (x y : List ℕ) → HasMoreMembers P ms x → HasMoreMembers P ns y → HasMoreMembers P (joined_members ms ns) (x ++ y)
more_members P ms ns x y m n = record {
  are = more_are ms ns x y m.are n.are;
  printable = printable_append x y m.printable n.printable;
  distinct = λ p. both_distinct ms ns (m.distinct p) (n.distinct p);
}

pub object_json : (P : Type 0) (ms : Members) (x : List ℕ) → HasMembers P ms x → (P → AreDistinct (names_of ms)) → IsJson P (123 ∷ (x ++ 125 ∷ []))
unfolding IsValue HasDistinctNames
object_json P ms x m d = record {
  value = object ms;
  is = record { first = 123 ∷ []; content = x; last = 125 ∷ []; first_is = alone 123; content_is = m.are; last_is = alone 125; is = refl };
  printable = (omega arith, printable_append x (125 ∷ []) m.printable (omega arith, tt));
  distinct = λ p. (d p, m.distinct p);
}

pub empty_object : (P : Type 0) → IsJson P (123 ∷ 125 ∷ [])
unfolding IsValue HasDistinctNames AreMembers ValuesHaveDistinctNames
empty_object P = record {
  value = object no_members;
  is = record { first = 123 ∷ []; content = []; last = 125 ∷ []; first_is = alone 123; content_is = refl; last_is = alone 125; is = refl };
  printable = printable_known (123 ∷ 125 ∷ []) tt;
  distinct = λ p. (tt, tt);
}

members_are : (k : List ℕ) (v : Json) (ms ns : Members) (x y : List ℕ) → AreMembers (member k v ms) x → AreMoreMembers ns y → AreMembers (member k v (joined_members ms ns)) (x ++ y)
unfolding AreMembers
members_are k v ms ns x y h m = record {
  one = h.one;
  others = h.others ++ y;
  one_is = h.one_is;
  others_are = more_are ms ns h.others y h.others_are m;
  is = ap (λ (t : List ℕ). t ++ y) h.is ∙ append_assoc h.one h.others y;
}

-- members, and more
pub members_then : (P : Type 0) (k : List ℕ) (v : Json) (ms ns : Members) (x y : List ℕ) → HasMembers P (member k v ms) x → HasMoreMembers P ns y → HasMembers P (member k v (joined_members ms ns)) (x ++ y)
members_then P k v ms ns x y m n = record {
  are = members_are k v ms ns x y m.are n.are;
  printable = printable_append x y m.printable n.printable;
  distinct = λ p. both_distinct (member k v ms) ns (m.distinct p) (n.distinct p);
}

pub names_of-joined_members : (ms ns : Members) → names_of (joined_members ms ns) ≡ names_of ms ++ names_of ns
names_of-joined_members no_members ns = refl
names_of-joined_members (member k v ms) ns = ap (λ (l : List (List ℕ)). k ∷ l) (names_of-joined_members ms ns)

-- an object that is known to be one
pub record IsObject (P : Type 0) (text : List ℕ) : Type 0 where
  pub members : Members
  pub is : IsValue (object members) text
  pub printable : Printable text
  pub distinct : P → HasDistinctNames (object members)

pub closed_object : (P : Type 0) (ms : Members) (x : List ℕ) → HasMembers P ms x → (P → AreDistinct (names_of ms)) → IsObject P (123 ∷ (x ++ 125 ∷ []))
unfolding IsValue HasDistinctNames
closed_object P ms x m d = record {
  members = ms;
  is = record { first = 123 ∷ []; content = x; last = 125 ∷ []; first_is = alone 123; content_is = m.are; last_is = alone 125; is = refl };
  printable = (omega arith, printable_append x (125 ∷ []) m.printable (omega arith, tt));
  distinct = λ p. (d p, m.distinct p);
}

pub object_value : (P : Type 0) (text : List ℕ) → IsObject P text → IsJson P text
object_value P text o = record { value = object o.members; is = o.is; printable = o.printable; distinct = o.distinct }
