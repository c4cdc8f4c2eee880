-- The elements and the members of a container, as they are written in sequence.
use Rattle.std.proofs.Common.{◌≡◌, ◌<◌, ◌≤◌, ◌+◌, ◌-◌, ℕ, suc, Bool, true, false, List, [], ◌∷◌, ◌++◌, Ok, Err, refl, sym, ap, ap₂, subst, ◌∙◌, append_assoc, arith}
use Rattle.std.proofs.lemmas.List.{append-nil}
use Rattle.std.specs.List.{join_with_byte}
use Rattle.std.specs.Str.{is_utf8}
use Rattle.rows_jsonb.specs.JsonTrees.{Tree, array, object, Items, no_items, item, Members, no_members}
use Rattle.rows_jsonb.specs.JsonbValues.{JsonbValue, elem_in, object_key, count_in, is_array_in, is_object_in}
use Rattle.rows_errors.specs.Readings.{Reading, ◌>>=◌}
use Rattle.rows_jsonb.specs.DocumentTrees.{Counted, items, member_trees, tree_of, utf8, values_read}
use Rattle.rows_jsonb.proofs.Building.{array_tree, object_tree, after_members, none_after_members, members_turn, members_end}
use Rattle.feed_text.specs.DocumentForms.{Form, IsDocumentIn, AreItemsIn, AreMembersIn, IsMemberIn, AppendsOne}
use Rattle.feed_text.specs.KeyOrder.{AreInOrder, read_key}
use Rattle.feed_text.specs.Containers.{typed}
use Rattle.feed_text.specs.DirectText.{separator, WritesTyped, WritesTree, WritesItems, WritesMembers, WritesMember, IsMember}
use Rattle.feed_text.proofs.OrderLemmas.{AllOf, all_push, all_numbers, along, count_all, count_push, count_insert, put_along, AreAlong, along_push, members_along}

-- ---- texts with commas between them

-- whether there is no text yet
abbrev pub TellsNone : Bool → List (List ℕ) → Type 0
TellsNone true texts = texts ≡ []
TellsNone false [] = ⊥
TellsNone false (t ∷ ts) = Unit {0}

joined_more : (xs : List (List ℕ)) (y x : List ℕ) → join_with_byte 44 (y ∷ xs) ++ (44 ∷ x) ≡ join_with_byte 44 ((y ∷ xs) ++ x ∷ [])
joined_more [] y x = refl
joined_more (z ∷ xs) y x = append_assoc y (44 ∷ join_with_byte 44 (z ∷ xs)) (44 ∷ x) ∙ ap (λ (t : List ℕ). y ++ (44 ∷ t)) (joined_more xs z x)

joined : (b : Bool) (xs : List (List ℕ)) (x : List ℕ) → TellsNone b xs → join_with_byte 44 xs ++ (separator b ++ x) ≡ join_with_byte 44 (xs ++ x ∷ [])
joined true xs x h = rw h refl
joined false [] x h = absurd h
joined false (y ∷ xs) x h = joined_more xs y x

some_told : (xs : List (List ℕ)) (x : List ℕ) → TellsNone false (xs ++ x ∷ [])
some_told [] x = tt
some_told (y ∷ xs) x = tt

-- one more text, after a separator
text_more : (b : Bool) (xs : List (List ℕ)) (x base out separated new : List ℕ) → TellsNone b xs → out ≡ base ++ join_with_byte 44 xs → separated ≡ out ++ separator b → new ≡ separated ++ x
    → new ≡ base ++ join_with_byte 44 (xs ++ x ∷ [])
text_more b xs x base out separated new none is first last =
    last ∙ ap (λ (t : List ℕ). t ++ x) (first ∙ ap (λ (t : List ℕ). t ++ separator b) is)
    ∙ append_assoc (base ++ join_with_byte 44 xs) (separator b) x
    ∙ append_assoc base (join_with_byte 44 xs) (separator b ++ x)
    ∙ ap (λ (t : List ℕ). base ++ t) (joined b xs x none)

-- ---- arrays

abbrev pub items_before : List Tree → Items → Items
items_before [] rest = rest
items_before (t ∷ ts) rest = item t (items_before ts rest)

abbrev items_after : List Tree → ℕ → Counted Items → Reading (Counted Items)
items_after ts used x = Ok (items_before ts x.0, used + x.1)

abbrev pub after_items : List Tree → ℕ → Reading (Counted Items) → Reading (Counted Items)
after_items ts used found = found >>= items_after ts used

-- one text for each element
abbrev pub AreTexts : Form → List Tree → List (List ℕ) → Type 0
AreTexts f [] xs = xs ≡ []
AreTexts f (t ∷ ts) [] = ⊥
AreTexts f (t ∷ ts) (x ∷ xs) = IsDocumentIn f t x × AreTexts f ts xs

texts_push : (f : Form) (ts : List Tree) (xs : List (List ℕ)) (t : Tree) (x : List ℕ) → AreTexts f ts xs → IsDocumentIn f t x → AreTexts f (ts ++ t ∷ []) (xs ++ x ∷ [])
texts_push f [] xs t x all one = rw all (one, refl)
texts_push f (s ∷ ts) [] t x all one = absurd all
texts_push f (s ∷ ts) (y ∷ xs) t x all one = (all.0, texts_push f ts xs t x all.1 one)

items_before_texts : (f : Form) (ts : List Tree) (xs : List (List ℕ)) → AreTexts f ts xs → AreItemsIn f (items_before ts no_items) xs
unfolding IsDocumentIn AreItemsIn
items_before_texts f [] xs all = all
items_before_texts f (t ∷ ts) [] all = all
items_before_texts f (t ∷ ts) (x ∷ xs) all = (all.0, items_before_texts f ts xs all.1)

-- the text of an array was appended
array_closed : (f : Form) (is : Items) (texts : List (List ℕ)) (old begun out new : List ℕ) → AreItemsIn f is texts → begun ≡ old ++ 91 ∷ [] → out ≡ begun ++ join_with_byte 44 texts → new ≡ out ++ 93 ∷ [] → AppendsOne (IsDocumentIn f (array is)) old new
unfolding IsDocumentIn
array_closed f is texts old begun out new are begins so ends = record {
  text = 91 ∷ (join_with_byte 44 texts ++ 93 ∷ []);
  such = (texts, are, refl);
  appended =
      ends ∙ ap (λ (t : List ℕ). t ++ 93 ∷ []) (so ∙ ap (λ (t : List ℕ). t ++ join_with_byte 44 texts) begins)
      ∙ append_assoc (old ++ 91 ∷ []) (join_with_byte 44 texts) (93 ∷ [])
      ∙ append_assoc old (91 ∷ []) (join_with_byte 44 texts ++ 93 ∷ []);
}

-- the text of an object was appended
object_closed : (f : Form) (ms : Members) (texts : List (List ℕ)) (old begun out new : List ℕ) → AreMembersIn f ms texts → begun ≡ old ++ 123 ∷ [] → out ≡ begun ++ join_with_byte 44 texts → new ≡ out ++ 125 ∷ [] → AppendsOne (IsDocumentIn f (object ms)) old new
unfolding IsDocumentIn
object_closed f ms texts old begun out new are begins so ends = record {
  text = 123 ∷ (join_with_byte 44 texts ++ 125 ∷ []);
  such = (texts, are, refl);
  appended =
      ends ∙ ap (λ (t : List ℕ). t ++ 125 ∷ []) (so ∙ ap (λ (t : List ℕ). t ++ join_with_byte 44 texts) begins)
      ∙ append_assoc (old ++ 123 ∷ []) (join_with_byte 44 texts) (125 ∷ [])
      ∙ append_assoc old (123 ∷ []) (join_with_byte 44 texts ++ 125 ∷ []);
}

before_push : (ts : List Tree) (t : Tree) (rest : Items) → items_before ts (item t rest) ≡ items_before (ts ++ t ∷ []) rest
before_push [] t rest = refl
before_push (s ∷ ts) t rest = ap (item s) (before_push ts t rest)

none_after : (found : Reading (Counted Items)) → found ≡ after_items [] 0 found
none_after (Ok x) = ap (λ n. Ok (x.0, n)) (omega arith)
none_after (Err e) = refl

abbrev with_item : Reading (Counted Items) → Counted Tree → Reading (Counted Items)
with_item rest t = rest >>= (λ more. Ok (item t.0 more.0, t.1 + more.1))

after_push : (ts : List Tree) (t : Tree) (used n : ℕ) (rest : Reading (Counted Items)) → after_items ts used (with_item rest (t, n)) ≡ after_items (ts ++ t ∷ []) (used + n) rest
after_push ts t used n (Ok x) = ap₂ (λ a b. Ok (a, b)) (before_push ts t x.0) (omega arith)
after_push ts t used n (Err e) = refl

-- some elements of an array are written
pub record ItemsSoFar (f : Form) (depth : ℕ) (value : JsonbValue) (pos budget left : ℕ) (base out : List ℕ) (is_first : Bool) : Type 0 where
  pub done : List Tree
  pub used : ℕ
  pub is : items (tree_of depth) (elem_in value) 0 (count_in value) ≡ after_items done used (items (tree_of depth) (elem_in value) pos (count_in value - pos))
  pub taken : used + left ≡ budget
  pub texts : List (List ℕ)
  pub are : AreTexts f done texts
  pub text : out ≡ base ++ join_with_byte 44 texts
  pub none : TellsNone is_first texts

pub no_items_yet : (f : Form) (depth : ℕ) (value : JsonbValue) (budget : ℕ) (base out : List ℕ) → out ≡ base → ItemsSoFar f depth value 0 budget budget base out true
no_items_yet f depth value budget base out is =
    let all = items (tree_of depth) (elem_in value) 0 (count_in value) in
    let whole : count_in value ≡ count_in value - 0 = omega arith in record {
      done = [];
      used = 0;
      texts = [];
      are = refl;
      is = none_after all ∙ ap (λ (k : ℕ). after_items [] 0 (items (tree_of depth) (elem_in value) 0 k)) whole;
      taken = omega arith;
      text = is ∙ sym (append-nil base);
      none = refl;
    }

one_item_more : (f : Form) (depth : ℕ) (value seen : JsonbValue) (pos budget mid left : ℕ) (base out separated new : List ℕ) (is_first : Bool) → pos < count_in value → elem_in value pos ≡ Ok seen
    → ItemsSoFar f depth value pos budget mid base out is_first → separated ≡ out ++ separator is_first → WritesTree f depth seen mid left separated new → ItemsSoFar f depth value (pos + 1) budget left base new false
one_item_more f depth value seen pos budget mid left base out separated new is_first below here so first one =
    let below_it = tree_of depth in
    let at = elem_in value in
    let more : count_in value - pos ≡ suc (count_in value - (pos + 1)) = omega (arith, below) in
    let rest = items below_it at (pos + 1) (count_in value - (pos + 1)) in
    let written = one.text in
    let tree = one.is in
    let step : after_items so.done so.used (items below_it at pos (count_in value - pos)) ≡ after_items (so.done ++ one.tree ∷ []) (so.used + one.count) rest = rw (more, here, tree) (after_push so.done one.tree so.used one.count rest) in record {
      done = so.done ++ one.tree ∷ [];
      used = so.used + one.count;
      is = so.is ∙ step;
      taken = omega (arith, so.taken, one.taken);
      texts = so.texts ++ written.text ∷ [];
      are = texts_push f so.done so.texts one.tree written.text so.are written.such;
      text = text_more is_first so.texts written.text base out separated new so.none so.text first written.appended;
      none = some_told so.texts written.text;
    }

pub all_items : (f : Form) (depth : ℕ) (value : JsonbValue) (pos budget left : ℕ) (old begun out new : List ℕ) (is_first : Bool) → count_in value ≤ pos → begun ≡ old ++ 91 ∷ [] → ItemsSoFar f depth value pos budget left begun out is_first → new ≡ out ++ 93 ∷ []
    → WritesItems f depth value budget left old new
all_items f depth value pos budget left old begun out new is_first end begins so ends =
    let none : count_in value - pos ≡ 0 = omega (arith, end) in
    record {
      found = items_before so.done no_items;
      count = so.used;
      is = so.is ∙ ap (λ (k : ℕ). after_items so.done so.used (items (tree_of depth) (elem_in value) pos k)) none ∙ ap (λ (n : ℕ). Ok (items_before so.done no_items, n)) (omega arith);
      taken = so.taken;
      text = array_closed f (items_before so.done no_items) so.texts old begun out new (items_before_texts f so.done so.texts so.are) begins so.text ends;
    }

pub array_written : (f : Form) (depth d : ℕ) (value : JsonbValue) (budget mid left : ℕ) (old new : List ℕ) → depth ≡ suc d → is_array_in value ≡ true → mid + 1 ≡ budget → WritesItems f d value mid left old new → WritesTree f depth value budget left old new
array_written f depth d value budget mid left old new deep is_array one w =
    let found = w.is in record {
      tree = array w.found;
      count = w.count + 1;
      is = array_tree depth d value deep is_array ∙ rw found refl;
      taken = omega (arith, one, w.taken);
      text = w.text;
    }

-- ---- objects

abbrev pub read_tree : Reading (Counted Tree) → Tree
read_tree (Ok t) = t.0
read_tree (Err e) = array no_items

abbrev pub read_count : Reading (Counted Tree) → ℕ
read_count (Ok t) = t.1
read_count (Err e) = 0

abbrev pub keys_of : JsonbValue → ℕ → List ℕ
keys_of value p = read_key (object_key value p)

abbrev pub trees_of : ℕ → JsonbValue → ℕ → Tree
trees_of depth value p = read_tree (elem_in value p >>= tree_of depth)

abbrev pub counts_of : ℕ → JsonbValue → ℕ → ℕ
counts_of depth value p = read_count (elem_in value p >>= tree_of depth)

-- the member exists
abbrev pub IsThere : ℕ → JsonbValue → ℕ → Type 0
IsThere depth value p = IsMember depth value p (keys_of value p) (trees_of depth value p) (counts_of depth value p)

same_key : (value : JsonbValue) (p : ℕ) (k : List ℕ) → object_key value p ≡ Ok k → k ≡ keys_of value p
same_key value p k h = sym (ap read_key h)

same_found : (depth : ℕ) (value seen : JsonbValue) (p : ℕ) (t : Counted Tree) → elem_in value p ≡ Ok seen → tree_of depth seen ≡ Ok t → (elem_in value p >>= tree_of depth) ≡ Ok t
same_found depth value seen p t here tree = rw here tree

same_tree : (depth : ℕ) (value seen : JsonbValue) (p : ℕ) (t : Counted Tree) → elem_in value p ≡ Ok seen → tree_of depth seen ≡ Ok t → (t.0 ≡ trees_of depth value p) × (t.1 ≡ counts_of depth value p)
same_tree depth value seen p t here tree = let e = same_found depth value seen p t here tree in (sym (ap read_tree e), sym (ap read_count e))

there : (depth : ℕ) (value : JsonbValue) (p : ℕ) (k : List ℕ) (t : Tree) (n : ℕ) → IsMember depth value p k t n → IsThere depth value p
there depth value p k t n m =
    let key = same_key value p k m.key_is in
    let same = same_tree depth value m.seen p (t, n) m.seen_is m.is in record {
      seen = m.seen;
      key_is = m.key_is ∙ ap (λ (s : List ℕ). Ok s) key;
      is_text = subst (λ (s : List ℕ). is_utf8 s ≡ true) key m.is_text;
      seen_is = m.seen_is;
      is = m.is ∙ ap₂ (λ (a : Tree) (b : ℕ). Ok (a, b)) same.0 same.1;
    }

utf8_found : (s : List ℕ) → is_utf8 s ≡ true → utf8 s ≡ Ok s
utf8_found s h = rw h refl

module _ (depth : ℕ) (value : JsonbValue) where
  -- the sorted members are those that the definition finds, up to the same index
  members_so_far : (n : ℕ) (order : List ℕ) → AreInOrder (keys_of value) n order → ((p : ℕ) → p < n → IsThere depth value p) → (k : ℕ)
      → member_trees (tree_of depth) (object_key value) (elem_in value) 0 (n + k) no_members
      ≡ after_members (count_all (keys_of value) (trees_of depth value) (counts_of depth value) order) (member_trees (tree_of depth) (object_key value) (elem_in value) n k (along (keys_of value) (trees_of depth value) (counts_of depth value) order))
  members_so_far _ _ AreInOrder.none all k =
      let e : 0 + k ≡ k = omega arith in
      ap (λ (j : ℕ). member_trees (tree_of depth) (object_key value) (elem_in value) 0 j no_members) e ∙ none_after_members (member_trees (tree_of depth) (object_key value) (elem_in value) 0 k no_members)
  members_so_far _ _ (AreInOrder.more n before after order first last) all k =
      let below = tree_of depth in
      let keys = keys_of value in
      let trees = trees_of depth value in
      let counts = counts_of depth value in
      let found = member_trees below (object_key value) (elem_in value) in
      let m = all n (omega arith) in
      let fewer : (p : ℕ) → p < n → IsThere depth value p = λ p h. all p (omega (arith, h)) in
      let e : (n + 1) + k ≡ n + suc k = omega arith in
      ap (λ (j : ℕ). found 0 j no_members) e
      ∙ members_so_far n (before ++ after) order fewer (suc k)
      ∙ members_turn below (values_read depth) (object_key value) (elem_in value) (along keys trees counts (before ++ after)) (trees n) (keys n) (keys n) (count_all keys trees counts (before ++ after)) (counts n) n (suc k) k m.seen refl m.key_is m.seen_is (utf8_found (keys n) m.is_text) m.is
      ∙ ap₂ (λ (c : ℕ) (ms : Members). after_members c (found (n + 1) k ms)) (count_insert keys trees counts before after n) (put_along keys trees counts before after n first last)

  pub members_are : (n : ℕ) (order : List ℕ) → AreInOrder (keys_of value) n order → AllOf (IsThere depth value) order
      → member_trees (tree_of depth) (object_key value) (elem_in value) 0 n no_members
      ≡ Ok (along (keys_of value) (trees_of depth value) (counts_of depth value) order, count_all (keys_of value) (trees_of depth value) (counts_of depth value) order)
  members_are n order are all =
      let e : n ≡ n + 0 = omega arith in
      ap (λ (j : ℕ). member_trees (tree_of depth) (object_key value) (elem_in value) 0 j no_members) e
      ∙ members_so_far n order are (all_numbers (keys_of value) (IsThere depth value) n order are all) 0
      ∙ members_end (tree_of depth) (values_read depth) (object_key value) (elem_in value) (along (keys_of value) (trees_of depth value) (counts_of depth value) order) (count_all (keys_of value) (trees_of depth value) (counts_of depth value) order) n 0 refl

-- some members of an object are written
pub record MembersSoFar (f : Form) (depth : ℕ) (value : JsonbValue) (done : List ℕ) (budget left : ℕ) (base out : List ℕ) (is_first : Bool) : Type 0 where
  pub there : AllOf (IsThere depth value) done
  pub taken : count_all (keys_of value) (trees_of depth value) (counts_of depth value) done + left ≡ budget
  pub texts : List (List ℕ)
  pub are : AreAlong f (keys_of value) (trees_of depth value) (counts_of depth value) done texts
  pub text : out ≡ base ++ join_with_byte 44 texts
  pub none : TellsNone is_first texts

pub no_members_yet : (f : Form) (depth : ℕ) (value : JsonbValue) (budget : ℕ) (base out : List ℕ) → out ≡ base → MembersSoFar f depth value [] budget budget base out true
no_members_yet f depth value budget base out is = record { there = tt; taken = omega arith; texts = []; are = refl; text = is ∙ sym (append-nil base); none = refl }

pub one_member_more : (f : Form) (depth : ℕ) (value : JsonbValue) (done more : List ℕ) (pos budget mid left : ℕ) (base out separated new : List ℕ) (is_first : Bool) → more ≡ done ++ pos ∷ []
    → MembersSoFar f depth value done budget mid base out is_first → separated ≡ out ++ separator is_first → WritesMember f depth value pos mid left separated new → MembersSoFar f depth value more budget left base new false
one_member_more f depth value done more pos budget mid left base out separated new is_first one_more so first one =
    let keys = keys_of value in
    let trees = trees_of depth value in
    let counts = counts_of depth value in
    let m = one.is in
    let key = same_key value pos one.key m.key_is in
    let same = same_tree depth value m.seen pos (one.tree, one.count) m.seen_is m.is in
    let written = one.text in
    let such : IsMemberIn f (keys pos) (trees pos) written.text = subst (λ (t : Tree). IsMemberIn f (keys pos) t written.text) same.0 (subst (λ (k : List ℕ). IsMemberIn f k one.tree written.text) key written.such) in
    subst (λ (ps : List ℕ). MembersSoFar f depth value ps budget left base new false) (sym one_more) (record {
      there = all_push (IsThere depth value) done pos so.there (there depth value pos one.key one.tree one.count m);
      taken = omega (arith, so.taken, one.taken, count_push keys trees counts done pos, same.1);
      texts = so.texts ++ written.text ∷ [];
      are = along_push f keys trees counts done so.texts pos written.text so.are such;
      text = text_more is_first so.texts written.text base out separated new so.none so.text first written.appended;
      none = some_told so.texts written.text;
    })

pub all_members : (f : Form) (depth : ℕ) (value : JsonbValue) (order done : List ℕ) (budget left : ℕ) (old begun out new : List ℕ) (is_first : Bool) → done ≡ order → AreInOrder (keys_of value) (count_in value) order → begun ≡ old ++ 123 ∷ []
    → MembersSoFar f depth value done budget left begun out is_first → new ≡ out ++ 125 ∷ [] → WritesMembers f depth value budget left old new
all_members f depth value order done budget left old begun out new is_first whole are begins so ends =
    let keys = keys_of value in
    let trees = trees_of depth value in
    let counts = counts_of depth value in
    let all = subst (AllOf (IsThere depth value)) whole so.there in
    let along_all = subst (λ (ps : List ℕ). AreAlong f keys trees counts ps so.texts) whole so.are in record {
      found = along keys trees counts order;
      count = count_all keys trees counts order;
      is = members_are depth value (count_in value) order are all;
      taken = ap (λ (ps : List ℕ). count_all keys trees counts ps + left) (sym whole) ∙ so.taken;
      text = object_closed f (along keys trees counts order) so.texts old begun out new (members_along f keys trees counts order so.texts along_all) begins so.text ends;
    }

pub object_written : (f : Form) (depth d : ℕ) (value : JsonbValue) (budget mid left : ℕ) (old new : List ℕ) → depth ≡ suc d → is_object_in value ≡ true → mid + 1 ≡ budget → WritesMembers f d value mid left old new → WritesTree f depth value budget left old new
object_written f depth d value budget mid left old new deep is_object one w =
    let found = w.is in record {
      tree = object w.found;
      count = w.count + 1;
      is = object_tree depth d value deep is_object ∙ rw found refl;
      taken = omega (arith, one, w.taken);
      text = w.text;
    }

-- a key, a colon and a value were appended
pub member_is : (f : Form) (depth : ℕ) (value : JsonbValue) (pos type_byte budget left : ℕ) (old keyed new key bytes : List ℕ) → object_key value pos ≡ Ok key → is_utf8 key ≡ true → keyed ≡ old ++ (f.key key ++ 58 ∷ [])
    → elem_in value pos ≡ typed type_byte bytes → WritesTyped f depth type_byte bytes budget left keyed new → WritesMember f depth value pos budget left old new
member_is f depth value pos type_byte budget left old keyed new key bytes found valid first here w =
    let t = w.tree in
    let value_text = t.text in record {
      key = key;
      tree = t.tree;
      count = t.count;
      is = record { seen = w.value; key_is = found; is_text = valid; seen_is = here ∙ w.is; is = t.is };
      taken = t.taken;
      text = record {
        text = f.key key ++ (58 ∷ value_text.text);
        such = (value_text.text, value_text.such, refl);
        appended =
            value_text.appended ∙ ap (λ (l : List ℕ). l ++ value_text.text) first
            ∙ append_assoc old (f.key key ++ 58 ∷ []) value_text.text
            ∙ ap (λ (l : List ℕ). old ++ l) (append_assoc (f.key key) (58 ∷ []) value_text.text);
      };
    }

-- the text of a container with this type byte was appended
pub typed_tree : (f : Form) (depth type_byte : ℕ) (bytes : List ℕ) (value : JsonbValue) (budget left : ℕ) (old new : List ℕ) → typed type_byte bytes ≡ Ok value → WritesTree f depth value budget left old new → WritesTyped f depth type_byte bytes budget left old new
typed_tree f depth type_byte bytes value budget left old new is w = record { value = value; is = is; tree = w }

pub one_item_written : (f : Form) (depth : ℕ) (value : JsonbValue) (pos type_byte budget mid left : ℕ) (bytes base out separated new : List ℕ) (is_first : Bool) → pos < count_in value → elem_in value pos ≡ typed type_byte bytes
    → ItemsSoFar f depth value pos budget mid base out is_first → separated ≡ out ++ separator is_first → WritesTyped f depth type_byte bytes mid left separated new → ItemsSoFar f depth value (pos + 1) budget left base new false
one_item_written f depth value pos type_byte budget mid left bytes base out separated new is_first below here so first w =
    one_item_more f depth value w.value pos budget mid left base out separated new is_first below (here ∙ w.is) so first w.tree
