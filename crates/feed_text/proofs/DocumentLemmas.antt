-- The texts of elements and members, in sequence with commas between them.
use Rattle.std.proofs.Common.{◌≡◌, ℕ, List, [], ◌∷◌, ◌++◌, length, take, Result, Ok, Err, OnOk, IfErr, refl, ap, sym, ◌∙◌, append_assoc}
use Rattle.std.proofs.Math.Seq.{take-length}
use Rattle.std.proofs.lemmas.List.{append-nil}
use Rattle.std.specs.List.{join_with_byte}
use Rattle.std.specs.Prelude.{String}
use Rattle.std.specs.declared.alloc.Global.{Global}
use Rattle.rows_jsonb.specs.JsonTrees.{Tree, scalar, array, object, Scalar, Items, item, Members, member}
use Rattle.rows_jsonb.specs.JsonTreeViews.{items_view, members_view}
use Rattle.rows_jsonb.specs.declared.dom.JsonDom.{JsonDom}
use Rattle.rows_errors.specs.declared.fault.RowsError.{RowsError}
use Rattle.feed_text.specs.TextPieces.{IsAppendError}
use Rattle.feed_text.proofs.QuoteLemmas.{kept_more}
use Rattle.feed_text.specs.DocumentForms.{Form, IsScalarIn, IsDocumentIn, AreItemsIn, AreMembersIn, AppendsOne}

-- the texts yet to write, with a separator before them
abbrev pub led : List ℕ → List (List ℕ) → List ℕ
led separator [] = []
led separator (x ∷ xs) = separator ++ join_with_byte 44 (x ∷ xs)

-- one more text, and then a comma precedes
led_more : (separator x : List ℕ) (xs : List (List ℕ)) → led separator (x ∷ xs) ≡ separator ++ (x ++ led (44 ∷ []) xs)
led_more separator x [] = ap (λ t. separator ++ t) (sym (append-nil x))
led_more separator x (y ∷ ys) = refl

-- the separator and one more text are written
pub one_more : (out separated new separator next x base : List ℕ) (xs left : List (List ℕ)) → separated ≡ out ++ separator → new ≡ separated ++ x → next ≡ 44 ∷ [] → left ≡ x ∷ xs → out ++ led separator left ≡ base
    → new ++ led next xs ≡ base
one_more out separated new separator next x base xs left first second comma here is =
    ap (λ (t : List ℕ). t ++ led next xs) (second ∙ ap (λ (t : List ℕ). t ++ x) first)
    ∙ ap (λ (s : List ℕ). ((out ++ separator) ++ x) ++ led s xs) comma
    ∙ append_assoc (out ++ separator) x (led (44 ∷ []) xs)
    ∙ append_assoc out separator (x ++ led (44 ∷ []) xs)
    ∙ ap (λ (t : List ℕ). out ++ t) (sym (led_more separator x xs))
    ∙ ap (λ (l : List (List ℕ)). out ++ led separator l) (sym here)
    ∙ is

-- no text remains, and the bracket was written
pub closed : (old out new separator : List ℕ) (texts left : List (List ℕ)) (first last : ℕ) → left ≡ [] → out ++ led separator left ≡ (old ++ first ∷ []) ++ join_with_byte 44 texts → new ≡ out ++ last ∷ []
    → new ≡ old ++ (first ∷ (join_with_byte 44 texts ++ last ∷ []))
closed old out new separator texts left first last none is written =
    written
    ∙ ap (λ (t : List ℕ). t ++ last ∷ []) (sym (append-nil out) ∙ ap (λ (l : List (List ℕ)). out ++ led separator l) (sym none) ∙ is)
    ∙ append_assoc (old ++ first ∷ []) (join_with_byte 44 texts) (last ∷ [])
    ∙ append_assoc old (first ∷ []) (join_with_byte 44 texts ++ last ∷ [])

-- a key, a colon and a value are written
pub member_written : (separated keyed pointed new key value : List ℕ) → keyed ≡ separated ++ key → pointed ≡ keyed ++ 58 ∷ [] → new ≡ pointed ++ value → new ≡ separated ++ (key ++ (58 ∷ value))
member_written separated keyed pointed new key value first second third =
    third
    ∙ ap (λ (t : List ℕ). t ++ value) (second ∙ ap (λ (t : List ℕ). t ++ 58 ∷ []) first)
    ∙ append_assoc (separated ++ key) (58 ∷ []) value
    ∙ append_assoc separated key (58 ∷ value)

led_nothing : (ts : List (List ℕ)) → led [] ts ≡ join_with_byte 44 ts
led_nothing [] = refl
led_nothing (t ∷ ts) = refl

-- only what is before the texts is written so far
pub begun : (old out separator before : List ℕ) (ts : List (List ℕ)) → out ≡ old ++ before → separator ≡ [] → out ++ led separator ts ≡ (old ++ before) ++ join_with_byte 44 ts
begun old out separator before ts h e = rw (h, e, led_nothing ts) refl

-- ---- the texts of a form

pub scalar_shown : (f : Form) (t : Tree) (s : Scalar) (old new : List ℕ) → t ≡ scalar s → AppendsOne (IsScalarIn f s) old new → AppendsOne (IsDocumentIn f t) old new
unfolding IsDocumentIn
scalar_shown f t s old new is h = rw is (record { text = h.text; such = h.such; appended = h.appended })

pub item_shown : (f : Form) (t : Tree) (ts : Items) (x : List ℕ) (xs : List (List ℕ)) → IsDocumentIn f t x → AreItemsIn f ts xs → AreItemsIn f (item t ts) (x ∷ xs)
unfolding IsDocumentIn AreItemsIn AreMembersIn
item_shown f t ts x xs h e = (h, e)

pub no_items_shown : (f : Form) (ds : List JsonDom) → ds ≡ [] → AreItemsIn f (items_view ds) []
unfolding IsDocumentIn AreItemsIn AreMembersIn
no_items_shown f ds h = rw h refl

pub array_shown : (f : Form) (is : Items) (texts : List (List ℕ)) (old new : List ℕ) → AreItemsIn f is texts → new ≡ old ++ (91 ∷ (join_with_byte 44 texts ++ 93 ∷ [])) → AppendsOne (IsDocumentIn f (array is)) old new
unfolding IsDocumentIn AreItemsIn AreMembersIn
array_shown f is texts old new are h = record { text = 91 ∷ (join_with_byte 44 texts ++ 93 ∷ []); such = (texts, are, refl); appended = h }

pub member_shown : (f : Form) (k v : List ℕ) (t : Tree) (ms : Members) (xs : List (List ℕ)) → IsDocumentIn f t v → AreMembersIn f ms xs → AreMembersIn f (member k t ms) ((f.key k ++ (58 ∷ v)) ∷ xs)
unfolding IsDocumentIn AreItemsIn AreMembersIn
member_shown f k v t ms xs h e = ((v, h, refl), e)

pub no_members_shown : (f : Form) (es : List (String Global × JsonDom)) → es ≡ [] → AreMembersIn f (members_view es) []
unfolding IsDocumentIn AreItemsIn AreMembersIn
no_members_shown f es h = rw h refl

pub object_shown : (f : Form) (ms : Members) (texts : List (List ℕ)) (old new : List ℕ) → AreMembersIn f ms texts → new ≡ old ++ (123 ∷ (join_with_byte 44 texts ++ 125 ∷ [])) → AppendsOne (IsDocumentIn f (object ms)) old new
unfolding IsDocumentIn AreItemsIn AreMembersIn
object_shown f ms texts old new are h = record { text = 123 ∷ (join_with_byte 44 texts ++ 125 ∷ []); such = (texts, are, refl); appended = h }

-- a text was appended completely or not at all, so the text before is unchanged
pub kept_one : (P : List ℕ → Type 0) (old new : List ℕ) (r : Result Unit RowsError) → OnOk r (AppendsOne P old new) → IfErr r (λ e. IsAppendError e old new) → take (length old) new ≡ old
kept_one P old new (Ok u) whole none = kept_more old old new whole.text (take-length old) whole.appended
kept_one P old new (Err e) whole none = ap (take (length old)) none.1 ∙ take-length old

-- three texts were appended
pub three_written : (old one two new a b c : List ℕ) → one ≡ old ++ a → two ≡ one ++ b → new ≡ two ++ c → new ≡ old ++ (a ++ (b ++ c))
three_written old one two new a b c first second third =
    third ∙ ap (λ (t : List ℕ). t ++ c) (second ∙ ap (λ (t : List ℕ). t ++ b) first)
    ∙ append_assoc (old ++ a) b c
    ∙ append_assoc old a (b ++ c)
