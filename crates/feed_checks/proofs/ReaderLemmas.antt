-- Readers find the values that their formats state: readers of single fields, and of fields in sequence.
use Rattle.std.proofs.Common.{◌≡◌, ◌≤◌, ◌++◌, ℕ, Bool, true, false, cond, List, [], ◌∷◌, length, take, drop, Option, Some, None, refl, sym, ap, subst, ◌∙◌, arith, append_assoc, leb}
use Rattle.std.specs.Prelude.{◌==◌, option_map}
use Rattle.std.proofs.lemmas.Bool.{le-leb, leb-true, eqb-true}
use Rattle.std.proofs.lemmas.List.{length-append, length-take-le, take-append-drop, append-nil}
use Rattle.std.proofs.Math.Seq.{take-append_seam, drop-append_seam}
use Rattle.wire_buf.specs.LenencSplit.{split_number, split_lenenc}
use Rattle.wire_buf.specs.Numbers.{IsLenenc, IsShortString, IsLenencString}
use Rattle.wire_buf.specs.Encoding.{Begins, ◌⨾◌, Both, Then, Alone}
use Rattle.wire_buf.proofs.LenencLemmas.{split_number-sound, split_number-complete, split_lenenc-sound, split_lenenc-complete}
use Rattle.wire_buf.proofs.EncodingLemmas.{same_parts}
use Rattle.wire_fields.specs.ByteStrings.{IsAll}
use Rattle.rows_table_map.specs.TableMaps.{little_endian, plain_bytes, Skipped}
use Rattle.rows_event_body.specs.RowsEventFields.{IsMaybe}
use Rattle.feed_checks.specs.Readers.{Reader, IsReaderOf, if_found, bytes_reader, skip_reader, rest_reader, short_string_bytes_reader, lenenc_string_bytes_reader, optional_reader, body_by, IsBodyOf}
use Rattle.feed_checks.proofs.PairReaders.{pair_reader, dependent_pair_reader, dependent_reader}

-- a step of a reader that found something
pub bind-some : {A B : Type 0} (o : Option A) (f : A → Option B) (y : B) → if_found o f ≡ Some y → (x : A) × (o ≡ Some x) × (f x ≡ Some y)
bind-some None f y h = absurd cc
bind-some (Some x) f y h = (x, refl, h)

-- a test that passed
if_some : {A : Type 0} (t : Bool) (o : Option A) (x : A) → cond t o None ≡ Some x → (t ≡ true) × (o ≡ Some x)
if_some true o x h = (refl, h)
if_some false o x h = absurd cc

-- the value that was found
pub some_is : {A : Type 0} (a b : A) → Some a ≡ Some b → a ≡ b
some_is {A = A} a b h = ap (λ (o : Option A). found o) h
  where
    found : Option A → A
    found None = a
    found (Some x) = x

some_pair : {A B : Type 0} (a x : A) (b y : B) → a ≡ x → b ≡ y → ◌≡◌ {A = Option (A × B)} (Some (a, b)) (Some (x, y))
some_pair a x b y e f = λ i. Some (e i, f i)

-- ---- fields

pub number_reader : (n : ℕ) → IsReaderOf (little_endian n) (split_number n)
number_reader n = record { found = λ v x rest e. split_number-sound n v x rest e; here = λ v bytes rest h. split_number-complete n v bytes rest h }

pub lenenc_reader : IsReaderOf (Alone IsLenenc) split_lenenc
lenenc_reader = record { found = λ v x rest e. split_lenenc-sound v x rest e; here = λ v bytes rest h. split_lenenc-complete v bytes rest h }

text_found : (n : ℕ) (v x rest : List ℕ) → bytes_reader n x ≡ Some (v, rest) → Begins (plain_bytes n v) x rest
text_found n v x rest e =
    let t = if_some (leb n (length x)) (Some (take n x, drop n x)) (v, rest) e in
    let one = (same_parts (take n x) v (drop n x) rest t.1).0 in
    let two = (same_parts (take n x) v (drop n x) rest t.1).1 in
    record {
      bytes = take n x;
      joined = sym (take-append-drop n x) ∙ ap (λ (l : List ℕ). take n x ++ l) two;
      is = record { size = length-take-le n x (leb-true n (length x) t.0); bytes_are = sym one };
    }

long_enough : (n : ℕ) (bytes rest : List ℕ) → length bytes ≡ n → n ≤ length (bytes ++ rest)
long_enough n bytes rest e = omega (arith, e, length-append bytes rest)

prefix_of : (n : ℕ) (bytes rest : List ℕ) → length bytes ≡ n → (take n (bytes ++ rest) ≡ bytes) × (drop n (bytes ++ rest) ≡ rest)
prefix_of n bytes rest e = (ap (λ (k : ℕ). take k (bytes ++ rest)) (sym e) ∙ take-append_seam bytes rest, ap (λ (k : ℕ). drop k (bytes ++ rest)) (sym e) ∙ drop-append_seam bytes rest)

text_here : (n : ℕ) (v bytes rest : List ℕ) → plain_bytes n v bytes rest → bytes_reader n (bytes ++ rest) ≡ Some (v, rest)
text_here n v bytes rest h =
    let f = prefix_of n bytes rest h.size in
    rw (le-leb n (length (bytes ++ rest)) (long_enough n bytes rest h.size), f.0, f.1, h.bytes_are) refl

pub text_reader : (n : ℕ) → IsReaderOf (plain_bytes n) (bytes_reader n)
text_reader n = record { found = text_found n; here = text_here n }

skipped_found : (v : Unit {0}) (x rest : List ℕ) → skip_reader x ≡ Some (v, rest) → Begins (Skipped v) x rest
skipped_found v x rest e =
    let t = if_some (leb 1 (length x)) (Some (tt, drop 1 x)) (v, rest) e in
    let two = (same_parts tt v (drop 1 x) rest t.1).1 in
    record {
      bytes = take 1 x;
      joined = sym (take-append-drop 1 x) ∙ ap (λ (l : List ℕ). take 1 x ++ l) two;
      is = length-take-le 1 x (leb-true 1 (length x) t.0);
    }

skipped_here : (v : Unit {0}) (bytes rest : List ℕ) → Skipped v bytes rest → skip_reader (bytes ++ rest) ≡ Some (v, rest)
skipped_here v bytes rest h = rw (le-leb 1 (length (bytes ++ rest)) (long_enough 1 bytes rest h), (prefix_of 1 bytes rest h).1) refl

pub skipped_reader : IsReaderOf Skipped skip_reader
skipped_reader = record { found = skipped_found; here = skipped_here }

all_found : (v x rest : List ℕ) → rest_reader x ≡ Some (v, rest) → Begins (IsAll v) x rest
all_found v x rest e =
    let one = (same_parts x v [] rest e).0 in
    let two = (same_parts x v [] rest e).1 in
    record {
      bytes = x;
      joined = sym (append-nil x) ∙ ap (λ (l : List ℕ). x ++ l) two;
      is = record { bytes_are = sym one; ends = sym two };
    }

all_here : (v bytes rest : List ℕ) → IsAll v bytes rest → rest_reader (bytes ++ rest) ≡ Some (v, rest)
all_here v bytes rest h = rw (h.ends, append-nil bytes, h.bytes_are) refl

pub all_reader : IsReaderOf IsAll rest_reader
all_reader = record { found = all_found; here = all_here }

-- ---- fields in sequence

module _ {A B : Type 0} (first : A → List ℕ → List ℕ → Type 0) (second : A → B → List ℕ → List ℕ → Type 0) (p : Reader A) (q : A → Reader B)
    (is : IsReaderOf first p) (then : (v : A) → IsReaderOf (second v) (q v)) where
  -- the second was found after the first
  Row : A → B → List ℕ → List ℕ → Type 0
  Row v w x rest = Begins (λ bytes r. (first v ⨾ second v w) bytes r) x rest

  row_begins : (v : A) (w : B) (x m rest : List ℕ) → Begins (first v) x m → Begins (second v w) m rest → Row v w x rest
  unfolding Row
  row_begins v w x m rest f s = record {
    bytes = f.bytes ++ s.bytes;
    joined = f.joined ∙ ap (λ (l : List ℕ). f.bytes ++ l) s.joined ∙ sym (append_assoc f.bytes s.bytes rest);
    is = record {
      prefix = f.bytes;
      suffix = s.bytes;
      joined = refl;
      first_is = subst (λ (l : List ℕ). first v f.bytes l) s.joined f.is;
      second_is = s.is;
    };
  }

  then_found : (v : A) (w : B) (x rest : List ℕ) → dependent_pair_reader p q x ≡ Some ((v, w), rest) → Begins (Then first second (v, w)) x rest
  unfolding Row
  then_found v w x rest e =
      let a = bind-some (p x) (λ a. if_found (q a.0 a.1) (λ b. Some ((a.0, b.0), b.1))) ((v, w), rest) e in
      let b = bind-some (q a.0.0 a.0.1) (λ b. Some ((a.0.0, b.0), b.1)) ((v, w), rest) a.2 in
      let both = (same_parts (a.0.0, b.0.0) (v, w) b.0.1 rest b.2).0 in
      let ends = (same_parts (a.0.0, b.0.0) (v, w) b.0.1 rest b.2).1 in
      let found = row_begins a.0.0 b.0.0 x a.0.1 b.0.1 (is.found a.0.0 x a.0.1 a.1) ((then a.0.0).found b.0.0 a.0.1 b.0.1 b.1) in
      let whole : Begins (Then first second (a.0.0, b.0.0)) x b.0.1 = record { bytes = found.bytes; joined = found.joined; is = found.is } in
      subst (λ (l : List ℕ). Begins (Then first second (v, w)) x l) ends (subst (λ (t : A × B). Begins (Then first second t) x b.0.1) both whole)

  then_here : (v : A) (w : B) (bytes rest : List ℕ) → Then first second (v, w) bytes rest → dependent_pair_reader p q (bytes ++ rest) ≡ Some ((v, w), rest)
  then_here v w bytes rest h =
      let split : bytes ++ rest ≡ h.prefix ++ (h.suffix ++ rest) = ap (λ (l : List ℕ). l ++ rest) h.joined ∙ append_assoc h.prefix h.suffix rest in
      rw (split, is.here v h.prefix (h.suffix ++ rest) h.first_is, (then v).here w h.suffix rest h.second_is) refl

  pub then_reader : IsReaderOf (Then first second) (dependent_pair_reader p q)
  then_reader = record { found = λ (v, w) x rest e. then_found v w x rest e; here = λ (v, w) bytes rest h. then_here v w bytes rest h }

  -- the second alone
  chained : (v : A) (w : B) (x m rest : List ℕ) → p x ≡ Some (v, m) → q v m ≡ Some (w, rest) → dependent_pair_reader p q x ≡ Some ((v, w), rest)
  chained v w x m rest e f = rw (e, f) refl

  after_found : (w : B) (x rest : List ℕ) → dependent_reader p q x ≡ Some (w, rest) → (v : A) × Begins (Then first second (v, w)) x rest
  after_found w x rest e =
      let a = bind-some (p x) (λ a. q a.0 a.1) (w, rest) e in
      (a.0.0, then_found a.0.0 w x rest (chained a.0.0 w x a.0.1 rest a.1 a.2))

  after_here : (v : A) (w : B) (bytes rest : List ℕ) → Then first second (v, w) bytes rest → dependent_reader p q (bytes ++ rest) ≡ Some (w, rest)
  after_here v w bytes rest h =
      let split : bytes ++ rest ≡ h.prefix ++ (h.suffix ++ rest) = ap (λ (l : List ℕ). l ++ rest) h.joined ∙ append_assoc h.prefix h.suffix rest in
      rw (split, is.here v h.prefix (h.suffix ++ rest) h.first_is, (then v).here w h.suffix rest h.second_is) refl

  pub after_reader : (format : B → List ℕ → List ℕ → Type 0) → ((v : A) (w : B) (bytes rest : List ℕ) → Then first second (v, w) bytes rest → format w bytes rest)
      → ((w : B) (bytes rest : List ℕ) → format w bytes rest → (v : A) × Then first second (v, w) bytes rest) → IsReaderOf format (dependent_reader p q)
  after_reader format into out = record {
    found = λ w x rest e. let f = after_found w x rest e in record { bytes = f.1.bytes; joined = f.1.joined; is = into f.0 w f.1.bytes rest f.1.is };
    here = λ w bytes rest h. let o = out w bytes rest h in after_here o.0 w bytes rest o.1;
  }

pub both_reader : {A B : Type 0} (first : A → List ℕ → List ℕ → Type 0) (second : B → List ℕ → List ℕ → Type 0) (p : Reader A) (q : Reader B) → IsReaderOf first p → IsReaderOf second q
    → IsReaderOf (Both first second) (pair_reader p q)
both_reader first second p q is then =
    let t = then_reader first (λ v. second) p (λ v. q) is (λ v. then) in
    record { found = λ v x rest e. let b = t.found v x rest e in record { bytes = b.bytes; joined = b.joined; is = b.is }; here = λ v bytes rest h. t.here v bytes rest h }

-- ---- strings, and optional fields

pub short_string_reader : IsReaderOf (Alone IsShortString) short_string_bytes_reader
short_string_reader =
    after_reader (little_endian 1) plain_bytes (split_number 1) bytes_reader (number_reader 1) text_reader (Alone IsShortString)
    (λ n v bytes rest h.
    record {
      prefix = h.prefix;
      prefix_is = subst (λ (k : ℕ). little_endian 1 k h.prefix (h.suffix ++ rest)) (sym h.second_is.size ∙ ap length (sym h.second_is.bytes_are)) h.first_is;
      joined = h.joined ∙ ap (λ (l : List ℕ). h.prefix ++ l) (sym h.second_is.bytes_are);
    })
    (λ v bytes rest h. (length v, record { prefix = h.prefix; suffix = v; joined = h.joined; first_is = h.prefix_is; second_is = record { size = refl; bytes_are = refl } }))

pub lenenc_string_reader : IsReaderOf (Alone IsLenencString) lenenc_string_bytes_reader
lenenc_string_reader =
    after_reader (Alone IsLenenc) plain_bytes split_lenenc bytes_reader lenenc_reader text_reader (Alone IsLenencString)
    (λ n v bytes rest h.
    record {
      prefix = h.prefix;
      prefix_is = subst (λ (k : ℕ). IsLenenc k h.prefix) (sym h.second_is.size ∙ ap length (sym h.second_is.bytes_are)) h.first_is;
      joined = h.joined ∙ ap (λ (l : List ℕ). h.prefix ++ l) (sym h.second_is.bytes_are);
    })
    (λ v bytes rest h. (length v, record { prefix = h.prefix; suffix = v; joined = h.joined; first_is = h.prefix_is; second_is = record { size = refl; bytes_are = refl } }))

maybe_found : {C A : Type 0} (format : C → A → List ℕ → List ℕ → Type 0) (read : C → Reader A) → ((ctx : C) → IsReaderOf (format ctx) (read ctx)) → (ctx : Option C) (v : Option A) (x rest : List ℕ)
    → optional_reader read ctx x ≡ Some (v, rest) → Begins (IsMaybe format ctx v) x rest
maybe_found format read is None None x rest e = record { bytes = []; joined = (same_parts None None x rest e).1; is = refl }
maybe_found format read is None (Some v) x rest e = absurd (cc ((same_parts None (Some v) x rest e).0))
maybe_found format read is (Some ctx) None x rest e =
    let a = bind-some (read ctx x) (λ p. Some (Some p.0, p.1)) (None, rest) e in absurd (cc ((same_parts (Some a.0.0) None a.0.1 rest a.2).0))
maybe_found format read is (Some ctx) (Some v) x rest e =
    let a = bind-some (read ctx x) (λ p. Some (Some p.0, p.1)) (Some v, rest) e in
    let one = some_is a.0.0 v ((same_parts (Some a.0.0) (Some v) a.0.1 rest a.2).0) in
    let two = (same_parts (Some a.0.0) (Some v) a.0.1 rest a.2).1 in
    let f = (is ctx).found v x rest (a.1 ∙ some_pair a.0.0 v a.0.1 rest one two) in
    record { bytes = f.bytes; joined = f.joined; is = f.is }

maybe_here : {C A : Type 0} (format : C → A → List ℕ → List ℕ → Type 0) (read : C → Reader A) → ((ctx : C) → IsReaderOf (format ctx) (read ctx)) → (ctx : Option C) (v : Option A) (bytes rest : List ℕ)
    → IsMaybe format ctx v bytes rest → optional_reader read ctx (bytes ++ rest) ≡ Some (v, rest)
maybe_here format read is None None bytes rest h = rw h refl
maybe_here format read is None (Some v) bytes rest h = absurd h
maybe_here format read is (Some ctx) None bytes rest h = absurd h
maybe_here format read is (Some ctx) (Some v) bytes rest h = rw ((is ctx).here v bytes rest h) refl

pub maybe_reader : {C A : Type 0} (format : C → A → List ℕ → List ℕ → Type 0) (read : C → Reader A) → ((ctx : C) → IsReaderOf (format ctx) (read ctx)) → (ctx : Option C)
    → IsReaderOf (IsMaybe format ctx) (optional_reader read ctx)
maybe_reader format read is ctx = record { found = maybe_found format read is ctx; here = maybe_here format read is ctx }

-- ---- bodies

nothing_left : (l : List ℕ) → (length l == 0) ≡ true → l ≡ []
nothing_left [] e = refl
nothing_left (x ∷ l) e = absurd (omega (arith, eqb-true (length (x ∷ l)) 0 e))

pub body_reader : {A : Type 0} (format : A → List ℕ → List ℕ → Type 0) (read : Reader A) → IsReaderOf format read → IsBodyOf format (body_by read)
body_reader format read is v body = (into, out)
  where
    into : body_by read body ≡ Some v → format v body []
    into e =
        let a = bind-some (read body) (λ p. cond (length p.1 == 0) (Some p.0) None) v e in
        let t = if_some (length a.0.1 == 0) (Some a.0.0) v a.2 in
        let none = nothing_left a.0.1 t.0 in
        let found = is.found v body [] (a.1 ∙ some_pair a.0.0 v a.0.1 [] (some_is a.0.0 v t.1) none) in
        let whole : body ≡ found.bytes = found.joined ∙ append-nil found.bytes in
        subst (λ (l : List ℕ). format v l []) (sym whole) found.is

    out : format v body [] → body_by read body ≡ Some v
    out h =
        let e : read body ≡ Some (v, []) = ap read (sym (append-nil body)) ∙ is.here v body [] h in
        rw e refl

-- the same for a value made from that of a body
pub made_body : {A B : Type 0} (format : A → List ℕ → List ℕ → Type 0) (value : List ℕ → Option A) (made : A → B) (target : B → List ℕ → List ℕ → Type 0) → IsBodyOf format value
    → ((a : A) (body : List ℕ) → format a body [] → target (made a) body []) → ((b : B) (body : List ℕ) → target b body [] → (a : A) × (format a body [] × (made a ≡ b)))
    → IsBodyOf target (λ body. option_map made (value body))
made_body {A = A} {B = B} format value made target is into out b body = (there, back)
  where
    step : (o : Option A) → value body ≡ o → option_map made o ≡ Some b → target b body []
    step None e h = absurd cc
    step (Some a) e h = subst (λ (c : B). target c body []) (some_is (made a) b h) (into a body ((is a body).0 e))

    there : option_map made (value body) ≡ Some b → target b body []
    there h = step (value body) refl h

    back : target b body [] → option_map made (value body) ≡ Some b
    back h = let o = out b body h in rw ((is o.0 body).1 o.1.0, o.1.1) refl

-- the same body, computed in another way
pub same_body : {A : Type 0} (format : A → List ℕ → List ℕ → Type 0) (value other : List ℕ → Option A) → ((body : List ℕ) → value body ≡ other body) → IsBodyOf format other → IsBodyOf format value
same_body format value other same is v body = (λ e. (is v body).0 (sym (same body) ∙ e), λ h. same body ∙ (is v body).1 h)
