-- Writing events that were read.
use Rattle.std.proofs.Common.{◌≡◌, ◌<◌, ◌+◌, ◌*◌, ◌/◌, ◌^◌, ◌++◌, ◌∙◌, inl, inr, ℕ, zero, suc, List, [], ◌∷◌, length, refl, sym, ap, subst, arith, append-nil, append_assoc, Option, Some, None, Bool, true, false}
use Rattle.std.specs.Prelude.{is_some, option_to_list, if◌then◌else◌, IfSome}
use Rattle.std.specs.Int.{bytes_low_first}
use Rattle.std.proofs.lemmas.List.{length-append}
use Rattle.std.proofs.lemmas.Bool.Decides.{leb_tells}
use Rattle.std.proofs.Math.Nat.{mod-lt}
use Rattle.byteorder.specs.Endian.{little_number, little_bytes}
use Rattle.byteorder.specs.Numbers.{little_from-cons, little_from-lt, length-bytes_low_first}
use Rattle.wire_buf.specs.Encoding.{AreBytes, Both}
use Rattle.wire_buf.specs.Numbers.{IsLittle}
use Rattle.wire_buf.specs.Writing.{concat_some, both_encoded}
use Rattle.wire_buf.proofs.LenencLemmas.{little_bytes-sound}
use Rattle.wire_buf.proofs.WritingLemmas.{AreBytes-prefix, AreBytes-suffix}
use Rattle.wire_fields.specs.Ints.{little_encoded}
use Rattle.rows_table_map.specs.TableMaps.{little_endian}
use Rattle.events_frames.specs.Headers.{Header, IsEventHeader, header_encoded}
use Rattle.events_frames.specs.Footers.{ChecksumSettings}
use Rattle.events_frames.specs.EventParts.{Parts, IsChecksum, IsChecksumFooter, IsEventContent, IsEvent, describes}
use Rattle.events_frames.specs.CoveredBytes.{covered}
use Rattle.events_owned.specs.WrittenEvents.{bytes_before_checksum, EndsWithSum}
use Rattle.mysql_binlog_events.specs.WrittenAgain.{IsWrittenBack, IsReadWithSum}

-- ---- numbers

-- n bytes are determined by their number
same_bytes : (n : ℕ) (xs ys : List ℕ) → length xs ≡ n → length ys ≡ n → AreBytes xs → AreBytes ys → little_number n xs ≡ little_number n ys → xs ≡ ys
same_bytes zero [] [] s t a b e = refl
same_bytes zero [] (y ∷ ys) s t a b e = absurd (omega arith)
same_bytes zero (x ∷ xs) ys s t a b e = absurd (omega arith)
same_bytes (suc n) [] ys s t a b e = absurd (omega arith)
same_bytes (suc n) (x ∷ xs) [] s t a b e = absurd (omega arith)
same_bytes (suc n) (x ∷ xs) (y ∷ ys) s t a b e =
    let f = little_from-cons 0 n x xs in
    let g = little_from-cons 0 n y ys in
    let low : x < 256 = a 0 in
    let low2 : y < 256 = b 0 in
    let all : x + 256 * little_number n xs ≡ y + 256 * little_number n ys = rw (f, g) at e in
    let first : x ≡ y = omega (arith, low, low2, all) in
    let others : little_number n xs ≡ little_number n ys = omega (arith, low, low2, all) in
    let tail = same_bytes n xs ys (omega arith) (omega arith) (λ k. a (suc k)) (λ k. b (suc k)) others in
    rw (first, tail) refl

are_little : (i n v : ℕ) → AreBytes (bytes_low_first i n v)
are_little i zero v k = omega arith
are_little zero (suc n) v zero = mod-lt v (omega arith)
are_little (suc i) (suc n) v zero = mod-lt (v / 256 ^ suc i) (omega arith)
are_little i (suc n) v (suc k) = are_little (suc i) n v k

-- a number that was read from bytes is written as the same bytes
little_same : (n v : ℕ) (bytes : List ℕ) → AreBytes bytes → IsLittle n v bytes → v < 256 ^ n → little_bytes n v ≡ bytes
little_same n v bytes are h small =
    let sound = little_bytes-sound n v small in
    same_bytes n (little_bytes n v) bytes sound.size h.size (are_little 0 n v) are (sym sound.value_is ∙ h.value_is)

little_below : (n v : ℕ) (bytes : List ℕ) → AreBytes bytes → IsLittle n v bytes → v < 256 ^ n
little_below n v bytes are h = rw h.value_is (little_from-lt 0 n bytes are)

little_whole : (n v : ℕ) (bytes : List ℕ) → AreBytes bytes → IsLittle n v bytes → little_bytes n v ≡ bytes
little_whole n v bytes are h = little_same n v bytes are h (little_below n v bytes are h)

-- ---- the header

-- a field that was read is written as the same bytes
abbrev Back : {A : Type 0} → (A → List ℕ → List ℕ → Type 0) → (A → Option (List ℕ)) → Type 0
Back {A} encoding encoded = (v : A) (bytes rest : List ℕ) → AreBytes bytes → encoding v bytes rest → encoded v ≡ Some bytes

number_back : (n : ℕ) → Back (little_endian n) (little_encoded n)
number_back n v bytes rest are h =
    let small = little_below n v bytes are h in
    elim (leb_tells (suc v) (256 ^ n)) [
      | inl t ↦ rw t.0 (ap (λ (l : List ℕ). Some l) (little_same n v bytes are h small))
      | inr f ↦ absurd (omega (arith, f.1, small))
    ]

joined_back : (a b : Option (List ℕ)) (x y z : List ℕ) → a ≡ Some x → b ≡ Some y → z ≡ x ++ y → concat_some a b ≡ Some z
joined_back a b x y z p q e = rw (p, q, e) refl

both_back : {A B : Type 0} {f : A → List ℕ → List ℕ → Type 0} {g : B → List ℕ → List ℕ → Type 0} {p : A → Option (List ℕ)} {q : B → Option (List ℕ)}
    → Back f p → Back g q → Back (Both f g) (both_encoded p q)
both_back back next v bytes rest are h =
    let all : AreBytes (h.prefix ++ h.suffix) = subst AreBytes h.joined are in
    joined_back _ _ h.prefix h.suffix bytes (back v.0 h.prefix _ (AreBytes-prefix h.prefix h.suffix all) h.first_is) (next v.1 h.suffix rest (AreBytes-suffix h.prefix h.suffix all) h.second_is) h.joined

abbrev Numbers : Type 0
Numbers = ℕ × (ℕ × (ℕ × (ℕ × (ℕ × ℕ))))

abbrev numbers : Header → Numbers
numbers h = (h.timestamp, (h.event_type, (h.server_id, (h.event_size, (h.log_pos, h.flags)))))

header_back : (h : Header) (bytes rest : List ℕ) → AreBytes bytes → IsEventHeader h bytes rest → header_encoded h ≡ Some bytes
header_back h =
    both_back {f = little_endian 4} {p = little_encoded 4} (number_back 4) (both_back {f = little_endian 1} {p = little_encoded 1} (number_back 1) (both_back {f = little_endian 4} {p = little_encoded 4} (number_back 4)
    (both_back {f = little_endian 4} {p = little_encoded 4} (number_back 4) (both_back {f = little_endian 4} {g = little_endian 2} {p = little_encoded 4} {q = little_encoded 2} (number_back 4) (number_back 2))))) (numbers h)

-- an encoding that doesn't depend on the bytes after it
abbrev Free : {A : Type 0} → (A → List ℕ → List ℕ → Type 0) → Type 0
Free {A} encoding = (v : A) (bytes rest other : List ℕ) → encoding v bytes rest → encoding v bytes other

free_both : {A B : Type 0} {f : A → List ℕ → List ℕ → Type 0} {g : B → List ℕ → List ℕ → Type 0} → Free f → Free g → Free (Both f g)
free_both free next v bytes rest other h = record {
  prefix = h.prefix;
  suffix = h.suffix;
  joined = h.joined;
  first_is = free v.0 h.prefix (h.suffix ++ rest) (h.suffix ++ other) h.first_is;
  second_is = next v.1 h.suffix rest other h.second_is;
}

free_number : (n : ℕ) → Free (little_endian n)
free_number n v bytes rest other h = h

header_free : (h : Header) (bytes rest other : List ℕ) → IsEventHeader h bytes rest → IsEventHeader h bytes other
header_free h =
    free_both {f = little_endian 4} (free_number 4) (free_both {f = little_endian 1} (free_number 1) (free_both {f = little_endian 4} (free_number 4)
    (free_both {f = little_endian 4} (free_number 4) (free_both {f = little_endian 4} {g = little_endian 2} (free_number 4) (free_number 2))))) (numbers h)

-- ---- the bytes after the header

abbrev sum_bytes : Option ℕ → List ℕ
sum_bytes None = []
sum_bytes (Some c) = little_bytes 4 c

abbrev algorithm_bytes : Bool → Option ℕ → List ℕ
algorithm_bytes b algorithm = if b then option_to_list algorithm else []

one_byte : (a : ℕ) (bytes rest : List ℕ) → little_endian 1 a bytes rest → bytes ≡ a ∷ []
one_byte a [] rest h = let size = h.size in absurd (omega (arith, size))
one_byte a (b ∷ []) rest h =
    let value : a ≡ b + 0 = h.value_is in
    let same : b ≡ a = omega (arith, value) in
    ap (λ (n : ℕ). n ∷ []) same
one_byte a (b ∷ (d ∷ l)) rest h = let size = h.size in absurd (omega (arith, size))

own_end_back : (a c : Option ℕ) (x : List ℕ) → AreBytes x → IsChecksumFooter a c x [] → x ≡ option_to_list a ++ sum_bytes c
own_end_back None None x are h = h
own_end_back (Some a) (Some c) x are h =
    let all : AreBytes (h.prefix ++ h.suffix) = subst AreBytes h.joined are in
    let first = one_byte a h.prefix (h.suffix ++ []) h.first_is in
    let second = little_whole 4 c h.suffix (AreBytes-suffix h.prefix h.suffix all) h.second_is in
    h.joined ∙ ap (λ (l : List ℕ). l ++ h.suffix) first ∙ ap (λ (l : List ℕ). (a ∷ []) ++ l) (sym second)
own_end_back None (Some c) x are h = absurd h
own_end_back (Some a) None x are h = absurd h

checksum_back : (c : Option ℕ) (x : List ℕ) → AreBytes x → IsChecksum c x [] → x ≡ sum_bytes c
checksum_back None x are h = h
checksum_back (Some c) x are h = sym (little_whole 4 c x are h)

content_back : (b : Bool) (f : ChecksumSettings) (p : Parts) (y : List ℕ) → AreBytes y → IsEventContent b f p y [] → y ≡ (p.body ++ algorithm_bytes b p.footer.algorithm) ++ sum_bytes p.checksum
content_back true f p y are h =
    let s = h.encoding_is in
    let all : AreBytes (s.prefix ++ s.suffix) = subst AreBytes s.joined are in
    let end = own_end_back p.footer.algorithm p.checksum s.suffix (AreBytes-suffix s.prefix s.suffix all) s.second_is in
    s.joined ∙ ap (λ (l : List ℕ). l ++ s.suffix) (sym s.first_is.bytes_are) ∙ ap (λ (l : List ℕ). p.body ++ l) end
    ∙ sym (append_assoc p.body (option_to_list p.footer.algorithm) (sum_bytes p.checksum))
content_back false f p y are h =
    let s = h.encoding_is in
    let all : AreBytes (s.prefix ++ s.suffix) = subst AreBytes s.joined are in
    let end = checksum_back p.checksum s.suffix (AreBytes-suffix s.prefix s.suffix all) s.second_is in
    s.joined ∙ ap (λ (l : List ℕ). l ++ s.suffix) (sym s.first_is.bytes_are) ∙ ap (λ (l : List ℕ). p.body ++ l) end
    ∙ ap (λ (l : List ℕ). l ++ sum_bytes p.checksum) (sym (append-nil p.body))

-- ---- the whole of an event

-- an event that was read: the bytes before its checksum, and the checksum
record IsJoined (p : Parts) (event : List ℕ) : Type 0 where
  header : List ℕ
  is : header_encoded p.header ≡ Some header
  joined : event ≡ (header ++ (p.body ++ algorithm_bytes (describes p.header) p.footer.algorithm)) ++ sum_bytes p.checksum

event_joined : (f : ChecksumSettings) (p : Parts) (event : List ℕ) → AreBytes event → IsEvent f p event → IsJoined p event
event_joined f p event are h =
    let s = h.encoding_is in
    let all : AreBytes (s.prefix ++ s.suffix) = subst AreBytes s.joined are in
    let after = p.body ++ algorithm_bytes (describes p.header) p.footer.algorithm in
    let content = content_back (describes p.header) f p s.suffix (AreBytes-suffix s.prefix s.suffix all) s.second_is in
    record {
      header = s.prefix;
      is = header_back p.header s.prefix _ (AreBytes-prefix s.prefix s.suffix all) s.first_is;
      joined = s.joined ∙ ap (λ (l : List ℕ). s.prefix ++ l) content ∙ sym (append_assoc s.prefix after (sum_bytes p.checksum));
    }

some_same : (a b : List ℕ) (o : Option (List ℕ)) → o ≡ Some a → o ≡ Some b → a ≡ b
some_same a b o e f = let g : Some a ≡ Some b = sym e ∙ f in cc

-- the bytes before the checksum are written as they were read
prefix_same : (p : Parts) (event prefix : List ℕ) (j : IsJoined p event) → bytes_before_checksum p ≡ Some prefix → prefix ≡ j.header ++ (p.body ++ algorithm_bytes (describes p.header) p.footer.algorithm)
prefix_same p event prefix j e =
    let mine : bytes_before_checksum p ≡ Some (j.header ++ (p.body ++ algorithm_bytes (describes p.header) p.footer.algorithm)) = rw j.is refl in
    some_same prefix _ (bytes_before_checksum p) e mine

own_sum : (is_sum : List ℕ → ℕ → Type 0) (o : Option ℕ) (prefix bytes : List ℕ) → EndsWithSum is_sum o prefix bytes
    → ((stored sum : ℕ) → o ≡ Some stored → is_sum (covered prefix) sum → stored ≡ sum) → bytes ≡ prefix ++ sum_bytes o
own_sum is_sum None prefix bytes h own = h ∙ sym (append-nil prefix)
own_sum is_sum (Some c) prefix bytes h own = h.2 ∙ ap (λ (n : ℕ). prefix ++ little_bytes 4 n) (sym (own c h.0 refl h.1))

pub written_back : (is_sum : List ℕ → ℕ → Type 0) → IsWrittenBack is_sum
written_back is_sum f p event bytes are h own w =
    let j = event_joined f p event are h in
    own_sum is_sum p.checksum w.prefix bytes w.ends (λ stored sum e s. own w.prefix stored sum w.is e s)
    ∙ ap (λ (l : List ℕ). l ++ sum_bytes p.checksum) (prefix_same p event w.prefix j w.is) ∙ sym j.joined

-- ---- with the function's checksum

-- a checksum of 32 bits
abbrev IsSmall : Option ℕ → Type 0
IsSmall o = IfSome o (λ n. n < 256 ^ 4)

sum_length : (a b : Option ℕ) → is_some a ≡ is_some b → length (sum_bytes a) ≡ length (sum_bytes b)
sum_length None None e = refl
sum_length (Some c) (Some d) e = length-bytes_low_first 0 4 c ∙ sym (length-bytes_low_first 0 4 d)
sum_length None (Some d) e = absurd (cc e)
sum_length (Some c) None e = absurd (cc e)

sum_encoding_is : (c : Option ℕ) → IsSmall c → IsChecksum c (sum_bytes c) []
sum_encoding_is None small = refl
sum_encoding_is (Some c) small = little_bytes-sound 4 c small

own_end_anew : (a old c : Option ℕ) (x : List ℕ) → IsChecksumFooter a old x [] → is_some c ≡ is_some old → IsSmall c → IsChecksumFooter a c (option_to_list a ++ sum_bytes c) []
own_end_anew None None None x h e small = refl
own_end_anew None None (Some c) x h e small = absurd (cc e)
own_end_anew (Some a) (Some d) (Some c) x h e small = record {
  prefix = a ∷ [];
  suffix = little_bytes 4 c;
  joined = refl;
  first_is = record { size = refl; value_is = omega arith };
  second_is = little_bytes-sound 4 c small;
}
own_end_anew (Some a) (Some d) None x h e small = absurd (cc e)
own_end_anew None (Some d) c x h e small = absurd h
own_end_anew (Some a) None c x h e small = absurd h

content_anew : (b : Bool) (f : ChecksumSettings) (p : Parts) (c : Option ℕ) (y : List ℕ) → IsEventContent b f p y [] → is_some c ≡ is_some p.checksum → IsSmall c
    → IsEventContent b f (record p { checksum = c }) ((p.body ++ algorithm_bytes b p.footer.algorithm) ++ sum_bytes c) []
content_anew true f p c y h e small = record {
  encoding_is = record {
    prefix = p.body;
    suffix = option_to_list p.footer.algorithm ++ sum_bytes c;
    joined = append_assoc p.body (option_to_list p.footer.algorithm) (sum_bytes c);
    first_is = record { size = refl; bytes_are = refl };
    second_is = own_end_anew p.footer.algorithm p.checksum c h.encoding_is.suffix h.encoding_is.second_is e small;
  };
  long = h.long;
  ends = h.ends;
  enabled = h.enabled;
}
content_anew false f p c y h e small = record {
  encoding_is = record {
    prefix = p.body;
    suffix = sum_bytes c;
    joined = ap (λ (l : List ℕ). l ++ sum_bytes c) (append-nil p.body);
    first_is = record { size = refl; bytes_are = refl };
    second_is = sum_encoding_is c small;
  };
  ends = e ∙ h.ends;
  footer = h.footer;
}

-- an event with the same parts and another checksum
event_anew : (f : ChecksumSettings) (p : Parts) (event : List ℕ) (c : Option ℕ) → AreBytes event → IsEvent f p event → is_some c ≡ is_some p.checksum → IsSmall c
    → (prefix : List ℕ) → bytes_before_checksum p ≡ Some prefix → IsEvent f (record p { checksum = c }) (prefix ++ sum_bytes c)
event_anew f p event c are h e small prefix is =
    let s = h.encoding_is in
    let j = event_joined f p event are h in
    let all : AreBytes (s.prefix ++ s.suffix) = subst AreBytes s.joined are in
    let after = p.body ++ algorithm_bytes (describes p.header) p.footer.algorithm in
    let same = prefix_same p event prefix j is in
    let sizes = sum_length c p.checksum e in
    let head : j.header ≡ s.prefix = some_same j.header s.prefix (header_encoded p.header) j.is (header_back p.header s.prefix _ (AreBytes-prefix s.prefix s.suffix all) s.first_is) in
    record {
      size = omega (arith, h.size, ap length j.joined, ap length same, sizes, length-append prefix (sum_bytes c), length-append (j.header ++ after) (sum_bytes p.checksum));
      encoding_is = record {
        prefix = s.prefix;
        suffix = after ++ sum_bytes c;
        joined = ap (λ (l : List ℕ). l ++ sum_bytes c) (same ∙ ap (λ (l : List ℕ). l ++ after) head) ∙ append_assoc s.prefix after (sum_bytes c);
        first_is = header_free p.header s.prefix _ _ s.first_is;
        second_is = content_anew (describes p.header) f p c s.suffix s.second_is e small;
      };
    }

-- the end of the bytes that are written
record IsNewSum (is_sum : List ℕ → ℕ → Type 0) (o : Option ℕ) (prefix bytes : List ℕ) : Type 0 where
  checksum : Option ℕ
  there : is_some checksum ≡ is_some o
  joined : bytes ≡ prefix ++ sum_bytes checksum
  own : IfSome checksum (is_sum (covered prefix))

new_sum : (is_sum : List ℕ → ℕ → Type 0) (o : Option ℕ) (prefix bytes : List ℕ) → EndsWithSum is_sum o prefix bytes → IsNewSum is_sum o prefix bytes
new_sum is_sum None prefix bytes h = record { checksum = None; there = refl; joined = h ∙ sym (append-nil prefix); own = tt }
new_sum is_sum (Some c) prefix bytes h = record { checksum = Some h.0; there = refl; joined = h.2; own = h.1 }

is_small : (is_sum : List ℕ → ℕ → Type 0) (o : Option ℕ) (prefix : List ℕ) → ((prefix : List ℕ) (sum : ℕ) → is_sum prefix sum → sum < 2 ^ 32) → IfSome o (is_sum prefix) → IsSmall o
is_small is_sum None prefix bound h = tt
is_small is_sum (Some c) prefix bound h = bound prefix c h

own_as : (is_sum : List ℕ → ℕ → Type 0) (p : Parts) (o : Option ℕ) (prefix : List ℕ) → bytes_before_checksum p ≡ Some prefix → IfSome o (is_sum (covered prefix))
    → IfSome o (λ sum. (prefix : List ℕ) × (bytes_before_checksum p ≡ Some prefix) × is_sum (covered prefix) sum)
own_as is_sum p None prefix e h = tt
own_as is_sum p (Some c) prefix e h = (prefix, e, h)

pub read_with_sum : (is_sum : List ℕ → ℕ → Type 0) → IsReadWithSum is_sum
read_with_sum is_sum f p event bytes are h bound w =
    let n = new_sum is_sum p.checksum w.prefix bytes w.ends in
    let event_is = event_anew f p event n.checksum are h n.there (is_small is_sum n.checksum (covered w.prefix) bound n.own) w.prefix w.is in
    record {
      checksum = n.checksum;
      is = subst (λ (l : List ℕ). IsEvent f (record p { checksum = n.checksum }) l) (sym n.joined) event_is;
      own = own_as is_sum p n.checksum w.prefix w.is n.own;
    }
