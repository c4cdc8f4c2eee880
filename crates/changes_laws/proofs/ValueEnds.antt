-- Where a value ends: at the first comma or closing bracket after it that is in no bracket and in no string of its own.
use Rattle.std.proofs.Common.{◌≡◌, ◌⊎◌, ℕ, zero, suc, ◌+◌, ◌/◌, ◌%◌, ◌<◌, ◌≤◌, Bool, true, false, not, ◌&&◌, ◌||◌, cond, ltb, eqb→eq, T, List, [], ◌∷◌, ◌++◌, refl, sym, ap, ◌∙◌, subst, append_assoc, arith, inl, inr}
use Rattle.std.specs.Prelude.{◌≢◌, ◌==◌, IsTrue, codes, if◌then◌else◌, encode_utf8}
use Rattle.std.specs.Char.{digit_value}
use Rattle.std.specs.Str.Parse.{AllDigits}
use Rattle.std.proofs.lemmas.Bool.{false≢true}
use Rattle.std.proofs.lemmas.List.{append_cancel_right}
use lib.Lanes.{Each1}
use lib.Utf8.{encode}
use Rattle.feed_writers.proofs.PlainLemmas.{upto_sound}
use Rattle.changes_laws.specs.JsonGrammar.{Json, null, boolean, number, string, array, object, Elements, no_elements, element, Members, no_members, member, IsWhitespace, IsStructural, IsFrac, no_frac, frac, IsSign, no_sign, plus, minus, IsExp, no_exp, exp, IsNumber, IsUnit, IsChar, unescaped, escaped, code, pair, AreChars, IsString, IsBracketed, IsMember, IsFirst, IsNext, IsValue, AreElements, AreMoreElements, AreMembers, AreMoreMembers, IsAfterValue}

pub data Mode : Type 0 where
  outside : Mode
  inside : Mode
  after_backslash : Mode

-- what is left after a value, with so many brackets still open
unfoldable pub left_after : Mode → ℕ → List ℕ → List ℕ
left_after m d [] = []
left_after outside zero (b ∷ bs) =
    if b == 34 then left_after inside zero bs
    else if b == 91 || b == 123 then left_after outside 1 bs
    else if b == 93 || b == 125 then b ∷ bs
    else if b == 44 then b ∷ bs
    else left_after outside zero bs
left_after outside (suc d) (b ∷ bs) =
    if b == 34 then left_after inside (suc d) bs
    else if b == 91 || b == 123 then left_after outside (suc (suc d)) bs
    else if b == 93 || b == 125 then left_after outside d bs
    else left_after outside (suc d) bs
left_after inside d (b ∷ bs) = if b == 34 then left_after outside d bs else if b == 92 then left_after after_backslash d bs else left_after inside d bs
left_after after_backslash d (b ∷ bs) = left_after inside d bs

-- ---- bytes that change nothing
abbrev is_quiet : ℕ → Bool
is_quiet b = not (b == 34) && (not (b == 91) && (not (b == 123) && (not (b == 93) && (not (b == 125) && not (b == 44)))))

passes_quiet : (x : List ℕ) (d : ℕ) (rest : List ℕ) → Each1 (λ b. is_quiet b ≡ true) x → left_after outside d (x ++ rest) ≡ left_after outside d rest
unfolding left_after
passes_quiet [] d rest q = refl
passes_quiet (b ∷ x) zero rest q = go (b == 34) (b == 91) (b == 123) (b == 93) (b == 125) (b == 44) q.0 ∙ passes_quiet x zero rest q.1
  where
    go : (k l m n o p : Bool) → (not k && (not l && (not m && (not n && (not o && not p))))) ≡ true
        → (if k then left_after inside zero (x ++ rest) else if l || m then left_after outside 1 (x ++ rest) else if n || o then b ∷ (x ++ rest) else if p then b ∷ (x ++ rest) else left_after outside zero (x ++ rest)) ≡ left_after outside zero (x ++ rest)
    go false false false false false false h = refl
    go true l m n o p h = absurd (false≢true h)
    go false true m n o p h = absurd (false≢true h)
    go false false true n o p h = absurd (false≢true h)
    go false false false true o p h = absurd (false≢true h)
    go false false false false true p h = absurd (false≢true h)
    go false false false false false true h = absurd (false≢true h)
passes_quiet (b ∷ x) (suc d) rest q = go (b == 34) (b == 91) (b == 123) (b == 93) (b == 125) (b == 44) q.0 ∙ passes_quiet x (suc d) rest q.1
  where
    go : (k l m n o p : Bool) → (not k && (not l && (not m && (not n && (not o && not p))))) ≡ true
        → (if k then left_after inside (suc d) (x ++ rest) else if l || m then left_after outside (suc (suc d)) (x ++ rest) else if n || o then left_after outside d (x ++ rest) else left_after outside (suc d) (x ++ rest)) ≡ left_after outside (suc d) (x ++ rest)
    go false false false false false false h = refl
    go true l m n o p h = absurd (false≢true h)
    go false true m n o p h = absurd (false≢true h)
    go false false true n o p h = absurd (false≢true h)
    go false false false true o p h = absurd (false≢true h)
    go false false false false true p h = absurd (false≢true h)
    go false false false false false true h = absurd (false≢true h)

quiet_append : (x y : List ℕ) → Each1 (λ b. is_quiet b ≡ true) x → Each1 (λ b. is_quiet b ≡ true) y → Each1 (λ b. is_quiet b ≡ true) (x ++ y)
quiet_append [] y p q = q
quiet_append (b ∷ x) y p q = (p.0, quiet_append x y p.1 q)

true_of : (b : Bool) → T b → b ≡ true
true_of true h = refl
true_of false h = absurd h

space_quiet : (b : ℕ) → IsTrue (b == 32 || b == 9 || b == 10 || b == 13) → is_quiet b ≡ true
space_quiet b h = grind arith

whitespace_quiet : (x : List ℕ) → IsWhitespace x → Each1 (λ b. is_quiet b ≡ true) x
whitespace_quiet [] h = tt
whitespace_quiet (b ∷ x) h = (space_quiet b h.0, whitespace_quiet x h.1)

digit_below : (b : ℕ) → digit_value b < 10 → b < 58
digit_below b h = grind arith

abbrev is_quiet_digit : ℕ → Bool
is_quiet_digit b = cond (ltb (digit_value b) 10) (is_quiet b) true

digit_quiet : (b : ℕ) → digit_value b < 10 → is_quiet b ≡ true
digit_quiet b h = go (ltb (digit_value b) 10) refl (upto_sound is_quiet_digit 58 tt b (digit_below b h))
  where
    go : (t : Bool) → ltb (digit_value b) 10 ≡ t → T (cond t (is_quiet b) true) → is_quiet b ≡ true
    go true e k = true_of (is_quiet b) k
    go false e k = absurd (let no : ltb (digit_value b) 10 ≡ true = grind arith in false≢true (sym e ∙ no))

digits_quiet : (ds : List ℕ) → AllDigits 10 ds → Each1 (λ b. is_quiet b ≡ true) ds
digits_quiet [] h = tt
digits_quiet (d ∷ ds) h = (digit_quiet d h.0, digits_quiet ds h.1)

frac_quiet : (s : List ℕ) → IsFrac s → Each1 (λ b. is_quiet b ≡ true) s
frac_quiet s no_frac = tt
frac_quiet s (frac {digits = ds} n) = (refl, digits_quiet ds n.1)

sign_quiet : (s : List ℕ) → IsSign s → Each1 (λ b. is_quiet b ≡ true) s
sign_quiet s no_sign = tt
sign_quiet s plus = (refl, tt)
sign_quiet s minus = (refl, tt)

e_quiet : (e : ℕ) → (e ≡ 101) ⊎ (e ≡ 69) → is_quiet e ≡ true
e_quiet e (inl h) = subst (λ (b : ℕ). is_quiet b ≡ true) (sym h) refl
e_quiet e (inr h) = subst (λ (b : ℕ). is_quiet b ≡ true) (sym h) refl

exp_quiet : (s : List ℕ) → IsExp s → Each1 (λ b. is_quiet b ≡ true) s
exp_quiet s no_exp = tt
exp_quiet s (exp e sign ds c is n) = (e_quiet e c, quiet_append sign ds (sign_quiet sign is) (digits_quiet ds n.1))

number_quiet : (x : List ℕ) → IsNumber x → Each1 (λ b. is_quiet b ≡ true) x
number_quiet x n = subst (Each1 (λ b. is_quiet b ≡ true)) (sym n.is) (go n.is_negative)
  where
    rest : Each1 (λ b. is_quiet b ≡ true) (n.int ++ (n.frac ++ n.exp))
    rest = quiet_append n.int (n.frac ++ n.exp) (digits_quiet n.int n.int_is.digits.1) (quiet_append n.frac n.exp (frac_quiet n.frac n.frac_is) (exp_quiet n.exp n.exp_is))

    go : (b : Bool) → Each1 (λ b. is_quiet b ≡ true) ((if b then 45 ∷ [] else []) ++ (n.int ++ (n.frac ++ n.exp)))
    go true = (refl, rest)
    go false = rest

-- ---- strings
-- bytes of a string other than quote and backslash
abbrev is_inner : ℕ → Bool
is_inner b = not (b == 34) && not (b == 92)

passes_inner : (x : List ℕ) (d : ℕ) (rest : List ℕ) → Each1 (λ b. is_inner b ≡ true) x → left_after inside d (x ++ rest) ≡ left_after inside d rest
unfolding left_after
passes_inner [] d rest q = refl
passes_inner (b ∷ x) d rest q = go (b == 34) (b == 92) q.0 ∙ passes_inner x d rest q.1
  where
    go : (k l : Bool) → (not k && not l) ≡ true → (if k then left_after outside d (x ++ rest) else if l then left_after after_backslash d (x ++ rest) else left_after inside d (x ++ rest)) ≡ left_after inside d (x ++ rest)
    go false false h = refl
    go true l h = absurd (false≢true h)
    go false true h = absurd (false≢true h)

inner_high : (b : ℕ) → 128 ≤ b → is_inner b ≡ true
inner_high b h = grind arith

inner_char : (c : ℕ) → c ≢ 34 → c ≢ 92 → Each1 (λ b. is_inner b ≡ true) (encode c)
unfolding encode
inner_char c p q = go (ltb c 128) (ltb c 2048) (ltb c 65536)
  where
    own : (k l : Bool) → (c == 34) ≡ k → (c == 92) ≡ l → (not k && not l) ≡ true
    own false false e f = refl
    own true l e f = absurd (p (eqb→eq c 34 (subst T (sym e) tt)))
    own false true e f = absurd (q (eqb→eq c 92 (subst T (sym f) tt)))

    go : (a b d : Bool) → Each1 (λ b. is_inner b ≡ true) (cond a (c ∷ []) (cond b ((192 + c / 64) ∷ (128 + c % 64) ∷ []) (cond d ((224 + c / 4096) ∷ (128 + c / 64 % 64) ∷ (128 + c % 64) ∷ []) ((240 + c / 262144) ∷ (128 + c / 4096 % 64) ∷ (128 + c / 64 % 64) ∷ (128 + c % 64) ∷ []))))
    go true b d = (own (c == 34) (c == 92) refl refl, tt)
    go false true d = (inner_high (192 + c / 64) (omega arith), (inner_high (128 + c % 64) (omega arith), tt))
    go false false true = (inner_high (224 + c / 4096) (omega arith), (inner_high (128 + c / 64 % 64) (omega arith), (inner_high (128 + c % 64) (omega arith), tt)))
    go false false false = (inner_high (240 + c / 262144) (omega arith), (inner_high (128 + c / 4096 % 64) (omega arith), (inner_high (128 + c / 64 % 64) (omega arith), (inner_high (128 + c % 64) (omega arith), tt))))

hex_below : (b : ℕ) → digit_value b < 16 → b < 103
hex_below b h = grind arith

abbrev is_inner_digit : ℕ → Bool
is_inner_digit b = cond (ltb (digit_value b) 16) (is_inner b) true

hex_inner : (b : ℕ) → digit_value b < 16 → is_inner b ≡ true
hex_inner b h = go (ltb (digit_value b) 16) refl (upto_sound is_inner_digit 103 tt b (hex_below b h))
  where
    go : (t : Bool) → ltb (digit_value b) 16 ≡ t → T (cond t (is_inner b) true) → is_inner b ≡ true
    go true e k = true_of (is_inner b) k
    go false e k = absurd (let no : ltb (digit_value b) 16 ≡ true = grind arith in false≢true (sym e ∙ no))

hexes_inner : (ds : List ℕ) → AllDigits 16 ds → Each1 (λ b. is_inner b ≡ true) ds
hexes_inner [] h = tt
hexes_inner (d ∷ ds) h = (hex_inner d h.0, hexes_inner ds h.1)

-- an escape of a unit
passes_unit : (u : ℕ) (ds : List ℕ) (d : ℕ) (rest : List ℕ) → IsUnit u ds → left_after inside d (92 ∷ 117 ∷ (ds ++ rest)) ≡ left_after inside d rest
unfolding left_after
passes_unit u ds d rest h = passes_inner ds d rest (hexes_inner ds h.digits)

passes_char : (c : ℕ) (x : List ℕ) (d : ℕ) (rest : List ℕ) → IsChar c x → left_after inside d (x ++ rest) ≡ left_after inside d rest
unfolding left_after
passes_char c x d rest (unescaped s le p q) = passes_inner (encode_utf8 c) d rest (inner_char c p q)
passes_char c x d rest (escaped {b = b} e) = refl
passes_char c x d rest (code {digits = ds} s u) = passes_unit c ds d rest u
passes_char c x d rest (pair high low first second s h l u v) =
    ap (λ (t : List ℕ). left_after inside d (92 ∷ 117 ∷ t)) (append_assoc first (92 ∷ 117 ∷ second) rest) ∙ passes_unit high first d (92 ∷ 117 ∷ (second ++ rest)) u ∙ passes_unit low second d rest v

passes_chars : (cs x : List ℕ) (d : ℕ) (rest : List ℕ) → AreChars cs x → left_after inside d (x ++ rest) ≡ left_after inside d rest
passes_chars [] x d rest h = ap (λ (t : List ℕ). left_after inside d (t ++ rest)) h
passes_chars (c ∷ cs) x d rest h =
    ap (λ (t : List ℕ). left_after inside d (t ++ rest)) h.4 ∙ ap (left_after inside d) (append_assoc h.0 h.1 rest) ∙ passes_char c h.0 d (h.1 ++ rest) h.2 ∙ passes_chars cs h.1 d rest h.3

string_opens : (d : ℕ) (y : List ℕ) → left_after outside d (34 ∷ y) ≡ left_after inside d y
unfolding left_after
string_opens zero y = refl
string_opens (suc d) y = refl

string_closes : (d : ℕ) (y : List ℕ) → left_after inside d (34 ∷ y) ≡ left_after outside d y
unfolding left_after
string_closes d y = refl

passes_string : (s x : List ℕ) (d : ℕ) (rest : List ℕ) → IsString s x → left_after outside d (x ++ rest) ≡ left_after outside d rest
passes_string s x d rest h =
    ap (λ (t : List ℕ). left_after outside d (t ++ rest)) h.is ∙ string_opens d ((h.content ++ 34 ∷ []) ++ rest) ∙ ap (left_after inside d) (append_assoc h.content (34 ∷ []) rest) ∙ passes_chars h.characters h.content d (34 ∷ rest) h.are ∙ string_closes d rest

-- ---- brackets, commas and colons
to_character : (b : ℕ) (x : List ℕ) (d : ℕ) (rest : List ℕ) (h : IsStructural b x) → left_after outside d (x ++ rest) ≡ left_after outside d (b ∷ (h.after ++ rest))
to_character b x d rest h =
    ap (λ (t : List ℕ). left_after outside d (t ++ rest)) h.is ∙ ap (left_after outside d) (append_assoc h.before (b ∷ h.after) rest) ∙ passes_quiet h.before d (b ∷ (h.after ++ rest)) (whitespace_quiet h.before h.before_is)

opening_step : (b d : ℕ) (rest : List ℕ) → (b ≡ 91) ⊎ (b ≡ 123) → left_after outside d (b ∷ rest) ≡ left_after outside (suc d) rest
unfolding left_after
opening_step b zero rest (inl e) = rw e refl
opening_step b zero rest (inr e) = rw e refl
opening_step b (suc d) rest (inl e) = rw e refl
opening_step b (suc d) rest (inr e) = rw e refl

closing_step : (b d : ℕ) (rest : List ℕ) → (b ≡ 93) ⊎ (b ≡ 125) → left_after outside (suc d) (b ∷ rest) ≡ left_after outside d rest
unfolding left_after
closing_step b d rest (inl e) = rw e refl
closing_step b d rest (inr e) = rw e refl

comma_step : (d : ℕ) (rest : List ℕ) → left_after outside (suc d) (44 ∷ rest) ≡ left_after outside (suc d) rest
unfolding left_after
comma_step d rest = refl

after_it : (b : ℕ) (x : List ℕ) (d : ℕ) (rest : List ℕ) (h : IsStructural b x) → left_after outside d (h.after ++ rest) ≡ left_after outside d rest
after_it b x d rest h = passes_quiet h.after d rest (whitespace_quiet h.after h.after_is)

passes_opening : (b : ℕ) (x : List ℕ) (d : ℕ) (rest : List ℕ) → (b ≡ 91) ⊎ (b ≡ 123) → IsStructural b x → left_after outside d (x ++ rest) ≡ left_after outside (suc d) rest
passes_opening b x d rest e h = to_character b x d rest h ∙ opening_step b d (h.after ++ rest) e ∙ after_it b x (suc d) rest h

passes_closing : (b : ℕ) (x : List ℕ) (d : ℕ) (rest : List ℕ) → (b ≡ 93) ⊎ (b ≡ 125) → IsStructural b x → left_after outside (suc d) (x ++ rest) ≡ left_after outside d rest
passes_closing b x d rest e h = to_character b x (suc d) rest h ∙ closing_step b d (h.after ++ rest) e ∙ after_it b x d rest h

passes_comma : (x : List ℕ) (d : ℕ) (rest : List ℕ) → IsStructural 44 x → left_after outside (suc d) (x ++ rest) ≡ left_after outside (suc d) rest
passes_comma x d rest h = to_character 44 x (suc d) rest h ∙ comma_step d (h.after ++ rest) ∙ after_it 44 x (suc d) rest h

passes_colon : (x : List ℕ) (d : ℕ) (rest : List ℕ) → IsStructural 58 x → left_after outside d (x ++ rest) ≡ left_after outside d rest
passes_colon x d rest h = to_character 58 x d rest h ∙ passes_quiet (58 ∷ []) d (h.after ++ rest) (refl, tt) ∙ after_it 58 x d rest h

-- ---- values
passes_brackets : (b c : ℕ) (IsContent : List ℕ → Type 0) (x : List ℕ) (d : ℕ) (rest : List ℕ) → (b ≡ 91) ⊎ (b ≡ 123) → (c ≡ 93) ⊎ (c ≡ 125)
    → ((y : List ℕ) (after : List ℕ) → IsContent y → left_after outside (suc d) (y ++ after) ≡ left_after outside (suc d) after) → IsBracketed b c IsContent x → left_after outside d (x ++ rest) ≡ left_after outside d rest
passes_brackets b c IsContent x d rest e f inner h =
    ap (λ (t : List ℕ). left_after outside d (t ++ rest)) h.is ∙ ap (left_after outside d) (append_assoc h.first (h.content ++ h.last) rest) ∙ passes_opening b h.first d ((h.content ++ h.last) ++ rest) e h.first_is
    ∙ ap (left_after outside (suc d)) (append_assoc h.content h.last rest) ∙ inner h.content (h.last ++ rest) h.content_is ∙ passes_closing c h.last d rest f h.last_is

passes_first : (IsOne AreOthers : List ℕ → Type 0) (x : List ℕ) (d : ℕ) (rest : List ℕ)
    → ((y : List ℕ) (after : List ℕ) → IsOne y → left_after outside d (y ++ after) ≡ left_after outside d after) → ((y : List ℕ) (after : List ℕ) → AreOthers y → left_after outside d (y ++ after) ≡ left_after outside d after)
    → IsFirst IsOne AreOthers x → left_after outside d (x ++ rest) ≡ left_after outside d rest
passes_first IsOne AreOthers x d rest one others h =
    ap (λ (t : List ℕ). left_after outside d (t ++ rest)) h.is ∙ ap (left_after outside d) (append_assoc h.one h.others rest) ∙ one h.one (h.others ++ rest) h.one_is ∙ others h.others rest h.others_are

passes_next : (IsOne AreOthers : List ℕ → Type 0) (x : List ℕ) (d : ℕ) (rest : List ℕ)
    → ((y : List ℕ) (after : List ℕ) → IsOne y → left_after outside (suc d) (y ++ after) ≡ left_after outside (suc d) after) → ((y : List ℕ) (after : List ℕ) → AreOthers y → left_after outside (suc d) (y ++ after) ≡ left_after outside (suc d) after)
    → IsNext IsOne AreOthers x → left_after outside (suc d) (x ++ rest) ≡ left_after outside (suc d) rest
passes_next IsOne AreOthers x d rest one others h =
    ap (λ (t : List ℕ). left_after outside (suc d) (t ++ rest)) h.is ∙ ap (left_after outside (suc d)) (append_assoc h.comma h.first rest) ∙ passes_comma h.comma d (h.first ++ rest) h.comma_is
    ∙ passes_first IsOne AreOthers h.first (suc d) rest one others h.first_is

passes_member : (k : List ℕ) (IsItsValue : List ℕ → Type 0) (x : List ℕ) (d : ℕ) (rest : List ℕ) → ((y : List ℕ) (after : List ℕ) → IsItsValue y → left_after outside d (y ++ after) ≡ left_after outside d after)
    → IsMember k IsItsValue x → left_after outside d (x ++ rest) ≡ left_after outside d rest
passes_member k IsItsValue x d rest its h =
    ap (λ (t : List ℕ). left_after outside d (t ++ rest)) h.is ∙ ap (left_after outside d) (append_assoc h.string (h.colon ++ h.value) rest) ∙ passes_string k h.string d ((h.colon ++ h.value) ++ rest) h.string_is
    ∙ ap (left_after outside d) (append_assoc h.colon h.value rest) ∙ passes_colon h.colon d (h.value ++ rest) h.colon_is ∙ its h.value rest h.value_is

boolean_quiet : (b : Bool) → Each1 (λ b. is_quiet b ≡ true) (if b then codes "true" else codes "false")
boolean_quiet true = (refl, (refl, (refl, (refl, tt))))
boolean_quiet false = (refl, (refl, (refl, (refl, (refl, tt)))))

mutual
  unfolding IsValue AreElements AreMoreElements AreMembers AreMoreMembers

  pub passes_value : (v : Json) (x : List ℕ) (d : ℕ) (rest : List ℕ) → IsValue v x → left_after outside d (x ++ rest) ≡ left_after outside d rest
  passes_value null x d rest h = ap (λ (t : List ℕ). left_after outside d (t ++ rest)) h ∙ passes_quiet (codes "null") d rest (refl, (refl, (refl, (refl, tt))))
  passes_value (boolean b) x d rest h = ap (λ (t : List ℕ). left_after outside d (t ++ rest)) h ∙ passes_quiet (if b then codes "true" else codes "false") d rest (boolean_quiet b)
  passes_value (number n) x d rest h = ap (λ (t : List ℕ). left_after outside d (t ++ rest)) h.0 ∙ passes_quiet n d rest (number_quiet n h.1)
  passes_value (string s) x d rest h = passes_string s x d rest h
  passes_value (array vs) x d rest h = passes_brackets 91 93 (λ t. AreElements vs t) x d rest (inl refl) (inl refl) (λ y after e. passes_elements vs y d after e) h
  passes_value (object ms) x d rest h = passes_brackets 123 125 (λ t. AreMembers ms t) x d rest (inr refl) (inr refl) (λ y after e. passes_members ms y d after e) h

  passes_elements : (vs : Elements) (x : List ℕ) (d : ℕ) (rest : List ℕ) → AreElements vs x → left_after outside (suc d) (x ++ rest) ≡ left_after outside (suc d) rest
  passes_elements no_elements x d rest h = ap (λ (t : List ℕ). left_after outside (suc d) (t ++ rest)) h
  passes_elements (element v vs) x d rest h = passes_first (λ t. IsValue v t) (λ t. AreMoreElements vs t) x (suc d) rest (λ y after e. passes_value v y (suc d) after e) (λ y after e. passes_more_elements vs y d after e) h

  passes_more_elements : (vs : Elements) (x : List ℕ) (d : ℕ) (rest : List ℕ) → AreMoreElements vs x → left_after outside (suc d) (x ++ rest) ≡ left_after outside (suc d) rest
  passes_more_elements no_elements x d rest h = ap (λ (t : List ℕ). left_after outside (suc d) (t ++ rest)) h
  passes_more_elements (element v vs) x d rest h = passes_next (λ t. IsValue v t) (λ t. AreMoreElements vs t) x d rest (λ y after e. passes_value v y (suc d) after e) (λ y after e. passes_more_elements vs y d after e) h

  passes_members : (ms : Members) (x : List ℕ) (d : ℕ) (rest : List ℕ) → AreMembers ms x → left_after outside (suc d) (x ++ rest) ≡ left_after outside (suc d) rest
  passes_members no_members x d rest h = ap (λ (t : List ℕ). left_after outside (suc d) (t ++ rest)) h
  passes_members (member k v ms) x d rest h =
      passes_first (λ t. IsMember k (λ u. IsValue v u) t) (λ t. AreMoreMembers ms t) x (suc d) rest (λ y after e. passes_member k (λ u. IsValue v u) y (suc d) after (λ z more f. passes_value v z (suc d) more f) e) (λ y after e. passes_more_members ms y d after e) h

  passes_more_members : (ms : Members) (x : List ℕ) (d : ℕ) (rest : List ℕ) → AreMoreMembers ms x → left_after outside (suc d) (x ++ rest) ≡ left_after outside (suc d) rest
  passes_more_members no_members x d rest h = ap (λ (t : List ℕ). left_after outside (suc d) (t ++ rest)) h
  passes_more_members (member k v ms) x d rest h =
      passes_next (λ t. IsMember k (λ u. IsValue v u) t) (λ t. AreMoreMembers ms t) x d rest (λ y after e. passes_member k (λ u. IsValue v u) y (suc d) after (λ z more f. passes_value v z (suc d) more f) e) (λ y after e. passes_more_members ms y d after e) h

-- ---- the law
data IsOneOf (b : ℕ) : Type 0 where
  comma : b ≡ 44 → IsOneOf b
  bracket : b ≡ 93 → IsOneOf b
  brace : b ≡ 125 → IsOneOf b

one_of : (b : ℕ) → IsTrue (b == 44 || b == 93 || b == 125) → IsOneOf b
one_of b h = go (b == 44) (b == 93) (b == 125) refl refl refl h
  where
    go : (k l m : Bool) → (b == 44) ≡ k → (b == 93) ≡ l → (b == 125) ≡ m → (k || l || m) ≡ true → IsOneOf b
    go true l m e f g h = comma (eqb→eq b 44 (subst T (sym e) tt))
    go false true m e f g h = bracket (eqb→eq b 93 (subst T (sym f) tt))
    go false false true e f g h = brace (eqb→eq b 125 (subst T (sym g) tt))
    go false false false e f g h = absurd (false≢true h)

stops_at : (b : ℕ) (bs : List ℕ) → IsOneOf b → left_after outside 0 (b ∷ bs) ≡ b ∷ bs
unfolding left_after
stops_at b bs (comma e) = rw e refl
stops_at b bs (bracket e) = rw e refl
stops_at b bs (brace e) = rw e refl

nothing_left : left_after outside 0 [] ≡ []
unfolding left_after
nothing_left = refl

stops : (s : List ℕ) → IsAfterValue s → left_after outside 0 s ≡ s
stops [] h = nothing_left
stops (b ∷ bs) h = stops_at b bs (one_of b h)

pub values_end : (v w : Json) (x y s t : List ℕ) → IsValue v x → IsValue w y → IsAfterValue s → IsAfterValue t → x ++ s ≡ y ++ t → (x ≡ y) × (s ≡ t)
values_end v w x y s t p q a b e =
    let same : s ≡ t = sym (stops s a) ∙ sym (passes_value v x 0 s p) ∙ ap (left_after outside 0) e ∙ passes_value w y 0 t q ∙ stops t b in
    (append_cancel_right x y t (subst (λ (u : List ℕ). x ++ u ≡ y ++ t) same e), same)
