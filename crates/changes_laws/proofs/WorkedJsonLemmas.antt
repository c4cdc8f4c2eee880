-- Texts that are JSON, and texts that aren't.
use Rattle.std.proofs.Common.{◌≡◌, ℕ, ◌+◌, ◌/◌, ◌%◌, ◌<◌, ◌≤◌, Bool, true, false, cond, ltb, List, [], ◌∷◌, ◌++◌, length, refl, sym, ap, ◌∙◌, subst, arith, inl, inr}
use Rattle.std.specs.Prelude.{codes, if◌then◌else◌}
use Rattle.std.specs.Char.{digit_value}
use Rattle.std.specs.Str.Parse.{AllDigits, IsNumeral}
use lib.Utf8.{encode}
use Rattle.changes_laws.specs.JsonGrammar.{null, boolean, number, array, object, no_elements, element, no_members, member, IsStructural, IsInt, IsFrac, no_frac, frac, IsExp, no_exp, exp, plus, IsNumber, IsChar, unescaped, escaped, code, pair, IsString, IsValue, AreElements, AreMoreElements, AreMembers, AreMoreMembers, IsJsonText}
use Rattle.changes_laws.specs.JsonNames.{HasDistinctNames}

-- ---- JSON with whitespace, an exponent with a sign, and escapes
spaced : (b : ℕ) → IsStructural b (32 ∷ b ∷ 32 ∷ [])
spaced b = record { before = 32 ∷ []; after = 32 ∷ []; before_is = (refl, tt); after_is = (refl, tt); is = refl }

alone : (b : ℕ) → IsStructural b (b ∷ [])
alone b = record { before = []; after = []; before_is = tt; after_is = tt; is = refl }

numeral : (s : List ℕ) → 0 < length s → AllDigits 10 s → IsNumeral 10 s
numeral s some all = (some, all)

worked_number : IsNumber (codes "-1.5E+2")
worked_number = record {
  is_negative = true;
  int = codes "1";
  frac = codes ".5";
  exp = codes "E+2";
  int_is = record { digits = numeral (codes "1") (omega arith) (omega arith, tt); no_leading_zero = λ e. refl };
  frac_is = frac (numeral (codes "5") (omega arith) (omega arith, tt));
  exp_is = exp 69 (codes "+") (codes "2") (inr refl) plus (numeral (codes "2") (omega arith) (omega arith, tt));
  is = refl;
}

worked_string : IsString (codes "a") (codes "\"a\"")
unfolding encode
worked_string = record {
  characters = 97 ∷ [];
  content = codes "a";
  are = (codes "a", [], unescaped refl (omega arith) (λ e. absurd (omega (arith, e))) (λ e. absurd (omega (arith, e))), refl, refl);
  is = refl;
  value_is = refl;
}

pub worked_text : IsJsonText (object (member (codes "a") (array (element (boolean true) (element (number (codes "-1.5E+2")) no_elements))) no_members)) (codes "{ \"a\" : [true , -1.5E+2]}\n")
unfolding IsValue AreElements AreMoreElements AreMembers AreMoreMembers
worked_text = record {
  before = [];
  own = codes "{ \"a\" : [true , -1.5E+2]}";
  after = codes "\n";
  before_is = tt;
  after_is = (refl, tt);
  own_is = record {
    first = codes "{ ";
    content = codes "\"a\" : [true , -1.5E+2]";
    last = codes "}";
    first_is = record { before = []; after = codes " "; before_is = tt; after_is = (refl, tt); is = refl };
    content_is = record {
      one = codes "\"a\" : [true , -1.5E+2]";
      others = [];
      one_is = record {
        string = codes "\"a\"";
        colon = codes " : ";
        value = codes "[true , -1.5E+2]";
        string_is = worked_string;
        colon_is = spaced 58;
        value_is = record {
          first = codes "[";
          content = codes "true , -1.5E+2";
          last = codes "]";
          first_is = alone 91;
          content_is = record {
            one = codes "true";
            others = codes " , -1.5E+2";
            one_is = refl;
            others_are = record {
              comma = codes " , ";
              first = codes "-1.5E+2";
              comma_is = spaced 44;
              first_is = record { one = codes "-1.5E+2"; others = []; one_is = (refl, worked_number); others_are = refl; is = refl };
              is = refl;
            };
            is = refl;
          };
          last_is = alone 93;
          is = refl;
        };
        is = refl;
      };
      others_are = refl;
      is = refl;
    };
    last_is = alone 125;
    is = refl;
  };
  is = refl;
}

-- a solidus, a code, and a surrogate pair
pub worked_escapes : IsString (47 ∷ 195 ∷ 169 ∷ 240 ∷ 159 ∷ 152 ∷ 128 ∷ []) (codes "\"\\/\\u00E9\\ud83d\\ude00\"")
unfolding encode
worked_escapes = record {
  characters = 47 ∷ 233 ∷ 128512 ∷ [];
  content = codes "\\/\\u00E9\\ud83d\\ude00";
  are = (
    codes "\\/",
    codes "\\u00E9\\ud83d\\ude00",
    escaped refl,
    (
      codes "\\u00E9",
      codes "\\ud83d\\ude00",
      code refl (record { four = refl; digits = (omega arith, (omega arith, (omega arith, (omega arith, tt)))); value = refl }),
      (
        codes "\\ud83d\\ude00",
        [],
        pair 55357 56832 (codes "d83d") (codes "de00") refl (omega arith, omega arith) (omega arith, omega arith)
            (record { four = refl; digits = (omega arith, (omega arith, (omega arith, (omega arith, tt)))); value = refl }) (record { four = refl; digits = (omega arith, (omega arith, (omega arith, (omega arith, tt)))); value = refl }),
        refl,
        refl,
      ),
      refl,
    ),
    refl,
  );
  is = refl;
  value_is = refl;
}

-- ---- what isn't JSON
abbrev first : List ℕ → ℕ
first [] = 0
first (x ∷ xs) = x

abbrev others : List ℕ → List ℕ
others [] = []
others (x ∷ xs) = xs

pub equal_names : HasDistinctNames (object (member (codes "a") null (member (codes "b") null (member (codes "a") null no_members)))) → ⊥
unfolding HasDistinctNames
equal_names h = ((h.0).0.1).0 refl

-- what is left of an exponent or a fraction
no_rest : (f e : List ℕ) (b : ℕ) → IsFrac f → IsExp e → (b ≡ 46 → ⊥) → (b ≡ 101 → ⊥) → (b ≡ 69 → ⊥) → f ++ e ≡ b ∷ [] → ⊥
no_rest f e b no_frac no_exp p q r h = absurd (omega (arith, ap length h))
no_rest f e b no_frac (exp c sign ds (inl g) s n) p q r h = q (sym (ap first h) ∙ g)
no_rest f e b no_frac (exp c sign ds (inr g) s n) p q r h = r (sym (ap first h) ∙ g)
no_rest f e b (frac n) x p q r h = p (sym (ap first h))

pub leading_zero : IsNumber (codes "01") → ⊥
leading_zero n = go n.is_negative n.int n.int_is n.is
  where
    go : (b : Bool) (i : List ℕ) → IsInt i → codes "01" ≡ (if b then 45 ∷ [] else []) ++ (i ++ (n.frac ++ n.exp)) → ⊥
    go true i h e = absurd (let no : 48 ≡ 45 = ap first e in omega (arith, no))
    go false [] h e = absurd (omega (arith, h.digits.0))
    go false (d ∷ []) h e = no_rest n.frac n.exp 49 n.frac_is n.exp_is (λ g. absurd (omega (arith, g))) (λ g. absurd (omega (arith, g))) (λ g. absurd (omega (arith, g))) (sym (ap others e))
    go false (d ∷ c ∷ ds) h e = let zero_first : d ≡ 48 = sym (ap first e) in absurd (omega (arith, h.no_leading_zero zero_first))

pub sign_first : IsNumber (codes "+1") → ⊥
sign_first n = go n.is_negative n.int n.int_is n.is
  where
    go : (b : Bool) (i : List ℕ) → IsInt i → codes "+1" ≡ (if b then 45 ∷ [] else []) ++ (i ++ (n.frac ++ n.exp)) → ⊥
    go true i h e = absurd (let no : 43 ≡ 45 = ap first e in omega (arith, no))
    go false [] h e = absurd (omega (arith, h.digits.0))
    go false (d ∷ ds) h e = let no : 36 < 10 = subst (λ (k : ℕ). digit_value k < 10) (sym (ap first e)) h.digits.1.0 in absurd (omega (arith, no))

-- bytes of a character: at least 32
first_high : (c : ℕ) → 32 ≤ c → 32 ≤ first (encode c)
unfolding encode
first_high c h = go (ltb c 128) (ltb c 2048) (ltb c 65536)
  where
    go : (a b d : Bool) → 32 ≤ first (cond a (c ∷ []) (cond b ((192 + c / 64) ∷ (128 + c % 64) ∷ []) (cond d ((224 + c / 4096) ∷ (128 + c / 64 % 64) ∷ (128 + c % 64) ∷ []) ((240 + c / 262144) ∷ (128 + c / 4096 % 64) ∷ (128 + c / 64 % 64) ∷ (128 + c % 64) ∷ []))))
    go true b d = h
    go false true d = omega arith
    go false false true = omega arith
    go false false false = omega arith

no_control : (c : ℕ) (x : List ℕ) → IsChar c x → first x ≡ 10 → ⊥
no_control c x (unescaped s le p q) e = absurd (omega (arith, e, first_high c le))
no_control c x (escaped h) e = absurd (omega (arith, e))
no_control c x (code s u) e = absurd (omega (arith, e))
no_control c x (pair high low a b s h l u v) e = absurd (omega (arith, e))

pub line_feed : (c : ℕ) → IsChar c (10 ∷ []) → ⊥
line_feed c h = no_control c (10 ∷ []) h refl
