-- JSON strings, some bytes at a time.
use Rattle.std.proofs.Common.{◌≡◌, ℕ, zero, suc, ◌+◌, ◌<◌, ◌≤◌, Bool, true, false, ◌&&◌, List, [], ◌∷◌, ◌++◌, length, take, drop, get_or, refl, sym, ap, ap₂, ◌∙◌, subst, arith, rules, append_assoc, add-one, inl, inr}
use Rattle.std.proofs.lemmas.Bool.{cases_lt, false≢true}
use Rattle.std.proofs.lemmas.List.{append-nil, take-take, get_or-take, length-take-le, take-append-drop}
use Rattle.std.proofs.lemmas.List.Sums.{prefix_len_passes, prefix_len_stops}
use Rattle.std.proofs.lemmas.List.Folds.{length-prefix_len}
use Rattle.std.proofs.lemmas.List.Concat.{flat_map-append}
use Rattle.std.proofs.lemmas.Str.{IsUtf8-append, IsUtf8-from_ascii, IsUtf8-drop, IsCharBoundary-after_ascii}
use Rattle.std.specs.List.{flat_map, AllPass}
use Rattle.std.specs.Prelude.{take_while, IsAscii, IsUtf8, IsCharBoundary, nat_lt, Option, Some, None, IfSome, IfNone, MatchOption}
use Rattle.std.proofs.Math.ListN.{get_or-eq_default}
use Rattle.feed_writers.proofs.QuotedLemmas.{text_before}
use lib.Lanes.{put_chunk}
use Rattle.changes_writers.specs.JsonStrings.{is_unescaped, json_byte, json_escape, json_string}
use Rattle.changes_writers.specs.PlainText.{is_plain}
use Rattle.changes_writers.proofs.PlainLemmas.{unescaped_unchanged, plain_unescaped, stored, taken}

-- ---- up to sixteen bytes
-- n of the first sixteen bytes pass, and the next doesn't
pub record UpTo (p : ℕ → Bool) (n : ℕ) (d : List ℕ) : Type 0 where
  pub few : n ≤ 16
  pub passes : AllPass p (take n d)
  pub stops : n < 16 → p (get_or d n 0) ≡ false

pub up_to : (p : ℕ → Bool) (n : ℕ) (d : List ℕ) → 16 ≤ length d → n ≤ 16 → n ≡ length (take_while p (take 16 d)) → UpTo p n d
up_to p n d room few e =
    let v = take 16 d in
    let long : length v ≡ 16 = length-take-le 16 d room in
    let count = length-prefix_len p v in
    record {
      few = few;
      passes = λ k x lt. ap p (get_or-take n d k x (omega (arith, lt, length-take-le n d (omega (arith, few, room)))) ∙ sym (get_or-take 16 d k x (omega (arith, lt, few, length-take-le n d (omega (arith, few, room))))))
          ∙ prefix_len_passes p v k x (omega (arith, lt, e, count, length-take-le n d (omega (arith, few, room))));
      stops = λ lt. ap (λ (k : ℕ). p (get_or d k 0)) (e ∙ count) ∙ ap p (sym (get_or-take 16 d _ 0 (omega (arith, e, count, lt)))) ∙ prefix_len_stops p v 0 (omega (arith, e, count, lt, long));
    }

pub plain_up_to : (n : ℕ) (d : List ℕ) → UpTo is_plain n d → AllPass is_unescaped (take n d)
plain_up_to n d h = plain_unescaped (take n d) h.passes

-- n bytes that need no escape were stored, of sixteen
pub run_stored : (at n : ℕ) (text d : List ℕ) → n ≤ 16 → 16 ≤ length d → at + 16 ≤ length text → AllPass is_unescaped (take n d) → take (at + n) (put_chunk at text (take 16 d)) ≡ take at text ++ flat_map json_byte (take n d)
run_stored at n text d few long room h =
    stored at n text (take 16 d) (omega (arith, room, length-take-le 16 d long)) (omega (arith, few, length-take-le 16 d long))
    ∙ ap (λ (t : List ℕ). take at text ++ t) (take-take n 16 d few ∙ sym (unescaped_unchanged (take n d) h))

pub sixteen_stored : (at n : ℕ) (text d : List ℕ) → n ≡ 16 → 16 ≤ length d → at + 16 ≤ length text → AllPass is_unescaped (take n d) → take (at + 16) (put_chunk at text (take 16 d)) ≡ take at text ++ flat_map json_byte (take 16 d)
sixteen_stored at n text d e long room h = run_stored at 16 text d (omega arith) long room (subst (λ (k : ℕ). AllPass is_unescaped (take k d)) e h)

json_byte_escaped : (b : ℕ) → is_unescaped b ≡ false → json_byte b ≡ json_escape b
json_byte_escaped b h = rw h refl

-- and the escape of the next
pub escape_stored : (at n r : ℕ) (text new d : List ℕ) → n < 16 → 16 ≤ length d → at + 16 ≤ length text → AllPass is_unescaped (take n d) → is_unescaped (get_or d n 0) ≡ false
    → take r new ≡ take (at + n) (put_chunk at text (take 16 d)) ++ json_escape (get_or d n 0) → take r new ≡ take at text ++ flat_map json_byte (take (n + 1) d)
escape_stored at n r text new d few long room h stop is =
    let b = get_or d n 0 in
    let j = flat_map json_byte in
    is ∙ ap₂ (λ (s t : List ℕ). s ++ t) (run_stored at n text d (omega (arith, few)) long room h) (sym (json_byte_escaped b stop))
    ∙ append_assoc (take at text) (j (take n d)) (json_byte b)
    ∙ ap (λ (t : List ℕ). take at text ++ t)
    (ap (λ (t : List ℕ). j (take n d) ++ t) (sym (append-nil (json_byte b))) ∙ sym (flat_map-append json_byte (take n d) (b ∷ [])) ∙ ap j (sym (taken n d (omega (arith, few, long))) ∙ ap (λ (k : ℕ). take k d) (sym (add-one n))))

-- ASCII that isn't plain needs an escape
pub ascii_stops : (b : ℕ) → is_plain b ≡ false → b < 128 → is_unescaped b ≡ false
ascii_stops b h lt = go (is_unescaped b) (nat_lt b 128) h (search (rules, arith))
  where
    go : (p q : Bool) → p && q ≡ false → q ≡ true → p ≡ false
    go false q e t = refl
    go true true e t = absurd (false≢true (sym e))
    go true false e t = absurd (false≢true t)

-- ---- a run of bytes after others
pub run_more : (n : ℕ) (base new all rest after : List ℕ) → new ≡ base ++ flat_map json_byte (take n rest) → after ≡ drop n rest → base ++ flat_map json_byte rest ≡ all → new ++ flat_map json_byte after ≡ all
run_more n base new all rest after f g h =
    let j = flat_map json_byte in
    ap₂ (λ (s t : List ℕ). s ++ j t) f g
    ∙ append_assoc base (j (take n rest)) (j (drop n rest))
    ∙ ap (λ (t : List ℕ). base ++ t) (sym (flat_map-append json_byte (take n rest) (drop n rest)) ∙ ap j (take-append-drop n rest))
    ∙ h

-- a quote, the bytes and a quote
pub quotes_written : (base one two new d : List ℕ) → one ≡ base ++ 34 ∷ [] → two ≡ one ++ flat_map json_byte d → new ≡ two ++ 34 ∷ [] → new ≡ base ++ json_string d
unfolding json_string
quotes_written base one two new d first second is = is ∙ ap (λ (t : List ℕ). t ++ 34 ∷ []) (second ∙ ap (λ (t : List ℕ). t ++ flat_map json_byte d) first) ∙ simp append_assoc

-- ---- UTF-8
pub ascii_next : (n : ℕ) (d : List ℕ) → n < length d → IsAscii (take n d) → get_or d n 0 < 128 → IsAscii (take (n + 1) d)
ascii_next n d lt h b i =
    elim (cases_lt i n) [
      | inl l ↦ subst (λ (x : ℕ). x < 128) (get_or-take n d i 0 l ∙ sym (get_or-take (n + 1) d i 0 (omega (arith, l)))) (h i)
      | inr g ↦ elim (cases_lt i (n + 1)) [
        | inl l ↦
            let e : n ≡ i = omega (arith, l, g) in
            subst (λ (x : ℕ). x < 128) (ap (λ (k : ℕ). get_or d k 0) e ∙ sym (get_or-take (n + 1) d i 0 l)) b
        | inr m ↦
            let beyond : length (take (n + 1) d) ≤ i = omega (arith, m, length-take-le (n + 1) d (omega (arith, lt))) in
            rw (get_or-eq_default (take (n + 1) d) 0 beyond) (omega arith)
      ]
    ]

-- ASCII at the start doesn't decide
pub record SameUtf8 (d rest : List ℕ) : Type 0 where
  pub to : IsUtf8 rest → IsUtf8 d
  pub from : IsUtf8 d → IsUtf8 rest

pub utf8_itself : (d : List ℕ) → SameUtf8 d d
utf8_itself d = record { to = λ h. h; from = λ h. h }

after_ascii : (n : ℕ) (d : List ℕ) → n ≤ length d → IsAscii (take n d) → IsUtf8 d → IsUtf8 (drop n d)
after_ascii zero d le h u = u
after_ascii (suc n) d le h u =
    let b : get_or d n 0 < 128 = subst (λ (x : ℕ). x < 128) (get_or-take (suc n) d n 0 (omega arith)) (h n) in
    IsUtf8-drop d (suc n) u (subst (λ (k : ℕ). IsCharBoundary d k) (add-one n) (IsCharBoundary-after_ascii d n u (omega (arith, le)) b))

pub utf8_after : (n : ℕ) (d rest after : List ℕ) → n ≤ length rest → IsAscii (take n rest) → after ≡ drop n rest → SameUtf8 d rest → SameUtf8 d after
utf8_after n d rest after le h e same = record {
  to = λ u. same.to (subst IsUtf8 (take-append-drop n rest) (IsUtf8-append (take n rest) (drop n rest) (IsUtf8-from_ascii (take n rest) h) (subst IsUtf8 e u)));
  from = λ u. subst IsUtf8 (sym e) (after_ascii n rest le h (same.from u));
}

pub utf8_decided : (r : Option ℕ) (d rest : List ℕ) → SameUtf8 d rest → MatchOption r (¬ (IsUtf8 rest)) (λ end. IsUtf8 rest) → MatchOption r (¬ (IsUtf8 d)) (λ end. IsUtf8 d)
utf8_decided None d rest same h = λ u. h (same.from u)
utf8_decided (Some end) d rest same h = same.to h

-- ---- the last bytes, if they are UTF-8
pub some_most : (r : Option ℕ) (a b : ℕ) → a ≤ b → IfSome r (λ end. end ≤ a) → IfSome r (λ end. end ≤ b)
some_most None a b le h = tt
some_most (Some end) a b le h = omega (arith, le, h)

pub some_all : (r : Option ℕ) (base new rest all : List ℕ) → base ++ flat_map json_byte rest ≡ all → IfSome r (λ end. take end new ≡ base ++ flat_map json_byte rest) → IfSome r (λ end. take end new ≡ all)
some_all None base new rest all e h = tt
some_all (Some end) base new rest all e h = h ∙ e

-- what was written follows the text before it
pub record Follows (at : ℕ) (old : List ℕ) (end : ℕ) (new : List ℕ) : Type 0 where
  pub more : List ℕ
  pub is : take end new ≡ take at old ++ more

pub follows_itself : (at : ℕ) (old : List ℕ) → Follows at old at old
follows_itself at old = record { more = []; is = sym (append-nil (take at old)) }

pub follows_more : (at end next : ℕ) (old one new more : List ℕ) → Follows at old end one → take next new ≡ take end one ++ more → Follows at old next new
follows_more at end next old one new more h is = record { more = h.more ++ more; is = is ∙ ap (λ (t : List ℕ). t ++ more) h.is ∙ append_assoc (take at old) h.more more }

pub none_kept : (r : Option ℕ) (at end : ℕ) (old one new : List ℕ) → at ≤ length old → Follows at old end one → IfNone r (take end new ≡ take end one) → IfNone r (take at new ≡ take at old)
none_kept None at end old one new room h same = text_before at end old new h.more room (same ∙ h.is)
none_kept (Some k) at end old one new room h same = tt

pub follows_same : (at end : ℕ) (old one new : List ℕ) → Follows at old end one → take end new ≡ take end one → Follows at old end new
follows_same at end old one new h same = record { more = h.more; is = same ∙ h.is }

pub none_after : (r : Option ℕ) (a b d : List ℕ) → b ≡ d → IfNone r (a ≡ b) → IfNone r (a ≡ d)
none_after None a b d e h = h ∙ e
none_after (Some k) a b d e h = tt

-- a run of no bytes left the text before it unchanged
pub nothing_written : (n end next : ℕ) (one new rest : List ℕ) → n ≡ 0 → end ≤ length one → take next new ≡ take end one ++ flat_map json_byte (take n rest) → take end new ≡ take end one
nothing_written n end next one new rest e room is = text_before end next one new (flat_map json_byte (take n rest)) room is

-- ---- a string of plain bytes
pub plain_taken : (n len : ℕ) (d : List ℕ) → len ≤ n → n ≤ length d → AllPass is_plain (take n d) → AllPass is_plain (take len d)
plain_taken n len d few room h k x lt =
    let i : k < len = omega (arith, lt, length-take-le len d (omega (arith, few, room))) in
    ap is_plain (get_or-take len d k x i ∙ sym (get_or-take n d k x (omega (arith, i, few)))) ∙ h k x (omega (arith, i, few, length-take-le n d room))

pub plain_string : (s len : ℕ) (base one new d : List ℕ) → len ≤ 16 → 16 ≤ length d → s + 16 ≤ length one → AllPass is_plain (take len d) → take s one ≡ base ++ 34 ∷ [] → new ≡ take (s + len) (put_chunk s one (take 16 d)) ++ 34 ∷ [] → new ≡ base ++ json_string (take len d)
plain_string s len base one new d few long room h first is =
    quotes_written base (take s one) (take (s + len) (put_chunk s one (take 16 d))) new (take len d) first (run_stored s len one d few long room (plain_unescaped (take len d) h)) is
