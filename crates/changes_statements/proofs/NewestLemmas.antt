-- Texts that are written, the newest first.
use Rattle.std.proofs.Common.{◌≡◌, ◌<◌, ℕ, zero, suc, List, [], ◌∷◌, ◌++◌, length, take, drop, Option, refl, sym, ap, subst, ◌∙◌, append_assoc, arith}
use Rattle.std.proofs.KnownBytes.{Appends-trans}
use Rattle.std.proofs.Math.Seq.{take-length}
use Rattle.std.proofs.lemmas.List.{append-nil, length-append}
use Rattle.feed_checks.specs.LogFormat.{joined}
use Rattle.feed_transactions.specs.Waiting.{WritesSome}
use Rattle.feed_transactions.proofs.WaitingLemmas.{writes_none}
use Rattle.changes_statements.specs.NewestTexts.{AreTexts}

pub writes_both : (a b c : Option (List ℕ)) (w x z t u : List ℕ) → WritesSome a b w t x → WritesSome b c x u z → WritesSome a c w (t ++ u) z
writes_both a b c w x z t u h k = record {
  bytes = h.bytes ++ k.bytes;
  written = Appends-trans a b c h.bytes k.bytes h.written k.written;
  joined = sym (append_assoc w t u) ∙ ap (λ (l : List ℕ). l ++ u) h.joined ∙ append_assoc h.bytes x u ∙ ap (λ (l : List ℕ). h.bytes ++ l) k.joined ∙ sym (append_assoc h.bytes k.bytes z);
}

-- as many offsets as texts
pub as_many : (texts : List (List ℕ)) (bytes starts : List ℕ) → AreTexts texts bytes starts → length starts ≡ length texts
as_many [] bytes starts h = ap length h.1
as_many (text ∷ texts) bytes starts (before, others, is, at, more) =
    ap length at ∙ length-append others (length before ∷ []) ∙ omega (arith, as_many texts before others more)

-- ---- some of the texts were written

-- the first n texts were written, and the others are left
pub record WroteSome (n : ℕ) (texts : List (List ℕ)) (bytes starts : List ℕ) (old new : Option (List ℕ)) (waiting waiting_then : List ℕ) : Type 0 where
  pub left : AreTexts (drop n texts) bytes starts
  pub written : WritesSome old new waiting (joined (take n texts)) waiting_then

pub wrote_none : (texts : List (List ℕ)) (bytes starts : List ℕ) (old : Option (List ℕ)) (waiting : List ℕ) → AreTexts texts bytes starts → WroteSome 0 texts bytes starts old old waiting waiting
wrote_none texts bytes starts old waiting h = record { left = h; written = writes_none old waiting }

-- one more text
one_more : (n : ℕ) (texts : List (List ℕ)) → n < length texts → (text : List ℕ) × (rest : List (List ℕ)) × (drop n texts ≡ text ∷ rest) × (drop (suc n) texts ≡ rest) × (joined (take (suc n) texts) ≡ joined (take n texts) ++ text)
one_more n [] h = absurd (omega (arith, h))
one_more zero (text ∷ texts) h = (text, texts, refl, refl, append-nil text)
one_more (suc n) (text ∷ texts) h =
    let (next, rest, is, after, all) = one_more n texts (omega (arith, h)) in
    (next, rest, is, after, ap (λ (t : List ℕ). text ++ t) all ∙ sym (append_assoc text (joined (take n texts)) next))

pub wrote_more : (n m : ℕ) (texts : List (List ℕ)) (bytes starts bytes_then starts_then : List ℕ) (a b c : Option (List ℕ)) (w x z : List ℕ) → m ≡ suc n → n < length texts
    → WroteSome n texts bytes starts a b w x
    → ((text : List ℕ) (rest : List (List ℕ)) → AreTexts (text ∷ rest) bytes starts → AreTexts rest bytes_then starts_then × WritesSome b c x text z)
    → WroteSome m texts bytes_then starts_then a c w z
wrote_more n m texts bytes starts bytes_then starts_then a b c w x z is few h next = subst (λ (k : ℕ). WroteSome k texts bytes_then starts_then a c w z) (sym is) (of (one_more n texts few))
  where
    of : (text : List ℕ) × (rest : List (List ℕ)) × (drop n texts ≡ text ∷ rest) × (drop (suc n) texts ≡ rest) × (joined (take (suc n) texts) ≡ joined (take n texts) ++ text) → WroteSome (suc n) texts bytes_then starts_then a c w z
    of (text, rest, at, after, all) =
        let both = next text rest (subst (λ (l : List (List ℕ)). AreTexts l bytes starts) at h.left) in
        record {
          left = subst (λ (l : List (List ℕ)). AreTexts l bytes_then starts_then) (sym after) both.0;
          written = subst (λ (l : List ℕ). WritesSome a c w l z) (sym all) (writes_both a b c w x z (joined (take n texts)) text h.written both.1);
        }

take_all_of : (texts : List (List ℕ)) (n : ℕ) → n ≡ length texts → take n texts ≡ texts
take_all_of texts n is = subst (λ (k : ℕ). take k texts ≡ texts) (sym is) (take-length texts)

pub wrote_all : (n : ℕ) (texts : List (List ℕ)) (bytes starts : List ℕ) (a b : Option (List ℕ)) (w x : List ℕ) → n ≡ length texts → WroteSome n texts bytes starts a b w x → WritesSome a b w (joined texts) x
wrote_all n texts bytes starts a b w x is h = subst (λ (l : List (List ℕ)). WritesSome a b w (joined l) x) (take_all_of texts n is) h.written
