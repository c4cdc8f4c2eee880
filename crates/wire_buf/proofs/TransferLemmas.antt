-- The bytes that a reader returned and a writer took.
use Rattle.std.proofs.Common.{◌-◌, slice_range, le_refl, drop_at, length-take-le, ◌≡◌, ◌≤◌, ◌+◌, ◌++◌, ℕ, List, [], length, take, drop, append_assoc, arith, refl, sym, ap, subst, ◌∙◌, Option, Some, None}
use Rattle.std.proofs.lemmas.List.{append-nil, take-append-drop, take_rest}
use Rattle.std.proofs.Math.Seq.{take-append_seam}
use Rattle.wire_buf.specs.Transfers.{Fills, WritesPrefix}
use Rattle.std.proofs.lemmas.Slice.{take-put_mid_below}
use Rattle.std.proofs.KnownBytes.{Consumes-trans, Consumes-kept, Appends-nil, Appends-trans, Appends-kept}
use borrow.Rule.Slice.PartMut.{put_mid, post_of}
use lib.Seq.{take-add, take-append-le}
use Rattle.std.specs.Io.KnownBytes.{Consumes, Appends, Keeps}

-- of n bytes, all but `left` are taken
pub record GathersSome (old new : Option (List ℕ)) (n left : ℕ) (before after : List ℕ) : Type 0 where
  pub taken : List ℕ
  pub consumed : Consumes old new taken
  pub count : length taken + left ≡ n
  pub appended : after ≡ before ++ taken

pub Consumes-none : (a : Option (List ℕ)) → Consumes a a []
Consumes-none None = tt
Consumes-none (Some xs) = refl

pub Keeps-same : (a : Option (List ℕ)) → Keeps a a
Keeps-same None = tt
Keeps-same (Some xs) = refl

-- the first a bytes of a buffer are unchanged, and the slice from a to b joins them
take_split : (a b : ℕ) (old new : List ℕ) → a ≤ b → take a new ≡ take a old → take a old ++ slice_range new a b ≡ take b new
take_split a b old new h prefix =
    let same : a + (b - a) ≡ b = omega arith in
    ap (λ l. l ++ slice_range new a b) (sym prefix) ∙ sym (take-add a (b - a) new) ∙ ap (λ n. take n new) same

slice_range-put_mid : (a k n : ℕ) (xs ys : List ℕ) → a ≤ length xs → n ≤ length ys → slice_range (put_mid a k xs ys) a (a + n) ≡ take n ys
slice_range-put_mid a k n xs ys within fits =
    let same : (a + n) - a ≡ n = omega arith in
    let after = post_of a k xs in
    ap (take ((a + n) - a)) (drop_at (take a xs) (ys ++ after) a (length-take-le a xs within)) ∙ ap (λ m. take m (ys ++ after)) same ∙ take-append-le n ys after fits

-- the prefix of a buffer that is filled after a part of it was written
take-put_mid_part : (a k n : ℕ) (xs ys : List ℕ) → a ≤ length xs → n ≤ length ys → take (a + n) (put_mid a k xs ys) ≡ take a xs ++ take n ys
take-put_mid_part a k n xs ys within fits =
    let part = slice_range-put_mid a k n xs ys within fits in
    let joined = take_split a (a + n) xs (put_mid a k xs ys) (omega arith) (take-put_mid_below a k xs ys a (le_refl a) within) in
    sym joined ∙ ap (λ l. take a xs ++ l) part

pub fills_none : (at : ℕ) (a : Option (List ℕ)) (xs : List ℕ) → at ≤ length xs → Fills at at a a xs xs
fills_none at a xs within = record {
  taken = [];
  consumed = Consumes-none a;
  begun = le_refl at;
  within = within;
  joined = sym (append-nil (take at xs));
}

pub fills_more : (at a k n : ℕ) (zs xs ys : List ℕ) (old mid new : Option (List ℕ)) → Fills at a old mid zs xs → n ≤ length ys → a + n ≤ length (put_mid a k xs ys)
    → Consumes mid new (take n ys) → Fills at (a + n) old new zs (put_mid a k xs ys)
fills_more at a k n zs xs ys old mid new f fits within second =
    let begun = f.begun in
    record {
      taken = f.taken ++ take n ys;
      consumed = Consumes-trans old mid new f.taken (take n ys) f.consumed second;
      begun = omega arith;
      within = within;
      joined = take-put_mid_part a k n xs ys f.within fits ∙ ap (λ l. l ++ take n ys) f.joined ∙ append_assoc (take at zs) f.taken (take n ys);
    }

pub fills_kept : (at a k : ℕ) (zs xs ys : List ℕ) (old mid new : Option (List ℕ)) → Fills at a old mid zs xs → a ≤ length (put_mid a k xs ys) → Keeps mid new
    → Fills at a old new zs (put_mid a k xs ys)
fills_kept at a k zs xs ys old mid new f within kept = record {
  taken = f.taken;
  consumed = Consumes-kept old mid new f.taken f.consumed kept;
  begun = f.begun;
  within = within;
  joined = take-put_mid_below a k xs ys a (le_refl a) f.within ∙ f.joined;
}

pub fills_ended : (at a k n : ℕ) (zs xs ys : List ℕ) (old mid new : Option (List ℕ)) → Fills at a old mid zs xs → a ≤ length (put_mid a k xs ys) → n ≡ 0 → Consumes mid new (take n ys)
    → Fills at a old new zs (put_mid a k xs ys)
fills_ended at a k n zs xs ys old mid new f within zero none = record {
  taken = f.taken;
  consumed = subst (Consumes old new) (ap (λ m. f.taken ++ take m ys) zero ∙ append-nil f.taken) (Consumes-trans old mid new f.taken (take n ys) f.consumed none);
  begun = f.begun;
  within = within;
  joined = take-put_mid_below a k xs ys a (le_refl a) f.within ∙ f.joined;
}

-- the bytes that are no longer in the rest were written
pub record HasWritten (old new : Option (List ℕ)) (all rest : List ℕ) : Type 0 where
  pub gone : List ℕ
  pub split : all ≡ gone ++ rest
  pub appended : Appends old new gone

pub written_none : (a : Option (List ℕ)) (all : List ℕ) → HasWritten a a all all
written_none a all = record { gone = []; split = refl; appended = Appends-nil a }

pub written_more : (old mid new : Option (List ℕ)) (all rest : List ℕ) (n : ℕ) → HasWritten old mid all rest → Appends mid new (take n rest)
    → HasWritten old new all (take (length rest - n) (drop n rest))
written_more old mid new all rest n h more = record {
  gone = h.gone ++ take n rest;
  split = h.split ∙ ap (λ l. h.gone ++ l) (sym (take-append-drop n rest)) ∙ sym (append_assoc h.gone (take n rest) (drop n rest)) ∙ ap (λ l. (h.gone ++ take n rest) ++ l) (sym (take_rest rest n));
  appended = Appends-trans old mid new h.gone (take n rest) h.appended more;
}

pub written_kept : (old mid new : Option (List ℕ)) (all rest : List ℕ) → HasWritten old mid all rest → Keeps mid new → HasWritten old new all rest
written_kept old mid new all rest h kept = record { gone = h.gone; split = h.split; appended = Appends-kept old mid new h.gone h.appended kept }

pub written_all : (old new : Option (List ℕ)) (all rest : List ℕ) → HasWritten old new all rest → rest ≡ [] → Appends old new all
written_all old new all rest h none = subst (Appends old new) (sym (h.split ∙ ap (λ l. h.gone ++ l) none ∙ append-nil h.gone)) h.appended

pub written_some : (old new : Option (List ℕ)) (all rest : List ℕ) → HasWritten old new all rest → WritesPrefix all old new
written_some old new all rest h = record {
  count = length h.gone;
  appended = subst (Appends old new) (sym (ap (take (length h.gone)) h.split ∙ take-append_seam h.gone rest)) h.appended;
}
