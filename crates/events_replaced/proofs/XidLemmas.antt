-- Which prepared transactions have an XID.
use Rattle.std.proofs.Common.{◌≡◌, ◌≤◌, ◌<◌, ◌+◌, ◌-◌, ℕ, suc, true, false, true≢false, List, ◌∷◌, ◌++◌, length, take, drop, map, sym, ap, subst, ◌∙◌, arith}
use Rattle.std.specs.Prelude.{◌≢◌, slice_index_or}
use Rattle.std.specs.Str.{bytes_eq}
use Rattle.std.specs.List.{remove}
use Rattle.std.proofs.lemmas.List.{drop_more, map-append, take-append-drop}
use Rattle.std.proofs.lemmas.List.Elements.{All-cons}
use Rattle.std.proofs.lemmas.Slice.Eq.{bytes_eq-Decides}
use Rattle.events_replaced.specs.FoundXids.{FindsXid}
use Rattle.events_replaced.specs.XaStates.{HasNoXid, HasXid}
use Rattle.events_replaced.specs.XaTransactionStates.{prepared_view}
use Rattle.events_replaced.specs.declared.prepared.Prepared.{Prepared}

next : (end : ℕ) → 0 < end → (end - 1) + 1 ≡ end
next end some = omega (arith, some)

module _ (xid : List ℕ) (l : List Prepared) (end : ℕ) (p : Prepared) (some : 0 < end) (within : end ≤ length l) (is : slice_index_or l (end - 1) p ≡ p) (none : HasNoXid xid (map prepared_view (drop end l))) where
  none_after : HasNoXid xid (map prepared_view (drop ((end - 1) + 1) l))
  none_after = subst (λ (n : ℕ). HasNoXid xid (map prepared_view (drop n l))) (sym (next end some)) none

  -- one has it, and none after it
  pub found_xid : bytes_eq p.xid.items xid ≡ true → FindsXid xid l (end - 1)
  found_xid same = record { within = omega (arith, some, within); found = p; is = is; has = (bytes_eq-Decides p.xid.items xid).0 same; last = none_after }

  -- one more doesn't have it
  pub none_more : bytes_eq p.xid.items xid ≡ false → HasNoXid xid (map prepared_view (drop (end - 1) l))
  none_more other =
      let split : drop (end - 1) l ≡ p ∷ drop ((end - 1) + 1) l = drop_more l (end - 1) p (omega (arith, some, within)) ∙ ap (λ (x : Prepared). x ∷ drop ((end - 1) + 1) l) is in
      subst (λ (r : List Prepared). HasNoXid xid (map prepared_view r)) (sym split)
      (All-cons (λ q. q.xid ≢ xid) (prepared_view p) (map prepared_view (drop ((end - 1) + 1) l)) (λ e. true≢false (sym ((bytes_eq-Decides p.xid.items xid).1 e) ∙ other)) none_after)

-- ---- one that was found is removed

more : (n : ℕ) → suc n ≡ n + 1
more n = omega arith

module _ (xid : List ℕ) (l : List Prepared) (n : ℕ) (f : FindsXid xid l n) (p : Prepared) (is : slice_index_or l n p ≡ p) where
  begins : (q : Prepared) → slice_index_or l n q ≡ q → drop n l ≡ q ∷ drop (n + 1) l
  begins q at = drop_more l n q f.within ∙ ap (λ (x : Prepared). x ∷ drop (n + 1) l) at

  -- it is one
  pub same_found : (q : Prepared) → slice_index_or l n q ≡ q → p ≡ q
  same_found q at = ap (λ (r : List Prepared). slice_index_or r 0 p) (sym (begins p is) ∙ begins q at)

  split : l ≡ take n l ++ p ∷ drop (n + 1) l
  split = sym (take-append-drop n l) ∙ ap (λ (r : List Prepared). take n l ++ r) (begins p is)

  pub removed_xid : (new : List Prepared) → new ≡ remove l n → HasXid xid (map prepared_view l) p.events.items (map prepared_view new)
  removed_xid new removed = record {
    before = map prepared_view (take n l);
    after = map prepared_view (drop (n + 1) l);
    is = ap (map prepared_view) split ∙ map-append prepared_view (take n l) (p ∷ drop (n + 1) l) ∙ ap (λ (x : List ℕ). map prepared_view (take n l) ++ record { xid = x; events = p.events.items } ∷ map prepared_view (drop (n + 1) l)) (ap (λ (q : Prepared). q.xid.items) (same_found f.found f.is) ∙ f.has);
    last = f.last;
    others_are = ap (map prepared_view) (removed ∙ ap (λ (k : ℕ). take n l ++ drop k l) (more n)) ∙ map-append prepared_view (take n l) (drop (n + 1) l);
  }
