-- The events that are left out after one that stopped the reading.
use Rattle.std.proofs.Common.{◌≡◌, ℕ, ◌+◌, ◌-◌, ◌^◌, Bool, true, false, not, List, [], ◌∷◌, ◌++◌, length, Option, Some, None, suc, refl, sym, ap, subst, ◌∙◌, append_assoc, arith}
use Rattle.std.specs.Prelude.{◌&&◌, cond, drop, min, option_map, take}
use Rattle.std.specs.List.{prefix_len, take_while}
use Rattle.std.proofs.lemmas.List.{append-nil}
use Rattle.std.proofs.lemmas.List.Sums.{take_while-cons}
use Rattle.events_frames.specs.Events.{has_event}
use Rattle.events_frames.specs.Sources.{TakesEvent, EndsWaiting}
use Rattle.feed_checks.specs.EventFields.{Event}
use Rattle.feed_checks.specs.LogFormat.{events, joined}
use Rattle.feed_checks.proofs.EventLemmas.{events-whole, events-none}
use Rattle.feed_change_log.specs.declared.stop.Stop.{Stop}
use Rattle.changes_commands.specs.EventWalks.{AreNext}
use Rattle.changes_commands.proofs.EventWalkLemmas.{next_left, more_left, at_end}
use Rattle.changes_walks.specs.Gaps.{goes_on, is_last, is_next, left_out, left_out_by, offset_after, place_at_stop, place_of, to_place, LeavesOut, Passes}
use Rattle.changes_walks.specs.declared.gaps.Place.{Place}
use Rattle.changes_walks.specs.declared.gaps.Place.TheVariants.{Before, After, Later}

-- ---- up to the next place

module _ (begun : Bool) (e : Event) (es : List Event) where
  going : is_last e ≡ false → is_next begun e ≡ false → goes_on begun e ≡ true
  going h k = rw (h, k) refl

  stopping : is_next begun e ≡ true → goes_on begun e ≡ false
  stopping k = rw k (and_false (not (is_last e)))
    where
      and_false : (a : Bool) → (a && false) ≡ false
      and_false true = refl
      and_false false = refl

  dropped : goes_on begun e ≡ true → drop (prefix_len (goes_on begun) (e ∷ es)) (e ∷ es) ≡ drop (prefix_len (goes_on begun) es) es
  dropped h = rw h (ap (λ n. drop n (e ∷ es)) (one (prefix_len (goes_on begun) es)))
    where
      one : (n : ℕ) → 1 + n ≡ suc n
      one n = omega arith

  taken_more : goes_on begun e ≡ true → take_while (goes_on begun) (e ∷ es) ≡ e ∷ take_while (goes_on begun) es
  taken_more h = take_while-cons (goes_on begun) e es ∙ rw h refl

  place_later : is_last e ≡ false → is_next begun e ≡ false → to_place begun (e ∷ es) ≡ e ∷ to_place begun es
  place_later h k = ap (λ (l : List Event). l ++ take_while is_last (take 1 (drop (prefix_len (goes_on begun) (e ∷ es)) (e ∷ es)))) (taken_more (going h k))
      ∙ ap (λ (l : List Event). e ∷ (take_while (goes_on begun) es ++ take_while is_last (take 1 l))) (dropped (going h k))

  place_before : is_last e ≡ false → is_next begun e ≡ true → to_place begun (e ∷ es) ≡ []
  place_before h k = rw (take_while-cons (goes_on begun) e es, stopping k, take_while-cons is_last e [], h) refl

  place_after : is_last e ≡ true → to_place begun (e ∷ es) ≡ e ∷ []
  place_after h = rw (take_while-cons (goes_on begun) e es, h, take_while-cons is_last e [], h) refl

-- ---- bytes

-- the newest event is one of the bytes that are left
with_newest : (e after b rest : List ℕ) (left : Option (List ℕ)) → b ≡ e ++ rest → AreNext after left rest → AreNext (e ++ after) left b
with_newest e after b rest None is next = next
with_newest e after b rest (Some y) is next = is ∙ ap (λ (l : List ℕ). e ++ l) next ∙ sym (append_assoc e after y)

same_next : (after b y : List ℕ) (left : Option (List ℕ)) → left ≡ Some y → b ≡ after ++ y → AreNext after left b
same_next after b y left is e = rw is e

passes_none : (b : List ℕ) (offset : ℕ) (newest waiting : List ℕ) (left : Option (List ℕ)) (has_newest : Bool) → AreNext (cond has_newest newest [] ++ waiting) left b → Passes [] b offset offset has_newest newest waiting left
unfolding offset_after
passes_none b offset newest waiting left has_newest next = record { rest = b; split = refl; next = next; end_is = refl }

passes_more : (es : List Event) (e : Event) (b rest : List ℕ) (offset end : ℕ) (has_newest : Bool) (newest waiting : List ℕ) (left : Option (List ℕ)) → b ≡ e ++ rest
    → Passes es rest (min (offset + length e) (2 ^ 64 - 1)) end has_newest newest waiting left → Passes (e ∷ es) b offset end has_newest newest waiting left
unfolding offset_after
passes_more es e b rest offset end has_newest newest waiting left is p = record {
  rest = p.rest;
  split = is ∙ ap (λ (l : List ℕ). e ++ l) p.split ∙ sym (append_assoc e (joined es) p.rest);
  next = p.next;
  end_is = p.end_is;
}

-- ---- the walk so far

-- the bytes that are left after some events were passed: what is passed of them is passed of all
pub record PassesSoFar (begun : Bool) (b : List ℕ) (start : ℕ) (waiting : List ℕ) (left : Option (List ℕ)) (offset : ℕ) : Type 0 where
  pub b_now : List ℕ
  pub next : AreNext waiting left b_now
  pub ends : (end : ℕ) (has_newest : Bool) (newest waiting : List ℕ) (left : Option (List ℕ)) → Passes (to_place begun (events b_now)) b_now offset end has_newest newest waiting left → Passes (to_place begun (events b)) b start end has_newest newest waiting left

pub passes_at_first : (begun : Bool) (b : List ℕ) (start : ℕ) (waiting : List ℕ) (left : Option (List ℕ)) → AreNext waiting left b → PassesSoFar begun b start waiting left start
passes_at_first begun b start waiting left next = record { b_now = b; next = next; ends = λ end has newest waiting left p. p }

-- nothing more is passed: no whole event is left
pub passes_end : (b waiting after event : List ℕ) (left new : Option (List ℕ)) (offset : ℕ) → AreNext waiting left b → EndsWaiting left new waiting event after → (events b ≡ []) × Passes [] b offset offset false event after new
passes_end b waiting after event left new offset next e =
    let k = more_left left new waiting after b next e.more in
    let all : b ≡ after = k.2 ∙ ap (λ (l : List ℕ). after ++ l) (at_end new k.0 k.1 e.at_end) ∙ append-nil after in
    (events-none b (ap has_event all ∙ e.no_event), passes_none b offset event after new false (same_next after b k.0 new k.1 k.2))

module _ (begun : Bool) (b : List ℕ) (start : ℕ) (waiting : List ℕ) (left : Option (List ℕ)) (offset : ℕ) (w : PassesSoFar begun b start waiting left offset) where
  pub so_far_ended : (after event : List ℕ) (new : Option (List ℕ)) → EndsWaiting left new waiting event after → Passes (to_place begun (events b)) b start offset false event after new
  so_far_ended after event new e =
      let p = passes_end w.b_now waiting after event left new offset w.next e in
      w.ends offset false event after new (rw p.0 p.1)

  module _ (e after : List ℕ) (new : Option (List ℕ)) (frame : TakesEvent left new waiting e after) where
    taken : (rest : List ℕ) × (w.b_now ≡ e ++ rest) × AreNext after new rest
    taken = next_left left new waiting e after w.b_now w.next frame

    events_are : events w.b_now ≡ e ∷ events taken.0
    events_are = ap events taken.1 ∙ events-whole e taken.0 frame.is

    pub so_far_before : is_last e ≡ false → is_next begun e ≡ true → Passes (to_place begun (events b)) b start offset true e after new
    so_far_before h k = w.ends offset true e after new (subst (λ (l : List Event). Passes l w.b_now offset offset true e after new)
        (sym (ap (to_place begun) events_are ∙ place_before begun e (events taken.0) h k)) (passes_none w.b_now offset e after new true (with_newest e after w.b_now taken.0 new taken.1 taken.2)))

    pub so_far_after : is_last e ≡ true → (end : ℕ) → end ≡ min (offset + length e) (2 ^ 64 - 1) → Passes (to_place begun (events b)) b start end false e after new
    so_far_after h end is = w.ends end false e after new (subst (λ (l : List Event). Passes l w.b_now offset end false e after new)
        (sym (ap (to_place begun) events_are ∙ place_after begun e (events taken.0) h))
        (passes_more [] e w.b_now taken.0 offset end false e after new taken.1 (rw is (passes_none taken.0 (min (offset + length e) (2 ^ 64 - 1)) e after new false taken.2))))

    pub so_far_more : is_last e ≡ false → is_next begun e ≡ false → (then : ℕ) → then ≡ min (offset + length e) (2 ^ 64 - 1) → PassesSoFar begun b start after new then
    so_far_more h k then is = record {
      b_now = taken.0;
      next = taken.2;
      ends = λ end has newest waiting left p. w.ends end has newest waiting left (subst (λ (l : List Event). Passes l w.b_now offset end has newest waiting left)
          (sym (ap (to_place begun) events_are ∙ place_later begun e (events taken.0) h k))
          (passes_more (to_place begun (events taken.0)) e w.b_now taken.0 offset end has newest waiting left taken.1 (rw is at p)));
    }

-- ---- the cases of a place

cases_before : (a b : Bool) → cond a After (cond b Before Later) ≡ Before → (a ≡ false) × (b ≡ true)
cases_before true b h = absurd cc
cases_before false true h = (refl, refl)
cases_before false false h = absurd cc

cases_after : (a b : Bool) → cond a After (cond b Before Later) ≡ After → a ≡ true
cases_after true b h = refl
cases_after false true h = absurd cc
cases_after false false h = absurd cc

pub before_is : (begun : Bool) (e : Event) → place_of begun e ≡ Before → (is_last e ≡ false) × (is_next begun e ≡ true)
before_is begun e h = cases_before (is_last e) (is_next begun e) h

pub after_is : (begun : Bool) (e : Event) → place_of begun e ≡ After → is_last e ≡ true
after_is begun e h = cases_after (is_last e) (is_next begun e) h

cases_neither : (a b : Bool) → (cond a After (cond b Before Later) ≡ Before → ⊥) → (cond a After (cond b Before Later) ≡ After → ⊥) → (a ≡ false) × (b ≡ false)
cases_neither true b h k = absurd (k refl)
cases_neither false true h k = absurd (h refl)
cases_neither false false h k = (refl, refl)

pub neither_is : (begun : Bool) (e : Event) → (place_of begun e ≡ Before → ⊥) → (place_of begun e ≡ After → ⊥) → (is_last e ≡ false) × (is_next begun e ≡ false)
neither_is begun e h k = cases_neither (is_last e) (is_next begun e) h k

-- ---- from the event on that stopped the reading

module _ (s : Stop) (is_first : Bool) (b waiting : List ℕ) (left : Option (List ℕ)) (next : AreNext waiting left b) where
  pub left_out_ended : (after event : List ℕ) (new : Option (List ℕ)) → EndsWaiting left new waiting event after → Passes (left_out s is_first (events b)) b s.offset s.offset false event after new
  left_out_ended after event new e =
      let p = passes_end b waiting after event left new s.offset next e in
      rw p.0 p.1

  module _ (e after : List ℕ) (new : Option (List ℕ)) (frame : TakesEvent left new waiting e after) where
    pub first_taken : (rest : List ℕ) × (b ≡ e ++ rest) × AreNext after new rest
    first_taken = next_left left new waiting e after b next frame

    out_is : (p : Place) → place_at_stop s is_first e ≡ p → left_out s is_first (events b) ≡ left_out_by p s.is_open (e ∷ events first_taken.0)
    out_is p h = ap (left_out s is_first) (ap events first_taken.1 ∙ events-whole e first_taken.0 frame.is) ∙ ap (λ (q : Place). left_out_by q s.is_open (e ∷ events first_taken.0)) h

    pub left_out_before : place_at_stop s is_first e ≡ Before → Passes (left_out s is_first (events b)) b s.offset s.offset true e after new
    left_out_before h = subst (λ (l : List Event). Passes l b s.offset s.offset true e after new) (sym (out_is Before h))
        (passes_none b s.offset e after new true (with_newest e after b first_taken.0 new first_taken.1 first_taken.2))

    pub left_out_after : place_at_stop s is_first e ≡ After → (end : ℕ) → end ≡ min (s.offset + length e) (2 ^ 64 - 1) → Passes (left_out s is_first (events b)) b s.offset end false e after new
    left_out_after h end is = subst (λ (l : List Event). Passes l b s.offset end false e after new) (sym (out_is After h))
        (passes_more [] e b first_taken.0 s.offset end false e after new first_taken.1 (rw is (passes_none first_taken.0 (min (s.offset + length e) (2 ^ 64 - 1)) e after new false first_taken.2)))

    pub left_out_later : place_at_stop s is_first e ≡ Later → (then : ℕ) → then ≡ min (s.offset + length e) (2 ^ 64 - 1) → (end : ℕ) (has_newest : Bool) (newest waiting_then : List ℕ) (left_then : Option (List ℕ))
        → Passes (to_place s.is_open (events first_taken.0)) first_taken.0 then end has_newest newest waiting_then left_then → Passes (left_out s is_first (events b)) b s.offset end has_newest newest waiting_then left_then
    left_out_later h then is end has_newest newest waiting_then left_then p = subst (λ (l : List Event). Passes l b s.offset end has_newest newest waiting_then left_then) (sym (out_is Later h))
        (passes_more (to_place s.is_open (events first_taken.0)) e b first_taken.0 s.offset end has_newest newest waiting_then left_then first_taken.1 (rw is at p))

-- ---- what a reader has then

pub next_back : (unread b : List ℕ) (old new : Option (List ℕ)) → old ≡ Some b → new ≡ option_map (λ (x : List ℕ). unread ++ x) old → (waiting : List ℕ) → waiting ≡ [] → AreNext waiting new (unread ++ b)
next_back unread b old new is back waiting none = rw (none, back, is) refl

pub leaves_out : (s : Stop) (is_first : Bool) (beginning b : List ℕ) (end : ℕ) (has_newest : Bool) (newest waiting : List ℕ) (left : Option (List ℕ)) → Passes (left_out s is_first (events b)) b s.offset end has_newest newest waiting left
    → (first : List ℕ) → first ≡ beginning ++ (cond has_newest newest [] ++ waiting) → (new : Option (List ℕ)) → new ≡ option_map (λ (x : List ℕ). first ++ x) left → (offset : ℕ) → offset ≡ end → LeavesOut s is_first beginning b new offset
leaves_out s is_first beginning b end has_newest newest waiting None p first is new back offset same = absurd p.next
leaves_out s is_first beginning b end has_newest newest waiting (Some y) p first is new back offset same = record {
  rest = p.rest;
  split = p.split;
  left_is = back ∙ ap Some (ap (λ (l : List ℕ). l ++ y) is ∙ append_assoc beginning (cond has_newest newest [] ++ waiting) y ∙ ap (λ (l : List ℕ). beginning ++ l) (sym p.next));
  end_is = same ∙ p.end_is;
}
