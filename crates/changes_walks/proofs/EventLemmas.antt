-- Events of an answer and their acknowledgements.
use Rattle.std.proofs.Common.{◌≡◌, ◌⊎◌, ◌≤◌, ℕ, Bool, true, false, true≢false, List, [], ◌∷◌, ◌++◌, length, inl, inr, refl, sym, ap, subst, ◌∙◌, arith}
use Rattle.std.proofs.lemmas.Bool.{leb-true}
use Rattle.std.specs.Prelude.{◌&&◌, ◌==◌, nat_le}
use Rattle.feed_checks.specs.EventFields.{Event}
use Rattle.feed_checks.specs.LogFormat.{joined}
use Rattle.feed_transactions.specs.ReportLaws.{Each}
use Rattle.feed_replication.specs.Acknowledgements.{acknowledgement, is_ack_requested, requested_acks}
use Rattle.feed_replication.specs.AnswerEvents.{event_or_none}
use Rattle.feed_replication.specs.Streams.{event_in, holds_event, is_one_event}
use Rattle.feed_replication.specs.declared.format.PayloadFormat.{PayloadFormat as Format}
use Rattle.feed_replication.specs.declared.format.PayloadFormat.TheVariants.{Plain, SemiSync}
use Rattle.changes_walks.specs.FollowedAnswers.{IsAck}

both_last : (a b : Bool) → (a && b) ≡ true → b ≡ true
both_last true b h = h
both_last false b h = absurd (true≢false (sym h))

both_first : (a b : Bool) → (a && b) ≡ true → a ≡ true
both_first true b h = refl
both_first false b h = absurd (true≢false (sym h))

long_one : (e : Event) → is_one_event e ≡ true → 19 ≤ length e
long_one e h = leb-true 19 (length e) (both_first _ _ h)

long_held : (format : Format) (p : List ℕ) → holds_event format p ≡ true → 19 ≤ length (event_in format p)
unfolding holds_event
long_held Plain p h = long_one _ (both_last _ _ h)
long_held SemiSync p h = long_one _ (both_last _ _ h)

each_last : {A : Type 0} (P : A → Type 0) (xs : List A) (x : A) → Each P (xs ++ x ∷ []) → P x
each_last P [] x h = h.0
each_last P (y ∷ xs) x h = each_last P xs x h.1

-- the event of the last payload has a header
pub long_last : (format : Format) (ps : List (List ℕ)) (p : List ℕ) → Each (λ x. holds_event format x ≡ true) (ps ++ p ∷ []) → 19 ≤ length (event_in format p)
long_last format ps p h = long_held format p (each_last (λ x. holds_event format x ≡ true) ps p h)

-- the event of a payload, if that has one
held : (format : Format) (p event : List ℕ) → event_or_none format p ≡ event → 19 ≤ length event → event_in format p ≡ event
held format p event is long = of (holds_event format p) refl
  where
    of : (b : Bool) → holds_event format p ≡ b → event_in format p ≡ event
    of true e = rw e at is
    of false e =
        let none : [] ≡ event = rw e at is in
        let short : 19 ≤ 0 = subst (λ (x : List ℕ). 19 ≤ length x) (sym none) long in
        absurd (omega (arith, short))

-- an event leads to its acknowledgement, or to none
pub is_ack : (format : Format) (name p event : List ℕ) → event_or_none format p ≡ event → 19 ≤ length event → IsAck name event (joined (requested_acks format name (p ∷ [])))
is_ack format name p event is long = of (is_ack_requested format p) refl
  where
    of : (b : Bool) → is_ack_requested format p ≡ b → IsAck name event (joined (requested_acks format name (p ∷ [])))
    of true e = inr (rw e (ap (λ (x : List ℕ). joined (acknowledgement name x ∷ [])) (held format p event is long)))
    of false e = inl (rw e refl)
