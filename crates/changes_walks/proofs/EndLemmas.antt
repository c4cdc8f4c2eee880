-- How following an answer begins and ends.
use Rattle.std.proofs.Common.{◌≡◌, ◌⊎◌, ◌<◌, ℕ, Bool, true, List, [], ◌∷◌, ◌++◌, Option, Some, None, Result, Ok, Err, inl, inr, refl, sym, ap, subst, ◌∙◌, append_assoc}
use Rattle.std.specs.Prelude.{⊤, take}
use Rattle.std.specs.Io.KnownBytes.{Consumes, IsAtEnd, Keeps}
use Rattle.std.proofs.lemmas.List.{append-nil}
use Rattle.wire_packets.specs.CodecState as codec
use Rattle.wire_packets.specs.Framing.{chunks, framings}
use Rattle.feed_checks.specs.declared.verdict.Verdict.{Verdict}
use Rattle.feed_transactions.specs.Recorders.{HasOpen}
use Rattle.feed_transactions.specs.Rules.{Judge}
use Rattle.feed_change_log.specs.declared.filter.Filter.{Filter}
use Rattle.feed_change_log.specs.declared.pushed_log.PushedLog.{PushedLog}
use Rattle.feed_replication.specs.Incoming.{gathered_left, received_left}
use Rattle.feed_replication.specs.declared.answer_events.AnswerEvents.{AnswerEvents}
use Rattle.changes_commands.specs.declared.output.Failure.{Failure}
use Rattle.changes_walks.specs.FollowedAnswers.{payloads_of, Asked, Gives, HasAnswered, HasAnswerFailure, IsFollowing}
use Rattle.changes_walks.specs.FollowedEnds.{EndsFollowing, EndsTaking, Follows, HasTakenAll, IsReadUpTo, IsUpToDate, TakesPiece}
use Rattle.changes_walks.specs.declared.following.FollowEnd.{FollowEnd}
use Rattle.changes_walks.specs.declared.following.FollowEnd.TheVariants as ends

consumes_none : (o : Option (List ℕ)) → Consumes o o []
consumes_none None = tt
consumes_none (Some x) = refl

consumes_both : (a b c : Option (List ℕ)) (x y : List ℕ) → Consumes a b x → Consumes b c y → Consumes a c (x ++ y)
consumes_both None b c x y h k = tt
consumes_both (Some a) None c x y h k = absurd h
consumes_both (Some a) (Some b) None x y h k = absurd k
consumes_both (Some a) (Some b) (Some c) x y h k = h ∙ ap (λ (l : List ℕ). x ++ l) k ∙ sym (append_assoc x y c)

kept_after : (a b c : Option (List ℕ)) (x : List ℕ) → Consumes a b x → Keeps b c → Consumes a c x
kept_after None b c x h k = tt
kept_after (Some a) None c x h k = absurd h
kept_after (Some a) (Some b) None x h k = absurd k
kept_after (Some a) (Some b) (Some c) x h k = h ∙ ap (λ (l : List ℕ). x ++ l) (sym k)

whole_of : (limit : ℕ) (s : List ℕ) (ps : List (List ℕ)) (g u : List ℕ) → g ≡ [] → u ≡ [] → codec.SplitsInto limit 1 s ps g u → s ≡ framings 1 ps
unfolding chunks
whole_of limit s ps g u none_gathered none_left h =
    let k : codec.SplitsInto limit 1 s ps [] [] = subst (λ (x : List ℕ). codec.SplitsInto limit 1 s ps [] x) none_left (subst (λ (x : List ℕ). codec.SplitsInto limit 1 s ps x u) none_gathered h) in
    k.whole ∙ append-nil (framings 1 ps)

module _ {G C E S : Type 0} (IsOpen : HasOpen C) (IsLike : C → C → Type 0) (Expects : S → Filter → C → Type 0) (q : Asked) (judge : Judge) (f : Filter) (MayGive : Gives E) (first : E) (Has : HasAnswered S) (HasFailed : HasAnswerFailure S) (IsWritten : S → Type 0) (answer : AnswerEvents G) (log : PushedLog C E) (sink : S) (before : List ℕ) where
  -- nothing was read
  pub read_none : (old : Option (List ℕ)) → IsFollowing IsOpen IsLike Expects q judge f MayGive first Has answer log sink before → IsWritten sink → IsReadUpTo IsOpen IsLike Expects q judge f MayGive first Has IsWritten answer log sink before old old
  read_none old h written = record {
    read = [];
    consumed = consumes_none old;
    up = record { following = subst (IsFollowing IsOpen IsLike Expects q judge f MayGive first Has answer log sink) (sym (append-nil before)) h; all = inl refl; written = written };
  }

  module _ (old mid left : Option (List ℕ)) (room : ℕ) (failed : Bool) where
    -- a piece was read and taken
    pub read_more : (read piece : List ℕ) → Consumes old mid read → Consumes mid left piece → (u : ⊤) → TakesPiece IsOpen IsLike Expects q judge f MayGive first Has HasFailed IsWritten answer log sink ((before ++ read) ++ piece) (Ok u) → IsReadUpTo IsOpen IsLike Expects q judge f MayGive first Has IsWritten answer log sink before old left
    unfolding TakesPiece
    read_more read piece h k u t =
        let all : HasTakenAll IsOpen IsLike Expects q judge f MayGive first Has answer log sink (before ++ (read ++ piece)) = subst (HasTakenAll IsOpen IsLike Expects q judge f MayGive first Has answer log sink) (append_assoc before read piece) t.0 in
        record { read = read ++ piece; consumed = consumes_both old mid left read piece h k; up = record { following = all.following; all = inr all.halts; written = t.1 } }

    module _ (r : IsReadUpTo IsOpen IsLike Expects q judge f MayGive first Has IsWritten answer log sink before old mid) where
      -- the input ended between two packets
      pub ends_whole : (n : ℕ) (buf : List ℕ) → n ≡ 0 → Consumes mid left (take n buf) × (n ≡ 0 → 0 < room → IsAtEnd left) → gathered_left answer.incoming answer.found ≡ [] → received_left answer.incoming answer.found ≡ [] → Follows IsOpen IsLike Expects q judge f MayGive first Has HasFailed IsWritten answer log sink before old left room failed ends.Ended
      unfolding EndsFollowing
      ends_whole n buf is k none_gathered none_left = record {
        read = r.read;
        consumed = subst (Consumes old left) (append-nil r.read) (consumes_both old mid left r.read [] r.consumed (subst (λ (x : ℕ). Consumes mid left (take x buf)) is k.0));
        ends = inl (r.up, whole_of _ (before ++ r.read) (payloads_of r.up.following.xs) _ _ none_gathered none_left r.up.following.events.payloads.codec.reads, k.1 is);
      }

      -- or within one
      pub ends_cut : (n : ℕ) (buf : List ℕ) → n ≡ 0 → Consumes mid left (take n buf) × (n ≡ 0 → 0 < room → IsAtEnd left) → Follows IsOpen IsLike Expects q judge f MayGive first Has HasFailed IsWritten answer log sink before old left room failed ends.Cut
      unfolding EndsFollowing
      ends_cut n buf is k = record {
        read = r.read;
        consumed = subst (Consumes old left) (append-nil r.read) (consumes_both old mid left r.read [] r.consumed (subst (λ (x : ℕ). Consumes mid left (take x buf)) is k.0));
        ends = (r.up, k.1 is);
      }

      -- reading failed
      pub ends_unread : Keeps mid left → failed ≡ true → Follows IsOpen IsLike Expects q judge f MayGive first Has HasFailed IsWritten answer log sink before old left room failed ends.Unread
      unfolding EndsFollowing
      ends_unread k is = record { read = r.read; consumed = kept_after old mid left r.read r.consumed k; ends = (r.up, is) }

    ends_by : (read : List ℕ) (end : FollowEnd) → TakesPiece IsOpen IsLike Expects q judge f MayGive first Has HasFailed IsWritten answer log sink (before ++ read) (Err end) → EndsFollowing IsOpen IsLike Expects q judge f MayGive first Has HasFailed IsWritten answer log sink before read left room failed end
    unfolding EndsFollowing EndsTaking TakesPiece
    ends_by read ends.Ended t = inr t
    ends_by read ends.Cut t = absurd t.0
    ends_by read ends.Unread t = absurd t.0
    ends_by read (ends.Packet v) t = t
    ends_by read ends.Fault t = t
    ends_by read ends.Memory t = t
    ends_by read (ends.Failed e) t = t

    -- no more is taken
    pub ends_taken : (read piece : List ℕ) → Consumes old mid read → Consumes mid left piece → (end : FollowEnd) → TakesPiece IsOpen IsLike Expects q judge f MayGive first Has HasFailed IsWritten answer log sink ((before ++ read) ++ piece) (Err end) → Follows IsOpen IsLike Expects q judge f MayGive first Has HasFailed IsWritten answer log sink before old left room failed end
    ends_taken read piece h k end t = record {
      read = read ++ piece;
      consumed = consumes_both old mid left read piece h k;
      ends = ends_by (read ++ piece) end (subst (λ (x : List ℕ). TakesPiece IsOpen IsLike Expects q judge f MayGive first Has HasFailed IsWritten answer log sink x (Err end)) (append_assoc before read piece) t);
    }
