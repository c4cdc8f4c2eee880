-- Fields of one of two formats.
use Rattle.std.proofs.Common.{◌≡◌, ℕ, List, ap, Option}
use Rattle.wire_buf.specs.Encoding.{Begins, Reads, Lacks}
use Rattle.wire_buf.specs.Writing.{WritesField}
use Rattle.wire_fields_extra.specs.Eithers.{IsEither, IsSide, either_encoded}
use Rattle.wire_fields_extra.specs.declared.either.Either.{Either}
use Rattle.wire_fields_extra.specs.declared.either.Either.TheVariants.{Left, Right}

module _ {C D A B : Type 0} (first : C → A → List ℕ → List ℕ → Type 0) (second : D → B → List ℕ → List ℕ → Type 0) where
  Reads-left : (c : C) (v : A) (x r : List ℕ) → Reads (first c) v x r → Reads (IsEither first second (Left c)) (Left v) x r
  Reads-left c v x r p = record {
    begins = record { bytes = p.begins.bytes; joined = p.begins.joined; is = p.begins.is };
    only = λ w s t. elim w as (λ w. Begins (IsEither first second (Left c) w) x s → (s ≡ r) × (Left v ≡ w)) [
      | Left a ↦ λ t. let o = p.only a s (record { bytes = t.bytes; joined = t.joined; is = t.is }) in (o.0, ap (λ (q : A). Left q) o.1)
      | Right b ↦ λ t. absurd t.is
    ] t;
  }

  Reads-right : (d : D) (w : B) (x r : List ℕ) → Reads (second d) w x r → Reads (IsEither first second (Right d)) (Right w) x r
  Reads-right d w x r p = record {
    begins = record { bytes = p.begins.bytes; joined = p.begins.joined; is = p.begins.is };
    only = λ v s t. elim v as (λ v. Begins (IsEither first second (Right d) v) x s → (s ≡ r) × (Right w ≡ v)) [
      | Left a ↦ λ t. absurd t.is
      | Right b ↦ λ t. let o = p.only b s (record { bytes = t.bytes; joined = t.joined; is = t.is }) in (o.0, ap (λ (q : B). Right q) o.1)
    ] t;
  }

  Lacks-left : (c : C) (x : List ℕ) → Lacks (first c) x → Lacks (IsEither first second (Left c)) x
  Lacks-left c x lacks (Left a) s t = lacks a s (record { bytes = t.bytes; joined = t.joined; is = t.is })
  Lacks-left c x lacks (Right b) s t = t.is

  Lacks-right : (d : D) (x : List ℕ) → Lacks (second d) x → Lacks (IsEither first second (Right d)) x
  Lacks-right d x lacks (Left a) s t = t.is
  Lacks-right d x lacks (Right b) s t = lacks b s (record { bytes = t.bytes; joined = t.joined; is = t.is })

  -- the context names the left side
  module _ (ctx : Either C D) (c : C) (is : ctx ≡ Left c) (x : List ℕ) where
    pub read_left : (v : A) (r : List ℕ) → Reads (first c) v x r → Reads (IsEither first second ctx) (Left v) x r
    read_left v r p = rw is (Reads-left c v x r p)

    pub lacks_left : Lacks (first c) x → Lacks (IsEither first second ctx) x
    lacks_left l = rw is (Lacks-left c x l)

  -- the context names the right side
  module _ (ctx : Either C D) (d : D) (is : ctx ≡ Right d) (x : List ℕ) where
    pub read_right : (w : B) (r : List ℕ) → Reads (second d) w x r → Reads (IsEither first second ctx) (Right w) x r
    read_right w r p = rw is (Reads-right d w x r p)

    pub lacks_right : Lacks (second d) x → Lacks (IsEither first second ctx) x
    lacks_right l = rw is (Lacks-right d x l)

-- the bytes of one side are written
module _ {A B : Type 0} (pf : A → Option (List ℕ)) (pg : B → Option (List ℕ)) (f : A → List ℕ → List ℕ → Type 0) (g : B → List ℕ → List ℕ → Type 0) (sf sg : List ℕ → Type 0) (old new : List ℕ) where
  pub written_left : (v : A) → WritesField pf f sf v old new → WritesField (either_encoded pf pg) (IsSide f g) (λ rest. sf rest × sg rest) (Left v) old new
  written_left v w = record { bytes = w.bytes; is = w.is; appended = w.appended; encodes = λ rest s. w.encodes rest s.0; least = λ other rest h are. w.least other rest h are }

  pub written_right : (v : B) → WritesField pg g sg v old new → WritesField (either_encoded pf pg) (IsSide f g) (λ rest. sf rest × sg rest) (Right v) old new
  written_right v w = record { bytes = w.bytes; is = w.is; appended = w.appended; encodes = λ rest s. w.encodes rest s.1; least = λ other rest h are. w.least other rest h are }
