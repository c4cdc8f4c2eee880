-- Length-encoded integers and strings from a reader.
use Rattle.std.proofs.Common.{◌≡◌, ◌≤◌, ◌<◌, ◌++◌, ◌⊎◌, inl, inr, ℕ, List, [], ◌∷◌, length, take, drop, get_or, append_assoc, arith, refl, sym, ap, subst, ◌∙◌, Option, Some, None}
use Rattle.std.proofs.lemmas.Bool.Decides.{leb_tells, eqb_tells}
use Rattle.std.proofs.lemmas.List.{length-append}
use Rattle.std.proofs.Math.Seq.{take-append_seam, drop-append_seam}
use Rattle.std.proofs.KnownBytes.{Consumes-trans}
use Rattle.std.specs.Io.KnownBytes.{Consumes}
use Rattle.wire_buf.specs.declared.fault.WireFault.{WireFault}
use Rattle.wire_buf.specs.declared.fault.WireFault.TheVariants.{Eof, BadNumber, BadConst, Memory, Read, Write, Form}
use Rattle.wire_buf.specs.Encoding.{Lacks, Alone}
use Rattle.wire_buf.specs.Numbers.{IsLenenc, one, IsLenencString}
use Rattle.wire_buf.specs.LenencSplit.{split_lenenc, split_number}
use Rattle.wire_buf.proofs.LenencLemmas.{split_lenenc-complete, lenenc_lacks}
use Rattle.wire_buf.proofs.StringLemmas.{Lacks-count, Lacks-counted, Reads-counted}
use Rattle.wire_fields_extra.specs.ReaderValues.{ReadsFrom, LacksIn, FailsFrom, IsCause, RunsOutOfMemory}
use Rattle.wire_buf.specs.Transfers.{FallsShort, GathersPrefix, Gathers}
use Rattle.wire_buf.proofs.EncodingLemmas.{Reads-prefix}
use Rattle.std.proofs.lemmas.List.{append-nil}
use Rattle.std.specs.Io.KnownBytes.{IsAtEnd}

-- facts about all known bytes from a prefix of them
module _ {A : Type 0} (encodes : A → List ℕ → Type 0) (prefix : List ℕ → Option (A × List ℕ))
    (complete : (v : A) (bytes r : List ℕ) → encodes v bytes → prefix (bytes ++ r) ≡ Some (v, r)) where
  pub ReadsFrom-taken : (v : A) (taken : List ℕ) (old new : Option (List ℕ)) → encodes v taken → Consumes old new taken → ReadsFrom (Alone encodes) v old new
  ReadsFrom-taken v taken None new is h = tt
  ReadsFrom-taken v taken (Some x) None is h = absurd h
  ReadsFrom-taken v taken (Some x) (Some y) is h = Reads-prefix encodes prefix complete v x y (record { bytes = taken; joined = h; is = is })

-- no value begins with these bytes, whatever follows
pub lacks_taken : {A : Type 0} (encodes : A → List ℕ → List ℕ → Type 0) (taken : List ℕ) (old new : Option (List ℕ)) → Consumes old new taken
    → ((r : List ℕ) → Lacks encodes (taken ++ r)) → LacksIn encodes old
lacks_taken encodes taken None new h none = tt
lacks_taken encodes taken (Some x) None h none = absurd h
lacks_taken encodes taken (Some x) (Some y) h none = λ v r t. none y v r (record { bytes = t.bytes; joined = sym h ∙ t.joined; is = t.is })

-- at the end of the input, the taken bytes are all there were
pub lacks_ended : {A : Type 0} (encodes : A → List ℕ → List ℕ → Type 0) (taken : List ℕ) (old new : Option (List ℕ)) → Consumes old new taken → IsAtEnd new
    → Lacks encodes taken → LacksIn encodes old
lacks_ended encodes taken None new h end none = tt
lacks_ended encodes taken (Some x) None h end none = absurd h
lacks_ended encodes taken (Some x) (Some y) h end none = λ v r t.
    let all : x ≡ taken = h ∙ ap (λ l. taken ++ l) end ∙ append-nil taken in
    none v r (record { bytes = t.bytes; joined = sym all ∙ t.joined; is = t.is })

-- a buffer of one byte
pub single : (xs : List ℕ) (b : ℕ) → length xs ≡ 1 → get_or xs 0 0 ≡ b → xs ≡ b ∷ []
single [] b size is = absurd (omega (arith, size))
single (x ∷ []) b size is = ap (λ n. n ∷ []) is
single (x ∷ y ∷ xs) b size is = absurd (omega (arith, size))

-- the number is the first byte
pub reads_one : (v : ℕ) (first : List ℕ) (old new : Option (List ℕ)) → first ≡ v ∷ [] → v ≤ 250 → Consumes old new first → ReadsFrom (Alone IsLenenc) v old new
reads_one v first old new e small h = ReadsFrom-taken IsLenenc split_lenenc split_lenenc-complete v (v ∷ []) old new (one small) (subst (Consumes old new) e h)

-- the number is in the bytes after the first
pub reads_tail : (tag v : ℕ) (first buf : List ℕ) (old mid new : Option (List ℕ)) → first ≡ tag ∷ [] → Consumes old mid first → Consumes mid new buf → IsLenenc v (tag ∷ buf)
    → ReadsFrom (Alone IsLenenc) v old new
reads_tail tag v first buf old mid new e h k is =
    ReadsFrom-taken IsLenenc split_lenenc split_lenenc-complete v (tag ∷ buf) old new is
    (Consumes-trans old mid new (tag ∷ []) buf (subst (Consumes old mid) e h) k)

split_number-short : (n : ℕ) (x : List ℕ) → length x < n → split_number n x ≡ None
unfolding split_number
split_number-short n x few = elim (leb_tells n (length x)) [
  | inl t ↦ absurd (omega (arith, t.1, few))
  | inr t ↦ rw t.0 refl
]

pub two_short : (t : List ℕ) → length t < 2 → Lacks (Alone IsLenenc) (252 ∷ t)
unfolding split_lenenc
two_short t few = lenenc_lacks (252 ∷ t) (split_number-short 2 t few)

pub three_short : (t : List ℕ) → length t < 3 → Lacks (Alone IsLenenc) (253 ∷ t)
unfolding split_lenenc
three_short t few = lenenc_lacks (253 ∷ t) (split_number-short 3 t few)

pub eight_short : (t : List ℕ) → length t < 8 → Lacks (Alone IsLenenc) (254 ∷ t)
unfolding split_lenenc
eight_short t few = lenenc_lacks (254 ∷ t) (split_number-short 8 t few)

-- no number begins with this byte
pub no_number : (b : ℕ) → 250 < b → (b ≡ 252 → ⊥) → (b ≡ 253 → ⊥) → (b ≡ 254 → ⊥) → (r : List ℕ) → Lacks (Alone IsLenenc) (b ∷ r)
unfolding split_lenenc
no_number b far two' three' eight' r =
    lenenc_lacks (b ∷ r) (elim (leb_tells b 250) [
      | inl t ↦ absurd (omega (arith, t.1, far))
      | inr t ↦ rw t.0 (elim (eqb_tells b 252) [
        | inl e ↦ absurd (two' e.1)
        | inr e ↦ rw e.0 (elim (eqb_tells b 253) [
          | inl f ↦ absurd (three' f.1)
          | inr f ↦ rw f.0 (elim (eqb_tells b 254) [
            | inl h ↦ absurd (eight' h.1)
            | inr h ↦ rw h.0 refl
          ])
        ])
      ])
    ])

pub fails_bad : (b : ℕ) (first : List ℕ) (old new : Option (List ℕ)) → first ≡ b ∷ [] → 250 < b → (b ≡ 252 → ⊥) → (b ≡ 253 → ⊥) → (b ≡ 254 → ⊥)
    → Consumes old new first → FailsFrom (Alone IsLenenc) BadNumber old new
fails_bad b first old new e far two' three' eight' h =
    let taken = subst (Consumes old new) e h in
    record { taken = b ∷ []; consumed = taken; cause = (lacks_taken (Alone IsLenenc) (b ∷ []) old new taken (no_number b far two' three' eight'), refl) }

-- fewer bytes than the first byte announces
pub fails_tail : (tag n : ℕ) (fault : WireFault) (first : List ℕ) (old mid new : Option (List ℕ)) → first ≡ tag ∷ [] → Consumes old mid first
    → ((t : List ℕ) → length t < n → Lacks (Alone IsLenenc) (tag ∷ t)) → FallsShort fault n mid new → FailsFrom (Alone IsLenenc) fault old new
fails_tail tag n fault first old mid new e h none truncated =
    let taken = Consumes-trans old mid new (tag ∷ []) truncated.taken (subst (Consumes old mid) e h) truncated.consumed in
    record {
      taken = tag ∷ truncated.taken;
      consumed = taken;
      cause = elim truncated.cause [
        | inl p ↦ subst (λ (f : WireFault). IsCause (Alone IsLenenc) f (tag ∷ truncated.taken) old new) (sym p.0) (lacks_ended (Alone IsLenenc) (tag ∷ truncated.taken) old new taken p.1 (none truncated.taken p.2), p.1)
        | inr p ↦ subst (λ (f : WireFault). IsCause (Alone IsLenenc) f (tag ∷ truncated.taken) old new) (sym p) tt
      ];
    }

none_prefix : split_lenenc [] ≡ None
unfolding split_lenenc
none_prefix = refl

-- no first byte
pub fails_first : (fault : WireFault) (old new : Option (List ℕ)) → FallsShort fault 1 old new → FailsFrom (Alone IsLenenc) fault old new
fails_first fault old new truncated = record {
  taken = truncated.taken;
  consumed = truncated.consumed;
  cause = elim truncated.cause [
    | inl p ↦ subst (λ (f : WireFault). IsCause (Alone IsLenenc) f truncated.taken old new) (sym p.0) (lacks_ended (Alone IsLenenc) truncated.taken old new truncated.consumed p.1 (nothing truncated.taken p.2), p.1)
    | inr p ↦ subst (λ (f : WireFault). IsCause (Alone IsLenenc) f truncated.taken old new) (sym p) tt
  ];
}
  where
    nothing : (t : List ℕ) → length t < 1 → Lacks (Alone IsLenenc) t
    nothing [] few = lenenc_lacks [] none_prefix
    nothing (b ∷ t) few = absurd (omega (arith, few))

-- a string has no encoding if its length has none
lacks_string : (old : Option (List ℕ)) → LacksIn (Alone IsLenenc) old → LacksIn (Alone IsLenencString) old
lacks_string None h = tt
lacks_string (Some x) h = Lacks-count IsLenenc x h

cause_string : (fault : WireFault) (taken : List ℕ) (old new : Option (List ℕ)) → IsCause (Alone IsLenenc) fault taken old new → IsCause (Alone IsLenencString) fault taken old new
cause_string Eof taken old new h = (lacks_string old h.0, h.1)
cause_string BadNumber taken old new h = (lacks_string old h.0, h.1)
cause_string Read taken old new h = tt
cause_string Memory taken old new h = absurd h
cause_string BadConst taken old new h = absurd h
cause_string Write taken old new h = absurd h
cause_string Form taken old new h = absurd h

pub fails_string : (fault : WireFault) (old new : Option (List ℕ)) → FailsFrom (Alone IsLenenc) fault old new → FailsFrom (Alone IsLenencString) fault old new ⊎ RunsOutOfMemory fault old new
fails_string fault old new h = inl (record { taken = h.taken; consumed = h.consumed; cause = cause_string fault h.taken old new h.cause })

-- a string after its length
pub reads_string : (n : ℕ) (text : List ℕ) (old mid new : Option (List ℕ)) → ReadsFrom (Alone IsLenenc) n old mid → Gathers n mid new [] text → ReadsFrom (Alone IsLenencString) text old new
reads_string n text None mid new r g = tt
reads_string n text (Some x) None new r g = absurd r
reads_string n text (Some x) (Some y) None r g = absurd g.consumed
reads_string n text (Some x) (Some y) (Some z) r g =
    let size = g.size in
    let whole : y ≡ text ++ z = g.consumed ∙ ap (λ l. l ++ z) (sym g.appended) in
    let long : length text ≡ n = ap length g.appended ∙ size in
    let enough : n ≤ length y = omega (arith, ap length whole, length-append text z, long) in
    let prefix : text ≡ take n y = sym (ap (λ k. take k y) (sym long) ∙ ap (take (length text)) whole ∙ take-append_seam text z) in
    let back : z ≡ drop n y = sym (ap (λ k. drop k y) (sym long) ∙ ap (drop (length text)) whole ∙ drop-append_seam text z) in
    Reads-counted IsLenenc n x y text z r enough prefix back

-- a string that is truncated after its length
pub fails_cut : (n : ℕ) (fault : WireFault) (old mid new : Option (List ℕ)) (before after : List ℕ) → ReadsFrom (Alone IsLenenc) n old mid → GathersPrefix fault n mid new before after
    → FailsFrom (Alone IsLenencString) fault old new ⊎ RunsOutOfMemory fault old new
fails_cut n fault None mid new before after r truncated = elim truncated.cause [
  | inl q ↦ elim q [
    | inl p ↦ inl (record { taken = []; consumed = tt; cause = subst (λ (f : WireFault). IsCause (Alone IsLenencString) f [] None new) (sym p.0) (tt, p.1) })
    | inr p ↦ inl (record { taken = []; consumed = tt; cause = subst (λ (f : WireFault). IsCause (Alone IsLenencString) f [] None new) (sym p) tt })
  ]
  | inr p ↦ inr (record { is = p; taken = []; consumed = tt })
]
fails_cut n fault (Some x) None new before after r truncated = absurd r
fails_cut n fault (Some x) (Some y) None before after r truncated = absurd truncated.consumed
fails_cut n fault (Some x) (Some y) (Some z) before after r truncated =
    let gone : List ℕ = r.begins.bytes ++ truncated.taken in
    let lost : Consumes (Some x) (Some z) gone = r.begins.joined ∙ ap (λ l. r.begins.bytes ++ l) truncated.consumed ∙ sym (append_assoc r.begins.bytes truncated.taken z) in
    elim truncated.cause [
      | inl q ↦ elim q [
        | inl p ↦
            let few = p.2 in
            let short : length y < n = omega (arith, ap length truncated.consumed, length-append truncated.taken z, ap length p.1, few) in
            inl (record { taken = gone; consumed = lost; cause = subst (λ (f : WireFault). IsCause (Alone IsLenencString) f gone (Some x) (Some z)) (sym p.0) (Lacks-counted IsLenenc n x y r short, p.1) })
        | inr p ↦ inl (record { taken = gone; consumed = lost; cause = subst (λ (f : WireFault). IsCause (Alone IsLenencString) f gone (Some x) (Some z)) (sym p) tt })
      ]
      | inr p ↦ inr (record { is = p; taken = gone; consumed = lost })
    ]
