-- The log in a file, from its first bytes and the others.
use Rattle.std.proofs.Common.{◌≡◌, ◌⊎◌, ℕ, ◌<◌, ◌≤◌, Bool, List, [], ◌∷◌, ◌++◌, length, Option, Some, None, zero, suc, inl, inr, refl, sym, ap, subst, ◌∙◌, arith}
use Rattle.std.specs.Prelude.{take}
use Rattle.std.proofs.lemmas.List.{append-nil}
use Rattle.events_frames.specs.Frames.{AppendsNext}
use Rattle.inflate.specs.Wrappings.{AppendsMembers}
use Rattle.inflate.specs.declared.error.InflateError.{InflateError}
use Rattle.zstd_decoder.specs.Frames.{AppendsFrames}
use Rattle.zstd_decoder.specs.declared.error.ZstdError.{ZstdError}
use Rattle.changes_commands.specs.Unpacked.{Begins, IsLogIn, IsUnpackFault, TakesAll, Unpacks, compression_in, compression_of}
use Rattle.changes_commands.specs.declared.unpacking.Compression.{Compression}
use Rattle.changes_commands.specs.declared.unpacking.Compression.TheVariants.{Absent, Gzip, Zstandard}
use Rattle.changes_commands.specs.declared.unpacking.UnpackFault.{UnpackFault}
use Rattle.changes_commands.specs.declared.unpacking.UnpackFault.TheVariants as fault

-- ---- the first bytes of a file

first_of : (n : ℕ) (taken rest : List ℕ) → length taken ≤ n → (length taken < n → rest ≡ []) → take n (taken ++ rest) ≡ taken
first_of zero [] rest h all = refl
first_of zero (c ∷ taken) rest h all = absurd (omega arith)
first_of (suc n) [] rest h all = rw (all (omega arith)) refl
first_of (suc n) (c ∷ taken) rest h all = ap (λ (l : List ℕ). c ∷ l) (first_of n taken rest (omega arith) (λ k. all (omega arith)))

pub begins : (file before after : List ℕ) (old new : Option (List ℕ)) → old ≡ Some file → before ≡ [] → AppendsNext 4 old new before after → Begins file after new
begins file before after None new is none a = absurd cc
begins file before after (Some b) None is none a = absurd a.consumed
begins file before after (Some b) (Some rest) is none a =
    let same : b ≡ file = cc in
    let split : file ≡ a.taken ++ rest = sym same ∙ a.consumed in
    let all : after ≡ a.taken = a.appended ∙ ap (λ (l : List ℕ). l ++ a.taken) none in
    record {
      rest = rest;
      left_is = refl;
      split = split ∙ ap (λ (l : List ℕ). l ++ rest) (sym all);
      is = all ∙ sym (ap (take 4) split ∙ first_of 4 a.taken rest a.at_most a.all);
    }

-- ---- the log

module _ (file first : List ℕ) (mid : Option (List ℕ)) (b : Begins file first mid) where
  in_file : (k : Compression) → compression_of first ≡ k → compression_in file ≡ k
  in_file k is = ap compression_of (sym b.is) ∙ is

  pub unpacks_plain : compression_of first ≡ Absent → Unpacks file first mid
  unpacks_plain is = record { rest = b.rest; left_is = b.left_is; is = subst (λ (k : Compression). IsLogIn k file (first ++ b.rest)) (sym (in_file Absent is)) (sym b.split) }

  module _ (packed : List ℕ) (new : Option (List ℕ)) (t : TakesAll b.rest new first packed) where
    all : packed ≡ file
    all = t.appended ∙ sym b.split

    unpacks : (k : Compression) → compression_of first ≡ k → (content : List ℕ) → IsLogIn k packed content → Unpacks file content new
    unpacks k is content log = record {
      rest = [];
      left_is = t.none;
      is = subst (λ (k : Compression). IsLogIn k file (content ++ [])) (sym (in_file k is)) (subst (λ (x : List ℕ). IsLogIn k x (content ++ [])) all (subst (λ (l : List ℕ). IsLogIn k packed l) (sym (append-nil content)) log));
    }

    pub unpacks_gzip : compression_of first ≡ Gzip → (content : List ℕ) → AppendsMembers packed [] content → Unpacks file content new
    unpacks_gzip is content log = unpacks Gzip is content log

    pub unpacks_zstandard : compression_of first ≡ Zstandard → (content : List ℕ) → AppendsFrames packed [] content → Unpacks file content new
    unpacks_zstandard is content log = unpacks Zstandard is content log

  pub damaged_gzip : compression_of first ≡ Gzip → (failed : Bool) (e : UnpackFault) → (e ≡ fault.Memory) ⊎ ((why : InflateError) × (e ≡ fault.Gzip why)) → IsUnpackFault failed file e
  damaged_gzip is failed e (inl h) = rw h tt
  damaged_gzip is failed e (inr h) = rw h.1 (in_file Gzip is)

  pub damaged_zstandard : compression_of first ≡ Zstandard → (failed : Bool) (e : UnpackFault) → (e ≡ fault.Memory) ⊎ ((why : ZstdError) × (e ≡ fault.Zstandard why)) → IsUnpackFault failed file e
  damaged_zstandard is failed e (inl h) = rw h tt
  damaged_zstandard is failed e (inr h) = rw h.1 (in_file Zstandard is)
