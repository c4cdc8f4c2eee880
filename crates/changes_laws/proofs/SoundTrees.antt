-- Trees of documents whose numbers have few digits, whose texts are UTF-8, and whose keys ascend, as those of documents that are read.
use Rattle.std.proofs.Common.{◌≡◌, ℕ, ◌<◌, ◌^◌, List, [], ◌∷◌, refl, sym, ap, ◌∙◌, subst, Ordering, Less, Equal, Greater}
use Rattle.std.specs.Prelude.{IsUtf8}
use Rattle.std.specs.Ordering.{nat_cmp, match_ordering, ordering_reverse}
use Rattle.std.specs.Cmp.Lexicographic.{slice_cmp}
use Rattle.std.proofs.lemmas.Cmp.{nat_list_cmp_total}
use lib.Signed.{mag}
use Rattle.wire_buf.specs.Encoding.{AreBytes}
use Rattle.rows_values.specs.Digits.{AreDigits}
use Rattle.rows_jsonb.specs.JsonTrees as tree
use Rattle.rows_jsonb.specs.JsonTrees.{Tree, scalar, array, object, Items, no_items, item, Members, no_members, member, put}

abbrev pub IsSoundScalar : tree.Scalar → Type 0
IsSoundScalar (tree.int z) = mag z < 10 ^ 63
IsSoundScalar (tree.uint n) = n < 10 ^ 64
IsSoundScalar (tree.decimal d) = AreDigits d.before × AreDigits d.after
IsSoundScalar (tree.string s) = IsUtf8 s
IsSoundScalar (tree.opaque number bytes) = (number < 10 ^ 64) × AreBytes bytes
IsSoundScalar _ = Unit {0}

abbrev pub keys_of : Members → List (List ℕ)
keys_of no_members = []
keys_of (member k t ms) = k ∷ keys_of ms

-- a key comes before others
abbrev pub IsBelow : List ℕ → List (List ℕ) → Type 0
IsBelow k [] = Unit {0}
IsBelow k (l ∷ ls) = (slice_cmp nat_cmp k l ≡ Less) × IsBelow k ls

abbrev pub AreAscending : List (List ℕ) → Type 0
AreAscending [] = Unit {0}
AreAscending (k ∷ ks) = IsBelow k ks × AreAscending ks

unfoldable mutual
  pub IsSoundTree : Tree → Type 0
  IsSoundTree (scalar s) = IsSoundScalar s
  IsSoundTree (array is) = AreSoundItems is
  IsSoundTree (object ms) = AreSoundMembers ms × AreAscending (keys_of ms)

  pub AreSoundItems : Items → Type 0
  AreSoundItems no_items = Unit {0}
  AreSoundItems (item t ts) = IsSoundTree t × AreSoundItems ts

  pub AreSoundMembers : Members → Type 0
  AreSoundMembers no_members = Unit {0}
  AreSoundMembers (member k t ms) = IsUtf8 k × IsSoundTree t × AreSoundMembers ms

-- ---- one member more
below_lower : (j k : List ℕ) (ls : List (List ℕ)) → slice_cmp nat_cmp j k ≡ Less → IsBelow k ls → IsBelow j ls
below_lower j k [] h b = tt
below_lower j k (l ∷ ls) h b = (nat_list_cmp_total.trans j k l h b.0, below_lower j k ls h b.1)

below_equal : (k l : List ℕ) (ls : List (List ℕ)) → slice_cmp nat_cmp k l ≡ Equal → IsBelow l ls → IsBelow k ls
below_equal k l [] h b = tt
below_equal k l (m ∷ ls) h b = (nat_list_cmp_total.congr k l m h ∙ b.0, below_equal k l ls h b.1)

turned : (k l : List ℕ) → slice_cmp nat_cmp k l ≡ Greater → slice_cmp nat_cmp l k ≡ Less
turned k l h = nat_list_cmp_total.antisymm l k ∙ ap ordering_reverse h

pub different : (k l : List ℕ) → slice_cmp nat_cmp k l ≡ Less → l ≡ k → ⊥
different k l h e =
    let same : slice_cmp nat_cmp k k ≡ Less = subst (λ (x : List ℕ). slice_cmp nat_cmp k x ≡ Less) e h in
    let no : Less ≡ Greater = sym same ∙ nat_list_cmp_total.antisymm k k ∙ ap ordering_reverse same in
    cc

below_put : (j k : List ℕ) (t : Tree) (ms : Members) → slice_cmp nat_cmp j k ≡ Less → IsBelow j (keys_of ms) → IsBelow j (keys_of (put k t ms))
below_put j k t no_members h b = (h, tt)
below_put j k t (member l u ms) h b = go (slice_cmp nat_cmp k l) (below_put j k t ms h b.1)
  where
    go : (o : Ordering) → IsBelow j (keys_of (put k t ms)) → IsBelow j (keys_of (match_ordering o (member k t (member l u ms)) (member l t ms) (member l u (put k t ms))))
    go Less more = (h, b)
    go Equal more = (b.0, b.1)
    go Greater more = (b.0, more)

pub put_ascending : (k : List ℕ) (t : Tree) (ms : Members) → AreAscending (keys_of ms) → AreAscending (keys_of (put k t ms))
put_ascending k t no_members a = (tt, tt)
put_ascending k t (member l u ms) a = go (slice_cmp nat_cmp k l) refl (put_ascending k t ms a.1)
  where
    go : (o : Ordering) → slice_cmp nat_cmp k l ≡ o → AreAscending (keys_of (put k t ms))
        → AreAscending (keys_of (match_ordering o (member k t (member l u ms)) (member l t ms) (member l u (put k t ms))))
    go Less e more = ((e, below_lower k l (keys_of ms) e a.0), a)
    go Equal e more = (a.0, a.1)
    go Greater e more = (below_put l k t ms (turned k l e) a.0, more)

pub put_sound : (k : List ℕ) (t : Tree) (ms : Members) → IsUtf8 k → IsSoundTree t → AreSoundMembers ms → AreSoundMembers (put k t ms)
unfolding AreSoundMembers
put_sound k t no_members h s m = (h, s, tt)
put_sound k t (member l u ms) h s m = go (slice_cmp nat_cmp k l) (put_sound k t ms h s m.2)
  where
    go : (o : Ordering) → AreSoundMembers (put k t ms) → AreSoundMembers (match_ordering o (member k t (member l u ms)) (member l t ms) (member l u (put k t ms)))
    go Less more = (h, s, m)
    go Equal more = (m.0, s, m.2)
    go Greater more = (m.0, m.1, more)
