-- A payload that is borrowed from the received bytes.
use Rattle.std.proofs.Common.{◌≡◌, ℕ, ◌+◌, ◌≤◌, List, [], ◌∷◌, length, take, drop, Some, refl, sym, subst, ◌∙◌, arith}
use Rattle.wire_packets.specs.CodecState.{HasRead, GivesPacket, codec_gathered}
use Rattle.wire_packets.specs.declared.packet_codec.PacketCodec.{PacketCodec}
use Rattle.feed_replication.specs.Incoming.{IsFound, found_end}
use Rattle.feed_replication.specs.declared.incoming.Found.{Found}
use Rattle.feed_replication.specs.declared.incoming.Found.TheVariants.{Received, Gathered}
use Rattle.feed_replication.specs.declared.incoming.Incoming.{Incoming}

-- a packet that was found ends within the received bytes
pub is_found : (i : Incoming) (f : Found) → found_end (Some f) ≤ length i.received.items → IsFound i f
is_found i (Received n) h = h
is_found i Gathered h = tt

pub found_ends : (i : Incoming) (f : Found) → IsFound i f → found_end (Some f) ≤ length i.received.items
found_ends i (Received n) h = h
found_ends i Gathered h = omega arith

none_long : (g : List ℕ) → length g ≡ 0 → g ≡ []
none_long [] h = refl
none_long (x ∷ g) h = cc

-- the codec returned p, a part of v, which are the received bytes u
pub lent : (c d : PacketCodec) (s : List ℕ) (ps : List (List ℕ)) (g u v p : List ℕ) → HasRead c 1 s ps g u → v ≡ u → codec_gathered c ≡ 0 → p ≡ take (length p) (drop 4 v) → (HasRead c 1 s ps [] v → GivesPacket d 1 s ps [] p (drop (4 + length p) v)) → GivesPacket d 1 s ps [] (take (length p) (drop 4 u)) (drop (4 + length p) u)
lent c d s ps g u v p st same between is gives =
    let empty : g ≡ [] = none_long g (sym st.gathered ∙ between) in
    let here : HasRead c 1 s ps [] v = subst (λ (x : List ℕ). HasRead c 1 s ps [] x) (sym same) (subst (λ (x : List ℕ). HasRead c 1 s ps x u) empty st) in
    subst (λ (x : List ℕ). GivesPacket d 1 s ps [] (take (length p) (drop 4 x)) (drop (4 + length p) x)) same (subst (λ (x : List ℕ). GivesPacket d 1 s ps [] x (drop (4 + length p) v)) is (gives here))

-- the same for an equal codec and equal bytes
pub passed : (c d : PacketCodec) (s : List ℕ) (ps : List (List ℕ)) (p u v : List ℕ) → d ≡ c → v ≡ u → GivesPacket c 1 s ps [] p u → GivesPacket d 1 s ps [] p v
passed c d s ps p u v same after gives = subst (λ (x : PacketCodec). GivesPacket x 1 s ps [] p v) (sym same) (subst (λ (x : List ℕ). GivesPacket c 1 s ps [] p x) (sym after) gives)
