-- What a packet queue ends as, once a reference into it has ended.
use Rattle.std.specs.Prelude.{◌≡◌, ⊤, Result, MatchResult}
use Rattle.std.specs.Borrow.{Fml, RattleType, MutBor, follows_so}
use mathlib.Core.Option.{none}
use Rattle.base_buffer.specs.Packets.{Packets, unpadded, without_first}
use Rattle.base_buffer.specs.contracts.packet_buffer.PacketBuffer.{the_row}

-- the queue ends without the padding before its first packet
abbrev pub EndsUnpadded : (H : RattleType) → MutBor (Packets H.Denot) → Fml
EndsUnpadded H b =
    follows_so (the_row H) (the_row H) b.ghost_name none (λ _ _. ⊤) (λ n. n ≡ unpadded b.now)

-- the queue ends without its first packet, or as it was
abbrev pub EndsTaken : (H : RattleType) → MutBor (Packets H.Denot) → {A E : Type 0} → Result A E → Fml
EndsTaken H b r =
    follows_so (the_row H) (the_row H) b.ghost_name none (λ _ _. ⊤) (λ n. MatchResult r (λ _. n ≡ without_first b.now) (λ _. n ≡ b.now))
