-- What a socket offers, whatever kind it is of. The kind says which packets can take a queued datagram.
use Rattle.std.specs.Prelude.{◌≡◌, ℕ, Bool, true, false, List, Option, None, Some}
use Rattle.net_base.specs.Packets.{Packets, contents, unpadded, first, without_first}
use Rattle.socket_context.specs.Packet.{PacketValue, IsSendable}
use Rattle.socket_context.specs.declared.offer.Offer as Answer
use Rattle.socket_context.specs.declared.offer.Offer.TheVariants as Offer
use Rattle.socket_datagram.specs.SocketValue.{SocketValue, settled}

-- the packet takes the datagram; no other one does, and it can be sent
pub record IsOnly (Takes : PacketValue → Type 0) (p : PacketValue) : Type 0 where
  pub takes : Takes p
  pub only : (other : PacketValue) → Takes other → other ≡ p
  pub sendable : IsSendable p

-- the packet that takes a datagram, or none where no packet can
abbrev pub IsFound : (PacketValue → Type 0) → Option PacketValue → Type 0
IsFound Takes None = (p : PacketValue) → Takes p → ⊥
IsFound Takes (Some p) = IsOnly Takes p

-- a datagram that no packet can take is dropped, which is said
abbrev pub answer_with : Option PacketValue → Answer.Offer
answer_with None = Offer.Silent true
answer_with (Some p) = Offer.Packet false

-- a packet is offered exactly where the answer says so
abbrev pub HasPacket : Answer.Offer → Option PacketValue → Type 0
HasPacket (Offer.Packet changed) None = ⊥
HasPacket (Offer.Packet changed) (Some p) = Unit {0}
HasPacket (Offer.Silent changed) None = Unit {0}
HasPacket (Offer.Silent changed) (Some p) = ⊥

-- the answer says that the socket or a queue changed
abbrev pub changed_by : Answer.Offer → Bool
changed_by (Offer.Packet changed) = changed
changed_by (Offer.Silent changed) = changed

module _ {H S : Type 0} where
  abbrev pub left_with : Option PacketValue → SocketValue H S → SocketValue H S
  left_with None v = record v { queued = without_first v.queued; offered = None }
  left_with (Some p) v = record v { queued = unpadded v.queued; offered = Some p }

  abbrev pub OffersFirst : (S → H × List ℕ → PacketValue → Type 0) → SocketValue H S → Option (H × List ℕ) → Answer.Offer → SocketValue H S → Type 0
  OffersFirst Takes v None answer v' = (answer ≡ Offer.Silent false) × (v' ≡ settled false v)
  OffersFirst Takes v (Some q) answer v' =
      IsFound (Takes v.settings q) v'.offered × (answer ≡ answer_with v'.offered) × (v' ≡ left_with v'.offered v)

  -- The first queued datagram is offered in the packet that takes it. One that no packet can take is dropped.
  abbrev pub OffersBy : (S → H × List ℕ → PacketValue → Type 0) → SocketValue H S → Answer.Offer → SocketValue H S → Type 0
  OffersBy Takes v answer v' = OffersFirst Takes v (first v.queued) answer v'

  -- the same socket, with the same datagrams in its queues, of which those to be sent may lie elsewhere
  pub record IsSameButForSlots (v v' : SocketValue H S) : Type 0 where
    pub received : v'.received ≡ v.received
    pub settings : v'.settings ≡ v.settings
    pub queued : contents v'.queued ≡ contents v.queued
    pub positions : v'.queued.positions ≡ v.queued.positions
    pub room : v'.queued.room ≡ v.queued.room
