-- Of each segment that a TCP socket offers in a poll, and is told that it is done with: it went in a frame, or its host dropped it.
use Rattle.std.specs.Prelude.{◌≡◌, ℕ, ◌^◌, ◌<◌, ℤ, Bool, true, List, [], slice_get, Some, IfSome}
use Rattle.sockets.specs.Context.{ContextValue}
use Rattle.sockets.specs.Packet.{PacketValue}
use Rattle.sockets.specs.WellFormed.{IsWellFormed}
use Rattle.sockets.specs.declared.socket.Socket.{Socket}
use Rattle.sockets.specs.declared.socket.Socket.TheVariants as Is
use Rattle.tcp_block.specs.Offers.{offer_of, offered_packet}
use Rattle.interface.specs.Ip.{source_of, destination_of}
use Rattle.interface.specs.Remote.{context_for}
use Rattle.interface.specs.Serve.{is_given_up, sourced}
use Rattle.iface_egress.specs.Departing.{HasSettingsOf}
use Rattle.iface_egress.specs.Departure.{Whole}
use Rattle.iface_egress.specs.Fragments.{departure_from}
use Rattle.iface_egress.specs.IsTransmitted.{cut_of, frame_of, numbered}
use Rattle.iface_egress.specs.Plan.{plan_of}
use Rattle.iface_egress.specs.declared.plan.Plan.{Plan}
use Rattle.iface_egress.specs.declared.plan.Plan.TheVariants as Way
use Rattle.iface_egress.specs.declared.socket_meta.Meta.{Meta}
use Rattle.iface_ingress.specs.HardwareAddress.{HardwareAddress}
use Rattle.iface_ingress.specs.IpAddress.{IpAddress}
use Rattle.iface_tables.specs.Inner.{InnerValue, link_address}
use Rattle.iface_tables.specs.declared.link.LinkAddress.TheVariants as Link
use Rattle.lan.specs.Worlds.AtLink.Moves.{Move}
use Rattle.lan.specs.Worlds.AtLink.Moves.Move.{Offers}
use Rattle.lan.specs.Worlds.Moves.Made.{IsWide}

-- the frames that a device took in a poll, the oldest first
module _ (gone : List (List ℕ)) where
  -- this one is among them
  abbrev pub IsGone : List ℕ → Type 0
  IsGone frame = (n : ℕ) × (slice_get gone n ≡ Some frame)

  -- What became of a packet that its host is done with, as it planned: it went whole, or was cut, and its first fragment went; it was dropped; or it had
  -- waited for its next hop, and was given up.
  abbrev pub WasSentBy : InnerValue → PacketValue → Plan → Type 0
  WasSentBy i p (Way.Go to) = IsGone (frame_of i (Whole to (numbered i p)))
  WasSentBy i p (Way.Cut to) = IsGone (frame_of i (departure_from i (cut_of i to p)))
  WasSentBy i p Way.Drop = Unit {0}
  WasSentBy i p plan = (meta : Meta) × (is_given_up meta i (destination_of p.header) plan ≡ true)

-- A poll of a host at this instant: what the host was before it, how one says after it that it knows of no path on which less is carried than in a
-- frame, and that it knew throughout to which hardware address the frames for a destination go; and the frames that went in it.
module _ (i0 : InnerValue) (t : ℤ) (knows_none : Type 0) (knows_hop : IpAddress → HardwareAddress → Type 0) (gone : List (List ℕ)) where
  -- The host was so when it showed itself to this socket, whose packet, which another host can read, left from this address.
  pub record LeftFrom (cx : ContextValue) (s : Socket) (from : IpAddress) (p : PacketValue) : Type 0 where
    pub i : InnerValue
    pub settings : HasSettingsOf i0 i
    pub instant : i.instant ≡ t
    pub ident : i0.ident < 2 ^ 16 → i.ident < 2 ^ 16
    pub paths : knows_none → i.paths ≡ []
    pub hop_limit : (remote : IpAddress) (to : HardwareAddress) → knows_hop remote to → link_address i remote ≡ Link.Known to
    pub shown : cx ≡ context_for i s
    pub formed : IsWellFormed p
    pub wide : IsWide p
    pub source : from ≡ source_of (sourced i p).header
    pub leaving_formed : IsWellFormed (sourced i p)
    pub busy : Bool
    pub was_sent : WasSentBy gone i (sourced i p) (plan_of i busy (sourced i p).header)

  -- so each packet that a TCP socket offers, and is told that it went
  abbrev pub HasLeft : Move → Type 0
  HasLeft (Offers at cx v from true) = IfSome (offered_packet (offer_of cx v).socket) (λ p. LeftFrom cx (Is.Tcp v) from p)
  HasLeft move = Unit {0}
