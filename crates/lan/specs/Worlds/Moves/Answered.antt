-- Of each segment by which a TCP socket answers one that comes to it in a poll: it goes in a frame.
use Rattle.std.specs.Prelude.{◌≡◌, ◌⊎◌, ℕ, ◌^◌, ◌<◌, Bool, true, List, IfSome}
use Rattle.sockets.specs.Packet.{PacketValue}
use Rattle.sockets.specs.WellFormed.{IsWellFormed}
use Rattle.tcp_block.specs.Arrival.{arrives}
use Rattle.interface.specs.Ingress.{is_solicitation}
use Rattle.iface_egress.specs.Departing.{HasSettingsOf}
use Rattle.iface_egress.specs.Departure.{Whole}
use Rattle.iface_egress.specs.IsTransmitted.{frame_of, numbered}
use Rattle.iface_egress.specs.Plan.{plan_of}
use Rattle.iface_egress.specs.declared.plan.Plan.{Plan}
use Rattle.iface_egress.specs.declared.plan.Plan.TheVariants as Way
use Rattle.iface_ingress.specs.Delivered.{packet_by}
use Rattle.iface_ingress.specs.HardwareAddress.{HardwareAddress}
use Rattle.iface_ingress.specs.IpAddress.{IpAddress}
use Rattle.iface_tables.specs.Inner.{InnerValue, link_address}
use Rattle.iface_tables.specs.declared.link.LinkAddress.TheVariants as Link
use Rattle.lan.specs.Worlds.AtLink.Moves.{Move}
use Rattle.lan.specs.Worlds.AtLink.Moves.Move.{Takes}
use Rattle.lan.specs.Worlds.Moves.Made.{IsWide}
use Rattle.lan.specs.Worlds.Moves.WasSent.{IsGone}

-- A poll of a host: what the host was before it, how one says after it that it knew throughout to which hardware address the frames for a destination go,
-- and the frames that its device took in it, the oldest first.
module _ (i0 : InnerValue) (knows_hop : IpAddress → HardwareAddress → Type 0) (gone : List (List ℕ)) where
  -- a packet that can be sent and read; where the host planned that it goes whole, it went
  pub record WasSentAsPlanned (i : InnerValue) (p : PacketValue) (plan : Plan) : Type 0 where
    pub formed : IsWellFormed p
    pub wide : IsWide p
    pub was_sent : (to : HardwareAddress) → plan ≡ Way.Go to → IsGone gone (frame_of i (Whole to (numbered i p)))

  -- The host was so when it answered by this packet, which waited for its next hop, or went as planned.
  pub record AnswerLeft (p : PacketValue) : Type 0 where
    pub i : InnerValue
    pub settings : HasSettingsOf i0 i
    pub ident : i0.ident < 2 ^ 16 → i.ident < 2 ^ 16
    pub hop_limit : (remote : IpAddress) (to : HardwareAddress) → knows_hop remote to → link_address i remote ≡ Link.Known to
    pub busy : Bool
    pub what : (is_solicitation (plan_of i busy p.header) ≡ true) ⊎ WasSentAsPlanned i p (plan_of i busy p.header)

  -- so each answer of a TCP socket
  abbrev pub HasAnswered : Move → Type 0
  HasAnswered (Takes at cx v ip header bytes) = IfSome (packet_by (arrives cx v ip header bytes).answer) AnswerLeft
  HasAnswered move = Unit {0}
