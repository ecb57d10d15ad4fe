-- Of each frame that a host takes in a poll: a segment that it brings to a socket comes to it by a move.
use Rattle.std.specs.Prelude.{◌≡◌, ℕ, ℤ, true, false, List, [], ◌∷◌, ◌++◌, Option, Some, None}
use Rattle.wire_tcp.specs.declared.header.TcpHeader.{TcpHeader}
use Rattle.sockets.specs.Context.{ContextValue}
use Rattle.sockets.specs.Packet.{PayloadValue, Segment}
use Rattle.tcp_block.specs.Value.{TcpValue}
use Rattle.interface.specs.Ingress.{is_read}
use Rattle.interface.specs.Ip.{destination_of}
use Rattle.interface.specs.IpRepr.{IpRepr}
use Rattle.interface.specs.IpRepr.TheVariants as Ip
use Rattle.iface_egress.specs.Departing.{HasSettingsOf}
use Rattle.iface_ingress.specs.Arrives.{whole_arrived}
use Rattle.iface_ingress.specs.Delivered.{Slots, segment_slot}
use Rattle.iface_ingress.specs.Processed.{names_no_endpoint}
use Rattle.iface_ingress.specs.Incoming.{IncomingValue, IsContent, Arp, Ip4, Ip6}
use Rattle.iface_ingress.specs.Reassembled.{Assemblers}
use Rattle.iface_ingress.specs.Upper.{IsBrought}
use Rattle.iface_tables.specs.Inner.{InnerValue, is_for_us}
use Rattle.lan.specs.Worlds.AtLink.Side.{Side}
use Rattle.lan.specs.Worlds.AtLink.Moves.{Step, run}
use Rattle.lan.specs.Worlds.AtLink.Moves.Move.{Takes}
use Rattle.lan.specs.Worlds.AtLink.Parties.{Net, party}
use Rattle.lan.specs.Worlds.Moves.Follows.{sockets_of}

-- A poll of the host of a side at this instant: what the host was before it, the net from which its moves lead, and moves of it so far.
module _ (side : Side) (i0 : InnerValue) (t : ℤ) (net : Net) where
  -- The next of these moves brings this segment to the TCP socket of a slot.
  pub record ArrivesNext (at : ℕ) (ip : IpRepr) (header : TcpHeader) (bytes : List ℕ) (steps : List Step) : Type 0 where
    pub cx : ContextValue
    pub v : TcpValue
    pub more : List Step
    pub are : steps ≡ record { side = side; move = Takes at cx v ip header bytes } ∷ more
    pub instant : cx.instant ≡ t

  -- The host had these sockets after the first of these moves, when the segment came. Where one accepts it, the next move brings it there.
  pub record ComesIn (ip : IpRepr) (header : TcpHeader) (bytes : List ℕ) (steps : List Step) : Type 0 where
    pub before : List Step
    pub following : List Step
    pub are : steps ≡ before ++ following
    pub slots : Slots
    pub sockets : (party (run net before) side).sockets ≡ sockets_of slots
    pub comes : (at : ℕ) → names_no_endpoint i0 ip ≡ false → segment_slot ip header slots ≡ Some at → ArrivesNext at ip header bytes following

  -- so where it is a segment that the packet carries
  abbrev pub IfSegment : IpRepr → Option PayloadValue → List Step → Type 0
  IfSegment ip (Some (Segment header bytes)) steps = ComesIn ip header bytes steps
  IfSegment ip carried steps = Unit {0}

  abbrev pub HandsIn : IpRepr → List ℕ → List Step → Type 0
  HandsIn ip payload steps = (carried : Option PayloadValue) × IsBrought i0.checksums ip payload carried × IfSegment ip carried steps

  -- and the packet is for this host
  abbrev pub BringsIn : InnerValue → Option IncomingValue → List Step → Type 0
  BringsIn i None steps = Unit {0}
  BringsIn i (Some (Arp link packet)) steps = Unit {0}
  BringsIn i (Some (Ip4 link header fragment payload)) steps = is_for_us i (destination_of (Ip.Ipv4 header)) ≡ true → HandsIn (Ip.Ipv4 header) payload steps
  BringsIn i (Some (Ip6 link header payload)) steps = is_for_us i (destination_of (Ip.Ipv6 header)) ≡ true → HandsIn (Ip.Ipv6 header) payload steps

  -- a frame that was taken, by a host that is as it was, and what it brought
  pub record IsMoved (frame : List ℕ) (steps : List Step) : Type 0 where
    pub i : InnerValue
    pub settings : HasSettingsOf i0 i
    pub instant : i.instant ≡ t
    pub timeout : ℕ
    pub assemblers : Assemblers
    pub content : Option IncomingValue
    pub is : IsContent i.hardware i.checksums frame content
    pub brings : BringsIn i (whole_arrived i timeout assemblers content) steps

  -- so each of these frames that isn't too long or empty
  abbrev pub AreMoved : List (List ℕ) → List Step → Type 0
  AreMoved [] steps = Unit {0}
  AreMoved (frame ∷ frames) steps = (is_read frame ≡ true → IsMoved frame steps) × AreMoved frames steps
