-- A frame of a segment of a connection, as it goes from the one host and is taken by the other.
use Rattle.std.proofs.Common.{◌≡◌, ℕ, ◌^◌, ◌<◌, ◌≤◌, Bool, true, false, nat_le, not, ◌&&◌, ◌||◌, if◌then◌else◌, ℤ, List, Option, Some, None, refl, sym, ap, ◌∙◌, subst}
use Rattle.std.proofs.Common.{arith, le-leb}
use Rattle.std.specs.Prelude.{int_lt}
use Rattle.wire_ip.specs.Ip.{destination_of, source_of}
use Rattle.wire_ip.specs.declared.ip.repr.IpRepr.{IpRepr}
use Rattle.ip_wire.specs.AddressTests.{is_loopback, is_multicast, is_unspecified}
use Rattle.ip_wire.specs.HardwareAddress.{HardwareAddress}
use Rattle.ip_wire.specs.HardwareAddress.TheVariants as Hardware
use Rattle.ip_wire.specs.IpAddress.{IpAddress}
use Rattle.ip_wire.specs.IpAddress.TheVariants as Address
use Rattle.ip_wire.specs.Tcp.{normal}
use Rattle.ip_wire.specs.TcpHeader.{TcpHeader}
use Rattle.tcp_state.specs.declared.endpoints.FourTuple.{FourTuple}
use Rattle.tcp_refinement.specs.Host.{Made, made_of}
use Rattle.iface_egress.specs.Departing.{HasSettingsOf}
use Rattle.iface_egress.specs.Departure.{Whole}
use Rattle.iface_egress.specs.IsTransmitted.{frame_of, numbered}
use Rattle.iface_egress.specs.Plan.{can_be_cut, comes_from_here, long_plan, never_leaves, plan_by, plan_of, stays, total_len}
use Rattle.iface_egress.specs.declared.plan.Plan.TheVariants as Way
use Rattle.iface_ingress.specs.Packet.{Segment, packet_of}
use Rattle.iface_ingress.specs.Sent.{AreSealed, CanBeRead}
use Rattle.iface_ingress.specs.WellFormed.{IsWellFormed}
use Rattle.iface_tables.specs.Inner.{InnerValue, is_limited_broadcast, link_address, may_be_source, mtu_to}
use Rattle.iface_tables.specs.PathMtu.{least_mtu, mtu_by, mtu_towards, narrowed, path_to}
use Rattle.iface_tables.specs.declared.link.LinkAddress.{LinkAddress}
use Rattle.iface_tables.specs.declared.link.LinkAddress.TheVariants as Link
use Rattle.iface_tables.specs.declared.path_mtu.Path.{Path}
use Rattle.interface.specs.Delivered.{AreOfOneMedium}
use Rattle.interface.specs.Ingress.{is_solicitation}
use Rattle.interface.specs.TransmittedFrame.{CanRead, HasWidths}
use Rattle.lan.specs.Worlds.Link.Made.{sealed}
use Rattle.lan.proofs.Worlds.Moves.Held.{IsSeenAs}
use Rattle.proof_stack.specs.Progress.Delivered.{hears, is_misframed_to, reader_of}
use Rattle.proof_stack.specs.Progress.Ends.{GoesAlong}
use Rattle.proof_stack.specs.Progress.Queued.{frame_under, with_ident}
use Rattle.proof_stack.specs.Progress.Segments.{CanTransmit}
use Rattle.proof_stack.specs.Progress.Takings.{IsForHost}
use Rattle.proof_stack.proofs.Polls.Stays.{astray, broadcast, for_us, foreign, nobody, sender}

-- PATHS carry 576 bytes at least

no_less : (a : IpAddress) → 576 ≤ least_mtu a
no_less (Address.Ipv4 a) = omega arith
no_less (Address.Ipv6 a) = omega arith

narrow_enough : (a : IpAddress) (told whole : ℕ) → 576 ≤ whole → 576 ≤ narrowed a told whole
narrow_enough a told whole enough = let least = no_less a in omega (arith, enough, least)

pub path_enough : (paths : List Path) (a : IpAddress) (now : ℤ) (whole : ℕ) → 576 ≤ whole → 576 ≤ mtu_towards paths a now whole
unfolding mtu_towards
path_enough paths a now whole enough = by (path_to paths a) where
  in_time : (p : Path) (counts : Bool) → 576 ≤ (if counts then narrowed a p.told whole else whole)
  in_time p true = narrow_enough a p.told whole enough
  in_time p false = enough

  by : (o : Option Path) → 576 ≤ mtu_by o a now whole
  by None = enough
  by (Some p) = in_time p (int_lt now p.until)

-- A HOST whose addresses stayed

-- the host as it was at first, on the medium that it is on
abbrev pub with_routes : InnerValue → InnerValue → InnerValue
with_routes first i = record first { hardware = i.hardware; routes = i.routes }

pub stayed : (first i : InnerValue) → IsSeenAs first i → HasSettingsOf (with_routes first i) i
stayed first i seen = record {
  hardware = refl;
  mtu = seen.mtu;
  checksums = seen.checksums;
  addresses = seen.addresses;
  isn_key = seen.isn_key;
  any_ip = seen.any_ip;
  groups = seen.groups;
  host_requirements = seen.host_requirements;
  routes = refl;
}

module _ (i i' : InnerValue) (same : HasSettingsOf i i') where
  may_come : (a b : IpAddress) → may_be_source i' a b ≡ may_be_source i a b
  may_come a b k =
      not (broadcast i i' same a k || (is_multicast a || (is_unspecified a && (same.host_requirements k && not (is_limited_broadcast b)))))
      && (not (is_loopback a) || is_loopback b)

  pub never_same : (ip : IpRepr) → never_leaves i' ip ≡ never_leaves i ip
  never_same ip k =
      is_unspecified (destination_of ip) || (foreign i i' same (destination_of ip) k || not (may_come (source_of ip) (destination_of ip) k))

  pub for_host_same : (to : HardwareAddress) (ip : IpRepr) → hears i' to ≡ true → is_misframed_to i' to (destination_of ip) ≡ false
      → IsForHost i Hardware.Ip ip → IsForHost i' to ip
  for_host_same to ip heard framed is = record {
    heard = heard;
    framed = framed;
    sender = sender i i' same (source_of ip) ∙ is.sender;
    here = astray i i' same (source_of ip) (destination_of ip) ∙ is.here;
    ours = for_us i i' same (destination_of ip) ∙ is.ours;
    named = nobody i i' same ip ∙ is.named;
  }

-- both seal and test all
all_sealed : AreSealed sealed sealed
all_sealed = record { ipv4 = λ is. refl; icmpv4 = λ is. refl; icmpv6 = λ is. refl; udp = λ is. refl; tcp = λ is. refl }

pub can_read : (i j : InnerValue) (own to other : HardwareAddress) → AreOfOneMedium own to other → i.hardware ≡ own → j.hardware ≡ other → i.checksums ≡ sealed
    → j.checksums ≡ sealed → CanRead i to (reader_of j)
can_read i j own to other of_one from here seals tests = record {
  medium = subst (λ (h : HardwareAddress). AreOfOneMedium h to j.hardware) (sym from) (subst (λ (h : HardwareAddress). AreOfOneMedium own to h) (sym here) of_one);
  sealed = subst (λ c. AreSealed c j.checksums) (sym seals) (subst (λ c. AreSealed sealed c) (sym tests) all_sealed);
}

-- NO NEIGHBOR IS ASKED FOR where the next hop is known

asks_none : (to : HardwareAddress) (fits can busy : Bool) →
    is_solicitation (if fits then Way.Go to else if can then (if busy then Way.Busy else Way.Cut to) else Way.Drop) ≡ false
asks_none to true can busy = refl
asks_none to false true true = refl
asks_none to false true false = refl
asks_none to false false busy = refl

pub never_asks : (i : InnerValue) (ip : IpRepr) (busy : Bool) (to : HardwareAddress) → link_address i (destination_of ip) ≡ Link.Known to →
    is_solicitation (plan_of i busy ip) ≡ false
never_asks i ip busy to known = by (stays i (comes_from_here i ip) (destination_of ip)) where
  by : (out : Bool) → is_solicitation (if out then Way.Drop else plan_by (link_address i (destination_of ip)) i busy ip) ≡ false
  by true = refl
  by false =
      ap (λ (a : LinkAddress). is_solicitation (plan_by a i busy ip)) known
      ∙ asks_none to (nat_le (total_len ip) (mtu_to i (destination_of ip))) (can_be_cut ip) busy

-- A FRAME OF A SEGMENT

-- It is the frame of a packet of this connection that went from a host with the one hardware address to the other one, and carries the segment.
pub record IsFrameOf (pair : FourTuple) (own to : HardwareAddress) (x : Made) (frame : List ℕ) : Type 0 where
  pub i : InnerValue
  pub hardware : i.hardware ≡ own
  pub checksums : i.checksums ≡ sealed
  pub ident : ℕ
  pub ip : IpRepr
  pub header : TcpHeader
  pub bytes : List ℕ
  pub is : x ≡ made_of (source_of ip) (destination_of ip) header bytes
  pub frame_is : frame ≡ frame_under i ident to (packet_of ip (Segment header bytes))
  pub wide : HasWidths (with_ident i ident)
  pub written : normal header ≡ header
  pub readable : CanBeRead ip (Segment header bytes)
  pub can : CanTransmit i to (packet_of ip (Segment header bytes))
  pub formed : IsWellFormed (packet_of ip (Segment header bytes))
  pub along : GoesAlong pair ip
  pub source_port : header.src_port ≡ pair.local_port
  pub destination_port : header.dst_port ≡ pair.remote_port

-- ITS HOST, in a poll

module _ (i0 i : InnerValue) (settings : HasSettingsOf i0 i) (own to : HardwareAddress) (hardware : i0.hardware ≡ own) (ip : IpRepr)
    (known : link_address i (destination_of ip) ≡ Link.Known to) (never : never_leaves i0 ip ≡ false) where
  is_transmitted : never_leaves i ip ≡ false
  is_transmitted = never_same i0 i settings ip ∙ never

  module _ (short : total_len ip ≤ mtu_to i (destination_of ip)) where
    -- it goes whole
    pub goes_whole : (busy : Bool) → plan_of i busy ip ≡ Way.Go to
    goes_whole busy =
        ap (λ (out : Bool). if out then Way.Drop else plan_by (link_address i (destination_of ip)) i busy ip) is_transmitted
        ∙ ap (λ (a : LinkAddress). plan_by a i busy ip) known
        ∙ ap (λ (b : Bool). if b then Way.Go to else long_plan busy to ip)
        (le-leb (total_len ip) (mtu_to i (destination_of ip)) short)

    pub can_leave : (header : TcpHeader) (bytes : List ℕ) → CanTransmit i to (packet_of ip (Segment header bytes))
    can_leave header bytes = record { may = is_transmitted; known = known; short = short }

    module _ (pair : FourTuple) (header : TcpHeader) (bytes : List ℕ) (x : Made) (is : x ≡ made_of (source_of ip) (destination_of ip) header bytes)
        (seals : i0.checksums ≡ sealed) (wide : HasWidths i0) (ident : i0.ident < 2 ^ 16 → i.ident < 2 ^ 16) (written : normal header ≡ header)
        (readable : CanBeRead ip (Segment header bytes)) (formed : IsWellFormed (packet_of ip (Segment header bytes))) (along : GoesAlong pair ip)
        (source_port : header.src_port ≡ pair.local_port) (destination_port : header.dst_port ≡ pair.remote_port) where
      pub frame_made : IsFrameOf pair own to x (frame_of i (Whole to (numbered i (packet_of ip (Segment header bytes)))))
      frame_made = record {
        i = i;
        hardware = settings.hardware ∙ hardware;
        checksums = settings.checksums ∙ seals;
        ident = i.ident;
        ip = ip;
        header = header;
        bytes = bytes;
        is = is;
        frame_is = refl;
        wide = record { mtu = subst (λ (n : ℕ). n ≤ 65535) (sym settings.mtu) wide.mtu; ident = ident wide.ident };
        written = written;
        readable = readable;
        can = can_leave header bytes;
        formed = formed;
        along = along;
        source_port = source_port;
        destination_port = destination_port;
      }
