-- What leaves a host keeps what is said of its frames.
use Rattle.std.proofs.Common.{◌≡◌, ◌⊎◌, inl, inr, ℕ, ◌+◌, ◌^◌, ◌<◌, ◌≤◌, Bool, true, false, cond, List, [], ◌∷◌, ◌++◌, length, Option, Some, None, IfSome, refl, sym, ◌∙◌}
use Rattle.std.proofs.Common.{ap, subst, arith}
use Rattle.std.specs.Prelude.{nat_lt}
use Rattle.std.specs.List.{AllByRecursion}
use Rattle.sim_link.specs.ChecksumCapabilities.{ChecksumCapabilities}
use Rattle.iface_ingress.specs.Address.{IsIpAddress}
use Rattle.iface_ingress.specs.HardwareAddress.{HardwareAddress}
use Rattle.iface_ingress.specs.HardwareAddress.TheVariants as Hardware
use Rattle.interface.specs.Ip as Ips
use Rattle.interface.specs.Ip.{source_of, destination_of}
use Rattle.interface.specs.IpRepr.{IpRepr}
use Rattle.interface.specs.IpRepr.TheVariants as Ip
use Rattle.iface_ingress.specs.ArpRepr.{ArpRepr}
use Rattle.sockets.specs.Packet.{PacketValue, PayloadValue, packet_of, payload_written}
use Rattle.iface_tables.specs.Inner.{InnerValue, with_next_ident, with_request}
use Rattle.iface_egress.specs.Departure.{Asks, Tells, Whole, solicitation_frame, arp_frame, packet_frame, packet_frame_len, fragment_frame, fragment_frame_len, fragment_header_len}
use Rattle.iface_egress.specs.Departure.{target_of}
use Rattle.iface_egress.specs.Fragments.{LeftValue, fragment_room, fragment_from, departure_from, cut_mtu, left_from}
use Rattle.iface_egress.specs.IsTransmitted.{IsTransmitted, Asked, WasSent, WasCut, FragmentIsTransmitted, Departs, Stays, numbered_header, numbered, after_header, cut_header, cut_of}
use Rattle.iface_egress.specs.Emits.{Emits}
use Rattle.iface_egress.specs.Plan.{total_len, longest_cut, has_extensions, plan_of}
use Rattle.iface_egress.specs.declared.frame.NeighborQuery.{NeighborQuery}
use Rattle.iface_egress.specs.declared.plan.Plan.{Plan}
use Rattle.iface_egress.specs.declared.egress_path.Sent.{Sent}
use Rattle.iface_egress.specs.declared.egress_path.Sent.TheVariants as Outcome
use Rattle.iface_egress.proofs.Planned.{AsksFrom, plan_cases}
use Rattle.iface_ingress.specs.Sent.{CanBeRead, normal_payload}
use Rattle.interface.specs.Delivered.{IsCutValue, IsWritable}
use Rattle.interface.specs.TransmittedFrame.{HasWidths, IsHalfSent}
use Rattle.interface.proofs.Arrives.{length-written}
use Rattle.interface.proofs.Offered.{writes, readable, begun_half, left_half}
use Rattle.lan.specs.Worlds.AtLink.Origins.{begins_datagram}
use Rattle.lan.specs.Worlds.AtLink.Port.{PortValue, PortMove}
use Rattle.lan.specs.Worlds.Link.Made.{Makes, sealed, bytes_of, CarriesNone, IsGoing}
use Rattle.lan.specs.Worlds.Link.Frames.{Outgoing, number_by, medium_on, IsOut, AreOut}
use Rattle.lan.specs.Worlds.Link.Numbers.{and_number, count_numbered, AreNumbered, IsTied}
use Rattle.lan.specs.Worlds.Link.Sides.{Grows, WasSentOut, IsHostFrame, IsCutFrom, IsOther, IsSound, IsSameKind, IsNode, IsLeft, IsSender}
use Rattle.lan.proofs.Worlds.Link.Asked.{IsAsked}
use Rattle.lan.specs.Worlds.Link.Sides.{IsBetweenNodes}
use Rattle.lan.proofs.Worlds.Link.Grown.{all_grow, cut_grows, frame_grows, same_out}
use Rattle.lan.proofs.Worlds.Link.PlanKinds.{PlanKind, plan_kind}
use Rattle.lan.proofs.Worlds.Link.Begun.{worth, whole_begins, fragment_begins, tied_same, tied_frame, tied_on}
use Rattle.lan.proofs.Worlds.Link.Others.{arp_is_other, question_is_other}
use Rattle.lan.proofs.Worlds.Link.Assemblers.{all_more}
use Rattle.lan.proofs.Worlds.Link.Spelled.{as_whole, as_cut, whole_frame, fragment_frame_is}

-- THE DEVICE

emitted : (d d' : PortValue) (frame : List ℕ) (len : ℕ) → Emits PortMove d frame len true d' → d'.link.sent ≡ d.link.sent ++ frame ∷ []
emitted d d' frame len is = ap (λ (p : PortValue). p.link.sent) is.0

denied : (d d' : PortValue) (frame : List ℕ) (len : ℕ) → Emits PortMove d frame len false d' → d'.link.sent ≡ d.link.sent
denied d d' frame len is = ap (λ (p : PortValue). p.link.sent) is.0

-- NUMBERS

module _ (made : Makes) (i : InnerValue) where
  carries_number : (h : IpRepr) (x : PayloadValue) → CarriesNone (Ips.normal h) (payload_written sealed h x)
      ⊎ (CanBeRead h x × made (source_of h) (destination_of h) (normal_payload x))
      → CarriesNone (Ips.normal (numbered_header i h)) (payload_written sealed (numbered_header i h) x)
      ⊎ (CanBeRead (numbered_header i h) x × made (source_of (numbered_header i h)) (destination_of (numbered_header i h)) (normal_payload x))
  carries_number (Ip.Ipv4 v) x (inl none) = inl none
  carries_number (Ip.Ipv4 v) x (inr reads) = inr (readable i (Ip.Ipv4 v) x reads.0, reads.1)
  carries_number (Ip.Ipv6 v) x is = is

  -- a packet that goes, with its number
  pub numbered_out : (p : PacketValue) → HasWidths i → IsGoing made p → total_len p.header ≤ 65535 → IsOut made (numbered i p)
  numbered_out p wide going short =
      let w : IsWritable (numbered i p) = writes i p wide going.offered short in
      record {
        going = record {
          offered = record { packet = record { len = w.sendable.len; payload = λ _. w.sendable.payload }; header = w.header; payload = w.payload };
          carries = carries_number p.header p.payload going.carries;
        };
        fits = w.sendable.header;
      }

numbers_after : (first : ℕ) (out : List Outgoing) (i : InnerValue) (h : IpRepr) (x : PayloadValue) → AreNumbered first out i.ident →
    AreNumbered first (as_whole (packet_of (numbered_header i h) x) ∷ out) (after_header h i).ident
numbers_after first out i (Ip.Ipv4 v) x are = (are, refl)
numbers_after first out i (Ip.Ipv6 v) x are = are

-- a packet that is cut has a number, of whichever family it is
numbers_cut : (first : ℕ) (out : List Outgoing) (i : InnerValue) (h : IpRepr) (x : PayloadValue) → AreNumbered first out i.ident →
    AreNumbered first (as_cut (packet_of (numbered_header i h) x) i.ident ∷ out) (with_next_ident i).ident
numbers_cut first out i (Ip.Ipv4 v) x are = (are, refl)
numbers_cut first out i (Ip.Ipv6 v) x are = (are, refl)

number_cut : (i : InnerValue) (h : IpRepr) → number_by (numbered_header i h) (Some i.ident) ≡ Some i.ident
number_cut i (Ip.Ipv4 v) = refl
number_cut i (Ip.Ipv6 v) = refl

one_more : (taken : Option ℕ) (n : ℕ) → and_number taken n ≤ n + 1
one_more None n = omega arith
one_more (Some k) n = omega arith

next_sound : (i : InnerValue) → IsSound i → IsSound (with_next_ident i)
next_sound i s = record {
  own = s.own;
  neighbors = s.neighbors;
  routers = s.routers;
  widths = record { mtu = s.widths.mtu; ident = omega arith };
  checksums =
      s.checksums;
}

after_sound : (i : InnerValue) (h : IpRepr) → IsSound i → IsSound (after_header h i)
after_sound i (Ip.Ipv4 v) s = next_sound i s
after_sound i (Ip.Ipv6 v) s = s

after_hardware : (i : InnerValue) (h : IpRepr) → (after_header h i).hardware ≡ i.hardware
after_hardware i (Ip.Ipv4 v) = refl
after_hardware i (Ip.Ipv6 v) = refl

silent_sound : (i : InnerValue) (q : NeighborQuery) → IsSound i → IsSound (with_request i (target_of q))
silent_sound i q s = record {
  own = s.own;
  neighbors = s.neighbors;
  routers = s.routers;
  widths = record { mtu = s.widths.mtu; ident = s.widths.ident };
  checksums = s.checksums;
}

-- WHAT A HOST IS AFTER SOMETHING WENT

to_address : (h : IpRepr) → Ips.IsValue h → IsIpAddress (destination_of h)
to_address (Ip.Ipv4 v) is = is.destination
to_address (Ip.Ipv6 v) is = is.destination

same_sender : (made : Makes) (first : ℕ) (out : List Outgoing) (i i' : InnerValue) (l l' : Option LeftValue) (sent sent' : List (List ℕ)) →
    i' ≡ i → l' ≡ l → sent' ≡ sent → IsSender made first i l sent out → IsSender made first i' l' sent' out
same_sender made first out i i' l l' sent sent' a b c s =
    subst (λ (x : InnerValue). IsSender made first x l' sent' out) (sym a)
    (subst (λ (x : Option LeftValue). IsSender made first i x sent' out) (sym b) (subst (λ (x : List (List ℕ)). IsSender made first i l x out) (sym c) s))

unchanged : (made : Makes) (first most : ℕ) (out : List Outgoing) (i i' : InnerValue) (l l' : Option LeftValue) (sent sent' : List (List ℕ)) → i' ≡ i → l' ≡ l →
    sent' ≡ sent → IsSender made first i l sent out → WasSentOut made first most out sent i' l' sent'
unchanged made first most out i i' l l' sent sent' a b c s = record {
  out_after = out;
  grows = same_out out;
  count = omega arith;
  tied = tied_same (medium_on i'.hardware) out sent sent' c;
  sender = same_sender made first out i i' l l' sent sent' a b c s;
}

-- one more frame, of no packet that is new
one_frame : (made : Makes) (first most : ℕ) (out : List Outgoing) (i' : InnerValue) (l' : Option LeftValue) (sent sent' : List (List ℕ))
    (frame : List ℕ) → sent' ≡ sent ++ frame ∷ [] → IsSender made first i' l' sent' out → WasSentOut made first most out sent i' l' sent'
one_frame made first most out i' l' sent sent' frame is s = record {
  out_after = out;
  grows = same_out out;
  count = omega arith;
  tied = tied_frame (medium_on i'.hardware) out out sent sent' frame is (omega arith);
  sender = s;
}

left_grows : (hardware : HardwareAddress) (out out' : List Outgoing) (l : Option LeftValue) → Grows out out' → IfSome l (IsLeft hardware out) →
    IfSome l (IsLeft hardware out')
left_grows hardware out out' None grows is = tt
left_grows hardware out out' (Some l) grows is = record { sent = cut_grows out out' grows l.header l.payload is.sent; half = is.half; to = is.to }

pub left_to : (out : List Outgoing) (hardware hardware' : HardwareAddress) (l : Option LeftValue) → hardware' ≡ hardware → IfSome l (IsLeft hardware out) →
    IfSome l (IsLeft hardware' out)
left_to out hardware hardware' l same is = subst (λ (h : HardwareAddress). IfSome l (IsLeft h out)) (sym same) is

module _ (made : Makes) (first : ℕ) (out : List Outgoing) (i : InnerValue) (l : Option LeftValue) (d : PortValue)
    (s : IsSender made first i l d.link.sent out) where
  -- the packet is of `out` from now on
  module _ (p : PacketValue) (going : IsGoing made p) (cut_as : Option ℕ) where
    abbrev more : List Outgoing
    more = record { packet = numbered i p; cut_as = cut_as } ∷ out

    grows_more : Grows out more
    grows_more = record { among = λ q among. inr among; numbered = λ q number is. inr is }

    one_at_most : count_numbered more ≤ count_numbered out + 1
    one_at_most = one_more (number_by (numbered i p).header cut_as) (count_numbered out)

    are_out : total_len p.header ≤ 65535 → AreOut made more
    are_out short q among = elim among [
      | inl same ↦ subst (IsOut made) (sym same) (numbered_out made i p s.sound.widths going short)
      | inr older ↦ s.are_sent.packets q older
    ]

    frames_more : (frame : List ℕ) → IsHostFrame (medium_on i.hardware) more frame →
        AllByRecursion (IsHostFrame (medium_on i.hardware) more) (d.link.sent ++ frame ∷ [])
    frames_more frame is =
        all_more (IsHostFrame (medium_on i.hardware) more) d.link.sent frame
        (all_grow (IsHostFrame (medium_on i.hardware) out) (IsHostFrame (medium_on i.hardware) more) (frame_grows out more grows_more (medium_on i.hardware))
        d.link.sent s.frames) is

  -- WHOLE

  module _ (p : PacketValue) (going : IsGoing made p) where
    abbrev with_whole : List Outgoing
    with_whole = as_whole (numbered i p) ∷ out

    whole_sender : (to : HardwareAddress) (d' : PortValue) → total_len p.header ≤ 65535 → IsSameKind i.hardware to →
        Departs PortMove d i (Whole to (numbered i p)) true d' → IsSender made first (after_header p.header i) l d'.link.sent with_whole
    whole_sender to d' short kind departs =
        let w : IsWritable (numbered i p) = writes i p s.sound.widths going.offered short in
        let caps : i.checksums ≡ sealed = s.sound.checksums in
        let len : length (packet_frame sealed i.hardware to (numbered i p)) ≡ packet_frame_len i.hardware to (numbered i p) =
        subst (λ (c : ChecksumCapabilities). length (packet_frame c i.hardware to (numbered i p)) ≡ packet_frame_len i.hardware to (numbered i p)) caps
        departs.1 in
        let frame : IsHostFrame (medium_on i.hardware) with_whole (packet_frame i.checksums i.hardware to (numbered i p)) =
        subst (λ (c : ChecksumCapabilities). IsHostFrame (medium_on i.hardware) with_whole (packet_frame c i.hardware to (numbered i p))) (sym caps)
        (whole_frame i.hardware to kind out (numbered i p) w len) in
        let all : AllByRecursion (IsHostFrame (medium_on i.hardware) with_whole) d'.link.sent =
        subst (λ (fs : List (List ℕ)). AllByRecursion (IsHostFrame (medium_on i.hardware) with_whole) fs)
        (sym (emitted d d' (packet_frame i.checksums i.hardware to (numbered i p)) (packet_frame_len i.hardware to (numbered i p)) departs))
        (frames_more p going None (packet_frame i.checksums i.hardware to (numbered i p)) frame) in
        record {
          sound = after_sound i p.header s.sound;
          are_sent = record { packets = are_out p going None short; numbered = numbers_after first out i p.header p.payload s.are_sent.numbered };
          left_is = left_to with_whole i.hardware (after_header p.header i).hardware l (after_hardware i p.header)
              (left_grows i.hardware out with_whole l (grows_more p going None) s.left_is);
          frames = subst (λ (h : HardwareAddress). AllByRecursion (IsHostFrame (medium_on h) with_whole) d'.link.sent) (sym (after_hardware i p.header)) all;
        }

    whole_tied : (to : HardwareAddress) (d' : PortValue) → total_len p.header ≤ 65535 → IsSameKind i.hardware to →
        Departs PortMove d i (Whole to (numbered i p)) true d' → IsTied (medium_on i.hardware) out d.link.sent with_whole d'.link.sent
    whole_tied to d' short kind departs =
        let w : IsWritable (numbered i p) = writes i p s.sound.widths going.offered short in
        let caps : i.checksums ≡ sealed = s.sound.checksums in
        let len : length (packet_frame sealed i.hardware to (numbered i p)) ≡ packet_frame_len i.hardware to (numbered i p) =
        subst (λ (c : ChecksumCapabilities). length (packet_frame c i.hardware to (numbered i p)) ≡ packet_frame_len i.hardware to (numbered i p)) caps
        departs.1 in
        tied_frame (medium_on i.hardware) out with_whole d.link.sent d'.link.sent (packet_frame sealed i.hardware to (numbered i p))
        (emitted d d' (packet_frame i.checksums i.hardware to (numbered i p)) (packet_frame_len i.hardware to (numbered i p)) departs
        ∙ ap (λ (c : ChecksumCapabilities). d.link.sent ++ packet_frame c i.hardware to (numbered i p) ∷ []) caps)
        (whole_begins i.hardware to (numbered_header i p.header) p.payload (count_numbered out) kind w len)

    was_sent : (to : HardwareAddress) (sent : Sent) (d' : PortValue) (i' : InnerValue) (l' : Option LeftValue) → total_len p.header ≤ 65535 →
        IsSameKind i.hardware to
        → WasSent PortMove d i p.header (Whole to (numbered i p)) sent d' i' → l' ≡ l → WasSentOut made first 1 out d.link.sent i' l' d'.link.sent
    was_sent to Outcome.Gone d' i' l' short kind goes same = record {
      out_after = with_whole;
      grows = grows_more p going None;
      count = one_at_most p going None;
      tied = tied_on i.hardware i'.hardware out with_whole d.link.sent d'.link.sent (ap (λ (x : InnerValue). x.hardware) goes.1 ∙
          after_hardware i p.header) (whole_tied to d' short kind goes.0);
      sender = same_sender made first with_whole (after_header p.header i) i' l l' d'.link.sent d'.link.sent goes.1 same refl (whole_sender to d' short kind goes.0);
    }
    was_sent to Outcome.Refused d' i' l' short kind goes same =
        unchanged made first 1 out i i' l l' d.link.sent d'.link.sent goes.1 same (denied d d' [] (packet_frame_len i.hardware to (numbered i p)) goes.0) s
    was_sent to Outcome.Dropped d' i' l' short kind goes same = absurd goes
    was_sent to Outcome.Waits d' i' l' short kind goes same = absurd goes
    was_sent to Outcome.Busy d' i' l' short kind goes same = absurd goes

  -- CUT

  module _ (p : PacketValue) (going : IsGoing made p) (to : HardwareAddress) (short : total_len p.header ≤ longest_cut) (bare : has_extensions p.header ≡ false)
      (half : IsHalfSent (cut_of i to p)) (kind : IsSameKind i.hardware to) where
    abbrev c : LeftValue
    c = cut_of i to p

    abbrev with_cut : List Outgoing
    with_cut = as_cut (numbered i p) i.ident ∷ out

    all_len : total_len p.header ≤ 65535
    all_len = omega (arith, short)

    writes_it : IsWritable (numbered i p)
    writes_it = writes i p s.sound.widths going.offered all_len

    bytes_are : c.payload ≡ bytes_of (numbered i p)
    bytes_are = ap (λ (k : ChecksumCapabilities). payload_written k (numbered i p).header (numbered i p).payload) s.sound.checksums

    sent_by : (h : IpRepr) → p.header ≡ h → IsCutFrom with_cut (cut_header i h) c.payload
    sent_by (Ip.Ipv4 v) is =
        let value : IsCutValue (cut_header i (Ip.Ipv4 v)) = subst (λ (h : IpRepr). IsCutValue (cut_header i h)) is half.header_is in
        let fits : fragment_header_len (cut_header i (Ip.Ipv4 v)) + length c.payload < 2 ^ 16 =
        subst (λ (h : IpRepr). fragment_header_len (cut_header i h) + length c.payload < 2 ^ 16) is half.short in
        record {
          packet = numbered i p;
          among = inl refl;
          header = ap (numbered_header i) is;
          bytes_are = bytes_are;
          value = value;
          short = fits;
        }
    sent_by (Ip.Ipv6 v) is =
        let value : IsCutValue (cut_header i (Ip.Ipv6 v)) = subst (λ (h : IpRepr). IsCutValue (cut_header i h)) is half.header_is in
        let fits : fragment_header_len (cut_header i (Ip.Ipv6 v)) + length c.payload < 2 ^ 16 =
        subst (λ (h : IpRepr). fragment_header_len (cut_header i h) + length c.payload < 2 ^ 16) is half.short in
        let header : (numbered i p).header ≡ Ip.Ipv6 v = ap (numbered_header i) is in
        let count : v.payload_len ≡ length c.payload =
        ap Ips.payload_len_of (sym header) ∙ length-written sealed (numbered i p) writes_it ∙ ap length (sym bytes_are) in
        record {
          sent = record {
            packet = numbered i p;
            among = inl refl;
            header = header;
            bytes_are = bytes_are;
            value = value.0;
            len = count;
            fits = omega (arith, fits, count);
          };
          numbered = inl (refl, number_cut i p.header);
          small = value.1;
          bare = subst (λ (h : IpRepr). has_extensions h ≡ false) is bare;
          short = fits;
        }

    cut_left : IsLeft i.hardware with_cut c
    cut_left = record { sent = sent_by p.header refl; half = half; to = kind }

    cut_rest : (b : Bool) → IfSome (cond b (Some (record c { at = c.at + fragment_room c.header (cut_mtu i c) })) None) IsHalfSent →
        IfSome (cond b (Some (record c { at = c.at + fragment_room c.header (cut_mtu i c) })) None) (IsLeft i.hardware with_cut)
    cut_rest true is = record { sent = cut_left.sent; half = is; to = kind }
    cut_rest false is = tt

    cut_sender : (d' : PortValue) → Departs PortMove d i (departure_from i c) true d' →
        IsSender made first (with_next_ident i) (left_from i c) d'.link.sent with_cut
    cut_sender d' departs =
        let caps : i.checksums ≡ sealed = s.sound.checksums in
        let len : length (fragment_frame sealed i.hardware to c.header (fragment_from i c)) ≡ fragment_frame_len i.hardware to c.header (fragment_from i c) =
        subst (λ (k : ChecksumCapabilities). length (fragment_frame k i.hardware to c.header (fragment_from i c)) ≡
        fragment_frame_len i.hardware to c.header (fragment_from i c)) caps departs.1 in
        let frame : IsHostFrame (medium_on i.hardware) with_cut (fragment_frame i.checksums i.hardware to c.header (fragment_from i c)) =
        subst (λ (k : ChecksumCapabilities). IsHostFrame (medium_on i.hardware) with_cut (fragment_frame k i.hardware to c.header (fragment_from i c))) (sym caps)
        (fragment_frame_is i.hardware with_cut (cut_mtu i c) c cut_left len) in
        record {
          sound = next_sound i s.sound;
          are_sent = record {
            packets = are_out p going (Some i.ident) all_len;
            numbered = numbers_cut first out i p.header p.payload s.are_sent.numbered;
          };
          left_is = cut_rest (nat_lt (c.at + fragment_room c.header (cut_mtu i c)) (length c.payload)) (left_half (cut_mtu i c) c half);
          frames = subst (λ (fs : List (List ℕ)). AllByRecursion (IsHostFrame (medium_on i.hardware) with_cut) fs)
              (sym (emitted d d' (fragment_frame i.checksums i.hardware to c.header (fragment_from i c))
              (fragment_frame_len i.hardware to c.header (fragment_from i c)) departs))
              (frames_more p going (Some i.ident) (fragment_frame i.checksums i.hardware to c.header (fragment_from i c)) frame);
        }

    cut_tied : (d' : PortValue) → Departs PortMove d i (departure_from i c) true d' → IsTied (medium_on i.hardware) out d.link.sent with_cut d'.link.sent
    cut_tied d' departs =
        let caps : i.checksums ≡ sealed = s.sound.checksums in
        let frame : List ℕ = fragment_frame sealed i.hardware to c.header (fragment_from i c) in
        let len : length frame ≡ fragment_frame_len i.hardware to c.header (fragment_from i c) =
        subst (λ (k : ChecksumCapabilities). length (fragment_frame k i.hardware to c.header (fragment_from i c)) ≡
        fragment_frame_len i.hardware to c.header (fragment_from i c)) caps departs.1 in
        let one : worth (begins_datagram (medium_on i.hardware) frame) ≡ 1 = ap worth (fragment_begins i.hardware with_cut (cut_mtu i c) c cut_left len refl) in
        tied_frame (medium_on i.hardware) out with_cut d.link.sent d'.link.sent frame
        (emitted d d' (fragment_frame i.checksums i.hardware to c.header (fragment_from i c)) (fragment_frame_len i.hardware to c.header (fragment_from i c)) departs
        ∙ ap (λ (k : ChecksumCapabilities). d.link.sent ++ fragment_frame k i.hardware to c.header (fragment_from i c) ∷ []) caps)
        (omega (arith, one, one_at_most p going (Some i.ident)))

    was_cut : (sent : Sent) (d' : PortValue) (i' : InnerValue) (l' : Option LeftValue) → WasCut PortMove d i l c sent d' i' l' →
        WasSentOut made first 1 out d.link.sent i' l' d'.link.sent
    was_cut Outcome.Gone d' i' l' goes = record {
      out_after = with_cut;
      grows = grows_more p going (Some i.ident);
      count = one_at_most p going (Some i.ident);
      tied = tied_on i.hardware i'.hardware out with_cut d.link.sent d'.link.sent (ap (λ (x : InnerValue). x.hardware) goes.1) (cut_tied d' goes.0);
      sender = same_sender made first with_cut (with_next_ident i) i' (left_from i c) l' d'.link.sent d'.link.sent goes.1 goes.2 refl (cut_sender d' goes.0);
    }
    was_cut Outcome.Refused d' i' l' goes =
        unchanged made first 1 out i i' l l' d.link.sent d'.link.sent goes.1 goes.2
        (denied d d' [] (fragment_frame_len i.hardware to c.header (fragment_from i c)) goes.0) s
    was_cut Outcome.Dropped d' i' l' goes = absurd goes
    was_cut Outcome.Waits d' i' l' goes = absurd goes
    was_cut Outcome.Busy d' i' l' goes = absurd goes

  -- QUESTIONS

  asked_sender : (q : NeighborQuery) (d' : PortValue) → AsksFrom i.hardware q → IsAsked q → Departs PortMove d i (Asks q) true d' →
      IsSender made first (with_request i (target_of q)) l d'.link.sent out
  asked_sender q d' from asked departs =
      let frame : IsHostFrame (medium_on i.hardware) out (solicitation_frame i.checksums q) =
      inr (inr (inr (subst (λ (k : ChecksumCapabilities). IsOther (medium_on i.hardware) (solicitation_frame k q)) (sym s.sound.checksums)
      (question_is_other i.hardware q from s.sound.own asked)))) in
      record {
        sound = silent_sound i q s.sound;
        are_sent = s.are_sent;
        left_is = s.left_is;
        frames = subst (λ (fs : List (List ℕ)). AllByRecursion (IsHostFrame (medium_on i.hardware) out) fs)
            (sym (ap (λ (x : PortValue). x.link.sent) departs.0))
            (all_more (IsHostFrame (medium_on i.hardware) out) d.link.sent (solicitation_frame i.checksums q) s.frames frame);
      }

  asked_by : (q : NeighborQuery) (sent : Sent) (d' : PortValue) (i' : InnerValue) (l' : Option LeftValue) → AsksFrom i.hardware q → IsAsked q →
      Asked PortMove d i q sent d' i' → l' ≡ l → WasSentOut made first 1 out d.link.sent i' l' d'.link.sent
  asked_by q Outcome.Waits d' i' l' from asked goes same =
      one_frame made first 1 out i' l' d.link.sent d'.link.sent (solicitation_frame i.checksums q) (ap (λ (x : PortValue). x.link.sent) goes.0.0)
      (same_sender made first out (with_request i (target_of q)) i' l l' d'.link.sent d'.link.sent goes.1 same refl (asked_sender q d' from asked goes.0))
  asked_by q Outcome.Refused d' i' l' from asked goes same =
      unchanged made first 1 out i i' l l' d.link.sent d'.link.sent goes.1 same (ap (λ (x : PortValue). x.link.sent) goes.0.0) s
  asked_by q Outcome.Gone d' i' l' from asked goes same = absurd goes
  asked_by q Outcome.Dropped d' i' l' from asked goes same = absurd goes
  asked_by q Outcome.Busy d' i' l' from asked goes same = absurd goes

  -- WHAT DOESN'T GO

  was_sent_not : (p : PacketValue) (to : HardwareAddress) (sent : Sent) (d' : PortValue) (i' : InnerValue) (l' : Option LeftValue) → (sent ≡ Outcome.Gone → ⊥)
      → WasSent PortMove d i p.header (Whole to (numbered i p)) sent d' i' → l' ≡ l → WasSentOut made first 1 out d.link.sent i' l' d'.link.sent
  was_sent_not p to Outcome.Gone d' i' l' unsent goes same = absurd (unsent refl)
  was_sent_not p to Outcome.Refused d' i' l' unsent goes same =
      unchanged made first 1 out i i' l l' d.link.sent d'.link.sent goes.1 same (denied d d' [] (packet_frame_len i.hardware to (numbered i p)) goes.0) s
  was_sent_not p to Outcome.Dropped d' i' l' unsent goes same = absurd goes
  was_sent_not p to Outcome.Waits d' i' l' unsent goes same = absurd goes
  was_sent_not p to Outcome.Busy d' i' l' unsent goes same = absurd goes

  cut_not : (p : PacketValue) (to : HardwareAddress) (sent : Sent) (d' : PortValue) (i' : InnerValue) (l' : Option LeftValue) →
      (sent ≡ Outcome.Gone → ⊥)
      → WasCut PortMove d i l (cut_of i to p) sent d' i' l' → WasSentOut made first 1 out d.link.sent i' l' d'.link.sent
  cut_not p to Outcome.Gone d' i' l' unsent goes = absurd (unsent refl)
  cut_not p to Outcome.Refused d' i' l' unsent goes =
      unchanged made first 1 out i i' l l' d.link.sent d'.link.sent goes.1 goes.2
      (denied d d' [] (fragment_frame_len i.hardware to (cut_of i to p).header (fragment_from i (cut_of i to p))) goes.0) s
  cut_not p to Outcome.Dropped d' i' l' unsent goes = absurd goes
  cut_not p to Outcome.Waits d' i' l' unsent goes = absurd goes
  cut_not p to Outcome.Busy d' i' l' unsent goes = absurd goes

  -- ANY PLAN

  stays : (d' : PortValue) (i' : InnerValue) (l' : Option LeftValue) → Stays d i l d' i' l' → WasSentOut made first 1 out d.link.sent i' l' d'.link.sent
  stays d' i' l' is = unchanged made first 1 out i i' l l' d.link.sent d'.link.sent is.1 is.2 (ap (λ (x : PortValue). x.link.sent) is.0) s

  abbrev Leads : PacketValue → Plan → Type 0
  Leads p plan = (sent : Sent) (d' : PortValue) (i' : InnerValue) (l' : Option LeftValue) → IsTransmitted PortMove d i l p plan sent d' i' l' →
      WasSentOut made first 1 out d.link.sent i' l' d'.link.sent

  -- a packet's egress path, whatever becomes of it
  pub goes_keeps : (busy : Bool) (p : PacketValue) → IsGoing made p → Leads p (plan_of i busy p.header)
  goes_keeps busy p going =
      plan_cases i busy p.header (λ plan. plan_of i busy p.header ≡ plan → PlanKind i.hardware plan → Leads p plan)
      (λ is kind sent d' i' l' goes. stays d' i' l' goes.1) (λ is kind sent d' i' l' goes. stays d' i' l' goes.1)
      (λ is kind sent d' i' l' goes. stays d' i' l' goes.1) (λ is kind sent d' i' l' goes. stays d' i' l' goes.1)
      (λ q may from is kind sent d' i' l' goes. asked_by q sent d' i' l' from kind goes.0 goes.1)
      (λ to short is kind sent d' i' l' goes. let most = s.sound.widths.mtu in was_sent p going to sent d' i' l' (omega (arith, short, most)) kind goes.0 goes.1)
      (λ to long short bare idle is kind sent d' i' l' goes. was_cut p going to short bare (begun_half i busy p to s.sound.widths going.offered is)
      kind sent d' i' l' goes)
      refl (plan_kind i busy p.header s.sound (to_address p.header going.offered.header))

  -- what doesn't go leaves no more packets, whoever made it
  pub unsent_keeps : (busy : Bool) (p : PacketValue) → Ips.IsValue p.header → (sent : Sent) (d' : PortValue) (i' : InnerValue) (l' : Option LeftValue) →
      (sent ≡ Outcome.Gone → ⊥)
      → IsTransmitted PortMove d i l p (plan_of i busy p.header) sent d' i' l' → WasSentOut made first 1 out d.link.sent i' l' d'.link.sent
  unsent_keeps busy p value sent d' i' l' unsent =
      plan_cases i busy p.header (λ plan. PlanKind i.hardware plan → IsTransmitted PortMove d i l p plan sent d' i' l' →
      WasSentOut made first 1 out d.link.sent i' l' d'.link.sent)
      (λ kind goes. stays d' i' l' goes.1) (λ kind goes. stays d' i' l' goes.1) (λ kind goes. stays d' i' l' goes.1) (λ kind goes. stays d' i' l' goes.1)
      (λ q may from kind goes. asked_by q sent d' i' l' from kind goes.0 goes.1)
      (λ to short kind goes. was_sent_not p to sent d' i' l' unsent goes.0 goes.1)
      (λ to long short bare idle kind goes. cut_not p to sent d' i' l' unsent goes)
      (plan_kind i busy p.header s.sound (to_address p.header value))

  -- ANSWERS TO QUESTIONS

  told_frame : (hardware : HardwareAddress) (packet : ArpRepr) → IsNode hardware → IsBetweenNodes packet →
      IsHostFrame (medium_on hardware) out (arp_frame packet)
  told_frame (Hardware.Ethernet own) packet node between = inr (inr (inr (arp_is_other packet between)))
  told_frame Hardware.Ip packet node between = absurd node

  -- an ARP packet's egress path
  pub tells_keeps : (packet : ArpRepr) (gone : Bool) (d' : PortValue) → IsNode i.hardware → IsBetweenNodes packet →
      Departs PortMove d i (Tells packet) gone d' → WasSentOut made first 0 out d.link.sent i l d'.link.sent
  tells_keeps packet true d' node between departs =
      one_frame made first 0 out i l d.link.sent d'.link.sent (arp_frame packet) (ap (λ (x : PortValue). x.link.sent) departs.0) (record {
        sound = s.sound;
        are_sent = s.are_sent;
        left_is = s.left_is;
        frames = subst (λ (fs : List (List ℕ)). AllByRecursion (IsHostFrame (medium_on i.hardware) out) fs)
            (sym (ap (λ (x : PortValue). x.link.sent) departs.0))
            (all_more (IsHostFrame (medium_on i.hardware) out) d.link.sent (arp_frame packet) s.frames (told_frame i.hardware packet node between));
      })
  tells_keeps packet false d' node between departs =
      unchanged made first 0 out i i l l d.link.sent d'.link.sent refl refl (ap (λ (x : PortValue). x.link.sent) departs.0) s

-- PIECES

rest_by : (hardware : HardwareAddress) (out : List Outgoing) (mtu : ℕ) (c : LeftValue) (b : Bool) → IsLeft hardware out c
    → IfSome (cond b (Some (record c { at = c.at + fragment_room c.header mtu })) None) IsHalfSent →
    IfSome (cond b (Some (record c { at = c.at + fragment_room c.header mtu })) None) (IsLeft hardware out)
rest_by hardware out mtu c true left is = record { sent = left.sent; half = is; to = left.to }
rest_by hardware out mtu c false left is = tt

module _ (made : Makes) (first : ℕ) (out : List Outgoing) (i : InnerValue) (c : LeftValue) (d : PortValue)
    (s : IsSender made first i (Some c) d.link.sent out) where
  fragment_sender : (d' : PortValue) → Departs PortMove d i (departure_from i c) true d' → IsSender made first i (left_from i c) d'.link.sent out
  fragment_sender d' departs =
      let caps : i.checksums ≡ sealed = s.sound.checksums in
      let left : IsLeft i.hardware out c = s.left_is in
      let len : length (fragment_frame sealed i.hardware c.to c.header (fragment_from i c)) ≡ fragment_frame_len i.hardware c.to c.header (fragment_from i c) =
      subst (λ (k : ChecksumCapabilities). length (fragment_frame k i.hardware c.to c.header (fragment_from i c)) ≡
      fragment_frame_len i.hardware c.to c.header (fragment_from i c)) caps departs.1 in
      let frame : IsHostFrame (medium_on i.hardware) out (fragment_frame i.checksums i.hardware c.to c.header (fragment_from i c)) =
      subst (λ (k : ChecksumCapabilities). IsHostFrame (medium_on i.hardware) out (fragment_frame k i.hardware c.to c.header (fragment_from i c))) (sym caps)
      (fragment_frame_is i.hardware out (cut_mtu i c) c left len) in
      record {
        sound = s.sound;
        are_sent = s.are_sent;
        left_is = rest_by i.hardware out (cut_mtu i c) c
            (nat_lt (c.at + fragment_room c.header (cut_mtu i c)) (length c.payload)) left (left_half (cut_mtu i c) c left.half);
        frames = subst (λ (fs : List (List ℕ)). AllByRecursion (IsHostFrame (medium_on i.hardware) out) fs)
            (sym (ap (λ (x : PortValue). x.link.sent) departs.0))
            (all_more (IsHostFrame (medium_on i.hardware) out) d.link.sent (fragment_frame i.checksums i.hardware c.to c.header (fragment_from i c))
            s.frames frame);
      }

  -- a later fragment's egress path
  pub fragment_keeps : (gone : Bool) (d' : PortValue) (l' : Option LeftValue) → FragmentIsTransmitted PortMove d i c gone d' l' →
      WasSentOut made first 0 out d.link.sent i l' d'.link.sent
  fragment_keeps true d' l' goes =
      one_frame made first 0 out i l' d.link.sent d'.link.sent (fragment_frame i.checksums i.hardware c.to c.header (fragment_from i c))
      (ap (λ (x : PortValue). x.link.sent) goes.0.0)
      (same_sender made first out i i (left_from i c) l' d'.link.sent d'.link.sent refl goes.1 refl (fragment_sender d' goes.0))
  fragment_keeps false d' l' goes =
      unchanged made first 0 out i i (Some c) l' d.link.sent d'.link.sent refl goes.1 (ap (λ (x : PortValue). x.link.sent) goes.0.0) s
