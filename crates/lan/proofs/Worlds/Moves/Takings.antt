-- A frame that is taken makes at most one move.
use Rattle.std.proofs.Common.{◌≡◌, ℕ, ℤ, ◌≤ℤ◌, Bool, not, ◌&&◌, length, true, false, if◌then◌else◌, List, [], ◌∷◌, append-nil, Option, Some, None, IfSome, refl, sym, ap, ◌∙◌, subst}
use Rattle.std.specs.Prelude.{◌||◌, is_some}
use Rattle.sim_link.specs.ChecksumCapabilities.{ChecksumCapabilities}
use Rattle.iface_ingress.specs.HardwareAddress.{HardwareAddress}
use Rattle.iface_ingress.specs.IpAddress.{IpAddress}
use Rattle.iface_ingress.specs.IpAddress.TheVariants as Address
use Rattle.interface.specs.Ip.{source_of, destination_of}
use Rattle.interface.specs.IpRepr.{IpRepr}
use Rattle.interface.specs.IpRepr.TheVariants as Ip
use Rattle.wire_tcp.specs.declared.header.TcpHeader.{TcpHeader}
use Rattle.iface_ingress.specs.EthernetRepr.{EthernetRepr}
use Rattle.sockets.specs.Packet.{PacketValue, PayloadValue, ControlV4, ControlV6, Bytes, Datagram, Segment}
use Rattle.iface_ingress.specs.Icmpv4Header.{Icmpv4Header}
use Rattle.iface_ingress.specs.Icmpv6.{MessageValue}
use Rattle.tcp_refinement.specs.Host.{MayCome}
use Rattle.iface_tables.specs.Inner.{InnerValue, context_of, is_for_us, may_tell, with_error}
use Rattle.iface_tables.specs.ErrorLimit.{answered_at}
use Rattle.iface_ingress.specs.Arp.{arp_answer}
use Rattle.iface_ingress.specs.Arrives as Replies
use Rattle.iface_ingress.specs.Arrives.{ReplyValue, Arrived, ArrivesV4, ArrivesV6, Brings, Hands, IsSilent, answered, is_direct, renewed, renewed_by}
use Rattle.iface_ingress.specs.Arrives.{sender_of}
use Rattle.iface_ingress.specs.Delivered.{changed_at, packet_by, packet_delivered, is_taken_raw, datagram_slot, segment_slot, segment_answer_at}
use Rattle.iface_ingress.specs.Delivered.{with_segment}
use Rattle.iface_ingress.specs.AddressTests.{is_unspecified}
use Rattle.sockets.specs.Context.{ContextValue}
use Rattle.sockets.specs.Replies.{packet_in}
use Rattle.tcp_block.specs.Controls.{is_rst}
use Rattle.tcp_block.specs.Segments.{rst_reply}
use Rattle.iface_ingress.specs.Processed.{control_v4_slots, control_v6_slots, is_for_many, names_no_endpoint, handed_reply, if_it_may, is_unclaimed, let_go, limited_host}
use Rattle.iface_ingress.specs.Processed.{limited_reply, segment_host, HandsTo}
use Rattle.iface_ingress.proofs.Limit.{let_go_counted, let_go_so}
use Rattle.iface_ingress.specs.Incoming.{IncomingValue, Arp, Ip4, Ip6}
use Rattle.iface_ingress.specs.Upper.{IsBrought}
use Rattle.lan.specs.Worlds.AtLink.Side.{Side}
use Rattle.lan.specs.Worlds.AtLink.Kinds.{other}
use Rattle.lan.specs.Worlds.AtLink.Moves as Moves
use Rattle.lan.specs.Worlds.AtLink.Moves.{Step}
use Rattle.lan.specs.Worlds.AtLink.Parties.{Party, Net, party, WasMade}
use Rattle.lan.specs.Worlds.Moves.Answered.{AnswerLeft}
use Rattle.lan.specs.Worlds.Moves.Follows.{sockets_of}
use Rattle.lan.proofs.Worlds.Moves.Following.{Reaches}
use Rattle.lan.proofs.Worlds.Moves.Frames.{Frames}
use Rattle.lan.proofs.Worlds.Moves.Held.{IsAsAt, IsBetweenHosts, for_us, many, nobodies, seen_at, shows, strays}
use Rattle.lan.proofs.Worlds.Moves.Later.{IsFromOne, IsHome, past_it, segment_errors}
use Rattle.lan.specs.Worlds.Moves.Made.{IsMade, HandsMade, BringsMade, datagram_of}
use Rattle.lan.specs.Worlds.Moves.ReceivedFrames.{BringsIn, ArrivesNext, HandsIn, IfSegment}
use Rattle.lan.proofs.Worlds.Moves.MadeReplies.{IsMadeReply}
use Rattle.lan.proofs.Worlds.Moves.Arrivals.{Answered, packet_delivered_same, icmpv4_delivered_same, icmpv6_delivered_same, nothing, datagram_given}
use Rattle.lan.proofs.Worlds.Moves.Arrivals.{reset, segment_taken}
use Rattle.lan.proofs.Worlds.Moves.Nets.{Moved, stays, step_of}
use Rattle.lan.proofs.Worlds.Moves.Slots.{Slots}
use Rattle.lan.proofs.Worlds.Moves.Replies.{control_v4_made, control_v6_made, port_error_made, unread_made, answered_made, told_made}

-- moves lead to these sockets, what answers was made, and the moves bring what K says
pub record Ended (names : List ℕ → Bool) (side : Side) (C G : Type 0) (N : IpAddress → HardwareAddress → Type 0) (F : Frames) (i0 : InnerValue) (t : ℤ) (net now : Net) (slots : Slots) (reply : Option ReplyValue)
    (K : List Step → Type 0) : Type 0 where
  pub moved : Moved names side C G N F i0 t net now (sockets_of slots)
  pub made : IfSome reply (IsMadeReply (party moved.next side))
  pub brings : K moved.reaches.steps

abbrev if_goes : Bool → Option PacketValue → Option PacketValue
if_goes goes None = None
if_goes goes (Some p) = if goes then Some p else None

goes_is : (i : InnerValue) (quiet : Bool) (p : PacketValue) →
    if_goes (may_tell i) (if quiet then None else Some p) ≡ if_it_may i (if quiet then None else Some p)
goes_is i true p = refl
goes_is i false p = refl

-- a host that told an error counts up to a later instant
counted_later : (i0 i after now : InnerValue) → i0.errors_until ≤ℤ i.errors_until → after.errors_until ≡ i.errors_until → now ≡ with_error after →
    now.errors_until ≡ i0.errors_until → ⊥
counted_later i0 i after now low same is still = past_it i0.errors_until i.errors_until after.instant low
    (ap (λ (u : ℤ). answered_at u after.instant) (sym same) ∙ ap (λ (x : InnerValue). x.errors_until) (sym is) ∙ still)

-- a packet that names two hosts comes from one
no_first : (a b : Bool) → (a || b) ≡ false → a ≡ false
no_first true b is = absurd (let clash : true ≡ false = is in cc)
no_first false b is = refl

somebody_named : (i : InnerValue) (ip : IpRepr) → names_no_endpoint i ip ≡ false → is_unspecified (source_of ip) ≡ false
somebody_named i ip somebody =
    no_first (is_unspecified (source_of ip)) (is_unspecified (destination_of ip) || is_for_many i (destination_of ip)) somebody

-- what comes to a host from one comes so to the host that it was
module _ (i0 i : InnerValue) (t : ℤ) (like : IsAsAt i0 t i) where
  from_one_so : (source destination : IpAddress) → IsFromOne i source destination → IsFromOne i0 source destination
  from_one_so source destination home = record {
    here = sym (strays i0 i (seen_at i0 i t like) source destination) ∙ home.here;
    one = λ named. sym (many i0 i (seen_at i0 i t like) source) ∙ home.one named;
  }

module _ (names : List ℕ → Bool) (side : Side) (C G : Type 0) (N : IpAddress → HardwareAddress → Type 0) (F : Frames) (i0 : InnerValue) (t : ℤ) (net now : Net) (r : Reaches names side C G N F i0 t net now) where
  -- WHAT ANSWERS goes, where the device gives leave

  abbrev IsLeft : Option PacketValue → Type 0
  IsLeft reply = G → IfSome reply (AnswerLeft i0 N F.gone)

  abbrev pub AreLeft : Arrived → Type 0
  AreLeft a = (p : PacketValue) → a.reply ≡ Some (Replies.Answers p) → G → AnswerLeft i0 N F.gone p

  left_of : (a : Arrived) → AreLeft a → (o : Option PacketValue) → a.reply ≡ answered o → IsLeft o
  left_of a answers None is = λ g. tt
  left_of a answers (Some p) is = λ g. answers p is g

  -- A PAYLOAD

  module _ (i : InnerValue) (slots : Slots) (ip : IpRepr) (payload : List ℕ) (taken : Bool) (has : (party now side).sockets ≡ sockets_of slots)
      (like : IsAsAt i0 t i) (home : IsFromOne i0 (source_of ip) (destination_of ip)) (ours : is_for_us i0 (destination_of ip) ≡ true) where
    abbrev Ends : Slots → Option PacketValue → Type 0
    Ends qs reply = Answered names side C G N F i0 t net now (sockets_of qs) reply

    -- and a segment that is carried comes to the socket that accepts it
    pub record Handed (carried : Option PayloadValue) (qs : Slots) (reply : Option PacketValue) : Type 0 where
      pub ends : Ends qs reply
      pub comes : IfSegment side i0 t net ip carried ends.moved.reaches.steps

    same_with : (qs : Slots) (reply : Option PacketValue) → sockets_of qs ≡ sockets_of slots → ((p : Party) → IfSome reply (IsMade p)) → Ends qs reply
    same_with qs reply same free = record { moved = stays names side C G N F i0 t net now r (sockets_of qs) (has ∙ sym same); made = free (party now side) }

    control_v4 : (ip : IpRepr) (message : Icmpv4Header) (bytes : List ℕ) → sockets_of (control_v4_slots ip message bytes slots) ≡ sockets_of slots
    control_v4 (Ip.Ipv4 header) message bytes = icmpv4_delivered_same header message bytes slots
    control_v4 (Ip.Ipv6 header) message bytes = refl

    control_v6 : (ip : IpRepr) (message : MessageValue) (bytes : List ℕ) → sockets_of (control_v6_slots ip message bytes slots) ≡ sockets_of slots
    control_v6 (Ip.Ipv4 header) message bytes = refl
    control_v6 (Ip.Ipv6 header) message bytes = icmpv6_delivered_same header message bytes slots

    -- what answers goes within the limit
    limited_of : (carried : Option PayloadValue) (qs : Slots) → Ends qs (handed_reply i slots ip payload taken carried) →
        Ends qs (limited_reply i slots ip payload taken carried)
    limited_of carried qs end = record {
      moved = end.moved;
      made = let_go_so (IsMade (party end.moved.next side)) (is_unclaimed i slots ip carried) i (handed_reply i slots ip payload taken carried) end.made;
    }

    module _ (header : TcpHeader) (bytes : List ℕ) (made : MayCome (party now (other side)).segments (source_of ip) (destination_of ip) header bytes) where
      abbrev cx : ContextValue
      cx = context_of i

      -- a reset goes
      abbrev Goes : Type 0
      Goes = (names_no_endpoint i ip ≡ false) × (segment_slot ip header slots ≡ None) × ((taken || is_rst header.control) ≡ false) × (may_tell i ≡ true)

      between : names_no_endpoint i ip ≡ false → IsBetweenHosts i0 ip
      between somebody = record {
        somebody = sym (nobodies i0 i (seen_at i0 i t like) ip) ∙ somebody;
        one = home.one (somebody_named i ip somebody);
        ours = ours;
        here = home.here;
      }

      reset_if : (quiet goes : Bool) → names_no_endpoint i ip ≡ false → (quiet ≡ false → goes ≡ true → C → ⊥)
          → Ends slots (let r : Option PacketValue = if_goes goes (if quiet then None else packet_by (Some (rst_reply ip header (length bytes)))) in r)
      reset_if true goes somebody none = nothing names side C G N F i0 t net now r slots has
      reset_if false true somebody none =
          reset names side C G N F i0 t net now r slots has cx ip header bytes made (shows i0 i t like) (between somebody) (none refl refl)
      reset_if false false somebody none = nothing names side C G N F i0 t net now r slots has

      abbrev Came : Slots → Option PacketValue → Type 0
      Came qs reply = Handed (Some (Segment header bytes)) qs reply

      -- no socket accepts it
      unheard : (reply : Option PacketValue) → Ends slots reply → ((at : ℕ) → names_no_endpoint i0 ip ≡ false → segment_slot ip header slots ≡ Some at → ⊥) →
          Came slots reply
      unheard reply end none = record {
        ends = end;
        comes = record {
          before = end.moved.reaches.steps;
          following = [];
          are = sym (append-nil end.moved.reaches.steps);
          slots = slots;
          sockets = ap (λ (n : Net). (party n side).sockets) end.moved.reaches.ends ∙ end.moved.sockets_are;
          comes = λ at named there. absurd (none at named there);
        };
      }

      -- the one that accepts it takes it
      heard : (at : ℕ) → names_no_endpoint i ip ≡ false → segment_slot ip header slots ≡ Some at → IsLeft (segment_answer_at (Some at) cx ip header bytes taken slots) →
          Came (changed_at (with_segment cx ip header bytes) (Some at) slots) (segment_answer_at (Some at) cx ip header bytes taken slots)
      heard at named there left =
          let came = segment_taken names side C G N F i0 t net now r slots has cx ip header bytes made (shows i0 i t like) (between named) taken at there left in
          record {
            ends = came.ends;
            comes = record {
              before = r.steps;
              following = step_of side (Moves.Takes at cx came.v ip header bytes) ∷ [];
              are = came.are;
              slots = slots;
              sockets = ap (λ (n : Net). (party n side).sockets) r.ends ∙ has;
              comes = λ other named' there'. (
                  let same : Some at ≡ Some other = sym there ∙ there' in
                  let one : at ≡ other = cc in
                  subst (λ (n : ℕ). ArrivesNext side i0 t net n ip header bytes (step_of side (Moves.Takes at cx came.v ip header bytes) ∷ [])) one
                  (record { cx = cx; v = came.v; more = []; are = refl; instant = like.instant })
                  );
            };
          }

      segment_by : (nobody : Bool) (o : Option ℕ) → names_no_endpoint i ip ≡ nobody → segment_slot ip header slots ≡ o → (Goes → C → ⊥)
          → IsLeft (let_go (not nobody && not (is_some o)) i (if nobody then None else segment_answer_at o cx ip header bytes taken slots))
          → Came (if nobody then slots else changed_at (with_segment cx ip header bytes) o slots)
          (let_go (not nobody && not (is_some o)) i (if nobody then None else segment_answer_at o cx ip header bytes taken slots))
      segment_by true o named there none left =
          unheard None (nothing names side C G N F i0 t net now r slots has)
          (λ at somebody there'. (let both : true ≡ false = sym named ∙ nobodies i0 i (seen_at i0 i t like) ip ∙ somebody in absurd (cc)))
      segment_by false (Some at) named there none left = heard at named there left
      segment_by false None named there none left =
          subst (λ (x : Option PacketValue). Came slots x) (goes_is i (taken || is_rst header.control) (packet_in (rst_reply ip header (length bytes))))
          (unheard _ (reset_if (taken || is_rst header.control) (may_tell i) named (λ quiet may c. none (named, there, quiet, may) c))
          (λ at somebody there'. (let both : None ≡ Some at = sym there ∙ there' in absurd (cc))))

    -- none goes, or it is counted
    module _ (header : TcpHeader) (bytes : List ℕ) (a : Arrived) (c : C → a.inner.errors_until ≡ i0.errors_until)
        (inner : a.inner ≡ limited_host i slots ip payload taken (Some (Segment header bytes))) where
      abbrev unclaimed : Bool
      unclaimed = is_unclaimed i slots ip (Some (Segment header bytes))

      abbrev reply : Option PacketValue
      reply = handed_reply i slots ip payload taken (Some (Segment header bytes))

      abbrev after_it : InnerValue
      after_it = segment_host i slots ip header bytes

      no_reset : (names_no_endpoint i ip ≡ false) × (segment_slot ip header slots ≡ None) × ((taken || is_rst header.control) ≡ false) × (may_tell i ≡ true) → C → ⊥
      no_reset (somebody, nowhere, loud, may) holds =
          let goes : let_go unclaimed i reply ≡ Some (packet_in (rst_reply ip header (length bytes))) =
          (λ k. let_go (not (somebody k) && not (is_some (nowhere k))) i
          (if somebody k then None else segment_answer_at (nowhere k) (context_of i) ip header bytes taken slots))
          ∙ (λ k. if_it_may i (if loud k then None else packet_by (Some (rst_reply ip header (length bytes)))))
          ∙ (λ k. if may k then Some (packet_in (rst_reply ip header (length bytes))) else None) in
          let is : unclaimed ≡ true = λ k. not (somebody k) && not (is_some (nowhere k)) in
          let counts : a.inner ≡ with_error after_it = inner ∙ let_go_counted unclaimed i reply after_it _ is goes in
          counted_later i0 i after_it a.inner like.low (segment_errors i slots ip header bytes) counts (c holds)

    unsegmented : (carried : Option PayloadValue) (qs : Slots) → ((steps : List Step) → IfSegment side i0 t net ip carried steps) →
        Ends qs (handed_reply i slots ip payload taken carried) → Handed carried qs (limited_reply i slots ip payload taken carried)
    unsegmented carried qs none end = record { ends = limited_of carried qs end; comes = none (limited_of carried qs end).moved.reaches.steps }

    handed : (carried : Option PayloadValue) → IsBrought i.checksums ip payload carried → HandsMade (party net (other side)) i.checksums ip payload
        → (a : Arrived) → (C → a.inner.errors_until ≡ i0.errors_until) → a.inner ≡ limited_host i slots ip payload taken carried
        → HandsTo i slots ip carried a.slots → IsLeft (limited_reply i slots ip payload taken carried)
        → Handed carried a.slots (limited_reply i slots ip payload taken carried)
    handed None is made a c inner to left = unsegmented None a.slots (λ steps. tt) (same_with a.slots _ (ap (λ (ps : Slots). sockets_of ps) to)
        (λ p. unread_made p i ip payload taken))
    handed (Some (ControlV4 message bytes)) is made a c inner to left =
        unsegmented (Some (ControlV4 message bytes)) a.slots (λ steps. tt)
        (same_with a.slots _ (ap (λ (ps : Slots). sockets_of ps) to ∙ control_v4 ip message bytes) (λ p. control_v4_made p i ip message bytes))
    handed (Some (ControlV6 message bytes)) is made a c inner to left =
        unsegmented (Some (ControlV6 message bytes)) a.slots (λ steps. tt)
        (same_with a.slots _ (ap (λ (ps : Slots). sockets_of ps) to ∙ control_v6 ip message bytes) (λ p. control_v6_made p i ip message bytes))
    handed (Some (Bytes bytes)) is made a c inner to left =
        unsegmented (Some (Bytes bytes)) a.slots (λ steps. tt) (subst (λ (ps : Slots). Ends ps None) (sym to) (nothing names side C G N F i0 t net now r slots has))
    handed (Some (Datagram udp bytes)) is made a c inner to left =
        let was : WasMade (party now (other side)) (datagram_of udp bytes) =
        subst (λ (p : Party). WasMade p (datagram_of udp bytes)) (sym r.rests) (made.datagrams udp bytes is) in
        let moved = datagram_given names side C G N F i0 t net now r slots has (context_of i) ip udp bytes was a.slots to in
        unsegmented (Some (Datagram udp bytes)) a.slots (λ steps. tt) (record {
          moved = moved;
          made = port_error_made (party moved.next side) (is_some (datagram_slot (context_of i) ip udp slots) || taken) i ip payload;
        })
    handed (Some (Segment header bytes)) is made a c inner to left =
        let was : MayCome (party now (other side)).segments (source_of ip) (destination_of ip) header bytes =
        subst (λ (p : Party). MayCome p.segments (source_of ip) (destination_of ip) header bytes) (sym r.rests) (made.segments header bytes is) in
        subst (λ (ps : Slots). Handed (Some (Segment header bytes)) ps (limited_reply i slots ip payload taken (Some (Segment header bytes)))) (sym to)
        (segment_by header bytes was (names_no_endpoint i ip) (segment_slot ip header slots) refl refl (no_reset header bytes a c inner) left)

    abbrev ItHands : List Step → Type 0
    ItHands steps = HandsIn side i0 t net ip payload steps

    hands : (caps : ChecksumCapabilities) (a : Arrived) → i.checksums ≡ caps → (C → a.inner.errors_until ≡ i0.errors_until) → Hands i slots ip payload taken a →
        HandsMade (party net (other side)) caps ip payload → AreLeft a → Ended names side C G N F i0 t net now a.slots a.reply ItHands
    hands caps a same c (carried, is, so) made answers =
        let end = handed carried is (subst (λ (c : ChecksumCapabilities). HandsMade (party net (other side)) c ip payload) (sym same) made) a c so.inner
        so.slots_are (left_of a answers (limited_reply i slots ip payload taken carried) so.reply) in
        let given : Ended names side C G N F i0 t net now a.slots (answered (limited_reply i slots ip payload taken carried)) ItHands =
        record {
          moved = end.ends.moved;
          made = answered_made (party end.ends.moved.next side) (limited_reply i slots ip payload taken carried) end.ends.made;
          brings = (carried, subst (λ (c : ChecksumCapabilities). IsBrought c ip payload carried) like.settings.checksums is, end.comes);
        } in
        subst (λ (o : Option ReplyValue). Ended names side C G N F i0 t net now a.slots o ItHands) (sym so.reply) given

  -- A CONTENT

  silent : (i : InnerValue) (slots qs : Slots) (a : Arrived) (K : List Step → Type 0) → ((steps : List Step) → K steps) →
      (party now side).sockets ≡ sockets_of slots → sockets_of qs ≡ sockets_of slots → IsSilent i qs a → Ended names side C G N F i0 t net now a.slots a.reply K
  silent i slots qs a K brings has same is =
      let quiet : Ended names side C G N F i0 t net now qs None K =
      record { moved = stays names side C G N F i0 t net now r (sockets_of qs) (has ∙ sym same); made = tt; brings = brings r.steps } in
      subst (λ (ps : Slots). Ended names side C G N F i0 t net now ps a.reply K) (sym is.slots_are)
      (subst (λ (o : Option ReplyValue). Ended names side C G N F i0 t net now qs o K) (sym is.reply) quiet)

  by_renewal : (i : InnerValue) (link : Option EthernetRepr) (sender : IpAddress) → IsAsAt i0 t i → IsAsAt i0 t (renewed_by i link sender)
  by_renewal i None sender like = like
  by_renewal i (Some link) sender like = record {
    settings = record {
      hardware = like.settings.hardware;
      mtu = like.settings.mtu;
      checksums = like.settings.checksums;
      addresses = like.settings.addresses;
      isn_key = like.settings.isn_key;
      any_ip = like.settings.any_ip;
      groups = like.settings.groups;
      host_requirements = like.settings.host_requirements;
      routes = like.settings.routes;
    };
    instant = like.instant;
    low = like.low;
    ident = like.ident;
  }

  renewal_if : (direct : Bool) (i : InnerValue) (link : Option EthernetRepr) (sender : IpAddress) → IsAsAt i0 t i →
      IsAsAt i0 t (if direct then renewed_by i link sender else i)
  renewal_if true i link sender like = by_renewal i link sender like
  renewal_if false i link sender like = like

  renewed_as : (i : InnerValue) (link : Option EthernetRepr) (ip : IpRepr) → IsAsAt i0 t i → IsAsAt i0 t (renewed i link ip)
  renewed_as i link ip like = renewal_if (is_direct i ip) i link (sender_of ip) like

  module _ (i : InnerValue) (slots : Slots) (has : (party now side).sockets ≡ sockets_of slots) (like : IsAsAt i0 t i) where
    -- what a packet brings, if it is for this host
    abbrev IfOurs : IpRepr → List ℕ → List Step → Type 0
    IfOurs ip payload steps = is_for_us i (destination_of ip) ≡ true → HandsIn side i0 t net ip payload steps

    here : (link : Option EthernetRepr) (ip : IpRepr) (payload : List ℕ) (a : Arrived) → is_for_us i (destination_of ip) ≡ true →
        IsFromOne i (source_of ip) (destination_of ip) →
        (C → a.inner.errors_until ≡ i0.errors_until) → Hands (renewed i link ip) (packet_delivered ip payload slots) ip payload (is_taken_raw ip slots) a
        → HandsMade (party net (other side)) i.checksums ip payload → AreLeft a → Ended names side C G N F i0 t net now a.slots a.reply (IfOurs ip payload)
    here link ip payload a ours home c is made answers =
        let later = renewed_as i link ip like in
        let end = hands (renewed i link ip) (packet_delivered ip payload slots) ip payload (is_taken_raw ip slots) (has ∙
        sym (packet_delivered_same ip payload slots)) later (from_one_so i0 i t like (source_of ip) (destination_of ip) home)
        (sym (for_us i0 i (seen_at i0 i t like) (destination_of ip)) ∙ ours) i.checksums a
        (later.settings.checksums ∙ sym like.settings.checksums) c is made answers in
        record { moved = end.moved; made = end.made; brings = λ ours. end.brings }

    theirs : (ours : Bool) (ip : IpRepr) (payload : List ℕ) → is_for_us i (destination_of ip) ≡ ours → ours ≡ false → (steps : List Step) → IfOurs ip payload steps
    theirs ours ip payload is none steps = λ so. (let both : true ≡ false = sym so ∙ is ∙ none in absurd (cc))

    v4 : (ours : Bool) (link : Option EthernetRepr) (ip : IpRepr) (payload : List ℕ) (a : Arrived) → is_for_us i (destination_of ip) ≡ ours →
        IsFromOne i (source_of ip) (destination_of ip) → (C → a.inner.errors_until ≡ i0.errors_until) → ArrivesV4 ours i slots link ip payload a →
        HandsMade (party net (other side)) i.checksums ip payload → AreLeft a → Ended names side C G N F i0 t net now a.slots a.reply (IfOurs ip payload)
    v4 true link ip payload a so home c is made answers = here link ip payload a so home c is made answers
    v4 false link ip payload a so home c is made answers =
        silent i slots (packet_delivered ip payload slots) a (IfOurs ip payload) (theirs false ip payload so refl) has (packet_delivered_same ip payload slots) is

    v6 : (ours : Bool) (link : Option EthernetRepr) (ip : IpRepr) (payload : List ℕ) (a : Arrived) → is_for_us i (destination_of ip) ≡ ours →
        IsFromOne i (source_of ip) (destination_of ip) → (C → a.inner.errors_until ≡ i0.errors_until) → ArrivesV6 ours i slots link ip payload a →
        HandsMade (party net (other side)) i.checksums ip payload → AreLeft a → Ended names side C G N F i0 t net now a.slots a.reply (IfOurs ip payload)
    v6 true link ip payload a so home c is made answers = here link ip payload a so home c is made answers
    v6 false link ip payload a so home c is made answers = silent i slots slots a (IfOurs ip payload) (theirs false ip payload so refl) has refl is

    pub brings_moves : (content : Option IncomingValue) (a : Arrived) → IsHome i content → (C → a.inner.errors_until ≡ i0.errors_until) →
        Brings i slots content a → BringsMade (party net (other side)) i.checksums content → AreLeft a →
        Ended names side C G N F i0 t net now a.slots a.reply (BringsIn side i0 t net i content)
    brings_moves None a home c is made answers = silent i slots slots a (λ steps. Unit {0}) (λ steps. tt) has refl is
    brings_moves (Some (Arp link packet)) a home c is made answers =
        let told : Ended names side C G N F i0 t net now slots (Replies.told (arp_answer i packet)) (λ steps. Unit {0}) = record {
          moved = stays names side C G N F i0 t net now r (sockets_of slots) has;
          made = told_made (party now side) (arp_answer i packet);
          brings = tt;
        } in
        subst (λ (ps : Slots). Ended names side C G N F i0 t net now ps a.reply (λ steps. Unit {0})) (sym is.slots_are)
        (subst (λ (o : Option ReplyValue). Ended names side C G N F i0 t net now slots o (λ steps. Unit {0})) (sym is.reply) told)
    brings_moves (Some (Ip4 link header fragment payload)) a home c is made answers =
        v4 (is_for_us i (Address.Ipv4 header.dst_addr)) link (Ip.Ipv4 header) payload a refl home c is made answers
    brings_moves (Some (Ip6 link header payload)) a home c is made answers =
        v6 (is_for_us i (Address.Ipv6 header.dst_addr)) link (Ip.Ipv6 header) payload a refl home c is made answers
