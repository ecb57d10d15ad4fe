-- What a frame brings is determined.
use Rattle.std.proofs.Common.{◌≡◌, Bool, true, false, List, sym, ap, ◌∙◌, subst}
use Rattle.std.specs.Prelude.{ℕ, Option, Some, None}
use Rattle.ip_wire.specs.IpRepr.{IpRepr}
use Rattle.ip_wire.specs.IpRepr.TheVariants as Ip
use Rattle.ip_wire.specs.declared.ethernet.repr.EthernetRepr.{EthernetRepr}
use Rattle.socket_context.specs.Packet.{PayloadValue, ControlV4, ControlV6, Bytes, Datagram, Segment}
use Rattle.iface_ingress.specs.Incoming.{IncomingValue, Arp, Ip4, Ip6}
use Rattle.iface_ingress.proofs.OneContent.{one-content, one-carried-content}
use Rattle.iface_tables.specs.Inner.{InnerValue, context_of}
use Rattle.iface_ingress.specs.Arrives.{Arrived, Arrives, ArrivesAs, ArrivesV4, ArrivesV6, Brings, Hands, IsHanded, IsSilent, answered, renewed}
use Rattle.iface_ingress.specs.Arrives.{whole_arrived}
use Rattle.iface_ingress.specs.Delivered.{Slots, packet_delivered, is_taken_raw}
use Rattle.iface_ingress.specs.Processed.{limited_host, limited_reply, HandsTo}
use Rattle.iface_ingress.proofs.OneDatagram.{one_delivered}
use Rattle.iface_ingress.specs.Reassembled.{Assemblers}
use Rattle.iface_ingress.specs.Upper.{upper_header, upper_payload}

same_arrived : (a b : Arrived) → a.inner ≡ b.inner → a.slots ≡ b.slots → a.reply ≡ b.reply → a ≡ b
same_arrived a b hosts sockets replies = λ k. record { inner = hosts k; slots = sockets k; reply = replies k }

one_slots : (i : InnerValue) (slots : Slots) (ip : IpRepr) (c : Option PayloadValue) (p q : Slots) → HandsTo i slots ip c p → HandsTo i slots ip c q →
    p ≡ q
one_slots i slots ip (Some (ControlV4 message bytes)) p q one other = one ∙ sym other
one_slots i slots ip (Some (ControlV6 message bytes)) p q one other = one ∙ sym other
one_slots i slots ip (Some (Bytes bytes)) p q one other = one ∙ sym other
one_slots i slots ip (Some (Datagram udp bytes)) p q one other = one_delivered (context_of i) ip udp bytes slots p q one other
one_slots i slots ip (Some (Segment header bytes)) p q one other = one ∙ sym other
one_slots i slots ip None p q one other = one ∙ sym other

one_handed : (i : InnerValue) (slots : Slots) (ip : IpRepr) (payload : List ℕ) (taken : Bool) (c d : Option PayloadValue) (a b : Arrived) → c ≡ d →
    IsHanded i slots ip payload taken c a → IsHanded i slots ip payload taken d b → a ≡ b
one_handed i slots ip payload taken c d a b same one other =
    same_arrived a b
    (one.inner ∙ ap (λ x. limited_host i slots ip payload taken x) same ∙ sym other.inner)
    (one_slots i slots ip c a.slots b.slots one.slots_are
    (subst (λ (x : Option PayloadValue). HandsTo i slots ip x b.slots) (sym same) other.slots_are))
    (one.reply ∙ ap (λ x. answered (limited_reply i slots ip payload taken x)) same ∙ sym other.reply)

one_hands : (i : InnerValue) (slots : Slots) (ip : IpRepr) (payload : List ℕ) (taken : Bool) (a b : Arrived) → Hands i slots ip payload taken a →
    Hands i slots ip payload taken b → a ≡ b
one_hands i slots ip payload taken a b (c, is, one) (d, is', other) =
    one_handed i slots ip payload taken c d a b (one-carried-content i.checksums (upper_header ip payload) (upper_payload ip payload) c d is is') one other

one_silent : (i : InnerValue) (slots : Slots) (a b : Arrived) → IsSilent i slots a → IsSilent i slots b → a ≡ b
one_silent i slots a b one other = same_arrived a b (one.inner ∙ sym other.inner) (one.slots_are ∙ sym other.slots_are) (one.reply ∙ sym other.reply)

one_v4 : (ours : Bool) (i : InnerValue) (slots : Slots) (link : Option EthernetRepr) (ip : IpRepr) (payload : List ℕ) (a b : Arrived) →
    ArrivesV4 ours i slots link ip payload a → ArrivesV4 ours i slots link ip payload b → a ≡ b
one_v4 true i slots link ip payload a b one other =
    one_hands (renewed i link ip) (packet_delivered ip payload slots) ip payload (is_taken_raw ip slots) a b one other
one_v4 false i slots link ip payload a b one other = one_silent i (packet_delivered ip payload slots) a b one other

one_v6 : (ours : Bool) (i : InnerValue) (slots : Slots) (link : Option EthernetRepr) (ip : IpRepr) (payload : List ℕ) (a b : Arrived) →
    ArrivesV6 ours i slots link ip payload a → ArrivesV6 ours i slots link ip payload b → a ≡ b
one_v6 true i slots link ip payload a b one other =
    one_hands (renewed i link ip) (packet_delivered ip payload slots) ip payload (is_taken_raw ip slots) a b one other
one_v6 false i slots link ip payload a b one other = one_silent i slots a b one other

pub one_brings : (i : InnerValue) (slots : Slots) (content : Option IncomingValue) (a b : Arrived) → Brings i slots content a →
    Brings i slots content b → a ≡ b
one_brings i slots None a b one other = one_silent i slots a b one other
one_brings i slots (Some (Arp link packet)) a b one other =
    same_arrived a b (one.inner ∙ sym other.inner) (one.slots_are ∙ sym other.slots_are) (one.reply ∙ sym other.reply)
one_brings i slots (Some (Ip4 link header fragment payload)) a b one other = one_v4 _ i slots link (Ip.Ipv4 header) payload a b one other
one_brings i slots (Some (Ip6 link header payload)) a b one other = one_v6 _ i slots link (Ip.Ipv6 header) payload a b one other

abbrev pub Same : Assemblers → Assemblers → Arrived → Arrived → Type 0
Same s s' a a' = (s ≡ s') × (a ≡ a')

pub one_arrives_as : (i : InnerValue) (timeout : ℕ) (assemblers : Assemblers) (slots : Slots) (content : Option IncomingValue) (s s' : Assemblers) (a a' : Arrived) →
    ArrivesAs i timeout assemblers slots content s a → ArrivesAs i timeout assemblers slots content s' a' → Same s s' a a'
one_arrives_as i timeout assemblers slots content s s' a a' one other =
    (one.0 ∙ sym other.0, one_brings i slots (whole_arrived i timeout assemblers content) a a' one.1 other.1)

pub one_arrives : (i : InnerValue) (timeout : ℕ) (assemblers : Assemblers) (slots : Slots) (frame : List ℕ) (s s' : Assemblers) (a a' : Arrived) →
    Arrives i timeout assemblers slots frame s a → Arrives i timeout assemblers slots frame s' a' → Same s s' a a'
one_arrives i timeout assemblers slots frame s s' a a' (c, is, one) (d, is', other) =
    let same = one-content i.hardware i.checksums frame d c is' is in
    let P : Option IncomingValue → Type 0 = λ x. ArrivesAs i timeout assemblers slots x s' a' in
    one_arrives_as i timeout assemblers slots c s s' a a' one (subst P same other)
