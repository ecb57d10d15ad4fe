-- Each side of a connection accepts what the other sends.
use Rattle.std.proofs.Common.{◌≡◌, inl, inr, ℕ, ◌-◌}
use Rattle.std.proofs.Common.{◌==◌, ◌&&◌, Bool, true, false, List, Option, Some}
use Rattle.std.proofs.Common.{refl, sym, ap, ◌∙◌, subst}
use Rattle.std.proofs.lemmas.Bool.{eq-eqb}
use Rattle.std.proofs.lemmas.Slice.Eq.{bytes_eq-Decides}
use Rattle.ip_wire.specs.AddressTests.{is_same_address}
use Rattle.ip_wire.specs.Ip.{source_of, destination_of}
use Rattle.ip_wire.specs.IpAddress.{IpAddress}
use Rattle.ip_wire.specs.IpAddress.TheVariants as Address
use Rattle.ip_wire.specs.IpRepr.{IpRepr}
use Rattle.ip_wire.specs.TcpHeader.{TcpHeader}
use Rattle.tcp_refinement.specs.Context.{ContextValue}
use Rattle.tcp_refinement.specs.Endpoints.{GoesBetween, GoesBack, IsLeftBy}
use Rattle.tcp_invariants.specs.FourTuple.{FourTuple}
use Rattle.tcp_invariants.specs.Endpoints.{local_of, remote_of, is_between, is_connected_by}
use Rattle.tcp_invariants.specs.Names.{Names}
use Rattle.tcp_invariants.specs.OpenOffer.{OpenOffer}
use Rattle.tcp_invariants.specs.Reply.{Reply}
use Rattle.tcp_invariants.specs.State.{State}
use Rattle.tcp_invariants.specs.State.TheVariants as In
use Rattle.tcp_invariants.specs.States.{is_answering, is_closed}
use Rattle.tcp_block.specs.Arrival.{arrives}
use Rattle.tcp_block.specs.declared.tcb.Tcb.{Tcb}
use Rattle.tcp_block.specs.Names.{accepts, accepts_in}
use Rattle.tcp_block.specs.Offers.{offer_of}
use Rattle.tcp_block.specs.Settled.{settled}
use Rattle.tcp_refinement.specs.Pair.Sides.{other}
use Rattle.tcp_block.specs.Value.{TcpValue}
use Rattle.tcp_refinement.proofs.NameLaws.{offer_between_ends, sent_names, answer_back}
use Rattle.tcp_invariants.proofs.OrderSteps.{clash}
use Rattle.tcp_liveness.specs.Arrivals.{is_synchronized}
use Rattle.tcp_liveness.specs.Pair.{AreMirrored}
use Rattle.tcp_liveness.specs.Sent.{is_early}

-- EACH ACCEPTS WHAT THE OTHER SENDS

alike : (a b : IpAddress) → a ≡ b → is_same_address a b ≡ true
alike a b e = subst (λ (b : IpAddress). is_same_address a b ≡ true) e (itself a) where
  itself : (a : IpAddress) → is_same_address a a ≡ true
  itself (Address.Ipv4 a) = (bytes_eq-Decides a.0 a.0).1 refl
  itself (Address.Ipv6 a) = (bytes_eq-Decides a.0 a.0).1 refl

all_four : (a b c d : Bool) → a ≡ true → b ≡ true → c ≡ true → d ≡ true → (a && (b && (c && d))) ≡ true
all_four a b c d e f g h = ap (λ (t : Bool). t && (b && (c && d))) e ∙ (ap (λ (t : Bool). t && (c && d)) f ∙ (ap (λ (t : Bool). t && d) g ∙ h))

-- a segment between the endpoints of a connection
pub between :
    (pair : FourTuple) (ip : IpRepr) (header : TcpHeader) → local_of pair.addresses ≡ destination_of ip → remote_of pair.addresses ≡ source_of ip
    → pair.local_port ≡ header.dst_port → pair.remote_port ≡ header.src_port → is_between pair ip header ≡ true
between pair ip header a b c d =
    all_four (is_same_address (local_of pair.addresses) (destination_of ip)) (is_same_address (remote_of pair.addresses) (source_of ip))
    (pair.local_port == header.dst_port) (pair.remote_port == header.src_port) (alike (local_of pair.addresses) (destination_of ip) a)
    (alike (remote_of pair.addresses) (source_of ip) b) (eq-eqb pair.local_port header.dst_port c) (eq-eqb pair.remote_port header.src_port d)

pub accepted_by :
    (b : Tcb) (pair : FourTuple) (ip : IpRepr) (header : TcpHeader) → is_synchronized b.state ≡ true → b.names.pair ≡ Some pair
    → is_between pair ip header ≡ true → accepts b ip header ≡ true
accepted_by b pair ip header past named fits =
    in_state b.state past ∙ (ap (λ (names : Option FourTuple). is_connected_by names ip header) named ∙ fits)
  where
    in_state : (state : State) → is_synchronized state ≡ true → accepts_in state b ip header ≡ is_connected_by b.names.pair ip header
    in_state In.Closed e = clash (sym e)
    in_state In.Listen e = clash (sym e)
    in_state other e = refl

one_pair : (x y : FourTuple) → Some x ≡ Some y → x ≡ y
one_pair x y e = cc

-- a mirrored peer accepts an offer
pub offer_accepted :
    (cx : ContextValue) (v : TcpValue) (b : Tcb) (o : OpenOffer) (m : AreMirrored v.tcb b) → is_synchronized b.state ≡ true
    → (offer_of cx v).socket.offered ≡ Some o → accepts b o.header o.segment ≡ true
offer_accepted cx v b o m past offered =
    let it = offer_between_ends cx v o offered in
    let same : m.own ≡ it.0 = one_pair m.own it.0 (sym m.named ∙ it.1) in
    let g : GoesBetween m.own o = subst (λ (pair : FourTuple). GoesBetween pair o) (sym same) it.2 in
    accepted_by b m.theirs o.header o.segment past m.peer_side_named
    (between m.theirs o.header o.segment (sym m.remote ∙ sym g.destination) (sym m.local ∙ sym g.source) (sym m.remote_port ∙ sym g.destination_port)
    (sym m.local_port ∙ sym g.source_port))

-- the names stay with an offer, where the connection does
names_stay : (old new : Tcb) → is_answering old.state ≡ false → is_closed new.state ≡ false → IsLeftBy old new → new.names ≡ old.names
names_stay old new past alive (inl falls) = clash (sym falls.answering ∙ past)
names_stay old new past alive (inr (inl keeps)) = keeps.names
names_stay old new past alive (inr (inr forgets)) = clash (sym forgets.state ∙ alive)

pub not_closed : (state : State) → is_synchronized state ≡ true → is_closed state ≡ false
not_closed In.Closed e = clash (sym e)
not_closed other e = refl

pub late_in : (state : State) → is_synchronized state ≡ true → is_early state ≡ false
late_in In.Closed e = clash (sym e)
late_in In.Listen e = clash (sym e)
late_in In.SynSent e = clash (sym e)
late_in In.SynReceived e = clash (sym e)
late_in other e = refl

not_answered : (state : State) → is_synchronized state ≡ true → is_answering state ≡ false
not_answered In.SynReceived e = clash (sym e)
not_answered other e = refl

-- and the side accepts what answers it
pub reply_accepted :
    (cx cy : ContextValue) (v w : TcpValue) (bytes : List ℕ) (o : OpenOffer) (reply : Reply) (m : AreMirrored v.tcb w.tcb)
    → (offer_of cx v).socket.offered ≡ Some o → is_synchronized v.tcb.state ≡ true
    → is_synchronized (settled true (offer_of cx v).socket).tcb.state ≡ true → (arrives cy w o.header o.segment bytes).answer ≡ Some reply
    → accepts (settled true (offer_of cx v).socket).tcb reply.header reply.segment ≡ true
reply_accepted cx cy v w bytes o reply m offered past still answer =
    let new = (settled true (offer_of cx v).socket).tcb in
    let it = offer_between_ends cx v o offered in
    let same : m.own ≡ it.0 = one_pair m.own it.0 (sym m.named ∙ it.1) in
    let g : GoesBetween m.own o = subst (λ (pair : FourTuple). GoesBetween pair o) (sym same) it.2 in
    let back : GoesBack o.header o.segment reply = answer_back cy w o.header o.segment bytes reply answer in
    let named : new.names.pair ≡ Some m.own =
    ap (λ (names : Names). names.pair)
    (names_stay v.tcb new (not_answered v.tcb.state past) (not_closed new.state still) (sent_names cx v))
    ∙ m.named in
    accepted_by new m.own reply.header reply.segment still named
    (between m.own reply.header reply.segment (sym g.source ∙ sym back.destination) (sym g.destination ∙ sym back.source)
    (sym g.source_port ∙ sym back.destination_port) (sym g.destination_port ∙ sym back.source_port))
