-- A later fragment on egress.
use Rattle.std.proofs.Common.{◌≡◌, Bool, true, false, cond, Option, Some, None, IfSome, subst}
use Rattle.net_base.specs.Device.{Move}
use Rattle.ip_wire.specs.IpAddress.{IpAddress}
use Rattle.iface_tables.specs.Inner.{InnerValue, mtu_to}
use Rattle.iface_egress.specs.Emits.{Emits}
use Rattle.iface_egress.specs.Departure.{destination_in, fragment_frame, fragment_frame_len}
use Rattle.iface_egress.specs.Fragments.{LeftValue, next_fragment, left_after}
use Rattle.iface_egress.specs.IsTransmitted.{FragmentIsTransmitted}
use Rattle.iface_egress.specs.declared.fragmenter.Cut.{Cut}

abbrev pub WasSentBy : {D : Type 0} → (D → Move → D → Type 0) → D → D → Bool → Cut → LeftValue → Type 0
WasSentBy moves old new sent cut l =
    Emits moves old (fragment_frame cut.checksums cut.from l.to l.header (next_fragment cut.mtu l)) (fragment_frame_len cut.from l.to l.header (next_fragment cut.mtu l)) sent new

abbrev pub LeftBy : Bool → Option LeftValue → Cut → LeftValue → Type 0
LeftBy sent after cut l = after ≡ cond sent (left_after cut.mtu l) (Some l)

abbrev pub cut_of_host : InnerValue → IpAddress → Cut
cut_of_host i destination = record { from = i.hardware; mtu = mtu_to i destination; checksums = i.checksums }

-- a datagram for this destination
abbrev pub GoesTo : IpAddress → LeftValue → Type 0
GoesTo destination l = destination ≡ destination_in l.header

one_joined : {D : Type 0} (moves : D → Move → D → Type 0) (old new : D) (i : InnerValue) (l : LeftValue) (after : Option LeftValue) (sent : Bool)
    → WasSentBy moves old new sent (cut_of_host i (destination_in l.header)) l → LeftBy sent after (cut_of_host i (destination_in l.header)) l →
    FragmentIsTransmitted moves old i l sent new after
one_joined moves old new i l after true was_sent left = (was_sent, left)
one_joined moves old new i l after false was_sent left = (was_sent, left)

joined : {D : Type 0} (moves : D → Move → D → Type 0) (old new : D) (i : InnerValue) (to : IpAddress) (o after : Option LeftValue) (sent : Bool)
    → IfSome o (GoesTo to) → IfSome o (WasSentBy moves old new sent (cut_of_host i to)) → IfSome o (LeftBy sent after (cut_of_host i to)) →
    IfSome o (λ l. FragmentIsTransmitted moves old i l sent new after)
joined moves old new i to None after sent goes was_sent left = was_sent
joined moves old new i to (Some l) after sent goes was_sent left =
    one_joined moves old new i l after sent
    (subst (λ (a : IpAddress). WasSentBy moves old new sent (cut_of_host i a) l) goes was_sent)
    (subst (λ (a : IpAddress). LeftBy sent after (cut_of_host i a) l) goes left)

pub fragment_out : {D : Type 0} (moves : D → Move → D → Type 0) (old new : D) (i : InnerValue) (to : IpAddress) (o after : Option LeftValue) (cut : Cut)
    (sent : Bool) → cut ≡ cut_of_host i to → IfSome o (GoesTo to)
    → IfSome o (WasSentBy moves old new sent cut) → IfSome o (LeftBy sent after cut) → IfSome o (λ l. FragmentIsTransmitted moves old i l sent new after)
fragment_out moves old new i to o after cut sent same goes was_sent left =
    joined moves old new i to o after sent goes
    (subst (λ (c : Cut). IfSome o (WasSentBy moves old new sent c)) same was_sent)
    (subst (λ (c : Cut). IfSome o (LeftBy sent after c)) same left)
