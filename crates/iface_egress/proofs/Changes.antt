-- What changes on a packet's egress path: at the device, in the host, and of what is left to send.
use Rattle.std.proofs.Common.{◌≡◌, Bool, true, false, Option, Some, IfSome, refl, ap, ◌∙◌, sym, subst}
use Rattle.net_base.specs.Device.{Move}
use Rattle.ip_wire.specs.HardwareAddress.{HardwareAddress}
use Rattle.ip_wire.specs.IpRepr.{IpRepr}
use Rattle.ip_wire.specs.IpRepr.TheVariants as Ip
use Rattle.socket_context.specs.Packet.{PacketValue}
use Rattle.iface_tables.specs.Inner.{InnerValue}
use Rattle.iface_egress.specs.Departure.{Departure, Asks, Whole, number_of}
use Rattle.iface_egress.specs.Fragments.{LeftValue, departure_from}
use Rattle.iface_egress.specs.Plan.{plan_of}
use Rattle.iface_egress.specs.IsTransmitted.{IsTransmitted, FragmentIsTransmitted, Asked, WasSent, WasCut, numbered, numbered_header, cut_header, cut_of, after_header}
use Rattle.iface_egress.specs.Departing.{departure_by, SendsOnce, was_taken, host_after, left_following, number_in, number_in_header, HasSettingsOf}
use Rattle.iface_egress.specs.declared.egress_path.Sent.{Sent}
use Rattle.iface_egress.specs.declared.egress_path.Sent.TheVariants as Outcome
use Rattle.iface_egress.specs.declared.frame.NeighborQuery.{NeighborQuery}
use Rattle.iface_egress.specs.declared.plan.Plan.{Plan}
use Rattle.iface_egress.specs.declared.plan.Plan.TheVariants as Way
use Rattle.iface_egress.proofs.Planned.{plan_cases}

module _ {D : Type 0} (moves : D → Move → D → Type 0) (old new : D) (i i' : InnerValue) (l l' : Option LeftValue) (p : PacketValue) where
  abbrev pub Changes : Plan → Sent → Type 0
  Changes plan sent = SendsOnce moves old i (departure_by i p plan) (was_taken sent) new × (i' ≡ host_after plan sent p.header i) ×
      (l' ≡ left_following i p plan sent l)

  asked : (q : NeighborQuery) (sent : Sent) → Asked moves old i q sent new i' → l' ≡ l → Changes (Way.Ask q) sent
  asked q Outcome.Waits goes same = (goes.0, goes.1, same)
  asked q Outcome.Refused goes same = (goes.0, goes.1, same)
  asked q Outcome.Gone goes same = absurd goes
  asked q Outcome.Dropped goes same = absurd goes
  asked q Outcome.Busy goes same = absurd goes

  after_is : (to : HardwareAddress) (h : IpRepr) → after_header h i ≡ host_after (Way.Go to) Outcome.Gone h i
  after_is to (Ip.Ipv4 v) = refl
  after_is to (Ip.Ipv6 v) = refl

  was_sent : (to : HardwareAddress) (sent : Sent) → WasSent moves old i p.header (Whole to (numbered i p)) sent new i' → l' ≡ l → Changes (Way.Go to) sent
  was_sent to Outcome.Gone goes same = (goes.0, goes.1 ∙ after_is to p.header, same)
  was_sent to Outcome.Refused goes same = (goes.0, goes.1, same)
  was_sent to Outcome.Waits goes same = absurd goes
  was_sent to Outcome.Dropped goes same = absurd goes
  was_sent to Outcome.Busy goes same = absurd goes

  was_cut : (to : HardwareAddress) (sent : Sent) → WasCut moves old i l (cut_of i to p) sent new i' l' → Changes (Way.Cut to) sent
  was_cut to Outcome.Gone goes = goes
  was_cut to Outcome.Refused goes = goes
  was_cut to Outcome.Waits goes = absurd goes
  was_cut to Outcome.Dropped goes = absurd goes
  was_cut to Outcome.Busy goes = absurd goes

  pub changes : (busy : Bool) (sent : Sent) → IsTransmitted moves old i l p (plan_of i busy p.header) sent new i' l' → Changes (plan_of i busy p.header) sent
  changes busy sent =
      plan_cases i busy p.header (λ plan. IsTransmitted moves old i l p plan sent new i' l' → Changes plan sent)
      (λ goes. subst (Changes Way.Drop) (sym goes.0) goes.1)
      (λ goes. subst (Changes Way.NoRoute) (sym goes.0) goes.1)
      (λ goes. subst (Changes Way.Wait) (sym goes.0) goes.1)
      (λ goes. subst (Changes Way.Busy) (sym goes.0) goes.1)
      (λ q may from goes. asked q sent goes.0 goes.1)
      (λ to short goes. was_sent to sent goes.0 goes.1)
      (λ to long short bare idle goes. was_cut to sent goes)

pub fragment_sends : {D : Type 0} (moves : D → Move → D → Type 0) (old new : D) (i : InnerValue) (l : LeftValue) (l' : Option LeftValue) (taken : Bool)
    → FragmentIsTransmitted moves old i l taken new l' → SendsOnce moves old i (Some (departure_from i l)) taken new
fragment_sends moves old new i l l' true goes = goes.0
fragment_sends moves old new i l l' false goes = goes.0

pub same_settings : (i i' : InnerValue) (plan : Plan) (sent : Sent) (h : IpRepr) → i' ≡ host_after plan sent h i → HasSettingsOf i i'
same_settings i i' plan sent h is = record {
  hardware = ap (λ (x : InnerValue). x.hardware) is;
  mtu = ap (λ (x : InnerValue). x.mtu) is;
  checksums = ap (λ (x : InnerValue). x.checksums) is;
  addresses = ap (λ (x : InnerValue). x.addresses) is;
  isn_key = ap (λ (x : InnerValue). x.isn_key) is;
  any_ip = ap (λ (x : InnerValue). x.any_ip) is;
  groups = ap (λ (x : InnerValue). x.groups) is;
  host_requirements = ap (λ (x : InnerValue). x.host_requirements) is;
  routes = ap (λ (x : InnerValue). x.routes) is;
}

-- NUMBERS

abbrev HasNumber : InnerValue → Departure → Type 0
HasNumber i d = IfSome (number_in d) (λ n. n ≡ i.ident)

header_number : (i : InnerValue) (h : IpRepr) → IfSome (number_in_header (numbered_header i h)) (λ n. n ≡ i.ident)
header_number i (Ip.Ipv4 v) = refl
header_number i (Ip.Ipv6 v) = tt

cut_number : (i : InnerValue) (h : IpRepr) → number_of (cut_header i h) ≡ i.ident
cut_number i (Ip.Ipv4 v) = refl
cut_number i (Ip.Ipv6 v) = refl

some_is : (x d : Departure) → (let o : Option Departure = Some x in o) ≡ Some d → x ≡ d
some_is x d is = cc

pub next_number : (i : InnerValue) (busy : Bool) (p : PacketValue) (d : Departure) → departure_by i p (plan_of i busy p.header) ≡ Some d →
    IfSome (number_in d) (λ n. n ≡ i.ident)
next_number i busy p d =
    plan_cases i busy p.header (λ plan. departure_by i p plan ≡ Some d → HasNumber i d)
    (λ is. absurd cc) (λ is. absurd cc) (λ is. absurd cc) (λ is. absurd cc)
    (λ q may from is. subst (HasNumber i) (some_is (Asks q) d is) tt)
    (λ to short is. subst (HasNumber i) (some_is (Whole to (numbered i p)) d is) (header_number i p.header))
    (λ to long short bare idle is. subst (HasNumber i) (some_is (departure_from i (cut_of i to p)) d is) (cut_number i p.header))
