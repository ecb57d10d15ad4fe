-- A packet that leaves straight to a hardware address leaves as its plan says.
use Rattle.std.proofs.Common.{◌≡◌, Bool, true, false, ◌||◌, inl, inr, ℤ, Option, Some, is_some, refl, sym, ap, ◌∙◌, subst}
use Rattle.std.specs.Prelude.{if◌then◌else◌}
use Rattle.net_base.specs.Device.{Move}
use Rattle.ip_wire.specs.HardwareAddress.{HardwareAddress}
use Rattle.ip_wire.specs.Ip.{destination_of}
use Rattle.ip_wire.specs.IpAddress.{IpAddress}
use Rattle.ip_wire.specs.IpRepr.{IpRepr}
use Rattle.iface_ingress.specs.Packet.{PacketValue}
use Rattle.iface_ingress.specs.WellFormed.{IsWellFormed}
use Rattle.iface_tables.specs.Inner.{InnerValue}
use Rattle.iface_egress.specs.Departure.{Departure, Whole}
use Rattle.iface_egress.specs.IsTransmitted.{IsTransmitted, WasSent, numbered}
use Rattle.iface_egress.specs.Meta.{unmarked}
use Rattle.iface_egress.specs.Plan.{comes_from_here, GoesDirect}
use Rattle.iface_egress.specs.declared.plan.Plan.{Plan}
use Rattle.iface_egress.specs.declared.socket_meta.Meta.{Meta}
use Rattle.iface_egress.specs.declared.egress_path.Sent.{Sent}
use Rattle.iface_egress.specs.declared.egress_path.Sent.TheVariants as Outcome
use Rattle.interface.specs.Host.{Sender, sender}
use Rattle.iface_egress.specs.Parked.{is_searched}
use Rattle.interface.specs.Serve.{is_done, is_raw, marked, held, waits_until, plan_at, Leaves, LeavesAs, LeavesDirect, LeavesOrParks, HasLeft}
use Rattle.interface.proofs.Alone.{unsearched_leaves}
use Rattle.interface.proofs.Sourced.{sourced_stays}

or_true : (a b : Bool) → b ≡ true → (a || b) ≡ true
or_true true b is = refl
or_true false b is = is

-- of what becomes of a packet that goes whole nothing has to wait
mark_is : {D : Type 0} (moves : D → Move → D → Type 0) (old new : D) (i i' : InnerValue) (header : IpRepr) (d : Departure) (sent : Sent)
    (instant until : ℤ) (to : IpAddress) (m : Meta) → WasSent moves old i header d sent new i' →
    (if is_done sent then unmarked else m) ≡ marked sent instant until to m
mark_is moves old new i i' header d Outcome.Gone instant until to m was_sent = refl
mark_is moves old new i i' header d Outcome.Dropped instant until to m was_sent = refl
mark_is moves old new i i' header d Outcome.Busy instant until to m was_sent = refl
mark_is moves old new i i' header d Outcome.Refused instant until to m was_sent = refl
mark_is moves old new i i' header d Outcome.Waits instant until to m was_sent = absurd was_sent

pub direct_left : {D : Type 0} (moves : D → Move → D → Type 0) (turn : Option IpAddress) (s : Sender D) (m m' : Meta) (p : PacketValue)
    (to : HardwareAddress) (sent : Sent) (new : D) (i' : InnerValue) → GoesDirect s.inner p.header to → IsWellFormed p →
    LeavesDirect moves to p s.device s.inner m sent new i' m' → HasLeft moves turn s m p sent (sender new i' s.left) m'
direct_left {D} moves turn s m m' p to sent new i' direct formed leaves =
    (p, sym (sourced_stays s.inner p (or_true (is_raw p.payload) (comes_from_here s.inner p.header) direct.here)), by leaves) where
      s' : Sender D
      s' = sender new i' s.left

      until : ℤ
      until = waits_until (plan_at s p) i'

      parks_not : Leaves moves turn s m p sent s' → LeavesOrParks moves turn s m p sent s'
      parks_not left = unsearched_leaves moves turn s m p sent s' (ap is_searched (direct.plan (is_some s.left))) left

      by : LeavesDirect moves to p s.device s.inner m sent new i' m' → LeavesAs moves turn s m p sent s' m'
      by (inl back) = (
        parks_not (inl (false, back.0, back.1, refl, ap Some (sym back.2))),
        formed,
        back.3 ∙ sym (ap (λ (o : Sent). marked o s.inner.instant until (destination_of p.header) m) back.2),
      )
      by (inr out) = (
        parks_not (inr (
          out.0,
          out.1,
          subst (λ (plan : Plan). IsTransmitted moves out.0 s.inner s.left p plan sent new i' s.left) (sym (direct.plan (is_some s.left))) (out.2, refl),
          ap (held turn m s.inner (destination_of p.header)) (direct.plan (is_some s.left)),
        )),
        formed,
        out.3 ∙ mark_is moves out.0 new s.inner i' p.header (Whole to (numbered s.inner p)) sent s.inner.instant until (destination_of p.header) m out.2,
      )
