-- An answer that goes straight to a hardware address goes as its plan says, and asks for nobody.
use Rattle.std.proofs.Common.{◌≡◌, Bool, true, false, ◌&&◌, Some, is_some, inr, refl, sym, subst, ap, ◌∙◌}
use Rattle.net_base.specs.Device.{Move}
use Rattle.ip_wire.specs.HardwareAddress.{HardwareAddress}
use Rattle.iface_ingress.specs.Packet.{PacketValue}
use Rattle.iface_ingress.specs.WellFormed.{IsWellFormed}
use Rattle.iface_ingress.specs.Arrives.{Answers}
use Rattle.iface_tables.specs.Inner.{InnerValue}
use Rattle.iface_egress.specs.Departure.{Whole}
use Rattle.iface_egress.specs.IsTransmitted.{IsTransmitted, WasSent, numbered}
use Rattle.iface_egress.specs.Parked.{inner_after, is_searched, parks, sender_after}
use Rattle.iface_egress.specs.Plan.{GoesDirect, plan_of}
use Rattle.iface_egress.specs.declared.plan.Plan.{Plan}
use Rattle.iface_egress.specs.declared.egress_path.Sent.{Sent}
use Rattle.interface.specs.Host.{Sender, sender}
use Rattle.interface.specs.Ingress.{AnswerGoes, Replied, is_solicitation, would_solicit}
use Rattle.interface.specs.SameHost.{IsSameHost}
use Rattle.interface.proofs.Alone.{answer_or_parks, answer_unsearched}
use Rattle.interface.proofs.Runs.{answered_same}
use Rattle.interface.proofs.SameHost.{is_transmitted_same}

unasked : (awaited asks : Bool) → asks ≡ false → (awaited && asks) ≡ false
unasked true asks is = is
unasked false asks is = refl

pub swapped : (a b answer : Bool) → (b && a) ≡ answer → (a && b) ≡ answer
swapped true true answer is = is
swapped true false answer is = is
swapped false true answer is = is
swapped false false answer is = is

pub direct_replied : {D : Type 0} (moves : D → Move → D → Type 0) (awaited : Bool) (s : Sender D) (p : PacketValue) (to : HardwareAddress)
    (sent : Sent) (new : D) (i' : InnerValue) → GoesDirect s.inner p.header to → IsWellFormed p →
    WasSent moves s.device s.inner p.header (Whole to (numbered s.inner p)) sent new i' →
    Replied moves awaited (Some (Answers p)) s (sender new i' s.left)
direct_replied {D} moves awaited s p to sent new i' direct formed was_sent =
    inr (answer_unsearched moves p (awaited && would_solicit s p) s formed
    (unasked awaited (would_solicit s p) (ap is_solicitation (direct.plan (is_some s.left)))) sent s' (ap is_searched (direct.plan (is_some s.left))) went
    (is_transmitted_same moves s.device new s.inner i' s.left s.left p (is_some s.left) sent went)) where
      s' : Sender D
      s' = sender new i' s.left

      went : IsTransmitted moves s.device s.inner s.left p (plan_of s.inner (is_some s.left) p.header) sent new i' s.left
      went = subst (λ (plan : Plan). IsTransmitted moves s.device s.inner s.left p plan sent new i' s.left) (sym (direct.plan (is_some s.left))) (was_sent, refl)

-- an answer that goes by its plan, and is parked where that is asked for
module _ {D : Type 0} (moves : D → Move → D → Type 0) (awaited : Bool) (s : Sender D) (p : PacketValue) (plan : Plan) (sent : Sent) (mid : Sender D)
    (i' : InnerValue) (is : plan ≡ plan_of s.inner (is_some s.left) p.header)
    (went : IsTransmitted moves s.device s.inner s.left p (plan_of s.inner (is_some s.left) p.header) sent mid.device mid.inner mid.left)
    (after : i' ≡ inner_after (parks mid.inner p plan sent) mid.inner p) where
  abbrev planned : Plan
  planned = plan_of s.inner (is_some s.left) p.header

  abbrev ends : Sender D
  ends = sender mid.device i' mid.left

  same_mid : IsSameHost s.inner mid.inner
  same_mid = is_transmitted_same moves s.device mid.device s.inner mid.inner s.left mid.left p (is_some s.left) sent went

  ends_so : ends ≡ sender_after (parks mid.inner p planned sent) p mid
  ends_so =
      ap (λ (j : InnerValue). sender mid.device j mid.left)
      (after ∙ ap (λ (w : Plan). inner_after (parks mid.inner p w sent) mid.inner p) is)

  goes_so : (kept_back : Bool) → IsWellFormed p → kept_back ≡ false → AnswerGoes moves s.inner.host_requirements p kept_back s ends
  goes_so kept_back formed goes = answer_or_parks moves p kept_back s formed goes sent mid ends went same_mid ends_so

  pub planned_replied : IsWellFormed p → (awaited && would_solicit s p) ≡ false → Replied moves awaited (Some (Answers p)) s ends
  planned_replied formed goes = inr (goes_so (awaited && would_solicit s p) formed goes)

  -- and the host stays
  pub planned_same : IsWellFormed p → IsSameHost s.inner i'
  planned_same formed = answered_same moves s.inner.host_requirements p false s ends refl (goes_so false formed refl)
