-- The instant of a call, which nothing in a poll changes.
use Rattle.std.proofs.Common.{◌≡◌, ℤ, Bool, true, false, inl, inr, Option, Some, None, refl, ap, ◌∙◌, sym, is_some}
use Rattle.net_base.specs.Device.{Move}
use Rattle.ip_wire.specs.IpAddress.{IpAddress}
use Rattle.iface_ingress.specs.Socket.{Socket}
use Rattle.iface_tables.specs.Inner.{InnerValue, at_instant}
use Rattle.iface_egress.specs.declared.socket_set.SocketStorage.{SocketStorage}
use Rattle.iface_ingress.specs.Incoming.{IncomingValue}
use Rattle.iface_ingress.specs.Arrives as Replies
use Rattle.iface_ingress.specs.Arrives.{ReplyValue, whole_arrived}
use Rattle.iface_ingress.specs.FragmentStored.{HasSameSettings}
use Rattle.iface_ingress.proofs.Settings.{brings_same}
use Rattle.interface.specs.Host.{Sender}
use Rattle.interface.specs.SameHost.{IsSameHost}
use Rattle.interface.specs.Serve.{ServesSlot}
use Rattle.interface.specs.declared.serve.Served.{Served}
use Rattle.iface_egress.specs.Parked.{parks}
use Rattle.interface.proofs.SameHost.{same_where, is_transmitted_same, parked_same, slot_same}
use Rattle.interface.specs.State.{State}
use Rattle.iface_ingress.specs.Packet.{PacketValue}
use Rattle.iface_egress.specs.Plan.{plan_of}
use Rattle.interface.specs.Ingress.{AnswerGoes, Takes, Receives, Replied, is_awaited, sender_of, sender_with}
use Rattle.interface.proofs.Kept.{RunsAt}

pub runs_so : (t : ℤ) (i : InnerValue) → RunsAt t i → at_instant t i ≡ i
runs_so t i runs = λ k. record i { instant = sym runs.0 k; initial = sym runs.1 k }

pub runs_where : (t : ℤ) (i i' : InnerValue) → i' ≡ i → RunsAt t i → RunsAt t i'
runs_where t i i' is runs = (ap (λ (x : InnerValue). x.instant) is ∙ runs.0, ap (λ (x : InnerValue). x.initial) is ∙ runs.1)

pub runs_out : (t : ℤ) (i i' : InnerValue) → IsSameHost i i' → RunsAt t i → RunsAt t i'
runs_out t i i' is runs = (ap (λ (x : InnerValue). x.instant) is ∙ runs.0, ap (λ (x : InnerValue). x.initial) is ∙ runs.1)

pub runs_in : (t : ℤ) (i i' : InnerValue) → HasSameSettings i i' → RunsAt t i → RunsAt t i'
runs_in t i i' same runs = (same.instant ∙ runs.0, same.initial ∙ runs.1)

module _ {D : Type 0} (moves : D → Move → D → Type 0) where
  -- an answer's egress path leaves the host
  pub answered_same : (many : Bool) (p : PacketValue) (kept_back : Bool) (x x' : Sender D) → x.inner.host_requirements ≡ many →
      AnswerGoes moves many p kept_back x x' → IsSameHost x.inner x'.inner
  answered_same false p kept_back x x' is goes =
      is_transmitted_same moves x.device x'.device x.inner x'.inner x.left x'.left p (is_some x.left) goes.0 goes.1
  answered_same true p kept_back x x' is goes =
      let mid : Sender D = goes.1 in
      parked_same moves x mid x' (parks mid.inner p (plan_of x.inner (is_some x.left) p.header) goes.0) p is
      (is_transmitted_same moves x.device mid.device x.inner mid.inner x.left mid.left p (is_some x.left) goes.0 goes.2) goes.3

  pub replied_same : (awaited : Bool) (reply : Option ReplyValue) (x x' : Sender D) → Replied moves awaited reply x x' → IsSameHost x.inner x'.inner
  replied_same awaited None x x' is = same_where x.inner x'.inner (ap (λ (y : Sender D). y.inner) is)
  replied_same awaited (Some (Replies.Tells packet)) x x' tells = same_where x.inner x'.inner tells.2
  replied_same awaited (Some (Replies.Answers p)) x x' (inl held) = same_where x.inner x'.inner (ap (λ (y : Sender D). y.inner) held.0)
  replied_same awaited (Some (Replies.Answers p)) x x' (inr answers) = answered_same x.inner.host_requirements p _ x x' refl answers

  pub receives_same : (content : Option IncomingValue) (s s' : State D) (receives : Receives moves content s s')
      → HasSameSettings s.host.inner receives.0.inner × IsSameHost receives.0.inner s'.host.inner
  receives_same content s s' receives = (
    brings_same s.host.inner s.slots (whole_arrived s.host.inner s.host.timeout s.host.assemblers content) receives.0 receives.1.1,
    replied_same (is_awaited receives.0) receives.0.reply (sender_with moves s receives.0) (sender_of moves s') receives.3,
  )

  module _ (t : ℤ) where
    pub takes_runs : (s s' : State D) (answer : Option Bool) → Takes moves s answer s' → RunsAt t s.host.inner → RunsAt t s'.host.inner
    takes_runs s s' None takes runs = runs_where t s.host.inner s'.host.inner (ap (λ (x : State D). x.host.inner) takes.1) runs
    takes_runs s s' (Some false) takes runs = runs_where t s.host.inner s'.host.inner (ap (λ (x : State D). x.host.inner) takes.3) runs
    takes_runs s s' (Some true) takes runs =
        let reads = takes.4 in
        let same = receives_same reads.0 (record s { device = takes.1 }) s' reads.2 in
        runs_out t reads.2.0.inner s'.host.inner same.1 (runs_in t s.host.inner reads.2.0.inner same.0 runs)

    pub turn_runs : (turn : Option IpAddress) (x x' : Sender D) (p p' : SocketStorage Socket) (turned : Served) → ServesSlot moves turn x p turned x' p' →
        RunsAt t x.inner → RunsAt t x'.inner
    turn_runs turn x x' p p' turned turns runs = runs_out t x.inner x'.inner (slot_same moves turn x x' p p' turned turns) runs
