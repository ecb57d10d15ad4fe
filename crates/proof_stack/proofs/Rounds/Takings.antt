-- A poll takes no more of the frames that wait for its host than its budget.
use Rattle.std.proofs.Common.{◌≡◌, inl, inr, ℕ, zero, suc, ◌≤◌, ℤ, Bool, true, false, ◌||◌, List, [], ◌∷◌, ◌++◌, length, Option, Some, None, refl, sym, ap, ◌∙◌, subst, arith}
use Rattle.net_base.specs.Device.{Move, Took, Empty, Allowed, Emitted, Denied}
use Rattle.ip_wire.specs.IpAddress.{IpAddress}
use Rattle.iface_ingress.specs.Socket.{Socket}
use Rattle.iface_egress.specs.Fragments.{LeftValue}
use Rattle.iface_egress.specs.declared.socket_set.SocketStorage.{SocketStorage}
use Rattle.interface.specs.Awaited.{turn_of}
use Rattle.interface.specs.Egress.{EgressStep, sending}
use Rattle.interface.specs.Host.{Sender, maintained}
use Rattle.interface.specs.Ingress.{IngressStep, Takes}
use Rattle.interface.specs.Pass.{Pass, Passed}
use Rattle.interface.specs.Polls.{Repeats, begun}
use Rattle.interface.specs.State.{State, state}
use Rattle.interface.specs.EgressPath.{Clears, ClearsIf, Egress}
use Rattle.interface.specs.declared.serve.Served.TheVariants as Turn
use Rattle.sim_link.specs.Port.{LinkEnd, PortMove, PortValue}
use Rattle.lan.specs.Worlds.AtLink.Node.{NodeValue, at_port}
use Rattle.lan.specs.Worlds.AtLink.Steps.{PollsAt}
use Rattle.lan.proofs.Worlds.Moves.Devices.{fragment_leaves, parked, slot_turns, reads}
use Rattle.lan.proofs.Worlds.Moves.Frames.{IsNoTake}

abbrev Frames : Type 0
Frames = List (List ℕ)

abbrev waiting : PortValue → Frames
waiting p = p.link.waiting

-- WHAT GOES OUT LEAVES WHAT WAITS

module _ (frames : Frames) where
  abbrev Still : PortValue → Type 0
  Still p = waiting p ≡ frames

  quiet : (d d' : PortValue) (m : Move) → IsNoTake m → PortMove d m d' → Still d → Still d'
  quiet d d' (Took t frame) none goes still = absurd none
  quiet d d' (Empty t) none goes still = ap waiting goes.0 ∙ still
  quiet d d' (Allowed t leave) none goes still = ap waiting goes.0 ∙ still
  quiet d d' (Emitted frame) none goes still = ap waiting goes ∙ still
  quiet d d' (Denied len) none goes still = ap waiting goes.0 ∙ still

  abbrev After : Passed PortValue → Type 0
  After e = Still e.sender.device

  pass : (turn : Option IpAddress) (ps before : List (SocketStorage Socket)) (x : Sender PortValue) (changed : Bool) (e : Passed PortValue) → Still x.device
      → Pass PortMove turn x before changed ps e → After e
  pass turn [] before x changed e still ends = subst After (sym ends) still
  pass turn (p ∷ ps) before x changed e still (inl goes) =
      pass turn ps (before ++ goes.2 ∷ []) goes.1 (changed || goes.0) e
      (slot_turns PortMove Still quiet turn x goes.1 still p goes.2 (Turn.Next goes.0) goes.3) goes.4
  pass turn (p ∷ ps) before x changed e still (inr stops) =
      subst After (sym stops.4) (slot_turns PortMove Still quiet turn x stops.1 still p stops.2 (Turn.Stop stops.0) stops.3)

  clears : (l : Option LeftValue) (x x' : Sender PortValue) (clear : Bool) → Still x.device → Clears PortMove l x clear x' → Still x'.device
  clears None x x' clear still is = subst (λ (y : Sender PortValue). Still y.device) (sym is.1) still
  clears (Some l) x x' clear still is = fragment_leaves PortMove Still quiet l x x' clear is.0 still

  clears_all : (many : Bool) (x x' : Sender PortValue) (clear : Bool) → Still x.device → ClearsIf PortMove many x clear x' → Still x'.device
  clears_all false x x' clear still is = clears x.left x x' clear still is
  clears_all true x x' clear still (inl stays) = clears x.left x x' false still stays.0
  clears_all true x x' clear still (inr serves) =
      parked PortMove Still quiet serves.0 x' clear (clears x.left x serves.0 true still serves.1) serves.2

  egress : (x : Sender PortValue) (ps : List (SocketStorage Socket)) (e : Passed PortValue) → Still x.device → Egress PortMove x ps e → After e
  egress x ps e still (inl stays) = subst After (sym stays.2) (clears_all x.inner.host_requirements x stays.0 false still stays.1)
  egress x ps e still (inr goes) = pass (turn_of goes.0.inner ps) ps [] goes.0 false e (clears_all x.inner.host_requirements x goes.0 true still goes.1) goes.2

  module _ (t : ℤ) where
    out : (s s' : State PortValue) (answer : Option Bool) → Still s.device → EgressStep PortMove t s answer s' → Still s'.device
    out s s' answer still step = subst (λ (y : State PortValue). Still y.device) (sym step.2) (egress (sending t s) s.slots step.0 still step.1)

    outs : (n : ℕ) (s s' : State PortValue) (c c' : Bool) → Still s.device → Repeats (EgressStep PortMove t) n s c s' c' → Still s'.device
    outs zero s s' c c' still steps = subst (λ (y : State PortValue). Still y.device) (sym steps.0) still
    outs (suc n) s s' c c' still (inl ends) = out s s' None still ends.0
    outs (suc n) s s' c c' still (inr goes) = outs n goes.1 s' (c || goes.0) c' (out s goes.1 (Some goes.0) still goes.2) goes.3

-- EACH STEP OF THE WAY IN TAKES ONE

abbrev First : PortValue → PortValue → Type 0
First d d' = (frame : List ℕ) × (waiting d ≡ frame ∷ waiting d')

taken : (d d' : PortValue) (t : ℤ) (frame : List ℕ) → PortMove d (Took t frame) d' → First d d'
taken d d' t frame goes = (frame, ap waiting goes.1)

takes : (s s' : State PortValue) (b : Bool) → Takes PortMove s (Some b) s' → First s.device s'.device
takes s s' false is = taken s.device s'.device s.host.inner.instant is.0 is.1
takes s s' true is =
    let first : First s.device is.1 = taken s.device is.1 s.host.inner.instant is.0 is.2 in
    let rest : waiting s'.device ≡ waiting is.1 = reads PortMove (Still (waiting is.1)) (quiet (waiting is.1)) s s' is refl in
    (first.0, first.1 ∙ ap (λ (fs : Frames). first.0 ∷ fs) (sym rest))

-- the first of the frames, no more than so many
pub record TakesFew (most : ℕ) (before after : Frames) : Type 0 where
  pub frames : Frames
  pub first : before ≡ frames ++ after
  pub few : length frames ≤ most

module _ (t : ℤ) where
  abbrev at_once : State PortValue → State PortValue
  at_once s = state s.device (maintained t s.host) s.slots

  ins : (n : ℕ) (s s' : State PortValue) (c c' : Bool) → Repeats (IngressStep PortMove t) n s c s' c' → TakesFew n (waiting s.device) (waiting s'.device)
  ins zero s s' c c' steps = record { frames = []; first = ap (λ (y : State PortValue). waiting y.device) (sym steps.0); few = omega arith }
  ins (suc n) s s' c c' (inl ends) = record { frames = []; first = ap waiting (sym ends.0.0.0); few = omega arith }
  ins (suc n) s s' c c' (inr goes) =
      let one : First s.device goes.1.device = takes (at_once s) goes.1 goes.0 goes.2 in
      let rest : TakesFew n (waiting goes.1.device) (waiting s'.device) = ins n goes.1 s' (c || goes.0) c' goes.3 in
      record {
        frames = one.0 ∷ rest.frames;
        first = one.1 ∙ ap (λ (fs : Frames). one.0 ∷ fs) rest.first;
        few = let few = rest.few in omega (arith, few);
      }

-- A POLL

pub takes_few : (s s' : NodeValue) (t : ℤ) (budget : ℕ) (changed : Bool) → PollsAt s t budget changed s' → TakesFew budget s.link.waiting s'.link.waiting
takes_few s s' t budget changed at =
    let mid : State PortValue = at.polls.0 in
    let came = ins t budget (begun t (at_port at.port s)) mid false at.polls.1 at.polls.2 in
    let left : waiting at.port_after ≡ waiting mid.device =
    outs (waiting mid.device) t budget mid (at_port at.port_after s') at.polls.1 changed refl at.polls.3 in
    record {
      frames = came.frames;
      first = ap (λ (l : LinkEnd). l.waiting) (sym at.before) ∙ came.first
          ∙ ap (λ (fs : Frames). came.frames ++ fs) (sym left ∙ ap (λ (l : LinkEnd). l.waiting) at.after);
      few = came.few;
    }
