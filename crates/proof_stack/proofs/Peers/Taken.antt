-- What a poll does to the socket at a slot, from where it began.
use Rattle.std.proofs.Common.{◌≡◌, ℕ, zero, suc, ℤ, Bool, true, false, inl, inr, List, ◌∷◌, ◌++◌, Option, Some, None, refl, sym, subst}
use Rattle.net_base.specs.Device.{Move, Took}
use Rattle.ip_wire.specs.Ip.{destination_of}
use Rattle.ip_wire.specs.IpRepr.{IpRepr}
use Rattle.interface.specs.Inner.{is_for_us}
use Rattle.sockets.specs.declared.socket.Socket.{Socket}
use Rattle.iface_ingress.specs.Delivered.{Slots}
use Rattle.interface.specs.Ingress.{is_read, Takes, Reads}
use Rattle.interface.specs.State.{sending_as}
use Rattle.interface.proofs.Kept.{IsKept}
use Rattle.interface.specs.Polls.{Polls, begun}
use Rattle.interface.specs.State.{State, at_device}
use Rattle.interface.proofs.Keep.{polls_keep}
use Rattle.proof_stack.specs.PeerHost.ReceivedPackets.{Came, IsPacket, whole_in}
use Rattle.lan.specs.Worlds.PollSteps.{Step, Steps, Reaches}
use Rattle.proof_stack.proofs.Peers.Place.{AtOr, HoldsAt, middle_holds}
use Rattle.proof_stack.proofs.Peers.Arrivals.{IsOfPolls, brings_holds}
use Rattle.proof_stack.proofs.Peers.Turns.{turn_holds}

module _ {D : Type 0} (moves : D → Move → D → Type 0) (t : ℤ) (from : State D) where
  came : (s s' : State D) (frame : List ℕ) (mid : D) → Reaches moves t from s → moves s.device (Took s.host.inner.instant frame) mid → is_read frame ≡ true
      → (reads : Reads moves frame (at_device s mid) s') → (ip : IpRepr) (payload : List ℕ) → IsPacket (whole_in s reads.0) ip payload
      → is_for_us s.host.inner (destination_of ip) ≡ true → Came moves t from s.host.inner.checksums ip payload
  came s s' frame mid so took read reads ip payload packet ours = (
    record {
      host = s;
      reached = so;
      frame = frame;
      after = mid;
      took = took;
      content = reads.0;
      reads = reads.1;
      brings = packet;
      ours = ours;
    },
    refl,
  )

  module _ (F : Type 0) (W : Socket → Type 0) (law : IsOfPolls (Came moves t from) W) (n : ℕ) where
    abbrev At : State D → Type 0
    At s = Reaches moves t from s × AtOr F W s.slots n

    reads : (s s' : State D) (frame : List ℕ) (mid : D) → moves s.device (Took s.host.inner.instant frame) mid → is_read frame ≡ true →
        Reads moves frame (at_device s mid) s' →
        At s → AtOr F W s'.slots n
    reads s s' frame mid took read so at =
        subst (λ (slots : Slots). AtOr F W slots n) (sym so.2.2)
        (brings_holds (Came moves t from) F W W law.arrives n s.host.inner s.slots _ so.2.0 (came s s' frame mid at.0 took read so) so.2.1.1 at.1)

    takes : (s s' : State D) (answer : Option Bool) → Takes moves s answer s' → At s → AtOr F W s'.slots n
    takes s s' None is at = subst (λ (x : State D). AtOr F W x.slots n) (sym is.1) at.1
    takes s s' (Some false) is at = subst (λ (x : State D). AtOr F W x.slots n) (sym is.3) at.1
    takes s s' (Some true) (frame, mid, took, read, so) at = reads s s' frame mid took read so at

    -- one step further
    pub goes : (s s' : State D) → Step moves t s s' → At s → At s'
    goes s s' step at = (record { count = suc at.0.count; steps = (s, at.0.steps, step) }, by step) where
      by : Step moves t s s' → AtOr F W s'.slots n
      by (inl is) = subst (λ (x : State D). AtOr F W x.slots n) (sym is) at.1
      by (inr (inl is)) = takes s s' is.0 is.1 at
      by (inr (inr (inl fragment))) =
          subst (λ (x : State D). AtOr F W x.slots n) (sym fragment.is) (subst (λ (x : State D). AtOr F W x.slots n) fragment.was at.1)
      by (inr (inr (inr (inr waits)))) =
          subst (λ (x : State D). AtOr F W x.slots n) (sym waits.is) (subst (λ (x : State D). AtOr F W x.slots n) waits.was at.1)
      by (inr (inr (inr (inl turn)))) =
          subst (λ (x : State D). AtOr F W x.slots n) (sym turn.is)
          (middle_holds F W W (λ (s : Socket). λ w. w) turn.before turn.after turn.slot turn.slot_after n
          (turn_holds moves turn.asked (Came moves t from) F W law turn.slot turn.slot_after turn.from turn.to turn.turned turn.turns)
          (subst (λ (x : State D). AtOr F W x.slots n) turn.was at.1))

    -- what holds of the socket where a poll begins holds wherever it comes
    pub reached : (count : ℕ) (s : State D) → AtOr F W from.slots n → Steps moves t count from s → At s
    reached zero s holds steps = (record { count = zero; steps = steps }, subst (λ (x : State D). AtOr F W x.slots n) (sym steps) holds)
    reached (suc count) s holds steps = goes steps.0 s steps.2 (reached count steps.0 holds steps.1)

    pub kept : IsKept moves t At
    kept = record {
      maintenance = λ s at. goes s (begun t s) (inl refl) at;
      arrivals = λ s s' answer runs at is. goes s s' (inr (inl (answer, is))) at;
      fragments = λ h ps x x' l gone runs waits at leaves same. goes (sending_as h x ps) (sending_as h x' ps) (inr (inr (inl (record {
        host = h;
        slots = ps;
        from = x;
        to = x';
        left = l;
        gone = gone;
        waits = waits;
        leaves = leaves;
        same = same;
        was = refl;
        is = refl;
      })))) at;
      parked = λ h ps x x' all runs many at serves. goes (sending_as h x ps) (sending_as h x' ps) (inr (inr (inr (inr (record {
        host = h;
        slots = ps;
        from = x;
        to = x';
        all = all;
        many = many;
        serves = serves;
        was = refl;
        is = refl;
      }))))) at;
      turns = λ asked h before after p p' x x' turned runs at is.
          goes (sending_as h x (before ++ p ∷ after)) (sending_as h x' (before ++ p' ∷ after)) (inr (inr (inr (inl (record {
            host = h;
            before = before;
            after = after;
            slot = p;
            slot_after = p';
            from = x;
            to = x';
            asked = asked;
            turned = turned;
            turns = is;
            was = refl;
            is = refl;
          }))))) at;
    }

  -- what holds of the socket when a poll begins holds when it ends
  pub polled_holds : (W : Socket → Type 0) (law : IsOfPolls (Came moves t from) W) (n budget : ℕ) (s' : State D) (changed : Bool)
      → HoldsAt W from.slots n → Polls moves t budget from changed s' → HoldsAt W s'.slots n
  polled_holds W law n budget s' changed holds polls =
      (polls_keep moves t (At ⊥ W law n) (kept ⊥ W law n) budget from s' changed (record { count = zero; steps = refl }, holds) polls).0.1
