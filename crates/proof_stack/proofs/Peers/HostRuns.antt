-- Runs of a host.
use Rattle.std.proofs.Common.{◌≡◌, ℕ, List, [], ◌∷◌, ◌++◌, refl, sym, subst}
use Rattle.net_base.specs.Device.{Move}
use Rattle.tcp_block.specs.Value.{TcpValue}
use Rattle.interface.specs.State.{State}
use Rattle.proof_stack.specs.PeerHost.SocketRun.{Event, start}
use Rattle.proof_stack.specs.PeerHost.TakenRun.{anew}
use Rattle.proof_stack.proofs.Peers.Socket.Runs.{runs_safe}
use Rattle.proof_stack.proofs.Peers.Socket.TakenRuns.{taken_safe, anew_safe}
use Rattle.proof_stack.specs.PeerHost.ReachedSocket.{after, after_all}
use Rattle.proof_stack.proofs.Peers.Going.{run_after, taken_after}
use Rattle.proof_stack.specs.PeerHost.Runs.{Act, Acts, ActsAll, Saw, SawAll, IsSafeRun, IsSafeWhereTaken}
use Rattle.proof_stack.specs.PeerHost.Runs.Act.{IsPolled, Calls, Rests}
use Rattle.proof_stack.specs.PeerHost.Streams.{IsTcpAt}
use Rattle.proof_stack.proofs.Peers.Tcp.{stream_proceeds}

after_both : (v : TcpValue) (now later : List Event) → after_all v (now ++ later) ≡ after_all (after_all v now) later
after_both v [] later = refl
after_both v (event ∷ now) later = after_both (after v event) now later

module _ {D : Type 0} (moves : D → Move → D → Type 0) (i : ℕ) where
  pub record Sees (act : Act) (s : State D) (v : TcpValue) (s' : State D) : Type 0 where
    pub events : List Event
    pub saw : Saw moves i act s v events
    pub stays : IsTcpAt s'.slots i (after_all v events)

  sees : (act : Act) (s s' : State D) (v : TcpValue) → Acts moves i act s s' → IsTcpAt s.slots i v → Sees act s v s'
  sees (IsPolled instant budget) s s' v acts at =
      let on = stream_proceeds moves instant s v budget i s' acts.0 at acts.1 in
      record { events = on.events; saw = on.are; stays = on.stays }
  sees (Calls event) s s' v acts at = record { events = event ∷ []; saw = refl; stays = acts.1 v at }
  sees Rests s s' v acts at = record { events = []; saw = refl; stays = acts v at }

  pub record SeesAll (acts : List Act) (s : State D) (v : TcpValue) (s' : State D) : Type 0 where
    pub events : List Event
    pub saw : SawAll moves i acts s v events s'
    pub stays : IsTcpAt s'.slots i (after_all v events)

  sees_all : (acts : List Act) (s s' : State D) (v : TcpValue) → ActsAll moves i acts s s' → IsTcpAt s.slots i v → SeesAll acts s v s'
  sees_all [] s s' v is at = record { events = []; saw = (refl, is); stays = subst (λ (x : State D). IsTcpAt x.slots i v) (sym is) at }
  sees_all (act ∷ acts) s s' v (mid, did, rest) at =
      let now = sees act s mid v did at in
      let later = sees_all acts mid s' (after_all v now.events) rest now.stays in
      record {
        events = now.events ++ later.events;
        saw = (mid, now.events, later.events, did, now.saw, later.saw, refl);
        stays = subst (λ (u : TcpValue). IsTcpAt s'.slots i u) (sym (after_both v now.events later.events)) later.stays;
      }

  pub run_is_safe : (acts : List Act) (s s' : State D) (v : TcpValue) → ActsAll moves i acts s s' → IsTcpAt s.slots i v → IsSafeRun moves i acts s v s'
  run_is_safe acts s s' v is at =
      let all = sees_all acts s s' v is at in
      record {
        events = all.events;
        saw = all.saw;
        stays = all.stays;
        leads = run_after (start v []) all.events;
        safe = λ initial peer end is_run. runs_safe peer v [] all.events end initial tt is_run;
      }

  pub run_is_safe_where_taken : (acts : List Act) (s s' : State D) (v : TcpValue) → ActsAll moves i acts s s' → IsTcpAt s.slots i v →
      IsSafeWhereTaken moves i acts s v s'
  run_is_safe_where_taken acts s s' v is at =
      let all = sees_all acts s s' v is at in
      record {
        events = all.events;
        saw = all.saw;
        stays = all.stays;
        leads = taken_after (start v []) all.events;
        leads_anew = taken_after (anew v []) all.events;
        safe = λ initial peer end is_run. taken_safe peer v [] all.events end tt initial is_run;
        anew_safe = λ listener peer end is_run. anew_safe peer v [] all.events end tt listener is_run;
      }
