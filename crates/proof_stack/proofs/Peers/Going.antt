-- Events lead on from wherever events led.
use Rattle.std.proofs.Common.{◌≡◌, Bool, false, List, [], ◌∷◌, ◌++◌, Option, Some, None, Result, Err, is_ok, refl, sym, ap, ◌∙◌, subst, append_assoc}
use Rattle.std.proofs.Common.{append-nil, ℕ}
use Rattle.std.specs.Fn.{Once}
use Rattle.std.specs.Prelude.{Ok, IfOk, MatchOption, take, drop}
use Rattle.ip_wire.specs.IpEndpoint.{IpEndpoint}
use Rattle.ip_wire.specs.IpListenEndpoint.{IpListenEndpoint}
use Rattle.ip_wire.specs.IpRepr.{IpRepr}
use Rattle.ip_wire.specs.TcpHeader.{TcpHeader}
use Rattle.socket_context.specs.Packet.{PacketValue}
use Rattle.tcp_refinement.specs.Segment.{Segment}
use Rattle.tcp_socket.specs.Packet.{Packet}
use Rattle.tcp_socket.specs.Dispatch.{GivesAt, Hands}
use Rattle.tcp_block.specs.Context.{ContextValue}
use Rattle.tcp_block.specs.Arrival.{arrives}
use Rattle.tcp_block.specs.RecvError.{RecvError}
use Rattle.tcp_block.specs.RecvError.TheVariants as Recv
use Rattle.tcp_block.specs.Calls.{listen_after, connect_after, send_after, recv_answer, recv_after, close_after, abort_after}
use Rattle.tcp_block.specs.OpenOffer.{OpenOffer}
use Rattle.tcp_block.specs.Offers.{offer_of, offered_packet, packet_with}
use Rattle.tcp_block.specs.Settled.{settled}
use Rattle.tcp_block.specs.Value.{TcpValue}
use Rattle.tcp_refinement.specs.Run.Event.{Listens as TwoListens, Connects as TwoConnects, Sends as TwoSends, Comes as TwoComes}
use Rattle.tcp_refinement.specs.Run.Event.{Reads, Closes, Aborts, Changes, Offers, HostResets}
use Rattle.proof_stack.specs.PeerHost.SocketRun.{Event, Meeting, happens, run, start}
use Rattle.proof_stack.specs.PeerHost.SocketRun.Event.{Comes, Listens, Connects, Sends, Does}
use Rattle.proof_stack.specs.PeerHost.TakenRun as taken
use Rattle.proof_stack.proofs.Peers.Socket.Runs.{runs_safe, read_to_the_end}
use Rattle.proof_stack.proofs.Peers.Socket.TakenRuns.{taken_safe}
use Rattle.proof_stack.specs.PeerHost.ReachedSocket.{after, after_all, CameBy, HasCome, Proceed, Proceeds, EndIsTrue, EndIsTrueWhereTaken}

-- what an event makes of a socket depends on nothing that was seen of it
pub happens_socket : (w : Meeting) (event : Event) → (happens w event).here.socket ≡ after w.here.socket event
happens_socket w (Comes cx ip header bytes) = refl
happens_socket w (Listens endpoint) = refl
happens_socket w (Connects cx remote local) = refl
happens_socket w (Sends bytes) = refl
happens_socket w (Does (TwoListens endpoint)) = refl
happens_socket w (Does (TwoConnects pair number)) = refl
happens_socket w (Does (TwoSends queued bytes)) = refl
happens_socket w (Does (Reads count)) = refl
happens_socket w (Does Closes) = refl
happens_socket w (Does Aborts) = refl
happens_socket w (Does (Changes new)) = refl
happens_socket w (Does (TwoComes cx ip header bytes slot)) = refl
happens_socket w (Does (Offers cx sent)) = refl
happens_socket w (Does (HostResets x)) = refl

pub run_append : (w : Meeting) (events more : List Event) → run w (events ++ more) ≡ run (run w events) more
run_append w [] more = refl
run_append w (event ∷ events) more = run_append (happens w event) events more

pub has_come : (first : TcpValue) (resets : List Segment) (events : List Event) (v : TcpValue) → CameBy first resets events v → HasCome first resets events v
has_come first resets events v came = record {
  came = came;
  safe = λ peer end is_run. runs_safe peer first resets events end came.initial came.only_resets is_run;
  safe_where_taken = λ peer end is_run. taken_safe peer first resets events end came.only_resets came.initial is_run;
}

pub proceeds : (v v' : TcpValue) (event : Event) → after v event ≡ v' → Proceeds v event v'
proceeds v v' event leads first resets events came =
    let w = run (start first resets) events in
    has_come first resets (events ++ event ∷ []) v' (record {
      initial = came.initial;
      only_resets = came.only_resets;
      leads =
          ap (λ (m : Meeting). m.here.socket) (run_append (start first resets) events (event ∷ [])) ∙ happens_socket w event
          ∙ ap (λ (u : TcpValue). after u event) came.leads ∙ leads;
    })

pub one_proceeds : (v : TcpValue) (event : Event) → Proceeds v event (after v event)
one_proceeds v event = proceeds v (after v event) event refl

pub more_proceed : (u v w : TcpValue) (events later : List Event) → Proceed u events v → Proceed v later w → Proceed u (events ++ later) w
more_proceed u v w events later on further first resets before came =
    subst (λ (all : List Event). HasCome first resets all w) (append_assoc before events later)
    (further first resets (before ++ events) (on first resets before came).came)

pub none_proceeds : (v : TcpValue) → Proceed v [] v
none_proceeds v first resets events came =
    subst (λ (all : List Event). HasCome first resets all v) (sym (append-nil events)) (has_come first resets events v came)

-- AN OFFER

unsettled : (v : TcpValue) → v.offered ≡ None → settled false v ≡ v
unsettled v none = λ k. record v { offered = sym none k }

none_open : (o : Option OpenOffer) (queue : List ℕ) → packet_with o queue ≡ None → o ≡ None
none_open None queue is = refl
none_open (Some o) queue is = absurd (cc)

-- SEVERAL EVENTS

pub run_after : (w : Meeting) (events : List Event) → (run w events).here.socket ≡ after_all w.here.socket events
run_after w [] = refl
run_after w (event ∷ events) =
    run_after (happens w event) events ∙ ap (λ (u : TcpValue). after_all u events) (happens_socket w event)

-- whatever of what came is taken, the socket is the same
taken_socket : (w : Meeting) (event : Event) → (taken.happens w event).here.socket ≡ after w.here.socket event
taken_socket w (Comes cx ip header bytes) = refl
taken_socket w (Listens endpoint) = refl
taken_socket w (Connects cx remote local) = refl
taken_socket w (Sends bytes) = refl
taken_socket w (Does event) = happens_socket w (Does event)

pub taken_after : (w : Meeting) (events : List Event) → (taken.run w events).here.socket ≡ after_all w.here.socket events
taken_after w [] = refl
taken_after w (event ∷ events) =
    taken_after (taken.happens w event) events ∙ ap (λ (v : TcpValue). after_all v events) (taken_socket w event)

pub all_proceed : (v : TcpValue) (events : List Event) → Proceed v events (after_all v events)
all_proceed v more first resets events came =
    let w = run (start first resets) events in
    has_come first resets (events ++ more) (after_all v more) (record {
      initial = came.initial;
      only_resets = came.only_resets;
      leads =
          ap (λ (m : Meeting). m.here.socket) (run_append (start first resets) events more) ∙ run_after w more
          ∙ ap (λ (u : TcpValue). after_all u more) came.leads;
    })

-- THE END OF THE STREAM

pub end_is_true : (v : TcpValue) (room : ℕ) → recv_answer v room ≡ Err Recv.Finished → EndIsTrue v
end_is_true v room tells first resets events peer came end is_run =
    let w = run (start first resets) events in
    read_to_the_end peer w.here.socket w.here.past w.came room (runs_safe peer first resets events end came.initial came.only_resets is_run)
    (ap (λ (u : TcpValue). recv_answer u room) came.leads ∙ tells)

pub end_is_true_where_taken : (v : TcpValue) (room : ℕ) → recv_answer v room ≡ Err Recv.Finished → EndIsTrueWhereTaken v
end_is_true_where_taken v room tells first resets events peer came end is_run =
    let w = taken.run (start first resets) events in
    let same : w.here.socket ≡ v = taken_after (start first resets) events ∙ sym (run_after (start first resets) events) ∙ came.leads in
    read_to_the_end peer w.here.socket w.here.past w.came room (taken_safe peer first resets events end came.only_resets came.initial is_run)
    (ap (λ (u : TcpValue). recv_answer u room) same ∙ tells)

-- EACH CALL

pub listen_proceeds : (v v' : TcpValue) (endpoint : IpListenEndpoint) → v' ≡ listen_after v endpoint → Proceeds v (Listens endpoint) v'
listen_proceeds v v' endpoint is = proceeds v v' (Listens endpoint) (sym is)

pub connect_proceeds : (cx : ContextValue) (v v' : TcpValue) (remote : IpEndpoint) (local : IpListenEndpoint) → v' ≡ connect_after cx v remote local →
    Proceeds v (Connects cx remote local) v'
connect_proceeds cx v v' remote local is = proceeds v v' (Connects cx remote local) (sym is)

pub send_proceeds : (v v' : TcpValue) (bytes : List ℕ) → v' ≡ send_after v bytes → Proceeds v (Sends bytes) v'
send_proceeds v v' bytes is = proceeds v v' (Sends bytes) (sym is)

pub read_proceeds : (v v' : TcpValue) (count : ℕ) → v' ≡ recv_after v count → Proceeds v (Does (Reads count)) v'
read_proceeds v v' count is = proceeds v v' (Does (Reads count)) (sym is)

pub close_proceeds : (v v' : TcpValue) → v' ≡ close_after v → Proceeds v (Does Closes) v'
close_proceeds v v' is = proceeds v v' (Does Closes) (sym is)

pub abort_proceeds : (v v' : TcpValue) → v' ≡ abort_after v → Proceeds v (Does Aborts) v'
abort_proceeds v v' is = proceeds v v' (Does Aborts) (sym is)

pub arrival_proceeds : (cx : ContextValue) (v v' : TcpValue) (ip : IpRepr) (header : TcpHeader) (bytes : List ℕ) → v' ≡ (arrives cx v ip header bytes).socket →
    Proceeds v (Comes cx ip header bytes) v'
arrival_proceeds cx v v' ip header bytes is = proceeds v v' (Comes cx ip header bytes) (sym is)

pub offer_proceeds : {F E : Type 0} (g : Once F (Packet × Unit {0}) (Result (Unit {0}) E)) (f : F) (cx : ContextValue) (v v' : TcpValue)
    (r : Result (Unit {0}) E) → Hands g f (offer_of cx v).socket r v' → (sent : Bool) × Proceeds v (Does (Offers cx sent)) v'
offer_proceeds g f cx v v' r hands = by (offered_packet (offer_of cx v).socket) refl hands where
  offered : TcpValue
  offered = (offer_of cx v).socket

  by : (o : Option PacketValue) → offered_packet offered ≡ o →
      MatchOption o ((r ≡ Ok tt) × (v' ≡ offered)) (λ value. GivesAt g f value r × (v' ≡ settled (is_ok r) offered))
      → (sent : Bool) × Proceeds v (Does (Offers cx sent)) v'
  by None none rests =
      (false, proceeds v v' (Does (Offers cx false)) (unsettled offered (none_open offered.offered offered.queued.queue none) ∙ sym rests.1))
  by (Some value) some gives = (is_ok r, proceeds v v' (Does (Offers cx (is_ok r))) (sym gives.1))

pub read_all_proceeds : (v v' : TcpValue) (bytes : List ℕ) (r : Result ℕ RecvError) (left : List ℕ)
    → IfOk r (λ count. (v' ≡ recv_after v count) × (left ≡ take count v.received.waiting ++ drop count bytes))
    → IfOk r (λ count. Proceeds v (Does (Reads count)) v' × (left ≡ take count v.received.waiting ++ drop count bytes))
read_all_proceeds v v' bytes (Ok count) left is = (read_proceeds v v' count is.0, is.1)
read_all_proceeds v v' bytes (Err e) left is = tt
