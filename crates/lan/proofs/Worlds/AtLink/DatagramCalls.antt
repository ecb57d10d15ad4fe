-- The calls of a UDP socket.
use Rattle.std.proofs.Common.{◌≡◌, ◌≢◌, ◌⊎◌, inl, inr, ℕ, ◌==◌, nat_lt, not, ◌||◌, Bool, true, false, if◌then◌else◌, List, [], ◌∷◌, length, Option, Some, None}
use Rattle.std.proofs.Common.{Result, Ok, Err, is_ok, refl, sym, ap, ◌∙◌, subst, arith}
use Rattle.std.proofs.lemmas.Bool.{eqb-true, eqb-false}
use Rattle.ip_wire.specs.IpEndpoint.{IpEndpoint}
use Rattle.ip_wire.specs.IpListenEndpoint.{IpListenEndpoint}
use Rattle.net_base.specs.Packets.{contents, first, is_full_for, appended}
use Rattle.sockets.specs.Addresses.{is_unspecified}
use Rattle.socket_datagram.specs.SocketValue as Datagrams
use Rattle.socket_datagram.specs.SocketValue.{with_settings, with_queued, sent_after, send_answer_to, settled}
use Rattle.socket_datagram.specs.Udp as Udps
use Rattle.socket_datagram.specs.Udp.{UdpValue, metadata_to, is_open, is_unaddressable}
use Rattle.socket_datagram.specs.declared.udp.UdpMetadata.{UdpMetadata}
use Rattle.socket_datagram.specs.declared.error.BindError.{BindError}
use Rattle.socket_datagram.specs.declared.error.BindError.TheVariants as Bind
use Rattle.socket_datagram.specs.declared.error.SendError.{SendError}
use Rattle.socket_datagram.specs.declared.error.SendError.TheVariants as SendTo
use Rattle.tcp_block.specs.State.{State}
use Rattle.lan.specs.declared.at_link.history.answer.Answer.{Answer}
use Rattle.lan.specs.declared.at_link.history.answer.Answer.TheVariants as To
use Rattle.lan.specs.declared.at_link.history.answer.Fault.TheVariants as Fault
use Rattle.lan.specs.declared.at_link.history.event.Side.{Side}
use Rattle.lan.specs.Worlds.AtLink.Kinds.{other, Kind, kind_of, calls}
use Rattle.lan.specs.Worlds.AtLink.Call.{SocketCall}
use Rattle.lan.specs.Worlds.AtLink.Call as Call
use Rattle.lan.specs.Worlds.AtLink.History.{Entry, call_of, port_by, bound_port}
use Rattle.lan.specs.Worlds.AtLink.Reads.{Accepted, Accepts, ReadWasAccepted}
use Rattle.lan.proofs.Worlds.AtLink.CallLemmas.{call_here}
use Rattle.lan.specs.Worlds.AtLink.Calls.{at_port, done_or, bind_fault, send_fault, datagram_or, udp_does}
use Rattle.lan.specs.Worlds.AtLink.Moves.{DoneBy}
use Rattle.lan.proofs.Worlds.AtLink.Lists.{Each}
use Rattle.lan.proofs.Worlds.AtLink.Queues.{IsLeft, contents_without_first, each_first, each_appended}
use Rattle.lan.proofs.Worlds.AtLink.DatagramInvariant.{Queued, CameTo, GoesFrom, UdpOk, udp_grown, IsFewer, udp_fewer}

-- the socket after a call, and what it read
pub record UdpCalled (starts : Side → ℕ → ℕ) (h : List Entry) (e : Entry) (side : Side) (i : ℕ) (call : SocketCall) (new : UdpValue) : Type 0 where
  pub ok : UdpOk starts (e ∷ h) side i new
  pub read : ReadWasAccepted starts h (calls side i call) e.answer

module _ (starts : Side → ℕ → ℕ) (h : List Entry) (e : Entry) (side : Side) (i : ℕ) where
  abbrev port_before : ℕ
  port_before = bound_port starts h side i

  -- the port after a call
  port_after : (call : SocketCall) (port : ℕ) → kind_of e.event ≡ calls side i call → port_by (Some call) e.answer port_before ≡ port →
      bound_port starts (e ∷ h) side i ≡ port
  port_after call port kind is = ap (λ (call : Option SocketCall). port_by call e.answer port_before) (call_here e side i call kind) ∙ is

  -- the call leaves the port, and adds nothing to the queues
  stays : (v new : UdpValue) (call : SocketCall) → kind_of e.event ≡ calls side i call → port_by (Some call) e.answer port_before ≡ port_before →
      IsFewer v new → UdpOk starts h side i v → UdpOk starts (e ∷ h) side i new
  stays v new call kind same f k =
      udp_grown starts h e side i new (port_after call port_before kind same) (udp_fewer starts h side i v new f k)

  -- BIND

  binds_by :
      (v new : UdpValue) (port : ℕ) (answer : Result (Unit {0}) BindError) → kind_of e.event ≡ calls side i (Call.Bind port) → UdpOk starts h side i v
      → e.answer ≡ done_or bind_fault answer
      → new ≡ with_settings v (record v.settings { endpoint = if is_ok answer then at_port port else v.settings.endpoint })
      → (is_ok answer ≡ true → (is_open v ≡ false) × (port ≢ 0)) → UdpOk starts (e ∷ h) side i new
  binds_by v new port (Ok done) kind k answered becomes allowed =
      let may = allowed refl in
      let unbound : v.settings.endpoint.port ≡ 0 = closed_port (v.settings.endpoint.port == 0) refl may.0 in
      let none = k.idle unbound in
      let bound : bound_port starts (e ∷ h) side i ≡ port =
      port_after (Call.Bind port) port kind (ap (λ (a : Answer). port_by (Some (Call.Bind port)) a port_before) answered) in
      subst (UdpOk starts (e ∷ h) side i) (sym becomes) (record {
        bound = sym bound;
        received = subst (Each (CameTo starts (e ∷ h) side (bound_port starts (e ∷ h) side i))) (sym none.0) tt;
        queued = subst (Each (GoesFrom starts (e ∷ h) side (bound_port starts (e ∷ h) side i))) (sym none.1) tt;
        idle = λ zero. absurd (may.1 zero);
      })
    where
      closed_port : (t : Bool) → (v.settings.endpoint.port == 0) ≡ t → not t ≡ false → v.settings.endpoint.port ≡ 0
      closed_port true e n = eqb-true v.settings.endpoint.port 0 e
      closed_port false e n = absurd (cc)
  binds_by v new port (Err why) kind k answered becomes allowed =
      stays v new (Call.Bind port) kind (ap (λ (a : Answer). port_by (Some (Call.Bind port)) a port_before) answered)
      (subst (IsFewer v) (sym becomes) (record { port = refl; received = inl refl; queued = inl refl })) k

  binds : (v new : UdpValue) (port : ℕ) → kind_of e.event ≡ calls side i (Call.Bind port) → UdpOk starts h side i v
      → e.answer ≡ done_or bind_fault (Udps.bind_answer v (at_port port)) → new ≡ Udps.bind_after v (at_port port) → UdpOk starts (e ∷ h) side i new
  binds v new port kind k answered becomes =
      binds_by v new port (Udps.bind_answer v (at_port port)) kind k answered becomes (tests (port == 0) (is_open v) refl)
    where
      tests : (t u : Bool) → (port == 0) ≡ t →
          is_ok (let r : Result (Unit {0}) BindError = if t then Err Bind.Unaddressable else if u then Err Bind.InvalidState else Ok tt in r) ≡ true →
          (u ≡ false) × (port ≢ 0)
      tests true u e ok = absurd (cc)
      tests false true e ok = absurd (cc)
      tests false false e ok = (refl, eqb-false port 0 e)

  -- CLOSE

  closes : (v new : UdpValue) → kind_of e.event ≡ calls side i Call.Close → e.answer ≡ To.Done → new ≡ Udps.closed v → UdpOk starts (e ∷ h) side i new
  closes v new kind answered becomes =
      let bound : bound_port starts (e ∷ h) side i ≡ 0 = port_after Call.Close 0 kind (ap (λ (a : Answer). port_by (Some Call.Close) a port_before) answered) in
      subst (UdpOk starts (e ∷ h) side i) (sym becomes) (record { bound = sym bound; received = tt; queued = tt; idle = λ unbound. (refl, refl) })

  -- SEND

  sends_by :
      (v new : UdpValue) (remote : IpEndpoint) (bytes : List ℕ) (answer : Result (Unit {0}) SendError) →
      kind_of e.event ≡ calls side i (Call.SendTo remote bytes) → UdpOk starts h side i v
      → e.answer ≡ done_or send_fault answer → new ≡ sent_after answer v (metadata_to remote) bytes → (is_ok answer ≡ true → v.settings.endpoint.port ≢ 0) →
      UdpOk starts (e ∷ h) side i new
  sends_by v new remote bytes (Ok done) kind k answered becomes bound_now =
      let same = port_after (Call.SendTo remote bytes) port_before kind refl in
      let grown = udp_grown starts h e side i v same k in
      let now : Accepts starts h e side (bound_port starts (e ∷ h) side i) remote.port bytes =
      record { socket = i; remote = remote; was_sent = kind; was_done = answered; to_port = refl; from_port = sym same } in
      subst (UdpOk starts (e ∷ h) side i) (sym becomes) (record {
        bound = grown.bound;
        received = grown.received;
        queued = each_appended (GoesFrom starts (e ∷ h) side (bound_port starts (e ∷ h) side i)) v.queued (length bytes) (metadata_to remote) bytes
            grown.queued (inl now);
        idle = λ unbound. absurd (bound_now refl unbound);
      })
  sends_by v new remote bytes (Err why) kind k answered becomes bound_now =
      stays v new (Call.SendTo remote bytes) kind refl (subst (IsFewer v) (sym becomes) (record { port = refl; received = inl refl; queued = inl refl })) k

  sends : (v new : UdpValue) (remote : IpEndpoint) (bytes : List ℕ) → kind_of e.event ≡ calls side i (Call.SendTo remote bytes) → UdpOk starts h side i v
      → e.answer ≡ done_or send_fault (Udps.send_answer v (metadata_to remote) (length bytes)) → new ≡ Udps.send_after v (metadata_to remote) bytes →
      UdpOk starts (e ∷ h) side i new
  sends v new remote bytes kind k answered becomes =
      sends_by v new remote bytes (Udps.send_answer v (metadata_to remote) (length bytes)) kind k answered becomes
      (λ ok zero. tests (v.settings.endpoint.port == 0) ((remote.port == 0) || is_unspecified remote.addr) (is_full_for v.queued (length bytes)) refl ok zero)
    where
      tests : (t u w : Bool) → (v.settings.endpoint.port == 0) ≡ t
          → is_ok (let r : Result (Unit {0}) SendError = if not (not t) || u then Err SendTo.Unaddressable else if w then Err SendTo.BufferFull else Ok tt in
          r) ≡ true → v.settings.endpoint.port ≢ 0
      tests true u w e ok = absurd (cc)
      tests false u w e ok = eqb-false v.settings.endpoint.port 0 e

  -- RECEIVE

  reads_by : (v : UdpValue) (d : Option Queued) (limit : ℕ) → first v.received ≡ d → UdpOk starts h side i v → e.answer ≡ datagram_or d limit →
      ReadWasAccepted starts h (calls side i (Call.RecvFrom limit)) e.answer
  reads_by v None limit is k answered = subst (ReadWasAccepted starts h (calls side i (Call.RecvFrom limit))) (sym answered) tt
  reads_by v (Some d) limit is k answered =
      subst (ReadWasAccepted starts h (calls side i (Call.RecvFrom limit))) (sym answered) (by (nat_lt limit (length d.1))) where
        by : (t : Bool) →
            ReadWasAccepted starts h (calls side i (Call.RecvFrom limit)) (if t then To.Error Fault.Truncated else To.FromEndpoint d.0.endpoint d.1)
        by true = tt
        by false = each_first (CameTo starts h side (bound_port starts h side i)) v.received d is k.received

  -- EACH CALL

  pub udp_called : (v new : UdpValue) (call : SocketCall) → kind_of e.event ≡ calls side i call → DoneBy (udp_does v call) e.answer e.found new →
      UdpOk starts h side i v → UdpCalled starts h e side i call new
  udp_called v new (Call.Bind port) kind done k = record { ok = binds v new port kind k done.0 done.2; read = tt }
  udp_called v new Call.Close kind done k = record { ok = closes v new kind done.0 done.2; read = tt }
  udp_called v new (Call.SendTo remote bytes) kind done k = record { ok = sends v new remote bytes kind k done.0 done.2; read = tt }
  udp_called v new (Call.RecvFrom limit) kind done k = record {
    ok =
        stays v new (Call.RecvFrom limit) kind refl
        (subst (IsFewer v) (sym done.2) (record { port = refl; received = inr (contents_without_first v.received); queued = inl refl })) k;
    read = reads_by v (first v.received) limit refl k done.0;
  }
  udp_called v new call kind done k = absurd (done)
