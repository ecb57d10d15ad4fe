-- Each call of a TCP socket.
use Rattle.std.proofs.Common.{◌≡◌, ◌≢◌, inl, ℕ, ◌+◌, ◌<◌, ◌≤◌, ◌^◌, ◌==◌, nat_le, not, ◌&&◌, ◌||◌, min, Bool, true, false, if◌then◌else◌, List, []}
use Rattle.std.proofs.Common.{◌∷◌, ◌++◌, length, take, Option, Some, None, is_some, Result, Ok, Err, refl, sym, ap, ◌∙◌, subst, append-nil, arith}
use Rattle.std.proofs.lemmas.Bool.Decides.{nat_tests}
use Rattle.std.proofs.lemmas.List.{length-append, length-take}
use Rattle.net_base.specs.Ring.{anchored, enqueued}
use Rattle.ip_wire.specs.IpEndpoint.{IpEndpoint}
use Rattle.ip_wire.specs.AddressTests.{is_unspecified}
use Rattle.sockets.specs.Context.{ContextValue}
use Rattle.tcp_refinement.specs.Endpoints.{HasPorts}
use Rattle.tcp_refinement.specs.Host.{past_at}
use Rattle.tcp_refinement.specs.History.{closes_in, closed_by, bytes_taken, with_written, with_read}
use Rattle.tcp_refinement.specs.Tie.{Core, core_of, Past, Keeps, no_past}
use Rattle.tcp_refinement.proofs.AnsweredLaws.{keeps_send}
use Rattle.tcp_refinement.proofs.CallLaws.{keeps_listening, keeps_connecting, keeps_read, keeps_close, keeps_abort, keeps_same}
use Rattle.tcp_refinement.proofs.NameLaws.{close_names, abort_names}
use Rattle.tcp_refinement.proofs.PortLaws.{ports_listening, ports_connecting, ports_same, ports_close, ports_abort}
use Rattle.tcp_block.specs.declared.tcb.Tcb.{Tcb}
use Rattle.tcp_block.specs.AddressPair.{AddressPair}
use Rattle.tcp_block.specs.FourTuple.{FourTuple}
use Rattle.tcp_block.specs.ConnectError.TheVariants as Connect
use Rattle.tcp_block.specs.ListenError.TheVariants as Listen
use Rattle.tcp_block.specs.RecvError.{RecvError}
use Rattle.tcp_block.specs.RecvError.TheVariants as Recv
use Rattle.tcp_block.specs.SendError as Writes
use Rattle.tcp_block.specs.SendError.TheVariants as Send
use Rattle.tcp_block.specs.State.{State}
use Rattle.tcp_block.specs.State.TheVariants as In
use Rattle.tcp_block.specs.Calls.{listening, listens_on, listen_answer, listen_after, connecting, connected_by, connect_answer, connect_after, found_answer}
use Rattle.tcp_block.specs.Calls.{four_tuple_for, pair_by, addresses_by, source_by, send_answer, sent_more, send_after, recv_answer, or_count}
use Rattle.tcp_block.specs.Calls.{nothing_left, recv_after, close_after, abort_after}
use Rattle.tcp_block.specs.States.{is_closed, is_time_wait, is_opening, takes_writes, accepts_data, after_close}
use Rattle.tcp_block.specs.Value.{TcpValue, unoffered, ended, with_tcb}
use Rattle.lan.specs.declared.at_link.history.answer.Answer.{Answer}
use Rattle.lan.specs.declared.at_link.history.answer.Answer.TheVariants as To
use Rattle.lan.specs.declared.at_link.history.answer.Refused.TheVariants as For
use Rattle.lan.specs.declared.at_link.history.event.Side.{Side}
use Rattle.lan.specs.declared.at_link.history.event.TcpSetting.{TcpSetting}
use Rattle.lan.specs.declared.at_link.history.event.TcpSetting.TheVariants as Changed
use Rattle.lan.specs.declared.at_link.history.record.Opening.{Opening}
use Rattle.lan.specs.declared.at_link.history.record.SocketRecord.{SocketRecord}
use Rattle.lan.specs.Worlds.AtLink.Call as Call
use Rattle.lan.specs.Worlds.AtLink.Call.{SocketCall}
use Rattle.lan.specs.Worlds.AtLink.Kinds.{other, Kind, kind_of, calls}
use Rattle.lan.specs.Worlds.AtLink.History.{Entry, first_of, opening_by, bytes_written, bytes_read, closes, opening, written, read, is_closed_by}
use Rattle.lan.specs.Worlds.AtLink.Tables.{Slots, kinds, table_of, record_at, IsAllowed, AreAllowed}
use Rattle.lan.proofs.Worlds.AtLink.PeerSideLemmas.{WasTaken, was_taken, MayOpen, may_open, test_passed}
use Rattle.lan.proofs.Worlds.AtLink.TableLemmas.{first_of-none, table_says}
use Rattle.lan.specs.Worlds.AtLink.Calls.{at_port, done_or, count_or, listen_fault, connect_fault, write_fault, recv_fault, bytes_or, read_by}
use Rattle.lan.specs.Worlds.AtLink.Calls.{setting_after, tcp_does}
use Rattle.lan.specs.Worlds.AtLink.Moves.{DoneBy, with_socket}
use Rattle.lan.specs.Worlds.AtLink.Parties.{Party, socket_at}
use Rattle.lan.specs.Worlds.AtLink.Parties.Socket.{Tcp}
use Rattle.lan.specs.Worlds.AtLink.Paired.{way_by, told}
use Rattle.lan.proofs.Worlds.AtLink.StreamInvariant.{ports_of, IsUntouched, TcpOk, StreamsOk, PairsOk}
use Rattle.lan.proofs.Worlds.AtLink.HostSteps.{past, or_false, HostSteps}
use Rattle.lan.proofs.Worlds.AtLink.WireMoves.{untouched_same, pair_kept}
use Rattle.lan.proofs.Worlds.AtLink.CallSteps.{or_true, told_parts, told_plain, told_after, called_opened, called_untouched, called_opens}
use Rattle.tcp_block.specs.Isn.{isn, number_for}
use Rattle.tcp_block.proofs.Numbers.{number_small}

-- no setting changes what the tie reads
setting_same : (v : TcpValue) (setting : TcpSetting) → core_of (setting_after v setting) ≡ core_of v
setting_same v (Changed.Timeout duration) = refl
setting_same v (Changed.AckDelay duration) = refl
setting_same v (Changed.KeepAlive interval) = refl
setting_same v (Changed.NagleEnabled enabled) = refl
setting_same v (Changed.HopLimit hop_limit) = refl
setting_same v (Changed.CongestionControl control) = refl
setting_same v (Changed.TsvalGenerator generator) = refl
setting_same v (Changed.PauseSynack paused) = refl

closed_is : (state : State) → is_closed state ≡ true → state ≡ In.Closed
closed_is In.Closed e = refl
closed_is other e = absurd (cc)

abbrev listens_at : ℕ → Opening
listens_at port = record { local = port; remote = None }

abbrev connects_to : ℕ → ℕ → Opening
connects_to port remote = record { local = port; remote = Some remote }

-- the endpoints of a connect have the ports that were asked for
record HasPair (remote : IpEndpoint) (port : ℕ) (pair : FourTuple) : Type 0 where
  pub local : pair.local_port ≡ port
  pub remote_port : pair.remote_port ≡ remote.port

pair_ports : (cx : ContextValue) (remote : IpEndpoint) (port : ℕ) (pair : FourTuple) → four_tuple_for cx remote (at_port port) ≡ Some pair →
    HasPair remote port pair
pair_ports cx remote port pair e =
    by (remote.port == 0) (is_unspecified remote.addr) (port == 0) (addresses_by (source_by cx None remote.addr) remote.addr) e where
      by : (a b c : Bool) (addresses : Option AddressPair) →
          (let r : Option FourTuple = if a || (b || c) then None else pair_by addresses port remote.port in r) ≡ Some pair → HasPair remote port pair
      by true b c addresses e = absurd (cc)
      by false true c addresses e = absurd (cc)
      by false false true addresses e = absurd (cc)
      by false false false None e = absurd (cc)
      by false false false (Some addresses) e =
          let same : record { addresses = addresses; local_port = port; remote_port = remote.port } ≡ pair = cc in
          record { local = sym (ap (λ (x : FourTuple). x.local_port) same); remote_port = sym (ap (λ (x : FourTuple). x.remote_port) same) }

-- a socket that wasn't opened has nothing to read, nor an end
pub nothing_to_read : (h : List Entry) (side : Side) (i : ℕ) (v : TcpValue) (limit : ℕ) → IsUntouched h side i v → recv_answer v limit ≡ Err Recv.InvalidState
nothing_to_read h side i v limit u =
    let closed = closed_is v.tcb.state u.nameless.state in
    by (accepts_data v.tcb.state) (length v.received.waiting == 0) v.tcb.receiver.took_fin (ap accepts_data closed)
    (ap (λ (b : List ℕ). length b == 0) u.initial.waiting) u.initial.unfinished
  where
    by :
        (t z f : Bool) → t ≡ false → z ≡ true → f ≡ false
        → or_count (if t || not z then None else Some (nothing_left f)) (min limit (length v.received.waiting)) ≡ Err Recv.InvalidState
    by false true false a b c = refl
    by true z f a b c = absurd (cc)
    by false false f a b c = absurd (cc)
    by false true true a b c = absurd (cc)

-- without the peer's FIN there is no end
pub not_finished : (v : TcpValue) (limit : ℕ) → v.tcb.receiver.took_fin ≡ false → recv_answer v limit ≢ Err Recv.Finished
not_finished v limit unfinished = by (accepts_data v.tcb.state) (length v.received.waiting == 0) v.tcb.receiver.took_fin unfinished where
  by : (t z f : Bool) → f ≡ false → or_count (if t || not z then None else Some (nothing_left f)) (min limit (length v.received.waiting)) ≢ Err Recv.Finished
  by true z f none e = absurd (cc)
  by false false f none e = absurd (cc)
  by false true false none e = absurd (cc)
  by false true true none e = absurd (cc)

module _
    (slots : Slots) (h : List Entry) (e : Entry) (side : Side) (p q : Party) (at : ℕ) (v new : TcpValue) (allowed : AreAllowed slots (e ∷ h))
    (is : socket_at p at ≡ Some (Tcp v)) (k : StreamsOk h side p) (far : StreamsOk h (other side) q) (pairs : PairsOk h side p q) where
  abbrev ok : TcpOk h side p.segments at v
  ok = k.sockets at v is

  taken : (call : SocketCall) → kind_of e.event ≡ calls side at call → WasTaken slots h side at call
  taken call kind = was_taken slots h side at call (subst (λ (kind : Kind). IsAllowed slots h kind) kind allowed.0)

  abbrev Steps : Type 0
  Steps = HostSteps h (e ∷ h) side p (with_socket p at (Tcp new)) q

  -- a call that nothing is seen of, and that the tie doesn't read
  same_call :
      (call : SocketCall) (answer : Answer) → kind_of e.event ≡ calls side at call → e.answer ≡ answer → e.found ≡ None → core_of new ≡ core_of v
      → opening_by (Some call) answer ≡ None → bytes_written (Some call) answer ≡ [] → bytes_read (Some call) answer ≡ [] →
      closes (Some call) None ≡ false → Steps
  same_call call answer kind answered found same opens w r c = by (opening h side at) refl where
    plain : told (e ∷ h) side at ≡ told h side at
    plain =
        told_after slots h e side p q at v call kind allowed is k far pairs answer None answered found
        ∙ told_plain h side at call answer None (ap (λ (o : Option Opening). first_of (opening h side at) o) opens ∙ first_of-none (opening h side at)) w r c

    by : (o : Option Opening) → opening h side at ≡ o → Steps
    by None none =
        let u = untouched_same h side at v new same (ok.untouched none) in
        called_untouched slots h e side p q at v call kind allowed is k far pairs new none (ap (opening_by (Some call)) answered ∙ opens)
        (record { initial = u.initial; nameless = u.nameless; nothing = plain ∙ u.nothing })
    by (Some o) opened =
        called_opened slots h e side p q at v call kind allowed is k far pairs o new opened (ports_same v new (ports_of o) same (ok.ports o opened))
        (λ pair named. sym (ap (λ (c : Core). c.pair) same) ∙ named)
        (λ w b keeps.
        subst (λ (t : Past). Keeps new (past_at o.local p.segments t) w b) (sym plain)
        (keeps_same v new w (past_at o.local p.segments (told h side at)) b same keeps))

  -- OPEN

  listens : (port : ℕ) → kind_of e.event ≡ calls side at (Call.Listen port) → e.answer ≡ done_or listen_fault (listen_answer v (at_port port)) →
      e.found ≡ None → new ≡ listen_after v (at_port port) → Steps
  listens port kind answered found becomes = by (port == 0) refl where
    w : WasTaken slots h side at (Call.Listen port)
    w = taken (Call.Listen port) kind

    may : MayOpen slots h side at (listens_at port)
    may = may_open slots h side at (listens_at port) w.slot w.own

    state : is_closed v.tcb.state ≡ true
    state = (ok.untouched may.first).nameless.state

    by : (zero : Bool) → (port == 0) ≡ zero → Steps
    by true e0 =
        same_call (Call.Listen port) (To.Error (listen_fault Listen.Unaddressable)) kind
        (answered ∙ ap (λ (t : Bool).
        done_or listen_fault (if t then Err Listen.Unaddressable else if is_closed v.tcb.state || listens_on v.tcb (at_port port) then Ok tt else Err
        Listen.InvalidState)) e0)
        found
        (ap core_of (becomes ∙ ap (λ (t : Bool). if is_closed v.tcb.state && not t then listening v (at_port port) else unoffered v) e0 ∙
        ap (λ (t : Bool). if t && false then listening v (at_port port) else unoffered v) state))
        refl refl refl refl
    by false e0 =
        let done : e.answer ≡ To.Done =
        answered
        ∙ ap (λ (t : Bool). done_or listen_fault
        (if t then Err Listen.Unaddressable else if is_closed v.tcb.state || listens_on v.tcb (at_port port) then Ok tt else Err
        Listen.InvalidState)) e0
        ∙ ap (λ (t : Bool). done_or listen_fault (if t || listens_on v.tcb (at_port port) then Ok tt else Err Listen.InvalidState)) state in
        let opened : new ≡ listening v (at_port port) =
        becomes ∙ ap (λ (t : Bool). if is_closed v.tcb.state && not t then listening v (at_port port) else unoffered v) e0 ∙
        ap (λ (t : Bool). if t && true then listening v (at_port port) else unoffered v) state in
        subst (λ (new : TcpValue). HostSteps h (e ∷ h) side p (with_socket p at (Tcp new)) q) (sym opened)
        (called_opens slots h e side p q at v (Call.Listen port) kind allowed is k far pairs (listens_at port) (listening v (at_port port)) may
        (ap (opening_by (Some (Call.Listen port))) done) refl refl
        refl
        (ports_listening v (at_port port)) (λ pair named. absurd (cc))
        (λ rs w b keeps. keeps_listening v w (no_past rs) b (at_port port) keeps state refl))

  connects : (remote : IpEndpoint) (port : ℕ) (cx : ContextValue) → kind_of e.event ≡ calls side at (Call.Connect remote port) →
      e.answer ≡ done_or connect_fault (connect_answer cx v remote (at_port port)) → e.found ≡ None
      → new ≡ connect_after cx v remote (at_port port) → Steps
  connects remote port cx kind answered found becomes = by (four_tuple_for cx remote (at_port port)) refl where
    w : WasTaken slots h side at (Call.Connect remote port)
    w = taken (Call.Connect remote port) kind

    may : MayOpen slots h side at (connects_to port remote.port)
    may = may_open slots h side at (connects_to port remote.port) w.slot w.own

    state : is_closed v.tcb.state ≡ true
    state = (ok.untouched may.first).nameless.state

    answer_is : e.answer ≡ done_or connect_fault (found_answer (four_tuple_for cx remote (at_port port)))
    answer_is = answered ∙ ap
        (λ (t : Bool). done_or connect_fault (if t then found_answer (four_tuple_for cx remote (at_port port)) else Err Connect.InvalidState)) state

    opens_to : Option FourTuple → TcpValue
    opens_to pair = connected_by v pair (number_for cx pair)

    new_is : new ≡ opens_to (four_tuple_for cx remote (at_port port))
    new_is = becomes ∙ ap (λ (t : Bool). if t then opens_to (four_tuple_for cx remote (at_port port)) else unoffered v) state

    by : (pair : Option FourTuple) → four_tuple_for cx remote (at_port port) ≡ pair → Steps
    by None none =
        same_call (Call.Connect remote port) (To.Error (connect_fault Connect.Unaddressable)) kind
        (answer_is ∙ ap (λ (x : Option FourTuple). done_or connect_fault (found_answer x)) none) found
        (ap core_of (new_is ∙ ap opens_to none)) refl refl refl refl
    by (Some pair) found_pair =
        let ports = pair_ports cx remote port pair found_pair in
        let done : e.answer ≡ To.Done = answer_is ∙ ap (λ (x : Option FourTuple). done_or connect_fault (found_answer x)) found_pair in
        let opened : new ≡ connecting v pair (isn cx pair) = new_is ∙ ap opens_to found_pair in
        subst (λ (new : TcpValue). HostSteps h (e ∷ h) side p (with_socket p at (Tcp new)) q) (sym opened)
        (called_opens slots h e side p q at v (Call.Connect remote port) kind allowed is k far pairs (connects_to port remote.port)
        (connecting v pair (isn cx pair)) may (ap (opening_by (Some (Call.Connect remote port))) done) refl refl refl
        (subst (λ (local : ℕ). HasPorts (record { local = local; remote = Some remote.port }) (connecting v pair (isn cx pair)).tcb) ports.local
        (subst (λ (far : ℕ). HasPorts (record { local = pair.local_port; remote = Some far }) (connecting v pair (isn cx pair)).tcb)
        ports.remote_port (ports_connecting v pair (isn cx pair))))
        (λ other_pair named. let same : pair ≡ other_pair =
        cc in inl (ap (λ (n : ℕ). Some n) (sym ports.remote_port ∙ ap (λ (x : FourTuple). x.remote_port) same)))
        (λ rs w b keeps. keeps_connecting v w (no_past rs) b pair (isn cx pair) keeps state refl (number_small cx pair)))

  -- SEND

  -- as many bytes as it took were written
  written_by : (bytes : List ℕ) (r : Result ℕ Writes.SendError) → bytes_written (Some (Call.Send bytes)) (count_or write_fault r) ≡ bytes_taken r bytes
  written_by bytes (Ok n) = refl
  written_by bytes (Err why) = refl

  sends : (bytes : List ℕ) → kind_of e.event ≡ calls side at (Call.Send bytes) → e.answer ≡ count_or write_fault (send_answer v (length bytes)) →
      e.found ≡ None → new ≡ send_after v bytes → Steps
  sends bytes kind answered found becomes = by (opening h side at) refl where
    w : WasTaken slots h side at (Call.Send bytes)
    w = taken (Call.Send bytes) kind

    -- fewer than 2^29 bytes in all
    few : length (written h side at) + length bytes < 2 ^ 29
    few =
        let passed = (test_passed (nat_le (2 ^ 29) ((record_at (table_of h side (length (kinds slots side))) at).accepted + length bytes)) For.TooManyBytes
        [] w.own).0 in
        let says = ap (λ (r : SocketRecord). r.accepted) (table_says h side (length (kinds slots side)) at w.slot) in
        not_many (ap (λ (n : ℕ). nat_le (2 ^ 29) (n + length bytes)) (sym says) ∙ passed)
      where
        not_many : nat_le (2 ^ 29) (length (written h side at) + length bytes) ≡ false → length (written h side at) + length bytes < 2 ^ 29
        not_many e = grind (arith, nat_tests)

    at_most : (r : Result ℕ Writes.SendError) → length (bytes_taken r bytes) ≤ length bytes
    at_most (Ok n) = let size = length-take n bytes in omega arith
    at_most (Err why) = omega arith

    fits : length (written h side at ++ bytes_taken (send_answer v (length bytes)) bytes) < 2 ^ 29
    fits =
        let size = length-append (written h side at) (bytes_taken (send_answer v (length bytes)) bytes) in
        let less = at_most (send_answer v (length bytes)) in
        let all = few in
        omega arith

    same_tcb : (send_after v bytes).tcb ≡ v.tcb
    same_tcb = by_test (takes_writes v.tcb.state) where
      by_test : (t : Bool) → (if t then sent_more v (enqueued (anchored v.queued) (take (min (length bytes) (length v.queued.free)) bytes)) else unoffered
          v).tcb ≡ v.tcb
      by_test true = refl
      by_test false = refl

    told_sent : told (e ∷ h) side at ≡ with_written (told h side at) (bytes_taken (send_answer v (length bytes)) bytes)
    told_sent =
        told_after slots h e side p q at v (Call.Send bytes) kind allowed is k far pairs (count_or write_fault (send_answer v (length bytes))) None
        answered found
        ∙ told_parts h side at (Call.Send bytes) (count_or write_fault (send_answer v (length bytes))) None
        (bytes_taken (send_answer v (length bytes)) bytes) [] false
        (first_of-none (opening h side at)) (written_by bytes (send_answer v (length bytes))) refl refl
        ∙ ap (λ (r : List ℕ). past (way_by (opening h side at)) (written h side at ++ bytes_taken (send_answer v (length bytes)) bytes) r
        (is_closed_by h side at || false)) (append-nil (read h side at))
        ∙ ap (λ (c : Bool). past (way_by (opening h side at)) (written h side at ++ bytes_taken (send_answer v (length bytes)) bytes) (read h side at) c)
        (or_false (is_closed_by h side at))

    by : (o : Option Opening) → opening h side at ≡ o → Steps
    by None none =
        let closed = closed_is v.tcb.state (ok.untouched none).nameless.state in
        let refused : takes_writes v.tcb.state ≡ false = ap takes_writes closed in
        same_call (Call.Send bytes) (To.Error (write_fault Send.InvalidState)) kind
        (answered ∙ ap (λ (t : Bool). count_or write_fault (if t then Ok (min (length bytes) (length v.queued.free)) else Err Send.InvalidState)) refused) found
        (ap core_of (becomes ∙ unsent refused)) refl refl refl refl
      where
        unsent : takes_writes v.tcb.state ≡ false → send_after v bytes ≡ unoffered v
        unsent refused = rw refused refl
    by (Some o) opened =
        subst (λ (new : TcpValue). HostSteps h (e ∷ h) side p (with_socket p at (Tcp new)) q) (sym becomes)
        (called_opened slots h e side p q at v (Call.Send bytes) kind allowed is k far pairs o (send_after v bytes) opened
        (subst (HasPorts (ports_of o)) (sym same_tcb) (ok.ports o opened)) (λ pair named. sym (ap (λ (b : Tcb). b.names.pair) same_tcb) ∙ named)
        (λ w b keeps.
        subst (λ (t : Past). Keeps (send_after v bytes) (past_at o.local p.segments t) w b) (sym told_sent)
        (keeps_send v w (past_at o.local p.segments (told h side at)) b bytes keeps fits)))

  -- RECEIVE

  receives : (limit : ℕ) → kind_of e.event ≡ calls side at (Call.Recv limit) → e.answer ≡ bytes_or v (recv_answer v limit) → e.found ≡ None →
      new ≡ read_by v (recv_answer v limit) → Steps
  receives limit kind answered found becomes = by (recv_answer v limit) refl where
    by : (r : Result ℕ RecvError) → recv_answer v limit ≡ r → Steps
    by (Err why) is_r =
        same_call (Call.Recv limit) (To.Error (recv_fault why)) kind (answered ∙ ap (bytes_or v) is_r) found (ap core_of (becomes ∙ ap (read_by v) is_r)) refl
        refl refl refl
    by (Ok count) is_r = at_opening (opening h side at) refl where
      told_read : told (e ∷ h) side at ≡ with_read (told h side at) (take count v.received.waiting)
      told_read =
          told_after slots h e side p q at v (Call.Recv limit) kind allowed is k far pairs (To.Bytes (take count v.received.waiting)) None (answered ∙
          ap (bytes_or v) is_r) found
          ∙ told_parts h side at (Call.Recv limit) (To.Bytes (take count v.received.waiting)) None [] (take count v.received.waiting) false
          (first_of-none (opening h side at)) refl refl refl
          ∙ ap (λ (w : List ℕ). past (way_by (opening h side at)) w (read h side at ++ take count v.received.waiting) (is_closed_by h side at || false))
          (append-nil (written h side at))
          ∙ ap (λ (c : Bool). past (way_by (opening h side at)) (written h side at) (read h side at ++ take count v.received.waiting) c)
          (or_false (is_closed_by h side at))

      at_opening : (o : Option Opening) → opening h side at ≡ o → Steps
      at_opening None none = absurd (let clash : Ok count ≡ Err Recv.InvalidState = sym is_r ∙ nothing_to_read h side at v limit (ok.untouched none) in cc)
      at_opening (Some o) opened =
          subst (λ (new : TcpValue). HostSteps h (e ∷ h) side p (with_socket p at (Tcp new)) q) (sym (becomes ∙ ap (read_by v) is_r))
          (called_opened slots h e side p q at v (Call.Recv limit) kind allowed is k far pairs o (recv_after v count) opened
          (ok.ports o opened) (λ pair named. named)
          (λ w b keeps.
          subst (λ (t : Past). Keeps (recv_after v count) (past_at o.local p.segments t) w b) (sym told_read)
          (keeps_read v w (past_at o.local p.segments (told h side at)) b count keeps)))

  -- CLOSE and ABORT

  closes_step : kind_of e.event ≡ calls side at Call.Close → e.answer ≡ To.Done → e.found ≡ Some v.tcb.state → new ≡ close_after v → Steps
  closes_step kind answered found becomes =
      subst (λ (new : TcpValue). HostSteps h (e ∷ h) side p (with_socket p at (Tcp new)) q) (sym becomes) (by (opening h side at) refl)
    where
      told_closed : told (e ∷ h) side at ≡ closed_by (closes_in v.tcb.state) (told h side at)
      told_closed =
          told_after slots h e side p q at v Call.Close kind allowed is k far pairs To.Done (Some v.tcb.state) answered found
          ∙ told_parts h side at Call.Close To.Done (Some v.tcb.state) [] [] (closes_in v.tcb.state) (first_of-none (opening h side at)) refl refl refl
          ∙ ap (λ (w : List ℕ). past (way_by (opening h side at)) w (read h side at ++ []) (is_closed_by h side at || closes_in v.tcb.state))
          (append-nil (written h side at))
          ∙ ap (λ (r : List ℕ). past (way_by (opening h side at)) (written h side at) r (is_closed_by h side at || closes_in v.tcb.state))
          (append-nil (read h side at))
          ∙ closed_past (closes_in v.tcb.state)
        where
          closed_past : (t : Bool) → past (way_by (opening h side at)) (written h side at) (read h side at) (is_closed_by h side at || t) ≡
              closed_by t (told h side at)
          closed_past true = ap (λ (c : Bool). past (way_by (opening h side at)) (written h side at) (read h side at) c) (or_true (is_closed_by h side at))
          closed_past false = ap (λ (c : Bool). past (way_by (opening h side at)) (written h side at) (read h side at) c) (or_false (is_closed_by h side at))

      at_port_closed : (o : Opening) (t : Bool) (new w : TcpValue) (b : Past) → Keeps new (closed_by t (past_at o.local p.segments (told h side at))) w b →
          Keeps new (past_at o.local p.segments (closed_by t (told h side at))) w b
      at_port_closed o true new w b keeps = keeps
      at_port_closed o false new w b keeps = keeps

      close_same : v.tcb.state ≡ In.Closed → core_of (close_after v) ≡ core_of v
      close_same closed =
          ap (λ (t : Bool). core_of (if t then ended (unoffered v) else with_tcb (unoffered v) (record v.tcb { state = after_close v.tcb.state })))
          (ap is_opening closed)
          ∙ ap (λ (state : State). record (core_of v) { state = state }) (ap after_close closed ∙ sym closed)

      by : (o : Option Opening) → opening h side at ≡ o → HostSteps h (e ∷ h) side p (with_socket p at (Tcp (close_after v))) q
      by None none =
          let u = ok.untouched none in
          let closed = closed_is v.tcb.state u.nameless.state in
          let same : core_of (close_after v) ≡ core_of v = close_same closed in
          let u' = untouched_same h side at v (close_after v) same u in
          called_untouched slots h e side p q at v Call.Close kind allowed is k far pairs (close_after v) none refl
          (record {
            initial = u'.initial;
            nameless = u'.nameless;
            nothing =
                told_closed ∙ ap (λ (state : State). closed_by (closes_in state) (told h side at)) closed ∙ u.nothing;
          })
      by (Some o) opened =
          called_opened slots h e side p q at v Call.Close kind allowed is k far pairs o (close_after v) opened
          (ports_close v (ports_of o) (ok.ports o opened)) (λ pair named. pair_kept v.tcb (close_after v).tcb pair (close_names v) named)
          (λ w b keeps.
          subst (λ (t : Past). Keeps (close_after v) (past_at o.local p.segments t) w b) (sym told_closed)
          (at_port_closed o (closes_in v.tcb.state) (close_after v) w b (keeps_close v w (past_at o.local p.segments (told h side at)) b keeps)))

  aborts : kind_of e.event ≡ calls side at Call.Abort → e.answer ≡ To.Done → e.found ≡ None → new ≡ abort_after v → Steps
  aborts kind answered found becomes =
      subst (λ (new : TcpValue). HostSteps h (e ∷ h) side p (with_socket p at (Tcp new)) q) (sym becomes) (by (opening h side at) refl)
    where
      plain : told (e ∷ h) side at ≡ told h side at
      plain =
          told_after slots h e side p q at v Call.Abort kind allowed is k far pairs To.Done None answered found
          ∙ told_plain h side at Call.Abort To.Done None (first_of-none (opening h side at)) refl refl refl

      abort_same : v.tcb.state ≡ In.Closed → core_of (abort_after v) ≡ core_of v
      abort_same closed =
          ap (λ (t : Bool). core_of (if t then ended (unoffered v) else with_tcb (unoffered v) (aborted v.tcb))) (ap is_time_wait closed)
          ∙ ap (λ (state : State). record (core_of v) { state = state }) (sym closed)
        where
          aborted : Tcb → Tcb
          aborted b = record b { state = In.Closed; sender = record b.sender { reset_due = is_some b.names.pair } }

      by : (o : Option Opening) → opening h side at ≡ o → HostSteps h (e ∷ h) side p (with_socket p at (Tcp (abort_after v))) q
      by None none =
          let u = ok.untouched none in
          let closed = closed_is v.tcb.state u.nameless.state in
          let u' = untouched_same h side at v (abort_after v) (abort_same closed) u in
          called_untouched slots h e side p q at v Call.Abort kind allowed is k far pairs (abort_after v) none refl
          (record { initial = u'.initial; nameless = u'.nameless; nothing = plain ∙ u.nothing })
      by (Some o) opened =
          called_opened slots h e side p q at v Call.Abort kind allowed is k far pairs o (abort_after v) opened
          (ports_abort v (ports_of o) (ok.ports o opened)) (λ pair named. pair_kept v.tcb (abort_after v).tcb pair (abort_names v) named)
          (λ w b keeps.
          subst (λ (t : Past). Keeps (abort_after v) (past_at o.local p.segments t) w b) (sym plain)
          (keeps_abort v w (past_at o.local p.segments (told h side at)) b keeps))

  -- EACH CALL

  pub tcp_called : (cx : ContextValue) (call : SocketCall) → kind_of e.event ≡ calls side at call → DoneBy (tcp_does cx v call) e.answer e.found new → Steps
  tcp_called cx (Call.Listen port) kind done = listens port kind done.0 done.1 done.2
  tcp_called cx (Call.Connect remote port) kind done = connects remote port cx kind done.0 done.1 done.2
  tcp_called cx (Call.Send bytes) kind done = sends bytes kind done.0 done.1 done.2
  tcp_called cx (Call.Recv limit) kind done = receives limit kind done.0 done.1 done.2
  tcp_called cx Call.Close kind done = closes_step kind done.0 done.1 done.2
  tcp_called cx Call.Abort kind done = aborts kind done.0 done.1 done.2
  tcp_called cx Call.State kind done = same_call Call.State (To.State v.tcb.state) kind done.0 done.1 (ap core_of done.2) refl refl refl refl
  tcp_called cx (Call.Set setting) kind done =
      same_call (Call.Set setting) To.Done kind done.0 done.1 (ap core_of done.2 ∙ setting_same v setting) refl refl refl refl
  tcp_called cx call kind done = absurd (done)
