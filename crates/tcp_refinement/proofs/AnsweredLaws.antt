-- Each call of a user, by its answer, keeps the invariant.
use Rattle.std.proofs.Common.{◌≡◌, ◌≢◌, ℕ, ◌^◌, ◌<◌, ◌==◌, ◌&&◌, ◌||◌, not, min, Bool, true, false, if◌then◌else◌, List, [], ◌∷◌, ◌++◌}
use Rattle.std.proofs.Common.{length, take, Option, Some, None, Result, Ok, Err, is_ok, refl, sym, ap, ◌∙◌, subst, arith, append-nil}
use Rattle.std.proofs.lemmas.Bool.{cond_both, eqb-true}
use Rattle.ip_wire.specs.IpEndpoint.{IpEndpoint}
use Rattle.ip_wire.specs.IpListenEndpoint.{IpListenEndpoint}
use Rattle.net_base.specs.Ring.{Ring, anchored, cleared, enqueued}
use Rattle.socket_context.specs.Context.{ContextValue}
use Rattle.tcp_theory.specs.Side.Opening.{NotYet, Passive, Active}
use Rattle.tcp_block.specs.FourTuple.{FourTuple}
use Rattle.tcp_block.specs.ConnectError.TheVariants as Connect
use Rattle.tcp_block.specs.ListenError.{ListenError}
use Rattle.tcp_block.specs.ListenError.TheVariants as Listen
use Rattle.tcp_block.specs.RecvError.TheVariants as Recv
use Rattle.tcp_block.specs.SendError.TheVariants as Send
use Rattle.tcp_block.specs.OpenOffer.{OpenOffer}
use Rattle.tcp_block.specs.Calls.{listening, listens_on, found_answer, four_tuple_for, connected_by, sent_more, listen_after, connect_after, send_answer}
use Rattle.tcp_block.specs.Calls.{send_after, recv_answer, nothing_left, or_count}
use Rattle.tcp_block.specs.Offers.{offered_packet, packet_with}
use Rattle.tcp_block.specs.States.{is_closed, takes_writes, accepts_data}
use Rattle.tcp_block.specs.Value.{TcpValue, unoffered}
use Rattle.tcp_block.specs.Isn.{isn, number_for}
use Rattle.tcp_block.proofs.Numbers.{number_small}
use Rattle.tcp_refinement.specs.History.{listen_opens, connect_opens, opened_by, bytes_taken, with_written, with_offer, with_packet}
use Rattle.tcp_refinement.specs.Promises.{KeepsAlone}
use Rattle.tcp_refinement.specs.Tie.{Past, Keeps}
use Rattle.tcp_refinement.proofs.CallLaws.{keeps_listening, keeps_connecting, keeps_same}
use Rattle.tcp_refinement.proofs.CallMoves.{keeps_writes}
use Rattle.tcp_refinement.proofs.PromiseLemmas.{keeps_turned, safe_sockets, alone_nothing}

-- OPENING

-- the tests of a listen, as its answer and the socket after it say them
abbrev listen_by : Bool → Bool → Bool → Result (Unit {0}) ListenError
listen_by closed none on = if none then Err Listen.Unaddressable else if closed || on then Ok tt else Err Listen.InvalidState

listens_by : (closed none on : Bool) → (closed && is_ok (listen_by closed none on)) ≡ (closed && not none)
listens_by true true on = refl
listens_by true false on = refl
listens_by false none on = refl

pub keeps_listen :
    (v w : TcpValue) (p q : Past) (endpoint : IpListenEndpoint) → Keeps v p w q → (listen_opens v endpoint ≡ true → p.opening ≡ NotYet)
    → Keeps (listen_after v endpoint) (opened_by Passive (listen_opens v endpoint) p) w q
keeps_listen v w p q endpoint k first =
    let same = listens_by (is_closed v.tcb.state) (endpoint.port == 0) (listens_on v.tcb endpoint) in
    subst (λ (opens : Bool). Keeps (listen_after v endpoint) (opened_by Passive opens p) w q) (sym same)
    (by (is_closed v.tcb.state) (endpoint.port == 0) refl (λ e. first (same ∙ e)))
  where
    by :
        (closed none : Bool) → is_closed v.tcb.state ≡ closed → ((closed && not none) ≡ true → p.opening ≡ NotYet)
        → Keeps (if closed && not none then listening v endpoint else unoffered v) (opened_by Passive (closed && not none) p) w q
    by true false at first = keeps_listening v w p q endpoint k at (first refl)
    by true true at first = keeps_same v (unoffered v) w p q refl k
    by false none at first = keeps_same v (unoffered v) w p q refl k

pub keeps_connect :
    (cx : ContextValue) (v w : TcpValue) (p q : Past) (remote : IpEndpoint) (local : IpListenEndpoint) → Keeps v p w q
    → (connect_opens cx v remote local ≡ true → p.opening ≡ NotYet)
    → Keeps (connect_after cx v remote local) (opened_by Active (connect_opens cx v remote local) p) w q
keeps_connect cx v w p q remote local k first = by (is_closed v.tcb.state) (four_tuple_for cx remote local) refl first where
  by :
      (closed : Bool) (pair : Option FourTuple) → is_closed v.tcb.state ≡ closed
      → (is_ok (if closed then found_answer pair else Err Connect.InvalidState) ≡ true → p.opening ≡ NotYet)
      → Keeps (if closed then connected_by v pair (number_for cx pair) else unoffered v)
      (opened_by Active (is_ok (if closed then found_answer pair else Err Connect.InvalidState)) p) w q
  by true None at first = keeps_same v (unoffered v) w p q refl k
  by true (Some pair) at first = keeps_connecting v w p q pair (isn cx pair) k at (first refl) (number_small cx pair)
  by false pair at first = keeps_same v (unoffered v) w p q refl k

-- SENDING

empty_of : (bytes : List ℕ) → length bytes ≡ 0 → bytes ≡ []
empty_of [] e = refl
empty_of (x ∷ bytes) e = absurd (omega arith)

anchored_queue : (r : Ring ℕ) → (anchored r).queue ≡ r.queue
anchored_queue r =
    cond_both (length r.queue == 0) (cleared r) r (λ (ring : Ring ℕ). ring.queue ≡ r.queue)
    (λ e. sym (empty_of r.queue (eqb-true (length r.queue) 0 e)))
    (λ _. refl)

pub keeps_send :
    (v w : TcpValue) (p q : Past) (bytes : List ℕ) → Keeps v p w q → length (p.written ++ bytes_taken (send_answer v (length bytes)) bytes) < 2 ^ 29
    → Keeps (send_after v bytes) (with_written p (bytes_taken (send_answer v (length bytes)) bytes)) w q
keeps_send v w p q bytes k = by (takes_writes v.tcb.state) refl where
  taken : List ℕ
  taken = take (min (length bytes) (length v.queued.free)) bytes

  by :
      (writes : Bool) → takes_writes v.tcb.state ≡ writes
      → length (p.written ++ bytes_taken (if writes then Ok (min (length bytes) (length v.queued.free)) else Err Send.InvalidState) bytes) < 2 ^ 29
      → Keeps (if writes then sent_more v (enqueued (anchored v.queued) (take (min (length bytes) (length v.queued.free)) bytes)) else unoffered v)
      (with_written p (bytes_taken (if writes then Ok (min (length bytes) (length v.queued.free)) else Err Send.InvalidState) bytes)) w q
  by true at short =
      keeps_writes v w p q (enqueued (anchored v.queued) (take (min (length bytes) (length v.queued.free)) bytes))
      (take (min (length bytes) (length v.queued.free)) bytes) k at
      (ap (λ (queue : List ℕ). queue ++ take (min (length bytes) (length v.queued.free)) bytes) (anchored_queue v.queued)) short
  by false at short =
      subst (λ (written : List ℕ). Keeps (unoffered v) (record p { written = written }) w q) (sym (append-nil p.written))
      (keeps_same v (unoffered v) w p q refl k)

-- THE END OF THE STREAM

took_the_fin : (took : Bool) → nothing_left took ≡ Recv.Finished → took ≡ true
took_the_fin true e = refl
took_the_fin false e = absurd (cc)

pub read_to_the_end :
    (v w : TcpValue) (p q : Past) (room : ℕ) → Keeps v p w q → recv_answer v room ≡ Err Recv.Finished
    → (q.closed ≡ true) × (p.read ≡ q.written)
read_to_the_end v w p q room k = by (accepts_data v.tcb.state) (length v.received.waiting == 0) refl where
  by :
      (open_yet none : Bool) → (length v.received.waiting == 0) ≡ none
      → or_count (if open_yet || not none then None else Some (nothing_left v.tcb.receiver.took_fin)) (min room (length v.received.waiting)) ≡
      Err Recv.Finished
      → (q.closed ≡ true) × (p.read ≡ q.written)
  by true none empty e = absurd (cc)
  by false false empty e = absurd (cc)
  by false true empty e =
      let finished : nothing_left v.tcb.receiver.took_fin ≡ Recv.Finished = cc in
      let took = took_the_fin v.tcb.receiver.took_fin finished in
      let end = (safe_sockets w v q p (keeps_turned v w p q k)).finished took in
      let waiting = empty_of v.received.waiting (eqb-true (length v.received.waiting) 0 empty) in
      (end.0, sym (ap (λ (bytes : List ℕ). p.read ++ bytes) waiting ∙ append-nil p.read) ∙ end.1)

-- no stream to a socket without a peer ends
pub alone_reads_on : (v : TcpValue) (p : Past) (room : ℕ) → KeepsAlone v p → recv_answer v room ≢ Err Recv.Finished
alone_reads_on v p room k = by (accepts_data v.tcb.state) (length v.received.waiting == 0) where
  by :
      (open_yet none : Bool)
      → or_count (if open_yet || not none then None else Some (nothing_left v.tcb.receiver.took_fin)) (min room (length v.received.waiting)) ≡
      Err Recv.Finished → ⊥
  by true none e = absurd (cc)
  by false false e = absurd (cc)
  by false true e =
      let finished : nothing_left v.tcb.receiver.took_fin ≡ Recv.Finished = cc in
      let clash : true ≡ false = sym (took_the_fin v.tcb.receiver.took_fin finished) ∙ (alone_nothing v p k).unfinished in
      absurd (cc)

-- THE PACKET

pub packet_counts : (v : TcpValue) (p : Past) → with_packet p (offered_packet v) ≡ with_offer p v.offered v.queued.queue
packet_counts v p = by v.offered where
  by : (offered : Option OpenOffer) → with_packet p (packet_with offered v.queued.queue) ≡ with_offer p offered v.queued.queue
  by None = refl
  by (Some o) = refl
