-- What each event does to a side keeps the invariant alongside the other side.
use Rattle.std.proofs.Common.{◌≡◌, ℕ, ◌+◌, ◌^◌, ◌<◌, ◌≤◌, ◌&&◌, ℤ, Bool, true, false, if◌then◌else◌, List, [], ◌∷◌, ◌++◌, map, length, take, Option, Some, None}
use Rattle.std.proofs.Common.{Result, Ok, Err, is_ok, slice_get, refl, sym, ap, ◌∙◌, subst, arith, append-nil, length-append, length-take, option_map}
use Rattle.std.proofs.lemmas.Bool.{cond_both}
use Rattle.std.proofs.lemmas.Option.{slice_get-map}
use Rattle.std.proofs.lemmas.List.{map-append}
use Rattle.ip_wire.specs.IpEndpoint.{IpEndpoint}
use Rattle.ip_wire.specs.IpListenEndpoint.{IpListenEndpoint}
use Rattle.tcp_block.specs.Context.{ContextValue}
use Rattle.tcp_theory.specs.Segment.{Segment}
use Rattle.tcp_theory.specs.Invariant.{HoldsBetween, FitsPhase}
use Rattle.tcp_theory.specs.Side.{Phase, Side as Half}
use Rattle.tcp_theory.specs.Side.Phase.{SynSent}
use Rattle.tcp_theory.specs.Side.Opening.{NotYet, Passive, Active}
use Rattle.tcp_block.specs.ConnectError.{ConnectError}
use Rattle.tcp_block.specs.ConnectError.TheVariants as Connecting
use Rattle.tcp_block.specs.ListenError.{ListenError}
use Rattle.tcp_block.specs.ListenError.TheVariants as Listening
use Rattle.tcp_block.specs.RecvError.{RecvError}
use Rattle.tcp_block.specs.RecvError.TheVariants as Receiving
use Rattle.tcp_block.specs.SendError.{SendError}
use Rattle.tcp_block.specs.OpenOffer.{OpenOffer}
use Rattle.tcp_block.specs.Reply.{Reply}
use Rattle.tcp_block.specs.State.{State}
use Rattle.tcp_block.specs.State.TheVariants as In
use Rattle.tcp_block.specs.Arrival.{arrives}
use Rattle.tcp_block.specs.Calls.{listen_answer, listen_after, connect_answer, connect_after, send_answer, send_after, recv_answer, recv_after, close_after}
use Rattle.tcp_block.specs.Calls.{abort_after}
use Rattle.tcp_block.specs.Names.{accepts}
use Rattle.tcp_block.specs.Offers.{offer_of, payload_of}
use Rattle.tcp_block.specs.Settled.{settled}
use Rattle.tcp_block.specs.States.{is_closed}
use Rattle.tcp_block.specs.Value.{TcpValue, unoffered}
use Rattle.tcp_refinement.specs.History.{listened, called, with_written, with_read, with_sent, with_answer, with_offer, closes_in, closed_by, listen_opens}
use Rattle.tcp_refinement.specs.History.{connect_opens, opened_by, bytes_taken}
use Rattle.tcp_refinement.specs.Tie.{Core, Past, Keeps, FitsIn, core_of, past_of, unsent, segment_of}
use Rattle.tcp_refinement.proofs.AnsweredLaws.{keeps_listen, keeps_connect, keeps_send, read_to_the_end}
use Rattle.tcp_refinement.proofs.ArrivalLaws.{keeps_arrival}
use Rattle.tcp_refinement.proofs.CallLaws.{keeps_read, keeps_close, keeps_abort, keeps_same}
use Rattle.tcp_refinement.proofs.OfferLaws.{keeps_sent_offer, keeps_unsent_offer}
use Rattle.tcp_refinement.specs.declared.pair.event.Side.{Side}
use Rattle.tcp_refinement.specs.declared.pair.event.SentSegment.{SentSegment}
use Rattle.tcp_refinement.specs.declared.pair.event.PairEvent.{PairEvent}
use Rattle.tcp_refinement.specs.declared.pair.event.PairEvent.TheVariants.{Listen, Connect, Send, Recv, Close, Abort, TcpSetting, Clock, Offer, Deliver}
use Rattle.tcp_refinement.specs.declared.pair.event.PairAnswer.{PairAnswer}
use Rattle.tcp_refinement.specs.declared.pair.event.PairAnswer.TheVariants.{Error}
use Rattle.tcp_refinement.specs.declared.pair.event.TcpFault.TheVariants as Fault
use Rattle.tcp_refinement.specs.declared.pair.event.TcpSetting.{TcpSetting as Setting}
use Rattle.tcp_refinement.specs.declared.pair.event.TcpSetting.TheVariants as Set
use Rattle.tcp_refinement.specs.Pair.History.{adds, listen_adds, connect_adds, send_adds, recv_adds}
use Rattle.tcp_refinement.specs.Pair.Sides.{other}
use Rattle.tcp_refinement.specs.Pair.Steps.{Acted, acts, listen_says, connect_says, send_says, recv_fault, reads, set_by, offered_at, comes_to, handed, taken_at}
use Rattle.tcp_refinement.specs.Pair.Values.{PairSide, context_at, seen_of, segments_of, and_reply, and_offer, with_segments}

-- so it was, where this is the answer
abbrev pub Ends : PairAnswer → Type 0 → Type 0
Ends (Error Fault.Finished) P = P
Ends answer P = Unit {0}

-- SEGMENTS

one_more : (sent : List SentSegment) (x : SentSegment) → segments_of (sent ++ x ∷ []) ≡ segments_of sent ++ seen_of x ∷ []
one_more sent x = map-append seen_of sent (x ∷ [])

with_reply : (p : Past) (sent : List SentSegment) (answer : Option Reply) → with_answer (with_segments p sent) answer ≡ with_segments p (and_reply sent answer)
with_reply p sent None = refl
with_reply p sent (Some reply) =
    ap (λ (segments : List Segment). record p { sent = segments }) (sym (one_more sent (record { header = reply.header; segment = reply.segment; bytes = [] })))

with_offered :
    (p : Past) (sent : List SentSegment) (offered : Option OpenOffer) (queue : List ℕ)
    → with_offer (with_segments p sent) offered queue ≡ with_segments p (and_offer sent offered queue)
with_offered p sent None queue = refl
with_offered p sent (Some o) queue =
    ap (λ (segments : List Segment). record p { sent = segments })
    (sym (one_more sent (record { header = o.header; segment = o.segment; bytes = payload_of o o.kind queue })))

-- CALLS

-- a socket that wasn't opened is CLOSED
unopened_in : (state : State) (c : Core) (s t : Half) → HoldsBetween s t → s.opening ≡ NotYet → FitsIn state c (unsent s) → is_closed state ≡ true
unopened_in In.Closed c s t holds first fits = refl
unopened_in In.Listen c s t holds first fits =
    absurd (let passive : s.opening ≡ Passive = ap (λ (x : Half). x.opening) fits.side in let clash : NotYet ≡ Passive = sym first ∙ passive in cc)
unopened_in In.SynSent c s t holds first fits =
    let asking : FitsPhase SynSent s.opening s.irs = subst (λ (phase : Phase). FitsPhase phase s.opening s.irs) fits.phase holds.0.well_formed.phase in
    absurd (let clash : NotYet ≡ Active = sym first ∙ asking.0 in cc)
unopened_in other c s t holds first fits = absurd (fits.once first)

unopened_closed : (v w : TcpValue) (p q : Past) → Keeps v p w q → p.opening ≡ NotYet → is_closed v.tcb.state ≡ true
unopened_closed v w p q k first =
    unopened_in v.tcb.state (core_of v) k.side k.peer_side k.holds (ap (λ (past : Past). past.opening) k.past ∙ first) k.fits

listen_past :
    (closed : Bool) (r : Result (Unit {0}) ListenError) (p : Past) (sent : List SentSegment) → closed ≡ true
    → opened_by Passive (closed && is_ok r) (with_segments p sent) ≡ with_segments (listen_adds (listen_says r) p) sent
listen_past true (Ok done) p sent e = refl
listen_past true (Err Listening.InvalidState) p sent e = refl
listen_past true (Err Listening.Unaddressable) p sent e = refl
listen_past false r p sent e = absurd (cc)

connect_past :
    (r : Result (Unit {0}) ConnectError) (p : Past) (sent : List SentSegment)
    → opened_by Active (is_ok r) (with_segments p sent) ≡ with_segments (connect_adds (connect_says r) p) sent
connect_past (Ok done) p sent = refl
connect_past (Err Connecting.InvalidState) p sent = refl
connect_past (Err Connecting.Unaddressable) p sent = refl

send_past :
    (r : Result ℕ SendError) (bytes : List ℕ) (p : Past) (sent : List SentSegment)
    → with_written (with_segments p sent) (bytes_taken r bytes) ≡ with_segments (send_adds bytes (send_says r) p) sent
send_past (Ok count) bytes p sent = refl
send_past (Err refusal) bytes p sent = ap (λ (written : List ℕ). record p { written = written; sent = segments_of sent }) (append-nil p.written)

taken_short : (r : Result ℕ SendError) (bytes : List ℕ) → length (bytes_taken r bytes) ≤ length bytes
taken_short (Ok count) bytes = simp length-take (omega arith)
taken_short (Err refusal) bytes = omega arith

close_past : (closes : Bool) (p : Past) (sent : List SentSegment) → closed_by closes (with_segments p sent) ≡ with_segments (closed_by closes p) sent
close_past true p sent = refl
close_past false p sent = refl

-- what an event asks for
abbrev pub IsAllowed : PairEvent → Past → Type 0
IsAllowed (Listen side endpoint) p = p.opening ≡ NotYet
IsAllowed (Connect side remote local) p = p.opening ≡ NotYet
IsAllowed (Send side bytes) p = length p.written + length bytes < 2 ^ 29
IsAllowed event p = Unit {0}

module _ (s : PairSide) (w : TcpValue) (p q : Past) (others : List SentSegment) (k : Keeps s.socket (with_segments p s.sent) w (with_segments q others)) where
  -- the side afterwards, with what was seen of it
  abbrev Led : PairEvent → Acted → Type 0
  Led event a = Keeps a.side.socket (with_segments (adds event a.answer s.socket.tcb.state p) a.side.sent) w (with_segments q others)

  led_listen : (side : Side) (endpoint : IpListenEndpoint) → p.opening ≡ NotYet → Led (Listen side endpoint) (acts s others (Listen side endpoint))
  led_listen side endpoint first =
      subst (λ (p : Past). Keeps (listen_after s.socket endpoint) p w (with_segments q others))
      (listen_past (is_closed s.socket.tcb.state) (listen_answer s.socket endpoint) p s.sent
      (unopened_closed s.socket w (with_segments p s.sent) (with_segments q others) k first))
      (keeps_listen s.socket w (with_segments p s.sent) (with_segments q others) endpoint k (λ _. first))

  led_connect : (side : Side) (remote : IpEndpoint) (local : IpListenEndpoint) → p.opening ≡ NotYet →
      Led (Connect side remote local) (acts s others (Connect side remote local))
  led_connect side remote local first =
      subst (λ (p : Past). Keeps (connect_after (context_at side s) s.socket remote local) p w (with_segments q others))
      (connect_past (connect_answer (context_at side s) s.socket remote local) p s.sent)
      (keeps_connect (context_at side s) s.socket w (with_segments p s.sent) (with_segments q others) remote local k (λ _. first))

  led_send : (side : Side) (bytes : List ℕ) → length p.written + length bytes < 2 ^ 29 → Led (Send side bytes) (acts s others (Send side bytes))
  led_send side bytes short =
      let few = taken_short (send_answer s.socket (length bytes)) bytes in
      let whole = length-append p.written (bytes_taken (send_answer s.socket (length bytes)) bytes) in
      subst (λ (p : Past). Keeps (send_after s.socket bytes) p w (with_segments q others))
      (send_past (send_answer s.socket (length bytes)) bytes p s.sent)
      (keeps_send s.socket w (with_segments p s.sent) (with_segments q others) bytes k (omega arith))

  led_unread : Keeps (unoffered s.socket) (with_segments p s.sent) w (with_segments q others)
  led_unread = keeps_same s.socket (unoffered s.socket) w (with_segments p s.sent) (with_segments q others) refl k

  led_reads : (side : Side) (count : ℕ) (r : Result ℕ RecvError) → Led (Recv side count) (reads s r)
  led_reads side count (Ok n) = keeps_read s.socket w (with_segments p s.sent) (with_segments q others) n k
  led_reads side count (Err Receiving.InvalidState) = led_unread
  led_reads side count (Err Receiving.Finished) = led_unread

  led_close : (side : Side) → Led (Close side) (acts s others (Close side))
  led_close side =
      subst (λ (p : Past). Keeps (close_after s.socket) p w (with_segments q others)) (close_past (closes_in s.socket.tcb.state) p s.sent)
      (keeps_close s.socket w (with_segments p s.sent) (with_segments q others) k)

  led_set : (setting : Setting) → Keeps (set_by setting s.socket) (with_segments p s.sent) w (with_segments q others)
  led_set (Set.Timeout duration) = keeps_same s.socket (set_by (Set.Timeout duration) s.socket) w (with_segments p s.sent) (with_segments q others) refl k
  led_set (Set.AckDelay duration) = keeps_same s.socket (set_by (Set.AckDelay duration) s.socket) w (with_segments p s.sent) (with_segments q others) refl k
  led_set (Set.KeepAlive interval) = keeps_same s.socket (set_by (Set.KeepAlive interval) s.socket) w (with_segments p s.sent) (with_segments q others) refl k
  led_set (Set.NagleEnabled enabled) =
      keeps_same s.socket (set_by (Set.NagleEnabled enabled) s.socket) w (with_segments p s.sent) (with_segments q others) refl k
  led_set (Set.HopLimit limit) = keeps_same s.socket (set_by (Set.HopLimit limit) s.socket) w (with_segments p s.sent) (with_segments q others) refl k
  led_set (Set.TsvalGenerator generator) =
      keeps_same s.socket (set_by (Set.TsvalGenerator generator) s.socket) w (with_segments p s.sent) (with_segments q others) refl k
  led_set (Set.CongestionControl control) =
      keeps_same s.socket (set_by (Set.CongestionControl control) s.socket) w (with_segments p s.sent) (with_segments q others) refl k
  led_set (Set.PauseSynack paused) = keeps_same s.socket (set_by (Set.PauseSynack paused) s.socket) w (with_segments p s.sent) (with_segments q others) refl k
  led_set (Set.Retries limit) = keeps_same s.socket (set_by (Set.Retries limit) s.socket) w (with_segments p s.sent) (with_segments q others) refl k
  led_set (Set.MinRto duration) = keeps_same s.socket (set_by (Set.MinRto duration) s.socket) w (with_segments p s.sent) (with_segments q others) refl k
  led_set (Set.FineTimer fine) = keeps_same s.socket (set_by (Set.FineTimer fine) s.socket) w (with_segments p s.sent) (with_segments q others) refl k

  led_offer : (side : Side) (instant : ℤ) (sent : Bool) → Led (Offer side instant sent) (acts s others (Offer side instant sent))
  led_offer side instant true =
      let cx = context_at side (record s { instant = instant }) in
      subst (λ (p : Past). Keeps (settled true (offer_of cx s.socket).socket) p w (with_segments q others))
      (with_offered p s.sent (offer_of cx s.socket).socket.offered (offer_of cx s.socket).socket.queued.queue)
      (keeps_sent_offer cx s.socket w (with_segments p s.sent) (with_segments q others) k)
  led_offer side instant false =
      keeps_unsent_offer (context_at side (record s { instant = instant })) s.socket w (with_segments p s.sent) (with_segments q others) k

  -- a segment of the other side comes
  led_comes :
      (side : Side) (at : ℕ) (x : SentSegment) → slice_get others at ≡ Some x
      → Keeps (comes_to side s x).socket (with_segments p (comes_to side s x).sent) w (with_segments q others)
  led_comes side at x e =
      let cx = context_at side s in
      cond_both (accepts s.socket.tcb x.header x.segment) (taken_at s (arrives cx s.socket x.header x.segment x.bytes)) s
      (λ (new : PairSide). Keeps new.socket (with_segments p new.sent) w (with_segments q others))
      (λ _.
      subst (λ (p : Past). Keeps (arrives cx s.socket x.header x.segment x.bytes).socket p w (with_segments q others))
      (with_reply p s.sent (arrives cx s.socket x.header x.segment x.bytes).answer)
      (keeps_arrival cx s.socket w (with_segments p s.sent) (with_segments q others) x.header x.segment x.bytes at k
      (slice_get-map seen_of others at ∙ ap (option_map seen_of) e)))
      (λ _. k)

  led_handed :
      (side : Side) (at : ℕ) (x : Option SentSegment) → slice_get others at ≡ x
      → Keeps (handed side s x).socket (with_segments p (handed side s x).sent) w (with_segments q others)
  led_handed side at None e = k
  led_handed side at (Some x) e = led_comes side at x e

  pub led : (event : PairEvent) → IsAllowed event p → Led event (acts s others event)
  led (Listen side endpoint) allowed = led_listen side endpoint allowed
  led (Connect side remote local) allowed = led_connect side remote local allowed
  led (Send side bytes) allowed = led_send side bytes allowed
  led (Recv side count) allowed = led_reads side count (recv_answer s.socket count)
  led (Close side) allowed = led_close side
  led (Abort side) allowed = keeps_abort s.socket w (with_segments p s.sent) (with_segments q others) k
  led (TcpSetting side setting) allowed = led_set setting
  led (Clock side instant) allowed = k
  led (Offer side instant sent) allowed = led_offer side instant sent
  led (Deliver from at) allowed = led_handed (other from) at (slice_get others at) refl

  -- a read that is answered by the end of the stream
  ends_by :
      (count : ℕ) (r : Result ℕ RecvError) → recv_answer s.socket count ≡ r
      → Ends (reads s r).answer ((q.closed ≡ true) × (p.read ≡ q.written))
  ends_by count (Ok n) e = tt
  ends_by count (Err Receiving.InvalidState) e = tt
  ends_by count (Err Receiving.Finished) e = read_to_the_end s.socket w (with_segments p s.sent) (with_segments q others) count k e

  pub led_end : (count : ℕ) → Ends (reads s (recv_answer s.socket count)).answer ((q.closed ≡ true) × (p.read ≡ q.written))
  led_end count = ends_by count (recv_answer s.socket count) refl
