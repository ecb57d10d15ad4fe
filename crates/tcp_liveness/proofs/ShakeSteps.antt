-- The steps of a handshake, of two sockets: one is asked, and what it offers comes to the other.
use Rattle.std.proofs.Common.{◌≡◌, ℕ, ◌+◌, ◌-◌, ◌%◌, ◌^◌, ◌<◌, ◌≤◌, ◌==◌, ◌&&◌, not, ℤ, Bool, true, false, if◌then◌else◌, List, []}
use Rattle.std.proofs.Common.{length, Option, Some, None, is_some, refl, sym, ap, ◌∙◌, subst, arith}
use Rattle.std.proofs.lemmas.Bool.{eq-eqb}
use Rattle.net_base.specs.Ring.{Ring}
use Rattle.ip_wire.specs.Ip.{destination_of}
use Rattle.ip_wire.specs.IpRepr.{IpRepr}
use Rattle.ip_wire.specs.IpRepr.TheVariants as Ip
use Rattle.ip_wire.specs.Seq.{distance_of}
use Rattle.ip_wire.specs.SeqNumber.{SeqNumber}
use Rattle.ip_wire.specs.TcpControl.{TcpControl}
use Rattle.ip_wire.specs.TcpHeader.{TcpHeader}
use Rattle.ip_wire.specs.TcpTimestampGenerator.{TcpTimestampGenerator}
use Rattle.tcp_refinement.specs.Context.{ContextValue}
use Rattle.tcp_refinement.specs.Endpoints.{CameBetween, GoesBack, GoesBetween}
use Rattle.tcp_refinement.proofs.NameLaws.{answer_back, offer_between_ends}
use Rattle.tcp_invariants.specs.FourTuple.{FourTuple}
use Rattle.tcp_invariants.specs.Endpoints.{is_bare, is_connected_by, pair_in, remote_of, takes_address}
use Rattle.tcp_invariants.specs.Ends.{Proceeds}
use Rattle.tcp_invariants.specs.Moments.{is_due}
use Rattle.tcp_invariants.specs.Names.{Names}
use Rattle.tcp_invariants.specs.Offsets.{distance_before, advanced_by, overlaps_window, distance_after}
use Rattle.tcp_invariants.specs.OpenOffer.{OpenOffer}
use Rattle.tcp_invariants.specs.State.{State}
use Rattle.tcp_invariants.specs.State.TheVariants as In
use Rattle.tcp_invariants.specs.States.{is_answering, is_closed, is_listening, sends_syn}
use Rattle.tcp_block.specs.Arrival.{arrives}
use Rattle.tcp_block.specs.declared.tcb.Tcb.{Tcb}
use Rattle.tcp_block.specs.TcbRules.{snd_max}
use Rattle.tcp_block.specs.Checks.{is_in_window}
use Rattle.tcp_block.specs.Names.{accepts, accepts_in}
use Rattle.tcp_block.specs.Offers.{offer_of}
use Rattle.tcp_block.specs.Retries.{reaches}
use Rattle.tcp_block.specs.Segments.{next_if_heard, segment_len}
use Rattle.tcp_block.specs.Settled.{settled}
use Rattle.tcp_block.specs.Timestamps.{is_outdated, is_stale}
use Rattle.tcp_block.specs.Value.{TcpValue, Received, free_in}
use Rattle.tcp_invariants.proofs.OrderSteps.{clash}
use Rattle.tcp_liveness.specs.StartsOver.{StartsOver}
use Rattle.tcp_liveness.specs.Clocks.{has_stamps}
use Rattle.tcp_liveness.specs.Exchange.{HasSpace}
use Rattle.tcp_liveness.specs.Handshake.{CallsOn, ListensOn}
use Rattle.tcp_liveness.specs.HandshakeOn.{AnswersOn}
use Rattle.tcp_liveness.specs.Pair.{AreMirrored}
use Rattle.tcp_liveness.proofs.AckOffer.{AckGoes, ack_is_transmitted, answering_proceeds, open_proceeds}
use Rattle.tcp_liveness.proofs.Crossed.{Draws}
use Rattle.tcp_liveness.proofs.Exchange.{bare_meets}
use Rattle.tcp_liveness.proofs.Mirrored.{turned}
use Rattle.tcp_liveness.proofs.Pair.{between}
use Rattle.tcp_liveness.proofs.Shakes.{Answering, listener_takes, Connecting, caller_takes, Opens, opens, there_at_next}
use Rattle.tcp_liveness.proofs.SynOffer.{SynGoes, syn_goes}

one_pair : (x y : FourTuple) → Some x ≡ Some y → x ≡ y
one_pair x y e = cc

all_three : (a b c : Bool) → a ≡ true → b ≡ true → c ≡ true → (a && (b && c)) ≡ true
all_three a b c e f g = ap (λ (t : Bool). t && (b && c)) e ∙ (ap (λ (t : Bool). t && c) f ∙ g)

not_second : (a b : Bool) → b ≡ false → (a && b) ≡ false
not_second true b e = e
not_second false b e = refl

pub one_past : (n : ℕ) → n < 2 ^ 32 → ((n + 1) % 2 ^ 32 + (2 ^ 32 - n)) % 2 ^ 32 ≡ 1
one_past n e = omega arith

came_in : (ip : IpRepr) (header : TcpHeader) → CameBetween (pair_in ip header) ip header
came_in (Ip.Ipv4 v) header = record { source = refl; destination = refl; source_port = refl; destination_port = refl }
came_in (Ip.Ipv6 v) header = record { source = refl; destination = refl; source_port = refl; destination_port = refl }

goes_between : (cx : ContextValue) (v : TcpValue) (k : OpenOffer) (own : FourTuple) → v.tcb.names.pair ≡ Some own →
    (offer_of cx v).socket.offered ≡ Some k → GoesBetween own k
goes_between cx v k own named offered =
    let it = offer_between_ends cx v k offered in
    subst (λ (pair : FourTuple). GoesBetween pair k) (one_pair it.0 own (sym it.1 ∙ named)) it.2

-- a socket that neither is closed nor listens takes what goes between its endpoints
pub later_takes :
    (cx : ContextValue) (v : TcpValue) (b : Tcb) (k : OpenOffer) (m : AreMirrored v.tcb b) → is_closed b.state ≡ false → is_listening b.state ≡ false
    → (offer_of cx v).socket.offered ≡ Some k → accepts b k.header k.segment ≡ true
later_takes cx v b k m alive later offered =
    in_state b.state alive later
    ∙ (ap (λ (names : Option FourTuple). is_connected_by names k.header k.segment) m.peer_side_named
    ∙ between m.theirs k.header k.segment (sym m.remote ∙ sym g.destination) (sym m.local ∙ sym g.source) (sym m.remote_port ∙ sym g.destination_port)
    (sym m.local_port ∙ sym g.source_port))
  where
    g : GoesBetween m.own k
    g = goes_between cx v k m.own m.named offered

    in_state : (state : State) → is_closed state ≡ false → is_listening state ≡ false →
        accepts_in state b k.header k.segment ≡ is_connected_by b.names.pair k.header k.segment
    in_state In.Closed e f = clash e
    in_state In.Listen e f = clash f
    in_state other e f = refl

-- their names stay
pub renamed : (a b c d : Tcb) → AreMirrored a b → c.names.pair ≡ a.names.pair → d.names.pair ≡ b.names.pair → AreMirrored c d
renamed a b c d m e f = record {
  own = m.own;
  theirs = m.theirs;
  named = e ∙ m.named;
  peer_side_named = f ∙ m.peer_side_named;
  local = m.local;
  remote = m.remote;
  local_port = m.local_port;
  remote_port = m.remote_port;
}

-- THE SYN

-- a caller, and a side that has taken its SYN
pub record Heard (v w : TcpValue) : Type 0 where
  pub mirrored : AreMirrored v.tcb w.tcb
  pub calls : v.tcb.state ≡ In.SynSent
  pub caller : CallsOn v.tcb
  pub queue : v.queued.queue ≡ []
  pub answerer : AnswersOn w.tcb
  pub syn_unacked : w.tcb.sender.syn_unacked ≡ true
  pub took_syn : w.tcb.receiver.took_syn ≡ true
  pub next : w.tcb.receiver.next ≡ advanced_by v.tcb.sender.una 1

-- a caller and a listener that it calls
pub record MayCall (cx : ContextValue) (v w : TcpValue) : Type 0 where
  pub mtu : 60 < cx.ip_mtu
  pub calls : v.tcb.state ≡ In.SynSent
  pub listens : w.tcb.state ≡ In.Listen
  pub own : FourTuple
  pub named : v.tcb.names.pair ≡ Some own
  pub port : w.tcb.names.listen.port ≡ own.remote_port
  pub address : takes_address w.tcb.names.listen.addr (remote_of own.addresses) ≡ true
  pub over : StartsOver cx v
  pub goes : Proceeds cx v
  pub caller : CallsOn v.tcb
  pub listener : ListensOn w.tcb
  pub syn_unacked : v.tcb.sender.syn_unacked ≡ true
  pub alone : v.tcb.receiver.took_syn ≡ false
  pub queue : v.queued.queue ≡ []

-- the SYN of a caller goes
pub call_goes :
    (cx : ContextValue) (v : TcpValue) (own : FourTuple) → 60 < cx.ip_mtu → v.tcb.state ≡ In.SynSent → v.tcb.names.pair ≡ Some own
    → StartsOver cx v → Proceeds cx v → v.tcb.sender.syn_unacked ≡ true → SynGoes v (offer_of cx v)
call_goes cx v own mtu calls named over goes syn_unacked =
    syn_goes cx v mtu goes (ap (λ (state : State). sends_syn state && not (is_answering state && v.tcb.settings.synack_paused)) calls) syn_unacked over own
    named

module _ (cx cy : ContextValue) (v w : TcpValue) (m : MayCall cx v w) where
  pub syn : SynGoes v (offer_of cx v)
  syn = call_goes cx v m.own m.mtu m.calls m.named m.over m.goes m.syn_unacked

  abbrev k : OpenOffer
  k = syn.k

  g : GoesBetween m.own k
  g = goes_between cx v k m.own m.named syn.offered

  pub no_ack : k.segment.ack_number ≡ None
  no_ack = syn.acknowledges ∙ ap (λ (took : Bool). if took then Some v.tcb.receiver.next else None) m.alone

  pub listener_accepts : accepts w.tcb k.header k.segment ≡ true
  listener_accepts =
      ap (λ (state : State). accepts_in state w.tcb k.header k.segment) m.listens
      ∙ all_three (w.tcb.names.listen.port == k.segment.dst_port) (takes_address w.tcb.names.listen.addr (destination_of k.header))
      (is_bare k.segment.ack_number k.segment.control) (eq-eqb w.tcb.names.listen.port k.segment.dst_port (m.port ∙ sym g.destination_port))
      (ap (takes_address w.tcb.names.listen.addr) g.destination ∙ m.address)
      (ap (λ (n : Option SeqNumber). is_bare n k.segment.control) no_ack ∙ ap (λ (control : TcpControl). is_bare None control) syn.control)

  module _ (bytes : List ℕ) where
    abbrev pub gone : TcpValue
    gone = settled true (offer_of cx v).socket

    abbrev pub new : TcpValue
    new = (arrives cy w k.header k.segment bytes).socket

    pub taken : Answering w k.header k.segment (arrives cy w k.header k.segment bytes)
    taken = listener_takes cy w k.header k.segment bytes m.listens syn.control no_ack syn.named

    pub called : Heard gone new
    called = record {
      mirrored =
          record {
            own = m.own;
            theirs = pair_in k.header k.segment;
            named = ap (λ (names : Names). names.pair) syn.names ∙ m.named;
            peer_side_named = taken.named;
            local = sym g.source ∙ c.source;
            remote = sym g.destination ∙ c.destination;
            local_port = sym g.source_port ∙ c.source_port;
            remote_port = sym g.destination_port ∙ c.destination_port;
          };
      calls = syn.state ∙ m.calls;
      caller =
          record { timeout = syn.timeout ∙ m.caller.timeout; tries = ap (λ (limit : Option ℕ). reaches limit 0) syn.retries ∙ m.caller.tries };
      queue = ap (λ (queued : Ring ℕ). queued.queue) syn.queued ∙ m.queue;
      answerer =
          record {
            answers = taken.state;
            timeout = taken.timeout ∙ m.listener.timeout;
            unpaused = taken.paused ∙ m.listener.unpaused;
            tries =
                ap (λ (n : ℕ). reaches new.tcb.settings.opening_retries (n + 1)) taken.timeouts
                ∙ (ap (λ (limit : Option ℕ). reaches limit 1) taken.retries ∙ m.listener.tries);
          };
      syn_unacked = taken.syn_unacked;
      took_syn = taken.took_syn;
      next = taken.next ∙ ap (λ (n : SeqNumber). advanced_by n 1) (syn.number ∙ sym syn.una);
    }
      where
        c : CameBetween (pair_in k.header k.segment) k.header k.segment
        c = came_in k.header k.segment

-- ITS ANSWER

-- once that has come, too, at this instant
pub record Answered (now : ℤ) (v w : TcpValue) : Type 0 where
  pub mirrored : AreMirrored v.tcb w.tcb
  pub opened : v.tcb.state ≡ In.Established
  pub caller : CallsOn v.tcb
  pub queue : v.queued.queue ≡ []
  pub syn_unacked : v.tcb.sender.syn_unacked ≡ false
  pub flight_size : v.tcb.sender.flight_size ≡ 0
  pub snd_max : v.tcb.sender.snd_max ≡ 0
  pub unanswered : v.tcb.sender.unanswered ≡ 0
  pub timer : v.tcb.timers.retransmit_at ≡ None
  pub took_syn : v.tcb.receiver.took_syn ≡ true
  pub due : v.tcb.timers.ack_at ≡ Some now
  pub next : v.tcb.receiver.next ≡ advanced_by w.tcb.sender.una 1
  pub answers : w.tcb.state ≡ In.SynReceived
  pub una : w.tcb.receiver.next ≡ v.tcb.sender.una

-- the caller has nothing but its SYN in flight, and numbers are of 32 bits
pub record IsInitial (v : TcpValue) : Type 0 where
  pub flight_size : v.tcb.sender.flight_size ≤ 1
  pub snd_max : v.tcb.sender.snd_max ≤ 1
  pub una_small : v.tcb.sender.una.0 < 2 ^ 32

none_left : (n : ℕ) → n ≤ 1 → n - 1 ≡ 0
none_left n e = omega arith

-- a side in SYN-RECEIVED answers, or does so again
pub answer_goes :
    (cx : ContextValue) (w : TcpValue) (own : FourTuple) → 60 < cx.ip_mtu → w.tcb.names.pair ≡ Some own → AnswersOn w.tcb → StartsOver cx w
    → w.tcb.sender.syn_unacked ≡ true → SynGoes w (offer_of cx w)
answer_goes cx w own mtu named on over syn_unacked =
    syn_goes cx w mtu (answering_proceeds cx w on.timeout on.answers on.tries)
    (ap (λ (state : State). sends_syn state && not (is_answering state && w.tcb.settings.synack_paused)) on.answers
    ∙ ap (λ (t : Bool). not t) on.unpaused)
    syn_unacked over own named

-- where it agrees on no timestamps none is too old
pub unstamped : (cx : ContextValue) (w : TcpValue) → SynGoes w (offer_of cx w) → has_stamps w.tcb ≡ false → (header : TcpHeader) (now : ℤ) →
    is_stale (settled true (offer_of cx w).socket).tcb header now ≡ false
unstamped cx w it none header now =
    ap (λ (t : Bool). t && is_outdated (settled true (offer_of cx w).socket).tcb header now)
    (ap (λ (t : Bool). t && is_some (settled true (offer_of cx w).socket).tcb.stamps.generator) it.agreed
    ∙ (ap (λ (g : Option TcpTimestampGenerator). w.tcb.peer.timestamps && is_some g) it.generator ∙ none))

pub acks_by : (w : TcpValue) (number : Option SeqNumber) → number ≡ next_if_heard w.tcb → w.tcb.receiver.took_syn ≡ true →
    number ≡ Some w.tcb.receiver.next
acks_by w number is took = is ∙ ap (λ (took : Bool). if took then Some w.tcb.receiver.next else None) took

module _ (cx cy : ContextValue) (v w : TcpValue) (mtu : 60 < cx.ip_mtu) (c : Heard v w) (over : StartsOver cx w) (f : IsInitial v) where
  pub answer : SynGoes w (offer_of cx w)
  answer = answer_goes cx w c.mirrored.theirs mtu c.mirrored.peer_side_named c.answerer over c.syn_unacked

  abbrev reply : OpenOffer
  reply = answer.k

  pub acks : reply.segment.ack_number ≡ Some w.tcb.receiver.next
  acks = acks_by w reply.segment.ack_number answer.acknowledges c.took_syn

  pub one : distance_of v.tcb.sender.una w.tcb.receiver.next ≡ 1
  one = ap (distance_of v.tcb.sender.una) c.next ∙ one_past v.tcb.sender.una.0 f.una_small

  pub caller_accepts : accepts v.tcb reply.header reply.segment ≡ true
  caller_accepts =
      later_takes cx w v.tcb reply (turned v.tcb w.tcb c.mirrored) (ap is_closed c.calls) (ap is_listening c.calls) answer.offered

  pub answered : (bytes : List ℕ) → Answered cy.instant (arrives cy v reply.header reply.segment bytes).socket (settled true (offer_of cx w).socket)
  answered bytes = record {
    mirrored =
        renamed v.tcb w.tcb (arrives cy v reply.header reply.segment bytes).socket.tcb (settled true (offer_of cx w).socket).tcb c.mirrored a.named
        (ap (λ (names : Names). names.pair) answer.names);
    opened = a.state;
    caller = record { timeout = a.timeout ∙ c.caller.timeout; tries = ap (λ (limit : Option ℕ). reaches limit 0) a.retries ∙ c.caller.tries };
    queue = ap (λ (queued : Ring ℕ). queued.queue) a.queued ∙ c.queue;
    syn_unacked = a.syn_unacked;
    flight_size = a.flight_size ∙ none_left v.tcb.sender.flight_size f.flight_size;
    snd_max = a.snd_max ∙ none_left v.tcb.sender.snd_max f.snd_max;
    unanswered = a.unanswered;
    timer = a.timer f.flight_size;
    took_syn = a.took_syn;
    due = a.due;
    next = a.next ∙ ap (λ (n : SeqNumber). advanced_by n 1) (answer.number ∙ sym answer.una);
    answers = answer.state ∙ c.answerer.answers;
    una = answer.next ∙ (c.next ∙ sym a.una);
  }
    where
      a : Connecting v reply.segment cy.instant (arrives cy v reply.header reply.segment bytes)
      a = caller_takes cy v reply.header reply.segment bytes w.tcb.receiver.next c.calls answer.control acks one answer.named

-- THE ACKNOWLEDGEMENT

-- once that has come, too
pub record Opened (v w : TcpValue) : Type 0 where
  pub own : v.tcb.state ≡ In.Established
  pub theirs : w.tcb.state ≡ In.Established
  pub una : v.tcb.sender.una ≡ w.tcb.receiver.next
  pub peer_side_una : w.tcb.sender.una ≡ v.tcb.receiver.next

module _ (cx cy : ContextValue) (v w : TcpValue) (now : ℤ) (a : Answered now v w) (later : is_due cx.instant (Some now) ≡ true)
    (small : v.tcb.sender.una.0 < 2 ^ 32) (peer_side_small : w.tcb.sender.una.0 < 2 ^ 32) where
  pub last : AckGoes v (offer_of cx v)
  last =
      ack_is_transmitted cx v a.mirrored.own a.mirrored.named (open_proceeds cx v a.caller.timeout a.opened a.timer a.caller.tries a.unanswered) a.opened
      a.syn_unacked a.flight_size a.snd_max a.queue a.took_syn (ap (is_due cx.instant) a.due ∙ later) small

  abbrev ack : OpenOffer
  ack = last.k

  pub listener_takes_it : accepts w.tcb ack.header ack.segment ≡ true
  listener_takes_it = later_takes cx v w.tcb ack a.mirrored (ap is_closed a.answers) (ap is_listening a.answers) last.offered

  pub it : is_stale w.tcb ack.segment cy.instant ≡ false → Opens w (arrives cy w ack.header ack.segment [])
  it initial =
      opens cy w ack.header ack.segment v.tcb.receiver.next a.answers last.plain
      (there_at_next w ack.segment last.plain (last.number ∙ sym a.una) (subst (λ (n : SeqNumber). n.0 < 2 ^ 32) (sym a.una) small)) last.acknowledges
      (ap (distance_of w.tcb.sender.una) a.next ∙ one_past w.tcb.sender.una.0 peer_side_small) initial

  pub opened : is_stale w.tcb ack.segment cy.instant ≡ false → Opened (settled true (offer_of cx v).socket) (arrives cy w ack.header ack.segment []).socket
  opened initial =
      let o = it initial in
      record {
        own = last.state ∙ a.opened;
        theirs = o.state;
        una = last.una ∙ (sym a.una ∙ sym o.next);
        peer_side_una = o.una ∙ (sym a.next ∙ sym last.next);
      }

-- AN ANSWER GOES AGAIN, AND IS ANSWERED

-- a side in SYN-RECEIVED, and one that has taken its SYN
pub record Asking (w v : TcpValue) : Type 0 where
  pub mirrored : AreMirrored w.tcb v.tcb
  pub answerer : AnswersOn w.tcb
  pub syn_unacked : w.tcb.sender.syn_unacked ≡ true
  pub took_syn : w.tcb.receiver.took_syn ≡ true
  pub small : w.tcb.sender.una.0 < 2 ^ 32
  pub took : v.tcb.receiver.next ≡ advanced_by w.tcb.sender.una 1
  -- the other's end lies in its window, or at its front
  pub near : distance_of w.tcb.receiver.next (snd_max v.tcb) < 2 ^ 31
  pub space : HasSpace w v

module _ (cx cy : ContextValue) (w v : TcpValue) (mtu : 60 < cx.ip_mtu) (c : Asking w v) (over : StartsOver cx w) where
  pub question : SynGoes w (offer_of cx w)
  question = answer_goes cx w c.mirrored.own mtu c.mirrored.named c.answerer over c.syn_unacked

  abbrev ask : OpenOffer
  ask = question.k

  pub asks_number : ask.segment.ack_number ≡ Some w.tcb.receiver.next
  asks_number = acks_by w ask.segment.ack_number question.acknowledges c.took_syn

  pub peer_side_accepts : is_closed v.tcb.state ≡ false → is_listening v.tcb.state ≡ false → accepts v.tcb ask.header ask.segment ≡ true
  peer_side_accepts alive later = later_takes cx w v.tcb ask c.mirrored alive later question.offered

  abbrev pub asked : TcpValue
  asked = settled true (offer_of cx w).socket

  module _ (bytes : List ℕ) (d : Draws v (arrives cy v ask.header ask.segment bytes)) where
    out : GoesBetween c.mirrored.own ask
    out = goes_between cx w ask c.mirrored.own c.mirrored.named question.offered

    back : GoesBack ask.header ask.segment d.reply
    back = answer_back cy v ask.header ask.segment bytes d.reply d.answer

    state : asked.tcb.state ≡ In.SynReceived
    state = question.state ∙ c.answerer.answers

    pub side_accepts : accepts asked.tcb d.reply.header d.reply.segment ≡ true
    side_accepts =
        ap (λ (state : State). accepts_in state asked.tcb d.reply.header d.reply.segment) state
        ∙ (ap (λ (names : Option FourTuple). is_connected_by names d.reply.header d.reply.segment)
        (ap (λ (names : Names). names.pair) question.names ∙ c.mirrored.named)
        ∙ between c.mirrored.own d.reply.header d.reply.segment (sym out.source ∙ sym back.destination) (sym out.destination ∙ sym back.source)
        (sym out.source_port ∙ sym back.destination_port) (sym out.destination_port ∙ sym back.source_port))

    there : is_in_window asked.tcb (free_in asked) d.reply.segment 0 ≡ true
    there =
        ap (λ (n : SeqNumber). overlaps_window (distance_before n d.reply.segment.seq_number) (distance_after n d.reply.segment.seq_number)
        (segment_len d.reply.segment 0) (free_in asked)) question.next
        ∙ (ap (λ (n : SeqNumber). overlaps_window (distance_before w.tcb.receiver.next n) (distance_after w.tcb.receiver.next n) (segment_len d.reply.segment 0)
        (free_in asked)) d.number
        ∙ (ap (λ (size : ℕ). overlaps_window (distance_before w.tcb.receiver.next (snd_max v.tcb)) (distance_after w.tcb.receiver.next (snd_max v.tcb)) (0 + size)
        (free_in asked)) d.plain.none
        ∙ (ap (λ (r : Received). overlaps_window (distance_before w.tcb.receiver.next (snd_max v.tcb)) (distance_after w.tcb.receiver.next (snd_max v.tcb)) 0
        (length r.map)) question.received
        ∙ bare_meets (distance_of w.tcb.receiver.next (snd_max v.tcb)) (free_in w) c.near c.space)))

    pub opens_it : is_stale asked.tcb d.reply.segment cx.instant ≡ false → Opens asked (arrives cx asked d.reply.header d.reply.segment [])
    opens_it initial =
        opens cx asked d.reply.header d.reply.segment v.tcb.receiver.next state d.plain there d.acknowledges
        (ap (λ (n : SeqNumber). distance_of n v.tcb.receiver.next) question.una
        ∙ (ap (distance_of w.tcb.sender.una) c.took ∙ one_past w.tcb.sender.una.0 c.small))
        initial
