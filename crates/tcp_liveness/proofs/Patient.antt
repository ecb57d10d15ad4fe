-- Nobody gives up who has four tries left: of so many turns of a side in a row the last at least is answered.
use Rattle.std.proofs.Common.{◌≡◌, ◌⊎◌, inl, inr, ℕ, zero, suc, ◌+◌, ◌-◌, ◌<◌, ◌≤◌, ◌==◌, ◌&&◌, ◌||◌, min, not, ℤ, Bool, true, false}
use Rattle.std.proofs.Common.{if◌then◌else◌, length, Option, Some, None, is_some, refl, sym, ap, ◌∙◌, subst, arith}
use Rattle.std.proofs.lemmas.Bool.{leb-false, lt-leb, ne_eqb}
use Rattle.ip_wire.specs.Seq.{distance_of}
use Rattle.ip_wire.specs.SeqNumber.{SeqNumber}
use Rattle.tcp_invariants.specs.FourTuple.{FourTuple}
use Rattle.tcp_invariants.specs.Moments.{is_due}
use Rattle.tcp_invariants.specs.Names.{Names}
use Rattle.tcp_invariants.specs.OpenOffer.{OpenOffer}
use Rattle.tcp_invariants.specs.State.{State}
use Rattle.tcp_invariants.specs.State.TheVariants as In
use Rattle.tcp_invariants.specs.States.{is_answering, is_opening, may_send_data}
use Rattle.tcp_invariants.proofs.OrderSteps.{clash}
use Rattle.tcp_block.specs.declared.tcb.Tcb.{Tcb}
use Rattle.tcp_block.specs.Offers.{offer_of}
use Rattle.tcp_block.specs.Probing.{probe_deadline}
use Rattle.tcp_block.specs.Retries.{gives_up, is_last_probe, is_last_timeout, reaches, retries_of}
use Rattle.tcp_block.specs.Rules.{has_payload, keep_alive_deadline, resends, payload_choice}
use Rattle.tcp_block.specs.Segments.{segment_len}
use Rattle.tcp_block.specs.Settled.{settled}
use Rattle.tcp_refinement.specs.Pair.Sides.{other}
use Rattle.tcp_block.specs.Value.{TcpValue, free_in, queued_in}
use Rattle.tcp_refinement.specs.Pair.Values.{PairValue}
use Rattle.tcp_refinement.specs.declared.pair.event.Side.{Side}
use Rattle.tcp_refinement.specs.declared.pair.event.Side.TheVariants.{A, B}
use Rattle.tcp_liveness.specs.Arrivals.{is_synchronized}
use Rattle.tcp_liveness.specs.BothWays.{MayAsk, is_over, roused_in, turn_in, waits_in, wake_in, woken_in}
use Rattle.tcp_liveness.specs.Exchange.{GoesFromUna, data_of}
use Rattle.tcp_liveness.specs.Pair.{context_of, left_in, mtu_of, socket_of}
use Rattle.tcp_liveness.specs.Reached.{IsReached}
use Rattle.tcp_liveness.specs.Settle.{read_in, restart_in}
use Rattle.tcp_liveness.specs.Talking.{AreTalking, HasTries, HaveTries, MayTalk, NeverGiveUp, SpeaksIn}
use Rattle.tcp_liveness.proofs.Acked.{IsHeard}
use Rattle.tcp_liveness.proofs.Hears.{Heard, IsSilent, Outcome, exchange_heard}
use Rattle.tcp_liveness.proofs.Hosts.{read_mtu, roused_mtu, woken_mtu}
use Rattle.tcp_liveness.proofs.Mirrored.{named_in}
use Rattle.tcp_liveness.proofs.Offered.{goes_from_una, is_transmitted_of}
use Rattle.tcp_liveness.proofs.Pair.{HasSome, below_quarter, further, had_in, has_some}
use Rattle.tcp_liveness.proofs.Resent.{again_sent}
use Rattle.tcp_liveness.proofs.Roused.{refused_same, roused_calm, roused_other, roused_own}
use Rattle.tcp_liveness.proofs.Settles.{empty_after, read_peer_side}
use Rattle.tcp_liveness.proofs.Spoken.{HasSize, IsRoused, IsSlowed, IsSpoken, Voice, asked_roused, says, says_most, says_payload, spoken, voice_of}
use Rattle.tcp_liveness.proofs.Talks.{BothStay, again_y, both_on, may_solicit, may_turn, mine, minutes, of, late_at}
use Rattle.tcp_liveness.proofs.Talks.{reached_y, runs, rx, same_own, sends, set, starts, starts_y, stay, waiting}
use Rattle.tcp_liveness.proofs.TurnClocks.{HasTurn, Minutes, first_turn, midway, next_round, second_turn}
use Rattle.tcp_liveness.proofs.Turns.{late_on, nothing_turns, turned}
use Rattle.tcp_liveness.proofs.Ways.{BothCalm, of_side, read_calm}
use Rattle.tcp_liveness.proofs.WindowPairs.{reached_windows}

-- TRIES

upto : (a b c : ℕ) → a ≤ b → b ≤ c → a ≤ c
upto a b c e f = omega arith

-- fewer than what the limit leaves
fewer : (limit : Option ℕ) (a b : ℕ) → a ≤ b → reaches limit b ≡ false → reaches limit a ≡ false
fewer None a b e f = refl
fewer (Some limit) a b e f = lt-leb limit a (below a b limit e (leb-false limit b f)) where
  below : (a b limit : ℕ) → a ≤ b → b < limit → a < limit
  below a b limit e f = omega arith

neither : (a c : Bool) → a ≡ false → c ≡ false → (a || c) ≡ false
neither a c e f = ap (λ (t : Bool). t || c) e ∙ f

not_second : (a c : Bool) → c ≡ false → (a && c) ≡ false
not_second true c e = e
not_second false c e = refl

-- a side past SYN-RECEIVED with a timeout left and a question
still_tries : (b : Tcb) (now : ℤ) (queued : ℕ) → is_synchronized b.state ≡ true → reaches b.settings.retries (b.sender.timeouts + 1) ≡ false →
    reaches b.settings.retries b.sender.unanswered ≡ false → gives_up now b queued ≡ false
still_tries b now queued on timeouts questions =
    neither (is_last_timeout now b) (is_last_probe now b queued)
    (not_second (is_due now b.timers.retransmit_at) (reaches (retries_of b) (b.sender.timeouts + 1))
    (ap (λ (limit : Option ℕ). reaches limit (b.sender.timeouts + 1)) (limit b.state on) ∙ timeouts))
    (not_second (is_due now (probe_deadline b queued) || is_due now (keep_alive_deadline b))
    (is_due now b.timers.counts_from && reaches b.settings.retries b.sender.unanswered)
    (not_second (is_due now b.timers.counts_from) (reaches b.settings.retries b.sender.unanswered) questions))
  where
    limit : (state : State) → is_synchronized state ≡ true →
        (if is_opening state || is_answering state then b.settings.opening_retries else b.settings.retries) ≡ b.settings.retries
    limit In.SynSent e = clash (sym e)
    limit In.SynReceived e = clash (sym e)
    limit other e = refl

-- or with a question left, where no timer runs
still_asks : (b : Tcb) (now : ℤ) (queued : ℕ) → b.timers.retransmit_at ≡ None → reaches b.settings.retries b.sender.unanswered ≡ false →
    gives_up now b queued ≡ false
still_asks b now queued timer questions =
    neither (is_last_timeout now b) (is_last_probe now b queued)
    (ap (λ (instant : Option ℤ). is_due now instant && reaches (retries_of b) (b.sender.timeouts + 1)) timer)
    (not_second (is_due now (probe_deadline b queued) || is_due now (keep_alive_deadline b))
    (is_due now b.timers.counts_from && reaches b.settings.retries b.sender.unanswered)
    (not_second (is_due now b.timers.counts_from) (reaches b.settings.retries b.sender.unanswered) questions))

-- STAGES

-- how much payload a socket says once its timer has run out
says_in : Option FourTuple → ℕ → TcpValue → ℕ
says_in None mtu v = 0
says_in (Some pair) mtu v = says (voice_of pair.addresses mtu v.tcb) v.queued

abbrev said : ℕ → TcpValue → ℕ
said mtu v = says_in v.tcb.names.pair mtu v

said_as : (mtu : ℕ) (v : TcpValue) (pair : FourTuple) → v.tcb.names.pair ≡ Some pair →
    said mtu v ≡ says (voice_of pair.addresses mtu v.tcb) v.queued
unfolding says_in
said_as mtu v pair named = ap (λ (names : Option FourTuple). says_in names mtu v) named

abbrev said_in : PairValue → Side → ℕ
said_in p side = said (mtu_of p side) (socket_of p side)

-- nothing is to be retransmitted; and the timer runs, or the window is closed
record IsSteady (v : TcpValue) : Type 0 where
  resend : v.tcb.sender.resend ≡ false
  probes : v.tcb.loss.probes ≡ false
  runs : (is_some v.tcb.timers.retransmit_at ≡ true) ⊎ (v.tcb.peer.window ≡ 0)

-- Of turns in a row that aren't answered each brings the side to the next stage: anything may go in the first; in the second as much goes as
-- in each later one; the third brings the FIN, if it wasn't taken; and what the fourth says was taken.
abbrev Patience : PairValue → Side → Type 0
Patience p side =
    HasTries 4 p side
    ⊎ ((HasTries 3 p side × IsSteady (socket_of p side))
    ⊎ ((HasTries 2 p side × (IsSteady (socket_of p side) × (said_in p side ≤ had_in p side)))
    ⊎ (HasTries 1 p side × (IsSteady (socket_of p side) × (said_in p side < had_in p side)))))

tries_of : (m n : ℕ) (p : PairValue) (side : Side) → m ≤ n → HasTries n p side → HasTries m p side
tries_of m n p side e t = record {
  timeouts = fewer (socket_of p side).tcb.settings.retries (b.sender.timeouts + m) (b.sender.timeouts + n) (more b.sender.timeouts m n e) t.timeouts;
  questions = fewer (socket_of p side).tcb.settings.retries (b.sender.unanswered + m) (b.sender.unanswered + n) (more b.sender.unanswered m n e) t.questions;
}
  where
    b : Tcb
    b = (socket_of p side).tcb

    more : (a m n : ℕ) → m ≤ n → a + m ≤ a + n
    more a m n e = omega arith

-- each stage has a try left
a_try : (p : PairValue) (side : Side) → Patience p side → HasTries 1 p side
a_try p side (inl four) = tries_of 1 4 p side (omega arith) four
a_try p side (inr (inl three)) = tries_of 1 3 p side (omega arith) three.0
a_try p side (inr (inr (inl two))) = tries_of 1 2 p side (omega arith) two.0
a_try p side (inr (inr (inr one))) = one.0

-- a limit of five at least, if there is one
abbrev IsLong : PairValue → Side → Type 0
IsLong p side = reaches (socket_of p side).tcb.settings.retries 4 ≡ false

record BothLong (p : PairValue) : Type 0 where
  a : IsLong p A
  b : IsLong p B

long_of : (p : PairValue) (side : Side) → BothLong p → IsLong p side
long_of p A l = l.a
long_of p B l = l.b

long_on : (p q : PairValue) → BothCalm p q → BothLong p → BothLong q
long_on p q c l = record {
  a = ap (λ (limit : Option ℕ). reaches limit 4) c.a.retries ∙ l.a;
  b = ap (λ (limit : Option ℕ). reaches limit 4) c.b.retries ∙ l.b;
}

-- a side that was answered has four
answered : (p : PairValue) (side : Side) → IsLong p side → IsHeard (socket_of p side).tcb.sender → HasTries 4 p side
answered p side long heard = record {
  timeouts = ap (λ (n : ℕ). reaches (socket_of p side).tcb.settings.retries (n + 4)) heard.timeouts ∙ long;
  questions = ap (λ (n : ℕ). reaches (socket_of p side).tcb.settings.retries (n + 4)) heard.unanswered ∙ long;
}

abbrev IsPatient : PairValue → Side → Type 0
IsPatient p side = waits_in p side ≡ true → Patience p side

-- or the peer has its turn first
abbrev IsMidway : PairValue → Side → Side → Type 0
IsMidway p side peer_side = IsPatient p side ⊎ (waits_in p peer_side ≡ true)

-- it waits
all_wait : (left : ℕ) (mine theirs : Bool) → 1 ≤ left → mine ≡ false → theirs ≡ false → (not (left == 0) && (not mine && not theirs)) ≡ true
all_wait left mine theirs some e f =
    ap (λ (t : Bool). not t && (not mine && not theirs)) (ne_eqb left 0 (never left some))
    ∙ (ap (λ (t : Bool). not t && not theirs) e ∙ ap not f)
  where
    never : (n : ℕ) → 1 ≤ n → n ≡ 0 → ⊥
    never n e f = absurd (omega arith)

-- A SIDE SPEAKS

first_tries : (p : PairValue) (side : Side) → BothStay p → waits_in p side ≡ true → HasTries 1 p side →
    gives_up (restart_in p side) (socket_of (read_in p side) side).tcb (queued_in (socket_of (read_in p side) side)) ≡ false
first_tries p side s waits t =
    subst (λ (v : TcpValue). gives_up (restart_in p side) v.tcb (queued_in v) ≡ false) (sym (same_own p side))
    (still_tries b (restart_in p side) (queued_in (socket_of p side))
    (late_on b.state (late_at p side s) (waiting (left_in p side) (is_over p side) (is_over p (other side)) waits).own) t.timeouts
    (fewer b.settings.retries b.sender.unanswered (b.sender.unanswered + 1) (more b.sender.unanswered) t.questions))
  where
    b : Tcb
    b = (socket_of p side).tcb

    more : (n : ℕ) → n ≤ n + 1
    more n = omega arith

module _ (n : ℕ) (p : PairValue) (side : Side) (r : IsReached p) (s : BothStay p) (m : HasTurn n p side) (waits : waits_in p side ≡ true)
    (tries : gives_up (restart_in p side) (socket_of (read_in p side) side).tcb (queued_in (socket_of (read_in p side) side)) ≡ false) where
  abbrev x : PairValue
  x = read_in p side

  abbrev v : TcpValue
  v = socket_of x side

  abbrev y : PairValue
  y = roused_in p side

  abbrev w : TcpValue
  w = socket_of y side

  abbrev u : TcpValue
  u = socket_of y (other side)

  abbrev pair : FourTuple
  pair = (named_in x side (rx n p side r s m waits tries) (mine n p side r s m waits tries)).0

  named : v.tcb.names.pair ≡ Some pair
  named = (named_in x side (rx n p side r s m waits tries) (mine n p side r s m waits tries)).1

  -- a packet is as long as before
  abbrev mtu : ℕ
  mtu = mtu_of p side

  roused : IsRoused pair.addresses mtu v.tcb w.tcb
  roused =
      subst (λ (k : ℕ). IsRoused pair.addresses k v.tcb w.tcb) (read_mtu p side)
      (subst (λ (z : TcpValue). IsRoused pair.addresses (mtu_of x side) v.tcb z.tcb) (sym (roused_own p side))
      (again
      (asked_roused (context_of x side (restart_in p side)) v pair named (starts n p side r s m waits tries) (sends n p side r s m waits tries)
      (again_sent x side (rx n p side r s m waits tries) (of x side sx).acked pair.addresses (mtu_of x side) v.queued)
      (runs n p side r s m waits tries))))
    where
      sx : BothStay x
      sx = both_on p x (read_calm p side) s

      again : IsRoused pair.addresses (mtu_of x side) v.tcb (offer_of (context_of x side (restart_in p side)) v).socket.tcb →
          IsRoused pair.addresses (mtu_of x side) v.tcb (settled false (offer_of (context_of x side (restart_in p side)) v).socket).tcb
      again g = record { timeouts = g.timeouts; unanswered = g.unanswered; again = g.again; voice = g.voice; slowed = g.slowed }

  -- the side doesn't give up later, either
  then_tries : HasTries 1 p side → gives_up (wake_in y side) w.tcb (queued_in w) ≡ false
  then_tries t =
      still_asks w.tcb (wake_in y side) (queued_in w) (set n p side r s m waits tries).timer
      (ap (λ (limit : Option ℕ). reaches limit w.tcb.sender.unanswered) (of_side p y side (roused_calm p side s.late)).retries
      ∙ (ap (λ (k : ℕ). reaches (socket_of p side).tcb.settings.retries k)
      (roused.unanswered ∙ ap (λ (z : TcpValue). z.tcb.sender.unanswered) (same_own p side))
      ∙ fewer (socket_of p side).tcb.settings.retries (socket_of p side).tcb.sender.unanswered ((socket_of p side).tcb.sender.unanswered + 1)
      (more (socket_of p side).tcb.sender.unanswered) t.questions))
    where
      more : (n : ℕ) → n ≤ n + 1
      more n = omega arith

  module _ (tries_on : gives_up (wake_in y side) w.tcb (queued_in w) ≡ false) where
    abbrev q : PairValue
    q = woken_in p side

    abbrev then_at : ℤ
    then_at = wake_in y side

    asks : MayAsk p side
    asks = may_solicit n p side r s m waits tries tries_on

    abbrev o : OpenOffer
    o = asks.o

    abbrev g : TcpValue
    g = settled true (offer_of (context_of y side then_at) w).socket

    named_w : w.tcb.names.pair ≡ Some pair
    named_w = ap (λ (names : Names). names.pair) (set n p side r s m waits tries).names ∙ named

    sends_w : may_send_data w.tcb.state ≡ true
    sends_w = ap may_send_data (set n p side r s m waits tries).state ∙ sends n p side r s m waits tries

    sp : IsSpoken pair.addresses mtu w w.tcb o g
    sp =
        subst (λ (k : ℕ). IsSpoken pair.addresses k w w.tcb o g) (roused_mtu p side)
        (spoken (context_of y side then_at) w pair named_w (starts_y n p side r s m waits tries tries_on) sends_w (again_y n p side r s m waits tries)
        (set n p side r s m waits tries).none (set n p side r s m waits tries).timer o asks.reaches.offered
        asks.reaches.kind)

    since : BothCalm p (turn_in p side)
    since = (turned (Unit {0}) p side r s.late (λ _. asks) (λ _. inr tt)).calm

    turns : turn_in p side ≡ q
    turns = ap (λ (t : Bool). if t then q else p) waits

    calm : BothCalm p q
    calm = subst (BothCalm p) turns since

    -- WHAT STAYS

    said_still : said mtu g ≡ said_in p side
    said_still =
        said_as mtu g pair (ap (λ (names : Names). names.pair) sp.names ∙ named_w)
        ∙ (ap (λ (voice : Voice). says voice g.queued) (sp.voice ∙ roused.voice)
        ∙ (ap (says (voice_of pair.addresses mtu v.tcb)) (sp.queued ∙ (set n p side r s m waits tries).queued)
        ∙ (sym (said_as mtu v pair named) ∙ ap (said mtu) (same_own p side))))

    said_w : said mtu w ≡ said_in p side
    said_w =
        said_as mtu w pair named_w
        ∙ (ap (λ (voice : Voice). says voice w.queued) roused.voice
        ∙ (ap (says (voice_of pair.addresses mtu v.tcb)) (set n p side r s m waits tries).queued
        ∙ (sym (said_as mtu v pair named) ∙ ap (said mtu) (same_own p side))))

    had_still : had_in y side ≡ had_in p side
    had_still =
        ap (λ (a : SeqNumber). distance_of a u.tcb.receiver.next)
        (ap (λ (z : TcpValue). z.tcb.sender.una) (roused_own p side)
        ∙ ((refused_same (context_of x side (restart_in p side)) v (late_at x side (both_on p x (read_calm p side) s))).una
        ∙ ap (λ (z : TcpValue). z.tcb.sender.una) (same_own p side)))
        ∙ ap (λ (b : SeqNumber). distance_of (socket_of p side).tcb.sender.una b)
        (ap (λ (z : TcpValue). z.tcb.receiver.next) (roused_other p side) ∙ ap (λ (b : Tcb). b.receiver.next) (read_peer_side p side))

    some : HasSome y side
    some = has_some y side then_at o (reached_y n p side r s m waits tries) asks.stream asks.reaches

    goes : GoesFromUna w o
    goes =
        goes_from_una (context_of y side then_at) w o some.una asks.reaches.own.acknowledged asks.reaches.over asks.reaches.offered
        asks.reaches.kind

    -- WHERE WHAT WAS NEW WAS TAKEN

    module _ (it : IsSilent y side then_at o) where
      -- a try less
      spent : (k : ℕ) → HasTries (suc k) p side → HasTries k q side
      spent k t = record {
        timeouts =
            ap (λ (limit : Option ℕ). reaches limit ((socket_of q side).tcb.sender.timeouts + k)) (of_side p q side calm).retries
            ∙ fewer (socket_of p side).tcb.settings.retries ((socket_of q side).tcb.sender.timeouts + k)
            ((socket_of p side).tcb.sender.timeouts + suc k)
            (less (socket_of q side).tcb.sender.timeouts w.tcb.sender.timeouts v.tcb.sender.timeouts (socket_of p side).tcb.sender.timeouts k
            (ap (λ (z : TcpValue). z.tcb.sender.timeouts) it.own ∙ sp.timeouts) roused.timeouts
            (ap (λ (z : TcpValue). z.tcb.sender.timeouts) (same_own p side)))
            t.timeouts;
        questions =
            ap (λ (limit : Option ℕ). reaches limit ((socket_of q side).tcb.sender.unanswered + k)) (of_side p q side calm).retries
            ∙ fewer (socket_of p side).tcb.settings.retries ((socket_of q side).tcb.sender.unanswered + k)
            ((socket_of p side).tcb.sender.unanswered + suc k)
            (more (socket_of q side).tcb.sender.unanswered g.tcb.sender.unanswered w.tcb.sender.unanswered (socket_of p side).tcb.sender.unanswered k
            (ap (λ (z : TcpValue). z.tcb.sender.unanswered) it.own) sp.unanswered
            (roused.unanswered ∙ ap (λ (z : TcpValue). z.tcb.sender.unanswered) (same_own p side)))
            t.questions;
      }
        where
          less : (new mid old first k : ℕ) → new ≡ mid → mid ≤ old + 1 → old ≡ first → new + k ≤ first + suc k
          less new mid old first k a b c = omega arith

          more : (new gone mid first k : ℕ) → new ≡ gone → gone ≤ mid + 1 → mid ≡ first → new + k ≤ first + suc k
          more new gone mid first k a b c = omega arith

      steady : IsSteady (socket_of q side)
      steady = subst IsSteady (sym it.own) (record { resend = sp.resend; probes = sp.probes; runs = sp.runs })

      said_there : said_in q side ≡ said_in p side
      said_there = ap (λ (k : ℕ). said k (socket_of q side)) (woken_mtu p side) ∙ (ap (said mtu) it.own ∙ said_still)

      had_more : had_in q side ≡ had_in p side + it.by
      had_more =
          ap (λ (a : SeqNumber). distance_of a (socket_of q (other side)).tcb.receiver.next)
          (ap (λ (z : TcpValue). z.tcb.sender.una) it.own
          ∙ (is_transmitted_of (context_of y side then_at) w o asks.reaches.own.acknowledged asks.reaches.offered asks.reaches.kind).sent.una)
          ∙ (ap (λ (b : SeqNumber). distance_of w.tcb.sender.una b) it.next
          ∙ (further w.tcb.sender.una.0 u.tcb.receiver.next.0 it.by some.una some.next
          (below_quarter (had_in y side) (left_in y side) some.within some.few) it.few
          ∙ ap (λ (k : ℕ). k + it.by) had_still))

      began : distance_of o.segment.seq_number u.tcb.receiver.next ≡ had_in p side
      began = ap (λ (a : SeqNumber). distance_of a u.tcb.receiver.next) goes.number ∙ had_still

      -- where nothing is to be retransmitted, as much goes as once the timer has run out
      module _ (before : IsSteady (socket_of p side)) where
        steady_v : IsSteady v
        steady_v = subst IsSteady (sym (same_own p side)) before

        quiet : resends w.tcb pair.addresses mtu w.queued ≡ false
        quiet = roused.again steady_v.resend steady_v.probes (has_payload w.tcb pair.addresses mtu w.queued)

        size : HasSize w (payload_choice w.tcb pair.addresses mtu w.queued).len o
        size = by sp.size where
          by : (resends w.tcb pair.addresses mtu w.queued ≡ true) ⊎ HasSize w (payload_choice w.tcb pair.addresses mtu w.queued).len o →
              HasSize w (payload_choice w.tcb pair.addresses mtu w.queued).len o
          by (inl again) = clash (sym again ∙ quiet)
          by (inr it) = it

        how : IsSlowed w.tcb ⊎ (w.tcb.peer.window ≡ 0)
        how = by steady_v.runs where
          by : (is_some v.tcb.timers.retransmit_at ≡ true) ⊎ (v.tcb.peer.window ≡ 0) → IsSlowed w.tcb ⊎ (w.tcb.peer.window ≡ 0)
          by (inl timer) = inl (roused.slowed timer)
          by (inr shut) = inr (ap (λ (voice : Voice). voice.window) roused.voice ∙ shut)

        len_is : (payload_choice w.tcb pair.addresses mtu w.queued).len ≡ said_in p side
        len_is =
            subst (λ (k : ℕ). (payload_choice w.tcb pair.addresses k w.queued).len ≡ says (voice_of pair.addresses k w.tcb) w.queued) (roused_mtu p side)
            (says_payload (context_of y side then_at) w pair named_w (starts_y n p side r s m waits tries tries_on) sends_w
            (again_y n p side r s m waits tries) (set n p side r s m waits tries).none (set n p side r s m waits tries).timer how)
            ∙ (sym (said_as mtu w pair named_w) ∙ said_w)

        -- it fits the buffer of the other, who has read all
        fits : said_in p side ≤ free_in u
        fits =
            by (said_in p side) (says (voice_of pair.addresses mtu w.tcb) w.queued) w.tcb.peer.window (length u.received.waiting) (free_in u)
            (sym said_w ∙ said_as mtu w pair named_w) (says_most (voice_of pair.addresses mtu w.tcb) w.queued)
            (reached_windows y side (reached_y n p side r s m waits tries)).window
            (ap (λ (z : TcpValue). length z.received.waiting) (roused_other p side) ∙ ap length (empty_after p side r))
          where
            by : (said says window waiting free : ℕ) → said ≡ says → says ≤ window → window ≤ waiting + free → waiting ≡ 0 → said ≤ free
            by said says window waiting free a b c d = omega arith

        all_payload : said_in q side ≤ had_in q side
        all_payload =
            by (said_in q side) (said_in p side) (payload_choice w.tcb pair.addresses mtu w.queued).len (length (data_of w o))
            (distance_of o.segment.seq_number u.tcb.receiver.next) (free_in u) it.by (had_in p side) (had_in q side) said_there len_is size.least began
            fits it.all had_more
          where
            by : (new old len size start free more had all : ℕ) → new ≡ old → len ≡ old → len ≤ size → start ≡ had → old ≤ free → min (size - start) free ≤ more →
                all ≡ had + more → new ≤ all
            by new old len size start free more had all a b c d e f g = omega arith

        -- what was taken isn't new
        not_new : said_in p side < had_in p side → ⊥
        not_new less =
            by (said_in p side) (payload_choice w.tcb pair.addresses mtu w.queued).len (segment_len o.segment (length (data_of w o)))
            (distance_of o.segment.seq_number u.tcb.receiver.next) (had_in p side) len_is size.most it.new.ends began less
          where
            by : (said len size start had : ℕ) → len ≡ said → size ≤ suc len → start < size → start ≡ had → said < had → ⊥
            by said len size start had a b c d e = absurd (omega arith)

      proceeds : Patience p side → Patience q side
      proceeds (inl four) = inr (inl (spent 3 four, steady))
      proceeds (inr (inl three)) = inr (inr (inl (spent 2 three.0, (steady, all_payload three.1))))
      proceeds (inr (inr (inl two))) =
          inr
          (inr
          (inr (
            spent 1 two.0,
            (
              steady,
              by (said_in q side) (said_in p side) (had_in p side) (had_in q side) it.by said_there two.1.1 had_more it.some,
            ),
          )))
        where
          by : (new old had all more : ℕ) → new ≡ old → old ≤ had → all ≡ had + more → 1 ≤ more → new < all
          by new old had all more a b c d = omega arith
      proceeds (inr (inr (inr one))) = absurd (not_new one.1.0 one.1.1)

    -- A TURN

    there : is_over q (other side) ≡ false → Heard y side then_at o
    there alive = exchange_heard y side then_at o (reached_y n p side r s m waits tries) asks.stream asks.reaches asks.wakes alive

    waits_there : (side : Side) → 1 ≤ left_in q (other side) → is_over q side ≡ false → is_over q (other side) ≡ false → waits_in q (other side) ≡ true
    waits_there A owes e f = all_wait (left_in q B) (is_over q B) (is_over q A) owes f e
    waits_there B owes e f = all_wait (left_in q A) (is_over q A) (is_over q B) owes f e

    -- the side's own tries
    own_after : BothLong p → Patience p side → IsMidway q side (other side)
    own_after long before = at (is_over q side) (is_over q (other side)) refl refl where
      at : (own over : Bool) → is_over q side ≡ own → is_over q (other side) ≡ over → IsMidway q side (other side)
      at true over e f = inl (λ waits. clash (sym e ∙ (waiting (left_in q side) (is_over q side) (is_over q (other side)) waits).own))
      at false true e f = inl (λ waits. clash (sym f ∙ (waiting (left_in q side) (is_over q side) (is_over q (other side)) waits).others))
      at false false e f = by (there f).outcome where
        by : Outcome y side then_at o → IsMidway q side (other side)
        by (inl silent) = inl (λ _. proceeds silent before)
        by (inr (inl heard)) = inl (λ _. inl (answered q side (long_of q side (long_on p q calm long)) heard))
        by (inr (inr (inl over))) = clash (sym over ∙ f)
        by (inr (inr (inr owes))) = inr (waits_there side owes e f)

    -- the other's, who was told of all
    others_after : BothLong p → waits_in q (other side) ≡ true → Patience q (other side)
    others_after long waits =
        inl
        (answered q (other side) (long_of q (other side) (long_on p q calm long))
        (there (waiting (left_in q (other side)) (is_over q (other side)) (is_over q (other (other side))) waits).own).theirs)

-- ROUNDS

speaks : (n : ℕ) (p : PairValue) (side : Side) → IsReached p → BothStay p → HasTurn n p side → IsPatient p side → SpeaksIn p side
speaks n p side r s m patient waits =
    let t = a_try p side (patient waits) in
    let first = first_tries p side s waits t in
    record { tries = first; tries_on = then_tries n p side r s m waits first t }

module _ (n : ℕ) (p : PairValue) (side : Side) (r : IsReached p) (s : BothStay p) (m : HasTurn n p side) (long : BothLong p)
    (patient : IsPatient p side) where
  -- its own turn leaves a side a try, or the other waits
  own_turn : IsMidway (turn_in p side) side (other side)
  own_turn = at (waits_in p side) refl where
    at : (waits : Bool) → waits_in p side ≡ waits → IsMidway (turn_in p side) side (other side)
    at true e =
        let it = speaks n p side r s m patient e in
        subst (λ (q : PairValue). IsMidway q side (other side)) (sym (turns n p side r s m e it.tries it.tries_on))
        (own_after n p side r s m e it.tries it.tries_on long (patient e))
    at false e = inl (λ waits. clash (sym waits ∙ (ap (λ (q : PairValue). waits_in q side) (nothing_turns p side e) ∙ e)))

  -- and that of the other leaves it a try
  others_turn : IsMidway p (other side) side → IsPatient (turn_in p side) (other side)
  others_turn before = at (waits_in p side) refl where
    at : (waits : Bool) → waits_in p side ≡ waits → IsPatient (turn_in p side) (other side)
    at true e =
        let it = speaks n p side r s m patient e in
        subst (λ (q : PairValue). IsPatient q (other side)) (sym (turns n p side r s m e it.tries it.tries_on))
        (others_after n p side r s m e it.tries it.tries_on long)
    at false e = by before where
      by : IsMidway p (other side) side → IsPatient (turn_in p side) (other side)
      by (inl still) = subst (λ (q : PairValue). IsPatient q (other side)) (sym (nothing_turns p side e)) still
      by (inr waits) = clash (sym waits ∙ e)

patient_rounds :
    (n : ℕ) (p : PairValue) → IsReached p → BothStay p → Minutes n p → BothLong p → IsPatient p A → IsMidway p B A → MayTalk n p
patient_rounds zero p r s m long own theirs = tt
patient_rounds (suc n) p r s m long own theirs =
    let t = first_turn n p m in
    let first = speaks n p A r s t own in
    let h = turn_in p A in
    let a = turned (Unit {0}) p A r s.late (may_turn n p A r s t first) (λ _. inr tt) in
    let sh = both_on p h a.calm s in
    let mh = midway n p r a.calm m in
    let u = second_turn n h mh in
    let lh = long_on p h a.calm long in
    let patient = others_turn n p A r s t long own theirs in
    let second = speaks n h B a.reached sh u patient in
    let q = turn_in h B in
    let b = turned (Unit {0}) h B a.reached sh.late (may_turn n h B a.reached sh u second) (λ _. inr tt) in (
      first,
      second,
      patient_rounds n q b.reached (both_on h q b.calm sh) (next_round n h a.reached b.calm mh) (long_on h q b.calm lh)
          (others_turn n h B a.reached sh u lh patient (own_turn n p A r s t long own)) (own_turn n h B a.reached sh u lh patient),
    )

pub talk_on : (n : ℕ) (p : PairValue) → IsReached p → AreTalking n p → HaveTries p → MayTalk n p
talk_on n p r s t =
    patient_rounds n p r (stay n p s) (minutes n p s) (record { a = long A t.0; b = long B t.1 }) (λ _. inl t.0)
    (inl (λ _. inl t.1))
  where
    long : (side : Side) → HasTries 4 p side → IsLong p side
    long side t =
        fewer (socket_of p side).tcb.settings.retries 4 ((socket_of p side).tcb.sender.timeouts + 4) (more (socket_of p side).tcb.sender.timeouts)
        t.timeouts
      where
        more : (n : ℕ) → 4 ≤ n + 4
        more n = omega arith

pub never_ends : (p : PairValue) → NeverGiveUp p → HaveTries p
never_ends p never = (by A never.0, by B never.1) where
  by : (side : Side) → (socket_of p side).tcb.settings.retries ≡ None → HasTries 4 p side
  by side none = record {
    timeouts = ap (λ (limit : Option ℕ). reaches limit ((socket_of p side).tcb.sender.timeouts + 4)) none;
    questions = ap (λ (limit : Option ℕ). reaches limit ((socket_of p side).tcb.sender.unanswered + 4)) none;
  }
