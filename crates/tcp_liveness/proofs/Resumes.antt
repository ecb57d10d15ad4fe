-- Where nothing is in flight, or its timer has run out, payload or a FIN goes, as far as both windows let it.
use Rattle.std.proofs.Common.{◌≡◌, ◌⊎◌, inl, inr, ℕ, zero, suc, ◌+◌, ◌-◌, ◌<◌, ◌≤◌, ◌==◌, ◌&&◌, ◌||◌, nat_le, nat_lt, not, min, max, Bool, true, false}
use Rattle.std.proofs.Common.{if◌then◌else◌, List, [], ◌∷◌, length, take, drop, Option, Some, None, refl, sym, ap, ◌∙◌, subst, arith, length-take, length-drop}
use Rattle.std.proofs.lemmas.Bool.{cond_both, eq-eqb, ne_eqb, le-leb, lt-ltb, le-ltb, ltb-true, ltb-false}
use Rattle.ip_wire.specs.Control.{control_len}
use Rattle.ip_wire.specs.Tcp.{header_len}
use Rattle.ip_wire.specs.TcpControl.TheVariants as Control
use Rattle.ip_wire.specs.TcpHeader.{TcpHeader}
use Rattle.tcp_refinement.specs.Context.{ContextValue}
use Rattle.tcp_refinement.specs.Offers.{Offered}
use Rattle.tcp_refinement.proofs.Tied.{if_so, if_not}
use Rattle.tcp_block.specs.Reno as reno
use Rattle.tcp_block.specs.Reno.{RenoValue}
use Rattle.tcp_block.specs.Run.{Run}
use Rattle.tcp_block.specs.Scoreboard.{gap_end, is_run}
use Rattle.tcp_block.specs.Timeout.{timed_out, timeout_end}
use Rattle.tcp_block.specs.declared.tcb.CongestionControl.{CongestionControl}
use Rattle.tcp_block.specs.declared.tcb.CongestionControl.TheVariants as Congestion
use Rattle.tcp_invariants.specs.FourTuple.{FourTuple}
use Rattle.tcp_invariants.specs.Endpoints.{header_for}
use Rattle.tcp_invariants.specs.Moments.{is_due}
use Rattle.tcp_invariants.specs.OfferKind.{OfferKind}
use Rattle.tcp_invariants.specs.OfferKind.TheVariants as Kind
use Rattle.tcp_invariants.specs.OpenOffer.{OpenOffer}
use Rattle.tcp_invariants.specs.States.{is_answering, is_closed, owes_fin, sends_syn, may_send_data}
use Rattle.tcp_invariants.specs.Timing.{carries}
use Rattle.tcp_block.specs.declared.tcb.Tcb.{Tcb}
use Rattle.tcp_block.specs.TcbRules.{one_if, unacked}
use Rattle.tcp_block.specs.LossRecovery.{fills_early, fills_hole, is_sent_early, has_room, hole_len, loss_deadline, loss_probe_deadline, loss_probed}
use Rattle.tcp_block.specs.LossRecovery.{loss_probed_by, may_send_early, next_hole, pipe, rescues}
use Rattle.tcp_block.specs.Offers.{backed_off, first_rules, last_rules, number_at, offer_choice, offer_of, offer_reset, offer_syn, offer_with}
use Rattle.tcp_block.specs.Offers.{payload_of, silent}
use Rattle.tcp_block.specs.Retries.{given_up, gives_up}
use Rattle.tcp_block.specs.Rules.{Choice, backed_off_now, beyond, congestion_limit, congestion_room, control_for, fills_enough, fin_is_sent, has_payload}
use Rattle.tcp_block.specs.Rules.{is_sendable, may_be_small, next_offset, owes_syn, resend_choice, resend_from, resends, sent_count, size_limit}
use Rattle.tcp_block.specs.Rules.{timestamps_len, payload_choice, time_wait_end, window_limit}
use Rattle.tcp_block.specs.Segments.{hop_limit_of, segment, segment_len, tsval_of}
use Rattle.tcp_block.specs.Value.{TcpValue, ended, queued_in, unoffered, window_of, with_tcb}
use Rattle.tcp_invariants.proofs.OfferCases.{begun, probing, resends_first}
use Rattle.tcp_invariants.proofs.OrderSteps.{clash}
use Rattle.tcp_invariants.specs.Ends.{Proceeds}
use Rattle.tcp_liveness.specs.StartsOver.{StartsOver}
use Rattle.tcp_liveness.specs.Exchange.{IsOpen, left_of, data_of}
use Rattle.tcp_liveness.specs.Restart.{MaySend, worth_sending}

pub both : (a b : Bool) → a ≡ true → b ≡ true → (a && b) ≡ true
both a b e f = ap (λ (t : Bool). t && b) e ∙ f

pub or_left : (a b : Bool) → a ≡ true → (a || b) ≡ true
or_left a b e = ap (λ (t : Bool). t || b) e

pub or_right : (a b : Bool) → b ≡ true → (a || b) ≡ true
or_right true b e = refl
or_right false b e = e

pub not_second : (a b : Bool) → b ≡ false → (a && b) ≡ false
not_second true b e = e
not_second false b e = refl

not_first : (a b : Bool) → a ≡ false → (a && b) ≡ false
not_first a b e = ap (λ (t : Bool). t && b) e

pub neither : (a b : Bool) → a ≡ false → b ≡ false → (a || b) ≡ false
neither a b e f = ap (λ (t : Bool). t || b) e ∙ f

-- THE WINDOWS

pub least_limit : (m : ℕ) → 1 ≤ max 1 m
least_limit m = omega arith

most_limit : (mss room stamps : ℕ) → max 1 (min mss room - stamps) ≤ max 1 mss
most_limit mss room stamps = omega arith

at_least : (cwnd flight more : ℕ) → flight ≡ 0 → cwnd ≤ cwnd + more - flight
at_least cwnd flight more e = omega arith

nothing_less : (cwnd pipe : ℕ) → pipe ≡ 0 → cwnd ≤ cwnd - pipe
nothing_less cwnd pipe e = omega arith

module _ (b : Tcb) (none : b.sender.flight_size ≡ 0) where
  pub room : b.reno.cwnd ≤ congestion_room b
  room =
      cond_both b.peer.sack (b.reno.cwnd - pipe b) (b.reno.cwnd + beyond b - b.sender.flight_size) (λ (n : ℕ). b.reno.cwnd ≤ n)
      (λ _. nothing_less b.reno.cwnd (pipe b) empty)
      (λ _. at_least b.reno.cwnd b.sender.flight_size (beyond b) none)
    where
      empty : pipe b ≡ 0
      empty = if_so (b.sender.flight_size == 0) 0 _ (eq-eqb b.sender.flight_size 0 none)

  -- what both windows take goes whole
  fits : (size : ℕ) → size ≤ b.peer.window → size ≤ b.reno.cwnd → window_limit b size ≡ size
  fits size window cwnd = by b.settings.congestion_control (congestion_room b) room where
    less : (flight : ℕ) → flight ≡ 0 → min (b.peer.window - flight) size ≡ size
    less flight e = omega (arith, window)

    lower : (cwnd room : ℕ) → size ≤ cwnd → cwnd ≤ room → min room size ≡ size
    lower cwnd room e f = omega arith

    by : (control : CongestionControl) (limit : ℕ) → b.reno.cwnd ≤ limit → congestion_limit control limit (min (b.peer.window - b.sender.flight_size) size) ≡ size
    by Congestion.None limit e = less b.sender.flight_size none
    by other limit e = ap (min limit) (less b.sender.flight_size none) ∙ lower b.reno.cwnd limit cwnd e

-- WHAT GOES

-- it takes a position
pub some_goes :
    (c : Choice) (queue : List ℕ) → c.offset ≡ 0 → (c.fin ≡ true) ⊎ ((1 ≤ c.len) × (1 ≤ length queue)) →
    1 ≤ length (take c.len (drop c.offset queue)) + control_len (control_for c (length queue))
some_goes c queue first (inl fin) =
    subst (λ (n : ℕ). 1 ≤ length (take c.len (drop c.offset queue)) + n) (sym one) (more (length (take c.len (drop c.offset queue))))
  where
    one : control_len (control_for c (length queue)) ≡ 1
    one =
        ap (λ (t : Bool). control_len (if t then Control.Fin
        else if not (c.len == 0) && (c.offset + c.len == length queue) then Control.Psh else Control.None)) fin

    more : (n : ℕ) → 1 ≤ n + 1
    more n = omega arith
some_goes c queue first (inr it) =
    less (length (take c.len (drop c.offset queue))) (length (drop c.offset queue)) c.len c.offset (length queue) _ (length-take c.len (drop c.offset queue))
    (length-drop c.offset queue) first it.0 it.1
  where
    less : (a d len offset whole more : ℕ) → a ≡ min len d → d ≡ whole - offset → offset ≡ 0 → 1 ≤ len → 1 ≤ whole → 1 ≤ a + more
    less a d len offset whole more e f g h i = omega arith

-- a hole after SND.UNA begins after it
gap_some : (runs : List Run) (most : ℕ) → 1 ≤ most → 1 ≤ gap_end runs 0 most
gap_some [] most e = e
gap_some (r ∷ rs) most e =
    cond_both (is_run r && nat_lt 0 r.start) (min most r.start) most (λ (end : ℕ). 1 ≤ gap_end rs 0 end)
    (λ so. gap_some rs (min most r.start) (least most r.start e (ltb-true 0 r.start (second (is_run r) (nat_lt 0 r.start) so))))
    (λ _. gap_some rs most e)
  where
    least : (most start : ℕ) → 1 ≤ most → 0 < start → 1 ≤ min most start
    least most start e f = omega arith

    second : (a c : Bool) → (a && c) ≡ true → c ≡ true
    second true c e = e
    second false c e = clash (sym e)

-- WHERE NOTHING IS IN FLIGHT

not_flight_size : (b : Tcb) → b.sender.flight_size ≡ 0 → nat_lt (next_hole b) b.sender.flight_size ≡ false
not_flight_size b none = le-ltb (next_hole b) b.sender.flight_size (least b.sender.flight_size (next_hole b) none) where
  least : (flight offset : ℕ) → flight ≡ 0 → flight ≤ offset
  least flight offset e = omega arith

pub no_hole : (b : Tcb) → b.sender.flight_size ≡ 0 → fills_hole b ≡ false
no_hole b none =
    not_second b.peer.sack _ (not_second b.reno.recovers _ (not_second (not b.sender.syn_unacked) _
    (not_first (nat_lt (next_hole b) b.sender.flight_size) _ (not_flight_size b none))))

pub none_early : (b : Tcb) → b.sender.flight_size ≡ 0 → is_sent_early b ≡ false
none_early b none =
    neither (fills_early b) (rescues b) (not_first (may_send_early b) _ never) (not_first (may_send_early b) _ never)
  where
    never : may_send_early b ≡ false
    never =
        not_second b.peer.sack _ (not_second b.reno.recovers _ (not_second (not b.sender.syn_unacked) _
        (not_first (nat_lt (next_hole b) b.sender.flight_size) (has_room b) (not_flight_size b none))))

-- of the offer of a socket
pub record SendsOut (cx : ContextValue) (v : TcpValue) (o : Offered TcpValue) : Type 0 where
  pub k : OpenOffer
  pub offered : o.socket.offered ≡ Some k
  pub kind : carries k.kind ≡ true
  pub some : 1 ≤ segment_len k.segment (length (data_of v k))
  pub tsval : k.segment.options.timestamp ≡ tsval_of v.tcb cx.instant

-- the block with which a socket starts over
pub record StartsWith (cx : ContextValue) (v : TcpValue) (pair : FourTuple) (b : Tcb) : Type 0 where
  pub sends : may_send_data b.state ≡ true
  pub syn : b.sender.syn_unacked ≡ false
  pub none : b.sender.flight_size ≡ 0
  pub owes : 1 ≤ unacked b (queued_in v)
  pub mss : b.peer.mss ≡ v.tcb.peer.mss
  pub tsval : tsval_of b cx.instant ≡ tsval_of v.tcb cx.instant
  pub again : resends b pair.addresses cx.ip_mtu v.queued ≡ true → 1 ≤ b.sender.snd_max

-- both windows take a full segment, or all that is queued
pub record HasWindows (v : TcpValue) (b : Tcb) : Type 0 where
  pub window : worth_sending v ≤ b.peer.window
  pub cwnd : worth_sending v ≤ b.reno.cwnd

module _ (cx : ContextValue) (v : TcpValue) (pair : FourTuple) (b : Tcb) (s : StartsWith cx v pair b) where
  abbrev pub limit : ℕ
  limit = size_limit b pair.addresses cx.ip_mtu

  abbrev pub queued : ℕ
  queued = queued_in v

  pub first : next_offset b ≡ 0
  first = before b.sender.flight_size (one_if b.sender.syn_unacked) s.none where
    before : (flight syn : ℕ) → flight ≡ 0 → flight - syn ≡ 0
    before flight syn e = omega arith

  abbrev header : Choice → TcpHeader
  header c = segment b pair cx.instant (window_of (with_tcb (unoffered v) b)) (control_for c queued) (number_at b c.offset)

  abbrev mine : OfferKind → Choice → OpenOffer
  mine kind c = record {
    kind = kind;
    instant = cx.instant;
    header = header_for pair.addresses (hop_limit_of b.settings.hop_limit) (header_len (header c) + c.len);
    segment = header c;
    offset = c.offset;
    len = c.len;
  }

  -- a part of the send queue that takes a position
  pub goes :
      (kind : OfferKind) (c : Choice) → carries kind ≡ true → payload_of (mine kind c) kind v.queued.queue ≡ take c.len (drop c.offset v.queued.queue)
      → 1 ≤ length (take c.len (drop c.offset v.queued.queue)) + control_len (control_for c queued)
      → SendsOut cx v (offer_choice kind cx (with_tcb (unoffered v) b) pair c)
  goes kind c it pays some = record {
    k = mine kind c;
    offered = refl;
    kind = it;
    some = subst (λ (bytes : List ℕ). 1 ≤ length bytes + control_len (control_for c queued)) (sym pays) some;
    tsval = s.tsval;
  }

  pub fin_owed : queued ≡ 0 → owes_fin b.state ≡ true
  fin_owed empty = by (owes_fin b.state) refl where
    nothing : (syn queued fin : ℕ) → 1 ≤ syn + queued + fin → syn ≡ 0 → queued ≡ 0 → fin ≡ 0 → ⊥
    nothing syn queued fin e f g h = absurd (omega arith)

    by : (owes : Bool) → owes_fin b.state ≡ owes → owes ≡ true
    by true e = refl
    by false e = absurd (nothing (one_if b.sender.syn_unacked) queued (one_if (owes_fin b.state)) s.owes (ap one_if s.syn) empty (ap one_if e))

  abbrev pub choice : Choice
  choice = payload_choice b pair.addresses cx.ip_mtu v.queued

  pub some_len : 1 ≤ queued → 1 ≤ min limit (queued - next_offset b)
  some_len some = by limit queued (next_offset b) (least_limit _) some first where
    by : (limit queued offset : ℕ) → 1 ≤ limit → 1 ≤ queued → offset ≡ 0 → 1 ≤ min limit (queued - offset)
    by limit queued offset e f g = omega arith

  -- what is to be retransmitted at once, from SND.UNA on
  abbrev again : Choice
  again = resend_from b pair.addresses cx.ip_mtu v.queued 0

  snd_max_is : sent_count b ≡ b.sender.snd_max
  snd_max_is = ap (λ (t : Bool). b.sender.snd_max - one_if t) s.syn ∙ all b.sender.snd_max where
    all : (n : ℕ) → n - 0 ≡ n
    all n = omega arith

  again_or_fin : 1 ≤ b.sender.snd_max → (again.fin ≡ true) ⊎ ((1 ≤ again.len) × (1 ≤ queued))
  again_or_fin sent = by queued refl where
    sent_some : 1 ≤ sent_count b
    sent_some = subst (λ (n : ℕ). 1 ≤ n) (sym snd_max_is) sent

    empty_len : queued ≡ 0 → again.len ≡ 0
    empty_len e = less (hole_len b 0 (sent_count b)) limit queued e where
      less : (hole limit queued : ℕ) → queued ≡ 0 → min hole (min limit (queued - 0)) ≡ 0
      less hole limit queued e = omega arith

    hole : 1 ≤ hole_len b 0 (sent_count b)
    hole =
        cond_both b.sender.syn_unacked (sent_count b - 0) (gap_end b.loss.board.runs 0 (sent_count b) - 0) (λ (n : ℕ). 1 ≤ n)
        (λ _. same (sent_count b) sent_some)
        (λ _. same (gap_end b.loss.board.runs 0 (sent_count b)) (gap_some b.loss.board.runs (sent_count b) sent_some))
      where
        same : (n : ℕ) → 1 ≤ n → 1 ≤ n - 0
        same n e = omega arith

    some_again : 1 ≤ queued → 1 ≤ again.len
    some_again some = three (hole_len b 0 (sent_count b)) limit queued hole (least_limit _) some where
      three : (hole limit queued : ℕ) → 1 ≤ hole → 1 ≤ limit → 1 ≤ queued → 1 ≤ min hole (min limit (queued - 0))
      three hole limit queued e f g = omega arith

    fin_again : queued ≡ 0 → again.fin ≡ true
    fin_again e =
        both (fin_is_sent b queued (0 + again.len)) (nat_lt (0 + again.len) (sent_count b))
        (both (owes_fin b.state) (0 + again.len == queued) (fin_owed e) (eq-eqb (0 + again.len) queued (equal again.len queued (empty_len e) e)))
        (lt-ltb (0 + again.len) (sent_count b) (below again.len (sent_count b) (empty_len e) sent_some))
      where
        equal : (len queued : ℕ) → len ≡ 0 → queued ≡ 0 → 0 + len ≡ queued
        equal len queued e f = omega arith

        below : (len all : ℕ) → len ≡ 0 → 1 ≤ all → 0 + len < all
        below len all e f = omega arith

    by : (n : ℕ) → queued ≡ n → (again.fin ≡ true) ⊎ ((1 ≤ again.len) × (1 ≤ queued))
    by zero e = inl (fin_again e)
    by (suc n) e = let some : 1 ≤ queued = more n e in inr (some_again some, some) where
      more : (n : ℕ) → queued ≡ suc n → 1 ≤ queued
      more n e = omega arith

  pub is_retransmitted : 1 ≤ b.sender.snd_max →
      SendsOut cx v (offer_choice Kind.FastRetransmission cx (with_tcb (unoffered v) b) pair (resend_choice b pair.addresses cx.ip_mtu v.queued))
  is_retransmitted sent =
      subst (λ (c : Choice). SendsOut cx v (offer_choice Kind.FastRetransmission cx (with_tcb (unoffered v) b) pair c))
      (sym (ap (resend_from b pair.addresses cx.ip_mtu v.queued) (resends_first b limit (sent_count b) queued s.none)))
      (goes Kind.FastRetransmission again refl refl (some_goes again v.queued.queue refl (again_or_fin sent)))

  pub no_syn : owes_syn b ≡ false
  no_syn =
      not_second (sends_syn b.state && not (is_answering b.state && b.settings.synack_paused)) (b.sender.syn_unacked && (b.sender.flight_size == 0))
      (ap (λ (t : Bool). t && (b.sender.flight_size == 0)) s.syn)

  module _ (w : HasWindows v b) where
    limit_small : limit ≤ max 1 v.tcb.peer.mss
    limit_small =
        subst (λ (mss : ℕ). limit ≤ max 1 mss) s.mss (most_limit b.peer.mss _ (timestamps_len b))

    small : (size : ℕ) → size ≤ queued → min limit size ≤ worth_sending v
    small size e = less limit size queued (max 1 v.tcb.peer.mss) limit_small e where
      less : (limit size queued most : ℕ) → limit ≤ most → size ≤ queued → min limit size ≤ min most queued
      less limit size queued most e f = omega arith

    up : (a b c : ℕ) → a ≤ b → b ≤ c → a ≤ c
    up a b c e f = omega arith

    whole : (size : ℕ) → size ≤ queued → window_limit b (min limit size) ≡ min limit size
    whole size e =
        fits b s.none (min limit size) (up (min limit size) (worth_sending v) b.peer.window (small size e) w.window)
        (up (min limit size) (worth_sending v) b.reno.cwnd (small size e) w.cwnd)

    len_is : choice.len ≡ min limit queued
    len_is =
        ap (λ (size : ℕ). window_limit b (min limit size)) (rest queued (next_offset b) first) ∙ whole queued (itself queued)
      where
        rest : (queued offset : ℕ) → offset ≡ 0 → queued - offset ≡ queued
        rest queued offset e = omega arith

        itself : (n : ℕ) → n ≤ n
        itself n = omega arith

    fin_alone : queued ≡ 0 → choice.fin ≡ true
    fin_alone empty =
        both (owes_fin b.state) (next_offset b + choice.len == queued) (fin_owed empty)
        (eq-eqb (next_offset b + choice.len) queued
        (ap (λ (len : ℕ). next_offset b + len) len_is ∙ nothing limit queued (next_offset b) empty first))
      where
        nothing : (limit queued offset : ℕ) → queued ≡ 0 → offset ≡ 0 → offset + min limit queued ≡ queued
        nothing limit queued offset e f = omega arith

    some_or_fin : (choice.fin ≡ true) ⊎ ((1 ≤ choice.len) × (1 ≤ queued))
    some_or_fin = by queued refl where
      by : (n : ℕ) → queued ≡ n → (choice.fin ≡ true) ⊎ ((1 ≤ choice.len) × (1 ≤ queued))
      by zero e = inl (fin_alone e)
      by (suc n) e =
          let some : 1 ≤ queued = more n e in inr (subst (λ (len : ℕ). 1 ≤ len) (sym len_is) (least limit queued (least_limit _) some), some)
        where
          more : (n : ℕ) → queued ≡ suc n → 1 ≤ queued
          more n e = omega arith

          least : (limit queued : ℕ) → 1 ≤ limit → 1 ≤ queued → 1 ≤ min limit queued
          least limit queued e f = omega arith

    sendable : is_sendable b queued limit choice ≡ true
    sendable = by some_or_fin where
      not_none : (n : ℕ) → 1 ≤ n → not (n == 0) ≡ true
      not_none n e = ap not (ne_eqb n 0 (never n e)) where
        never : (n : ℕ) → 1 ≤ n → n ≡ 0 → ⊥
        never n e f = absurd (omega arith)

      full : limit ≤ queued → nat_le limit choice.len ≡ true
      full e = le-leb limit choice.len (subst (λ (n : ℕ). limit ≤ n) (sym len_is) (enough limit queued e)) where
        enough : (limit queued : ℕ) → limit ≤ queued → limit ≤ min limit queued
        enough limit queued e = omega arith

      all : queued < limit → (may_be_small b && fills_enough b queued choice.len) ≡ true
      all e =
          both (may_be_small b) (fills_enough b queued choice.len)
          (or_right (not b.settings.nagle) (b.sender.flight_size == 0) (eq-eqb b.sender.flight_size 0 s.none))
          (or_left (next_offset b + choice.len == queued) _
          (eq-eqb (next_offset b + choice.len) queued (ap (λ (n : ℕ). next_offset b + n) len_is ∙ every (next_offset b) limit queued first e)))
        where
          every : (offset limit queued : ℕ) → offset ≡ 0 → queued < limit → offset + min limit queued ≡ queued
          every offset limit queued e f = omega arith

      by_size : (less : Bool) → nat_lt queued limit ≡ less →
          (nat_le limit choice.len || (may_be_small b && fills_enough b queued choice.len)) ≡ true
      by_size true e = or_right (nat_le limit choice.len) _ (all (ltb-true queued limit e))
      by_size false e = or_left (nat_le limit choice.len) _ (full (ltb-false queued limit e))

      by : (choice.fin ≡ true) ⊎ ((1 ≤ choice.len) × (1 ≤ queued)) → is_sendable b queued limit choice ≡ true
      by (inl fin) = or_left choice.fin _ fin
      by (inr it) = or_right choice.fin _ (both (not (choice.len == 0)) _ (not_none choice.len it.0) (by_size (nat_lt queued limit) refl))

    pub payload : has_payload b pair.addresses cx.ip_mtu v.queued ≡ true
    payload =
        both (may_send_data b.state) _ s.sends
        (both (nat_le (one_if b.sender.syn_unacked) b.sender.flight_size) _
        (le-leb (one_if b.sender.syn_unacked) b.sender.flight_size (least (one_if b.sender.syn_unacked) b.sender.flight_size (ap one_if s.syn)))
        (both (nat_lt b.sender.flight_size (unacked b queued)) _
        (lt-ltb b.sender.flight_size (unacked b queued) (below b.sender.flight_size (unacked b queued) s.none s.owes)) sendable))
      where
        least : (syn m : ℕ) → syn ≡ 0 → syn ≤ m
        least syn m e = omega arith

        below : (flight all : ℕ) → flight ≡ 0 → 1 ≤ all → flight < all
        below flight all e f = omega arith

    goes_payload : SendsOut cx v (offer_choice Kind.Payload cx (with_tcb (unoffered v) b) pair (payload_choice b pair.addresses cx.ip_mtu v.queued))
    goes_payload = goes Kind.Payload choice refl refl (some_goes choice v.queued.queue first some_or_fin)

    by_rule : SendsOut cx v (first_rules cx (with_tcb (unoffered v) b) pair)
    by_rule = subst (SendsOut cx v) (sym (if_not (owes_syn b) (offer_syn cx x pair) rest no_syn)) (at (resends b pair.addresses cx.ip_mtu v.queued) refl) where
      x : TcpValue
      x = with_tcb (unoffered v) b

      fast : Offered TcpValue
      fast = offer_choice Kind.FastRetransmission cx x pair (resend_choice b pair.addresses cx.ip_mtu v.queued)

      plain : Offered TcpValue
      plain = offer_choice Kind.Payload cx x pair (payload_choice b pair.addresses cx.ip_mtu v.queued)

      later : Offered TcpValue
      later = if has_payload b pair.addresses cx.ip_mtu v.queued then plain else last_rules cx (probing cx x) pair

      rest : Offered TcpValue
      rest = if resends b pair.addresses cx.ip_mtu v.queued then fast else later

      at : (t : Bool) → resends b pair.addresses cx.ip_mtu v.queued ≡ t → SendsOut cx v rest
      at true e = subst (SendsOut cx v) (sym (if_so (resends b pair.addresses cx.ip_mtu v.queued) fast later e)) (is_retransmitted (s.again e))
      at false e =
          subst (SendsOut cx v)
          (sym (if_not (resends b pair.addresses cx.ip_mtu v.queued) fast later e ∙ if_so (has_payload b pair.addresses cx.ip_mtu v.queued) plain _ payload))
          goes_payload

-- A SOCKET

-- a side with its connection that owes payload or a FIN, and starts over
pub record Starts (cx : ContextValue) (v : TcpValue) : Type 0 where
  pub own : IsOpen v.tcb
  pub owes : 1 ≤ left_of v
  pub over : StartsOver cx v
  pub goes : Proceeds cx v

module _ (cx : ContextValue) (v : TcpValue) (pair : FourTuple) (named : v.tcb.names.pair ≡ Some pair) (m : Starts cx v)
    (sends : may_send_data v.tcb.state ≡ true) (sent : resends v.tcb pair.addresses cx.ip_mtu v.queued ≡ true → 1 ≤ v.tcb.sender.snd_max) where
  abbrev u : TcpValue
  u = unoffered v

  pub to_rules : offer_of cx v ≡ first_rules cx (with_tcb u (backed_off cx.instant (begun cx v))) pair
  to_rules =
      ap (λ (names : Option FourTuple). offer_with names cx u) named
      ∙ (if_not (is_due cx.instant (time_wait_end v.tcb)) (silent true (ended u)) in_time m.goes.lasts
      ∙ (if_not (is_due cx.instant (timeout_end v.tcb (queued_in v))) (silent true (with_tcb u (timed_out v.tcb))) alive m.goes.in_time
      ∙ (if_not (is_closed v.tcb.state) (if v.tcb.sender.reset_due then offer_reset cx u pair else silent false u) tries m.goes.alive
      ∙ if_not (gives_up cx.instant v.tcb (queued_in v)) (silent true (given_up u)) going m.goes.tries)))
    where
      going : Offered TcpValue
      going = first_rules cx (with_tcb u (backed_off cx.instant (begun cx v))) pair

      tries : Offered TcpValue
      tries = if gives_up cx.instant v.tcb (queued_in v) then silent true (given_up u) else going

      alive : Offered TcpValue
      alive = if is_closed v.tcb.state then (if v.tcb.sender.reset_due then offer_reset cx u pair else silent false u) else tries

      in_time : Offered TcpValue
      in_time = if is_due cx.instant (timeout_end v.tcb (queued_in v)) then silent true (with_tcb u (timed_out v.tcb)) else alive

  -- the timer ran out
  pub ran_out : is_due cx.instant v.tcb.timers.retransmit_at ≡ true → StartsWith cx v pair (backed_off_now (begun cx v))
  ran_out due = record {
    sends = sends;
    syn = m.own.acknowledged;
    none = refl;
    owes = m.owes;
    mss = refl;
    tsval = refl;
    again = λ e.
        sent
        (both (may_send_data v.tcb.state) _ sends
        (or_left v.tcb.sender.resend _
        (only (may_send_data v.tcb.state) v.tcb.sender.resend (fills_hole b) (is_sent_early b) (has_payload b pair.addresses cx.ip_mtu v.queued) (no_hole b refl)
        (none_early b refl) e)));
  }
    where
      b : Tcb
      b = backed_off_now (begun cx v)

      only :
          (sends resend hole early beside : Bool) → hole ≡ false → early ≡ false
          → (sends && (resend || (false || (hole || (early && not beside))))) ≡ true → resend ≡ true
      only true true hole early beside e f g = refl
      only true false hole early beside e f g = clash (sym g ∙ neither hole (early && not beside) e (not_first early (not beside) f))
      only false resend hole early beside e f g = clash (sym g)

  -- nothing is in flight
  pub idles : is_due cx.instant v.tcb.timers.retransmit_at ≡ false → v.tcb.sender.flight_size ≡ 0 → StartsWith cx v pair (begun cx v)
  idles not idle = record {
    sends = sends;
    syn = m.own.acknowledged;
    none = idle;
    owes = m.owes;
    mss = refl;
    tsval = refl;
    again = sent;
  }

  pub no_probe : v.tcb.sender.flight_size ≡ 0 → is_due cx.instant (loss_probe_deadline (begun cx v)) ≡ false
  no_probe none =
      ap (λ (t : Bool). is_due cx.instant (if t then loss_deadline v.tcb.loss else None))
      (not_second (may_send_data v.tcb.state) _
      (not_second (not v.tcb.sender.syn_unacked) _ (ap not (eq-eqb v.tcb.sender.flight_size 0 none))))

pub starts_of : (cx : ContextValue) (v : TcpValue) → MaySend cx v → Starts cx v
starts_of cx v m = record { own = m.own; owes = m.owes; over = m.over; goes = m.goes }

module _ (cx : ContextValue) (v : TcpValue) (pair : FourTuple) (named : v.tcb.names.pair ≡ Some pair) (m : MaySend cx v)
    (sends : may_send_data v.tcb.state ≡ true) (sent : resends v.tcb pair.addresses cx.ip_mtu v.queued ≡ true → 1 ≤ v.tcb.sender.snd_max) where
  -- and both windows take a full segment, of which one is known then
  windows_out : is_due cx.instant v.tcb.timers.retransmit_at ≡ true → HasWindows v (backed_off_now (begun cx v))
  windows_out due = record {
    window = m.window;
    cwnd =
        subst (λ (n : ℕ). worth_sending v ≤ n)
        (if_so (is_due cx.instant v.tcb.timers.retransmit_at) v.tcb.reno.mss v.tcb.reno.cwnd due
        ∙ sym (ap (λ (r : RenoValue). r.cwnd)
        (if_not v.tcb.sender.syn_unacked v.tcb.reno (reno.timed_out v.tcb.reno v.tcb.sender.flight_size) m.own.acknowledged)))
        m.cwnd;
  }

  windows_idle : is_due cx.instant v.tcb.timers.retransmit_at ≡ false → HasWindows v (begun cx v)
  windows_idle not = record {
    window = m.window;
    cwnd =
        subst (λ (n : ℕ). worth_sending v ≤ n) (if_not (is_due cx.instant v.tcb.timers.retransmit_at) v.tcb.reno.mss v.tcb.reno.cwnd not) m.cwnd;
  }

  pub sends_out : SendsOut cx v (offer_of cx v)
  sends_out =
      subst (SendsOut cx v) (sym (to_rules cx v pair named (starts_of cx v m) sends sent)) (at (is_due cx.instant v.tcb.timers.retransmit_at) refl)
    where
      at : (due : Bool) → is_due cx.instant v.tcb.timers.retransmit_at ≡ due →
          SendsOut cx v (first_rules cx (with_tcb (unoffered v) (backed_off cx.instant (begun cx v))) pair)
      at true e =
          subst (λ (b : Tcb). SendsOut cx v (first_rules cx (with_tcb (unoffered v) b) pair))
          (sym (if_so (is_due cx.instant v.tcb.timers.retransmit_at) (backed_off_now (begun cx v)) (loss_probed_by cx.instant (begun cx v)) e))
          (by_rule cx v pair (backed_off_now (begun cx v)) (ran_out cx v pair named (starts_of cx v m) sends sent e) (windows_out e))
      at false e = by m.over where
        by : (v.tcb.sender.flight_size ≡ 0) ⊎ (is_due cx.instant v.tcb.timers.retransmit_at ≡ true) →
            SendsOut cx v (first_rules cx (with_tcb (unoffered v) (backed_off cx.instant (begun cx v))) pair)
        by (inr out) = clash (sym out ∙ e)
        by (inl idle) =
            subst (λ (b : Tcb). SendsOut cx v (first_rules cx (with_tcb (unoffered v) b) pair))
            (sym (if_not (is_due cx.instant v.tcb.timers.retransmit_at) (backed_off_now (begun cx v)) (loss_probed_by cx.instant (begun cx v)) e
            ∙ if_not (is_due cx.instant (loss_probe_deadline (begun cx v))) (loss_probed (begun cx v)) (begun cx v)
            (no_probe cx v pair named (starts_of cx v m) sends sent idle)))
            (by_rule cx v pair (begun cx v) (idles cx v pair named (starts_of cx v m) sends sent e idle) (windows_idle e))
