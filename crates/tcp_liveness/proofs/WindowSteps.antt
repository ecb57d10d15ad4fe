-- What each event of a socket leaves of the windows: what it announces fits its buffer, and what it sent fits the peer's.
use Rattle.std.proofs.Common.{◌≡◌, ◌⊎◌, inl, inr, ℕ, ◌+◌, ◌-◌, ◌*◌, ◌^◌, ◌<◌, ◌≤◌, ◌==◌, ◌&&◌, ◌||◌, nat_lt, not, min, max, ℤ, Bool}
use Rattle.std.proofs.Common.{true, false, if◌then◌else◌, List, ◌++◌, length, drop, Option, Some, None, is_some, refl, sym, ap, ◌∙◌, subst, arith}
use Rattle.std.proofs.Common.{length-append, length-drop}
use Rattle.std.proofs.lemmas.Bool.{cond_both, eqb-true, ltb-true}
use Rattle.tcp_theory.specs.ReceiveMap.{space, front, following}
use Rattle.ip_wire.specs.Control.{control_len}
use Rattle.ip_wire.specs.IpRepr.{IpRepr}
use Rattle.ip_wire.specs.Seq.{distance_of}
use Rattle.ip_wire.specs.SeqNumber.{SeqNumber}
use Rattle.ip_wire.specs.Tcp.{header_len}
use Rattle.ip_wire.specs.TcpControl.{TcpControl}
use Rattle.ip_wire.specs.TcpControl.TheVariants as Control
use Rattle.ip_wire.specs.TcpHeader.{TcpHeader}
use Rattle.tcp_refinement.specs.Context.{ContextValue}
use Rattle.tcp_refinement.specs.Offers.{Offered}
use Rattle.tcp_refinement.proofs.CallMoves.{length-space}
use Rattle.tcp_block.specs.AddressPair.{AddressPair}
use Rattle.tcp_invariants.specs.Controls.{is_syn, is_rst}
use Rattle.tcp_invariants.specs.FourTuple.{FourTuple}
use Rattle.tcp_invariants.specs.Endpoints.{header_for}
use Rattle.tcp_invariants.specs.Events.{is_past}
use Rattle.tcp_invariants.specs.InOrder.{sending_of, IsInOrder}
use Rattle.tcp_invariants.specs.Offsets.{distance_before, distance_after}
use Rattle.tcp_invariants.specs.Moments.{is_due, is_over, timeout_from}
use Rattle.tcp_invariants.specs.OfferKind.{OfferKind}
use Rattle.tcp_invariants.specs.OfferKind.TheVariants as Kind
use Rattle.tcp_invariants.specs.OpenOffer.{OpenOffer}
use Rattle.tcp_invariants.specs.Reply.{Reply}
use Rattle.tcp_invariants.specs.State.{State}
use Rattle.tcp_invariants.specs.State.TheVariants as In
use Rattle.tcp_invariants.specs.States.{is_closed, is_answering, sends_syn, may_send_data, accepts_data, keeps_alive, owes_fin, after_ack, after_ack_of_fin, after_fin}
use Rattle.tcp_invariants.proofs.ArrivalCases.{by_arrival, Received, Opening, Content, Drawing, Told, acked_open, heeded, kept, timed}
use Rattle.tcp_invariants.proofs.RcvAdvSteps.{front_following, own_distance}
use Rattle.tcp_invariants.proofs.OfferCases.{FirstRules, LastRules, by_rules, begun, probing}
use Rattle.tcp_invariants.proofs.OrderRules.{control_least}
use Rattle.tcp_invariants.proofs.OrderSteps.{clash, distance_at_most}
use Rattle.tcp_block.proofs.Holes.{again_sent, hole_least}
use Rattle.tcp_block.specs.Undone.{is_needless}
use Rattle.tcp_block.specs.Scoreboard.{first_missing}
use Rattle.tcp_block.specs.Acknowledged.{acknowledged, acks_fin, counted, duplicates_after, freed_by, ranges_taken, scaled, state_after_ack, windowed}
use Rattle.tcp_block.specs.Answers.{acked, drawn, may_challenge, with_draw}
use Rattle.tcp_block.specs.Arrival.{arrives, arrives_in, challenges_reset, checked, challenges_first, tsecr_heard, inside, is_void_syn, outside}
use Rattle.tcp_block.specs.Arrival.{passed_outside, received, reset_arrives, taken, takes_reset, is_before_window, waiting_anew}
use Rattle.tcp_block.specs.declared.tcb.Tcb.{Tcb}
use Rattle.tcp_block.specs.TcbRules.{one_if, local_scale, unacked}
use Rattle.tcp_block.specs.Calls.{listening}
use Rattle.tcp_block.specs.Checks.{Check, acknowledgement_check, falls_back, is_in_window, opening_check, synchronized_check, taken_down}
use Rattle.tcp_block.specs.Checks.Check.{Passes, Resets}
use Rattle.tcp_block.specs.LossRecovery.{hole_len, loss_probed}
use Rattle.tcp_block.specs.Offers.{number_at, offer_choice, offer_of, offer_segment}
use Rattle.tcp_block.specs.Probing.{is_probing}
use Rattle.tcp_block.specs.Retries.{asked, heard, one_more}
use Rattle.tcp_block.specs.Rules.{Choice, backed_off_now, congestion_limit, control_for, fin_is_sent, next_offset, owes_syn, probe_choice, resend_choice}
use Rattle.tcp_block.specs.Rules.{sent_count, size_limit, payload_choice, congestion_room}
use Rattle.tcp_block.specs.Segments.{hop_limit_of, keep_alive_segment, no_ranges, segment, syn_segment, has_length}
use Rattle.tcp_block.specs.Settled.{end_of, probed, recorded, settled}
use Rattle.tcp_block.specs.Timestamps.{tsval_taken}
use Rattle.tcp_block.specs.Payload.{fin_taken, has_out_of_order, taken_in_order}
use Rattle.tcp_block.specs.Value.{TcpValue, Arrived, with_tcb, unoffered, dropped, ended, queued_in, free_in, room_of, window_of}
use Rattle.tcp_block.specs.declared.tcb.CongestionControl.{CongestionControl}
use Rattle.tcp_block.specs.declared.tcb.CongestionControl.TheVariants as Avoids
use Rattle.tcp_liveness.specs.Windows.{Announces}
use Rattle.tcp_liveness.proofs.Fields.{field_fits, heard_fits, plain_announces, reset_announces}
use Rattle.tcp_liveness.proofs.Short.{EndsShort, IsShort, acked_short, again_ends, back_short, fin_ends, first_ends, none_short, one_at_most, probe_ends}
use Rattle.tcp_liveness.proofs.Short.{held_short, probed_short, payload_ends, undone_short, went_short}

-- A SOCKET

-- what is read of a socket
pub record Fit : Type 0 where
  pub state : State
  pub took_syn : Bool
  pub room : ℕ
  pub window : ℕ
  pub scale : Option ℕ
  pub syn : ℕ
  pub queued : ℕ
  pub flight : ℕ
  pub snd_max : ℕ

abbrev pub fit_of : TcpValue → Fit
fit_of v = record {
  state = v.tcb.state;
  took_syn = v.tcb.receiver.took_syn;
  room = room_of v.received;
  window = v.tcb.peer.window;
  scale = v.tcb.peer.scale;
  syn = one_if v.tcb.sender.syn_unacked;
  queued = queued_in v;
  flight = v.tcb.sender.flight_size;
  snd_max = v.tcb.sender.snd_max;
}

-- LISTEN and SYN-SENT
abbrev pub is_before : State → Bool
is_before In.Listen = true
is_before In.SynSent = true
is_before other = false

-- Of a socket with a receive buffer of this capacity, whose peer has one of that: its window and its scale are the peer's, once its
-- SYN came.
pub record IsFit (own theirs : ℕ) (f : Fit) : Type 0 where
  pub room : f.room ≡ own
  pub window : f.window ≤ theirs
  pub scale : is_past f.state ≡ true → f.scale ≡ Some (local_scale theirs)
  pub before : is_before f.state ≡ true → f.took_syn ≡ false
  pub short : IsShort (max 1 theirs) f.syn f.queued f.flight f.snd_max

-- in another state
pub moved_on :
    (own theirs : ℕ) (f : Fit) (state : State) → IsFit own theirs f → (is_past state ≡ true → f.scale ≡ Some (local_scale theirs))
    → (is_before state ≡ true → is_before f.state ≡ true) → IsFit own theirs (record f { state = state })
moved_on own theirs f state h scale before =
    record { room = h.room; window = h.window; scale = scale; before = λ e. h.before (before e); short = h.short }

pub closed_fit : (own theirs : ℕ) (f : Fit) → IsFit own theirs f → IsFit own theirs (record f { state = In.Closed })
closed_fit own theirs f h = record { room = h.room; window = h.window; scale = λ e. clash (sym e); before = λ e. clash (sym e); short = h.short }

-- as so much was sent, and so much waits
pub with_sent :
    (own theirs : ℕ) (f : Fit) (syn queued flight snd_max : ℕ) → IsFit own theirs f → IsShort (max 1 theirs) syn queued flight snd_max
    → IsFit own theirs (record f { syn = syn; queued = queued; flight = flight; snd_max = snd_max })
with_sent own theirs f syn queued flight snd_max h s = record { room = h.room; window = h.window; scale = h.scale; before = h.before; short = s }

-- a new connection, before any SYN
pub initial_fit :
    (own theirs : ℕ) (state : State) (room syn queued : ℕ) → room ≡ own → is_past state ≡ false
    → IsFit own theirs
    (record { state = state; took_syn = false; room = room; window = 0; scale = None; syn = syn; queued = queued; flight = 0; snd_max = 0 })
initial_fit own theirs state room syn queued same not = record {
  room = same;
  window = omega arith;
  scale = λ e. clash (sym e ∙ not);
  before = λ _. refl;
  short = none_short (max 1 theirs) syn queued;
}

-- STATES

past_not_before : (state : State) → is_past state ≡ true → is_before state ≡ false
past_not_before In.Closed e = clash (sym e)
past_not_before In.Listen e = clash (sym e)
past_not_before In.SynSent e = clash (sym e)
past_not_before other e = refl

payload_past : (state : State) → may_send_data state ≡ true → is_past state ≡ true
payload_past In.Established e = refl
payload_past In.CloseWait e = refl
payload_past In.FinWait1 e = refl
payload_past In.Closing e = refl
payload_past In.LastAck e = refl
payload_past other e = clash (sym e)

takes_past : (state : State) → accepts_data state ≡ true → is_past state ≡ true
takes_past In.Established e = refl
takes_past In.FinWait1 e = refl
takes_past In.FinWait2 e = refl
takes_past other e = clash (sym e)

alive_past : (state : State) → keeps_alive state ≡ true → is_past state ≡ true
alive_past In.Established e = refl
alive_past In.FinWait2 e = refl
alive_past In.CloseWait e = refl
alive_past other e = clash (sym e)

syn_past : (state : State) → sends_syn state ≡ true → (is_before state ≡ true) ⊎ (is_past state ≡ true)
syn_past In.SynSent e = inl refl
syn_past In.SynReceived e = inr refl
syn_past In.FinWait1 e = inr refl
syn_past other e = clash (sym e)

-- it isn't CLOSED
either_side : (state : State) → is_closed state ≡ false → (is_before state ≡ true) ⊎ (is_past state ≡ true)
either_side In.Closed e = clash e
either_side In.Listen e = inl refl
either_side In.SynSent e = inl refl
either_side other e = inr refl

before_ack : (state : State) → is_before (after_ack state) ≡ true → is_before state ≡ true
before_ack In.SynReceived e = clash (sym e)
before_ack other e = e

before_ack_of_fin : (state : State) → is_before (after_ack_of_fin state) ≡ true → is_before state ≡ true
before_ack_of_fin In.FinWait1 e = clash (sym e)
before_ack_of_fin In.Closing e = clash (sym e)
before_ack_of_fin In.LastAck e = clash (sym e)
before_ack_of_fin other e = e

before_acked : (b : Tcb) (by queued : ℕ) → is_before (state_after_ack b by queued) ≡ true → is_before b.state ≡ true
before_acked b by queued =
    cond_both (acks_fin b by queued) (after_ack_of_fin b.state) (after_ack b.state) (λ (state : State). is_before state ≡ true → is_before b.state ≡ true)
    (λ _. before_ack_of_fin b.state) (λ _. before_ack b.state)

before_fin : (state : State) → is_before (after_fin state) ≡ true → is_before state ≡ true
before_fin In.Established e = clash (sym e)
before_fin In.FinWait1 e = clash (sym e)
before_fin In.FinWait2 e = clash (sym e)
before_fin other e = e

-- a SYN that is acknowledged
less_syn : (a b : Bool) → one_if (a && b) ≤ one_if a
less_syn true b = one_at_most b
less_syn false b = omega arith

-- A SEGMENT COMES

abbrev pub AnnouncesIn : ℕ → Option Reply → Type 0
AnnouncesIn own None = Unit {0}
AnnouncesIn own (Some reply) = Announces own reply.segment

drop_less : (n : ℕ) (xs : List ℕ) → length (drop n xs) ≤ length xs
drop_less n xs = subst (λ (m : ℕ). m ≤ length xs) (sym (length-drop n xs)) (less (length xs) n) where
  less : (a b : ℕ) → a - b ≤ a
  less a b = omega arith

pub with_room : (own theirs : ℕ) (f : Fit) (room : ℕ) → room ≡ f.room → IsFit own theirs f → IsFit own theirs (record f { room = room })
with_room own theirs f room same h =
    record { room = same ∙ h.room; window = h.window; scale = h.scale; before = h.before; short = h.short }

with_window : (own theirs : ℕ) (f : Fit) (window : ℕ) → window ≤ theirs → IsFit own theirs f → IsFit own theirs (record f { window = window })
with_window own theirs f window fits h =
    record { room = h.room; window = fits; scale = h.scale; before = h.before; short = h.short }

-- payload in order moves from the free offsets to those that wait
pub as_large : (map : List (Option ℕ)) (waiting : List ℕ) (free : ℕ) → length map ≡ free →
    length (waiting ++ front map) + length (following map) ≡ length waiting + free
as_large map waiting free is = by (length waiting) (length (front map)) (length (following map)) (length-append waiting (front map)) (front_following map) is where
  by : (waiting front following : ℕ) {both whole : ℕ} → both ≡ waiting + front → front + following ≡ whole → whole ≡ free → both + following ≡ waiting + free
  by waiting front following a b c = omega arith

and_first : (a b : Bool) → (a && b) ≡ true → a ≡ true
and_first true b e = refl
and_first false b e = e

and_second : (a b : Bool) → (a && b) ≡ true → b ≡ true
and_second true b e = e
and_second false b e = clash (sym e)

module _ (cx : ContextValue) (ip : IpRepr) (header : TcpHeader) (bytes : List ℕ) (own theirs : ℕ) where
  abbrev Out : Arrived → Type 0
  Out a = IsFit own theirs (fit_of a.socket) × AnnouncesIn own a.answer

  abbrev Scaled : TcpValue → Type 0
  Scaled x = x.tcb.peer.scale ≡ Some (local_scale theirs)

  told : (x : TcpValue) → IsFit own theirs (fit_of x) → Scaled x → window_of x * 2 ^ local_scale own ≤ own
  told x h scaled = field_fits x.tcb (room_of x.received) (free_in x) (length x.received.waiting) own (local_scale theirs) scaled refl h.room

  drawing : (x : TcpValue) → IsFit own theirs (fit_of x) → Scaled x → Drawing cx ip header bytes Out x
  drawing x h scaled = record {
    answers = λ _. (h, plain_announces own _ refl (told x h scaled));
    at_once = (h, plain_announces own _ refl (told x h scaled));
    pauses = (h, tt);
  }

  finished_fit : (x : TcpValue) → IsFit own theirs (fit_of x) → Scaled x → IsFit own theirs (record (fit_of x) { state = after_fin x.tcb.state })
  finished_fit x h scaled = moved_on own theirs (fit_of x) (after_fin x.tcb.state) h (λ _. scaled) (before_fin x.tcb.state)

  answered : (y : TcpValue) (fills : Bool) → IsFit own theirs (fit_of y) → Scaled y → Told cx ip header bytes Out y fills
  answered y fills h scaled = (λ _. (h, tt), (h, plain_announces own _ refl (told y h scaled)))

  content : (x : TcpValue) → IsFit own theirs (fit_of x) → Scaled x → Content cx ip header bytes Out x
  content x h scaled = record {
    plain = answered (kept x x.tcb) false h scaled;
    fin = λ _ _. answered (kept x (fin_taken x.tcb cx.instant)) false (finished_fit x h scaled) scaled;
    ordered = λ map is _ _.
        answered (kept (taken_in_order x map).socket (taken_in_order x map).socket.tcb) (has_out_of_order x)
        (with_room own theirs (fit_of x) _ (as_large map x.received.waiting (free_in x) is) h) scaled;
    ordered_fin = λ map is _ _.
        answered (kept (taken_in_order x map).socket (fin_taken (taken_in_order x map).socket.tcb cx.instant)) (has_out_of_order x)
        (with_room own theirs (record (fit_of x) { state = after_fin x.tcb.state }) _ (as_large map x.received.waiting (free_in x) is)
        (finished_fit x h scaled)) scaled;
    early = λ map offset is _.
        let g = with_room own theirs (fit_of x) (length x.received.waiting + length map) (ap (λ (n : ℕ). length x.received.waiting + n) is) h in (
          g,
          plain_announces own _ refl
              (field_fits x.tcb (length x.received.waiting + length map) (length map) (length x.received.waiting) own (local_scale theirs) scaled refl g.room),
        );
  }

  -- a loss that is undone: all that was sent is in flight again
  undone_fit : (u : TcpValue) (by : ℕ) → IsFit own theirs (fit_of u) → IsFit own theirs (fit_of (timed cx.instant header u by))
  undone_fit u by h =
      with_sent own theirs (fit_of u) (one_if u.tcb.sender.syn_unacked) (queued_in u) (timed cx.instant header u by).tcb.sender.flight_size
      u.tcb.sender.snd_max h
      (cond_both (is_needless u.tcb header by (queued_in u))
      (max u.tcb.sender.flight_size (min u.tcb.sender.snd_max (one_if u.tcb.sender.syn_unacked + queued_in u))) u.tcb.sender.flight_size
      (λ (flight : ℕ). IsShort (max 1 theirs) (one_if u.tcb.sender.syn_unacked) (queued_in u) flight u.tcb.sender.snd_max)
      (λ _. undone_short (max 1 theirs) (one_if u.tcb.sender.syn_unacked) (queued_in u) u.tcb.sender.flight_size u.tcb.sender.snd_max h.short)
      (λ _. h.short))

  acked_fit : (u : TcpValue) (by : ℕ) → IsFit own theirs (fit_of u) → Scaled u →
      IsFit own theirs (fit_of (acked_open (timed cx.instant header u by) by cx.instant))
  acked_fit u by h scaled = record {
    room = h.room;
    window = h.window;
    scale = λ _. scaled;
    before = λ e. h.before (before_acked u.tcb by (queued_in u) e);
    short =
        acked_short (max 1 theirs) (one_if u.tcb.sender.syn_unacked) (queued_in u) (timed cx.instant header u by).tcb.sender.flight_size
        u.tcb.sender.snd_max (one_if (u.tcb.sender.syn_unacked && (by == 0))) (length (drop (freed_by u.tcb by (queued_in u)) u.queued.queue)) by
        (less_syn u.tcb.sender.syn_unacked (by == 0)) (drop_less (freed_by u.tcb by (queued_in u)) u.queued.queue) (undone_fit u by h).short;
  }

  -- a reset takes it down
  ended_fit : (u : TcpValue) → IsFit own theirs (fit_of u) → IsFit own theirs (fit_of (ended u))
  ended_fit u h = closed_fit own theirs (fit_of u) h

  emptied_room : (u : TcpValue) → IsFit own theirs (fit_of u) → 0 + length (space (room_of u.received)) ≡ own
  emptied_room u h = by (length-space (room_of u.received)) h.room where
    by : {a b : ℕ} → a ≡ b → b ≡ own → 0 + a ≡ own
    by a b = omega arith

  listens_fit : (u : TcpValue) → IsFit own theirs (fit_of u) → IsFit own theirs (fit_of (listening u u.tcb.names.listen))
  listens_fit u h = initial_fit own theirs In.Listen (0 + length (space (room_of u.received))) 0 0 (emptied_room u h) refl

  -- what a SYN says of it
  heard_fit :
      (u : TcpValue) (state : State) (syn queued flight snd_max : ℕ) → Announces theirs header → is_syn header.control ≡ true → is_before state ≡ false
      → IsFit own theirs (fit_of u) → IsShort (max 1 theirs) syn queued flight snd_max
      → IsFit own theirs
      (record {
        state = state;
        took_syn = true;
        room = room_of u.received;
        window = header.window_len;
        scale = header.options.window_scale;
        syn = syn;
        queued = queued;
        flight = flight;
        snd_max = snd_max;
      })
  heard_fit u state syn queued flight snd_max tells is not h s =
      let named = tells.syn is in
      record { room = h.room; window = named.0; scale = λ _. named.1; before = λ e. clash (sym e ∙ not); short = s }

  opening : (u : TcpValue) → Announces theirs header → IsFit own theirs (fit_of u) → Opening cx ip header bytes Out u
  opening u tells h = record {
    opens = λ _ first. (
      heard_fit u In.SynReceived 1 (queued_in u) 0 0 tells (and_first (is_syn header.control) (not (is_some header.ack_number)) first) refl h
          (none_short (max 1 theirs) 1 (queued_in u)),
      tt,
    );
    refuses = (h, reset_announces own _ refl);
    ends = λ _. (ended_fit u h, tt);
    connects = λ _ is. (
      heard_fit u In.Established (one_if (u.tcb.sender.syn_unacked && (1 == 0))) (queued_in u) (u.tcb.sender.flight_size - 1)
          (u.tcb.sender.snd_max - 1) tells is refl h
          (acked_short (max 1 theirs) (one_if u.tcb.sender.syn_unacked) (queued_in u) u.tcb.sender.flight_size u.tcb.sender.snd_max
          (one_if (u.tcb.sender.syn_unacked && (1 == 0))) (queued_in u) 1 (less_syn u.tcb.sender.syn_unacked (1 == 0)) (same (queued_in u)) h.short),
      tt,
    );
    crosses = λ _ is. (
      heard_fit u In.SynReceived (one_if u.tcb.sender.syn_unacked) (queued_in u) u.tcb.sender.flight_size u.tcb.sender.snd_max tells is refl h h.short,
      tt,
    );
  }
    where
      same : (n : ℕ) → n ≤ n
      same n = omega arith

  -- what its ranges tell of leaves all but SND.NXT
  heeded_fit :
      (u : TcpValue) (by : ℕ) (b : Tcb) → IsFit own theirs (fit_of (with_tcb (acked_open (timed cx.instant header u by) by cx.instant) b))
      → IsFit own theirs (fit_of (heeded cx.instant header (length bytes) u by b))
  heeded_fit u by b h =
      record {
        room = h.room;
        window = h.window;
        scale = h.scale;
        before = h.before;
        short =
            held_short (max 1 theirs) (one_if b.sender.syn_unacked) (queued_in (acked_open (timed cx.instant header u by) by cx.instant)) b.sender.flight_size
            b.sender.snd_max (first_missing c.loss.board.runs b.sender.flight_size) h.short;
      }
    where
      c : Tcb
      c =
          counted (ranges_taken (tsval_taken b header cx.instant) header cx.instant) (duplicates_after u.tcb header (length bytes) by) cx.instant

  -- of a segment that is neither a SYN nor a reset
  usual :
      (u : TcpValue) → Announces theirs header → is_syn header.control ≡ false → is_rst header.control ≡ false → IsFit own theirs (fit_of u)
      → Scaled u → Received cx ip header bytes Out u
  usual u tells no_syn no_rst h scaled = record {
    stays = (h, tt);
    refuses = (h, reset_announces own _ refl);
    draws = drawing u h scaled;
    falls = λ _ _ _. (listens_fit u h, tt);
    ends = λ _ _ _. (ended_fit u h, tt);
    closes = λ by _ _. (closed_fit own theirs (fit_of (acked_open (timed cx.instant header u by) by cx.instant)) (acked_fit u by h scaled), tt);
    taken = λ by _ _.
        let b = (acked_open (timed cx.instant header u by) by cx.instant).tcb in
        content (heeded cx.instant header (length bytes) u by b) (heeded_fit u by b (acked_fit u by h scaled)) scaled;
    taken_window = λ by _ _.
        let b = windowed (acked_open (timed cx.instant header u by) by cx.instant).tcb header in
        content (heeded cx.instant header (length bytes) u by b)
        (heeded_fit u by b
        (with_window own theirs (fit_of (acked_open (timed cx.instant header u by) by cx.instant)) _
        (heard_fits theirs u.tcb.peer.scale header.window_len scaled (tells.later no_syn no_rst)) (acked_fit u by h scaled)))
        scaled;
    news = λ by _ _.
        drawing (waiting_anew (acked_open (timed cx.instant header u by) by cx.instant) header cx.instant) (acked_fit u by h scaled) scaled;
    outside = drawing (waiting_anew u header cx.instant) h scaled;
    old = λ _. content (with_tcb u (tsval_taken (heard u.tcb) header cx.instant)) h scaled;
  }

  -- SYNs and resets that come later: nothing of their window is read

  drawn_out : (x : TcpValue) → IsFit own theirs (fit_of x) → Scaled x → Out (drawn cx x ip header)
  drawn_out x h scaled =
      let d = drawing x h scaled in
      cond_both (may_challenge cx.instant x.tcb.timers.challenges_from) (acked cx (with_draw x cx.instant) ip header no_ranges) (dropped x) Out
      (λ may. d.answers may) (λ _. d.pauses)

  outside_out : (x : TcpValue) (again : Bool) → IsFit own theirs (fit_of x) → Scaled x → Out (outside cx x ip header again)
  outside_out x again h scaled =
      let y = waiting_anew x header cx.instant in
      cond_both (is_closed x.tcb.state) (dropped x) (if again then acked cx y ip header no_ranges else drawn cx y ip header) Out
      (λ _. (h, tt))
      (λ _.
      cond_both again (acked cx y ip header no_ranges) (drawn cx y ip header) Out (λ _. (drawing y h scaled).at_once) (λ _. drawn_out y h scaled))

  passed_out : (u : TcpValue) (by : ℕ) → is_syn header.control ≡ true → is_answering u.tcb.state ≡ true → IsFit own theirs (fit_of u) → Scaled u →
      Out (checked (Passes by) cx u ip header bytes)
  passed_out u by syn answering h scaled =
      cond_both (is_in_window u.tcb (free_in u) header (length bytes)) (inside cx u ip header bytes by) (passed_outside cx u ip header (length bytes) by) Out
      (λ _.
      cond_both (is_syn header.control) (drawn cx u ip header) (taken cx u ip header bytes by) Out (λ _. drawn_out u h scaled) (λ off. clash (sym syn ∙ off)))
      (λ _.
      cond_both (is_before_window u header (length bytes))
      (outside cx (acknowledged (tsecr_heard u header by cx.instant) by cx.instant) ip header (has_length header (length bytes)))
      (outside cx u ip header false) Out
      (λ news. clash (sym (and_first (not (is_answering u.tcb.state)) _ news) ∙ ap not answering)) (λ _. outside_out u false h scaled))

  answering_out : (u : TcpValue) → is_syn header.control ≡ true → is_answering u.tcb.state ≡ true → IsFit own theirs (fit_of u) → Scaled u →
      (ack : Option SeqNumber) → Out (checked (acknowledgement_check u.tcb ack) cx u ip header bytes)
  answering_out u syn answering h scaled None = (h, tt)
  answering_out u syn answering h scaled (Some n) =
      cond_both (is_answering u.tcb.state) (opening_check (distance_of u.tcb.sender.una n))
      (synchronized_check u.tcb (distance_after u.tcb.sender.una n) (distance_before u.tcb.sender.una n)) (λ (c : Check). Out (checked c cx u ip header bytes))
      (λ _.
      cond_both (distance_of u.tcb.sender.una n == 1) (Passes 1) Resets (λ (c : Check). Out (checked c cx u ip header bytes))
      (λ _. passed_out u 1 syn answering h scaled) (λ _. (h, reset_announces own _ refl)))
      (λ off. clash (sym answering ∙ off))

  syn_out : (u : TcpValue) → is_syn header.control ≡ true → is_rst header.control ≡ false → IsFit own theirs (fit_of u) → Scaled u →
      Out (received cx u ip header bytes)
  syn_out u syn no_rst h scaled =
      cond_both (is_rst header.control) (reset_arrives cx u ip header (length bytes))
      (if challenges_first u.tcb header cx.instant then drawn cx u ip header else checked (acknowledgement_check u.tcb header.ack_number) cx u ip header bytes)
      Out
      (λ on. clash (sym on ∙ no_rst))
      (λ _.
      cond_both (challenges_first u.tcb header cx.instant) (drawn cx u ip header)
      (checked (acknowledgement_check u.tcb header.ack_number) cx u ip header bytes) Out
      (λ _. drawn_out u h scaled)
      (λ not_first. answering_out u syn (must_answer _ (is_syn header.control) (is_answering u.tcb.state) syn not_first) h scaled header.ack_number))
    where
      must_answer : (stale syn answering : Bool) → syn ≡ true → (stale || (syn && not answering)) ≡ false → answering ≡ true
      must_answer true syn answering e f = clash f
      must_answer false false answering e f = clash (sym e)
      must_answer false true true e f = refl
      must_answer false true false e f = clash f

  reset_out : (u : TcpValue) → is_rst header.control ≡ true → IsFit own theirs (fit_of u) → Scaled u → Out (received cx u ip header bytes)
  reset_out u rst h scaled =
      cond_both (is_rst header.control) (reset_arrives cx u ip header (length bytes))
      (if challenges_first u.tcb header cx.instant then drawn cx u ip header else checked (acknowledgement_check u.tcb header.ack_number) cx u ip header bytes)
      Out
      (λ _.
      cond_both (takes_reset u.tcb header) (dropped (taken_down u))
      (if challenges_reset u header (length bytes) then drawn cx u ip header else dropped u) Out
      (λ _.
      cond_both (falls_back u.tcb) (listening u u.tcb.names.listen) (ended u) (λ (w : TcpValue). Out (dropped w))
      (λ _. (listens_fit u h, tt)) (λ _. (ended_fit u h, tt)))
      (λ _.
      cond_both (challenges_reset u header (length bytes)) (drawn cx u ip header) (dropped u) Out (λ _. drawn_out u h scaled) (λ _. (h, tt))))
      (λ off. clash (sym rst ∙ off))

  past_receives : (state : State) (u : TcpValue) → is_past state ≡ true → arrives_in state cx u ip header bytes ≡ received cx u ip header bytes
  past_receives In.Closed u e = clash (sym e)
  past_receives In.Listen u e = clash (sym e)
  past_receives In.SynSent u e = clash (sym e)
  past_receives other u e = refl

  past_out : (v : TcpValue) → is_past v.tcb.state ≡ true → IsFit own theirs (fit_of v) → Out (received cx (unoffered v) ip header bytes) →
      Out (arrives cx v ip header bytes)
  past_out v past h q =
      cond_both (is_void_syn header) (dropped (unoffered v)) (arrives_in v.tcb.state cx (unoffered v) ip header bytes) Out
      (λ _. (h, tt)) (λ _. subst Out (sym (past_receives v.tcb.state (unoffered v) past)) q)

  pub arrival_out : (v : TcpValue) → Announces theirs header → IsFit own theirs (fit_of v) → Out (arrives cx v ip header bytes)
  arrival_out v tells h = at (is_past v.tcb.state) (is_syn header.control) (is_rst header.control) refl refl refl where
    as_usual : (is_past v.tcb.state ≡ true → (is_syn header.control ≡ false) × (is_rst header.control ≡ false)) → Out (arrives cx v ip header bytes)
    as_usual plain =
        by_arrival cx ip header bytes Out v (h, tt) (λ _. opening (unoffered v) tells h)
        (λ past. usual (unoffered v) tells (plain past).0 (plain past).1 h (h.scale past))

    at :
        (past syn rst : Bool) → is_past v.tcb.state ≡ past → is_syn header.control ≡ syn → is_rst header.control ≡ rst
        → Out (arrives cx v ip header bytes)
    at false syn rst off e f = as_usual (λ past. clash (sym past ∙ off))
    at true false false on e f = as_usual (λ _. (e, f))
    at true true false on e f = past_out v on h (syn_out (unoffered v) e f h (h.scale on))
    at true syn true on e f = past_out v on h (reset_out (unoffered v) f h (h.scale on))

-- IT IS ASKED

abbrev pub OffersIn : ℕ → Option OpenOffer → Type 0
OffersIn own None = Unit {0}
OffersIn own (Some o) = Announces own o.segment

limit_least : (control : CongestionControl) (window size : ℕ) → congestion_limit control window size ≤ size
limit_least Avoids.None window size = omega arith
limit_least other window size = omega arith

no_syn_for : (c : Choice) (queued : ℕ) → is_syn (control_for c queued) ≡ false
no_syn_for c queued =
    cond_both c.fin Control.Fin (if not (c.len == 0) && (c.offset + c.len == queued) then Control.Psh else Control.None) (λ (k : TcpControl). is_syn k ≡ false)
    (λ _. refl)
    (λ _.
    cond_both (not (c.len == 0) && (c.offset + c.len == queued)) Control.Psh Control.None (λ (k : TcpControl). is_syn k ≡ false) (λ _. refl) (λ _. refl))

-- WHERE A PART OF THE SEND QUEUE ENDS

module _ (own theirs : ℕ) (x : TcpValue) (h : IsFit own theirs (fit_of x)) (small : x.tcb.sender.una.0 < 2 ^ 32) (addresses : AddressPair) (mtu : ℕ) where
  abbrev EndsBy : Choice → Type 0
  EndsBy c =
      EndsShort (max 1 theirs) (one_if x.tcb.sender.syn_unacked) (queued_in x)
      (distance_of x.tcb.sender.una (number_at x.tcb c.offset) + (c.len + control_len (control_for c (queued_in x))))

  near : (offset : ℕ) → distance_of x.tcb.sender.una (number_at x.tcb offset) ≤ one_if x.tcb.sender.syn_unacked + offset
  near offset = distance_at_most x.tcb.sender.una (one_if x.tcb.sender.syn_unacked + offset) small

  payload_short : x.tcb.sender.flight_size ≤ unacked x.tcb (queued_in x) → EndsBy (payload_choice x.tcb addresses mtu x.queued)
  payload_short within = at c.fin refl where
    c : Choice
    c = payload_choice x.tcb addresses mtu x.queued

    size : ℕ
    size = min (size_limit x.tcb addresses mtu) (queued_in x - next_offset x.tcb)

    fits : c.len ≤ x.tcb.peer.window - x.tcb.sender.flight_size
    fits =
        both (x.tcb.peer.window - x.tcb.sender.flight_size) size c.len
        (limit_least x.tcb.settings.congestion_control (congestion_room x.tcb) (min (x.tcb.peer.window - x.tcb.sender.flight_size) size))
      where
        both : (a b n : ℕ) → n ≤ min a b → n ≤ a
        both a b n e = omega arith

    most : x.tcb.peer.window ≤ max 1 theirs
    most = larger x.tcb.peer.window theirs h.window where
      larger : (a b : ℕ) → a ≤ b → a ≤ max 1 b
      larger a b e = omega arith

    at : (fin : Bool) → c.fin ≡ fin → EndsBy c
    at true e =
        fin_ends (max 1 theirs) (one_if x.tcb.sender.syn_unacked) (queued_in x) x.tcb.sender.flight_size x.tcb.peer.window
        (distance_of x.tcb.sender.una (number_at x.tcb c.offset)) c.len (control_len (control_for c (queued_in x)))
        (one_at_most x.tcb.sender.syn_unacked) (near c.offset) fits most
        (subst (λ (t : Bool). control_len (control_for c (queued_in x)) ≤ one_if t) e (control_least c (queued_in x)))
        (eqb-true (next_offset x.tcb + c.len) (queued_in x) (and_second (owes_fin x.tcb.state) (next_offset x.tcb + c.len == queued_in x) e))
        h.short.flight
    at false e =
        payload_ends (max 1 theirs) (one_if x.tcb.sender.syn_unacked) (queued_in x) (one_if (owes_fin x.tcb.state)) x.tcb.sender.flight_size
        x.tcb.peer.window (distance_of x.tcb.sender.una (number_at x.tcb c.offset)) c.len (control_len (control_for c (queued_in x)))
        (one_at_most x.tcb.sender.syn_unacked) (near c.offset) fits most
        (subst (λ (t : Bool). control_len (control_for c (queued_in x)) ≤ one_if t) e (control_least c (queued_in x)))
        within (one_at_most (owes_fin x.tcb.state)) h.short.flight

  again_short : EndsBy (resend_choice x.tcb addresses mtu x.queued)
  again_short = by (end c.fin refl) where
    c : Choice
    c = resend_choice x.tcb addresses mtu x.queued

    sent : ℕ
    sent = sent_count x.tcb

    control : ℕ
    control = control_len (control_for c (queued_in x))

    cut : (s m hole : ℕ) → hole ≤ s → min hole m ≤ s
    cut s m hole e = omega arith

    with_fin : (offset len control sent : ℕ) → offset + len < sent → control ≤ 1 → offset + (len + control) ≤ sent
    with_fin offset len control sent a b = omega arith

    without : (offset len control sent : ℕ) → offset ≤ sent → len ≤ sent - offset → control ≤ 0 → offset + (len + control) ≤ sent
    without offset len control sent a b c = omega arith

    end : (fin : Bool) → c.fin ≡ fin → c.offset + (c.len + control) ≤ sent
    end true e =
        with_fin c.offset c.len control sent
        (ltb-true (c.offset + c.len) sent (and_second (fin_is_sent x.tcb (queued_in x) (c.offset + c.len)) (nat_lt (c.offset + c.len) sent) e))
        (subst (λ (t : Bool). control ≤ one_if t) e (control_least c (queued_in x)))
    end false e =
        without c.offset c.len control sent (again_sent x.tcb (size_limit x.tcb addresses mtu) sent (queued_in x))
        (cut (sent - c.offset) (min (size_limit x.tcb addresses mtu) (queued_in x - c.offset)) (hole_len x.tcb c.offset sent)
        (hole_least x.tcb c.offset sent))
        (subst (λ (t : Bool). control ≤ one_if t) e (control_least c (queued_in x)))

    by : c.offset + (c.len + control) ≤ sent → EndsBy c
    by e =
        again_ends (max 1 theirs) (one_if x.tcb.sender.syn_unacked) (queued_in x) x.tcb.sender.snd_max
        (distance_of x.tcb.sender.una (number_at x.tcb c.offset)) c.offset c.len control (one_at_most x.tcb.sender.syn_unacked) (near c.offset) e
        h.short.payload h.short.snd_max

  probe_short : EndsBy probe_choice
  probe_short =
      probe_ends (max 1 theirs) (one_if x.tcb.sender.syn_unacked) (queued_in x) (distance_of x.tcb.sender.una (number_at x.tcb 0))
      (control_len (control_for probe_choice (queued_in x))) (some theirs) (one_at_most x.tcb.sender.syn_unacked) (near 0)
      (control_least probe_choice (queued_in x))
    where
      some : (n : ℕ) → 1 ≤ max 1 n
      some n = omega arith

module _ (cx : ContextValue) (own theirs : ℕ) (v : TcpValue) where
  abbrev Both : Offered TcpValue → Type 0
  Both o = IsFit own theirs (fit_of (settled true o.socket)) × IsFit own theirs (fit_of o.socket) × OffersIn own o.socket.offered

  abbrev FitsIn : Tcb → Type 0
  FitsIn b = IsFit own theirs (fit_of (with_tcb (unoffered v) b))

  -- a question counts
  asked_fit : (b : Tcb) → FitsIn b → FitsIn (asked b cx.instant)
  asked_fit b h =
      cond_both (is_over cx.instant b.timers.counts_from)
      (record b {
        sender = record b.sender { unanswered = one_more b.sender.unanswered };
        timers = record b.timers { counts_from = Some (timeout_from cx.instant b.round_trip) };
      })
      b FitsIn (λ _. h) (λ _. h)

  module _ (b : Tcb) (h : FitsIn b) (small : b.sender.una.0 < 2 ^ 32) (within : b.sender.flight_size ≤ unacked b (queued_in v)) (pair : FourTuple) where
    abbrev x : TcpValue
    x = with_tcb (unoffered v) b

    -- so much was sent by then
    went_fit : (end missing : ℕ) → EndsShort (max 1 theirs) (one_if b.sender.syn_unacked) (queued_in v) end →
        IsFit own theirs
        (record (fit_of x) {
          flight = max b.sender.flight_size (max end (min missing (min b.sender.snd_max (one_if b.sender.syn_unacked + queued_in v))));
          snd_max = max b.sender.snd_max end;
        })
    went_fit end missing e =
        with_sent own theirs (fit_of x) (one_if b.sender.syn_unacked) (queued_in v) _ _ h
        (went_short (max 1 theirs) (one_if b.sender.syn_unacked) (queued_in v) b.sender.flight_size b.sender.snd_max end missing e h.short)

    -- the segment of a part of the send queue
    part_announces : (c : Choice) → is_past b.state ≡ true →
        Announces own (segment b pair cx.instant (window_of x) (control_for c (queued_in v)) (number_at b c.offset))
    part_announces c past = plain_announces own _ (no_syn_for c (queued_in v)) (bare past) where
      bare : is_past b.state ≡ true → window_of x * 2 ^ local_scale own ≤ own
      bare past = field_fits b (room_of v.received) (free_in v) (length v.received.waiting) own (local_scale theirs) (h.scale past) refl h.room

    by_payload : is_past b.state ≡ true → Both (offer_choice Kind.Payload cx x pair (payload_choice b pair.addresses cx.ip_mtu v.queued))
    by_payload past =
        let c = payload_choice b pair.addresses cx.ip_mtu v.queued in
        (went_fit _ _ (payload_short own theirs x h small pair.addresses cx.ip_mtu within), h, part_announces c past)

    by_again : is_past b.state ≡ true → Both (offer_choice Kind.FastRetransmission cx x pair (resend_choice b pair.addresses cx.ip_mtu v.queued))
    by_again past =
        (went_fit _ _ (again_short own theirs x h small pair.addresses cx.ip_mtu), h, part_announces (resend_choice b pair.addresses cx.ip_mtu v.queued) past)

    by_probe : is_past b.state ≡ true → Both (offer_choice Kind.Probe cx x pair probe_choice)
    by_probe past = (asked_fit (probed r (end_of r o) cx.instant) more, h, part_announces probe_choice past) where
      o : OpenOffer
      o = record {
        kind = Kind.Probe;
        instant = cx.instant;
        header = header_for pair.addresses (hop_limit_of b.settings.hop_limit)
            (header_len (segment b pair cx.instant (window_of x) (control_for probe_choice (queued_in v)) (number_at b 0)) + 1);
        segment = segment b pair cx.instant (window_of x) (control_for probe_choice (queued_in v)) (number_at b 0);
        offset = 0;
        len = 1;
      }

      r : Tcb
      r = recorded b o (room_of v.received)

      more : FitsIn (probed r (end_of r o) cx.instant)
      more =
          with_sent own theirs (fit_of x) (one_if b.sender.syn_unacked) (queued_in v) b.sender.flight_size (max b.sender.snd_max (end_of r o)) h
          (probed_short (max 1 theirs) (one_if b.sender.syn_unacked) (queued_in v) b.sender.flight_size b.sender.snd_max (end_of r o)
          (probe_short own theirs x h small pair.addresses cx.ip_mtu) h.short)

    by_bare : (kind : OfferKind) → is_past b.state ≡ true → window_of x * 2 ^ local_scale own ≤ own
    by_bare kind past = field_fits b (room_of v.received) (free_in v) (length v.received.waiting) own (local_scale theirs) (h.scale past) refl h.room

    by_keep_alive : is_past b.state ≡ true → Both (offer_segment Kind.KeepAlive cx x pair (keep_alive_segment b pair cx.instant (window_of x)) 0 1)
    by_keep_alive past = (asked_fit (recorded b o (room_of v.received)) h, h, plain_announces own _ refl (by_bare Kind.KeepAlive past)) where
      o : OpenOffer
      o = record {
        kind = Kind.KeepAlive;
        instant = cx.instant;
        header = header_for pair.addresses (hop_limit_of b.settings.hop_limit) (header_len (keep_alive_segment b pair cx.instant (window_of x)) + 1);
        segment = keep_alive_segment b pair cx.instant (window_of x);
        offset = 0;
        len = 1;
      }

    by_syn : owes_syn b ≡ true → Both (offer_segment Kind.Syn cx x pair (syn_segment b pair cx.instant cx.ip_mtu (room_of v.received) (free_in v)) 0 0)
    by_syn owes =
        (went_fit _ _ (first_ends (max 1 theirs) (one_if b.sender.syn_unacked) (queued_in v) _ (one (own_distance b.sender.una small))), h, announces)
      where
        one : {d : ℕ} → d ≡ 0 → d + (0 + 1) ≡ 1
        one e = omega arith

        named : (not b.receiver.took_syn || is_some b.peer.scale) ≡ true
        named = by (syn_past b.state (and_first (sends_syn b.state) _ (and_first _ _ owes))) where
          by : (is_before b.state ≡ true) ⊎ (is_past b.state ≡ true) → (not b.receiver.took_syn || is_some b.peer.scale) ≡ true
          by (inl before) = ap (λ (t : Bool). not t || is_some b.peer.scale) (h.before before)
          by (inr past) = ap (λ (s : Option ℕ). not b.receiver.took_syn || is_some s) (h.scale past) ∙ either b.receiver.took_syn where
            either : (t : Bool) → (not t || true) ≡ true
            either true = refl
            either false = refl

        announces : Announces own (syn_segment b pair cx.instant cx.ip_mtu (room_of v.received) (free_in v))
        announces = record {
          syn = λ _. (
            fits (length v.received.waiting) (free_in v) own h.room,
            ap (λ (t : Bool). if t then Some (local_scale (room_of v.received)) else None) named
                ∙ ap (λ (n : ℕ). Some (local_scale n)) h.room,
          );
          later = λ e. clash e;
        }
          where
            fits : (waiting free room : ℕ) → waiting + free ≡ room → min free 65_535 ≤ room
            fits waiting free room e = omega arith

  -- an instant that is due is set
  unset : (test : Bool) (at : Option ℤ) → is_due cx.instant (if test then at else None) ≡ true → test ≡ true
  unset true at e = refl
  unset false at e = clash (sym e)

  by_last : (pair : FourTuple) (b : Tcb) → FitsIn b → b.sender.una.0 < 2 ^ 32 → b.sender.flight_size ≤ unacked b (queued_in v) → is_closed b.state ≡ false →
      LastRules cx pair Both (with_tcb (unoffered v) b)
  by_last pair b h small within alive = record {
    probe = λ due _. by_probe b h small within pair (probing_past due);
    window_limited = λ due _. by_payload b h small within pair (probing_past due);
    ack = λ due. (h, h, plain_announces own _ refl (by_bare b h small within pair Kind.Ack (heard_past due)));
    update = λ _ worth. (
      h,
      h,
      plain_announces own _ refl (by_bare b h small within pair Kind.WindowUpdate (takes_past b.state (and_first (accepts_data b.state) _ worth))),
    );
    keep_alive = λ _ due.
        by_keep_alive b h small within pair
        (alive_past b.state (and_first (keeps_alive b.state) _ (unset (keeps_alive b.state && (b.sender.flight_size == 0)) b.settings.keep_alive_at due)));
    quiet = λ _. (h, h, tt);
  }
    where
      probing_past : is_due cx.instant (if is_probing b (queued_in v) then b.timers.probe_at else None) ≡ true → is_past b.state ≡ true
      probing_past due = payload_past b.state (and_first (may_send_data b.state) _ (unset (is_probing b (queued_in v)) b.timers.probe_at due))

      heard_past : is_due cx.instant (if b.receiver.took_syn then b.timers.ack_at else None) ≡ true → is_past b.state ≡ true
      heard_past due = by (either_side b.state alive) where
        by : (is_before b.state ≡ true) ⊎ (is_past b.state ≡ true) → is_past b.state ≡ true
        by (inl before) = clash (sym (unset b.receiver.took_syn b.timers.ack_at due) ∙ h.before before)
        by (inr past) = past

  by_first : (pair : FourTuple) (b : Tcb) → FitsIn b → b.sender.una.0 < 2 ^ 32 → b.sender.flight_size ≤ unacked b (queued_in v) → is_closed b.state ≡ false →
      FirstRules cx pair Both (with_tcb (unoffered v) b)
  by_first pair b h small within alive = record {
    syn = λ owes. by_syn b h small within pair owes;
    again = λ _ due. by_again b h small within pair (payload_past b.state (and_first (may_send_data b.state) _ due));
    payload = λ _ due. by_payload b h small within pair (payload_past b.state (and_first (may_send_data b.state) _ due));
    last = λ _. by_last pair (probing cx (with_tcb (unoffered v) b)).tcb h small within alive;
  }

  pub offer_out : IsInOrder (sending_of v) → IsFit own theirs (fit_of v) → Both (offer_of cx v)
  offer_out order h =
      by_rules cx v Both
      (record {
        nobody = λ _. (h, h, tt);
        time_wait = λ _. let c = closed_fit own theirs (fit_of v) h in (c, c, tt);
        timeout = λ _. let c = closed_fit own theirs (fit_of v) h in (c, c, tt);
        closed = λ _. (h, h, tt);
        reset = λ pair _ _. (closed_fit own theirs (fit_of v) h, h, reset_announces own _ refl);
        falls = λ _ _ _. let l = listened v h in (l, l, tt);
        over = λ _ _ _. let c = closed_fit own theirs (fit_of v) h in (c, c, tt);
        backs = λ pair _ on _.
            by_first pair (backed_off_now (begun cx v))
            (with_sent own theirs (fit_of v) (one_if v.tcb.sender.syn_unacked) (queued_in v) 0 v.tcb.sender.snd_max h
            (back_short (max 1 theirs) (one_if v.tcb.sender.syn_unacked) (queued_in v) v.tcb.sender.flight_size v.tcb.sender.snd_max h.short))
            order.number (least (unacked v.tcb (queued_in v))) on.alive;
        probes = λ pair _ on _ _. by_first pair (loss_probed (begun cx v)) h order.number (order.within on.alive) on.alive;
        goes = λ pair _ on _. by_first pair (begun cx v) h order.number (order.within on.alive) on.alive;
      })
    where
      least : (n : ℕ) → 0 ≤ n
      least n = omega arith

      listened : (u : TcpValue) → IsFit own theirs (fit_of u) → IsFit own theirs (fit_of (listening u u.tcb.names.listen))
      listened u h = initial_fit own theirs In.Listen (0 + length (space (room_of u.received))) 0 0 (by (length-space (room_of u.received)) h.room) refl where
        by : {a b : ℕ} → a ≡ b → b ≡ own → 0 + a ≡ own
        by a b = omega arith
