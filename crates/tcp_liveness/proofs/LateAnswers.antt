-- Each acknowledgement that a side ever sent counts, whenever it comes.
use Rattle.std.proofs.Common.{◌≡◌, inl, inr, ℕ, zero, suc, ◌+◌, ◌-◌, ◌%◌, ◌^◌, ◌<◌, ◌≤◌, ◌==◌, ◌&&◌, nat_le, nat_lt, Bool, true, false, if◌then◌else◌}
use Rattle.std.proofs.Common.{List, [], ◌∷◌, length, Some, None, option_map, slice_get, refl, sym, ap, ◌∙◌, subst, arith}
use Rattle.std.proofs.lemmas.Bool.{cond_both, eqb-true, le-ltb, ltb-false, ltb-true}
use Rattle.std.proofs.lemmas.Option.{slice_get-map}
use Rattle.std.specs.List.{AllByRecursion}
use Rattle.ip_wire.specs.IpRepr.{IpRepr}
use Rattle.ip_wire.specs.Seq.{distance_of}
use Rattle.ip_wire.specs.SeqNumber.{SeqNumber}
use Rattle.ip_wire.specs.TcpControl.{TcpControl}
use Rattle.ip_wire.specs.TcpControl.TheVariants as Control
use Rattle.ip_wire.specs.TcpHeader.{TcpHeader}
use Rattle.tcp_theory.specs.Invariant.{HasReached, IsHonest, IsInStep}
use Rattle.tcp_theory.specs.Segment.Control.{Rst}
use Rattle.tcp_theory.specs.Side.{rcv_next, one_if as one_in}
use Rattle.tcp_refinement.specs.Context.{ContextValue}
use Rattle.tcp_refinement.specs.Tie.{Keeps, Past, ack_of, control_of, segment_of}
use Rattle.tcp_refinement.proofs.Tied.{if_so, if_not}
use Rattle.tcp_invariants.specs.Controls.{is_rst, is_syn}
use Rattle.tcp_invariants.specs.Offsets.{distance_before, distance_after}
use Rattle.tcp_invariants.specs.States.{is_answering}
use Rattle.tcp_invariants.proofs.ArrivalCases.{by_arrival, Received, Opening, Content, Drawing}
use Rattle.tcp_invariants.proofs.OrderSteps.{clash}
use Rattle.tcp_block.specs.Arrival.{arrives, waiting_anew}
use Rattle.tcp_block.specs.declared.tcb.Tcb.{Tcb}
use Rattle.tcp_block.specs.Checks.{acknowledgement_check, opening_check, synchronized_check}
use Rattle.tcp_block.specs.Checks.Check.{Passes, Old, Drops, Draws}
use Rattle.tcp_block.specs.Names.{accepts}
use Rattle.tcp_block.specs.Retries.{heard}
use Rattle.tcp_refinement.specs.Pair.Sides.{at, other}
use Rattle.tcp_refinement.specs.Pair.Steps.{handed, taken_at}
use Rattle.tcp_block.specs.Timestamps.{tsval_taken}
use Rattle.tcp_block.specs.Value.{TcpValue, Arrived, with_tcb, unoffered}
use Rattle.tcp_refinement.specs.Pair.Values.{PairSide, PairValue, context_at, past_at, seen_of}
use Rattle.tcp_refinement.specs.declared.pair.event.SentSegment.{SentSegment}
use Rattle.tcp_refinement.specs.declared.pair.event.Side.{Side}
use Rattle.tcp_refinement.specs.declared.pair.event.Side.TheVariants.{A, B}
use Rattle.tcp_liveness.specs.Arrivals.{Counts, IsNearWindow, is_synchronized}
use Rattle.tcp_liveness.specs.Clocks.{arrives_stale}
use Rattle.tcp_liveness.specs.Exchange.{IsOpen, TookWhatWasSent, left_of}
use Rattle.tcp_liveness.specs.DelayedSegment.{IsAckedTo, MayCome, come_in}
use Rattle.tcp_liveness.specs.Onward.{AreOpen}
use Rattle.tcp_liveness.specs.Pair.{HasStream, socket_of}
use Rattle.tcp_liveness.specs.Positions.{LiesWithin}
use Rattle.tcp_liveness.specs.Reached.{IsReached}
use Rattle.tcp_liveness.specs.Sent.{is_early}
use Rattle.tcp_liveness.proofs.Accepted.{sent_accepted}
use Rattle.tcp_liveness.proofs.Acked.{not_answering, una_rises}
use Rattle.tcp_liveness.proofs.Kept.{reached_keeps}
use Rattle.tcp_liveness.proofs.Pair.{in_step, late_in}
use Rattle.tcp_liveness.proofs.Positions.{IsPlaced, far, lies_within, placed, una_small}
use Rattle.tcp_liveness.proofs.SentPairs.{reached_took}

-- IT COMES

pub delivered :
    (p : PairValue) (from : Side) (k : ℕ) (x : SentSegment) → IsReached p → is_synchronized (socket_of p from).tcb.state ≡ true
    → is_synchronized (socket_of p (other from)).tcb.state ≡ true → slice_get (at p.sides from).sent k ≡ Some x
    → at (come_in p from k).sides (other from)
    ≡ taken_at (at p.sides (other from))
    (arrives (context_at (other from) (at p.sides (other from))) (socket_of p (other from)) x.header x.segment x.bytes)
delivered p A k x r mine theirs sent =
    ap (handed B p.sides.b) sent
    ∙ if_so (accepts p.sides.b.socket.tcb x.header x.segment)
    (taken_at p.sides.b (arrives (context_at B p.sides.b) p.sides.b.socket x.header x.segment x.bytes)) p.sides.b
    (sent_accepted p A k x r mine theirs sent)
delivered p B k x r mine theirs sent =
    ap (handed A p.sides.a) sent
    ∙ if_so (accepts p.sides.a.socket.tcb x.header x.segment)
    (taken_at p.sides.a (arrives (context_at A p.sides.a) p.sides.a.socket x.header x.segment x.bytes)) p.sides.a
    (sent_accepted p B k x r mine theirs sent)

-- WHAT IT SAYS

-- one of a list
pub one_of : {X : Type 0} (P : X → Type 0) (xs : List X) (k : ℕ) (x : X) → AllByRecursion P xs → slice_get xs k ≡ Some x → P x
one_of P [] zero x all e = absurd (cc)
one_of P [] (suc k) x all e = absurd (cc)
one_of P (y ∷ xs) zero x all e = subst P (let same : y ≡ x = cc in same) all.0
one_of P (y ∷ xs) (suc k) x all e = one_of P xs k x all.1 e

pub no_rst : {X : Type 0} (control : TcpControl) → is_rst control ≡ false → control_of control ≡ Rst → X
no_rst Control.None e f = absurd (cc)
no_rst Control.Psh e f = absurd (cc)
no_rst Control.Syn e f = absurd (cc)
no_rst Control.Fin e f = absurd (cc)
no_rst Control.Rst e f = clash e

pub same_number : (a b : ℕ) → Some a ≡ Some b → a ≡ b
same_number a b e = cc

pub no_number : {X : Type 0} (a : ℕ) → Some a ≡ None → X
no_number a e = absurd (cc)

-- it counts as acknowledged where it lies at SND.UNA
past_none : (una number : SeqNumber) → una.0 ≡ number.0 → number.0 < 2 ^ 32 → IsAckedTo number una
past_none una number same small =
    cond_both (nat_lt d (2 ^ 31)) d 0 (λ (n : ℕ). n ≡ 0) (λ _. none una.0 number.0 same small) (λ _. refl) where
      d : ℕ
      d = distance_of una number

      none : (a b : ℕ) → a ≡ b → b < 2 ^ 32 → (b + (2 ^ 32 - a)) % 2 ^ 32 ≡ 0
      none a b e f = omega arith

passes_first : (b : Tcb) (past before by : ℕ) → synchronized_check b past before ≡ Passes by → before ≡ 0
passes_first b past before by =
    tested (nat_lt b.sender.snd_max past) ((past == 0) && nat_le b.sender.past_iss before) (before == 0) refl (nat_lt b.peer.largest_window before)
  where
    tested :
        (more none first : Bool) → (before == 0) ≡ first → (distant : Bool)
        → (if more then Draws else if none then Drops else if first then Passes past else if distant then Draws else Old) ≡ Passes by → before ≡ 0
    tested true none first is distant e = absurd (cc)
    tested false true first is distant e = absurd (cc)
    tested false false true is distant e = eqb-true before 0 is
    tested false false false is true e = absurd (cc)
    tested false false false is false e = absurd (cc)

-- WHERE IT LIES BEFORE SND.UNA

module _ (cx : ContextValue) (ip : IpRepr) (header : TcpHeader) (bytes : List ℕ) (v : TcpValue) (there : is_synchronized v.tcb.state ≡ true)
    (no_reset : is_rst header.control ≡ false) (never : (by : ℕ) → acknowledgement_check v.tcb header.ack_number ≡ Passes by → ⊥) where
  abbrev Still : Arrived → Type 0
  Still a = a.socket.tcb.sender.una ≡ v.tcb.sender.una

  still_drawing : (x : TcpValue) → x.tcb.sender.una ≡ v.tcb.sender.una → Drawing cx ip header bytes Still x
  still_drawing x e = record { answers = λ _. e; at_once = e; pauses = e }

  still_content : (x : TcpValue) → x.tcb.sender.una ≡ v.tcb.sender.una → Content cx ip header bytes Still x
  still_content x e =
      record {
        plain = (λ _. e, e);
        fin = λ _ _. (λ _. e, e);
        ordered = λ _ _ _ _. (λ _. e, e);
        ordered_fin = λ _ _ _ _. (λ _. e, e);
        early = λ _ _ _ _. e;
      }

  still_received : Received cx ip header bytes Still (unoffered v)
  still_received = record {
    stays = refl;
    refuses = refl;
    draws = still_drawing (unoffered v) refl;
    falls = λ rst _ _. clash (sym rst ∙ no_reset);
    ends = λ _ _ _. refl;
    closes = λ by passes _. absurd (never by passes);
    taken = λ by passes _. absurd (never by passes);
    taken_window = λ by passes _. absurd (never by passes);
    news = λ by passes _. absurd (never by passes);
    outside = still_drawing (waiting_anew (unoffered v) header cx.instant) refl;
    old = λ _. still_content (with_tcb (unoffered v) (tsval_taken (heard v.tcb) header cx.instant)) refl;
  }

  still_opening : Opening cx ip header bytes Still (unoffered v)
  still_opening = record {
    opens = λ at _. clash (sym (ap is_early at) ∙ late_in v.tcb.state there);
    refuses = refl;
    ends = λ at. clash (sym (ap is_early at) ∙ late_in v.tcb.state there);
    connects = λ at _. clash (sym (ap is_early at) ∙ late_in v.tcb.state there);
    crosses = λ at _. clash (sym (ap is_early at) ∙ late_in v.tcb.state there);
  }

  una_stays : Still (arrives cx v ip header bytes)
  una_stays = by_arrival cx ip header bytes Still v refl (λ _. still_opening) (λ _. still_received)

-- OF TWO SOCKETS

module _ (cx : ContextValue) (v w : TcpValue) (p q : Past) (k : Keeps v p w q) (ip : IpRepr) (header : TcpHeader) (bytes : List ℕ) (number : SeqNumber)
    (mine : IsOpen v.tcb) (theirs : is_synchronized w.tcb.state ≡ true) (step : IsInStep k.side k.peer_side) (sent : TookWhatWasSent v w)
    (no_syn : is_syn header.control ≡ false) (no_reset : is_rst header.control ≡ false)
    (initial : arrives_stale v.tcb header.options.timestamp ≡ false) (ack : header.ack_number ≡ Some number) (n : ℕ)
    (gone : slice_get q.sent n ≡ Some (segment_of header bytes)) (near : IsNearWindow v header (length bytes)) where
  a : IsPlaced v k.side
  a = placed v k.side k.fits k.holds.0.well_formed mine.synchronized

  l : LiesWithin v w k.side k.peer_side
  l = lies_within v w p q k mine.synchronized theirs step

  honest : IsHonest k.peer_side k.side (segment_of header bytes)
  honest =
      one_of (IsHonest k.peer_side k.side) k.peer_side.sent n (segment_of header bytes) k.holds.1.sent
      (ap (λ (past : Past). slice_get past.sent n) k.peer_side_past ∙ gone)

  -- the peer has reached its number
  reached : HasReached k.peer_side number.0
  reached = by honest where
    by : IsHonest k.peer_side k.side (segment_of header bytes) → HasReached k.peer_side number.0
    by (inl rst) = no_rst header.control no_reset rst
    by (inr (what, inl none)) = no_number number.0 (sym (ap ack_of ack) ∙ none)
    by (inr (what, inr (m, is, it))) =
        subst (HasReached k.peer_side) (same_number m number.0 (sym is ∙ ap ack_of ack)) it

  small : number.0 < 2 ^ 32
  small = subst (λ (m : ℕ). m < 2 ^ 32) (sym reached.same) (below reached.at) where
    below : (m : ℕ) → m % 2 ^ 32 < 2 ^ 32
    below m = omega arith

  abbrev far_number : ℕ
  far_number = distance_of v.tcb.sender.una number

  -- at SND.UNA or past it
  counts : k.side.una ≤ reached.at → Counts v.tcb header number
  counts later = record {
    synchronized = mine.synchronized;
    opened = mine.opened;
    no_syn = no_syn;
    no_reset = no_reset;
    initial = initial;
    acknowledges = ack;
    sent = within k.side.una far_number reached.at (rcv_next k.peer_side) _ v.tcb.sender.snd_max position reached.high l.position sent;
    few = few v.tcb.sender.snd_max (left_of v) a.snd_max a.few;
    number_small = small;
    una_small = una_small v k.side a;
  }
    where
      upper : (una at next distance all : ℕ) → at ≤ next → una + distance ≡ next → distance ≤ all → at ≤ una + all
      upper una at next distance all e f g = omega arith

      position : k.side.una + far_number ≡ reached.at
      position =
          far k.side.una reached.at (left_of v) v.tcb.sender.una.0 number.0 later
          (upper k.side.una reached.at (rcv_next k.peer_side) _ (left_of v) reached.high l.position l.within) a.few a.una reached.same

      within : (una by at next distance snd_max : ℕ) → una + by ≡ at → at ≤ next → una + distance ≡ next → distance ≤ snd_max → by ≤ snd_max
      within una by at next distance snd_max e f g h = omega arith

      few : (snd_max all : ℕ) → snd_max ≤ all → all < 2 ^ 30 → snd_max < 2 ^ 31
      few snd_max all e f = omega arith

  -- before it
  following : reached.at < k.side.una → 2 ^ 31 ≤ far_number
  following less =
      back k.side.iss k.peer_side.irs k.side.una reached.at (left_of v) (length k.side.written) (one_in k.side.closed) v.tcb.sender.una.0 number.0 step.counts
      reached.after_syn less a.end k.holds.0.well_formed.short (at_most_one k.side.closed) a.una reached.same
    where
      at_most_one : (t : Bool) → one_in t ≤ 1
      at_most_one true = omega arith
      at_most_one false = omega arith

      back :
          (iss irs una at all written closed una_number number : ℕ) → irs ≡ iss → irs < at → at < una → una + all ≡ suc iss + written + closed
          → written < 2 ^ 29 → closed ≤ 1 → una_number ≡ una % 2 ^ 32 → number ≡ at % 2 ^ 32
          → 2 ^ 31 ≤ (number + (2 ^ 32 - una_number)) % 2 ^ 32
      back iss irs una at all written closed una_number number b c d e f g h i = omega arith

  -- then it passes no check
  never : reached.at < k.side.una → (by : ℕ) → acknowledgement_check v.tcb header.ack_number ≡ Passes by → ⊥
  never less by passes = none far_number before_none (modulo number.0 v.tcb.sender.una.0) where
    checks : synchronized_check v.tcb (distance_after v.tcb.sender.una number) (distance_before v.tcb.sender.una number) ≡ Passes by
    checks =
        sym
        (if_not (is_answering v.tcb.state) (opening_check far_number)
        (synchronized_check v.tcb (distance_after v.tcb.sender.una number) (distance_before v.tcb.sender.una number))
        (not_answering v.tcb.state mine.synchronized))
        ∙ (sym (ap (acknowledgement_check v.tcb) ack) ∙ passes)

    before_none : 2 ^ 32 - far_number ≡ 0
    before_none =
        sym (ap (λ (t : Bool). if t then 0 else 2 ^ 32 - far_number) (le-ltb far_number (2 ^ 31) (following less)))
        ∙ passes_first v.tcb (distance_after v.tcb.sender.una number) (distance_before v.tcb.sender.una number) by checks

    none : (d : ℕ) → 2 ^ 32 - d ≡ 0 → d < 2 ^ 32 → ⊥
    none d e f = absurd (omega arith)

    modulo : (a b : ℕ) → (a + (2 ^ 32 - b)) % 2 ^ 32 < 2 ^ 32
    modulo a b = omega arith

  pub acked_to : IsAckedTo number (arrives cx v ip header bytes).socket.tcb.sender.una
  acked_to = by (nat_lt reached.at k.side.una) refl where
    by : (test : Bool) → nat_lt reached.at k.side.una ≡ test → IsAckedTo number (arrives cx v ip header bytes).socket.tcb.sender.una
    by true e =
        let less = ltb-true reached.at k.side.una e in
        subst (λ (una : SeqNumber). IsAckedTo number una)
        (sym (una_stays cx ip header bytes v mine.synchronized no_reset (never less)))
        (ap (λ (t : Bool). if t then far_number else 0) (le-ltb far_number (2 ^ 31) (following less)))
    by false e =
        past_none (arrives cx v ip header bytes).socket.tcb.sender.una number
        (una_rises cx v ip header bytes number (counts (ltb-false reached.at k.side.una e)) near) small

-- OF A PAIR

pub late_answer :
    (p : PairValue) (side : Side) (n : ℕ) (x : SentSegment) (number : SeqNumber) → IsReached p → AreOpen p → HasStream (past_at p (other side))
    → MayCome p side n x → is_syn x.segment.control ≡ false → is_rst x.segment.control ≡ false → x.segment.ack_number ≡ Some number
    → IsNearWindow (socket_of p (other side)) x.segment (length x.bytes)
    → IsAckedTo number (socket_of (come_in p side n) (other side)).tcb.sender.una
late_answer p A n x number r both stream may no_syn no_reset ack near =
    subst (λ (s : PairSide). IsAckedTo number s.socket.tcb.sender.una) (sym (delivered p A n x r both.0.synchronized both.1.synchronized may.sent))
    (acked_to (context_at B p.sides.b) p.sides.b.socket p.sides.a.socket (past_at p B) (past_at p A) k x.header x.segment x.bytes number both.1
    both.0.synchronized (in_step p.sides.b.socket p.sides.a.socket (past_at p B) (past_at p A) k both.1.synchronized stream)
    (reached_took p B r both.1 both.0).sent no_syn no_reset may.initial ack n
    (slice_get-map seen_of p.sides.a.sent n ∙ ap (option_map seen_of) may.sent) near)
  where
    k : Keeps p.sides.b.socket (past_at p B) p.sides.a.socket (past_at p A)
    k = reached_keeps p B r
late_answer p B n x number r both stream may no_syn no_reset ack near =
    subst (λ (s : PairSide). IsAckedTo number s.socket.tcb.sender.una) (sym (delivered p B n x r both.1.synchronized both.0.synchronized may.sent))
    (acked_to (context_at A p.sides.a) p.sides.a.socket p.sides.b.socket (past_at p A) (past_at p B) k x.header x.segment x.bytes number both.0
    both.1.synchronized (in_step p.sides.a.socket p.sides.b.socket (past_at p A) (past_at p B) k both.0.synchronized stream)
    (reached_took p A r both.0 both.1).sent no_syn no_reset may.initial ack n
    (slice_get-map seen_of p.sides.b.sent n ∙ ap (option_map seen_of) may.sent) near)
  where
    k : Keeps p.sides.a.socket (past_at p A) p.sides.b.socket (past_at p B)
    k = reached_keeps p A r
