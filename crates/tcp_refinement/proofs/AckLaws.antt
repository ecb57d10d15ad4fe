-- The acknowledgement of an accepted segment, in the socket's own words.
use Rattle.std.proofs.Common.{◌≡◌, ◌⊎◌, inl, inr, ℕ, ◌+◌, ◌^◌, ◌<◌, ◌≤◌, ◌==◌, ◌&&◌, ℤ, Bool, true, false, if◌then◌else◌, List, Some, length, refl, sym, ap}
use Rattle.std.proofs.Common.{subst, arith}
use Rattle.std.proofs.lemmas.Bool.{and_parts, and_cases, eqb-true, eqb-false}
use Rattle.ip_wire.specs.Seq.{distance_of}
use Rattle.ip_wire.specs.SeqNumber.{SeqNumber}
use Rattle.ip_wire.specs.TcpHeader.{TcpHeader}
use Rattle.net_base.specs.Ring.{released}
use Rattle.tcp_theory.specs.Move.{Comes}
use Rattle.tcp_theory.specs.Segment.{IsNoReset}
use Rattle.tcp_theory.specs.Side.{Side, one_if}
use Rattle.tcp_theory.proofs.Opening.{honest, acked}
use Rattle.tcp_block.specs.State.{State}
use Rattle.tcp_block.specs.State.TheVariants as In
use Rattle.tcp_block.specs.Acknowledged.{acknowledged, state_after_ack, ended_if, in_state, una_moved, freed_by}
use Rattle.tcp_block.specs.States.{is_closed, owes_fin, after_ack, after_ack_of_fin}
use Rattle.tcp_block.specs.Value.{TcpValue, queued_in}
use Rattle.tcp_refinement.specs.Tie.{Core, Past, past_of, unsent, is_closed_in, is_finished_in, core_of, segment_of, control_of, ack_of}
use Rattle.tcp_refinement.proofs.Tied.{Tied, fits_connected, is_connected}
use Rattle.tcp_refinement.proofs.ArrivalMoves.{acked_core, LeadsTo, IsAcceptable, takes_ack, acked_syn}
use Rattle.tcp_refinement.proofs.CallLaws.{to_closed}

-- all that may be acknowledged
abbrev pub all_of : Core → ℕ
all_of c = one_if c.syn_unacked + length c.queue + one_if (owes_fin c.state)

abbrev pub state_acked : Core → ℕ → State
state_acked c by = if owes_fin c.state && (by == all_of c) then after_ack_of_fin c.state else after_ack c.state

leads_fin :
    (c : Core) (state : State) (by : ℕ) → c.state ≡ state → owes_fin state ≡ true → is_closed (after_ack_of_fin state) ≡ false → by ≡ all_of c
    → LeadsTo c (after_ack_of_fin state) by
leads_fin c In.FinWait1 by e owes open_yet all =
    record { connected = refl; phase = refl; closed = ap is_closed_in (sym e); finished = ap is_finished_in (sym e); fin = inl (all, refl) }
leads_fin c In.Closing by e owes open_yet all =
    record { connected = refl; phase = refl; closed = ap is_closed_in (sym e); finished = ap is_finished_in (sym e); fin = inl (all, refl) }
leads_fin c In.LastAck by e owes open_yet all = absurd (cc)
leads_fin c other by e owes open_yet all = absurd (cc)

-- LAST-ACK ends as TIME-WAIT does
leads_last :
    (c : Core) (state : State) (by : ℕ) → c.state ≡ state → owes_fin state ≡ true → is_closed (after_ack_of_fin state) ≡ true → by ≡ all_of c
    → LeadsTo c In.TimeWait by
leads_last c In.LastAck by e owes ended all =
    record { connected = refl; phase = refl; closed = ap is_closed_in (sym e); finished = ap is_finished_in (sym e); fin = inl (all, refl) }
leads_last c other by e owes ended all = absurd (cc)

leads_plain :
    (c : Core) (state : State) (by : ℕ) → c.state ≡ state → is_connected state ≡ true → by ≤ one_if c.syn_unacked + length c.queue
    → LeadsTo c (after_ack state) by
leads_plain c In.Closed by e connected some = absurd (cc)
leads_plain c In.Listen by e connected some = absurd (cc)
leads_plain c In.SynSent by e connected some = absurd (cc)
leads_plain c other by e connected some =
    record {
      connected = refl;
      phase = refl;
      closed = ap is_closed_in (sym e);
      finished = ap is_finished_in (sym e);
      fin =
          inr (some, ap (λ (state : State). one_if (owes_fin state)) (sym e));
    }

still_open : (state : State) → is_connected state ≡ true → is_closed (after_ack state) ≡ false
still_open In.Closed e = absurd (cc)
still_open other e = refl

-- but for all of a FIN that is owed, the bytes are the most
less : (c : Core) (by : ℕ) → by ≤ all_of c → (owes_fin c.state && (by == all_of c)) ≡ false → by ≤ one_if c.syn_unacked + length c.queue
less c by within e = from (and_cases (owes_fin c.state) (by == all_of c) e) where
  small : (owes : Bool) → one_if owes ≤ 1
  small true = omega arith
  small false = omega arith

  from : (owes_fin c.state ≡ false) ⊎ ((by == all_of c) ≡ false) → by ≤ one_if c.syn_unacked + length c.queue
  from (inl none) = let zero_more = ap one_if none in omega arith
  from (inr other) =
      let unlike = eqb-false by (all_of c) other in
      let one = small (owes_fin c.state) in
      omega (arith, unlike)

pub leads :
    (c : Core) (by : ℕ) → is_connected c.state ≡ true → by ≤ all_of c
    → ((is_closed (state_acked c by) ≡ false) × LeadsTo c (state_acked c by) by) ⊎ ((is_closed (state_acked c by) ≡ true) × LeadsTo c In.TimeWait by)
leads c by connected within = from (owes_fin c.state && (by == all_of c)) refl where
  whole : (test : Bool) → is_closed (after_ack_of_fin c.state) ≡ test → owes_fin c.state ≡ true → by ≡ all_of c
      → ((is_closed (after_ack_of_fin c.state) ≡ false) × LeadsTo c (after_ack_of_fin c.state) by) ⊎
      ((is_closed (after_ack_of_fin c.state) ≡ true) × LeadsTo c In.TimeWait by)
  whole true e owes all = inr (e, leads_last c c.state by refl owes e all)
  whole false e owes all = inl (e, leads_fin c c.state by refl owes e all)

  from : (test : Bool) → (owes_fin c.state && (by == all_of c)) ≡ test
      → ((is_closed (if test then after_ack_of_fin c.state else after_ack c.state) ≡ false) ×
      LeadsTo c (if test then after_ack_of_fin c.state else after_ack c.state) by)
      ⊎ ((is_closed (if test then after_ack_of_fin c.state else after_ack c.state) ≡ true) × LeadsTo c In.TimeWait by)
  from true e =
      let both = and_parts (owes_fin c.state) (by == all_of c) e in
      whole (is_closed (after_ack_of_fin c.state)) refl both.0 (eqb-true by (all_of c) both.1)
  from false e = inl (still_open c.state connected, leads_plain c c.state by refl connected (less c by within e))

-- the socket after an acknowledgement: it is a side, and where it didn't end its SYN is acknowledged
pub record IsAcked (p : Past) (t : Side) (v : TcpValue) : Type 0 where
  pub tied : Tied (core_of v) p t
  pub running : is_closed v.tcb.state ≡ false → (is_connected v.tcb.state ≡ true) × (v.tcb.sender.syn_unacked ≡ false)

-- the same, ended or not
abbrev acked_as : TcpValue → ℕ → ℤ → Bool → TcpValue
acked_as v by now test = record v {
  tcb = ended_if test (in_state (una_moved v.tcb by (queued_in v) now) (state_after_ack v.tcb by (queued_in v)) now);
  queued = released v.queued (freed_by v.tcb by (queued_in v));
}

pub acks :
    (v : TcpValue) (p : Past) (t : Side) (header : TcpHeader) (bytes : List ℕ) (n : SeqNumber) (by : ℕ) (now : ℤ) → Comes t (segment_of header bytes)
    → IsNoReset (control_of header.control) → header.ack_number ≡ Some n → by ≡ distance_of v.tcb.sender.una n
    → IsAcceptable (core_of v) by → is_connected v.tcb.state ≡ true → Tied (core_of v) p t
    → IsAcked p t (acknowledged v by now)
acks v p t header bytes n by now comes control e distance ok connected r =
    from (leads (core_of v) by connected ok.within)
  where
    small : n.0 < 2 ^ 32
    small = let reached = (acked t r.side (segment_of header bytes) n.0 control (ap ack_of e)
        (honest t r.side (segment_of header bytes) r.holds.1 comes)).same in omega arith

    moved : (state : State) → LeadsTo (core_of v) state by → Tied (acked_core (core_of v) state by) p t
    moved state led =
        subst (λ (p : Past). Tied (acked_core (core_of v) state by) p t) r.past
        (takes_ack (core_of v) r.side t (segment_of header bytes) n.0 by state comes control (ap ack_of e) small distance ok led
        (fits_connected v.tcb.state (core_of v) (unsent r.side) connected r.fits) r.holds)

    from :
        ((is_closed (state_acked (core_of v) by) ≡ false) × LeadsTo (core_of v) (state_acked (core_of v) by) by) ⊎
        ((is_closed (state_acked (core_of v) by) ≡ true) × LeadsTo (core_of v) In.TimeWait by)
        → IsAcked p t (acknowledged v by now)
    from (inl led) =
        subst (λ (test : Bool). IsAcked p t (acked_as v by now test)) (sym led.0)
        (let tied : Tied (core_of (acked_as v by now false)) p t = moved (state_acked (core_of v) by) led.1 in
        record { tied = tied; running = λ _. (led.1.connected, acked_syn v.tcb.sender.syn_unacked by ok.past_syn) })
    from (inr led) =
        subst (λ (test : Bool). IsAcked p t (acked_as v by now test)) (sym led.0)
        (let k = moved In.TimeWait led.1 in
        let closed : Tied (core_of (acked_as v by now true)) (past_of k.side) t =
        to_closed (acked_core (core_of v) In.TimeWait by) (core_of (acked_as v by now true)) k.side t refl refl refl refl refl k.fits k.holds in
        record { tied = subst (λ (p : Past). Tied (core_of (acked_as v by now true)) p t) k.past closed; running = λ (open_yet : true ≡ false). absurd (cc) })
