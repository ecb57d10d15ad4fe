-- Each segment that a socket sends by itself is a move.
use Rattle.std.proofs.Common.{◌≡◌, ◌⊎◌, inl, inr, ℕ, suc, ◌+◌, ◌-◌, ◌%◌, ◌^◌, ◌<◌, ◌≤◌, max, Bool, true, false, List, [], ◌∷◌, Option, Some, None, length, take}
use Rattle.std.proofs.Common.{drop, refl, sym, ap, ◌∙◌, subst, arith, length-drop, length-take}
use Rattle.tcp_theory.specs.Move.{syn, syn_ack, data_segment, bytes_from, keep_alive, MaySendData}
use Rattle.tcp_theory.specs.Move.Move.{SendsSyn, SendsSynAck, SendsData, SendsKeepAlive}
use Rattle.tcp_theory.specs.Numbers.{wire}
use Rattle.tcp_theory.specs.Segment.{Segment, fin_if}
use Rattle.tcp_theory.specs.Segment.Control.{Plain, Syn}
use Rattle.tcp_theory.specs.Side.{Side, one_if, rcv_next}
use Rattle.tcp_theory.specs.Side.Phase.{Synchronized}
use Rattle.tcp_theory.proofs.Lists as lists
use Rattle.tcp_block.specs.State.{State}
use Rattle.tcp_block.specs.State.TheVariants as In
use Rattle.tcp_block.specs.States.{owes_fin, sends_syn, may_send_data, keeps_alive}
use Rattle.tcp_refinement.specs.Tie.{Core, Past, past_of, unsent, FitsIn, IsAsking, IsConnectedAs, phase_of, is_closed_in}
use Rattle.tcp_refinement.specs.History.{with_sent}
use Rattle.tcp_refinement.proofs.Tied.{Tied, tied_by, stays, fits_connected, connected_fits, is_connected, is_connected_side}

-- a move that sends a segment
sent_by : (c : Core) (p : Past) (t : Side) (x y : Segment) (r : Tied c p t) → x ≡ y → record (past_of r.side) { sent = (with_sent (past_of r.side) x).sent } ≡
    with_sent p y
sent_by c p t x y r same = ap (λ (p : Past). with_sent p x) r.past ∙ ap (λ (x : Segment). with_sent p x) same

-- THE HIGHEST POSITION THAT WAS SENT

-- it is raised to the end of what goes
abbrev pub with_snd_max : Core → ℕ → Core
with_snd_max c end = record c { snd_max = max c.snd_max end }

pub raised :
    (c : Core) (p : Past) (t : Side) (end : ℕ) → is_connected c.state ≡ true → end ≤ one_if c.syn_unacked + length c.queue + one_if (owes_fin c.state)
    → Tied c p t → Tied (with_snd_max c end) p t
raised c p t end connected within r =
    let k = fits_connected c.state c (unsent r.side) connected r.fits in
    let snd_max = k.snd_max in
    let k' : IsConnectedAs (with_snd_max c end) (unsent r.side) = record {
      once = k.once;
      phase = k.phase;
      closed = k.closed;
      side_finished = k.side_finished;
      finished = k.finished;
      heard = k.heard;
      una = k.una;
      syn = k.syn;
      opened = k.opened;
      unopened = k.unopened;
      past_iss = k.past_iss;
      snd_max = omega arith;
      end = k.end;
      next = k.next;
      queue = k.queue;
      waiting = k.waiting;
      map = k.map;
      gap = k.gap;
      listener = k.listener;
    } in
    stays (with_snd_max c end) p r.side t r.holds r.past (connected_fits c.state (with_snd_max c end) (unsent r.side) connected k')

pub raised_asking : (c : Core) (p : Past) (t : Side) (end : ℕ) → c.state ≡ In.SynSent → end ≤ 1 → Tied c p t → Tied (with_snd_max c end) p t
raised_asking c p t end e within r =
    let k : IsAsking c (unsent r.side) = subst (λ (state : State). FitsIn state c (unsent r.side)) e r.fits in
    let snd_max = k.snd_max in
    let k' : IsAsking (with_snd_max c end) (unsent r.side) = record {
      phase = k.phase;
      una = k.una;
      syn_unacked = k.syn_unacked;
      past_iss = k.past_iss;
      snd_max = omega arith;
      first = k.first;
      alone = k.alone;
      unfinished = k.unfinished;
      queue = k.queue;
      waiting = k.waiting;
      map = k.map;
      gap = k.gap;
      caller = k.caller;
    } in
    stays (with_snd_max c end) p r.side t r.holds r.past (subst (λ (state : State). FitsIn state (with_snd_max c end) (unsent r.side)) (sym e) k')

pub una_small : (c : Core) (p : Past) (t : Side) → is_connected c.state ≡ true → Tied c p t → c.una < 2 ^ 32
una_small c p t connected r = let una = (fits_connected c.state c (unsent r.side) connected r.fits).una in omega arith

-- BYTES AND THE FIN

pub record SendsPayload (state : State) : Type 0 where
  pub connected : is_connected state ≡ true
  pub phase : phase_of state ≡ Synchronized
  pub owes : owes_fin state ≡ is_closed_in state

pub sends_in : (state : State) → may_send_data state ≡ true → SendsPayload state
sends_in In.Established e = record { connected = refl; phase = refl; owes = refl }
sends_in In.CloseWait e = record { connected = refl; phase = refl; owes = refl }
sends_in In.FinWait1 e = record { connected = refl; phase = refl; owes = refl }
sends_in In.Closing e = record { connected = refl; phase = refl; owes = refl }
sends_in In.LastAck e = record { connected = refl; phase = refl; owes = refl }
sends_in other e = absurd (cc)

-- a part of the send queue, and the FIN after its end
abbrev pub part_at : Core → ℕ → ℕ → Bool → Segment
part_at c offset len fin =
    record { control = fin_if fin; seq = (c.una + (one_if c.syn_unacked + offset)) % 2 ^ 32; ack = Some c.next; bytes = take len (drop offset c.queue) }

number_past : (u n una : ℕ) → una ≡ wire u → wire (u + n) ≡ (una + n) % 2 ^ 32
number_past u n una e = omega arith

pub sends_data :
    (c : Core) (p : Past) (t : Side) (offset len : ℕ) (fin : Bool) → may_send_data c.state ≡ true → offset ≤ length c.queue
    → (fin ≡ true → (owes_fin c.state ≡ true) × (offset + len ≡ length c.queue))
    → Tied c p t → Tied c (with_sent p (part_at c offset len fin)) t
sends_data c p t offset len fin test within last r =
    let state = sends_in c.state test in
    let k = fits_connected c.state c (unsent r.side) state.connected r.fits in
    let syn = k.syn in
    let end = k.end in
    let low = r.holds.0.well_formed.una_low in
    let owes = ap one_if state.owes in
    let closed = ap one_if k.closed in
    let size = ap length k.queue in
    let moved : drop offset (drop (r.side.una - suc r.side.iss) r.side.written) ≡
    drop 0 (drop (r.side.una + (one_if c.syn_unacked + offset) - suc r.side.iss) r.side.written) =
    lists.drop-twice offset (r.side.una - suc r.side.iss) 0 (r.side.una + (one_if c.syn_unacked + offset) - suc r.side.iss) r.side.written (omega arith) in
    let bytes : bytes_from r.side (r.side.una + (one_if c.syn_unacked + offset)) len ≡ take len (drop offset c.queue) =
    ap (λ (xs : List ℕ). take len xs) (sym (ap (λ (xs : List ℕ). drop offset xs) k.queue ∙ moved)) in
    let ends :
    fin ≡ true
    → (r.side.closed ≡ true) ×
    (r.side.una + (one_if c.syn_unacked + offset) + length (bytes_from r.side (r.side.una + (one_if c.syn_unacked + offset)) len) ≡
    suc r.side.iss + length r.side.written)
    = λ e.
    let whole = last e in
    let asked = whole.0 in
    let one = ap one_if whole.0 in
    let all = whole.1 in
    let taken = ap length bytes in
    let cut = length-take len (drop offset c.queue) in
    let left = length-drop offset c.queue in
    (k.closed ∙ (sym state.owes ∙ whole.0), omega arith)
    in
    let may : MaySendData r.side (r.side.una + (one_if c.syn_unacked + offset)) len fin = record {
      running = k.phase ∙ state.phase;
      after_syn = omega arith;
      within = omega arith;
      last = ends;
    } in
    let same : data_segment r.side (r.side.una + (one_if c.syn_unacked + offset)) len fin ≡ part_at c offset len fin =
    ap (λ (n : ℕ). record {
      control = fin_if fin;
      seq = n;
      ack = Some (wire (rcv_next r.side));
      bytes =
          bytes_from r.side (r.side.una + (one_if c.syn_unacked + offset)) len;
    })
    (number_past r.side.una (one_if c.syn_unacked + offset) c.una k.una)
    ∙ (ap (λ (n : ℕ). record {
      control = fin_if fin;
      seq = (c.una + (one_if c.syn_unacked + offset)) % 2 ^ 32;
      ack = Some n;
      bytes =
          bytes_from r.side (r.side.una + (one_if c.syn_unacked + offset)) len;
    })
    (sym k.next)
    ∙ ap (λ (xs : List ℕ). record { control = fin_if fin; seq = (c.una + (one_if c.syn_unacked + offset)) % 2 ^ 32; ack = Some c.next; bytes = xs }) bytes) in
    tied_by c (with_sent p (part_at c offset len fin)) r.side t (SendsData (r.side.una + (one_if c.syn_unacked + offset)) len fin) r.holds may
    (sent_by c p t (data_segment r.side (r.side.una + (one_if c.syn_unacked + offset)) len fin) (part_at c offset len fin) r same) r.fits

-- A KEEP-ALIVE

pub record KeepsAlive (state : State) : Type 0 where
  pub connected : is_connected state ≡ true
  pub phase : phase_of state ≡ Synchronized
  pub no_syn : sends_syn state ≡ false

alive_in : (state : State) → keeps_alive state ≡ true → KeepsAlive state
alive_in In.Established e = record { connected = refl; phase = refl; no_syn = refl }
alive_in In.FinWait2 e = record { connected = refl; phase = refl; no_syn = refl }
alive_in In.CloseWait e = record { connected = refl; phase = refl; no_syn = refl }
alive_in other e = absurd (cc)

abbrev pub byte_below : Core → Segment
byte_below c = record { control = Plain; seq = (c.una + (2 ^ 32 - 1)) % 2 ^ 32; ack = Some c.next; bytes = 0 ∷ [] }

number_below : (u una : ℕ) → una ≡ wire u → 0 < u → wire (u - 1) ≡ (una + (2 ^ 32 - 1)) % 2 ^ 32
number_below u una e low = omega arith

pub sends_keep_alive : (c : Core) (p : Past) (t : Side) → keeps_alive c.state ≡ true → Tied c p t → Tied c (with_sent p (byte_below c)) t
sends_keep_alive c p t test r =
    let state = alive_in c.state test in
    let k = fits_connected c.state c (unsent r.side) state.connected r.fits in
    let no_syn = ap one_if (acked k.opened state.no_syn) in
    let syn = k.syn in
    let past_syn : r.side.iss < r.side.una = omega arith in
    let same : keep_alive r.side ≡ byte_below c =
    ap (λ (n : ℕ). record { control = Plain; seq = n; ack = Some (wire (rcv_next r.side)); bytes = 0 ∷ [] }) (number_below r.side.una c.una k.una (omega arith))
    ∙ ap (λ (n : ℕ). record { control = Plain; seq = (c.una + (2 ^ 32 - 1)) % 2 ^ 32; ack = Some n; bytes = 0 ∷ [] }) (sym k.next) in
    tied_by c (with_sent p (byte_below c)) r.side t SendsKeepAlive r.holds (k.phase ∙ state.phase, past_syn)
    (sent_by c p t (keep_alive r.side) (byte_below c) r same) r.fits
  where
    acked : (c.syn_unacked ≡ false) ⊎ (sends_syn c.state ≡ true) → sends_syn c.state ≡ false → c.syn_unacked ≡ false
    acked (inl none) e = none
    acked (inr sends) e = absurd (let clash : true ≡ false = sym sends ∙ e in cc)

-- THE SYN

abbrev pub syn_of : Core → Option ℕ → Segment
syn_of c ack = record { control = Syn; seq = c.una; ack = ack; bytes = [] }

pub sends_syn_first :
    (c : Core) (p : Past) (t : Side) (ack : Option ℕ) → (c.took_syn ≡ false → ack ≡ None) → (r : Tied c p t) → IsAsking c (unsent r.side)
    → Tied c (with_sent p (syn_of c ack)) t
sends_syn_first c p t ack bare r k =
    let same : syn r.side ≡ syn_of c ack =
    ap (λ (n : ℕ). record { control = Syn; seq = n; ack = None; bytes = [] }) (sym (k.una ∙ ap wire k.first))
    ∙ ap (λ (a : Option ℕ). record { control = Syn; seq = c.una; ack = a; bytes = [] }) (sym (bare k.alone)) in
    tied_by c (with_sent p (syn_of c ack)) r.side t SendsSyn r.holds k.phase (sent_by c p t (syn r.side) (syn_of c ack) r same) r.fits

pub sends_syn_ack :
    (c : Core) (p : Past) (t : Side) (ack : Option ℕ) → is_connected c.state ≡ true → c.syn_unacked ≡ true → (c.took_syn ≡ true → ack ≡ Some c.next)
    → Tied c p t → Tied c (with_sent p (syn_of c ack)) t
sends_syn_ack c p t ack connected unacked heard r =
    let k = fits_connected c.state c (unsent r.side) connected r.fits in
    let syn = k.syn in
    let one = ap one_if unacked in
    let low = r.holds.0.well_formed.una_low in
    let first : r.side.una ≡ r.side.iss = omega arith in
    let same : syn_ack r.side ≡ syn_of c ack =
    ap (λ (n : ℕ). record { control = Syn; seq = n; ack = Some (wire (rcv_next r.side)); bytes = [] }) (sym (k.una ∙ ap wire first))
    ∙ ap (λ (a : Option ℕ). record { control = Syn; seq = c.una; ack = a; bytes = [] }) (ap Some (sym k.next) ∙ sym (heard k.heard)) in
    tied_by c (with_sent p (syn_of c ack)) r.side t SendsSynAck r.holds (is_connected_side c r.side k)
    (sent_by c p t (syn_ack r.side) (syn_of c ack) r same) r.fits
