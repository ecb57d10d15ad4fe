-- Each call of a user is a move, or none.
use Rattle.std.proofs.Common.{◌≡◌, ◌⊎◌, inr, ℕ, suc, ◌+◌, ◌-◌, ◌^◌, ◌<◌, ◌≤◌, true, false, List, [], ◌∷◌, ◌++◌, Option, Some, None, ◌≢◌, length, take, drop}
use Rattle.std.proofs.Common.{zero, refl, sym, ap, ◌∙◌, subst, arith, length-append, append_assoc, take-append-drop}
use Rattle.std.proofs.lemmas.List.{drop-append-le}
use Rattle.tcp_theory.specs.Invariant.{HoldsBetween}
use Rattle.tcp_theory.specs.Move.{after, MayWrite, listening}
use Rattle.tcp_theory.specs.Move.Move.{Listens, Connects, Writes, Reads, Closes, Ends}
use Rattle.tcp_theory.specs.Numbers.{wire}
use Rattle.tcp_theory.specs.ReceiveMap.{space, front}
use Rattle.tcp_theory.specs.Side.{Side, one_if, initial, send_queue}
use Rattle.tcp_theory.specs.Side.Phase.{Unopened, Listen, SynSent, SynReceived, Synchronized}
use Rattle.tcp_theory.specs.Side.Opening.{Passive, Active, NotYet}
use Rattle.net_base.specs.Ring.{Ring}
use Rattle.tcp_block.specs.Calls.{sent_more}
use Rattle.tcp_block.specs.Value.{TcpValue}
use Rattle.tcp_theory.proofs.Calls as law
use Rattle.tcp_theory.proofs.Lists as lists
use Rattle.tcp_block.specs.FourTuple.{FourTuple}
use Rattle.tcp_block.specs.State.{State}
use Rattle.tcp_block.specs.State.TheVariants as In
use Rattle.tcp_block.specs.States.{takes_writes, owes_fin, sends_syn}
use Rattle.tcp_refinement.specs.Tie.{Core, Past, past_of, unsent, FitsIn, IsConnectedAs, IsUnopened, IsEnded, IsListening, IsAsking, phase_of, is_closed_in}
use Rattle.tcp_refinement.specs.Tie.{is_finished_in, IsBlank, Keeps, core_of}
use Rattle.tcp_refinement.specs.History.{listened, called, with_written, with_read, closed_by}
use Rattle.tcp_refinement.proofs.Tied.{Tied, tied_by, fits_connected, connected_fits, writes_in, is_connected, is_connected_side, no_stream, keeps_by}

abbrev pub with_queued : Core → List ℕ → Core
with_queued c bytes = record c { queue = c.queue ++ bytes }

-- bytes are taken for sending
pub writes :
    (c : Core) (s t : Side) (bytes : List ℕ) → takes_writes c.state ≡ true → length (s.written ++ bytes) < 2 ^ 29
    → FitsIn c.state c (unsent s) → HoldsBetween s t
    → Tied (with_queued c bytes) (with_written (past_of s) bytes) t
writes c s t bytes e short fits holds =
    let test = writes_in c.state e in
    let k = fits_connected c.state c (unsent s) test.connected fits in
    let is_open : s.closed ≡ false = k.closed ∙ test.closed in
    let may : MayWrite s bytes = record { running = k.phase ∙ test.phase; unclosed = is_open; short = short } in
    let high = holds.0.well_formed.una_high in
    let longer = length-append s.written bytes in
    let more = length-append c.queue bytes in
    let end = k.end in
    let unclosed = ap one_if is_open in
    let within : s.una - suc s.iss ≤ length s.written = omega (arith, high, unclosed) in
    let snd_max = k.snd_max in
    let k' : IsConnectedAs (with_queued c bytes) (unsent (after s (Writes bytes))) = record {
      once = k.once;
      phase = k.phase;
      closed = k.closed;
      side_finished = k.side_finished;
      finished = k.finished;
      heard = k.heard;
      una = k.una;
      syn = k.syn;
      opened = k.opened;
      unopened = k.unopened;
      past_iss = k.past_iss;
      snd_max = omega arith;
      end = omega arith;
      next = k.next;
      queue = ap (λ (queue : List ℕ). queue ++ bytes) k.queue ∙ sym (drop-append-le (s.una - suc s.iss) s.written bytes within);
      waiting = k.waiting;
      map = k.map;
      gap = k.gap;
      listener = k.listener;
    } in
    tied_by _ _ s t (Writes bytes) holds may refl (connected_fits c.state (with_queued c bytes) _ test.connected k')

-- READS

abbrev pub with_taken_out : Core → ℕ → Core
with_taken_out c count = record c { waiting = drop count c.waiting; map = c.map ++ space (length (take count c.waiting)) }

pub read_waiting : (w xs : List ℕ) (count : ℕ) → w ≡ xs → drop count w ≡ drop count xs
read_waiting w xs count e = ap (λ (bytes : List ℕ). drop count bytes) e

pub read_map : (m n : List (Option ℕ)) (w xs : List ℕ) (count : ℕ) → m ≡ n → w ≡ xs → m ++ space (length (take count w)) ≡ n ++ space (length (take count xs))
read_map m n w xs count e f = ap (λ (map : List (Option ℕ)). map ++ space (length (take count w))) e ∙
    ap (λ (bytes : List ℕ). n ++ space (length (take count bytes))) f

pub front-space : (n : ℕ) → front (space n) ≡ []
front-space zero = refl
front-space (suc n) = refl

-- nothing is held at the front, also with more free space after
pub front-room : (map : List (Option ℕ)) (n : ℕ) → front map ≡ [] → front (map ++ space n) ≡ []
front-room [] n e = front-space n
front-room (None ∷ map) n e = refl
front-room (Some byte ∷ map) n e = absurd (cc)

-- bytes are read in a connection
pub reads_connected :
    (c : Core) (s t : Side) (count : ℕ) → is_connected c.state ≡ true → FitsIn c.state c (unsent s) → HoldsBetween s t
    → Tied (with_taken_out c count) (with_read (past_of s) (take count s.waiting)) t
reads_connected c s t count e fits holds =
    let k = fits_connected c.state c (unsent s) e fits in
    let same = append_assoc s.read (take count s.waiting) (drop count s.waiting) ∙
    ap (λ (bytes : List ℕ). s.read ++ bytes) (take-append-drop count s.waiting) in
    let k' : IsConnectedAs (with_taken_out c count) (unsent (after s (Reads count))) = record {
      once = k.once;
      phase = k.phase;
      closed = k.closed;
      side_finished = k.side_finished;
      finished = k.finished;
      heard = k.heard;
      una = k.una;
      syn = k.syn;
      opened = k.opened;
      unopened = k.unopened;
      past_iss = k.past_iss;
      snd_max = k.snd_max;
      end = k.end;
      next = k.next ∙ ap (λ (bytes : List ℕ). wire (suc s.irs + length bytes + one_if s.took_fin)) (sym same);
      queue = k.queue;
      waiting = read_waiting c.waiting s.waiting count k.waiting;
      map = read_map c.map s.window c.waiting s.waiting count k.map k.waiting;
      gap = front-room c.map (length (take count c.waiting)) k.gap;
      listener = k.listener;
    } in
    tied_by _ _ s t (Reads count) holds tt refl (connected_fits c.state (with_taken_out c count) _ e k')

-- and after it
pub reads_ended :
    (c : Core) (s t : Side) (count : ℕ) → c.state ≡ In.Closed → IsEnded c (unsent s) → HoldsBetween s t
    → Tied (with_taken_out c count) (with_read (past_of s) (take count s.waiting)) t
reads_ended c s t count e k holds =
    let k' : IsEnded (with_taken_out c count) (unsent (after s (Reads count))) = record {
      once = k.once;
      phase = k.phase;
      took_fin = k.took_fin;
      queue = k.queue;
      waiting = read_waiting c.waiting s.waiting count k.waiting;
      map = read_map c.map s.window c.waiting s.waiting count k.map k.waiting;
    } in
    tied_by _ _ s t (Reads count) holds tt refl
    (subst (λ (state : State). FitsIn state (with_taken_out c count) (unsent (after s (Reads count)))) (sym e) (inr k'))

-- CLOSE

abbrev pub in_core_state : Core → State → Core
in_core_state c state = record c { state = state }

-- a FIN is asked for
pub closes_with :
    (c : Core) (s t : Side) (state : State) → is_connected c.state ≡ true → is_connected state ≡ true → phase_of state ≡ Synchronized →
    is_closed_in c.state ≡ false → is_closed_in state ≡ true
    → is_finished_in state ≡ is_finished_in c.state → one_if (owes_fin state) ≡ 1 → one_if (owes_fin c.state) ≡ 0 →
    ((c.syn_unacked ≡ false) ⊎ (sends_syn state ≡ true))
    → IsConnectedAs c (unsent s) → HoldsBetween s t
    → Tied (in_core_state c state) (closed_by true (past_of s)) t
closes_with c s t state e e' phase was closes same owes owed opened k holds =
    let is_open = ap one_if (k.closed ∙ was) in
    let end = k.end in
    let snd_max = k.snd_max in
    let k' : IsConnectedAs (in_core_state c state) (unsent (after s Closes)) = record {
      once = k.once;
      phase = sym phase;
      closed = sym closes;
      side_finished = k.side_finished ∙ sym same;
      finished = k.finished ∙ sym same;
      heard = k.heard;
      una = k.una;
      syn = k.syn;
      opened = opened;
      unopened = λ at. absurd (let clash : Synchronized ≡ SynReceived = sym phase ∙ at in cc);
      past_iss = k.past_iss;
      snd_max = omega arith;
      end = omega arith;
      next = k.next;
      queue = k.queue;
      waiting = k.waiting;
      map = k.map;
      gap = k.gap;
      listener = k.listener;
    } in
    tied_by _ _ s t Closes holds (is_connected_side c s k) refl (connected_fits state (in_core_state c state) _ e' k')

-- THE OPENS

pub length-space : (n : ℕ) → length (space n) ≡ n
length-space zero = refl
length-space (suc n) = ap suc (length-space n)

-- a side before its OPEN, with what its socket waits with, fits a new one
module _ (c : Core) (s : Side) (u : IsUnopened c (unsent s)) (room : ℕ) (all : room ≡ length c.map) where
  pub initial_room : unsent s ≡ initial (length (space room))
  initial_room = u.side ∙ ap initial (sym (length-space room ∙ all))

  pub initial_window : space room ≡ s.window
  initial_window = ap space all ∙ sym (ap (λ (x : Side). x.window) u.side)

  pub unopened_phase : s.phase ≡ Unopened
  unopened_phase = ap (λ (x : Side). x.phase) u.side

abbrev pub asking_core : Core → ℕ → FourTuple → ℕ → Core
asking_core c number pair room =
    record {
      state = In.SynSent;
      listen_port = 0;
      pair = Some pair;
      una = number;
      syn_unacked = true;
      past_iss = 0;
      snd_max = 0;
      next = 0;
      took_syn = false;
      took_fin = false;
      waiting = [];
      map = space room;
      queue = [];
    }

pub wire_first : (number : ℕ) → number < 2 ^ 32 → number ≡ wire (2 ^ 32 + number)
wire_first number small = omega arith

pub connects :
    (c : Core) (s t : Side) (number room : ℕ) (pair : FourTuple) → number < 2 ^ 32 → room ≡ length c.map → IsUnopened c (unsent s) → HoldsBetween s t
    → Tied (asking_core c number pair room) (called (past_of s)) t
connects c s t number room pair small all u holds =
    let k : IsAsking (asking_core c number pair room) (unsent (after s (Connects (2 ^ 32 + number)))) = record {
      phase = refl;
      una = wire_first number small;
      syn_unacked = refl;
      past_iss = refl;
      snd_max = omega arith;
      first = refl;
      alone = refl;
      unfinished = refl;
      queue = refl;
      waiting = sym (ap (λ (x : Side). x.waiting) u.side);
      map = initial_window c s u room all;
      gap = front-space room;
      caller = refl;
    } in
    tied_by _ _ s t (Connects (2 ^ 32 + number)) holds (unopened_phase c s u room all, (omega arith, omega arith)) refl k

abbrev pub listening_core : Core → ℕ → ℕ → Core
listening_core c port room =
    record {
      state = In.Listen;
      listen_port = port;
      pair = None;
      una = 0;
      syn_unacked = false;
      past_iss = 0;
      snd_max = 0;
      next = 0;
      took_syn = false;
      took_fin = false;
      waiting = [];
      map = space room;
      queue = [];
    }

pub blank : (c : Core) (port room : ℕ) → IsBlank (listening_core c port room)
blank c port room = record { waiting = refl; map = ap space (sym (length-space room)); queue = refl; unfinished = refl }

pub listens :
    (c : Core) (s t : Side) (port room : ℕ) → room ≡ length c.map → IsUnopened c (unsent s) → HoldsBetween s t
    → Tied (listening_core c port room) (listened (past_of s)) t
listens c s t port room all u holds =
    let irs : 0 ≡ s.irs = sym (ap (λ (x : Side). x.irs) u.side) in
    let k : IsListening (listening_core c port room) (unsent (after s Listens)) = record {
      side =
          ap (λ (x : Side). record x { phase = Listen; opening = Passive }) (initial_room c s u room all)
          ∙ ap (λ (i : ℕ). record (listening (length (space room))) { irs = i }) irs;
      blank = blank c port room;
      unnamed = refl;
    } in
    tied_by _ _ s t Listens holds (unopened_phase c s u room all) refl k

-- THE END

-- what CLOSED keeps of a socket that was opened
pub record Kept (c : Core) (s : Side) : Type 0 where
  pub once : s.opening ≢ NotYet
  pub began : s.phase ≢ Unopened
  pub took_fin : c.took_fin ≡ s.took_fin
  pub queue : c.queue ≡ send_queue s
  pub waiting : c.waiting ≡ s.waiting
  pub map : c.map ≡ s.window

pub connected_began : (state : State) → phase_of state ≢ Unopened
connected_began In.SynReceived e = absurd (cc)
connected_began other e = absurd (cc)

pub kept_connected : (c : Core) (s : Side) → IsConnectedAs c (unsent s) → Kept c s
kept_connected c s k = record {
  once = k.once;
  began = λ e. connected_began c.state (sym k.phase ∙ e);
  took_fin = k.finished ∙ sym k.side_finished;
  queue = k.queue;
  waiting = k.waiting;
  map = k.map;
}

pub kept_listening : (c : Core) (s : Side) → IsListening c (unsent s) → Kept c s
kept_listening c s l = record {
  once = λ e. absurd (let clash : Passive ≡ NotYet = sym (ap (λ (x : Side). x.opening) l.side) ∙ e in cc);
  began = λ e. absurd (let clash : Listen ≡ Unopened = sym (ap (λ (x : Side). x.phase) l.side) ∙ e in cc);
  took_fin = l.blank.unfinished ∙ sym (ap (λ (x : Side). x.took_fin) l.side);
  queue = l.blank.queue ∙ sym (ap send_queue l.side);
  waiting = l.blank.waiting ∙ sym (ap (λ (x : Side). x.waiting) l.side);
  map = l.blank.map ∙ sym (ap (λ (x : Side). x.window) l.side);
}

pub kept_asking : (c : Core) (s t : Side) → HoldsBetween s t → IsAsking c (unsent s) → Kept c s
kept_asking c s t holds k =
    let nothing = no_stream s t SynSent holds k.phase tt in
    let active = (law.fits_at s SynSent holds.0.well_formed k.phase).0 in
    record {
      once = λ e. absurd (let clash : Active ≡ NotYet = sym active ∙ e in cc);
      began = λ e. absurd (let clash : SynSent ≡ Unopened = sym k.phase ∙ e in cc);
      took_fin = k.unfinished ∙ sym nothing.3;
      queue = k.queue ∙ sym (ap (λ (bytes : List ℕ). drop (s.una - suc s.iss) bytes) nothing.0 ∙ lists.drop-nothing (s.una - suc s.iss));
      waiting = k.waiting;
      map = k.map;
    }

-- a socket that was opened goes to CLOSED: its queues and a FIN that it took stay
pub ends :
    (c new : Core) (s t : Side) → Kept c s → new.state ≡ In.Closed → new.took_fin ≡ c.took_fin → new.queue ≡ c.queue → new.waiting ≡ c.waiting → new.map ≡ c.map
    → HoldsBetween s t → Tied new (past_of s) t
ends c new s t k closed took_fin queue waiting map holds =
    let ended : IsEnded new (unsent (after s Ends)) = record {
      once = k.once;
      phase = refl;
      took_fin = took_fin ∙ k.took_fin;
      queue = queue ∙ k.queue;
      waiting = waiting ∙ k.waiting;
      map = map ∙ k.map;
    } in
    tied_by new (past_of s) s t Ends holds k.began refl (subst (λ (state : State). FitsIn state new (unsent (after s Ends))) (sym closed) (inr ended))

pub keeps_writes :
    (v w : TcpValue) (p q : Past) (queued : Ring ℕ) (bytes : List ℕ) → Keeps v p w q → takes_writes v.tcb.state ≡ true
    → queued.queue ≡ v.queued.queue ++ bytes → length (p.written ++ bytes) < 2 ^ 29 → Keeps (sent_more v queued) (with_written p bytes) w q
keeps_writes v w p q queued bytes k e more short =
    keeps_by v (sent_more v queued) w p (with_written p bytes) q k (λ s t past _ fits holds.
    let short' = subst (λ (p : Past). length (p.written ++ bytes) < 2 ^ 29) (sym past) short in
    let led = writes (core_of v) s t bytes e short' fits holds in
    subst (λ (p : Past). Tied (core_of (sent_more v queued)) (with_written p bytes) t) past
    (subst (λ (queue : List ℕ). Tied (record (core_of v) { queue = queue }) (with_written (past_of s) bytes) t) (sym more) led))
