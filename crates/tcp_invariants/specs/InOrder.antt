-- What holds of each socket that events lead to: how its state goes with what it has to send and what it took.
use Rattle.std.specs.Prelude.{◌≡◌, ℕ, ◌+◌, ◌^◌, ◌<◌, ◌≤◌, ◌||◌, ℤ, Bool, true, false, length, Option, None, is_some}
use Rattle.tcp_state.specs.States.{is_closed, is_listening, is_opening, is_answering, sends_syn, owes_fin}
use Rattle.tcp_state.specs.declared.state.State.{State}
use Rattle.tcp_state.specs.declared.state.State.TheVariants as In
use Rattle.tcp_block.specs.TcbRules.{one_if}
use Rattle.tcp_block.specs.Value.{TcpValue, queued_in}
use Rattle.tcp_invariants.specs.Events.{is_past}

-- FIN-WAIT-2 and TIME-WAIT: the remote has all that was sent
abbrev pub has_all : State → Bool
has_all In.FinWait2 = true
has_all In.TimeWait = true
has_all other = false

pub record Sending : Type 0 where
  pub state : State
  pub una : ℕ
  pub syn_unacked : Bool
  pub past_iss : ℕ
  pub flight_size : ℕ
  pub retransmit_at : Option ℤ
  pub took_syn : Bool
  pub queued : ℕ
  pub waiting : ℕ  -- what waits to be read
  pub named : Bool  -- it has both endpoints

abbrev pub sending_of : TcpValue → Sending
sending_of v = record {
  state = v.tcb.state;
  una = v.tcb.sender.una.0;
  syn_unacked = v.tcb.sender.syn_unacked;
  past_iss = v.tcb.sender.past_iss;
  flight_size = v.tcb.sender.flight_size;
  retransmit_at = v.tcb.timers.retransmit_at;
  took_syn = v.tcb.receiver.took_syn;
  queued = queued_in v;
  waiting = length v.received.waiting;
  named = is_some v.tcb.names.pair;
}

-- how much may be in flight: the SYN, the send queue and the FIN
abbrev pub all_of : Sending → ℕ
all_of s = one_if s.syn_unacked + s.queued + one_if (owes_fin s.state)

pub record IsInOrder (s : Sending) : Type 0 where
  pub number : s.una < 2 ^ 32
  pub within : is_closed s.state ≡ false → s.flight_size ≤ all_of s
  -- before its SYN is acknowledged nothing else is, and nothing came
  pub opening : s.syn_unacked ≡ true → (s.past_iss ≡ 0) × (s.waiting ≡ 0) × ((is_closed s.state || sends_syn s.state) ≡ true)
  pub opened : s.syn_unacked ≡ false → (is_opening s.state || is_answering s.state) ≡ false
  -- where the remote has all, nothing is in flight, no timer runs, and nothing is queued
  pub acked : has_all s.state ≡ true → (s.flight_size ≡ 0) × (s.retransmit_at ≡ None) × (s.queued ≡ 0)
  pub took : is_past s.state ≡ true → s.took_syn ≡ true
  pub listens : is_listening s.state ≡ true → (s.named ≡ false) × (s.waiting ≡ 0)
