use Rattle.proof_stack.proofs.Equal.{Decides-tcb, Decides-congestion, Decides-loss, Decides-names}
use Rattle.proof_stack.proofs.Equal.{Decides-peer, Decides-receiver, Decides-reno, Decides-round_trip}
use Rattle.proof_stack.proofs.Equal.{Decides-run, Decides-scoreboard, Decides-sender, Decides-settings, Decides-stamps, Decides-state, Decides-timers}
use Rattle.proof_stack.proofs.Equal.{Decides-undo}
use Rattle.proof_stack.proofs.connections.blocks_are_equated.Goals as goal

pub returns : goal.returns
returns c = record {
  state = Decides-state;
  names = Decides-names;
  sender = Decides-sender;
  receiver = Decides-receiver;
  peer = Decides-peer;
  stamps = Decides-stamps;
  timers = Decides-timers;
  round_trip = Decides-round_trip;
  reno = Decides-reno;
  run = Decides-run;
  scoreboard = Decides-scoreboard;
  undo = Decides-undo;
  loss = Decides-loss;
  congestion = Decides-congestion;
  settings = Decides-settings;
  tcb = Decides-tcb;
}
