-- A connection that nobody answers (RFC 9293, 3.8.3): a run of polls between which no segment comes and no call is made.
use Rattle.std.specs.Prelude.{ℕ, ◌+◌, Bool, List, [], ◌∷◌}
use Rattle.tcp_block.specs.Context.{ContextValue}
use Rattle.tcp_state.specs.Moments.{is_due}
use Rattle.tcp_block.specs.TcbRules.{one_if}
use Rattle.tcp_block.specs.Offers.{offer_of}
use Rattle.tcp_block.specs.Settled.{settled}
use Rattle.tcp_block.specs.Value.{TcpValue}

-- it is asked for a segment, which then goes or not
pub record Poll : Type 0 where
  pub cx : ContextValue
  pub sent : Bool

abbrev pub after_poll : TcpValue → Poll → TcpValue
after_poll v p = settled p.sent (offer_of p.cx v).socket

abbrev pub polled : TcpValue → List Poll → TcpValue
polled v [] = v
polled v (p ∷ more) = polled (after_poll v p) more

-- at how many of the polls the retransmission timer has run out
abbrev pub timeouts_in : TcpValue → List Poll → ℕ
timeouts_in v [] = 0
timeouts_in v (p ∷ more) = one_if (is_due p.cx.instant v.tcb.timers.retransmit_at) + timeouts_in (after_poll v p) more
