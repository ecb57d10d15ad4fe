-- What has arrived where two hosts are at rest.
use Rattle.std.specs.Prelude.{◌≡◌, [], ℕ, false}
use Rattle.tcp_state.specs.States.{is_closed, is_listening, owes_fin}
use Rattle.tcp_block.specs.Value.{TcpValue}
use Rattle.lan.specs.declared.at_link.history.event.Side.{Side}
use Rattle.lan.specs.Worlds.AtLink.History.{written}
use Rattle.lan.specs.Worlds.AtLink.Kinds.{other}
use Rattle.lan.specs.Worlds.AtLink.PacketsSafe.{taken_in}
use Rattle.lan.specs.Worlds.AtLink.Parties.{Net}

-- There is a connection, or one is being opened, and the user doesn't hold the answer to a SYN back.
pub record IsConnected (v : TcpValue) : Type 0 where
  pub alive : is_closed v.tcb.state ≡ false
  pub connected : is_listening v.tcb.state ≡ false
  pub unpaused : v.tcb.settings.synack_paused ≡ false

-- All that the user of the socket at this place of a host wrote has come to its peer, whose user has read it or can; and if it closed its
-- stream, the peer has acknowledged the end.
pub record HasArrived (net : Net) (side : Side) (here there : ℕ) (v w : TcpValue) : Type 0 where
  pub left : v.queued.queue ≡ []
  pub arrived : taken_in net (other side) there w ≡ written net.history side here
  pub ended : owes_fin v.tcb.state ≡ false
