-- The states of a connection (RFC 9293, 3.3.2): which of them a rule is for, and how they follow one another.
use Rattle.std.specs.Prelude.{ℕ, Bool, true, false, List, codes}
use Rattle.tcp_state.specs.declared.state.State.{State}
use Rattle.tcp_state.specs.declared.state.State.TheVariants as In

abbrev pub data_of : State → List ℕ
data_of In.Closed = codes "CLOSED"
data_of In.Listen = codes "LISTEN"
data_of In.SynSent = codes "SYN-SENT"
data_of In.SynReceived = codes "SYN-RECEIVED"
data_of In.Established = codes "ESTABLISHED"
data_of In.FinWait1 = codes "FIN-WAIT-1"
data_of In.FinWait2 = codes "FIN-WAIT-2"
data_of In.CloseWait = codes "CLOSE-WAIT"
data_of In.Closing = codes "CLOSING"
data_of In.LastAck = codes "LAST-ACK"
data_of In.TimeWait = codes "TIME-WAIT"

-- CLOSED
abbrev pub is_closed : State → Bool
is_closed In.Closed = true
is_closed other = false

-- LISTEN
abbrev pub is_listening : State → Bool
is_listening In.Listen = true
is_listening other = false

-- SYN-SENT
abbrev pub is_opening : State → Bool
is_opening In.SynSent = true
is_opening other = false

-- SYN-RECEIVED
abbrev pub is_answering : State → Bool
is_answering In.SynReceived = true
is_answering other = false

-- TIME-WAIT
abbrev pub is_time_wait : State → Bool
is_time_wait In.TimeWait = true
is_time_wait other = false

-- the user may send (3.10.2)
abbrev pub takes_writes : State → Bool
takes_writes In.Established = true
takes_writes In.CloseWait = true
takes_writes other = false

-- bytes and a FIN are taken, and no FIN was taken yet (3.10.7.4, seventh and eighth)
abbrev pub accepts_data : State → Bool
accepts_data In.Established = true
accepts_data In.FinWait1 = true
accepts_data In.FinWait2 = true
accepts_data other = false

-- bytes and a FIN may go
abbrev pub may_send_data : State → Bool
may_send_data In.Established = true
may_send_data In.CloseWait = true
may_send_data In.FinWait1 = true
may_send_data In.Closing = true
may_send_data In.LastAck = true
may_send_data other = false

-- a FIN was asked for and isn't acknowledged
abbrev pub owes_fin : State → Bool
owes_fin In.FinWait1 = true
owes_fin In.Closing = true
owes_fin In.LastAck = true
owes_fin other = false

-- the own SYN may still have to go
abbrev pub sends_syn : State → Bool
sends_syn In.SynSent = true
sends_syn In.SynReceived = true
sends_syn In.FinWait1 = true
sends_syn other = false

-- keep-alives may go (3.8.4)
abbrev pub keeps_alive : State → Bool
keeps_alive In.Established = true
keeps_alive In.FinWait2 = true
keeps_alive In.CloseWait = true
keeps_alive other = false

-- the own SYN is acknowledged (3.10.7.4, fifth)
abbrev pub after_ack : State → State
after_ack In.SynReceived = In.Established
after_ack other = other

-- the own FIN is acknowledged (3.10.7.4, fifth)
abbrev pub after_ack_of_fin : State → State
after_ack_of_fin In.FinWait1 = In.FinWait2
after_ack_of_fin In.Closing = In.TimeWait
after_ack_of_fin In.LastAck = In.Closed
after_ack_of_fin other = other

-- the remote's FIN is taken (3.10.7.4, eighth)
abbrev pub after_fin : State → State
after_fin In.Established = In.CloseWait
after_fin In.FinWait1 = In.Closing
after_fin In.FinWait2 = In.TimeWait
after_fin other = other

-- the user closes (3.10.4)
abbrev pub after_close : State → State
after_close In.Listen = In.Closed
after_close In.SynSent = In.Closed
after_close In.SynReceived = In.FinWait1
after_close In.Established = In.FinWait1
after_close In.CloseWait = In.LastAck
after_close other = other
