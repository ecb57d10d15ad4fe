-- A connection that is open, one that told three bytes, and one that is half closed, in full: what is proved after them needn't compute
-- what led to them.
use Rattle.std.proofs.Common.{◌≡◌, ℕ, pos, true, List, [], ◌∷◌, replicate, Option, Some, None, refl, ap, ◌∙◌}
use Rattle.ip_wire.specs.IpAddress.TheVariants as Address
use Rattle.ip_wire.specs.Options.{no_options}
use Rattle.ip_wire.specs.SeqNumber.{SeqNumber}
use Rattle.ip_wire.specs.TcpControl.{TcpControl}
use Rattle.ip_wire.specs.TcpControl.TheVariants as Bits
use Rattle.ip_wire.specs.TcpHeader.{TcpHeader}
use Rattle.ip_wire.specs.TcpOptions.{TcpOptions}
use Rattle.net_base.specs.Ring.{ring}
use Rattle.tcp_refinement.specs.Host.{Made, made_of}
use Rattle.lan.specs.Worlds.AtLink.ReceiveMap.{space}
use Rattle.tcp_block.specs.TcbRules.{initial_timers}
use Rattle.tcp_block.specs.State.{State}
use Rattle.tcp_block.specs.State.TheVariants as In
use Rattle.tcp_block.specs.Value.{TcpValue, received_of}
use Rattle.lan.specs.declared.at_link.history.answer.Answer.{Answer}
use Rattle.lan.specs.declared.at_link.history.answer.Answer.TheVariants as To
use Rattle.lan.specs.declared.at_link.history.answer.Fault.TheVariants as Fault
use Rattle.lan.specs.declared.at_link.history.event.Side.{Side}
use Rattle.lan.specs.declared.at_link.history.event.Side.TheVariants.{A, B}
use Rattle.lan.specs.Worlds.AtLink.Call as Call
use Rattle.lan.specs.Worlds.AtLink.Call.{SocketCall}
use Rattle.lan.specs.Worlds.AtLink.History.{Entry}
use Rattle.lan.specs.Worlds.AtLink.Kinds.{other}
use Rattle.lan.specs.Worlds.AtLink.Calls.{did}
use Rattle.lan.specs.Worlds.AtLink.Parties.{Party}
use Rattle.lan.specs.Worlds.AtLink.Parties.Socket.{Tcp}
use Rattle.proof_stack.specs.Worlds.Connection as Connection
use Rattle.proof_stack.specs.Worlds.Hosts.{address, endpoint, entry_of, text}
use Rattle.proof_stack.specs.Worlds.Open.{at_rest, idle, number}
use Rattle.proof_stack.specs.Worlds.Opening as Opening
use Rattle.proof_stack.specs.Worlds.Played.{Play, played}
use Rattle.proof_stack.specs.Worlds.Streams.{initial}

-- SOCKETS

-- A sent abc
abbrev telling : TcpValue
telling = record {
  tcb = record (at_rest A) {
    sender = record (at_rest A).sender { flight_size = 3; snd_max = 3 };
    timers = record initial_timers { retransmit_at = Some (pos 1_000_000) };
    round_trip = record (at_rest A).round_trip { sample = Some (record { ends = 3; since = pos 0 }) };
    validation = record { flight = 3; since = Some (pos 0) };
  };
  received = received_of [] (space 8) 0;
  queued = ring text (replicate 5 0) 0;
  offered = None;
}

-- B took it, answered its second coming, and read it
abbrev reading : TcpValue
reading = record {
  tcb = record (at_rest B) {
    receiver = record (at_rest B).receiver { next = number 7; rcv_adv = 5; last_ack = number 7 };
    timers = initial_timers;
  };
  received = received_of [] (space 8) 3;
  queued = ring [] (replicate 8 0) 0;
  offered = None;
}

-- A sent its FIN
abbrev finishing : TcpValue
finishing = record telling {
  tcb = record telling.tcb {
    state = In.FinWait1;
    sender = record telling.tcb.sender { flight_size = 4; snd_max = 4 };
    validation = record { flight = 4; since = Some (pos 0) };
  };
}

-- B took it, whose acknowledgement is due at once, and read the end
abbrev told_the_end : TcpValue
told_the_end = record reading {
  tcb = record reading.tcb {
    state = In.CloseWait;
    receiver = record reading.tcb.receiver { next = number 8; took_fin = true; rcv_adv = 4 };
    peer = record reading.tcb.peer { snd_wl1 = number 7 };
    timers = record reading.tcb.timers { ack_at = Some (pos 0) };
  };
}

-- SEGMENTS

abbrev segment : ℕ → ℕ → TcpControl → ℕ → Option SeqNumber → TcpOptions → TcpHeader
segment source destination control seq ack options = record {
  src_port = source;
  dst_port = destination;
  control = control;
  seq_number = number seq;
  ack_number = ack;
  window_len = 8;
  options = options;
}

abbrev syn_options : TcpOptions
syn_options = record no_options { max_seg_size = Some 1460; window_scale = Some 0; sack_permitted = true }

abbrev syn : TcpHeader
syn = segment 49_500 80 Bits.Syn 3 None syn_options

abbrev syn_ack : TcpHeader
syn_ack = segment 80 49_500 Bits.Syn 3 (Some (number 4)) syn_options

abbrev pub ack : TcpHeader
ack = segment 49_500 80 Bits.None 4 (Some (number 4)) no_options

abbrev push : TcpHeader
push = segment 49_500 80 Bits.Psh 4 (Some (number 4)) no_options

abbrev fin : TcpHeader
fin = segment 49_500 80 Bits.Fin 7 (Some (number 4)) no_options

-- what answers the second coming
abbrev ack_again : TcpHeader
ack_again = record (segment 80 49_500 Bits.None 4 (Some (number 7)) no_options) { window_len = 5 }

-- WORLDS

-- a host made this for the other one
abbrev made : Side → TcpHeader → List ℕ → Made
made side header bytes = made_of (Address.Ipv4 (address side)) (Address.Ipv4 (address (other side))) header bytes

abbrev party_with : TcpValue → List Made → Party
party_with v segments = record { sockets = Some (Tcp v) ∷ []; segments = segments; datagrams = [] }

abbrev entry : Side → SocketCall → Answer → Entry
entry side call answer = entry_of side 0 call (did answer initial)

abbrev close : Side → State → Entry
close side state = entry_of side 0 Call.Close (record { answer = To.Done; found = Some state; socket = initial })

abbrev openings : List Entry
openings = entry A (Call.Connect (endpoint B 80) 49_500) To.Done ∷ entry B (Call.Listen 80) To.Done ∷ []

abbrev pub opened : Play
opened = record {
  net = record {
    a = party_with (idle A) (made A syn [] ∷ made A ack [] ∷ []);
    b = party_with (idle B) (made B syn_ack [] ∷ []);
    history = openings;
  };
  from_a = (syn, []) ∷ (ack, []) ∷ [];
  from_b = (syn_ack, []) ∷ [];
}

abbrev readings : List Entry
readings = entry B (Call.Recv 8) (To.Bytes text) ∷ entry A (Call.Send text) (To.Count 3) ∷ openings

abbrev pub told : Play
told = record {
  net = record {
    a = party_with telling (made A syn [] ∷ made A ack [] ∷ made A push text ∷ []);
    b = party_with reading (made B syn_ack [] ∷ made B ack_again [] ∷ []);
    history = readings;
  };
  from_a = (syn, []) ∷ (ack, []) ∷ (push, text) ∷ [];
  from_b = (syn_ack, []) ∷ [];
}

abbrev pub half_closed : Play
half_closed = record {
  net = record {
    a = party_with finishing (made A syn [] ∷ made A ack [] ∷ made A push text ∷ made A fin [] ∷ []);
    b = party_with told_the_end (made B syn_ack [] ∷ made B ack_again [] ∷ []);
    history = entry B (Call.Recv 8) (To.Error Fault.Finished) ∷ close A In.Established ∷ readings;
  };
  from_a = (syn, []) ∷ (ack, []) ∷ (push, text) ∷ (fin, []) ∷ [];
  from_b = (syn_ack, []) ∷ [];
}

pub opened_is : Opening.opened ≡ opened
opened_is = refl

pub opened_tells : played opened Connection.telling ≡ told
opened_tells = refl

pub told_is : Connection.told ≡ told
told_is = ap (λ (p : Play). played p Connection.telling) opened_is ∙ opened_tells

pub told_ends : played told Connection.ending ≡ half_closed
told_ends = refl

pub half_closed_is : Connection.half_closed ≡ half_closed
half_closed_is = ap (λ (p : Play). played p Connection.ending) told_is ∙ told_ends
