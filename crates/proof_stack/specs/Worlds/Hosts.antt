-- Two hosts on numerals, and their moves by what they do: A has 192.168.1.1, B has 192.168.1.2.
use Rattle.std.specs.Prelude.{ℕ, pos, Bool, true, false, List, [], ◌∷◌, Option, Some, None}
use Rattle.ip_wire.specs.IpAddress.TheVariants as Address
use Rattle.ip_wire.specs.IpEndpoint.{IpEndpoint}
use Rattle.ip_wire.specs.Ipv4Address.{Ipv4Address}
use Rattle.ip_wire.specs.IpProtocol.{IpProtocol}
use Rattle.ip_wire.specs.IpRepr.{IpRepr}
use Rattle.ip_wire.specs.IpRepr.TheVariants as Ip
use Rattle.net_base.specs.Capabilities.{all_checksums}
use Rattle.net_base.specs.Checksum.TheVariants as Checksum
use Rattle.tcp_block.specs.Context.{ContextValue}
use Rattle.lan.specs.declared.at_link.history.answer.Answer.{Answer}
use Rattle.lan.specs.declared.at_link.history.answer.Answer.TheVariants as To
use Rattle.lan.specs.declared.at_link.history.event.Event.{Event}
use Rattle.lan.specs.declared.at_link.history.event.Event.TheVariants as E
use Rattle.lan.specs.declared.at_link.history.event.Side.{Side}
use Rattle.lan.specs.declared.at_link.history.event.Side.TheVariants.{A, B}
use Rattle.lan.specs.Worlds.AtLink.Call as Call
use Rattle.lan.specs.Worlds.AtLink.Call.{SocketCall}
use Rattle.lan.specs.Worlds.AtLink.Kinds.{other}
use Rattle.lan.specs.Worlds.AtLink.History.{Entry}
use Rattle.lan.specs.Worlds.AtLink.Calls.{Did}
use Rattle.lan.specs.Worlds.AtLink.Parties.{Socket, Party, Net}

abbrev pub address : Side → Ipv4Address
address A = record { 0 = 192 ∷ 168 ∷ 1 ∷ 1 ∷ [] }
address B = record { 0 = 192 ∷ 168 ∷ 1 ∷ 2 ∷ [] }

abbrev pub context : Side → ContextValue
context side = record {
  instant = pos 0;
  has_ip_addr = λ _. true;
  source_for = λ _. Some (Address.Ipv4 (address side));
  is_broadcast = λ _. false;
  ip_mtu = 1500;
  checksums = all_checksums Checksum.Both;
  isn_key = None;
  random = 0;
}

abbrev pub endpoint : Side → ℕ → IpEndpoint
endpoint side port = record { addr = Address.Ipv4 (address side); port = port }

-- the header of a packet that comes to a host from the other
abbrev pub packet_to : Side → IpProtocol → ℕ → IpRepr
packet_to side protocol len =
    Ip.Ipv4 (record {
      src_addr = address (other side);
      dst_addr = address side;
      next_header = protocol;
      payload_len = len;
      hop_limit = 64;
      ident = 0;
      dont_frag = false;
    })

abbrev pub host : List (Option Socket) → Party
host sockets = record { sockets = sockets; segments = []; datagrams = [] }

abbrev pub text : List ℕ
text = 97 ∷ 98 ∷ 99 ∷ []

-- every UDP socket is unbound at first
abbrev pub unbound : Side → ℕ → ℕ
unbound side i = 0

-- no packet is raw
abbrev pub no_names : List ℕ → Bool
no_names bytes = false

abbrev pub event_of : Side → ℕ → SocketCall → Event
event_of side i (Call.Listen port) = E.Listen side i port
event_of side i (Call.Connect remote port) = E.Connect side i remote port
event_of side i (Call.Send bytes) = E.Send side i bytes
event_of side i (Call.Recv limit) = E.Recv side i limit
event_of side i Call.Close = E.Close side i
event_of side i Call.Abort = E.Abort side i
event_of side i Call.State = E.State side i
event_of side i (Call.Set setting) = E.TcpSetting side i setting
event_of side i (Call.Bind port) = E.Bind side i port
event_of side i (Call.Ident ident) = E.Ident side i ident
event_of side i (Call.SendTo remote bytes) = E.SendTo side i remote bytes
event_of side i (Call.SendIcmp remote bytes) = E.SendIcmp side i remote bytes
event_of side i (Call.SendRaw bytes) = E.SendRaw side i bytes
event_of side i (Call.RecvFrom limit) = E.RecvFrom side i limit

abbrev pub entry_of : {V : Type 0} → Side → ℕ → SocketCall → Did V → Entry
entry_of side i call d = record {
  event = event_of side i call;
  answer = d.answer;
  before = record { sent_a = 0; sent_b = 0; waiting_a = 0; waiting_b = 0 };
  found = d.found;
}

abbrev pub last_in : List Entry → Answer
last_in [] = To.Done
last_in (e ∷ past) = e.answer

-- the answer of the last call
abbrev pub last_answer : Net → Answer
last_answer net = last_in net.history
