-- The events by kind: what one host does, by which of its sockets, and what the link does.
use Rattle.std.specs.Prelude.{ℕ, ℤ, Bool, true, false, List}
use Rattle.ip_wire.specs.EthernetAddress.{EthernetAddress}
use Rattle.ip_wire.specs.IpAddress.{IpAddress}
use Rattle.ip_wire.specs.IpCidr.{IpCidr}
use Rattle.lan.specs.declared.at_link.history.event.Side.{Side}
use Rattle.lan.specs.declared.at_link.history.event.Side.TheVariants.{A, B}
use Rattle.lan.specs.declared.at_link.history.event.Event.{Event}
use Rattle.lan.specs.declared.at_link.history.event.Event.TheVariants as E
use Rattle.lan.specs.Worlds.AtLink.Call as Call
use Rattle.lan.specs.Worlds.AtLink.Call.{SocketCall}

abbrev pub other : Side → Side
other A = B
other B = A

abbrev pub same_side : Side → Side → Bool
same_side A A = true
same_side B B = true
same_side A B = false
same_side B A = false

-- a setting of a host
pub data Setting : Type 0 where
  HardwareAddr : (address : EthernetAddress) → Setting
  Addrs : (blocks : List IpCidr) → Setting
  Route : (router : IpAddress) → Setting
  AnyIp : (any : Bool) → Setting
  ReassemblyTimeout : (timeout : ℕ) → Setting

-- what one host does
pub data Act : Type 0 where
  Calls : (slot : ℕ) (call : SocketCall) → Act
  Sets : (setting : Setting) → Act
  -- room for so many frames more in its device
  Opens : (room : ℕ) → Act
  -- it is asked when it wants to be polled
  Asks : (instant : ℤ) → Act
  Polls : (instant : ℤ) (budget : ℕ) → Act

-- where a frame comes from that the link hands to a host: a sent frame of a slot with padding after it, the same with the word at a
-- place of its TCP segment exchanged, or bytes
pub data Origin : Type 0 where
  Delivered : (from : Side) (frame : ℕ) (padding : List ℕ) → Origin
  Damaged : (from : Side) (frame slot word : ℕ) (padding : List ℕ) → Origin
  Noisy : (to : Side) (bytes : List ℕ) → Origin

-- what the link does: it hands a frame over, or cuts a sent one
pub data LinkAct : Type 0 where
  Hands : (origin : Origin) → LinkAct
  Cuts : (from : Side) (frame at : ℕ) → LinkAct

pub data Kind : Type 0 where
  OfHost : (side : Side) (act : Act) → Kind
  OfLink : (act : LinkAct) → Kind

abbrev pub calls : Side → ℕ → SocketCall → Kind
calls side slot call = OfHost side (Calls slot call)

abbrev pub kind_of : Event → Kind
kind_of (E.Listen side i port) = calls side i (Call.Listen port)
kind_of (E.Connect side i remote port) = calls side i (Call.Connect remote port)
kind_of (E.Send side i bytes) = calls side i (Call.Send bytes)
kind_of (E.Recv side i limit) = calls side i (Call.Recv limit)
kind_of (E.Close side i) = calls side i Call.Close
kind_of (E.Abort side i) = calls side i Call.Abort
kind_of (E.State side i) = calls side i Call.State
kind_of (E.TcpSetting side i setting) = calls side i (Call.Set setting)
kind_of (E.Bind side i port) = calls side i (Call.Bind port)
kind_of (E.Ident side i ident) = calls side i (Call.Ident ident)
kind_of (E.SendTo side i remote bytes) = calls side i (Call.SendTo remote bytes)
kind_of (E.SendIcmp side i remote bytes) = calls side i (Call.SendIcmp remote bytes)
kind_of (E.SendRaw side i bytes) = calls side i (Call.SendRaw bytes)
kind_of (E.RecvFrom side i limit) = calls side i (Call.RecvFrom limit)
kind_of (E.HardwareAddr side address) = OfHost side (Sets (HardwareAddr address))
kind_of (E.Addrs side blocks) = OfHost side (Sets (Addrs blocks.items))
kind_of (E.Route side router) = OfHost side (Sets (Route router))
kind_of (E.AnyIp side any) = OfHost side (Sets (AnyIp any))
kind_of (E.ReassemblyTimeout side timeout) = OfHost side (Sets (ReassemblyTimeout timeout))
kind_of (E.Poll side instant budget) = OfHost side (Polls instant budget)
kind_of (E.PollAt side instant) = OfHost side (Asks instant)
kind_of (E.Room side room) = OfHost side (Opens room)
kind_of (E.Deliver from k padding) = OfLink (Hands (Delivered from k padding))
kind_of (E.Damage from k slot word padding) = OfLink (Hands (Damaged from k slot word padding))
kind_of (E.Noise to bytes) = OfLink (Hands (Noisy to bytes))
kind_of (E.Cut from k at) = OfLink (Cuts from k at)
