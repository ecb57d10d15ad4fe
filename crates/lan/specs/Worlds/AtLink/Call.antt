-- The calls of an application.
use Rattle.std.specs.Prelude.{ℕ, List}
use Rattle.ip_wire.specs.IpAddress.{IpAddress}
use Rattle.ip_wire.specs.IpEndpoint.{IpEndpoint}
use Rattle.lan.specs.declared.at_link.history.event.TcpSetting.{TcpSetting}

-- a call of an application, wherever its socket is
pub data SocketCall : Type 0 where
  Listen : (port : ℕ) → SocketCall
  Connect : (remote : IpEndpoint) (port : ℕ) → SocketCall
  Send : (bytes : List ℕ) → SocketCall
  Recv : (limit : ℕ) → SocketCall
  Close : SocketCall
  Abort : SocketCall
  State : SocketCall
  Set : (setting : TcpSetting) → SocketCall
  Bind : (port : ℕ) → SocketCall
  Ident : (ident : ℕ) → SocketCall
  SendTo : (remote : IpEndpoint) (bytes : List ℕ) → SocketCall
  SendIcmp : (remote : IpAddress) (bytes : List ℕ) → SocketCall
  SendRaw : (bytes : List ℕ) → SocketCall
  RecvFrom : (limit : ℕ) → SocketCall
