-- The slots of a host's sockets as a value: each slot with a socket or free, and its tag, of which there may be more than slots.
use Rattle.std.specs.Prelude.{List}
use Rattle.interface.specs.SocketStorage.{SocketStorage}
use Rattle.sockets.specs.declared.socket.Socket.{Socket}
use Rattle.c_calls.specs.declared.slots.Tag.{Tag}

pub record SlotsValue : Type 0 where
  pub sockets : List (SocketStorage Socket)
  pub tags : List Tag
