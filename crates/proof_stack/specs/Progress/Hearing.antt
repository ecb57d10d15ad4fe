-- Each segment that comes to one of two sockets is so for it.
use Rattle.std.specs.Prelude.{◌≡◌, ℕ, ℤ, List, [], ◌∷◌}
use Rattle.ip_wire.specs.TcpHeader.{TcpHeader}
use Rattle.tcp_block.specs.Value.{TcpValue}
use Rattle.lan.specs.declared.at_link.history.event.Side.{Side}
use Rattle.lan.specs.Worlds.AtLink.Happening.{Happening}
use Rattle.lan.specs.Worlds.AtLink.Moves.{Move}
use Rattle.lan.specs.Worlds.AtLink.Moves.Move.{Takes}
use Rattle.lan.specs.Worlds.AtLink.Paired.{Seat}

-- so is one that comes to the socket at this slot
abbrev pub IsSoAt : (TcpValue → TcpHeader → List ℕ → Type 0) → ℕ → Move → Type 0
IsSoAt IsSo slot (Takes at cx v ip header bytes) = at ≡ slot → IsSo v header bytes
IsSoAt IsSo slot move = Unit {0}

-- and each in these moves
abbrev pub AreSo : (TcpValue → TcpHeader → List ℕ → Type 0) → (Side → Seat) → List (ℤ × Happening) → Type 0
AreSo IsSo seats [] = Unit {0}
AreSo IsSo seats (x ∷ more) = IsSoAt IsSo (seats x.1.step.side).slot x.1.step.move × AreSo IsSo seats more
