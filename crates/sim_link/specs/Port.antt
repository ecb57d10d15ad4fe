-- A port: one host's end of the link, as two lists of frames.
use Rattle.std.specs.Prelude.{◌≡◌, ℕ, ◌+◌, ◌-◌, ◌^◌, ◌≤◌, nat_lt, nat_le, Bool, ◌&&◌, if◌then◌else◌, IsTrue, List, [], ◌∷◌, ◌++◌, length}
use Rattle.base_device.specs.Device.{Move, Took, Empty, Allowed, Emitted, Denied, gives_tokens}
use Rattle.base_device.specs.declared.capabilities.DeviceCapabilities.{DeviceCapabilities}
use Rattle.sim_link.specs.Pool.{ready_left}

-- what the world knows of a port: the frames that wait for the host, the oldest first, the sent
-- frames, the oldest first, how many more the port takes, how many it refused, and what it says of
-- itself
pub record LinkEnd : Type 0 where
  pub waiting : List (List ℕ)
  pub sent : List (List ℕ)
  pub room : ℕ
  pub refusals : ℕ
  pub capabilities : DeviceCapabilities

-- alongside it, how many buffers lie ready, and the length of a frame that fits each of them
pub record PortValue : Type 0 where
  pub link : LinkEnd
  pub ready : ℕ
  pub size : ℕ

-- an end of a link over which nothing has gone yet
abbrev pub unused_end : DeviceCapabilities → LinkEnd
unused_end said = record { waiting = []; sent = []; room = 2 ^ 64 - 1; refusals = 0; capabilities = said }

-- a frame comes to the end of a link, and waits after the others
abbrev pub arrived : LinkEnd → List ℕ → LinkEnd
arrived link frame = record link { waiting = link.waiting ++ frame ∷ [] }

-- the link itself puts a frame after the sent ones
abbrev pub added : LinkEnd → List ℕ → LinkEnd
added link frame = record link { sent = link.sent ++ frame ∷ [] }

-- whether a port gives tokens: it has room for a frame, and its count of refusals can still rise
abbrev pub has_tx_token : LinkEnd → Bool
has_tx_token link = nat_lt 0 link.room && gives_tokens link.refusals

-- how many of the buffers that lie ready fit frames of this length
abbrev pub ready_for : PortValue → ℕ → ℕ
ready_for port len = if nat_le len port.size then port.ready else 0

-- how many buffers lie ready once a frame of this length was sent
abbrev pub ready_after : PortValue → ℕ → ℕ
ready_after port len = ready_left port.ready port.size len

abbrev pub PortMove : PortValue → Move → PortValue → Type 0
PortMove old (Took t frame) new =
    IsTrue (has_tx_token old.link)
    × (old ≡ record new { link = record new.link { waiting = frame ∷ new.link.waiting } })
PortMove old (Empty t) new =
    (new ≡ old) × (IsTrue (has_tx_token old.link) → old.link.waiting ≡ [])
PortMove old (Allowed t leave) new = (new ≡ old) × (leave ≡ has_tx_token old.link)
PortMove old (Emitted frame) new =
    new
    ≡ record old {
      link = record old.link { sent = old.link.sent ++ frame ∷ []; room = old.link.room - 1 };
      ready = ready_after old (length frame);
    }
-- a frame is refused only where no buffer that it fits lay ready
PortMove old (Denied len) new =
    (new ≡ record old { link = record old.link { refusals = old.link.refusals + 1 } })
    × (len ≤ old.size → old.ready ≡ 0)
