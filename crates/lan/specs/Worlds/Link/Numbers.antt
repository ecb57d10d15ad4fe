-- Every IPv4 packet that a host sent has a number of its own (RFC 6864), and so has every IPv6 packet that it cut (RFC 8200, section 4.5).
use Rattle.std.specs.Prelude.{◌≡◌, ◌+◌, ◌%◌, ◌^◌, ◌<◌, ◌≤◌, ℕ, List, [], ◌∷◌, Option, None, Some}
use Rattle.std.specs.List.{count_by}
use Rattle.sim_link.specs.Medium.{Medium}
use Rattle.lan.specs.Worlds.AtLink.Origins.{begins_datagram}
use Rattle.lan.specs.Worlds.Link.Frames.{Outgoing, number_of}

abbrev pub and_number : Option ℕ → ℕ → ℕ
and_number None count = count
and_number (Some number) count = count + 1

-- how many of these packets have a number
abbrev pub count_numbered : List Outgoing → ℕ
count_numbered [] = 0
count_numbered (o ∷ out) = and_number (number_of o) (count_numbered out)

-- a packet that has a number took the next one
abbrev pub TakesNext : (ℕ → Type 0) → Option ℕ → ℕ → Type 0
TakesNext before None next = before next
TakesNext before (Some number) next = before number × (next ≡ (number + 1) % 2 ^ 16)

-- The packets that a host sent, the newest first, have one number after the other from the first one on; and this is the next.
abbrev pub AreNumbered : ℕ → List Outgoing → ℕ → Type 0
AreNumbered first [] next = (next ≡ first) × (first < 2 ^ 16)
AreNumbered first (o ∷ out) next = TakesNext (AreNumbered first out) (number_of o) next

-- fewer than there are numbers
abbrev pub AreFew : List Outgoing → Type 0
AreFew out = count_numbered out < 2 ^ 16

-- From packets and frames to later ones: each new packet that has a number has a new frame that begins a datagram.
abbrev pub IsTied : Medium → List Outgoing → List (List ℕ) → List Outgoing → List (List ℕ) → Type 0
IsTied medium out sent out' sent' =
    count_numbered out' + count_by (begins_datagram medium) sent ≤ count_numbered out + count_by (begins_datagram medium) sent'
