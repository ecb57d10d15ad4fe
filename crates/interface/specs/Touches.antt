-- What a poll asks of its device, and what leaves with it.
use Rattle.std.specs.Prelude.{◌≡◌, ℕ, ◌+◌, ◌≤◌, ℤ, pos, ◌+ℤ◌, int_lt, Bool, true, false, List, [], ◌∷◌, Option, None, Some}
use Rattle.net_base.specs.ChecksumCapabilities.{ChecksumCapabilities}
use Rattle.net_base.specs.Device.{Move, Took, Empty, Allowed}
use Rattle.ip_wire.specs.HardwareAddress.{HardwareAddress}
use Rattle.iface_tables.specs.Inner.{InnerValue}
use Rattle.iface_tables.specs.Neighbor.{silent_time}
use Rattle.iface_egress.specs.Departure.{Departure, Asks, Tells, Whole, Part, frame_from, len_from}
use Rattle.iface_egress.specs.Emits.{Emits}

-- a look for a frame, and what it found; leave to send, given or not; and a frame that the device took or refused
pub data Touch : Type 0 where
  Looks : Option (List ℕ) → Touch
  Leave : Bool → Touch
  Sends : Departure → Bool → Touch

-- what left in frames that the device took, the newest first
abbrev pub departed : List Touch → List Departure
departed [] = []
departed (Looks found ∷ ts) = departed ts
departed (Leave given ∷ ts) = departed ts
departed (Sends d true ∷ ts) = d ∷ departed ts
departed (Sends d false ∷ ts) = departed ts

-- how many frames the device was asked to take
abbrev pub sends_in : List Touch → ℕ
sends_in [] = 0
sends_in (Looks found ∷ ts) = sends_in ts
sends_in (Leave given ∷ ts) = sends_in ts
sends_in (Sends d taken ∷ ts) = sends_in ts + 1

-- SILENCE

abbrev pub second_after : ℤ → ℤ
second_after t = t +ℤ pos silent_time

-- A request leaves at an instant that is not before the end of the silence, and begins a silence of a second. Nothing else begins
-- or ends one (RFC 1122, section 2.3.2.1; RFC 4861, section 7.2.2).
abbrev pub Silences : ℤ → List Departure → ℤ → ℤ → Type 0
Silences t [] before after = after ≡ before
Silences t (Asks neighbor_query ∷ ds) before after =
    (mid : ℤ) × Silences t ds before mid × (int_lt t mid ≡ false) × (after ≡ second_after t)
Silences t (Tells packet ∷ ds) before after = Silences t ds before after
Silences t (Whole to p ∷ ds) before after = Silences t ds before after
Silences t (Part to header fragment ∷ ds) before after = Silences t ds before after

-- The same of any host: with host requirements a request may leave in the silence that another one began.
abbrev pub SilencesIf : (many : Bool) → ℤ → List Departure → ℤ → ℤ → Type 0
SilencesIf many t [] before after = after ≡ before
SilencesIf many t (Asks neighbor_query ∷ ds) before after =
    (mid : ℤ) × SilencesIf many t ds before mid × (many ≡ false → int_lt t mid ≡ false) × (after ≡ second_after t)
SilencesIf many t (Tells packet ∷ ds) before after = SilencesIf many t ds before after
SilencesIf many t (Whole to p ∷ ds) before after = SilencesIf many t ds before after
SilencesIf many t (Part to header fragment ∷ ds) before after = SilencesIf many t ds before after

-- AT THE DEVICE

module _ {D : Type 0} (moves : D → Move → D → Type 0) (t : ℤ) (local : HardwareAddress) (caps : ChecksumCapabilities) where
  -- one move in a call at this instant, of a host with this hardware address and these checksums
  abbrev pub Does : Touch → D → D → Type 0
  Does (Looks None) old new = moves old (Empty t) new
  Does (Looks (Some frame)) old new = moves old (Took t frame) new
  Does (Leave given) old new = moves old (Allowed t given) new
  Does (Sends d taken) old new = Emits moves old (frame_from local caps d) (len_from local d) taken new

  -- one after the other, the newest first
  abbrev pub DoesAll : List Touch → D → D → Type 0
  DoesAll [] old new = new ≡ old
  DoesAll (x ∷ ts) old new = (mid : D) × DoesAll ts old mid × Does x mid new

-- Between two hosts at a device, in a call at this instant: all that was asked of the device, with so many sends at most, and what
-- became of the silence.
pub record Traced {D : Type 0} (moves : D → Move → D → Type 0) (t : ℤ) (most : ℕ) (d : D) (i : InnerValue) (d' : D) (i' : InnerValue) : Type 0 where
  pub touches : List Touch
  pub path : DoesAll moves t i.hardware i.checksums touches d d'
  pub sends : sends_in touches ≤ most
  pub silence : SilencesIf i.host_requirements t (departed touches) i.neighbors.silent i'.neighbors.silent
  pub hardware : i'.hardware ≡ i.hardware
  pub checksums : i'.checksums ≡ i.checksums
  pub host_requirements : i'.host_requirements ≡ i.host_requirements

-- The same without host requirements: one silence is for all, and nothing that waited was sent.
pub record TracedAlone {D : Type 0} (moves : D → Move → D → Type 0) (t : ℤ) (most : ℕ) (d : D) (i : InnerValue) (d' : D) (i' : InnerValue) : Type 0 where
  pub touches : List Touch
  pub path : DoesAll moves t i.hardware i.checksums touches d d'
  pub sends : sends_in touches ≤ most
  pub silence : Silences t (departed touches) i.neighbors.silent i'.neighbors.silent
  pub hardware : i'.hardware ≡ i.hardware
  pub checksums : i'.checksums ≡ i.checksums
