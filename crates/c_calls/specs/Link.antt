-- A link whose frames a caller brings and fetches: two lists of frames.
use Rattle.std.specs.Prelude.{◌≡◌, ℕ, ◌+◌, ◌<◌, ◌≤◌, nat_lt, nat_le, Bool, ◌&&◌, if◌then◌else◌, IsTrue, List, [], ◌∷◌, ◌++◌, length, drop, Option, None, Some}
use Rattle.std.specs.Prelude.{Result, Ok, Err}
use Rattle.net_base.specs.Device.{Move, Took, Empty, Allowed, Emitted, Denied, gives_tokens}
use Rattle.net_base.specs.DeviceCapabilities.{DeviceCapabilities}
use Rattle.c_calls.specs.declared.link.error.PushError.{PushError}
use Rattle.c_calls.specs.declared.link.error.PushError.TheVariants as Push
use Rattle.c_calls.specs.declared.link.error.FetchError.{FetchError}
use Rattle.c_calls.specs.declared.link.error.FetchError.TheVariants as Fetch

-- the frames that wait for the host, those that are to go, each the oldest first, how many may lie each way, how many were
-- refused, and what the device says of itself
pub record LinkValue : Type 0 where
  pub waiting : List (List ℕ)
  pub sent : List (List ℕ)
  pub most : ℕ
  pub refusals : ℕ
  pub capabilities : DeviceCapabilities

-- a link over which nothing has gone
abbrev pub unused : DeviceCapabilities → ℕ → LinkValue
unused said most = record { waiting = []; sent = []; most = most; refusals = 0; capabilities = said }

-- the longest frame that is read: an Ethernet header of 14 bytes, and the longest IP packet
abbrev pub longest : ℕ
longest = 65549

-- there is room for a frame of this length, and it may be read
abbrev pub IsTaken : LinkValue → ℕ → Type 0
IsTaken link len = (len ≤ longest) × (length link.waiting < link.most)

-- Why a frame of this length is refused: it is too long; it isn't, and as many wait as may; neither, and there is no memory.
abbrev pub push_refusal : LinkValue → ℕ → PushError → Type 0
push_refusal link len Push.TooLong = longest < len
push_refusal link len Push.Full = (len ≤ longest) × (link.most ≤ length link.waiting)
push_refusal link len Push.Memory = IsTaken link len

-- a frame comes, and waits after the others
abbrev pub arrived : LinkValue → List ℕ → LinkValue
arrived link frame = record link { waiting = link.waiting ++ frame ∷ [] }

-- the first frame
abbrev pub next_frame : List (List ℕ) → Option (List ℕ)
next_frame [] = None
next_frame (frame ∷ _) = Some frame

-- the length of the first frame
abbrev pub next_len : List (List ℕ) → Option ℕ
next_len [] = None
next_len (frame ∷ _) = Some (length frame)

-- the first frame is handed out where it fits this room
abbrev pub fetch_answer : List (List ℕ) → ℕ → Result ℕ FetchError
fetch_answer [] room = Err Fetch.Empty
fetch_answer (frame ∷ _) room = if nat_lt room (length frame) then Err Fetch.TooShort else Ok (length frame)

-- the frames that stay
abbrev pub fetch_after : List (List ℕ) → ℕ → List (List ℕ)
fetch_after [] room = []
fetch_after (frame ∷ rest) room = if nat_lt room (length frame) then frame ∷ rest else rest

-- what stands in the room afterwards
abbrev pub fetched : List (List ℕ) → List ℕ → List ℕ
fetched [] out = out
fetched (frame ∷ _) out = if nat_lt (length out) (length frame) then out else frame ++ drop (length frame) out

-- whether the link gives tokens: there is room for a frame that goes, and its count of refusals can still rise
abbrev pub has_tx_token : LinkValue → Bool
has_tx_token link = nat_lt (length link.sent) link.most && gives_tokens link.refusals

abbrev pub LinkMove : LinkValue → Move → LinkValue → Type 0
LinkMove old (Took t frame) new = IsTrue (has_tx_token old) × (old ≡ record new { waiting = frame ∷ new.waiting })
LinkMove old (Empty t) new = (new ≡ old) × (IsTrue (has_tx_token old) → old.waiting ≡ [])
LinkMove old (Allowed t leave) new = (new ≡ old) × (leave ≡ has_tx_token old)
LinkMove old (Emitted frame) new = new ≡ record old { sent = old.sent ++ frame ∷ [] }
LinkMove old (Denied _) new = new ≡ record old { refusals = old.refusals + 1 }
