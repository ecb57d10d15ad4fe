-- Frames that carry a reset of TCP.
use Rattle.std.specs.Prelude.{ℕ, ◌+◌, ◌*◌, ◌/◌, ◌%◌, ◌==◌, ◌&&◌, if◌then◌else◌, Bool, false, List, slice_index}
use Rattle.net_base.specs.Medium.{Medium}
use Rattle.net_base.specs.Medium.TheVariants.{Ethernet, Ip}

-- how many bytes stand before a packet on a link
abbrev pub head_len : Medium → ℕ
head_len Ethernet = 14
head_len Ip = 0

-- RST is the third bit from the right (RFC 9293, 3.1)
abbrev pub has_rst : ℕ → Bool
has_rst flags = (flags / 4) % 2 == 1

-- an IPv4 packet (RFC 791) that says protocol 6, and whose segment, after the header of as many words as it says, has RST
abbrev pub is_reset_v4 : ℕ → List ℕ → Bool
is_reset_v4 at frame = (slice_index frame (at + 9) == 6) && has_rst (slice_index frame (at + slice_index frame at % 16 * 4 + 13))

-- an IPv6 packet (RFC 8200) whose next header is 6, and whose segment, after forty bytes, has RST
abbrev pub is_reset_v6 : ℕ → List ℕ → Bool
is_reset_v6 at frame = (slice_index frame (at + 6) == 6) && has_rst (slice_index frame (at + 53))

abbrev pub is_reset_at : ℕ → List ℕ → Bool
is_reset_at at frame =
    if slice_index frame at / 16 == 4 then is_reset_v4 at frame
    else if slice_index frame at / 16 == 6 then is_reset_v6 at frame
    else false

abbrev pub is_reset : Medium → List ℕ → Bool
is_reset medium frame = is_reset_at (head_len medium) frame
