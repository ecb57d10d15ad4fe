-- Where the frames at the link come from: what the link hands over, and which of the sent frames are a host's own.
use Rattle.std.specs.Prelude.{ℕ, Bool, false, ◌&&◌, ◌||◌, ◌==◌, if◌then◌else◌, List, [], ◌∷◌, ◌++◌, take, drop, slice_index_or, Option, None, Some, is_some}
use Rattle.std.specs.List.{count_by}
use Rattle.net_base.specs.Medium.{Medium}
use Rattle.ip_wire.specs.Ipv4.{fragment_of}
use Rattle.sim_link.specs.PacketInFrame.{packet_in}
use Rattle.sim_link.specs.Cuts.{ipv4_part, first_fragment, second_fragment}
use Rattle.sim_link.specs.Parts.{begins_fragments, tcp_part, damaged}
use Rattle.sim_link.specs.declared.part.Part.{Part}
use Rattle.lan.specs.Worlds.AtLink.History.{Entry, Counts}
use Rattle.lan.specs.Worlds.AtLink.Kinds.{other, same_side, Kind, kind_of, Origin, Delivered, Damaged, Noisy}
use Rattle.lan.specs.Worlds.AtLink.Kinds.Kind.{OfLink}
use Rattle.lan.specs.Worlds.AtLink.Kinds.LinkAct.{Hands, Cuts}
use Rattle.lan.specs.declared.at_link.history.event.Side.{Side}
use Rattle.lan.specs.declared.at_link.history.event.Side.TheVariants.{A, B}
use Rattle.sim_link.specs.Port.{added, arrived}
use Rattle.lan.specs.Worlds.AtLink.Node.{NodeValue, Nodes, node, with_node, with_link}

abbrev pub medium_of : NodeValue → Medium
medium_of s = s.link.capabilities.medium

-- frame k of those that a host has sent, counted from 0
abbrev pub frame_sent : Nodes → Side → ℕ → List ℕ
frame_sent hosts from k = slice_index_or (node hosts from).link.sent k []

-- WHAT THE LINK HANDS OVER

abbrev pub damaged_in : Option Part → List ℕ → ℕ → ℕ → List ℕ
damaged_in None frame slot word = frame
damaged_in (Some part) frame slot word = damaged frame part slot word

-- a sent frame with padding after it; the same with a word of its TCP segment exchanged; or bytes
abbrev pub frame_of_origin : Nodes → Origin → List ℕ
frame_of_origin hosts (Delivered from k padding) = frame_sent hosts from k ++ padding
frame_of_origin hosts (Damaged from k slot word padding) =
    damaged_in (tcp_part (medium_of (node hosts from)) (frame_sent hosts from k)) (frame_sent hosts from k) slot word ++ padding
frame_of_origin hosts (Noisy to bytes) = bytes

-- the host that it goes to
abbrev pub goes_to : Origin → Side
goes_to (Delivered from k padding) = other from
goes_to (Damaged from k slot word padding) = other from
goes_to (Noisy to bytes) = to

-- the frame waits after the others
abbrev pub handed : Nodes → Origin → Nodes
handed hosts o =
    let s = node hosts (goes_to o) in
    with_node hosts (goes_to o) (with_link s (arrived s.link (frame_of_origin hosts o)))

-- both fragments join the sent frames of their host
abbrev pub cut : Nodes → Side → ℕ → ℕ → Nodes
cut hosts from k at =
    let s = node hosts from in
    let frame = frame_sent hosts from k in
    with_node hosts from
    (with_link s (added (added s.link (first_fragment (medium_of s) frame at)) (second_fragment (medium_of s) frame at)))

-- WHERE FRAMES COME FROM

abbrev pub origins_of : Side → Kind → List Origin
origins_of side (OfLink (Hands o)) = if same_side (goes_to o) side then o ∷ [] else []
origins_of side kind = []

-- what was handed to a host, the oldest first
abbrev pub origins : Side → List Entry → List Origin
origins side [] = []
origins side (e ∷ past) = origins side past ++ origins_of side (kind_of e.event)

abbrev pub sent_before : Counts → Side → ℕ
sent_before c A = c.sent_a
sent_before c B = c.sent_b

abbrev pub waiting_before : Counts → Side → ℕ
waiting_before c A = c.waiting_a
waiting_before c B = c.waiting_b

abbrev pub is_cut_of : Side → Kind → Bool
is_cut_of side (OfLink (Cuts from k at)) = same_side from side
is_cut_of side kind = false

-- of its sent frames those that a host sent itself: all but the link's fragments
abbrev pub own_frames : Side → List Entry → List (List ℕ) → List (List ℕ)
own_frames side [] sent = sent
own_frames side (e ∷ past) sent =
    own_frames side past (take (sent_before e.before side) sent)
    ++ (if is_cut_of side (kind_of e.event) then [] else drop (sent_before e.before side) sent)

-- a frame that began an IPv4 datagram, which has a number of its own (RFC 6864), or an IPv6 one in fragments, which have one (RFC 8200,
-- section 4.5)
abbrev pub begins_datagram : Medium → List ℕ → Bool
begins_datagram medium frame =
    (is_some (ipv4_part medium frame) && ((fragment_of (packet_in medium frame)).offset == 0)) || begins_fragments medium frame

-- how many datagrams a host numbered
abbrev pub numbered : Medium → Side → List Entry → List (List ℕ) → ℕ
numbered medium side history sent = count_by (begins_datagram medium) (own_frames side history sent)
