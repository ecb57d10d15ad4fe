-- What the link needs for its acts.
use Rattle.std.specs.Prelude.{◌<◌, ◌≤◌, ◌+◌, ℕ, List, [], length, slice_index_or, Option, None, Some}
use Rattle.sim_link.specs.Cuts.{ipv4_part}
use Rattle.sim_link.specs.Parts.{tcp_part}
use Rattle.sim_link.specs.declared.part.Part.{Part}
use Rattle.lan.specs.Worlds.AtLink.Kinds.{Kind, LinkAct, Delivered, Damaged, Noisy}
use Rattle.lan.specs.Worlds.AtLink.Kinds.Kind.{OfHost, OfLink}
use Rattle.lan.specs.Worlds.AtLink.Kinds.LinkAct.{Hands, Cuts}
use Rattle.lan.specs.Worlds.AtLink.Node.{NodeValue, Nodes, node}
use Rattle.lan.specs.Worlds.AtLink.Origins.{medium_of, frame_sent}
use Rattle.lan.specs.Worlds.AtLink.Steps.{linked}

-- the frame at a place of those that a host sent
abbrev pub frame_at : NodeValue → ℕ → List ℕ
frame_at s k = slice_index_or s.link.sent k []

-- there is a segment, with a word at this slot
abbrev pub HasSegment : Option Part → ℕ → Type 0
HasSegment None slot = ⊥
HasSegment (Some part) slot = slot + 2 ≤ part.len

-- there is a packet, with so many bytes of payload
abbrev pub HasFragment : Option Part → ℕ → Type 0
HasFragment None at = ⊥
HasFragment (Some part) at = at ≤ part.len

-- a frame that is handed on or cut was sent, and has what is exchanged in it or cut
abbrev pub CanLink : Nodes → LinkAct → Type 0
CanLink hosts (Hands (Delivered from k padding)) = k < length (node hosts from).link.sent
CanLink hosts (Hands (Damaged from k slot word padding)) =
    (k < length (node hosts from).link.sent) × HasSegment (tcp_part (medium_of (node hosts from)) (frame_sent hosts from k)) slot
CanLink hosts (Hands (Noisy to bytes)) = Unit {0}
CanLink hosts (Cuts from k at) =
    (k < length (node hosts from).link.sent) × HasFragment (ipv4_part (medium_of (node hosts from)) (frame_sent hosts from k)) at

-- the same of an event
abbrev pub CanLinkBy : Nodes → Kind → Type 0
CanLinkBy hosts (OfHost side act) = Unit {0}
CanLinkBy hosts (OfLink act) = CanLink hosts act

abbrev pub linked_by : Nodes → Kind → Nodes
linked_by hosts (OfHost side act) = hosts
linked_by hosts (OfLink act) = linked hosts act
