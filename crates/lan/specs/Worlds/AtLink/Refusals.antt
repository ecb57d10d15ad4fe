-- When an event isn't taken. The first test that holds says why; the history is read by its tables alone.
use Rattle.std.specs.Prelude.{◌≡◌, ◌⊎◌, ℕ, ◌+◌, ◌*◌, ◌%◌, ◌^◌, ◌==◌, nat_le, nat_lt, ℤ, int_lt, not, ◌||◌, Bool, true, List, [], ◌∷◌, length, Option, None}
use Rattle.std.specs.Prelude.{Some}
use Rattle.ip_wire.specs.Fields.{be16}
use Rattle.interface.specs.Settings.{is_moment}
use Rattle.interface.specs.Used.{sockets_in}
use Rattle.net_base.specs.Medium.TheVariants as Medium
use Rattle.sim_link.specs.PacketInFrame.{names_tcp_or_udp}
use Rattle.sim_link.specs.Cuts.{ipv4_part}
use Rattle.sim_link.specs.Parts.{tcp_part, bytes_at}
use Rattle.sim_link.specs.declared.part.Part.{Part}
use Rattle.lan.specs.Worlds.AtLink.Kinds.{Kind, Act, LinkAct, Delivered, Damaged, Noisy}
use Rattle.lan.specs.Worlds.AtLink.Kinds.Kind.{OfHost, OfLink}
use Rattle.lan.specs.Worlds.AtLink.Kinds.Act.{Calls, Asks, Polls}
use Rattle.lan.specs.Worlds.AtLink.Kinds.LinkAct.{Hands, Cuts}
use Rattle.lan.specs.Worlds.AtLink.Tables.{first_refusal, call_tests}
use Rattle.lan.specs.declared.at_link.history.answer.Refused.{Refused}
use Rattle.lan.specs.declared.at_link.history.answer.Refused.TheVariants as For
use Rattle.lan.specs.declared.at_link.history.event.Side.{Side}
use Rattle.lan.specs.declared.at_link.history.event.Side.TheVariants.{A, B}
use Rattle.lan.specs.declared.at_link.history.record.SocketRecord.{SocketRecord}
use Rattle.lan.specs.Worlds.AtLink.Node.{NodeValue, Nodes, node, kind_at}
use Rattle.lan.specs.Worlds.AtLink.Origins.{medium_of, frame_sent}

-- what is kept of a host's history: a record for each place of its socket set, and how many datagrams it numbered
pub record Table : Type 0 where
  pub records : List SocketRecord
  pub numbered : ℕ

pub record Tables : Type 0 where
  pub a : Table
  pub b : Table

abbrev pub table : Tables → Side → Table
table tables A = tables.a
table tables B = tables.b

-- OF A HOST

-- In each pass of a poll each socket may send a datagram, and so may each frame that is taken be answered by one. One number is for
-- one datagram, so a host stops before it has used all of them.
abbrev pub may_run_out : NodeValue → Table → ℕ → Bool
may_run_out s t budget = nat_le (2 ^ 16) (t.numbered + budget * (1 + sockets_in s.slots))

-- no instant, or before the host's last
abbrev pub is_too_early : NodeValue → ℤ → Bool
is_too_early s instant = not (is_moment instant) || int_lt instant s.host.inner.instant

abbrev pub act_tests : NodeValue → Table → Act → List (Bool × Refused)
act_tests s t (Calls i call) = call_tests (names_tcp_or_udp Medium.Ip) (kind_at s.slots i) t.records i call
act_tests s t (Polls instant budget) = (may_run_out s t budget, For.TooManyCut) ∷ (is_too_early s instant, For.Moment) ∷ []
act_tests s t (Asks instant) = (is_too_early s instant, For.Moment) ∷ []
act_tests s t act = []

-- OF THE LINK

abbrev pub is_no_frame : NodeValue → ℕ → Bool
is_no_frame s k = not (nat_lt k (length s.link.sent))

-- the slot is odd, or the word ends past the segment
abbrev pub is_no_slot : Part → ℕ → Bool
is_no_slot part slot = (slot % 2 == 1) || nat_lt part.len (slot + 2)

abbrev pub is_same_sum : List ℕ → Part → ℕ → ℕ → Bool
is_same_sum frame part slot word = be16 (bytes_at frame part) slot % 65535 == word % 65535

abbrev pub segment_tests : List ℕ → Option Part → ℕ → ℕ → List (Bool × Refused)
segment_tests frame None slot word = (true, For.NotTcp) ∷ []
segment_tests frame (Some part) slot word = (is_no_slot part slot, For.Place) ∷ (is_same_sum frame part slot word, For.SameSum) ∷ []

-- a cut leaves bytes on both sides, and eight of them or a multiple in front (RFC 791, section 3.2)
abbrev pub is_no_cut : Part → ℕ → Bool
is_no_cut part at = (at == 0) || (not (at % 8 == 0) || not (nat_lt at part.len))

abbrev pub cut_tests : Option Part → ℕ → List (Bool × Refused)
cut_tests None at = (true, For.NotIpv4) ∷ []
cut_tests (Some part) at = (is_no_cut part at, For.CutPlace) ∷ []

abbrev pub link_tests : Nodes → LinkAct → List (Bool × Refused)
link_tests hosts (Hands (Delivered from k padding)) = (is_no_frame (node hosts from) k, For.NoFrame) ∷ []
link_tests hosts (Hands (Damaged from k slot word padding)) =
    (is_no_frame (node hosts from) k, For.NoFrame)
    ∷ segment_tests (frame_sent hosts from k) (tcp_part (medium_of (node hosts from)) (frame_sent hosts from k)) slot word
link_tests hosts (Hands (Noisy to bytes)) = (names_tcp_or_udp (medium_of (node hosts to)) bytes, For.NamesTcpOrUdp) ∷ []
link_tests hosts (Cuts from k at) =
    (is_no_frame (node hosts from) k, For.NoFrame)
    ∷ cut_tests (ipv4_part (medium_of (node hosts from)) (frame_sent hosts from k)) at

-- OF AN EVENT

abbrev pub tests : Nodes → Tables → Kind → List (Bool × Refused)
tests hosts tables (OfHost side act) = act_tests (node hosts side) (table tables side) act
tests hosts tables (OfLink act) = link_tests hosts act

-- why an event isn't taken, but for lack of memory; none where it is
abbrev pub refusal : Nodes → Tables → Kind → Option Refused
refusal hosts tables kind = first_refusal (tests hosts tables kind)

-- a refusal of an event: that which it must have, or lack of memory where it must have none
abbrev pub MayRefuse : Nodes → Tables → Kind → Refused → Type 0
MayRefuse hosts tables kind refused =
    (refusal hosts tables kind ≡ Some refused) ⊎ ((refusal hosts tables kind ≡ None) × (refused ≡ For.Memory))
