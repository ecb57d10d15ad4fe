-- What an event makes of the host that acts, and when it can.
use Rattle.std.specs.Prelude.{◌≡◌, ℕ, Bool, true, List, ◌∷◌, Option, None, Some}
use Rattle.net_base.specs.Time.{IsMoment}
use Rattle.lan.specs.Worlds.AtLink.Kinds.{Kind, Act}
use Rattle.lan.specs.Worlds.AtLink.Kinds.Act.{Calls, Asks, Polls}
use Rattle.lan.specs.Worlds.AtLink.Kinds.Kind.{OfHost, OfLink}
use Rattle.lan.specs.declared.at_link.history.event.Side.{Side}
use Rattle.lan.specs.Worlds.AtLink.Calling.{is_called}
use Rattle.lan.specs.Worlds.AtLink.Node.{NodeValue, Nodes, node, kind_at}
use Rattle.sim_link.specs.Cuts.{ipv4_part}
use Rattle.sim_link.specs.Parts.{tcp_part}
use Rattle.lan.specs.Worlds.AtLink.Tables.{first_refusal}
use Rattle.lan.specs.declared.at_link.history.answer.Refused.{Refused}
use Rattle.lan.specs.declared.at_link.history.answer.Refused.TheVariants as For
use Rattle.lan.specs.Worlds.AtLink.Linking.{CanLink, frame_at}
use Rattle.lan.specs.Worlds.AtLink.Origins.{medium_of}
use Rattle.lan.specs.Worlds.AtLink.Refusals.{Table, act_tests, link_tests, segment_tests, cut_tests, is_no_frame}
use Rattle.lan.specs.Worlds.AtLink.Steps.{Acts, Happens}
use Rattle.lan.specs.declared.at_link.answer.Taken.{Taken}

-- the host that acts; none where the link does
abbrev pub actor : Kind → Option Side
actor (OfHost side act) = Some side
actor (OfLink act) = None

-- what an act gave
abbrev pub ActsSo : NodeValue → Act → Taken → NodeValue → Type 0
ActsSo s act t s' = Acts s act t.answer t.found s' × (t.kept ≡ t.answer)

-- the same of an event
abbrev pub ActsBy : NodeValue → Kind → Taken → NodeValue → Type 0
ActsBy s (OfHost side act) t s' = ActsSo s act t s'
ActsBy s (OfLink act) t s' = ⊥

-- a call is one of a socket that has it, and what takes an instant has one
abbrev pub CanAct : NodeValue → Act → Type 0
CanAct s (Calls i call) = is_called (kind_at s.slots i) call ≡ true
CanAct s (Asks instant) = IsMoment instant
CanAct s (Polls instant budget) = IsMoment instant
CanAct s act = Unit {0}

abbrev pub CanActBy : NodeValue → Kind → Type 0
CanActBy s (OfHost side act) = CanAct s act
CanActBy s (OfLink act) = ⊥

-- EITHER

abbrev pub CanHappen : Nodes → Kind → Type 0
CanHappen hosts (OfHost side act) = CanAct (node hosts side) act
CanHappen hosts (OfLink act) = CanLink hosts act

abbrev pub HappensBy : Nodes → Kind → Taken → Nodes → Type 0
HappensBy old kind t new = Happens old kind t.answer t.found new × (t.kept ≡ t.answer)

-- WHY NOT

abbrev pub act_refusal : NodeValue → Table → Kind → Option Refused
act_refusal s t (OfHost side act) = first_refusal (act_tests s t act)
act_refusal s t (OfLink act) = None

abbrev pub link_refusal : Nodes → Kind → Option Refused
link_refusal hosts (OfHost side act) = None
link_refusal hosts (OfLink act) = first_refusal (link_tests hosts act)

abbrev pub damage_tests : NodeValue → ℕ → ℕ → ℕ → List (Bool × Refused)
damage_tests s k slot word =
    (is_no_frame s k, For.NoFrame) ∷ segment_tests (frame_at s k) (tcp_part (medium_of s) (frame_at s k)) slot word

abbrev pub sent_cut_tests : NodeValue → ℕ → ℕ → List (Bool × Refused)
sent_cut_tests s k at = (is_no_frame s k, For.NoFrame) ∷ cut_tests (ipv4_part (medium_of s) (frame_at s k)) at
