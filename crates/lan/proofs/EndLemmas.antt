-- Why a script's lines end the run.
use Rattle.std.proofs.Common.{◌≡◌, ℕ, Bool, true, false, List, [], ◌∷◌, Option, Some, None, inl, inr, ◌⊎◌, refl}
use Rattle.std.specs.Prelude.{◌≢◌, pos, option_map, if◌then◌else◌}
use Rattle.lan.specs.Worlds.Settings.{refusal}
use Rattle.lan.specs.Worlds.AtLink.NewError.{NewError}
use Rattle.lan.specs.Worlds.AtLink.NewError.TheVariants as New
use Rattle.lan.specs.declared.at_link.history.answer.Refused.TheVariants.{Memory}
use Rattle.lan.specs.declared.at_link.history.event.Side.{Side}
use Rattle.lan.specs.declared.at_link.history.event.Side.TheVariants.{A, B}
use Rattle.sim_link.specs.declared.line.Line.{Line}
use Rattle.sim_link.specs.declared.line.Line.TheVariants.{Start}
use Rattle.lan.specs.Worlds.AtLink.Node.{NodeValue}
use Rattle.lan.specs.Worlds.New.{new_error}
use Rattle.lan.specs.declared.error.WorldError.{WorldError}
use Rattle.lan.specs.declared.error.WorldError.TheVariants as Since
use Rattle.net_base.specs.Medium.{Medium}
use Rattle.lan.specs.declared.end.End.{End}
use Rattle.lan.specs.declared.end.End.TheVariants.{BadEvent, Refusal, World}
use Rattle.lan.specs.declared.session.Session.{Session}
use Rattle.lan.specs.declared.session.Session.TheVariants.{Begun, Header, Running}
use Rattle.lan.specs.Ends.{interface_end, world_end}
use Rattle.lan.specs.Hosts.{HeaderValue, config_of, device_of, host_of, has_large, no_interface, no_sockets, no_world, no_start, first_of}
use Rattle.lan.specs.Scripts.{end_of, Ends}

-- text outside the grammar ends every run
pub bad_line : (session : Session) → end_of session None ≡ Some BadEvent
bad_line Begun = refl
bad_line (Header h) = refl
bad_line (Running world) = refl

no_bad_interface : (o : Option NewError) → option_map interface_end o ≢ Some BadEvent
no_bad_interface None e = absurd cc
no_bad_interface (Some New.Medium) e = absurd cc
no_bad_interface (Some New.NotUnicast) e = absurd cc
no_bad_interface (Some New.Mtu) e = absurd cc
no_bad_interface (Some New.Moment) e = absurd cc
no_bad_interface (Some New.Memory) e = absurd cc

no_bad_world : (o : Option WorldError) → option_map world_end o ≢ Some BadEvent
no_bad_world None e = absurd cc
no_bad_world (Some Since.Media) e = absurd cc
no_bad_world (Some Since.Checksums) e = absurd cc
no_bad_world (Some Since.Mtu) e = absurd cc
no_bad_world (Some Since.Buffers) e = absurd cc
no_bad_world (Some Since.NotFresh) e = absurd cc
no_bad_world (Some Since.Memory) e = absurd cc

no_bad_sockets : (b : Bool) → (if b then Some (World Since.Buffers) else None) ≢ Some BadEvent
no_bad_sockets true e = absurd cc
no_bad_sockets false e = absurd cc

first_bad : (o : Option End) (os : List (Option End)) → o ≢ Some BadEvent → first_of os ≢ Some BadEvent → first_of (o ∷ os) ≢ Some BadEvent
first_bad None os first rest = rest
first_bad (Some end) os first rest = first

none_bad : first_of [] ≢ Some BadEvent
none_bad e = absurd cc

no_bad_five : (a b c d e : Option End) → a ≢ Some BadEvent → b ≢ Some BadEvent → c ≢ Some BadEvent → d ≢ Some BadEvent → e ≢ Some BadEvent
    → first_of (a ∷ b ∷ c ∷ d ∷ e ∷ []) ≢ Some BadEvent
no_bad_five a b c d e ha hb hc hd he =
    first_bad a (b ∷ c ∷ d ∷ e ∷ []) ha (first_bad b (c ∷ d ∷ e ∷ []) hb (first_bad c (d ∷ e ∷ []) hc (first_bad d (e ∷ []) hd (first_bad e [] he none_bad))))

no_bad_new : (medium : Medium) (mtu : ℕ) (side : Side) → no_interface medium mtu side ≢ Some BadEvent
no_bad_new medium mtu side = no_bad_interface (refusal (config_of medium side) (device_of medium mtu) (pos 0))

no_bad_both : (a b : NodeValue) → no_world a b ≢ Some BadEvent
no_bad_both a b = no_bad_world (new_error a b)

no_bad_start : (h : HeaderValue) → no_start h ≢ Some BadEvent
no_bad_start h =
    no_bad_five (no_interface h.medium h.mtu A) (no_interface h.medium h.mtu B) (no_sockets A h.sockets) (no_sockets B h.sockets)
    (no_world (host_of h A) (host_of h B))
    (no_bad_new h.medium h.mtu A) (no_bad_new h.medium h.mtu B) (no_bad_sockets (has_large A h.sockets)) (no_bad_sockets (has_large B h.sockets))
    (no_bad_both (host_of h A) (host_of h B))

-- how `start` ends the run
pub start_end : (h : HeaderValue) (end : End) → (no_start h ≡ Some end) ⊎ (end ≡ Refusal Memory) → Ends (Header h) (Some Start) end
start_end h end (inl is) = inl is
start_end h end (inr memory) = inr (memory, inr (refl, no_bad_start h))
