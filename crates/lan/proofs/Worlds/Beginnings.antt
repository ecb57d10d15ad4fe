-- Two new hosts at a link over which nothing went are joined.
use Rattle.std.proofs.Common.{◌≡◌, ℕ, ◌≤◌, true, List, [], ◌∷◌, Option, Some, None, IfSome, refl, sym, ◌∙◌, subst, arith}
use Rattle.std.specs.List.{AllByRecursion}
use Rattle.std.proofs.lemmas.Bool.Decides.{nat_tests}
use Rattle.sim_link.specs.Medium.{Medium}
use Rattle.sim_link.specs.Medium.TheVariants as Medium
use Rattle.iface_ingress.specs.HardwareAddress.{HardwareAddress}
use Rattle.iface_ingress.specs.HardwareAddress.TheVariants as Hardware
use Rattle.iface_tables.specs.Inner.{InnerValue}
use Rattle.iface_tables.specs.Reassembly.{AssemblerValue, is_free}
use Rattle.iface_tables.specs.declared.key.FragKey.{FragKey}
use Rattle.iface_tables.specs.Settings.{is_of_medium, is_mtu}
use Rattle.iface_tables.specs.declared.neighbor.Neighbor.{Neighbor}
use Rattle.iface_egress.specs.Fragments.{LeftValue}
use Rattle.iface_ingress.specs.Reassembled.{Assemblers}
use Rattle.lan.specs.Worlds.AtLink.Kinds.{other}
use Rattle.lan.specs.Worlds.AtLink.Side.{Side}
use Rattle.lan.specs.Worlds.AtLink.Side.TheVariants.{A, B}
use Rattle.lan.specs.Worlds.AtLink.Parties.{Party, party}
use Rattle.lan.specs.Worlds.AtLink.Initial.{IsHardware, IsInitialStart, IsInitialWorld}
use Rattle.lan.specs.Worlds.AtLink.Runs.{Start, Starts, start, unused, unused_both}
use Rattle.lan.specs.Worlds.AtLink.Node.{node}
use Rattle.lan.specs.Worlds.Moves.Joined.{first_net}
use Rattle.lan.specs.Worlds.Moves.Made.{MadeBy}
use Rattle.lan.specs.Worlds.Link.Made.{Makes}
use Rattle.lan.specs.Worlds.Link.Frames.{Outgoing, medium_on}
use Rattle.lan.specs.Worlds.Link.StoredFragments.{IsAssemblerOf, AreAssemblersOf}
use Rattle.lan.specs.Worlds.Link.Sides.{HasSixBytes, IsNode, IsSound, IsLeft, AreSent}
use Rattle.lan.specs.Worlds.Joins.{Sends, Receives, AreJoined}

-- A HOST

six_by : (h : HardwareAddress) → IsHardware h → HasSixBytes h
six_by (Hardware.Ethernet own) is = is.0
six_by Hardware.Ip is = tt

medium_by : (h : HardwareAddress) (m : Medium) → is_of_medium h m ≡ true → medium_on h ≡ m
medium_by Hardware.Ip Medium.Ip is = refl
medium_by (Hardware.Ethernet own) Medium.Ethernet is = refl
medium_by Hardware.Ip Medium.Ethernet is = absurd cc
medium_by (Hardware.Ethernet own) Medium.Ip is = absurd cc

mtu_by : (n : ℕ) → is_mtu n ≡ true → n ≤ 65535
mtu_by n is = grind (arith, nat_tests)

free_assembler : (out : List Outgoing) (s : AssemblerValue FragKey) (key : Option FragKey) → s.key ≡ key → is_free s ≡ true → IsAssemblerOf out s
free_assembler out s None is free = λ k some. absurd (let e : None ≡ Some k = sym is ∙ some in cc)
free_assembler out s (Some own) is free = absurd cc

free_assemblers : (out : List Outgoing) (assemblers : Assemblers) → AllByRecursion (λ s. is_free s ≡ true) assemblers → AreAssemblersOf out assemblers
free_assemblers out [] free = tt
free_assemblers out (s ∷ assemblers) free = (free_assembler out s s.key refl free.0, free_assemblers out assemblers free.1)

none_left : (h : HardwareAddress) (l : Option LeftValue) → l ≡ None → IfSome l (IsLeft h [])
none_left h None is = tt
none_left h (Some l) is = absurd cc

module _ (s : Start) (initial : IsInitialStart s) where
  abbrev i : InnerValue
  i = s.host.inner

  sound : IsSound i
  sound = record {
    own = six_by i.hardware initial.typed.hardware;
    neighbors = subst (AllByRecursion (λ (n : Neighbor). IsNode n.hardware_addr)) (sym initial.unknown) tt;
    routers = initial.typed.routers;
    widths = record { mtu = mtu_by i.mtu initial.mtu; ident = initial.typed.ident };
    checksums = initial.checksums;
  }

  none_sent : (made : Makes) → AreSent made i.ident i.ident []
  none_sent made = record { packets = λ p among. absurd among; numbered = (refl, initial.typed.ident) }

  initial_sends : (p : Party) → Sends p i.ident (unused s) []
  initial_sends p = record { sound = sound; are_sent = none_sent (MadeBy p); left_is = none_left i.hardware s.host.left initial.idle.0; frames = tt }

  initial_receives : (q : Party) → Receives q [] (unused s)
  initial_receives q = record { checksums = initial.checksums; assemblers_are = free_assemblers [] s.host.assemblers initial.idle.1; waits = tt }

  on_medium : s.capabilities.medium ≡ medium_on i.hardware
  on_medium = sym (medium_by i.hardware s.capabilities.medium initial.medium)

-- BOTH

-- the numbers that the hosts begin with
abbrev pub firsts : Starts → Side → ℕ
firsts starts side = (start starts side).host.inner.ident

abbrev pub none_yet : Side → ℕ
none_yet side = 0

pub first_joined : (starts : Starts) → IsInitialWorld starts → AreJoined (firsts starts) none_yet (unused_both starts) (first_net starts)
first_joined starts initial = record {
  out = λ side. [];
  medium = sym (on_medium starts.a initial.a) ∙ initial.medium ∙ on_medium starts.b initial.b;
  device = λ side. elim side as (λ x. (node (unused_both starts) x).link.capabilities.medium ≡
      medium_on (node (unused_both starts) x).host.inner.hardware) [ A ↦ on_medium starts.a initial.a | B ↦ on_medium starts.b initial.b ];
  sends = λ side. elim side as (λ x. Sends (party (first_net starts) x) (firsts starts x) (node (unused_both starts) x) []) [
    | A ↦ initial_sends starts.a initial.a (party (first_net starts) A)
    | B ↦ initial_sends starts.b initial.b (party (first_net starts) B)
  ];
  receives = λ side. elim side as (λ x. Receives (party (first_net starts) (other x)) [] (node (unused_both starts) x)) [
    | A ↦ initial_receives starts.a initial.a (party (first_net starts) B)
    | B ↦ initial_receives starts.b initial.b (party (first_net starts) A)
  ];
  counted = λ side. omega arith;
}
