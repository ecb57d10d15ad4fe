-- A host without a socket is polled for nothing by a rule that never rests.
use Rattle.std.proofs.Common.{◌≡◌, Bool, true, false, ◌||◌, inl, inr, ◌⊎◌, ℤ, pos, ◌<ℤ◌, List, [], ◌∷◌, Option, Some, None, refl, sym, ap, ◌∙◌, subst, arith}
use Rattle.std.specs.List.{list_any}
use Rattle.net_base.specs.Device.{Move, Empty}
use Rattle.iface_ingress.specs.Socket.{Socket}
use Rattle.iface_tables.specs.Inner.{InnerValue, at_instant}
use Rattle.iface_egress.specs.Fragments.{LeftValue}
use Rattle.iface_egress.specs.declared.socket_set.SocketStorage.{SocketStorage}
use Rattle.interface.specs.Egress.{EgressStep, sending}
use Rattle.interface.specs.Host.{HostValue, maintained}
use Rattle.interface.specs.Ingress.{IngressStep}
use Rattle.interface.specs.Pass.{passed}
use Rattle.interface.specs.Polls.{Polls, begun}
use Rattle.interface.specs.QuietStep.{IsEarlier}
use Rattle.interface.specs.State.{State, state}
use Rattle.interface.proofs.Quieted.{maintained_once}
use Rattle.proof_stack.specs.Progress.Excluded.{Lonely, Rule, IsKeptBy}
use Rattle.proof_stack.specs.Progress.Moves.{AreMoves, is_sent, is_refused}
use Rattle.proof_stack.specs.Progress.OfUse.{Stirs, IsOfUse}

abbrev Nowhere : Type 0
Nowhere = Unit {0}

-- NOTHING STIRS

only_looked : (test : Move → Bool) → ((t : ℤ) → test (Empty t) ≡ false) → (all : List Move) (old new : Nowhere) → AreMoves Lonely all old new →
    list_any test all ≡ false
only_looked test none [] old new are = refl
only_looked test none (m ∷ more) old new are =
    ap (λ (first : Bool). first || list_any test more) (ap test are.1.1 ∙ none are.1.0) ∙ only_looked test none more are.0 new are.2

still : (all : List Move) (old new : Nowhere) → AreMoves Lonely all old new → Stirs all → ⊥
still all old new are (inl sent) = let clash : true ≡ false = sym sent ∙ only_looked is_sent (λ t. refl) all old new are in cc
still all old new are (inr refused) = let clash : true ≡ false = sym refused ∙ only_looked is_refused (λ t. refl) all old new are in cc

-- A POLL

module _ (t : ℤ) (given : HostValue) where
  abbrev idle : HostValue
  idle = record given { left = None; inner = record given.inner { host_requirements = false } }

  abbrev before : State Nowhere
  before = state tt idle []

  abbrev after : State Nowhere
  after = state tt (maintained t idle) []

  looks : IngressStep Lonely t (begun t before) None after
  looks = ((t, refl), ap (λ (h : HostValue). state {D = Nowhere} tt h []) (sym (maintained_once t idle)))

  sends_nothing : EgressStep Lonely t after None after
  sends_nothing = (passed (sending t after) [] false, inr (sending t after, (refl, refl), refl), refl, refl)

  one_poll : Polls Lonely t 1 before false after
  one_poll = (after, false, inl (looks, refl), inl (sends_nothing, refl))

  refuses : (rule : Rule) (m : ℤ) → rule (at_instant t idle.inner) None [] ≡ Some m → (t <ℤ m → ⊥) → IsKeptBy rule → ⊥
  refuses rule m is late law =
      let use_of : IsOfUse Lonely t tt tt (rule (at_instant t idle.inner) None []) = law t 1 before after (omega arith) tt one_poll in
      by use_of.all use_of.are use_of.why
    where
      by : (all : List Move) → AreMoves Lonely all tt tt → Stirs all ⊎ IsEarlier t (rule (at_instant t idle.inner) None []) → ⊥
      by all are (inl stirs) = still all tt tt are stirs
      by all are (inr later) = late (subst (λ (o : Option ℤ). IsEarlier t o) is later)

abbrev Slots : Type 0
Slots = List (SocketStorage Socket)

not_before : (t : ℤ) → t <ℤ t → ⊥
not_before t is = grind (arith)

pub always_now : (rule : Rule) (h : HostValue) → ((i : InnerValue) (left : Option LeftValue) (slots : Slots) → rule i left slots ≡ Some (pos 0))
    → IsKeptBy rule → ⊥
always_now rule h is law = refuses (pos 0) h rule (pos 0) (is (at_instant (pos 0) (record h.inner { host_requirements = false })) None []) (not_before (pos 0)) law

pub as_polled : (rule : Rule) (h : HostValue) → ((i : InnerValue) (left : Option LeftValue) (slots : Slots) → rule i left slots ≡ Some i.instant)
    → IsKeptBy rule → ⊥
as_polled rule h is law = refuses (pos 0) h rule (pos 0) (is (at_instant (pos 0) (record h.inner { host_requirements = false })) None []) (not_before (pos 0)) law
