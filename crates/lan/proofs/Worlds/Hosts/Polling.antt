-- What a poll leaves of a host.
use Rattle.std.proofs.Common.{◌≡◌, ℕ, ◌-◌, ℤ, Bool, false, List, ◌++◌, length, sym, ap, ◌∙◌, subst}
use Rattle.interface.specs.State.{State}
use Rattle.iface_egress.specs.Departing.{HasSettingsOf}
use Rattle.interface.proofs.Kept.{IsCounted}
use Rattle.interface.specs.Touches.{Touch, departed, Silences, SilencesIf}
use Rattle.interface.proofs.Count.{polls_count}
use Rattle.interface.proofs.Hosts.{settings_so}
use Rattle.interface.proofs.Trace.{one_silence, polls_traced}
use Rattle.lan.specs.Worlds.AtLink.Port.{LinkEnd, PortValue, PortMove}
use Rattle.lan.specs.Worlds.AtLink.Node.{NodeValue, at_port}
use Rattle.lan.specs.Worlds.AtLink.Steps.{PollsAt}
use Rattle.lan.specs.Worlds.Hosts.Machine.{frames_of}
use Rattle.lan.proofs.Worlds.Hosts.Paths.{looked, path_of}

pub record IsPolled (s : NodeValue) (instant : ℤ) (s' : NodeValue) : Type 0 where
  pub touches : List Touch
  pub waiting : s.link.waiting ≡ looked touches ++ s'.link.waiting
  pub sent : s'.link.sent ≡ s.link.sent ++ frames_of s.host.inner (departed touches)
  pub room : s'.link.room ≡ s.link.room - length (departed touches)
  pub capabilities : s'.link.capabilities ≡ s.link.capabilities
  pub silent : s.host.inner.host_requirements ≡ false → Silences instant (departed touches) s.host.inner.neighbors.silent s'.host.inner.neighbors.silent
  pub settings : HasSettingsOf s.host.inner s'.host.inner
  pub now : s'.host.inner.instant ≡ instant
  pub slots : length s'.slots ≡ length s.slots

-- nothing is counted
abbrev Nothing : ℕ → State PortValue → Type 0
Nothing n s = Unit {0}

nothing : (t : ℤ) → IsCounted PortMove t Nothing
nothing t = record {
  more = λ n m s up so. tt;
  maintenance = λ n s so. tt;
  arrivals = λ n s s' answer runs so takes. tt;
  fragments = λ n h ps x x' l gone runs is so leaves same. tt;
  parked = λ n h ps x x' all runs many so serves. tt;
  turns = λ turn n h before after p p' x x' turned runs so turns. tt;
}

pub polled : (s s' : NodeValue) (instant : ℤ) (budget : ℕ) (changed : Bool) → PollsAt s instant budget changed s' → IsPolled s instant s'
polled s s' instant budget changed at =
    let traced = polls_traced PortMove instant budget (at_port at.port s) (at_port at.port_after s') changed at.polls in
    let path = path_of s.host.inner instant traced.touches at.port at.port_after traced.path in
    let counted = polls_count PortMove instant Nothing (nothing instant) budget 0 (at_port at.port s) (at_port at.port_after s') changed tt at.polls in
    record {
      touches = traced.touches;
      waiting =
          sym (ap (λ (x : LinkEnd). x.waiting) at.before) ∙ path.waiting
          ∙ ap (λ (x : LinkEnd). looked traced.touches ++ x.waiting) at.after;
      sent =
          sym (ap (λ (x : LinkEnd). x.sent) at.after) ∙ path.sent
          ∙ ap (λ (x : LinkEnd). x.sent ++ frames_of s.host.inner (departed traced.touches)) at.before;
      room =
          sym (ap (λ (x : LinkEnd). x.room) at.after) ∙ path.room
          ∙ ap (λ (x : LinkEnd). x.room - length (departed traced.touches)) at.before;
      capabilities = sym (ap (λ (x : LinkEnd). x.capabilities) at.after) ∙ path.capabilities ∙ ap (λ (x : LinkEnd). x.capabilities) at.before;
      silent = λ alone. one_silence instant (departed traced.touches) s.host.inner.neighbors.silent s'.host.inner.neighbors.silent
          (subst (λ (many : Bool). SilencesIf many instant (departed traced.touches) s.host.inner.neighbors.silent s'.host.inner.neighbors.silent) alone traced.silence);
      settings = settings_so PortMove instant budget (at_port at.port s) (at_port at.port_after s') changed at.polls;
      now = counted.1.0;
      slots = counted.2;
    }
