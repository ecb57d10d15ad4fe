-- What a host does is a turn of its machine, and goes on from what it was.
use Rattle.std.proofs.Common.{◌≡◌, ◌≤ℤ◌, ℕ, ◌-◌, ℤ, pos, Bool, true, false, not, ◌||◌, ◌&&◌, int_lt, List, [], ◌∷◌, ◌++◌, length, Option, Some, None, refl, sym}
use Rattle.std.proofs.Common.{ap, ◌∙◌, subst, append-nil, arith}
use Rattle.iface_egress.specs.Departure.{Departure}
use Rattle.interface.specs.Touches.{departed, Silences}
use Rattle.iface_tables.specs.Settings.{is_moment}
use Rattle.lan.specs.Worlds.AtLink.Kinds.{Act}
use Rattle.lan.specs.Worlds.AtLink.Kinds.Act.{Calls, Sets, Opens, Asks, Polls}
use Rattle.lan.specs.Worlds.AtLink.Kinds.Kind.{OfHost}
use Rattle.lan.specs.Worlds.AtLink.Tables.{first_refusal}
use Rattle.lan.specs.Worlds.AtLink.Answer.{Answer}
use Rattle.lan.specs.Worlds.AtLink.Refused.{Refused}
use Rattle.lan.specs.Worlds.AtLink.Side.{Side}
use Rattle.lan.specs.Worlds.AtLink.Port.{LinkEnd}
use Rattle.lan.specs.Worlds.AtLink.Refusals.{Table, Tables, act_tests, is_too_early, may_run_out, refusal}
use Rattle.lan.specs.Worlds.AtLink.Node.{NodeValue, Nodes, node}
use Rattle.lan.specs.Worlds.AtLink.Steps.{Acts}
use Rattle.tcp_block.specs.State.{State}
use Rattle.lan.specs.Worlds.Hosts.Proceeds.{Proceeds, has_addresses}
use Rattle.lan.specs.Worlds.Hosts.Machine.{Turn, HostStep, machine_of, frames_of, instant_of, room_following}
use Rattle.lan.proofs.Worlds.Hosts.Calling.{IsQuietAct, call_quiet, setting_quiet}
use Rattle.lan.proofs.Worlds.Hosts.Paths.{looked}
use Rattle.lan.proofs.Worlds.Hosts.Polling.{IsPolled, polled}

-- TURNS

pub record IsTurn (s : NodeValue) (act : Act) (s' : NodeValue) : Type 0 where
  pub taken : List (List ℕ)
  pub departures : List Departure
  pub waiting : s.link.waiting ≡ taken ++ s'.link.waiting
  pub sent : s'.link.sent ≡ s.link.sent ++ frames_of s.host.inner departures
  pub room : s'.link.room ≡ room_following act s.link.room (length departures)
  pub silent : Silences (instant_of act) departures s.host.inner.neighbors.silent s'.host.inner.neighbors.silent
  pub device : s'.link.capabilities ≡ s.link.capabilities

no_less : (a : ℕ) → a ≡ a - 0
no_less a = omega arith

quiet_turn : (s s' : NodeValue) (act : Act) → ((n : ℕ) → room_following act n 0 ≡ n - 0) → IsQuietAct s s' → IsTurn s act s'
quiet_turn s s' act room quiet = record {
  taken = [];
  departures = [];
  waiting = sym (ap (λ (x : LinkEnd). x.waiting) quiet.link);
  sent = ap (λ (x : LinkEnd). x.sent) quiet.link ∙ sym (append-nil s.link.sent);
  room = ap (λ (x : LinkEnd). x.room) quiet.link ∙ no_less s.link.room ∙ sym (room s.link.room);
  silent = quiet.clock.silent;
  device = ap (λ (x : LinkEnd). x.capabilities) quiet.link;
}

polled_turn : (s s' : NodeValue) (instant : ℤ) (budget : ℕ) → s.host.inner.host_requirements ≡ false → IsPolled s instant s' → IsTurn s (Polls instant budget) s'
polled_turn s s' instant budget alone p =
    record {
      taken = looked p.touches;
      departures = departed p.touches;
      waiting = p.waiting;
      sent = p.sent;
      room = p.room;
      silent = p.silent alone;
      device =
          p.capabilities;
    }

pub is_turn : (s s' : NodeValue) (act : Act) (answer : Answer) (found : Option State) → s.host.inner.host_requirements ≡ false → Acts s act answer found s' →
    IsTurn s act s'
is_turn s s' (Calls i call) answer found alone acts = quiet_turn s s' (Calls i call) (λ n. refl) (call_quiet s s' i call answer found acts)
is_turn s s' (Sets setting) answer found alone acts = quiet_turn s s' (Sets setting) (λ n. refl) (setting_quiet s s' setting answer acts.0)
is_turn s s' (Opens n) answer found alone acts =
    let is = acts.2 in
    record {
      taken = [];
      departures = [];
      waiting = sym (ap (λ (x : NodeValue). x.link.waiting) is);
      sent = ap (λ (x : NodeValue). x.link.sent) is ∙ sym (append-nil s.link.sent);
      room = ap (λ (x : NodeValue). x.link.room) is;
      silent = ap (λ (x : NodeValue). x.host.inner.neighbors.silent) is;
      device = ap (λ (x : NodeValue). x.link.capabilities) is;
    }
is_turn s s' (Asks instant) answer found alone acts =
    let is = acts.2 in
    record {
      taken = [];
      departures = [];
      waiting = sym (ap (λ (x : NodeValue). x.link.waiting) is);
      sent = ap (λ (x : NodeValue). x.link.sent) is ∙ sym (append-nil s.link.sent);
      room = ap (λ (x : NodeValue). x.link.room) is ∙ no_less s.link.room;
      silent = ap (λ (x : NodeValue). x.host.inner.neighbors.silent) is;
      device = ap (λ (x : NodeValue). x.link.capabilities) is;
    }
is_turn s s' (Polls instant budget) answer found alone acts = polled_turn s s' instant budget alone (polled s s' instant budget acts.0 acts.1)

abbrev pub turn_of : (s s' : NodeValue) (act : Act) (answer : Answer) (found : Option State) → IsTurn s act s' → Turn
turn_of s s' act answer found t = record {
  act = act;
  room = s.link.room;
  taken = t.taken;
  answer = answer;
  found = found;
  departures = t.departures;
  sent = frames_of s.host.inner t.departures;
}

pub step_of : (s s' : NodeValue) (act : Act) (answer : Answer) (found : Option State) (t : IsTurn s act s') → s.host.inner.host_requirements ≡ false →
    Acts s act answer found s' → HostStep (machine_of s) (turn_of s s' act answer found t) (machine_of s')
step_of s s' act answer found t alone acts = record {
  alone = alone;
  link = s.link;
  link_after = s'.link;
  device = refl;
  device_after = t.device;
  stays = t.device;
  acts = acts;
  room = refl;
  takes = t.waiting;
  joins = t.sent;
  sends = refl;
  asks = t.silent;
}

-- TIME

-- a question and a poll come no earlier than the host's last
abbrev pub IsInTime : NodeValue → Act → Type 0
IsInTime s (Calls i call) = Unit {0}
IsInTime s (Sets setting) = Unit {0}
IsInTime s (Opens n) = Unit {0}
IsInTime s (Asks instant) = (s.host.inner.instant ≤ℤ instant) × (pos 0 ≤ℤ instant)
IsInTime s (Polls instant budget) = (s.host.inner.instant ≤ℤ instant) × (pos 0 ≤ℤ instant)

pub not_refused : (b : Bool) (r : Refused) (rest : List (Bool × Refused)) → first_refusal ((b, r) ∷ rest) ≡ None → (b ≡ false) × (first_refusal rest ≡ None)
not_refused true r rest is = absurd (let no : Some r ≡ None = is in cc)
not_refused false r rest is = (refl, is)

pub neither : (a b : Bool) → (a || b) ≡ false → (a ≡ false) × (b ≡ false)
neither true b off = absurd (cc)
neither false b off = (refl, off)

pub both_on : (a b : Bool) → (a && b) ≡ true → (a ≡ true) × (b ≡ true)
both_on true b on = (refl, on)
both_on false b on = absurd (cc)

pub not_off : (a : Bool) → not a ≡ false → a ≡ true
not_off true is = refl
not_off false is = absurd (cc)

pub not_on : (a : Bool) → not a ≡ true → a ≡ false
not_on true is = absurd (cc)
not_on false is = refl

pub not_less : (a b : ℤ) → int_lt a b ≡ false → b ≤ℤ a
not_less a b is = grind (arith)

not_early : (s : NodeValue) (instant : ℤ) → is_too_early s instant ≡ false → (s.host.inner.instant ≤ℤ instant) × (pos 0 ≤ℤ instant)
not_early s instant is =
    let two = neither (not (is_moment instant)) (int_lt instant s.host.inner.instant) is in
    let low = both_on (not (int_lt instant (pos 0))) (not (int_lt (pos Rattle.wire_tcp.specs.Time.last_instant) instant)) (not_off (is_moment instant) two.0) in
    (not_less instant s.host.inner.instant two.1, not_less instant (pos 0) (not_on (int_lt instant (pos 0)) low.0))

act_in_time : (s : NodeValue) (t : Table) (act : Act) → first_refusal (act_tests s t act) ≡ None → IsInTime s act
act_in_time s t (Calls i call) is = tt
act_in_time s t (Sets setting) is = tt
act_in_time s t (Opens n) is = tt
act_in_time s t (Asks instant) is =
    not_early s instant (not_refused (is_too_early s instant) Rattle.lan.specs.Worlds.AtLink.Refused.TheVariants.Moment [] is).0
act_in_time s t (Polls instant budget) is =
    let first = not_refused (may_run_out s t budget) Rattle.lan.specs.Worlds.AtLink.Refused.TheVariants.TooManyCut
    ((is_too_early s instant, Rattle.lan.specs.Worlds.AtLink.Refused.TheVariants.Moment) ∷ []) is in
    not_early s instant (not_refused (is_too_early s instant) Rattle.lan.specs.Worlds.AtLink.Refused.TheVariants.Moment [] first.1).0

pub in_time : (hosts : Nodes) (tables : Tables) (side : Side) (act : Act) → refusal hosts tables (OfHost side act) ≡ None → IsInTime (node hosts side) act
in_time hosts tables side act is = act_in_time (node hosts side) (Rattle.lan.specs.Worlds.AtLink.Refusals.table tables side) act is

-- GOING ON

same_instant : (a b : ℤ) → b ≡ a → a ≤ℤ b
same_instant a b is = subst (λ (x : ℤ). a ≤ℤ x) (sym is) (grind (arith))

later_instant : (a t b : ℤ) → b ≡ t → a ≤ℤ t → a ≤ℤ b
later_instant a t b is up = subst (λ (x : ℤ). a ≤ℤ x) (sym is) up

quiet_proceeds : (s s' : NodeValue) → IsQuietAct s s' → Proceeds s s'
quiet_proceeds s s' quiet = record {
  more = [];
  sent = ap (λ (x : LinkEnd). x.sent) quiet.link ∙ sym (append-nil s.link.sent);
  capabilities = ap (λ (x : LinkEnd). x.capabilities) quiet.link;
  mtu = quiet.clock.mtu;
  checksums = quiet.clock.checksums;
  medium = quiet.clock.medium;
  instant = same_instant s.host.inner.instant s'.host.inner.instant quiet.clock.instant;
  slots = quiet.slots;
}

pub acts_proceed : (s s' : NodeValue) (act : Act) (answer : Answer) (found : Option State) → Acts s act answer found s' → IsInTime s act → Proceeds s s'
acts_proceed s s' (Calls i call) answer found acts time = quiet_proceeds s s' (call_quiet s s' i call answer found acts)
acts_proceed s s' (Sets setting) answer found acts time = quiet_proceeds s s' (setting_quiet s s' setting answer acts.0)
acts_proceed s s' (Opens n) answer found acts time =
    let is = acts.2 in
    record {
      more = [];
      sent = ap (λ (x : NodeValue). x.link.sent) is ∙ sym (append-nil s.link.sent);
      capabilities = ap (λ (x : NodeValue). x.link.capabilities) is;
      mtu = ap (λ (x : NodeValue). x.host.inner.mtu) is;
      checksums = ap (λ (x : NodeValue). x.host.inner.checksums) is;
      medium = ap (λ (x : NodeValue). has_addresses x.host.inner.hardware) is;
      instant = same_instant s.host.inner.instant s'.host.inner.instant (ap (λ (x : NodeValue). x.host.inner.instant) is);
      slots = ap (λ (x : NodeValue). length x.slots) is;
    }
acts_proceed s s' (Asks instant) answer found acts time =
    let is = acts.2 in
    record {
      more = [];
      sent = ap (λ (x : NodeValue). x.link.sent) is ∙ sym (append-nil s.link.sent);
      capabilities = ap (λ (x : NodeValue). x.link.capabilities) is;
      mtu = ap (λ (x : NodeValue). x.host.inner.mtu) is;
      checksums = ap (λ (x : NodeValue). x.host.inner.checksums) is;
      medium = ap (λ (x : NodeValue). has_addresses x.host.inner.hardware) is;
      instant = later_instant s.host.inner.instant instant s'.host.inner.instant (ap (λ (x : NodeValue). x.host.inner.instant) is) time.0;
      slots = ap (λ (x : NodeValue). length x.slots) is;
    }
acts_proceed s s' (Polls instant budget) answer found acts time =
    let p = polled s s' instant budget acts.0 acts.1 in
    record {
      more = frames_of s.host.inner (departed p.touches);
      sent = p.sent;
      capabilities = p.capabilities;
      mtu = p.settings.mtu;
      checksums = p.settings.checksums;
      medium = ap has_addresses p.settings.hardware;
      instant = later_instant s.host.inner.instant instant s'.host.inner.instant p.now time.0;
      slots = p.slots;
    }
