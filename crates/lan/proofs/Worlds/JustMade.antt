-- A world that was just made.
use Rattle.std.proofs.Common.{◌≡◌, ℕ, Bool, true, false, not, ◌&&◌, List, [], ◌∷◌, length, replicate, None, refl, ◌∙◌, ap}
use Rattle.std.proofs.lemmas.Bool.{false≢true, and_parts, eqb-true}
use Rattle.ip_wire.specs.HardwareAddress.{HardwareAddress}
use Rattle.ip_wire.specs.HardwareAddress.TheVariants as Hardware
use Rattle.net_base.specs.Capabilities.{ip_mtu}
use Rattle.net_base.specs.Medium.{Medium}
use Rattle.net_base.specs.Medium.TheVariants as Medium
use Rattle.interface.specs.Made.{IsIdle}
use Rattle.iface_tables.specs.Settings.{is_of_medium}
use Rattle.lan.specs.Worlds.AtLink.Tables.{no_record}
use Rattle.lan.specs.declared.at_link.history.event.Side.{Side}
use Rattle.lan.specs.declared.at_link.history.event.Side.TheVariants.{A, B}
use Rattle.lan.specs.Worlds.AtLink.Port.{LinkEnd}
use Rattle.lan.specs.Worlds.AtLink.Initial.{IsTypedHost, IsInitialStart}
use Rattle.lan.specs.Worlds.AtLink.Runs.{unused, unused_both, table_in}
use Rattle.lan.specs.Worlds.AtLink.Node.{NodeValue}
use Rattle.lan.specs.Worlds.Provenance.{start_of, starts_of, both, tables, HasCome}
use Rattle.lan.specs.Worlds.New.{has_one_medium, has_checksums, has_mtu, has_buffers, of_each, is_unused, is_fresh, first_error, new_error}
use Rattle.lan.specs.declared.error.WorldError.TheVariants as Since
use Rattle.lan.proofs.Worlds.Unused.{empty, on_is, unused_at}

-- FIVE TESTS

record Passes (m c u r f : Bool) : Type 0 where
  medium : m ≡ true
  checksums : c ≡ true
  mtus : u ≡ true
  rooms : r ≡ true
  initial : f ≡ true

five : (m c u r f : Bool)
    → first_error ((not m, Since.Media) ∷ (not c, Since.Checksums) ∷ (not u, Since.Mtu) ∷ (not r, Since.Buffers) ∷ (not f, Since.NotFresh) ∷ []) ≡ None
    → Passes m c u r f
five true true true true true h = record { medium = refl; checksums = refl; mtus = refl; rooms = refl; initial = refl }
five false c u r f h = cc
five true false u r f h = cc
five true true false r f h = cc
five true true true false f h = cc
five true true true true false h = cc

-- one hardware address is of one medium
same_medium : (h : HardwareAddress) (m n : Medium) → is_of_medium h m ≡ true → is_of_medium h n ≡ true → m ≡ n
same_medium h Medium.Ethernet Medium.Ethernet p q = refl
same_medium h Medium.Ip Medium.Ip p q = refl
same_medium Hardware.Ip Medium.Ethernet Medium.Ip p q = absurd (false≢true p)
same_medium (Hardware.Ethernet a) Medium.Ethernet Medium.Ip p q = absurd (false≢true q)
same_medium Hardware.Ip Medium.Ip Medium.Ethernet p q = absurd (false≢true q)
same_medium (Hardware.Ethernet a) Medium.Ip Medium.Ethernet p q = absurd (false≢true p)

-- A HOST

no_true : (b : Bool) → not b ≡ true → b ≡ false
no_true false h = refl
no_true true h = cc

module _ (s : NodeValue) (initial : is_fresh s ≡ true) where
  sockets : of_each is_unused s ≡ true
  sockets = (and_parts _ _ (and_parts _ _ initial).0).1

  alone : s.host.inner.host_requirements ≡ false
  alone = no_true s.host.inner.host_requirements (and_parts _ _ initial).1

  parts : (s.host.inner.initial ≡ true) × (s.link.sent ≡ []) × (s.link.waiting ≡ [])
  parts =
      let p = and_parts _ _ (and_parts _ _ initial).0 in
      let q = and_parts _ _ p.0 in
      let r = and_parts _ _ q.0 in
      (r.0, empty s.link.sent r.1, empty s.link.waiting q.1)

  pub unused_is : s ≡ unused (start_of s)
  unused_is =
      let end : List (List ℕ) → List (List ℕ) → LinkEnd =
      λ waiting sent. record { waiting = waiting; sent = sent; room = s.link.room; refusals = s.link.refusals; capabilities = s.link.capabilities } in
      let link : s.link ≡ end [] [] = ap (λ (frames : List (List ℕ)). end frames s.link.sent) parts.2 ∙
      ap (λ (frames : List (List ℕ)). end [] frames) parts.1 in
      ap (λ (l : LinkEnd). let t : NodeValue = record { host = s.host; slots = s.slots; link = l } in t) link

  pub table_is : (side : Side) → table_in [] side s ≡ record { records = replicate (length s.slots) no_record; numbered = 0 }
  table_is side = rw parts.1 refl

  pub start_is : is_of_medium s.host.inner.hardware s.link.capabilities.medium ≡ true → has_checksums s ≡ true → has_mtu s ≡ true →
      IsIdle s.host.left s.host.assemblers
      → s.host.inner.neighbors.entries ≡ [] → IsTypedHost s.host.inner → IsInitialStart (start_of s)
  start_is medium checksums mtu idle unknown typed =
      let c = and_parts _ _ checksums in
      let m = and_parts _ _ mtu in
      let own : s.host.inner.mtu ≡ ip_mtu s.link.capabilities = eqb-true s.host.inner.mtu (ip_mtu s.link.capabilities) m.1 in
      record {
        medium = medium;
        checksums = on_is s.host.inner.checksums c.1;
        device_checksums = on_is s.link.capabilities.checksum c.0;
        mtu = rw own m.0;
        own_mtu = own;
        initial = parts.0;
        alone = alone;
        idle = idle;
        unknown = unknown;
        typed = typed;
        sockets = λ i socket is. unused_at s.slots i socket sockets is;
      }

-- BOTH

module _ (a b : NodeValue) (none : new_error a b ≡ None) where
  passes : Passes (has_one_medium a b) (has_checksums a && has_checksums b) (has_mtu a && has_mtu b) (of_each has_buffers a && of_each has_buffers b)
      (is_fresh a && is_fresh b)
  passes = five _ _ _ _ _ none

  initial_a : is_fresh a ≡ true
  initial_a = (and_parts _ _ passes.initial).0

  initial_b : is_fresh b ≡ true
  initial_b = (and_parts _ _ passes.initial).1

  pub begun : IsIdle a.host.left a.host.assemblers → IsIdle b.host.left b.host.assemblers → a.host.inner.neighbors.entries ≡ [] → b.host.inner.neighbors.entries ≡ [] →
      IsTypedHost a.host.inner → IsTypedHost b.host.inner
      → HasCome a b a b (record { records = replicate (length a.slots) no_record; numbered = 0 })
      (record { records = replicate (length b.slots) no_record; numbered = 0 }) []
  begun idle_a idle_b unknown_a unknown_b typed_a typed_b =
      let m = and_parts _ _ passes.medium in
      let n = and_parts _ _ m.0 in
      let c = and_parts _ _ passes.checksums in
      let u = and_parts _ _ passes.mtus in
      let start_a : IsInitialStart (start_of a) = start_is a initial_a n.0 c.0 u.0 idle_a unknown_a typed_a in
      let start_b : IsInitialStart (start_of b) = start_is b initial_b m.1 c.1 u.1 idle_b unknown_b typed_b in
      let of_both : (x y : NodeValue) → x ≡ unused (start_of a) → y ≡ unused (start_of b) → both x y ≡ unused_both (starts_of a b) =
      λ x y p q. rw (p, q) refl in
      record {
        initial = record { a = start_a; b = start_b; medium = same_medium a.host.inner.hardware a.link.capabilities.medium b.link.capabilities.medium n.0 n.1 };
        run = of_both a b (unused_is a initial_a) (unused_is b initial_b);
        tables = rw (table_is a initial_a A, table_is b initial_b B) refl;
        typed = tt;
        alone = (alone a initial_a, alone b initial_b);
      }
