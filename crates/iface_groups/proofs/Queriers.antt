-- In which version a host tells.
use Rattle.std.proofs.Common.{◌≡◌, ℕ, ◌+◌, ◌<◌, ◌≤◌, Bool, true, false, nat_lt, refl, arith}
use Rattle.std.proofs.lemmas.Bool.{lt-ltb, le-ltb}
use Rattle.iface_groups.specs.Querier.{mode_at, heard_query}
use Rattle.iface_groups.specs.declared.querier.Querier.{Querier}
use Rattle.iface_groups.specs.declared.mode.CompatibilityMode.TheVariants as Mode

pub first_counts : (now later : ℕ) (q : Querier) → later < now + 260_000_000 → mode_at later (heard_query Mode.Igmpv1 now q) ≡ Mode.Igmpv1
first_counts now later q before = rw (lt-ltb later (now + 260_000_000) before) refl

pub second_counts : (now later : ℕ) (q : Querier) → q.igmpv1_until ≤ later → later < now + 260_000_000 →
    mode_at later (heard_query Mode.Igmpv2 now q) ≡ Mode.Igmpv2
second_counts now later q over before = rw (le-ltb later q.igmpv1_until over) (rw (lt-ltb later (now + 260_000_000) before) refl)

pub none_counts : (later : ℕ) (q : Querier) → q.igmpv1_until ≤ later → q.igmpv2_until ≤ later → mode_at later q ≡ Mode.Igmpv3
none_counts later q first second = rw (le-ltb later q.igmpv1_until first) (rw (le-ltb later q.igmpv2_until second) refl)
