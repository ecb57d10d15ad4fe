-- Which version a host tells in (RFC 3376, section 7.2.1; RFC 3810, section 8.2.1): the oldest of which a query came within
-- 260 seconds.
use Rattle.std.specs.Prelude.{ℕ, ◌+◌, nat_lt, if◌then◌else◌}
use Rattle.iface_groups.specs.declared.querier.Querier.{Querier}
use Rattle.iface_groups.specs.declared.mode.CompatibilityMode.{CompatibilityMode}
use Rattle.iface_groups.specs.declared.mode.CompatibilityMode.TheVariants as Mode

abbrev pub mode_at : ℕ → Querier → CompatibilityMode
mode_at now q =
    if nat_lt now q.igmpv1_until then Mode.Igmpv1
    else (if nat_lt now q.igmpv2_until then Mode.Igmpv2
    else Mode.Igmpv3)

-- after a query of this version
abbrev pub heard_query : CompatibilityMode → ℕ → Querier → Querier
heard_query Mode.Igmpv1 now q = record q { igmpv1_until = now + 260_000_000 }
heard_query Mode.Igmpv2 now q = record q { igmpv2_until = now + 260_000_000 }
heard_query Mode.Igmpv3 now q = q
