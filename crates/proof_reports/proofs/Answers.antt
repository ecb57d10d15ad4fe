-- Queries.
use Rattle.std.proofs.Common.{◌≡◌, ℕ, zero, suc, ◌+◌, ◌<◌, ◌≤◌, ◌%◌, Bool, true, false, List, length, Option, Some, None, refl, ◌∙◌, ap, arith, inl, inr}
use Rattle.std.proofs.lemmas.Bool.{ne_eqb}
use Rattle.std.proofs.Math.Nat.{mod-lt}
use Rattle.std.specs.Prelude.{◌==◌, ◌&&◌, ◌||◌, not, nat_le, slice_index}
use Rattle.std.specs.Str.{bytes_eq}
use Rattle.net_base.specs.Capabilities.{verifies}
use Rattle.ip_wire.specs.AddressTests.{is_link_local, is_multicast_v6, is_unspecified_v6}
use Rattle.ip_wire.specs.IpAddress.{IpAddress}
use Rattle.ip_wire.specs.IpAddress.TheVariants as Ip
use Rattle.ip_wire.specs.Ipv6Address.{Ipv6Address}
use Rattle.iface_groups.specs.Counts.{all_nodes, counts_v6}
use Rattle.iface_groups.specs.Member.{due_at, queried, IsDueBy}
use Rattle.iface_groups.specs.Query.{answer_at}
use Rattle.iface_groups.specs.declared.mode.CompatibilityMode.{CompatibilityMode}
use Rattle.iface_groups.specs.declared.table.Row.{Row}
use Rattle.iface_groups.proofs.Members.{bool_is, answered_by}
use Rattle.iface_tables.specs.Inner.{InnerValue}
use Rattle.iface_reports.specs.Heard.{is_own, v6_at, is_summed, mld_version, mld_query, mld_report, mld_said, mld_heard}
use Rattle.iface_reports.specs.Reports.{is_asked, word_for, answered_row}

suc_not : (n : ℕ) → (suc n == 0) ≡ false
suc_not n = ne_eqb (suc n) 0 (λ e. absurd (omega (arith, e)))

in_time : (now longest drawn : ℕ) → answer_at now longest drawn ≤ now + longest
in_time now zero drawn = omega arith
in_time now (suc n) drawn =
    let less : drawn % suc n < suc n = mod-lt drawn (omega arith) in
    rw (suc_not n) (omega (arith, less))

due_later : (one other : ℕ) (due : Option ℕ) → one ≤ other → IsDueBy one due → IsDueBy other due
due_later one other None le by = by
due_later one other (Some at) le by = omega (arith, le, by)

pub answered_in_time : (mode : CompatibilityMode) (now longest drawn : ℕ) (group : IpAddress) (row : Row) → row.member.listens ≡ true
    → is_asked group row.group ≡ true → IsDueBy (now + longest) (due_at (answered_row mode now longest drawn group row).member)
answered_in_time mode now longest drawn group row listens asked =
    let at : ℕ = answer_at now longest (word_for mode drawn row.group) in
    let due = due_later at (now + longest) (due_at (queried at row.member)) (in_time now longest (word_for mode drawn row.group)) (answered_by at row.member listens) in
    rw asked due

pub others_unasked : (mode : CompatibilityMode) (now longest drawn : ℕ) (group : IpAddress) (row : Row) → is_asked group row.group ≡ false
    → answered_row mode now longest drawn group row ≡ row
others_unasked mode now longest drawn group row miss = rw miss refl

-- MLD that may have come from another link

nothing_of : (a c : Bool) → (a && false && c) ≡ false
nothing_of true c = refl
nothing_of false c = refl

nothing_counted : (a c : Bool) → ((a && false) && c) ≡ false
nothing_counted true c = refl
nothing_counted false c = refl

not_counted : (source destination group : Ipv6Address) (hop_limit : ℕ) (alert own_source own_destination : Bool) → ((hop_limit == 1) && alert) ≡ false
    → counts_v6 source destination group hop_limit alert own_source own_destination ≡ false
not_counted source destination group hop_limit alert own_source own_destination far =
    ap (λ (b : Bool). ((not own_source && is_link_local source) && b)
    && ((own_destination || bytes_eq destination.0 all_nodes) || (not (is_unspecified_v6 group) && bytes_eq destination.0 group.0))) far
    ∙ nothing_counted (not own_source && is_link_local source)
    ((own_destination || bytes_eq destination.0 all_nodes) || (not (is_unspecified_v6 group) && bytes_eq destination.0 group.0))

query_far : (i : InnerValue) (source destination : Ipv6Address) (hop_limit : ℕ) (alert : Bool) (message : List ℕ) (version : Option CompatibilityMode)
    → ((hop_limit == 1) && alert) ≡ false → mld_query i source destination hop_limit alert message version ≡ None
query_far i source destination hop_limit alert message None far = refl
query_far i source destination hop_limit alert message (Some version) far =
    rw (not_counted source destination (v6_at message 8) hop_limit alert (is_own i (Ip.Ipv6 source)) (is_own i (Ip.Ipv6 destination)) far) refl

report_far : (i : InnerValue) (source destination : Ipv6Address) (hop_limit : ℕ) (alert : Bool) (group : Ipv6Address)
    → ((hop_limit == 1) && alert) ≡ false → mld_report i source destination hop_limit alert group ≡ None
report_far i source destination hop_limit alert group far =
    let no : ((not (is_own i (Ip.Ipv6 source)) && is_link_local source) && (hop_limit == 1 && alert) && (bytes_eq destination.0 group.0 && is_multicast_v6 group)) ≡ false =
    ap (λ (b : Bool). (not (is_own i (Ip.Ipv6 source)) && is_link_local source) && b && (bytes_eq destination.0 group.0 && is_multicast_v6 group)) far
    ∙ nothing_of (not (is_own i (Ip.Ipv6 source)) && is_link_local source) (bytes_eq destination.0 group.0 && is_multicast_v6 group) in
    rw no refl

said_far : (i : InnerValue) (source destination : Ipv6Address) (hop_limit : ℕ) (alert : Bool) (message : List ℕ)
    → ((hop_limit == 1) && alert) ≡ false → mld_said i source destination hop_limit alert message ≡ None
said_far i source destination hop_limit alert message far =
    elim (bool_is (slice_index message 0 == 130)) [
      | inl hit ↦ rw hit (query_far i source destination hop_limit alert message (mld_version message) far)
      | inr miss ↦ rw miss (elim (bool_is (slice_index message 0 == 131)) [
        | inl hit ↦ rw hit (report_far i source destination hop_limit alert (v6_at message 8) far)
        | inr other ↦ rw other refl
      ])
    ]

pub far_is_dropped : (i : InnerValue) (source destination : Ipv6Address) (hop_limit : ℕ) (alert : Bool) (message : List ℕ)
    → ((hop_limit == 1) && alert) ≡ false → mld_heard i source destination hop_limit alert message ≡ None
far_is_dropped i source destination hop_limit alert message far =
    elim (bool_is (nat_le 24 (length message) && (not (verifies i.checksums.icmpv6) || is_summed source destination message))) [
      | inl hit ↦ rw hit (said_far i source destination hop_limit alert message far)
      | inr miss ↦ rw miss refl
    ]

unalerted : (b : Bool) → (b && false) ≡ false
unalerted true = refl
unalerted false = refl

pub another_hop : (i : InnerValue) (source destination : Ipv6Address) (hop_limit : ℕ) (alert : Bool) (message : List ℕ) → (hop_limit == 1) ≡ false
    → mld_heard i source destination hop_limit alert message ≡ None
another_hop i source destination hop_limit alert message other =
    far_is_dropped i source destination hop_limit alert message (ap (λ (b : Bool). b && alert) other)

pub no_alert : (i : InnerValue) (source destination : Ipv6Address) (hop_limit : ℕ) (message : List ℕ) → mld_heard i source destination hop_limit false message ≡ None
no_alert i source destination hop_limit message = far_is_dropped i source destination hop_limit false message (unalerted (hop_limit == 1))
