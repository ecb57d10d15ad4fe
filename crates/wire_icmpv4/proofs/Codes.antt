-- Codes and what they name.
use Rattle.std.proofs.Common.{◌≡◌, ℕ, refl, sym, inl, inr}
use Rattle.std.proofs.lemmas.Bool.Decides.{eqb_tells}
use Rattle.wire_address.proofs.Numbers.{step}
use Rattle.wire_icmpv4.specs.Icmpv4Codes.{unreachable_number, unreachable_of, exceeded_number, exceeded_of}
use Rattle.wire_icmpv4.specs.declared.message.Icmpv4DstUnreachable.TheVariants as Unreachable

-- the reason of a code has that code
pub unreachable_number-unreachable_of : (n : ℕ) → unreachable_number (unreachable_of n) ≡ n
unreachable_number-unreachable_of n =
    let next = step unreachable_number n in
    next 0 Unreachable.NetUnreachable _ refl (next 1 Unreachable.HostUnreachable _ refl (next 2 Unreachable.ProtoUnreachable _ refl (
    next 3 Unreachable.PortUnreachable _ refl (next 4 Unreachable.FragRequired _ refl (next 5 Unreachable.SrcRouteFailed _ refl (
    next 6 Unreachable.DstNetUnknown _ refl (next 7 Unreachable.DstHostUnknown _ refl (next 8 Unreachable.SrcHostIsolated _ refl (
    next 9 Unreachable.NetProhibited _ refl (next 10 Unreachable.HostProhibited _ refl (next 11 Unreachable.NetUnreachToS _ refl (
    next 12 Unreachable.HostUnreachToS _ refl (next 13 Unreachable.CommProhibited _ refl (next 14 Unreachable.HostPrecedViol _ refl (
    next 15 Unreachable.PrecedCutoff (Unreachable.Unknown n) refl refl)))))))))))))))

pub exceeded_number-exceeded_of : (n : ℕ) → exceeded_number (exceeded_of n) ≡ n
exceeded_number-exceeded_of n =
    elim (eqb_tells n 0) [
      | inl hit ↦ rw hit.0 (sym hit.1)
      | inr miss ↦ rw miss.0 (elim (eqb_tells n 1) [ inl hit ↦ rw hit.0 (sym hit.1) | inr other ↦ rw other.0 refl ])
    ]
