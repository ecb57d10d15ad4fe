use Rattle.std.proofs.Common.{ap, Ok}
use Rattle.base_device.specs.Capabilities.{verifies}
use Rattle.wire_ip.proofs.IpLaws.{refused-v4, refused-v6}
use Rattle.wire_ip.proofs.ip.repr.IpRepr.parse.Goals as goal

pub returns-in_err-header-in-Ipv4-clause-only : goal.returns-in_err-header-in-Ipv4-clause-only
returns-in_err-header-in-Ipv4-clause-only c v is =
    absurd (refused-v4 _ _ _ c.new_unchecked.ensures (c.in_ok-of_packet.ensures.ipv4.0 (ap Ok c.in-Ipv4.is)) (λ w read. let none =
    c.in_err-header-in-Ipv4.ensures.only w read in cc) v is)

pub returns-in_err-header-in-Ipv6-clause-only : goal.returns-in_err-header-in-Ipv6-clause-only
returns-in_err-header-in-Ipv6-clause-only c v is =
    absurd (
    refused-v6 (verifies c.args.checksum_caps.now.ipv4) _ _ c.new_unchecked-in-Ipv6.ensures (c.in_ok-of_packet.ensures.ipv6.0 (ap Ok c.in-Ipv6.is))
    (λ w read. let none = c.in_err-header-in-Ipv6.ensures.only w read in cc) v is
    )
