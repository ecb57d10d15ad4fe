use Rattle.std.proofs.Common.{List, ℕ, Some, sym, ap, ◌∙◌, subst}
use Rattle.ip_wire.specs.Ethernet as Ethernet
use Rattle.iface_ingress.specs.Incoming.{IsOnly, IsArpFollowing, IsV4Following, IsV6Following, content_of}
use Rattle.iface_ingress.proofs.Readers.{refused-link, framed-arp, framed-v4, framed-v6}
use Rattle.iface_ingress.proofs.incoming.read_ethernet.Goals as goal

pub returns-in_default-clause-content : goal.returns-in_default-clause-content
returns-in_default-clause-content c =
    rw c.requires.none (refused-link c.args.checksums.now c.args.frame.now
    (λ l is. c.in_default.not-Ok l (c.parse.ensures.only l (subst (λ (b : List ℕ). Ethernet.IsEthernet b l) (sym c.new_unchecked-frame.ensures) is))))

pub returns-in-Arp-clause-content : goal.returns-in-Arp-clause-content
returns-in-Arp-clause-content c =
    let link = c.in-Ok.link in
    framed-arp c.args.checksums.now c.args.frame.now link (content_of c.read_arp.new.content)
    (record { format = subst (λ (b : List ℕ). Ethernet.IsEthernet b link) c.new_unchecked-frame.ensures c.in-Ok.ensures.found; carried_is = c.in-Arp.is })
    (subst (λ (b : List ℕ). IsOnly (IsArpFollowing link b) (content_of c.read_arp.new.content)) (c.payload-packet.ensures ∙
    ap Ethernet.payload_of c.new_unchecked-frame.ensures) c.read_arp.ensures.content)

pub returns-in-Ipv4-clause-content : goal.returns-in-Ipv4-clause-content
returns-in-Ipv4-clause-content c =
    let link = c.in-Ok.link in
    framed-v4 c.args.checksums.now c.args.frame.now link (content_of c.read_ipv4.new.content)
    (record { format = subst (λ (b : List ℕ). Ethernet.IsEthernet b link) c.new_unchecked-frame.ensures c.in-Ok.ensures.found; carried_is = c.in-Ipv4.is })
    (subst (λ (b : List ℕ). IsOnly (IsV4Following c.args.checksums.now (Some link) b) (content_of c.read_ipv4.new.content)) (c.payload-packet.ensures ∙
    ap Ethernet.payload_of c.new_unchecked-frame.ensures) c.read_ipv4.ensures.content)

pub returns-in-Ipv6-clause-content : goal.returns-in-Ipv6-clause-content
returns-in-Ipv6-clause-content c =
    let link = c.in-Ok.link in
    framed-v6 c.args.checksums.now c.args.frame.now link (content_of c.read_ipv6.new.content)
    (record { format = subst (λ (b : List ℕ). Ethernet.IsEthernet b link) c.new_unchecked-frame.ensures c.in-Ok.ensures.found; carried_is = c.in-Ipv6.is })
    (subst (λ (b : List ℕ). IsOnly (IsV6Following (Some link) b) (content_of c.read_ipv6.new.content)) (c.payload-packet.ensures ∙
    ap Ethernet.payload_of c.new_unchecked-frame.ensures) c.read_ipv6.ensures.content)
