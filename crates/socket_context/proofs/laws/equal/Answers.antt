use Rattle.std.proofs.lemmas.Bool.Decides.{Decides-and}
use Rattle.std.proofs.lemmas.Slice.Eq.{bytes_eq-Decides}
use Rattle.socket_context.specs.SegmentPayload.{payload_bytes}
use Rattle.socket_context.proofs.Equal.{Laws, Decides-offer, Decides-due, Decides-payload, Decides-packet}
use Rattle.socket_context.proofs.laws.equal.Goals as goal

pub returns : goal.returns
returns c =
    let laws : Laws = record {
      icmpv4 = c.icmpv4_messages_equated.ensures.messages;
      icmpv6 = c.icmpv6_messages_equated.ensures.messages;
      tcp = λ a b s t. Decides-and _ _ (c.tcp_equal.ensures.header a b) (bytes_eq-Decides (payload_bytes s) (payload_bytes t));
      udp = λ a b xs ys. Decides-and _ _ (c.udp_equal.ensures a b) (bytes_eq-Decides xs.now ys.now);
    }
    in
    record {
      offers = Decides-offer;
      due = Decides-due;
      texts = λ a b. bytes_eq-Decides (payload_bytes a) (payload_bytes b);
      payloads = Decides-payload laws;
      packets = Decides-packet (λ a b. Decides-and _ _ (c.ip_equal.ensures a.header b.header) (Decides-payload laws a.payload b.payload));
    }
