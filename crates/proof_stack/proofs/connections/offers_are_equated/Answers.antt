use Rattle.proof_stack.proofs.Equal.{Decides-addresses, Decides-kind, Decides-open_offer, Decides-pair, Decides-part, Decides-reply, Decides-verdict}
use Rattle.proof_stack.proofs.connections.offers_are_equated.Goals as goal

pub returns : goal.returns
returns c = record {
  addresses = Decides-addresses;
  pair = Decides-pair;
  kind = Decides-kind;
  open_offer = Decides-open_offer;
  reply = Decides-reply;
  verdict = Decides-verdict;
  part = Decides-part;
}
