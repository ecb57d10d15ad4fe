use Rattle.tcp_refinement.proofs.AddressLaws.{accepts_same, arrives_same, keyed_draws}
use Rattle.tcp_refinement.proofs.hosts.only_addresses_matter.Goals as goal

pub returns : goal.returns
returns c = record {
  accepts = accepts_same;
  arrives = λ host key instant random words v ip other header bytes. arrives_same host key instant random words v ip other header bytes;
  draws = keyed_draws;
}
