use Rattle.std.proofs.Common.{refl}
use Rattle.lan.specs.Hosts.{cidr_v6}
use Rattle.lan.proofs.TextsOnce.{same_tcb}
use Rattle.lan.proofs.header.cidr_v6.Goals as goal

-- a block is its address and its prefix length
pub returns : goal.returns
returns c = same_tcb c.new.result (cidr_v6 c.args.side) (rw (c.new.ensures.address, c.v6.ensures, c.number.ensures) refl) c.new.ensures.prefix_len
