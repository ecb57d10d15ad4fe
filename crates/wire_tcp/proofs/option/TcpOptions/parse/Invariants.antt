use Rattle.std.proofs.Common.{◌↔◌, length}
use Rattle.wire_tcp.specs.Options.{no_options, Says}
use Rattle.wire_tcp.specs.declared.option.TcpOptions.{TcpOptions}
use Rattle.wire_tcp.proofs.option.TcpOptions.parse.Given as goal

abbrev pub invariant-loop-rest : goal.invariant-loop-rest
invariant-loop-rest l = (v : TcpOptions) → Says l.options l.rest v ↔ Says no_options l.fn.area v

abbrev pub decreases-loop-rest : goal.decreases-loop-rest
decreases-loop-rest l = length l.rest
