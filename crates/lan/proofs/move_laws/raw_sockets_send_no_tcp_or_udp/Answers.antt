use Rattle.lan.specs.Worlds.Moves.Raws.{QueuesForeign}
use Rattle.lan.proofs.Worlds.Moves.EachRun.{runs_of_each}
use Rattle.lan.proofs.Worlds.Moves.RawQueues.{foreign_runs, offered_foreign}
use Rattle.lan.proofs.move_laws.raw_sockets_send_no_tcp_or_udp.Goals as goal

pub returns-clause-queues : goal.returns-clause-queues
returns-clause-queues c starts history hosts side initial ran = runs_of_each QueuesForeign foreign_runs starts initial history hosts ran side

pub returns-clause-offers : goal.returns-clause-offers
returns-clause-offers c cx v v' answer p holds offers is = offered_foreign cx v v' answer p holds offers is
