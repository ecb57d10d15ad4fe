use Rattle.app_tun_services.proofs.host.serve_slots.Goals as goal

pub returns-clause-serve : goal.returns-clause-serve
returns-clause-serve c = record {
  datagrams = c.serve_first.new.slots;
  streams = c.serve_backlog.new.slots;
  serves_datagrams = c.serve_first.ensures;
  serves_streams = c.serve_backlog.ensures.served;
  serves_pages = c.serve_backlog-2.ensures.served;
}
