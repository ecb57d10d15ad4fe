use Rattle.std.proofs.Common.{refl}
use Rattle.socket_datagram.proofs.DhcpClient.Short.{short}
use Rattle.socket_datagram.proofs.dhcpv4.request.Kind.message.Goals as goal

pub returns-clause-len : goal.returns-clause-len
returns-clause-len c = short _ _ _ (record {
  link_addr = c.args.link_addr;
  client_identifier = refl;
  six = c.has_six_bytes.ensures;
  requested_ip = c.requested_ip-requested_ip.ensures.width;
  max_size = c.size_for.result;
  max_size_is = refl;
  server_identifier = c.server_identifier-server_identifier.ensures.width;
  host_name = refl;
  parameter_request_list = c.parameters-parameter_request_list.ensures.inside;
  additional_options = c.options-additional_options.ensures;
  extras = c.parameters-parameter_request_list.ensures.extras;
  lease_duration = refl;
  renew_duration = refl;
  rebind_duration = refl;
  subnet_mask = refl;
  router = refl;
  dns_servers = refl;
})
