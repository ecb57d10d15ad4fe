use Rattle.std.proofs.Common.{◌≡◌, ◌⊎◌, List, [], ◌∷◌, Option, None, Some}
use Rattle.lan.specs.Worlds.AtLink.Host.{HostValue}
use Rattle.lan.specs.Hosts.{first_of, host_of, no_interface, no_sockets, no_start, no_world}
use Rattle.lan.specs.declared.at_link.history.answer.Refused.TheVariants.{Memory}
use Rattle.lan.specs.declared.at_link.history.event.Side.TheVariants.{A, B}
use Rattle.lan.specs.declared.end.End.{End}
use Rattle.lan.specs.declared.end.End.TheVariants.{Refusal}
use Rattle.lan.proofs.Beginnings.{error_so, if_error, later_end, made_so}
use Rattle.lan.proofs.header.Header.start.Goals as goal

-- the sockets weren't made
pub returns-in_err-sockets_a-clause-ends : goal.returns-in_err-sockets_a-clause-ends
returns-in_err-sockets_a-clause-ends c =
    let h = c.args.self.now in
    let end : End = c.in_err-sockets_a.field-0.0 in
    let later : List (Option End) = no_sockets A h.sockets ∷ no_sockets B h.sockets ∷ no_world (host_of h A) (host_of h B) ∷ [] in
    let made : HostValue × HostValue = (c.in_ok-interface_a.interface_a, c.in_ok-interface_a.interface_b) in
    let first : no_interface h.medium h.mtu A ≡ None =
    made_so c.interfaces.result made (no_interface h.medium h.mtu A ≡ None) c.in_ok-interface_a.was c.interfaces.ensures.a_allowed in
    let second : no_interface h.medium h.mtu B ≡ None =
    made_so c.interfaces.result made (no_interface h.medium h.mtu B ≡ None) c.in_ok-interface_a.was c.interfaces.ensures.b_allowed in
    let so : (first_of later ≡ Some end) ⊎ (end ≡ Refusal Memory) =
    error_so c.socket_sets.result end (λ (e : End). (first_of later ≡ Some e) ⊎ (e ≡ Refusal Memory)) c.in_err-sockets_a.was c.socket_sets.ensures.ends in
    if_error c.from_residual-in_err-sockets_a.result end (λ (e : End). (no_start h ≡ Some e) ⊎ (e ≡ Refusal Memory))
    c.from_residual-in_err-sockets_a.ensures.1
    (later_end (no_interface h.medium h.mtu A) (no_interface h.medium h.mtu B) later end first second so)
