use Rattle.std.proofs.Common.{◌≡◌, ℕ, List, [], ◌∷◌, ◌++◌, sym, ap, ◌∙◌, get_or}
use Rattle.socket_datagram.specs.declared.udp.UdpMetadata.{UdpMetadata}
use Rattle.proof_stack.proofs.peer_host.excluded.bad_datagrams_are_excluded.Goals as goal

pub returns-clause-no_frame : goal.returns-clause-no_frame
returns-clause-no_frame g c = λ t s port d none w.
    none w.came.came.0.host.host.inner.instant w.came.came.0.host.device w.came.came.0.after w.came.came.0.frame w.came.came.0.took

pub returns-clause-other_port : goal.returns-clause-other_port
returns-clause-other_port g c = λ t s port d w other. other w.to_port

pub returns-clause-other_sender : goal.returns-clause-other_sender
returns-clause-other_sender g c = λ t s port d w other. other (ap (λ (m : UdpMetadata). m.endpoint.port) w.told)

pub returns-clause-bad_checksum : goal.returns-clause-bad_checksum
returns-clause-bad_checksum g c = λ t s port d w tested bad. bad (w.came.carries.format.checked tested)

pub returns-clause-other_bytes : goal.returns-clause-other_bytes
returns-clause-other_bytes g c = λ t s port d w other. other w.came.carries.bytes_are

pub returns-clause-lost : goal.returns-clause-lost
returns-clause-lost g c = λ t s s' i v d rest on waited none.
    let all : [] ≡ d ∷ rest ++ on.more = sym none ∙ on.following ∙ ap (λ (ds : List (UdpMetadata × List ℕ)). ds ++ on.more) waited in absurd (cc)

pub returns-clause-another_first : goal.returns-clause-another_first
returns-clause-another_first g c = λ t s s' i v d e rest later on waited now other.
    let all : e ∷ later ≡ d ∷ (rest ++ on.more) = sym now ∙ on.following ∙ ap (λ (ds : List (UdpMetadata × List ℕ)). ds ++ on.more) waited in
    other (ap (λ (ds : List (UdpMetadata × List ℕ)). get_or ds 0 d) all)
