use Rattle.lan.specs.Worlds.Link.Made.{IsIn}
use Rattle.lan.proofs.Worlds.Link.Sends.{goes_keeps, fragment_keeps, tells_keeps}
use Rattle.lan.proofs.Worlds.Link.Nodes.{arrival_keeps_sender}
use Rattle.lan.proofs.link_laws.what_leaves_was_made.Goals as goal

pub returns-clause-packet : goal.returns-clause-packet
returns-clause-packet c = λ made first out i i' l l' d d' p busy sent s going goes. goes_keeps (IsIn made) first out i l d s busy p going sent d' i' l' goes

pub returns-clause-fragment : goal.returns-clause-fragment
returns-clause-fragment c = λ made first out i l l' d d' gone s goes. fragment_keeps (IsIn made) first out i l d s gone d' l' goes

pub returns-clause-arp : goal.returns-clause-arp
returns-clause-arp c = λ made first out i l d d' packet gone s node between departs. tells_keeps (IsIn made) first out i l d s packet gone d' node
    between departs

pub returns-clause-arrival : goal.returns-clause-arrival
returns-clause-arrival c = λ made first out i l sent slots content a s brings. arrival_keeps_sender (IsIn made) first out i l sent slots content a brings s
