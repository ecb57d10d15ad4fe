-- What two hosts do one after the other is a run, where each fragment of it is.
use Rattle.std.proofs.Common.{◌≡◌, inr, ℕ, Bool, List, [], ◌∷◌, ◌++◌, slice_get, Option, Some, None, IfSome, refl, sym, ap, ◌∙◌, subst}
use Rattle.ip_wire.specs.IpAddress.{IpAddress}
use Rattle.ip_wire.specs.IpAddress.TheVariants as Address
use Rattle.ip_wire.specs.TcpHeader.{TcpHeader}
use Rattle.tcp_block.specs.Offers.{offer_of}
use Rattle.tcp_block.specs.OpenOffer.{OpenOffer}
use Rattle.tcp_block.specs.Value.{TcpValue}
use Rattle.tcp_refinement.specs.Host.{Made, made_of, IsSeenAmong}
use Rattle.lan.specs.declared.at_link.history.event.Side.{Side}
use Rattle.lan.specs.declared.at_link.history.event.Side.TheVariants.{A, B}
use Rattle.lan.specs.Worlds.AtLink.Moves.{Step, LeavesFrom, after, IsRun, run}
use Rattle.lan.specs.Worlds.AtLink.Parties.{Net}
use Rattle.lan.proofs.Worlds.AtLink.Extended.{IsRun-append}
use Rattle.proof_stack.specs.Worlds.Hosts.{address, context}
use Rattle.proof_stack.specs.Worlds.Played.{Doing, Play, step_of, done, played, steps_of}
use Rattle.proof_stack.specs.Worlds.Played.Doing.{Calls, Asks, Comes}
use Rattle.proof_stack.specs.Worlds.Streams.{tcp_at}

-- what is offered leaves from its host's address
leaves_own : (side : Side) (o : Option OpenOffer) → IfSome o (λ x. LeavesFrom (context side) (Address.Ipv4 (address side)) x.header)
leaves_own side None = tt
leaves_own side (Some x) = inr refl

pub leaves_from : (side : Side) (v : TcpValue) → IfSome (offer_of (context side) v).socket.offered
    (λ x. LeavesFrom (context side) (Address.Ipv4 (address side)) x.header)
leaves_from side v = leaves_own side (offer_of (context side) v).socket.offered

pub leaves_now : (side : Side) (p : Play) → IfSome (offer_of (context side) (tcp_at p.net side 0)).socket.offered
    (λ x. LeavesFrom (context side) (Address.Ipv4 (address side)) x.header)
leaves_now side p = leaves_from side (tcp_at p.net side 0)

-- a segment comes as it was made
pub comes_whole : {made : List Made} {from to : IpAddress} {header : TcpHeader} {bytes : List ℕ} (k : ℕ) →
    slice_get made k ≡ Some (made_of from to header bytes) → IsSeenAmong made header bytes
comes_whole {made} {from} {to} {header} {bytes} k is =
    record { segment = made_of from to header bytes; among = (k, is); source = refl; destination = refl; seen = refl }

net_done : (p : Play) (doing : Doing) → after p.net (step_of p doing) ≡ (done p doing).net
net_done p (Calls side call) = refl
net_done p (Asks A) = refl
net_done p (Asks B) = refl
net_done p (Comes side k) = refl

pub net_played : (p : Play) (doings : List Doing) → run p.net (steps_of p doings) ≡ (played p doings).net
net_played p [] = refl
net_played p (doing ∷ doings) =
    ap (λ (net : Net). run net (steps_of (done p doing) doings)) (net_done p doing) ∙ net_played (done p doing) doings

steps_append : (p : Play) (doings more : List Doing) → steps_of p (doings ++ more) ≡ steps_of p doings ++ steps_of (played p doings) more
steps_append p [] more = refl
steps_append p (doing ∷ doings) more = ap (λ (steps : List Step). step_of p doing ∷ steps) (steps_append (done p doing) doings more)

pub run_on :
    (names : List ℕ → Bool) (p : Play) (doings more : List Doing) → IsRun names p.net (steps_of p doings)
    → IsRun names (played p doings).net (steps_of (played p doings) more) → IsRun names p.net (steps_of p (doings ++ more))
run_on names p doings more one another =
    subst (λ (steps : List Step). IsRun names p.net steps) (sym (steps_append p doings more))
    (IsRun-append names p.net (steps_of p doings) (steps_of (played p doings) more) one
    (subst (λ (net : Net). IsRun names net (steps_of (played p doings) more)) (sym (net_played p doings)) another))

pub played_append : (p : Play) (doings more : List Doing) → played p (doings ++ more) ≡ played (played p doings) more
played_append p [] more = refl
played_append p (doing ∷ doings) more = played_append (done p doing) doings more
