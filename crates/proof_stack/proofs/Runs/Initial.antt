-- Hosts of one or two sockets that are new.
use Rattle.std.proofs.Common.{◌≡◌, ℕ, zero, suc, [], ◌∷◌, Some, refl, subst}
use Rattle.std.proofs.lemmas.Option.{none-some}
use Rattle.lan.specs.Worlds.AtLink.Parties.{Socket, socket_at}
use Rattle.lan.specs.Worlds.AtLink.Parties.Socket.{Tcp}
use Rattle.lan.specs.Worlds.AtLink.PacketsSafe.{IsInitialSocket, IsInitialParty}
use Rattle.proof_stack.specs.Worlds.Hosts.{host}
use Rattle.proof_stack.specs.Worlds.Streams.{initial}

pub some_same : {X : Type 0} (x y : X) → Some x ≡ Some y → x ≡ y
some_same x y e = cc

pub initial_one : (one : Socket) → IsInitialSocket 0 one → IsInitialParty (λ _. 0) (host (Some one ∷ []))
initial_one one is = record { sockets = at; segments = refl; datagrams = refl } where
  at : (i : ℕ) (s : Socket) → socket_at (host (Some one ∷ [])) i ≡ Some s → IsInitialSocket 0 s
  at zero s e = subst (IsInitialSocket 0) (some_same one s e) is
  at (suc i) s e = absurd (none-some s e)

pub initial_two : (one : Socket) → IsInitialSocket 0 one → IsInitialParty (λ _. 0) (host (Some one ∷ Some one ∷ []))
initial_two one is = record { sockets = at; segments = refl; datagrams = refl } where
  at : (i : ℕ) (s : Socket) → socket_at (host (Some one ∷ Some one ∷ [])) i ≡ Some s → IsInitialSocket 0 s
  at zero s e = subst (IsInitialSocket 0) (some_same one s e) is
  at (suc zero) s e = subst (IsInitialSocket 0) (some_same one s e) is
  at (suc (suc i)) s e = absurd (none-some s e)

pub initial_tcp : IsInitialSocket 0 (Tcp initial)
initial_tcp = (record { state = refl; waiting = refl; queue = refl; unfinished = refl }, record { state = refl; pair = refl })
