-- Each run of tcp_theory's two sides is a joint history, so its theorem is the one of joint histories.
use Rattle.std.proofs.Common.{◌≡◌, inr, ℕ, List, [], ◌∷◌, ◌++◌, length, refl, sym, ap, ◌∙◌, subst}
use Rattle.tcp_theory.specs.Alone.{unopened}
use Rattle.tcp_theory.specs.Move.{Move, May, MayTakeSyn, MayTakeCrossedSyn, MayTakeSynAck, MayTakeAck, MayTakeBytes, MayTakeFin}
use Rattle.tcp_theory.specs.Move.Move.{Listens, Connects, Writes, Reads, Closes, Ends, FallsBack, SendsSyn, SendsSynAck, SendsAck, SendsData, SendsKeepAlive}
use Rattle.tcp_theory.specs.Move.Move.{SendsReset, TakesSyn, TakesCrossedSyn, TakesSynAck, TakesAck, TakesBytes, TakesFin}
use Rattle.tcp_theory.specs.Move as machine
use Rattle.tcp_theory.specs.Run.{World}
use Rattle.tcp_theory.specs.Run as two
use Rattle.tcp_theory.specs.Safe.{AreSafe}
use Rattle.tcp_peer.specs.Run.Event.{Comes, Does}
use Rattle.tcp_peer.proofs.Among.{slice_get-last}
use Rattle.tcp_net.specs.Joint.{Joint, Step, steps, IsHistory, play, begin}
use Rattle.tcp_net.specs.Joint.Step.{A, B}
use Rattle.tcp_net.specs.Peers.{world_of}
use Rattle.tcp_net.proofs.Histories.{taking_a, taking_b, history_of}
use Rattle.tcp_net.proofs.Knot.{peers_play}

-- a move of a, of what b sent
leads_a :
    (j : Joint) (move : Move) (rest : List Step) (w : World) → May j.a.side j.b.side move
    → ((k : Joint) → world_of k ≡ two.happens (world_of j) (two.Event.A move) → IsHistory k rest × (world_of (play k rest) ≡ w))
    → IsHistory j (taking_a move rest) × (world_of (play j (taking_a move rest)) ≡ w)
leads_a j (TakesSyn x iss) rest w may next =
    let m : MayTakeSyn j.a.side j.b.side x iss = may in
    let here : machine.Comes (unopened 0 (j.a.came ++ x ∷ [])) x = (length j.a.came, slice_get-last j.a.came x) in
    let now : MayTakeSyn j.a.side (unopened 0 (j.a.came ++ x ∷ [])) x iss = record { listening = m.listening; comes = here; syn = m.syn; bare = m.bare; first = m.first } in
    let r = next (steps (steps j (A (Comes x))) (A (Does (TakesSyn x iss)))) refl in
    ((inr m.comes, (now, r.0)), r.1)
leads_a j (TakesCrossedSyn x) rest w may next =
    let m : MayTakeCrossedSyn j.a.side j.b.side x = may in
    let here : machine.Comes (unopened 0 (j.a.came ++ x ∷ [])) x = (length j.a.came, slice_get-last j.a.came x) in
    let now : MayTakeCrossedSyn j.a.side (unopened 0 (j.a.came ++ x ∷ [])) x = record { asking = m.asking; comes = here; syn = m.syn; bare = m.bare } in
    let r = next (steps (steps j (A (Comes x))) (A (Does (TakesCrossedSyn x)))) refl in
    ((inr m.comes, (now, r.0)), r.1)
leads_a j (TakesSynAck x) rest w may next =
    let m : MayTakeSynAck j.a.side j.b.side x = may in
    let here : machine.Comes (unopened 0 (j.a.came ++ x ∷ [])) x = (length j.a.came, slice_get-last j.a.came x) in
    let now : MayTakeSynAck j.a.side (unopened 0 (j.a.came ++ x ∷ [])) x = record { asking = m.asking; comes = here; syn = m.syn; acks_syn = m.acks_syn } in
    let r = next (steps (steps j (A (Comes x))) (A (Does (TakesSynAck x)))) refl in
    ((inr m.comes, (now, r.0)), r.1)
leads_a j (TakesAck x at) rest w may next =
    let m : MayTakeAck j.a.side j.b.side x at = may in
    let here : machine.Comes (unopened 0 (j.a.came ++ x ∷ [])) x = (length j.a.came, slice_get-last j.a.came x) in
    let now : MayTakeAck j.a.side (unopened 0 (j.a.came ++ x ∷ [])) x at = record { connected = m.connected; comes = here; no_reset = m.no_reset; number = m.number; opens = m.opens; low = m.low; high = m.high } in
    let r = next (steps (steps j (A (Comes x))) (A (Does (TakesAck x at)))) refl in
    ((inr m.comes, (now, r.0)), r.1)
leads_a j (TakesBytes x at) rest w may next =
    let m : MayTakeBytes j.a.side j.b.side x at = may in
    let here : machine.Comes (unopened 0 (j.a.came ++ x ∷ [])) x = (length j.a.came, slice_get-last j.a.came x) in
    let now : MayTakeBytes j.a.side (unopened 0 (j.a.came ++ x ∷ [])) x at = record { running = m.running; unfinished = m.unfinished; comes = here; kind = m.kind; number = m.number; near = m.near } in
    let r = next (steps (steps j (A (Comes x))) (A (Does (TakesBytes x at)))) refl in
    ((inr m.comes, (now, r.0)), r.1)
leads_a j (TakesFin x) rest w may next =
    let m : MayTakeFin j.a.side j.b.side x = may in
    let here : machine.Comes (unopened 0 (j.a.came ++ x ∷ [])) x = (length j.a.came, slice_get-last j.a.came x) in
    let now : MayTakeFin j.a.side (unopened 0 (j.a.came ++ x ∷ [])) x = record { running = m.running; unfinished = m.unfinished; comes = here; fin = m.fin; next = m.next } in
    let r = next (steps (steps j (A (Comes x))) (A (Does (TakesFin x)))) refl in
    ((inr m.comes, (now, r.0)), r.1)
leads_a j Listens rest w may next = let r = next (steps j (A (Does Listens))) refl in ((may, r.0), r.1)
leads_a j (Connects iss) rest w may next = let r = next (steps j (A (Does (Connects iss)))) refl in ((may, r.0), r.1)
leads_a j (Writes bytes) rest w may next = let r = next (steps j (A (Does (Writes bytes)))) refl in ((may, r.0), r.1)
leads_a j (Reads count) rest w may next = let r = next (steps j (A (Does (Reads count)))) refl in ((may, r.0), r.1)
leads_a j Closes rest w may next = let r = next (steps j (A (Does Closes))) refl in ((may, r.0), r.1)
leads_a j Ends rest w may next = let r = next (steps j (A (Does Ends))) refl in ((may, r.0), r.1)
leads_a j FallsBack rest w may next = let r = next (steps j (A (Does FallsBack))) refl in ((may, r.0), r.1)
leads_a j SendsSyn rest w may next = let r = next (steps j (A (Does SendsSyn))) refl in ((may, r.0), r.1)
leads_a j SendsSynAck rest w may next = let r = next (steps j (A (Does SendsSynAck))) refl in ((may, r.0), r.1)
leads_a j (SendsAck at) rest w may next = let r = next (steps j (A (Does (SendsAck at)))) refl in ((may, r.0), r.1)
leads_a j (SendsData at count fin) rest w may next = let r = next (steps j (A (Does (SendsData at count fin)))) refl in ((may, r.0), r.1)
leads_a j SendsKeepAlive rest w may next = let r = next (steps j (A (Does SendsKeepAlive))) refl in ((may, r.0), r.1)
leads_a j (SendsReset x) rest w may next = let r = next (steps j (A (Does (SendsReset x)))) refl in ((may, r.0), r.1)

-- a move of b, of what a sent
leads_b :
    (j : Joint) (move : Move) (rest : List Step) (w : World) → May j.b.side j.a.side move
    → ((k : Joint) → world_of k ≡ two.happens (world_of j) (two.Event.B move) → IsHistory k rest × (world_of (play k rest) ≡ w))
    → IsHistory j (taking_b move rest) × (world_of (play j (taking_b move rest)) ≡ w)
leads_b j (TakesSyn x iss) rest w may next =
    let m : MayTakeSyn j.b.side j.a.side x iss = may in
    let here : machine.Comes (unopened 0 (j.b.came ++ x ∷ [])) x = (length j.b.came, slice_get-last j.b.came x) in
    let now : MayTakeSyn j.b.side (unopened 0 (j.b.came ++ x ∷ [])) x iss = record { listening = m.listening; comes = here; syn = m.syn; bare = m.bare; first = m.first } in
    let r = next (steps (steps j (B (Comes x))) (B (Does (TakesSyn x iss)))) refl in
    ((inr m.comes, (now, r.0)), r.1)
leads_b j (TakesCrossedSyn x) rest w may next =
    let m : MayTakeCrossedSyn j.b.side j.a.side x = may in
    let here : machine.Comes (unopened 0 (j.b.came ++ x ∷ [])) x = (length j.b.came, slice_get-last j.b.came x) in
    let now : MayTakeCrossedSyn j.b.side (unopened 0 (j.b.came ++ x ∷ [])) x = record { asking = m.asking; comes = here; syn = m.syn; bare = m.bare } in
    let r = next (steps (steps j (B (Comes x))) (B (Does (TakesCrossedSyn x)))) refl in
    ((inr m.comes, (now, r.0)), r.1)
leads_b j (TakesSynAck x) rest w may next =
    let m : MayTakeSynAck j.b.side j.a.side x = may in
    let here : machine.Comes (unopened 0 (j.b.came ++ x ∷ [])) x = (length j.b.came, slice_get-last j.b.came x) in
    let now : MayTakeSynAck j.b.side (unopened 0 (j.b.came ++ x ∷ [])) x = record { asking = m.asking; comes = here; syn = m.syn; acks_syn = m.acks_syn } in
    let r = next (steps (steps j (B (Comes x))) (B (Does (TakesSynAck x)))) refl in
    ((inr m.comes, (now, r.0)), r.1)
leads_b j (TakesAck x at) rest w may next =
    let m : MayTakeAck j.b.side j.a.side x at = may in
    let here : machine.Comes (unopened 0 (j.b.came ++ x ∷ [])) x = (length j.b.came, slice_get-last j.b.came x) in
    let now : MayTakeAck j.b.side (unopened 0 (j.b.came ++ x ∷ [])) x at = record { connected = m.connected; comes = here; no_reset = m.no_reset; number = m.number; opens = m.opens; low = m.low; high = m.high } in
    let r = next (steps (steps j (B (Comes x))) (B (Does (TakesAck x at)))) refl in
    ((inr m.comes, (now, r.0)), r.1)
leads_b j (TakesBytes x at) rest w may next =
    let m : MayTakeBytes j.b.side j.a.side x at = may in
    let here : machine.Comes (unopened 0 (j.b.came ++ x ∷ [])) x = (length j.b.came, slice_get-last j.b.came x) in
    let now : MayTakeBytes j.b.side (unopened 0 (j.b.came ++ x ∷ [])) x at = record { running = m.running; unfinished = m.unfinished; comes = here; kind = m.kind; number = m.number; near = m.near } in
    let r = next (steps (steps j (B (Comes x))) (B (Does (TakesBytes x at)))) refl in
    ((inr m.comes, (now, r.0)), r.1)
leads_b j (TakesFin x) rest w may next =
    let m : MayTakeFin j.b.side j.a.side x = may in
    let here : machine.Comes (unopened 0 (j.b.came ++ x ∷ [])) x = (length j.b.came, slice_get-last j.b.came x) in
    let now : MayTakeFin j.b.side (unopened 0 (j.b.came ++ x ∷ [])) x = record { running = m.running; unfinished = m.unfinished; comes = here; fin = m.fin; next = m.next } in
    let r = next (steps (steps j (B (Comes x))) (B (Does (TakesFin x)))) refl in
    ((inr m.comes, (now, r.0)), r.1)
leads_b j Listens rest w may next = let r = next (steps j (B (Does Listens))) refl in ((may, r.0), r.1)
leads_b j (Connects iss) rest w may next = let r = next (steps j (B (Does (Connects iss)))) refl in ((may, r.0), r.1)
leads_b j (Writes bytes) rest w may next = let r = next (steps j (B (Does (Writes bytes)))) refl in ((may, r.0), r.1)
leads_b j (Reads count) rest w may next = let r = next (steps j (B (Does (Reads count)))) refl in ((may, r.0), r.1)
leads_b j Closes rest w may next = let r = next (steps j (B (Does Closes))) refl in ((may, r.0), r.1)
leads_b j Ends rest w may next = let r = next (steps j (B (Does Ends))) refl in ((may, r.0), r.1)
leads_b j FallsBack rest w may next = let r = next (steps j (B (Does FallsBack))) refl in ((may, r.0), r.1)
leads_b j SendsSyn rest w may next = let r = next (steps j (B (Does SendsSyn))) refl in ((may, r.0), r.1)
leads_b j SendsSynAck rest w may next = let r = next (steps j (B (Does SendsSynAck))) refl in ((may, r.0), r.1)
leads_b j (SendsAck at) rest w may next = let r = next (steps j (B (Does (SendsAck at)))) refl in ((may, r.0), r.1)
leads_b j (SendsData at count fin) rest w may next = let r = next (steps j (B (Does (SendsData at count fin)))) refl in ((may, r.0), r.1)
leads_b j SendsKeepAlive rest w may next = let r = next (steps j (B (Does SendsKeepAlive))) refl in ((may, r.0), r.1)
leads_b j (SendsReset x) rest w may next = let r = next (steps j (B (Does (SendsReset x)))) refl in ((may, r.0), r.1)

leads : (j : Joint) (events : List two.Event) → two.IsRun (world_of j) events →
    IsHistory j (history_of events) × (world_of (play j (history_of events)) ≡ two.run (world_of j) events)
leads j [] is = (tt, refl)
leads j (two.Event.A move ∷ events) is =
    leads_a j move (history_of events) (two.run (two.happens (world_of j) (two.Event.A move)) events) is.0
    (λ k same. let r = leads k events (subst (λ (w : World). two.IsRun w events) (sym same) is.1) in (r.0, r.1 ∙ ap (λ (w : World). two.run w events) same))
leads j (two.Event.B move ∷ events) is =
    leads_b j move (history_of events) (two.run (two.happens (world_of j) (two.Event.B move)) events) is.0
    (λ k same. let r = leads k events (subst (λ (w : World). two.IsRun w events) (sym same) is.1) in (r.0, r.1 ∙ ap (λ (w : World). two.run w events) same))

pub streams_again : (m n : ℕ) (events : List two.Event) → two.IsRun (two.start m n) events → AreSafe (two.run (two.start m n) events)
streams_again m n events is =
    let r = leads (begin m n [] []) events is in
    subst AreSafe r.1 (peers_play m n [] [] tt tt (history_of events) r.0).streams
