-- Where only what is taken has to be the peer's, connections are safe.
use Rattle.std.proofs.Common.{◌≡◌, ℕ, Bool, true, false, if◌then◌else◌, List, [], ◌∷◌, ◌++◌, length, refl, sym, ap, ◌∙◌, subst}
use Rattle.tcp_theory.specs.Alone.{unopened}
use Rattle.tcp_theory.specs.Safe.{AreSafe}
use Rattle.tcp_theory.specs.Segment.{Segment}
use Rattle.tcp_theory.specs.Side.{Side}
use Rattle.tcp_theory.specs.Move.{Move, May, after, MayTakeSyn, MayTakeCrossedSyn, MayTakeSynAck, MayTakeAck, MayTakeBytes, MayTakeFin}
use Rattle.tcp_theory.specs.Move.Move.{Listens, Connects, Writes, Reads, Closes, Ends, FallsBack, SendsSyn, SendsSynAck, SendsAck, SendsData, SendsKeepAlive}
use Rattle.tcp_theory.specs.Move.Move.{SendsReset, TakesSyn, TakesCrossedSyn, TakesSynAck, TakesAck, TakesBytes, TakesFin}
use Rattle.tcp_theory.specs.Move as machine
use Rattle.tcp_peer.specs.Run.{Scene, Event, happens}
use Rattle.tcp_peer.specs.Run.Event.{Comes, Does}
use Rattle.tcp_peer.proofs.Among.{slice_get-last}
use Rattle.tcp_net.specs.Joint.{WasSent}
use Rattle.tcp_net.specs.Net.{Net, is_at, NetEvent, goes_on, IsNetHistory, play_all, begin_all, AllResets}
use Rattle.tcp_net.specs.NetTaken.{MayTakeHere, IsTakenNet}
use Rattle.tcp_net.proofs.Strict.{event_at, strict_move, strict}
use Rattle.tcp_net.proofs.Nets.{same_ends, updated-here, net_peers}

-- the sides are the same; more may have come in the one
abbrev Alike : Net → Net → Type 0
Alike net net' = (l r : ℕ) → (net' l r).side ≡ (net l r).side

-- a segment comes in the one alone
alike_comes : (net net' : Net) (m n : ℕ) (x : Segment) → Alike net net' → Alike (goes_on net (event_at m n (Comes x))) net'
alike_comes net net' m n x alike l r = by (is_at l r m n) refl where
  new : Scene
  new = happens (net m n) (Comes x)

  by : (b : Bool) → is_at l r m n ≡ b → (net' l r).side ≡ (if b then new else net l r).side
  by false e = alike l r
  by true e =
      let same = same_ends l r m n e in
      alike l r ∙ (ap (λ (i : ℕ). (net i r).side) same.0 ∙ ap (λ (j : ℕ). (net m j).side) same.1)

-- what is left of the history, of any two that are alike then
abbrev Goes : Net → List NetEvent → List NetEvent → Type 0
Goes net rest strict_rest = (net' : Net) → Alike net net' → IsNetHistory net' strict_rest × Alike (play_all net rest) (play_all net' strict_rest)

module _ (net net' : Net) (m n : ℕ) (rest others : List NetEvent) (alike : Alike net net') where
  abbrev s : Side
  s = (net m n).side

  -- a move that takes nothing
  simple : (move : Move) → May (net' m n).side (unopened 0 (net' m n).came) move → Goes (goes_on net (event_at m n (Does move))) rest others →
      IsNetHistory net' (event_at m n (Does move) ∷ others) × Alike (play_all net (event_at m n (Does move) ∷ rest)) (play_all net' (event_at m n (Does move) ∷ others))
  simple move may goes =
      let r = goes (goes_on net' (event_at m n (Does move))) still in
      ((may, r.0), r.1)
    where
      still : Alike (goes_on net (event_at m n (Does move))) (goes_on net' (event_at m n (Does move)))
      still l r = by (is_at l r m n) where
        by : (b : Bool) →
            (if b then happens (net' m n) (Does move) else net' l r).side ≡ (if b then happens (net m n) (Does move) else net l r).side
        by true = ap (λ (w : Side). after w move) (alike m n)
        by false = alike l r

  -- one that takes a segment, which comes just before
  takes : (x : Segment) (move : Move) → WasSent (net n m).side x → May (net' m n).side (unopened 0 ((net' m n).came ++ x ∷ [])) move →
      Goes (goes_on net (event_at m n (Does move))) rest others
      → IsNetHistory net' (event_at m n (Comes x) ∷ event_at m n (Does move) ∷ others)
      × Alike (play_all net (event_at m n (Does move) ∷ rest)) (play_all net' (event_at m n (Comes x) ∷ event_at m n (Does move) ∷ others))
  takes x move sent may goes =
      let r = goes second still in
      ((subst (λ (t : Side). WasSent t x) (sym (alike n m)) sent, (subst (λ (w : Scene). May w.side (unopened 0 w.came) move) (sym here) may, r.0)), r.1)
    where
      first : Net
      first = goes_on net' (event_at m n (Comes x))

      second : Net
      second = goes_on first (event_at m n (Does move))

      here : first m n ≡ happens (net' m n) (Comes x)
      here = updated-here net' m n (happens (net' m n) (Comes x))

      still : Alike (goes_on net (event_at m n (Does move))) second
      still l r = by (is_at l r m n) where
        by : (b : Bool) →
            (if b then happens (first m n) (Does move) else (if b then happens (net' m n) (Comes x) else net' l r)).side
            ≡ (if b then happens (net m n) (Does move) else net l r).side
        by true = ap (λ (w : Scene). after w.side move) here ∙ ap (λ (w : Side). after w move) (alike m n)
        by false = alike l r

goes_move : (net net' : Net) (m n : ℕ) (rest others : List NetEvent) (move : Move) → Alike net net' → MayTakeHere (net m n) (net n m).side (Does move) →
    Goes (goes_on net (event_at m n (Does move))) rest others
    → IsNetHistory net' (strict_move m n move others) × Alike (play_all net (event_at m n (Does move) ∷ rest)) (play_all net' (strict_move m n move others))
goes_move net net' m n rest others (TakesSyn x iss) alike may goes =
    let m' : MayTakeSyn (net m n).side (unopened 0 (net m n).came) x iss = may.0 in
    let here : machine.Comes (unopened 0 ((net' m n).came ++ x ∷ [])) x = (length (net' m n).came, slice_get-last (net' m n).came x) in
    let now : MayTakeSyn (net m n).side (unopened 0 ((net' m n).came ++ x ∷ [])) x iss = record { listening = m'.listening; comes = here; syn = m'.syn; bare = m'.bare; first = m'.first } in
    takes net net' m n rest others alike x (TakesSyn x iss) may.1.0 (subst (λ (w : Side). MayTakeSyn w (unopened 0 ((net' m n).came ++ x ∷ [])) x iss) (sym (alike m n)) now) goes
goes_move net net' m n rest others (TakesCrossedSyn x) alike may goes =
    let m' : MayTakeCrossedSyn (net m n).side (unopened 0 (net m n).came) x = may.0 in
    let here : machine.Comes (unopened 0 ((net' m n).came ++ x ∷ [])) x = (length (net' m n).came, slice_get-last (net' m n).came x) in
    let now : MayTakeCrossedSyn (net m n).side (unopened 0 ((net' m n).came ++ x ∷ [])) x = record { asking = m'.asking; comes = here; syn = m'.syn; bare = m'.bare } in
    takes net net' m n rest others alike x (TakesCrossedSyn x) may.1.0 (subst (λ (w : Side). MayTakeCrossedSyn w (unopened 0 ((net' m n).came ++ x ∷ [])) x) (sym (alike m n)) now) goes
goes_move net net' m n rest others (TakesSynAck x) alike may goes =
    let m' : MayTakeSynAck (net m n).side (unopened 0 (net m n).came) x = may.0 in
    let here : machine.Comes (unopened 0 ((net' m n).came ++ x ∷ [])) x = (length (net' m n).came, slice_get-last (net' m n).came x) in
    let now : MayTakeSynAck (net m n).side (unopened 0 ((net' m n).came ++ x ∷ [])) x = record { asking = m'.asking; comes = here; syn = m'.syn; acks_syn = m'.acks_syn } in
    takes net net' m n rest others alike x (TakesSynAck x) may.1.0 (subst (λ (w : Side). MayTakeSynAck w (unopened 0 ((net' m n).came ++ x ∷ [])) x) (sym (alike m n)) now) goes
goes_move net net' m n rest others (TakesAck x at) alike may goes =
    let m' : MayTakeAck (net m n).side (unopened 0 (net m n).came) x at = may.0 in
    let here : machine.Comes (unopened 0 ((net' m n).came ++ x ∷ [])) x = (length (net' m n).came, slice_get-last (net' m n).came x) in
    let now : MayTakeAck (net m n).side (unopened 0 ((net' m n).came ++ x ∷ [])) x at = record { connected = m'.connected; comes = here; no_reset = m'.no_reset; number = m'.number; opens = m'.opens; low = m'.low; high = m'.high } in
    takes net net' m n rest others alike x (TakesAck x at) may.1.0 (subst (λ (w : Side). MayTakeAck w (unopened 0 ((net' m n).came ++ x ∷ [])) x at) (sym (alike m n)) now) goes
goes_move net net' m n rest others (TakesBytes x at) alike may goes =
    let m' : MayTakeBytes (net m n).side (unopened 0 (net m n).came) x at = may.0 in
    let here : machine.Comes (unopened 0 ((net' m n).came ++ x ∷ [])) x = (length (net' m n).came, slice_get-last (net' m n).came x) in
    let now : MayTakeBytes (net m n).side (unopened 0 ((net' m n).came ++ x ∷ [])) x at = record { running = m'.running; unfinished = m'.unfinished; comes = here; kind = m'.kind; number = m'.number; near = m'.near } in
    takes net net' m n rest others alike x (TakesBytes x at) may.1.0 (subst (λ (w : Side). MayTakeBytes w (unopened 0 ((net' m n).came ++ x ∷ [])) x at) (sym (alike m n)) now) goes
goes_move net net' m n rest others (TakesFin x) alike may goes =
    let m' : MayTakeFin (net m n).side (unopened 0 (net m n).came) x = may.0 in
    let here : machine.Comes (unopened 0 ((net' m n).came ++ x ∷ [])) x = (length (net' m n).came, slice_get-last (net' m n).came x) in
    let now : MayTakeFin (net m n).side (unopened 0 ((net' m n).came ++ x ∷ [])) x = record { running = m'.running; unfinished = m'.unfinished; comes = here; fin = m'.fin; next = m'.next } in
    takes net net' m n rest others alike x (TakesFin x) may.1.0 (subst (λ (w : Side). MayTakeFin w (unopened 0 ((net' m n).came ++ x ∷ [])) x) (sym (alike m n)) now) goes
goes_move net net' m n rest others Listens alike may goes =
    simple net net' m n rest others alike Listens (subst (λ (w : Side). May w (unopened 0 (net' m n).came) Listens) (sym (alike m n)) may.0) goes
goes_move net net' m n rest others (Connects iss) alike may goes =
    simple net net' m n rest others alike (Connects iss) (subst (λ (w : Side). May w (unopened 0 (net' m n).came) (Connects iss)) (sym (alike m n)) may.0) goes
goes_move net net' m n rest others (Writes bytes) alike may goes =
    simple net net' m n rest others alike (Writes bytes) (subst (λ (w : Side). May w (unopened 0 (net' m n).came) (Writes bytes)) (sym (alike m n)) may.0) goes
goes_move net net' m n rest others (Reads count) alike may goes =
    simple net net' m n rest others alike (Reads count) (subst (λ (w : Side). May w (unopened 0 (net' m n).came) (Reads count)) (sym (alike m n)) may.0) goes
goes_move net net' m n rest others Closes alike may goes =
    simple net net' m n rest others alike Closes (subst (λ (w : Side). May w (unopened 0 (net' m n).came) Closes) (sym (alike m n)) may.0) goes
goes_move net net' m n rest others Ends alike may goes =
    simple net net' m n rest others alike Ends (subst (λ (w : Side). May w (unopened 0 (net' m n).came) Ends) (sym (alike m n)) may.0) goes
goes_move net net' m n rest others FallsBack alike may goes =
    simple net net' m n rest others alike FallsBack (subst (λ (w : Side). May w (unopened 0 (net' m n).came) FallsBack) (sym (alike m n)) may.0) goes
goes_move net net' m n rest others SendsSyn alike may goes =
    simple net net' m n rest others alike SendsSyn (subst (λ (w : Side). May w (unopened 0 (net' m n).came) SendsSyn) (sym (alike m n)) may.0) goes
goes_move net net' m n rest others SendsSynAck alike may goes =
    simple net net' m n rest others alike SendsSynAck (subst (λ (w : Side). May w (unopened 0 (net' m n).came) SendsSynAck) (sym (alike m n)) may.0) goes
goes_move net net' m n rest others (SendsAck at) alike may goes =
    simple net net' m n rest others alike (SendsAck at) (subst (λ (w : Side). May w (unopened 0 (net' m n).came) (SendsAck at)) (sym (alike m n)) may.0) goes
goes_move net net' m n rest others (SendsData at count fin) alike may goes =
    simple net net' m n rest others alike (SendsData at count fin) (subst (λ (w : Side). May w (unopened 0 (net' m n).came) (SendsData at count fin)) (sym (alike m n)) may.0) goes
goes_move net net' m n rest others SendsKeepAlive alike may goes =
    simple net net' m n rest others alike SendsKeepAlive (subst (λ (w : Side). May w (unopened 0 (net' m n).came) SendsKeepAlive) (sym (alike m n)) may.0) goes
goes_move net net' m n rest others (SendsReset x) alike may goes =
    simple net net' m n rest others alike (SendsReset x) (subst (λ (w : Side). May w (unopened 0 (net' m n).came) (SendsReset x)) (sym (alike m n)) may.0) goes

goes_history : (net : Net) (history : List NetEvent) → IsTakenNet net history → Goes net history (strict history)
goes_history net [] is net' alike = (tt, alike)
goes_history net (h ∷ rest) is net' alike = by h.event is.0 (goes_history (goes_on net h) rest is.1) where
  by : (event : Event) → MayTakeHere (net h.local h.remote) (net h.remote h.local).side event → Goes (goes_on net (event_at h.local h.remote event)) rest (strict rest) →
      IsNetHistory net' (strict (event_at h.local h.remote event ∷ rest))
      × Alike (play_all net (event_at h.local h.remote event ∷ rest)) (play_all net' (strict (event_at h.local h.remote event ∷ rest)))
  by (Comes x) may goes = goes net' (alike_comes net net' h.local h.remote x alike)
  by (Does move) may goes = goes_move net net' h.local h.remote rest (strict rest) move alike may goes

pub taken_net_safe :
    (rooms : ℕ → ℕ → ℕ) (resets : ℕ → ℕ → List Segment) (history : List NetEvent) → AllResets resets → IsTakenNet (begin_all rooms resets) history
    → (l r : ℕ) →
    AreSafe (record { a = (play_all (begin_all rooms resets) history l r).side; b = (play_all (begin_all rooms resets) history r l).side })
taken_net_safe rooms resets history all is l r =
    let begun = begin_all rooms resets in
    let g = goes_history begun history is begun (λ l r. refl) in
    let safe = (net_peers rooms resets all (strict history) g.0 l r).streams in
    let there = (play_all begun (strict history) r l).side in
    subst (λ (w : Side). AreSafe (record { a = (play_all begun history l r).side; b = w })) (g.1 r l)
    (subst (λ (w : Side). AreSafe (record { a = w; b = there })) (g.1 l r) safe)
