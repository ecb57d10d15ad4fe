-- Runs of one side with an event more, and beside an end that has said more.
use Rattle.std.proofs.Common.{◌≡◌, List, [], ◌∷◌, ◌++◌, refl}
use Rattle.tcp_theory.specs.Segment.{Segment}
use Rattle.tcp_theory.specs.Move.{Move}
use Rattle.tcp_peer.specs.Peer.{End, IsHonest}
use Rattle.tcp_peer.specs.Run.{Scene, Event, MayHappen, IsRun, run, happens}
use Rattle.tcp_peer.specs.Run.Event.{Comes, Does}

pub run-last : (w : Scene) (events : List Event) (event : Event) → run w (events ++ event ∷ []) ≡ happens (run w events) event
run-last w [] event = refl
run-last w (first ∷ events) event = run-last (happens w first) events event

pub IsRun-last : (peer : End) (w : Scene) (events : List Event) (event : Event) → IsRun peer w events → MayHappen peer (run w events) event →
    IsRun peer w (events ++ event ∷ [])
IsRun-last peer w [] event is_run may = (may, tt)
IsRun-last peer w (first ∷ events) event is_run may = (is_run.0, IsRun-last peer (happens w first) events event is_run.1 may)

-- each segment that comes in these events
abbrev pub AllCome : (Segment → Type 0) → List Event → Type 0
AllCome P [] = Unit {0}
AllCome P (Comes x ∷ events) = P x × AllCome P events
AllCome P (Does move ∷ events) = AllCome P events

pub AllCome-map : (P Q : Segment → Type 0) → ((x : Segment) → P x → Q x) → (events : List Event) → AllCome P events → AllCome Q events
AllCome-map P Q leads [] h = tt
AllCome-map P Q leads (Comes x ∷ events) h = (leads x h.0, AllCome-map P Q leads events h.1)
AllCome-map P Q leads (Does move ∷ events) h = AllCome-map P Q leads events h

pub AllCome-does : (P : Segment → Type 0) (events : List Event) (move : Move) → AllCome P events → AllCome P (events ++ Does move ∷ [])
AllCome-does P [] move h = tt
AllCome-does P (Comes x ∷ events) move h = (h.0, AllCome-does P events move h.1)
AllCome-does P (Does first ∷ events) move h = AllCome-does P events move h

pub AllCome-comes : (P : Segment → Type 0) (events : List Event) (x : Segment) → AllCome P events → P x → AllCome P (events ++ Comes x ∷ [])
AllCome-comes P [] x h last = (last, tt)
AllCome-comes P (Comes first ∷ events) x h last = (h.0, AllCome-comes P events x h.1 last)
AllCome-comes P (Does first ∷ events) x h last = AllCome-comes P events x h last

-- where what came is honest of another end, too
pub IsRun-map :
    (peer peer' : End) (P : Segment → Type 0)
    → ((x : Segment) → P x → (other : End) (theirs : List Segment) → IsHonest peer other theirs x → IsHonest peer' other theirs x)
    → (w : Scene) (events : List Event) → AllCome P events → IsRun peer w events
    → IsRun peer' w events
IsRun-map peer peer' P leads w [] all is_run = tt
IsRun-map peer peer' P leads w (Comes x ∷ events) all is_run =
    (leads x all.0 _ _ is_run.0, IsRun-map peer peer' P leads (happens w (Comes x)) events all.1 is_run.1)
IsRun-map peer peer' P leads w (Does move ∷ events) all is_run =
    (is_run.0, IsRun-map peer peer' P leads (happens w (Does move)) events all is_run.1)
