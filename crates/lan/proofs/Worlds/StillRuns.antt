-- A run of a world in which both hosts stay is a plain run of moves.
use Rattle.std.proofs.Common.{◌≡◌, ℕ, ℤ, ◌≤ℤ◌, Bool, false, List, [], ◌∷◌, ◌++◌, Some, None, refl, sym, ap, ◌∙◌, subst, arith}
use Rattle.std.specs.Prelude.{pos}
use Rattle.std.specs.List.{list_any}
use Rattle.std.proofs.lemmas.Int.{ints}
use Rattle.ip_wire.specs.Cidr.{cidr_address}
use Rattle.iface_ingress.specs.AddressTests.{is_loopback}
use Rattle.iface_tables.specs.Inner.{InnerValue}
use Rattle.tcp_block.specs.Value.{TcpValue}
use Rattle.lan.specs.Worlds.AtLink.Initial.{IsInitialWorld}
use Rattle.lan.specs.Worlds.AtLink.History.{Entry}
use Rattle.lan.specs.Worlds.AtLink.Moves.{IsRun, Step, after, run}
use Rattle.lan.specs.Worlds.AtLink.Paired.{AreHosted, Seat, at_zero, clocks_after, clocks_in}
use Rattle.lan.specs.Worlds.AtLink.Parties.{Net, party, socket_at}
use Rattle.lan.specs.Worlds.AtLink.Parties.Socket.{Tcp}
use Rattle.lan.specs.Worlds.AtLink.PacketsSafe.{IsInitialParty}
use Rattle.lan.specs.Worlds.AtLink.Runs.{Starts}
use Rattle.lan.specs.Worlds.AtLink.Side.{Side}
use Rattle.lan.specs.Worlds.AtLink.Side.TheVariants.{A, B}
use Rattle.lan.specs.Worlds.AtLink.Node.{Nodes}
use Rattle.lan.specs.Worlds.Events.{AreTyped}
use Rattle.lan.specs.Worlds.Moves.Follows.{IsNetOf}
use Rattle.lan.specs.Worlds.Moves.Joined.{first_net}
use Rattle.lan.specs.Worlds.Still.{MovePlainly, StillRun, seats_of}
use Rattle.lan.proofs.Worlds.Moves.Calls.{names}
use Rattle.lan.proofs.Worlds.Moves.Worlds.{initial_net}
use Rattle.lan.proofs.Worlds.Runs.{came_on, has_come, held_run}
use Rattle.lan.proofs.Worlds.AtLink.Extended.{run-append}
use Rattle.lan.proofs.Worlds.StillOnward.{first, instants, now_still, ran}
use Rattle.lan.proofs.Worlds.StillPlain.{plain_run}
use Rattle.lan.proofs.Worlds.StillSources.{PairKeeps}

at_once : pos 0 ≤ℤ pos 0
at_once = omega (arith, ints)

run_rest : (names : List ℕ → Bool) (net : Net) (steps more : List Step) → IsRun names net (steps ++ more) → IsRun names (run net steps) more
run_rest names net [] more may = may
run_rest names net (step ∷ steps) more may = run_rest names (after net step) steps more may.1

hosted_rest : (seats : Side → Seat) (clocks : Side → ℤ) (net : Net) (steps more : List Step) → AreHosted seats clocks net (steps ++ more) →
    AreHosted seats (clocks_in seats clocks steps) (run net steps) more
hosted_rest seats clocks net [] more are = are
hosted_rest seats clocks net (step ∷ steps) more are = hosted_rest seats (clocks_after seats clocks step) (after net step) steps more are.2

module _ (starts : Starts) where
  -- no socket has a pair at first
  new_keeps : (i : InnerValue) (ports : ℕ → ℕ) (net : Net) (side : Side) → IsInitialParty ports (party net side) → (at : ℕ) (v : TcpValue) →
      socket_at (party net side) at ≡ Some (Tcp v) → PairKeeps i v.tcb.names.pair
  new_keeps i ports net side initial at v is pair some =
      absurd (let clash : None ≡ Some pair = sym (initial.sockets at (Tcp v) is).1.pair ∙ some in cc)

  first_keeps : IsInitialWorld starts → (side : Side) (at : ℕ) (v : TcpValue) → socket_at (party (first_net starts) side) at ≡ Some (Tcp v) →
      PairKeeps (first starts side) v.tcb.names.pair
  first_keeps initial A = new_keeps (first starts A) _ (first_net starts) A (initial_net starts initial).a
  first_keeps initial B = new_keeps (first starts B) _ (first_net starts) B (initial_net starts initial).b

  outward : (history : List Entry) (hosts : Nodes) → StillRun starts history hosts → (s : Side) →
      list_any (λ b. is_loopback (cidr_address b)) (first starts s).addresses ≡ false
  outward history hosts still s =
      let it = now_still starts history hosts still s in
      ap (list_any (λ b. is_loopback (cidr_address b))) (sym it.addresses) ∙ it.outward

  hosted : (history : List Entry) (hosts : Nodes) (initial : IsInitialWorld starts) (typed : AreTyped history) (still : StillRun starts history hosts)
      (slots : Side → ℕ)
      → AreHosted (seats_of starts slots) at_zero (first_net starts) (has_come starts history hosts initial typed (ran starts history hosts still)).steps
  hosted history hosts initial typed still slots =
      let came = has_come starts history hosts initial typed (ran starts history hosts still) in
      plain_run (first starts) (outward history hosts still) names (seats_of starts slots) (λ s. refl) at_zero at_zero (first_net starts) came.steps
      (instants starts hosts) came.may (held_run starts history hosts initial typed still) (first_keeps initial) (λ s. at_once)

  pub still_hosts_move_plainly : (past more : List Entry) (hosts : Nodes) → IsInitialWorld starts → AreTyped (more ++ past) →
      StillRun starts (more ++ past) hosts → (between : Nodes) × StillRun starts past between × MovePlainly starts past between (more ++ past) hosts
  still_hosts_move_plainly past more hosts initial typed still =
      let (between, typed_past, was, steps, is) = came_on starts past more hosts initial typed still in
      let one = has_come starts past between initial typed_past (ran starts past between was) in
      let all = has_come starts (more ++ past) hosts initial typed (ran starts (more ++ past) hosts still) in
      let net = first_net starts in
      let ends : all.net ≡ run (run net one.steps) steps = sym all.ends ∙ ap (run net) is ∙ run-append net one.steps steps in (
        between,
        was,
        record {
          before = one.steps;
          may = one.may;
          of = subst (λ (n : Net). IsNetOf n between past) (sym one.ends) one.of;
          hosted = hosted past between initial typed_past was;
          steps = steps;
          may_on = run_rest names net one.steps steps (subst (IsRun names net) is all.may);
          of_these = subst (λ (n : Net). IsNetOf n hosts (more ++ past)) ends all.of;
          hosted_on = λ slots. hosted_rest (seats_of starts slots) at_zero net one.steps steps
              (subst (AreHosted (seats_of starts slots) at_zero net) is (hosted (more ++ past) hosts initial typed still slots));
        },
      )
