-- Whether an opened socket has a peer can be told.
use Rattle.std.proofs.Common.{◌≡◌, ◌≢◌, ◌⊎◌, inl, inr, ℕ, zero, suc, ◌<◌, ◌==◌, Bool, true, false, List, [], ◌∷◌, length, Option, Some, None, refl, sym, ap}
use Rattle.std.proofs.Common.{◌∙◌, subst, arith}
use Rattle.std.proofs.lemmas.Bool.Decides.{eqb_tells}
use Rattle.lan.specs.declared.at_link.history.event.Side.{Side}
use Rattle.lan.specs.declared.at_link.history.record.Opening.{Opening}
use Rattle.lan.specs.Worlds.AtLink.Kinds.{other}
use Rattle.lan.specs.Worlds.AtLink.History.{Entry, opening}
use Rattle.lan.specs.Worlds.AtLink.PeerSides.{are_paired, ArePartners}
use Rattle.lan.specs.Worlds.AtLink.Tables.{Slots, kinds, AreAllowed}
use Rattle.lan.specs.declared.at_link.history.answer.Answer.{Answer}
use Rattle.lan.specs.declared.at_link.history.answer.Answer.TheVariants as To
use Rattle.lan.specs.declared.at_link.history.record.SocketKind.{SocketKind}
use Rattle.lan.specs.declared.at_link.history.record.SocketKind.TheVariants as Of
use Rattle.lan.specs.Worlds.AtLink.Call as Call
use Rattle.lan.specs.Worlds.AtLink.Call.{SocketCall}
use Rattle.lan.specs.Worlds.AtLink.History.{opening_by}
use Rattle.lan.specs.Worlds.AtLink.Kinds.{Kind, kind_of}
use Rattle.lan.specs.Worlds.AtLink.Tables.{kind_at, is_wrong_kind, IsAllowed}
use Rattle.lan.proofs.Worlds.AtLink.PeerSideLemmas.{opened_slot, OpensNow, opening_cases, was_taken}
use Rattle.lan.proofs.Worlds.AtLink.Speaking.{same_opening}

-- a socket of this host that is paired with an opening
pub record IsPairedAt (h : List Entry) (side : Side) (o : Opening) : Type 0 where
  pub slot : ℕ
  pub by : Opening
  pub opened : opening h side slot ≡ Some by
  pub paired : are_paired o by ≡ true

-- none below this slot is
abbrev NoneBelow : List Entry → Side → Opening → ℕ → Type 0
NoneBelow h side o n = (j : ℕ) (p : Opening) → j < n → opening h side j ≡ Some p → are_paired o p ≡ false

one_more : (h : List Entry) (side : Side) (o : Opening) (n : ℕ) → NoneBelow h side o n → ((p : Opening) → opening h side n ≡ Some p → are_paired o p ≡ false) →
    NoneBelow h side o (suc n)
one_more h side o n below here = λ j p less is. by j p less is (eqb_tells j n) where
  by : (j : ℕ) (p : Opening) → j < suc n → opening h side j ≡ Some p → (((j == n) ≡ true) × (j ≡ n)) ⊎ (((j == n) ≡ false) × (j ≢ n)) → are_paired o p ≡ false
  by j p less is (inl same) = here p (ap (λ (j : ℕ). opening h side j) (sym same.1) ∙ is)
  by j p less is (inr apart) = let differs : j ≢ n = apart.1 in below j p (omega arith) is

search_below : (h : List Entry) (side : Side) (o : Opening) (n : ℕ) → IsPairedAt h side o ⊎ NoneBelow h side o n
search_below h side o zero = inr (λ j p less is. absurd (omega arith))
search_below h side o (suc n) = by (search_below h side o n) (opening h side n) refl where
  at_index : (p : Opening) (t : Bool) → are_paired o p ≡ t → opening h side n ≡ Some p → NoneBelow h side o n → IsPairedAt h side o ⊎ NoneBelow h side o (suc n)
  at_index p true e is below = inl (record { slot = n; by = p; opened = is; paired = e })
  at_index p false e is below = inr (one_more h side o n below (λ p' is'. ap (are_paired o) (same_opening p' p (sym is' ∙ is)) ∙ e))

  by : IsPairedAt h side o ⊎ NoneBelow h side o n → (at : Option Opening) → opening h side n ≡ at → IsPairedAt h side o ⊎ NoneBelow h side o (suc n)
  by (inl found) at is = inl found
  by (inr below) None is = inr (one_more h side o n below (λ p is'. absurd (let clash : None ≡ Some p = sym is ∙ is' in cc)))
  by (inr below) (Some p) is = at_index p (are_paired o p) refl is below

pub find_peer_side :
    (slots : Slots) (h : List Entry) (side : Side) (i : ℕ) (o : Opening) → AreAllowed slots h → opening h side i ≡ Some o
    → ((j : ℕ) × ArePartners h side i j) ⊎ ((j : ℕ) → ¬ (ArePartners h side i j))
find_peer_side slots h side i o allowed opened = by (search_below h (other side) o (length (kinds slots (other side)))) where
  by : IsPairedAt h (other side) o ⊎ NoneBelow h (other side) o (length (kinds slots (other side))) → ((j : ℕ) × ArePartners h side i j) ⊎
      ((j : ℕ) → ¬ (ArePartners h side i j))
  by (inl found) = inl (found.slot, record { one = o; another = found.by; opened = opened; peer_side_opened = found.opened; paired = found.paired })
  by (inr none) = inr (λ j a.
      let apart = none j a.another (opened_slot slots h (other side) j a.another allowed a.peer_side_opened) a.peer_side_opened in
      let paired = ap (λ (o : Opening). are_paired o a.another) (same_opening a.one o (sym a.opened ∙ opened)) in
      let clash : true ≡ false = sym a.paired ∙ paired ∙ apart in
      cc)

-- what is opened is a TCP socket
tcp_opens : (kind : SocketKind) (call : SocketCall) (answer : Answer) (o : Opening) → opening_by (Some call) answer ≡ Some o →
    is_wrong_kind (Some kind) call ≡ false → kind ≡ Of.Tcp
tcp_opens Of.Tcp call answer o e right = refl
tcp_opens kind (Call.Listen port) answer o e right = absurd (cc)
tcp_opens kind (Call.Connect remote port) answer o e right = absurd (cc)
tcp_opens kind call answer o e right = absurd (cc)

pub opened_tcp : (slots : Slots) (h : List Entry) (side : Side) (i : ℕ) (o : Opening) → AreAllowed slots h → opening h side i ≡ Some o →
    kind_at slots side i ≡ Some Of.Tcp
opened_tcp slots [] side i o allowed opened = absurd (cc)
opened_tcp slots (e ∷ past) side i o allowed opened = by (opening_cases past e side i o opened) (opened_tcp slots past side i o allowed.1) where
  by : (opening past side i ≡ Some o) ⊎ OpensNow past e side i o → (opening past side i ≡ Some o → kind_at slots side i ≡ Some Of.Tcp) →
      kind_at slots side i ≡ Some Of.Tcp
  by (inl was) before = before was
  by (inr now) before =
      let w = was_taken slots past side i now.call (subst (λ (kind : Kind). IsAllowed slots past kind) now.kind allowed.0) in
      w.there ∙ ap (λ (k : SocketKind). Some k) (tcp_opens w.kind now.call e.answer o now.opened w.right)
