-- One turn, before the turns that are left.
use Rattle.std.proofs.Common.{◌≡◌, ℕ, suc, ◌+◌, ◌<◌, Bool, ◌||◌, inl, inr, List, [], ◌∷◌, ◌++◌, Option, length, get_or, take, drop, sym, ap, ◌∙◌, subst, arith}
use Rattle.std.proofs.Math.ListN.{set}
use Rattle.std.proofs.Math.Seq.{drop-cons, take-suc-set}
use Rattle.std.proofs.lemmas.List.{drop-set-lt, set_split}
use Rattle.net_base.specs.Device.{Move}
use Rattle.ip_wire.specs.IpAddress.{IpAddress}
use Rattle.iface_ingress.specs.Socket.{Socket}
use Rattle.iface_egress.specs.declared.socket_set.SocketStorage.{SocketStorage}
use Rattle.interface.specs.Host.{Sender}
use Rattle.interface.specs.Pass.{Pass, Passed, passed}
use Rattle.interface.specs.Serve.{ServesSlot}
use Rattle.interface.specs.declared.serve.Served.TheVariants as Turn

module _ {D : Type 0} (moves : D → Move → D →
    Type 0) (turn : Option IpAddress) (s mid : Sender D) (ps : List (SocketStorage Socket)) (at : ℕ) (p p' : SocketStorage Socket) (changed b : Bool)
    (within : at < length ps) (is : p ≡ get_or ps at p) where
  front : drop at ps ≡ p ∷ drop (suc at) ps
  front = drop-cons ps at p within ∙ ap (λ (x : SocketStorage Socket). x ∷ drop (suc at) ps) (sym is)

  pub pass_next : (flag : Bool) → flag ≡ (changed || b) → (e : Passed D) → ServesSlot moves turn s p (Turn.Next b) mid p'
      → Pass moves turn mid (take (at + 1) (set ps at p')) flag (drop (at + 1) (set ps at p')) e → Pass moves turn s (take at ps) changed (drop at ps) e
  pass_next flag is_flag e took rest =
      let one : at + 1 ≡ suc at = omega arith in
      let old : drop (suc at) (set ps at p') ≡ drop (suc at) ps = drop-set-lt (suc at) ps at p' (omega arith) in
      let done : take (suc at) (set ps at p') ≡ take at ps ++ p' ∷ [] = take-suc-set ps at p' within in
      let here : Pass moves turn mid (take (suc at) (set ps at p')) (changed || b) (drop (suc at) (set ps at p')) e =
      subst (λ (f : Bool). Pass moves turn mid (take (suc at) (set ps at p')) f (drop (suc at) (set ps at p')) e) is_flag
      (subst (λ (n : ℕ). Pass moves turn mid (take n (set ps at p')) flag (drop n (set ps at p')) e) one rest) in
      let next : Pass moves turn mid (take at ps ++ p' ∷ []) (changed || b) (drop (suc at) ps) e =
      subst (λ (xs : List (SocketStorage Socket)). Pass moves turn mid xs (changed || b) (drop (suc at) ps) e) done
      (subst (λ (xs : List (SocketStorage Socket)). Pass moves turn mid (take (suc at) (set ps at p')) (changed || b) xs e) old here) in
      subst (λ (xs : List (SocketStorage Socket)). Pass moves turn s (take at ps) changed xs e) (sym front) (inl (b, mid, p', took, next))

  pub pass_stop : (flag : Bool) → flag ≡ (changed || b) → ServesSlot moves turn s p (Turn.Stop b) mid p' →
      Pass moves turn s (take at ps) changed (drop at ps) (passed mid (set ps at p') flag)
  pass_stop flag is_flag took =
      let same : set ps at p' ≡ take at ps ++ p' ∷ drop (suc at) ps = set_split ps at p' within in
      subst (λ (xs : List (SocketStorage Socket)). Pass moves turn s (take at ps) changed xs (passed mid (set ps at p') flag)) (sym front)
      (inr (
        b,
        mid,
        p',
        took,
        ap (λ (xs : List (SocketStorage Socket)). passed mid xs flag) same ∙
            ap (λ (f : Bool). passed mid (take at ps ++ p' ∷ drop (suc at) ps) f) is_flag,
      ))
