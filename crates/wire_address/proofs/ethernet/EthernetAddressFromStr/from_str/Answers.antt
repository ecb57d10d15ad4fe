use Rattle.std.proofs.Common.{ap, inl, inr, Ok}
use Rattle.wire_address.specs.Text.{IsEthernetText}
use Rattle.wire_address.proofs.Texts.{Reads-ok_or, IfSome-map, IsSixPairs-apart, some_inside}
use Rattle.wire_address.proofs.ethernet.EthernetAddressFromStr.from_str.Goals as goal

pub returns-in-Some : goal.returns-in-Some
returns-in-Some c = (
  inl c.in-Some.ensures.found,
  λ a h. elim h [
    | inl six ↦ ap Ok (some_inside _ _ (c.in-Some.ensures.only a six))
    | inr six ↦ absurd (IsSixPairs-apart c.args.s.now _ a.0 c.in-Some.ensures.found six)
  ],
)

pub returns-in-None : goal.returns-in-None
returns-in-None c =
    Reads-ok_or IsEthernetText c.args.s.now c.six_bytes-in-None.result _ _ c.ok_or.ensures.value
    (IfSome-map _ _ c.six_bytes-in-None.result (λ a six. inr six) c.six_bytes-in-None.ensures.found)
    (λ a h. elim h [
      | inl six ↦ (let no = c.in-None.ensures.only a six in absurd (cc))
      | inr six ↦ c.six_bytes-in-None.ensures.only a six
    ])
