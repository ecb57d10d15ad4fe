use Rattle.std.proofs.Common.{◌≡◌, ℕ, true, false, Result, Ok, Err, Some, sym, ap, ◌∙◌}
use Rattle.wire_dns.specs.declared.question.DnsQuestion.{DnsQuestion}
use Rattle.socket_datagram.specs.DnsClient.Replies.{repeats}
use Rattle.socket_datagram.proofs.dns.answer.reply_to.Goals as goal

abbrev question_in : {E : Type 0} → DnsQuestion → Result (DnsQuestion × ℕ) E → DnsQuestion
question_in q (Ok p) = p.0
question_in q (Err e) = q

abbrev end_in : {E : Type 0} → ℕ → Result (DnsQuestion × ℕ) E → ℕ
end_in n (Ok p) = p.1
end_in n (Err e) = n

same_question : {E : Type 0} (a b : DnsQuestion) (m n : ℕ) (read : Result (DnsQuestion × ℕ) E) → read ≡ Ok (a, m) → read ≡ Ok (b, n) → (a ≡ b) × (m ≡ n)
same_question {E} a b m n read one two =
    (sym (ap (question_in {E = E} a) one) ∙ ap (question_in {E = E} a) two, sym (ap (end_in {E = E} m) one) ∙ ap (end_in {E = E} m) two)

pub returns-then-repeats-clause-none : goal.returns-then-repeats-clause-none
returns-then-repeats-clause-none c = λ at is.
    let same = same_question c.in-Ok.question is.question c.in-Ok.at at c.parse.result c.in-Ok.is (c.parse.ensures.only is.question at is.stands) in
    ap Some same.1

pub returns-else-repeats-clause-none : goal.returns-else-repeats-clause-none
returns-else-repeats-clause-none c = λ at is.
    let same = same_question c.in-Ok.question is.question c.in-Ok.at at c.parse.result c.in-Ok.is (c.parse.ensures.only is.question at is.stands) in
    let repeated : repeats c.in-Ok.question c.args.query.now.question ≡ true = ap (λ (q : DnsQuestion). repeats q c.args.query.now.question) same.0 ∙
    is.repeated in
    let other : false ≡ true = sym c.if-repeats.false ∙ c.repeats.ensures ∙ repeated in
    absurd (cc other)

pub returns-in-Err-clause-none : goal.returns-in-Err-clause-none
returns-in-Err-clause-none c = λ at is.
    let other = sym c.in-Err.is ∙ c.parse.ensures.only is.question at is.stands in
    absurd (cc other)
