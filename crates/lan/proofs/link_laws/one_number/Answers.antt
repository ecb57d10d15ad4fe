use Rattle.lan.proofs.Worlds.Link.Numbers.{one_number, one_number_v4}
use Rattle.lan.proofs.link_laws.one_number.Goals as goal

pub returns-clause-ipv4 : goal.returns-clause-ipv4
returns-clause-ipv4 c =
    λ first next out p q v w are few one other is_p is_q same. one_number_v4 first out next p q v w are few one other is_p is_q same

pub returns-clause-any : goal.returns-clause-any
returns-clause-any c = λ first next out p q number are few one other. one_number first out next p q number are few one other
