-- Codes of errors and the reasons that they stand for.
use Rattle.std.proofs.Common.{◌≡◌, ℕ, arith}
use Rattle.wire_icmpv6.specs.Reason.{unreachable_code, unreachable_of, exceeded_code, exceeded_of, problem_code, problem_of}

pub unreachable_code-unreachable_of : (n : ℕ) → unreachable_code (unreachable_of n) ≡ n
unreachable_code-unreachable_of n = search arith

pub exceeded_code-exceeded_of : (n : ℕ) → exceeded_code (exceeded_of n) ≡ n
exceeded_code-exceeded_of n = search arith

pub problem_code-problem_of : (n : ℕ) → problem_code (problem_of n) ≡ n
problem_code-problem_of n = search arith
