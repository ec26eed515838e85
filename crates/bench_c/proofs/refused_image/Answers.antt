-- `bench_c::refused_image` meets its contract. Assumes nothing.
use Prim.Native.Nat.{ℕ, ◌+◌}
use mathlib.Core.Path.{ap}
use Rattle.bench_c.proofs.refused_image.Goals as goal

pub returns-in-First : goal.returns-in-First
returns-in-First c = rw c.in-First.is (ap (λ (code : ℕ). 1_099_511_627_776 + code) c.refused-code.ensures)

pub returns-in-Second : goal.returns-in-Second
returns-in-Second c = rw c.in-Second.is (ap (λ (code : ℕ). 2_199_023_255_552 + code) c.refused-code.ensures)
