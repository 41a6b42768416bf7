-- Policies: how much of its past a collection keeps for its own sake.
use Rattle.std.specs.Prelude.{ℕ, ◌-◌, min, max}
use Rattle.mz_time.specs.declared.frontier.Frontier.{Frontier}
use Rattle.mz_time.specs.declared.frontier.Frontier.TheVariants.{At, Done}
use Rattle.mz_statement.specs.declared.statement.Keep.{Keep}
use Rattle.mz_statement.specs.declared.statement.Keep.TheVariants.{Lag, From, Stay}

-- the time that a policy wants kept of a collection that has come so far, where this one was kept before: so many times behind the
-- upper, a fixed time but always one that is readable, or the one before
abbrev pub capability : Keep → ℕ → ℕ → ℕ
capability (Lag n) upper old = upper - n
capability (From t) upper old = min t (upper - 1)
capability Stay upper old = old

-- the implied capability once the policy had its say: it never goes back. What is kept for nobody stays so
abbrev pub raised : Keep → ℕ → Frontier → Frontier
raised keep upper Done = Done
raised keep upper (At old) = At (max old (capability keep upper old))
