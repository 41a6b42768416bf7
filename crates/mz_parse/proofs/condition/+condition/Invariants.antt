use Rattle.std.proofs.Common.{◌+◌, ◌*◌, length}
use Rattle.mz_grammar.specs.declared.key.Key.TheVariants as k
use Rattle.mz_parse.specs.Reading.{atom_at, conjunction_at, listed}
use Rattle.mz_parse.proofs.Turns.{SoFar}
use Rattle.mz_parse.proofs.condition.+condition.Given as goal

-- a call is lower in the grammar, or opens one more
abbrev pub decreases-atom : goal.decreases-atom
decreases-atom l = 5 * l.depth

abbrev pub decreases-atoms : goal.decreases-atoms
decreases-atoms l = 5 * l.depth + 1

abbrev pub decreases-conjunction : goal.decreases-conjunction
decreases-conjunction l = 5 * l.depth + 2

abbrev pub decreases-conjunctions : goal.decreases-conjunctions
decreases-conjunctions l = 5 * l.depth + 3

abbrev pub decreases-disjunction : goal.decreases-disjunction
decreases-disjunction l = 5 * l.depth + 4

-- what was read, with what is still to be read, is the list
abbrev pub invariant-atoms-members : goal.invariant-atoms-members
invariant-atoms-members l = SoFar k.And (atom_at l.fn.depth) l.list.items (length l.initial.rest) l.counter l.rest (listed k.And (atom_at l.fn.depth) l.fn.tokens)

-- what was read, with what is still to be read, is the list
abbrev pub invariant-conjunctions-members : goal.invariant-conjunctions-members
invariant-conjunctions-members l = SoFar k.Or (conjunction_at (atom_at l.fn.depth)) l.list.items (length l.initial.rest) l.counter l.rest (listed k.Or (conjunction_at (atom_at l.fn.depth)) l.fn.tokens)
