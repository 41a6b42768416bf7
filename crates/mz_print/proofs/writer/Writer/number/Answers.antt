use Rattle.std.proofs.Common.{refl, rules}
use Rattle.mz_print.specs.Piece.{Number}
use Rattle.mz_print.proofs.Writing.{next_written}
use Rattle.mz_print.proofs.writer.Writer.number.Goals as goal

-- the digits stand behind the space
pub returns : goal.returns
returns c = λ rest. next_written _ _ (Number c.args.number) rest _ (c.is_spaced.ensures (Number c.args.number) refl refl) (search rules) refl
