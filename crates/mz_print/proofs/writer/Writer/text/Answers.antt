use Rattle.std.proofs.Common.{refl, rules}
use Rattle.mz_print.specs.Piece.{Text}
use Rattle.mz_print.proofs.Writing.{next_written}
use Rattle.mz_print.proofs.writer.Writer.text.Goals as goal

-- the text in quotes stands behind the space
pub returns : goal.returns
returns c = λ rest. next_written _ _ (Text c.args.text.now) rest _ (c.is_spaced.ensures (Text c.args.text.now) refl refl) (search rules) refl
