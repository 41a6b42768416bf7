-- What is read of the text of a line is heard.
use Rattle.mz_script.specs.Lines.{text_says}
use Rattle.mz_script.proofs.HeardLemmas.{read_heard, text_heard}
use Rattle.mz_script.proofs.reading.read_line.Goals as goal

pub returns-clause-heard : goal.returns-clause-heard
returns-clause-heard c = read_heard (text_says c.without_return-bytes.result.now) c.text.result c.text.ensures (text_heard c.without_return-bytes.result.now)
