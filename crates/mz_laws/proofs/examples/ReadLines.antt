-- What lines say, by computation.
use lib.Utf8.{encode}
use Rattle.std.specs.Str.{chars, is_utf8}
use Rattle.std.proofs.Common.{refl}
use Rattle.mz_laws.specs.examples.Lines.{SessionLines, WordLines, ReplicaLines, Numbers, Ends}

pub session_lines : SessionLines
unfolding chars is_utf8 encode
session_lines = refl

pub word_lines : WordLines
unfolding chars is_utf8 encode
word_lines = refl

pub replica_lines : ReplicaLines
unfolding chars is_utf8 encode
replica_lines = refl

pub numbers : Numbers
unfolding chars is_utf8 encode
numbers = refl

pub ends : Ends
unfolding chars is_utf8 encode
ends = refl
