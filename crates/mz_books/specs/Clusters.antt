-- Clusters: groups of replicas. Each index, and each collection of a read, belongs to one.
use Rattle.std.specs.Prelude.{ℕ, List, [], ◌∷◌, ◌++◌, codes}
use Rattle.mz_log.specs.declared.entry.Entry.TheVariants.{Cluster}
use Rattle.mz_log.specs.Log.{Log}

-- the names of the clusters in the order in which they were added; the number of one is its position, counted from 0
abbrev pub clusters : Log → List (List ℕ)
clusters [] = codes "main" ∷ []
clusters (Cluster name ∷ log) = clusters log ++ name ∷ []
clusters (entry ∷ log) = clusters log

-- the cluster in which a session's statements are carried out. It is `main` for every session, since no text spells a SET CLUSTER
abbrev pub cluster_of : Log → ℕ → ℕ
cluster_of log session = 0
