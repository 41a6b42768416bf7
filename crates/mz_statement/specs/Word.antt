-- The words that are no names, and what a name of a statement is.
use Rattle.std.specs.Prelude.{ℕ, Bool, ◌≡◌, true, false, List, [], ◌∷◌, Option, codes, bytes_eq, IfSome}
use Rattle.std.specs.List.{list_any}
use Rattle.mz_value.specs.Name.{is_name}

-- the words that have a meaning of their own everywhere, with their letters lowered
abbrev pub reserved_words : List (List ℕ)
reserved_words =
    codes "select" ∷ codes "distinct" ∷ codes "from" ∷ codes "join" ∷ codes "on" ∷ codes "where" ∷ codes "group"
    ∷ codes "by" ∷ codes "union" ∷ codes "all" ∷ codes "as" ∷ codes "of" ∷ codes "and" ∷ codes "or" ∷ codes "not"
    ∷ codes "true" ∷ codes "false" ∷ codes "create" ∷ codes "table" ∷ codes "view" ∷ codes "index" ∷ codes "drop"
    ∷ codes "insert" ∷ codes "into" ∷ codes "values" ∷ codes "delete" ∷ codes "begin" ∷ codes "commit"
    ∷ codes "retain" ∷ codes "show" ∷ []

-- the word is one of them
abbrev pub is_reserved : List ℕ → Bool
is_reserved word = list_any (bytes_eq word) reserved_words

-- a name of a statement is a name that isn't reserved
pub record IsName (word : List ℕ) : Type 0 where
  pub name : is_name word ≡ true
  pub free : is_reserved word ≡ false

-- where there is a name, it is one of a statement
abbrev pub IsMaybeName : Option (List ℕ) → Type 0
IsMaybeName name = IfSome name IsName
