use Rattle.std.proofs.Common.{ap, sym, subst, ◌∙◌, ◌==◌, cond, IsSome, nat_cmp}
use Rattle.std.specs.BTreeMap.{get}
use Rattle.mz_history.proofs.Naming.{last_found, named_push, no_line, put_back_is}
use Rattle.mz_history.proofs.named.unname.Goals as goal

-- the line's own collection is found
pub put_back-requires : goal.put_back-requires
put_back-requires c =
    subst IsSome (sym (c.requires.each c.in-Some.collection))
    (last_found c.args.lines.now c.args.line.now c.in-Some.collection (sym c.in-Some.is ∙ c.collection_of.ensures))

-- and is put back
pub returns-in-Some : goal.returns-in-Some
returns-in-Some c = record {
  each = λ n. c.put_back.ensures n
      ∙ ap (λ o. cond (c.in-Some.collection == n) o (get nat_cmp c.args.told.now n)) c.named_in.ensures
      ∙ put_back_is c.args.lines.now c.args.line.now c.in-Some.collection (sym c.in-Some.is ∙ c.collection_of.ensures) n (get nat_cmp c.args.told.now n) (c.requires.each n);
}

-- a line that names none changes nothing
pub returns-in-None : goal.returns-in-None
returns-in-None c = record {
  each = λ n. c.requires.each n ∙ named_push n c.args.lines.now c.args.line.now ∙ no_line c.args.line.now (sym c.in-None.is ∙ c.collection_of.ensures) n _;
}
