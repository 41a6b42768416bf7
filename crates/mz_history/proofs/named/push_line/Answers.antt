use Rattle.std.proofs.Common.{◌≡◌, ◌++◌, ◌∷◌, [], ap, sym, ◌∙◌}
use Rattle.mz_rules.specs.Streams.{told_where_named}
use Rattle.mz_history.specs.Lines.{after_line}
use Rattle.mz_history.proofs.Naming.{named_push}
use Rattle.mz_history.proofs.named.push_line.Goals as goal

-- what the line names is found too
pub returns-clause-found : goal.returns-clause-found
returns-clause-found c =
    let pushed : c.push.new.self.items ≡ c.reserve.new.self.items ++ c.args.line ∷ [] = rw c.unwrap.ensures at c.push.ensures.items in
    let is : c.push.new.self.items ≡ c.args.lines.now.items ++ c.args.line ∷ [] = pushed ∙ ap (λ xs. xs ++ c.args.line ∷ []) c.reserve.ensures.items in
    record {
      each = λ n. c.in_ok-name_line.ensures.ok n ∙ ap (after_line c.args.line n) (c.requires.each n) ∙ sym (named_push n c.args.lines.now.items c.args.line)
          ∙ ap (told_where_named n) (sym is);
    }
