use Rattle.std.proofs.Common.{[], ◌∷◌, ◌++◌, ap, ◌∙◌, subst}
use Rattle.scopes.specs.Stack.{last_at, AreLinked}
use Rattle.scopes.specs.Rows.{has_name, has_number, is_named_like, is_numbered_like}
use Rattle.scopes.specs.declared.row.Row.{Row}
use Rattle.scopes.proofs.Stacks.{linked_front, linked_last}
use Rattle.scopes.proofs.Kept.{name_popped, number_popped, last_name_found, last_number_found}
use Rattle.scopes.proofs.scope.Scope.pop.Goals as goal

pub go_back-requires : goal.go_back-requires
go_back-requires c = last_name_found c.args.self.now.by_name c.pop.new.self.items c.in-Some.row (λ k. c.args.self.now.named k ∙ ap (last_at (has_name k)) c.in-Some.ensures.items)

pub go_back-requires-2 : goal.go_back-requires-2
go_back-requires-2 c = last_number_found c.args.self.now.by_number c.pop.new.self.items c.in-Some.row (λ k. c.args.self.now.numbered k ∙ ap (last_at (has_number k)) c.in-Some.ensures.items)

pub invariant_of-self-2 : goal.invariant_of-self-2
invariant_of-self-2 c =
    let by_names : AreLinked is_named_like (λ (row : Row). row.outer_name) (c.pop.new.self.items ++ c.in-Some.row ∷ []) = subst (AreLinked is_named_like (λ (row : Row). row.outer_name)) c.in-Some.ensures.items c.args.self.now.names_linked in
    let by_numbers : AreLinked is_numbered_like (λ (row : Row). row.outer_number) (c.pop.new.self.items ++ c.in-Some.row ∷ []) = subst (AreLinked is_numbered_like (λ (row : Row). row.outer_number)) c.in-Some.ensures.items c.args.self.now.numbers_linked in
    record {
      named = name_popped c.args.self.now.by_name c.go_back.new.places c.pop.new.self.items c.in-Some.row (λ k. c.args.self.now.named k ∙ ap (last_at (has_name k)) c.in-Some.ensures.items) c.go_back.ensures.0
          (linked_last is_named_like (λ (row : Row). row.outer_name) c.pop.new.self.items [] c.in-Some.row by_names);
      numbered = number_popped c.args.self.now.by_number c.go_back-2.new.places c.pop.new.self.items c.in-Some.row (λ k. c.args.self.now.numbered k ∙ ap (last_at (has_number k)) c.in-Some.ensures.items) c.go_back-2.ensures.0
          (linked_last is_numbered_like (λ (row : Row). row.outer_number) c.pop.new.self.items [] c.in-Some.row by_numbers);
      names_linked = linked_front is_named_like (λ (row : Row). row.outer_name) c.pop.new.self.items c.in-Some.row by_names;
      numbers_linked = linked_front is_numbered_like (λ (row : Row). row.outer_number) c.pop.new.self.items c.in-Some.row by_numbers;
    }
