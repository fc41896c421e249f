use Rattle.std.proofs.Common.{◌≡◌, ℕ, List, [], ◌∷◌, ◌++◌, length, refl, ap, sym, ◌∙◌, subst, arith}
use Rattle.scopes.specs.Stack.{last_at, AreLinked}
use Rattle.scopes.specs.Rows.{has_name, has_number, is_named_like, is_numbered_like}
use Rattle.scopes.specs.declared.row.Row.{Row}
use Rattle.scopes.proofs.Stacks.{linked_more}
use Rattle.scopes.proofs.Named.{bound_scope, bound_since}
use Rattle.scopes.proofs.Kept.{name_bound, number_bound, name_put_back, numbers_unchanged}
use Rattle.scopes.proofs.scope.Scope.bind.Goals as goal

pub invariant_of-self-in_default : goal.invariant_of-self-in_default
invariant_of-self-in_default c = record {
  named = λ k. name_put_back c.args.self.now.by_name c.insert.new.self c.go_back.new.places c.in_ok-share.field-0 c.args.binding.name c.len-at.result c.in_ok-outer_name.outer_name c.in_ok-share.ensures
      c.in_ok-outer_name.ensures.updates.0 c.in_ok-outer_name.ensures.old c.go_back.ensures.0 k ∙ c.args.self.now.named k ∙ ap (last_at (has_name k)) (sym c.reserve.ensures.items);
  numbered = λ k. numbers_unchanged c.args.self.now.by_number c.insert-2.new.self c.in_default.ensures.err k ∙ c.args.self.now.numbered k ∙ ap (last_at (has_number k)) (sym c.reserve.ensures.items);
  names_linked = subst (AreLinked is_named_like (λ (row : Row). row.outer_name)) (sym c.reserve.ensures.items) c.args.self.now.names_linked;
  numbers_linked = subst (AreLinked is_numbered_like (λ (row : Row). row.outer_number)) (sym c.reserve.ensures.items) c.args.self.now.numbers_linked;
}

pub invariant_of-self-2 : goal.invariant_of-self-2
invariant_of-self-2 c =
    let row : Row = record { binding = c.args.binding; outer_name = c.in_ok-outer_name.outer_name; outer_number = c.in-Ok.outer_number } in
    let grown : c.push_reserved.new.self.items ≡ c.args.self.now.rows.items ++ row ∷ [] = c.push_reserved.ensures.items ∙ ap (λ (l : List Row). l ++ row ∷ []) c.reserve.ensures.items in
    let place : c.len-at.result ≡ length c.args.self.now.rows.items = omega (arith, c.len-at.ensures, c.args.self.now.rows.ok.0) in
    record {
      named = λ k. name_bound c.args.self.now.by_name c.insert.new.self c.args.self.now.rows.items row c.in_ok-share.field-0 c.len-at.result c.args.self.now.named c.in_ok-outer_name.ensures.updates.0 place c.in_ok-share.ensures k
          ∙ ap (last_at (has_name k)) (sym grown);
      numbered = λ k. number_bound c.args.self.now.by_number c.insert-2.new.self c.args.self.now.rows.items row c.args.binding.number c.len-at.result c.args.self.now.numbered c.in-Ok.ensures.updates.0 place refl k ∙ ap (last_at (has_number k)) (sym grown);
      names_linked = subst (AreLinked is_named_like (λ (row : Row). row.outer_name)) (sym grown) (linked_more is_named_like (λ (row : Row). row.outer_name) c.args.self.now.rows.items row c.args.self.now.names_linked
          (c.in_ok-outer_name.ensures.old ∙ c.args.self.now.named c.in_ok-share.field-0 ∙ ap (λ (name : List ℕ). last_at (has_name name) c.args.self.now.rows.items) c.in_ok-share.ensures));
      numbers_linked = subst (AreLinked is_numbered_like (λ (row : Row). row.outer_number)) (sym grown) (linked_more is_numbered_like (λ (row : Row). row.outer_number) c.args.self.now.rows.items row c.args.self.now.numbers_linked
          (c.in-Ok.ensures.old ∙ c.args.self.now.numbered c.args.binding.number));
    }

pub returns-clause-scope : goal.returns-clause-scope
returns-clause-scope c = bound_scope c.args.self.now.depth c.args.self.now.result c.args.self.now.rows.items c.reserve.new.self.items _ _ c.push_reserved.ensures.items c.reserve.ensures.items

pub returns-clause-since : goal.returns-clause-since
returns-clause-since c = λ height is. bound_since height.rows c.args.self.now.rows.items c.reserve.new.self.items _ _ c.push_reserved.ensures.items c.reserve.ensures.items is.0
