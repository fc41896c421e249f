use Rattle.std.proofs.Common.{true, Some, List, ◌∷◌, ◌++◌, [], ap, sym, ◌∙◌}
use Rattle.scopes.specs.declared.row.Earlier.{Earlier}
use Rattle.scopes.proofs.Heights.{keeps_same, keeps_declared}
use Rattle.scopes.proofs.Kept.{names_stay, numbers_stay, name_links_stay, number_links_stay}
use Rattle.scopes.proofs.scope.Scope.declare_at.Goals as goal

pub invariant_of-self-in_default : goal.invariant_of-self-in_default
invariant_of-self-in_default c = record {
  named = λ name. c.args.self.now.named name ∙ sym (names_stay c.args.self.now.rows.items c.exchange.new.rows.items c.args.at true (Some c.args.ty) c.exchange.ensures.rows name);
  numbered = λ number. c.args.self.now.numbered number ∙ sym (numbers_stay c.args.self.now.rows.items c.exchange.new.rows.items c.args.at true (Some c.args.ty) c.exchange.ensures.rows number);
  names_linked = name_links_stay c.args.self.now.rows.items c.exchange.new.rows.items c.args.at true (Some c.args.ty) c.exchange.ensures.rows c.args.self.now.names_linked;
  numbers_linked = number_links_stay c.args.self.now.rows.items c.exchange.new.rows.items c.args.at true (Some c.args.ty) c.exchange.ensures.rows c.args.self.now.numbers_linked;
}

pub returns-in_default-clause-heights : goal.returns-in_default-clause-heights
returns-in_default-clause-heights c = keeps_same c.args.self.now.rows.items c.exchange.new.rows.items c.args.self.now.changes.items c.reserve.new.self.items c.in_default.ensures.none c.reserve.ensures.items

pub invariant_of-self-2 : goal.invariant_of-self-2
invariant_of-self-2 c = record {
  named = λ name. c.args.self.now.named name ∙ sym (names_stay c.args.self.now.rows.items c.exchange.new.rows.items c.args.at true (Some c.args.ty) c.exchange.ensures.rows name);
  numbered = λ number. c.args.self.now.numbered number ∙ sym (numbers_stay c.args.self.now.rows.items c.exchange.new.rows.items c.args.at true (Some c.args.ty) c.exchange.ensures.rows number);
  names_linked = name_links_stay c.args.self.now.rows.items c.exchange.new.rows.items c.args.at true (Some c.args.ty) c.exchange.ensures.rows c.args.self.now.names_linked;
  numbers_linked = number_links_stay c.args.self.now.rows.items c.exchange.new.rows.items c.args.at true (Some c.args.ty) c.exchange.ensures.rows c.args.self.now.numbers_linked;
}

pub returns-clause-heights : goal.returns-clause-heights
returns-clause-heights c =
    let (x, there, noted) = c.in-Some.ensures.before in
    keeps_declared c.args.self.now.rows.items c.exchange.new.rows.items c.args.self.now.changes.items c.push_reserved.new.self.items c.args.at (Some c.args.ty) x c.in-Some.earlier there noted c.exchange.ensures.rows
    (c.push_reserved.ensures.items ∙ ap (λ (l : List Earlier). l ++ c.in-Some.earlier ∷ []) c.reserve.ensures.items)
