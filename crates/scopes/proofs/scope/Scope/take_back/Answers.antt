use Rattle.std.proofs.Common.{sym, ◌∙◌}
use Rattle.scopes.proofs.Kept.{names_stay, numbers_stay, name_links_stay, number_links_stay}
use Rattle.scopes.proofs.scope.Scope.take_back.Goals as goal

pub invariant_of-self-2 : goal.invariant_of-self-2
invariant_of-self-2 c = record {
  named = λ name. c.args.self.now.named name ∙ sym (names_stay c.args.self.now.rows.items c.exchange.new.rows.items c.in-Some.earlier.at c.in-Some.earlier.is_read c.in-Some.earlier.declared c.exchange.ensures.rows name);
  numbered = λ number. c.args.self.now.numbered number ∙ sym (numbers_stay c.args.self.now.rows.items c.exchange.new.rows.items c.in-Some.earlier.at c.in-Some.earlier.is_read c.in-Some.earlier.declared c.exchange.ensures.rows number);
  names_linked = name_links_stay c.args.self.now.rows.items c.exchange.new.rows.items c.in-Some.earlier.at c.in-Some.earlier.is_read c.in-Some.earlier.declared c.exchange.ensures.rows c.args.self.now.names_linked;
  numbers_linked = number_links_stay c.args.self.now.rows.items c.exchange.new.rows.items c.in-Some.earlier.at c.in-Some.earlier.is_read c.in-Some.earlier.declared c.exchange.ensures.rows c.args.self.now.numbers_linked;
}
