use Rattle.std.proofs.Common.{arith}
use Rattle.scopes.specs.Rows.{has_name}
use Rattle.scopes.proofs.Stacks.{last_within}
use Rattle.scopes.proofs.Meanings.{finds_none, finds_row}
use Rattle.scopes.proofs.scope.Scope.find.Goals as goal

pub index-requires : goal.index-requires
index-requires c = omega (arith, last_within (has_name c.args.name.now) c.args.self.now.rows.items c.in-Some.at c.in-Some.ensures, c.args.self.now.rows.ok.0)

pub returns-in-Some : goal.returns-in-Some
returns-in-Some c =
    finds_row c.args.self.now.rows.items c.args.name.now c.in-Some.at c.index.result.now c.in-Some.ensures (last_within (has_name c.args.name.now) c.args.self.now.rows.items c.in-Some.at c.in-Some.ensures) c.index.ensures

pub returns-in-None : goal.returns-in-None
returns-in-None c = finds_none c.args.self.now.rows.items c.args.name.now c.in-None.ensures
