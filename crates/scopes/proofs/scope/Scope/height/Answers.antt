use Rattle.std.proofs.Common.{ap, ◌∙◌, arith}
use Rattle.std.proofs.lemmas.List.{drop_all}
use Rattle.scopes.specs.Rows.{names_view}
use Rattle.scopes.proofs.Named.{view_none}
use Rattle.scopes.proofs.scope.Scope.height.Goals as goal

pub returns-clause-since : goal.returns-clause-since
returns-clause-since c = ap names_view (drop_all c.len.result c.args.self.now.rows.items (omega (arith, c.len.ensures, c.args.self.now.rows.ok.0))) ∙ view_none
