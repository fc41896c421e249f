use Rattle.std.proofs.Common.{rules, sym}
use Rattle.std.proofs.lemmas.Grind.{common_steps}
use Rattle.std.proofs.Common.{arith}
use Rattle.script_reader.proofs.Windows.{met_at, unmet}
use Rattle.script_reader.proofs.window.Window.take_part.Goals as goal

pub returns-in_ok-extend_from_slice-in-Some-clause-part : goal.returns-in_ok-extend_from_slice-in-Some-clause-part
returns-in_ok-extend_from_slice-in-Some-clause-part c = met_at c.self.inside.bytes.items c.self.inside.start c.self.inside.end c.in-Some.at _ _ _ (sym c.self.view_is) (search rules) (grind (arith, common_steps))

pub returns-in_ok-extend_from_slice-in-None-clause-part : goal.returns-in_ok-extend_from_slice-in-None-clause-part
returns-in_ok-extend_from_slice-in-None-clause-part c = unmet c.self.inside.bytes.items c.self.inside.end _ _ _ (search rules) (grind (arith, common_steps))
