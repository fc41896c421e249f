use Rattle.std.proofs.Common.{List, sym, subst}
use Rattle.std.specs.List.{AllByRecursion}
use Rattle.flow_base.specs.Program.{IsRising}
use Rattle.check_values.specs.Roots.{paths_of_rows}
use Rattle.check_values.specs.declared.root.RootRow.{RootRow}
use Rattle.heap_answers.specs.States.{HasPlace}
use Rattle.request_core.proofs.Making.{job_made_instead}
use Rattle.request_core.proofs.jobs.job_instead.Goals as goal

pub reached_table-requires-clause-rising : goal.reached_table-requires-clause-rising
reached_table-requires-clause-rising g c = subst (λ (ms : List RootRow). IsRising (paths_of_rows ms)) (sym c.as_slice.ensures) c.requires.rising

pub reached_table-requires-clause-placed : goal.reached_table-requires-clause-placed
reached_table-requires-clause-placed g c = subst (λ (ms : List RootRow). AllByRecursion (HasPlace (g.R.HeapReader.state c.args.reader.now)) ms) (sym c.as_slice.ensures) c.requires.placed

pub returns-clause-job : goal.returns-clause-job
returns-clause-job g c =
    job_made_instead (g.R.HeapReader.state c.args.reader.now) c.args.root.now.modules c.as_slice.result.now c.args.path.now c.args.text.now _ c.args.parse c.in_ok-deps.deps c.as_slice.ensures c.in_ok-share.ensures c.in_ok-new.ensures c.in_ok-new-2.ensures c.requires.parse
    c.in_ok-deps.ensures c.in_ok-sigs.ensures.agree
