-- A job whose parse has a tree.
use Rattle.std.proofs.Common.{◌≡◌, List, sym, ap, ◌∙◌, subst}
use Rattle.flow_values.specs.declared.span.Span.{Span}
use Rattle.js_tree.specs.declared.items.Module as js
use Rattle.source_front.specs.declared.parse.Parse.{Parse}
use Rattle.source_front.specs.declared.parse.ParseTree.{ParseTree}
use Rattle.source_front.specs.declared.parse.ParseTree.TheVariants as tree
use Rattle.check_job.specs.declared.job.CheckJob.{CheckJob}
use Rattle.check_job.specs.Jobs.{source_in, source_of, IsWhole}

pub is_whole : (p : Parse) (job : CheckJob) (m : js.Module) (spans : List Span) → p ≡ job.parse → p.tree ≡ tree.Tree m spans → IsWhole (source_of job)
is_whole p job m spans same is = subst (λ (t : ParseTree). IsWhole (source_in t)) (sym is ∙ ap (λ (q : Parse). q.tree) same) tt
