use Rattle.std.proofs.Common.{◌++◌, ◌∷◌, [], List, take, sym, ap, ◌∙◌, append-nil, arith}
use Rattle.std.proofs.lemmas.List.{take_all}
use Rattle.code_changes.specs.declared.change.Change.{Change}
use Rattle.code_changes.proofs.OwnNames.{taken}
use Rattle.code_changes.proofs.Lists.{both}
use Rattle.code_plans.proofs.distinct.add_all.Goals as goal

pub loop-i-init : goal.loop-i-init
loop-i-init c = sym (append-nil c.args.out.now)

pub loop-i-preserved : goal.loop-i-preserved
loop-i-preserved c =
    both c.args.out.now c.loop-i.out c.push.new.self (take c.loop-i.i c.args.changes.now) (c.index-changes-i.result ∷ []) c.loop-i.invariant (c.in_ok-push.ensures.ok ∙ ap (λ (x : Change). c.loop-i.out ++ x ∷ []) c.in_ok-copy_of.ensures)
    ∙ ap (λ (l : List Change). c.args.out.now ++ l) (sym (taken c.args.changes.now c.loop-i.i c.index-changes-i.result (omega arith) c.index-changes-i.is))

pub returns : goal.returns
returns c = c.loop-i.invariant ∙ ap (λ (l : List Change). c.args.out.now ++ l) (take_all c.loop-i.i c.args.changes.now (omega arith))
