use Rattle.std.proofs.Common.{◌≡◌, ◌++◌, List, map, ap, ◌∙◌}
use Rattle.std.proofs.lemmas.Result.{IfOk-weaker}
use Rattle.check_values.specs.FaultOrder.{faults_in_order}
use Rattle.check_values.specs.declared.codes.Code.{Code}
use Rattle.check_values.specs.declared.faults.Fault.{Fault}
use Rattle.fault_sets.specs.Keys.{Key, entry_fault, put_before}
use Rattle.fault_sets.proofs.Entries.{both_in_order}
use Rattle.fault_sets.proofs.in_order.Goals as goal

pub returns : goal.returns
returns c =
    IfOk-weaker c.listed.result (λ (all : List Fault). all ≡ map entry_fault c.add_all-2.new.keyed.entries) (λ (all : List Fault). all ≡ faults_in_order (c.args.first.now ++ c.args.more.now))
    (λ all listed.
    both_in_order c.args.first.now c.args.more.now (map entry_fault c.add_all.new.keyed.entries) (map entry_fault c.add_all-2.new.keyed.entries) all
    (c.in_ok-add_all.ensures.faults ∙ ap (λ (es : List (Key × Code)). put_before c.args.more.now (map entry_fault es)) c.new-keyed.ensures.empty) c.in_ok-add_all-2.ensures.faults listed)
    c.listed.ensures
