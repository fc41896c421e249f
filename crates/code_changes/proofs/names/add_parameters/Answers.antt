use Rattle.std.proofs.Common.{◌++◌, ◌∷◌, [], List, ℕ, ap, sym, ◌∙◌, arith}
use Rattle.code_tree.specs.declared.types.Parameter.{Parameter}
use Rattle.code_changes.proofs.Parts.{parameters_begun, parameters_turned, parameters_ended}
use Rattle.code_changes.proofs.names.add_parameters.Goals as goal

pub loop-i-init : goal.loop-i-init
loop-i-init c = parameters_begun c.args.parameters.now c.args.own.now

pub loop-i-preserved : goal.loop-i-preserved
loop-i-preserved c =
    parameters_turned c.args.parameters.now c.loop-i.i c.index-parameters-i.result c.args.own.now c.loop-i.own c.push.new.self (omega arith) c.index-parameters-i.is c.loop-i.invariant
    (c.in_ok-push.ensures.ok ∙ ap (λ (name : List ℕ). c.loop-i.own ++ name ∷ []) (c.in_ok-share.ensures ∙ ap (λ (p : Parameter). p.name) (sym c.index-parameters-i.is)))

pub returns : goal.returns
returns c = parameters_ended c.args.parameters.now c.loop-i.i c.args.own.now c.loop-i.own (omega arith) c.loop-i.invariant
