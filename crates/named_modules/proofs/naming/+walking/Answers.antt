use Rattle.std.proofs.Common.{◌++◌, sym, ap, ◌∙◌, arith}
use Rattle.type_values.specs.declared.types.FlowProp.{FlowProp, out-FlowProp}
use Rattle.type_values.specs.declared.types.Param.{Param, out-Param}
use Rattle.merged_signatures.specs.Reach.{paths_in}
use Rattle.named_modules.proofs.Parts.{function_added, next}
use Rattle.named_modules.proofs.naming.+walking.Goals as goal

pub add_type-returns-in_ok-add_type-in-Function : goal.add_type-returns-in_ok-add_type-in-Function
add_type-returns-in_ok-add_type-in-Function t c =
    function_added c.args.t.now c.in-Function.params c.as_slice-in-Function.result.now c.in-Function.result c.get.result.now c.args.out.now c.add_params.new.out c.add_type.new.out c.in-Function.is c.as_slice-in-Function.ensures c.get.ensures
    c.in_ok-add_params-in-Function.ensures c.in_ok-add_type-in-Function.ensures

pub add_types-loop-i-preserved : goal.add_types-loop-i-preserved
add_types-loop-i-preserved t c = next paths_in c.args.all.now c.loop-i.i c.index-all-i.result c.args.out.now c.loop-i.out c.add_type.new.out (omega arith) c.index-all-i.is c.loop-i.invariant c.in_ok-add_type.ensures

pub add_props-loop-i-preserved : goal.add_props-loop-i-preserved
add_props-loop-i-preserved t c =
    next (λ (p : FlowProp). paths_in (out-FlowProp p).ty) c.args.all.now c.loop-i.i c.index-all-i.result c.args.out.now c.loop-i.out c.add_type.new.out (omega arith) c.index-all-i.is c.loop-i.invariant
    (c.in_ok-add_type.ensures ∙ ap (λ (p : FlowProp). c.loop-i.out ++ (paths_in (out-FlowProp p).ty)) (sym c.index-all-i.is))

pub add_params-loop-i-preserved : goal.add_params-loop-i-preserved
add_params-loop-i-preserved t c =
    next (λ (p : Param). paths_in (out-Param p).ty) c.args.all.now c.loop-i.i c.index-all-i.result c.args.out.now c.loop-i.out c.add_type.new.out (omega arith) c.index-all-i.is c.loop-i.invariant
    (c.in_ok-add_type.ensures ∙ ap (λ (p : Param). c.loop-i.out ++ (paths_in (out-Param p).ty)) (sym c.index-all-i.is))
