use Rattle.std.proofs.Common.{◌-◌, arith}
use Rattle.std.proofs.lemmas.List.{get_or_default}
use Rattle.code_tree.specs.declared.types.Prefix.TheVariants as prefix
use Rattle.expression_moves.proofs.Prefixing.{marks_one}
use Rattle.expression_moves.proofs.places.read_prefixes.Goals as goal

pub loop-i-preserved : goal.loop-i-preserved
loop-i-preserved c =
    marks_one _ _ _ _ _ _ c.loop-i.i (c.loop-i.i - 1) c.loop-i.from _ c.loop-i.read c.in_ok-read.read c.in_ok-read-2.read c.loop-i.state c.read_prefix.new.state c.noted.new.self c.loop-i.invariant (omega arith)
    (get_or_default c.args.marks.now (c.loop-i.i - 1) (record { at = 0; prefix = prefix.Not }) _ (omega arith))
    c.in_ok-read.ensures.told c.in_ok-read.ensures.around c.in_ok-read.ensures.follows c.in_ok-read-2.ensures.told c.in_ok-read-2.ensures.around c.in_ok-read-2.ensures.follows
