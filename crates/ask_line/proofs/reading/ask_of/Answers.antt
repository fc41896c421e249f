use Rattle.std.proofs.Common.{rules}
use Rattle.serde_json.specs.View.{view}
use Rattle.ask_line.specs.declared.kinds.Kind.TheVariants.{CheckContents, TypeAtPos, FindModule}
use Rattle.ask_line.proofs.Words.{none_of_kind}
use Rattle.ask_line.proofs.reading.ask_of.Goals as goal

pub returns-in-CheckContents-clause-none : goal.returns-in-CheckContents-clause-none
returns-in-CheckContents-clause-none c = none_of_kind c.args.kind CheckContents (view c.args.value.now) c.check_contents_of.result (search rules) c.check_contents_of.ensures.none

pub returns-in-TypeAtPos-clause-none : goal.returns-in-TypeAtPos-clause-none
returns-in-TypeAtPos-clause-none c = none_of_kind c.args.kind TypeAtPos (view c.args.value.now) c.type_at_pos_of.result (search rules) c.type_at_pos_of.ensures.none

pub returns-in-FindModule-clause-none : goal.returns-in-FindModule-clause-none
returns-in-FindModule-clause-none c = none_of_kind c.args.kind FindModule (view c.args.value.now) c.find_module_of.result (search rules) c.find_module_of.ensures.none
