-- What the answer of `read_module` says.
use Rattle.std.specs.Prelude.{Result, Ok, Err}
use Rattle.js_grammar.specs.TypeSpelling.{Tokens}
use Rattle.js_tree.specs.View.{module_view}
use Rattle.js_tree.specs.declared.items.Module.{Module}
use Rattle.type_parser.specs.declared.read.ParseFault.{ParseFault}
use Rattle.type_parser.specs.declared.read.ParseFault.TheVariants.{At, NoMemory}
use Rattle.module_law.specs.Answer.{whole, fault, Answers}

abbrev pub Reads : Tokens → Result Module ParseFault → Type 0
Reads l (Ok m) = Answers l (whole (module_view m))
Reads l (Err (At k)) = Answers l (fault k)
Reads l (Err NoMemory) = Unit {0}
