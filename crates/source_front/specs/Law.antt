-- A source says one thing by itself.
use Rattle.std.specs.Prelude.{◌≡◌, List}
use Rattle.flow_values.specs.declared.span.Span.{Span}
use Rattle.check_values.specs.Rows.{Bytes}
use Rattle.js_grammar.specs.Items.{Module}
use Rattle.js_tree.specs.View.{module_view}
use Rattle.source_front.specs.declared.parse.SourceFault.{SourceFault}
use Rattle.source_front.specs.declared.parse.ParseTree.{ParseTree}
use Rattle.source_front.specs.declared.parse.ParseTree.TheVariants.{Tree, Broken}
use Rattle.source_front.specs.declared.parse.Parse.{Parse}
use Rattle.source_front.specs.Front.{IsParse}

-- what a tree of the code stands for
pub data Seen : Type 0 where
  whole : Module → List Span → Seen
  broken : SourceFault → Seen

abbrev pub seen : ParseTree → Seen
seen (Tree m spans) = whole (module_view m) spans
seen (Broken f) = broken f

-- they say the same
abbrev pub Same : Parse → Parse → Type 0
Same a b = (seen a.tree ≡ seen b.tree) × (a.sig ≡ b.sig) × (a.faults ≡ b.faults)

abbrev pub OneParse : Type 0
OneParse = (text : Bytes) (a b : Parse) → IsParse text a → IsParse text b → Same a b
