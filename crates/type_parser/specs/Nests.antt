-- What the reader keeps of the nesting.
use Rattle.std.specs.Prelude.{Bool, List, [], ◌∷◌}
use Rattle.js_grammar.specs.Nesting.{Opened, Nest, nested}
use Rattle.type_parser.specs.declared.nesting.Nesting.{Nesting}

-- the last is the top
abbrev pub piled : Opened → List Bool → Opened
piled o [] = o
piled o (b ∷ bs) = piled (b ∷ o) bs

-- what is open, where the reader keeps the innermost last
unfoldable pub opened_view : List Bool → Opened
opened_view bs = piled [] bs

-- the nesting that the reader keeps
abbrev pub nest_view : Nesting → Nest
nest_view n = nested (opened_view n.opened.items) n.after_brace
