-- One level of a tree of the code, and folds, where what is inside is already seen as a tree of the grammar. The trees stand in the
-- order of the cycle's types: enums first, then structs, each by name.
use Rattle.js_grammar.specs.Code as g

-- one level, where what is inside are trees of the grammar
abbrev pub Layer : (Type 0 → Type 0 → Type 0 → Type 0 → Type 0 → Type 0 → Type 0 → Type 0 → Type 0 → Type 0 → Type 0 → Type 0 → Type 0 → Type 0 → Type 0 → Type 0 → Type 0 → Type 0 → Type 0 → Type 0 → Type 0 → Type 0 → Type 0 → Type 0 → Type 0 → Type 0 → Type 0 → Type 0) → Type 0
Layer F = F g.ArrowBody g.Body g.Else g.ExForm g.FieldForm g.LinkForm g.OperandForm g.SimpleForm g.StmtForm g.Arm g.ExForm g.SimpleForm g.Block g.Branch g.ExForm g.ExForm g.Declaration g.Ex g.Field g.Function g.StmtForm g.Link g.Operand g.ExForm g.Simple g.Stmt g.StmtForm

-- a fold to any types, taken at the trees of the grammar
abbrev pub at_trees : {R : Type 0 → Type 0 → Type 0 → Type 0 → Type 0 → Type 0 → Type 0 → Type 0 → Type 0 → Type 0 → Type 0 → Type 0 → Type 0 → Type 0 → Type 0 → Type 0 → Type 0 → Type 0 → Type 0 → Type 0 → Type 0 → Type 0 → Type 0 → Type 0 → Type 0 → Type 0 → Type 0 → Type 0} → ((A1 A2 A3 A4 A5 A6 A7 A8 A9 A10 A11 A12 A13 A14 A15 A16 A17 A18 A19 A20 A21 A22 A23 A24 A25 A26 A27 : Type 0) → R A1 A2 A3 A4 A5 A6 A7 A8 A9 A10 A11 A12 A13 A14 A15 A16 A17 A18 A19 A20 A21 A22 A23 A24 A25 A26 A27) → Layer R
at_trees f = f g.ArrowBody g.Body g.Else g.ExForm g.FieldForm g.LinkForm g.OperandForm g.SimpleForm g.StmtForm g.Arm g.ExForm g.SimpleForm g.Block g.Branch g.ExForm g.ExForm g.Declaration g.Ex g.Field g.Function g.StmtForm g.Link g.Operand g.ExForm g.Simple g.Stmt g.StmtForm
